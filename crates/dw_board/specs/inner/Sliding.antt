-- How the word of a set of squares slides: in four doublings, by 1, 2, 4 and 8 steps.
use Rattle.std.specs.Prelude.{ℕ, ◌+◌, ◌*◌, ◌/◌, ◌%◌, ◌^◌, Bool}
use Rattle.std.proofs.Common.{cond, bit_and, bit_or}
use Rattle.dw_board.specs.declared.board.Dir.{Dir}
use Rattle.dw_board.specs.declared.board.Dir.TheVariants.{UpLeft, UpRight, DownLeft, DownRight}
use Rattle.dw_board.specs.Geometry.{Geometry, is_down}

-- by how many bits a step moves the bit of a square
abbrev pub stride : Geometry → Dir → ℕ
stride g UpLeft = g.per_row + 1
stride g UpRight = g.per_row
stride g DownLeft = g.per_row
stride g DownRight = g.per_row + 1

-- a word of 64 bits, each bit moved by so many places
abbrev pub moved_word : Bool → ℕ → ℕ → ℕ
moved_word down by w = cond down (w * 2 ^ by % 2 ^ 64) (w / 2 ^ by)

-- the squares reached, and those one shift further over clear squares
abbrev pub further : Bool → ℕ → ℕ → ℕ → ℕ
further down by reached clear = bit_or reached (bit_and clear (moved_word down by reached))

-- the squares that are clear together with as many squares before them
abbrev pub clearer : Bool → ℕ → ℕ → ℕ
clearer down by clear = bit_and clear (moved_word down by clear)

-- the squares that a slide of at most seven steps over free squares reaches
abbrev pub near_word : Geometry → Dir → ℕ → ℕ → ℕ
near_word g d word free =
    let down = is_down d in
    let by = stride g d in
    let two = clearer down by free in
    let four = clearer down (2 * by) two in
    further down (4 * by) (further down (2 * by) (further down by word free) two) four

-- the squares that a slide of at most fifteen steps over free squares reaches
abbrev pub slid_word : Geometry → Dir → ℕ → ℕ → ℕ
slid_word g d word free =
    let down = is_down d in
    let by = stride g d in
    let eight = clearer down (4 * by) (clearer down (2 * by) (clearer down by free)) in
    further down (8 * by) (near_word g d word free) eight
