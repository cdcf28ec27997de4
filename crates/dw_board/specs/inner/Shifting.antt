-- How the word of a set of squares takes a step.
use Rattle.std.specs.Prelude.{ℕ, ◌+◌, ◌*◌, ◌/◌, ◌%◌, ◌^◌}
use Rattle.dw_board.specs.declared.board.Dir.{Dir}
use Rattle.dw_board.specs.declared.board.Dir.TheVariants.{UpLeft, UpRight, DownLeft, DownRight}
use Rattle.dw_board.specs.Geometry.{Geometry}

-- a padded word of 64 bits, shifted by one step
abbrev pub shifted_word : Geometry → Dir → ℕ → ℕ
shifted_word g UpLeft w = w / 2 ^ (g.per_row + 1)
shifted_word g UpRight w = w / 2 ^ g.per_row
shifted_word g DownLeft w = w * 2 ^ g.per_row % 2 ^ 64
shifted_word g DownRight w = w * 2 ^ (g.per_row + 1) % 2 ^ 64
