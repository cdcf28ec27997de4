-- The sets of the squares on which pieces stand: what a piece that comes or goes does to them.
use Rattle.std.proofs.Common.{◌≡◌, ◌∙◌, ℕ, suc, zero, ◌+◌, ◌-◌, ◌≤◌, ◌<◌, ◌≢◌, Bool, true, false, cond, ◌&&◌, ◌||◌, eqb}
use Rattle.std.proofs.Common.{leb, List, Option, Some, None, length, get_or, set as put_at, take, replicate, count_by}
use Rattle.std.proofs.Common.{refl, sym, ap, subst, arith, get_or-set_other, get_or-set_same, inl, inr}
use Rattle.std.specs.Ordering.{nat_cmp}
use Rattle.std.specs.FinSet as set
use Rattle.std.specs.Cmp.{nat_cmp_total}
use Rattle.std.proofs.Math.Seq.{take-length}
use Rattle.std.proofs.lemmas.Bool.{cases_Bool, cases_eq, cases_lt, and_from, and_parts, le-leb, lt-leb, eq-eqb}
use Rattle.std.proofs.lemmas.Bool.{eqb-true, ne_eqb, true≢false}
use Rattle.std.proofs.lemmas.List.{ext_get_or}
use Rattle.std.proofs.lemmas.List.FromFn.{length-map-range_with_len, get_or-map-range_with_len}
use Rattle.std.proofs.lemmas.List.Sums.{count_by_more_yes, count_by_more_no}
use Rattle.dw_board.specs.declared.piece.Side.{Side}
use Rattle.dw_board.specs.declared.piece.Side.TheVariants.{White, Black}
use Rattle.dw_board.specs.declared.piece.Kind.{Kind}
use Rattle.dw_board.specs.declared.piece.Kind.TheVariants.{Man, King}
use Rattle.dw_board.specs.declared.piece.Piece.{Piece}
use Rattle.dw_board.specs.declared.held.Held.{Held}
use Rattle.dw_board.specs.Geometry.{Geometry, IsBoard, OnBoard, Squares}
use Rattle.dw_board.specs.inner.SquareSetLemmas.{contains-insert, and-false}
use Rattle.dw_board.specs.Placement.{Placement, IsPosition, is_of, is_stuck, same_side, side_code}
use Rattle.dw_board.specs.inner.PlacementLemmas.{same, same-is, side_back}
use Rattle.dw_board.specs.PieceSets.{same_kind, is_that, standing_below, standing, set_of, held_at, cells_of, IsKept}
use Rattle.dw_board.specs.inner.Held.{entered}
use Rattle.dw_board.specs.inner.PieceSetLemmas.{contains-below, contains-standing, same_sets, same_sets-is}
use Rattle.dw_board.proofs.SetLemmas.{contains-remove, past_range, same_tests}
use Rattle.dw_board.proofs.CountingLemmas.{len_more}
use Rattle.dw_board.proofs.PlacedLemmas.{empty_cell, IsPosition-empty, IsPosition-put, IsPosition-clear}

abbrev Cells : Type 0
Cells = List (Option Piece)

-- ---- a cell that changes
in_fifty : (s : ℕ) → 1 ≤ s → s ≤ 50 → (leb 1 s && leb s 50) ≡ true
in_fifty s low high = and_from _ _ (le-leb _ _ low) (le-leb _ _ high)

other_cell : (cells : Cells) (s : ℕ) (o : Option Piece) (side : Side) (k : Kind) (q : ℕ) → 1 ≤ s → q ≢ s
    → ((leb 1 q && leb q 50) && is_that side k (get_or (put_at cells (s - 1) o) (q - 1) None))
    ≡ ((leb 1 q && leb q 50) && is_that side k (get_or cells (q - 1) None))
other_cell cells s o side k q low ne = elim (cases_lt 0 q) [
  | inl some ↦ let ne2 : q - 1 ≢ s - 1 = (λ e. ne (omega arith)) in ap (λ x. (leb 1 q && leb q 50) && is_that side k x)
      (get_or-set_other cells (s - 1) (q - 1) o None ne2)
  | inr none ↦ let h : leb 1 q ≡ false = lt-leb _ _ (omega arith) in rw h refl
]

-- a set is that of the changed cells where only the one square may differ
standing-changed : (cells : Cells) (s : ℕ) (o : Option Piece) (side : Side) (k : Kind) (v : Squares) → length cells ≡ 50
    → 1 ≤ s → s ≤ 50
    → ((q : ℕ) → q ≢ s → set.contains v q ≡ set.contains (standing cells side k) q) → set.contains v s
    ≡ is_that side k o
    → standing (put_at cells (s - 1) o) side k ≡ v
standing-changed cells s o side k v len low high others here =
    set.same_set nat_cmp_total set.nat_cmp-IsAntisymmetric _ _ (λ q. contains-standing (put_at cells (s - 1) o) side k q
    ∙ (elim (cases_eq q s) [
      | inl e ↦ let in_range : s - 1 < length cells = omega arith in
          rw (e, in_fifty s low high, get_or-set_same cells (s - 1) o None in_range) (sym here)
      | inr ne ↦ other_cell cells s o side k q low ne ∙ (sym (contains-standing cells side k q) ∙ sym (others q ne))
    ]))

-- ---- a piece comes
contains-free : (cells : Cells) (s : ℕ) (side : Side) (k : Kind) → get_or cells (s - 1) None ≡ None
    → set.contains (standing cells side k) s ≡ false
contains-free cells s side k free = contains-standing cells side k s
    ∙ (ap (λ o. (leb 1 s && leb s 50) && is_that side k o) free ∙ and-false _)

entered-other : (b : Bool) (v : Squares) (s q : ℕ) → q ≢ s → set.contains (cond b (set.insert v s) v) q
    ≡ set.contains v q
entered-other true v s q ne = contains-insert v s q ∙ rw (ne_eqb q s ne) refl
entered-other false v s q ne = refl

entered-here : (b : Bool) (v : Squares) (s : ℕ) → set.contains v s ≡ false → set.contains (cond b (set.insert v s) v) s
    ≡ b
entered-here true v s free = contains-insert v s s ∙ rw (eq-eqb s s refl) refl
entered-here false v s free = free

pub standing-entered : (cells : Cells) (s : ℕ) (p : Piece) (side : Side) (k : Kind) → length cells ≡ 50 → 1 ≤ s → s ≤ 50
    → get_or cells (s - 1) None ≡ None
    → standing (put_at cells (s - 1) (Some p)) side k ≡ entered side k (standing cells side k) s p
standing-entered cells s p side k len low high free =
    standing-changed cells s (Some p) side k _ len low high
    (entered-other (is_that side k (Some p)) (standing cells side k) s)
    (entered-here (is_that side k (Some p)) (standing cells side k) s (contains-free cells s side k free))

-- ---- a square is emptied
pub standing-left : (cells : Cells) (s : ℕ) (side : Side) (k : Kind) → length cells ≡ 50 → 1 ≤ s → s ≤ 50
    → standing (put_at cells (s - 1) None) side k ≡ set.remove (standing cells side k) s
standing-left cells s side k len low high =
    standing-changed cells s None side k _ len low high
    (λ q ne. contains-remove (standing cells side k) s q ∙ rw (ne_eqb q s ne) refl)
    (contains-remove (standing cells side k) s s ∙ rw (eq-eqb s s refl) refl)

-- ---- no piece
pub standing-empty : (side : Side) (k : Kind) → standing (replicate 50 None) side k ≡ set.empty
standing-empty side k = set.same_set nat_cmp_total set.nat_cmp-IsAntisymmetric _ _ (λ q.
    contains-standing (replicate 50 None) side k q
    ∙ (ap (λ o. (leb 1 q && leb q 50) && is_that side k o) (empty_cell 50 (q - 1))
    ∙ (and-false _ ∙ sym (set.contains-empty nat_cmp q))))

-- ---- a side's pieces are its men and its kings
either_kind : (b : Bool) (k : Kind) → cond b 1 0 ≡ cond (b && same_kind k Man) 1 0 + cond (b && same_kind k King) 1 0
either_kind true Man = refl
either_kind true King = refl
either_kind false Man = refl
either_kind false King = refl

man_or_king : (side : Side) (o : Option Piece) → cond (is_of side o) 1 0
    ≡ cond (is_that side Man o) 1 0 + cond (is_that side King o) 1 0
man_or_king side None = refl
man_or_king side (Some p) = either_kind (same_side p.side side) p.kind

count_more : (side : Side) (cells : Cells) (n : ℕ) → n < length cells
    → count_by (is_of side) (take (n + 1) cells) ≡ count_by (is_of side) (take n cells) + cond
    (is_of side (get_or cells n None)) 1 0
count_more side cells n low = elim (cases_Bool (is_of side (get_or cells n None))) [
  | inl e ↦ rw e (count_by_more_yes (is_of side) cells n None low e)
  | inr e ↦ rw e (let h = count_by_more_no (is_of side) cells n None low e in omega arith)
]

len-below_more : (cells : Cells) (side : Side) (k : Kind) (n : ℕ)
    → set.len (standing_below cells side k (suc n)) ≡ cond (is_that side k (get_or cells n None)) 1 0 + set.len
    (standing_below cells side k n)
unfolding standing_below
len-below_more cells side k n = len_more (standing_below cells side k n) (is_that side k (get_or cells n None)) (suc n)
    (contains-below cells side k n (suc n) ∙ ap (λ b. b && is_that side k (get_or cells (suc n - 1) None))
    (past_range n))

len-below_none : (cells : Cells) (side : Side) (k : Kind) → set.len (standing_below cells side k zero) ≡ 0
unfolding standing_below
len-below_none cells side k = set.len-empty nat_cmp

count-below : (cells : Cells) (side : Side) (n : ℕ) → n ≤ length cells
    → count_by (is_of side) (take n cells) ≡ set.len (standing_below cells side Man n) + set.len
    (standing_below cells side King n)
count-below cells side zero low = let a = len-below_none cells side Man in let b = len-below_none cells side King in
    omega arith
count-below cells side (suc n) low =
    let more = ap (λ m. count_by (is_of side) (take m cells)) (let e : suc n ≡ n + 1 = omega arith in e)
    ∙ count_more side cells n (omega arith) in
    let before = count-below cells side n (omega arith) in
    let men = len-below_more cells side Man n in
    let kings = len-below_more cells side King n in
    let either = man_or_king side (get_or cells n None) in
    omega arith

count-standing : (cells : Cells) (side : Side) → length cells ≡ 50 → count_by (is_of side) cells
    ≡ set.len (standing cells side Man) + set.len (standing cells side King)
unfolding standing
count-standing cells side len = ap (count_by (is_of side)) (sym (ap (λ n. take n cells) (sym len) ∙ take-length cells))
    ∙ count-below cells side 50 (omega arith)

pub count-kept : (g : Geometry) (cells : Cells) (sets : Side → Kind → Squares) → IsKept g cells sets
    → (side : Side) (m k : ℕ)
    → m ≡ set.len (sets side Man) → k ≡ set.len (sets side King) → m + k ≡ count_by (is_of side) cells
count-kept g cells sets is side m k men kings =
    let a = men ∙ ap set.len (sym (is.standing_is side Man)) in
    let b = kings ∙ ap set.len (sym (is.standing_is side King)) in
    let all = count-standing cells side is.position.fifty in
    omega arith

pub count-fits : (g : Geometry) (cells : Cells) → IsPosition g cells → (side : Side) → count_by (is_of side) cells
    ≤ g.side
count-fits g cells pos White = pos.white_fits
count-fits g cells pos Black = pos.black_fits

-- ---- the cells that the sets tell of
abbrev told : Bool → Bool → Bool → Bool → Option Piece
told white_man black_man white_king black_king =
    cond white_man (Some (record { side = White; kind = Man }))
    (cond black_man (Some (record { side = Black; kind = Man }))
    (cond white_king (Some (record { side = White; kind = King }))
    (cond black_king (Some (record { side = Black; kind = King })) None)))

piece_again : (side : Side) (k : Kind)
    → (let o : Option Piece = Some (record { side = side; kind = k }) in told (is_that White Man o)
    (is_that Black Man o) (is_that White King o) (is_that Black King o) ≡ o)
piece_again White Man = refl
piece_again White King = refl
piece_again Black Man = refl
piece_again Black King = refl

cell_again : (sets : Side → Kind → Squares) (s : ℕ) (o : Option Piece)
    → ((side : Side) (k : Kind) → set.contains (sets side k) s ≡ is_that side k o) → held_at sets s ≡ o
cell_again sets s None is = rw (is White Man, is Black Man, is White King, is Black King) refl
cell_again sets s (Some p) is = rw (is White Man, is Black Man, is White King, is Black King)
    (piece_again p.side p.kind)

pub cells_again : (g : Geometry) (cells : Cells) (sets : Side → Kind → Squares) → IsKept g cells sets
    → cells_of sets ≡ cells
unfolding cells_of
cells_again g cells sets is = ext_get_or None _ _
    (length-map-range_with_len (held_at sets) 1 50 ∙ sym is.position.fifty)
    (λ i low. let few : i < 50 = omega (arith, length-map-range_with_len (held_at sets) 1 50) in
    get_or-map-range_with_len (held_at sets) 1 50 i (suc i) None few (omega arith)
    ∙ cell_again sets (suc i) (get_or cells i None) (λ side k.
    ap (λ v. set.contains v (suc i)) (sym (is.standing_is side k))
    ∙ (contains-standing cells side k (suc i)
    ∙ (let at : suc i - 1 ≡ i = omega arith in rw (at, in_fifty (suc i) (omega arith) (omega arith)) refl))))

pub kept-again : (g : Geometry) (cells : Cells) (sets : Side → Kind → Squares) → IsKept g cells sets
    → IsKept g (cells_of sets) sets
kept-again g cells sets is = subst (λ c. IsKept g c sets) (sym (cells_again g cells sets is)) is

pub cell_of : (sets : Side → Kind → Squares) (s : ℕ) → 1 ≤ s → s ≤ 50 → get_or (cells_of sets) (s - 1) None
    ≡ held_at sets s
unfolding cells_of
cell_of sets s low high = get_or-map-range_with_len (held_at sets) 1 50 (s - 1) s None (omega arith) (omega arith)

-- ---- what a piece that comes or goes does to kept cells
pub kept-empty : (g : Geometry) (sets : Side → Kind → Squares) → ((side : Side) (k : Kind) → sets side k ≡ set.empty)
    → IsKept g (replicate 50 None) sets
kept-empty g sets none = record {
  position = IsPosition-empty g;
  standing_is = λ side k. standing-empty side k ∙ sym (none side k);
}

pub kept-entered : (g : Geometry) → IsBoard g → (cells : Cells) (sets now : Side → Kind → Squares) (s : ℕ) (p : Piece)
    → IsKept g cells sets → OnBoard g s
    → get_or cells (s - 1) None ≡ None → is_stuck g s (Some p) ≡ false → count_by (is_of p.side) cells < g.side
    → ((side : Side) (k : Kind) → now side k ≡ entered side k (sets side k) s p)
    → IsKept g (put_at cells (s - 1) (Some p)) now
kept-entered g b cells sets now s p is on free stuck few comes =
    let fifty = is.position.fifty in
    let few_squares = b.squares_high in
    let low = on.0 in
    let high = on.1 in
    record {
      position = IsPosition-put g cells s p is.position low high (omega arith) free stuck few;
      standing_is = λ side k. standing-entered cells s p side k fifty low (omega arith) free
          ∙ (ap (λ v. entered side k v s p) (is.standing_is side k) ∙ sym (comes side k));
    }

pub kept-left : (g : Geometry) → IsBoard g → (cells : Cells) (sets now : Side → Kind → Squares) (s : ℕ)
    → IsKept g cells sets → OnBoard g s
    → ((side : Side) (k : Kind) → now side k ≡ set.remove (sets side k) s) → IsKept g (put_at cells (s - 1) None) now
kept-left g b cells sets now s is on goes =
    let fifty = is.position.fifty in
    let few_squares = b.squares_high in
    let low = on.0 in
    let high = on.1 in
    record {
      position = IsPosition-clear g cells s is.position (omega arith) low;
      standing_is = λ side k. standing-left cells s side k fifty low (omega arith)
          ∙ (ap (λ v. set.remove v s) (is.standing_is side k) ∙ sym (goes side k));
    }

-- ---- what the sets say of a square
union_of_four : (a b c d : Squares) (s : ℕ) → set.contains (set.union (set.union a b) (set.union c d)) s
    ≡ ((set.contains a s || set.contains b s) || (set.contains c s || set.contains d s))
union_of_four a b c d s =
    set.contains-union nat_cmp_total (set.union a b) (set.union c d) s
    ∙ rw (set.contains-union nat_cmp_total a b s, set.contains-union nat_cmp_total c d s) refl

none_of_four : (a b c d : Bool) → ((a || b) || (c || d)) ≡ false → told a c b d ≡ None
none_of_four true b c d e = absurd (true≢false e)
none_of_four false true c d e = absurd (true≢false e)
none_of_four false false true d e = absurd (true≢false e)
none_of_four false false false true e = absurd (true≢false e)
none_of_four false false false false e = refl

last_of_four : (a b c d : Bool) → ((a || b) || (c || d)) ≡ true → a ≡ false → c ≡ false → b ≡ false → d ≡ true
last_of_four true b c d e h k l = absurd (true≢false h)
last_of_four false true c d e h k l = absurd (true≢false l)
last_of_four false false true d e h k l = absurd (true≢false k)
last_of_four false false false d e h k l = e

pub held_at-none : (sets : Side → Kind → Squares) (s : ℕ) (found : Bool)
    → found ≡ set.contains (set.union (set.union (sets White Man) (sets White King))
    (set.union (sets Black Man) (sets Black King))) s
    → found ≡ false → None ≡ held_at sets s
held_at-none sets s found is e = sym (none_of_four _ _ _ _ (sym (union_of_four _ _ _ _ s) ∙ (sym is ∙ e)))

pub held_at-last : (sets : Side → Kind → Squares) (s : ℕ) (found : Bool)
    → found ≡ set.contains (set.union (set.union (sets White Man) (sets White King))
    (set.union (sets Black Man) (sets Black King))) s
    → found ≡ true → set.contains (sets White Man) s ≡ false → set.contains (sets Black Man) s ≡ false
    → set.contains (sets White King) s ≡ false
    → Some (record { side = Black; kind = King }) ≡ held_at sets s
held_at-last sets s found is e a b c =
    let last = last_of_four _ _ _ _ (sym (union_of_four (sets White Man) (sets White King) (sets Black Man)
    (sets Black King) s) ∙ (sym is ∙ e)) a b c in
    rw (a, b, c, last) refl

-- ---- the same sets are the same position
abbrev pub kept_placement : {B : Type 0} → Held B → Side → Placement
kept_placement h turn = record { cells = cells_of (set_of h); turn = turn }

same_set : {g : Geometry} (B : Type 0) {h k : Held B} {t u : Side} → IsKept g (cells_of (set_of h)) (set_of h)
    → IsKept g (cells_of (set_of k)) (set_of k)
    → kept_placement h t ≡ kept_placement k u → (side : Side) (kind : Kind) → set_of h side kind ≡ set_of k side kind
same_set B is js p side kind = sym (is.standing_is side kind) ∙ (ap (λ v. standing v.cells side kind) p
    ∙ js.standing_is side kind)

pub same_kept : (g : Geometry) (B : Type 0) (h k : Held B) (t u : Side) → IsKept g (cells_of (set_of h)) (set_of h)
    → IsKept g (cells_of (set_of k)) (set_of k)
    → (eqb (side_code t) (side_code u) && same_sets h k) ≡ same (kept_placement h t) (kept_placement k u)
same_kept g B h k t u is js = same_tests _ _
    (λ e. let p = and_parts _ _ e in
    let turn = side_back t u (eqb-true _ _ p.0) in
    let sets = (same_sets-is h k).0 p.1 in
    (same-is _ _).1 (λ i. kept_placement (sets i) (turn i)))
    (λ e. let p = (same-is (kept_placement h t) (kept_placement k u)).0 e in
    let a = same_set B is js p White Man in
    let b = same_set B is js p White King in
    let c = same_set B is js p Black Man in
    let d = same_set B is js p Black King in
    and_from _ _ (eq-eqb _ _ (ap (λ v. side_code v.turn) p))
    ((same_sets-is h k).1 (λ i. record { white_men = a i; white_kings = b i; black_men = c i; black_kings = d i })))
