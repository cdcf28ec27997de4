-- Positions that are turned, and their keys.
use Rattle.std.proofs.Common.{◌≡◌, ◌∙◌, ℕ, ◌+◌, ◌-◌, ◌≤◌, ◌<◌, true, false, cond, Option, Some, None, length, get_or}
use Rattle.std.proofs.Common.{List, refl, sym, ap, subst, arith, inl, inr, leb}
use Rattle.std.specs.Cmp.Lexicographic.{bytes_decides}
use Rattle.std.proofs.lemmas.Bool.{and_from, cases_lt, eq-eqb, le-leb, leb-true}
use Rattle.std.proofs.lemmas.List.{ext_get_or}
use Rattle.std.proofs.lemmas.List.FromFn.{length-map-range_with_len, get_or-map-range_with_len}
use Rattle.dw_board.specs.Geometry.{Geometry, IsBoard, OnBoard, squares}
use Rattle.dw_board.specs.Placement.{IsPosition, Placement, at, cell_code, cell_codes, other, side_code}
use Rattle.dw_board.specs.declared.piece.Piece.{Piece}
use Rattle.dw_board.specs.declared.piece.Side.{Side}
use Rattle.dw_board.specs.declared.piece.Side.TheVariants.{Black, White}
use Rattle.dw_board.specs.inner.PlacementLemmas.{same-is}
use Rattle.dw_same.specs.Repeats.{IsRepeatOf}
use Rattle.dw_same.specs.Turning.{AreSame, opposite, recoloured, turned, turned_at}
use Rattle.dw_same.specs.inner.Keys.{key, repeat_of, with_white_to_move}

other_twice : (side : Side) → other (other side) ≡ side
other_twice White = refl
other_twice Black = refl

recoloured_twice : (cell : Option Piece) → recoloured (recoloured cell) ≡ cell
recoloured_twice None = refl
recoloured_twice (Some piece) = λ i. Some (record { side = other_twice piece.side i; kind = piece.kind })

-- the content of each of the fifty cells after the turn
pub turned_cell : (g : Geometry) (p : Placement) (s : ℕ) → 1 ≤ s → s ≤ 50 → at (turned g p) s ≡ turned_at g p s
turned_cell g p s low high =
    get_or-map-range_with_len (turned_at g p) 1 50 (s - 1) s None (omega arith) (omega arith)

on_board : (g : Geometry) (p : Placement) (s : ℕ) → s ≤ squares g → turned_at g p s ≡ recoloured (at p (opposite g s))
on_board g p s low = ap (λ b. cond b (recoloured (at p (opposite g s))) None) (le-leb s (squares g) low)

past : (g : Geometry) (p : Placement) (s : ℕ) → squares g < s → turned_at g p s ≡ None
past g p s high = (elim (leb s (squares g)) as (λ b. leb s (squares g) ≡ b → turned_at g p s ≡ None) [
  | true ↦ λ t. absurd (let le = leb-true s (squares g) t in omega arith)
  | false ↦ λ t. ap (λ b. cond b (recoloured (at p (opposite g s))) None) t
]) refl

pub turned_square : (g : Geometry) → IsBoard g → (p : Placement) (s : ℕ) → OnBoard g s
    → at (turned g p) s ≡ recoloured (at p (opposite g s))
turned_square g board p s on =
    turned_cell g p s on.0 (omega (arith, board.squares_high, on.1)) ∙ on_board g p s on.1

cell_twice : (g : Geometry) → IsBoard g → (p : Placement) → IsPosition g p.cells → (s : ℕ) → 1 ≤ s → s ≤ 50
    → turned_at g (turned g p) s ≡ at p s
cell_twice g board p rules s low high = elim (cases_lt (squares g) s) [
  | inl beyond ↦ past g (turned g p) s beyond ∙ sym (rules.on_board s beyond)
  | inr within ↦
      let few = board.squares_high in
      let there : s ≤ squares g = omega (arith, within) in
      let back : opposite g (opposite g s) ≡ s = omega arith in
      on_board g (turned g p) s there
      ∙ (ap recoloured (turned_square g board p (opposite g s) (omega arith, omega arith))
      ∙ (recoloured_twice (at p (opposite g (opposite g s))) ∙ ap (at p) back))
]

pub turned_twice : (g : Geometry) → IsBoard g → (p : Placement) → IsPosition g p.cells → turned g (turned g p) ≡ p
turned_twice g board p rules =
    let long = length-map-range_with_len (turned_at g (turned g p)) 1 50 in
    let cells = ext_get_or None (turned g (turned g p)).cells p.cells (long ∙ sym rules.fifty) (λ i short.
    let few : i < 50 = omega (arith, long) in
    get_or-map-range_with_len (turned_at g (turned g p)) 1 50 i (i + 1) None few (omega arith)
    ∙ (cell_twice g board p rules (i + 1) (omega arith) (omega arith)
    ∙ ap (λ k. get_or p.cells k None) (omega arith))) in
    λ i. record { cells = cells i; turn = other_twice p.turn i }

-- ---- KEYS

-- positions with the same side to move and the same cells are equal
same_cells : (p q : Placement) → p.turn ≡ q.turn → cell_codes p ≡ cell_codes q → p ≡ q
same_cells p q turns codes = (same-is p q).0
    (and_from _ _ (eq-eqb _ _ (ap side_code turns)) ((bytes_decides (cell_codes p) (cell_codes q)).1 codes))

-- a position has the key of its turned one
key_turned : (g : Geometry) → IsBoard g → (q : Placement) → IsPosition g q.cells → (turn : Side) → q.turn ≡ turn
    → key g (turned g q) ≡ key g q
key_turned g board q rules White is = rw is (ap cell_codes (turned_twice g board q rules))
key_turned g board q rules Black is = rw is refl

pub same_key : (g : Geometry) → IsBoard g → (p q : Placement) → IsPosition g q.cells → AreSame g p q
    → key g p ≡ key g q
same_key g board p q rules (inl e) = ap (key g) e
same_key g board p q rules (inr e) = ap (key g) e ∙ key_turned g board q rules q.turn refl

meets : (g : Geometry) → IsBoard g → (p q : Placement) → IsPosition g p.cells → IsPosition g q.cells → (number : ℕ)
    → (s t : Side) → p.turn ≡ s → q.turn ≡ t → key g p ≡ key g q
    → IsRepeatOf g p (repeat_of (record { number = number; turn = t }) s) (record { number = number; position = q })
meets g board p q rp rq number White White ps qt e =
    let h : cell_codes p ≡ cell_codes q = rw (ps, qt) at e in (refl, same_cells p q (ps ∙ sym qt) h)
meets g board p q rp rq number White Black ps qt e =
    let h : cell_codes p ≡ cell_codes (turned g q) = rw (ps, qt) at e in
    (refl, same_cells p (turned g q) (ps ∙ sym (ap other qt)) h)
meets g board p q rp rq number Black White ps qt e =
    let h : cell_codes (turned g p) ≡ cell_codes q = rw (ps, qt) at e in
    let met = same_cells (turned g p) q (ap other ps ∙ sym qt) h in
    (refl, sym (turned_twice g board p rp) ∙ ap (turned g) met)
meets g board p q rp rq number Black Black ps qt e =
    let h : cell_codes (turned g p) ≡ cell_codes (turned g q) = rw (ps, qt) at e in
    let met = same_cells (turned g p) (turned g q) (ap other (ps ∙ sym qt)) h in
    (refl, sym (turned_twice g board p rp) ∙ (ap (turned g) met ∙ turned_twice g board q rq))

-- positions with the same key are the same
pub keys_meet : (g : Geometry) → IsBoard g → (p q : Placement) → IsPosition g p.cells → IsPosition g q.cells
    → (number : ℕ) → key g p ≡ key g q
    → IsRepeatOf g p (repeat_of (record { number = number; turn = q.turn }) p.turn)
    (record { number = number; position = q })
keys_meet g board p q rp rq number e = meets g board p q rp rq number p.turn q.turn refl refl e

pub fifty_cells : (g : Geometry) (p : Placement) (turn : Side) → IsPosition g p.cells
    → length (with_white_to_move g p turn).cells ≡ 50
fifty_cells g p White rules = rules.fifty
fifty_cells g p Black rules = length-map-range_with_len (turned_at g p) 1 50

-- ---- LAWS

pub differs : (g : Geometry) (p : Placement) → p ≡ turned g p → ⊥
differs g p e = other_side p.turn (ap (λ q. q.turn) e)
  where
    other_side : (side : Side) → side ≡ other side → ⊥
    other_side White e = cc
    other_side Black e = cc

pub symmetric : (g : Geometry) → IsBoard g → (p q : Placement) → IsPosition g q.cells → AreSame g p q
    → AreSame g q p
symmetric g board p q rules (inl e) = inl (sym e)
symmetric g board p q rules (inr e) = inr (sym (turned_twice g board q rules) ∙ ap (turned g) (sym e))

pub transitive : (g : Geometry) → IsBoard g → (p q r : Placement) → IsPosition g r.cells → AreSame g p q
    → AreSame g q r → AreSame g p r
transitive g board p q r rules (inl e) f = subst (λ z. AreSame g z r) (sym e) f
transitive g board p q r rules (inr e) (inl f) = inr (e ∙ ap (turned g) f)
transitive g board p q r rules (inr e) (inr f) = inl (e ∙ (ap (turned g) f ∙ turned_twice g board r rules))

-- the number of the cell at an index, which is that of the square after it
pub code_at : (cells : List (Option Piece)) (i : ℕ) (cell : Option Piece) (code : ℕ) → code ≡ cell_code cell
    → cell ≡ get_or cells (i + 1 - 1) None → code ≡ cell_code (get_or cells i None)
code_at cells i cell code is here =
    let place : i + 1 - 1 ≡ i = omega arith in
    is ∙ ap cell_code (here ∙ ap (λ k. get_or cells k None) place)
