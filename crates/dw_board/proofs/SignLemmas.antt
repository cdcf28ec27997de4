-- The sets that tell the signs of squares are those of a position's pieces.
use Rattle.std.proofs.Common.{◌≡◌, ◌∙◌, ℕ, ◌↔◌, ◌⊎◌, Bool, true, false, Option, Some, None, is_some, refl, sym, ap, inl}
use Rattle.std.proofs.Common.{inr, ◌+◌, ◌*◌, ◌/◌, ◌%◌, ◌≢◌, List, ◌++◌, codes, map, append_assoc, if◌then◌else◌}
use Rattle.std.specs.List.{range_with_len}
use Rattle.std.specs.FinSet as set
use Rattle.std.specs.Cmp.{nat_cmp_total}
use Rattle.std.proofs.lemmas.Bool.{or_cases, or_left, or_right, ne_eqb}
use Rattle.dw_board.specs.declared.piece.Side.{Side}
use Rattle.dw_board.specs.declared.piece.Side.TheVariants.{White, Black}
use Rattle.dw_board.specs.declared.piece.Kind.{Kind}
use Rattle.dw_board.specs.declared.piece.Kind.TheVariants.{Man, King}
use Rattle.dw_board.specs.declared.piece.Piece.{Piece}
use Rattle.dw_board.specs.Geometry.{Geometry, OnBoard, Squares}
use Rattle.dw_board.specs.Placement.{Placement, at, is_of}
use Rattle.dw_board.specs.Diagram.{square_sign, sign_at, row_text}
use Rattle.dw_board.specs.inner.Drawing.{sign_by, AreSigns}
use Rattle.dw_board.proofs.SetLemmas.{same_tests}

abbrev is_king_kind : Kind → Bool
is_king_kind Man = false
is_king_kind King = true

-- whether a king stands there
abbrev is_king : Option Piece → Bool
is_king None = false
is_king (Some p) = is_king_kind p.kind

abbrev king_of : Side → Option Piece
king_of side = Some (record { side = side; kind = King })

sign_of_piece : (side : Side) (kind : Kind)
    → (let o : Option Piece = Some (record { side = side; kind = kind }) in
    sign_by true (is_of White o) (is_king o) ≡ square_sign o)
sign_of_piece White Man = refl
sign_of_piece White King = refl
sign_of_piece Black Man = refl
sign_of_piece Black King = refl

sign_of : (o : Option Piece) → sign_by (is_some o) (is_of White o) (is_king o) ≡ square_sign o
sign_of None = refl
sign_of (Some p) = sign_of_piece p.side p.kind

either_king : (side : Side) (kind : Kind)
    → (let o : Option Piece = Some (record { side = side; kind = kind }) in
    is_king o ≡ true → (o ≡ king_of White) ⊎ (o ≡ king_of Black))
either_king White Man e = cc
either_king White King e = inl refl
either_king Black Man e = cc
either_king Black King e = inr refl

king_is : (o : Option Piece) → is_king o ≡ true → (o ≡ king_of White) ⊎ (o ≡ king_of Black)
king_is None e = cc
king_is (Some p) e = either_king p.side p.kind e

-- the squares of a position where a test of what stands there holds
abbrev pub AreWhere : Geometry → Placement → (Option Piece → Bool) → Squares → Type 0
AreWhere g p test v = (s : ℕ) → (set.contains v s ≡ true) ↔ (OnBoard g s × (test (at p s) ≡ true))

-- the squares on which one piece stands, of a side and a kind
abbrev pub AreThose : Geometry → Placement → Option Piece → Squares → Type 0
AreThose g p piece v = (s : ℕ) → (set.contains v s ≡ true) ↔ (OnBoard g s × (at p s ≡ piece))

has_where : (g : Geometry) (p : Placement) (test : Option Piece → Bool) (v : Squares) → AreWhere g p test v
    → (s : ℕ) → OnBoard g s → set.contains v s ≡ test (at p s)
has_where g p test v are s on = same_tests _ _ (λ e. ((are s).0 e).1) (λ e. (are s).1 (on, e))

kings_where : (g : Geometry) (p : Placement) (whites blacks : Squares)
    → AreThose g p (king_of White) whites → AreThose g p (king_of Black) blacks
    → AreWhere g p is_king (set.union whites blacks)
kings_where g p whites blacks white black s =
    let either = set.contains-union nat_cmp_total whites blacks s in (
      (λ e. elim (or_cases _ _ (sym either ∙ e)) [
        | inl h ↦ let k = (white s).0 h in (k.0, ap is_king k.1)
        | inr h ↦ let k = (black s).0 h in (k.0, ap is_king k.1)
      ]),
      (λ h. either ∙ (elim (king_is _ h.1) [
        | inl e ↦ or_left _ _ ((white s).1 (h.0, e))
        | inr e ↦ or_right _ _ ((black s).1 (h.0, e))
      ])),
    )

pub signs-are : (g : Geometry) (p : Placement) (occupied white whites blacks kings : Squares)
    → AreWhere g p is_some occupied → AreWhere g p (is_of White) white
    → AreThose g p (king_of White) whites → AreThose g p (king_of Black) blacks
    → kings ≡ set.union whites blacks → AreSigns g p occupied white kings
signs-are g p occupied white whites blacks kings all of_white white_kings black_kings is s on =
    let a = has_where g p is_some occupied all s on in
    let b = has_where g p (is_of White) white of_white s on in
    let either = kings_where g p whites blacks white_kings black_kings in
    let c = ap (λ v. set.contains v s) is ∙ has_where g p is_king (set.union whites blacks) either s on in
    (λ i. sign_by (a i) (b i) (c i)) ∙ sign_of (at p s)

-- the sign of a dark square, by its row and column
pub dark_sign : (g : Geometry) (p : Placement) (occupied white kings : Squares) (r c s sign : ℕ)
    → AreSigns g p occupied white kings → OnBoard g s
    → sign ≡ sign_by (set.contains occupied s) (set.contains white s) (set.contains kings s)
    → s ≡ r * g.per_row + c / 2 + 1 → (r + c) % 2 ≢ 0 → sign ≡ sign_at g p r c
dark_sign g p occupied white kings r c s sign are on is place dark =
    is ∙ (are s on ∙ (ap (λ q. square_sign (at p q)) place
    ∙ sym (ap (λ b. if b then 32 else square_sign (at p (r * g.per_row + c / 2 + 1))) (ne_eqb _ _ dark))))

-- a row is its signs between two bars
pub row_drawn : (g : Geometry) (p : Placement) (row n : ℕ) (old begun drawn ended : List ℕ)
    → begun ≡ old ++ codes "|" → drawn ≡ begun ++ map (sign_at g p row) (range_with_len 0 n) → n ≡ g.rows
    → ended ≡ drawn ++ codes "|\n" → ended ≡ old ++ row_text g p row
row_drawn g p row n old begun drawn ended bar signs all end =
    let line = map (sign_at g p row) (range_with_len 0 n) in
    end ∙ (ap (λ t. t ++ codes "|\n") (signs ∙ (ap (λ t. t ++ line) bar ∙ append_assoc old (codes "|") line))
    ∙ (append_assoc old (codes "|" ++ line) (codes "|\n")
    ∙ ap (λ k. old ++ (codes "|" ++ map (sign_at g p row) (range_with_len 0 k) ++ codes "|\n")) all))
