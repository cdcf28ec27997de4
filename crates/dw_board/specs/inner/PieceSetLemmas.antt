-- Laws of the sets of the squares on which pieces stand.
use Rattle.std.proofs.Common.{◌≡◌, ◌∙◌, ℕ, suc, zero, ◌-◌, ◌↔◌, Bool, true, ◌&&◌, leb, List, Option, Some, None, get_or}
use Rattle.std.proofs.Common.{refl, sym, ap, arith, inl, inr}
use Rattle.std.specs.Ordering.{nat_cmp}
use Rattle.std.specs.FinSet as set
use Rattle.std.proofs.lemmas.Bool.{cases_lt, and_parts, and_from, leb-true, le-leb}
use Rattle.dw_board.specs.declared.piece.Side.{Side}
use Rattle.dw_board.specs.declared.piece.Side.TheVariants.{White, Black}
use Rattle.dw_board.specs.declared.piece.Kind.{Kind}
use Rattle.dw_board.specs.declared.piece.Kind.TheVariants.{Man, King}
use Rattle.dw_board.specs.declared.piece.Piece.{Piece}
use Rattle.dw_board.specs.declared.held.Held.{Held}
use Rattle.dw_board.specs.Geometry.{Geometry, IsBoard, squares, OnBoard}
use Rattle.dw_board.specs.inner.SquareSetLemmas.{none_in_empty, member_more, same_members, same_members-is}
use Rattle.dw_board.specs.Placement.{IsPosition, same_side}
use Rattle.dw_board.specs.PieceSets.{same_kind, is_that, standing_below, standing}

abbrev Cells : Type 0
Cells = List (Option Piece)

same_side-true : (a b : Side) → same_side a b ≡ true → a ≡ b
same_side-true White White e = refl
same_side-true White Black e = cc
same_side-true Black White e = cc
same_side-true Black Black e = refl

-- ---- a piece of a side and a kind
same_kind-true : (a b : Kind) → same_kind a b ≡ true → a ≡ b
same_kind-true Man Man e = refl
same_kind-true Man King e = cc
same_kind-true King Man e = cc
same_kind-true King King e = refl

is_that-some : (side : Side) (k : Kind) (o : Option Piece) → is_that side k o ≡ true
    → o ≡ Some (record { side = side; kind = k })
is_that-some side k None e = cc
is_that-some side k (Some p) e =
    let h = and_parts _ _ e in
    let a = same_side-true p.side side h.0 in
    let b = same_kind-true p.kind k h.1 in
    λ i. Some (record { side = a i; kind = b i })

is_that-here : (side : Side) (k : Kind) → is_that side k (Some (record { side = side; kind = k })) ≡ true
is_that-here White Man = refl
is_that-here White King = refl
is_that-here Black Man = refl
is_that-here Black King = refl

-- ---- the members
pub contains-below : (cells : Cells) (side : Side) (k : Kind) (n q : ℕ)
    → set.contains (standing_below cells side k n) q
    ≡ ((leb 1 q && leb q n) && is_that side k (get_or cells (q - 1) None))
unfolding standing_below
contains-below cells side k zero q =
    set.contains-empty nat_cmp q ∙ sym (ap (λ b. b && is_that side k (get_or cells (q - 1) None)) (none_in_empty q))
contains-below cells side k (suc n) q =
    member_more (is_that side k (get_or cells n None)) (is_that side k (get_or cells (q - 1) None))
    (standing_below cells side k n) q n
    (contains-below cells side k n q)
    (λ e. let here : q - 1 ≡ n = omega arith in ap (λ x. is_that side k (get_or cells x None)) here)

pub contains-standing : (cells : Cells) (side : Side) (k : Kind) (q : ℕ)
    → set.contains (standing cells side k) q ≡ ((leb 1 q && leb q 50) && is_that side k (get_or cells (q - 1) None))
unfolding standing
contains-standing cells side k q = contains-below cells side k 50 q

pub standing-members : (g : Geometry) → IsBoard g → (cells : Cells) → IsPosition g cells
    → (side : Side) (k : Kind) (s : ℕ)
    → (set.contains (standing cells side k) s ≡ true)
    ↔ (OnBoard g s × (get_or cells (s - 1) None ≡ Some (record { side = side; kind = k })))
standing-members g b cells pos side k s = (
  (λ e.
      let h = and_parts _ _ (sym (contains-standing cells side k s) ∙ e) in
      let is = is_that-some side k _ h.1 in (
        (
          leb-true _ _ (and_parts _ _ h.0).0,
          elim (cases_lt (squares g) s) [
            | inl past ↦ let none = pos.on_board s past in absurd (let clash = sym none ∙ is in cc)
            | inr on ↦ on
          ],
        ),
        is,
      )),
  (λ h. contains-standing cells side k s ∙ and_from _ _
      (and_from _ _ (le-leb _ _ h.0.0) (le-leb _ _ (let low = h.0.1 in let few = b.squares_high in omega arith)))
      (ap (is_that side k) h.1 ∙ is_that-here side k)),
)

-- ---- four sets that are the same
abbrev pub same_sets : {B : Type 0} → Held B → Held B → Bool
same_sets h k = same_members h.white_men k.white_men
    && (same_members h.white_kings k.white_kings
    && (same_members h.black_men k.black_men && same_members h.black_kings k.black_kings))

pub same_sets-is : {B : Type 0} (h k : Held B) → (same_sets h k ≡ true) ↔ (h ≡ k)
same_sets-is h k = (
  (λ e.
      let p = and_parts _ _ e in
      let q = and_parts _ _ p.1 in
      let r = and_parts _ _ q.1 in
      let a = (same_members-is h.white_men k.white_men).0 p.0 in
      let b = (same_members-is h.white_kings k.white_kings).0 q.0 in
      let c = (same_members-is h.black_men k.black_men).0 r.0 in
      let d = (same_members-is h.black_kings k.black_kings).0 r.1 in
      λ i. record { white_men = a i; white_kings = b i; black_men = c i; black_kings = d i }),
  (λ e.
      and_from _ _ ((same_members-is h.white_men k.white_men).1 (ap (λ x. x.white_men) e))
      (and_from _ _ ((same_members-is h.white_kings k.white_kings).1 (ap (λ x. x.white_kings) e))
      (and_from _ _ ((same_members-is h.black_men k.black_men).1 (ap (λ x. x.black_men) e))
      ((same_members-is h.black_kings k.black_kings).1 (ap (λ x. x.black_kings) e))))),
)
