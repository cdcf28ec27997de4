-- What a slot answers of a position, by whether it keeps that position.
use Rattle.std.proofs.Common.{◌≡◌, ◌∙◌, ◌↔◌, Bool, true, false, not, cond, Option, Some, None, is_some, refl, sym, ap}
use Rattle.std.proofs.Common.{inl, inr}
use Rattle.std.specs.Prelude.{IsTrue}
use Rattle.std.specs.Int.{from_bool}
use Rattle.std.proofs.lemmas.Bool.{cases_Bool, true≢false}
use Rattle.dw_board.specs.Placement.{Placement}
use Rattle.dw_board.specs.inner.PlacementLemmas.{same, same-is}
use Rattle.dw_memo.specs.declared.fact.Fact.{Fact}
use Rattle.dw_memo.specs.inner.Slots.{Place}
use Rattle.dw_memo.specs.inner.Keeping.{bounds_in, lost, stands, kept_position}

-- whether the position of an entry is this one
told : (p q : Placement) (keeps : Bool) → (IsTrue keeps ↔ (q ≡ p)) → same q p ≡ keeps
told p q true is = (same-is q p).1 (is.0 refl)
told p q false is = elim (cases_Bool (same q p)) [
  | inl e ↦ absurd (true≢false (sym (is.1 ((same-is q p).0 e))))
  | inr e ↦ e
]

pub not_kept : (o : Place) (p : Placement) (keeps : Bool) → (IsTrue keeps ↔ (kept_position o ≡ p))
    → keeps ≡ false
    → None ≡ bounds_in o p
not_kept None p keeps is not_so = refl
not_kept (Some e) p keeps is not_so = sym (ap (λ b. cond b (Some e.1.bounds) None) (told p e.0 keeps is ∙ not_so))

-- nothing is lost where nothing stands
pub none_lost : (q p : Placement) (b : Option Fact) → is_some b ≡ false → lost (stands q b) p ≡ 0
none_lost q p None none = refl
none_lost q p (Some b) none = absurd (true≢false none)

pub one_lost : (q p : Placement) (b : Option Fact) (keeps : Bool) → is_some b ≡ true
    → (IsTrue keeps ↔ (kept_position (stands q b) ≡ p))
    → lost (stands q b) p ≡ from_bool (not keeps)
one_lost q p None keeps some is = absurd (true≢false (sym some))
one_lost q p (Some b) keeps some is = ap (λ x. from_bool (not x)) (told p q keeps is)
