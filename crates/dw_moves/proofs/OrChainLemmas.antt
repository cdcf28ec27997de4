-- Tests joined by `||`, one for each direction.
use Rattle.std.proofs.Common.{◌≡◌, Bool, true, false, sym, ◌∙◌, ◌⊎◌, inl, inr, ◌↔◌}
use Rattle.std.proofs.lemmas.Bool.{true≢false}
use Rattle.std.specs.Prelude.{IsTrue}
use Rattle.dw_board.specs.declared.board.Dir.{Dir}
use Rattle.dw_board.specs.declared.board.Dir.TheVariants.{UpLeft, UpRight, DownLeft, DownRight}
use Rattle.dw_moves.proofs.DirLemmas.{OneOf, from_above, which}

-- the first test decides if it is true, and else a second one, which says whether Q holds
abbrev pub Chosen : Bool → Bool → Type 0 → Type 0
Chosen r a Q = ((a ≡ true) × (r ≡ a)) ⊎ ((b : Bool) × (a ≡ false) × (r ≡ b) × (IsTrue b ↔ Q))

or_is : (P Q : Type 0) (r a : Bool) → (IsTrue a ↔ P) → Chosen r a Q → IsTrue r ↔ (P ⊎ Q)
or_is P Q r a p (inl h) = ((λ _. inl (p.0 h.0)), (λ _. h.1 ∙ h.0))
or_is P Q r a p (inr h) = (
  (λ t. inr (h.3.0 (sym h.2 ∙ t))),
  (λ e. elim e [ inl x ↦ absurd (true≢false (sym (p.1 x) ∙ h.1)) | inr y ↦ h.2 ∙ h.3.1 y ]),
)

-- in the four directions, one after another
pub some_dir : (P : Dir → Type 0) (a b c r : Bool) → (IsTrue a ↔ P UpLeft) → Chosen b a (P UpRight)
    → Chosen c b (P DownLeft) → Chosen r c (P DownRight) → IsTrue r ↔ ((d : Dir) × P d)
some_dir P a b c r h one two three =
    let all : IsTrue r ↔ OneOf P UpLeft UpRight DownLeft DownRight = or_is _ _ r c (or_is _ _ c b (or_is _ _ b a h one)
    two) three in
    ((λ t. which P _ _ _ _ (all.0 t)), (λ d. all.1 (from_above P d.0 d.1)))
