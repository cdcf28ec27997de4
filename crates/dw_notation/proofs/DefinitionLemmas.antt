-- What a reader will hand out that has read nothing is what the text is found to say.
use Rattle.std.proofs.Common.{◌≡◌, ℕ, ◌==◌, List, [], ◌∷◌, Bool, true, ◌&&◌, inl, inr, refl, sym, ap, ◌∙◌}
use Rattle.std.proofs.lemmas.Bool.{and_parts, eqb-true, cases_Bool, cond-true, cond-false}
use Rattle.dw_board.specs.Geometry.{Geometry}
use Rattle.dw_notation.specs.TextLines.{without_mark}
use Rattle.dw_notation.specs.inner.Sections.{bare, sections_found}
use Rattle.dw_notation.specs.inner.HeldSection.{held_of, held_bare, held_from, sections_ahead}
use Rattle.dw_notation.specs.declared.problems.pdn.automaton.State.TheVariants.{Outside}
use Rattle.dw_notation.specs.declared.problems.pdn.Sections.{Sections}
use Rattle.dw_notation.proofs.HoldingLemmas.{held_from-bare}

-- ---- nothing was read of a text of tags: its mark stands outside its sections
outside-mark : (at_end : Bool) (g : Geometry) (a b c : ℕ) (bytes : List ℕ) → ((a == 0xEF) && (b == 0xBB) && (c == 0xBF))
    ≡ true
    → sections_found at_end g Outside bare (a ∷ b ∷ c ∷ bytes) ≡ sections_found at_end g Outside bare bytes
outside-mark at_end g a b c bytes h =
    let all = and_parts ((a == 0xEF) && (b == 0xBB)) (c == 0xBF) h in
    let both = and_parts (a == 0xEF) (b == 0xBB) all.0 in
    ap (λ x. sections_found at_end g Outside bare (x ∷ b ∷ c ∷ bytes)) (eqb-true a 0xEF both.0)
    ∙ ap (λ x. sections_found at_end g Outside bare (x ∷ c ∷ bytes)) (eqb-true b 0xBB both.1)
    ∙ ap (λ x. sections_found at_end g Outside bare (x ∷ bytes)) (eqb-true c 0xBF all.1)

pub sections-mark : (at_end : Bool) (g : Geometry) (bytes : List ℕ) → sections_found at_end g Outside bare bytes
    ≡ sections_found at_end g Outside bare (without_mark bytes)
sections-mark at_end g [] = refl
sections-mark at_end g (a ∷ []) = refl
sections-mark at_end g (a ∷ b ∷ []) = refl
sections-mark at_end g (a ∷ b ∷ c ∷ bytes) = elim (cases_Bool ((a == 0xEF) && (b == 0xBB) && (c == 0xBF))) [
  | inl mark ↦ outside-mark at_end g a b c bytes mark ∙ ap (sections_found at_end g Outside bare)
      (sym (cond-true _ bytes (a ∷ b ∷ c ∷ bytes) mark))
  | inr none ↦ ap (sections_found at_end g Outside bare) (sym (cond-false _ bytes (a ∷ b ∷ c ∷ bytes) none))
]

pub sections-new : (at_end : Bool) (g : Geometry) (sections : Sections) → (sections.state ≡ Outside)
    → held_of sections.section ≡ held_bare
    → (bytes : List ℕ) → sections_ahead at_end g sections bytes
    ≡ sections_found at_end g Outside bare bytes
sections-new at_end g sections state section bytes =
    ap (λ p. held_from at_end g p (held_of sections.section) bytes) state
    ∙ ap (λ h. held_from at_end g Outside h bytes) section
    ∙ held_from-bare at_end g Outside bytes
