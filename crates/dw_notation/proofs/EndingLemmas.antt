-- Lemmas on the byte that ends a section.
use Rattle.std.proofs.Common.{◌≡◌, ℕ, ◌+◌, ◌<◌, List, [], ◌∷◌, ◌++◌, length, take, drop, Bool, false, Option, Some}
use Rattle.std.proofs.Common.{None, IfSome, option_to_list, sym, ap, ◌∙◌, append_assoc}
use Rattle.std.proofs.lemmas.List.{take-append-drop}
use Rattle.dw_board.specs.Geometry.{Geometry}
use Rattle.dw_notation.specs.TextLines.{Found}
use Rattle.dw_notation.specs.inner.HeldSection.{held_of, held_found, cut_found, sections_ahead, sections_cut, EndsAt}
use Rattle.dw_notation.specs.declared.problems.pdn.Sections.{Sections}

-- it says what is held of it
pub ended_found : (g : Geometry) (old new : Sections) (bytes : List ℕ) (result : Option ℕ)
    → IfSome result (EndsAt old new bytes)
    → IfSome result (λ k. (found : Found) × (k < length bytes) × (sections_cut g new ≡ Some found)
    × (sections_ahead false g old (take k bytes) ≡ [])
    × ((over : Bool) (more : List ℕ) → sections_ahead over g old (take (k + 1) bytes ++ more)
    ≡ found ∷ sections_ahead over g new more))
ended_found g old new bytes None h = tt
ended_found g old new bytes (Some k) h = (
  held_found g (held_of new.section),
  h.within,
  ap (λ c. cut_found g c (held_of new.section)) h.cut,
  h.before g,
  λ over more. h.said g over more
      ∙ ap (λ c. option_to_list (cut_found g c (held_of new.section)) ++ sections_ahead over g new more) h.cut,
)

-- what follows does not matter
pub ended_rest : (old new : Sections) (bytes : List ℕ) (result : Option ℕ)
    → IfSome result (EndsAt old new bytes)
    → IfSome result (λ k. (k < length bytes) × ((g : Geometry) (at_end : Bool) (more : List ℕ) →
    sections_ahead at_end g old (bytes ++ more)
    ≡ option_to_list (sections_cut g new) ++ sections_ahead at_end g new (drop (k + 1) bytes ++ more)))
ended_rest old new bytes None h = tt
ended_rest old new bytes (Some k) h = (
  h.within,
  λ g at_end more. ap (λ l. sections_ahead at_end g old (l ++ more)) (sym (take-append-drop (k + 1) bytes))
      ∙ ap (sections_ahead at_end g old) (append_assoc (take (k + 1) bytes) (drop (k + 1) bytes) more)
      ∙ h.said g at_end (drop (k + 1) bytes ++ more),
)
