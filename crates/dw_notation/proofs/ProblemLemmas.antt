-- The problems of a text are what is found in it.
use Rattle.std.proofs.Common.{◌≡◌, ℕ, List, Bool, refl, sym, ap, ◌∙◌, subst}
use Rattle.dw_board.specs.Geometry.{Geometry}
use Rattle.dw_notation.specs.TextLines.{Found, without_mark, LinesSay}
use Rattle.dw_notation.specs.Problems.{number_from, TextSays, AreProblems, TextsHaveProblems}
use Rattle.dw_notation.specs.WholeTexts.{SectionsSay}
use Rattle.dw_notation.specs.TagLaws.{TextsOfTagsSay}
use Rattle.dw_notation.specs.inner.Cutting.{found_ahead, problems_from}
use Rattle.dw_notation.specs.inner.Problems.{found_of}
use Rattle.dw_notation.specs.inner.Tags.{outside_found}
use Rattle.dw_notation.specs.inner.HeldSection.{held_of, held_bare, held_from, sections_ahead}
use Rattle.dw_notation.specs.declared.problems.Form.{Form}
use Rattle.dw_notation.specs.declared.problems.Form.TheVariants.{Fens, Pdn}
use Rattle.dw_notation.specs.declared.problems.pdn.automaton.State.TheVariants.{Outside}
use Rattle.dw_notation.specs.declared.problems.pdn.Sections.{Sections}
use Rattle.dw_notation.specs.inner.Cutting.{Progress}
use Rattle.dw_notation.proofs.DefinitionLemmas.{sections-mark}
use Rattle.dw_notation.proofs.HoldingLemmas.{held_from-bare}
use Rattle.dw_notation.proofs.MarkLemmas.{lines-mark}
use Rattle.dw_notation.proofs.TextSaysLemmas.{FensAreRead, lines_say, lines_say-only}
use Rattle.dw_notation.proofs.WholeTextLemmas.{sections_say, sections_say-only}

module _ (law : FensAreRead) where
  text_says : (g : Geometry) (form : Form) (over : Bool) (bytes : List ℕ)
      → TextSays g form over bytes (found_of over g form bytes)
  text_says g Fens over bytes = subst (LinesSay g over (without_mark bytes)) (sym (lines-mark over g bytes))
      (lines_say law g over (without_mark bytes))
  text_says g Pdn over bytes = subst (SectionsSay g over (without_mark bytes)) (sym (sections-mark over g bytes))
      (sections_say law g over (without_mark bytes))

  pub text_says-only : (g : Geometry) (form : Form) (over : Bool) (bytes : List ℕ) (found : List Found)
      → TextSays g form over bytes found → found ≡ found_of over g form bytes
  text_says-only g Fens over bytes found h = lines_say-only law h ∙ sym (lines-mark over g bytes)
  text_says-only g Pdn over bytes found h = sections_say-only law h ∙ sym (sections-mark over g bytes)

  found_problems : (g : Geometry) (form : Form) (over : Bool) (bytes : List ℕ)
      → AreProblems g form over bytes (number_from 0 (found_of over g form bytes))
  found_problems g form over bytes = record {
    found = found_of over g form bytes;
    said = text_says g form over bytes;
    numbers = refl;
  }

  pub texts_have_problems : TextsHaveProblems
  texts_have_problems = record {
    some = λ g form over bytes. (number_from 0 (found_of over g form bytes), found_problems g form over bytes);
    only = λ g form over bytes problems others p q.
        p.numbers ∙ ap (number_from 0) (text_says-only g form over bytes p.found p.said
        ∙ sym (text_says-only g form over bytes q.found q.said)) ∙ sym q.numbers;
  }

  -- what a reader will hand out that has read nothing
  pub fresh_ahead : (g : Geometry) (form : Form) (over : Bool) (bytes : List ℕ) (progress : Progress) → progress.handed
      ≡ 0 → found_ahead over g progress bytes ≡ found_of over g form bytes
      → AreProblems g form over bytes (problems_from over g progress bytes)
  fresh_ahead g form over bytes progress none found = record {
    found = found_of over g form bytes;
    said = text_says g form over bytes;
    numbers = ap (λ n. number_from n (found_ahead over g progress bytes)) none ∙ ap (number_from 0) found;
  }

  pub texts_of_tags_say : TextsOfTagsSay
  texts_of_tags_say = record {
    some = λ g over bytes. (outside_found over g bytes, sections_say law g over bytes);
    only = λ g over bytes found others h k. sections_say-only law h ∙ sym (sections_say-only law k);
  }

  -- what a reader of sections will say that was given nothing
  pub sections-fresh : (g : Geometry) (over : Bool) (bytes : List ℕ) (sections : Sections) → (sections.state ≡ Outside)
      → held_of sections.section ≡ held_bare → SectionsSay g over bytes (sections_ahead over g sections bytes)
  sections-fresh g over bytes sections state section =
      subst (SectionsSay g over bytes) (sym (ap (λ p. held_from over g p (held_of sections.section) bytes) state
      ∙ ap (λ h. held_from over g Outside h bytes) section ∙ held_from-bare over g Outside bytes))
      (sections_say law g over bytes)
