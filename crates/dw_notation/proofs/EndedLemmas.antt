-- The problems that end in a text come first, whatever follows.
use Rattle.std.proofs.Common.{◌≡◌, ℕ, ◌==◌, ◌+◌, List, [], ◌∷◌, ◌++◌, Bool, true, false, cond, option_to_list, nat_lt}
use Rattle.std.proofs.Common.{Err, refl, sym, ap, subst, ◌∙◌, append_assoc}
use Rattle.dw_board.specs.Geometry.{Geometry}
use Rattle.dw_notation.specs.TextLines.{Found}
use Rattle.dw_notation.specs.Problems.{Numbered, number_from, EndedComeFirst}
use Rattle.dw_notation.specs.inner.TextLines.{line_of, line_found}
use Rattle.dw_notation.specs.inner.Ahead.{found_from}
use Rattle.dw_notation.specs.inner.Sections.{Section, transition, after, section_found, found_by, sections_found, bare}
use Rattle.dw_notation.specs.inner.Problems.{found_of}
use Rattle.dw_notation.specs.declared.problems.TheConstants.{MAX_PROBLEMS}
use Rattle.dw_notation.specs.declared.problems.ProblemFault.TheVariants.{TooManyProblems}
use Rattle.dw_notation.specs.declared.problems.Form.{Form}
use Rattle.dw_notation.specs.declared.problems.Form.TheVariants.{Fens, Pdn}
use Rattle.dw_notation.specs.declared.problems.pdn.automaton.State.{State}
use Rattle.dw_notation.specs.declared.problems.pdn.automaton.State.TheVariants.{Outside}
use Rattle.dw_notation.proofs.ProblemLemmas.{text_says-only}
use Rattle.dw_notation.proofs.TextSaysLemmas.{FensAreRead}

-- one list comes first in another
abbrev First : {X : Type 0} → List X → List X → Type 0
First {X} list longer = (later : List X) × (longer ≡ list ++ later)

-- behind the same beginning
behind : {X : Type 0} (front list longer : List X) → First list longer → First (front ++ list) (front ++ longer)
behind front list longer h = (h.0, ap (λ l. front ++ l) h.1 ∙ sym (append_assoc front list h.0))

-- NUMBERS

first_numbered : (handed : ℕ) (list later : List Found) → First (number_from handed list)
    (number_from handed (list ++ later))
first_numbered handed [] later = (number_from handed later, refl)
first_numbered handed (found ∷ list) later =
    let one : Numbered = record { number = handed + 1; found = found } in
    let last : Numbered = record { number = handed + 1; found = Err TooManyProblems } in
    let rest = first_numbered (handed + 1) list later in
    elim (nat_lt handed MAX_PROBLEMS) as (λ v. First
    (cond v (one ∷ number_from (handed + 1) list) (cond (handed == MAX_PROBLEMS) (last ∷ []) []))
    (cond v (one ∷ number_from (handed + 1) (list ++ later)) (cond (handed == MAX_PROBLEMS) (last ∷ []) []))) [
      | true ↦ (rest.0, ap (λ l. one ∷ l) rest.1)
      | false ↦ elim (handed == MAX_PROBLEMS) as (λ v. First (cond v (last ∷ []) []) (cond v (last ∷ []) [])) [
        | true ↦ ([], refl)
        | false ↦ ([], refl)
      ]
    ]

numbered_first : (list longer : List Found) → First list longer → First (number_from 0 list) (number_from 0 longer)
numbered_first list longer h = subst (λ l. First (number_from 0 list) (number_from 0 l)) (sym h.1)
    (first_numbered 0 list h.0)

-- LINES

first_lines : (at_end : Bool) (g : Geometry) (first : Bool) (line bytes more : List ℕ)
    → First (found_from false g first line bytes) (found_from at_end g first line (bytes ++ more))
first_lines at_end g first line [] more = (found_from at_end g first line more, refl)
first_lines at_end g first line (byte ∷ bytes) more =
    let here = option_to_list (line_found g (line_of first line)) in
    elim (byte == 10) as (λ v. First
    (cond v (here ++ found_from false g false [] bytes) (found_from false g first (line ++ byte ∷ []) bytes))
    (cond v (here ++ found_from at_end g false [] (bytes ++ more))
    (found_from at_end g first (line ++ byte ∷ []) (bytes ++ more)))) [
      | true ↦ behind here _ _ (first_lines at_end g false [] bytes more)
      | false ↦ first_lines at_end g first (line ++ byte ∷ []) bytes more
    ]

-- SECTIONS

first_sections : (at_end : Bool) (g : Geometry) (state : State) (s : Section) (bytes more : List ℕ)
    → First (sections_found false g state s bytes) (sections_found at_end g state s (bytes ++ more))
first_sections at_end g state s [] more = (sections_found at_end g state s more, refl)
first_sections at_end g state s (byte ∷ bytes) more =
    let to = transition state byte in
    behind (found_by to.action (section_found g s)) _ _
    (first_sections at_end g to.state (after to.action s) bytes more)

-- PROBLEMS

found_first : (over : Bool) (g : Geometry) (form : Form) (bytes more : List ℕ) → First (found_of false g form bytes)
    (found_of over g form (bytes ++ more))
found_first over g Fens bytes more = first_lines over g true [] bytes more
found_first over g Pdn bytes more = first_sections over g Outside bare bytes more

pub ended_come_first : FensAreRead → EndedComeFirst
ended_come_first law g form over bytes more ended problems e p =
    let list = found_of false g form bytes in
    let longer = found_of over g form (bytes ++ more) in
    let first = numbered_first list longer (found_first over g form bytes more) in
    let ends : ended ≡ number_from 0 list = e.numbers ∙ ap (number_from 0) (text_says-only law g form false bytes
    e.found e.said) in
    let all : problems ≡ number_from 0 longer = p.numbers ∙ ap (number_from 0) (text_says-only law g form over
    (bytes ++ more) p.found p.said) in
    (first.0, all ∙ first.1 ∙ ap (λ l. l ++ first.0) (sym ends))
