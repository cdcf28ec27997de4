use Rattle.std.proofs.Common.{◌≡◌, ◌+◌, ◌∷◌, true, take, drop, slice_index, subst, sym, ap, ◌∙◌, arith}
use Rattle.std.proofs.lemmas.List.{drop_more}
use Rattle.std.specs.List.{list_all}
use Rattle.dw_notation.specs.Between.{IsBetween}
use Rattle.dw_notation.specs.inner.Sections.{transition}
use Rattle.dw_notation.specs.inner.Tags.{passes}
use Rattle.dw_notation.specs.declared.problems.pdn.automaton.Action.TheVariants.{Open}
use Rattle.dw_notation.proofs.BetweenLemmas.{state_of, is_comment, not_comment, IsBetween-passes, IsBetween-on}
use Rattle.dw_notation.proofs.BetweenLemmas.{begins_section, whole_rest}
use Rattle.dw_notation.proofs.problems.section_finder.SectionFinder.find.Goals as goal
use Rattle.dw_notation.proofs.problems.section_finder.SectionFinder.find.Goals.{in-Comment, in_default-matches}

pub bytes-init : goal.bytes-init
bytes-init c = record {
  within = c.passed-at.ensures.within;
  passed = IsBetween-passes c.args.self.now.is_comment _
      (subst (λ s. list_all (passes s) (take c.passed-at.result c.args.bytes.now) ≡ true) c.state.ensures
      c.passed-at.ensures.passed);
}

pub returns-in-Open-clause-some : goal.returns-in-Open-clause-some
returns-in-Open-clause-some c =
    let bytes = c.args.bytes.now in
    let byte = slice_index bytes c.bytes.at in
    let opens : (transition (state_of c.bytes.self.is_comment) byte).action ≡ Open =
    ap (λ s. (transition s byte).action) (sym c.state-in-bytes.ensures) ∙ ap (λ t. t.action) (sym
    c.transition-to.ensures) ∙ c.in-Open.is in
    let begins = begins_section c.bytes.self.is_comment byte opens in (
      omega arith,
      begins.0,
      subst (λ b. IsBetween c.args.self.now.is_comment b (take c.bytes.at bytes)) begins.0 c.bytes.invariant.passed,
      drop_more bytes c.bytes.at 0 (omega arith) ∙ ap (λ b. b ∷ drop (c.bytes.at + 1) bytes) begins.1,
    )

pub bytes-preserved : goal.bytes-preserved
bytes-preserved c =
    let bytes = c.args.bytes.now in
    let byte = slice_index bytes c.bytes.at in
    let is = c.bytes.self.is_comment in
    let to : c.transition-to.result ≡ transition (state_of is) byte =
    c.transition-to.ensures ∙ ap (λ s. transition s byte) c.state-in-bytes.ensures in
    let stands : c.match-matches.self ≡ is_comment (transition (state_of is) byte).state =
    elim c.match-matches.branch [
      | in-Comment w ↦ w.self-is ∙ sym (ap (λ t. is_comment t.state) (sym to) ∙ ap is_comment w.in-Comment.is)
      | in_default-matches w ↦ w.self-is ∙ sym (ap (λ t. is_comment t.state) (sym to)
          ∙ not_comment c.transition-to.result.state w.in_default-matches.not-Comment)
    ] in
    record {
      within = omega (arith, c.passed-at-in-bytes.ensures.within);
      passed = IsBetween-on c.args.self.now.is_comment is c.match-matches.self c.bytes.at c.passed-at-in-bytes.result
          bytes (omega arith) c.bytes.invariant.passed
          (λ h. c.in_default.not-Open (ap (λ t. t.action) to ∙ h)) stands
          (subst (λ s. list_all (passes s) (take c.passed-at-in-bytes.result (drop (c.bytes.at + 1) bytes)) ≡ true)
          c.state-in-bytes-2.ensures (subst (λ l. list_all (passes c.state-in-bytes-2.result)
          (take c.passed-at-in-bytes.result l) ≡ true) (whole_rest (c.bytes.at + 1) bytes)
          c.passed-at-in-bytes.ensures.passed));
    }
