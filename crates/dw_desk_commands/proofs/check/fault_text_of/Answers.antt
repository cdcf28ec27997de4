use Rattle.std.proofs.Common.{◌≡◌, ◌∙◌, ◌++◌, ap, sym, subst}
use Rattle.dw_notation.specs.Streams.{Appends}
use Rattle.dw_notation.specs.inner.StreamLemmas.{Appends-trans}
use Rattle.dw_notation.specs.Problems.{numbered}
use Rattle.dw_report.specs.Report.{first_line}
use Rattle.dw_desk_commands.specs.Check.{fault_text, solution_fault_line}
use Rattle.dw_desk_commands.proofs.check.fault_text_of.Goals as goal

pub returns : goal.returns
returns g c =
    let geo = g.B.Board.geometry in
    let problem = numbered c.args.problem.now in
    let start = c.new-text.result.items in
    let middle = c.push.new.text.items in
    let end = c.push-2.new.text.items in
    let all = Appends-trans start middle end (first_line geo problem) (solution_fault_line c.args.what c.args.place)
    (subst (Appends start middle) (c.as_bytes.ensures.value ∙ (c.as_str.ensures.value ∙ c.problem_line.ensures))
    c.in_ok-push.ensures)
    (subst (Appends middle end) (c.as_bytes-2.ensures.value
    ∙ (c.as_str-2.ensures.value ∙ c.in_ok-solution_fault_line.ensures)) c.in_ok-push-2.ensures) in
    subst (λ z. end ≡ fault_text geo z problem c.args.position.now c.args.what c.args.place)
    (sym c.if-json.false)
    (all.grown ∙ ap (λ z. z ++ (first_line geo problem ++ solution_fault_line c.args.what c.args.place))
    c.new-text.ensures.items)
