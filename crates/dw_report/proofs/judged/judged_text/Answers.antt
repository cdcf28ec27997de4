use Rattle.std.proofs.Common.{◌++◌, ◌+◌, ap, ◌∙◌, subst, sym}
use Rattle.std.specs.String.{string_bytes}
use Rattle.dw_verdict.specs.Judging.{said_by}
use Rattle.dw_verdict.specs.Verdict.{Tries}
use Rattle.dw_report.proofs.TryTextLemmas.{TextTo, try_among, text_next}
use Rattle.dw_report.proofs.judged.judged_text.Goals as goal

pub try_line-requires-clause-step : goal.try_line-requires-clause-step
try_line-requires-clause-step g c = (try_among g.B.Board.geometry c.args.position.now c.args.moves
    c.as_slice-tried-items.result.now c.tries.tried-index c.tried-item.result
    (subst (Tries g.B.Board.geometry c.args.position.now c.args.moves) (sym c.as_slice-tried-items.ensures.value)
    c.requires.tries) c.tries-test.true c.tried-item.is).0

pub try_line-requires-clause-reply : goal.try_line-requires-clause-reply
try_line-requires-clause-reply g c = (try_among g.B.Board.geometry c.args.position.now c.args.moves
    c.as_slice-tried-items.result.now c.tries.tried-index c.tried-item.result
    (subst (Tries g.B.Board.geometry c.args.position.now c.args.moves) (sym c.as_slice-tried-items.ensures.value)
    c.requires.tries) c.tries-test.true c.tried-item.is).2.refutes.0

pub tries-preserved : goal.tries-preserved
tries-preserved g c = subst (λ z. TextTo g.B.Board.geometry c.args.position.now c.args.moves
    (said_by c.args.judged.now.verdict) c.as_slice-tried-items.result.now (c.tries.tried-index + 1) z)
    (sym (c.in_ok-push_str.ensures.bytes ∙ ap (λ z. string_bytes c.tries.text ++ z) c.as_str.ensures.value))
    (text_next g.B.Board.geometry c.args.position.now c.args.moves (said_by c.args.judged.now.verdict)
    c.as_slice-tried-items.result.now c.tries.tried-index c.tried-item.result (string_bytes c.tries.text)
    (string_bytes c.in_ok-line.line) c.tries.invariant c.tries-test.true c.tried-item.is c.in_ok-line.ensures)
