use Rattle.std.specs.String.{string_bytes}
use Rattle.dw_verdict.specs.Judging.{said_by}
use Rattle.dw_report.proofs.TryTextLemmas.{TextTo}
use Rattle.dw_report.proofs.judged.judged_text.Given as goal

abbrev pub invariant-tries : goal.invariant-tries
invariant-tries g l = TextTo g.B.Board.geometry l.position l.moves (said_by l.judged.verdict) l.tried-items
    l.tried-index (string_bytes l.text)
