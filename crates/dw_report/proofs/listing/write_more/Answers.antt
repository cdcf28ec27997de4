use Rattle.std.proofs.Common.{◌∙◌, sym, subst, OnOk, OnErr}
use Rattle.dw_notation.specs.Streams.{Appends}
use Rattle.dw_notation.specs.Writes.{StopsShort}
use Rattle.dw_report.proofs.LineRowLemmas.{tells_after, tells_none}
use Rattle.dw_report.proofs.listing.write_more.Goals as goal

pub returns-then-has_tokens-clause-ok : goal.returns-then-has_tokens-clause-ok
returns-then-has_tokens-clause-ok g c =
    subst (λ z. OnOk c.write_more_after.result (Appends (g.K.Sink.accepted c.args.sink.now)
    (g.K.Sink.accepted c.write_more_after.new.sink) z))
    (tells_after g.B.Board.geometry c.args.last.now (sym c.has_tokens.ensures ∙ c.if-has_tokens.true))
    c.write_more_after.ensures.ok

pub returns-then-has_tokens-clause-err : goal.returns-then-has_tokens-clause-err
returns-then-has_tokens-clause-err g c =
    subst (λ z. OnErr c.write_more_after.result (StopsShort (g.K.Sink.accepted c.args.sink.now)
    (g.K.Sink.accepted c.write_more_after.new.sink) z))
    (tells_after g.B.Board.geometry c.args.last.now (sym c.has_tokens.ensures ∙ c.if-has_tokens.true))
    c.write_more_after.ensures.err

pub returns-else-has_tokens-clause-ok : goal.returns-else-has_tokens-clause-ok
returns-else-has_tokens-clause-ok g c =
    subst (λ z. OnOk c.write_all.result (Appends (g.K.Sink.accepted c.args.sink.now)
    (g.K.Sink.accepted c.write_all.new.sink) z))
    (c.as_bytes.ensures.value
    ∙ tells_none g.B.Board.geometry c.args.last.now (sym c.has_tokens.ensures ∙ c.if-has_tokens.false))
    c.write_all.ensures.ok

pub returns-else-has_tokens-clause-err : goal.returns-else-has_tokens-clause-err
returns-else-has_tokens-clause-err g c =
    subst (λ z. OnErr c.write_all.result (StopsShort (g.K.Sink.accepted c.args.sink.now)
    (g.K.Sink.accepted c.write_all.new.sink) z))
    (c.as_bytes.ensures.value
    ∙ tells_none g.B.Board.geometry c.args.last.now (sym c.has_tokens.ensures ∙ c.if-has_tokens.false))
    c.write_all.ensures.err
