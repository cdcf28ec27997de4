use Rattle.std.proofs.Common.{codes, subst, OnOk, OnErr}
use Rattle.dw_notation.specs.Streams.{Appends}
use Rattle.std.proofs.lemmas.Result.{err_from_is_err_and}
use Rattle.dw_list.specs.Tokens.{token_of}
use Rattle.dw_notation.specs.Writes.{StopsShort}
use Rattle.dw_report.proofs.LineRowLemmas.{first_short, second_short, last_written, last_short}
use Rattle.dw_report.proofs.listing.write_more_after.Goals as goal

pub returns-in_err-write_all-clause-err : goal.returns-in_err-write_all-clause-err
returns-in_err-write_all-clause-err g c =
    let why = err_from_is_err_and c.from_residual.result c.from_residual.ensures.1 in
    rw why.1 (first_short _ _ (codes "more after ") (token_of g.B.Board.geometry c.args.last.now) (codes "\n")
    (subst (StopsShort _ _) c.as_bytes.ensures.value c.in_err-write_all.ensures.err))

pub returns-in_err-write_token-clause-err : goal.returns-in_err-write_token-clause-err
returns-in_err-write_token-clause-err g c =
    let why = err_from_is_err_and c.from_residual-in_err-write_token.result
    c.from_residual-in_err-write_token.ensures.1 in
    rw why.1 (second_short _ _ _ (codes "more after ") (token_of g.B.Board.geometry c.args.last.now) (codes "\n")
    (subst (Appends _ _) c.as_bytes.ensures.value c.in_ok-write_all.ensures.ok) c.in_err-write_token.ensures.err)

pub returns-clause-ok : goal.returns-clause-ok
returns-clause-ok g c =
    last_written _ _ _ _ (codes "more after ") (token_of g.B.Board.geometry c.args.last.now) (codes "\n")
    c.write_all-2.result (subst (Appends _ _) c.as_bytes.ensures.value c.in_ok-write_all.ensures.ok)
    c.in_ok-write_token.ensures.ok
    (subst (λ z. OnOk c.write_all-2.result (Appends (g.K.Sink.accepted c.write_token.new.sink)
    (g.K.Sink.accepted c.write_all-2.new.sink) z)) c.as_bytes-2.ensures.value c.write_all-2.ensures.ok)

pub returns-clause-err : goal.returns-clause-err
returns-clause-err g c =
    last_short _ _ _ _ (codes "more after ") (token_of g.B.Board.geometry c.args.last.now) (codes "\n")
    c.write_all-2.result (subst (Appends _ _) c.as_bytes.ensures.value c.in_ok-write_all.ensures.ok)
    c.in_ok-write_token.ensures.ok
    (subst (λ z. OnErr c.write_all-2.result (StopsShort (g.K.Sink.accepted c.write_token.new.sink)
    (g.K.Sink.accepted c.write_all-2.new.sink) z)) c.as_bytes-2.ensures.value c.write_all-2.ensures.err)
