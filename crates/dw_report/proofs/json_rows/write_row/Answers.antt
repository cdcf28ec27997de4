use Rattle.std.proofs.Common.{◌≡◌, ◌∙◌, refl, sym, ap, subst, Err, IsOkAnd}
use Rattle.dw_notation.specs.Streams.{Appends}
use Rattle.std.specs.String.{string_bytes}
use Rattle.std.proofs.lemmas.Result.{err_from_is_err_and}
use Rattle.dw_notation.specs.Writes.{StopsShort}
use Rattle.dw_report.proofs.WritingLemmas.{at_sink}
use Rattle.dw_report.proofs.FaultLemmas.{sink_failed, not_stopped, ok_not_stopped}
use Rattle.dw_report.proofs.json_rows.write_row.Goals as goal

pub returns-in_err-write_all-in-Ok-clause-text : goal.returns-in_err-write_all-in-Ok-clause-text
returns-in_err-write_all-in-Ok-clause-text g c =
    let why = err_from_is_err_and c.from_residual.result c.from_residual.ensures.1 in
    at_sink _ _ _ _ c.from_residual.result (why.1 ∙ ap Err why.2) (record {
      text = string_bytes c.in-Ok.line;
      is = subst (λ row. IsOkAnd row (λ line. string_bytes c.in-Ok.line ≡ string_bytes line)) (sym c.in-Ok.is) refl;
      stops = subst (StopsShort _ _) (c.as_bytes.ensures.value ∙ c.as_str.ensures.value)
          c.in_err-write_all-in-Ok.ensures.err;
    })

pub returns-in_ok-write_all-in-Ok-clause-text : goal.returns-in_ok-write_all-in-Ok-clause-text
returns-in_ok-write_all-in-Ok-clause-text g c = record {
  text = string_bytes c.in-Ok.line;
  is = subst (λ row. IsOkAnd row (λ line. string_bytes c.in-Ok.line ≡ string_bytes line)) (sym c.in-Ok.is) refl;
  wrote = subst (Appends _ _) (c.as_bytes.ensures.value ∙ c.as_str.ensures.value) c.in_ok-write_all-in-Ok.ensures.ok;
}

pub returns-in_err-write_all-in-Ok-clause-sink : goal.returns-in_err-write_all-in-Ok-clause-sink
returns-in_err-write_all-in-Ok-clause-sink g c =
    let why = err_from_is_err_and c.from_residual.result c.from_residual.ensures.1 in
    sink_failed (g.K.Sink.is_failed c.args.sink.now) (g.K.Sink.is_failed c.write_all.new.sink) c.from_residual.result
    (why.1 ∙ ap Err why.2) (c.in_err-write_all-in-Ok.ensures.failed refl)

pub returns-in_err-write_all-in-Ok-clause-memory : goal.returns-in_err-write_all-in-Ok-clause-memory
returns-in_err-write_all-in-Ok-clause-memory g c =
    let why = err_from_is_err_and c.from_residual.result c.from_residual.ensures.1 in
    not_stopped c.from_residual.result (why.1 ∙ ap Err why.2)

pub returns-in_ok-write_all-in-Ok-clause-memory : goal.returns-in_ok-write_all-in-Ok-clause-memory
returns-in_ok-write_all-in-Ok-clause-memory g c = λ why e. absurd (ok_not_stopped _ why e)
