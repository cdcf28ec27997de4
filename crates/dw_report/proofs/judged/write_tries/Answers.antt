use Rattle.std.proofs.Common.{◌≡◌, [], map, refl, sym, ap, ◌∙◌, subst, Err}
use Rattle.std.proofs.lemmas.Result.{err_from_is_err_and}
use Rattle.dw_moves.specs.Moves.{Legal}
use Rattle.dw_moves.specs.Order.{Precedes, IsListOf}
use Rattle.dw_notation.specs.inner.Writes.{Writes}
use Rattle.dw_report.specs.inner.JudgedText.{IsTryText}
use Rattle.dw_report.specs.inner.Running.{TextEnds, SinkEnds}
use Rattle.dw_verdict.specs.inner.GatheredLemmas.{item_among}
use Rattle.dw_report.proofs.SpendingLemmas.{counted_none, counted_then}
use Rattle.dw_report.proofs.FaultLemmas.{sink_same, sink_stopped, spends_same, spends_done, spends_no_memory}
use Rattle.dw_report.proofs.FaultLemmas.{spends_further}
use Rattle.dw_report.proofs.TryTextLemmas.{none_written, at_first, at_next, at_fault, at_end}
use Rattle.dw_solve.specs.Work.{cut_off}
use Rattle.dw_report.proofs.WorkLemmas.{cut_few, ended, further, whole}
use Rattle.dw_report.proofs.judged.write_tries.Goals as goal

pub returns-in_err-list-clause-text : goal.returns-in_err-list-clause-text
returns-in_err-list-clause-text g c =
    let why = err_from_is_err_and c.from_residual.result c.from_residual.ensures.1 in
    none_written c.wins_are_decided.ensures c.moves_in_order.ensures c.moves_have_keys.ensures
    c.moves_have_texts.ensures g.B.Board.geometry g.met.B.Board.numbers c.args.position.now c.args.moves
    (g.K.Sink.accepted c.args.sink.now) c.from_residual.result _ _ why.1 why.2

pub moves-init : goal.moves-init
moves-init g c = record {
  wrote = at_first c.wins_are_decided.ensures c.moves_in_order.ensures c.moves_have_keys.ensures
      c.moves_have_texts.ensures g.B.Board.geometry g.met.B.Board.numbers c.args.position.now c.args.moves
      (λ item. item.step) c.as_slice-item-items.result.now (g.K.Sink.accepted c.args.sink.now);
  sink = refl;
  counted = counted_none c.args.solver.now c.keeps_its_limit.ensures;
  searched = c.searches_add_up.ensures.none g.B.Board.geometry c.args.moves _;
}

pub write_try-requires-clause-legal : goal.write_try-requires-clause-legal
write_try-requires-clause-legal g c =
    let geo = g.B.Board.geometry in
    let p = c.args.position.now in
    let all = subst (λ z. IsListOf (Precedes geo p) (Legal geo p) (map (λ item. item.step) z))
    (sym c.as_slice-item-items.ensures.value) c.in_ok-list.ensures.in_order in
    subst (Legal geo p) (sym (ap (λ l. l.step) c.item.view_is))
    (item_among (λ item. item.step) (Precedes geo p) (Legal geo p) c.as_slice-item-items.result.now c.moves.item-index
    c.item-item.result all c.moves-test.true c.item-item.is)

pub returns-in_err-write_try-clause-text : goal.returns-in_err-write_try-clause-text
returns-in_err-write_try-clause-text g c =
    let geo = g.B.Board.geometry in
    let p = c.args.position.now in
    let n = c.args.moves in
    let items = c.as_slice-item-items.result.now in
    let old = g.K.Sink.accepted c.args.sink.now in
    let mid = g.K.Sink.accepted c.moves.sink in
    let new = g.K.Sink.accepted c.write_try.new.sink in
    let all = subst (λ z. IsListOf (Precedes geo p) (Legal geo p) (map (λ item. item.step) z))
    (sym c.as_slice-item-items.ensures.value) c.in_ok-list.ensures.in_order in
    let one = subst (λ m. TextEnds (IsTryText geo p n m) (λ out. out ≡ []) mid new c.write_try.result)
    (ap (λ l. l.step) c.item.view_is) c.write_try.ensures.text in
    let why = err_from_is_err_and c.from_residual-in_err-write_try.result c.from_residual-in_err-write_try.ensures.1 in
    at_fault c.wins_are_decided.ensures c.moves_in_order.ensures c.moves_have_keys.ensures c.moves_have_texts.ensures
    geo g.met.B.Board.numbers p n (λ item. item.step) items c.moves.item-index c.item-item.result old mid new
    c.write_try.result c.from_residual-in_err-write_try.result c.in_err-write_try.field-0.0 why.0 all c.moves-test.true
    c.item-item.is c.moves.invariant.wrote c.in_err-write_try.was why.1 (sym why.2) one

pub moves-preserved : goal.moves-preserved
moves-preserved g c =
    let geo = g.B.Board.geometry in
    let p = c.args.position.now in
    let n = c.args.moves in
    let items = c.as_slice-item-items.result.now in
    let old = g.K.Sink.accepted c.args.sink.now in
    let mid = g.K.Sink.accepted c.moves.sink in
    let new = g.K.Sink.accepted c.write_try.new.sink in
    let all = subst (λ z. IsListOf (Precedes geo p) (Legal geo p) (map (λ item. item.step) z))
    (sym c.as_slice-item-items.ensures.value) c.in_ok-list.ensures.in_order in
    let one = subst (λ m. Writes (IsTryText geo p n m) mid new) (ap (λ l. l.step) c.item.view_is)
    c.in_ok-write_try.ensures.text in
    record {
      wrote = at_next c.wins_are_decided.ensures c.moves_in_order.ensures c.moves_have_keys.ensures
          c.moves_have_texts.ensures geo g.met.B.Board.numbers p n (λ item. item.step) items c.moves.item-index
          c.item-item.result old mid new all c.moves-test.true c.item-item.is c.moves.invariant.wrote one;
      sink = c.in_ok-write_try.ensures.sink ∙ c.moves.invariant.sink;
      counted = counted_then c.args.solver.now c.moves.solver c.write_try.new.solver c.moves.invariant.counted
          c.in_ok-write_try.ensures.spends.count;
      searched = further c.searches_add_up.ensures geo n 0 _ _ _ c.moves.invariant.searched
          c.in_ok-write_try.ensures.searched;
    }

pub returns-clause-text : goal.returns-clause-text
returns-clause-text g c =
    let geo = g.B.Board.geometry in
    let p = c.args.position.now in
    let n = c.args.moves in
    let items = c.as_slice-item-items.result.now in
    let all = subst (λ z. IsListOf (Precedes geo p) (Legal geo p) (map (λ item. item.step) z))
    (sym c.as_slice-item-items.ensures.value) c.in_ok-list.ensures.in_order in
    at_end c.wins_are_decided.ensures c.moves_in_order.ensures c.moves_have_keys.ensures c.moves_have_texts.ensures geo
    g.met.B.Board.numbers p n (λ item. item.step) items c.moves.item-index (g.K.Sink.accepted c.args.sink.now)
    (g.K.Sink.accepted c.moves.sink) all c.moves-test.false c.moves.invariant.wrote

pub returns-in_err-list-clause-sink : goal.returns-in_err-list-clause-sink
returns-in_err-list-clause-sink g c =
    let why = err_from_is_err_and c.from_residual.result c.from_residual.ensures.1 in
    let sink = g.K.Sink.is_failed c.args.sink.now in
    sink_stopped sink sink c.from_residual.result _ (why.1 ∙ ap Err why.2) refl

pub returns-in_err-list-clause-spends : goal.returns-in_err-list-clause-spends
returns-in_err-list-clause-spends g c =
    let why = err_from_is_err_and c.from_residual.result c.from_residual.ensures.1 in
    spends_no_memory c.args.solver.now c.args.solver.now c.from_residual.result why.0 why.1 why.2
    (counted_none c.args.solver.now c.keeps_its_limit.ensures)

pub returns-in_err-write_try-clause-sink : goal.returns-in_err-write_try-clause-sink
returns-in_err-write_try-clause-sink g c =
    let end = c.from_residual-in_err-write_try in
    let why = err_from_is_err_and end.result end.ensures.1 in
    let new = g.K.Sink.is_failed c.write_try.new.sink in
    subst (λ z. SinkEnds z new end.result) c.moves.invariant.sink (sink_same (g.K.Sink.is_failed c.moves.sink) new
    c.write_try.result end.result c.in_err-write_try.field-0.0 why.0 c.in_err-write_try.was why.1 (sym why.2)
    c.write_try.ensures.sink)

pub returns-in_err-write_try-clause-spends : goal.returns-in_err-write_try-clause-spends
returns-in_err-write_try-clause-spends g c =
    let end = c.from_residual-in_err-write_try in
    let why = err_from_is_err_and end.result end.ensures.1 in
    let new = c.write_try.new.solver in
    spends_same c.args.solver.now new c.write_try.result end.result c.in_err-write_try.field-0.0 why.0
    c.in_err-write_try.was why.1 (sym why.2) (spends_further c.args.solver.now c.moves.solver new c.write_try.result
    c.moves.invariant.counted c.write_try.ensures.spends)

pub returns-clause-spends : goal.returns-clause-spends
returns-clause-spends g c =
    spends_done c.args.solver.now c.moves.solver _ c.moves.invariant.counted

pub returns-in_err-list-clause-searched : goal.returns-in_err-list-clause-searched
returns-in_err-list-clause-searched g c =
    let geo = g.B.Board.geometry in
    let n = c.args.moves in
    whole geo n c.from_residual.result _ _ (c.searches_add_up.ensures.none geo n _)

pub returns-in_err-write_try-clause-searched : goal.returns-in_err-write_try-clause-searched
returns-in_err-write_try-clause-searched g c =
    let geo = g.B.Board.geometry in
    let n = c.args.moves in
    let end = c.from_residual-in_err-write_try in
    let why = err_from_is_err_and end.result end.ensures.1 in
    ended geo n (cut_off c.write_try.result n) end.result why.0 _ _ why.1 (cut_few c.write_try.result n)
    (further c.searches_add_up.ensures geo n (cut_off c.write_try.result n) _ _ _ c.moves.invariant.searched
    c.write_try.ensures.searched)

pub returns-clause-searched : goal.returns-clause-searched
returns-clause-searched g c = c.moves.invariant.searched
