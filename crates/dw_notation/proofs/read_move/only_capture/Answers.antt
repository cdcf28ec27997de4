use Rattle.std.proofs.Common.{sym, ◌∙◌, subst, take, ◌+◌}
use Rattle.std.proofs.lemmas.Bool.{true≢false}
use Rattle.dw_notation.proofs.MoveAnswerLemmas.{FoundIn, passed, met, met_again}
use Rattle.dw_notation.proofs.read_move.only_capture.Goals.{then-is_capture_between+else-is_some}
use Rattle.dw_notation.proofs.read_move.only_capture.Goals.{else-is_capture_between}
use Rattle.dw_notation.proofs.read_move.only_capture.Goals as goal

pub returns-then-is_some : goal.returns-then-is_some
returns-then-is_some g c =
    met_again c.args.moves.now c.args.from c.args.to c.moves.mv-index c.mv-item.result c.moves-test.true c.mv-item.is
    c.moves.found (sym c.is_some.ensures ∙ c.if-is_some.true) c.requires c.moves.invariant
    (c.is_capture_between.ensures.0 c.if-is_capture_between.true)

pub moves-preserved : goal.moves-preserved
moves-preserved g c = elim c.if-is_capture_between.branch [
  | then-is_capture_between+else-is_some w ↦
      subst (FoundIn (take (c.moves.mv-index + 1) c.args.moves.now) c.args.from c.args.to) (sym w.found-is)
      (met c.args.moves.now c.args.from c.args.to c.moves.mv-index c.mv-item.result c.moves-test.true c.mv-item.is
      c.moves.found (sym w.is_some.ensures ∙ w.if-is_some.false) c.moves.invariant
      (c.is_capture_between.ensures.0 w.if-is_capture_between.true))
  | else-is_capture_between w ↦
      subst (FoundIn (take (c.moves.mv-index + 1) c.args.moves.now) c.args.from c.args.to) (sym w.found-is)
      (passed c.args.moves.now c.args.from c.args.to c.moves.mv-index c.mv-item.result c.moves-test.true c.mv-item.is
      c.moves.found c.moves.invariant (λ takes. true≢false (sym (c.is_capture_between.ensures.1 takes)
      ∙ w.if-is_capture_between.false)))
]
