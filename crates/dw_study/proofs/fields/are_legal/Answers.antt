use Rattle.std.proofs.Common.{◌≡◌, ◌∙◌, true, false, sym}
use Rattle.dw_study.proofs.BeginningLemmas.{legal_more, legal_no}
use Rattle.dw_study.proofs.fields.are_legal.Goals as goal

pub moves-preserved : goal.moves-preserved
moves-preserved g c = legal_more g.B.Board.geometry c.args.position.now c.args.moves.now c.moves.mv-index
    c.mv-item.result c.moves.invariant c.moves-test.true c.mv-item.is (c.is_legal.ensures.0 c.if-not-is_legal.false)

pub returns-then-not-is_legal : goal.returns-then-not-is_legal
returns-then-not-is_legal g c = (
  λ no. let bad : false ≡ true = no in cc,
  λ all. absurd (legal_no g.B.Board.geometry c.args.position.now c.args.moves.now c.moves.mv-index c.mv-item.result
      c.moves-test.true c.mv-item.is
      (λ legal. let bad : true ≡ false = sym (c.is_legal.ensures.1 legal) ∙ c.if-not-is_legal.true in cc) all),
)
