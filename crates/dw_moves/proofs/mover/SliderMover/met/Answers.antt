use Rattle.std.proofs.Common.{sym, subst, refl}
use Rattle.std.specs.Prelude.{IsNone}
use Rattle.std.proofs.lemmas.Option.{IfSome_then}
use Rattle.dw_moves.proofs.KingMeetLemmas.{king_over, king_none}
use Rattle.dw_moves.proofs.SquareSetLemmas.{in_and, in_none}
use Rattle.dw_moves.proofs.mover.SliderMover.met.Goals as goal

pub returns-clause-none : goal.returns-clause-none
returns-clause-none g c = λ e p side ground.
    king_none g.met.B.Board.numbers c.requires ground (record {
      here_is = c.one.ensures;
      reached_is = c.slid_near-reached.ensures.reached;
      next_is = c.shifted.ensures;
      met_is = c.and.ensures;
    }) (λ q. in_none c.and.result q (c.first.ensures.none.0 (subst IsNone (sym e) refl)))

pub returns-clause-some : goal.returns-clause-some
returns-clause-some g c = IfSome_then c.first.result c.first.ensures.member (λ q i p side ground.
    king_over g.met.B.Board.numbers c.requires ground (record {
      here_is = c.one.ensures;
      reached_is = c.slid_near-reached.ensures.reached;
      next_is = c.shifted.ensures;
      met_is = c.and.ensures;
    }) q i)

pub returns-clause-enemy : goal.returns-clause-enemy
returns-clause-enemy g c =
    IfSome_then c.first.result c.first.ensures.member (λ q i.
    ((in_and c.shifted.result c.args.field.now.enemies c.and.result q c.and.ensures).0 i).1)
