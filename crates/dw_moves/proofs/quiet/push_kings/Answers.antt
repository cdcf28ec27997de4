use Rattle.std.proofs.Common.{subst, refl}
use Rattle.dw_moves.proofs.SquareSetLemmas.{fewer_left}
use Rattle.dw_board.specs.declared.piece.Kind.TheVariants.{King}
use Rattle.dw_moves.proofs.GlanceSetLemmas.{AreKind}
use Rattle.dw_moves.proofs.AddingLemmas.{going_none, going_more, going_all}
use Rattle.dw_moves.proofs.quiet.push_kings.Goals as goal

pub squares-init : goal.squares-init
squares-init g c = going_none g.met.B.Board.numbers (subst (λ z. AreKind g.B.Board.geometry c.args.position.now z King
    c.squares-left.result) c.turn.ensures.value c.squares-left.ensures)

pub squares-smaller : goal.squares-smaller
squares-smaller g c = fewer_left _ _ c.in-Some.ensures.rest c.in-Some.ensures.member

pub squares-preserved : goal.squares-preserved
squares-preserved g c = going_more g.met.B.Board.numbers _ c.in-Some.ensures.member c.in-Some.ensures.rest
    c.squares.invariant c.in_ok-push_king.ensures

pub returns : goal.returns
returns g c = going_all g.met.B.Board.numbers (c.in_default.ensures.none.0 refl) c.squares.invariant
