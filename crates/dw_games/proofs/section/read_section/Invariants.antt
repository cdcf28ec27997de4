use Rattle.dw_notation.specs.Buffering.{unread_in, input_of, weight}
use Rattle.dw_games.specs.inner.Sectioning.{ReadsOn}
use Rattle.dw_games.proofs.section.read_section.Given as goal

abbrev pub invariant-pieces : goal.invariant-pieces
invariant-pieces g l =
    let source = g.S.Source in
    ReadsOn g.B.Board.geometry source.supply source.is_failed source.pulls_left (input_of
    l.initial.source l.initial.buffer) (input_of l.source l.buffer)
    l.initial.row l.row l.initial.spaces l.spaces l.reader

abbrev pub decreases-pieces : goal.decreases-pieces
decreases-pieces g l = weight (g.S.Source.pulls_left l.source) (unread_in l.buffer)
