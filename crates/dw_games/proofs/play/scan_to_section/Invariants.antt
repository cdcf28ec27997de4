use Rattle.dw_notation.specs.Buffering.{unread_in, input_of, weight}
use Rattle.dw_notation.specs.Between.{in_comment}
use Rattle.dw_games.specs.inner.Playing.{PlaysOn}
use Rattle.dw_games.proofs.play.scan_to_section.Given as goal

abbrev pub invariant-pieces : goal.invariant-pieces
invariant-pieces g l =
    let source = g.S.Source in
    PlaysOn source.supply source.is_failed source.pulls_left (input_of l.initial.source
    l.initial.buffer) (input_of l.source l.buffer) l.initial.kept
    l.kept (in_comment l.finder)

abbrev pub decreases-pieces : goal.decreases-pieces
decreases-pieces g l = weight (g.S.Source.pulls_left l.source) (unread_in l.buffer)
