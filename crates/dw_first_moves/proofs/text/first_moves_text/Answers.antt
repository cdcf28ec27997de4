use Rattle.std.proofs.Common.{◌∙◌, ◌++◌, ap}
use Rattle.dw_first_moves.specs.Telling.{told_by}
use Rattle.std.specs.String.{string_bytes}
use Rattle.dw_first_moves.proofs.TextLemmas.{effect_at, lines_next}
use Rattle.dw_first_moves.proofs.text.first_moves_text.Goals as goal

pub effect_line-requires : goal.effect_line-requires
effect_line-requires g c = (
  c.as_slice-moves.ensures.right.0,
  effect_at told_by g.B.Board.geometry c.position-position.result c.args.found.now.start c.args.found.now.effects
      c.as_slice-moves.result.now c.moves.one-index c.one-item.result c.as_slice-moves.ensures.right
      c.as_slice-moves.ensures.effects
      c.position-position.ensures c.moves-test.true c.one-item.is,
)

pub moves-preserved : goal.moves-preserved
moves-preserved g c = lines_next told_by g.B.Board.geometry c.position-position.result
    c.as_slice-moves.result.now c.moves.one-index
    c.one-item.result (string_bytes c.moves.text) (string_bytes c.in_ok-line.line) (string_bytes c.push_str.new.self)
    c.moves-test.true c.one-item.is c.moves.invariant c.in_ok-line.ensures
    (c.in_ok-push_str.ensures.bytes ∙ ap (λ z. string_bytes c.moves.text ++ z) c.as_str.ensures.value)
