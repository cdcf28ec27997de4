use Rattle.std.specs.String.{string_bytes}
use Rattle.dw_first_moves.specs.Telling.{effect_of, told_by}
use Rattle.dw_first_moves.specs.inner.EffectMoves.{is_legal}
use Rattle.dw_first_moves.proofs.TextLemmas.{line_made, ok_so}
use Rattle.dw_first_moves.proofs.text.effect_line.Goals as goal

pub text_in-requires : goal.text_in-requires
text_in-requires g c = is_legal g.B.Board.geometry c.args.position.now c.requires.0 c.args.one.now.mv
    (effect_of c.args.one.now.effect) c.requires.1

pub returns : goal.returns
returns g c = ok_so _ _ c.concat.result (λ line e. line_made g.B.Board.geometry c.args.position.now
    (told_by c.args.one.now) c.in_ok-mv.mv.bytes (string_bytes c.in_ok-effect.effect) c.as_str.result.now
    c.as_str-2.result.now (string_bytes line) c.in_ok-mv.ensures.text
    (c.in_ok-effect.ensures c.args.position.now c.args.one.now.mv c.play.ensures) c.as_str.ensures.value
    c.as_str-2.ensures.value e) c.concat.ensures.ok
