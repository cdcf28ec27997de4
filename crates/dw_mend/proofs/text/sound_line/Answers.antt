use Rattle.std.specs.String.{string_bytes}
use Rattle.std.proofs.Common.{◌∙◌}
use Rattle.dw_mend.specs.Telling.{told_by}
use Rattle.dw_mend.proofs.TextLemmas.{line_made, ok_so}
use Rattle.dw_mend.proofs.text.sound_line.Goals as goal

pub returns : goal.returns
returns g c =
    ok_so _ _ c.concat.result (λ line e. line_made g.B.Board.geometry (told_by c.args.neighbour.now) c.args.moves
    c.args.key.now c.in_ok-key.key.bytes c.as_str.result.now c.as_str-2.result.now c.format.result.now
    c.as_str-3.result.now (string_bytes line) c.in_ok-key.ensures.text
    (c.as_str.ensures.value ∙ c.in_ok-change.ensures) (c.as_str-2.ensures.value ∙ c.fen_text-fen.ensures)
    c.format.ensures.text c.as_str-3.ensures.value e) c.concat.ensures.ok
