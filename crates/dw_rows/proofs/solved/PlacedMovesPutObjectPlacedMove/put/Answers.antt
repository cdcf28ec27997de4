use Rattle.std.proofs.Common.{◌∙◌, ◌∷◌, [], ap, sym, subst}
use Rattle.std.specs.Prelude.{codes}
use Rattle.json.specs.Json.{string}
use Rattle.dw_board.specs.FenText.{written}
use Rattle.dw_notation.specs.Text.{IsMoveText}
use Rattle.dw_json.specs.Rows.{Member, count}
use Rattle.dw_json.specs.inner.Composing.{both, then_ok}
use Rattle.dw_rows.proofs.solved.PlacedMovesPutObjectPlacedMove.put.Goals as goal

pub returns : goal.returns
returns g c =
    let geo = g.B.Board.geometry in
    let one = c.args.item.now in
    let m1 : Member = (codes "depth", count one.depth) in
    let m2 : Member = (codes "move", string c.as_str.result.now) in
    let m3 : Member = (codes "fen", string c.as_str-2.result.now) in
    then_ok c.put_text-2.result c.put_text-2.ensures (λ last. (
      m1 ∷ m2 ∷ m3 ∷ [],
      (
        c.as_str.result.now,
        subst (IsMoveText geo one.before one.mv) (sym c.as_str.ensures.value) c.in_ok-text.ensures.text,
        ap (λ z. m1 ∷ m2 ∷ (codes "fen", string z) ∷ [])
            (c.as_str-2.ensures.value ∙ (c.fen_text.ensures ∙ ap (written geo) c.play-after.ensures)),
      ),
      both (m1 ∷ m2 ∷ []) (m3 ∷ []) _ _ _ (both (m1 ∷ []) (m2 ∷ []) _ _ _ c.in_ok-put_number.ensures
          c.in_ok-put_text.ensures) last,
    ))
