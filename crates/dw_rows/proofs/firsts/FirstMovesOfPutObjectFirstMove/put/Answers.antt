use Rattle.std.proofs.Common.{◌∙◌, ◌∷◌, [], ap, sym, subst}
use Rattle.std.specs.Prelude.{codes}
use Rattle.json.specs.Json.{string}
use Rattle.dw_board.specs.FenText.{written}
use Rattle.dw_notation.specs.Text.{IsMoveText}
use Rattle.dw_first_moves.specs.Telling.{effect_of}
use Rattle.dw_json.specs.Rows.{Member}
use Rattle.dw_json.specs.inner.Composing.{both, then_ok}
use Rattle.dw_first_moves.specs.inner.EffectMoves.{is_legal}
use Rattle.dw_rows.proofs.firsts.FirstMovesOfPutObjectFirstMove.put.Goals as goal

pub text_in-requires : goal.text_in-requires
text_in-requires g c = is_legal g.B.Board.geometry c.args.self.now.position.now c.requires.0 c.args.item.now.mv
    (effect_of c.args.item.now.effect) c.requires.1

pub put_effect-requires : goal.put_effect-requires
put_effect-requires g c = (
  c.args.self.now.position.now,
  c.requires.0,
  c.args.item.now.mv,
  c.requires.1,
  c.play-after.ensures,
)

pub returns : goal.returns
returns g c =
    let geo = g.B.Board.geometry in
    let p = c.args.self.now.position.now in
    let m1 : Member = (codes "move", string c.as_str.result.now) in
    let m2 : Member = (codes "fen", string c.as_str-2.result.now) in
    then_ok c.put_effect.result (c.put_effect.ensures p c.args.item.now.mv c.play-after.ensures) (λ effect. (
      m1 ∷ m2 ∷ effect.0 ∷ [],
      (
        c.as_str.result.now,
        effect.0,
        subst (IsMoveText geo p c.args.item.now.mv) (sym c.as_str.ensures.value) c.in_ok-text.ensures.text,
        effect.1,
        ap (λ z. m1 ∷ (codes "fen", string z) ∷ effect.0 ∷ [])
            (c.as_str-2.ensures.value ∙ (c.fen_text.ensures ∙ ap (written geo) c.play-after.ensures)),
      ),
      both (m1 ∷ m2 ∷ []) (effect.0 ∷ []) _ _ _ (both (m1 ∷ []) (m2 ∷ []) _ _ _ c.in_ok-put_text.ensures
          c.in_ok-put_text-2.ensures) effect.2,
    ))
