use Rattle.std.proofs.Common.{ap, map, refl, sym, subst}
use Rattle.std.specs.Prelude.{codes}
use Rattle.std.specs.String.{string_bytes}
use Rattle.dw_first_moves.specs.Telling.{effect_of}
use Rattle.dw_json.specs.Rows.{count, texts}
use Rattle.dw_json.specs.inner.Composing.{then_ok}
use Rattle.dw_notation.specs.Text.{AreMoveTexts}
use Rattle.dw_rows.specs.FirstMovesRow.{IsEffectMember}
use Rattle.dw_first_moves.specs.inner.EffectMoves.{reply_legal}
use Rattle.dw_rows.proofs.firsts.put_effect.Goals as goal

pub each_move_text-requires : goal.each_move_text-requires
each_move_text-requires g c = reply_legal g.B.Board.geometry c.requires.0 c.args.after.now c.requires.1 c.requires.2
    (effect_of c.args.effect.now) c.in-RefutedBy.replies.items c.as_slice.result.now c.requires.4
    (sym (ap effect_of c.in-RefutedBy.is)) c.as_slice.ensures.value c.requires.3

pub returns-in-WinsIn : goal.returns-in-WinsIn
returns-in-WinsIn g c = λ p m there. then_ok c.put_number.result c.put_number.ensures (λ written. (
  (codes "wins_in", count c.into.result),
  subst (λ z. IsEffectMember g.B.Board.geometry p m (effect_of z) (codes "wins_in", count c.into.result))
      (sym c.in-WinsIn.is) (ap (λ z. (codes "wins_in", count z)) c.into.ensures),
  written,
))

pub returns-in_ok-texts-in-RefutedBy : goal.returns-in_ok-texts-in-RefutedBy
returns-in_ok-texts-in-RefutedBy g c = λ p m there. then_ok c.put_texts.result c.put_texts.ensures (λ written.
    let all = map string_bytes c.as_slice-in-RefutedBy.result.now in (
      (codes "refuted_by", texts all),
      subst (λ z. IsEffectMember g.B.Board.geometry p m (effect_of z) (codes "refuted_by", texts all))
          (sym c.in-RefutedBy.is) (
            all,
            subst (λ z. AreMoveTexts g.B.Board.geometry z c.in-RefutedBy.replies.items all) there
                (subst (λ z. AreMoveTexts g.B.Board.geometry c.args.after.now z all) c.as_slice.ensures.value
                (subst (AreMoveTexts g.B.Board.geometry c.args.after.now c.as_slice.result.now)
                (sym (ap (map string_bytes) c.as_slice-in-RefutedBy.ensures.value))
                c.in_ok-texts-in-RefutedBy.ensures)),
            refl,
          ),
      written,
    ))
