use Rattle.std.proofs.Common.{sym, ap, ◌∙◌}
use Rattle.std.specs.String.{string_bytes}
use Rattle.dw_first_moves.specs.FirstMoves.{refuted_by}
use Rattle.dw_first_moves.specs.Telling.{effect_of}
use Rattle.dw_first_moves.specs.inner.EffectMoves.{reply_legal}
use Rattle.dw_first_moves.proofs.TextLemmas.{ok_so, refuted_made}
use Rattle.dw_first_moves.proofs.text.effect_text.Goals as goal

pub joined_text-requires : goal.joined_text-requires
joined_text-requires g c = reply_legal g.B.Board.geometry c.requires.0 c.args.after.now c.requires.1 c.requires.2
    (effect_of c.args.effect.now) c.in-RefutedBy.replies.items c.as_slice.result.now c.requires.4
    (sym (ap effect_of c.in-RefutedBy.is)) c.as_slice.ensures.value c.requires.3

pub returns-in_ok-joined-in-RefutedBy : goal.returns-in_ok-joined-in-RefutedBy
returns-in_ok-joined-in-RefutedBy g c = λ p m there. ok_so _ _ c.concat-in-RefutedBy.result (λ text e.
    refuted_made g.B.Board.geometry p c.args.after.now m (effect_of c.args.effect.now) c.as_slice.result.now
    (string_bytes c.in_ok-joined-in-RefutedBy.joined) c.as_str.result.now (string_bytes text) there
    (ap refuted_by c.as_slice.ensures.value ∙ sym (ap effect_of c.in-RefutedBy.is)) c.in_ok-joined-in-RefutedBy.ensures
    c.as_str.ensures.value e) c.concat-in-RefutedBy.ensures.ok
