use Rattle.std.proofs.Common.{◌≡◌, ◌++◌, ◌∷◌, [], ap, ◌∙◌, true, false, sym, subst, map, refl, Some, None}
use Rattle.std.specs.String.{string_bytes}
use Rattle.dw_report.specs.JudgedText.{next_number}
use Rattle.dw_study.specs.Telling.{texts_in}
use Rattle.dw_moves.specs.Moves.{Legal, play}
use Rattle.dw_study.proofs.WordLemmas.{fails_said}
use Rattle.dw_study.proofs.fields.failure_fields.Goals as goal

pub returns-then-not-is_legal-2-clause-some : goal.returns-then-not-is_legal-2-clause-some
returns-then-not-is_legal-2-clause-some g c = λ p b begun told.
    let there = c.play-after.ensures ∙ ap (λ z. play g.B.Board.geometry z c.args.mv.now) begun.position in
    let legal = subst (λ z. Legal g.B.Board.geometry z c.args.reply.now) (sym there) told.1 in
    let bad : true ≡ false = sym (c.is_legal-2.ensures.1 legal) ∙ c.if-not-is_legal-2.true in
    cc

pub returns-clause-words : goal.returns-clause-words
returns-clause-words g c = λ p b begun.
    fails_said g.B.Board.geometry p c.args.beginning.now.position c.play-after.result b c.args.mv.now c.args.reply.now
    begun.line c.in_ok-first.first.bytes c.in_ok-second.second.bytes (texts_in (record {
      line = c.in_ok-from_str-2.field-0;
      turn = c.turn.result;
      moves = c.push.new.self;
      refutation = Some c.in_ok-from_str-3.field-0;
      wins_in = None;
    })) begun.written
    (c.in_ok-from_str-2.ensures.ok ∙ (c.as_str-2.ensures.value ∙ begun.same)) begun.position c.play-after.ensures
    c.in_ok-first.ensures.text c.in_ok-second.ensures.text
    (ap (map string_bytes) (c.in_ok-push.ensures.items
    ∙ ap (λ z. z ++ c.in_ok-from_str.field-0 ∷ []) c.new-moves.ensures.items)
    ∙ ap (λ z. z ∷ []) (c.in_ok-from_str.ensures.ok ∙ c.as_str.ensures.value))
    (ap Some (c.in_ok-from_str-3.ensures.ok ∙ c.as_str-3.ensures.value)) refl
    (c.turn.ensures ∙ ap next_number begun.moves)
