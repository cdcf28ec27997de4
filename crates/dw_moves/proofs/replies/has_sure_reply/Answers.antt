use Rattle.std.proofs.Common.{sym, ◌∙◌, refl, inr}
use Rattle.std.proofs.lemmas.Bool.{true≢false}
use Rattle.dw_moves.proofs.ShelterLemmas.{sure_reply}
use Rattle.dw_moves.proofs.ShelterSetLemmas.{few_steps, loose_steps, two_lead}
use Rattle.dw_moves.proofs.replies.has_sure_reply.Goals as goal

pub returns-then-not-has_two : goal.returns-then-not-has_two
returns-then-not-has_two g c =
    let no = few_steps g.B.Board.geometry c.args.position.now c.other_steps.result c.has_two.result
    c.other_steps.ensures c.has_two.ensures c.if-not-has_two.true in
    record {
      exact = ((λ yes. absurd (true≢false (sym yes))), (λ h. absurd (no h)));
      replies = λ yes. absurd (true≢false (sym yes));
    }

pub returns-then-has_two : goal.returns-then-has_two
returns-then-has_two g c =
    let safe = (two_lead c.safe_steps.result c.safe_steps.ensures).0 (c.has_two-2.ensures.0 c.if-has_two.true) in
    record {
      exact = ((λ yes. inr safe), (λ h. refl));
      replies = λ yes. sure_reply g.B.Board.geometry g.met.B.Board.numbers c.args.position.now (inr safe);
    }

pub returns : goal.returns
returns g c =
    let p = c.args.position.now in
    let exact = loose_steps g.B.Board.geometry p c.other_steps.result c.has_two.result c.other_steps.ensures
    c.has_two.ensures c.can_capture.result c.can_capture.ensures c.if-not-has_two.false
    (λ two. true≢false (sym (c.has_two-2.ensures.1 ((two_lead c.safe_steps.result c.safe_steps.ensures).1 two))
    ∙ c.if-has_two.false)) in
    record { exact = exact; replies = λ yes. sure_reply g.B.Board.geometry g.met.B.Board.numbers p (exact.0 yes) }
