use Rattle.std.proofs.Common.{ℕ, ◌+◌, ◌-◌, ◌≡◌, ◌≤◌, sym, ◌∙◌, subst, arith, below_more}
use Rattle.std.proofs.lemmas.Bool.{true≢false}
use Rattle.dw_moves.specs.Moves.{play}
use Rattle.dw_moves.specs.Order.{Precedes, IsListOf}
use Rattle.dw_solve.specs.Wins.{Lost}
use Rattle.dw_verdict.specs.Verdict.{IsWinning, Refutes}
use Rattle.dw_solve.specs.inner.CountLemmas.{counted_then}
use Rattle.dw_first_moves.proofs.EffectLemmas.{lost_of, none_refutes, none_there, some_refutes}
use Rattle.dw_first_moves.proofs.EffectLemmas.{some_there, wins_with}
use Rattle.dw_first_moves.proofs.effects.effect_of.Goals as goal

one_less : (n : ℕ) → 1 ≤ n → n - 1 + 1 ≡ n
one_less n some = omega (arith, some)

pub moves-preserved : goal.moves-preserved
moves-preserved g c =
    let geo = g.B.Board.geometry in
    let here = c.in_ok-loses.ensures in
    record {
      none = below_more _ _ c.moves.invariant.none (λ wins. true≢false (sym (here.answer.1
          (subst (λ z. Lost geo z c.moves.left) (sym c.play-after.ensures)
          (lost_of geo c.args.position.now c.moves.left c.args.mv.now wins))) ∙ c.if-branch.false));
      count = counted_then _ _ _ _ _ _ c.moves.invariant.count here.asked.count;
      right = here.right;
      map = here.map;
    }

pub returns-then-branch-clause-effect : goal.returns-then-branch-clause-effect
returns-then-branch-clause-effect g c =
    let geo = g.B.Board.geometry in
    record {
      wins = wins_with geo c.args.position.now c.moves.left c.args.mv.now c.requires.legal
          (subst (λ z. Lost geo z c.moves.left) c.play-after.ensures (c.in_ok-loses.ensures.answer.0 c.if-branch.true));
      few = omega (arith, c.moves-test.true);
      none_less = c.moves.invariant.none;
    }

pub returns-then-is_empty-clause-effect : goal.returns-then-is_empty-clause-effect
returns-then-is_empty-clause-effect g c =
    let geo = g.B.Board.geometry in
    let p = c.args.position.now in
    let m = c.args.mv.now in
    let n = c.args.moves.value in
    let lost = none_refutes c.wins_are_decided.ensures geo c.play-after.result (n - 1) c.in_ok-replies.replies.items
    c.in_ok-replies.ensures.replies (none_there c.in_ok-replies.replies _ c.is_empty.ensures c.if-is_empty.true) in
    record {
      wins = subst (λ z. IsWinning geo p z m) (one_less n c.args.moves.some)
          (wins_with geo p (n - 1) m c.requires.legal
          (subst (λ z. Lost geo z (n - 1)) c.play-after.ensures lost));
      few = let e : n ≤ n = omega arith in e;
      none_less = λ j low. c.moves.invariant.none j (omega (arith, low, c.moves-test.false));
    }

pub returns-else-is_empty-clause-effect : goal.returns-else-is_empty-clause-effect
returns-else-is_empty-clause-effect g c =
    let geo = g.B.Board.geometry in
    let p = c.args.position.now in
    let m = c.args.mv.now in
    let n = c.args.moves.value in
    let replies = subst (λ z. IsListOf (Precedes geo z) (Refutes geo z (n - 1)) c.in_ok-replies.replies.items)
    c.play-after.ensures c.in_ok-replies.ensures.replies in (
      c.requires.legal,
      (λ wins. some_refutes geo (play geo p m) (n - 1) c.in_ok-replies.replies.items replies
          (some_there c.in_ok-replies.replies _ c.is_empty.ensures c.if-is_empty.false)
          (lost_of geo p (n - 1) m (subst (λ z. IsWinning geo p z m) (sym (one_less n c.args.moves.some)) wins))),
      replies,
    )
