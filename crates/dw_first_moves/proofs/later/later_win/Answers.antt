use Rattle.std.proofs.Common.{ℕ, ◌+◌, ◌-◌, ◌<◌, ◌≡◌, sym, refl, ◌∙◌, subst, arith, below_more}
use Rattle.std.proofs.lemmas.Bool.{true≢false}
use Rattle.dw_solve.specs.Wins.{Lost}
use Rattle.dw_verdict.specs.Verdict.{IsWinning}
use Rattle.dw_solve.specs.inner.CountLemmas.{counted_then}
use Rattle.dw_first_moves.proofs.EffectLemmas.{lost_of, wins_with}
use Rattle.dw_first_moves.proofs.LaterLemmas.{wider}
use Rattle.dw_first_moves.proofs.later.later_win.Goals as goal

one_less : (n : ℕ) → 0 < n → n - 1 + 1 ≡ n
one_less n some = omega (arith, some)

pub returns-then-branch-clause-found : goal.returns-then-branch-clause-found
returns-then-branch-clause-found g c =
    let geo = g.B.Board.geometry in
    let n = c.args.bounds.moves.value in
    let wins = wins_with geo c.args.position.now (n - 1) c.args.mv.now c.requires.legal
    (subst (λ z. Lost geo z (n - 1)) c.play-after.ensures (c.in_ok-loses.ensures.answer.0 c.if-branch.true)) in
    let wins' = subst (λ z. IsWinning geo c.args.position.now z c.args.mv.now) (one_less n c.args.bounds.moves.some)
    wins in λ k later. later.0.none_less n later.1 wins'

pub left-init : goal.left-init
left-init g c =
    let geo = g.B.Board.geometry in
    let p = c.args.position.now in
    let n = c.args.bounds.moves.value in
    let here = c.in_ok-loses.ensures in
    let fails : IsWinning geo p n c.args.mv.now → ⊥ = λ wins. true≢false (sym (here.answer.1
    (subst (λ z. Lost geo z (n - 1)) (sym c.play-after.ensures) (lost_of geo p (n - 1) c.args.mv.now
    (subst (λ z. IsWinning geo p z c.args.mv.now) (sym (one_less n c.args.bounds.moves.some)) wins))))
    ∙ c.if-branch.false) in
    record {
      none = λ j low wins. fails (wider c.wins_stay.ensures geo p c.args.mv.now j n (omega (arith, low)) wins);
      count = record {
        rises = omega arith;
        within = let w = here.asked.count.within in let s = here.asked.count.same in
            omega (arith, w, s);
        same = refl;
      };
      right = here.right;
      map = here.map;
    }

pub returns-then-branch-2-clause-found : goal.returns-then-branch-2-clause-found
returns-then-branch-2-clause-found g c =
    let geo = g.B.Board.geometry in (
      record {
        wins = wins_with geo c.args.position.now c.left.left c.args.mv.now c.requires.legal
            (subst (λ z. Lost geo z c.left.left) c.play-after.ensures
            (c.in_ok-loses-2.ensures.answer.0 c.if-branch-2.true));
        few = omega (arith, c.left-test.true);
        none_less = c.left.invariant.none;
      },
      let above = c.left.auto in omega (arith, above.left),
    )

pub left-preserved : goal.left-preserved
left-preserved g c =
    let geo = g.B.Board.geometry in
    let here = c.in_ok-loses-2.ensures in
    record {
      none = below_more _ _ c.left.invariant.none (λ wins. true≢false (sym (here.answer.1
          (subst (λ z. Lost geo z c.left.left) (sym c.play-after.ensures)
          (lost_of geo c.args.position.now c.left.left c.args.mv.now wins))) ∙ c.if-branch-2.false));
      count = counted_then _ _ _ _ _ _ c.left.invariant.count here.asked.count;
      right = here.right;
      map = here.map;
    }
