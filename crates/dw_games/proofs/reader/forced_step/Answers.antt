use Rattle.std.proofs.Common.{refl, subst, sym}
use Rattle.dw_moves.specs.Moves.{AreLegal}
use Rattle.dw_games.specs.Play.{plain}
use Rattle.dw_games.specs.inner.Ahead.{token_value}
use Rattle.dw_games.proofs.ForcedLemmas.{only_one, reply_fault, none_fault}
use Rattle.dw_games.proofs.reader.forced_step.Goals as goal

pub step_after-requires-clause-only : goal.step_after-requires-clause-only
step_after-requires-clause-only g c =
    only_one g.B.Board.geometry c.args.position.now c.as_slice-moves.result.now c.index-moves-0.result
    (subst (λ xs. AreLegal g.B.Board.geometry c.args.position.now xs) (sym c.as_slice-moves.ensures.value)
    c.in_ok-replies.ensures) c.if-moves-eq1.true c.index-moves-0.is

pub names_behind-requires-clause-legal : goal.names_behind-requires-clause-legal
names_behind-requires-clause-legal g c =
    let are = subst (λ xs. AreLegal g.B.Board.geometry c.args.position.now xs) (sym c.as_slice-moves.ensures.value)
    c.in_ok-replies.ensures in
    λ m there. (are.exactly m).0 there

pub returns-then-branch : goal.returns-then-branch
returns-then-branch g c =
    rw c.fault.ensures (reply_fault g.B.Board.geometry c.args.position.now (token_value c.args.token)
    c.as_slice-moves.result.now
    (subst (λ xs. AreLegal g.B.Board.geometry c.args.position.now xs) (sym c.as_slice-moves.ensures.value)
    c.in_ok-replies.ensures) c.if-moves-eq1.false (rw c.if-branch.true at c.in_ok-names_behind.ensures))

pub returns : goal.returns
returns g c =
    rw c.fault-else-branch.ensures (
      none_fault g.B.Board.geometry c.args.position.now (plain c.args.token.text.now) c.as_slice-moves.result.now
          (subst (λ xs. AreLegal g.B.Board.geometry c.args.position.now xs) (sym c.as_slice-moves.ensures.value)
          c.in_ok-replies.ensures) (rw c.if-branch.false at c.in_ok-names_behind.ensures),
      refl,
    )
