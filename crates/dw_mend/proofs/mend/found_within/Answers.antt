use Rattle.std.proofs.Common.{◌≡◌, ◌+◌}
use Rattle.dw_mend.specs.inner.Mending.{IsSoundnessOf, IsUndecided}
use Rattle.dw_mend.proofs.TextLemmas.{ok_so}
use Rattle.dw_mend.proofs.mend.found_within.Goals as goal

pub returns-then-limit-until-clause-found : goal.returns-then-limit-until-clause-found
returns-then-limit-until-clause-found g c =
    let geo = g.B.Board.geometry in
    let p = c.args.position.now in
    ok_so (λ found. IsSoundnessOf geo p c.args.moves.value found × (IsUndecided found → ⊥))
    (IsSoundnessOf geo p c.args.moves.value)
    c.found_by_key.result (λ found both. both.0) c.found_by_key.ensures.found

pub returns-then-limit-until-clause-spent : goal.returns-then-limit-until-clause-spent
returns-then-limit-until-clause-spent g c =
    let geo = g.B.Board.geometry in
    let p = c.args.position.now in
    let after = c.found_by_key.new.solver.expanded in
    ok_so (λ found. IsSoundnessOf geo p c.args.moves.value found × (IsUndecided found → ⊥))
    (λ found. IsUndecided found → after ≡ c.args.solver.now.expanded + c.args.bound) c.found_by_key.result
    (λ found both left. absurd (both.1 left)) c.found_by_key.ensures.found

pub returns-in_ok-key-in_default-clause-found : goal.returns-in_ok-key-in_default-clause-found
returns-in_ok-key-in_default-clause-found g c =
    (c.of.ensures c.args.position.now c.args.moves.value c.in_ok-key-in_default.ensures.key).0

pub returns-in_ok-key-in_default-clause-spent : goal.returns-in_ok-key-in_default-clause-spent
returns-in_ok-key-in_default-clause-spent g c = λ left.
    absurd ((c.of.ensures c.args.position.now c.args.moves.value c.in_ok-key-in_default.ensures.key).1 left)
