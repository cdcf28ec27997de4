use Rattle.std.proofs.Common.{◌≡◌, ℕ, ◌≤◌, ◌∙◌, subst, ap, arith}
use Rattle.std.specs.Prelude.{IfErr, min}
use Rattle.dw_solve.specs.Certificates.{SaysLeast}
use Rattle.dw_study.specs.inner.Looking.{lowered}
use Rattle.dw_study.proofs.LookingLemmas.{looks_between, same_memo, says_between}
use Rattle.dw_study.proofs.least.number_within.Goals as goal

pub returns-clause-known : goal.returns-clause-known
returns-clause-known g c =
    subst (λ z. IfErr c.number-number.result (λ cut. (j : ℕ) → SaysLeast (g.M.Memo.content z) c.args.position.now j
    → j ≤ cut.no_win_in))
    (same_memo c.args.solver.now c.lower-limit.new.solver _ c.lower-limit.ensures.lowered)
    c.number-number.ensures.known

pub returns-clause-looks : goal.returns-clause-looks
returns-clause-looks g c =
    let before = c.args.solver.now in
    let until = c.count_after-until.result in
    looks_between g.B.Board.geometry g.M.Memo.content g.M.Memo.dropped (min before.limit until)
    (lowered c.args.bounds.each before.limit before.expanded) before c.lower-limit.new.solver c.number-number.new.solver
    c.raise.new.solver c.number-number.result c.lower-limit.ensures.lowered
    (c.raise.ensures ∙ ap (λ z. record c.number-number.new.solver { limit = z }) c.lower-limit.ensures.was)
    (subst (λ z. min before.limit until ≡ lowered c.args.bounds.each before.limit z) c.expanded.ensures
    (c.count_after-until.ensures.limit before.limit (omega arith))) (omega arith) c.number-number.ensures.looks

pub returns-clause-says : goal.returns-clause-says
returns-clause-says g c =
    says_between g.M.Memo.content g.M.Memo.dropped c.args.position.now c.args.solver.now
    c.lower-limit.new.solver c.number-number.new.solver c.raise.new.solver c.number-number.result
    (same_memo c.args.solver.now c.lower-limit.new.solver _ c.lower-limit.ensures.lowered)
    (same_memo c.number-number.new.solver c.raise.new.solver _ c.raise.ensures) c.number-number.ensures.says
