use Rattle.std.proofs.Common.{ap, subst}
use Rattle.dw_solve.specs.Solving.{Solving}
use Rattle.dw_report.specs.Running.{StopsRightly}
use Rattle.dw_report.proofs.run.run.Goals as goal

pub returns-clause-report : goal.returns-clause-report
returns-clause-report g c = c.run_with.ensures.report

pub returns-clause-read : goal.returns-clause-read
returns-clause-read g c = c.run_with.ensures.read

pub returns-clause-write : goal.returns-clause-write
returns-clause-write g c = c.run_with.ensures.write

pub returns-clause-stopped : goal.returns-clause-stopped
returns-clause-stopped g c =
    let command = c.args.settings.now.command in
    subst (λ z. StopsRightly command z c.args.settings.now.limit c.run_with.result)
    (ap (λ (s : Solving g.row.M.Denot). s.expanded) c.new-solver.ensures)
    (subst (λ z. StopsRightly command c.new-solver.result.expanded z c.run_with.result)
    (ap (λ (s : Solving g.row.M.Denot). s.limit) c.new-solver.ensures) c.run_with.ensures.stopped)
