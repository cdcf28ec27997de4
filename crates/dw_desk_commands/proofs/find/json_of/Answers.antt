use Rattle.std.proofs.Common.{◌-◌, sym, subst}
use Rattle.std.specs.String.{string_bytes}
use Rattle.dw_study.specs.Telling.{told_by}
use Rattle.dw_desk_commands.specs.Find.{IsJsonOf}
use Rattle.dw_desk_commands.specs.inner.LaterTold.{later_told}
use Rattle.dw_desk_commands.proofs.FindLemmas.{still_used_up}
use Rattle.dw_desk_commands.proofs.find.json_of.Goals as goal

pub returns-in_ok-line-in-Ok-clause-row : goal.returns-in_ok-line-in-Ok-clause-row
returns-in_ok-line-in-Ok-clause-row g c =
    let geo = g.B.Board.geometry in
    let query = c.args.query.now in
    let problem = c.args.problem.now in
    let finding = told_by c.in_ok-finding-in-Ok.finding in
    let found = c.in_ok-finding-in-Ok.ensures.found in
    let before = c.args.desk.now.solver.expanded in
    let mid = c.search.new.desk.solver.expanded in
    let more = c.solution_lines.new.desk.solver.expanded in
    let after = c.later_of.new.desk.solver.expanded in
    subst (λ z. IsJsonOf geo query (after - before) problem.number z c.is_undecided.result
    (string_bytes c.in_ok-line-in-Ok.line)) (sym c.in-Ok.is) (
      finding,
      c.in_ok-solution-in-Ok.solution,
      later_told c.in_ok-later-in-Ok.later,
      (
        found.0,
        still_used_up query.each before more after finding (still_used_up query.each before mid more finding found.1
            c.solution_lines.ensures.same) c.later_of.ensures.same,
      ),
      c.is_undecided.ensures,
      c.in_ok-solution-in-Ok.ensures.solution,
      c.in_ok-later-in-Ok.ensures.later,
      c.in_ok-line-in-Ok.ensures,
    )
