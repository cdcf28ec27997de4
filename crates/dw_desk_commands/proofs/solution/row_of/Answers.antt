use Rattle.std.proofs.Common.{false, refl, subst, sym}
use Rattle.std.specs.String.{string_bytes}
use Rattle.dw_desk_commands.specs.Solution.{IsSolutionLine}
use Rattle.dw_desk_commands.proofs.solution.row_of.Goals as goal

pub returns-in_ok-line-in-Ok-clause-row : goal.returns-in_ok-line-in-Ok-clause-row
returns-in_ok-line-in-Ok-clause-row g c =
    let geo = g.B.Board.geometry in
    let problem = c.args.problem.now in
    let solved = c.in_ok-solved-in-Ok.solved in
    let is = c.in_ok-solved-in-Ok.ensures.solved in
    subst (λ z. IsSolutionLine geo c.args.query.now problem.number z false (string_bytes c.in_ok-line-in-Ok.line))
    (sym c.in-Ok.is) (
      refl,
      (
        is.0,
        solved.heading,
        solved.first,
        solved.movetext.lines,
        solved.movetext.text.items,
        is.1,
        is.2,
        c.in_ok-line-in-Ok.ensures,
      ),
    )
