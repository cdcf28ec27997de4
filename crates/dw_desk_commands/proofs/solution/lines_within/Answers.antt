use Rattle.dw_desk_commands.specs.Solution.{AreFirstLines}
use Rattle.dw_desk_commands.proofs.ProblemLemmas.{ok_so}
use Rattle.dw_desk_commands.proofs.solution.lines_within.Goals as goal

pub returns-clause-lines : goal.returns-clause-lines
returns-clause-lines g c =
    let geo = g.B.Board.geometry in
    let n = c.args.moves.value in
    let lines = c.lines_exist.ensures.some geo g.met.B.Board.numbers c.args.position.now n in
    ok_so _ (AreFirstLines geo c.args.position.now n c.args.most) c.first_lines.result
    (λ first is. (lines.0, lines.1, is)) (c.first_lines.ensures.lines lines.0 lines.1)
