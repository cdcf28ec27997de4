use Rattle.std.proofs.Common.{false, refl, sym, subst}
use Rattle.dw_desk_commands.specs.Solution.{AreWrittenTags, IsGameFor}
use Rattle.dw_desk_commands.proofs.solution.game_of.Goals as goal

pub returns-in_ok-text-in-Ok-clause-text : goal.returns-in_ok-text-in-Ok-clause-text
returns-in_ok-text-in-Ok-clause-text g c =
    let geo = g.B.Board.geometry in
    let query = c.args.query.now in
    let game = c.args.game.now in
    let solved = c.in_ok-solved-in-Ok.solved in
    let is = c.in_ok-solved-in-Ok.ensures.solved in
    let written = c.in_ok-text-in-Ok.ensures in
    let text = c.in_ok-text-in-Ok.text.items in
    subst (λ z. IsGameFor geo query game.problem.number z game.tags.items false text) (sym c.in-Ok.is) (
      refl,
      (
        is.0,
        written.0,
        solved.movetext.text.items,
        is.1,
        subst (λ z. AreWrittenTags geo c.in-Ok.position z written.0) c.as_slice.ensures.value written.1,
        (solved.heading, solved.first, solved.movetext.lines, is.2),
        written.2,
      ),
    )
