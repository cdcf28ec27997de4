use Rattle.std.proofs.Common.{Ok, subst}
use Rattle.dw_games.specs.Faults.{IsAnswer}
use Rattle.dw_games.specs.Games.{problem_of}
use Rattle.dw_games.specs.GameReading.{numbered_game}
use Rattle.dw_desk_commands.proofs.CheckLemmas.{check_for}
use Rattle.dw_desk_commands.proofs.check.CheckArgsMakesTextBool.text_of.Goals as goal

pub returns-in_ok-solution_text-in-Ok-read_movetext-clause-text :
    goal.returns-in_ok-solution_text-in-Ok-read_movetext-clause-text
returns-in_ok-solution_text-in-Ok-read_movetext-clause-text g c =
    let geo = g.B.Board.geometry in
    let game = c.args.game.now in
    let tree = c.in-Ok-read_movetext.tree in
    let told = c.in_ok-solution_text-in-Ok-read_movetext.ensures in
    check_for geo c.args.self.now (problem_of (numbered_game game)) game.movetext.items game.problem.found
    c.in-Ok.position tree c.in_ok-n-in-Ok-read_movetext.n.value told.0 _ _ c.in-Ok.is
    (subst (λ z. IsAnswer geo c.in-Ok.position z (Ok tree)) c.as_slice.ensures.value
    c.in-Ok-read_movetext.ensures) c.in_ok-n-in-Ok-read_movetext.ensures.number told.1 told.2
