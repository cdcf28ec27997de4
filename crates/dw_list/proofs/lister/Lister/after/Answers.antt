use Rattle.std.proofs.Common.{subst}
use Rattle.dw_solve.specs.Questions.{moment_of}
use Rattle.dw_solve.specs.Work.{Searched}
use Rattle.dw_list.specs.Listing.{solver_of}
use Rattle.dw_list.proofs.lister.Lister.after.Goals as goal

pub returns-in-Err-clause-searched : goal.returns-in-Err-clause-searched
returns-in-Err-clause-searched g c =
    let moment = moment_of g.M.Memo.content g.M.Memo.dropped in
    subst (λ n. Searched g.B.Board.geometry n n (moment (solver_of c.args.self.now)) (moment c.walk_along.new.solver))
    c.moves-moves.ensures.moves c.in-Err.ensures.asked.searched

pub returns-in-Err-clause-count : goal.returns-in-Err-clause-count
returns-in-Err-clause-count g c = c.in-Err.ensures.asked.count

pub returns-in-Ok-Place-clause-searched : goal.returns-in-Ok-Place-clause-searched
returns-in-Ok-Place-clause-searched g c =
    let moment = moment_of g.M.Memo.content g.M.Memo.dropped in
    subst (λ n. Searched g.B.Board.geometry n 0 (moment (solver_of c.args.self.now)) (moment c.walk_along.new.solver))
    c.moves-moves.ensures.moves c.in-Ok-Place.ensures.asked.searched

pub returns-in-Ok-Place-clause-count : goal.returns-in-Ok-Place-clause-count
returns-in-Ok-Place-clause-count g c = c.in-Ok-Place.ensures.asked.count

pub returns-in-Ok-Along-clause-searched : goal.returns-in-Ok-Along-clause-searched
returns-in-Ok-Along-clause-searched g c =
    let moment = moment_of g.M.Memo.content g.M.Memo.dropped in
    subst (λ n. Searched g.B.Board.geometry n 0 (moment (solver_of c.args.self.now)) (moment c.walk_along.new.solver))
    c.moves-moves.ensures.moves c.in-Ok-Along.ensures.asked.searched

pub returns-in-Ok-Along-clause-count : goal.returns-in-Ok-Along-clause-count
returns-in-Ok-Along-clause-count g c = c.in-Ok-Along.ensures.asked.count
