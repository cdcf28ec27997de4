use Rattle.std.proofs.Common.{[], append-nil, refl, subst, sym}
use Rattle.dw_desk_commands.specs.Page.{language_for, IsSolved, Stands}
use Rattle.dw_desk_commands.proofs.page.push_placed.Goals as goal

pub returns-in_ok-push_solved-in-After-clause-solution : goal.returns-in_ok-push_solved-in-After-clause-solution
returns-in_ok-push_solved-in-After-clause-solution g c =
    let task = c.args.task.now in
    let query = c.args.query.now in
    let s = c.in_ok-push_solved-in-After.ensures.solution in (
      s.0,
      [],
      subst (λ z. Stands z (IsSolved g.B.Board.geometry (language_for query.language) query.lines query.tries
          task.number
          task.position.now task.moves.value) s.0 []) (sym c.in-After.is) (s.1, refl),
      s.2,
      sym (append-nil c.args.later.now.items),
    )

pub returns-in_ok-push_solved-in-End-clause-solution : goal.returns-in_ok-push_solved-in-End-clause-solution
returns-in_ok-push_solved-in-End-clause-solution g c =
    let task = c.args.task.now in
    let query = c.args.query.now in
    let s = c.in_ok-push_solved-in-End.ensures.solution in (
      [],
      s.0,
      subst (λ z. Stands z (IsSolved g.B.Board.geometry (language_for query.language) query.lines query.tries
          task.number
          task.position.now task.moves.value) [] s.0) (sym c.in-End.is) (refl, s.1),
      sym (append-nil c.args.part.now.items),
      s.2,
    )

pub returns-in-None-clause-solution : goal.returns-in-None-clause-solution
returns-in-None-clause-solution g c =
    let task = c.args.task.now in
    let query = c.args.query.now in (
      [],
      [],
      subst (λ z. Stands z (IsSolved g.B.Board.geometry (language_for query.language) query.lines query.tries
          task.number
          task.position.now task.moves.value) [] []) (sym c.in-None.is) (refl, refl),
      sym (append-nil c.args.part.now.items),
      sym (append-nil c.args.later.now.items),
    )
