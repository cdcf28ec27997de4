use Rattle.std.proofs.Common.{length, take, ap, arith, subst}
use Rattle.dw_solution.specs.FirstLines.{LinesFrom}
use Rattle.dw_solution.specs.Tree.{IsTreeOf}
use Rattle.dw_solution.specs.inner.Steps.{IsPlayable, whole_tree}
use Rattle.dw_solution.proofs.HeldLemmas.{first_playable}
use Rattle.dw_solution.proofs.listed.FirstLines.steps.Goals as goal

pub first_steps-requires : goal.first_steps-requires
first_steps-requires g c = omega (arith, c.requires, ap (λ (v : LinesFrom). length v.lines) c.self.view_is)

pub returns-clause-tree : goal.returns-clause-tree
returns-clause-tree g c =
    subst (λ (v : LinesFrom). IsTreeOf (take c.args.lines v.lines) (whole_tree c.first_steps.result.now))
    c.self.view_is c.first_steps.ensures

pub returns-clause-playable : goal.returns-clause-playable
returns-clause-playable g c =
    let tree = whole_tree c.first_steps.result.now in
    subst (λ (v : LinesFrom). IsPlayable g.B.Board.geometry v.start tree) c.self.view_is
    (first_playable g.B.Board.geometry c.self.inside.position c.self.inside.tree c.args.lines tree c.self.invariant
    c.first_steps.ensures)
