use Rattle.std.proofs.Common.{◌≤◌, subst, sym, arith}
use Rattle.dw_list.specs.Listing.{stack_of}
use Rattle.dw_solution.proofs.TakingLemmas.{taken_none, first_playable, lines_of_taken}
use Rattle.dw_solution.proofs.first.first_lines.Goals as goal

pub taken-first-requires : goal.taken-first-requires
taken-first-requires g c =
    let geo = g.B.Board.geometry in
    let all = c.lines_exist.ensures.some geo g.met.B.Board.numbers c.args.position.now c.args.moves.value in (
      omega arith,
      (
        omega arith,
        (
          (
            c.args.position.now,
            c.args.moves.value,
            taken_none geo c.args.position.now c.args.moves.value
                (stack_of c.start-lister.result) all.0 all.1 ((c.start-lister.ensures.to_come all.0).0 all.1),
          ),
          subst (λ s. s.expanded ≤ s.limit) (sym c.start-lister.ensures.solver) c.keeps_its_limit.ensures,
        ),
      ),
    )

pub invariant_of-result : goal.invariant_of-result
invariant_of-result g c =
    let geo = g.B.Board.geometry in
    let all = c.lines_exist.ensures.some geo g.met.B.Board.numbers c.args.position.now c.args.moves.value in
    let start = taken_none geo c.args.position.now c.args.moves.value (stack_of c.start-lister.result) all.0 all.1
    ((c.start-lister.ensures.to_come all.0).0 all.1) in
    first_playable geo c.args.position.now c.args.moves.value c.args.most all.0 c.in_ok-tree.tree all.1
    (c.in_ok-tree.ensures.lines c.args.position.now c.args.moves.value all.0 start all.1).0

pub returns-clause-lines : goal.returns-clause-lines
returns-clause-lines g c lines all =
    let geo = g.B.Board.geometry in
    let start = taken_none geo c.args.position.now c.args.moves.value (stack_of c.start-lister.result) lines all
    ((c.start-lister.ensures.to_come lines).0 all) in
    let taken = c.in_ok-tree.ensures.lines c.args.position.now c.args.moves.value lines start all in
    lines_of_taken c.args.position.now lines c.in_ok-tree.tree c.in_ok-tree.more c.args.most taken.0 taken.1
