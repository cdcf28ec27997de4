use Rattle.std.proofs.Common.{refl, arith}
use Rattle.std.proofs.lemmas.Option.{slice_get_within}
use Rattle.dw_games.proofs.LineLemmas.{moves_on, moves_over}
use Rattle.dw_games.proofs.line.moves_of.Goals as goal

pub moves-init : goal.moves-init
moves-init g c = λ all is. (all, rw c.new-moves.ensures refl)

pub push-requires : goal.push-requires
push-requires g c =
    let inside = slice_get_within c.args.tree.now.paths c.len.result _ c.in-Some.ensures.1 in
    (omega arith, omega (arith, inside, c.len.ensures.value, c.requires))

pub moves-smaller : goal.moves-smaller
moves-smaller g c =
    let inside = slice_get_within c.args.tree.now.paths c.len.result _ c.in-Some.ensures.1 in
    omega (arith, inside, c.len.ensures.value, c.requires, c.push.ensures.len)

pub moves-preserved : goal.moves-preserved
moves-preserved g c = λ all is.
    let h = c.moves.invariant all is in
    moves_on c.args.tree.now.paths c.len.result c.moves.moves.items all h.0 is h.1 c.len.ensures.value
    c.push.new.self.items c.in-Some.ensures.0
    c.in-Some.mv c.in-Some.ensures.1 c.push.ensures.items

pub returns : goal.returns
returns g c = λ all is.
    let h = c.moves.invariant all is in
    moves_over c.args.tree.now.paths c.len.result c.moves.moves.items all h.0 is h.1 c.len.ensures.value
    c.in_default.ensures
