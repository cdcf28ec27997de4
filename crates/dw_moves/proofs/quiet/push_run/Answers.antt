use Rattle.std.proofs.Common.{[], ◌∷◌, ◌++◌, sym, ap, ◌∙◌}
use Rattle.dw_moves.proofs.RunLemmas.{freed, ray_falls}
use Rattle.dw_moves.proofs.JumpStepLemmas.{added_more, added_last, added_stop}
use Rattle.dw_moves.proofs.quiet.push_run.Goals as goal

pub run-smaller : goal.run-smaller
run-smaller g c =
    let f = freed g.B.Board.geometry g.met.B.Board.numbers c.args.position.now c.run.at c.args.direction
    c.in-Some.landing c.run.invariant.on (sym (c.free_step.ensures.free c.args.position.now c.occupied.ensures) ∙
    c.in-Some.is) in
    ray_falls g.B.Board.geometry c.args.position.now c.run.at c.args.direction c.in-Some.landing f

pub run-preserved : goal.run-preserved
run-preserved g c =
    let f = freed g.B.Board.geometry g.met.B.Board.numbers c.args.position.now c.run.at c.args.direction
    c.in-Some.landing c.run.invariant.on (sym (c.free_step.ensures.free c.args.position.now c.occupied.ensures) ∙
    c.in-Some.is) in
    added_more (g.T.FromQuiet.made c.args.from) g.B.Board.geometry c.args.position.now c.args.kind c.args.direction
    c.args.from c.run.at c.in-Some.landing c.args.moves.now.items c.run.moves.items c.push.new.self.items
    c.in-King.is c.run.invariant f
    (c.in_ok-push.ensures.items ∙ ap (λ z. c.run.moves.items ++ z ∷ []) c.from_quiet.ensures)

pub returns-in-Man : goal.returns-in-Man
returns-in-Man g c =
    let f = freed g.B.Board.geometry g.met.B.Board.numbers c.args.position.now c.run.at c.args.direction
    c.in-Some.landing c.run.invariant.on (sym (c.free_step.ensures.free c.args.position.now c.occupied.ensures) ∙
    c.in-Some.is) in
    added_last (g.T.FromQuiet.made c.args.from) g.B.Board.geometry c.args.position.now c.args.kind c.args.direction
    c.args.from c.run.at c.in-Some.landing c.args.moves.now.items c.run.moves.items c.push.new.self.items
    c.in-Man.is c.run.invariant f
    (c.in_ok-push.ensures.items ∙ ap (λ z. c.run.moves.items ++ z ∷ []) c.from_quiet.ensures)

pub returns-in_default : goal.returns-in_default
returns-in_default g c =
    added_stop (g.T.FromQuiet.made c.args.from) g.B.Board.geometry g.met.B.Board.numbers c.args.position.now c.args.kind
    c.args.direction c.args.from c.run.at c.args.moves.now.items c.run.moves.items c.run.invariant
    (sym (c.free_step.ensures.free c.args.position.now c.occupied.ensures) ∙ c.in_default.is)
