use Rattle.std.proofs.Common.{sym, ◌∙◌, refl}
use Rattle.std.proofs.lemmas.Bool.{true≢false, eqb-true, eq-eqb}
use Rattle.dw_moves.proofs.RunLemmas.{freed, ray_falls}
use Rattle.dw_moves.proofs.QuietLemmas.{passed_more, reached_it, man_missed, run_missed}
use Rattle.dw_moves.proofs.quiet.runs_to.Goals as goal

pub returns-then-eq : goal.returns-then-eq
returns-then-eq g c =
    let f = freed g.B.Board.geometry g.met.B.Board.numbers c.args.position.now c.run.at c.args.direction
    c.in-Some.reached c.run.invariant.on (sym (c.free_step.ensures.free c.args.position.now c.occupied.ensures) ∙
    c.in-Some.is) in
    let it = reached_it g.B.Board.geometry c.args.position.now c.args.kind c.args.direction c.args.from c.args.to
    c.run.at c.in-Some.reached c.run.invariant f (eqb-true c.in-Some.reached c.args.to (sym c.eq.ensures
    ∙ c.if-eq.true)) in
    ((λ e. it), (λ m. refl))

pub run-smaller : goal.run-smaller
run-smaller g c =
    let f = freed g.B.Board.geometry g.met.B.Board.numbers c.args.position.now c.run.at c.args.direction
    c.in-Some.reached c.run.invariant.on (sym (c.free_step.ensures.free c.args.position.now c.occupied.ensures) ∙
    c.in-Some.is) in
    ray_falls g.B.Board.geometry c.args.position.now c.run.at c.args.direction c.in-Some.reached f

pub run-preserved : goal.run-preserved
run-preserved g c =
    let f = freed g.B.Board.geometry g.met.B.Board.numbers c.args.position.now c.run.at c.args.direction
    c.in-Some.reached c.run.invariant.on (sym (c.free_step.ensures.free c.args.position.now c.occupied.ensures) ∙
    c.in-Some.is) in
    passed_more g.B.Board.geometry c.args.position.now c.args.kind c.args.direction c.args.from c.args.to c.run.at
    c.in-Some.reached c.in-King.is c.run.invariant f
    (λ e. true≢false (sym (eq-eqb c.in-Some.reached c.args.to e) ∙ (sym c.eq.ensures ∙ c.if-eq.false)))

pub returns-in-Man : goal.returns-in-Man
returns-in-Man g c =
    let f = freed g.B.Board.geometry g.met.B.Board.numbers c.args.position.now c.run.at c.args.direction
    c.in-Some.reached c.run.invariant.on (sym (c.free_step.ensures.free c.args.position.now c.occupied.ensures) ∙
    c.in-Some.is) in
    let missed = man_missed g.B.Board.geometry c.args.position.now c.args.kind c.args.direction c.args.from c.args.to
    c.run.at c.in-Some.reached c.in-Man.is c.run.invariant f
    (λ e. true≢false (sym (eq-eqb c.in-Some.reached c.args.to e) ∙ (sym c.eq.ensures ∙ c.if-eq.false))) in
    ((λ e. absurd (true≢false (sym e))), (λ m. absurd (missed m)))

pub returns-in_default : goal.returns-in_default
returns-in_default g c =
    let missed = run_missed g.B.Board.geometry g.met.B.Board.numbers c.args.position.now c.args.kind c.args.direction
    c.args.from c.args.to c.run.at c.run.invariant (sym (c.free_step.ensures.free c.args.position.now
    c.occupied.ensures) ∙ c.in_default.is) in
    ((λ e. absurd (true≢false (sym e))), (λ m. absurd (missed m)))
