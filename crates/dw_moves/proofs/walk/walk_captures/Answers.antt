use Rattle.std.proofs.lemmas.Result.{on_ok_weaker}
use Rattle.dw_moves.proofs.BeginningLemmas.{all_directions}
use Rattle.dw_moves.proofs.walk.walk_captures.Goals as goal

pub returns-clause-kept : goal.returns-clause-kept
returns-clause-kept g c =
    let p = c.args.position.now in
    let sets = c.of-field.ensures.sets in
    on_ok_weaker c.walk_first-4.result (λ last. all_directions (c.in_ok-walk_first.ensures p sets)
    (c.in_ok-walk_first-2.ensures p sets) (c.in_ok-walk_first-3.ensures p sets) (last p sets)) c.walk_first-4.ensures
