use Rattle.dw_mend.proofs.mend.found_by_key.Goals as goal

pub returns-clause-found : goal.returns-clause-found
returns-clause-found g c = c.of.ensures c.args.position.now c.args.moves.value c.in_ok-sound_key.ensures.key
