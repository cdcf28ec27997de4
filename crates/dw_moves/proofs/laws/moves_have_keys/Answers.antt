use Rattle.dw_moves.proofs.MoveKeyLemmas.{key_of, key_is, one_key, keys_differ}
use Rattle.dw_moves.proofs.laws.moves_have_keys.Goals as goal

pub returns : goal.returns
returns c = record { each = λ g p m legal. (key_of g p m, key_is g p m legal); one = one_key; differ = keys_differ }
