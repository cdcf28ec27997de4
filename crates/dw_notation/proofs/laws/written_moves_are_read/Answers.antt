use Rattle.dw_notation.proofs.MoveWrittenLemmas.{Rules, written_named, written_read}
use Rattle.dw_notation.proofs.laws.written_moves_are_read.Goals as goal

pub returns : goal.returns
returns c =
    let rules : Rules = record {
      paths = c.path_tells.ensures;
      best = c.one_best.ensures;
      keys =
          c.moves_have_keys.ensures;
      take = c.legal_moves_take.ensures;
    } in
    record { named = written_named rules; read = written_read rules }
