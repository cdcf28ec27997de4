use Rattle.dw_verdict.proofs.VerdictLemmas.{verdict_some, verdict_only}
use Rattle.dw_verdict.proofs.laws.one_verdict.Goals as goal

pub returns : goal.returns
returns c = record {
  some = verdict_some c.moves_listed.ensures c.wins_are_decided.ensures c.wins_stay.ensures c.moves_in_order.ensures
      c.moves_have_keys.ensures c.wins_have_lines.ensures;
  only = verdict_only c.moves_have_keys.ensures;
}
