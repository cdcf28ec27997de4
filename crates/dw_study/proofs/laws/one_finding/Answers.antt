use Rattle.dw_study.proofs.FindingLemmas.{finding_some, finding_only, undecided_below}
use Rattle.dw_study.proofs.laws.one_finding.Goals as goal

pub returns : goal.returns
returns c = record {
  some = finding_some c.wins_are_decided.ensures c.one_verdict.ensures c.tries_are_listed.ensures;
  only = finding_only c.wins_stay.ensures c.one_verdict.ensures c.tries_are_listed.ensures;
  below = λ g p is_least moves k j v tries so_far it.
      undecided_below c.wins_stay.ensures g p is_least moves k j so_far.0 so_far.1 it.0;
}
