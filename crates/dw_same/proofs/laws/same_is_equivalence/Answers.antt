use Rattle.std.proofs.Common.{inl, refl}
use Rattle.dw_same.proofs.TurnLemmas.{symmetric, transitive}
use Rattle.dw_same.proofs.laws.same_is_equivalence.Goals as goal

pub returns : goal.returns
returns c = record {
  reflexive = λ g p. inl refl;
  symmetric = symmetric;
  transitive = transitive;
}
