use Rattle.std.proofs.Common.{◌≡◌, ◌||◌, [], true, false, Bool, refl, append-nil, arith, rules}
use Rattle.dw_notation.specs.inner.StreamLemmas.{Reads-nil}
use Rattle.dw_notation.proofs.streams.buffer.Buffer.fill.Goals as goal

or-false : (b : Bool) → b ≡ (b || false)
or-false true = refl
or-false false = refl

pub returns-then-self-clause-passes : goal.returns-then-self-clause-passes
returns-then-self-clause-passes g c = record {
  read = [];
  took = Reads-nil (g.S.Source.supply c.args.source.now);
  same = append-nil _;
  stays = λ met. (refl, met);
  end = λ began known. known;
  failed = or-false _;
  lighter = omega arith;
}

pub returns-in-None-clause-passes : goal.returns-in-None-clause-passes
returns-in-None-clause-passes g c = record {
  read = [];
  took = search rules;
  same = search rules;
  stays = search rules;
  end = search rules;
  failed = search rules;
  lighter = search rules;
}
