use Rattle.std.proofs.Common.{◌≡◌, ◌++◌, ◌∷◌, [], map, take}
use Rattle.std.specs.String.{string_bytes}
use Rattle.dw_json.specs.Rows.{texts}
use Rattle.dw_json.proofs.RowLemmas.{all_tokens}
use Rattle.dw_json.proofs.row.put_pairs.Given as goal

abbrev pub invariant-pairs : goal.invariant-pairs
invariant-pairs l = record {
  before : l.row.before ≡ l.initial.row.before;
  tokens : l.row.tokens ≡ l.initial.row.tokens
      ++ all_tokens (map (λ pair. texts (string_bytes pair.0 ∷ string_bytes pair.1 ∷ [])) (take l.pair-index l.all));
}
