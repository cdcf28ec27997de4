use Rattle.std.proofs.Common.{◌≡◌, ◌++◌, ◌∷◌, [], map, take}
use Rattle.std.specs.String.{string_bytes}
use Rattle.json.specs.Json.{array, string}
use Rattle.dw_json.specs.Rows.{count, items_of}
use Rattle.dw_json.proofs.RowLemmas.{all_tokens}
use Rattle.dw_json.proofs.row.put_counts.Given as goal

abbrev pub invariant-pairs : goal.invariant-pairs
invariant-pairs l = record {
  before : l.row.before ≡ l.initial.row.before;
  tokens : l.row.tokens ≡ l.initial.row.tokens
      ++ all_tokens (map (λ pair. array (items_of (string (string_bytes pair.0) ∷ count pair.1 ∷ [])))
      (take l.pair-index l.all));
}
