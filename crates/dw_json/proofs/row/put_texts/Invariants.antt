use Rattle.std.proofs.Common.{◌≡◌, ◌++◌, map, take}
use Rattle.std.specs.String.{string_bytes}
use Rattle.json.specs.Json.{string}
use Rattle.dw_json.proofs.RowLemmas.{all_tokens}
use Rattle.dw_json.proofs.row.put_texts.Given as goal

abbrev pub invariant-texts : goal.invariant-texts
invariant-texts l = record {
  before : l.row.before ≡ l.initial.row.before;
  tokens : l.row.tokens
      ≡ l.initial.row.tokens ++ all_tokens (map (λ text. string (string_bytes text)) (take l.text-index l.all));
}
