use Rattle.std.proofs.Common.{◌∙◌, ◌∷◌, [], ℕ, List, String, Global, map}
use Rattle.std.specs.String.{string_bytes}
use Rattle.json.specs.Json.{Json, array, string}
use Rattle.dw_json.specs.Rows.{count, items_of}
use Rattle.dw_json.specs.inner.Composing.{then_ok}
use Rattle.dw_json.proofs.RowLemmas.{all_values, array_member, next_value}
use Rattle.dw_json.proofs.row.put_counts.Goals as goal

pub pairs-preserved : goal.pairs-preserved
pairs-preserved c = record {
  before = c.in_ok-put_count.ensures.before ∙ c.pairs.invariant.before;
  tokens = next_value (λ pair. array (items_of (string (string_bytes pair.0) ∷ count pair.1 ∷ []))) c.args.all.now
      c.pairs.pair-index c.pair-item.result c.begin_array.new.self.tokens c.pairs.row.tokens
      c.put_count.new.row.tokens c.pairs-test.true c.pair-item.is c.pairs.invariant.tokens
      c.in_ok-put_count.ensures.tokens;
}

pub returns : goal.returns
returns c =
    let told : String Global × ℕ → List ℕ × ℕ = λ pair. (string_bytes pair.0, pair.1) in
    let value : List ℕ × ℕ → Json = λ pair. array (items_of (string pair.0 ∷ count pair.1 ∷ [])) in
    then_ok c.end_array.result c.end_array.ensures.ok (λ written.
    array_member c.args.name.now (map value (map told c.args.all.now)) c.args.row.now c.key.new.self
    c.begin_array.new.self c.pairs.row c.end_array.new.self c.key.ensures.room.0 c.in_ok-key.ensures.ok
    c.begin_array.ensures.room.0 c.in_ok-begin_array.ensures.ok c.pairs.invariant.before
    (all_values value told c.args.all.now c.pairs.pair-index c.begin_array.new.self.tokens c.pairs.row.tokens
    c.pairs-test.false c.pairs.invariant.tokens) c.end_array.ensures.room.0 written)
