use Rattle.std.proofs.Common.{◌∙◌, ◌++◌, ◌∷◌, [], ap, map}
use Rattle.std.specs.String.{string_bytes}
use Rattle.json.specs.Json.{string}
use Rattle.json.specs.Token.{Token}
use Rattle.dw_json.specs.inner.Composing.{then_ok}
use Rattle.dw_json.proofs.RowLemmas.{all_values, array_member, next_value}
use Rattle.dw_json.proofs.row.put_texts.Goals as goal

pub texts-preserved : goal.texts-preserved
texts-preserved c = record {
  before = c.string.ensures.room.0 ∙ c.texts.invariant.before;
  tokens = next_value (λ text. string (string_bytes text)) c.args.all.now c.texts.text-index c.text-item.result
      c.begin_array.new.self.tokens c.texts.row.tokens c.string.new.self.tokens c.texts-test.true c.text-item.is
      c.texts.invariant.tokens (c.in_ok-string.ensures.ok
      ∙ ap (λ z. c.texts.row.tokens ++ Token.string z ∷ []) c.as_str.ensures.value);
}

pub returns : goal.returns
returns c = then_ok c.end_array.result c.end_array.ensures.ok (λ written.
    array_member c.args.name.now (map string (map string_bytes c.args.all.now)) c.args.row.now c.key.new.self
    c.begin_array.new.self c.texts.row c.end_array.new.self c.key.ensures.room.0 c.in_ok-key.ensures.ok
    c.begin_array.ensures.room.0 c.in_ok-begin_array.ensures.ok c.texts.invariant.before
    (all_values string string_bytes c.args.all.now c.texts.text-index c.begin_array.new.self.tokens c.texts.row.tokens
    c.texts-test.false c.texts.invariant.tokens) c.end_array.ensures.room.0 written)
