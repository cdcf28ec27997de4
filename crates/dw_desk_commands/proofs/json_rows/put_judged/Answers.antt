use Rattle.std.proofs.Common.{◌++◌, ◌∷◌, [], ℕ, List, String, Global, map, ap}
use Rattle.std.specs.Prelude.{codes}
use Rattle.std.specs.String.{string_bytes}
use Rattle.json.specs.Json.{string}
use Rattle.dw_verdict.specs.Judging.{said_by}
use Rattle.dw_desk_commands.specs.FindJson.{before_keys}
use Rattle.dw_json.specs.Rows.{count, pairs, texts}
use Rattle.dw_desk_commands.proofs.FindLemmas.{judged_told, judged_written}
use Rattle.dw_json.specs.inner.Composing.{then_ok}
use Rattle.dw_desk_commands.proofs.json_rows.put_judged.Goals as goal

pub returns : goal.returns
returns g c =
    let geo = g.B.Board.geometry in
    let p = c.args.position.now in
    let verdict = said_by c.args.judged.now.verdict in
    let told : String Global × String Global → List ℕ × List ℕ = λ t. (string_bytes t.0, string_bytes t.1) in
    let keys = map string_bytes c.as_slice-2.result.now in
    let after = c.in_ok-put_choice.ensures.0 in
    let tried = map told c.as_slice-3.result.now in
    then_ok c.put_pairs.result c.put_pairs.ensures (λ last. (
      (codes "n", count c.into.result) ∷ (codes "verdict", string c.name_of.result.now) ∷ before_keys verdict
          ++ (codes "keys", texts keys) ∷ after ++ (codes "tries", pairs tried) ∷ [],
      judged_told geo p c.args.moves c.into.result verdict c.name_of.result.now
          (map string_bytes c.in_ok-keys.keys.items) keys after c.args.judged.now.tries.items c.as_slice.result.now
          (map told c.in_ok-tries.tries.items) tried c.into.ensures c.name_of.ensures
          (ap (map string_bytes) c.as_slice-2.ensures.value) c.as_slice.ensures.value
          (ap (map told) c.as_slice-3.ensures.value) (c.in_ok-keys.ensures c.args.moves c.requires.verdict)
          c.in_ok-put_choice.ensures.1 c.in_ok-tries.ensures,
      judged_written (codes "n", count c.into.result) (codes "verdict", string c.name_of.result.now)
          (codes "keys", texts keys) (codes "tries", pairs tried) (before_keys verdict) after c.args.row.now
          c.put_number.new.row c.put_text.new.row c.put_shortest.new.row c.put_texts.new.row c.put_choice.new.row
          c.put_pairs.new.row c.in_ok-put_number.ensures c.in_ok-put_text.ensures c.in_ok-put_shortest.ensures
          c.in_ok-put_texts.ensures c.in_ok-put_choice.ensures.2 last,
    ))
