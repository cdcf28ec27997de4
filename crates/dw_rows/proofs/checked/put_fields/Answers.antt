use Rattle.std.proofs.Common.{◌++◌, ap, refl}
use Rattle.std.specs.Prelude.{map}
use Rattle.std.specs.String.{string_bytes}
use Rattle.dw_json.specs.inner.Composing.{both, then_ok}
use Rattle.dw_rows.specs.CheckRow.{refutation_members, wins_in_members}
use Rattle.dw_study.specs.Telling.{texts_in}
use Rattle.dw_rows.proofs.RowLemmas.{two_parts}
use Rattle.dw_rows.proofs.checked.put_fields.Goals as goal

pub returns : goal.returns
returns c = then_ok c.put_wins_in.result c.put_wins_in.ensures (λ last.
    let words = texts_in c.args.words.now in
    let reply = refutation_members words.refutation in
    let wins_in = wins_in_members words.wins_in in
    two_parts c.args.kind.now words c.args.kind.now c.as_str.result.now (map string_bytes c.as_slice.result.now)
    (reply ++ wins_in) c.args.row.now c.put_text.new.row c.put_text-2.new.row c.put_texts.new.row c.put_wins_in.new.row
    c.as_str.ensures.value (ap (map string_bytes) c.as_slice.ensures.value) refl
    c.in_ok-put_text.ensures c.in_ok-put_text-2.ensures c.in_ok-put_texts.ensures
    (both reply wins_in c.put_texts.new.row c.put_refutation.new.row c.put_wins_in.new.row
    c.in_ok-put_refutation.ensures last))
