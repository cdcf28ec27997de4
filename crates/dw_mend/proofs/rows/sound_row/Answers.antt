use Rattle.std.proofs.Common.{◌∙◌, ◌∷◌, [], ap, sym}
use Rattle.std.specs.Prelude.{codes}
use Rattle.json.specs.Json.{string}
use Rattle.dw_json.specs.Rows.{Member, count, row}
use Rattle.dw_json.specs.inner.Composing.{begun_more, if_ok}
use Rattle.dw_mend.proofs.rows.sound_row.Goals as goal

pub returns : goal.returns
returns g c =
    let m1 : Member = (codes "change", string c.as_str.result.now) in
    let m2 : Member = (codes "fen", string c.as_str-2.result.now) in
    let m3 : Member = (codes "n", count c.into.result) in
    let m4 : Member = (codes "key", string c.as_str-3.result.now) in
    let b1 = begun_more [] (m1 ∷ []) _ _ c.in_ok-row.ensures c.in_ok-put_text.ensures in
    let b2 = begun_more (m1 ∷ []) (m2 ∷ []) _ _ b1 c.in_ok-put_text-2.ensures in
    let b3 = begun_more (m1 ∷ m2 ∷ []) (m3 ∷ []) _ _ b2 c.in_ok-put_number.ensures in
    let b4 = begun_more (m1 ∷ m2 ∷ m3 ∷ []) (m4 ∷ []) _ _ b3 c.in_ok-put_text-3.ensures in
    if_ok c.end_row.result (c.end_row.ensures (m1 ∷ m2 ∷ m3 ∷ m4 ∷ []) b4) (λ line is. (
      c.in_ok-key.key.bytes,
      c.in_ok-key.ensures.text,
      is ∙ (λ i. row ((codes "change", string ((c.as_str.ensures.value ∙ c.in_ok-change.ensures) i))
          ∷ (codes "fen", string ((c.as_str-2.ensures.value ∙ c.fen_text.ensures) i))
          ∷ (codes "n", count (c.into.ensures i)) ∷ (codes "key", string (c.as_str-3.ensures.value i)) ∷ [])),
    ))
