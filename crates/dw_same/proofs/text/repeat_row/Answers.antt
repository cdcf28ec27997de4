use Rattle.std.proofs.Common.{◌∷◌, [], ◌∙◌}
use Rattle.std.specs.Prelude.{codes}
use Rattle.json.specs.Json.{string}
use Rattle.dw_json.specs.Rows.{Member, count, row}
use Rattle.dw_json.specs.inner.Composing.{begun_more, if_ok}
use Rattle.dw_same.proofs.text.repeat_row.Goals as goal

pub returns : goal.returns
returns g c =
    let m1 : Member = (codes "problem", count c.into.result) in
    let m2 : Member = (codes "fen", string c.as_str.result.now) in
    let m3 : Member = (c.name.result.now, count c.into-2.result) in
    let b1 = begun_more [] (m1 ∷ []) _ _ c.in_ok-row.ensures c.in_ok-put_number.ensures in
    let b2 = begun_more (m1 ∷ []) (m2 ∷ []) _ _ b1 c.in_ok-put_text.ensures in
    let b3 = begun_more (m1 ∷ m2 ∷ []) (m3 ∷ []) _ _ b2 c.in_ok-put_number-2.ensures in
    if_ok c.end_row.result (c.end_row.ensures (m1 ∷ m2 ∷ m3 ∷ []) b3) (λ line is.
    is ∙ (λ i. row ((codes "problem", count (c.into.ensures i))
    ∷ (codes "fen", string ((c.as_str.ensures.value ∙ c.fen_text.ensures) i))
    ∷ (c.name.ensures i, count ((c.into-2.ensures ∙ c.repeated.ensures) i)) ∷ [])))
