use Rattle.std.proofs.Common.{◌∙◌, ◌∷◌, ◌++◌, [], ap}
use Rattle.std.specs.Prelude.{codes, decimal}
use Rattle.json.specs.Json.{string}
use Rattle.dw_json.specs.Rows.{Member, count, row}
use Rattle.dw_json.specs.inner.Composing.{begun_more, if_ok}
use Rattle.dw_rows.proofs.RowLemmas.{joined_5}
use Rattle.dw_rows.proofs.checked.refused_solution_row.Goals as goal

pub returns : goal.returns
returns g c =
    let m1 : Member = (codes "problem", count c.into.result) in
    let m2 : Member = (codes "fen", string c.as_str.result.now) in
    let m3 : Member = (codes "solution_refused", string c.as_str-2.result.now) in
    let b1 = begun_more [] (m1 ∷ []) _ _ c.in_ok-row.ensures c.in_ok-put_number.ensures in
    let b2 = begun_more (m1 ∷ []) (m2 ∷ []) _ _ b1 c.in_ok-put_text.ensures in
    let b3 = begun_more (m1 ∷ m2 ∷ []) (m3 ∷ []) _ _ b2 c.in_ok-put_text-2.ensures in
    let why = c.as_str-2.ensures.value ∙ (c.in_ok-why.ensures.ok
    ∙ (joined_5 c.format.result.now (codes " ") c.name.result.now (codes " at ") c.format-2.result.now
    ∙ (λ i. (c.format.ensures.text ∙ ap decimal c.number.ensures) i ++ codes " " ++ c.name.ensures i ++ codes " at "
    ++ c.format-2.ensures.text i))) in
    if_ok c.end_row.result (c.end_row.ensures (m1 ∷ m2 ∷ m3 ∷ []) b3) (λ line is.
    is ∙ (λ i. row ((codes "problem", count (c.into.ensures i))
    ∷ (codes "fen", string ((c.as_str.ensures.value ∙ c.fen_text.ensures) i))
    ∷ (codes "solution_refused", string (why i)) ∷ [])))
