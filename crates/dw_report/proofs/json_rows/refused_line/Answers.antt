use Rattle.std.proofs.Common.{◌∙◌, ◌∷◌, []}
use Rattle.std.specs.Prelude.{codes}
use Rattle.json.specs.Json.{string}
use Rattle.dw_json.specs.Rows.{Member, count, row}
use Rattle.dw_json.specs.inner.Composing.{begun_more, if_ok}
use Rattle.dw_report.proofs.json_rows.refused_line.Goals as goal

pub returns : goal.returns
returns c =
    let number : Member = (codes "problem", count c.into.result) in
    let why : Member = (codes "refused", string c.as_str.result.now) in
    let first = begun_more [] (number ∷ []) _ _ c.in_ok-row.ensures c.in_ok-put_number.ensures in
    let second = begun_more (number ∷ []) (why ∷ []) _ _ first c.in_ok-put_text.ensures in
    if_ok c.end_row.result (c.end_row.ensures (number ∷ why ∷ []) second) (λ line is.
    is ∙ (λ i. row ((codes "problem", count (c.into.ensures i))
    ∷ (codes "refused", string ((c.as_str.ensures.value ∙ c.refusal_text.ensures) i)) ∷ [])))
