use Rattle.std.proofs.Common.{◌∙◌, ◌∷◌, []}
use Rattle.std.specs.Prelude.{codes}
use Rattle.json.specs.Json.{string}
use Rattle.dw_json.specs.Rows.{Member, count, row}
use Rattle.dw_json.specs.inner.Composing.{begun_more, if_ok}
use Rattle.dw_report.proofs.json_rows.shown_row.Goals as goal

pub returns : goal.returns
returns g c =
    let number : Member = (codes "problem", count c.into.result) in
    let fen : Member = (codes "fen", string c.as_str.result.now) in
    let first = begun_more [] (number ∷ []) _ _ c.in_ok-row.ensures c.in_ok-put_number.ensures in
    let second = begun_more (number ∷ []) (fen ∷ []) _ _ first c.in_ok-put_text.ensures in
    if_ok c.end_row.result (c.end_row.ensures (number ∷ fen ∷ []) second) (λ line is.
    is ∙ (λ i. row ((codes "problem", count (c.into.ensures i))
    ∷ (codes "fen", string ((c.as_str.ensures.value ∙ c.fen_text.ensures) i)) ∷ [])))
