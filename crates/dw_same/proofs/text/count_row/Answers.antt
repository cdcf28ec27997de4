use Rattle.std.proofs.Common.{◌∷◌, [], ◌∙◌}
use Rattle.std.specs.Prelude.{codes}
use Rattle.dw_json.specs.Rows.{Member, count, row}
use Rattle.dw_json.specs.inner.Composing.{begun_more, if_ok}
use Rattle.dw_same.proofs.text.count_row.Goals as goal

pub returns : goal.returns
returns c =
    let m1 : Member = (codes "repeated", count c.into.result) in
    let m2 : Member = (codes "of", count c.into-2.result) in
    let b1 = begun_more [] (m1 ∷ []) _ _ c.in_ok-row.ensures c.in_ok-put_number.ensures in
    let b2 = begun_more (m1 ∷ []) (m2 ∷ []) _ _ b1 c.in_ok-put_number-2.ensures in
    if_ok c.end_row.result (c.end_row.ensures (m1 ∷ m2 ∷ []) b2) (λ line is.
    is ∙ (λ i. row ((codes "repeated", count (c.into.ensures i)) ∷ (codes "of", count (c.into-2.ensures i)) ∷ [])))
