use Rattle.std.proofs.Common.{◌∙◌, ◌∷◌, [], subst, sym}
use Rattle.std.specs.Prelude.{codes}
use Rattle.json.specs.Json.{boolean, string}
use Rattle.dw_json.specs.Rows.{AreObjects, Member, count, objects, row}
use Rattle.dw_json.specs.inner.Composing.{begun_more, if_ok}
use Rattle.dw_rows.specs.CheckRow.{IsRemarkObject}
use Rattle.dw_rows.specs.inner.Remarking.{members_told}
use Rattle.dw_rows.proofs.RowLemmas.{all_told}
use Rattle.dw_rows.proofs.checked.remarks_row.Goals as goal

pub returns : goal.returns
returns g c said are =
    let geo = g.B.Board.geometry in
    let numbers = c.args.numbers in
    let m1 : Member = (codes "problem", count c.into.result) in
    let m2 : Member = (codes "fen", string c.as_str.result.now) in
    let m3 : Member = (codes "n", count c.into-2.result) in
    let m4 : Member = (codes "win", boolean numbers.wins) in
    let m5 : Member = (codes "holds", boolean numbers.holds) in
    let m6 : Member = (codes "fail", count numbers.fail) in
    let m7 : Member = (codes "end", count numbers.end) in
    let m8 : Member = (codes "open", count numbers.open) in
    let m9 : Member = (codes "also", count numbers.also) in
    let each = c.in_ok-put_objects.ensures.0 in
    let last : Member = (codes "remarks", objects each) in
    let b1 = begun_more [] (m1 ∷ []) _ _ c.in_ok-row.ensures c.in_ok-put_number.ensures in
    let b2 = begun_more (m1 ∷ []) (m2 ∷ []) _ _ b1 c.in_ok-put_text.ensures in
    let b3 = begun_more (m1 ∷ m2 ∷ []) (m3 ∷ []) _ _ b2 c.in_ok-put_number-2.ensures in
    let b4 = begun_more (m1 ∷ m2 ∷ m3 ∷ []) (m4 ∷ []) _ _ b3 c.in_ok-put_flag.ensures in
    let b5 = begun_more (m1 ∷ m2 ∷ m3 ∷ m4 ∷ []) (m5 ∷ []) _ _ b4 c.in_ok-put_flag-2.ensures in
    let b6 = begun_more (m1 ∷ m2 ∷ m3 ∷ m4 ∷ m5 ∷ []) (m6 ∷ []) _ _ b5 c.in_ok-put_number-3.ensures in
    let b7 = begun_more (m1 ∷ m2 ∷ m3 ∷ m4 ∷ m5 ∷ m6 ∷ []) (m7 ∷ []) _ _ b6 c.in_ok-put_number-4.ensures in
    let b8 = begun_more (m1 ∷ m2 ∷ m3 ∷ m4 ∷ m5 ∷ m6 ∷ m7 ∷ []) (m8 ∷ []) _ _ b7 c.in_ok-put_number-5.ensures in
    let b9 = begun_more (m1 ∷ m2 ∷ m3 ∷ m4 ∷ m5 ∷ m6 ∷ m7 ∷ m8 ∷ []) (m9 ∷ []) _ _ b8 c.in_ok-put_number-6.ensures in
    let b10 = begun_more (m1 ∷ m2 ∷ m3 ∷ m4 ∷ m5 ∷ m6 ∷ m7 ∷ m8 ∷ m9 ∷ []) (last ∷ []) _ _ b9
    c.in_ok-put_objects.ensures.2 in
    if_ok c.end_row.result (c.end_row.ensures
    (m1 ∷ m2 ∷ m3 ∷ m4 ∷ m5 ∷ m6 ∷ m7 ∷ m8 ∷ m9 ∷ last ∷ []) b10) (λ line is. (
      each,
      subst (AreObjects (IsRemarkObject geo c.args.position.now) said)
          (sym (all_told members_told c.args.remarks.now each c.in_ok-put_objects.ensures.1)) are,
      is ∙ (λ i. row ((codes "problem", count (c.into.ensures i))
          ∷ (codes "fen", string ((c.as_str.ensures.value ∙ c.fen_text.ensures) i))
          ∷ (codes "n", count (c.into-2.ensures i)) ∷ m4 ∷ m5 ∷ m6 ∷ m7 ∷ m8 ∷ m9 ∷ last ∷ [])),
    ))
