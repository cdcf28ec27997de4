use Rattle.std.proofs.Common.{◌∷◌, []}
use Rattle.std.specs.Prelude.{codes}
use Rattle.dw_json.specs.Rows.{Member, count}
use Rattle.dw_json.specs.inner.Composing.{begun_more}
use Rattle.dw_mend.proofs.rows.count_row.Goals as goal

pub returns : goal.returns
returns c =
    let mended = c.args.mended.now in
    let m1 : Member = (codes "sound", count mended.sound) in
    let m2 : Member = (codes "of", count mended.all) in
    let m3 : Member = (codes "undecided", count mended.undecided) in
    let b1 = begun_more [] (m1 ∷ []) _ _ c.in_ok-row.ensures c.in_ok-put_number.ensures in
    let b2 = begun_more (m1 ∷ []) (m2 ∷ []) _ _ b1 c.in_ok-put_number-2.ensures in
    let b3 = begun_more (m1 ∷ m2 ∷ []) (m3 ∷ []) _ _ b2 c.in_ok-put_number-3.ensures in
    c.end_row.ensures (m1 ∷ m2 ∷ m3 ∷ []) b3
