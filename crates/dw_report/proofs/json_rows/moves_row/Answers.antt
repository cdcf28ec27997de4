use Rattle.std.proofs.Common.{◌≡◌, ◌∙◌, ◌∷◌, [], ap, arith, map, subst, sym}
use Rattle.std.specs.Prelude.{codes}
use Rattle.std.specs.String.{string_bytes}
use Rattle.json.specs.Json.{string}
use Rattle.dw_json.specs.Rows.{Member, count, pairs, row}
use Rattle.dw_json.specs.inner.Composing.{begun_more, if_ok}
use Rattle.dw_moves.specs.Order.{AreListed}
use Rattle.dw_report.specs.inner.Rows.{move_pair}
use Rattle.dw_report.proofs.json_rows.moves_row.Goals as goal

pub move_pairs-requires : goal.move_pairs-requires
move_pairs-requires g c = (
  omega arith,
  subst (AreListed g.B.Board.geometry c.args.position.now) (sym c.as_slice.ensures.value) c.in_ok-list.ensures,
)

pub returns : goal.returns
returns g c =
    let geo = g.B.Board.geometry in
    let p = c.args.position.now in
    let list = c.as_slice.result.now in
    let all : AreListed geo p list = subst (AreListed geo p) (sym c.as_slice.ensures.value) c.in_ok-list.ensures in
    let texts = map (λ pair. (string_bytes pair.0, string_bytes pair.1)) c.as_slice-2.result.now in
    let number : Member = (codes "problem", count c.into.result) in
    let fen : Member = (codes "fen", string c.as_str.result.now) in
    let taking : Member = (codes "taking", count c.into-2.result) in
    let moves : Member = (codes "moves", pairs texts) in
    let b1 = begun_more [] (number ∷ []) _ _ c.in_ok-row.ensures c.in_ok-put_number.ensures in
    let b2 = begun_more (number ∷ []) (fen ∷ []) _ _ b1 c.in_ok-put_text.ensures in
    let b3 = begun_more (number ∷ fen ∷ []) (taking ∷ []) _ _ b2 c.in_ok-put_number-2.ensures in
    let b4 = begun_more (number ∷ fen ∷ taking ∷ []) (moves ∷ []) _ _ b3 c.in_ok-put_pairs.ensures in
    let texts_are : texts ≡ map (move_pair geo p list) list =
    ap (map (λ pair. (string_bytes pair.0, string_bytes pair.1))) c.as_slice-2.ensures.value ∙ c.in_ok-pairs.ensures in
    if_ok c.end_row.result (c.end_row.ensures (number ∷ fen ∷ taking ∷ moves ∷ []) b4) (λ line is. record {
      list = list;
      all = all;
      most = c.best.result;
      best = c.best.ensures.value;
      is = is ∙ (λ i. row ((codes "problem", count (c.into.ensures i))
          ∷ (codes "fen", string ((c.as_str.ensures.value ∙ c.fen_text.ensures) i))
          ∷ (codes "taking", count (c.into-2.ensures i)) ∷ (codes "moves", pairs (texts_are i)) ∷ []));
    })
