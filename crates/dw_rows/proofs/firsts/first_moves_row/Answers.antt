use Rattle.std.proofs.Common.{◌∙◌, ◌∷◌, [], List, ap, subst}
use Rattle.dw_board.specs.FenText.{written}
use Rattle.std.specs.Prelude.{codes}
use Rattle.json.specs.Json.{string}
use Rattle.dw_first_moves.specs.Telling.{told_by}
use Rattle.dw_json.specs.Rows.{Member, count, objects, row}
use Rattle.dw_json.specs.inner.Composing.{begun_more, if_ok, objects_told}
use Rattle.dw_rows.specs.FirstMovesRow.{IsFirstMoveObject}
use Rattle.dw_rows.proofs.RowLemmas.{effect_of_one}
use Rattle.dw_first_moves.specs.FirstMoves.{Effect}
use Rattle.dw_moves.specs.Moves.{Move}
use Rattle.dw_json.specs.Rows.{AreObjects}
use Rattle.dw_rows.proofs.firsts.first_moves_row.Goals as goal

pub put_objects-requires : goal.put_objects-requires
put_objects-requires g c = λ one member. (
  c.as_slice.ensures.right.0,
  effect_of_one told_by g.B.Board.geometry c.position-position.result c.args.found.now.start c.args.found.now.effects
      c.as_slice.result.now c.as_slice.ensures.right c.as_slice.ensures.effects c.position-position.ensures one member,
)

pub returns : goal.returns
returns g c =
    let geo = g.B.Board.geometry in
    let m1 : Member = (codes "problem", count c.into.result) in
    let m2 : Member = (codes "fen", string c.as_str.result.now) in
    let m3 : Member = (codes "n", count c.into-2.result) in
    let m4 : Member = (codes "winning", count c.wins.result) in
    let each = c.in_ok-put_objects.ensures.0 in
    let last : Member = (codes "moves", objects each) in
    let b1 = begun_more [] (m1 ∷ []) _ _ c.in_ok-row.ensures c.in_ok-put_number.ensures in
    let b2 = begun_more (m1 ∷ []) (m2 ∷ []) _ _ b1 c.in_ok-put_text.ensures in
    let b3 = begun_more (m1 ∷ m2 ∷ []) (m3 ∷ []) _ _ b2 c.in_ok-put_number-2.ensures in
    let b4 = begun_more (m1 ∷ m2 ∷ m3 ∷ []) (m4 ∷ []) _ _ b3 c.in_ok-put_number-3.ensures in
    let b5 = begun_more (m1 ∷ m2 ∷ m3 ∷ m4 ∷ []) (last ∷ []) _ _ b4 c.in_ok-put_objects.ensures.2 in
    if_ok c.end_row.result (c.end_row.ensures (m1 ∷ m2 ∷ m3 ∷ m4 ∷ last ∷ []) b5) (λ line is. (
      each,
      subst (λ p. AreObjects (IsFirstMoveObject geo p) c.args.found.now.effects each) c.position-position.ensures
          (subst (λ (z : List (Move × Effect)). AreObjects (IsFirstMoveObject geo c.position-position.result) z each)
          c.as_slice.ensures.effects
          (objects_told (IsFirstMoveObject geo c.position-position.result) told_by c.as_slice.result.now each
          c.in_ok-put_objects.ensures.1)),
      is ∙ (λ i. row ((codes "problem", count (c.into.ensures i))
          ∷ (
            codes "fen",
            string ((c.as_str.ensures.value ∙
                (c.fen_text.ensures ∙ ap (written geo) c.position-position.ensures)) i),
          )
          ∷ (codes "n", count (c.into-2.ensures i)) ∷ (codes "winning", count (c.wins.ensures i)) ∷ last ∷ [])),
    ))
