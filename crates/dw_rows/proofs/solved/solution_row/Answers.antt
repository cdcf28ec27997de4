use Rattle.std.proofs.Common.{◌∙◌, ◌∷◌, [], ap}
use Rattle.std.specs.Prelude.{codes}
use Rattle.json.specs.Json.{string}
use Rattle.dw_json.specs.Rows.{Member, count, row}
use Rattle.dw_json.specs.inner.Composing.{begun_more, if_ok}
use Rattle.dw_board.specs.FenText.{written}
use Rattle.dw_rows.proofs.solved.solution_row.Goals as goal

pub returns : goal.returns
returns g c =
    let geo = g.B.Board.geometry in
    let m1 : Member = (codes "problem", count c.into.result) in
    let m2 : Member = (codes "fen", string c.as_str.result.now) in
    let m3 : Member = (codes "n", count c.into-2.result) in
    let m4 : Member = (codes "verdict", string c.word.result.now) in
    let lines = c.in_ok-put_lines.ensures in
    let b1 = begun_more [] (m1 ∷ []) _ _ c.in_ok-row.ensures c.in_ok-put_number.ensures in
    let b2 = begun_more (m1 ∷ []) (m2 ∷ []) _ _ b1 c.in_ok-put_text.ensures in
    let b3 = begun_more (m1 ∷ m2 ∷ []) (m3 ∷ []) _ _ b2 c.in_ok-put_number-2.ensures in
    let b4 = begun_more (m1 ∷ m2 ∷ m3 ∷ []) (m4 ∷ []) _ _ b3 c.in_ok-put_text-2.ensures in
    let b5 = begun_more (m1 ∷ m2 ∷ m3 ∷ m4 ∷ []) lines.0 _ _ b4 lines.2 in
    if_ok c.end_row.result (c.end_row.ensures (m1 ∷ m2 ∷ m3 ∷ m4 ∷ lines.0) b5) (λ line is. (
      lines.0,
      lines.1,
      is ∙ (λ i. row ((codes "problem", count (c.into.ensures i))
          ∷ (
            codes "fen",
            string ((c.as_str.ensures.value ∙
                (c.fen_text.ensures ∙ ap (written geo) c.position.ensures)) i),
          )
          ∷ (codes "n", count (c.into-2.ensures i)) ∷ (codes "verdict", string (c.word.ensures i)) ∷ lines.0)),
    ))
