use Rattle.std.proofs.Common.{◌++◌, ◌∙◌, ◌∷◌, []}
use Rattle.std.specs.Prelude.{codes}
use Rattle.json.specs.Json.{string}
use Rattle.dw_desk_commands.specs.FindLater.{member_of}
use Rattle.dw_desk_commands.specs.inner.LaterTold.{later_told}
use Rattle.dw_json.specs.Rows.{Member, count, row}
use Rattle.dw_json.specs.inner.Composing.{begun_more, if_ok}
use Rattle.dw_desk_commands.proofs.json_rows.found_line.Goals as goal

pub returns : goal.returns
returns g c =
    let number : Member = (codes "problem", count c.into.result) in
    let fen : Member = (codes "fen", string c.as_str.result.now) in
    let found = c.in_ok-put_found.ensures in
    let first = begun_more [] (number ∷ []) _ _ c.in_ok-row.ensures c.in_ok-put_number.ensures in
    let second = begun_more (number ∷ []) (fen ∷ []) _ _ first c.in_ok-put_text.ensures in
    let third = begun_more (number ∷ fen ∷ []) found.0 _ _ second found.2 in
    let more = c.in_ok-put_solution.ensures in
    let fourth = begun_more (number ∷ fen ∷ found.0) more.0 _ _ third more.2 in
    let later = member_of (later_told c.args.later.now) in
    let fifth = begun_more (number ∷ fen ∷ found.0 ++ more.0) later _ _ fourth c.in_ok-put_later.ensures in
    if_ok c.end_row.result (c.end_row.ensures (number ∷ fen ∷ found.0 ++ more.0 ++ later) fifth) (λ line is. (
      found.0,
      more.0,
      found.1,
      more.1,
      is ∙ (λ i. row ((codes "problem", count (c.into.ensures i))
          ∷ (codes "fen", string ((c.as_str.ensures.value ∙ c.fen_text.ensures) i)) ∷ found.0 ++ more.0 ++ later)),
    ))
