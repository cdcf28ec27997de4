use Rattle.std.proofs.Common.{◌++◌, ◌+◌, ◌∙◌, ap, sym, append_assoc, flat_map}
use Rattle.std.specs.List.{range_with_len}
use Rattle.dw_page.specs.Drawing.{square_mark}
use Rattle.dw_page.proofs.DrawingLemmas.{first_more}
use Rattle.dw_page.proofs.diagram.push_marks.Goals as goal

pub squares-preserved : goal.squares-preserved
squares-preserved g c =
    let drawn = square_mark g.B.Board.geometry c.args.position.now in
    let n = c.squares.number in
    c.in_ok-push_numbered.ensures ∙ (ap (λ t. t ++ drawn (n + 1)) c.squares.invariant
    ∙ (append_assoc c.args.page.now.items (flat_map drawn (range_with_len 1 n)) (drawn (n + 1))
    ∙ ap (λ t. c.args.page.now.items ++ t) (sym (first_more drawn n))))
