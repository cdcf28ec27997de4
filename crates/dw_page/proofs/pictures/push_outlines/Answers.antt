use Rattle.std.proofs.Common.{◌++◌, ◌+◌, ◌∙◌, ap, sym, append_assoc, flat_map}
use Rattle.std.specs.List.{range_with_len}
use Rattle.dw_page.specs.Pictures.{outline}
use Rattle.dw_page.proofs.DrawingLemmas.{first_more}
use Rattle.dw_page.proofs.pictures.push_outlines.Goals as goal

pub squares-preserved : goal.squares-preserved
squares-preserved g c =
    let drawn = outline g.B.Board.geometry in
    let n = c.squares.number in
    c.in_ok-push_outline.ensures ∙ (ap (λ t. t ++ drawn (n + 1)) c.squares.invariant
    ∙ (append_assoc c.args.page.now.items (flat_map drawn (range_with_len 1 n)) (drawn (n + 1))
    ∙ ap (λ t. c.args.page.now.items ++ t) (sym (first_more drawn n))))
