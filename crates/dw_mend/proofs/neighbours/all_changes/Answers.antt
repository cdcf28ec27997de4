use Rattle.std.proofs.Common.{◌∙◌, ap, map, [], ◌∷◌, ◌++◌}
use Rattle.std.specs.List.{flat_map}
use Rattle.dw_board.specs.declared.piece.Kind.TheVariants.{Man, King}
use Rattle.dw_mend.specs.Changes.{all_squares, without, with_piece, set, made, pieces}
use Rattle.dw_mend.specs.Telling.{told}
use Rattle.dw_mend.proofs.ListLemmas.{four_joined}
use Rattle.dw_mend.proofs.neighbours.all_changes.Goals as goal

pub returns : goal.returns
returns g c =
    let all = all_squares g.B.Board.geometry in
    let is = c.in_ok-squares.ensures in
    four_joined (map without all) (flat_map (λ s. map (with_piece s) pieces) all)
    (flat_map (λ s. map (set s) all) all) (flat_map (λ s. made s King ∷ made s Man ∷ []) all)
    (map told c.new-list.result.items) (map told c.push_without.new.list.items) (map told c.push_with.new.list.items)
    (map told c.push_set.new.list.items) (map told c.push_made.new.list.items) (ap (map told) c.new-list.ensures.items)
    (c.in_ok-push_without.ensures ∙ ap (λ z. map told c.new-list.result.items ++ map without z)
    (c.as_slice.ensures.value ∙ is))
    (c.in_ok-push_with.ensures ∙ ap (λ z. map told c.push_without.new.list.items
    ++ flat_map (λ s. map (with_piece s) pieces) z) (c.as_slice-2.ensures.value ∙ is))
    (c.in_ok-push_set.ensures ∙ ap (λ z. map told c.push_with.new.list.items ++ flat_map (λ s. map (set s) z) z)
    (c.as_slice-3.ensures.value ∙ is))
    (c.in_ok-push_made.ensures ∙ ap (λ z. map told c.push_set.new.list.items
    ++ flat_map (λ s. made s King ∷ made s Man ∷ []) z) (c.as_slice-4.ensures.value ∙ is))
