use Rattle.std.proofs.Common.{◌≡◌, ◌++◌, ◌∷◌, [], map, take}
use Rattle.std.specs.List.{flat_map}
use Rattle.dw_board.specs.declared.piece.Kind.TheVariants.{Man, King}
use Rattle.dw_mend.specs.Changes.{made}
use Rattle.dw_mend.specs.Telling.{told}
use Rattle.dw_mend.proofs.neighbours.push_made.Given as goal

abbrev pub invariant-squares : goal.invariant-squares
invariant-squares g l = map told l.list.items ≡ map told l.fn.list.items ++ flat_map (λ s. made s King ∷ made s Man ∷
    []) (take l.square-index l.squares)
