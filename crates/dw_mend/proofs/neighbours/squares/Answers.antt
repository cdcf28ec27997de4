use Rattle.std.proofs.Common.{◌+◌, ◌∙◌, ◌++◌, ◌∷◌, [], sym, ap, ◌<◌, ◌*◌, arith, subst}
use Rattle.dw_board.specs.Geometry.{squares}
use Rattle.dw_mend.proofs.ListLemmas.{range_next}
use Rattle.dw_mend.proofs.neighbours.squares.Goals as goal
use Rattle.dw_mend.proofs.neighbours.squares.Goals.{in-Some+in_ok-push, in_default}

pub squares-preserved : goal.squares-preserved
squares-preserved g c =
    let so_far = c.squares.invariant in
    elim c.match-new.branch [
      | in-Some+in_ok-push w ↦ let h = w.in-Some.ensures in
          ap (λ v. v.items) w.squares-is ∙ (w.in_ok-push.ensures.items
          ∙ (ap (λ z. c.squares.squares.items ++ z ∷ []) h.1 ∙ (ap (λ z. z ++ (c.squares.behind + 1) ∷ []) so_far
          ∙ sym (range_next c.squares.behind))))
      | in_default w ↦
          let rows = c.ROWS.ensures ∙ g.met.B.Board.rows_is in
          let per_row = c.PER_ROW.ensures ∙ g.met.B.Board.per_row_is in
          let within : c.squares.behind < squares g.B.Board.geometry =
          subst (λ z. c.squares.behind < z) ((λ i. rows i * per_row i)) c.squares-test.true in
          absurd (w.in_default.ensures (omega arith, omega arith))
    ]
