use Rattle.std.proofs.Common.{◌≡◌, ℕ, ◌+◌, ◌++◌, ◌∷◌, [], ◌∙◌, List, ap, sym, arith, add-one, zero-add, flat_map}
use Rattle.std.proofs.lemmas.Grind.{flat_map-append}
use Rattle.std.proofs.lemmas.List.{append-nil}
use Rattle.std.specs.List.{range_with_len}
use Rattle.dw_board.specs.Diagram.{row_text, diagram_text}
use Rattle.dw_board.proofs.WrittenLemmas.{range_more}
use Rattle.dw_board.proofs.diagram.diagram.Goals as goal

rows_more : (f : ℕ → List ℕ) (n : ℕ) → flat_map f (range_with_len 0 (n + 1)) ≡ flat_map f (range_with_len 0 n) ++ f n
rows_more f n = ap (λ k. flat_map f (range_with_len 0 k)) (add-one n) ∙ (ap (flat_map f) (range_more 0 n)
    ∙ (flat_map-append f (range_with_len 0 n) ((0 + n) ∷ []) ∙ ap (λ t. flat_map f (range_with_len 0 n) ++ t)
    (append-nil (f (0 + n)) ∙ ap f (zero-add n))))

pub rows-preserved : goal.rows-preserved
rows-preserved g c = record {
  text = c.push_row.ensures.bytes c.args.position.now c.of-signs.ensures
      ∙ (ap (λ t. t ++ row_text g.B.Board.geometry c.args.position.now c.rows.row) c.rows.invariant.text
      ∙ sym (rows_more (row_text g.B.Board.geometry c.args.position.now) c.rows.row));
  few = let e = c.push_row.ensures.few in let f = c.rows.invariant.few in omega arith;
}

pub returns : goal.returns
unfolding diagram_text
returns g c =
    let rows = c.ROWS-row-end.ensures ∙ g.met.B.Board.rows_is in
    let e : c.rows.row ≡ g.B.Board.geometry.rows = omega arith in
    c.rows.invariant.text ∙ ap (λ n. flat_map (row_text g.B.Board.geometry c.args.position.now) (range_with_len 0 n)) e
