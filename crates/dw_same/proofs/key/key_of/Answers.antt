use Rattle.std.proofs.Common.{ℕ, ◌+◌, ◌-◌, ◌<◌, ◌≡◌, ◌∙◌, sym, ap, arith, get_or, length-set, None}
use Rattle.std.proofs.lemmas.List.{length-map, get_or-map}
use Rattle.std.proofs.lemmas.List.Edits.{fill_by_more}
use Rattle.std.proofs.lemmas.Grind.{same_number_lists}
use Rattle.dw_board.specs.Placement as of
use Rattle.dw_same.specs.inner.Keys.{with_white_to_move}
use Rattle.dw_same.proofs.TurnLemmas.{code_at, fifty_cells}
use Rattle.dw_same.proofs.key.key_of.Goals as goal

pub loop-i-preserved : goal.loop-i-preserved
loop-i-preserved g c =
    let p = c.args.position.now in
    let cells = (with_white_to_move g.B.Board.geometry p p.turn).cells in
    let f : ℕ → ℕ = λ k. of.cell_code (get_or cells k None) in
    let is : c.cell_code.result ≡ f c.loop-i.i =
    code_at cells c.loop-i.i c.cell_of.result c.cell_code.result c.cell_code.ensures c.cell_of.ensures in
    record {
      len = length-set c.loop-i.codes c.loop-i.i c.cell_code.result ∙ c.loop-i.invariant.len;
      written = rw is (fill_by_more f c.loop-i.codes c.loop-i.i 0 (omega arith) c.loop-i.invariant.written);
    }

pub returns : goal.returns
returns g c =
    let p = c.args.position.now in
    let cells = (with_white_to_move g.B.Board.geometry p p.turn).cells in
    let fifty = fifty_cells g.B.Board.geometry p p.turn c.keeps_its_rules.ensures in
    same_number_lists _ _
    (let e = length-map cells of.cell_code in omega arith)
    (λ k h. let low : k < 50 = omega arith in let e = length-map cells of.cell_code in
    c.loop-i.invariant.written k (omega arith) ∙ sym (get_or-map of.cell_code cells k None 0 (omega arith)))
