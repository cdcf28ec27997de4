use Rattle.std.proofs.Common.{ℕ, ◌<◌, ◌∙◌, sym, arith, get_or, length-set, None}
use Rattle.std.proofs.lemmas.List.{length-map, get_or-map}
use Rattle.std.proofs.lemmas.List.Edits.{fill_by_more}
use Rattle.std.proofs.lemmas.Grind.{same_number_lists}
use Rattle.dw_board.specs.Placement as of
use Rattle.dw_board.proofs.position.codes_of.Goals as goal

pub loop-i-preserved : goal.loop-i-preserved
loop-i-preserved g c =
    let f : ℕ → ℕ = λ k. of.cell_code (get_or c.args.position.now.cells k None) in
    record {
      len = length-set c.loop-i.codes c.loop-i.i c.cell_code.result ∙ c.loop-i.invariant.len;
      written = rw (c.cell_code.ensures, c.cell_behind.ensures) (fill_by_more f c.loop-i.codes c.loop-i.i 0
          (omega arith) c.loop-i.invariant.written);
    }

pub returns : goal.returns
returns g c =
    let cells = c.args.position.now.cells in
    let fifty = c.keeps_its_rules.ensures.fifty in
    same_number_lists _ _
    (let e = length-map cells of.cell_code in omega arith)
    (λ k h. let low : k < 50 = omega arith in let e = length-map cells of.cell_code in
    c.loop-i.invariant.written k (omega arith) ∙ sym (get_or-map of.cell_code cells k None 0 (omega arith)))
