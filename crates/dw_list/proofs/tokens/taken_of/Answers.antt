use Rattle.std.proofs.Common.{◌≡◌, ◌*◌, ◌+◌, ◌/◌, ◌^◌, ◌<◌, sym, ap, ◌∙◌, arith, subst}
use Rattle.std.specs.FinSet as set
use Rattle.std.proofs.lemmas.Bool.{eq-eqb, ne_eqb}
use Rattle.std.proofs.lemmas.Nat.Bits.{shr_and_one}
use Rattle.dw_board.specs.Geometry.{squares}
use Rattle.dw_list.proofs.TokenBitLemmas.{IsGathered, gathered_none, gathered_with, gathered_without, gathered_end}
use Rattle.dw_list.proofs.TokenBitLemmas.{shifted_all, all_squares}
use Rattle.dw_list.proofs.tokens.taken_of.Goals.{then-number-index-eq1, else-number-index-eq1}
use Rattle.dw_list.proofs.tokens.taken_of.Goals as goal

pub bits-init : goal.bits-init
bits-init g c = subst (IsGathered c.args.number 0) (sym c.none-taken.ensures) (gathered_none c.args.number)

pub bits-preserved : goal.bits-preserved
bits-preserved g c =
    let test = shr_and_one c.args.number c.bits.index in
    elim c.if-number-index-eq1.branch [
      | then-number-index-eq1 w ↦
          subst (IsGathered c.args.number (c.bits.index + 1))
          (sym (w.taken-is ∙ (w.with-taken.ensures ∙ ap (set.insert c.bits.taken) w.square_behind.ensures)))
          (gathered_with c.args.number c.bits.index c.bits.taken (eq-eqb _ _ (sym test ∙ w.if-number-index-eq1.true))
          c.bits.invariant)
      | else-number-index-eq1 w ↦
          subst (IsGathered c.args.number (c.bits.index + 1)) (sym w.taken-is)
          (gathered_without c.args.number c.bits.index c.bits.taken
          (ne_eqb _ _ (λ e. w.if-number-index-eq1.false (test ∙ e))) c.bits.invariant)
    ]

pub returns : goal.returns
returns g c =
    let all = all_squares g.B.Board.geometry c.ROWS-2.result c.PER_ROW-2.result (c.ROWS-2.ensures
    ∙ g.met.B.Board.rows_is) (c.PER_ROW-2.ensures ∙ g.met.B.Board.per_row_is) in
    let first = all_squares g.B.Board.geometry c.ROWS.result c.PER_ROW.result (c.ROWS.ensures ∙ g.met.B.Board.rows_is)
    (c.PER_ROW.ensures ∙ g.met.B.Board.per_row_is) in
    let end : c.bits.index ≡ c.ROWS-2.result * c.PER_ROW-2.result = omega (
      arith,
      c.bits.auto.index-end,
      c.bits-test.false,
    ) in
    let fits : c.args.number < 2 ^ squares g.B.Board.geometry = shifted_all c.args.number (squares g.B.Board.geometry)
    (ap (λ k. c.args.number / 2 ^ k) (sym first) ∙ c.if-number-ROWS-ne0.false) in
    gathered_end g.B.Board.geometry c.args.number c.bits.index c.bits.taken (end ∙ all) fits c.bits.invariant
