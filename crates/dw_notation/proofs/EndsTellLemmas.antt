-- The ends tell a move that takes one piece or none.
use Rattle.std.proofs.Common.{◌≡◌, ℕ, ◌<◌, zero, suc, eqb, List, true, false, refl, sym, ap, ◌∙◌, subst, inl, inr}
use Rattle.std.proofs.Common.{arith}
use Rattle.std.specs.FinSet as set
use Rattle.std.specs.Ordering.{nat_cmp}
use Rattle.std.proofs.lemmas.Bool.{cases_Bool, eq-eqb, ne_eqb}
use Rattle.dw_board.specs.Geometry.{Geometry, IsBoard}
use Rattle.dw_board.specs.Placement.{Placement}
use Rattle.dw_board.specs.FenTokens.{dash}
use Rattle.dw_board.specs.Lists.{Member}
use Rattle.dw_moves.specs.Moves.{IsBest, Legal, Move, SharesEnds}
use Rattle.dw_moves.specs.Order.{Listed, AreListed, LandsAt}
use Rattle.dw_moves.specs.Laws.{MovesInOrder}
use Rattle.dw_notation.specs.Text.{cross, ends_text, shares_ends, IsMoveText}
use Rattle.dw_notation.specs.TextLaws.{EndsTell}
use Rattle.dw_notation.proofs.LineTextLemmas.{legal_has_step}
use Rattle.dw_notation.proofs.MoveWrittenLemmas.{Rules, shared_by_other, shared_is_long}

alone : Rules → (g : Geometry) → IsBoard g → (p : Placement) (list : List Listed) → AreListed g p list → (l : Listed)
    → Member l list
    → set.len l.step.taken ≡ 1 → shares_ends list l.step ≡ true → ⊥
alone rules g b p list all l here one shared =
    let path = all.paths l here in
    by_most path.0 path.1.leads.0 path.1.leads.1 path.1.leads.2
  where
    by_most : (landings : List ℕ) (k : ℕ) → IsBest g p k → LandsAt g p l.step k landings → ⊥
    by_most landings zero best lands =
        let none : set.len l.step.taken ≡ 0 = ap set.len lands.1 ∙ set.len-empty nat_cmp in
        omega (arith, one, none)
    by_most landings (suc k) best lands =
        let taken = rules.take.taken g p (suc k) l.step best (suc k, best, (landings, lands)) in
        shared_is_long rules g b p list all l k best landings lands shared
        (omega (arith, one, taken, rules.take.long g p l.step (suc k) landings lands))

-- a capture is written by its ends if none of the legal moves shares them
written_apart : MovesInOrder → (g : Geometry) → IsBoard g → (p : Placement) (m : Move) → Legal g p m
    → 0 < set.len m.taken
    → ((list : List Listed) → AreListed g p list → (l : Listed) → Member l list → l.step ≡ m
    → shares_ends list l.step ≡ true → ⊥)
    → IsMoveText g p m (ends_text cross m)
written_apart order g b p m legal takes apart =
    let all = order.listed g b p in
    let item = legal_has_step g p m all.0 all.1 legal in
    let count : set.len item.0.step.taken ≡ set.len m.taken = ap (λ z. set.len z.taken) item.2 in
    let some : eqb (set.len item.0.step.taken) 0 ≡ false = ne_eqb (set.len item.0.step.taken) 0
    (λ e. omega (arith, e, count, takes)) in
    let alone : shares_ends all.0 item.0.step ≡ false = elim (cases_Bool (shares_ends all.0 item.0.step)) [
      | inl shared ↦ absurd (apart all.0 all.1 item.0 item.1 item.2 shared)
      | inr alone ↦ alone
    ] in
    record {
      list = all.0;
      all = all.1;
      item = item.0;
      here = item.1;
      same = item.2;
      is = ap (ends_text cross) (sym item.2) ∙ sym (rw (some, alone) refl);
    }

pub ends_tell : MovesInOrder → Rules → EndsTell
ends_tell order rules = record {
  quiet = λ g b p m legal none.
      let all = order.listed g b p in
      let item = legal_has_step g p m all.0 all.1 legal in
      let zero : eqb (set.len item.0.step.taken) 0 ≡ true = eq-eqb (set.len item.0.step.taken) 0
      (ap (λ z. set.len z.taken) item.2 ∙ none) in
      record {
        list = all.0;
        all = all.1;
        item = item.0;
        here = item.1;
        same = item.2;
        is = ap (ends_text dash) (sym item.2) ∙ sym (rw zero refl);
      };
  one = λ g b p m legal one. written_apart order g b p m legal (omega (arith, one))
      (λ list all l here same shared.
      alone rules g b p list all l here (ap (λ z. set.len z.taken) same ∙ one) shared);
  apart = λ g b p m legal takes none. written_apart order g b p m legal takes
      (λ list all l here same shared.
      let count : set.len l.step.taken ≡ set.len m.taken = ap (λ z. set.len z.taken) same in
      none (subst (SharesEnds g p) same
      (shared_by_other rules g b p list all l here (omega (arith, count, takes)) shared)));
}
