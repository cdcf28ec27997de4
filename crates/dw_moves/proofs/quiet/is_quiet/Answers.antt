use Rattle.std.proofs.Common.{◌≡◌, true, inl, inr, sym, ap, ◌∙◌, refl}
use Rattle.dw_board.specs.Placement.{same_side}
use Rattle.dw_board.specs.Lists.{Member}
use Rattle.dw_moves.specs.inner.Plain.{goes}
use Rattle.dw_moves.proofs.OrChainLemmas.{some_dir}
use Rattle.dw_moves.proofs.QuietLemmas.{own_quiet}
use Rattle.dw_moves.proofs.quiet.is_quiet.Goals as goal
use Rattle.dw_moves.proofs.quiet.is_quiet.Goals.{then-goes_to, else-goes_to, then-goes_to-2, else-goes_to-2}

pub returns-then-goes_to-3 : goal.returns-then-goes_to-3
returns-then-goes_to-3 g c =
    let p = c.args.position.now in
    let mover = c.in-Some.mover in
    let own : same_side mover.side p.turn ≡ true = ap (same_side mover.side) (sym c.turn.ensures.value)
    ∙ (sym c.is_own.ensures ∙ c.if-is_own.true) in
    own_quiet g.B.Board.geometry p c.args.from c.args.to mover c.at.ensures.on_board
    (sym c.at.ensures.value ∙ c.in-Some.is) own c.if-goes_to-2.value
    (some_dir (λ d. Member c.args.to (goes mover.kind g.B.Board.geometry p p.turn c.args.from d)) c.goes_to.result
    c.if-goes_to.value c.if-goes_to-2.value c.if-goes_to-2.value c.goes_to.ensures
    (elim c.if-goes_to.branch [
      | then-goes_to w ↦ inl (w.if-goes_to.true, w.value-is)
      | else-goes_to w ↦ inr (_, w.if-goes_to.false, w.value-is, w.goes_to-else-goes_to.ensures)
    ]) (elim c.if-goes_to-2.branch [
      | then-goes_to-2 w ↦ inl (w.if-goes_to-2.true, w.value-is)
      | else-goes_to-2 w ↦ inr (_, w.if-goes_to-2.false, w.value-is, w.goes_to-else-goes_to-2.ensures)
    ]) (inl (c.if-goes_to-3.true, refl)))

pub returns-else-goes_to-3 : goal.returns-else-goes_to-3
returns-else-goes_to-3 g c =
    let p = c.args.position.now in
    let mover = c.in-Some.mover in
    let own : same_side mover.side p.turn ≡ true = ap (same_side mover.side) (sym c.turn.ensures.value)
    ∙ (sym c.is_own.ensures ∙ c.if-is_own.true) in
    own_quiet g.B.Board.geometry p c.args.from c.args.to mover c.at.ensures.on_board
    (sym c.at.ensures.value ∙ c.in-Some.is) own c.goes_to-else-goes_to-3.result
    (some_dir (λ d. Member c.args.to (goes mover.kind g.B.Board.geometry p p.turn c.args.from d)) c.goes_to.result
    c.if-goes_to.value c.if-goes_to-2.value c.goes_to-else-goes_to-3.result c.goes_to.ensures
    (elim c.if-goes_to.branch [
      | then-goes_to w ↦ inl (w.if-goes_to.true, w.value-is)
      | else-goes_to w ↦ inr (_, w.if-goes_to.false, w.value-is, w.goes_to-else-goes_to.ensures)
    ]) (elim c.if-goes_to-2.branch [
      | then-goes_to-2 w ↦ inl (w.if-goes_to-2.true, w.value-is)
      | else-goes_to-2 w ↦ inr (_, w.if-goes_to-2.false, w.value-is, w.goes_to-else-goes_to-2.ensures)
    ]) (inr (_, c.if-goes_to-3.false, refl, c.goes_to-else-goes_to-3.ensures)))
