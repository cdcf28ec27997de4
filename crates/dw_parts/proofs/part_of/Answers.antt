use Rattle.std.proofs.Common.{◌+◌, ◌%◌, ◌∙◌, sym, ap}
use Rattle.dw_parts.proofs.PartLemmas.{part_taken, part_left}
use Rattle.dw_parts.proofs.part_of.Goals as goal
use Rattle.dw_parts.proofs.part_of.Goals.{then-place-from+in_ok-push, else-place-from}

pub all-preserved : goal.all-preserved
all-preserved g c =
    let i = c.args.part.number in
    let m = c.args.part.parts in
    let k = c.all.place in
    let by = ap (λ z. (k + 1) % z) c.from.ensures in
    let rest = c.from-in-all.ensures in
    elim c.if-place-from.branch [
      | then-place-from+in_ok-push w ↦ part_taken i m c.args.all.now c.all.some.items c.if-place-from.some.items k
          c.index-all-place.result c.all-test.true c.index-all-place.is c.all.invariant
          (sym by ∙ (w.if-place-from.true ∙ rest))
          (ap (λ v. v.items) w.some-is ∙ w.in_ok-push.ensures.items)
      | else-place-from w ↦ ap (λ v. v.items) w.some-is ∙ part_left i m c.args.all.now c.all.some.items k
          c.index-all-place.result c.all-test.true c.index-all-place.is c.all.invariant
          (λ e. w.if-place-from.false (by ∙ (e ∙ sym rest)))
    ]
