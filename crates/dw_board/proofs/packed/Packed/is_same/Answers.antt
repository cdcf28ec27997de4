use Rattle.std.proofs.Common.{◌∙◌, ap, sym}
use Rattle.std.proofs.lemmas.Bool.{true≢false}
use Rattle.dw_board.specs.Packing.{packed_cells, kings_standing}
use Rattle.dw_board.specs.inner.SquareSetLemmas.{same_members-is}
use Rattle.dw_board.proofs.packed.Packed.is_same.Goals.{then-eq, else-eq}
use Rattle.dw_board.proofs.packed.Packed.is_same.Goals as goal

pub returns-then-eq-2 : goal.returns-then-eq-2
returns-then-eq-2 g c =
    let one = c.self.inside in
    let other = c.other.inside in
    elim c.if-eq.branch [
      | then-eq w ↦
          let white = (same_members-is one.white other.white).0 (sym c.eq.ensures ∙ w.if-eq.true) in
          let black = (same_members-is one.black other.black).0 (sym w.eq-then-eq.ensures
          ∙ (sym w.value-is ∙ c.if-eq-2.true)) in (
            (λ e.
                let kings = (same_members-is one.kings other.kings).0 (sym c.eq-then-eq-2.ensures ∙ e) in
                sym c.self.view_is ∙ ((λ i. packed_cells (white i) (black i) (kings i)) ∙ c.other.view_is)),
            (λ e.
                let cells = c.self.view_is ∙ (e ∙ sym c.other.view_is) in
                c.eq-then-eq-2.ensures ∙ (same_members-is one.kings other.kings).1 (sym c.self.invariant.kings_are
                ∙ (ap kings_standing cells ∙ c.other.invariant.kings_are))),
          )
      | else-eq w ↦ absurd (true≢false (sym c.if-eq-2.true ∙ (w.value-is ∙ w.if-eq.false)))
    ]
