use Rattle.std.proofs.Common.{◌-◌, ◌∙◌, ap, drop, take, length, reverse, arith}
use Rattle.std.proofs.lemmas.List.{take_all}
use Rattle.dw_list.proofs.StackViewLemmas.{inside_back, one_less, with_both}
use Rattle.dw_list.proofs.stack.Stack.back.Goals as goal

pub invariant_of-self : goal.invariant_of-self
invariant_of-self g c =
    let s = c.self.inside in
    let inv = c.self.invariant in
    let moves = s.line.items in
    let line = ap reverse c.truncate.ensures.items ∙ (one_less moves (length moves) c.saturating_sub.result
    (omega arith) (c.saturating_sub.ensures ∙ ap (λ z. z - 1) c.len-played.ensures.value)
    ∙ ap (λ z. drop 1 (reverse z)) (take_all (length moves) moves (omega arith))) in (
      inside_back g.B.Board.geometry s.position s.moves (take s.depth s.frames.items)
          (take c.saturating_sub-self-inside.result s.frames.items) (reverse moves) (reverse c.truncate.new.self.items)
          (one_less s.frames.items s.depth _ inv.1 c.saturating_sub-self-inside.ensures) line inv.0,
      omega (arith, inv.1, c.saturating_sub-self-inside.ensures),
      inv.2,
      inv.3,
    )

pub returns : goal.returns
returns g c =
    let s = c.self.inside in
    let moves = s.line.items in
    let line = ap reverse c.truncate.ensures.items ∙ (one_less moves (length moves) c.saturating_sub.result
    (omega arith) (c.saturating_sub.ensures ∙ ap (λ z. z - 1) c.len-played.ensures.value)
    ∙ ap (λ z. drop 1 (reverse z)) (take_all (length moves) moves (omega arith))) in
    with_both c.args.self.now _ _ _ _ _ _ c.self.view_is line (one_less s.frames.items s.depth _ c.self.invariant.1
    c.saturating_sub-self-inside.ensures)
