use Rattle.std.proofs.Common.{◌+◌, ◌++◌, ◌∷◌, [], drop, ap, sym, ◌∙◌, arith, length-append}
use Rattle.dw_notation.specs.inner.Sections.{after}
use Rattle.dw_notation.specs.inner.TagReading.{read_by, tag_from}
use Rattle.dw_notation.specs.declared.problems.pdn.automaton.Action.{Action}
use Rattle.dw_notation.specs.declared.problems.pdn.automaton.Action.TheVariants.{Count, AddName, OpenValue, AddValue}
use Rattle.dw_notation.specs.declared.problems.pdn.automaton.Action.TheVariants.{AddBoth}
use Rattle.dw_notation.proofs.TagLoopLemmas.{ReadsTag-start, ReadsTag-step, whole_tag, breaks_tag, broken_tag, open_tag}
use Rattle.dw_notation.proofs.tags.read_tag.Goals as goal
use Rattle.dw_notation.proofs.tags.read_tag.Goals.{in-Count, in-AddName, in-OpenValue}
use Rattle.dw_notation.proofs.tags.read_tag.Goals.{in-AddValue+in_ok-push-in-AddValue}
use Rattle.dw_notation.proofs.tags.read_tag.Goals.{in-AddBoth+in_ok-push-in-AddBoth+in_ok-push-in-AddBoth-2}

pub bytes-init : goal.bytes-init
bytes-init c = ReadsTag-start c.in-Some.inside.now c.new-value.result.items c.new-value.ensures.items

pub tag_of-requires : goal.tag_of-requires
tag_of-requires c =
    let l = c.bytes in
    let p = whole_tag c.in-Some.inside.now l.i l.state l.named l.value.items c.transition-transition.result l.invariant
    c.bytes-test.true c.transition-transition.ensures c.args.text.now c.split_at.result.0.now c.in-Some.ensures
    c.in-Close.is c.split_at.ensures.front in (p.0, p.1, p.2)

pub returns-in-Close-clause-some : goal.returns-in-Close-clause-some
returns-in-Close-clause-some c =
    let l = c.bytes in
    let p = whole_tag c.in-Some.inside.now l.i l.state l.named l.value.items c.transition-transition.result l.invariant
    c.bytes-test.true c.transition-transition.ensures c.args.text.now c.split_at.result.0.now c.in-Some.ensures
    c.in-Close.is c.split_at.ensures.front in
    rw (c.tag_of.ensures.text, c.tag_of.ensures.said p.0 p.1 p.2 p.3) (drop (l.i + 1) c.in-Some.inside.now, p.4, p.1)

pub returns-in_default-action-clause-none : goal.returns-in_default-action-clause-none
returns-in_default-action-clause-none c =
    let l = c.bytes in
    let other = c.in_default-action in
    broken_tag c.in-Some.inside.now l.i l.state l.named l.value.items c.transition-transition.result l.invariant
    c.bytes-test.true c.transition-transition.ensures c.args.text.now c.in-Some.ensures (breaks_tag
    c.transition-transition.result.action _ _ _ other.not-Count other.not-AddName other.not-OpenValue other.not-AddValue
    other.not-AddBoth other.not-Close)

pub bytes-preserved : goal.bytes-preserved
bytes-preserved c =
    let l = c.bytes in
    let inside = c.in-Some.inside.now in
    let t = c.transition-transition.result in
    let r = l.invariant in
    let step = ReadsTag-step inside l.i l.state l.named l.value.items t r c.bytes-test.true
    c.transition-transition.ensures in
    let by = λ (a : Action). read_by a r.section (drop (l.i + 1) inside) (λ u. tag_from t.state u (drop (l.i + 1)
    inside)) in
    elim c.match-transition.branch [
      | in-Count w ↦ rw (w.named-is, w.value-is) (step (after Count r.section) l.named l.value.items (ap by
          w.in-Count.is) r.is_named (omega (arith, r.few)) r.is_value)
      | in-AddName w ↦
          let longer = length-append r.section.name (w.in-AddName.field-0 ∷ []) in
          rw (w.named-is, w.value-is) (step (after (AddName w.in-AddName.field-0) r.section) (l.named + 1) l.value.items
          (ap by w.in-AddName.is) (omega (arith, longer, r.is_named)) (omega (arith, r.few)) r.is_value)
      | in-OpenValue w ↦ rw (w.named-is, w.value-is) (step (after OpenValue r.section) l.named w.clear.new.self.items
          (ap by w.in-OpenValue.is) r.is_named (omega (arith, r.few)) (sym w.clear.ensures.items))
      | in-AddValue+in_ok-push-in-AddValue w ↦
          let byte = w.in-AddValue.byte in
          rw (w.named-is, w.value-is) (step (after (AddValue byte) r.section) l.named w.push.new.self.items
          (ap by w.in-AddValue.is) r.is_named (omega (arith, r.few))
          (ap (λ v. v ++ byte ∷ []) r.is_value ∙ sym w.in_ok-push-in-AddValue.ensures.items))
      | in-AddBoth+in_ok-push-in-AddBoth+in_ok-push-in-AddBoth-2 w ↦
          let byte = w.in-AddBoth.byte in
          rw (w.named-is, w.value-is) (step (after (AddBoth byte) r.section) l.named w.push-in-AddBoth-2.new.self.items
          (ap by w.in-AddBoth.is) r.is_named (omega (arith, r.few))
          (ap (λ v. (v ++ 92 ∷ []) ++ byte ∷ []) r.is_value
          ∙ ap (λ v. v ++ byte ∷ []) (sym w.in_ok-push-in-AddBoth.ensures.items)
          ∙ sym w.in_ok-push-in-AddBoth-2.ensures.items))
    ]

pub returns-clause-none : goal.returns-clause-none
returns-clause-none c =
    let l = c.bytes in
    open_tag c.args.text.now c.in-Some.inside.now l.i l.state l.named l.value.items c.in-Some.ensures l.invariant
    c.bytes-test.false
