use Rattle.std.proofs.Common.{◌++◌, ◌∙◌, None, Some, ap, sym, refl, take, filter_map, option_map, rules}
use Rattle.std.specs.Prelude.{codes}
use Rattle.dw_page.specs.Escaping.{shown_bytes}
use Rattle.dw_page.specs.Pages.{source}
use Rattle.dw_page.proofs.JoinLemmas.{before_more}
use Rattle.dw_page.proofs.RowLemmas.{join_step, none_more}
use Rattle.dw_page.proofs.RowLemmas.{one_more}
use Rattle.std.proofs.lemmas.List.{take_all}
use Rattle.dw_page.proofs.page.push_source.Goals as goal

pub values-preserved-in_default : goal.values-preserved-in_default
values-preserved-in_default c =
    let h = option_map (λ v. v.now) in
    let more = none_more h c.args.values.now c.values.value-index None c.values-test.true (ap h c.in_default.is) in
    record { so_far = rw more c.values.invariant.so_far; mark = rw more c.values.invariant.mark }

pub values-preserved : goal.values-preserved
values-preserved c =
    let h = option_map (λ v. v.now) in
    let xs = filter_map h (take c.values.value-index c.args.values.now) in
    let x = c.in-Some.text.now in
    let more = one_more h c.args.values.now c.values.value-index None x c.values-test.true (ap h c.in-Some.is) in
    record {
      so_far = rw more (join_step shown_bytes (codes ", ") xs x c.args.page.now.items c.values.page.items
          c.extend_from_slice.new.self.items c.push_bytes.new.page.items c.values.mark.now c.values.invariant.so_far
          c.values.invariant.mark
          (c.in_ok-extend_from_slice.ensures.items ∙ ap (λ t. c.values.page.items ++ t) c.as_bytes.ensures.value)
          c.in_ok-push_bytes.ensures);
      mark = rw more (sym (before_more (codes ", ") xs x));
    }

pub returns : goal.returns
unfolding source
returns c =
    rw (← take_all c.values.value-index c.args.values.now c.values-test.false) c.values.invariant.so_far
