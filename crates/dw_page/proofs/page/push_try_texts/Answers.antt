use Rattle.std.proofs.Common.{◌++◌, ◌∙◌, ap, map, sym, take}
use Rattle.std.specs.Prelude.{codes}
use Rattle.std.specs.String.{string_bytes}
use Rattle.dw_page.specs.Pages.{try_shown}
use Rattle.dw_page.proofs.JoinLemmas.{before_more}
use Rattle.dw_page.proofs.RowLemmas.{join_step, texts_more}
use Rattle.dw_page.proofs.page.push_try_texts.Goals as goal

pub tries-preserved : goal.tries-preserved
tries-preserved c =
    let xs = map string_bytes (take c.tries.text-index c.args.tries.now) in
    let x = c.text-item.result in
    let more = texts_more string_bytes c.args.tries.now c.tries.text-index x c.tries-test.true c.text-item.is in
    record {
      so_far = rw more (join_step try_shown (codes "; ") xs (string_bytes x) c.args.page.now.items c.tries.page.items
          c.extend_from_slice.new.self.items c.push_try.new.page.items c.tries.mark.now c.tries.invariant.so_far
          c.tries.invariant.mark
          (c.in_ok-extend_from_slice.ensures.items ∙ ap (λ t. c.tries.page.items ++ t) c.as_bytes.ensures.value)
          (c.in_ok-push_try.ensures
          ∙ ap (λ t. c.extend_from_slice.new.self.items ++ try_shown t) c.as_str.ensures.value));
      mark = rw more (sym (before_more (codes "; ") xs (string_bytes x)));
    }
