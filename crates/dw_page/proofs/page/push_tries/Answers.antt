use Rattle.std.proofs.Common.{append_assoc}
use Rattle.std.specs.String.{string_bytes}
use Rattle.dw_page.proofs.RowLemmas.{no_tries, some_tries}
use Rattle.dw_page.proofs.page.push_tries.Goals as goal

pub returns-then-is_empty : goal.returns-then-is_empty
returns-then-is_empty c =
    no_tries string_bytes c.args.language c.args.tries.now c.args.page.now.items c.if-is_empty.ensures

pub returns : goal.returns
returns c =
    rw (
      some_tries string_bytes c.args.language c.args.tries.now c.if-is_empty.ensures,
      c.in_ok-push_all-2.ensures,
      c.in_ok-push_try_texts.ensures,
      c.in_ok-push_all.ensures,
      c.phrase.ensures,
    ) (simp append_assoc)
