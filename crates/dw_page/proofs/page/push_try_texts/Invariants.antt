use Rattle.std.proofs.Common.{◌≡◌, ◌++◌, take, map}
use Rattle.std.specs.Prelude.{codes}
use Rattle.std.specs.List.{join_by}
use Rattle.std.specs.String.{string_bytes}
use Rattle.dw_page.specs.Pages.{try_shown}
use Rattle.dw_page.proofs.JoinLemmas.{before_next}
use Rattle.dw_page.proofs.page.push_try_texts.Given as goal

abbrev pub invariant-tries : goal.invariant-tries
invariant-tries l =
    let texts = map string_bytes (take l.text-index l.tries) in
    record {
      so_far : l.page.items ≡ l.initial.page.items ++ join_by try_shown (codes "; ") texts;
      mark : l.mark ≡ before_next (codes "; ") texts;
    }
