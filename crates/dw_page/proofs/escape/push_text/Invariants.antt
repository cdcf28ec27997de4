use Rattle.std.proofs.Common.{◌≡◌, ◌++◌, take}
use Rattle.dw_page.specs.Escaping.{stands_for}
use Rattle.dw_page.proofs.escape.push_text.Given as goal

abbrev pub invariant-bytes : goal.invariant-bytes
invariant-bytes l = l.page.items ≡ l.initial.page.items ++ stands_for (take l.byte-index l.text)
