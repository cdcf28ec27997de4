use Rattle.std.proofs.Common.{◌≡◌, ◌-◌, get_or, arith}
use Rattle.dw_notation.proofs.LineWrittenLemmas.{len_found, len_none}
use Rattle.dw_notation.proofs.line_text.len_to.Goals as goal

pub returns-then-count-eq0 : goal.returns-then-count-eq0
returns-then-count-eq0 g c =
    len_none 0 c.args.plies.now c.args.moves (omega (arith, c.if-count-eq0.true, c.min-count.ensures))

pub returns-else-count-eq0 : goal.returns-else-count-eq0
returns-else-count-eq0 g c =
    let plies = c.args.plies.now in
    let count = c.min-count.result in
    let x = c.index-plies-count.result in
    let at : x ≡ get_or plies (count - 1) x = c.index-plies-count.is in
    len_found 0 plies c.args.moves (count - 1) x (omega arith) (omega arith) (λ more. omega arith) at
