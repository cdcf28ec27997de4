use Rattle.std.proofs.Common.{◌≡◌, ◌-◌, ◌∙◌, ap, sym, get_or, length, arith}
use Rattle.dw_notation.proofs.LineWrittenLemmas.{end_at}
use Rattle.dw_notation.proofs.line_text.end_of.Goals as goal

pub returns-else-count-eq0 : goal.returns-else-count-eq0
returns-else-count-eq0 g c =
    let plies = c.args.plies.now in
    let count = length plies in
    let x = c.index-plies-count.result in
    let at : x ≡ get_or plies (count - 1) x = c.index-plies-count.is in
    ap (λ z. z.after) at ∙ sym (end_at c.args.start.now plies (count - 1) x (omega arith))
