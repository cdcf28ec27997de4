use Rattle.std.proofs.Common.{◌≡◌, ◌++◌, take, subst, sym, rules, arith}
use Rattle.dw_notation.specs.inner.TextLines.{SaysSame}
use Rattle.dw_notation.proofs.LongLineLemmas.{SaysSame-held}
use Rattle.dw_notation.proofs.problems.fens.TextLines.push.Goals as goal

pub returns-clause-line : goal.returns-clause-line
returns-clause-line c =
    let old = c.args.self.now in
    let piece = c.args.piece.now in
    let count = c.min-count.result in
    let held : c.try_extend_from_slice-fits.new.self.items ≡ old.line.items ++ take count piece = search (rules, arith)
    in subst (SaysSame old.is_first (old.line.items ++ piece)) (sym held)
    (SaysSame-held old.is_first old.line.items piece count (omega arith) (omega arith))
