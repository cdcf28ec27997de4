use Rattle.std.proofs.Common.{[], true, option_to_list, ap, ◌∙◌}
use Rattle.dw_notation.specs.inner.Pieces.{pieces_behind}
use Rattle.dw_notation.proofs.CutLemmas.{line_found-nil}
use Rattle.dw_notation.proofs.problems.reader.Pieces.finish.Goals as goal

pub returns-in-InLines-clause-over : goal.returns-in-InLines-clause-over
returns-in-InLines-clause-over c = λ g. ap (λ p. pieces_behind true g p []) c.in-InLines.is
    ∙ ap option_to_list (line_found-nil g)
