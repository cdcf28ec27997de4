use Rattle.std.proofs.Common.{ap, sym, ◌∙◌, true}
use Rattle.dw_notation.specs.inner.Ahead.{found_from}
use Rattle.dw_notation.specs.inner.Problems.{found_of}
use Rattle.dw_notation.proofs.DefinitionLemmas.{sections-new}
use Rattle.dw_notation.proofs.problems.reader.Pieces.new.Goals as goal

pub returns-in-Fens : goal.returns-in-Fens
returns-in-Fens c = λ over g bytes. ap (λ b. found_from over g b c.new.result.line.items bytes) c.new.ensures.first
    ∙ ap (λ l. found_from over g true l bytes) c.new.ensures.line
    ∙ ap (λ f. found_of over g f bytes) (sym c.in-Fens.is)

pub returns-in-Pdn : goal.returns-in-Pdn
returns-in-Pdn c = λ over g bytes. sections-new over g c.new-in-Pdn.result c.new-in-Pdn.ensures.state
    c.new-in-Pdn.ensures.section bytes ∙ ap (λ f. found_of over g f bytes) (sym c.in-Pdn.is)
