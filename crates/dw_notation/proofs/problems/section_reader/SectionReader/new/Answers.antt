use Rattle.dw_notation.specs.inner.Readers.{ahead_of}
use Rattle.dw_notation.proofs.ProblemLemmas.{sections-fresh}
use Rattle.dw_notation.proofs.problems.section_reader.SectionReader.new.Goals as goal

pub returns-clause-said : goal.returns-clause-said
unfolding ahead_of
returns-clause-said g c = λ over bytes.
    let fens = c.reading_is_grammar.ensures in
    sections-fresh (fens.position, fens.fault) g.B.Board.geometry over bytes c.new.result c.new.ensures.state
    c.new.ensures.section
