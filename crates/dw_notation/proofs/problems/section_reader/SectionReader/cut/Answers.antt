use Rattle.dw_notation.specs.inner.Readers.{ahead_of, cut_of}
use Rattle.dw_notation.proofs.EndingLemmas.{ended_found}
use Rattle.dw_notation.proofs.problems.section_reader.SectionReader.cut.Goals as goal

pub returns-clause-some : goal.returns-clause-some
unfolding ahead_of cut_of
returns-clause-some g c = ended_found g.B.Board.geometry c.args.self.now.sections c.cut.new.self c.args.bytes.now
    c.cut.result c.cut.ensures.some
