use Rattle.std.proofs.Common.{◌++◌, ap, ◌∙◌}
use Rattle.dw_notation.specs.Numbering.{handed_out}
use Rattle.dw_notation.specs.inner.Cutting.{progress_at}
use Rattle.dw_notation.specs.inner.Pieces.{pieces_ahead}
use Rattle.dw_notation.specs.inner.Readers.{reader_of}
use Rattle.dw_notation.proofs.ProblemLemmas.{fresh_ahead}
use Rattle.dw_notation.proofs.problems.reader.Problems.new.Goals as goal

pub returns-clause-ahead : goal.returns-clause-ahead
unfolding reader_of
returns-clause-ahead g c = λ over bytes.
    let fens = c.reading_is_grammar.ensures in
    fresh_ahead (fens.position, fens.fault) g.B.Board.geometry c.args.form over bytes
    (progress_at c.new.result c.new-2.result (handed_out c.new-3.result)) c.new-3.ensures
    (ap (λ l. pieces_ahead over g.B.Board.geometry c.new-2.result (l ++ bytes)) c.new.ensures.unread
    ∙ c.new-2.ensures over g.B.Board.geometry bytes)
