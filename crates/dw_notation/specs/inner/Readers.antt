-- Readers of problems and of sections, as their callers see them.
use Rattle.std.specs.Prelude.{ℕ, List, Bool, Option}
use Rattle.dw_board.specs.Geometry.{Geometry}
use Rattle.dw_notation.specs.TextLines.{Found}
use Rattle.dw_notation.specs.Reading.{Reader}
use Rattle.dw_notation.specs.inner.Cutting.{progress_of, reader_at}
use Rattle.dw_notation.specs.inner.HeldSection.{sections_ahead, sections_cut}
use Rattle.dw_notation.specs.declared.problems.reader.Problems.{Problems}
use Rattle.dw_notation.specs.declared.problems.section_reader.SectionReader.{SectionReader}

-- Sealed: the clauses of public calls name it, and say all that is to be known of it.
unfoldable pub reader_of : {B S : Type 0} → Problems B S → Reader
reader_of problems = reader_at (progress_of problems)

-- Sealed: the clauses of public calls name it, and say all that is to be known of it. It is the list of problems of the
-- bytes given to a reader and of these bytes, without those that it has returned.
unfoldable pub ahead_of : {B : Type 0} → SectionReader B → Geometry → Bool → List ℕ → List Found
ahead_of reader g over bytes = sections_ahead over g reader.sections bytes

-- Sealed: the clauses of public calls name it, and say all that is to be known of it. It is the problem of the piece
-- that was cut off last.
unfoldable pub cut_of : {B : Type 0} → SectionReader B → Geometry → Option Found
cut_of reader g = sections_cut g reader.sections
