-- The pieces of a text that are problems, by its form.
use Rattle.std.specs.Prelude.{ℕ, List, [], Bool, false, Option}
use Rattle.dw_board.specs.Geometry.{Geometry}
use Rattle.dw_notation.specs.TextLines.{Found}
use Rattle.dw_notation.specs.inner.TextLines.{line_of, line_found}
use Rattle.dw_notation.specs.inner.Ahead.{found_from}
use Rattle.dw_notation.specs.inner.HeldSection.{sections_ahead, sections_cut}
use Rattle.dw_notation.specs.declared.problems.fens.TextLines.{TextLines}
use Rattle.dw_notation.specs.declared.problems.reader.Pieces.{Pieces}
use Rattle.dw_notation.specs.declared.problems.reader.Pieces.TheVariants.{InLines, InSections}

-- the problems of the line begun and of the bytes after it
abbrev pub lines_ahead : Bool → Geometry → TextLines → List ℕ → List Found
lines_ahead at_end g lines bytes = found_from at_end g lines.is_first lines.line.items bytes

-- the problems of the bytes after the line that was cut off
abbrev pub lines_behind : Bool → Geometry → TextLines → List ℕ → List Found
lines_behind at_end g lines bytes = found_from at_end g false [] bytes

-- the problem of the line that was cut off, if it has one
abbrev pub lines_cut : Geometry → TextLines → Option Found
lines_cut g lines = line_found g (line_of lines.is_first lines.line.items)

-- the problems of the piece begun and of the bytes after it
abbrev pub pieces_ahead : Bool → Geometry → Pieces → List ℕ → List Found
pieces_ahead at_end g (InLines lines) bytes = lines_ahead at_end g lines bytes
pieces_ahead at_end g (InSections sections) bytes = sections_ahead at_end g sections bytes

-- the problems of the bytes after the piece that was cut off
abbrev pub pieces_behind : Bool → Geometry → Pieces → List ℕ → List Found
pieces_behind at_end g (InLines lines) bytes = lines_behind at_end g lines bytes
pieces_behind at_end g (InSections sections) bytes = sections_ahead at_end g sections bytes

-- the problem of the piece that was cut off, if it has one
abbrev pub pieces_cut : Geometry → Pieces → Option Found
pieces_cut g (InLines lines) = lines_cut g lines
pieces_cut g (InSections sections) = sections_cut g sections
