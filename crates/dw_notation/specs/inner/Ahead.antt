-- The problems still ahead in a text of lines that is read piece by piece.
use Rattle.std.specs.Prelude.{ℕ, ◌==◌, if◌then◌else◌, List, [], ◌∷◌, ◌++◌, Bool, false, option_to_list}
use Rattle.dw_board.specs.Geometry.{Geometry}
use Rattle.dw_notation.specs.TextLines.{line_feed, Found}
use Rattle.dw_notation.specs.inner.TextLines.{line_of, line_found}

-- the problems of the line begun, which may be the first, and of the bytes after it; at the end of the text the last
-- line needs no line feed
abbrev pub found_from : Bool → Geometry → Bool → List ℕ → List ℕ → List Found
found_from at_end g first line [] = if at_end then option_to_list (line_found g (line_of first line)) else []
found_from at_end g first line (byte ∷ bytes) =
    if byte == line_feed then option_to_list (line_found g (line_of first line)) ++ found_from at_end g false [] bytes
    else found_from at_end g first (line ++ byte ∷ []) bytes
