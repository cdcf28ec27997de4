-- The text of a certificate.
use Rattle.std.specs.Prelude.{ℕ, Bool, true, false, List, [], ◌∷◌, ◌++◌, map, codes, decimal, Option, Some, None}
use Rattle.std.specs.List.{flat_map}
use Rattle.dw_board.specs.Geometry.{Geometry}
use Rattle.dw_board.specs.Placement.{Placement}
use Rattle.dw_board.specs.FenText.{written}
use Rattle.dw_memo.specs.Content.{Entry, Content}

-- a bound, or a dash if there is none
abbrev pub bound_text : Option ℕ → List ℕ
bound_text None = codes "-"
bound_text (Some n) = decimal n

-- a position with its bounds
abbrev pub entry_text : Geometry → Entry → List ℕ
entry_text g e = written g e.position ++ codes " fails " ++ bound_text e.bounds.fails
    ++ codes " wins " ++ bound_text e.bounds.wins

-- the line of the answer
abbrev pub answer_text : (win : Bool) → ℕ → List ℕ
answer_text true n = codes "win in " ++ decimal n
answer_text false n = codes "no win in " ++ decimal n

-- lines, each with its end
abbrev pub lines_text : List (List ℕ) → List ℕ
lines_text lines = flat_map (λ line. line ++ 10 ∷ []) lines

-- the lines before the positions: the form and its number, the board, the position, the answer
abbrev pub head_lines : Geometry → Placement → ℕ → (win : Bool) → List (List ℕ)
head_lines g p n win = codes "certificate 1" ∷ (codes "board " ++ decimal g.rows) ∷ written g p ∷ answer_text win n ∷ []

-- the text of a certificate
abbrev pub certificate_text : Geometry → Placement → ℕ → (win : Bool) → Content → List ℕ
certificate_text g p n win content = lines_text (head_lines g p n win ++ map (entry_text g) content)
