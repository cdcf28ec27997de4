-- The kept part of a text.
use Rattle.std.specs.Prelude.{◌≡◌, ◌+◌, ◌-◌, ℕ, List, [], ◌∷◌, ◌++◌, length, take, if◌then◌else◌, Ok, Err}
use Rattle.std.specs.Str.{IsTrimAsciiEnd}
use Rattle.dw_notation.specs.TextLines.{Found}
use Rattle.dw_notation.specs.Tags.{is_space}
use Rattle.dw_games.specs.declared.movetext.TheConstants.{MAX_MOVETEXT}
use Rattle.dw_games.specs.declared.bounded_buf.BoundedBuf.{BoundedBuf}

-- a buffer keeps the first bytes of a text, up to a limit
pub record IsKept (limit : ℕ) (text : List ℕ) (kept : BoundedBuf) : Type 0 where
  pub most : kept.limit ≡ limit
  pub bytes : kept.bytes.items ≡ take limit text

-- a buffer keeps the start of a movetext: nothing, if its section is refused
abbrev pub IsKeptFor : Found → List ℕ → BoundedBuf → Type 0
IsKeptFor (Ok position) text kept = IsKept (MAX_MOVETEXT + 1) text kept
IsKeptFor (Err fault) text kept = IsKept 0 text kept

-- the tags of a game: the kept bytes without the spaces at their end; nothing, if its section is refused
abbrev pub IsTold : Found → (kept tags : List ℕ) → Type 0
IsTold (Ok position) kept tags = IsTrimAsciiEnd kept tags
IsTold (Err fault) kept tags = tags ≡ []

-- the spaces at the end of a text, after those that stand before it
abbrev pub spaces_on : List ℕ → List ℕ → List ℕ
spaces_on spaces [] = spaces
spaces_on spaces (byte ∷ text) = spaces_on (if is_space byte then spaces ++ byte ∷ [] else []) text

-- the text before the spaces at its end
abbrev pub row_of : List ℕ → List ℕ
row_of text = take (length text - length (spaces_on [] text)) text
