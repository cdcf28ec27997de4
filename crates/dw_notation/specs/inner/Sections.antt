-- The sections of a text of tags, byte by byte: the states, the effect of the next byte, and the problem of a section.
use Rattle.std.specs.Prelude.{ℕ, ◌==◌, ◌+◌, ◌||◌, if◌then◌else◌, List, [], ◌∷◌, ◌++◌, Bool, true, false, Err, nat_lt}
use Rattle.std.specs.Prelude.{codes}
use Rattle.dw_board.specs.Geometry.{Geometry}
use Rattle.dw_board.specs.Fen.{fen}
use Rattle.dw_board.specs.FenTokens.{is_blank}
use Rattle.dw_notation.specs.TextLines.{Found}
use Rattle.dw_notation.specs.Tags.{open_bracket, close_bracket, open_brace, close_brace, quotation_mark, back_slash}
use Rattle.dw_notation.specs.Tags.{is_name_byte, ends_line, same_name, game_of, is_wrong}
use Rattle.dw_notation.specs.inner.TextLines.{fen_found}
use Rattle.dw_notation.specs.declared.problems.TheConstants.{MAX_SECTION}
use Rattle.dw_notation.specs.declared.problems.ProblemFault.TheVariants.{NoFen, TwoFens, WrongGame, SectionTooLong}
use Rattle.dw_notation.specs.declared.problems.ProblemFault.TheVariants.{UnclosedTag, UnclosedComment}
use Rattle.dw_notation.specs.declared.problems.pdn.automaton.State.{State}
use Rattle.dw_notation.specs.declared.problems.pdn.automaton.State.TheVariants.{Outside, Comment, Between, BeforeName}
use Rattle.dw_notation.specs.declared.problems.pdn.automaton.State.TheVariants.{InName, BehindName, InValue, Escaped}
use Rattle.dw_notation.specs.declared.problems.pdn.automaton.State.TheVariants.{BehindValue, Rest}
use Rattle.dw_notation.specs.declared.problems.pdn.automaton.Action.{Action}
use Rattle.dw_notation.specs.declared.problems.pdn.automaton.Action.TheVariants.{Keep, Open, Count, AddName, OpenValue}
use Rattle.dw_notation.specs.declared.problems.pdn.automaton.Action.TheVariants.{AddValue, AddBoth, Close, Break}
use Rattle.dw_notation.specs.declared.problems.pdn.automaton.Action.TheVariants.{EndLine, NextTag, End}
use Rattle.dw_notation.specs.declared.problems.pdn.section.TagKind.{TagKind}
use Rattle.dw_notation.specs.declared.problems.pdn.section.TagKind.TheVariants.{FenTag, GameTag, OtherTag}
use Rattle.dw_notation.specs.declared.problems.pdn.automaton.Transition.{Transition}

abbrev pub at : State → Action → Transition
at state action = record { state = state; action = action }

-- a tag that is broken by this byte is unclosed, and reaches to the end of its line
abbrev pub broken_by : ℕ → Transition
broken_by byte = if ends_line byte then at Between EndLine else at Rest Break

-- the next state after a byte, and its effect
abbrev pub transition : State → ℕ → Transition
transition Outside byte =
    if byte == open_bracket then at BeforeName Open
    else (if byte == open_brace then at Comment Keep else at Outside Keep)
transition Comment byte = if byte == close_brace then at Outside Keep else at Comment Keep
transition Between byte =
    if byte == open_bracket then at BeforeName NextTag
    else (if is_blank byte || ends_line byte then at Between Count
    else (if byte == open_brace then at Comment End else at Outside End))
transition BeforeName byte = if is_blank byte then at BeforeName Count
    else (if is_name_byte byte then at InName (AddName byte) else broken_by byte)
transition InName byte =
    if is_name_byte byte then at InName (AddName byte)
    else (if is_blank byte then at BehindName Count
    else (if byte == quotation_mark then at InValue OpenValue else broken_by byte))
transition BehindName byte =
    if is_blank byte then at BehindName Count
    else (if byte == quotation_mark then at InValue OpenValue else broken_by byte)
transition InValue byte =
    if byte == quotation_mark then at BehindValue Count
    else (if byte == back_slash then at Escaped Count
    else (if ends_line byte then at Between EndLine else at InValue (AddValue byte)))
transition Escaped byte =
    if (byte == quotation_mark) || (byte == back_slash) then at InValue (AddValue byte)
    else (if ends_line byte then at Between EndLine else at InValue (AddBoth byte))
transition BehindValue byte =
    if is_blank byte then at BehindValue Count
    else (if byte == close_bracket then at Between Close else broken_by byte)
transition Rest byte = if ends_line byte then at Between EndLine else at Rest Count

abbrev pub kind_of : List ℕ → TagKind
kind_of name = if same_name name (codes "FEN") then FenTag
    else (if same_name name (codes "GameType") then GameTag else OtherTag)

-- a section, as far as it was read
pub record Section : Type 0 where
  -- the bytes from its first bracket on, and those of them up to the end of its last tag
  pub read : ℕ
  pub size : ℕ
  -- whether one of its tags is unclosed
  pub is_unclosed : Bool
  -- the name, the kind and the value of the tag that is read
  pub name : List ℕ
  pub kind : TagKind
  pub value : List ℕ
  -- the values of its FEN tags and the games of its GameType tags, the last ones in front
  pub fens : List (List ℕ)
  pub games : List ℕ

abbrev pub bare : Section
bare = record { read = 0; size = 0; is_unclosed = false; name = []; kind = OtherTag; value = []; fens = []; games = [] }

-- the section with one more tag, of this kind
abbrev pub with_tag : TagKind → Section → Section
with_tag FenTag s = record s { fens = s.value ∷ s.fens }
with_tag GameTag s = record s { games = game_of s.value ∷ s.games }
with_tag OtherTag s = s

-- the section after a byte with this effect
abbrev pub after : Action → Section → Section
after Keep s = s
after Open s = record bare { read = 1 }
after Count s = record s { read = s.read + 1 }
after (AddName byte) s = record s { read = s.read + 1; name = s.name ++ byte ∷ [] }
after OpenValue s = record s { read = s.read + 1; kind = kind_of s.name; value = [] }
after (AddValue byte) s = record s { read = s.read + 1; value = s.value ++ byte ∷ [] }
after (AddBoth byte) s = record s { read = s.read + 1; value = (s.value ++ back_slash ∷ []) ++ byte ∷ [] }
after Close s = with_tag s.kind (record s { read = s.read + 1; size = s.read + 1 })
after Break s = record s { read = s.read + 1; is_unclosed = true }
after EndLine s = record s { read = s.read + 1; size = s.read; is_unclosed = true }
after NextTag s = record s { read = s.read + 1; name = [] }
after End s = s

-- the problem of a section with these values of FEN tags
abbrev pub fens_found : Geometry → List (List ℕ) → Found
fens_found g [] = Err NoFen
fens_found g (text ∷ []) = fen_found (fen g text)
fens_found g (text ∷ other ∷ fens) = Err TwoFens

-- the problem of a section, as far as it was read
abbrev pub section_found : Geometry → Section → Found
section_found g s =
    if nat_lt MAX_SECTION s.size then Err SectionTooLong
    else (if s.is_unclosed then Err UnclosedTag
    else (if is_wrong g s.games then Err WrongGame else fens_found g s.fens))

-- the problem that a byte with this effect ends, given the problem of the section
abbrev pub found_by : Action → Found → List Found
found_by End found = found ∷ []
found_by _ found = []

-- the problem that the end of the text ends, given that of the section as it stands and with its tag unclosed
abbrev pub found_at_end : State → Found → Found → List Found
found_at_end Outside whole unclosed = []
found_at_end Comment whole unclosed = Err UnclosedComment ∷ []
found_at_end Between whole unclosed = whole ∷ []
found_at_end _ whole unclosed = unclosed ∷ []

-- the problems of the section begun and of the bytes after it; a line ends where the text does
abbrev pub sections_found : Bool → Geometry → State → Section → List ℕ → List Found
sections_found at_end g state s [] = if at_end
    then found_at_end state (section_found g s) (section_found g (after EndLine s)) else []
sections_found at_end g state s (byte ∷ bytes) =
    found_by (transition state byte).action (section_found g s)
    ++ sections_found at_end g (transition state byte).state (after (transition state byte).action s) bytes
