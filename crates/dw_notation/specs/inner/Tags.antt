-- The problems of a text of tags and of its sections, byte by byte.
use Rattle.std.specs.Prelude.{◌≡◌, ◌⊎◌, ℕ, ◌==◌, ◌||◌, if◌then◌else◌, List, [], ◌∷◌, ◌++◌, length, Bool, true, false}
use Rattle.std.specs.Prelude.{nat_lt, not, Err}
use Rattle.dw_board.specs.Geometry.{Geometry}
use Rattle.dw_notation.specs.TextLines.{Found}
use Rattle.dw_notation.specs.Tags.{open_bracket, open_brace, close_brace, is_space, Tag, IsGap, IsSection, game_of}
use Rattle.dw_notation.specs.Tags.{is_wrong}
use Rattle.dw_notation.specs.WholeTexts.{IsOpen}
use Rattle.dw_notation.specs.inner.Sections.{kind_of, fens_found, bare, sections_found}
use Rattle.dw_notation.specs.declared.problems.TheConstants.{MAX_SECTION}
use Rattle.dw_notation.specs.declared.problems.ProblemFault.TheVariants.{WrongGame, SectionTooLong, UnclosedTag}
use Rattle.dw_notation.specs.declared.problems.ProblemFault.TheVariants.{UnclosedComment}
use Rattle.dw_notation.specs.declared.problems.pdn.automaton.State.{State}
use Rattle.dw_notation.specs.declared.problems.pdn.automaton.State.TheVariants.{Outside, Comment}
use Rattle.dw_notation.specs.declared.problems.pdn.section.TagKind.{TagKind}
use Rattle.dw_notation.specs.declared.problems.pdn.section.TagKind.TheVariants.{FenTag, GameTag, OtherTag}

-- whether a byte opens a tag or a comment
abbrev pub opens : ℕ → Bool
opens byte = (byte == open_bracket) || (byte == open_brace)

-- whether a byte ends a section: it neither opens a tag nor stands between two
abbrev pub ends_section : ℕ → Bool
ends_section byte = not ((byte == open_bracket) || is_space byte)

-- whether a byte closes a comment
abbrev pub closes : ℕ → Bool
closes byte = byte == close_brace

-- whether a byte changes nothing in a state
abbrev pub passes : State → ℕ → Bool
passes Outside byte = not (opens byte)
passes Comment byte = not (closes byte)
passes _ byte = false

abbrev pub with_fen : TagKind → List ℕ → List (List ℕ) → List (List ℕ)
with_fen FenTag value fens = value ∷ fens
with_fen GameTag value fens = fens
with_fen OtherTag value fens = fens

-- the values of the FEN tags
abbrev pub fens_of : List Tag → List (List ℕ)
fens_of [] = []
fens_of (tag ∷ tags) = with_fen (kind_of tag.name) tag.value (fens_of tags)

abbrev pub with_game : TagKind → List ℕ → List ℕ → List ℕ
with_game FenTag value games = games
with_game GameTag value games = game_of value ∷ games
with_game OtherTag value games = games

-- the games of the GameType tags
abbrev pub games_of : List Tag → List ℕ
games_of [] = []
games_of (tag ∷ tags) = with_game (kind_of tag.name) tag.value (games_of tags)

-- the problem of a section with these tags and this number of bytes, given whether a tag of it is unclosed
abbrev pub tags_found : Geometry → ℕ → Bool → List Tag → Found
tags_found g size some tags =
    if nat_lt MAX_SECTION size then Err SectionTooLong
    else (if some then Err UnclosedTag
    else (if is_wrong g (games_of tags) then Err WrongGame else fens_found g (fens_of tags)))

-- the problems of a text that begins outside any section
abbrev pub outside_found : Bool → Geometry → List ℕ → List Found
outside_found at_end g bytes = sections_found at_end g Outside bare bytes

-- a section has the problem that its tags give, and the byte that ends it is outside
abbrev pub SectionsAreFound : Type 0
SectionsAreFound =
    (at_end : Bool) (g : Geometry) (text gap more : List ℕ) (tags : List Tag) (some last : Bool) (byte : ℕ)
    → IsSection text tags some last → IsGap last gap → ends_section byte ≡ true
    → outside_found at_end g (text ++ (gap ++ byte ∷ more))
    ≡ tags_found g (length text) some tags ∷ outside_found at_end g (byte ∷ more)

-- at the end of the text a section needs no byte after it, and an unclosed tag no end of its line
abbrev pub LastSectionIsFound : Type 0
LastSectionIsFound =
    (g : Geometry) (text gap : List ℕ) (tags : List Tag) (some last : Bool) → IsSection text tags some last
    → IsGap last gap ⊎ (gap ≡ []) → outside_found true g (text ++ gap) ≡ tags_found g (length text) some tags ∷ []

-- a comment has no problem, whatever stands in it up to the first closing brace
abbrev pub CommentsSayNothing : Type 0
CommentsSayNothing = (at_end : Bool) (g : Geometry) (text more : List ℕ) → IsOpen text
    → outside_found at_end g (open_brace ∷ (text ++ close_brace ∷ more)) ≡ outside_found at_end g more

-- a comment that the end of the text leaves open is a fault
abbrev pub OpenCommentIsFound : Type 0
OpenCommentIsFound = (g : Geometry) (text : List ℕ) → IsOpen text
    → outside_found true g (open_brace ∷ text) ≡ Err UnclosedComment ∷ []

-- any other byte outside has no problem
abbrev pub OthersSayNothing : Type 0
OthersSayNothing = (at_end : Bool) (g : Geometry) (byte : ℕ) (more : List ℕ) → opens byte ≡ false
    → outside_found at_end g (byte ∷ more) ≡ outside_found at_end g more

-- while more bytes may come, a comment that is still open has given nothing
abbrev pub OpenCommentGivesNothing : Type 0
OpenCommentGivesNothing = (g : Geometry) (text : List ℕ) → IsOpen text → outside_found false g (open_brace ∷ text) ≡ []

-- while more bytes may come, a section that more tags may follow has given nothing
abbrev pub OpenSectionGivesNothing : Type 0
OpenSectionGivesNothing =
    (g : Geometry) (text gap : List ℕ) (tags : List Tag) (some last : Bool) → IsSection text tags some last
    → IsGap last gap ⊎ (gap ≡ []) → outside_found false g (text ++ gap) ≡ []
