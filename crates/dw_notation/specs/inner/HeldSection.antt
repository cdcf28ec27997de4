-- The parts that are held of a section, which decide its problem.
use Rattle.std.specs.Prelude.{◌≡◌, ℕ, ◌==◌, ◌+◌, ◌-◌, ◌*◌, ◌<◌, ◌||◌, if◌then◌else◌, not, min, List, [], ◌∷◌, ◌++◌}
use Rattle.std.specs.Prelude.{length, take, Bool, true, false, Option, Some, None, option_to_list, Err, nat_lt}
use Rattle.std.specs.Char.{is_ascii_digit}
use Rattle.dw_board.specs.Geometry.{Geometry}
use Rattle.dw_board.specs.Fen.{fen}
use Rattle.dw_board.specs.FenTokens.{is_blank}
use Rattle.dw_notation.specs.TextLines.{Found}
use Rattle.dw_notation.specs.inner.TextLines.{fen_found}
use Rattle.dw_notation.specs.inner.Sections.{transition, kind_of, found_by, found_at_end}
use Rattle.dw_notation.specs.declared.problems.TheConstants.{MAX_SECTION}
use Rattle.dw_notation.specs.declared.problems.ProblemFault.TheVariants.{NoFen, TwoFens, WrongGame, SectionTooLong}
use Rattle.dw_notation.specs.declared.problems.ProblemFault.TheVariants.{UnclosedTag, UnclosedComment}
use Rattle.dw_notation.specs.declared.problems.pdn.automaton.State.{State}
use Rattle.dw_notation.specs.declared.problems.pdn.automaton.Action.{Action}
use Rattle.dw_notation.specs.declared.problems.pdn.automaton.Action.TheVariants.{Keep, Open, Count, AddName, OpenValue}
use Rattle.dw_notation.specs.declared.problems.pdn.automaton.Action.TheVariants.{AddValue, AddBoth, Close, Break}
use Rattle.dw_notation.specs.declared.problems.pdn.automaton.Action.TheVariants.{EndLine, NextTag, End}
use Rattle.dw_notation.specs.declared.problems.pdn.section.TagKind.{TagKind}
use Rattle.dw_notation.specs.declared.problems.pdn.section.TagKind.TheVariants.{FenTag, GameTag, OtherTag}
use Rattle.dw_notation.specs.declared.problems.pdn.section.Game.{Game}
use Rattle.dw_notation.specs.declared.problems.pdn.section.Game.TheVariants.{Before, Within, Behind}
use Rattle.dw_notation.specs.declared.problems.pdn.section.HeldSection.{HeldSection}
use Rattle.dw_notation.specs.declared.problems.pdn.Sections.{Sections}
use Rattle.dw_notation.specs.declared.problems.pdn.Cut.{Cut}
use Rattle.dw_notation.specs.declared.problems.pdn.Cut.TheVariants.{Nothing, Section, Comment}

-- the parts held of a section; bytes are counted up to one more than it may have, and FEN tags up to two
pub record Held : Type 0 where
  pub read : ℕ
  pub size : ℕ
  pub is_unclosed : Bool
  pub name : List ℕ
  pub kind : TagKind
  pub fens : ℕ
  pub fen_text : List ℕ
  pub game : Game
  pub has_game : Bool
  pub is_wrong : Bool

abbrev pub held_of : HeldSection → Held
held_of s = record {
  read = s.read;
  size = s.size;
  is_unclosed = s.is_unclosed;
  name = s.name.items;
  kind = s.kind;
  fens = s.fens;
  fen_text = s.fen_text.items;
  game = s.game;
  has_game = s.has_game;
  is_wrong = s.is_wrong;
}

abbrev pub held_bare : Held
held_bare = record {
  read = 0;
  size = 0;
  is_unclosed = false;
  name = [];
  kind = OtherTag;
  fens = 0;
  fen_text = [];
  game = Before;
  has_game = false;
  is_wrong = false;
}

-- one more, as far as it is counted
abbrev pub counted : ℕ → ℕ → ℕ
counted most n = if nat_lt n most then n + 1 else n

-- one more byte, as far as they are kept
abbrev pub with_byte : ℕ → List ℕ → ℕ → List ℕ
with_byte most text byte = if nat_lt (length text) most then text ++ byte ∷ [] else text

-- the game with one more byte of the value; any number from 21 on is held as 21
abbrev pub game_on : Game → ℕ → Game
game_on Before byte = if is_blank byte then Before else (if is_ascii_digit byte then Within (byte - 48) else Behind 20)
game_on (Within n) byte = if is_ascii_digit byte then Within (min (n * 10 + (byte - 48)) 21) else Behind n
game_on (Behind n) byte = Behind n

-- the number of the game, if the value ends here
abbrev pub number_held : Game → ℕ
number_held Before = 20
number_held (Within n) = n
number_held (Behind n) = n

abbrev pub counted_in : Held → Held
counted_in h = record h { read = counted (MAX_SECTION + 1) h.read }

abbrev pub value_on : TagKind → Held → ℕ → Held
value_on FenTag h byte = record h { fen_text = if h.fens == 0 then with_byte 1025 h.fen_text byte else h.fen_text }
value_on GameTag h byte = record h { game = game_on h.game byte }
value_on OtherTag h byte = h

abbrev pub tag_on : TagKind → Held → Held
tag_on FenTag h = record h { fens = counted 2 h.fens }
tag_on GameTag h = record h { has_game = true; is_wrong = not (number_held h.game == 20) || h.is_wrong }
tag_on OtherTag h = h

-- the effect of a byte on the parts held of a section
abbrev pub held_after : Action → Held → Held
held_after Keep h = h
held_after Open h = record held_bare { read = 1 }
held_after Count h = counted_in h
held_after (AddName byte) h = record (counted_in h) { name = with_byte 9 h.name byte }
held_after OpenValue h = record (counted_in h) {
  kind = kind_of h.name;
  game = Before;
  fen_text = if h.fens == 0 then [] else h.fen_text;
}
held_after (AddValue byte) h = value_on h.kind (counted_in h) byte
held_after (AddBoth byte) h = value_on h.kind (value_on h.kind (counted_in h) 92) byte
held_after Close h = tag_on h.kind (record (counted_in h) { size = counted (MAX_SECTION + 1) h.read })
held_after Break h = record (counted_in h) { is_unclosed = true }
held_after EndLine h = record (counted_in h) { size = h.read; is_unclosed = true }
held_after NextTag h = record (counted_in h) { name = [] }
held_after End h = h

abbrev pub is_wrong_held : Geometry → Held → Bool
is_wrong_held g h = if g.rows == 10 then h.is_wrong else h.has_game

abbrev pub fens_held : Geometry → ℕ → List ℕ → Found
fens_held g fens text = if fens == 0 then Err NoFen else (if fens == 1 then fen_found (fen g text) else Err TwoFens)

-- the problem of a section, from the parts that are held
abbrev pub held_found : Geometry → Held → Found
held_found g h =
    if nat_lt MAX_SECTION h.size then Err SectionTooLong
    else (if h.is_unclosed then Err UnclosedTag
    else (if is_wrong_held g h then Err WrongGame else fens_held g h.fens h.fen_text))

-- the problems of the section held and of the bytes after it
abbrev pub held_from : Bool → Geometry → State → Held → List ℕ → List Found
held_from at_end g state h [] = if at_end then found_at_end state (held_found g h) (held_found g (held_after EndLine h))
    else []
held_from at_end g state h (byte ∷ bytes) =
    found_by (transition state byte).action (held_found g h)
    ++ held_from at_end g (transition state byte).state (held_after (transition state byte).action h) bytes

-- the problems of the section begun and of the bytes after it
abbrev pub sections_ahead : Bool → Geometry → Sections → List ℕ → List Found
sections_ahead at_end g s bytes = held_from at_end g s.state (held_of s.section) bytes

-- the problem of the piece that was cut off, if it has one
abbrev pub cut_found : Geometry → Cut → Held → Option Found
cut_found g Nothing h = None
cut_found g Section h = Some (held_found g h)
cut_found g Comment h = Some (Err UnclosedComment)

abbrev pub sections_cut : Geometry → Sections → Option Found
sections_cut g s = cut_found g s.cut (held_of s.section)

-- the byte at a place ends a section, and no byte before it does
pub record EndsAt (old new : Sections) (bytes : List ℕ) (k : ℕ) : Type 0 where
  pub within : k < length bytes
  pub cut : new.cut ≡ Section
  pub before : (g : Geometry) → sections_ahead false g old (take k bytes) ≡ []
  pub said : (g : Geometry) (at_end : Bool) (more : List ℕ) → sections_ahead at_end g old (take (k + 1) bytes ++ more)
      ≡ option_to_list (sections_cut g new) ++ sections_ahead at_end g new more
