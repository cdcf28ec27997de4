-- A tag, as it is read byte by byte.
use Rattle.std.specs.Prelude.{◌≡◌, ◌≤◌, ℕ, List, [], ◌∷◌, length, drop, Option, Some, None, Bool, false}
use Rattle.dw_board.specs.FenTokens.{is_blank}
use Rattle.dw_notation.specs.inner.Sections.{Section, bare, transition, after}
use Rattle.dw_notation.specs.declared.problems.pdn.automaton.State.{State}
use Rattle.dw_notation.specs.declared.problems.pdn.automaton.State.TheVariants.{BeforeName}
use Rattle.dw_notation.specs.declared.problems.pdn.automaton.Action.{Action}
use Rattle.dw_notation.specs.declared.problems.pdn.automaton.Action.TheVariants.{Keep, Open, Count, AddName, OpenValue}
use Rattle.dw_notation.specs.declared.problems.pdn.automaton.Action.TheVariants.{AddValue, AddBoth, Close, Break}
use Rattle.dw_notation.specs.declared.problems.pdn.automaton.Action.TheVariants.{EndLine, NextTag, End}

-- the name and the value read of a tag, and the bytes after it
pub record TagRead : Type 0 where
  pub name : List ℕ
  pub value : List ℕ
  pub more : List ℕ

-- the tag read after a byte with this effect, which stands before these bytes, given the tag read if it goes on
abbrev pub read_by : Action → Section → List ℕ → (Section → Option TagRead) → Option TagRead
read_by Keep s bytes further = None
read_by Open s bytes further = None
read_by Count s bytes further = further (after Count s)
read_by (AddName byte) s bytes further = further (after (AddName byte) s)
read_by OpenValue s bytes further = further (after OpenValue s)
read_by (AddValue byte) s bytes further = further (after (AddValue byte) s)
read_by (AddBoth byte) s bytes further = further (after (AddBoth byte) s)
read_by Close s bytes further = Some (record { name = s.name; value = s.value; more = bytes })
read_by Break s bytes further = None
read_by EndLine s bytes further = None
read_by NextTag s bytes further = None
read_by End s bytes further = None

-- the whole tag read of these bytes, from a state and the part read so far, if there is one
abbrev pub tag_from : State → Section → List ℕ → Option TagRead
tag_from state s [] = None
tag_from state s (byte ∷ bytes) =
    read_by (transition state byte).action s bytes (λ t. tag_from (transition state byte).state t bytes)

-- a section of which the first bracket was read
abbrev pub begun : Section
begun = record bare { read = 1 }

-- after i bytes of a tag, from its bracket on, the automaton is in this state, and has read a name of this length and
-- this value
pub record ReadsTag (inside : List ℕ) (i : ℕ) (state : State) (named : ℕ) (value : List ℕ) : Type 0 where
  pub section : Section
  pub is_named : length section.name ≡ named
  pub few : named ≤ i
  pub is_value : section.value ≡ value
  pub same : tag_from BeforeName begun inside ≡ tag_from state section (drop i inside)

-- whether a text begins with a blank
abbrev pub begins_blank : List ℕ → Bool
begins_blank [] = false
begins_blank (byte ∷ bytes) = is_blank byte
