-- The progress of a reader of problems, and how the pieces of a text are cut off and handed out.
use Rattle.std.specs.Prelude.{◌≡◌, ℕ, ◌≤◌, ◌==◌, ◌&&◌, ◌⊎◌, List, [], ◌++◌, length, Bool, true, false, not}
use Rattle.std.specs.Prelude.{option_to_list, Result, Ok, Err, nat_le}
use Rattle.dw_board.specs.Geometry.{Geometry}
use Rattle.dw_notation.specs.TextLines.{Found}
use Rattle.dw_notation.specs.Buffering.{unread_in, met_end_in}
use Rattle.dw_notation.specs.Streams.{Supply, Reads}
use Rattle.dw_notation.specs.Numbering.{handed_out}
use Rattle.dw_notation.specs.Problems.{Numbered, number_from}
use Rattle.dw_notation.specs.Reading.{Reader, ReadsAtNeed}
use Rattle.dw_notation.specs.inner.Pieces.{pieces_ahead, pieces_behind, pieces_cut}
use Rattle.dw_notation.specs.declared.problems.TheConstants.{MAX_PROBLEMS, MAX_READ}
use Rattle.dw_notation.specs.declared.problems.ReadFault.{ReadFault}
use Rattle.dw_notation.specs.declared.problems.reader.Pieces.{Pieces}
use Rattle.dw_notation.specs.declared.streams.buffer.Buffer.{Buffer}
use Rattle.dw_notation.specs.declared.problems.reader.Problems.{Problems}

-- the progress of reading a text: the bytes read and not yet cut, the piece begun, the number of problems handed out,
-- and whether the end was met
pub record Progress : Type 0 where
  pub rest : List ℕ
  pub pieces : Pieces
  pub handed : ℕ
  pub met_end : Bool

abbrev pub progress_at : Buffer → Pieces → (handed : ℕ) → Progress
progress_at buffer pieces handed = record {
  rest = unread_in buffer;
  pieces = pieces;
  handed = handed;
  met_end = met_end_in buffer;
}

abbrev pub progress_of : {B S : Type 0} → Problems B S → Progress
progress_of problems = progress_at problems.buffer problems.pieces (handed_out problems.numbers)

-- the problems of the piece begun, the rest and the bytes still to be read
abbrev pub found_ahead : Bool → Geometry → Progress → List ℕ → List Found
found_ahead at_end g progress bytes = pieces_ahead at_end g progress.pieces (progress.rest ++ bytes)

abbrev pub problems_from : Bool → Geometry → Progress → List ℕ → List Numbered
problems_from at_end g progress bytes = number_from progress.handed (found_ahead at_end g progress bytes)

-- the problems not yet handed out, if these bytes are still to be read
abbrev pub to_come : Geometry → Progress → List ℕ → List Numbered
to_come = problems_from true

-- the problems not yet handed out that end in these bytes
abbrev pub ended : Geometry → Progress → List ℕ → List Numbered
ended = problems_from false

-- nothing that was read is still to be cut, and the end was not met: the next problem needs a read
abbrev pub IsStarved : Progress → Type 0
IsStarved progress = (progress.rest ≡ []) × (progress.met_end ≡ false) × (progress.handed ≤ MAX_PROBLEMS)

abbrev pub is_starved : Progress → Bool
is_starved progress = (length progress.rest == 0) && (not progress.met_end && nat_le progress.handed MAX_PROBLEMS)

-- the reader at this progress
abbrev pub reader_at : Progress → Reader
reader_at progress = record {
  ahead = λ g over bytes. problems_from over g progress bytes;
  handed = progress.handed;
  met_end = progress.met_end;
  waits = is_starved progress;
}

-- the problems of the rest and the bytes still to be read, after the piece that was cut off
abbrev pub found_behind : Bool → Geometry → Progress → List ℕ → List Found
found_behind at_end g progress bytes = pieces_behind at_end g progress.pieces (progress.rest ++ bytes)

-- the problem of the piece that was cut off, if it has one
abbrev pub found_cut : Geometry → Progress → List Found
found_cut g progress = option_to_list (pieces_cut g progress.pieces)

-- bytes were read only as long as no piece had ended: none had before the last of the reads
abbrev pub ReadsOnAtNeed : Progress → List ℕ → Type 0
ReadsOnAtNeed progress read =
    (read ≡ []) ⊎ ((before : List ℕ) × (last : List ℕ) × (read ≡ before ++ last) × (length last ≤ MAX_READ)
    × ((g : Geometry) → found_ahead false g progress before ≡ []))

-- after the end nothing is read, and the end stays met
abbrev pub StaysOver : Progress → Progress → List ℕ → Type 0
StaysOver old new read = old.met_end ≡ true → (read ≡ []) × (new.met_end ≡ true)

-- reading on, with nothing cut off
pub record CarriesOn (before after : Supply) (old new : Progress) : Type 0 where
  pub read : List ℕ
  pub took : Reads before after read
  pub still : StaysOver old new read
  pub need : ReadsOnAtNeed old read
  pub same : (g : Geometry) (at_end : Bool) (more : List ℕ)
      → found_ahead at_end g old (read ++ more) ≡ found_ahead at_end g new more

-- a piece is cut off
pub record TakesPiece (before after : Supply) (old new : Progress) : Type 0 where
  pub read : List ℕ
  pub took : Reads before after read
  pub still : StaysOver old new read
  pub need : ReadsOnAtNeed old read
  pub same : (g : Geometry) (at_end : Bool) (more : List ℕ)
      → found_ahead at_end g old (read ++ more) ≡ found_cut g new ++ found_behind at_end g new more

-- the last piece of the text is cut off, which its end ends
pub record TakesLast (before after : Supply) (old new : Progress) : Type 0 where
  pub read : List ℕ
  pub took : Reads before after read
  pub still : StaysOver old new read
  pub need : ReadsOnAtNeed old read
  pub same : (g : Geometry) → found_ahead true g old read ≡ found_cut g new
  pub none : new.rest ≡ []
  pub over : (g : Geometry) → pieces_behind true g new.pieces [] ≡ []

-- the effect of reading up to the end of a piece
abbrev pub ReadsPiece : Supply → Supply → Progress → Progress → Result Bool ReadFault → Type 0
ReadsPiece before after old new (Ok true) = TakesPiece before after old new
ReadsPiece before after old new (Ok false) = TakesLast before after old new × (new.met_end ≡ true)
ReadsPiece before after old new (Err fault) =
    CarriesOn before after old new × (new.rest ≡ []) × (new.met_end ≡ false)

-- reading on, with these problems handed out
pub record HandsOut (g : Geometry) (before after : Supply) (old new : Progress) (problems : List Numbered) :
    Type 0 where
  pub read : List ℕ
  pub took : Reads before after read
  pub still : StaysOver old new read
  pub need : ReadsAtNeed g (reader_at old) read
  pub same : (at_end : Bool) (more : List ℕ)
      → problems_from at_end g old (read ++ more) ≡ problems ++ problems_from at_end g new more
