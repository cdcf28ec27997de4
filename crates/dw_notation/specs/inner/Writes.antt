-- The written bytes of a text: all of it, or a beginning if a write failed.
use Rattle.std.specs.Prelude.{ℕ, List}
use Rattle.dw_notation.specs.Streams.{Appends}
use Rattle.dw_notation.specs.Writes.{StopsShort}

-- a text of some kind was written, and nothing else
pub record Writes (P : List ℕ → Type 0) (old new : List ℕ) : Type 0 where
  pub text : List ℕ
  pub is : P text
  pub wrote : Appends old new text

-- some beginning of such a text was written
pub record WritesShort (P : List ℕ → Type 0) (old new : List ℕ) : Type 0 where
  pub text : List ℕ
  pub is : P text
  pub stops : StopsShort old new text
