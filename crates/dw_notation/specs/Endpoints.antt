-- A reader or a writer of std, as a source or a sink.
use Rattle.std.specs.Prelude.{◌≡◌, ℕ, ◌-◌, Bool, List, [], Option, Some, None, IsSome}
use Rattle.dw_notation.specs.declared.streams.reading.TheConstants.{MAX_READS}
use Rattle.dw_notation.specs.declared.streams.reading.Reading.{Reading}

-- the reader that a source reads from
abbrev pub read_from : {R : Type 0} → Reading R → R
read_from source = source.reader

-- the bytes that its reads have returned
abbrev pub told_by : {R : Type 0} → Reading R → List ℕ
told_by source = source.told

-- the number of its reads that have met the end
abbrev pub ends_met : {R : Type 0} → Reading R → ℕ
ends_met source = source.ends

abbrev pub has_read_failed : {R : Type 0} → Reading R → Bool
has_read_failed source = source.has_failed

-- the number of reads that it still makes
abbrev pub reads_left : {R : Type 0} → Reading R → ℕ
reads_left source = MAX_READS - source.reads

-- the bytes that a writer tells; none if it does not tell them
abbrev pub bytes_told : Option (List ℕ) → List ℕ
bytes_told None = []
bytes_told (Some bytes) = bytes

-- a sink over a writer: the bytes that the writer told at first and those that its writes have taken since
pub record Written (W : Type 0) : Type 0 where
  pub writer : W
  pub accepted : List ℕ
  pub has_failed : Bool

-- the writer that a sink writes to
abbrev pub written_to : {W : Type 0} → Written W → W
written_to sink = sink.writer

-- the bytes that the writer told at first, and after them those that its writes have taken
abbrev pub accepted_by : {W : Type 0} → Written W → List ℕ
accepted_by sink = sink.accepted

abbrev pub has_write_failed : {W : Type 0} → Written W → Bool
has_write_failed sink = sink.has_failed

-- if all writers of this type tell their bytes, as vectors do, this one holds just these
abbrev pub Holds : {W : Type 0} → (contents : W → Option (List ℕ)) → W → List ℕ → Type 0
Holds contents writer bytes = ((any : _) → IsSome (contents any)) → contents writer ≡ Some bytes
