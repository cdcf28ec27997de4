-- A buffer over a source, as its caller sees it.
use Rattle.std.specs.Prelude.{◌≡◌, ℕ, ◌+◌, ◌*◌, ◌≤◌, ◌||◌, List, [], ◌++◌, length, Bool, true}
use Rattle.std.specs.List.{slice_range}
use Rattle.dw_notation.specs.Streams.{Supply, Reads, MeetsEnd}
use Rattle.dw_notation.specs.declared.streams.buffer.Buffer.{Buffer}

-- the bytes read and not yet consumed
abbrev pub unread_in : Buffer → List ℕ
unread_in buffer = slice_range buffer.bytes buffer.start buffer.end

-- whether the source's end was met
abbrev pub met_end_in : Buffer → Bool
met_end_in buffer = buffer.met_end

-- a source at one moment, and the bytes that were read of it
pub record Input (S : Type 0) : Type 0 where
  pub source : S
  pub unread : List ℕ
  pub met_end : Bool

abbrev pub input_of : {S : Type 0} → S → Buffer → Input S
input_of source buffer = record { source = source; unread = unread_in buffer; met_end = met_end_in buffer }

-- the source goes on from a moment, and an end that was met is its end, met since then
pub record EndIsKnown (began now : Supply) (met_end : Bool) : Type 0 where
  pub since : began.ends ≤ now.ends
  pub met : met_end ≡ true → MeetsEnd began now

-- a bound on the bytes that can still be consumed
abbrev pub weight : ℕ → List ℕ → ℕ
weight pulls unread = pulls * 2049 + length unread

-- these bytes were consumed, and the source failed in this call or not
pub record Passes {S : Type 0} (supply : S → Supply) (is_failed : S → Bool) (pulls : S → ℕ)
    (old new : Input S) (passed : List ℕ) (fails : Bool) : Type 0 where
  pub read : List ℕ
  pub took : Reads (supply old.source) (supply new.source) read
  pub same : old.unread ++ read ≡ passed ++ new.unread
  pub stays : old.met_end ≡ true → (read ≡ []) × (new.met_end ≡ true)
  pub end : (began : Supply) → EndIsKnown began (supply old.source) old.met_end
      → EndIsKnown began (supply new.source) new.met_end
  pub failed : is_failed new.source ≡ (is_failed old.source || fails)
  pub lighter : weight (pulls new.source) new.unread + length passed ≤ weight (pulls old.source) old.unread
