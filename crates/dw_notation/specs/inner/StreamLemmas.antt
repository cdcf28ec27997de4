-- Lemmas on what was read and what was written between several moments.
use Rattle.std.proofs.Common.{◌≡◌, List, ℕ, [], ◌++◌, sym, ap, ◌∙◌, append_assoc, append-nil}
use Rattle.std.proofs.KnownBytes.{Consumes-nil, Consumes-trans}
use Rattle.dw_notation.specs.Streams.{Supply, Reads, Appends}

pub Reads-nil : (supply : Supply) → Reads supply supply []
Reads-nil supply = record { told = sym (append-nil supply.told); took = Consumes-nil supply.coming }

pub Reads-trans : (old mid new : Supply) (first second : List ℕ) → Reads old mid first → Reads mid new second
    → Reads old new (first ++ second)
Reads-trans old mid new first second one other = record {
  told = other.told ∙ ap (λ l. l ++ second) one.told ∙ append_assoc old.told first second;
  took = Consumes-trans old.coming mid.coming new.coming first second one.took other.took;
}

pub Appends-nil : (bytes : List ℕ) → Appends bytes bytes []
Appends-nil bytes = record { grown = sym (append-nil bytes) }

pub Appends-trans : (old mid new first second : List ℕ) → Appends old mid first → Appends mid new second
    → Appends old new (first ++ second)
Appends-trans old mid new first second one other = record {
  grown = other.grown ∙ ap (λ l. l ++ second) one.grown ∙ append_assoc old first second;
}

pub Appends-kept : (old mid new bytes : List ℕ) → Appends old mid bytes → new ≡ mid → Appends old new bytes
Appends-kept old mid new bytes one same = record { grown = same ∙ one.grown }
