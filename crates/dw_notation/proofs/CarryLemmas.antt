-- Lemmas on reading on.
use Rattle.std.proofs.Common.{◌≡◌, ℕ, ◌≤◌, length, List, [], ◌++◌, Bool, true, false, subst, ◌⊎◌, refl, sym, ap}
use Rattle.std.proofs.Common.{◌∙◌, append_assoc, append-nil, Result, Ok, is_err, IsErr, ◌||◌, inl, inr}
use Rattle.dw_notation.specs.Streams.{Supply, Reads}
use Rattle.dw_notation.specs.inner.StreamLemmas.{Reads-nil, Reads-trans}
use Rattle.dw_board.specs.Geometry.{Geometry}
use Rattle.dw_notation.specs.inner.Pieces.{pieces_ahead, pieces_behind}
use Rattle.dw_notation.specs.inner.Cutting.{found_ahead, CarriesOn, TakesPiece, TakesLast, found_behind, found_cut}
use Rattle.dw_notation.specs.inner.Cutting.{progress_at, StaysOver}
use Rattle.dw_notation.specs.Buffering.{Input, unread_in, input_of, Passes}
use Rattle.dw_notation.specs.declared.streams.buffer.Buffer.{Buffer}
use Rattle.dw_notation.specs.declared.problems.TheConstants.{MAX_READ}
use Rattle.dw_notation.specs.inner.Cutting.{Progress}
use Rattle.dw_notation.specs.declared.problems.reader.Pieces.{Pieces}
use Rattle.dw_notation.specs.declared.problems.reader.Pieces.TheVariants.{InLines, InSections}

-- what was read ends no piece
pub CarriesOn-cut : (before after : Supply) (old mid new : Progress) → CarriesOn before after old mid
    → ((g : Geometry) (at_end : Bool) (more : List ℕ) → found_ahead at_end g mid more ≡ found_ahead at_end g new more)
    → new.met_end ≡ mid.met_end → CarriesOn before after old new
CarriesOn-cut before after old mid new so_far same end = record {
  read = so_far.read;
  took = so_far.took;
  still = λ met. let was = so_far.still met in (was.0, end ∙ was.1);
  need = so_far.need;
  same = λ g at_end more. so_far.same g at_end more ∙ same g at_end more;
}

-- what was read ends one
pub TakesPiece-cut : (before after : Supply) (old mid new : Progress) → CarriesOn before after old mid
    → ((g : Geometry) (at_end : Bool) (more : List ℕ) → found_ahead at_end g mid more ≡ found_cut g new
    ++ found_behind at_end g new more)
    → new.met_end ≡ mid.met_end → TakesPiece before after old new
TakesPiece-cut before after old mid new so_far same end = record {
  read = so_far.read;
  took = so_far.took;
  still = λ met. let was = so_far.still met in (was.0, end ∙ was.1);
  need = so_far.need;
  same = λ g at_end more. so_far.same g at_end more ∙ same g at_end more;
}

-- ---- no byte ends no piece
ended-piece : (g : Geometry) (pieces : Pieces) → pieces_ahead false g pieces [] ≡ []
ended-piece g (InLines lines) = refl
ended-piece g (InSections sections) = refl

-- nothing more ends, where all that was read belongs to the piece begun
pub ended-none : (g : Geometry) (new : Progress) → new.rest ≡ [] → found_ahead false g new [] ≡ []
ended-none g new none = ap (λ l. pieces_ahead false g new.pieces (l ++ [])) none ∙ ended-piece g new.pieces

-- a read into the empty buffer
pub CarriesOn-fill : (before now after : Supply) (old mid new : Progress) → CarriesOn before now old mid
    → (mid.rest ≡ []) → (new.pieces ≡ mid.pieces) → Reads now after new.rest → StaysOver mid new new.rest
    → length new.rest ≤ MAX_READ → CarriesOn before after old new
CarriesOn-fill before now after old mid new so_far none pieces bytes still few = record {
  read = so_far.read ++ new.rest;
  took = Reads-trans before now after so_far.read new.rest so_far.took bytes;
  still = λ met. let was = so_far.still met in let more = still was.1 in (
    ap (λ l. l ++ new.rest) was.0 ∙ more.0,
    more.1,
  );
  need = inr (
    so_far.read,
    new.rest,
    refl,
    few,
    λ g. ap (found_ahead false g old) (sym (append-nil so_far.read))
        ∙ so_far.same g false [] ∙ ended-none g mid none,
  );
  same = λ g at_end more.
      ap (found_ahead at_end g old) (append_assoc so_far.read new.rest more)
      ∙ so_far.same g at_end (new.rest ++ more)
      ∙ ap (λ l. pieces_ahead at_end g mid.pieces (l ++ (new.rest ++ more))) none
      ∙ ap (λ p. pieces_ahead at_end g p (new.rest ++ more)) (sym pieces);
}

-- the same of a source that is read through a buffer, of which nothing is read while a byte is unread
pub CarriesOn-filled : {S : Type 0} (supply : S → Supply) (is_failed : S → Bool) (pulls : S → ℕ) (first : Supply)
    (old : Progress) (pieces : Pieces) (handed : ℕ) (source after : S) (mid new : Buffer) (fails : Bool)
    → CarriesOn first (supply source) old (progress_at mid pieces handed)
    → Passes supply is_failed pulls (input_of source mid) (input_of after new) [] fails
    → (unread_in mid ≡ []) ⊎ (input_of after new ≡ input_of source mid) → length (unread_in new) ≤ MAX_READ
    → CarriesOn first (supply after) old (progress_at new pieces handed)
CarriesOn-filled supply is_failed pulls first old pieces handed source after mid new fails so_far passes (inl none) few
    =
    let read : passes.read ≡ unread_in new = ap (λ l. l ++ passes.read) (sym none) ∙ passes.same in
    CarriesOn-fill first (supply source) (supply after) old (progress_at mid pieces handed)
    (progress_at new pieces handed) so_far none refl (subst (Reads (supply source) (supply after)) read passes.took)
    (λ met. let stays = passes.stays met in (sym read ∙ stays.0, stays.1)) few
CarriesOn-filled {S} supply is_failed pulls first old pieces handed source after mid new fails so_far passes (inr same)
    few =
    let at : Input S → Progress = λ i. record { rest = i.unread; pieces = pieces; handed = handed; met_end = i.met_end }
    in subst (λ i. CarriesOn first (supply i.source) old (at i)) (sym same) so_far

pub not_err : {X Y : Type 0} {r : Result X Y} {x : X} → r ≡ Ok x → IsErr r → ⊥
not_err {r} {x} e h = let bad : false ≡ true = sym (ap is_err e) ∙ h in cc

pub or-not_err : {X Y : Type 0} {r : Result X Y} {x : X} (b : Bool) → r ≡ Ok x → (b || is_err r) ≡ b
or-not_err true e = refl
or-not_err false e = ap is_err e
