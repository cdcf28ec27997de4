-- Lemmas on what is handed out.
use Rattle.std.proofs.Common.{◌≡◌, ℕ, ◌<◌, ◌≤◌, inl, inr, List, [], ◌∷◌, ◌++◌, Bool, true, false, Some, None}
use Rattle.std.proofs.Common.{Ok, Err, refl, sym, ap, ◌∙◌, append_assoc, append-nil, subst, MatchBool}
use Rattle.dw_notation.specs.Streams.{Supply}
use Rattle.dw_notation.specs.inner.StreamLemmas.{Reads-nil, Reads-trans}
use Rattle.dw_board.specs.Geometry.{Geometry}
use Rattle.dw_notation.specs.TextLines.{Found}
use Rattle.dw_notation.specs.Problems.{Numbered, numbered, number_from}
use Rattle.dw_notation.specs.Reading.{NextGives, ReadsAtNeed}
use Rattle.dw_notation.specs.inner.Pieces.{pieces_ahead, pieces_behind}
use Rattle.dw_notation.specs.inner.Cutting.{found_ahead, problems_from, to_come, ended, reader_at, CarriesOn}
use Rattle.dw_notation.specs.inner.Cutting.{ReadsOnAtNeed, TakesPiece, TakesLast, HandsOut, ReadsPiece, found_behind}
use Rattle.dw_notation.specs.inner.Cutting.{found_cut, StaysOver}
use Rattle.dw_notation.specs.declared.problems.TheConstants.{MAX_PROBLEMS}
use Rattle.dw_notation.specs.inner.Cutting.{Progress}
use Rattle.dw_notation.specs.declared.problems.Problem.{Problem}
use Rattle.dw_notation.specs.declared.problems.ReadFault.{ReadFault}
use Rattle.dw_notation.proofs.NumberLemmas.{number_from-over}
use Rattle.dw_notation.proofs.CarryLemmas.{ended-none}

-- what handing out the piece did
pub record PieceHanded (g : Geometry) (cut new : Progress) (problems : List Numbered) : Type 0 where
  pub ahead : (at_end : Bool) (more : List ℕ) → pieces_behind at_end g cut.pieces more
      ≡ pieces_ahead at_end g new.pieces more
  pub rest : new.rest ≡ cut.rest
  pub end : new.met_end ≡ cut.met_end
  pub given : (found : List Found) → number_from cut.handed (found_cut g cut ++ found)
      ≡ problems ++ number_from new.handed found

-- what is behind the piece is ahead
found_ahead-behind : (at_end : Bool) (g : Geometry) (cut new : Progress) (problems : List Numbered) (more : List ℕ)
    → PieceHanded g cut new problems
    → found_behind at_end g cut more ≡ found_ahead at_end g new more
found_ahead-behind at_end g cut new problems more handed =
    handed.ahead at_end (cut.rest ++ more) ∙ ap (λ l. pieces_ahead at_end g new.pieces (l ++ more)) (sym handed.rest)

-- what was read at need, and then more at need
need-join : (g : Geometry) (old mid : Progress) (read more : List ℕ) → old.handed ≤ MAX_PROBLEMS
    → ReadsAtNeed g (reader_at old) read
    → ((rest : List ℕ) → ended g old (read ++ rest) ≡ ended g mid rest) → ReadsOnAtNeed mid more
    → ReadsAtNeed g (reader_at old) (read ++ more)
need-join g old mid read more room need same (inl none) = subst (ReadsAtNeed g (reader_at old))
    (sym (ap (λ l. read ++ l) none ∙ append-nil read)) need
need-join g old mid read more room need same (inr (before, last, split, few, none)) = inr (
  room,
  read ++ before,
  last,
  ap (λ l. read ++ l) split ∙ sym (append_assoc read before last),
  few,
  same before ∙ ap (number_from mid.handed) (none g),
)

-- after the end nothing was read, and then nothing more
still-join : (old mid cut new : Progress) (read more : List ℕ) → StaysOver old mid read → StaysOver mid cut more
    → new.met_end ≡ cut.met_end → StaysOver old new (read ++ more)
still-join old mid cut new read more so_far still end = λ met. let was = so_far met in let later = still was.1 in (
  ap (λ l. l ++ more) was.0 ∙ later.0,
  end ∙ later.1,
)

-- nothing so far, and then a piece
pub HandsOut-piece : (g : Geometry) (first now after : Supply) (old mid cut new : Progress)
    (problems : List Numbered)
    → old.handed ≤ MAX_PROBLEMS → HandsOut g first now old mid [] → TakesPiece now after mid cut → (cut.handed ≡
    mid.handed) → PieceHanded g cut new problems
    → HandsOut g first after old new problems
HandsOut-piece g first now after old mid cut new problems room so_far piece same_number handed = record {
  read = so_far.read ++ piece.read;
  took = Reads-trans first now after so_far.read piece.read so_far.took piece.took;
  still = still-join old mid cut new so_far.read piece.read so_far.still piece.still handed.end;
  need = need-join g old mid so_far.read piece.read room so_far.need (so_far.same false) piece.need;
  same = λ at_end more.
      ap (problems_from at_end g old) (append_assoc so_far.read piece.read more)
      ∙ so_far.same at_end (piece.read ++ more)
      ∙ ap (number_from mid.handed) (piece.same g at_end more)
      ∙ ap (λ n. number_from n (found_cut g cut ++ found_behind at_end g cut more)) (sym same_number)
      ∙ handed.given (found_behind at_end g cut more)
      ∙ ap (λ l. problems ++ number_from new.handed l) (found_ahead-behind at_end g cut new problems more handed);
}

-- a problem that was handed out
pub NextGives-problem : {B : Type 0} (g : Geometry) (first after : Supply) (old new : Progress)
    (problem : Problem B)
    → HandsOut g first after old new (numbered problem ∷ []) → NextGives g first after (reader_at old) (reader_at new)
    (Ok (Some problem))
NextGives-problem g first after old new problem out = record {
  read = out.read;
  took = out.took;
  still = λ met. (out.still met).0;
  need = out.need;
  gives = elim new.met_end as (λ v. MatchBool v (to_come g old out.read ≡ numbered problem ∷ to_come g new [])
      ((at_end : Bool) (bytes : List ℕ) → problems_from at_end g old (out.read ++ bytes)
      ≡ numbered problem ∷ problems_from at_end g new bytes))
      [ true ↦ ap (to_come g old) (sym (append-nil out.read)) ∙ out.same true [] | false ↦ out.same ];
}

-- all problems are handed out
pub NextGives-over : {B : Type 0} (g : Geometry) (first after : Supply) (old new : Progress)
    → HandsOut g first after old new [] → 1000000 < new.handed → NextGives {B = B} g first after (reader_at old)
    (reader_at new) (Ok None)
NextGives-over g first after old new out over =
    let done : (more : List ℕ) → to_come g new more
    ≡ [] = λ more. number_from-over new.handed (found_ahead true g new more) over in
    let left_over : (more : List ℕ) → to_come g old (out.read ++ more) ≡ [] = λ more. out.same true more ∙ done more in
    record {
      read = out.read;
      took = out.took;
      still = λ met. (out.still met).0;
      need = out.need;
      gives = (ap (to_come g old) (sym (append-nil out.read)) ∙ left_over [], done [], inr (over, left_over));
    }

-- the source failed
pub NextGives-err : {B : Type 0} (g : Geometry) (first now after : Supply) (old mid new : Progress)
    (fault : ReadFault)
    → old.handed ≤ MAX_PROBLEMS → HandsOut g first now old mid [] → CarriesOn now after mid new → (new.rest ≡ []) →
    (new.handed ≡ mid.handed) → NextGives {B = B} g first after (reader_at old) (reader_at new) (Err fault)
NextGives-err g first now after old mid new fault room so_far on none same_number =
    let read = so_far.read ++ on.read in
    let same : (at_end : Bool) (bytes : List ℕ) → problems_from at_end g old (read ++ bytes)
    ≡ problems_from at_end g new bytes =
    λ at_end bytes.
    ap (problems_from at_end g old) (append_assoc so_far.read on.read bytes)
    ∙ so_far.same at_end (on.read ++ bytes)
    ∙ ap (number_from mid.handed) (on.same g at_end bytes)
    ∙ ap (λ n. number_from n (found_ahead at_end g new bytes)) (sym same_number) in
    record {
      read = read;
      took = Reads-trans first now after so_far.read on.read so_far.took on.took;
      still = λ met. (still-join old mid new new so_far.read on.read so_far.still on.still refl met).0;
      need = need-join g old mid so_far.read on.read room so_far.need (so_far.same false) on.need;
      gives = (
        ap (ended g old) (sym (append-nil read)) ∙ same false [] ∙ ap (number_from new.handed) (ended-none g new none),
        same,
      );
    }

-- the last piece of the text
pub to_come-last : (g : Geometry) (first now after : Supply) (old mid cut new : Progress)
    (problems : List Numbered)
    → (so_far : HandsOut g first now old mid []) → (last : TakesLast now after mid cut) → (cut.handed ≡ mid.handed)
    → PieceHanded g cut new problems
    → (to_come g old (so_far.read ++ last.read) ≡ problems ++ to_come g new []) × (to_come g new [] ≡ [])
to_come-last g first now after old mid cut new problems so_far last same_number handed =
    let empty : to_come g new [] ≡ [] =
    ap (number_from new.handed) (
    ap (λ l. pieces_ahead true g new.pieces (l ++ [])) (handed.rest ∙ last.none)
    ∙ sym (handed.ahead true [])
    ∙ last.over g
    ) in (
      so_far.same true last.read
          ∙ ap (number_from mid.handed) (last.same g)
          ∙ ap (λ n. number_from n (found_cut g cut)) (sym same_number)
          ∙ ap (number_from cut.handed) (sym (append-nil (found_cut g cut)))
          ∙ handed.given []
          ∙ ap (λ l. problems ++ l) (sym empty),
      empty,
    )

pub NextGives-last : {B : Type 0} (g : Geometry) (first now after : Supply) (old mid cut new : Progress)
    (problem : Problem B)
    → old.handed ≤ MAX_PROBLEMS → HandsOut g first now old mid [] → TakesLast now after mid cut → (cut.handed ≡
    mid.handed) → PieceHanded g cut new (numbered problem ∷ []) → (new.met_end ≡ true)
    → NextGives g first after (reader_at old) (reader_at new) (Ok (Some problem))
NextGives-last g first now after old mid cut new problem room so_far last same_number handed met = record {
  read = so_far.read ++ last.read;
  took = Reads-trans first now after so_far.read last.read so_far.took last.took;
  still = λ met. (still-join old mid cut cut so_far.read last.read so_far.still last.still refl met).0;
  need = need-join g old mid so_far.read last.read room so_far.need (so_far.same false) last.need;
  gives = subst (λ v. MatchBool v (to_come g old (so_far.read ++ last.read) ≡ numbered problem ∷ to_come g new [])
      ((at_end : Bool) (bytes : List ℕ) → problems_from at_end g old ((so_far.read ++ last.read) ++ bytes)
      ≡ numbered problem ∷ problems_from at_end g new bytes)) (sym met)
      (to_come-last g first now after old mid cut new (numbered problem ∷ []) so_far last same_number handed).0;
}

pub NextGives-none : {B : Type 0} (g : Geometry) (first now after : Supply) (old mid cut new : Progress)
    → old.handed ≤ MAX_PROBLEMS → HandsOut g first now old mid [] → TakesLast now after mid cut → (cut.handed ≡
    mid.handed) → PieceHanded g cut new [] → (new.met_end ≡ true)
    → NextGives {B = B} g first after (reader_at old) (reader_at new) (Ok None)
NextGives-none g first now after old mid cut new room so_far last same_number handed met =
    let end = to_come-last g first now after old mid cut new [] so_far last same_number handed in
    record {
      read = so_far.read ++ last.read;
      took = Reads-trans first now after so_far.read last.read so_far.took last.took;
      still = λ met. (still-join old mid cut cut so_far.read last.read so_far.still last.still refl met).0;
      need = need-join g old mid so_far.read last.read room so_far.need (so_far.same false) last.need;
      gives = (end.0 ∙ end.1, end.1, inl met);
    }

pub NextGives-some : {B : Type 0} (g : Geometry) (first now after : Supply) (old mid cut new : Progress)
    (problem : Problem B) (is_whole : Bool)
    → old.handed ≤ MAX_PROBLEMS → HandsOut g first now old mid [] → ReadsPiece now after mid cut (Ok is_whole) →
    (cut.handed ≡ mid.handed) → PieceHanded g cut new (numbered problem ∷ [])
    → NextGives g first after (reader_at old) (reader_at new) (Ok (Some problem))
NextGives-some g first now after old mid cut new problem true room so_far piece same_number handed =
    NextGives-problem g first after old new problem (HandsOut-piece g first now after old mid cut new
    (numbered problem ∷ []) room so_far piece same_number handed)
NextGives-some g first now after old mid cut new problem false room so_far piece same_number handed =
    NextGives-last g first now after old mid cut new problem room so_far piece.0 same_number handed
    (handed.end ∙ piece.1)

pub NextGives-end : {B : Type 0} (g : Geometry) (first now after : Supply) (old mid cut new : Progress)
    (is_whole : Bool) → is_whole ≡ false
    → old.handed ≤ MAX_PROBLEMS → HandsOut g first now old mid [] → ReadsPiece now after mid cut (Ok is_whole) →
    (cut.handed ≡ mid.handed) → PieceHanded g cut new []
    → NextGives {B = B} g first after (reader_at old) (reader_at new) (Ok None)
NextGives-end g first now after old mid cut new true e room so_far piece same_number handed = cc
NextGives-end g first now after old mid cut new false e room so_far piece same_number handed =
    NextGives-none g first now after old mid cut new room so_far piece.0 same_number handed (handed.end ∙ piece.1)

pub HandsOut-blank : (g : Geometry) (first now after : Supply) (old mid cut new : Progress) (is_whole : Bool)
    → is_whole ≡ true
    → old.handed ≤ MAX_PROBLEMS → HandsOut g first now old mid [] → ReadsPiece now after mid cut (Ok is_whole) →
    (cut.handed ≡ mid.handed) → PieceHanded g cut new []
    → HandsOut g first after old new []
HandsOut-blank g first now after old mid cut new false e room so_far piece same_number handed = cc
HandsOut-blank g first now after old mid cut new true e room so_far piece same_number handed = HandsOut-piece g first
    now after old mid cut new [] room so_far piece same_number handed
