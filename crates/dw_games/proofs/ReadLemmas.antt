-- Lemmas on reading a section.
use Rattle.std.proofs.Common.{◌≡◌, ℕ, List, [], ◌∷◌, ◌++◌, drop, Bool, true, false, Option, Some, Ok, Err, MatchOption}
use Rattle.std.proofs.Common.{refl, sym, ap, ◌∙◌, subst, append_assoc, append-nil, option_to_list}
use Rattle.dw_board.specs.Geometry.{Geometry}
use Rattle.dw_notation.specs.TextLines.{Found}
use Rattle.dw_notation.specs.WholeTexts.{SectionsSay}
use Rattle.dw_notation.specs.TagLaws.{TextsOfTagsSay}
use Rattle.dw_notation.specs.inner.Readers.{ahead_of}
use Rattle.dw_notation.specs.declared.problems.section_reader.SectionReader.{SectionReader}
use Rattle.dw_games.specs.Games.{Said, said_with, HasGames}
use Rattle.dw_games.specs.GameReading.{is_failure}
use Rattle.dw_notation.specs.Buffering.{Input, Passes}
use Rattle.dw_notation.specs.Streams.{Supply}
use Rattle.dw_games.specs.inner.Keeping.{IsKept, spaces_on, row_of}
use Rattle.dw_games.specs.inner.Sectioning.{ReadsOn, ReadsSection, EndsWell}
use Rattle.dw_games.specs.declared.games.GameFault.{GameFault}
use Rattle.dw_games.specs.declared.bounded_buf.BoundedBuf.{BoundedBuf}
use Rattle.dw_games.proofs.InputLemmas.{Passes-trans}
use Rattle.dw_games.proofs.SectionLemmas.{first, cut_at, last_at, cut_games, last_games, empty_games, spaces_on-append}
use Rattle.dw_games.proofs.SectionLemmas.{cut_ends_well, last_ends_well}

front_begins : (passed behind rest : List ℕ) (byte : ℕ) → passed ++ byte ∷ behind ≡ 91 ∷ rest
    → (more : List ℕ) × (passed ++ byte ∷ [] ≡ 91 ∷ more)
front_begins [] behind rest byte e = ([], ap (λ b. b ∷ []) (ap first e))
front_begins (p ∷ passed) behind rest byte e = (passed ++ byte ∷ [], ap (λ b. b ∷ (passed ++ byte ∷ [])) (ap first e))

module _ {B S : Type 0} (g : Geometry) (supply : S → Supply) (is_failed : S → Bool)
    (pulls : S → ℕ) where
  abbrev On : Input S → Input S → BoundedBuf → BoundedBuf → BoundedBuf → BoundedBuf → SectionReader B → Type 0
  On = ReadsOn g supply is_failed pulls

  -- the next bytes are known
  pub ReadsOn-fill : (old mid now : Input S) (begun row before kept : BoundedBuf) (reader : SectionReader B)
      → On old mid begun row before kept reader → Passes supply is_failed pulls mid now [] false
      → On old now begun row before kept reader
  ReadsOn-fill old mid now begun row before kept reader on fill = record {
    passed = on.passed;
    passes = subst (λ l. Passes supply is_failed pulls old now l false) (append-nil on.passed)
        (Passes-trans supply is_failed pulls old mid now on.passed [] false on.passes fill);
    rows = on.rows;
    keeps = on.keeps;
    said = on.said;
    unsaid = on.unsaid;
  }

  -- they do not end the section
  pub ReadsOn-piece : (old mid now : Input S) (begun row longer before kept after : BoundedBuf) (reader next :
      SectionReader B) (piece : List ℕ) → On old mid begun row before kept reader
      → ((over : Bool) (more : List ℕ) → ahead_of reader g over (piece ++ more) ≡ ahead_of next g over more)
      → ahead_of next g false [] ≡ []
      → ((limit : ℕ) (text : List ℕ) → IsKept limit text row → IsKept limit (text ++ piece) longer)
      → ((limit : ℕ) (text : List ℕ) → IsKept limit text kept → IsKept limit (spaces_on text piece) after)
      → Passes supply is_failed pulls mid now piece false
      → On old now begun longer before after next
  ReadsOn-piece old mid now begun row longer before kept after reader next piece on same unsaid extend keep pass =
      record {
        passed = on.passed ++ piece;
        passes = Passes-trans supply is_failed pulls old mid now on.passed piece false on.passes pass;
        rows = λ limit is. extend limit on.passed (on.rows limit is);
        keeps = λ limit is. subst (λ l. IsKept limit l after) (sym (spaces_on-append [] on.passed piece))
            (keep limit (spaces_on [] on.passed) (on.keeps limit is));
        said = λ over more. subst (SectionsSay g over ((on.passed ++ piece) ++ more)) (same over more)
            (subst (λ l. SectionsSay g over l (ahead_of reader g over (piece ++ more)))
            (sym (append_assoc on.passed piece more)) (on.said over (piece ++ more)));
        unsaid = unsaid;
      }

  nothing_ended : (old now : Input S) (begun row before kept : BoundedBuf) (reader : SectionReader B)
      → (on : On old now begun row before kept reader) → SectionsSay g false on.passed []
  nothing_ended old now begun row before kept reader on = subst (SectionsSay g false on.passed) on.unsaid
      (subst (λ l. SectionsSay g false l (ahead_of reader g false [])) (append-nil on.passed) (on.said false []))

  -- a byte behind them ends the section
  pub ReadsOn-cut : TextsOfTagsSay → (old mid now : Input S) (begun row longer before kept after : BoundedBuf)
      (reader next : SectionReader B) (piece : List ℕ) (byte : ℕ) (result : Option Found) (found : Found)
      → On old mid begun row before kept reader
      → old.unread ≡ 91 ∷ drop 1 old.unread → now.unread ≡ byte ∷ drop 1 now.unread
      → ahead_of reader g false piece ≡ []
      → ((over : Bool) (more : List ℕ) → ahead_of reader g over ((piece ++ byte ∷ []) ++ more)
      ≡ found ∷ ahead_of next g over more)
      → ((limit : ℕ) (text : List ℕ) → IsKept limit text row → IsKept limit (text ++ piece) longer)
      → ((limit : ℕ) (text : List ℕ) → IsKept limit text kept → IsKept limit (spaces_on text piece) after)
      → Passes supply is_failed pulls mid now piece false → result ≡ Some found
      → ReadsSection g supply is_failed pulls old now begun longer before after (Ok result)
  ReadsOn-cut law old mid now begun row longer before kept after reader next piece byte result found on begins here none
      add extend keep pass is =
      let passed = on.passed ++ piece in
      let passes = Passes-trans supply is_failed pulls old mid now on.passed piece false on.passes pass in
      let behind = drop 1 now.unread in
      let joined : passed ++ byte ∷ behind ≡ 91 ∷ (drop 1 old.unread ++ passes.read) =
      ap (λ l. passed ++ l) (sym here) ∙ sym passes.same ∙ ap (λ l. l ++ passes.read) begins in
      let front = front_begins passed behind _ byte joined in
      let all : ahead_of reader g false (piece ++ byte ∷ []) ≡ found ∷ ahead_of next g false [] =
      ap (ahead_of reader g false) (sym (append-nil (piece ++ byte ∷ []))) ∙ add false [] in
      let cut = cut_at law g passed front.0 byte found _ (subst (λ l. SectionsSay g false l
      (ahead_of reader g false (piece ++ byte ∷ []))) (sym (append_assoc on.passed piece (byte ∷ [])))
      (on.said false (piece ++ byte ∷ []))) refl front.1 all
      (subst (SectionsSay g false passed) none (on.said false piece)) in
      subst (λ r. ReadsSection g supply is_failed pulls old now begun longer before after (Ok r)) (sym is)
      (record {
        passed = passed;
        passes = passes;
        rows = λ limit row_is. extend limit on.passed (on.rows limit row_is);
        kept = λ limit kept_is. subst (λ l. IsKept limit l after) (sym (spaces_on-append [] on.passed piece))
            (keep limit (spaces_on [] on.passed) (on.keeps limit kept_is));
        ends = cut_ends_well g passed byte found cut;
        said = λ bytes front games over has.
            let text : now.unread ++ bytes ≡ byte ∷ (behind ++ bytes) = ap (λ l. l ++ bytes) here in
            subst (λ l. HasGames g (passed ++ l) [] (said_with found (row_of passed) (spaces_on [] passed ++ front) ∷
            games)) (sym text) (cut_games g passed (behind ++ bytes) front byte found games cut
            (subst (λ l. HasGames g l front games) text has));
      })

  -- the text ends it
  pub ReadsOn-last : TextsOfTagsSay → (old now : Input S) (begun row before kept : BoundedBuf) (reader : SectionReader
      B) (result : Option Found) → On old now begun row before kept reader → old.unread ≡ 91 ∷ drop 1 old.unread
      → (now.unread ≡ []) × (now.met_end ≡ true) → ahead_of reader g true [] ≡ option_to_list result
      → ReadsSection g supply is_failed pulls old now begun row before kept (Ok result)
  ReadsOn-last law old now begun row before kept reader result on begins end finish =
      let joined : on.passed ++ [] ≡ 91 ∷ (drop 1 old.unread ++ on.passes.read) =
      ap (λ l. on.passed ++ l) (sym end.0) ∙ sym on.passes.same ∙ ap (λ l. l ++ on.passes.read) begins in
      let last = last_at law g on.passed _ result (on.said true []) (append-nil on.passed) joined finish
      (nothing_ended old now begun row before kept reader on) in
      record {
        passed = on.passed;
        passes = on.passes;
        rows = on.rows;
        kept = on.keeps;
        ends = subst (λ r. MatchOption r ⊥ (λ found. EndsWell found on.passed)) (sym last.1)
            (last_ends_well g on.passed last.0 last.2);
        said = subst (λ r. MatchOption r ⊥ (λ found. (bytes front : List ℕ) (games : List Said)
            → (now.met_end ≡ true → bytes ≡ []) → HasGames g (now.unread ++ bytes) front games
            → HasGames g (on.passed ++ (now.unread ++ bytes)) []
            (said_with found (row_of on.passed) (spaces_on [] on.passed ++ front) ∷ games))) (sym last.1)
            (λ bytes front games over has.
            let none : now.unread ++ bytes ≡ [] = ap (λ l. l ++ bytes) end.0 ∙ over end.1 in
            let empty = empty_games g has none in
            subst (λ l. HasGames g l [] (said_with last.0 (row_of on.passed) (spaces_on [] on.passed ++ front) ∷ games))
            (sym (ap (λ l. on.passed ++ l) none ∙ append-nil on.passed))
            (subst (λ l. HasGames g on.passed []
            (said_with last.0 (row_of on.passed) (spaces_on [] on.passed ++ l) ∷ games)) (sym empty.0)
            (subst (λ l. HasGames g on.passed []
            (said_with last.0 (row_of on.passed) (spaces_on [] on.passed ++ []) ∷ l)) (sym empty.1)
            (last_games g on.passed last.0 last.2))));
      }

  -- the source fails, or memory is refused
  pub ReadsOn-fault : (old mid now : Input S) (begun row longer before kept after : BoundedBuf) (reader : SectionReader
      B) (fault : GameFault) → On old mid begun row before kept reader
      → Passes supply is_failed pulls mid now [] (is_failure {A = Option Found} (Err fault))
      → ReadsSection g supply is_failed pulls old now begun longer before after (Err fault)
  ReadsOn-fault old mid now begun row longer before kept after reader fault on fill = record {
    passed = on.passed;
    passes = subst (λ l. Passes supply is_failed pulls old now l (is_failure {A = Option Found} (Err fault)))
        (append-nil on.passed) (Passes-trans supply is_failed pulls old mid now on.passed [] _ on.passes
        fill);
    rows = tt;
    kept = tt;
    ends = tt;
    said = tt;
  }
