-- Lemmas on bytes without a section.
use Rattle.std.proofs.Common.{◌≡◌, ◌==◌, ℕ, List, [], ◌∷◌, ◌++◌, drop, Bool, true, false, Result, Ok, Err, refl}
use Rattle.std.proofs.Common.{sym, subst, append_assoc, append-nil, cond}
use Rattle.dw_board.specs.Geometry.{Geometry}
use Rattle.dw_games.specs.Games.{Said, HasGames}
use Rattle.dw_games.specs.Games.HasGames.{nothing as no_games, other as other_byte, comment, last_comment}
use Rattle.dw_notation.specs.Between.{IsBetween}
use Rattle.dw_notation.specs.Between.IsBetween.{nothing, other, opened as open_brace, within, closed as close_brace}
use Rattle.dw_games.specs.GameReading.{is_failure}
use Rattle.dw_notation.specs.Buffering.{Input, Passes}
use Rattle.dw_notation.specs.Streams.{Supply}
use Rattle.dw_games.specs.inner.Keeping.{IsKept}
use Rattle.dw_games.specs.inner.Playing.{InComment, unclosed, HasGamesFrom, ReadsPlay, PlaysOn}
use Rattle.dw_games.specs.inner.Playing.InComment.{closed, left_open}
use Rattle.dw_games.specs.declared.games.GameFault.{GameFault}
use Rattle.dw_games.specs.declared.bounded_buf.BoundedBuf.{BoundedBuf}
use Rattle.dw_games.specs.declared.play.PlayEnd.{PlayEnd}
use Rattle.dw_games.specs.declared.play.PlayEnd.TheVariants.{Section, Text, Open}
use Rattle.dw_games.proofs.InputLemmas.{Passes-refl, Passes-trans}

-- ---- one more byte, outside and in a comment
opened : (g : Geometry) {more front : List ℕ} {games : List Said} → InComment g more front games
    → HasGames g (123 ∷ more) (123 ∷ front) games
opened g (closed text is has) = comment text is has
opened g (left_open text is) = last_comment text is

inside : (g : Geometry) (byte : ℕ) → (byte == 125) ≡ false → {more front : List ℕ} {games : List Said}
    → InComment g more front games → InComment g (byte ∷ more) (byte ∷ front) games
inside g byte none (closed text is has) = closed (byte ∷ text) (rw none is) has
inside g byte none (left_open text is) = left_open (byte ∷ text) (rw none is)

-- ---- bytes between sections
pub between_games : (g : Geometry) {begins ends : Bool} {text : List ℕ} → IsBetween begins ends text
    → (more front : List ℕ) (games : List Said) → HasGamesFrom ends g more front games
    → HasGamesFrom begins g (text ++ more) (text ++ front) games
between_games g nothing more front games has = has
between_games g (other byte neither is) more front games has = other_byte byte neither
    (between_games g is more front games has)
between_games g (open_brace is) more front games has = opened g (between_games g is more front games has)
between_games g (within byte here is) more front games has = inside g byte here (between_games g is more front games
    has)
between_games g (close_brace is) more front games has = closed [] refl (between_games g is more front games has)

module _ {S : Type 0} (supply : S → Supply) (is_failed : S → Bool) (pulls : S → ℕ) where
  abbrev On : Input S → Input S → BoundedBuf → BoundedBuf → Bool → Type 0
  On = PlaysOn supply is_failed pulls

  pub PlaysOn-start : (old : Input S) (before : BoundedBuf) → On old old before before false
  PlaysOn-start old before = record {
    passed = [];
    passes = Passes-refl supply is_failed pulls old;
    keeps = λ limit text is. subst (λ l. IsKept limit l before) (sym (append-nil text)) is;
    said = λ g more front games has. has;
  }

  -- the next bytes are known
  pub PlaysOn-fill : (old mid now : Input S) (before kept : BoundedBuf) (was : Bool) → On old mid before kept was
      → Passes supply is_failed pulls mid now [] false → On old now before kept was
  PlaysOn-fill old mid now before kept was on fill = record {
    passed = on.passed;
    passes = subst (λ l. Passes supply is_failed pulls old now l false) (append-nil on.passed)
        (Passes-trans supply is_failed pulls old mid now on.passed [] false on.passes fill);
    keeps = on.keeps;
    said = on.said;
  }

  -- they are kept and passed
  pub PlaysOn-piece : (old mid now : Input S) (before kept after : BoundedBuf) (was next : Bool) (piece : List ℕ)
      → On old mid before kept was → IsBetween was next piece
      → ((limit : ℕ) (text : List ℕ) → IsKept limit text kept → IsKept limit (text ++ piece) after)
      → Passes supply is_failed pulls mid now piece false
      → On old now before after next
  PlaysOn-piece old mid now before kept after was next piece on between extend pass = record {
    passed = on.passed ++ piece;
    passes = Passes-trans supply is_failed pulls old mid now on.passed piece false on.passes pass;
    keeps = λ limit text is. subst (λ l. IsKept limit l after) (append_assoc text on.passed piece)
        (extend limit (text ++ on.passed) (on.keeps limit text is));
    said = λ g more front games has.
        subst (λ l. HasGames g l ((on.passed ++ piece) ++ front) games) (sym (append_assoc on.passed piece more))
        (subst (λ l. HasGames g (on.passed ++ (piece ++ more)) l games) (sym (append_assoc on.passed piece front))
        (on.said g (piece ++ more) (piece ++ front) games (between_games g between more front games has)));
  }

  abbrev Result-of : Input S → Input S → BoundedBuf → BoundedBuf → Result PlayEnd GameFault → Type 0
  Result-of = ReadsPlay supply is_failed pulls

  -- a section begins
  pub PlaysOn-section : (old now : Input S) (before after : BoundedBuf) → On old now before after false
      → now.unread ≡ 91 ∷ drop 1 now.unread → Result-of old now before after (Ok Section)
  PlaysOn-section old now before after on next = record {
    passed = on.passed;
    passes = on.passes;
    kept = on.keeps;
    said = λ g bytes games has. subst (λ l. HasGames g (on.passed ++ (now.unread ++ bytes)) l games)
        (append-nil on.passed) (on.said g (now.unread ++ bytes) [] games has);
    ends = next;
  }

  from_end : (g : Geometry) (passed text : List ℕ) (games : List Said) → HasGames g (passed ++ []) (passed ++ []) games
      → text ≡ [] → HasGames g (passed ++ text) passed games
  from_end g passed text games has none = subst (λ l. HasGames g (passed ++ l) passed games) (sym none)
      (subst (λ l. HasGames g (passed ++ []) l games) (append-nil passed) has)

  -- the text ends
  PlaysOn-text : (old now : Input S) (before after : BoundedBuf) → On old now before after false
      → (now.unread ≡ []) × (now.met_end ≡ true) → Result-of old now before after (Ok Text)
  PlaysOn-text old now before after on end = record {
    passed = on.passed;
    passes = on.passes;
    kept = on.keeps;
    said = λ g bytes games has. subst (λ l. HasGames g (on.passed ++ (now.unread ++ bytes)) on.passed l) (sym has.1)
        (from_end g on.passed (now.unread ++ bytes) [] (on.said g [] [] [] no_games) has.0);
    ends = end;
  }

  PlaysOn-open : (old now : Input S) (before after : BoundedBuf) → On old now before after true
      → (now.unread ≡ []) × (now.met_end ≡ true) → Result-of old now before after (Ok Open)
  PlaysOn-open old now before after on end = record {
    passed = on.passed;
    passes = on.passes;
    kept = on.keeps;
    said = λ g bytes games has. subst (λ l. HasGames g (on.passed ++ (now.unread ++ bytes)) on.passed l) (sym has.1)
        (from_end g on.passed (now.unread ++ bytes) (unclosed ∷ [])
        (on.said g [] [] (unclosed ∷ []) (left_open [] refl)) has.0);
    ends = end;
  }

  pub PlaysOn-end : (old now : Input S) (before after : BoundedBuf) (was : Bool) (end : PlayEnd) → On old now before
      after was
      → (now.unread ≡ []) × (now.met_end ≡ true) → end ≡ cond was Open Text → Result-of old now before after (Ok end)
  PlaysOn-end old now before after true end on none is = subst (λ e. Result-of old now before after (Ok e)) (sym is)
      (PlaysOn-open old now before after on none)
  PlaysOn-end old now before after false end on none is = subst (λ e. Result-of old now before after (Ok e)) (sym is)
      (PlaysOn-text old now before after on none)

  -- the source fails, or memory is refused
  pub PlaysOn-fault : (old mid now : Input S) (before kept after : BoundedBuf) (was : Bool) (fault : GameFault)
      → On old mid before kept was
      → Passes supply is_failed pulls mid now [] (is_failure {A = PlayEnd} (Err fault))
      → Result-of old now before after (Err fault)
  PlaysOn-fault old mid now before kept after was fault on fill = record {
    passed = on.passed;
    passes = subst (λ l. Passes supply is_failed pulls old now l (is_failure {A = PlayEnd} (Err fault)))
        (append-nil on.passed) (Passes-trans supply is_failed pulls old mid now on.passed [] _ on.passes
        fill);
    kept = tt;
    said = tt;
    ends = tt;
  }
