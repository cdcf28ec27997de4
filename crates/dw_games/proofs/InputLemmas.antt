-- Lemmas on the bytes of an input that are passed, and on what is kept of them.
use Rattle.std.proofs.Common.{◌≡◌, ℕ, ◌+◌, ◌-◌, ◌||◌, inl, inr, min, List, [], ◌∷◌, ◌++◌, length, take, drop, Bool}
use Rattle.std.proofs.Common.{true, false, Option, Some, None, IfSome, IfNone, is_some, unwrap_or, Result, Ok, Err}
use Rattle.std.proofs.Common.{OnOk, is_ok, cond, refl, sym, ap, ◌∙◌, subst, arith, append_assoc, append-nil}
use Rattle.std.proofs.Common.{length-append}
use Rattle.std.proofs.Math.Seq.{take-append-add}
use Rattle.std.proofs.lemmas.Bool.{cases_lt}
use Rattle.std.proofs.lemmas.List.{length-take, take-append-drop, take-append-le, take_all, take_min}
use Rattle.dw_notation.specs.Streams.{Supply, Reads}
use Rattle.dw_notation.specs.inner.StreamLemmas.{Reads-nil, Reads-trans}
use Rattle.dw_notation.specs.Buffering.{Input, Passes}

or-false : (b : Bool) → (b || false) ≡ b
or-false true = refl
or-false false = refl

module _ {S : Type 0} (supply : S → Supply) (is_failed : S → Bool) (pulls : S → ℕ) where
  -- a piece of what was read is passed
  pub Passes-piece : (old new : Input S) (count : ℕ) → new.source ≡ old.source
      → new.met_end ≡ old.met_end → new.unread ≡ drop count old.unread
      → Passes supply is_failed pulls old new (take count old.unread) false
  Passes-piece old new count source met rest = record {
    read = [];
    took = subst (λ s. Reads (supply old.source) (supply s) []) (sym source)
        (Reads-nil (supply old.source));
    same = append-nil old.unread ∙ sym (take-append-drop count old.unread)
        ∙ ap (λ l. take count old.unread ++ l) (sym rest);
    stays = λ m. (refl, met ∙ m);
    end = λ began known. rw (source, met) known;
    failed = ap is_failed source ∙ sym (or-false (is_failed old.source));
    lighter =
        let split = sym (length-append (take count old.unread) (drop count old.unread))
        ∙ ap length (take-append-drop count old.unread) in
        let same = ap pulls source in
        let short = ap length rest in
        omega (arith, split, same, short);
  }

  pub Passes-refl : (old : Input S) → Passes supply is_failed pulls old old [] false
  Passes-refl old = record {
    read = [];
    took = Reads-nil (supply old.source);
    same = append-nil old.unread;
    stays = λ m. (refl, m);
    end = λ began known. known;
    failed = sym (or-false (is_failed old.source));
    lighter = omega arith;
  }

  pub Passes-trans : (old mid new : Input S) (first second : List ℕ) (fails : Bool)
      → Passes supply is_failed pulls old mid first false
      → Passes supply is_failed pulls mid new second fails
      → Passes supply is_failed pulls old new (first ++ second) fails
  Passes-trans old mid new first second fails a b = record {
    read = a.read ++ b.read;
    took = Reads-trans (supply old.source) (supply mid.source) (supply new.source) a.read b.read a.took
        b.took;
    same = sym (append_assoc old.unread a.read b.read) ∙ ap (λ l. l ++ b.read) a.same
        ∙ append_assoc first mid.unread b.read ∙ ap (λ l. first ++ l) b.same
        ∙ sym (append_assoc first second new.unread);
    stays = λ m. let s = a.stays m in let t = b.stays s.1 in
        (ap (λ l. l ++ b.read) s.0 ∙ t.0, t.1);
    end = λ began known. b.end began (a.end began known);
    failed = b.failed ∙ ap (λ f. f || fails) (a.failed ∙ or-false (is_failed old.source));
    lighter = omega (arith, a.lighter, b.lighter, length-append first second);
  }

-- ---- one more piece is kept, as far as there is room
pub take-extend : (limit : ℕ) (text piece kept : List ℕ) (count : ℕ) → kept ≡ take limit text
    → count ≡ min (length piece) (limit - length kept) → kept ++ take count piece ≡ take limit (text ++ piece)
take-extend limit text piece kept count e is =
    let few = ap length e ∙ length-take limit text in
    elim (cases_lt limit (length text)) [
      | inl full ↦
          let none : count ≡ 0 = omega (arith, is, few, full) in
          ap (λ n. kept ++ take n piece) none ∙ append-nil kept ∙ e
          ∙ sym (take-append-le limit text piece (omega (arith, full)))
      | inr room ↦
          let all : kept ≡ text = e ∙ take_all limit text room in
          let size = ap length all in
          let least : count ≡ min (limit - length text) (length piece) = omega (arith, is, size) in
          let whole : length text + (limit - length text) ≡ limit = omega (arith, room) in
          ap (λ l. l ++ take count piece) all ∙ ap (λ n. text ++ take n piece) least
          ∙ ap (λ l. text ++ l) (take_min (limit - length text) piece)
          ∙ sym (take-append-add text piece (limit - length text)) ∙ ap (λ n. take n (text ++ piece)) whole
    ]

-- memory was there, or not
pub extended : {T E Q : Type 0} (r : Result T E) (now all old : List ℕ) → now ≡ cond (is_ok r) all old → (now ≡ all → Q)
    → OnOk r Q
extended (Ok x) now all old is f = f is
extended (Err e) now all old is f = tt

-- the place that was found, or the number of all bytes
pub found_at : (P : ℕ → Type 0) (found : Option ℕ) (count all : ℕ) → count ≡ unwrap_or found all → is_some found ≡ true
    → IfSome found P → P count
found_at P (Some k) count all is some h = subst P (sym is) h
found_at P None count all is some h = cc

pub none_found : {P : Type 0} (found : Option ℕ) (count all : ℕ) → count ≡ unwrap_or found all → is_some found ≡ false
    → IfNone found P → (count ≡ all) × P
none_found (Some k) count all is none h = cc
none_found None count all is none h = (is, h)

-- what is unread begins with this byte
pub begins : {byte : ℕ} (unread rest : List ℕ) → unread ≡ byte ∷ rest → unread ≡ byte ∷ drop 1 unread
begins {byte} unread rest is = is ∙ ap (λ l. byte ∷ l) (sym (ap (drop 1) is))
