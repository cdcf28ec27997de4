-- Questions to a solver one after another.
use Rattle.std.proofs.Common.{◌≡◌, ℕ, ◌≤◌, refl, sym, subst, ◌∙◌, ap, arith, Result, Ok, Err, IsErrOf, zero-add}
use Rattle.std.specs.Result.{IsErrAnd}
use Rattle.dw_board.specs.Geometry.{Geometry}
use Rattle.dw_memo.specs.Content.{Content}
use Rattle.dw_solve.specs.declared.stop.Stop.{Stop}
use Rattle.dw_solve.specs.declared.stop.Stop.TheVariants.{Limit, Memory}
use Rattle.dw_solve.specs.Solving.{Solving}
use Rattle.dw_solve.specs.Work.{Moment, Searched, cut_off}
use Rattle.dw_solve.specs.Laws.{SearchesAddUp}
use Rattle.dw_solve.specs.Questions.{Asked, moment_of}

-- an answer, whatever it is
abbrev pub answered : Result ℕ Stop
answered = Ok 0

pub searched_looser : (g : Geometry) (n cut more : ℕ) (a c : Moment) → cut ≤ more → Searched g n cut a c
    → Searched g n more a c
searched_looser g n cut more a c less s = record {
  few = s.few;
  counted = s.counted;
  worked = λ kept. let w = s.worked kept in record {
    stronger = w.stronger;
    closed = w.closed;
    growth = λ i h. let r = w.growth i h in omega (arith, r, less);
  };
}

pub err_is : {B : Type 0} (d : Stop) → IsErrOf {T = B} (Err d) Limit → d ≡ Limit
err_is d same = cc

memory_apart : Memory ≡ Limit → ⊥
memory_apart e = cc

module _ {M : Type 0} (g : Geometry) (content : M → Content) (lost : M → ℕ) where
  -- no question
  pub asked_none : SearchesAddUp → (n : ℕ) (s : Solving M) → s.expanded ≤ s.limit → Asked g content lost n s s answered
  asked_none law n s within = record {
    count = record { rises = omega arith; within = within; same = refl };
    stop = λ e. cc;
    searched = law.none g n (moment_of content lost s);
  }

  -- some more questions
  pub asked_then : {A : Type 0} → SearchesAddUp → (n : ℕ) (a b c : Solving M) (r : Result A Stop)
      → Asked g content lost n a b answered → Asked g content lost n b c r → Asked g content lost n a c r
  asked_then law n a b c r h k = record {
    count = record {
      rises = omega (arith, h.count.rises, k.count.rises);
      within = subst (λ z. c.expanded ≤ z) h.count.same k.count.within;
      same = k.count.same ∙ h.count.same;
    };
    stop = k.stop;
    searched = subst (λ z. Searched g n z (moment_of content lost a) (moment_of content lost c))
        (zero-add (cut_off r n))
        (law.next g n 0 (cut_off r n) (moment_of content lost a) (moment_of content lost b) (moment_of content lost c)
        h.searched k.searched);
  }

  -- questions about wins within fewer moves
  pub asked_wider : {A : Type 0} → SearchesAddUp → (n k : ℕ) (a b : Solving M) (r : Result A Stop) → n ≤ k
      → Asked g content lost n a b r → Asked g content lost k a b r
  asked_wider law n k a b (Ok x) wide h =
      record {
        count = h.count;
        stop = h.stop;
        searched = law.wider g n k 0 (moment_of content lost a) (moment_of content lost b) wide h.searched;
      }
  asked_wider law n k a b (Err e) wide h = record {
    count = h.count;
    stop = h.stop;
    searched = searched_looser g k n k (moment_of content lost a) (moment_of content lost b) wide
        (law.wider g n k n (moment_of content lost a) (moment_of content lost b) wide h.searched);
  }

  -- another answer
  pub asked_ok : {A B : Type 0} (n : ℕ) (a b : Solving M) (x : A) (y : B) → Asked g content lost n a b (Ok x)
      → Asked g content lost n a b (Ok y)
  asked_ok n a b x y h = record { count = h.count; stop = λ e. cc; searched = h.searched }

  -- the same stop
  pub asked_stop : {A B : Type 0} (n : ℕ) (a b : Solving M) (e : Stop) (r : Result B Stop) → IsErrAnd r (λ d. d ≡ e)
      → Asked {A = A} g content lost n a b (Err e) → Asked g content lost n a b r
  asked_stop n a b e (Ok x) is h = absurd is
  asked_stop n a b e (Err d) is h = record {
    count = h.count;
    stop = λ same. h.stop (ap (λ z. Err z) (sym is ∙ err_is d same));
    searched = h.searched;
  }

  -- out of memory after answers
  pub asked_memory : {B : Type 0} (n : ℕ) (a b : Solving M) (r : Result B Stop) → IsErrAnd r (λ d. d ≡ Memory)
      → Asked g content lost n a b answered → Asked g content lost n a b r
  asked_memory n a b (Ok x) is h = absurd is
  asked_memory n a b (Err d) is h = record {
    count = h.count;
    stop = λ same. absurd (memory_apart (sym is ∙ err_is d same));
    searched = searched_looser g n 0 n (moment_of content lost a) (moment_of content lost b) (omega arith) h.searched;
  }

  pub asked_for : {A : Type 0} (m n : ℕ) (a b : Solving M) (r : Result A Stop) → m ≡ n → Asked g content lost m a b r
      → Asked g content lost n a b r
  asked_for m n a b r e h = subst (λ z. Asked g content lost z a b r) e h
