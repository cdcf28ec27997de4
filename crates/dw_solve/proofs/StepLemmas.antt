-- Steps of a search, one after another.
use Rattle.std.proofs.Common.{◌≡◌, ℕ, ◌≤◌, sym, ap, subst, ◌∙◌, arith, Result, Ok, Err, IsErrOf, zero-add}
use Rattle.std.specs.Result.{IsErrAnd}
use Rattle.dw_board.specs.Geometry.{Geometry}
use Rattle.dw_memo.specs.Content.{Content}
use Rattle.dw_solve.specs.inner.CountLemmas.{counted_none, counted_then}
use Rattle.dw_solve.specs.declared.search.Search.{Search}
use Rattle.dw_solve.specs.declared.stop.Stop.{Stop}
use Rattle.dw_solve.specs.declared.stop.Stop.TheVariants.{Limit, Memory}
use Rattle.dw_solve.specs.Facts.{AreTrue}
use Rattle.dw_solve.specs.Searching.{IsCounted}
use Rattle.dw_solve.specs.Work.{Searched, cut_off}
use Rattle.dw_solve.specs.inner.Searching.{at_time, CanSearch, HasSearched}
use Rattle.dw_solve.proofs.WorkLemmas.{err_is, searched_none, searched_then, searched_wider, searched_looser}

-- an answer, whatever it is
abbrev pub answered : Result ℕ Stop
answered = Ok 0

-- a stop for want of memory is none at the limit
pub memory_is_no_limit : {B : Type 0} (r : Result B Stop) (P : Type 0) → IsErrAnd r (λ d. d ≡ Memory) → IsErrOf r
    Limit → P
memory_is_no_limit (Ok x) P is h = absurd is
memory_is_no_limit (Err d) P is h = absurd (memory_apart (sym is ∙ err_is d h)) where
  memory_apart : Memory ≡ Limit → ⊥
  memory_apart e = cc

-- one more position was counted, or none
pub counted_one : (e l d k n m : ℕ) → e ≤ l → d ≡ e → k ≡ l → d ≤ n → m ≡ k → n ≤ m → IsCounted e l n m
counted_one e l d k n m low same_count same_limit rises limit within = record {
  rises = omega (arith, same_count, rises);
  within = omega (arith, within, limit, same_limit);
  same = limit ∙ same_limit;
}

module _ {M G : Type 0} (g : Geometry) (content : M → Content) (lost : M → ℕ) where
  -- nothing was done
  pub searched_nothing : (n : ℕ) (s : Search M G) → CanSearch g content s → HasSearched g content lost n s s answered
  searched_nothing n s ready = record {
    right = ready.right;
    count = counted_none s.expanded s.limit ready.within;
    stop = λ e. cc;
    work = searched_none g n 0 (at_time content lost s);
  }

  -- something more was done
  pub searched_on : {A : Type 0} (n : ℕ) (a b c : Search M G) (r : Result A Stop)
      → HasSearched g content lost n a b answered → HasSearched g content lost n b c r
      → HasSearched g content lost n a c r
  searched_on n a b c r h k = record {
    right = k.right;
    count = counted_then a.expanded a.limit b.expanded b.limit c.expanded c.limit h.count k.count;
    stop = k.stop;
    work = subst (λ z. Searched g n z (at_time content lost a) (at_time content lost c)) (zero-add (cut_off r n))
        (searched_then g n 0 (cut_off r n) (at_time content lost a) (at_time content lost b) (at_time content lost c)
        h.work k.work);
  }

  -- for wins within fewer moves
  pub searched_for_fewer : {A : Type 0} (n k : ℕ) (a b : Search M G) (r : Result A Stop) → n ≤ k
      → HasSearched g content lost n a b r → HasSearched g content lost k a b r
  searched_for_fewer n k a b (Ok x) wide h = record {
    right = h.right;
    count = h.count;
    stop = h.stop;
    work = searched_wider g n k 0 (at_time content lost a) (at_time content lost b) wide h.work;
  }
  searched_for_fewer n k a b (Err e) wide h = record {
    right = h.right;
    count = h.count;
    stop = h.stop;
    work = searched_looser g k n k (at_time content lost a) (at_time content lost b) wide
        (searched_wider g n k n (at_time content lost a) (at_time content lost b) wide h.work);
  }

  -- another answer
  pub searched_ok : {A B : Type 0} (n : ℕ) (a b : Search M G) (x : A) (y : B) → HasSearched g content lost n a b (Ok x)
      → HasSearched g content lost n a b (Ok y)
  searched_ok n a b x y h = record { right = h.right; count = h.count; stop = λ e. cc; work = h.work }

  -- the same stop of another answer
  pub searched_err : {A B : Type 0} (n : ℕ) (a b : Search M G) (e : Stop) (r : Result B Stop) → IsErrAnd r (λ d. d ≡ e)
      → HasSearched {A = A} g content lost n a b (Err e) → HasSearched g content lost n a b r
  searched_err n a b e (Ok x) is h = absurd is
  searched_err n a b e (Err d) is h = record {
    right = h.right;
    count = h.count;
    stop = λ at. h.stop (ap (λ z. Err z) (sym is ∙ err_is d at));
    work = h.work;
  }

  -- a stop for want of memory
  pub searched_memory : {B : Type 0} (n : ℕ) (a b : Search M G) (r : Result B Stop) → IsErrAnd r (λ d. d ≡ Memory)
      → HasSearched g content lost n a b answered → HasSearched g content lost n a b r
  searched_memory n a b (Ok x) is h = absurd is
  searched_memory {B = B} n a b (Err d) is h = record {
    right = h.right;
    count = h.count;
    stop = memory_is_no_limit {B = B} (Err d) (b.expanded ≡ b.limit) is;
    work = searched_looser g n 0 n (at_time content lost a) (at_time content lost b) (omega arith) h.work;
  }

  -- the memo was looked at
  pub searched_looked : (n : ℕ) (a b : Search M G) → CanSearch g content a → AreTrue g (content b.memo)
      → b.expanded ≡ a.expanded → b.limit ≡ a.limit → Searched g 0 0 (at_time content lost a) (at_time content lost b)
      → HasSearched g content lost n a b answered
  searched_looked n a b ready right count limit work = record {
    right = right;
    count = record {
      rises = omega (arith, count);
      within = omega (arith, count, ready.within);
      same = limit;
    };
    stop = λ e. cc;
    work = searched_wider g 0 n 0 (at_time content lost a) (at_time content lost b) (omega arith) work;
  }
