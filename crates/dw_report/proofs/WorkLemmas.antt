-- What is searched for texts, part by part.
use Rattle.std.proofs.Common.{◌≡◌, ℕ, ◌≤◌, false, Option, Some, Result, Ok, Err, inl, refl, sym, subst, arith}
use Rattle.std.proofs.Common.{zero-add}
use Rattle.dw_board.specs.Geometry.{Geometry}
use Rattle.dw_memo.specs.Content.{Content}
use Rattle.dw_solve.specs.Laws.{SearchesAddUp}
use Rattle.dw_solve.specs.Questions.{moment_of}
use Rattle.dw_solve.specs.Solving.{Solving}
use Rattle.dw_solve.specs.Work.{Moment, Searched, cut_off}
use Rattle.dw_report.specs.Request.{number_is_asked, number_is_chosen}
use Rattle.dw_report.specs.Work.{SearchedAfresh, Works}

-- more may be cut off
looser : (g : Geometry) (n cut more : ℕ) (a c : Moment) → cut ≤ more → Searched g n cut a c → Searched g n more a c
looser g n cut more a c less s = record {
  few = s.few;
  counted = s.counted;
  worked = λ kept. let w = s.worked kept in record {
    stronger = w.stronger;
    closed = w.closed;
    growth = λ i h. let r = w.growth i h in omega (arith, r, less);
  };
}

pub cut_few : {A E : Type 0} (r : Result A E) (n : ℕ) → cut_off r n ≤ n
cut_few (Ok x) n = omega arith
cut_few (Err e) n = omega arith

-- searches before a result, none of which is cut off
pub whole : {A E : Type 0} (g : Geometry) (n : ℕ) (r : Result A E) (a c : Moment) → Searched g n 0 a c
    → Searched g n (cut_off r n) a c
whole g n r a c s = looser g n 0 (cut_off r n) a c (omega arith) s

-- an error may cut off some
pub ended : {A E : Type 0} (g : Geometry) (n cut : ℕ) (r : Result A E) (e : E) (a c : Moment) → r ≡ Err e → cut ≤ n
    → Searched g n cut a c → Searched g n (cut_off r n) a c
ended g n cut r e a c is few s =
    subst (λ z. Searched g n (cut_off z n) a c) (sym is) (looser g n cut n a c few s)

-- one after another
pub further : SearchesAddUp → (g : Geometry) (n cut : ℕ) (a b c : Moment) → Searched g n 0 a b → Searched g n cut b c
    → Searched g n cut a c
further law g n cut a b c h k = subst (λ z. Searched g n z a c) (zero-add cut) (law.next g n 0 cut a b c h k)

-- nothing is searched
pub afresh_none : SearchesAddUp → (g : Geometry) (keeps : Type 0) (n cut : ℕ) (a : Moment)
    → SearchedAfresh g keeps n cut a a
afresh_none law g keeps n cut a = record {
  then = a;
  forgot = inl (λ e. ((λ h. h), (λ h. h)));
  kept = λ k. law.none g 0 a;
  lost = refl;
  expanded = refl;
  searched = looser g n 0 cut a a (omega arith) (law.none g n a);
}

-- an error is handed on
pub afresh_ended : {A E : Type 0} (g : Geometry) (keeps : Type 0) (n cut : ℕ) (r : Result A E) (e : E) (a c : Moment)
    → r ≡ Err e → cut ≤ n → SearchedAfresh g keeps n cut a c → SearchedAfresh g keeps n (cut_off r n) a c
afresh_ended g keeps n cut r e a c is few s = record {
  then = s.then;
  forgot = s.forgot;
  kept = s.kept;
  lost = s.lost;
  expanded = s.expanded;
  searched = ended g n cut r e s.then c is few s.searched;
}

-- a memo that keeps its entries is searched on
afresh_kept : SearchesAddUp → (g : Geometry) (keeps : Type 0) (n cut : ℕ) (a c : Moment)
    → SearchedAfresh g keeps n cut a c → keeps → Searched g n cut a c
afresh_kept law g keeps n cut a c s k =
    further law g n cut a s.then c (law.wider g 0 n 0 a s.then (omega arith) (s.kept k)) s.searched

-- the only problem requested is the only one that is chosen
pub not_chosen : (only : Option ℕ) (k number : ℕ) → only ≡ Some k → number_is_asked only number ≡ false
    → number_is_chosen only number ≡ false
not_chosen only k number is = subst (λ o. number_is_asked o number ≡ false → number_is_chosen o number ≡ false)
    (sym is) (λ h. h)

module _ {M : Type 0} (g : Geometry) (keeps : Type 0) (content : M → Content) (lost : M → ℕ) (only : Option ℕ) (n : ℕ)
  where
    -- the work of a run so far
    pub record WorkSoFar (first now : Solving M) : Type 0 where
      pub all : keeps → Searched g n 0 (moment_of content lost first) (moment_of content lost now)
      pub one : (k : ℕ) → only ≡ Some k → now ≡ first

    pub work_none : SearchesAddUp → (s : Solving M) → WorkSoFar s s
    work_none law s = record { all = λ k. law.none g n (moment_of content lost s); one = λ k e. refl }

    -- for one problem more
    pub work_more : SearchesAddUp → (first mid now : Solving M) → WorkSoFar first mid
        → SearchedAfresh g keeps n 0 (moment_of content lost mid) (moment_of content lost now)
        → ((k : ℕ) → only ≡ Some k → now ≡ mid) → WorkSoFar first now
    work_more law first mid now w s same = record {
      all = λ k. further law g n 0 (moment_of content lost first) (moment_of content lost mid)
          (moment_of content lost now) (w.all k) (afresh_kept law g keeps n 0 (moment_of content lost mid)
          (moment_of content lost now) s k);
      one = λ k e. subst (λ (z : Solving M). now ≡ z) (w.one k e) (same k e);
    }

    -- and for the last one
    pub work_last : SearchesAddUp → (cut : ℕ) (first mid now : Solving M) → WorkSoFar first mid
        → SearchedAfresh g keeps n cut (moment_of content lost mid) (moment_of content lost now)
        → Works g keeps only n cut (moment_of content lost first) (moment_of content lost now)
    work_last law cut first mid now w s = record {
      all = λ k. further law g n cut (moment_of content lost first) (moment_of content lost mid)
          (moment_of content lost now) (w.all k) (afresh_kept law g keeps n cut (moment_of content lost mid)
          (moment_of content lost now) s k);
      one = λ k e. subst (λ (z : Solving M). SearchedAfresh g keeps n cut (moment_of content lost z)
          (moment_of content lost now)) (w.one k e) s;
    }
