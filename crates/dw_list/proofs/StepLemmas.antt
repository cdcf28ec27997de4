-- The steps of a stack, and the line that it gives.
use Rattle.std.proofs.Common.{◌≡◌, ℕ, ◌+◌, ◌-◌, ◌*◌, ◌^◌, ◌≤◌, ◌<◌, ◌↔◌, zero, suc, Bool, true, false, Some, None}
use Rattle.std.proofs.Common.{Option, List, [], ◌∷◌, ◌++◌, length, drop, reverse, refl, sym, ap, ◌∙◌, subst, inl, inr}
use Rattle.std.proofs.Common.{append_assoc, arith, Result, Ok, Err, OnErr}
use Rattle.std.specs.Prelude.{not, if◌then◌else◌}
use Rattle.std.proofs.lemmas.Bool.{true≢false}
use Rattle.std.proofs.lemmas.List.{append-nil}
use Rattle.dw_board.specs.Geometry.{Geometry}
use Rattle.dw_board.specs.Placement.{Placement}
use Rattle.dw_moves.specs.Moves.{Move, Legal, play}
use Rattle.dw_board.specs.Lists.{Member}
use Rattle.dw_moves.specs.Order.{Precedes, IsAscending, IsListOf}
use Rattle.dw_moves.specs.Laws.{MovesHaveKeys}
use Rattle.dw_solve.specs.Lines.{Line, Before}
use Rattle.dw_list.specs.LineStack.{BeginsAmong, Level, LineStack, IsAhead, IsBehind, Remains, IsStillAhead, AreToCome}
use Rattle.dw_list.specs.inner.Ways.{GoesOn, left_after, Keeps}
use Rattle.dw_list.specs.inner.Levels.{AreLevels}
use Rattle.dw_list.specs.inner.Steps.{begun, first_ahead, passed, passed_last, with_ahead, cost_of_all, cost_of, IsStep}
use Rattle.dw_list.specs.inner.Steps.{IsGiven}
use Rattle.dw_list.specs.declared.stack.Candidate.{Candidate}
use Rattle.dw_list.specs.inner.Tasks.{IsCandidate, IsListed}
use Rattle.dw_list.specs.declared.walk.Step.{Step}
use Rattle.dw_list.specs.declared.walk.Step.TheVariants.{Given, On}
use Rattle.dw_list.specs.StackWalk.{Gives, SameToCome, GivesFirst, GivesNone}
use Rattle.dw_list.specs.inner.StackWalk.{HasStepped}
use Rattle.dw_list.proofs.StackLemmas.{leads_count}
use Rattle.dw_list.proofs.GatheringLemmas.{left_within}
use Rattle.dw_list.proofs.WayLemmas.{goes_from, next_legal, next_keeps}
use Rattle.dw_solve.specs.inner.ListLemmas.{first_listed, none_listed}
use Rattle.dw_solve.specs.inner.LineOrderLemmas.{before_asym}
use Rattle.dw_list.proofs.StackViewLemmas.{standing}
use Rattle.dw_list.proofs.RemainingLemmas.{remains_as, remains_or, remains_here, leads_line, remains_later}

-- WHAT STEPS COST

more_rows : (a b x : ℕ) → a ≤ b → a * x ≤ b * x
more_rows a b x h = grind arith

one_row : (a x : ℕ) → suc a * x ≡ x + a * x
one_row a x = grind arith

cost_listed : (most plies c : ℕ) → 1 ≤ plies → c ≤ most → c * (1 + cost_of_all most (plies - 1)) + 1
    < cost_of_all most plies
unfolding cost_of_all
cost_listed most zero c some few = absurd (omega arith)
cost_listed most (suc d) c some few =
    let e : suc d - 1 ≡ d = omega arith in
    let rows = more_rows c most (1 + cost_of_all most d) few in
    rw e (omega (arith, rows))

cost_passed : (most plies : ℕ) (m : Move) (ms : List Move) → cost_of most plies (Some (m ∷ ms))
    ≡ (1 + cost_of_all most (plies - 1)) + cost_of most plies (Some ms)
cost_passed most plies m ms = let r = one_row (length ms) (1 + cost_of_all most (plies - 1)) in omega (arith, r)

-- WHAT IS AHEAD AT THE LAST LEVEL

begins_all : (g : Geometry) (a : Bool) (q : Placement) (k : ℕ) (ms t : List Move)
    → ((m : Move) → Legal g q m → Member m ms) → (a ≡ false → ms ≡ [] → ⊥) → ((m : Move) → Member m ms → Legal g q m)
    → GoesOn g a q k t → BeginsAmong ms t
begins_all g true q zero ms t all some from h = absurd h
begins_all g true q (suc k) ms [] all some from h = h
begins_all g true q (suc k) ms (m ∷ t) all some from h =
    all m (next_legal g true q (suc k) m (goes_from g true q (suc k) m t h).0)
begins_all g false q k [] [] all some from h = some refl refl
begins_all g false q k (m ∷ ms) [] all some from h = h m (from m (inl refl))
begins_all g false q k ms (r ∷ t) all some from h = all r h.0

barred : (g : Geometry) (a : Bool) (q : Placement) (k : ℕ) (m : Move) (ms t : List Move)
    → (Keeps g a (play g q m) (left_after a k) → ⊥) → GoesOn g a q k t → BeginsAmong (m ∷ ms) t → BeginsAmong ms t
barred g a q k m ms [] none on h = absurd h
barred g a q k m ms (r ∷ t) none on h = elim h [
  | inl e ↦ absurd (none (next_keeps g a q k m (goes_from g a q k m t (subst (λ z. GoesOn g a q k (z ∷ t)) e on)).0))
  | inr rest ↦ rest
]

one_more : (m : Move) (ms t : List Move) → BeginsAmong ms t → BeginsAmong (m ∷ ms) t
one_more m ms [] h = absurd h
one_more m ms (r ∷ t) h = inr h

split_first : (m : Move) (ms t : List Move) → BeginsAmong (m ∷ ms) t → IsBehind (Some ms) m (IsAhead None) t
split_first m ms [] h = absurd h
split_first m ms (r ∷ t) h = elim h [
  | inl e ↦ inr (t, (λ i. e i ∷ t), tt)
  | inr rest ↦ inl rest
]

join_first : (m : Move) (ms t : List Move) → IsBehind (Some ms) m (IsAhead None) t → BeginsAmong (m ∷ ms) t
join_first m ms t h = elim h [
  | inl rest ↦ one_more m ms t rest
  | inr s ↦ subst (BeginsAmong (m ∷ ms)) (sym s.1) (inl refl)
]

begins_none : (t : List Move) → BeginsAmong [] t → ⊥
begins_none [] h = h
begins_none (m ∷ t) h = h

first_is : (o : Option (List Move)) (m : Move) → first_ahead o ≡ Some m → (ms : List Move) × (o ≡ Some (m ∷ ms))
first_is None m e = cc
first_is (Some []) m e = cc
first_is (Some (r ∷ ms)) m e = let same : r ≡ m = (cc) in (ms, ap (λ z. Some (z ∷ ms)) same)

-- THE STEPS

module _ (g : Geometry) (p : Placement) (n : ℕ) (line : List Move) (f : Level) (outer : List Level)
    (levels : AreLevels g p n (f ∷ outer) line) (fits : length outer + 1 ≤ 2 * n) where
  last_as : (P Q : List Move → Type 0) → ((t : List Move) → GoesOn g f.attacks f.position f.left t → P t → Q t)
      → (l : List Move) → Line g p n l → Remains outer line P l → Remains outer line Q l
  last_as P Q to l here r = remains_as g p n outer line f.attacks f.position f.left levels.0 P Q to l here r

  pub step_listed : (ms : List Move) → f.ahead ≡ None → IsListOf (Precedes g f.position) (Legal g f.position) ms
      → length ms < 2 ^ 64 → (f.attacks ≡ false → ms ≡ [] → ⊥)
      → IsStep g (standing p n line (f ∷ outer)) (standing p n line (with_ahead f ms ∷ outer))
  step_listed ms none all few some = record {
    position = refl;
    moves = refl;
    same = λ l here. (
      last_as (IsAhead f.ahead) (IsAhead (Some ms)) (λ t on h. begins_all g f.attacks f.position f.left ms t
          (λ m legal. (all.exactly m).1 legal) some (λ m h. (all.exactly m).0 h) on) l here,
      last_as (IsAhead (Some ms)) (IsAhead f.ahead) (λ t on h. subst (λ z. IsAhead z t) (sym none) tt) l here,
    );
    fewer =
        let less = cost_listed (2 ^ 64) (2 * n - length outer) (length ms) (omega arith) (omega arith) in
        rw none (omega (arith, less));
  }

  pub step_passed : (m : Move) (ms : List Move) → f.ahead ≡ Some (m ∷ ms)
      → (Keeps g f.attacks (play g f.position m) (left_after f.attacks f.left) → ⊥)
      → IsStep g (standing p n line (f ∷ outer)) (standing p n line (passed f ∷ outer))
  step_passed m ms is none = record {
    position = refl;
    moves = refl;
    same = λ l here. rw is (
      last_as (IsAhead (Some (m ∷ ms))) (IsAhead (Some ms)) (λ t on h. barred g f.attacks f.position f.left m ms t none
          on h) l here,
      last_as (IsAhead (Some ms)) (IsAhead (Some (m ∷ ms))) (λ t on h. one_more m ms t h) l here,
    );
    fewer = let c = cost_passed (2 ^ 64) (2 * n - length outer) m ms in rw is (omega (arith, c));
  }

  pub step_entered : (m : Move) (ms : List Move) (after : Placement) (attacks : Bool) (left : ℕ)
      → f.ahead ≡ Some (m ∷ ms) → IsStep g (standing p n line (f ∷ outer))
      (standing p n (m ∷ line) (begun after attacks left ∷ passed f ∷ outer))
  step_entered m ms after attacks left is = record {
    position = refl;
    moves = refl;
    same = λ l here. rw is (
      last_as (IsAhead (Some (m ∷ ms))) (IsBehind (Some ms) m (IsAhead None)) (λ t on h. split_first m ms t h) l here,
      last_as (IsBehind (Some ms) m (IsAhead None)) (IsAhead (Some (m ∷ ms))) (λ t on h. join_first m ms t h) l here,
    );
    fewer =
        let c = cost_passed (2 ^ 64) (2 * n - length outer) m ms in
        let e : 2 * n - length outer - 1 ≡ 2 * n - suc (length outer) = omega arith in
        let c' : cost_of (2 ^ 64) (2 * n - length outer) (Some (m ∷ ms))
        ≡ (1 + cost_of_all (2 ^ 64) (2 * n - suc (length outer))) + cost_of (2 ^ 64) (2 * n - length outer)
        (Some ms) = c ∙ ap (λ z. (1 + cost_of_all (2 ^ 64) z) + cost_of (2 ^ 64) (2 * n - length outer) (Some ms))
        e in
        rw is (omega (arith, c'));
  }

  pub step_given : f.ahead ≡ None → f.attacks ≡ false → IsListOf (Precedes g f.position) (Legal g f.position) []
      → IsGiven g (standing p n line (f ∷ outer)) (standing p n line (with_ahead f [] ∷ outer))
  step_given none defends all =
      let on : GoesOn g f.attacks f.position f.left [] = subst (λ z. GoesOn g z f.position f.left []) (sym defends)
      (λ r legal. (all.exactly r).1 legal) in
      record {
        position = refl;
        moves = refl;
        line = leads_line g p n outer line f.attacks f.position f.left levels.0 [] on;
        here = remains_here g p n outer line f.attacks f.position f.left levels.0 [] (IsAhead f.ahead)
            (subst (λ z. IsAhead z []) (sym none) tt);
        either = λ l here r. remains_or g p n outer line f.attacks f.position f.left levels.0 [] (IsAhead f.ahead)
            (IsAhead (Some [])) (λ t goes h. inl (ended t (subst (λ z. GoesOn g z f.position f.left t) defends goes))) l
            here r;
        later = λ l here r. (
          last_as (IsAhead (Some [])) (IsAhead f.ahead) (λ t goes h. absurd (begins_none t h)) l here r,
          remains_later g p n outer line f.attacks f.position f.left levels.0 [] (IsAhead (Some []))
              (λ t h. absurd (begins_none t h)) l r,
        );
      } where
        ended : (t : List Move) → GoesOn g false f.position f.left t → t ≡ []
        ended [] h = refl
        ended (r ∷ t) h = absurd ((all.exactly r).1 h.0)

step_back_to : (g : Geometry) (p : Placement) (n : ℕ) (line : List Move) (f : Level) (outer : List Level)
    → AreLevels g p n (f ∷ outer) line → f.ahead ≡ Some [] → (l : List Move) → Line g p n l
    → IsStillAhead (f ∷ outer) line l ↔ IsStillAhead (drop 1 (f ∷ outer)) (drop 1 line) l
step_back_to g p n [] f [] levels is l here = rw is ((λ h. begins_none l h), (λ h. absurd h))
step_back_to g p n (m ∷ line) f [] levels is l here = absurd levels.0
step_back_to g p n [] f (e ∷ outer) levels is l here = absurd levels.0
step_back_to g p n (m ∷ line) f (e ∷ outer) levels is l here = rw is (
  remains_as g p n outer line e.attacks e.position e.left levels.0.0 (IsBehind e.ahead m (IsAhead (Some [])))
      (IsAhead e.ahead) (λ t on h. elim h [ inl a ↦ a | inr s ↦ absurd (begins_none s.0 s.2) ]) l here,
  remains_as g p n outer line e.attacks e.position e.left levels.0.0 (IsAhead e.ahead)
      (IsBehind e.ahead m (IsAhead (Some []))) (λ t on h. inl h) l here,
)

pub step_back : (g : Geometry) (p : Placement) (n : ℕ) (line : List Move) (f : Level) (outer : List Level)
    → AreLevels g p n (f ∷ outer) line → f.ahead ≡ Some []
    → IsStep g (standing p n line (f ∷ outer)) (standing p n (drop 1 line) (drop 1 (f ∷ outer)))
step_back g p n line f outer levels is = record {
  position = refl;
  moves = refl;
  same = λ l here. step_back_to g p n line f outer levels is l here;
  fewer = rw is (omega arith);
}

-- ONE STEP AFTER ANOTHER

-- the same lines are still ahead
pub record SameLines (g : Geometry) (old new : LineStack) : Type 0 where
  pub position : new.position ≡ old.position
  pub moves : new.moves ≡ old.moves
  pub same : (l : List Move) → Line g old.position old.moves l → IsStillAhead old.levels old.line l
      ↔ IsStillAhead new.levels new.line l

pub same_none : (g : Geometry) (s : LineStack) → SameLines g s s
same_none g s = record { position = refl; moves = refl; same = λ l here. ((λ h. h), (λ h. h)) }

pub line_at : (g : Geometry) (old new : LineStack) → new.position ≡ old.position → new.moves ≡ old.moves
    → (l : List Move) → Line g old.position old.moves l → Line g new.position new.moves l
line_at g old new e f l h = subst (λ z. Line g new.position z l) (sym f) (subst (λ z. Line g z old.moves l) (sym e) h)

pub same_then : (g : Geometry) (a b c : LineStack) → SameLines g a b → IsStep g b c → SameLines g a c
same_then g a b c h s = record {
  position = s.position ∙ h.position;
  moves = s.moves ∙ h.moves;
  same = λ l here.
      let there = line_at g a b h.position h.moves l here in
      ((λ k. (s.same l there).0 ((h.same l here).0 k)), (λ k. (h.same l here).1 ((s.same l there).1 k)));
}

-- the lines still to come of one are those of the other
same_listed : (g : Geometry) (a b : LineStack) → SameLines g a b → (lines : List (List Move)) → AreToCome g a lines
    → AreToCome g b lines
same_listed g a b h lines all =
    let moved = subst (λ z. IsListOf (Before g z) (λ l. Line g a.position a.moves l × IsStillAhead a.levels a.line l)
    lines) (sym h.position) all in
    record {
      ascending = moved.ascending;
      exactly = λ l. (
        (λ m. let k = (all.exactly l).0 m in (line_at g a b h.position h.moves l k.0, (h.same l k.0).0 k.1)),
        (λ k. let here = line_at g b a (sym h.position) (sym h.moves) l k.0 in (all.exactly l).1
            (here, (h.same l here).1 k.1)),
      );
    }

same_back : (g : Geometry) (a b : LineStack) → SameLines g a b → SameLines g b a
same_back g a b h = record {
  position = sym h.position;
  moves = sym h.moves;
  same = λ l here.
      let there = line_at g b a (sym h.position) (sym h.moves) l here in
      ((λ k. (h.same l there).1 k), (λ k. (h.same l there).0 k));
}

pub same_to_come : (g : Geometry) (a b : LineStack) → SameLines g a b → SameToCome g a b
same_to_come g a b h = record {
  position = h.position;
  moves = h.moves;
  first = λ lines all. (lines, refl);
  rest = λ rest. ((λ all. same_listed g a b h rest all), (λ all. same_listed g b a (same_back g a b h) rest all));
}

-- what holds whatever the answer is holds after a stop
pub if_stopped : {T E : Type 0} (r : Result T E) (P : Type 0) → P → OnErr r P
if_stopped (Ok x) P h = tt
if_stopped (Err e) P h = h

pub gives_none : (g : Geometry) (a b c : LineStack) → SameLines g a b → b.levels ≡ [] → c ≡ b → GivesNone g a c
gives_none g a b c h none is = record {
  same = subst (SameToCome g a) (sym is) (same_to_come g a b h);
  none = none_listed (Before g a.position) (λ l. Line g a.position a.moves l × IsStillAhead a.levels a.line l)
      (λ l k. subst (λ z. IsStillAhead z b.line l) none ((h.same l k.0).0 k.1));
}

given_first : MovesHaveKeys → (g : Geometry) (b c : LineStack) → IsGiven g b c → (lines : List (List Move))
    → AreToCome g b lines → (rest : List (List Move)) × (lines ≡ reverse c.line ∷ rest) × AreToCome g c rest
given_first keys g b c s lines all =
    let line = reverse c.line in
    let first = first_listed (Before g b.position) (λ l. Line g b.position b.moves l × IsStillAhead b.levels b.line l)
    (λ l. Line g b.position b.moves l × IsStillAhead c.levels c.line l)
    (before_asym keys g b.position) line lines (s.line, s.here) (λ l h. (h.0, (s.later l h.0 h.1).0))
    (λ l h. elim (s.either l h.0 h.1) [ inl e ↦ inl e | inr k ↦ inr (h.0, k) ])
    (λ l h. (s.later l h.0 h.1).1) all in
    let moved = subst (λ z. IsListOf (Before g z) (λ l. Line g b.position b.moves l × IsStillAhead c.levels c.line l)
    first.0) (sym s.position) first.2 in (
      first.0,
      first.1,
      record {
        ascending = moved.ascending;
        exactly = λ l. (
          (λ m. let k = (moved.exactly l).0 m in (line_at g b c s.position s.moves l k.0, k.1)),
          (λ k. (moved.exactly l).1 (line_at g c b (sym s.position) (sym s.moves) l k.0, k.1)),
        );
      },
    )

-- and back: what is still to come after the line that was given came after it before
given_back : MovesHaveKeys → (g : Geometry) (b c : LineStack) → IsGiven g b c → (rest : List (List Move))
    → AreToCome g c rest → AreToCome g b (reverse c.line ∷ rest)
given_back keys g b c s rest all = record {
  ascending = (
    (λ l m. let k = (all.exactly l).0 m in (s.later l (line_at g c b (sym s.position) (sym s.moves) l k.0) k.1).1),
    subst (λ z. IsAscending (Before g z) rest) s.position all.ascending,
  );
  exactly = λ l. (
    (λ m. elim m [
      | inl e ↦ subst (λ z. Line g b.position b.moves z × IsStillAhead b.levels b.line z) (sym e) (s.line, s.here)
      | inr n ↦ let k = (all.exactly l).0 n in let here = line_at g c b (sym s.position) (sym s.moves) l k.0 in
          (here, (s.later l here k.1).0)
    ]),
    (λ h. elim (s.either l h.0 h.1) [
      | inl e ↦ inl e
      | inr k ↦ inr ((all.exactly l).1 (line_at g b c s.position s.moves l h.0, k))
    ]),
  );
}

pub gives_first : MovesHaveKeys → (g : Geometry) (a b c : LineStack) → SameLines g a b → IsGiven g b c → GivesFirst g a
    c
gives_first keys g a b c h s = record {
  position = s.position ∙ h.position;
  moves = s.moves ∙ h.moves;
  first = λ lines all. let parts = given_first keys g b c s lines (same_listed g a b h lines all) in (parts.0, parts.1);
  rest = λ rest. (
    (λ all.
        let parts = given_first keys g b c s (reverse c.line ∷ rest) (same_listed g a b h (reverse c.line ∷ rest)
        all) in
        subst (AreToCome g c) (tails (reverse c.line) rest parts.0 parts.1) parts.2),
    (λ all. same_listed g b a (same_back g a b h) (reverse c.line ∷ rest) (given_back keys g b c s rest all)),
  );
} where
  tails : (l : List Move) (xs ys : List (List Move)) → l ∷ xs ≡ l ∷ ys → ys ≡ xs
  tails l xs ys e = cc

-- WHAT ONE WALK GAVE, AND THEN ANOTHER

pub gives_nothing : (g : Geometry) (s : LineStack) → SameToCome g s s
gives_nothing g s = same_to_come g s s (same_none g s)

pub gives_then : (g : Geometry) (a b c : LineStack) (xs ys : List (List Move)) → Gives g a b xs → Gives g b c ys
    → Gives g a c (xs ++ ys)
gives_then g a b c xs ys h k = record {
  position = k.position ∙ h.position;
  moves = k.moves ∙ h.moves;
  first = λ lines all.
      let left = h.first lines all in
      let more = k.first left.0 ((h.rest left.0).0 (subst (AreToCome g a) left.1 all)) in
      (more.0, left.1 ∙ ap (λ z. xs ++ z) more.1 ∙ sym (append_assoc xs ys more.0));
  rest = λ rest. (
    (λ all. (k.rest rest).0 ((h.rest (ys ++ rest)).0 (subst (AreToCome g a) (append_assoc xs ys rest) all))),
    (λ all. subst (AreToCome g a) (sym (append_assoc xs ys rest)) ((h.rest (ys ++ rest)).1 ((k.rest rest).1 all))),
  );
}

pub gives_same : (g : Geometry) (a b c : LineStack) (xs : List (List Move)) → Gives g a b xs → SameToCome g b c
    → Gives g a c xs
gives_same g a b c xs h k = subst (Gives g a c) (append-nil xs) (gives_then g a b c xs [] h k)

-- after the end nothing is given
pub none_stays : (g : Geometry) (a b : LineStack) → AreToCome g a [] → SameToCome g a b → AreToCome g b []
none_stays g a b none h = (h.rest []).0 none

pub none_first : (g : Geometry) (a b : LineStack) → AreToCome g a [] → GivesFirst g a b → ⊥
none_first g a b none h = let first = h.first [] none in let e = first.1 in cc

-- STEPS OF THE STACK ITSELF

module _ (g : Geometry) (s : LineStack) (levels : AreLevels g s.position s.moves s.levels s.line) (fits : length
    s.levels ≤ 2 * s.moves) where
  -- a fact of a stack with these levels
  opened : (f : Level) (outer : List Level) → s.levels ≡ f ∷ outer → AreLevels g s.position s.moves (f ∷ outer) s.line
      × (length outer + 1 ≤ 2 * s.moves)
  opened f outer e = (subst (λ z. AreLevels g s.position s.moves z s.line) e levels, omega (arith, fits, ap length e))

  as_step : (f : Level) (outer : List Level) (new : LineStack) → s.levels ≡ f ∷ outer
      → IsStep g (standing s.position s.moves s.line (f ∷ outer)) new → IsStep g s new
  as_step f outer new e h = subst (λ z. IsStep g (standing s.position s.moves s.line z) new) (sym e) h

  pub walk_listed : (new : LineStack) (end : Bool) → IsListed g s new end → (q : Level) (others : List Level)
      → s.levels ≡ q ∷ others → q.ahead ≡ None → end ≡ false → IsStep g s new
  walk_listed new end h q others is none no_end =
      let same = heads q h.last others h.outer (sym is ∙ h.are) in
      let ahead : h.last.ahead ≡ None = subst (λ (z : Level). z.ahead ≡ None) same none in
      let facts = opened h.last h.outer h.are in
      let new_is : new ≡ standing s.position s.moves s.line (with_ahead h.last h.listing.moves ∷ h.outer) = h.is
      ∙ ap (λ z. standing s.position s.moves s.line (z ∷ h.outer)) h.listing.is in
      subst (IsStep g s) (sym new_is) (as_step h.last h.outer _ h.are (step_listed g s.position s.moves s.line h.last
      h.outer facts.0 facts.1 h.listing.moves ahead h.listing.all h.listing.few
      (λ a b. let t = h.end.1 (a, b) in true≢false (sym t ∙ no_end)))) where
        heads : (x y : Level) (xs ys : List Level) → x ∷ xs ≡ y ∷ ys → x ≡ y
        heads x y xs ys e = cc

  pub walk_given : (new : LineStack) (end : Bool) → IsListed g s new end → (q : Level) (others : List Level)
      → s.levels ≡ q ∷ others → q.ahead ≡ None → end ≡ true → IsGiven g s new
  walk_given new end h q others is none ends_here =
      let same = heads q h.last others h.outer (sym is ∙ h.are) in
      let ahead : h.last.ahead ≡ None = subst (λ (z : Level). z.ahead ≡ None) same none in
      let facts = opened h.last h.outer h.are in
      let ends = h.end.0 ends_here in
      let new_is : new ≡ standing s.position s.moves s.line (with_ahead h.last [] ∷ h.outer) =
      h.is ∙ ap (λ z. standing s.position s.moves s.line (z ∷ h.outer)) h.listing.is
      ∙ ap (λ z. standing s.position s.moves s.line (with_ahead h.last z ∷ h.outer)) ends.1 in
      let all = subst (IsListOf (Precedes g h.last.position) (Legal g h.last.position)) ends.1 h.listing.all in
      subst (IsGiven g s) (sym new_is)
      (subst (λ z. IsGiven g (standing s.position s.moves s.line z) (standing s.position s.moves s.line
      (with_ahead h.last [] ∷ h.outer))) (sym h.are)
      (step_given g s.position s.moves s.line h.last h.outer facts.0 facts.1 ahead ends.0 all)) where
        heads : (x y : Level) (xs ys : List Level) → x ∷ xs ≡ y ∷ ys → x ≡ y
        heads x y xs ys e = cc

  pub walk_back : (new : LineStack) (q : Level) (others : List Level) → s.levels ≡ q ∷ others → q.ahead ≡ Some []
      → new ≡ record s { line = drop 1 s.line; levels = drop 1 s.levels } → IsStep g s new
  walk_back new q others e ahead is =
      let facts = opened q others e in
      let new_is : new ≡ standing s.position s.moves (drop 1 s.line) (drop 1 (q ∷ others)) = is
      ∙ ap (λ z. standing s.position s.moves (drop 1 s.line) (drop 1 z)) e in
      subst (IsStep g s) (sym new_is) (as_step q others _ e (step_back g s.position s.moves s.line q others facts.0
      ahead))

  pub walk_passed : {B : Type 0} (new : LineStack) (t : Candidate B) → IsCandidate g s.levels t
      → (Keeps g t.attacks t.after t.left → ⊥) → new ≡ record s { levels = passed_last s.levels } → IsStep g s new
  walk_passed new t h none is =
      let facts = opened h.last h.outer h.are in
      let ms = first_is h.last.ahead t.mv h.first in
      let new_is : new ≡ standing s.position s.moves s.line (passed h.last ∷ h.outer) = is
      ∙ ap (λ z. standing s.position s.moves s.line (passed_last z)) h.are in
      let none' : Keeps g h.last.attacks (play g h.last.position t.mv) (left_after h.last.attacks h.last.left) → ⊥ =
      λ k. none (subst (λ z. Keeps g t.attacks t.after z) (sym h.left)
      (subst (λ z. Keeps g t.attacks z (left_after h.last.attacks h.last.left)) (sym h.after)
      (subst (λ z. Keeps g z (play g h.last.position t.mv) (left_after h.last.attacks h.last.left)) (sym h.attacks)
      k))) in
      subst (IsStep g s) (sym new_is) (as_step h.last h.outer _ h.are (step_passed g s.position s.moves s.line h.last
      h.outer facts.0 facts.1 t.mv ms.0 ms.1 none'))

  pub walk_entered : {B : Type 0} (new : LineStack) (t : Candidate B) → IsCandidate g s.levels t
      → new ≡ record s { line = t.mv ∷ s.line; levels = begun t.after (not t.attacks) t.left ∷ passed_last s.levels }
      → IsStep g s new
  walk_entered new t h is =
      let facts = opened h.last h.outer h.are in
      let ms = first_is h.last.ahead t.mv h.first in
      let new_is : new ≡ standing s.position s.moves (t.mv ∷ s.line) (begun t.after (not t.attacks) t.left
      ∷ passed h.last ∷ h.outer) = is
      ∙ ap (λ z. standing s.position s.moves (t.mv ∷ s.line) (begun t.after (not t.attacks) t.left ∷ passed_last z))
      h.are in
      subst (IsStep g s) (sym new_is) (as_step h.last h.outer _ h.are (step_entered g s.position s.moves s.line h.last
      h.outer facts.0 facts.1 t.mv ms.0 t.after (not t.attacks) t.left ms.1))

  -- a candidate leaves no more moves than there are
  pub candidate_few : {B : Type 0} (t : Candidate B) → IsCandidate g s.levels t → t.left ≤ s.moves
  candidate_few t h =
      let facts = opened h.last h.outer h.are in
      let count = leads_count g s.position s.moves h.outer s.line h.last.attacks h.last.position h.last.left
      facts.0.0 in
      let less = left_within h.last.attacks h.last.left t.left h.left in
      omega (arith, count, less)

-- what is met where the moves of a level were listed
pub walk_met : (g : Geometry) (old new : LineStack) (end : Bool) (met : Step) → met ≡ (if end then Given else On)
    → (end ≡ true → IsGiven g old new) → (end ≡ false → IsStep g old new) → HasStepped g met old new
walk_met g old new true met e given on = subst (λ z. HasStepped g z old new) (sym e) (given refl)
walk_met g old new false met e given on = subst (λ z. HasStepped g z old new) (sym e) (on refl)
