-- The written text of a legal move names that move alone.
use Rattle.std.proofs.Common.{◌≡◌, ℕ, ◌+◌, ◌-◌, ◌*◌, ◌/◌, ◌%◌, ◌<◌, ◌≤◌, zero, suc, Bool, true, false, ◌&&◌, cond, eqb}
use Rattle.std.proofs.Common.{leb, List, [], ◌∷◌, ◌++◌, length, map, Some, None, Result, Ok, Err, refl, sym, ap, ◌∙◌}
use Rattle.std.proofs.Common.{subst, ◌⊎◌, inl, inr, arith, decimal, count_by}
use Rattle.std.specs.FinSet as set
use Rattle.std.specs.Ordering.{nat_cmp}
use Rattle.std.proofs.lemmas.Bool.{cases_Bool, cases_lt, le-leb, ltb-true, and_parts, and_from, eqb-true, eq-eqb}
use Rattle.std.proofs.lemmas.Bool.{ne_eqb, true≢false}
use Rattle.std.proofs.lemmas.Bool.Decides.{nat_tests}
use Rattle.std.proofs.lemmas.Fmt.{decimal_digit, decimal_step}
use Rattle.std.proofs.lemmas.List.Sums.{sum_by-cons}
use Rattle.dw_board.specs.Geometry.{Geometry, IsBoard, OnBoard, squares}
use Rattle.dw_board.specs.Placement.{Placement, IsPosition}
use Rattle.dw_board.specs.FenTokens.{is_digit}
use Rattle.dw_moves.specs.Moves.{Move, Quiet, Path, IsBest, IsPathOf, Legal, LegalAt, SharesEnds, last_of}
use Rattle.dw_board.specs.Lists.{Member}
use Rattle.dw_moves.specs.inner.MoveLemmas.{same_move, same_moves, same_moves-is}
use Rattle.dw_moves.specs.Order.{LexLess, Precedes, IsAscending, IsPathFor, LandsAt, Listed, AreListed}
use Rattle.dw_moves.specs.inner.MemberLemmas.{mem_map, mem_map_back}
use Rattle.dw_moves.specs.Laws.{PathTells, OneBest, MovesHaveKeys, LegalMovesTake}
use Rattle.dw_notation.specs.Text.{squares_text, has_ends, shares_ends, text_among, IsMoveText}
use Rattle.dw_notation.specs.MoveReading.{IsNumber, AreCrossed, single, more, QuietMove, Capture, by_dash, by_crosses}
use Rattle.dw_notation.specs.MoveReading.{IsAnswered, IsRead}
use Rattle.dw_notation.specs.declared.read_move.MoveFault.{MoveFault}
use Rattle.dw_notation.specs.declared.read_move.MoveFault.TheVariants.{Memory}
use Rattle.dw_notation.proofs.MoveAnswerLemmas.{one_answer}

-- ---- numbers
digit_is : (n : ℕ) → n < 10 → is_digit (48 + n) ≡ true
digit_is n h = grind (arith, nat_tests)

square_ok : (g : Geometry) (s n : ℕ) (b : Bool) → OnBoard g s → b ≡ true → n ≡ s
    → cond (b && (leb 1 n && leb n (squares g))) (Some n) None ≡ Some s
square_ok g s n b on t e =
    let low : leb 1 n ≡ true = le-leb 1 n (omega arith) in
    let high : leb n (squares g) ≡ true = le-leb n (squares g) (omega (arith, on.1)) in
    rw (t, low, high) (ap Some e)

-- the number of a square is written with one or two digits
decimal_number : (g : Geometry) → IsBoard g → (s : ℕ) → OnBoard g s → IsNumber g (decimal s) s
decimal_number g b s on = elim (cases_lt s 10) [
  | inl low ↦ subst (λ z. IsNumber g z s) (sym (decimal_digit s low)) (square_ok g s (48 + s - 48) (is_digit (48 + s))
      on (digit_is s low) (omega arith))
  | inr high ↦
      let small : s < 100 = omega (arith, on.1, b.squares_high) in
      let tens = digit_is (s / 10) (omega arith) in
      let ones = digit_is (s % 10) (omega arith) in
      let written : decimal s ≡ (48 + s / 10) ∷ (48 + s % 10) ∷ [] = decimal_step s high (omega arith)
      ∙ ap (λ d. d ++ ((48 + s % 10) ∷ [])) (decimal_digit (s / 10) (omega arith)) in
      subst (λ z. IsNumber g z s) (sym written)
      (square_ok g s (10 * (48 + s / 10 - 48) + (48 + s % 10 - 48)) (is_digit (48 + s / 10) && is_digit (48 + s % 10))
      on (and_from _ _ tens ones) (omega arith))
]

abbrev AllOn : Geometry → List ℕ → Type 0
AllOn g [] = Unit {0}
AllOn g (s ∷ ss) = OnBoard g s × AllOn g ss

crossed_written : (g : Geometry) → IsBoard g → (s : ℕ) (ss : List ℕ) → OnBoard g s → AllOn g ss
    → AreCrossed g (squares_text 120 (s ∷ ss)) (s ∷ ss)
crossed_written g b s [] on all = single (decimal_number g b s on)
crossed_written g b s (t ∷ ss) on all = more (decimal s) 120 (squares_text 120 (t ∷ ss)) (decimal_number g b s on) refl
    (crossed_written g b t ss all.0 all.1)

-- ---- what the rules say of moves
pub record Rules : Type 0 where
  pub paths : PathTells
  pub best : OneBest
  pub keys : MovesHaveKeys
  pub take : LegalMovesTake

not_less : (xs : List ℕ) → LexLess xs xs → ⊥
not_less [] h = h
not_less (x ∷ xs) (inl less) = omega (arith, less)
not_less (x ∷ xs) (inr rest) = not_less xs rest.1

-- a move does not come before itself
pub not_before_itself : MovesHaveKeys → (g : Geometry) (p : Placement) (m : Move) → Precedes g p m m → ⊥
not_before_itself keys g p m h = not_less h.1 (subst (λ z. LexLess z h.1) (keys.one g p m h.0 h.1 h.2 h.3) h.4)

-- ---- squares of moves
all_on : (g : Geometry) (ts : List ℕ) → ((s : ℕ) → Member s ts → OnBoard g s) → AllOn g ts
all_on g [] h = tt
all_on g (t ∷ ts) h = (h t (inl refl), all_on g ts (λ s m. h s (inr m)))

last_on : (g : Geometry) (s : ℕ) (ts : List ℕ) → OnBoard g s → AllOn g ts → OnBoard g (last_of s ts)
last_on g s [] on all = on
last_on g s (t ∷ ts) on all = last_on g t ts all.0 all.1

path_on : Rules → (g : Geometry) → IsBoard g → (p : Placement) (m : Move) (k : ℕ) (landings : List ℕ)
    → IsPathOf g p m k landings → AllOn g landings
path_on rules g b p m k landings h = all_on g landings (rules.take.lands g b p m k landings h)

-- a path from a square belongs to one move
one_path : Rules → (g : Geometry) → IsBoard g → (p : Placement) (m n : Move) (j k : ℕ) (landings : List ℕ)
    → IsPathOf g p m j landings → IsPathOf g p n k landings → m.from ≡ n.from → m ≡ n
one_path rules g b p m n j k landings h i same =
    let overs : h.over ≡ i.over = rules.paths g b p n.from landings h.over i.over
    (subst (λ z. Path g p z landings h.over) same h.path) i.path in
    same_move m n same (sym h.ends ∙ (ap (λ z. last_of z landings) same ∙ i.ends)) (h.takes
    ∙ (ap set.from_list overs ∙ sym i.takes))

-- two captures of one piece between the same squares are one
one_short : Rules → (g : Geometry) → IsBoard g → (p : Placement) (m n : Move) (j k : ℕ) (landings others : List ℕ)
    → IsPathOf g p m j landings → IsPathOf g p n k others → m.from ≡ n.from → m.to ≡ n.to → length landings ≡ 1
    → length others ≡ 1 → m ≡ n
one_short rules g b p m n j k [] others h i from to one too = absurd (omega arith)
one_short rules g b p m n j k (t ∷ u ∷ landings) others h i from to one too = absurd (omega arith)
one_short rules g b p m n j k (t ∷ []) [] h i from to one too = absurd (omega arith)
one_short rules g b p m n j k (t ∷ []) (u ∷ v ∷ others) h i from to one too = absurd (omega arith)
one_short rules g b p m n j k (t ∷ []) (u ∷ []) h i from to one too =
    let same : t ≡ u = h.ends ∙ (to ∙ sym i.ends) in
    one_path rules g b p m n j k (t ∷ []) h (subst (λ z. IsPathOf g p n k (z ∷ [])) (sym same) i) from

-- ---- how many pass a test
abbrev one_of : {X : Type 0} → (X → Bool) → X → ℕ
one_of test x = cond (test x) 1 0

counted_some : {X : Type 0} → (test : X → Bool) (x : X) (xs : List X) → Member x xs → test x ≡ true
    → 0 < count_by test xs
counted_some test x [] m t = absurd m
counted_some test x (y ∷ xs) (inl e) t =
    let sum = sum_by-cons (one_of test) y xs in
    let w : one_of test y ≡ 1 = rw (sym (ap test e) ∙ t) refl in
    omega arith
counted_some test x (y ∷ xs) (inr m) t =
    let sum = sum_by-cons (one_of test) y xs in
    omega (arith, counted_some test x xs m t)

-- where one passes, all that pass are that one
only_counted : {X : Type 0} → (test : X → Bool) (x y : X) (xs : List X) → count_by test xs ≤ 1 → Member x xs
    → Member y xs → test x ≡ true → test y ≡ true → x ≡ y
only_counted test x y [] few m n t u = absurd m
only_counted test x y (z ∷ xs) few (inl e) (inl f) t u = e ∙ sym f
only_counted test x y (z ∷ xs) few (inl e) (inr n) t u =
    let sum = sum_by-cons (one_of test) z xs in
    let w : one_of test z ≡ 1 = rw (sym (ap test e) ∙ t) refl in
    absurd (omega (arith, counted_some test y xs n u))
only_counted test x y (z ∷ xs) few (inr m) (inl f) t u =
    let sum = sum_by-cons (one_of test) z xs in
    let w : one_of test z ≡ 1 = rw (sym (ap test f) ∙ u) refl in
    absurd (omega (arith, counted_some test x xs m t))
only_counted test x y (z ∷ xs) few (inr m) (inr n) t u =
    let sum = sum_by-cons (one_of test) z xs in
    only_counted test x y xs (omega arith) m n t u

some_passes : {X : Type 0} → (test : X → Bool) (xs : List X) → 0 < count_by test xs → (x : X) × Member x xs
    × (test x ≡ true)
some_passes test [] h = absurd (omega arith)
some_passes test (x ∷ xs) h = elim (cases_Bool (test x)) [
  | inl t ↦ (x, inl refl, t)
  | inr other ↦
      let sum = sum_by-cons (one_of test) x xs in
      let w : one_of test x ≡ 0 = rw other refl in
      let r = some_passes test xs (omega arith) in
      (r.0, inr r.1, r.2)
]

-- two that pass, the one before the other
record TwoPass {X Y : Type 0} (R : Y → Y → Type 0) (f : X → Y) (test : X → Bool) (xs : List X) : Type 0 where
  first : X
  second : X
  here : Member first xs
  there : Member second xs
  passes : test first ≡ true
  passes_too : test second ≡ true
  before : R (f first) (f second)

two_pass : {X Y : Type 0} → (R : Y → Y → Type 0) (f : X → Y) (test : X → Bool) (xs : List X) → IsAscending R (map f xs)
    → 1 < count_by test xs → TwoPass R f test xs
two_pass R f test [] up h = absurd (omega arith)
two_pass R f test (x ∷ xs) up h = elim (cases_Bool (test x)) [
  | inl t ↦
      let sum = sum_by-cons (one_of test) x xs in
      let w : one_of test x ≡ 1 = rw t refl in
      let r = some_passes test xs (omega arith) in
      record {
        first = x;
        second = r.0;
        here = inl refl;
        there = inr r.1;
        passes = t;
        passes_too = r.2;
        before =
            up.0 (f r.0) (mem_map f r.0 xs r.1);
      }
  | inr other ↦
      let sum = sum_by-cons (one_of test) x xs in
      let w : one_of test x ≡ 0 = rw other refl in
      let r = two_pass R f test xs up.1 (omega arith) in
      record {
        first = r.first;
        second = r.second;
        here = inr r.here;
        there = inr r.there;
        passes = r.passes;
        passes_too = r.passes_too;
        before = r.before;
      }
]

-- ---- the text of one of the legal moves
module _ (rules : Rules) (g : Geometry) (b : IsBoard g) (p : Placement) (list : List Listed) (all : AreListed g p list)
  where
    legal_here : (l : Listed) → Member l list → Legal g p l.step
    legal_here l here = (all.in_order.exactly l.step).0 (mem_map (λ l. l.step) l list here)

    ends_of : (m : Move) (l : Listed) → has_ends m l ≡ true → (l.step.from ≡ m.from) × (l.step.to ≡ m.to)
    ends_of m l h = let k = and_parts _ _ h in (eqb-true l.step.from m.from k.0, eqb-true l.step.to m.to k.1)

    -- a path of one jump is enough
    pub shared_is_long : (l : Listed) (k : ℕ) → IsBest g p (suc k) → (landings : List ℕ)
        → IsPathOf g p l.step (suc k) landings → shares_ends list l.step ≡ true → length landings ≡ 1 → ⊥
    shared_is_long l k best landings path shared one =
        let many : 1 < count_by (has_ends l.step) list = ltb-true 1 (count_by (has_ends l.step) list) shared in
        let two = two_pass (Precedes g p) (λ (z : Listed). z.step) (has_ends l.step) list all.in_order.ascending many in
        let alike : (z : Listed) → Member z list → has_ends l.step z ≡ true
        → z.step ≡ l.step = λ z m h. is_same z m (ends_of l.step z h) in
        let first = alike two.first two.here two.passes in
        let second = alike two.second two.there two.passes_too in
        let self : Precedes g p l.step l.step = subst (λ z. Precedes g p z l.step) first
        (subst (Precedes g p two.first.step) second two.before) in
        not_before_itself rules.keys g p l.step self
      where
        is_same : (z : Listed) → Member z list → (z.step.from ≡ l.step.from) × (z.step.to ≡ l.step.to) → z.step ≡ l.step
        is_same z m e = at_most (legal_here z m).0 (rules.best.only g p (legal_here z m).0 (suc k) (legal_here z m).1
            best) (legal_here z m).2 where
              at_most : (j : ℕ) → j ≡ suc k → LegalAt g p j z.step → z.step ≡ l.step
              at_most zero same at = absurd (omega arith)
              at_most (suc j) same at = one_short rules g b p z.step l.step (suc j) (suc k) at.0 landings at.1 path e.0
                  e.1
                  (omega (
                    arith,
                    rules.take.long g p z.step (suc j) at.0 at.1,
                    rules.take.long g p l.step (suc k) landings path,
                  )) one

    -- it is shared by another move
    pub shared_by_other : (l : Listed) → Member l list → 0 < set.len l.step.taken → shares_ends list l.step ≡ true
        → SharesEnds g p l.step
    shared_by_other l here takes shared =
        let many : 1 < count_by (has_ends l.step) list = ltb-true 1 (count_by (has_ends l.step) list) shared in
        let two = two_pass (Precedes g p) (λ (z : Listed). z.step) (has_ends l.step) list all.in_order.ascending many in
        elim (cases_Bool (same_moves two.first.step l.step)) [
          | inl same ↦ other_one two.second two.there two.passes_too
              (λ e. not_before_itself rules.keys g p l.step
              (subst (λ z. Precedes g p z l.step) ((same_moves-is two.first.step l.step).0 same)
              (subst (Precedes g p two.first.step) e two.before)))
          | inr differs ↦ other_one two.first two.here two.passes
              (λ e. true≢false (sym ((same_moves-is two.first.step l.step).1 e) ∙ differs))
        ]
      where
        other_one : (z : Listed) → Member z list → has_ends l.step z ≡ true → (z.step ≡ l.step → ⊥)
            → SharesEnds g p l.step
        other_one z m h differs =
            let ends = ends_of l.step z h in
            let its = legal_here z m in
            let own = legal_here l here in
            let same = rules.best.only g p its.0 own.0 its.1 own.1 in
            let count = rules.take.taken g p its.0 z.step its.1 its in
            let own_count = rules.take.taken g p own.0 l.step own.1 own in
            (z.step, its, omega (arith, takes, same, count, own_count), ends.0, ends.1, differs)

module _ (rules : Rules) (g : Geometry) (b : IsBoard g) (p : Placement) (pos : IsPosition g p.cells)
    (list : List Listed) (all : AreListed g p list) where
  ends_are : (m : Move) (l : Listed) → l.step.from ≡ m.from → l.step.to ≡ m.to → has_ends m l ≡ true
  ends_are m l from to = and_from _ _ (eq-eqb l.step.from m.from from) (eq-eqb l.step.to m.to to)

  -- nothing is taken
  quiet_written : (m : Move) → Legal g p m → Quiet g p m.from m.to → m.taken ≡ set.empty
      → IsAnswered g p (squares_text 45 (m.from ∷ m.to ∷ [])) (Ok m)
  quiet_written m legal quiet none = record {
    named = QuietMove m.from m.to;
    names = by_dash (decimal m.from) (decimal m.to) (decimal_number g b m.from quiet.stands.on_board)
        (decimal_number g b m.to (rules.take.goes g b p m.from m.to quiet));
    answers = record {
      fits = (legal, (refl, refl), none);
      alone = λ other h. same_move other m h.1.0 h.1.1 (h.2 ∙ sym none);
    };
  }

  -- the ends tell it from the other captures
  short_written : (l : Listed) → Member l list → (k : ℕ) (landings : List ℕ) → IsPathOf g p l.step k landings
      → 0 < set.len l.step.taken → shares_ends list l.step ≡ false
      → IsAnswered g p (squares_text 120 (l.step.from ∷ l.step.to ∷ [])) (Ok l.step)
  short_written l here k landings path some apart =
      let few : count_by (has_ends l.step) list ≤ 1 = grind (arith, nat_tests) in
      let on = path_on rules g b p l.step k landings path in
      let to_on : OnBoard g l.step.to = subst (OnBoard g) path.ends
      (last_on g l.step.from landings path.path.stands.on_board on) in
      record {
        named = Capture (l.step.from ∷ l.step.to ∷ []);
        names = by_crosses (crossed_written g b l.step.from (l.step.to ∷ []) path.path.stands.on_board (to_on, tt))
            (omega arith) (omega arith);
        answers = record {
          fits = (legal_here rules g b p list all l here, (refl, refl), some);
          alone = λ other h.
              let found = mem_map_back (λ l. l.step) other list ((all.in_order.exactly other).1 h.0) in
              let same : l ≡ found.0 = only_counted (has_ends l.step) l found.0 list few here found.1
              (ends_are l.step l refl refl) (ends_are l.step found.0 (sym (ap (λ z. z.from) found.2) ∙ h.1.0)
              (sym (ap (λ z. z.to) found.2) ∙ h.1.1)) in
              found.2 ∙ ap (λ z. z.step) (sym same);
        };
      }

  path_at : (m : Move) (k : ℕ) → IsBest g p (suc k) → (landings : List ℕ) → IsPathOf g p m (suc k) landings
      → IsPathFor g p m (m.from ∷ landings)
  path_at m k best landings path = record {
    most = suc k;
    best = best;
    some = omega arith;
    landings = landings;
    leads =
        path;
    are = refl;
  }

  -- its path tells it
  path_written : (m : Move) (k : ℕ) → IsBest g p (suc k) → Legal g p m → (landings : List ℕ)
      → IsPathOf g p m (suc k) landings → (length landings ≡ 1 → ⊥)
      → IsAnswered g p (squares_text 120 (m.from ∷ landings)) (Ok m)
  path_written m k best legal [] path long = absurd (omega (arith, rules.take.long g p m (suc k) [] path))
  path_written m k best legal (t ∷ []) path long = absurd (long refl)
  path_written m k best legal (t ∷ u ∷ landings) path long =
      let few : suc k ≤ 20 = omega (
        arith,
        rules.take.few g b p m pos legal,
        rules.take.taken g p (suc k) m best legal,
      ) in
      record {
        named = Capture (m.from ∷ t ∷ u ∷ landings);
        names = by_crosses (crossed_written g b m.from (t ∷ u ∷ landings) path.path.stands.on_board
            (path_on rules g b p m (suc k) (t ∷ u ∷ landings) path)) (omega arith)
            (omega (arith, rules.take.long g p m (suc k) (t ∷ u ∷ landings) path));
        answers = record {
          fits = path_at m k best (t ∷ u ∷ landings) path;
          alone = λ other h.
              let are : m.from ∷ t ∷ u ∷ landings ≡ other.from ∷ h.landings = h.are in
              let from : other.from ≡ m.from = cc in
              let lands : h.landings ≡ t ∷ u ∷ landings = cc in
              one_path rules g b p other m h.most (suc k) (t ∷ u ∷ landings) (subst (IsPathOf g p other h.most) lands
              h.leads) path from;
        };
      }

  written_here : (l : Listed) → Member l list → IsAnswered g p (text_among list l) (Ok l.step)
  written_here l here = let h = all.paths l here in by_most h.0 h.2 h.1.leads.0 h.1.leads.1 h.1.leads.2 where
    by_most : (landings : List ℕ) → l.path ≡ l.step.from ∷ landings → (k : ℕ) → IsBest g p k
        → LandsAt g p l.step k landings → IsAnswered g p (text_among list l) (Ok l.step)
    by_most landings is zero best lands =
        let none : eqb (set.len l.step.taken) 0 ≡ true = eq-eqb (set.len l.step.taken) 0 (ap set.len lands.1
        ∙ set.len-empty nat_cmp) in
        let text : text_among list l ≡ squares_text 45 (l.step.from ∷ l.step.to ∷ []) = rw none refl in
        subst (λ z. IsAnswered g p z (Ok l.step)) (sym text)
        (quiet_written l.step (legal_here rules g b p list all l here) lands.0 lands.1)
    by_most landings is (suc k) best lands =
        let count : set.len l.step.taken ≡ suc k = rules.take.taken g p (suc k) l.step best
        (legal_here rules g b p list all l here) in
        let some : eqb (set.len l.step.taken) 0 ≡ false = ne_eqb (set.len l.step.taken) 0 (λ e. omega arith) in
        elim (cases_Bool (shares_ends list l.step)) [
          | inl shared ↦
              let text : text_among list l ≡ squares_text 120 l.path = rw (some, shared) refl in
              subst (λ z. IsAnswered g p z (Ok l.step)) (sym (text ∙ ap (squares_text 120) is))
              (path_written l.step k best (legal_here rules g b p list all l here) landings lands
              (shared_is_long rules g b p list all l k best landings lands shared))
          | inr apart ↦
              let text : text_among list l ≡ squares_text 120 (l.step.from ∷ l.step.to ∷ []) = rw (some, apart) refl in
              subst (λ z. IsAnswered g p z (Ok l.step)) (sym text) (short_written l here (suc k) landings lands
              (omega arith) apart)
        ]

-- the written text is read as its move
pub written_named : Rules → (g : Geometry) → IsBoard g → (p : Placement) → IsPosition g p.cells
    → (m : Move) (text : List ℕ) → IsMoveText g p m text → IsRead g p text (Ok m)
written_named rules g b p pos m text w =
    subst (λ z. IsAnswered g p text (Ok z)) w.same (subst (λ z. IsAnswered g p z (Ok w.item.step)) (sym w.is)
    (written_here rules g b p pos w.list w.all w.item w.here))

pub written_read : Rules → (g : Geometry) → IsBoard g → (p : Placement) → IsPosition g p.cells
    → (m : Move) (text : List ℕ) (answer : Result Move MoveFault) → IsMoveText g p m text → IsRead g p text answer
    → (answer ≡ Ok m) ⊎ (answer ≡ Err Memory)
written_read rules g b p pos m text answer w h =
    elim (one_answer g p text answer (Ok m) h (written_named rules g b p pos m text w)) [
      | inl same ↦ inl same
      | inr (inl memory) ↦ inr memory
      | inr (inr other) ↦ absurd (is_no_fault other)
    ] where
      is_no_fault : Ok m ≡ Err Memory → ⊥
      is_no_fault e = cc
