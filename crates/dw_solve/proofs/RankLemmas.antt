-- Lists of ranked moves.
use Rattle.std.proofs.Common.{◌≡◌, ℕ, ◌+◌, ◌≤◌, ◌<◌, zero, suc, List, [], ◌∷◌, ◌++◌, length, take, get_or, refl, sym}
use Rattle.std.proofs.Common.{ap, ◌∙◌, subst, ◌⊎◌, ◌↔◌, false, inl, inr, arith}
use Rattle.std.specs.Prelude.{Contains}
use Rattle.std.specs.List.Sorted.{IsPermutation}
use Rattle.std.specs.List.{IsDistinct, AllByRecursion}
use Rattle.std.proofs.lemmas.Bool.{true≢false, cases_Bool}
use Rattle.std.proofs.lemmas.List.{map-append, take_all}
use Rattle.std.proofs.lemmas.List.Sorted.{Contains-permutation, IsPermutation-sym, IsPermutation-map}
use Rattle.std.proofs.lemmas.Map.Keys.{IsDistinct-IsPermutation}
use Rattle.std.proofs.Math.Seq.{take-suc}
use Rattle.std.proofs.Common.{add-one}
use Rattle.dw_board.specs.Geometry.{Geometry}
use Rattle.dw_board.specs.Placement.{Placement}
use Rattle.dw_moves.specs.Moves.{Move, Legal, play}
use Rattle.dw_moves.specs.inner.MemberLemmas.{mem_map, mem_map_back}
use Rattle.dw_moves.specs.inner.MoveLemmas.{same_moves, same_moves-is}
use Rattle.dw_board.specs.Lists.{Member, NoRepeat}
use Rattle.dw_solve.specs.Wins.{Win, Lost}
use Rattle.dw_solve.specs.Ranking.{AreRanked, moves_of}

pub get_same : {X : Type 0} (xs : List X) (i : ℕ) (a b : X) → i < length xs → get_or xs i a ≡ get_or xs i b
get_same [] i a b low = absurd (omega arith)
get_same (x ∷ xs) zero a b low = refl
get_same (x ∷ xs) (suc i) a b low = get_same xs i a b (omega arith)

pub member_at : {X : Type 0} (xs : List X) (i : ℕ) (x : X) → i < length xs → x ≡ get_or xs i x → Member x xs
member_at [] i x low e = absurd (omega arith)
member_at (y ∷ xs) zero x low e = inl e
member_at (y ∷ xs) (suc i) x low e = inr (member_at xs i x (omega arith) e)

pub index_of : {X : Type 0} (x : X) (xs : List X) → Member x xs → (k : ℕ) × (k < length xs) × (x ≡ get_or xs k x)
index_of x [] m = absurd m
index_of x (y ∷ xs) (inl e) = (0, omega arith, e)
index_of x (y ∷ xs) (inr m) = let r = index_of x xs m in (suc r.0, omega (arith, r.1), r.2)

-- ---- lists of ranked moves
-- the legal moves are those that stand there with some rank
ranked_members : (g : Geometry) (p : Placement) (ranked : List (ℕ × Move)) → AreRanked g p ranked → (m : Move)
    → Legal g p m ↔ ((rank : ℕ) × Contains ranked (rank, m))
ranked_members g p ranked all m = (
  (λ l.
      let f = mem_map_back (λ (r : ℕ × Move). r.1) m ranked ((all.exactly m).1 l) in
      let k = index_of f.0 ranked f.1 in
      (f.0.0, subst (λ z. Contains ranked (f.0.0, z)) (sym f.2) (k.0, k.1, sym k.2))),
  (λ c. (all.exactly m).0 (mem_map (λ (r : ℕ × Move). r.1) (c.0, m) ranked (member_at ranked c.1.0 (c.0, m) c.1.1
      (sym c.1.2)))),
)

-- one more move, with its rank
pub ranked_more : (moves : List Move) (ranked : List (ℕ × Move)) (i rank : ℕ) (m : Move) → moves_of ranked ≡ take i
    moves → i < length moves → m ≡ get_or moves i m → moves_of (ranked ++ (rank, m) ∷ []) ≡ take (i + 1) moves
ranked_more moves ranked i rank m h low is =
    let next = take-suc moves i m low in
    map-append (λ (r : ℕ × Move). r.1) ranked ((rank, m) ∷ [])
    ∙ (ap (λ z. z ++ m ∷ []) h ∙ (ap (λ z. take i moves ++ z ∷ []) is
    ∙ (sym next ∙ ap (λ n. take n moves) (sym (add-one i)))))

pub ranked_all : (moves : List Move) (ranked : List (ℕ × Move)) (i : ℕ) → moves_of ranked ≡ take i moves
    → length moves ≤ i → moves_of ranked ≡ moves
ranked_all moves ranked i h end = h ∙ take_all i moves end

-- each move of the list has a rank
pub rank_of : (ranked : List (ℕ × Move)) (m : Move) → Member m (moves_of ranked) → (rank : ℕ) × Member (rank, m) ranked
rank_of ranked m there =
    let f = mem_map_back (λ (r : ℕ × Move). r.1) m ranked there in
    (f.0.0, subst (λ z. Member (f.0.0, z) ranked) (sym f.2) f.1)

pub move_of : (ranked : List (ℕ × Move)) (r : ℕ × Move) → Member r ranked → Member r.1 (moves_of ranked)
move_of ranked r there = mem_map (λ (z : ℕ × Move). z.1) r ranked there

-- ---- another order
same_flip : (a b : Move) → same_moves a b ≡ same_moves b a
same_flip a b = elim (cases_Bool (same_moves b a)) [
  | inl e ↦ (same_moves-is a b).1 (sym ((same_moves-is b a).0 e)) ∙ sym e
  | inr e ↦ elim (cases_Bool (same_moves a b)) [
    | inl f ↦ absurd (true≢false (sym ((same_moves-is b a).1 (sym ((same_moves-is a b).0 f))) ∙ e))
    | inr f ↦ f ∙ sym e
  ]
]

none_same : (m : Move) (ms : List Move) → (Member m ms → ⊥) → AllByRecursion (λ n. same_moves m n ≡ false) ms
none_same m [] not_there = tt
none_same m (n ∷ ms) not_there = (
  elim (cases_Bool (same_moves m n)) [ inl e ↦ absurd (not_there (inl ((same_moves-is m n).0 e))) | inr e ↦ e ],
  none_same m ms (λ there. not_there (inr there)),
)

not_there : (m : Move) (ms : List Move) → AllByRecursion (λ n. same_moves m n ≡ false) ms → Member m ms → ⊥
not_there m [] none there = there
not_there m (n ∷ ms) none (inl e) = true≢false (sym ((same_moves-is m n).1 e) ∙ none.0)
not_there m (n ∷ ms) none (inr there) = not_there m ms none.1 there

distinct : (ms : List Move) → NoRepeat ms → IsDistinct same_moves ms
unfolding IsDistinct
distinct [] once = tt
distinct (m ∷ ms) once = (none_same m ms once.0, distinct ms once.1)

no_repeat : (ms : List Move) → IsDistinct same_moves ms → NoRepeat ms
unfolding IsDistinct
no_repeat [] d = tt
no_repeat (m ∷ ms) d = (not_there m ms d.0, no_repeat ms d.1)

pub still_there : {X : Type 0} (xs ys : List X) → IsPermutation xs ys → (x : X) → Member x xs → Member x ys
still_there xs ys moved x m =
    let k = index_of x xs m in
    let c = Contains-permutation xs ys x moved (k.0, k.1, sym k.2) in
    member_at ys c.0 x c.1 (sym c.2)

-- they may stand in any order
pub ranked_anyhow : (g : Geometry) (p : Placement) (ranked sorted : List (ℕ × Move)) → AreRanked g p ranked
    → IsPermutation ranked sorted → AreRanked g p sorted
ranked_anyhow g p ranked sorted all moved =
    let there = IsPermutation-map (λ (r : ℕ × Move). r.1) ranked sorted moved in
    record {
      exactly = λ m. (
        (λ k. (all.exactly m).0 (still_there (moves_of sorted) (moves_of ranked)
            (IsPermutation-sym (moves_of ranked) (moves_of sorted) there) m k)),
        (λ l. still_there (moves_of ranked) (moves_of sorted) there m ((all.exactly m).1 l)),
      );
      once = no_repeat (moves_of sorted) (IsDistinct-IsPermutation same_moves same_flip (moves_of ranked) (moves_of
          sorted) there (distinct (moves_of ranked) all.once));
    }

-- what stands at an index is a legal move
pub ranked_legal : (g : Geometry) (p : Placement) (ranked : List (ℕ × Move)) (i : ℕ) (x : ℕ × Move)
    → AreRanked g p ranked → i < length ranked → x ≡ get_or ranked i x → Legal g p x.1
ranked_legal g p ranked i x all low is = (ranked_members g p ranked all x.1).1 (x.0, (i, low, sym is))

pub split : (k i : ℕ) → k < i + 1 → (k ≡ i) ⊎ (k < i)
split k i low = grind arith

-- so it is of each move at an index below i
abbrev pub Below : (Move → Type 0) → List (ℕ × Move) → ℕ → Type 0
Below P ranked i = (k : ℕ) (x : ℕ × Move) → k < i → x ≡ get_or ranked k x → P x.1

pub below_none : (P : Move → Type 0) (ranked : List (ℕ × Move)) → Below P ranked 0
below_none P ranked k x low e = absurd (omega (arith, low))

pub below_more : (P : Move → Type 0) (ranked : List (ℕ × Move)) (i : ℕ) (x : ℕ × Move) → Below P ranked i
    → i < length ranked → x ≡ get_or ranked i x → P x.1 → Below P ranked (i + 1)
below_more P ranked i x h low is here k y under e = elim (split k i under) [
  | inl q ↦
      let at_i : y ≡ get_or ranked i y = subst (λ z. y ≡ get_or ranked z y) q e in
      let same : x ≡ y = is ∙ (get_same ranked i x y low ∙ sym at_i) in
      subst (λ (z : ℕ × Move). P z.1) same here
  | inr less ↦ h k y less e
]

-- and so of each legal move
pub below_all : (g : Geometry) (p : Placement) (P : Move → Type 0) (ranked : List (ℕ × Move)) (i : ℕ)
    → AreRanked g p ranked → length ranked ≤ i → Below P ranked i → (m : Move) → Legal g p m → P m
below_all g p P ranked i all end h m legal =
    let c = (ranked_members g p ranked all m).0 legal in
    h c.1.0 (c.0, m) (omega (arith, c.1.1, end)) (sym c.1.2)

-- no move at an index below i leaves a lost position; each leaves a win for the other side
abbrev pub NoneLost : Geometry → Placement → ℕ → List (ℕ × Move) → ℕ → Type 0
NoneLost g p n ranked i = Below (λ m. Lost g (play g p m) n → ⊥) ranked i

abbrev pub AllWon : Geometry → Placement → ℕ → List (ℕ × Move) → ℕ → Type 0
AllWon g q n ranked i = Below (λ r. Win g (play g q r) n) ranked i

pub win_by : (g : Geometry) (p : Placement) (n : ℕ) (m : Move) → Legal g p m → Lost g (play g p m) n → Win g p (n + 1)
win_by g p n m legal lost = rw add-one (m, legal, lost)

pub never_won : (g : Geometry) (p : Placement) (n : ℕ) (ranked : List (ℕ × Move)) (i : ℕ) → AreRanked g p ranked
    → length ranked ≤ i → NoneLost g p n ranked i → Win g p (n + 1) → ⊥
never_won g p n ranked i all end none w =
    let w' : Win g p (suc n) = rw add-one at w in
    below_all g p (λ m. Lost g (play g p m) n → ⊥) ranked i all end none w'.0 w'.1 w'.2
