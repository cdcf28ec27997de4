-- Listed moves put in ascending order.
use Rattle.std.proofs.Common.{◌≡◌, ℕ, ◌<◌, zero, suc, List, [], ◌∷◌, length, map, refl, sym, ap, ◌∙◌, subst, inl, inr}
use Rattle.std.proofs.Common.{arith, get_or, None, Bool, true, false}
use Rattle.std.specs.Prelude.{◌↔◌}
use Rattle.std.proofs.lemmas.Bool.{true≢false, cases_Bool}
use Rattle.std.proofs.lemmas.List.Sorted.{sorted_far, Contains-permutation, IsPermutation-sym}
use Rattle.std.proofs.lemmas.Map.Keys.{IsDistinct-IsPermutation, IsDistinct-from_apart, apart_from_distinct}
use Rattle.std.specs.Cmp.{IsStrictWeakOrder}
use Rattle.std.specs.List.Sorted.{IsPermutation, IsSortedBy}
use Rattle.dw_board.specs.Geometry.{Geometry, IsBoard}
use Rattle.dw_board.specs.Placement.{Placement, placed}
use Rattle.dw_moves.specs.Moves.{Move, Legal, last_of}
use Rattle.dw_board.specs.Lists.{Member, NoRepeat}
use Rattle.dw_moves.specs.inner.MoveLemmas.{same_moves, same_moves-is}
use Rattle.dw_moves.specs.Order.{LexLess, LandsAt, front, IsKey, Precedes, IsAscending, Listed, HasLeastPath, AreListed}
use Rattle.dw_moves.specs.inner.Walks.{sorted_by, steps_of, HasAll}
use Rattle.dw_moves.proofs.AscendingLemmas.{ByKey}
use Rattle.dw_moves.proofs.LegalMoveLemmas.{best_only}
use Rattle.dw_moves.specs.inner.LexLemmas.{lex_asym, lex_cases, not_less}
use Rattle.dw_moves.specs.inner.MemberLemmas.{mem_map, mem_map_back}
use Rattle.dw_moves.proofs.SquareSetLemmas.{not_both}
use Rattle.dw_moves.proofs.MoveKeyLemmas.{jumps_long, keys_differ}

pub rest_less : (x y : ℕ) (xs ys : List ℕ) → x ≡ y → LexLess xs ys ↔ LexLess (x ∷ xs) (y ∷ ys)
rest_less x y xs ys same = (
  (λ l. inr (same, l)),
  (λ l. elim l [ inl less ↦ absurd (omega arith) | inr there ↦ there.1 ]),
)

-- the shape of landings: they end on the move's last square, and are as many as it takes, one where it takes nothing
abbrev shape : ℕ → ℕ
shape zero = 1
shape (suc k) = suc k

shaped : (g : Geometry) (p : Placement) (m : Move) (k : ℕ) (ts : List ℕ) → LandsAt g p m k ts
    → (last_of m.from ts ≡ m.to) × (length ts ≡ shape k)
shaped g p m zero ts h = (ap (last_of m.from) h.2, ap length h.2)
shaped g p m (suc k) ts h = (
  h.ends,
  jumps_long g (placed p m.from None) h.path.piece m.from ts h.over h.path.jumps ∙ h.count,
)

front_less : (s : ℕ) (ts us : List ℕ) → length ts ≡ length us → last_of s ts ≡ last_of s us → LexLess ts us
    → LexLess (front ts) (front us)
front_less s [] [] long ends less = absurd less
front_less s [] (u ∷ us) long ends less = absurd (omega (arith, long))
front_less s (t ∷ ts) [] long ends less = absurd (omega (arith, long))
front_less s (t ∷ []) (u ∷ []) long ends (inl less) = absurd (omega (arith, ends, less))
front_less s (t ∷ []) (u ∷ []) long ends (inr less) = absurd less.1
front_less s (t ∷ []) (u ∷ v ∷ us) long ends less = absurd (omega (arith, long))
front_less s (t ∷ v ∷ ts) (u ∷ []) long ends less = absurd (omega (arith, long))
front_less s (t ∷ v ∷ ts) (u ∷ w ∷ us) long ends (inl less) = inl less
front_less s (t ∷ v ∷ ts) (u ∷ w ∷ us) long ends (inr less) =
    inr (less.0, front_less s (v ∷ ts) (w ∷ us) (omega (arith, long)) ends less.1)

listed_key : (g : Geometry) (p : Placement) (l : Listed) (h : HasLeastPath g p l)
    → IsKey g p l.step (l.step.from ∷ l.step.to ∷ front h.0)
listed_key g p l h = (h.0, h.1, refl)

-- moves sorted by their parts stand in the order of their keys
precedes_by : (g : Geometry) (p : Placement) (l k : Listed) → HasLeastPath g p l → HasLeastPath g p k
    → ByKey sorted_by l k → Precedes g p l.step k.step
precedes_by g p l k h f less = (
  l.step.from ∷ l.step.to ∷ front h.0,
  k.step.from ∷ k.step.to ∷ front f.0,
  listed_key g p l h,
  listed_key g p k f,
  by_parts less,
) where
  by_front : l.step.from ≡ k.step.from → l.step.to ≡ k.step.to → LexLess l.path k.path → LexLess (front h.0) (front f.0)
  by_front from to less =
      let paths : LexLess (l.step.from ∷ h.0) (k.step.from ∷ f.0) = subst (λ z. LexLess z (k.step.from ∷ f.0)) h.2
      (subst (LexLess l.path) f.2 less) in
      let landings : LexLess h.0 f.0 = (rest_less l.step.from k.step.from h.0 f.0 from).1 paths in
      let one = shaped g p l.step h.1.leads.0 h.0 h.1.leads.2 in
      let two = shaped g p k.step f.1.leads.0 f.0 f.1.leads.2 in
      let same : h.1.leads.0 ≡ f.1.leads.0 = best_only g p h.1.leads.0 f.1.leads.0 h.1.leads.1 f.1.leads.1 in
      front_less l.step.from h.0 f.0 (one.1 ∙ (ap shape same ∙ sym two.1)) (one.0
      ∙ (to ∙ (sym two.0 ∙ ap (λ z. last_of z f.0) (sym from)))) landings

  by_parts : LexLess (sorted_by l) (sorted_by k)
      → LexLess (l.step.from ∷ l.step.to ∷ front h.0) (k.step.from ∷ k.step.to ∷ front f.0)
  by_parts (inl less) = inl less
  by_parts (inr rest) = elim rest.1 [
    | inl less ↦ inr (rest.0, inl less)
    | inr last ↦ inr (rest.0, inr (last.0, by_front rest.0 last.0 last.1))
  ]

-- moves with the same parts are one
same_listed : (g : Geometry) → IsBoard g → (p : Placement) (l k : Listed) → HasLeastPath g p l → HasLeastPath g p k
    → sorted_by l ≡ sorted_by k → l.step ≡ k.step
same_listed g b p l k h f e =
    let from : l.step.from ≡ k.step.from = cc in
    let to : l.step.to ≡ k.step.to = cc in
    let paths : l.step.from ∷ h.0 ≡ k.step.from ∷ f.0 = cc in
    let landings : h.0 ≡ f.0 = cc in
    let key : l.step.from ∷ l.step.to ∷ front h.0 ≡ k.step.from ∷ k.step.to ∷ front f.0 = λ i. from i ∷ to i
    ∷ front (landings i) in
    keys_differ g b p l.step k.step (k.step.from ∷ k.step.to ∷ front f.0)
    (subst (IsKey g p l.step) key (listed_key g p l h)) (listed_key g p k f)

-- a member has a place, and what stands in a place is a member
place_of : {X : Type 0} (x d : X) (xs : List X) → Member x xs → (k : ℕ) × (k < length xs) × (get_or xs k d ≡ x)
place_of x d [] m = absurd m
place_of x d (y ∷ xs) (inl e) = (0, omega arith, sym e)
place_of x d (y ∷ xs) (inr m) = let k = place_of x d xs m in (suc k.0, omega (arith, k.1), k.2)

at_place : {X : Type 0} (xs : List X) (k : ℕ) (d : X) → k < length xs → Member (get_or xs k d) xs
at_place [] k d low = absurd (omega arith)
at_place (x ∷ xs) zero d low = inl refl
at_place (x ∷ xs) (suc k) d low = inr (at_place xs k d (omega arith))

-- a permutation has the same members
permuted : {X : Type 0} (xs ys : List X) → IsPermutation xs ys → (x : X) → Member x xs → Member x ys
permuted xs ys p x m =
    let k = Contains-permutation xs ys x p (place_of x x xs m) in
    subst (λ z. Member z ys) k.2 (at_place ys k.0 x k.1)

-- a list ascends where each element comes before those at later places
by_places : {X : Type 0} (R : X → X → Type 0) (xs : List X) → ((i j : ℕ) (d : X) → i < j → j < length xs
    → R (get_or xs i d) (get_or xs j d)) → IsAscending R xs
by_places R [] h = tt
by_places R (x ∷ xs) h = (
  (λ y m. let k = place_of y x xs m in subst (R x) k.2 (h 0 (suc k.0) x (omega arith) (omega (arith, k.1)))),
  by_places R xs (λ i j d low high. h (suc i) (suc j) d (omega (arith, low)) (omega (arith, high))),
)

-- whether one list of numbers comes before another
abbrev pub lex_less : List ℕ → List ℕ → Bool
lex_less xs ys = elim (lex_cases xs ys) [ inl e ↦ false | inr (inl l) ↦ true | inr (inr g) ↦ false ]

lex_less_is : (xs ys : List ℕ) → (lex_less xs ys ≡ true) ↔ LexLess xs ys
lex_less_is xs ys = elim (lex_cases xs ys) as (λ c. (elim c [ inl e ↦ false | inr (inl l) ↦ true | inr (inr g) ↦ false ]
    ≡ true) ↔ LexLess xs ys) [
      | inl e ↦ (
        (λ f. absurd (true≢false (sym f))),
        (λ l. absurd (lex_asym xs ys l (subst (LexLess ys) (sym e) (subst (λ z. LexLess z ys) e l)))),
      )
      | inr (inl l) ↦ ((λ f. l), (λ k. refl))
      | inr (inr g) ↦ ((λ f. absurd (true≢false (sym f))), (λ l. absurd (lex_asym xs ys l g)))
    ]

-- the order of listed moves, as a test
pub comes_first : Listed → Listed → Bool
comes_first a b = lex_less (sorted_by a) (sorted_by b)

not_first : (a b : Listed) → comes_first a b ≡ false → ByKey sorted_by a b → ⊥
unfolding comes_first
not_first a b e l = true≢false (sym ((lex_less_is (sorted_by a) (sorted_by b)).1 l) ∙ e)

pub first_order : IsStrictWeakOrder comes_first
unfolding comes_first
first_order = record {
  one_way = λ a b e. not_both (comes_first b a) (λ f. lex_asym (sorted_by a) (sorted_by b)
      ((lex_less_is (sorted_by a) (sorted_by b)).0 e) ((lex_less_is (sorted_by b) (sorted_by a)).0 f));
  chain = λ a b c e f. not_both (comes_first a c) (λ g. not_less (sorted_by a) (sorted_by b) (sorted_by c)
      (not_first a b e) (not_first b c f) ((lex_less_is (sorted_by a) (sorted_by c)).0 g));
}

-- a test that says when one move comes before another is this one
pub first_is : (b : Bool) (x y : Listed) → ((b ≡ true) ↔ LexLess (sorted_by x) (sorted_by y)) → b ≡ comes_first x y
unfolding comes_first
first_is b x y h = elim (cases_Bool b) [
  | inl e ↦ e ∙ sym ((lex_less_is (sorted_by x) (sorted_by y)).1 (h.0 e))
  | inr e ↦ e ∙ sym (not_both (comes_first x y)
      (λ f. true≢false (sym (h.1 ((lex_less_is (sorted_by x) (sorted_by y)).0 f)) ∙ e)))
]

-- whether two listed moves are the same move
abbrev same_steps : Listed → Listed → Bool
same_steps a b = same_moves a.step b.step

same_steps_flip : (a b : Listed) → same_steps a b ≡ same_steps b a
same_steps_flip a b = elim (cases_Bool (same_steps b a)) [
  | inl e ↦ (same_moves-is a.step b.step).1 (sym ((same_moves-is b.step a.step).0 e)) ∙ sym e
  | inr e ↦ not_both (same_steps a b)
      (λ f. true≢false (sym ((same_moves-is b.step a.step).1 (sym ((same_moves-is a.step b.step).0 f))) ∙ e)) ∙ sym e
]

steps_apart : (list : List Listed) → NoRepeat (steps_of list) → (i j : ℕ) (d : Listed) → i < j → j < length list
    → same_steps (get_or list i d) (get_or list j d) ≡ false
steps_apart [] once i j d low high = absurd (omega arith)
steps_apart (l ∷ list) once i zero d low high = absurd (omega arith)
steps_apart (l ∷ list) once zero (suc j) d low high = not_both (same_steps l (get_or list j d)) (λ e.
    once.0 (subst (λ z. Member z (steps_of list)) (sym ((same_moves-is l.step (get_or list j d).step).0 e))
    (mem_map (λ (l : Listed). l.step) (get_or list j d) list (at_place list j d (omega (arith, high))))))
steps_apart (l ∷ list) once (suc i) (suc j) d low high = steps_apart list once.1 i j d (omega (arith, low))
    (omega (arith, high))

-- moves of which none comes before the other are the same move
apart_ordered : (g : Geometry) → IsBoard g → (p : Placement) (a b : Listed) → HasLeastPath g p a → HasLeastPath g p b
    → same_steps a b ≡ false → comes_first b a ≡ false → ByKey sorted_by a b
apart_ordered g board p a b h f apart behind = elim (lex_cases (sorted_by a) (sorted_by b)) [
  | inl e ↦ absurd (true≢false (sym ((same_moves-is a.step b.step).1 (same_listed g board p a b h f e)) ∙ apart))
  | inr (inl l) ↦ l
  | inr (inr more) ↦ absurd (not_first b a behind more)
]

steps_ascending : (g : Geometry) (p : Placement) (list : List Listed)
    → ((l : Listed) → Member l list → HasLeastPath g p l) → IsAscending (ByKey sorted_by) list
    → IsAscending (Precedes g p) (map (λ (l : Listed). l.step) list)
steps_ascending g p [] paths a = tt
steps_ascending g p (l ∷ list) paths a = (
  (λ m k. let f = mem_map_back (λ (l : Listed). l.step) m list k in subst (Precedes g p l.step) (sym f.2)
      (precedes_by g p l f.0 (paths l (inl refl)) (paths f.0 (inr f.1)) (a.0 f.0 f.1))),
  steps_ascending g p list (λ k m. paths k (inr m)) a.1,
)

-- all legal moves with their least paths, sorted
pub sorted_all : (g : Geometry) → IsBoard g → (p : Placement) (list sorted : List Listed) → HasAll g p list
    → IsPermutation list sorted → IsSortedBy comes_first sorted → AreListed g p sorted
sorted_all g b p list sorted h moved up =
    let back : (l : Listed) → Member l sorted
    → Member l list = permuted sorted list (IsPermutation-sym list sorted moved) in
    let paths : (l : Listed) → Member l sorted → HasLeastPath g p l = λ l m. h.paths l (back l m) in
    let apart = IsDistinct-IsPermutation same_steps same_steps_flip list sorted moved
    (IsDistinct-from_apart same_steps list (steps_apart list h.once)) in
    record {
      in_order = record {
        ascending = steps_ascending g p sorted paths (by_places (ByKey sorted_by) sorted (λ i j d low high.
            apart_ordered g b p (get_or sorted i d) (get_or sorted j d)
            (paths _ (at_place sorted i d (omega (arith, low, high)))) (paths _ (at_place sorted j d high))
            (apart_from_distinct same_steps sorted i j d apart low high) (sorted_far comes_first first_order sorted up i
            j d (omega (arith, low)) high)));
        exactly = λ m. (
          (λ k. let f = mem_map_back (λ (l : Listed). l.step) m sorted k in subst (Legal g p) (sym f.2)
              (h.legal f.0 (back f.0 f.1))),
          (λ legal. let f = mem_map_back (λ (l : Listed). l.step) m list (h.all m legal) in
              subst (λ z. Member z (steps_of sorted)) (sym f.2) (mem_map (λ (l : Listed). l.step) f.0 sorted
              (permuted list sorted moved f.0 f.1))),
        );
      };
      paths = paths;
    }
