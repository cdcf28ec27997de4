-- The beginnings of the lines of a tree, and a list of lines without its repeats.
use Rattle.std.proofs.Common.{◌≡◌, ◌⊎◌, ℕ, ◌<◌, List, [], ◌∷◌, ◌++◌, length, map, refl, sym, ap, subst, ◌∙◌, inl, inr}
use Rattle.std.proofs.Common.{arith, append_assoc, append-nil, Bool, true, false}
use Rattle.std.specs.List.{list_any}
use Rattle.std.specs.Prelude.{◌↔◌, ◌&&◌, ◌==◌}
use Rattle.std.specs.Bool.{Decides}
use Rattle.std.specs.FinSet as set
use Rattle.std.specs.Ordering.{nat_cmp, eq_by_cmp}
use Rattle.std.specs.Cmp.{nat_cmp_total}
use Rattle.std.proofs.lemmas.Bool.{cases_Bool}
use Rattle.std.proofs.lemmas.Bool.Decides.{Decides-eqb, Decides-and, Decides-like, not_from_Decides}
use Rattle.dw_board.specs.Lists.{Member}
use Rattle.dw_moves.specs.Moves.{Move}
use Rattle.dw_moves.specs.inner.MemberLemmas.{mem_left, mem_right, mem_cases, mem_map, mem_map_back}
use Rattle.dw_games.specs.Movetext.{AreDistinct, nothing, again, first}
use Rattle.dw_solution.specs.Laws.{IsBeginning}
use Rattle.dw_solution.specs.Tree.{Tree, over, branch, or_ended, lines_of}
use Rattle.dw_solution.proofs.TreeLemmas.{ended_some}

-- ---- beginnings
member_ended : (l : List Move) (lines : List (List Move)) → Member l lines → Member l (or_ended lines)
member_ended l [] h = absurd h
member_ended l (k ∷ lines) h = h

ended_back : (l : List Move) (lines : List (List Move)) → Member l (or_ended lines) → (l ≡ []) ⊎ Member l lines
ended_back l [] (inl e) = inl e
ended_back l [] (inr gone) = absurd gone
ended_back l (k ∷ lines) h = inr h

pub none_begins : (path : List Move) → IsBeginning (lines_of over) path → ⊥
none_begins path h = h.1.1

pub begin_first : (m : Move) (b o : Tree) → IsBeginning (lines_of (branch m b o)) (m ∷ [])
begin_first m b o =
    let some = ended_some (lines_of b) in
    let f : List Move → List Move = λ l. m ∷ l in (
      omega arith,
      (
        some.0,
        mem_left (m ∷ some.0) (map f (or_ended (lines_of b))) (lines_of o)
            (mem_map f some.0 (or_ended (lines_of b)) (subst (Member some.0) (sym some.2) (inl refl))),
      ),
    )

begin_behind : (m : Move) (b o : Tree) (k : List Move) → IsBeginning (lines_of b) k
    → IsBeginning (lines_of (branch m b o)) (m ∷ k)
begin_behind m b o k h =
    let f : List Move → List Move = λ l. m ∷ l in (
      omega arith,
      (
        h.1.0,
        mem_left (m ∷ (k ++ h.1.0)) (map f (or_ended (lines_of b))) (lines_of o)
            (mem_map f (k ++ h.1.0) (or_ended (lines_of b)) (member_ended (k ++ h.1.0) (lines_of b) h.1.1)),
      ),
    )

begin_later : (m : Move) (b o : Tree) (k : List Move) → IsBeginning (lines_of o) k
    → IsBeginning (lines_of (branch m b o)) k
begin_later m b o k h =
    let f : List Move → List Move = λ l. m ∷ l in
    (h.0, (h.1.0, mem_right (k ++ h.1.0) (map f (or_ended (lines_of b))) (lines_of o) h.1.1))

-- how a beginning of the lines of a tree goes
abbrev Begun : Move → (b o : Tree) → List Move → Type 0
Begun m b o x = (x ≡ m ∷ []) ⊎ (((k : List Move) × (x ≡ m ∷ k) × IsBeginning (lines_of b) k)
    ⊎ IsBeginning (lines_of o) x)

heads : {m n : Move} {l k : List Move} → m ∷ l ≡ n ∷ k → m ≡ n
heads e = cc

tails : {m n : Move} {l k : List Move} → m ∷ l ≡ n ∷ k → l ≡ k
tails e = cc

filled_list : {X : Type 0} {x : X} {xs : List X} → x ∷ xs ≡ [] → ⊥
filled_list e = cc

begun_behind : (m : Move) (b o : Tree) (x rest l : List Move) → 0 < length x → x ++ rest ≡ m ∷ l
    → (l ≡ []) ⊎ Member l (lines_of b) → Begun m b o x
begun_behind m b o [] rest l some e h = absurd (omega (arith, some))
begun_behind m b o (n ∷ []) rest l some e h = inl (ap (λ z. z ∷ []) (heads e))
begun_behind m b o (n ∷ j ∷ x) rest l some e (inl none) = absurd (filled_list (tails e ∙ none))
begun_behind m b o (n ∷ j ∷ x) rest l some e (inr there) =
    inr (inl (
      j ∷ x,
      ap (λ z. z ∷ j ∷ x) (heads e),
      (omega arith, (rest, subst (λ z. Member z (lines_of b)) (sym (tails e)) there)),
    ))

begin_cases : (m : Move) (b o : Tree) (x : List Move) → IsBeginning (lines_of (branch m b o)) x → Begun m b o x
begin_cases m b o x h =
    let f : List Move → List Move = λ l. m ∷ l in
    elim (mem_cases (x ++ h.1.0) (map f (or_ended (lines_of b))) (lines_of o) h.1.1) [
      | inl here ↦ let back = mem_map_back f (x ++ h.1.0) (or_ended (lines_of b)) here in
          begun_behind m b o x h.1.0 back.0 h.0 back.2 (ended_back back.0 (lines_of b) back.1)
      | inr later ↦ inr (inr (h.0, (h.1.0, later)))
    ]

-- ---- the paths that a tree goes through behind a path
abbrev pub ArePathsOf : Tree → List Move → List (List Move) → Type 0
ArePathsOf t path new =
    (x : List Move) → Member x new ↔ ((k : List Move) × (x ≡ path ++ k) × IsBeginning (lines_of t) k)

pub paths_over : (path : List Move) → ArePathsOf over path []
paths_over path x = ((λ h. absurd h), (λ h. absurd (none_begins h.0 h.2)))

pub paths_branch : (m : Move) (b o : Tree) (path : List Move) (all beside behind : List (List Move))
    → ((x : List Move) → Member x all → (x ≡ path ++ m ∷ []) ⊎ (Member x beside ⊎ Member x behind))
    → ((x : List Move) → (x ≡ path ++ m ∷ []) ⊎ (Member x beside ⊎ Member x behind) → Member x all)
    → ArePathsOf o path beside → ArePathsOf b (path ++ m ∷ []) behind → ArePathsOf (branch m b o) path all
paths_branch m b o path all beside behind there back h k x = (
  (λ member. elim (there x member) [
    | inl e ↦ (m ∷ [], e, begin_first m b o)
    | inr (inl later) ↦ let found = (h x).0 later in (found.0, found.1, begin_later m b o found.0 found.2)
    | inr (inr inner) ↦ let found = (k x).0 inner in
        (m ∷ found.0, found.1 ∙ append_assoc path (m ∷ []) found.0, begin_behind m b o found.0 found.2)
  ]),
  (λ found. elim (begin_cases m b o found.0 found.2) [
    | inl e ↦ back x (inl (found.1 ∙ ap (λ z. path ++ z) e))
    | inr (inl (l, e, inner)) ↦ back x (inr (inr ((k x).1 (
      l,
      found.1 ∙ (ap (λ z. path ++ z) e ∙ sym (append_assoc path (m ∷ []) l)),
      inner,
    ))))
    | inr (inr later) ↦ back x (inr (inl ((h x).1 (found.0, found.1, later))))
  ]),
)

-- ---- a list without its repeats
same_numbers : (xs ys : List ℕ) → Bool
same_numbers [] [] = true
same_numbers [] (y ∷ ys) = false
same_numbers (x ∷ xs) [] = false
same_numbers (x ∷ xs) (y ∷ ys) = (x == y) && same_numbers xs ys

numbers_decide : (xs ys : List ℕ) → Decides (same_numbers xs ys) (xs ≡ ys)
unfolding same_numbers
numbers_decide [] [] = ((λ e. refl), (λ e. refl))
numbers_decide [] (y ∷ ys) = ((λ e. cc), (λ e. cc))
numbers_decide (x ∷ xs) [] = ((λ e. cc), (λ e. cc))
numbers_decide (x ∷ xs) (y ∷ ys) =
    Decides-like ((x == y) && same_numbers xs ys) (λ h. let a = h.0 in let c = h.1 in cc)
    (λ e. let a : x ≡ y = cc in let c : xs ≡ ys = cc in (a, c))
    (Decides-and (x == y) (same_numbers xs ys) (Decides-eqb x y) (numbers_decide xs ys))

numbers_of : Move → List ℕ
numbers_of m = m.from ∷ m.to ∷ set.items m.taken

same_taken : (s t : set.FinSet nat_cmp) → set.items s ≡ set.items t → s ≡ t
same_taken s t e =
    set.same_set nat_cmp_total set.nat_cmp-IsAntisymmetric s t
    (λ q. set.contains-items s q ∙ (ap (λ z. list_any (eq_by_cmp nat_cmp q) z) e
    ∙ sym (set.contains-items t q)))

same_move : (m n : Move) → m.from ≡ n.from → m.to ≡ n.to → m.taken ≡ n.taken → m ≡ n
same_move m n a b c =
    let from : ℕ → Move = λ z. record { from = z; to = m.to; taken = m.taken } in
    let to : ℕ → Move = λ z. record { from = n.from; to = z; taken = m.taken } in
    let taken : set.FinSet nat_cmp → Move = λ z. record { from = n.from; to = n.to; taken = z } in
    ap from a ∙ (ap to b ∙ ap taken c)

move_numbers : (m n : Move) → numbers_of m ≡ numbers_of n → m ≡ n
unfolding numbers_of
move_numbers m n e =
    let from : m.from ≡ n.from = cc in
    let to : m.to ≡ n.to = cc in
    let items : set.items m.taken ≡ set.items n.taken = cc in
    same_move m n from to (same_taken m.taken n.taken items)

same_line : (l k : List Move) → Bool
same_line [] [] = true
same_line [] (n ∷ k) = false
same_line (m ∷ l) [] = false
same_line (m ∷ l) (n ∷ k) = same_numbers (numbers_of m) (numbers_of n) && same_line l k

line_decides : (l k : List Move) → Decides (same_line l k) (l ≡ k)
unfolding same_line
line_decides [] [] = ((λ e. refl), (λ e. refl))
line_decides [] (n ∷ k) = ((λ e. cc), (λ e. cc))
line_decides (m ∷ l) [] = ((λ e. cc), (λ e. cc))
line_decides (m ∷ l) (n ∷ k) =
    let one : Decides (same_numbers (numbers_of m) (numbers_of n)) (m ≡ n) =
    Decides-like (same_numbers (numbers_of m) (numbers_of n)) (move_numbers m n) (λ e. ap numbers_of e)
    (numbers_decide (numbers_of m) (numbers_of n)) in
    Decides-like (same_numbers (numbers_of m) (numbers_of n) && same_line l k)
    (λ h. let a = h.0 in let c = h.1 in cc) (λ e. let a : m ≡ n = cc in let c : l ≡ k = cc in (a, c))
    (Decides-and (same_numbers (numbers_of m) (numbers_of n)) (same_line l k) one (line_decides l k))

line_cases : (l k : List Move) → (l ≡ k) ⊎ (l ≡ k → ⊥)
line_cases l k =
    let decides = line_decides l k in
    elim (cases_Bool (same_line l k)) [
      | inl is ↦ inl (decides.0 is)
      | inr is_not ↦ inr (not_from_Decides (same_line l k) decides is_not)
    ]

member_cases : (l : List Move) (lines : List (List Move)) → Member l lines ⊎ (Member l lines → ⊥)
member_cases l [] = inr (λ h. h)
member_cases l (k ∷ lines) = elim (line_cases l k) [
  | inl e ↦ inl (inl e)
  | inr ne ↦ elim (member_cases l lines) [
    | inl there ↦ inl (inr there)
    | inr none ↦ inr (λ h. elim h [ inl e ↦ ne e | inr there ↦ none there ])
  ]
]

-- a list, and those of another that are put behind it, each once
distinct_more : (before : List (List Move)) (tree : List (List Move)) → AreDistinct before tree
    → (paths : List (List Move)) → (all : List (List Move)) × AreDistinct (before ++ paths) all
distinct_more before tree h [] = (tree, subst (λ z. AreDistinct z tree) (sym (append-nil before)) h)
distinct_more before tree h (path ∷ paths) =
    let joined : (before ++ path ∷ []) ++ paths ≡ before ++ path ∷ paths = append_assoc before (path ∷ []) paths in
    elim (member_cases path tree) [
      | inl there ↦ let rest = distinct_more (before ++ path ∷ []) tree (again path h there) paths in
          (rest.0, subst (λ z. AreDistinct z rest.0) joined rest.1)
      | inr none ↦ let rest = distinct_more (before ++ path ∷ []) (tree ++ path ∷ []) (first path h none) paths in
          (rest.0, subst (λ z. AreDistinct z rest.0) joined rest.1)
    ]

pub distinct_some : (paths : List (List Move)) → (tree : List (List Move)) × AreDistinct paths tree
distinct_some paths = distinct_more [] [] nothing paths

pub in_tree : {paths tree : List (List Move)} (path : List Move) → AreDistinct paths tree → Member path paths
    → Member path tree
in_tree path nothing m = m
in_tree path (again {paths = paths} {tree = tree} other h there) m = elim (mem_cases path paths (other ∷ []) m) [
  | inl old ↦ in_tree path h old
  | inr (inl e) ↦ subst (λ z. Member z tree) (sym e) there
  | inr (inr gone) ↦ absurd gone
]
in_tree path (first {paths = paths} {tree = tree} other h new) m = elim (mem_cases path paths (other ∷ []) m) [
  | inl old ↦ mem_left path tree (other ∷ []) (in_tree path h old)
  | inr last ↦ mem_right path tree (other ∷ []) last
]

pub in_paths : {paths tree : List (List Move)} (path : List Move) → AreDistinct paths tree → Member path tree
    → Member path paths
in_paths path nothing m = m
in_paths path (again {paths = paths} other h there) m = mem_left path paths (other ∷ []) (in_paths path h m)
in_paths path (first {paths = paths} {tree = tree} other h new) m = elim (mem_cases path tree (other ∷ []) m) [
  | inl old ↦ mem_left path paths (other ∷ []) (in_paths path h old)
  | inr last ↦ mem_right path paths (other ∷ []) last
]
