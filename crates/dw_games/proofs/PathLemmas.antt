-- The paths to the nodes of a tree.
use Rattle.std.proofs.Common.{◌≡◌, ℕ, zero, suc, ◌+◌, ◌<◌, List, [], ◌∷◌, ◌++◌, length, Option, Some, None, inl, inr}
use Rattle.std.proofs.Common.{refl, sym, ap, subst, ◌∙◌, get_or, arith, length-append, add-zero, zero-add}
use Rattle.std.specs.List.{slice_get}
use Rattle.std.proofs.lemmas.Option.{slice_get_within, slice_get-get_or, get_or_from_slice_get}
use Rattle.dw_board.specs.Lists.{Member}
use Rattle.dw_moves.specs.Moves.{Move}
use Rattle.dw_games.specs.Walk.{IsNext}
use Rattle.dw_games.specs.inner.Branches.{BranchStep, path_to, grown, paths_of, IsChild, IsFirstChild, IsPlace}
use Rattle.dw_games.proofs.PlaceLemmas.{absent, same, got_old, got_last}

-- ---- lists
pub member_at : {A : Type 0} → (x : A) (xs : List A) → Member x xs → (k : ℕ) × (slice_get xs k ≡ Some x)
member_at x [] h = elim h [ ]
member_at x (y ∷ xs) (inl e) = (zero, ap Some (sym e))
member_at x (y ∷ xs) (inr h) = let more = member_at x xs h in (suc more.0, more.1)

pub at_member : {A : Type 0} → (x : A) (xs : List A) (k : ℕ) → slice_get xs k ≡ Some x → Member x xs
at_member x [] k e = absent x e
at_member x (y ∷ xs) zero e = inl (sym (same y x e))
at_member x (y ∷ xs) (suc k) e = inr (at_member x xs k e)

join : {A : Type 0} (a b : A) (xs ys : List A) → a ≡ b → xs ≡ ys → a ∷ xs ≡ b ∷ ys
join a b xs ys h t = cc

pub got_some : {A : Type 0} → (xs : List A) (k : ℕ) → k < length xs → (x : A) × (slice_get xs k ≡ Some x)
got_some [] k h = absurd (omega (arith, h))
got_some (x ∷ xs) zero h = (x, refl)
got_some (x ∷ xs) (suc k) h = got_some xs k (omega arith)

join_step : (s t : BranchStep) → s.parent ≡ t.parent → s.mv ≡ t.mv → s ≡ t
join_step s t p m = λ i. record { parent = p i; mv = m i }

pub filled : {A B : Type 0} (xs : List A) (x : A) → [] ≡ xs ++ x ∷ [] → B
filled [] x e = cc
filled (y ∷ xs) x e = cc

-- lists with a last element are the same if both parts are
pub last_same : {A : Type 0} (xs ys : List A) (x y : A) → xs ++ x ∷ [] ≡ ys ++ y ∷ [] → (xs ≡ ys) × (x ≡ y)
last_same [] [] x y e = (refl, cc)
last_same [] (b ∷ ys) x y e = let tail : [] ≡ ys ++ y ∷ [] = cc in filled ys y tail
last_same (a ∷ xs) [] x y e = let tail : [] ≡ xs ++ x ∷ [] = cc in filled xs x tail
last_same (a ∷ xs) (b ∷ ys) x y e =
    let head : a ≡ b = cc in
    let tail : xs ++ x ∷ [] ≡ ys ++ y ∷ [] = cc in
    let rest = last_same xs ys x y tail in
    (join a b xs ys head rest.0, rest.1)

-- ---- paths that are added in turn
-- the path of a step, after the paths before it
abbrev path_of : List (List Move) → BranchStep → List Move
path_of paths s = path_to paths s.parent ++ s.mv ∷ []

pub grown_append : (paths : List (List Move)) (steps : List BranchStep) (s : BranchStep)
    → grown paths (steps ++ s ∷ []) ≡ grown paths steps ++ path_of (grown paths steps) s ∷ []
grown_append paths [] s = refl
grown_append paths (x ∷ steps) s = grown_append (paths ++ path_of paths x ∷ []) steps s

length_grown : (paths : List (List Move)) (steps : List BranchStep) → length (grown paths steps) ≡ length paths + length
    steps
length_grown paths [] = omega arith
length_grown paths (x ∷ steps) =
    let more = length_grown (paths ++ path_of paths x ∷ []) steps in
    let one = length-append paths (path_of paths x ∷ []) in omega (arith, more, one)

old_stays : (paths : List (List Move)) (steps : List BranchStep) (k : ℕ) (b : List Move) → slice_get paths k ≡ Some b
    → slice_get (grown paths steps) k ≡ Some b
old_stays paths [] k b e = e
old_stays paths (x ∷ steps) k b e =
    old_stays (paths ++ path_of paths x ∷ []) steps k b (got_old paths (path_of paths x ∷ []) b k e)

-- a path that was there stays the same
path_stays : (paths : List (List Move)) (steps : List BranchStep) (p : Option ℕ)
    → ((n : ℕ) → p ≡ Some n → n < length paths) → path_to (grown paths steps) p ≡ path_to paths p
path_stays paths steps None h = refl
path_stays paths steps (Some n) h =
    get_or_from_slice_get (grown paths steps) n (get_or paths n []) []
    (old_stays paths steps n (get_or paths n []) (slice_get-get_or paths n [] (h n refl)))

at_grown : (paths : List (List Move)) (steps : List BranchStep) (k : ℕ) (s : BranchStep) → slice_get steps k ≡ Some s
    → ((n : ℕ) → s.parent ≡ Some n → n < length paths + k)
    → slice_get (grown paths steps) (length paths + k) ≡ Some (path_of (grown paths steps) s)
at_grown paths [] k s e h = absent s e
at_grown paths (x ∷ steps) zero s e h =
    let is : x ≡ s = same x s e in
    let next : List (List Move) = paths ++ path_of paths x ∷ [] in
    let stays : path_to (grown paths (x ∷ steps)) s.parent ≡ path_to paths s.parent =
    path_stays paths (x ∷ steps) s.parent (λ n e. omega (arith, h n e)) in
    let there : slice_get (grown paths (x ∷ steps)) (length paths) ≡ Some (path_of paths x) =
    old_stays next steps (length paths) (path_of paths x) (got_last paths (path_of paths x)) in
    rw (add-zero, stays, ← is) there
at_grown paths (x ∷ steps) (suc k) s e h =
    let next : List (List Move) = paths ++ path_of paths x ∷ [] in
    let one : length next ≡ length paths + 1 = length-append paths (path_of paths x ∷ []) in
    let more = at_grown next steps k s e (λ n e. omega (arith, h n e, one)) in
    let place : length next + k ≡ length paths + suc k = omega (arith, one) in
    subst (λ n. slice_get (grown paths (x ∷ steps)) n ≡ Some (path_of (grown paths (x ∷ steps)) s)) place more

-- ---- the paths of a tree
parent_is : (steps : List BranchStep) (s : BranchStep) (n k : ℕ) → s.parent ≡ Some n → slice_get steps k ≡ Some s
    → slice_get steps k ≡ Some (record { parent = Some n; mv = s.mv })
parent_is steps s n k is e = subst (λ p. slice_get steps k ≡ Some (record { parent = p; mv = s.mv })) is e

pub length_paths : (steps : List BranchStep) → length (paths_of steps) ≡ length steps
length_paths steps = let h = length_grown [] steps in omega (arith, h)

module _ (steps : List BranchStep) (above : (n k : ℕ) → IsChild steps (Some n) k → n < k)
    (once : (j k : ℕ) (s : BranchStep) → slice_get steps j ≡ Some s → slice_get steps k ≡ Some s → j ≡ k) where
  -- the path to a node is that to its parent, and its move
  pub node_path : (k : ℕ) (s : BranchStep) → slice_get steps k ≡ Some s
      → slice_get (paths_of steps) k ≡ Some (path_of (paths_of steps) s)
  node_path k s e =
      let there : slice_get (paths_of steps) (0 + k) ≡ Some (path_of (paths_of steps) s) =
      at_grown [] steps k s e
      (λ n is. let lower : n < k = above n k (s.mv, parent_is steps s n k is e) in omega arith) in
      subst (λ n. slice_get (paths_of steps) n ≡ Some (path_of (paths_of steps) s)) (zero-add k) there

  -- each path is that of a node
  pub path_node : (k : ℕ) (b : List Move) → slice_get (paths_of steps) k ≡ Some b
      → (s : BranchStep) × (slice_get steps k ≡ Some s) × (b ≡ path_of (paths_of steps) s)
  path_node k b e =
      let inside : k < length (paths_of steps) = slice_get_within (paths_of steps) k b e in
      let within : k < length steps = omega (arith, inside, length_paths steps) in
      let found = got_some steps k within in
      (found.0, found.1, same _ _ (sym e ∙ node_path k found.0 found.1))

  -- the path to a node that is there
  at_node : (n : ℕ) → n < length steps → slice_get (paths_of steps) n ≡ Some (get_or (paths_of steps) n [])
  at_node n h = slice_get-get_or (paths_of steps) n [] (omega (arith, h, length_paths steps))

  not_root : {A : Type 0} (n : ℕ) → n < length steps → [] ≡ get_or (paths_of steps) n [] → A
  not_root n h e =
      let found = path_node n (get_or (paths_of steps) n []) (at_node n h) in
      filled (path_to (paths_of steps) found.0.parent) found.0.mv (e ∙ found.2)

  -- places with the same path are the same, if this holds of the first one
  parents_same : (end : ℕ) → ((j k : ℕ) (b : List Move) → j < end → slice_get (paths_of steps) j ≡ Some b
      → slice_get (paths_of steps) k ≡ Some b → j ≡ k)
      → (p q : Option ℕ) → ((n : ℕ) → p ≡ Some n → n < end) → IsPlace steps p → IsPlace steps q
      → path_to (paths_of steps) p ≡ path_to (paths_of steps) q → p ≡ q
  parents_same end ih None None low pp qp e = refl
  parents_same end ih None (Some n) low pp qp e = not_root n qp e
  parents_same end ih (Some n) None low pp qp e = not_root n pp (sym e)
  parents_same end ih (Some m) (Some n) low pp qp e =
      ap Some (ih m n (get_or (paths_of steps) m []) (low m refl) (at_node m pp) (at_node n qp ∙ ap Some (sym e)))

  pub parent_place : (k : ℕ) (s : BranchStep) → slice_get steps k ≡ Some s → (p : Option ℕ) → s.parent ≡ p → IsPlace
      steps p
  parent_place k s e None is = tt
  parent_place k s e (Some n) is =
      let lower : n < k = above n k (s.mv, parent_is steps s n k is e) in
      let inside : k < length steps = slice_get_within steps k s e in omega arith

  distinct : (end j k : ℕ) (b : List Move) → j < end → slice_get (paths_of steps) j ≡ Some b
      → slice_get (paths_of steps) k ≡ Some b → j ≡ k
  distinct zero j k b low a c = absurd (omega (arith, low))
  distinct (suc end) j k b low a c =
      let f = path_node j b a in
      let h = path_node k b c in
      let both = last_same _ _ f.0.mv h.0.mv (sym f.2 ∙ h.2) in
      let parents : f.0.parent ≡ h.0.parent =
      parents_same end (distinct end) f.0.parent h.0.parent
      (λ n is. let lower : n < j = above n j (f.0.mv, parent_is steps f.0 n j is f.1) in omega arith)
      (parent_place j f.0 f.1 _ refl) (parent_place k h.0 h.1 _ refl) both.0 in
      let steps_same : f.0 ≡ h.0 = join_step f.0 h.0 parents both.1 in
      once j k f.0 f.1 (subst (λ s. slice_get steps k ≡ Some s) (sym steps_same) h.1)

  -- a path with one more move is that of a child by this move
  pub goes_step : (p : Option ℕ) (m : Move) (k : ℕ) → IsPlace steps p
      → slice_get (paths_of steps) k ≡ Some (path_to (paths_of steps) p ++ m ∷ [])
      → slice_get steps k ≡ Some (record { parent = p; mv = m })
  goes_step p m k place e =
      let f = path_node k (path_to (paths_of steps) p ++ m ∷ []) e in
      let both = last_same (path_to (paths_of steps) p) (path_to (paths_of steps) f.0.parent) m f.0.mv f.2 in
      let parents : f.0.parent ≡ p = parents_same (length steps) (distinct (length steps)) f.0.parent p
      (λ n is. subst (IsPlace steps) is (parent_place k f.0 f.1 _ refl))
      (parent_place k f.0 f.1 _ refl) place (sym both.0) in
      let is : f.0 ≡ record { parent = p; mv = m } = join_step f.0 (record { parent = p; mv = m }) parents (sym both.1)
      in subst (λ s. slice_get steps k ≡ Some s) is f.1

  -- the first child is the first path that goes on
  pub first_next : (p : Option ℕ) (from : ℕ) (r : Option ℕ) → IsPlace steps p → IsFirstChild steps p from r
      → IsNext (paths_of steps) (path_to (paths_of steps) p) from r
  first_next p from None place none = λ k low goes. none k low (goes.0, goes_step p goes.0 k place goes.1)
  first_next p from (Some n) place first = (
    first.0,
    (first.1.0, node_path n (record { parent = p; mv = first.1.0 }) first.1.1),
    λ k low high goes. first.2 k low high (goes.0, goes_step p goes.0 k place goes.1),
  )
