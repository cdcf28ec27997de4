-- What the calls of a tree say of its paths.
use Rattle.std.proofs.Common.{◌≡◌, ℕ, ◌+◌, ◌<◌, ◌≤◌, List, [], ◌∷◌, ◌++◌, length, Option, Some, None, refl, sym, ap}
use Rattle.std.proofs.Common.{subst, ◌∙◌, arith, inl, inr, length-append}
use Rattle.std.specs.Prelude.{MatchOption, map, option_map}
use Rattle.std.specs.List.{slice_get}
use Rattle.std.proofs.lemmas.Option.{slice_get_within, slice_get_past, slice_get-get_or, get_or_from_slice_get}
use Rattle.std.proofs.lemmas.Option.{slice_get-map}
use Rattle.dw_board.specs.Geometry.{Geometry}
use Rattle.dw_board.specs.Lists.{Member}
use Rattle.dw_board.specs.Placement.{Placement}
use Rattle.dw_moves.specs.Moves.{Move, play}
use Rattle.dw_moves.specs.inner.MemberLemmas.{mem_cases}
use Rattle.dw_games.specs.Play.{after}
use Rattle.dw_games.specs.declared.branches.Node.{Node}
use Rattle.dw_games.specs.Walk.{place_of, beginning_at, CanFollow, IsNext}
use Rattle.dw_games.specs.inner.Noting.{IsNoted}
use Rattle.dw_games.specs.inner.Branches.{BranchStep, path_to, paths_of, IsFirstChild, IsPlace, AreLinked, IsLastChild}
use Rattle.dw_games.specs.inner.Branches.{Hang, steps_of, firsts_of, nexts_of, positions_of, first_linked}
use Rattle.dw_games.specs.inner.Branches.{next_linked, ArePlayed, IsPlayedTree}
use Rattle.dw_games.specs.declared.branches.Branch.{Branch}
use Rattle.std.proofs.lemmas.List.{map-append}
use Rattle.dw_games.proofs.LinkLemmas.{linked_new}
use Rattle.dw_games.proofs.ReadingLemmas.{after_append}
use Rattle.dw_games.proofs.BranchLemmas.{steps_length}
use Rattle.dw_games.proofs.PlaceLemmas.{same, got_last}
use Rattle.dw_games.proofs.PathLemmas.{length_paths, last_same, at_member, member_at, grown_append, node_path}
use Rattle.dw_games.proofs.PathLemmas.{path_node, goes_step, first_next, parent_place}

pub match_by : {A : Type 0} (o : Option A) (P : Type 0) (Q : A → Type 0) → (o ≡ None → P)
    → ((x : A) → o ≡ Some x → Q x) → MatchOption o P Q
match_by None P Q none some = none refl
match_by (Some x) P Q none some = some x refl

none_some : {A : Type 0} (x : A) → None ≡ Some x → ⊥
none_some x e = cc

module _ (steps : List BranchStep) (firsts nexts : List (Option ℕ)) (linked : AreLinked steps firsts nexts) where
  -- a beginning that stands in the tree is the path to its node
  pub place_at : (p : Option ℕ) (b : List Move) → beginning_at (paths_of steps) p ≡ Some b
      → IsPlace steps p × (b ≡ path_to (paths_of steps) p)
  place_at None b e = (tt, sym (same _ _ e))
  place_at (Some n) b e =
      let inside : n < length (paths_of steps) = slice_get_within (paths_of steps) n b e in
      (omega (arith, inside, length_paths steps), sym (get_or_from_slice_get (paths_of steps) n b [] e))

  -- behind no node nothing goes on
  pub none_beyond : (p : Option ℕ) (r : Option Node) → beginning_at (paths_of steps) p ≡ None
      → IsFirstChild steps p 0 (place_of r) → r ≡ None
  none_beyond None r e first = absurd (none_some [] (sym e))
  none_beyond (Some n) None e first = refl
  none_beyond (Some n) (Some r) e first =
      let far : n < r.0 = linked.above n r.0 first.1 in
      let near : r.0 < length steps = slice_get_within steps r.0 _ first.1.1 in
      let inside : n < length (paths_of steps) = omega (arith, length_paths steps) in
      absurd (none_some _ (sym e ∙ slice_get-get_or (paths_of steps) n [] inside))

  pub next_none : (P : Type 0) (n : ℕ) (Q : BranchStep → Type 0) → MatchOption (slice_get steps n) P Q
      → length (paths_of steps) ≤ n → P
  next_none P n Q h past =
      let gone : slice_get steps n ≡ None = slice_get_past steps n (omega (arith, length_paths steps)) in rw gone at h

  pub next_clause : (P : Type 0) (n : ℕ) (r : Option ℕ)
      → MatchOption (slice_get steps n) P (λ s. IsFirstChild steps s.parent (n + 1) r)
      → (b : List Move) (m : Move) → slice_get (paths_of steps) n ≡ Some (b ++ m ∷ [])
      → IsNext (paths_of steps) b (n + 1) r
  next_clause P n r h b m e =
      let f = path_node steps linked.above linked.once n (b ++ m ∷ []) e in
      let both = last_same b (path_to (paths_of steps) f.0.parent) m f.0.mv f.2 in
      let first = rw f.1 at h in
      subst (λ x. IsNext (paths_of steps) x (n + 1) r) (sym both.0)
      (first_next steps linked.above linked.once f.0.parent (n + 1) r
      (parent_place steps linked.above linked.once n f.0 f.1 f.0.parent refl) first)

  pub gone_clause : (n : ℕ) → length steps ≤ n → slice_get (paths_of steps) n ≡ None
  gone_clause n past = slice_get_past (paths_of steps) n (omega (arith, past, length_paths steps))

  pub move_clause : (n : ℕ) (p : Option ℕ) (m : Move) → slice_get steps n ≡ Some (record { parent = p; mv = m })
      → (b : List Move) × (slice_get (paths_of steps) n ≡ Some (b ++ m ∷ []))
  move_clause n p m e = (path_to (paths_of steps) p, node_path steps linked.above linked.once n _ e)

  place_is : (p : Option ℕ) → IsPlace steps p → beginning_at (paths_of steps) p ≡ Some (path_to (paths_of steps) p)
  place_is None h = refl
  place_is (Some n) h = slice_get-get_or (paths_of steps) n [] (omega (arith, h, length_paths steps))

  -- the beginning before a node's move is that at its parent
  pub parent_clause : (n : ℕ) (p : Option ℕ) (m : Move) → slice_get steps n ≡ Some (record { parent = p; mv = m })
      → (b : List Move) (o : Move) → slice_get (paths_of steps) n ≡ Some (b ++ o ∷ [])
      → beginning_at (paths_of steps) p ≡ Some b
  parent_clause n p m e b o there =
      let is = node_path steps linked.above linked.once n _ e in
      let both = last_same b (path_to (paths_of steps) p) o m (same _ _ (sym there ∙ is)) in
      subst (λ x. beginning_at (paths_of steps) p ≡ Some x) (sym both.0)
      (place_is p (parent_place steps linked.above linked.once n _ e p refl))

  pub no_parent : (n : ℕ) → length steps ≤ n → (p : Option ℕ) (b : List Move) (o : Move)
      → slice_get (paths_of steps) n ≡ Some (b ++ o ∷ []) → beginning_at (paths_of steps) p ≡ Some b
  no_parent n past p b o there =
      absurd (none_some (b ++ o ∷ []) (sym (slice_get_past (paths_of steps) n (omega (arith, past, length_paths steps)))
      ∙ there))

  -- a step that stands there is noted again
  pub noted_again : (p : Option ℕ) (m : Move) (n : ℕ) → slice_get steps n ≡ Some (record { parent = p; mv = m })
      → (b : List Move) → beginning_at (paths_of steps) p ≡ Some b
      → IsNoted (paths_of steps) (b ++ m ∷ []) (paths_of steps)
      × (slice_get (paths_of steps) n ≡ Some (b ++ m ∷ []))
  noted_again p m n e b there =
      let h = place_at p b there in
      let is : slice_get (paths_of steps) n ≡ Some (b ++ m ∷ []) =
      subst (λ x. slice_get (paths_of steps) n ≡ Some (x ++ m ∷ [])) (sym h.1)
      (node_path steps linked.above linked.once n _ e) in
      (inl (at_member (b ++ m ∷ []) (paths_of steps) n is, refl), is)

  -- a new step adds its path behind all others
  paths_now : (p : Option ℕ) (m : Move) (now : List BranchStep) → now ≡ steps ++ (record {
    parent = p;
    mv = m;
  }) ∷ [] → (b : List Move) → beginning_at (paths_of steps) p ≡ Some b
      → paths_of now ≡ paths_of steps ++ (b ++ m ∷ []) ∷ []
  paths_now p m now e b there =
      ap paths_of e ∙ (grown_append [] steps (record { parent = p; mv = m })
      ∙ ap (λ x. paths_of steps ++ (x ++ m ∷ []) ∷ []) (sym (place_at p b there).1))

  -- a new step is noted behind all others
  pub noted_new : (p : Option ℕ) (m : Move) (now : List BranchStep)
      → ((n : ℕ) → slice_get steps n ≡ Some (record { parent = p; mv = m }) → ⊥)
      → now ≡ steps ++ (record { parent = p; mv = m }) ∷ []
      → (b : List Move) → beginning_at (paths_of steps) p ≡ Some b
      → IsNoted (paths_of steps) (b ++ m ∷ []) (paths_of now)
      × (slice_get (paths_of now) (length steps) ≡ Some (b ++ m ∷ []))
  noted_new p m now unseen e b there =
      let h = place_at p b there in
      let grows = paths_now p m now e b there in
      let new : Member (b ++ m ∷ []) (paths_of steps) → ⊥ = λ member.
      let found = member_at (b ++ m ∷ []) (paths_of steps) member in
      unseen found.0 (goes_step steps linked.above linked.once p m found.0 h.0
      (subst (λ x. slice_get (paths_of steps) found.0 ≡ Some (x ++ m ∷ [])) h.1 found.1)) in
      let last : slice_get (paths_of now) (length steps) ≡ Some (b ++ m ∷ []) =
      subst (λ n. slice_get (paths_of now) n ≡ Some (b ++ m ∷ [])) (length_paths steps)
      (subst (λ x. slice_get x (length (paths_of steps)) ≡ Some (b ++ m ∷ [])) (sym grows)
      (got_last (paths_of steps) (b ++ m ∷ []))) in
      (inr (new, grows), last)

  pub first_clause : (p : Option ℕ) (r : Option Node) → IsFirstChild steps p 0 (place_of r)
      → MatchOption (beginning_at (paths_of steps) p) (r ≡ None) (λ b. IsNext (paths_of steps) b 0 (place_of r))
  first_clause p r first =
      match_by (beginning_at (paths_of steps) p) (r ≡ None) (λ b. IsNext (paths_of steps) b 0 (place_of r))
      (λ none. none_beyond p r none first)
      (λ b e. let h = place_at p b e in
      subst (λ x. IsNext (paths_of steps) x 0 (place_of r)) (sym h.1)
      (first_next steps linked.above linked.once p 0 (place_of r) h.0 first))

-- places and last children in longer lists
pub place_longer : (steps more : List BranchStep) (p : Option ℕ) → IsPlace steps p → IsPlace (steps ++ more) p
place_longer steps more None h = tt
place_longer steps more (Some n) h = omega (arith, h, length-append steps more)

pub last_place : (steps : List BranchStep) (p last : Option ℕ) → IsLastChild steps p last → IsPlace steps last
last_place steps p None h = tt
last_place steps p (Some n) h = slice_get_within steps n _ h.0.1

-- a node that is not linked yet
abbrev pub new_branch : {B : Type 0} → Option Node → Move → Placement → Branch B
new_branch parent m q = record { mv = m; position = q; parent = parent; first_child = None; next_sibling = None }

-- the steps of a list of nodes with a new one behind them
pub steps_now : {B : Type 0} → (branches now : List (Branch B)) (b : Branch B) → now ≡ branches ++ b ∷ []
    → steps_of now ≡ steps_of branches ++ (record { parent = place_of b.parent; mv = b.mv }) ∷ []
steps_now branches now b e = ap steps_of e ∙ map-append _ branches (b ∷ [])

firsts_now : {B : Type 0} → (branches now : List (Branch B)) (b : Branch B) → now ≡ branches ++ b ∷ []
    → firsts_of now ≡ firsts_of branches ++ place_of b.first_child ∷ []
firsts_now branches now b e = ap firsts_of e ∙ map-append _ branches (b ∷ [])

nexts_now : {B : Type 0} → (branches now : List (Branch B)) (b : Branch B) → now ≡ branches ++ b ∷ []
    → nexts_of now ≡ nexts_of branches ++ place_of b.next_sibling ∷ []
nexts_now branches now b e = ap nexts_of e ∙ map-append _ branches (b ∷ [])

pub new_steps : {B : Type 0} → (branches pushed now : List (Branch B)) (parent : Option Node) (m : Move)
    (q : Placement) → pushed ≡ branches ++ new_branch parent m q ∷ [] → steps_of now ≡ steps_of pushed
    → steps_of now ≡ steps_of branches ++ (record { parent = place_of parent; mv = m }) ∷ []
new_steps branches pushed now parent m q e s = s ∙ steps_now branches pushed (new_branch parent m q) e

-- they hang together if the new one was linked
linked_now : {B : Type 0} → (branches pushed now : List (Branch B)) (parent last : Option Node) (m : Move)
    (q : Placement) (n : ℕ) → Hang branches → IsPlace (steps_of branches) (place_of parent)
    → IsLastChild (steps_of branches) (place_of parent) (place_of last)
    → ((k : ℕ) → slice_get (steps_of branches) k ≡ Some (record { parent = place_of parent; mv = m }) → ⊥)
    → n ≡ length branches → pushed ≡ branches ++ new_branch parent m q ∷ [] → steps_of now ≡ steps_of pushed
    → firsts_of now ≡ first_linked (firsts_of pushed) (place_of last) (place_of parent) n
    → nexts_of now ≡ next_linked (nexts_of pushed) (place_of last) n → Hang now
linked_now branches pushed now parent last m q n hang place is unseen here e s f x =
    let b : Branch _ = new_branch parent m q in
    let end : n ≡ length (steps_of branches) = here ∙ sym (steps_length branches) in
    rw (
      new_steps branches pushed now parent m q e s,
      f,
      x,
      firsts_now branches pushed b e,
      nexts_now branches pushed b e,
      end,
    ) (linked_new _ _ _ hang (place_of parent) (place_of last) m place is unseen)

module _ (g : Geometry) (start : Placement) where
  -- the position at a place is that after its path
  pub position_found : {B : Type 0} → (branches : List (Branch B)) → IsPlayedTree g start branches → (n : ℕ)
      → slice_get (positions_of branches) n ≡ option_map (after g start) (slice_get (paths_of (steps_of branches)) n)
  position_found branches held n =
      ap (λ x. slice_get x n) held.positions ∙ slice_get-map (after g start) (paths_of (steps_of branches)) n

  played_more : (paths : List (List Move)) (b : List Move) (m : Move) → ArePlayed g start paths → CanFollow g start b m
      → ArePlayed g start (paths ++ (b ++ m ∷ []) ∷ [])
  played_more paths b m played new c o there =
      elim (mem_cases (c ++ o ∷ []) paths ((b ++ m ∷ []) ∷ []) there) [
        | inl old ↦ played c o old
        | inr (inl e) ↦ let both = last_same c b o m e in rw (both.0, both.1) new
        | inr (inr gone) ↦ absurd gone
      ]

  -- a tree with a new node, if that was linked, its move can follow, and its position is that after the move
  pub tree_now : {B : Type 0} → (branches pushed now : List (Branch B)) (parent last : Option Node) (m : Move)
      (q : Placement) (n : ℕ) → IsPlayedTree g start branches
      → (b : List Move) × (beginning_at (paths_of (steps_of branches)) (place_of parent) ≡ Some b)
      × CanFollow g start b m × (q ≡ play g (after g start b) m)
      → IsLastChild (steps_of branches) (place_of parent) (place_of last)
      → ((k : ℕ) → slice_get (steps_of branches) k ≡ Some (record { parent = place_of parent; mv = m }) → ⊥)
      → n ≡ length branches → pushed ≡ branches ++ new_branch parent m q ∷ [] → steps_of now ≡ steps_of pushed
      → positions_of now ≡ positions_of pushed
      → firsts_of now ≡ first_linked (firsts_of pushed) (place_of last) (place_of parent) n
      → nexts_of now ≡ next_linked (nexts_of pushed) (place_of last) n → IsPlayedTree g start now
  tree_now branches pushed now parent last m q n held follows is unseen here e s z f x =
      let b = follows.0 in
      let paths = paths_of (steps_of branches) in
      let longer : paths_of (steps_of now) ≡ paths ++ (b ++ m ∷ []) ∷ [] =
      paths_now (steps_of branches) _ _ held.hang (place_of parent) m (steps_of now)
      (new_steps branches pushed now parent m q e s) b follows.1 in
      record {
        hang = linked_now branches pushed now parent last m q n held.hang
            (place_at (steps_of branches) _ _ held.hang (place_of parent) b follows.1).0 is unseen here e s f x;
        played = rw longer (played_more paths b m held.played follows.2);
        positions = z ∙ (ap positions_of e ∙ (map-append _ branches (new_branch parent m q ∷ [])
            ∙ (ap (λ w. w ++ q ∷ []) held.positions
            ∙ (ap (λ w. map (after g start) paths ++ w ∷ []) (follows.3 ∙ sym (after_append g start b m))
            ∙ (sym (map-append (after g start) paths ((b ++ m ∷ []) ∷ [])) ∙ ap (map (after g start)) (sym longer))))));
      }
