-- What holds of the parts of a tree of lines, and what is known of the first lines.
use Rattle.std.proofs.Common.{◌≡◌, ◌≢◌, ◌⊎◌, ℕ, ◌+◌, ◌<◌, ◌≤◌, zero, suc, List, [], ◌∷◌}
use Rattle.std.proofs.Common.{◌++◌, length, take, drop, refl, sym}
use Rattle.std.proofs.Common.{ap, subst, ◌∙◌, inl, inr, map, length-append, arith, Some, None, get_or, ◌-◌}
use Rattle.std.proofs.lemmas.Bool.{cases_order}
use Rattle.std.proofs.lemmas.List.{take-append-le, take_all, take_at, drop_at}
use Rattle.std.proofs.lemmas.Option.{slice_get_within, slice_get_read}
use Rattle.std.specs.List.{slice_get}
use Rattle.dw_board.specs.Geometry.{Geometry}
use Rattle.dw_board.specs.Placement.{Placement}
use Rattle.dw_board.specs.Lists.{Member}
use Rattle.dw_moves.specs.Moves.{Move, play}
use Rattle.dw_moves.specs.inner.MemberLemmas.{mem_left, mem_right, mem_map}
use Rattle.dw_notation.specs.Text.{ArePlayable}
use Rattle.dw_solution.specs.Tree.{Tree, over, branch, or_ended, lines_of, IsTreeOf}
use Rattle.dw_solution.specs.inner.Steps.{whole_tree, chain, last_line, IsHeld, AreEnds, Parts, MayFollow}
use Rattle.dw_solution.specs.inner.Steps.{AreAllPlayable, IsPlayable}
use Rattle.dw_solution.specs.declared.step.TreeStep.{TreeStep}
use Rattle.dw_solution.proofs.TreeLemmas.{Grown, lines_some, ended_some, last_append}
use Rattle.dw_solution.proofs.StepLemmas.{Leaves, first, parts, AreDeep, grows}
use Rattle.dw_solution.proofs.TakingLemmas.{in_take}

absent : {A B : Type 0} → (x : A) → None ≡ Some x → B
absent x e = cc

same : {A : Type 0} → (x y : A) → Some x ≡ Some y → x ≡ y
same x y e = cc

-- in a longer list, what stood there before, or the new element at the end
got_new : {A : Type 0} → (xs : List A) (y x : A) (k : ℕ) → slice_get (xs ++ y ∷ []) k ≡ Some x
    → (slice_get xs k ≡ Some x) ⊎ ((k ≡ length xs) × (y ≡ x))
got_new [] y x zero e = inr (refl, same y x e)
got_new [] y x (suc k) e = absent x e
got_new (z ∷ xs) y x zero e = inl e
got_new (z ∷ xs) y x (suc k) e = elim (got_new xs y x k e) [
  | inl old ↦ inl old
  | inr new ↦ inr (ap suc new.0, new.1)
]

-- ---- where a line leaves the last one
got_common : (common xs ys : List Move) (s : ℕ) → s < length common
    → slice_get (common ++ xs) s ≡ slice_get (common ++ ys) s
got_common [] xs ys s low = absurd (omega (arith, low))
got_common (m ∷ common) xs ys zero low = refl
got_common (m ∷ common) xs ys (suc s) low = got_common common xs ys s (omega (arith, low))

take_apart : (common xs ys : List Move) (m n : Move) (s : ℕ) → length common < s
    → take s (common ++ m ∷ xs) ≡ take s (common ++ n ∷ ys) → m ≡ n
take_apart common xs ys m n zero low e = absurd (omega (arith, low))
take_apart [] xs ys m n (suc s) low e = cc
take_apart (k ∷ common) xs ys m n (suc s) low e = take_apart common xs ys m n s (omega (arith, low)) cc

common_length : (last line : List Move) (s : ℕ) → (h : Parts last line) → s ≤ length last → s ≤ length line
    → take s last ≡ take s line
    → (s < length last → s < length line → slice_get last s ≢ slice_get line s) → s ≡ length h.common
common_length last line s h low less e differ =
    let one = length-append h.common (h.move ∷ h.rest) in
    let two = length-append h.common (h.instead ∷ h.others) in
    elim (cases_order s (length h.common)) [
      | inl is ↦ is
      | inr (inl short) ↦ absurd (differ (omega (arith, short, one, ap length h.line))
          (omega (arith, short, two, ap length h.other))
          (ap (λ z. slice_get z s) h.line ∙ (got_common h.common (h.move ∷ h.rest) (h.instead ∷ h.others) s short
          ∙ ap (λ z. slice_get z s) (sym h.other))))
      | inr (inr long) ↦ absurd (h.differ (take_apart h.common h.rest h.others h.move h.instead s long
          (sym (ap (take s) h.line) ∙ (e ∙ ap (take s) h.other))))
    ]

filled_list : {X : Type 0} {x : X} {xs : List X} → x ∷ xs ≡ [] → ⊥
filled_list e = cc

no_lines : (t : Tree) → lines_of t ≡ [] → t ≡ over
no_lines over e = refl
no_lines (branch m b o) e = let some = lines_some m b o in absurd (filled_list (sym some.2 ∙ e))

-- how a line goes on behind what it has in common with the last one
pub record GoesOn (tree : Tree) (line : List Move) (s : ℕ) : Type 0 where
  pub move : Move
  pub rest : List Move
  pub behind : drop s line ≡ move ∷ rest
  pub whole : line ≡ take s line ++ move ∷ rest
  pub leaves : Leaves tree 0 s move (take s line)

goes_first : (tree : Tree) (m : Move) (rest : List Move) → tree ≡ over → GoesOn tree (m ∷ rest) 0
goes_first tree m rest e = record { move = m; rest = rest; behind = refl; whole = refl; leaves = first e refl }

goes_parted : (tree : Tree) (last line : List Move) → last ≡ last_line (lines_of tree) → (h : Parts last line)
    → GoesOn tree line (length h.common)
goes_parted tree last line is h =
    let front : take (length h.common) line ≡ h.common =
    ap (take (length h.common)) h.other ∙ take_at h.common (h.instead ∷ h.others) (length h.common) refl in
    record {
      move = h.instead;
      rest = h.others;
      behind = ap (drop (length h.common)) h.other
          ∙ drop_at h.common (h.instead ∷ h.others) (length h.common) refl;
      whole = h.other ∙ ap (λ z. z ++ h.instead ∷ h.others) (sym front);
      leaves = subst (Leaves tree 0 (length h.common) h.instead) (sym front)
          (parts h.common h.move h.rest (sym is ∙ h.line) (omega arith) h.differ);
    }

goes_from : (tree : Tree) (lines : List (List Move)) (last line : List Move) (s : ℕ) → lines_of tree ≡ lines
    → last ≡ last_line lines → MayFollow lines line → s ≤ length last → s ≤ length line → take s last ≡ take s line
    → (s < length last → s < length line → slice_get last s ≢ slice_get line s) → GoesOn tree line s
goes_from tree [] last line s e is follows low less same differ =
    let none : s ≡ 0 = omega (arith, low, ap length is) in
    subst (GoesOn tree line) (sym none) (subst (λ z. GoesOn tree z 0) (sym follows.2)
    (goes_first tree follows.0 follows.1 (no_lines tree e)))
goes_from tree (l ∷ lines) last line s e is follows low less same differ =
    let parted : Parts last line = subst (λ z. Parts z line) (sym is) follows in
    subst (GoesOn tree line) (sym (common_length last line s parted low less same differ))
    (goes_parted tree last line (is ∙ ap last_line (sym e)) parted)

pub goes_on : (tree : Tree) (last line : List Move) (s : ℕ) → last ≡ last_line (lines_of tree)
    → MayFollow (lines_of tree) line → s ≤ length last → s ≤ length line → take s last ≡ take s line
    → (s < length last → s < length line → slice_get last s ≢ slice_get line s) → GoesOn tree line s
goes_on tree last line s is follows low less same differ =
    goes_from tree (lines_of tree) last line s refl is follows low less same differ

-- ---- the parts of a tree
module _ (B : Type 0) where
  all_deep : (steps : List (TreeStep B)) → AreDeep 0 steps
  all_deep [] = tt
  all_deep (s ∷ steps) = (omega arith, all_deep steps)

  pub held_none : IsHeld {B = B} [] [] []
  held_none = record { apart = tt; last = refl; many = refl; ends = λ place end e. absent end e }

  pub grown_by : (steps : List (TreeStep B)) (line : List Move) (s : ℕ) → (h : GoesOn (whole_tree steps) line s)
      → Grown (whole_tree steps) (whole_tree (steps ++ chain s (drop s line))) h.move line
  grown_by steps line s h =
      subst (λ z. Grown (whole_tree steps) (whole_tree (steps ++ chain s z)) h.move line) (sym h.behind)
      (subst (Grown (whole_tree steps) (whole_tree (steps ++ chain s (h.move ∷ h.rest))) h.move) (sym h.whole)
      (grows B 0 s steps h.move h.rest (take s line) (all_deep steps) h.leaves))

  pub held_more : (steps new : List (TreeStep B)) (ends : List ℕ) (last line : List Move) (m : Move) (end : ℕ)
      → (more : List (TreeStep B)) → new ≡ steps ++ more → end ≡ length new
      → Grown (whole_tree steps) (whole_tree new) m line → IsHeld steps ends last
      → IsHeld new (ends ++ end ∷ []) line
  held_more steps new ends last line m end more e is grown held =
      let lines : List (List Move) = lines_of (whole_tree steps) in
      let long : length (lines ++ line ∷ []) ≡ length lines + 1 = length-append lines (line ∷ []) in
      let longer : length new ≡ length steps + length more = ap length e ∙ length-append steps more in
      record {
        apart = grown.apart held.apart;
        last = sym (ap last_line grown.lines ∙ last_append lines line []);
        many = length-append ends (end ∷ []) ∙ (ap (λ z. z + 1) held.many ∙ (sym long ∙ sym (ap length grown.lines)));
        ends = λ place there found. elim (got_new ends end there place found) [
          | inl old ↦
              let known = held.ends place there old in
              let low : place < length ends = slice_get_within ends place there old in
              let first : take (place + 1) (lines_of (whole_tree new)) ≡ take (place + 1) lines =
              ap (take (place + 1)) grown.lines
              ∙ take-append-le (place + 1) lines (line ∷ []) (omega (arith, low, held.many)) in
              let cut : take there new ≡ take there steps =
              ap (take there) e ∙ take-append-le there steps more known.0 in (
                omega (arith, known.0, longer),
                subst (λ z. IsTreeOf z (whole_tree (take there new))) (sym first)
                    (subst (λ z. IsTreeOf (take (place + 1) lines) (whole_tree z)) (sym cut) known.1),
              )
          | inr new_one ↦
              let whole : take there new ≡ new = take_all there new (omega (arith, is, new_one.1)) in
              let all : take (place + 1) (lines_of (whole_tree new)) ≡ lines_of (whole_tree new) =
              take_all (place + 1) (lines_of (whole_tree new))
              (omega (arith, new_one.0, held.many, long, ap length grown.lines)) in (
                omega (arith, is, new_one.1),
                subst (λ z. IsTreeOf (take (place + 1) (lines_of (whole_tree new))) (whole_tree z))
                    (sym whole) (record { lines = sym all; apart = grown.apart held.apart }),
              )
        ];
      }

  -- a line pushed
  pub held_push : (steps new : List (TreeStep B)) (ends more_ends : List ℕ) (last line latest : List Move)
      (s end : ℕ) (rest : List Move) (all : List (List Move)) → lines_of (whole_tree steps) ≡ all
      → IsHeld steps ends last → MayFollow all line → s ≤ length last → s ≤ length line → take s last ≡ take s line
      → (s < length last → s < length line → slice_get last s ≢ slice_get line s) → rest ≡ drop s line
      → new ≡ steps ++ chain s rest → end ≡ length new → latest ≡ line → more_ends ≡ ends ++ end ∷ []
      → IsHeld new more_ends latest × (lines_of (whole_tree new) ≡ all ++ line ∷ [])
  held_push steps new ends more_ends last line latest s end rest all are held follows low less same differ is e many
      whole places =
      let goes = goes_on (whole_tree steps) last line s held.last (subst (λ z. MayFollow z line) (sym are) follows) low
      less same differ in
      let joined : new ≡ steps ++ chain s (drop s line) = e ∙ ap (λ z. steps ++ chain s z) is in
      let grown : Grown (whole_tree steps) (whole_tree new) goes.move line =
      subst (λ z. Grown (whole_tree steps) (whole_tree z) goes.move line) (sym joined) (grown_by steps line s goes) in
      let done = held_more steps new ends last line goes.move end (chain s (drop s line)) joined many grown held in (
        subst (λ z. IsHeld new z latest) (sym places) (subst (λ z. IsHeld new (ends ++ end ∷ []) z) (sym whole) done),
        grown.lines ∙ ap (λ z. z ++ line ∷ []) are,
      )

  -- the steps of the first lines
  pub end_within : (steps : List (TreeStep B)) (ends : List ℕ) (lines end : ℕ) → AreEnds steps ends
      → lines < length ends
      → end ≡ get_or ends lines end → end ≤ length steps
  end_within steps ends lines end known low is =
      (known lines end (slice_get_read ends (length ends) lines end refl low is)).0

  pub first_end : (steps front : List (TreeStep B)) (ends : List ℕ) (lines end : ℕ) (all : List (List Move))
      → AreEnds steps ends → lines_of (whole_tree steps) ≡ all → 0 < lines → lines - 1 < length ends
      → end ≡ get_or ends (lines - 1) end → front ≡ take end steps → IsTreeOf (take lines all) (whole_tree front)
  first_end steps front ends lines end all known are some low is e =
      let found = slice_get_read ends (length ends) (lines - 1) end refl low is in
      let here : lines - 1 + 1 ≡ lines = omega (arith, some) in
      subst (λ z. IsTreeOf (take z all) (whole_tree front)) here
      (subst (λ z. IsTreeOf (take (lines - 1 + 1) z) (whole_tree front)) are
      (subst (λ z. IsTreeOf (take (lines - 1 + 1) (lines_of (whole_tree steps))) (whole_tree z)) (sym e)
      (known (lines - 1) end found).1))

  pub first_none : (steps : List (TreeStep B)) → IsTreeOf (take 0 (lines_of (whole_tree steps))) (whole_tree {B = B} [])
  first_none steps = record { lines = refl; apart = tt }

-- ---- what can be played
member_ended : (l : List Move) (lines : List (List Move)) → Member l lines → Member l (or_ended lines)
member_ended l [] h = absurd h
member_ended l (k ∷ lines) h = h

pub tree_playable : (g : Geometry) (p : Placement) (t : Tree) → AreAllPlayable g p (lines_of t) → IsPlayable g p t
tree_playable g p over h = tt
tree_playable g p (branch m b o) h =
    let f : List Move → List Move = λ l. m ∷ l in
    let some = ended_some (lines_of b) in
    let one : ArePlayable g p (m ∷ some.0) =
    h (m ∷ some.0) (mem_left (m ∷ some.0) (map f (or_ended (lines_of b))) (lines_of o)
    (mem_map f some.0 (or_ended (lines_of b)) (subst (Member some.0) (sym some.2) (inl refl)))) in
    let behind : AreAllPlayable g (play g p m) (lines_of b) = λ l here.
    (h (m ∷ l) (mem_left (m ∷ l) (map f (or_ended (lines_of b))) (lines_of o)
    (mem_map f l (or_ended (lines_of b)) (member_ended l (lines_of b) here)))).1 in (
      one.0,
      tree_playable g (play g p m) b behind,
      tree_playable g p o (λ l here. h l (mem_right l (map f (or_ended (lines_of b))) (lines_of o) here)),
    )

pub first_playable : (g : Geometry) (p : Placement) (lines : List (List Move)) (many : ℕ) (t : Tree)
    → AreAllPlayable g p lines → IsTreeOf (take many lines) t → IsPlayable g p t
first_playable g p lines many t h is =
    tree_playable g p t (λ l here. h l (in_take l many lines (subst (Member l) is.lines here)))
