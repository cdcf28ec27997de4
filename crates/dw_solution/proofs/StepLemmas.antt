-- The tree of steps in a row, as one line's steps are put behind them.
use Rattle.std.proofs.Common.{◌≡◌, ℕ, ◌+◌, ◌<◌, ◌≤◌, List, [], ◌∷◌, ◌++◌, length, refl, sym, ap, subst, ◌∙◌, inl, inr}
use Rattle.std.proofs.Common.{arith, eqb, ltb, take, get_or, append_assoc}
use Rattle.std.proofs.lemmas.List.{length-take-le, take_more}
use Rattle.std.proofs.lemmas.Bool.{eq-eqb, ne_eqb, lt-ltb, le-ltb, cond-true, cond-false, cases_order}
use Rattle.dw_moves.specs.Moves.{Move}
use Rattle.dw_solution.specs.Tree.{Tree, over, branch, lines_of, or_ended}
use Rattle.dw_solution.specs.inner.Steps.{tree_at, chain, last_line}
use Rattle.dw_solution.specs.declared.step.TreeStep.{TreeStep}
use Rattle.dw_solution.proofs.TreeLemmas.{straight, no_branch, last_alone, last_beside, Grown, grown_new}
use Rattle.dw_solution.proofs.TreeLemmas.{grown_behind, grown_beside, grown_later}

-- how far a line is the same as the last one: no line is there yet, or the last one goes on with another move
pub data Leaves (tree : Tree) (k d : ℕ) (m : Move) : List Move → Type 0 where
  first : tree ≡ over → d ≡ k → Leaves tree k d m []
  parts : (front : List Move) (n : Move) (rest : List Move) → last_line (lines_of tree) ≡ front ++ n ∷ rest
      → d ≡ k + length front → (n ≡ m → ⊥) → Leaves tree k d m front

no_end : (front : List Move) (n : Move) (rest : List Move) → [] ≡ front ++ n ∷ rest → ⊥
no_end [] n rest e = cc
no_end (m ∷ front) n rest e = cc

heads_same : {m n : Move} {l k : List Move} → m ∷ l ≡ n ∷ k → m ≡ n
heads_same e = cc

tails_same : {m n : Move} {l k : List Move} → m ∷ l ≡ n ∷ k → l ≡ k
tails_same e = cc

-- if the last way to go on has a move, there is one
some_behind : (b : Tree) (front : List Move) (x : Move) (rest : List Move)
    → last_line (or_ended (lines_of b)) ≡ front ++ x ∷ rest
    → (l : List Move) × (lines : List (List Move)) × (lines_of b ≡ l ∷ lines)
    × (last_line (lines_of b) ≡ front ++ x ∷ rest)
some_behind b front x rest =
    elim (lines_of b) as (λ z. last_line (or_ended z) ≡ front ++ x ∷ rest
    → (l : List Move) × (lines : List (List Move)) × (z ≡ l ∷ lines) × (last_line z ≡ front ++ x ∷ rest)) [
      | [] ↦ λ e. absurd (no_end front x rest e)
      | (l ∷ lines) ↦ λ e. (l, lines, refl, e)
    ]

-- a tree with a first move n grows, if what goes on behind it and what stands beside it do
grows_here : (n : Move) (b o c other : Tree) (k d : ℕ) (m : Move) (moves front : List Move)
    → Leaves (branch n b o) k d m front
    → ((j : Move) (e f : Tree) → o ≡ branch j e f
    → (c ≡ b) × (Leaves o k d m front → Grown o other m (front ++ m ∷ moves)))
    → (o ≡ over → d ≡ k → (c ≡ b) × (other ≡ straight (m ∷ moves)))
    → (o ≡ over → k < d → (other ≡ over)
    × ((rest : List Move) → Leaves b (k + 1) d m rest → Grown b c m (rest ++ m ∷ moves)))
    → Grown (branch n b o) (branch n c other) m (front ++ m ∷ moves)
grows_here n b o c other k d m moves _ (first e is) later beside behind = absurd (no_branch n b o e)
grows_here n b (branch j e f) c other k d m moves _ (parts front x rest last is ne) later beside behind =
    let h = later j e f refl in
    let leaves : Leaves (branch j e f) k d m front = parts front x rest (sym (last_beside n j b e f) ∙ last) is ne in
    subst (λ z. Grown (branch n b (branch j e f)) (branch n z other) m (front ++ m ∷ moves)) (sym h.0)
    (grown_later n j b e f other m (front ++ m ∷ moves) (h.1 leaves))
grows_here n b over c other k d m moves _ (parts [] x rest last is ne) later beside behind =
    let h = beside refl (omega (arith, is)) in
    let e : n ≡ x = heads_same (sym (last_alone n b) ∙ last) in
    subst (λ z. Grown (branch n b over) (branch n z other) m (m ∷ moves)) (sym h.0)
    (subst (λ z. Grown (branch n b over) (branch n b z) m (m ∷ moves)) (sym h.1)
    (grown_beside n b m moves (λ q. ne (sym e ∙ q))))
grows_here n b over c other k d m moves _ (parts (y ∷ front) x rest last is ne) later beside behind =
    let h = behind refl (omega (arith, is)) in
    let both : n ∷ last_line (or_ended (lines_of b)) ≡ y ∷ (front ++ x ∷ rest) = sym (last_alone n b) ∙ last in
    let e : n ≡ y = heads_same both in
    let more = some_behind b front x rest (tails_same both) in
    let leaves : Leaves b (k + 1) d m front = parts front x rest more.3 (omega (arith, is)) ne in
    subst (λ z. Grown (branch n b over) (branch n c z) m (y ∷ (front ++ m ∷ moves))) (sym h.0)
    (subst (λ z. Grown (branch n b over) (branch n c over) m (z ∷ (front ++ m ∷ moves))) e
    (grown_behind n m b c m (front ++ m ∷ moves) more.0 more.1 more.2 (h.1 front leaves)))

-- steps none of which is less deep
abbrev pub AreDeep : {B : Type 0} → ℕ → List (TreeStep B) → Type 0
AreDeep k [] = Unit {0}
AreDeep k (s ∷ steps) = (k ≤ s.depth) × AreDeep k steps

module _ (B : Type 0) where
  pub at_same : (s : TreeStep B) (steps : List (TreeStep B)) (k : ℕ) → s.depth ≡ k
      → tree_at (s ∷ steps) k ≡ branch s.mv (tree_at steps (k + 1)) (tree_at steps k)
  at_same s steps k e = cond-true (eqb s.depth k) _ _ (eq-eqb s.depth k e)

  pub at_deeper : (s : TreeStep B) (steps : List (TreeStep B)) (k : ℕ) → k < s.depth
      → tree_at (s ∷ steps) k ≡ tree_at steps k
  at_deeper s steps k low =
      cond-false (eqb s.depth k) _ _ (ne_eqb s.depth k (λ e. omega (arith, e, low)))
      ∙ cond-true (ltb k s.depth) _ _ (lt-ltb k s.depth low)

  pub at_out : (s : TreeStep B) (steps : List (TreeStep B)) (k : ℕ) → s.depth < k → tree_at (s ∷ steps) k ≡ over
  at_out s steps k low =
      cond-false (eqb s.depth k) _ _ (ne_eqb s.depth k (λ e. omega (arith, e, low)))
      ∙ cond-false (ltb k s.depth) _ _ (le-ltb k s.depth (omega (arith, low)))

  -- the steps of one line
  chain_deeper : (d k : ℕ) (moves : List Move) → k < d → tree_at (chain {B = B} d moves) k ≡ over
  chain_deeper d k [] low = refl
  chain_deeper d k (m ∷ moves) low =
      at_deeper (record { depth = d; mv = m }) (chain (d + 1) moves) k low
      ∙ chain_deeper (d + 1) k moves (omega (arith, low))

  chain_out : (d k : ℕ) (moves : List Move) → d < k → tree_at (chain {B = B} d moves) k ≡ over
  chain_out d k [] low = refl
  chain_out d k (m ∷ moves) low = at_out (record { depth = d; mv = m }) (chain (d + 1) moves) k low

  chain_here : (k : ℕ) (moves : List Move) → tree_at (chain {B = B} k moves) k ≡ straight moves
  chain_here k [] = refl
  chain_here k (m ∷ moves) =
      at_same (record { depth = k; mv = m }) (chain (k + 1) moves) k refl
      ∙ (ap (λ z. branch m z (tree_at (chain {B = B} (k + 1) moves) k)) (chain_here (k + 1) moves)
      ∙ ap (branch m (straight moves)) (chain_deeper (k + 1) k moves (omega arith)))

  over_deep : (k : ℕ) (steps : List (TreeStep B)) → AreDeep k steps → tree_at steps k ≡ over → AreDeep (k + 1) steps
  over_deep k [] h e = tt
  over_deep k (s ∷ steps) h e = elim (cases_order s.depth k) [
    | inl same ↦ absurd (no_branch _ _ _ (sym (at_same s steps k same) ∙ e))
    | inr (inl low) ↦ absurd (omega (arith, low, h.0))
    | inr (inr high) ↦ (omega (arith, high), over_deep k steps h.1 (sym (at_deeper s steps k high) ∙ e))
  ]

  deep_skip : (k : ℕ) (steps more : List (TreeStep B)) → AreDeep (k + 1) steps
      → tree_at (steps ++ more) k ≡ tree_at more k
  deep_skip k [] more h = refl
  deep_skip k (s ∷ steps) more h =
      at_deeper s (steps ++ more) k (omega (arith, h.0)) ∙ deep_skip k steps more h.1

  -- what is deeper than the steps of a line stays
  out_stays : (d j : ℕ) (steps : List (TreeStep B)) (moves : List Move) → d < j
      → tree_at (steps ++ chain d moves) j ≡ tree_at steps j
  out_stays d j [] moves low = chain_out d j moves low
  out_stays d j (s ∷ steps) moves low =
      let more : List (TreeStep B) = chain d moves in
      elim (cases_order s.depth j) [
        | inl same ↦ at_same s (steps ++ more) j same
            ∙ (ap (λ z. branch s.mv z (tree_at (steps ++ more) j))
            (out_stays d (j + 1) steps moves (omega (arith, low)))
            ∙ (ap (branch s.mv (tree_at steps (j + 1))) (out_stays d j steps moves low) ∙ sym (at_same s steps j same)))
        | inr (inl out) ↦ at_out s (steps ++ more) j out ∙ sym (at_out s steps j out)
        | inr (inr high) ↦ at_deeper s (steps ++ more) j high
            ∙ (out_stays d j steps moves low ∙ sym (at_deeper s steps j high))
      ]

  -- and so does what is deeper than a move that stands behind it
  shut_stays : (k j : ℕ) (steps more : List (TreeStep B)) (n : Move) (b o : Tree) → AreDeep k steps
      → tree_at steps k ≡ branch n b o → k < j → tree_at (steps ++ more) j ≡ tree_at steps j
  shut_stays k j [] more n b o h e low = absurd (no_branch n b o (sym e))
  shut_stays k j (s ∷ steps) more n b o h e low = elim (cases_order s.depth k) [
    | inl same ↦ let out : s.depth < j = omega (arith, same, low) in
        at_out s (steps ++ more) j out ∙ sym (at_out s steps j out)
    | inr (inl out) ↦ absurd (omega (arith, out, h.0))
    | inr (inr high) ↦ let rest = sym (at_deeper s steps k high) ∙ e in
        let here = shut_stays k j steps more n b o h.1 rest low in
        let next = shut_stays k (j + 1) steps more n b o h.1 rest (omega (arith, low)) in
        elim (cases_order s.depth j) [
          | inl is ↦ at_same s (steps ++ more) j is
              ∙ (ap (λ z. branch s.mv z (tree_at (steps ++ more) j)) next
              ∙ (ap (branch s.mv (tree_at steps (j + 1))) here ∙ sym (at_same s steps j is)))
          | inr (inl out) ↦ at_out s (steps ++ more) j out ∙ sym (at_out s steps j out)
          | inr (inr more_deep) ↦ at_deeper s (steps ++ more) j more_deep
              ∙ (here ∙ sym (at_deeper s steps j more_deep))
        ]
  ]

  pub grows : (k d : ℕ) (steps : List (TreeStep B)) (m : Move) (moves front : List Move) → AreDeep k steps
      → Leaves (tree_at steps k) k d m front
      → Grown (tree_at steps k) (tree_at (steps ++ chain d (m ∷ moves)) k) m (front ++ m ∷ moves)
  grows k d [] m moves _ h (first e is) =
      subst (λ z. Grown over (tree_at (chain {B = B} z (m ∷ moves)) k) m (m ∷ moves)) (sym is)
      (subst (λ z. Grown over z m (m ∷ moves)) (sym (chain_here k (m ∷ moves))) (grown_new m moves))
  grows k d [] m moves _ h (parts front n rest last is ne) = absurd (no_end front n rest last)
  grows k d (s ∷ steps) m moves front h leaves = elim (cases_order s.depth k) [
    | inl same ↦
        let more : List (TreeStep B) = chain d (m ∷ moves) in
        let grown = grows_here s.mv (tree_at steps (k + 1)) (tree_at steps k) (tree_at (steps ++ more) (k + 1))
        (tree_at (steps ++ more) k) k d m moves front
        (subst (λ z. Leaves z k d m front) (at_same s steps k same) leaves)
        (λ n b o e. (
          shut_stays k (k + 1) steps more n b o h.1 e (omega arith),
          λ inner. grows k d steps m moves front h.1 inner,
        ))
        (λ e is. (
          out_stays d (k + 1) steps (m ∷ moves) (omega (arith, is)),
          deep_skip k steps more (over_deep k steps h.1 e)
              ∙ subst (λ z. tree_at (chain {B = B} z (m ∷ moves)) k ≡ straight (m ∷ moves)) (sym is)
              (chain_here k (m ∷ moves)),
        ))
        (λ e low. (
          deep_skip k steps more (over_deep k steps h.1 e) ∙ chain_deeper d k (m ∷ moves) low,
          λ rest inner. grows (k + 1) d steps m moves rest (over_deep k steps h.1 e) inner,
        )) in
        subst (λ z. Grown z (tree_at (s ∷ (steps ++ more)) k) m (front ++ m ∷ moves)) (sym (at_same s steps k same))
        (subst (λ z. Grown (branch s.mv (tree_at steps (k + 1)) (tree_at steps k)) z m (front ++ m ∷ moves))
        (sym (at_same s (steps ++ more) k same)) grown)
    | inr (inl low) ↦ absurd (omega (arith, low, h.0))
    | inr (inr high) ↦
        let more : List (TreeStep B) = chain d (m ∷ moves) in
        let grown = grows k d steps m moves front h.1
        (subst (λ z. Leaves z k d m front) (at_deeper s steps k high) leaves) in
        subst (λ z. Grown z (tree_at (s ∷ (steps ++ more)) k) m (front ++ m ∷ moves)) (sym (at_deeper s steps k high))
        (subst (λ z. Grown (tree_at steps k) z m (front ++ m ∷ moves)) (sym (at_deeper s (steps ++ more) k high)) grown)
  ]

  -- ---- a row that is made step by step
  chain_more : (d : ℕ) (moves : List Move) (m : Move) → chain {B = B} d (moves ++ m ∷ [])
      ≡ chain d moves ++ (record { depth = d + length moves; mv = m }) ∷ []
  chain_more d [] m = ap (λ z. (record { depth = z; mv = m }) ∷ []) (omega arith)
  chain_more d (n ∷ moves) m =
      ap (λ z. (record { depth = d; mv = n }) ∷ z) (chain_more (d + 1) moves m
      ∙ ap (λ z. chain (d + 1) moves ++ (record { depth = z; mv = m }) ∷ []) (omega arith))

  pub chain_step : (old mid new : List (TreeStep B)) (d place : ℕ) (m : Move) (moves : List Move) → place < length moves
      → m ≡ get_or moves place m → mid ≡ old ++ chain d (take place moves)
      → new ≡ mid ++ (record { depth = d + place; mv = m }) ∷ [] → new ≡ old ++ chain d (take (place + 1) moves)
  chain_step old mid new d place m moves low is so_far e =
      let many : length (take place moves) ≡ place = length-take-le place moves (omega (arith, low)) in
      let next : take (place + 1) moves ≡ take place moves ++ m ∷ [] =
      take_more moves place m low ∙ ap (λ z. take place moves ++ z ∷ []) (sym is) in
      e ∙ (ap (λ z. z ++ (record { depth = d + place; mv = m }) ∷ []) so_far
      ∙ (append_assoc old (chain d (take place moves)) ((record { depth = d + place; mv = m }) ∷ [])
      ∙ ap (λ z. old ++ z) (ap (λ z. chain d (take place moves) ++ (record { depth = d + z; mv = m }) ∷ []) (sym many)
      ∙ (sym (chain_more d (take place moves) m) ∙ ap (chain d) (sym next)))))
  -- ---- the first step that is not deeper
