-- Beginnings, gathered move by move from their ends; and moves that are legal.
use Rattle.std.proofs.Common.{◌≡◌, ◌⊎◌, ℕ, zero, suc, ◌+◌, ◌<◌, ◌≤◌, List, [], ◌∷◌, ◌++◌, length, take, drop, get_or}
use Rattle.std.proofs.Common.{sym, ap, ◌∙◌, subst, inl, inr, arith, append_assoc, append-nil, Option, Some, None}
use Rattle.std.proofs.Common.{slice_get, option_map, reverse, refl}
use Rattle.std.specs.String.{string_bytes}
use Rattle.std.proofs.lemmas.List.{take_more, reverse-append, length-append, length-reverse}
use Rattle.std.proofs.Math.Seq.{take-append_seam}
use Rattle.dw_board.specs.Geometry.{Geometry}
use Rattle.dw_board.specs.Placement.{Placement}
use Rattle.dw_board.specs.Lists.{Member}
use Rattle.dw_moves.specs.Moves.{Move, Legal, play}
use Rattle.dw_moves.specs.inner.MemberLemmas.{mem_cases}
use Rattle.dw_games.specs.Play.{after}
use Rattle.dw_games.specs.Walk.{PlayedTree, CanFollow, beginning_at}
use Rattle.dw_notation.specs.Text.{ArePlayable, IsLineText}
use Rattle.dw_verdict.specs.Verdict.{reach}
use Rattle.dw_study.specs.declared.beginning.Beginning.{Beginning}
use Rattle.dw_study.specs.inner.Beginnings.{IsBegun}
use Rattle.dw_study.proofs.ChildLemmas.{same, after_more}

-- the beginning before a node is that before another, and the moves that were gathered since, the last one first
pub record Gathered (g : Geometry) (tree : PlayedTree) (node at : Option ℕ) (moves : List Move) : Type 0 where
  pub joined : (b : List Move) → beginning_at tree.paths at ≡ Some b
      → (beginning_at tree.paths node ≡ Some (b ++ reverse moves))
      × ArePlayable g (after g tree.start b) (reverse moves)
  pub left : (b : List Move) → beginning_at tree.paths node ≡ Some b
      → (c : List Move) × (beginning_at tree.paths at ≡ Some c)
  pub few : (b : List Move) → beginning_at tree.paths at ≡ Some b → (moves ≡ []) ⊎ (length b + length moves ≤ 39)

module _ (g : Geometry) (tree : PlayedTree) (node : Option ℕ) where
  pub gathered_none : Gathered g tree node node []
  gathered_none = record {
    joined = λ b is. (is ∙ ap Some (sym (append-nil b)), tt);
    left = λ b is. (b, is);
    few = λ b is. inl refl;
  }

  module _ (n : ℕ) (moves : List Move) (m : Move) (before : (c : List Move) × (slice_get tree.paths n ≡ Some (c ++ m ∷
      [])) × CanFollow g tree.start c m) (h : Gathered g tree node (Some n) moves) where
    -- there is room for one more
    pub gathered_few : length before.0 + length moves < 39
    gathered_few =
        let one : length (before.0 ++ m ∷ []) ≡ length before.0 + 1 = length-append before.0 (m ∷ []) in
        elim (h.few (before.0 ++ m ∷ []) before.1) [
          | inl none ↦ omega (arith, ap length none, before.2.short)
          | inr few ↦ omega (arith, few, one)
        ]

    pub gathered_more : (next : Option ℕ)
        → ((c : List Move) (o : Move) → slice_get tree.paths n ≡ Some (c ++ o ∷ []) → beginning_at tree.paths next
        ≡ Some c) → Gathered g tree node next (moves ++ m ∷ [])
    gathered_more next parent =
        let c = before.0 in
        let there = parent c m before.1 in
        let old = h.joined (c ++ m ∷ []) before.1 in
        let all : m ∷ reverse moves ≡ reverse (moves ++ m ∷ []) = sym (reverse-append moves (m ∷ [])) in
        let more : length (moves ++ m ∷ []) ≡ length moves + 1 = length-append moves (m ∷ []) in
        let joined : (beginning_at tree.paths node ≡ Some (c ++ reverse (moves ++ m ∷ [])))
        × ArePlayable g (after g tree.start c) (reverse (moves ++ m ∷ [])) = (
          old.0 ∙ ap Some (append_assoc c (m ∷ []) (reverse moves) ∙ ap (λ z. c ++ z) all),
          subst (ArePlayable g (after g tree.start c)) all (
            before.2.legal,
            subst (λ z. ArePlayable g z (reverse moves)) (after_more g tree.start c m) old.1,
          ),
        ) in
        record {
          joined = λ b is. subst (λ z. (beginning_at tree.paths node ≡ Some (z ++ reverse (moves ++ m ∷ [])))
              × ArePlayable g (after g tree.start z) (reverse (moves ++ m ∷ []))) (same c b (sym there ∙ is)) joined;
          left = λ b is. (c, there);
          few = λ b is. inr (let low = gathered_few in omega (arith, low, more, ap length (same c b (sym there ∙ is))));
        }

  -- all were gathered
  pub gathered_all : (moves whole : List Move) → Gathered g tree node None moves → whole ≡ reverse moves
      → (beginning_at tree.paths node ≡ Some whole) × ArePlayable g tree.start whole
  gathered_all moves whole h e = rw e (h.joined [] refl)

-- a list that was reversed in its place
pub reversed : (xs ys zs : List Move) → zs ≡ xs → ys ≡ reverse zs
    → take (length xs) (ys ++ drop (length ys) xs) ≡ reverse xs
reversed xs ys zs same e =
    rw (e ∙ ap reverse same) (subst (λ n. take n (reverse xs ++ drop (length (reverse xs)) xs) ≡ reverse xs)
    (length-reverse xs) (take-append_seam (reverse xs) (drop (length (reverse xs)) xs)))

-- the position of a beginning
pub reach_push : (g : Geometry) (p : Placement) (l : List Move) (m : Move)
    → reach g p (l ++ m ∷ []) ≡ play g (reach g p l) m
reach_push g p [] m = refl
reach_push g p (k ∷ l) m = reach_push g (play g p k) l m

after_reach : (g : Geometry) (p : Placement) (l : List Move) → after g p l ≡ reach g p l
after_reach g p [] = refl
after_reach g p (m ∷ l) = after_reach g (play g p m) l

-- a beginning that was found
pub begun : {B : Type 0} (g : Geometry) (p q : Placement) (o : Option (List Move)) (b : List Move)
    (it : Beginning B) (line : List ℕ) → o ≡ Some it.moves.items → o ≡ Some b
    → option_map (after g p) o ≡ Some it.position → IsLineText g p it.moves.items line → string_bytes it.line ≡ line
    → IsBegun g p b it
begun g p q o b it line moves is position written text =
    let same_moves = same it.moves.items b (sym moves ∙ is) in
    record {
      moves = same_moves;
      position = same it.position (after g p b) (sym position ∙ ap (option_map (after g p)) is) ∙ after_reach g p b;
      line = line;
      written = subst (λ z. IsLineText g p z line) same_moves written;
      same = text;
    }

-- the first so many moves are legal
abbrev pub LegalTo : Geometry → Placement → List Move → ℕ → Type 0
LegalTo g p moves i = (m : Move) → Member m (take i moves) → Legal g p m

legal_among : (g : Geometry) (p : Placement) (front : List Move) (o : Move)
    → ((m : Move) → Member m front → Legal g p m) → Legal g p o → (m : Move) → Member m (front ++ o ∷ []) → Legal g p m
legal_among g p front o all legal m here = elim (mem_cases m front (o ∷ []) here) [
  | inl before ↦ all m before
  | inr last ↦ elim last [
    | inl same ↦ subst (Legal g p) (sym same) legal
    | inr none ↦ absurd none
  ]
]

pub legal_more : (g : Geometry) (p : Placement) (moves : List Move) (i : ℕ) (m : Move) → LegalTo g p moves i
    → i < length moves → m ≡ get_or moves i m → Legal g p m → LegalTo g p moves (i + 1)
legal_more g p moves i m all low is legal =
    let more : take (i + 1) moves ≡ take i moves ++ m ∷ [] = take_more moves i m low
    ∙ ap (λ z. take i moves ++ z ∷ []) (sym is) in
    λ o here. legal_among g p (take i moves) m all legal o (subst (Member o) more here)

pub legal_no : (g : Geometry) (p : Placement) (moves : List Move) (i : ℕ) (m : Move) → i < length moves
    → m ≡ get_or moves i m → (Legal g p m → ⊥) → ((o : Move) → Member o moves → Legal g p o) → ⊥
legal_no g p moves i m low is not all = not (all m (stands moves i m low is)) where
  stands : (xs : List Move) (i : ℕ) (x : Move) → i < length xs → x ≡ get_or xs i x → Member x xs
  stands [] i x low is = absurd (omega (arith, low))
  stands (y ∷ xs) zero x low is = inl is
  stands (y ∷ xs) (suc i) x low is = inr (stands xs i x (omega (arith, low)) is)
