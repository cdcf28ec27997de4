-- The most turns among the beginnings of a tree, place by place.
use Rattle.std.proofs.Common.{◌≡◌, ◌⊎◌, ℕ, zero, suc, ◌+◌, ◌/◌, ◌<◌, ◌≤◌, max, List, [], ◌∷◌, length, Option, Some}
use Rattle.std.proofs.Common.{None, refl, sym, ap, ◌∙◌, inl, inr, arith, slice_get, MatchOption}
use Rattle.std.proofs.lemmas.Bool.{cases_lt}
use Rattle.dw_board.specs.Lists.{Member}
use Rattle.dw_moves.specs.Moves.{Move}
use Rattle.dw_games.specs.Walk.{beginning_at, place_of}
use Rattle.dw_games.specs.declared.branches.Node.{Node}
use Rattle.dw_study.specs.Turns.{turns_in, HasTurns}

-- a place below the length has something, and that is a member
got : {X : Type 0} (xs : List X) (k : ℕ) → k < length xs → (x : X) × (slice_get xs k ≡ Some x) × Member x xs
got [] k low = absurd (omega (arith, low))
got (x ∷ xs) zero low = (x, refl, inl refl)
got (x ∷ xs) (suc k) low =
    let rest = got xs k (omega (arith, low)) in
    (rest.0, rest.1, inr rest.2)

place_in : {X : Type 0} (x : X) (xs : List X) → Member x xs → (k : ℕ) × (k < length xs) × (slice_get xs k ≡ Some x)
place_in x [] here = absurd here
place_in x (y ∷ xs) (inl same) = (0, omega arith, ap (λ z. Some z) (sym same))
place_in x (y ∷ xs) (inr here) =
    let rest = place_in x xs here in
    (suc rest.0, omega (arith, rest.1), rest.2)

-- the most turns among the first so many beginnings
pub record TurnsTo (tree : List (List Move)) (i n : ℕ) : Type 0 where
  pub most : (k : ℕ) → k < i → (path : List Move) → slice_get tree k ≡ Some path → turns_in path ≤ n
  pub met : (n ≡ 0) ⊎ ((path : List Move) × Member path tree × (turns_in path ≡ n))
  pub few : n ≤ 20

some_path : (x y : List Move) → Some x ≡ Some y → x ≡ y
some_path x y e = ap inside e where
  inside : Option (List Move) → List Move
  inside None = x
  inside (Some z) = z

-- the node of a place
pub node_there : (o : Option Node) (tree : List (List Move)) (i : ℕ)
    → MatchOption o (length tree ≤ i) (λ n. (n.0 ≡ i) × (i < length tree)) → i < length tree → place_of o ≡ Some i
node_there None tree i h low = absurd (omega (arith, h, low))
node_there (Some n) tree i h low = ap (λ z. Some z) h.0

-- one beginning more, whose moves are these
pub turns_more : (tree : List (List Move)) (i n : ℕ) (moves : List Move) → i < length tree
    → beginning_at tree (Some i) ≡ Some moves → length moves ≤ 39
    → TurnsTo tree i n → TurnsTo tree (i + 1) (max ((length moves + 1) / 2) n)
turns_more tree i n moves low same short h =
    let here = got tree i low in
    let its : moves ≡ here.0 = some_path moves here.0 (sym same ∙ here.1) in
    record {
      most = λ k below path at. elim (cases_lt k i) [
        | inl less ↦
            let old : turns_in path ≤ n = h.most k less path at in
            omega (arith, old)
        | inr more ↦
            let last : k ≡ i = omega (arith, more, below) in
            let found : Some path ≡ Some here.0 = sym at ∙ (ap (slice_get tree) last ∙ here.1) in
            let whole : length path ≡ length moves = ap length (some_path path here.0 found ∙ sym its) in
            omega (arith, whole)
      ];
      met = elim (cases_lt n ((length moves + 1) / 2)) [
        | inl less ↦
            let new : max ((length moves + 1) / 2) n ≡ (length moves + 1) / 2 = omega (arith, less) in
            inr (here.0, here.2, ap (λ z. (length z + 1) / 2) (sym its) ∙ sym new)
        | inr more ↦
            let old : max ((length moves + 1) / 2) n ≡ n = omega (arith, more) in
            elim h.met [
              | inl none ↦ inl (old ∙ none)
              | inr found ↦ inr (found.0, found.1, found.2 ∙ sym old)
            ]
      ];
      few = omega (arith, short, h.few);
    }

-- each place has a beginning
pub turns_there : {A : Type 0} (tree : List (List Move)) (i : ℕ) → i < length tree → beginning_at tree (Some i) ≡ None
    → A
turns_there tree i low none = let bad = sym none ∙ (got tree i low).1 in cc

pub turns_all : (tree : List (List Move)) (i n : ℕ) → length tree ≤ i → TurnsTo tree i n → HasTurns tree n
turns_all tree i n end h = record {
  most = λ path here.
      let place = place_in path tree here in h.most place.0 (omega (arith, place.1, end)) path place.2;
  met = h.met;
}
