-- The moves of a tree in their places.
use Rattle.std.proofs.Common.{◌≡◌, ◌∙◌, ℕ, ◌+◌, List, [], ◌∷◌, ◌++◌, length, map, take, sym, ap, subst, inl, inr}
use Rattle.std.proofs.Common.{append_assoc, arith, ◌≤◌, ◌<◌}
use Rattle.std.proofs.lemmas.Bool.{cases_lt}
use Rattle.std.proofs.lemmas.List.{take_all}
use Rattle.dw_board.specs.Geometry.{Geometry}
use Rattle.dw_board.specs.Lists.{Member}
use Rattle.dw_board.specs.Placement.{Placement}
use Rattle.dw_moves.specs.Moves.{Move, Legal, play}
use Rattle.dw_moves.specs.inner.MemberLemmas.{mem_map}
use Rattle.dw_solution.specs.Placed.{Placed, placed_moves}
use Rattle.dw_solution.specs.Telling.{placed_by}
use Rattle.dw_solution.specs.Tree.{Tree, over, branch}
use Rattle.dw_solution.specs.inner.Steps.{IsPlayable}
use Rattle.dw_solution.specs.declared.placed.PlacedMove.{PlacedMove}

-- one move of a place and those after it are listed, and then the others come
pub placed_next : (g : Geometry) (p : Placement) (depth : ℕ) (m : Move) (tree behind others : Tree)
    (a b c whole : List Placed) → tree ≡ branch m behind others
    → b ≡ a ++ (record { depth = depth; before = p; move = m }) ∷ []
    → c ≡ b ++ placed_moves g (play g p m) (depth + 1) behind → a ++ placed_moves g p depth tree ≡ whole
    → c ++ placed_moves g p depth others ≡ whole
placed_next g p depth m tree behind others a b c whole is pushed more so_far =
    let one : Placed = record { depth = depth; before = p; move = m } in
    let inner : List Placed = placed_moves g (play g p m) (depth + 1) behind in
    let outer : List Placed = placed_moves g p depth others in
    ap (λ z. z ++ outer) (more ∙ ap (λ z. z ++ inner) pushed)
    ∙ (append_assoc (a ++ one ∷ []) inner outer ∙ (append_assoc a (one ∷ []) (inner ++ outer)
    ∙ (sym (ap (λ t. a ++ placed_moves g p depth t) is) ∙ so_far)))

-- what stands in one of two lists
in_either : {X : Type 0} (x : X) (xs ys : List X) (P : Type 0) → Member x (xs ++ ys) → (Member x xs → P)
    → (Member x ys → P) → P
in_either x [] ys P here first second = second here
in_either x (z ∷ xs) ys P (inl e) first second = first (inl e)
in_either x (z ∷ xs) ys P (inr later) first second = in_either x xs ys P later (λ h. first (inr h)) second

-- all moves of a tree that can be played are legal in their places
placed_legal : (g : Geometry) (p : Placement) (depth : ℕ) (tree : Tree) → IsPlayable g p tree → (one : Placed)
    → Member one (placed_moves g p depth tree) → Legal g one.before one.move
placed_legal g p depth over can one here = absurd here
placed_legal g p depth (branch m behind others) can one (inl e) =
    subst (λ (z : Placed). Legal g z.before z.move) (sym e) can.0
placed_legal g p depth (branch m behind others) can one (inr later) =
    in_either one (placed_moves g (play g p m) (depth + 1) behind) (placed_moves g p depth others)
    (Legal g one.before one.move) later (λ h. placed_legal g (play g p m) (depth + 1) behind can.1 one h)
    (λ h. placed_legal g p depth others can.2 one h)

pub items_legal : {B : Type 0} (g : Geometry) (p : Placement) (depth : ℕ) (tree : Tree) (items : List (PlacedMove B))
    → IsPlayable g p tree → map placed_by items ≡ placed_moves g p depth tree → (one : PlacedMove B)
    → Member one items → Legal g one.before one.mv
items_legal g p depth tree items can are one here =
    placed_legal g p depth tree can (placed_by one) (subst (Member (placed_by one)) are
    (mem_map placed_by one items here))

-- as many items as there are, if more are asked for
pub take_min : {X : Type 0} (xs : List X) (n m : ℕ) → m ≤ n → (m < n → length xs ≤ m) → take m xs ≡ take n xs
take_min xs n m low all = elim (cases_lt m n) [
  | inl less ↦ let here = all less in take_all m xs here ∙ sym (take_all n xs (omega (arith, less, here)))
  | inr most ↦ ap (λ z. take z xs) (omega (arith, low, most))
]
