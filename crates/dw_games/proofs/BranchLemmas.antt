-- What the reads of a list of nodes find, if these hang together.
use Rattle.std.proofs.Common.{◌≡◌, ◌==◌, ℕ, zero, suc, ◌+◌, ◌<◌, ◌≤◌, true, false, List, length, Option, Some, None}
use Rattle.std.proofs.Common.{refl, sym, ap, subst, ◌∙◌, get_or, arith, zero-le, inl, inr}
use Rattle.std.specs.Prelude.{option_map, ◌↔◌, MatchOption}
use Rattle.std.specs.List.{slice_get}
use Rattle.std.proofs.lemmas.Option.{slice_get_within, slice_get_read, slice_get-map}
use Rattle.std.proofs.lemmas.List.{length-map}
use Rattle.std.proofs.lemmas.Bool.{cases_lt, true≢false}
use Rattle.dw_moves.specs.Moves.{Move}
use Rattle.dw_games.specs.declared.branches.Branch.{Branch}
use Rattle.dw_games.specs.Walk.{place_of}
use Rattle.dw_games.specs.inner.Branches.{BranchStep, steps_of, firsts_of, nexts_of, positions_of, Hang, IsChild}
use Rattle.dw_games.specs.inner.Branches.{IsFirstChild}
use Rattle.dw_games.specs.inner.Branches.{IsLastChild, IsUnseen, IsChildOrNone, behind}
use Rattle.dw_games.proofs.PlaceLemmas.{same}
use Rattle.dw_games.proofs.PathLemmas.{got_some}

abbrev pub step_of : {B : Type 0} → Branch B → BranchStep
step_of b = record { parent = place_of b.parent; mv = b.mv }

module _ {B : Type 0} (branches : List (Branch B)) (i : ℕ) (b : Branch B) (inside : i < length branches)
    (is : b ≡ get_or branches i b) where
  pub step_at : slice_get (steps_of branches) i ≡ Some (step_of b)
  step_at = slice_get-map (λ x. step_of x) branches i
      ∙ ap (option_map (λ x. step_of x)) (slice_get_read branches (length branches) i b refl inside is)

  pub first_at : slice_get (firsts_of branches) i ≡ Some (place_of b.first_child)
  first_at = slice_get-map (λ x. place_of x.first_child) branches i
      ∙ ap (option_map (λ x. place_of x.first_child)) (slice_get_read branches (length branches) i b refl inside is)

  pub position_at : slice_get (positions_of branches) i ≡ Some b.position
  position_at = slice_get-map (λ x. x.position) branches i
      ∙ ap (option_map (λ x. x.position)) (slice_get_read branches (length branches) i b refl inside is)

  pub next_at : slice_get (nexts_of branches) i ≡ Some (place_of b.next_sibling)
  next_at = slice_get-map (λ x. place_of x.next_sibling) branches i
      ∙ ap (option_map (λ x. place_of x.next_sibling)) (slice_get_read branches (length branches) i b refl inside is)

pub steps_length : {B : Type 0} → (branches : List (Branch B)) → length (steps_of branches) ≡ length branches
steps_length branches = length-map branches (λ x. step_of x)

-- no node behind all others has a child
pub beyond : {B : Type 0} → (branches : List (Branch B)) → Hang branches → (i : ℕ) → length branches ≤ i
    → IsFirstChild (steps_of branches) (Some i) 0 None
beyond branches hang i past = λ k low child.
    let far : i < k = hang.above i k child in
    let near : k < length (steps_of branches) = slice_get_within _ k _ child.1 in
    omega (arith, steps_length branches)

child_step : (steps : List BranchStep) (s : BranchStep) (k : ℕ) → slice_get steps k ≡ Some s → IsChild steps s.parent k
child_step steps s k e = (s.mv, e)

top : (steps : List BranchStep) (p : Option ℕ) → ((n : ℕ) → IsChild steps (Some n) 0 → n < 0) → IsChild steps p 0
    → IsChild steps None 0
top steps None above h = h
top steps (Some n) above h = let no : n < 0 = above n h in absurd (omega (arith, no))

-- the first node is a child of the root
pub root_first : (steps : List BranchStep) → ((n k : ℕ) → IsChild steps (Some n) k → n < k) → 0 < length steps
    → IsFirstChild steps None 0 (Some 0)
root_first steps above some =
    let first = got_some steps 0 some in (
      zero-le,
      top steps first.0.parent (λ n h. above n 0 h) (child_step steps first.0 0 first.1),
      λ k low high child.
          omega (arith, high),
    )

pub not_empty : (n : ℕ) → false ≡ (n == 0) → 0 < n
not_empty zero e = absurd (true≢false (sym e))
not_empty (suc n) e = omega arith

-- ---- children in turn
-- a step that has a parent and a move is known by both
pub same_step : (steps : List BranchStep) (p q : Option ℕ) (m n : Move) (k : ℕ)
    → slice_get steps k ≡ Some (record { parent = p; mv = m }) → slice_get steps k ≡ Some (record {
      parent = q;
      mv = n;
    }) → (p ≡ q) × (m ≡ n)
same_step steps p q m n k a b =
    let e : record { parent = p; mv = m } ≡ record { parent = q; mv = n } = same _ _ (sym a ∙ b) in
    (ap (λ s. s.parent) e, ap (λ s. s.mv) e)

-- the next child is no other than by this move, or the one after it is looked at next
pub unseen_next : (steps : List BranchStep) (p : Option ℕ) (m other : Move) (from n : ℕ) → IsUnseen steps p m from
    → IsFirstChild steps p from (Some n) → slice_get steps n ≡ Some (record { parent = p; mv = other })
    → (other ≡ m → ⊥) → IsUnseen steps p m (n + 1)
unseen_next steps p m other from n unseen first here ne = λ k low e. elim (cases_lt k from) [
  | inl before ↦ unseen k before e
  | inr after ↦ elim (cases_lt k n) [
    | inl between ↦ first.2 k after between (m, e)
    | inr last ↦
        let is : k ≡ n = omega arith in
        ne ((same_step steps p p other m n here (subst (λ x. slice_get steps x ≡ Some (record { parent = p; mv = m }))
        is e)).1)
  ]
]

last_of : (steps : List BranchStep) (p last : Option ℕ) → IsChildOrNone steps p last → IsFirstChild steps p (behind
    last) None → IsLastChild steps p last
last_of steps p None is none = none
last_of steps p (Some n) is none = (is, none)

-- where no child is left, none was by this move, and the last one was the last of all
pub unseen_all : (steps : List BranchStep) (p : Option ℕ) (m : Move) (last : Option ℕ) → IsChildOrNone steps p last
    → IsFirstChild steps p (behind last) None → IsUnseen steps p m (behind last)
    → ((n : ℕ) → slice_get steps n ≡ Some (record { parent = p; mv = m }) → ⊥) × IsLastChild steps p last
unseen_all steps p m last is none unseen = (
  (λ n e. elim (cases_lt n (behind last)) [
    | inl before ↦ unseen n before e
    | inr after ↦ none n after (m, e)
  ]),
  last_of steps p last is none,
)

-- the next child, if it is by this move
pub found_by : (steps : List BranchStep) (p : Option ℕ) (m : Move) (n : ℕ) → IsChild steps p n
    → ((parent : Option ℕ) (other : Move) → slice_get steps n ≡ Some (record { parent = parent; mv = other })
    → (true ≡ true) ↔ (other ≡ m))
    → slice_get steps n ≡ Some (record { parent = p; mv = m })
found_by steps p m n child by =
    let is : child.0 ≡ m = (by p child.0 child.1).0 refl in
    subst (λ x. slice_get steps n ≡ Some (record { parent = p; mv = x })) is child.1

-- what holds after the next child, if it is not
pub goes_on : (P : Type 0) (steps : List BranchStep) (p : Option ℕ) (m : Move) (from n : ℕ) (next : Option ℕ) → IsUnseen
    steps p m from → IsFirstChild steps p from (Some n)
    → ((parent : Option ℕ) (other : Move) → slice_get steps n ≡ Some (record { parent = parent; mv = other })
    → (false ≡ true) ↔ (other ≡ m))
    → MatchOption (slice_get steps n) P (λ s. IsFirstChild steps s.parent (n + 1) next)
    → IsChild steps p n × IsFirstChild steps p (n + 1) next × IsUnseen steps p m (n + 1)
goes_on P steps p m from n next unseen first by behind =
    let there = first.1.1 in (
      first.1,
      rw there at behind,
      unseen_next steps p m first.1.0 from n unseen first there
          (λ e. true≢false (sym ((by p first.1.0 there).1 e))),
    )

pub child_inside : {B : Type 0} → (branches : List (Branch B)) (p : Option ℕ) (n : ℕ) → IsChild (steps_of branches) p n
    → n < length branches
child_inside branches p n child =
    let near : n < length (steps_of branches) = slice_get_within _ n _ child.1 in omega (arith, steps_length branches)
