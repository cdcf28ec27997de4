-- What follows from the definition of a win alone.
use Rattle.std.proofs.Common.{◌≡◌, ℕ, ◌≤◌, ◌-◌, zero, suc, subst, sym, false, List, [], ◌∷◌, ◌⊎◌, inl, inr, arith, refl}
use Rattle.dw_board.specs.Geometry.{Geometry}
use Rattle.dw_board.specs.Placement.{Placement}
use Rattle.dw_moves.specs.Moves.{Move, Legal, play}
use Rattle.dw_board.specs.Lists.{Member}
use Rattle.dw_moves.specs.Laws.{MovesListed}
use Rattle.dw_moves.specs.Replies.{AlwaysReply}
use Rattle.std.proofs.lemmas.Bool.{true≢false}
use Rattle.dw_memo.specs.Content.{Content}
use Rattle.dw_solve.specs.Wins.{Win}
use Rattle.dw_solve.specs.inner.Searching.{SaysMove}

Win-suc : (g : Geometry) (p : Placement) (n : ℕ) → Win g p n → Win g p (suc n)
Win-suc g p zero w = absurd w
Win-suc g p (suc n) w = (w.0, w.1, λ r legal. Win-suc g (play g (play g p w.0) r) n (w.2 r legal))

pub Win-le : (g : Geometry) (p : Placement) (m n : ℕ) → m ≤ n → Win g p m → Win g p n
Win-le g p m zero h w = let e : m ≡ 0 = omega arith in subst (Win g p) e w
Win-le g p m (suc n) h w = elim (split m n h) [
  | inl e ↦ subst (Win g p) e w
  | inr l ↦ Win-suc g p n (Win-le g p m n l w)
] where
  split : (m n : ℕ) → m ≤ suc n → (m ≡ suc n) ⊎ (m ≤ n)
  split m n h = grind arith

all_or_not : {X : Type 0} (P : X → Type 0) → ((x : X) → P x ⊎ (P x → ⊥)) → (xs : List X) → ((x : X) → Member x xs → P x)
    ⊎ ((x : X) × Member x xs × (P x → ⊥))
all_or_not P each [] = inl (λ x m. absurd m)
all_or_not P each (x ∷ xs) = elim (each x) [
  | inr n ↦ inr (x, inl refl, n)
  | inl here ↦ elim (all_or_not P each xs) [
    | inr n ↦ inr (n.0, inr n.1, n.2)
    | inl all ↦ inl (λ y m. elim m [ inl e ↦ subst P (sym e) here | inr k ↦ all y k ])
  ]
]

some_or_not : {X : Type 0} (P : X → Type 0) → ((x : X) → P x ⊎ (P x → ⊥)) → (xs : List X)
    → ((x : X) × Member x xs × P x) ⊎ ((x : X) → Member x xs → P x → ⊥)
some_or_not P each [] = inr (λ x m. absurd m)
some_or_not P each (x ∷ xs) = elim (each x) [
  | inl here ↦ inl (x, inl refl, here)
  | inr n ↦ elim (some_or_not P each xs) [
    | inl s ↦ inl (s.0, inr s.1, s.2)
    | inr none ↦ inr (λ y m. elim m [ inl e ↦ subst (λ z. P z → ⊥) (sym e) n | inr k ↦ none y k ])
  ]
]

-- a move wins where every reply to it leads to a win
abbrev Wins : Geometry → Placement → ℕ → Move → Type 0
Wins g p n m = (r : Move) → Legal g (play g p m) r → Win g (play g (play g p m) r) n

wins_or_not : MovesListed → (g : Geometry) (p : Placement) (n : ℕ) → ((q : Placement) → Win g q n ⊎ (Win g q n → ⊥))
    → (m : Move) → Wins g p n m ⊎ (Wins g p n m → ⊥)
wins_or_not listed g p n each m =
    let replies = listed g (play g p m) in
    elim (all_or_not (λ r. Win g (play g (play g p m) r) n) (λ r. each (play g (play g p m) r)) replies.0) [
      | inl all ↦ inl (λ r legal. all r ((replies.1 r).1 legal))
      | inr s ↦ inr (λ w. s.2 (w s.0 ((replies.1 s.0).0 s.1)))
    ]

pub win_or_not : MovesListed → (g : Geometry) (p : Placement) (n : ℕ) → Win g p n ⊎ (Win g p n → ⊥)
win_or_not listed g p zero = inr (λ w. w)
win_or_not listed g p (suc n) =
    let moves = listed g p in
    elim (some_or_not (Wins g p n) (wins_or_not listed g p n (λ q. win_or_not listed g q n)) moves.0) [
      | inl s ↦ inl (s.0, (moves.1 s.0).0 s.1, s.2)
      | inr none ↦ inr (λ w. none w.0 ((moves.1 w.0).1 w.1) w.2)
    ]

-- a reply to each move leaves no win in one
pub replied_no_win : (g : Geometry) (p : Placement) → AlwaysReply g p → Win g p 1 → ⊥
replied_no_win g p always w = let r = always w.0 w.1 in w.2 r.0 r.1

-- so the attacker's last move does not win
pub hopeless_is : (g : Geometry) (p : Placement) (n : ℕ) → n ≡ 1 → AlwaysReply g p → Win g p n → ⊥
hopeless_is g p n one always w = replied_no_win g p always (subst (Win g p) one w)

pub says_hopeless : (g : Geometry) (c : Content) (p : Placement) (n : ℕ) → n ≡ 1 → AlwaysReply g p
    → SaysMove g c p (n - 1) false
says_hopeless g c p n one always = record {
  when = λ t. absurd (true≢false (sym t));
  unless = λ _ m legal. let r = always m legal in (r.0, r.1, inl (omega arith));
}
