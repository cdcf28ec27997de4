-- The only reply that refutes, looked for reply by reply.
use Rattle.std.proofs.Common.{◌≡◌, ℕ, ◌+◌, ◌<◌, ◌≤◌, suc, List, [], ◌∷◌, ◌++◌, length, map, take, drop, get_or, refl}
use Rattle.std.proofs.Common.{sym, ◌∙◌, subst, inl, inr, arith, Option, Some, None, Bool, true, false, ◌↔◌, IsTrue}
use Rattle.std.proofs.lemmas.List.{take_all}
use Rattle.dw_board.specs.Geometry.{Geometry}
use Rattle.dw_board.specs.Placement.{Placement}
use Rattle.dw_moves.specs.Moves.{Move, Legal, AreLegal, play}
use Rattle.dw_solve.specs.Wins.{Win}
use Rattle.dw_board.specs.Lists.{Member, NoRepeat}
use Rattle.dw_moves.specs.inner.MemberLemmas.{mem_left, mem_right, mem_cases}
use Rattle.dw_solve.specs.inner.ListLemmas.{at_item}
use Rattle.dw_verdict.specs.Verdict.{Refutes, FindsRefutation}

-- what was found among some replies: none, or the only one
abbrev pub FoundAmong : Geometry → Placement → ℕ → List Move → Option Move → Type 0
FoundAmong g q n rs None = (r : Move) → Member r rs → Refutes g q n r → ⊥
FoundAmong g q n rs (Some r) = Refutes g q n r × Member r rs × ((s : Move) → Member s rs → Refutes g q n s → s ≡ r)

-- among the first so many
abbrev pub FoundTo : {V : Type 0} → (V → Move) → Geometry → Placement → ℕ → List V → ℕ → Option Move → Type 0
FoundTo step g q n xs i found = FoundAmong g q n (map step (take i xs)) found

pub found_first : {V : Type 0} (step : V → Move) (g : Geometry) (q : Placement) (n : ℕ) (xs : List V) (i : ℕ) (x : V)
    (r : Move) → i < length xs → x ≡ get_or xs i x → r ≡ step x → Refutes g q n r → FoundTo step g q n xs i None
    → FoundTo step g q n xs (i + 1) (Some r)
found_first step g q n xs i x r low at is here none =
    let parts = at_item step xs i x low at in
    let one : i + 1 ≡ suc i = omega arith in
    subst (λ z. FoundTo step g q n xs z (Some r)) (sym one)
    (subst (λ z. FoundAmong g q n z (Some r)) (sym parts.1) (
      here,
      mem_right r (map step (take i xs)) (step x ∷ []) (inl is),
      λ s m h. elim (mem_cases s (map step (take i xs)) (step x ∷ []) m) [
        | inl early ↦ absurd (none s early h)
        | inr (inl e) ↦ e ∙ sym is
        | inr (inr over) ↦ absurd over
      ],
    ))

pub found_same : {V : Type 0} (step : V → Move) (g : Geometry) (q : Placement) (n : ℕ) (xs : List V) (i : ℕ) (x : V)
    (found : Option Move) → i < length xs → x ≡ get_or xs i x → (Refutes g q n (step x) → ⊥)
    → FoundTo step g q n xs i found → FoundTo step g q n xs (i + 1) found
found_same step g q n xs i x found low at not_so h =
    let parts = at_item step xs i x low at in
    let one : i + 1 ≡ suc i = omega arith in
    subst (λ z. FoundTo step g q n xs z found) (sym one) (subst (λ z. FoundAmong g q n z found) (sym parts.1)
    (still found h)) where
      still : (o : Option Move) → FoundTo step g q n xs i o → FoundAmong g q n (map step (take i xs) ++ step x ∷ []) o
      still None none = λ r m k. elim (mem_cases r (map step (take i xs)) (step x ∷ []) m) [
        | inl early ↦ none r early k
        | inr (inl e) ↦ not_so (subst (Refutes g q n) e k)
        | inr (inr over) ↦ over
      ]
      still (Some r) one = (
        one.0,
        mem_left r (map step (take i xs)) (step x ∷ []) one.1,
        λ s m k. elim (mem_cases s (map step (take i xs)) (step x ∷ []) m) [
          | inl early ↦ one.2 s early k
          | inr (inl e) ↦ absurd (not_so (subst (Refutes g q n) e k))
          | inr (inr over) ↦ absurd over
        ],
      )

-- a move that stands once in a list is none of those before it
apart : (r m : Move) (before after : List Move) → NoRepeat (before ++ m ∷ after) → Member r before → r ≡ m → ⊥
apart r m [] after once early is = early
apart r m (b ∷ before) after once (inl e) is =
    once.0 (subst (λ z. Member z (before ++ m ∷ after)) (sym is ∙ e) (mem_right m before (m ∷ after) (inl refl)))
apart r m (b ∷ before) after once (inr early) is = apart r m before after once.1 early is

-- a second one: then none is the only one
pub found_second : {V : Type 0} (step : V → Move) (g : Geometry) (q : Placement) (n : ℕ) (xs : List V) (i : ℕ) (x : V)
    (r m : Move) → NoRepeat (map step xs) → i < length xs → x ≡ get_or xs i x → m ≡ step x → Refutes g q n m
    → FoundTo step g q n xs i (Some r) → FindsRefutation g q n None
found_second step g q n xs i x r m once low at is here one s only =
    let parts = at_item step xs i x low at in
    let e : r ≡ s = only.only r one.0 in
    let f : m ≡ s = only.only m here in
    apart r (step x) (map step (take i xs)) (map step (drop (suc i) xs)) (subst NoRepeat parts.0 once) one.1 (e ∙ sym f
    ∙ is)

pub found_all : {V : Type 0} (step : V → Move) (g : Geometry) (q : Placement) (n : ℕ) (xs : List V) (i : ℕ)
    (found : Option Move) → length xs ≤ i → AreLegal g q (map step xs) → FoundTo step g q n xs i found
    → FindsRefutation g q n found
found_all step g q n xs i None end all h =
    let whole = subst (λ z. FoundAmong g q n (map step z) None) (take_all i xs end) h in
    λ r only. whole r ((all.exactly r).1 only.refutes.0) only.refutes
found_all step g q n xs i (Some r) end all h =
    let whole = subst (λ z. FoundAmong g q n (map step z) (Some r)) (take_all i xs end) h in
    record { refutes = whole.0; only = λ s k. whole.2 s ((all.exactly s).1 k.0) k }

-- what stands at a place is a legal move
pub legal_at : {V : Type 0} (step : V → Move) (g : Geometry) (q : Placement) (xs : List V) (i : ℕ) (x : V)
    → AreLegal g q (map step xs) → i < length xs → x ≡ get_or xs i x → Legal g q (step x)
legal_at step g q xs i x all low at =
    let parts = at_item step xs i x low at in
    (all.exactly (step x)).0 (subst (Member (step x)) (sym parts.0) (mem_right (step x) (map step (take i xs))
    (step x ∷ map step (drop (suc i) xs)) (inl refl)))

-- a reply after which the answer is that there is no win
pub refutes_if : (g : Geometry) (q after : Placement) (n : ℕ) (r : Move) (won : Bool) → Legal g q r
    → after ≡ play g q r → (IsTrue won ↔ Win g after n) → won ≡ false → Refutes g q n r
refutes_if g q after n r won legal there tells fails = (
  legal,
  λ w. let holds = tells.1 (subst (λ z. Win g z n) (sym there) w) in cc,
)

-- and one after which there is
pub refutes_not : (g : Geometry) (q after : Placement) (n : ℕ) (r : Move) (won : Bool) → after ≡ play g q r
    → (IsTrue won ↔ Win g after n) → won ≡ true → Refutes g q n r → ⊥
refutes_not g q after n r won there tells holds h = h.1 (subst (λ z. Win g z n) there (tells.0 holds))
