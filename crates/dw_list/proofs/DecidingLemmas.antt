-- Whether lines go on, and with what.
use Rattle.std.proofs.Common.{◌≡◌, ℕ, zero, suc, Bool, true, false, List, [], ◌∷◌, ◌++◌, refl, sym, subst, ◌⊎◌, inl}
use Rattle.std.proofs.Common.{inr, ◌↔◌}
use Rattle.std.specs.Prelude.{not}
use Rattle.std.proofs.lemmas.Bool.{cases_Bool}
use Rattle.dw_board.specs.Geometry.{Geometry, IsBoard}
use Rattle.dw_board.specs.Placement.{Placement}
use Rattle.dw_moves.specs.Moves.{Move, Legal, play, NoMove}
use Rattle.dw_board.specs.Lists.{Member}
use Rattle.dw_moves.specs.inner.MoveLemmas.{same_moves, same_moves-is}
use Rattle.dw_moves.specs.Order.{Precedes, IsAscending, IsListOf}
use Rattle.dw_moves.specs.Laws.{MovesListed, MovesInOrder}
use Rattle.dw_solve.specs.Wins.{Win, Lost}
use Rattle.dw_solve.specs.Laws.{WinsAreDecided}
use Rattle.dw_solve.specs.Lines.{Line}
use Rattle.dw_solve.specs.inner.LineLemmas.{win_line, line_wins}
use Rattle.dw_list.specs.inner.Ways.{GoesOn, IsNext, left_after, AreWays, AreWaysAmong}
use Rattle.dw_list.proofs.WayLemmas.{goes_to, goes_from, no_ways, ways_then, ways_through, ways_barred}
use Rattle.dw_list.proofs.WayLemmas.{ways_of_attacker, ways_of_defender, ways_end}

-- HOW LINES GO ON

-- the defender's moves lead on, each by some line
some_way : (g : Geometry) (q : Placement) (n : ℕ) → ((r : Move) → Legal g q r → (l : List Move)
    × Line g (play g q r) n l) → (rs : List Move) → ((r : Move) → Member r rs ↔ Legal g q r) → (t : List Move)
    × GoesOn g false q n t
some_way g q n each [] exact = ([], λ r legal. (exact r).1 legal)
some_way g q n each (r ∷ rs) exact = let legal = (exact r).0 (inl refl) in let k = each r legal in
    (r ∷ k.0, (legal, k.1))

pub lost_goes_on : MovesListed → (g : Geometry) (n : ℕ) (q : Placement) → Lost g q n → (t : List Move)
    × GoesOn g false q n t
lost_goes_on listed g n q lost = some_way g q n (λ r legal. win_line listed g n (play g q r) (lost r legal))
    (listed g q).0 (listed g q).1

pub none_begins : (g : Geometry) (p : Placement) (n : ℕ) (l : List Move) (m : Move) (rest : List Move) → Line g p n l
    → Line g p n (l ++ m ∷ rest) → ⊥
none_begins g p zero l m rest h k = absurd h
none_begins g p (suc n) [] m rest h k = absurd h
none_begins g p (suc n) (a ∷ []) m rest h k = h.2 m k.2
none_begins g p (suc n) (a ∷ r ∷ l) m rest h k = none_begins g (play g (play g p a) r) n l m rest h.3 k.3

-- WHAT CAN BE DECIDED

pub move_cases : (m n : Move) → (m ≡ n) ⊎ (m ≡ n → ⊥)
move_cases m n = elim (cases_Bool (same_moves m n)) [
  | inl e ↦ inl ((same_moves-is m n).0 e)
  | inr e ↦ inr (λ same. let t : same_moves m n ≡ true = (same_moves-is m n).1 same in cc)
]

pub member_or_not : (m : Move) (ms : List Move) → Member m ms ⊎ (Member m ms → ⊥)
member_or_not m [] = inr (λ h. h)
member_or_not m (n ∷ ms) = elim (move_cases m n) [
  | inl e ↦ inl (inl e)
  | inr apart ↦ elim (member_or_not m ms) [
    | inl h ↦ inl (inr h)
    | inr none ↦
        inr (λ h. elim h [ inl e ↦ apart e | inr k ↦ none k ])
  ]
]

legal_or_not : MovesListed → (g : Geometry) (p : Placement) (m : Move) → Legal g p m ⊎ (Legal g p m → ⊥)
legal_or_not listed g p m = elim (member_or_not m (listed g p).0) [
  | inl h ↦ inl (((listed g p).1 m).0 h)
  | inr none ↦ inr (λ h. none (((listed g p).1 m).1 h))
]

all_or_not : {X : Type 0} (P : X → Type 0) → ((x : X) → P x ⊎ (P x → ⊥)) → (xs : List X) → ((x : X) → Member x xs → P x)
    ⊎ ((x : X) × Member x xs × (P x → ⊥))
all_or_not P each [] = inl (λ x m. absurd m)
all_or_not P each (x ∷ xs) = elim (each x) [
  | inr n ↦ inr (x, inl refl, n)
  | inl here ↦ elim (all_or_not P each xs) [
    | inr n ↦ inr (n.0, inr n.1, n.2)
    | inl all ↦ inl (λ y m. elim m [ inl e ↦ subst P (sym e) here | inr k ↦ all y k ])
  ]
]

lost_or_not : MovesListed → WinsAreDecided → (g : Geometry) (q : Placement) (n : ℕ) → Lost g q n ⊎ (Lost g q n → ⊥)
lost_or_not listed decided g q n = elim (all_or_not (λ r. Win g (play g q r) n) (λ r. decided g (play g q r) n)
    (listed g q).0) [
      | inl all ↦ inl (λ r legal. all r (((listed g q).1 r).1 legal))
      | inr s ↦ inr (λ lost. s.2 (lost s.0 (((listed g q).1 s.0).0 s.1)))
    ]

both_or_not : (P Q : Type 0) → P ⊎ (P → ⊥) → Q ⊎ (Q → ⊥) → (P × Q) ⊎ (P × Q → ⊥)
both_or_not P Q (inl h) (inl k) = inl (h, k)
both_or_not P Q (inl h) (inr k) = inr (λ both. k both.1)
both_or_not P Q (inr h) d = inr (λ both. h both.0)

pub next_or_not : MovesListed → WinsAreDecided → (g : Geometry) (a : Bool) (p : Placement) (n : ℕ) (m : Move)
    → IsNext g a p n m ⊎ (IsNext g a p n m → ⊥)
next_or_not listed decided g true p zero m = inr (λ h. h)
next_or_not listed decided g true p (suc n) m =
    both_or_not (Legal g p m) (Lost g (play g p m) n) (legal_or_not listed g p m)
    (lost_or_not listed decided g (play g p m) n)
next_or_not listed decided g false q n m = legal_or_not listed g q m

none_or_some : (g : Geometry) (q : Placement) (rs : List Move) → ((r : Move) → Member r rs ↔ Legal g q r) → NoMove g q
    ⊎ (NoMove g q → ⊥)
none_or_some g q [] exact = inl (λ r legal. (exact r).1 legal)
none_or_some g q (r ∷ rs) exact = inr (λ none. none r ((exact r).0 (inl refl)))

pub goes_on_or_not : MovesListed → WinsAreDecided → (g : Geometry) (a : Bool) (p : Placement) (n : ℕ) (l : List Move)
    → GoesOn g a p n l ⊎ (GoesOn g a p n l → ⊥)
goes_on_or_not listed decided g true p zero [] = inr (λ h. h)
goes_on_or_not listed decided g true p (suc n) [] = inr (λ h. h)
goes_on_or_not listed decided g false q n [] = none_or_some g q (listed g q).0 (listed g q).1
goes_on_or_not listed decided g a p n (m ∷ l) =
    let both = both_or_not (IsNext g a p n m) (GoesOn g (not a) (play g p m) (left_after a n) l)
    (next_or_not listed decided g a p n m) (goes_on_or_not listed decided g (not a) (play g p m) (left_after a n)
    l) in
    elim both [
      | inl h ↦ inl (goes_to g a p n m l h.0 h.1)
      | inr none ↦ inr (λ h. none (goes_from g a p n m l h))
    ]

-- if the defender is to move, it has lost
abbrev pub IsLostFor : Geometry → Bool → Placement → ℕ → Type 0
IsLostFor g true p n = Unit {0}
IsLostFor g false q n = Lost g q n

pub lost_after : (g : Geometry) (a : Bool) (p : Placement) (n : ℕ) (m : Move) → IsNext g a p n m
    → IsLostFor g (not a) (play g p m) (left_after a n)
lost_after g true p zero m h = absurd h
lost_after g true p (suc n) m h = h.1
lost_after g false q n m h = tt

-- whether lines that go on can begin with these moves
pub begin_or_not : MovesListed → WinsAreDecided → (g : Geometry) (a : Bool) (p : Placement) (n : ℕ) (l : List Move)
    → IsLostFor g a p n → ((t : List Move) × GoesOn g a p n (l ++ t)) ⊎ (((t : List Move) × GoesOn g a p n (l ++ t))
    → ⊥)
begin_or_not listed decided g true p n [] lost = elim (decided g p n) [
  | inl w ↦ inl (win_line listed g n p w)
  | inr none ↦ inr (λ h. none (line_wins g p n h.0 h.1))
]
begin_or_not listed decided g false q n [] lost = inl (lost_goes_on listed g n q lost)
begin_or_not listed decided g a p n (m ∷ l) lost = elim (next_or_not listed decided g a p n m) [
  | inr none ↦ inr (λ h. none (goes_from g a p n m (l ++ h.0) h.1).0)
  | inl next ↦ elim (begin_or_not listed decided g (not a) (play g p m) (left_after a n) l
      (lost_after g a p n m next)) [
        | inl h ↦ inl (h.0, goes_to g a p n m (l ++ h.0) next h.1)
        | inr none ↦ inr (λ h. none (h.0, (goes_from g a p n m (l ++ h.0) h.1).1))
      ]
]

-- THE LISTS

-- the ways through each of these moves
gathered : (g : Geometry) (a : Bool) (p : Placement) (n : ℕ) → ((m : Move) → IsNext g a p n m ⊎ (IsNext g a p n m → ⊥))
    → ((m : Move) → (ks : List (List Move)) × AreWays g (not a) (play g p m) (left_after a n) ks) → (ms : List Move)
    → IsAscending (Precedes g p) ms → (ls : List (List Move)) × AreWaysAmong g a p n ms ls
gathered g a p n which each [] order = ([], no_ways g a p n)
gathered g a p n which each (m ∷ ms) order =
    let here : (ls : List (List Move)) × AreWaysAmong g a p n (m ∷ []) ls = elim (which m) [
      | inl next ↦ (_, ways_through g a p n m (each m).0 next (each m).1)
      | inr barred ↦ ([], ways_barred g a p n m barred)
    ] in
    let rest = gathered g a p n which each ms order.1 in (
      here.0 ++ rest.0,
      ways_then g a p n (m ∷ []) ms here.0 rest.0
          (λ x y h k. elim h [ inl e ↦ subst (λ z. Precedes g p z y) (sym e) (order.0 y k) | inr other ↦ absurd other ])
          here.1 rest.1,
    )

ways_of_any : (g : Geometry) (q : Placement) (n : ℕ) (ms : List Move) (ls : List (List Move))
    → IsListOf (Precedes g q) (Legal g q) ms → AreWaysAmong g false q n ms ls → (ks : List (List Move))
    × AreWays g false q n ks
ways_of_any g q n [] ls h w = ([] ∷ [], ways_end g q n (λ r legal. (h.exactly r).1 legal))
ways_of_any g q n (m ∷ ms) ls h w = (
  ls,
  ways_of_defender g q n m ms ls (λ r legal. (h.exactly r).1 legal) ((h.exactly m).0 (inl refl)) w,
)

ways_of_replies : MovesListed → WinsAreDecided → MovesInOrder → (g : Geometry) → IsBoard g → (n : ℕ)
    → ((p : Placement) → (ls : List (List Move)) × AreWays g true p n ls) → (q : Placement) → (ks : List (List Move))
    × AreWays g false q n ks
ways_of_replies listed decided order g board n each q =
    let ms = order.some g board q in
    let ways = gathered g false q n (next_or_not listed decided g false q n) (λ r. each (play g q r)) ms.0
    ms.1.ascending in
    ways_of_any g q n ms.0 ways.0 ms.1 ways.1

pub ways_exist : MovesListed → WinsAreDecided → MovesInOrder → (g : Geometry) → IsBoard g → (n : ℕ) (p : Placement)
    → (ls : List (List Move)) × AreWays g true p n ls
ways_exist listed decided order g board zero p =
    ([], record { ascending = tt; exactly = λ l. ((λ m. absurd m), (λ h. absurd h)) })
ways_exist listed decided order g board (suc n) p =
    let ms = order.some g board p in
    let ways = gathered g true p (suc n) (next_or_not listed decided g true p (suc n))
    (λ m. ways_of_replies listed decided order g board n (λ q. ways_exist listed decided order g board n q)
    (play g p m)) ms.0 ms.1.ascending in
    (ways.0, ways_of_attacker g p (suc n) ms.0 ways.0 (λ m legal. (ms.1.exactly m).1 legal) ways.1)
