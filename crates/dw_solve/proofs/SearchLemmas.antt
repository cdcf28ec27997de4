-- Steps of a search.
use Rattle.std.proofs.Common.{◌≡◌, ℕ, ◌+◌, ◌-◌, ◌*◌, ◌≤◌, ◌<◌, ◌⊎◌, inl, inr, Bool, true, false, refl, sym, ◌∙◌, subst}
use Rattle.std.proofs.Common.{◌↔◌, arith, IsTrue, Ok, Err}
use Rattle.std.specs.Prelude.{not, Option, Some, None, IsSome, MatchOption, Result, OnOk}
use Rattle.std.proofs.lemmas.Bool.{true≢false}
use Rattle.dw_board.specs.Geometry.{Geometry}
use Rattle.dw_board.specs.Placement.{Placement}
use Rattle.dw_board.specs.Lists.{Member}
use Rattle.dw_memo.specs.Content.{Content, IsMap, SameEntries, entry}
use Rattle.dw_memo.specs.Bounding.{decided}
use Rattle.dw_memo.specs.declared.bounds.Bounds.{Bounds}
use Rattle.dw_moves.specs.Moves.{Move, Legal, play}
use Rattle.dw_solve.specs.Wins.{Win, Lost}
use Rattle.dw_solve.specs.Certificates.{SaysLost}
use Rattle.dw_solve.specs.Facts.{AreTrue, IsDecided, RepliesAreDecided}
use Rattle.dw_solve.specs.Searching.{IsCounted}
use Rattle.dw_solve.specs.inner.Searching.{IsUndecided, IsLookedUp}
use Rattle.dw_solve.proofs.MemoLemmas.{same_win, same_fail, decided_right, decided_known, decided_says, undecided_open}

pub is_so : (b : Bool) (P : Type 0) → (IsTrue b ↔ P) → b ≡ true → P
is_so b P h e = h.0 e

pub is_not : (b : Bool) (P : Type 0) → (IsTrue b ↔ P) → b ≡ false → P → ⊥
is_not b P h e p = true≢false (sym (h.1 p) ∙ e)

pub answer_no : (P : Type 0) → (P → ⊥) → IsTrue false ↔ P
answer_no P no_win = ((λ e. absurd (true≢false (sym e))), (λ p. absurd (no_win p)))

pub answer_yes : (P : Type 0) → P → IsTrue true ↔ P
answer_yes P p = ((λ _. p), (λ _. refl))

-- no win within any number below i
abbrev pub NoneBelow : Geometry → Placement → ℕ → Type 0
NoneBelow g p i = (j : ℕ) → j < i → Win g p j → ⊥

pub none_below_one : (g : Geometry) (p : Placement) → NoneBelow g p 1
none_below_one g p j low w = let e : j ≡ 0 = omega (arith, low) in subst (Win g p) e w

pub none_below_more : (g : Geometry) (p : Placement) (i : ℕ) → NoneBelow g p i → (Win g p i → ⊥) → NoneBelow g p (i + 1)
none_below_more g p i h none j low w = elim (split j i low) [
  | inl e ↦ none (subst (Win g p) e w)
  | inr l ↦ h j l w
] where
  split : (j i : ℕ) → j < i + 1 → (j ≡ i) ⊎ (j < i)
  split j i low = grind arith

-- where no move of the attacker is left, a side has lost if it has no move
pub lost_at_none : (g : Geometry) (q : Placement) (n : ℕ) (has : Bool) → n ≡ 0
    → (IsTrue has ↔ ((m : Move) × Legal g q m)) → IsTrue (not has) ↔ Lost g q n
lost_at_none g q n true none h = (
  (λ e. absurd (true≢false (sym e))),
  (λ lost. let m = h.0 refl in absurd (subst (λ k. Lost g q k) none lost m.0 m.1)),
)
lost_at_none g q n false none h = ((λ e r legal. absurd (true≢false (sym (h.1 (r, legal))))), (λ lost. refl))

pub says_at_none : (g : Geometry) (c : Content) (q : Placement) (n : ℕ) (has : Bool) → n ≡ 0
    → (IsTrue has ↔ ((m : Move) × Legal g q m)) → SaysLost g c q n (not has)
says_at_none g c q n true none h = record {
  when = λ e. absurd (true≢false (sym e));
  unless = λ e. let m = h.0 refl in (m.0, m.1, inl none);
}
says_at_none g c q n false none h = record {
  when = λ e r legal. absurd (true≢false (sym (h.1 (r, legal))));
  unless = λ e. absurd (e refl);
}

-- what is decided is so in a memo with the same entries
pub decided_same : (c d : Content) (p : Placement) (n : ℕ) → SameEntries c d → IsDecided c p n → IsDecided d p n
decided_same c d p n same (inl w) = inl (same_win d c (λ e. ((same e).1, (same e).0)) p n w)
decided_same c d p n same (inr f) = inr (same_fail d c (λ e. ((same e).1, (same e).0)) p n f)

-- nothing is counted, and no entry changes
abbrev pub Unchanged : Content → ℕ → Content → ℕ → Type 0
Unchanged c e d f = (f ≡ e) × SameEntries c d

pub unchanged_none : (c : Content) (e : ℕ) → Unchanged c e c e
unchanged_none c e = (refl, λ x. ((λ m. m), (λ m. m)))

pub unchanged_then : (a b c : Content) (e f h : ℕ) → Unchanged a e b f → Unchanged b f c h → Unchanged a e c h
unchanged_then a b c e f h u v = (v.0 ∙ u.0, λ x. ((λ m. (v.1 x).0 ((u.1 x).0 m)), (λ m. (u.1 x).1 ((v.1 x).1 m))))

-- a reply is asked about that is decided
pub reply_decided : (g : Geometry) (c d : Content) (q p : Placement) (r : Move) (n e f : ℕ) → RepliesAreDecided g c q n
    → Unchanged c e d f → Legal g q r → p ≡ play g q r → (n ≡ 0) ⊎ IsDecided d p n
reply_decided g c d q p r n e f all u legal at = elim (all r legal) [
  | inl none ↦ inl none
  | inr k ↦ inr (subst (λ z. IsDecided d z n) (sym at) (decided_same c d (play g q r) n u.1 k))
]

-- and all replies are that were, if no entry changes
pub replies_same : (g : Geometry) (c d : Content) (q : Placement) (n : ℕ) → SameEntries c d → RepliesAreDecided g c q n
    → RepliesAreDecided g d q n
replies_same g c d q n same all r legal = elim (all r legal) [
  | inl none ↦ inl none
  | inr k ↦ inr (decided_same c d (play g q r) n same k)
]

-- an answer is no stop
pub ok_is_no_err : {A E : Type 0} (x : A) (e : E) → Ok x ≡ Err e → ⊥
ok_is_no_err x e q = cc

-- what is searched is not decided
pub never_known : (Q : Type 0) (n : ℕ) (P : Type 0) → 1 ≤ n → (P → ⊥) → (n ≡ 0) ⊎ P → Q
never_known Q n P some unknown (inl none) = absurd (omega (arith, some, none))
never_known Q n P some unknown (inr known) = absurd (unknown known)

-- nor is what a memo with the same entries does not decide
pub not_known : (Q : Type 0) (c d : Content) (p : Placement) (n : ℕ) → SameEntries c d → IsUndecided d p n
    → (n ≡ 0) ⊎ IsDecided c p n → Q
not_known Q c d p n same none = never_known Q n (IsDecided c p n) none.some
    (λ known. none.undecided (decided_same c d p n same known))

-- an answer that has counted one has counted it since an earlier time, at which the count was the same
pub spent_in : {A E : Type 0} (P Q : Type 0) (answer : Result A E) (a b e : ℕ) → b ≡ a → OnOk answer (b < e)
    → OnOk answer (P → Q → a < e)
spent_in P Q (Ok x) a b e same spent = λ _ _. omega (arith, same, spent)
spent_in P Q (Err x) a b e same spent = tt

-- what the bounds of a position tell of a win within n moves
pub looked_up : (g : Geometry) (c d : Content) (p : Placement) (b : Bounds) (n : ℕ) (r : Option Bool) → AreTrue g c
    → IsMap d → SameEntries c d → Member (entry p b) c → r ≡ decided b n → 1 ≤ n → IsLookedUp g c d p n r
looked_up g c d p b n (Some won) right map same held is some = record {
  answer = decided_right g c p b n (Some won) right held is;
  sure = inr (decided_known c p b n (Some won) held is refl);
  says = decided_says d p b n (Some won) ((same (entry p b)).0 held) is;
}
looked_up g c d p b n None right map same held is some = record {
  some = some;
  undecided = undecided_open d p b n None map ((same (entry p b)).0 held) is refl;
  map = map;
}

-- of a list that is not empty there is a first item
pub some_first : {X : Type 0} (o : Option X) (n : ℕ) (Q : X → Type 0) → MatchOption o (n ≡ 0) Q → 1 ≤ n → IsSome o
some_first (Some x) n Q cases some = refl
some_first None n Q cases some = absurd (omega (arith, cases, some))

-- arithmetic of a search, apart from what else is known in it
pub none_below_none : (k : ℕ) → k < 0 → ⊥
none_below_none k low = omega (arith, low)

pub none_or_some : (n : ℕ) → n ≡ 0 → 1 ≤ n → ⊥
none_or_some n none some = omega (arith, none, some)

pub one_at_most : (n : ℕ) → n ≡ 1 → 1 ≤ n
one_at_most n one = omega (arith, one)

pub one_less : (n : ℕ) → 1 ≤ n → n - 1 + 1 ≡ n
one_less n some = omega (arith, some)

pub counted_within : (a l b l' : ℕ) → IsCounted a l b l' → b ≤ l'
counted_within a l b l' k = omega (arith, k.within, k.same)

pub one_spent : (a b c d e : ℕ) → b ≡ a → c ≡ b + 1 → c ≤ d → e ≡ d → a < e
one_spent a b c d e same more rises count = omega (arith, same, more, rises, count)

pub same_within : (a l b l' : ℕ) → a ≤ l → b ≡ a → l' ≡ l → b ≤ l'
same_within a l b l' low count limit = omega (arith, low, count, limit)

pub room_for_moves : (n p : ℕ) → 2 * n ≤ p → 1 ≤ n → 1 ≤ p
room_for_moves n p room some = omega (arith, room, some)

pub room_left : (n p r s : ℕ) → (0 < n → 2 * n + 1 ≤ p) → (n ≡ 0 → ⊥) → r + 1 ≡ p → s ≡ r → 2 * n ≤ s
room_left n p r s room some rest same = omega (arith, rest, same, room (omega (arith, some)))

pub room_after : (n p r : ℕ) → 1 ≤ n → r + 1 ≡ p → 2 * n ≤ p → 2 * (n - 1) + 1 ≤ r
room_after n p r some rest room = omega (arith, some, rest, room)

pub none_at_most : (n : ℕ) → 0 ≤ n
none_at_most n = omega arith

pub same_at_most : (n : ℕ) → n ≤ n
same_at_most n = omega arith
