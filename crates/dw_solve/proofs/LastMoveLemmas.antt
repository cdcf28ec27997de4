-- The last move of the attacker: it wins if it leaves no reply.
use Rattle.std.proofs.Common.{◌≡◌, ℕ, ◌+◌, ◌≤◌, ◌<◌, List, length, get_or, refl, sym, ◌∙◌, subst, inl, inr, ◌↔◌, arith}
use Rattle.std.proofs.Common.{Bool, true, false}
use Rattle.std.specs.Prelude.{IsTrue}
use Rattle.std.proofs.lemmas.Bool.{true≢false}
use Rattle.dw_board.specs.Geometry.{Geometry}
use Rattle.dw_board.specs.Placement.{Placement}
use Rattle.dw_moves.specs.Moves.{Move, Legal, AreLegal, play}
use Rattle.dw_memo.specs.Content.{Content}
use Rattle.dw_solve.specs.Wins.{Win}
use Rattle.dw_solve.specs.inner.Ranking.{IsLastWin}
use Rattle.dw_solve.specs.inner.Searching.{SaysMove}
use Rattle.dw_solve.proofs.RankLemmas.{get_same, index_of, split}

-- each move at an index below i leaves a reply
abbrev pub Replied : Geometry → Placement → List Move → ℕ → Type 0
Replied g p moves i = (k : ℕ) (m : Move) → k < i → m ≡ get_or moves k m → (r : Move) × Legal g (play g p m) r

pub replied_more : (g : Geometry) (p q : Placement) (moves : List Move) (i : ℕ) (m : Move) (has : Bool)
    → Replied g p moves i → i < length moves → m ≡ get_or moves i m → q ≡ play g p m → IsTrue has
    ↔ ((r : Move) × Legal g q r) → has ≡ true
    → Replied g p moves (i + 1)
replied_more g p q moves i m has h low is q_is some there k n under e = elim (split k i under) [
  | inl at ↦
      let at_i : n ≡ get_or moves i n = subst (λ z. n ≡ get_or moves z n) at e in
      let same : m ≡ n = is ∙ (get_same moves i m n low ∙ sym at_i) in
      subst (λ z. (r : Move) × Legal g (play g p z) r) same (subst (λ z. (r : Move) × Legal g z r) q_is (some.0 there))
  | inr less ↦ h k n less e
]

pub last_lost : (g : Geometry) (p : Placement) (moves : List Move) (i : ℕ) → AreLegal g p moves → length moves ≤ i
    → Replied g p moves i → IsLastWin g p false
last_lost g p moves i legal end h = record {
  when = λ e. absurd (true≢false (sym e));
  unless = λ _ m l. let k = index_of m moves ((legal.exactly m).1 l) in h k.0 m (omega (arith, k.1, end)) k.2;
}

pub last_won : (g : Geometry) (p q : Placement) (m : Move) (has : Bool) → Legal g p m → q ≡ play g p m → IsTrue has
    ↔ ((r : Move) × Legal g q r) → has ≡ false → IsLastWin g p true
last_won g p q m has l q_is some none = record {
  when = λ _. (m, l, λ r reply. true≢false (sym (some.1 (r, subst (λ z. Legal g z r) (sym q_is) reply)) ∙ none));
  unless = λ e. absurd (e refl);
}

-- so it tells whether there is a win in one move
pub last_answer : (g : Geometry) (p : Placement) (answer : Bool) → IsLastWin g p answer → IsTrue answer ↔ Win g p 1
last_answer g p true h = let w = h.when refl in ((λ _. (w.0, w.1, λ r l. absurd (w.2 r l))), λ _. refl)
last_answer g p false h = (
  (λ e. absurd (true≢false (sym e))),
  (λ w. let r = h.unless (λ e. true≢false (sym e)) w.0 w.1 in absurd (w.2 r.0 r.1)),
)

pub says_last : (g : Geometry) (c : Content) (p : Placement) (answer : Bool) → IsLastWin g p answer
    → SaysMove g c p 0 answer
says_last g c p answer h = record {
  when = λ e. let w = h.when e in (w.0, w.1, λ r l. absurd (w.2 r l));
  unless = λ e m l. let r = h.unless e m l in (r.0, r.1, inl refl);
}
