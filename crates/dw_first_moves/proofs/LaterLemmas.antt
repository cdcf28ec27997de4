-- First moves that win later than the keys.
use Rattle.std.proofs.Common.{◌≡◌, ℕ, zero, suc, ◌+◌, ◌<◌, ◌≤◌, List, [], ◌∷◌, ◌++◌, length, map, take, get_or, refl}
use Rattle.std.proofs.Common.{arith, ap, ◌∙◌, sym, subst, inl, inr, append_assoc, append-nil}
use Rattle.std.proofs.lemmas.List.{take_more, map_push}
use Rattle.std.proofs.lemmas.Bool.{cases_lt}
use Rattle.dw_board.specs.Geometry.{Geometry}
use Rattle.dw_board.specs.Placement.{Placement}
use Rattle.dw_moves.specs.Moves.{Move, Legal, play}
use Rattle.dw_moves.specs.Order.{Precedes, IsListOf}
use Rattle.dw_solve.specs.Laws.{WinsStay}
use Rattle.dw_solve.specs.inner.ListLemmas.{listed_as}
use Rattle.dw_verdict.specs.Verdict.{IsWinning}
use Rattle.dw_verdict.specs.inner.GatheredLemmas.{GatheredTo, to_all}
use Rattle.dw_verdict.specs.inner.WinningLemmas.{winning_legal}
use Rattle.dw_notation.specs.Text.{IsMoveText}
use Rattle.dw_first_moves.specs.Later.{AreLater, WinsLater}
use Rattle.dw_first_moves.specs.LaterText.{AreLaterTexts, later_line, later_lines}

-- a move that wins within some moves wins within more
pub wider : WinsStay → (g : Geometry) (p : Placement) (m : Move) (k n : ℕ) → k ≤ n → IsWinning g p k m
    → IsWinning g p n m
wider stay g p m zero n few wins = absurd wins
wider stay g p m (suc k) zero few wins = absurd (omega (arith, few))
wider stay g p m (suc k) (suc n) few wins = (wins.0, stay.lost g (play g p m) k n (omega (arith, few)) wins.1)

-- a first move has one least number of moves
pub one_number : (g : Geometry) (p : Placement) (n most : ℕ) (m : Move) (a : Move × ℕ) (k : ℕ)
    → WinsLater g p n most (m, k) → a.0 ≡ m → WinsLater g p n most a → a ≡ (m, k)
one_number g p n most m (o, j) k here same there = elim (cases_lt k j) [
  | inl less ↦ absurd (there.0.none_less k less (subst (IsWinning g p k) (sym same) here.0.wins))
  | inr fails ↦ elim (cases_lt j k) [
    | inl more ↦ absurd (here.0.none_less j more (subst (IsWinning g p j) same there.0.wins))
    | inr neither ↦ let number : j ≡ k = omega (arith, fails, neither) in
        ap (λ z. (z, j)) same ∙ ap (λ z. (m, z)) number
  ]
]

-- the later wins that were found so far
abbrev pub LaterTo : {V : Type 0} → (V → Move) → Geometry → Placement → (n most : ℕ) → List V → ℕ → List (Move × ℕ)
    → Type 0
LaterTo step g p n most xs i later = GatheredTo step (Precedes g p) (λ (t : Move × ℕ). t.0) (WinsLater g p n most) xs i
    later

-- all of them
pub later_whole : {V : Type 0} (step : V → Move) (g : Geometry) (p : Placement) (n most : ℕ) (xs : List V) (i : ℕ)
    (later : List (Move × ℕ)) → length xs ≤ i → IsListOf (Precedes g p) (Legal g p) (map step xs)
    → LaterTo step g p n most xs i later → AreLater g p n most later
later_whole step g p n most xs i later end all h =
    listed_as (λ (a b : Move × ℕ). Precedes g p a.0 b.0) (λ (a : Move × ℕ). Legal g p a.0 × WinsLater g p n most a)
    (WinsLater g p n most) later (λ a f. f.1) (λ a f. (winning_legal g p a.1 a.0 f.0.wins, f))
    (to_all step (Precedes g p) (λ (t : Move × ℕ). t.0) (WinsLater g p n most) (Legal g p) xs i later end all h)

-- ---- their texts
texts_more : (g : Geometry) (p : Placement) (later : List (Move × ℕ)) (one : Move × ℕ) (texts : List (List ℕ × ℕ))
    (move : List ℕ) → AreLaterTexts g p later texts → IsMoveText g p one.0 move
    → AreLaterTexts g p (later ++ one ∷ []) (texts ++ (move, one.1) ∷ [])
texts_more g p [] one texts move none here = (move, [], here, refl, ap (λ z. z ++ (move, one.1) ∷ []) none)
texts_more g p (first ∷ later) one texts move h here = (
  h.0,
  h.1 ++ (move, one.1) ∷ [],
  h.2,
  texts_more g p later one h.1 move h.3 here,
  ap (λ z. z ++ (move, one.1) ∷ []) h.4,
)

pub later_next : (g : Geometry) (p : Placement) (later : List (Move × ℕ)) (i : ℕ) (one : Move × ℕ)
    (texts : List (List ℕ × ℕ)) (move : List ℕ) → AreLaterTexts g p (take i later) texts → i < length later
    → one ≡ get_or later i one → IsMoveText g p one.0 move
    → AreLaterTexts g p (take (i + 1) later) (texts ++ (move, one.1) ∷ [])
later_next g p later i one texts move before low at here =
    subst (λ z. AreLaterTexts g p z (texts ++ (move, one.1) ∷ []))
    (sym (take_more later i one low ∙ ap (λ z. take i later ++ z ∷ []) (sym at)))
    (texts_more g p (take i later) one texts move before here)

-- ---- their lines
lines_of_two : (a b : List (List ℕ × ℕ)) → later_lines (a ++ b) ≡ later_lines a ++ later_lines b
lines_of_two [] b = refl
lines_of_two (one ∷ a) b = ap (λ z. later_line one ++ z) (lines_of_two a b)
    ∙ sym (append_assoc (later_line one) (later_lines a) (later_lines b))

pub line_next : {V : Type 0} (told : V → List ℕ × ℕ) (texts : List V) (i : ℕ) (one : V) (lines line now : List ℕ)
    → i < length texts → one ≡ get_or texts i one → lines ≡ later_lines (map told (take i texts))
    → line ≡ later_line (told one) → now ≡ lines ++ line → now ≡ later_lines (map told (take (i + 1) texts))
line_next told texts i one lines line now low at before here is =
    is ∙ (ap (λ z. z ++ line) before ∙ (ap (λ z. later_lines (map told (take i texts)) ++ z)
    (here ∙ sym (append-nil (later_line (told one))))
    ∙ (sym (lines_of_two (map told (take i texts)) (told one ∷ []))
    ∙ ap later_lines (sym (map_push told (take i texts) one)
    ∙ ap (map told) (sym (take_more texts i one low ∙ ap (λ z. take i texts ++ z ∷ []) (sym at)))))))
