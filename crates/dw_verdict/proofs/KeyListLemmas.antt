-- The keys gathered from all legal moves.
use Rattle.std.proofs.Common.{◌≡◌, ℕ, ◌-◌, ◌<◌, ◌≤◌, zero, suc, List, [], ◌∷◌, length, map, get_or, refl, subst, inl}
use Rattle.std.proofs.Common.{arith, sym, ap, ◌∙◌, Bool, false, IsTrue, ◌↔◌}
use Rattle.std.specs.FinSet as set
use Rattle.dw_board.specs.Geometry.{Geometry}
use Rattle.dw_board.specs.Placement.{Placement}
use Rattle.dw_moves.specs.Moves.{Move, Legal, play}
use Rattle.dw_moves.specs.Order.{Precedes, IsListOf}
use Rattle.dw_solve.specs.Wins.{Win, Lost}
use Rattle.dw_verdict.specs.Verdict.{Keys}
use Rattle.dw_verdict.specs.inner.GatheredLemmas.{GatheredTo, to_all}
use Rattle.dw_verdict.proofs.VerdictLemmas.{key_wins}

pub keys_whole : {V : Type 0} (step : V → Move) (g : Geometry) (p : Placement) (n : ℕ) (xs : List V) (i : ℕ)
    (ys : List Move) → 1 ≤ n → length xs ≤ i → IsListOf (Precedes g p) (Legal g p) (map step xs)
    → GatheredTo step (Precedes g p) (λ m. m) (λ m. Lost g (play g p m) (n - 1)) xs i ys → Keys g p n ys
keys_whole step g p zero xs i ys some end all h = absurd (omega (arith, some))
keys_whole step g p (suc n) xs i ys some end all h =
    let same : suc n - 1 ≡ n = omega arith in
    let kept = subst (λ k. GatheredTo step (Precedes g p) (λ m. m) (λ m. Lost g (play g p m) k) xs i ys) same h in
    let whole = to_all step (Precedes g p) (λ m. m) (λ m. Lost g (play g p m) n) (Legal g p) xs i ys end all kept in
    record { ascending = whole.ascending; exactly = whole.exactly }

pub some_win : (g : Geometry) (p : Placement) (n : ℕ) (ks : List Move) → 0 < length ks → Keys g p n ks → Win g p n
some_win g p n [] some keys = absurd (omega (arith, some))
some_win g p n (k ∷ ks) some keys = key_wins g p n k ((keys.exactly k).0 (inl refl))

-- none in a list of none
pub no_keys : (g : Geometry) (p : Placement) (n : ℕ) (ks : List Move) → length ks ≡ 0 → Keys g p n ks → Keys g p n []
no_keys g p n [] none keys = keys
no_keys g p n (k ∷ ks) none keys = absurd (omega (arith, none))

-- a move that stands for none
abbrev pub no_move : Move
no_move = record { from = 0; to = 0; taken = set.empty }

-- the one key of a list of one
pub only_key : (g : Geometry) (p : Placement) (n : ℕ) (ks : List Move) (d : Move) → length ks ≡ 1 → Keys g p n ks
    → Keys g p n (get_or ks 0 d ∷ [])
only_key g p n [] d one keys = absurd (omega (arith, one))
only_key g p n (k ∷ []) d one keys = keys
only_key g p n (k ∷ l ∷ ks) d one keys = absurd (omega (arith, one))

-- a move after which the answer is that its side does not lose
pub not_lost : (g : Geometry) (p after : Placement) (n : ℕ) (m z : Move) (lost : Bool) → after ≡ play g p m
    → (IsTrue lost ↔ Lost g after n) → lost ≡ false → z ≡ m → Lost g (play g p z) n → ⊥
not_lost g p after n m z lost there tells fails same h =
    let holds = tells.1 (subst (λ k. Lost g k n) (ap (play g p) same ∙ sym there) h) in cc

-- no move wins within no moves
pub keys_within_none : (g : Geometry) (p : Placement) (n : ℕ) (ks : List Move) → n ≡ 0 → ks ≡ []
    → Keys g p n ks
keys_within_none g p n ks none e = subst (λ k. Keys g p k ks) (sym none) (subst (Keys g p 0) (sym e)
    (record { ascending = tt; exactly = λ m. (λ h. absurd h, λ w. absurd w) }))
