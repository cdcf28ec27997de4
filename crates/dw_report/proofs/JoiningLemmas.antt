-- The texts of moves that are written one after another.
use Rattle.std.proofs.Common.{◌≡◌, ℕ, zero, suc, ◌+◌, ◌<◌, ◌≤◌, List, [], ◌∷◌, ◌++◌, length, get_or, drop, refl}
use Rattle.std.proofs.Common.{sym, ap, ◌∙◌, subst, inl, inr, arith}
use Rattle.std.proofs.lemmas.List.{drop_more, drop_all}
use Rattle.dw_board.specs.Geometry.{Geometry}
use Rattle.dw_board.specs.Placement.{Placement}
use Rattle.dw_moves.specs.Moves.{Move, Legal, play}
use Rattle.dw_board.specs.Lists.{Member}
use Rattle.dw_notation.specs.Text.{IsMoveText, ArePlayable, AreMoveTexts}
use Rattle.dw_verdict.specs.Verdict.{reach}

-- the position after the first so many of some moves
pub record Reaches (g : Geometry) (p : Placement) (moves : List Move) (i : ℕ) (current : Placement) : Type 0 where
  pub playable : ArePlayable g current (drop i moves)
  pub same : reach g current (drop i moves) ≡ reach g p moves

pub reaches_start : (g : Geometry) (p : Placement) (moves : List Move) → ArePlayable g p moves → Reaches g p moves 0 p
reaches_start g p moves h = record { playable = h; same = refl }

pub reaches_next : (g : Geometry) (p : Placement) (moves : List Move) (i : ℕ) (current : Placement) (m : Move)
    → Reaches g p moves i current → i < length moves → m ≡ get_or moves i m
    → Legal g current m × Reaches g p moves (i + 1) (play g current m)
reaches_next g p moves i current m h low is =
    let split : drop i moves ≡ m ∷ drop (i + 1) moves = drop_more moves i m low
    ∙ ap (λ z. z ∷ drop (i + 1) moves) (sym is) in
    let playable : ArePlayable g current (m ∷ drop (i + 1) moves) = subst (ArePlayable g current) split h.playable in
    (playable.0, record { playable = playable.1; same = ap (reach g current) (sym split) ∙ h.same })

pub reaches_all : (g : Geometry) (p : Placement) (moves : List Move) (i : ℕ) (current : Placement)
    → Reaches g p moves i current → length moves ≤ i → current ≡ reach g p moves
reaches_all g p moves i current h end = ap (reach g current) (sym (drop_all i moves end)) ∙ h.same

-- the move at an index is one of them
pub one_of_them : {X : Type 0} (xs : List X) (i : ℕ) (x : X) → i < length xs → x ≡ get_or xs i x → Member x xs
one_of_them [] i x low is = absurd (omega (arith, low))
one_of_them (y ∷ xs) zero x low is = inl is
one_of_them (y ∷ xs) (suc i) x low is = inr (one_of_them xs i x (omega (arith, low)) is)

pub move_texts_more : (g : Geometry) (p : Placement) (ms : List Move) (m : Move) (texts : List (List ℕ)) (t : List ℕ)
    → AreMoveTexts g p ms texts → IsMoveText g p m t → AreMoveTexts g p (ms ++ m ∷ []) (texts ++ t ∷ [])
move_texts_more g p [] m texts t none is = (t, [], is, refl, ap (λ (z : List (List ℕ)). z ++ t ∷ []) none)
move_texts_more g p (n ∷ ms) m texts t (one, rest, here, are, e) is =
    (one, rest ++ t ∷ [], here, move_texts_more g p ms m rest t are is, ap (λ (z : List (List ℕ)). z ++ t ∷ []) e)
