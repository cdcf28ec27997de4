-- Writing bytes: what was written so far.
use Rattle.std.proofs.Common.{◌≡◌, ℕ, suc, ◌+◌, ◌*◌, ◌<◌, List, [], ◌∷◌, ◌++◌, length, drop, get_or, refl, sym, ap, ◌∙◌}
use Rattle.std.proofs.Common.{arith, append_assoc, append-nil, length-append, length-drop, add-one, drop-cons}
use Rattle.std.specs.Int.{w64, to_be_bytes}
use Rattle.dw_board.specs.Geometry.{Geometry}
use Rattle.dw_moves.specs.Moves.{Move}
use Rattle.dw_list.specs.Tokens.{number_of, move_bytes, moves_bytes, line_bytes}

pub length-move_bytes : (g : Geometry) (step : Move) → length (move_bytes g step) ≡ 10
unfolding move_bytes
length-move_bytes g step = refl

pub move_pushed : (g : Geometry) (step : Move) (old one two three eight : List ℕ) (from to number : ℕ)
    → one ≡ old ++ from ∷ [] → two ≡ one ++ to ∷ [] → three ≡ two ++ eight → from ≡ step.from → to ≡ step.to
    → eight ≡ to_be_bytes w64 number → number ≡ number_of g step.taken
    → three ≡ old ++ move_bytes g step
unfolding move_bytes
move_pushed g step old one two three eight from to number a b c f t e n =
    let j : three ≡ ((old ++ from ∷ []) ++ to ∷ []) ++ eight = c
    ∙ ap (λ z. z ++ eight) (b ∙ ap (λ z. z ++ to ∷ []) a) in
    let k : ((old ++ from ∷ []) ++ to ∷ []) ++ eight ≡ old ++ (from ∷ to ∷ eight) = simp append_assoc in
    let same : eight ≡ to_be_bytes w64 (number_of g step.taken) = e ∙ ap (to_be_bytes w64) n in
    j ∙ (k ∙ (ap (λ x. old ++ (x ∷ to ∷ eight)) f ∙ (ap (λ x. old ++ (step.from ∷ x ∷ eight)) t
    ∙ ap (λ x. old ++ (step.from ∷ step.to ∷ x)) same)))

-- a line's bytes up to a place
pub record IsWrittenTo (g : Geometry) (line : List Move) (items : List ℕ) (place : ℕ) : Type 0 where
  pub whole : items ++ moves_bytes g (drop place line) ≡ line_bytes g line
  pub number : length items ≡ 3 + 10 * place

step_here : (g : Geometry) (line : List Move) (place : ℕ) (step : Move) → place < length line
    → step ≡ get_or line place step → move_bytes g step ++ moves_bytes g (drop (place + 1) line)
    ≡ moves_bytes g (drop place line)
unfolding moves_bytes
step_here g line place step lt is =
    let e : drop place line ≡ get_or line place step ∷ drop (suc place) line = drop-cons line place step lt in
    rw (add-one, e, ← is) refl

pub written_more : (g : Geometry) (line : List Move) (items next : List ℕ) (place : ℕ) (step : Move)
    → place < length line → step ≡ get_or line place step → next ≡ items ++ move_bytes g step
    → IsWrittenTo g line items place → IsWrittenTo g line next (place + 1)
written_more g line items next place step lt is e h = record {
  whole = ap (λ z. z ++ moves_bytes g (drop (place + 1) line)) e ∙ (append_assoc items (move_bytes g step) _
      ∙ (ap (λ z. items ++ z) (step_here g line place step lt is) ∙ h.whole));
  number = let k = h.number in omega (
    arith,
    ap length e,
    length-append items (move_bytes g step),
    length-move_bytes g step,
  );
}

no_moves : (moves : List Move) → length moves ≡ 0 → moves ≡ []
no_moves [] e = refl
no_moves (x ∷ moves) e = absurd (omega arith)

none_left : (g : Geometry) (line : List Move) → moves_bytes g (drop (length line) line) ≡ []
unfolding moves_bytes
none_left g line = ap (moves_bytes g) (no_moves (drop (length line) line)
    (omega (arith, length-drop (length line) line)))

pub written_end : (g : Geometry) (line : List Move) (items : List ℕ) → IsWrittenTo g line items (length line)
    → items ≡ line_bytes g line
written_end g line items h = sym (append-nil items) ∙ (ap (λ z. items ++ z) (sym (none_left g line)) ∙ h.whole)
