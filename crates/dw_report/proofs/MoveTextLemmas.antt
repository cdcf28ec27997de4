-- The texts of moves and of tries, gathered one after another.
use Rattle.std.proofs.Common.{◌≡◌, ℕ, ◌+◌, ◌<◌, zero, suc, List, [], ◌∷◌, ◌++◌, length, map, take, get_or, refl, sym}
use Rattle.std.proofs.Common.{ap, ◌∙◌, subst, inl, inr, arith}
use Rattle.std.proofs.lemmas.List.{take_more, map_push}
use Rattle.dw_board.specs.Geometry.{Geometry}
use Rattle.dw_board.specs.Placement.{Placement}
use Rattle.dw_board.specs.Lists.{Member}
use Rattle.dw_moves.specs.Moves.{Move}
use Rattle.dw_notation.specs.Text.{IsMoveText, AreMoveTexts}
use Rattle.dw_solve.specs.Lines.{Line}
use Rattle.dw_verdict.specs.Verdict.{IsWinning, Keys, IsVerdict, dual}
use Rattle.dw_report.specs.MoveTexts.{AreTryTexts}
use Rattle.dw_report.specs.inner.MoveTexts.{IsTryWords}
use Rattle.dw_report.proofs.JoiningLemmas.{move_texts_more}

pub texts_next : (g : Geometry) (p : Placement) (moves : List Move) (i : ℕ) (m : Move) (texts : List (List ℕ))
    (text : List ℕ) → AreMoveTexts g p (take i moves) texts → i < length moves → m ≡ get_or moves i m
    → IsMoveText g p m text → AreMoveTexts g p (take (i + 1) moves) (texts ++ text ∷ [])
texts_next g p moves i m texts text are low is one =
    subst (λ z. AreMoveTexts g p z (texts ++ text ∷ [])) (ap (λ z. take i moves ++ z ∷ []) is
    ∙ sym (take_more moves i m low)) (move_texts_more g p (take i moves) m texts text are one)

try_texts_more : (g : Geometry) (p : Placement) (tries : List (Move × Move)) (t : Move × Move)
    (texts : List (List ℕ × List ℕ)) (move reply : List ℕ) → AreTryTexts g p tries texts
    → IsTryWords g p t move reply → AreTryTexts g p (tries ++ t ∷ []) (texts ++ (move, reply) ∷ [])
try_texts_more g p [] t texts move reply none is =
    (move, reply, [], is.0, is.1, refl, ap (λ (z : List (List ℕ × List ℕ)). z ++ (move, reply) ∷ []) none)
try_texts_more g p (s ∷ tries) t texts move reply (one, two, rest, first, second, are, e) is = (
  one,
  two,
  rest ++ (move, reply) ∷ [],
  first,
  second,
  try_texts_more g p tries t rest move reply are is,
  ap (λ (z : List (List ℕ × List ℕ)). z ++ (move, reply) ∷ []) e,
)

pub tried_next : {S : Type 0} (f : S → List ℕ) (g : Geometry) (p : Placement) (tries : List (Move × Move)) (i : ℕ)
    (t : Move × Move) (texts : List (S × S)) (words : S × S)
    → AreTryTexts g p (take i tries) (map (λ (w : S × S). (f w.0, f w.1)) texts) → i < length tries
    → t ≡ get_or tries i t → IsTryWords g p t (f words.0) (f words.1)
    → AreTryTexts g p (take (i + 1) tries) (map (λ (w : S × S). (f w.0, f w.1)) (texts ++ words ∷ []))
tried_next {S} f g p tries i t texts words are low is one =
    let both : S × S → List ℕ × List ℕ = λ w. (f w.0, f w.1) in
    subst (λ z. AreTryTexts g p z (map both (texts ++ words ∷ []))) (ap (λ z. take i tries ++ z ∷ []) is
    ∙ sym (take_more tries i t low)) (subst (AreTryTexts g p (take i tries ++ t ∷ [])) (sym (map_push both texts words))
    (try_texts_more g p (take i tries) t (map both texts) (f words.0) (f words.1) are one))

-- a line begins with a key
line_opens : (g : Geometry) (p : Placement) (n : ℕ) (m : Move) (l : List Move) → Line g p n (m ∷ l) → IsWinning g p n m
line_opens g p zero m l h = absurd h
line_opens g p (suc n) m [] h = (h.0, h.1)
line_opens g p (suc n) m (r ∷ l) h = (h.0, h.1)

only_one : (m key : Move) → Member m (key ∷ []) → key ≡ m
only_one m key (inl e) = sym e
only_one m key (inr none) = absurd none

-- what comes before a choice begins with the only key
pub dual_opens : (g : Geometry) (p : Placement) (n : ℕ) (l cs : List Move) → IsVerdict g p n (dual l cs)
    → Keys g p n (take 1 l)
dual_opens g p n [] cs h = absurd (omega (arith, h.1.later, h.1.even))
dual_opens g p n (m ∷ l) cs h =
    let key = h.0.0 in
    let keys = h.0.1.0 in
    subst (λ z. Keys g p n (z ∷ [])) (only_one m key ((keys.exactly m).1 (line_opens g p n m (l ++ h.1.rest)
    h.1.line))) keys
