-- A line has one text, since each of its moves has.
use Rattle.std.proofs.Common.{◌≡◌, ℕ, ◌+◌, List, [], ◌∷◌, refl, sym, ap, ◌∙◌}
use Rattle.std.specs.List.{join_with_byte}
use Rattle.dw_board.specs.Geometry.{Geometry, IsBoard}
use Rattle.dw_board.specs.Placement.{Placement}
use Rattle.dw_moves.specs.Moves.{Move, play}
use Rattle.dw_notation.specs.Text.{AreWords, ArePlayable, numbered}
use Rattle.dw_notation.specs.TextLaws.{MovesHaveTexts, LinesHaveTexts}

-- the words of moves that can be played
words_of : MovesHaveTexts → (g : Geometry) → IsBoard g → (p : Placement) (ply : ℕ) (moves : List Move)
    → ArePlayable g p moves → (words : List (List ℕ)) × AreWords g p ply moves words
words_of law g board p ply [] h = ([], refl)
words_of law g board p ply (m ∷ moves) h =
    let here = law.some g board p m h.0 in
    let further = words_of law g board (play g p m) (ply + 1) moves h.1 in
    (numbered ply (here.0 ∷ further.0), (here.0, further.0, here.1, further.1, refl))

-- there are no others
words_one : MovesHaveTexts → (g : Geometry) (p : Placement) (ply : ℕ) (moves : List Move) (words others : List (List ℕ))
    → AreWords g p ply moves words → AreWords g p ply moves others → words ≡ others
words_one law g p ply [] words others h k = h ∙ sym k
words_one law g p ply (m ∷ moves) words others (text, rest, is, further, e) (text', rest', is', further', e') =
    let same = law.one g p m text text' is is' in
    let after = words_one law g (play g p m) (ply + 1) moves rest rest' further further' in
    e ∙ (ap (λ t. numbered ply (t ∷ rest)) same ∙ (ap (λ r. numbered ply (text' ∷ r)) after ∙ sym e'))

pub lines_have_texts : MovesHaveTexts → LinesHaveTexts
lines_have_texts law = record {
  some = λ g board p moves h. let found = words_of law g board p 0 moves h in
      (join_with_byte 32 found.0, (found.0, found.1, refl));
  one = λ g p moves text other h k. h.2 ∙ (ap (join_with_byte 32) (words_one law g p 0 moves h.0 k.0 h.1 k.1)
      ∙ sym k.2);
}
