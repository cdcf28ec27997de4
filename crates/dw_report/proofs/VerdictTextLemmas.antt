-- The lines of verdicts and of tries, put together.
use Rattle.std.proofs.Common.{◌≡◌, ℕ, ◌+◌, ◌-◌, ◌/◌, List, [], ◌∷◌, ◌++◌, length, refl, sym, ap, ◌∙◌, subst, inl, codes}
use Rattle.std.proofs.Common.{decimal}
use Rattle.dw_board.specs.Geometry.{Geometry}
use Rattle.dw_board.specs.Placement.{Placement}
use Rattle.dw_moves.specs.Moves.{Move, Legal, play}
use Rattle.dw_board.specs.Lists.{Member}
use Rattle.dw_notation.specs.Text.{IsMoveText, IsLineText, ArePlayable, AreJoined}
use Rattle.dw_verdict.specs.Verdict.{unsolvable, cooked, dual, sound, reach, IsVerdict}
use Rattle.dw_report.specs.JudgedText.{next_number, IsVerdictText, IsTryLine}
use Rattle.dw_report.specs.inner.JoinedLemmas.{joined_3, joined_5, joined_7, joined_9}
use Rattle.dw_report.proofs.JudgedTextLemmas.{keys_legal, line_playable, playable_front}

-- the moves that a verdict names can be played
pub dual_playable : (g : Geometry) (p : Placement) (n : ℕ) (l cs : List Move) → IsVerdict g p n (dual l cs)
    → ArePlayable g p l
dual_playable g p n l cs h = let d = h.1 in playable_front g p l d.rest (line_playable g p n (l ++ d.rest) d.line)

pub choices_legal : (g : Geometry) (p q : Placement) (n : ℕ) (l cs : List Move) → q ≡ reach g p l
    → IsVerdict g p n (dual l cs) → (m : Move) → Member m cs → Legal g q m
choices_legal g p q n l cs there h m here = let d = h.1 in subst (λ z. Legal g z m) (sym there)
    (keys_legal g (reach g p l) (n - d.turns) cs d.keys m here)

-- lists that are the same
pub dual_is : (g : Geometry) (p : Placement) (n : ℕ) (l cs k ds : List Move) → k ≡ l → ds ≡ cs
    → IsVerdict g p n (dual l cs) → IsVerdict g p n (dual k ds)
dual_is g p n l cs k ds e f h = subst (λ (z : List Move). IsVerdict g p n (dual z ds)) (sym e)
    (subst (λ (z : List Move). IsVerdict g p n (dual l z)) (sym f) h)

pub key_legal : (g : Geometry) (p : Placement) (n : ℕ) (m : Move) → IsVerdict g p n (sound m) → Legal g p m
key_legal g p n m h = keys_legal g p n (m ∷ []) h.0.0 m (inl refl)

pub sound_made : (g : Geometry) (p : Placement) (n : ℕ) (key : Move) (move digits one text : List ℕ)
    → IsMoveText g p key move → digits ≡ decimal n → one ≡ move
    → text ≡ codes "sound in " ++ (digits ++ (codes ": " ++ (one ++ (codes "\n" ++ []))))
    → IsVerdictText g p n (sound key) text
sound_made g p n key move digits one text is d o e = (
  move,
  is,
  e ∙ (joined_5 (codes "sound in ") digits (codes ": ") one (codes "\n")
      ∙ (ap (λ z. codes "sound in " ++ z ++ codes ": " ++ one ++ codes "\n") d
      ∙ ap (λ z. codes "sound in " ++ decimal n ++ codes ": " ++ z ++ codes "\n") o)),
)

pub cooked_made : (g : Geometry) (p : Placement) (n shortest : ℕ) (keys : List Move) (moves digits number all text :
    List ℕ) → AreJoined g p (codes ", ") keys moves → digits ≡ decimal n → number ≡ decimal shortest → all ≡ moves
    → text ≡ codes "cooked in " ++ (digits
    ++ (codes ", shortest " ++ (number ++ (codes ": " ++ (all ++ (codes "\n" ++ []))))))
    → IsVerdictText g p n (cooked shortest keys) text
cooked_made g p n shortest keys moves digits number all text are d k a e = (
  moves,
  are,
  e ∙ (joined_7 (codes "cooked in ") digits (codes ", shortest ") number (codes ": ") all (codes "\n")
      ∙ (ap (λ z. codes "cooked in " ++ z ++ codes ", shortest " ++ number ++ codes ": " ++ all ++ codes "\n") d
      ∙ (ap (λ z. codes "cooked in " ++ decimal n ++ codes ", shortest " ++ z ++ codes ": " ++ all ++ codes "\n") k
      ∙ ap (λ z. codes "cooked in " ++ decimal n ++ codes ", shortest " ++ decimal shortest ++ codes ": " ++ z
      ++ codes "\n") a))),
)

pub dual_made : (g : Geometry) (p q : Placement) (n : ℕ) (beginning choices : List Move)
    (line moves digits first number all text : List ℕ) → q ≡ reach g p beginning → IsLineText g p beginning line
    → AreJoined g q (codes " / ") choices moves
    → digits ≡ decimal n → first ≡ line → number ≡ decimal (length beginning / 2 + 1) → all ≡ moves
    → text ≡ codes "dual in " ++ (digits
    ++ (codes ": " ++ (first ++ (codes " " ++ (number ++ (codes ". " ++ (all ++ (codes "\n" ++ []))))))))
    → IsVerdictText g p n (dual beginning choices) text
dual_made g p q n beginning choices line moves digits first number all text there is are d f k a e = (
  line,
  moves,
  is,
  subst (λ z. AreJoined g z (codes " / ") choices moves) there are,
  e ∙ (joined_9 (codes "dual in ") digits (codes ": ") first (codes " ") number (codes ". ") all (codes "\n")
      ∙ (ap (λ z. codes "dual in " ++ z ++ codes ": " ++ first ++ codes " " ++ number ++ codes ". " ++ all
      ++ codes "\n") d
      ∙ (ap (λ z. codes "dual in " ++ decimal n ++ codes ": " ++ z ++ codes " " ++ number ++ codes ". " ++ all
      ++ codes "\n") f
      ∙ (ap (λ z. codes "dual in " ++ decimal n ++ codes ": " ++ line ++ codes " " ++ z ++ codes ". " ++ all
      ++ codes "\n") k
      ∙ ap (λ z. codes "dual in " ++ decimal n ++ codes ": " ++ line ++ codes " " ++ decimal (next_number beginning)
      ++ codes ". " ++ z ++ codes "\n") a)))),
)

pub try_made : (g : Geometry) (p q : Placement) (m r : Move) (move reply one two text : List ℕ) → q ≡ play g p m
    → IsMoveText g p m move → IsMoveText g q r reply → one ≡ move → two ≡ reply
    → text ≡ codes "try " ++ (one ++ (codes " refuted by " ++ (two ++ (codes "\n" ++ [])))) → IsTryLine g p (m, r) text
try_made g p q m r move reply one two text played is answers o t e = (
  move,
  reply,
  is,
  subst (λ z. IsMoveText g z r reply) played answers,
  e ∙ (joined_5 (codes "try ") one (codes " refuted by ") two (codes "\n")
      ∙ (ap (λ z. codes "try " ++ z ++ codes " refuted by " ++ two ++ codes "\n") o
      ∙ ap (λ z. codes "try " ++ move ++ codes " refuted by " ++ z ++ codes "\n") t)),
)
