-- Each verdict and each list of tries has a text, and only one.
use Rattle.std.proofs.Common.{◌≡◌, ℕ, ◌-◌, zero, suc, List, [], ◌∷◌, ◌++◌, refl, sym, ap, ◌∙◌, subst, inl, inr, codes}
use Rattle.std.proofs.Common.{decimal}
use Rattle.std.specs.List.{join_by}
use Rattle.dw_board.specs.Geometry.{Geometry, IsBoard}
use Rattle.dw_board.specs.Placement.{Placement}
use Rattle.dw_moves.specs.Moves.{Move, Legal, play}
use Rattle.dw_board.specs.Lists.{Member}
use Rattle.dw_notation.specs.Text.{ArePlayable, AreMoveTexts, AreJoined}
use Rattle.dw_notation.specs.TextLaws.{MovesHaveTexts, LinesHaveTexts}
use Rattle.dw_solve.specs.Lines.{Line}
use Rattle.dw_verdict.specs.Verdict.{Keys, reach, Verdict, unsolvable, cooked, dual, sound, IsVerdict, IsTry}
use Rattle.dw_verdict.specs.VerdictLaws.{OneVerdict, TriesAreListed}
use Rattle.dw_verdict.specs.inner.WinningLemmas.{winning_legal}
use Rattle.dw_report.specs.JudgedText.{next_number, IsVerdictText, IsTryLine, AreTryLines}
use Rattle.dw_report.specs.inner.JudgedText.{IsVerdictLine, AreTriesListed}
use Rattle.dw_report.specs.JudgedText.{IsJudgedText}

-- the texts of legal moves
pub move_texts_some : MovesHaveTexts → (g : Geometry) → IsBoard g → (p : Placement) (moves : List Move)
    → ((m : Move) → Member m moves → Legal g p m) → (texts : List (List ℕ)) × AreMoveTexts g p moves texts
move_texts_some law g b p [] legal = ([], refl)
move_texts_some law g b p (m ∷ moves) legal =
    let one = law.some g b p m (legal m (inl refl)) in
    let rest = move_texts_some law g b p moves (λ x h. legal x (inr h)) in
    (one.0 ∷ rest.0, (one.0, rest.0, one.1, rest.1, refl))

move_texts_only : MovesHaveTexts → (g : Geometry) (p : Placement) (moves : List Move) (texts others : List (List ℕ))
    → AreMoveTexts g p moves texts → AreMoveTexts g p moves others → texts ≡ others
move_texts_only law g p [] texts others h k = h ∙ sym k
move_texts_only law g p (m ∷ moves) texts others (t, r, is, are, e) (t', r', is', are', e') =
    e ∙ (ap (λ z. z ∷ r) (law.one g p m t t' is is') ∙ (ap (λ z. t' ∷ z) (move_texts_only law g p moves r r' are are')
    ∙ sym e'))

pub joined_some : MovesHaveTexts → (g : Geometry) → IsBoard g → (p : Placement) (mark : List ℕ) (moves : List Move)
    → ((m : Move) → Member m moves → Legal g p m) → (joined : List ℕ) × AreJoined g p mark moves joined
joined_some law g b p mark moves legal =
    let texts = move_texts_some law g b p moves legal in
    (join_by (λ text. text) mark texts.0, (texts.0, texts.1, refl))

joined_only : MovesHaveTexts → (g : Geometry) (p : Placement) (mark : List ℕ) (moves : List Move)
    (joined other : List ℕ) → AreJoined g p mark moves joined → AreJoined g p mark moves other → joined ≡ other
joined_only law g p mark moves joined other (texts, are, e) (others, are', e') =
    e ∙ (ap (λ (z : List (List ℕ)). join_by (λ text. text) mark z) (move_texts_only law g p moves texts others are are')
    ∙ sym e')

-- all keys are legal
pub keys_legal : (g : Geometry) (p : Placement) (n : ℕ) (keys : List Move) → Keys g p n keys → (m : Move)
    → Member m keys → Legal g p m
keys_legal g p n keys h m here = winning_legal g p n m ((h.exactly m).0 here)

-- the moves of a line can be played one after another, and so those that begin it
pub line_playable : (g : Geometry) (p : Placement) (n : ℕ) (l : List Move) → Line g p n l → ArePlayable g p l
line_playable g p zero l h = absurd h
line_playable g p (suc n) [] h = absurd h
line_playable g p (suc n) (m ∷ []) h = (h.0, tt)
line_playable g p (suc n) (m ∷ r ∷ l) h = (h.0, (h.2, line_playable g (play g (play g p m) r) n l h.3))

pub playable_front : (g : Geometry) (p : Placement) (front rest : List Move) → ArePlayable g p (front ++ rest)
    → ArePlayable g p front
playable_front g p [] rest h = tt
playable_front g p (m ∷ front) rest h = (h.0, playable_front g (play g p m) front rest h.1)

-- VERDICTS

pub verdict_text_some : MovesHaveTexts → LinesHaveTexts → (g : Geometry) → IsBoard g
    → (p : Placement) (n : ℕ) (v : Verdict) → IsVerdict g p n v → (text : List ℕ) × IsVerdictText g p n v text
verdict_text_some moves lines g b p n unsolvable h = (codes "unsolvable in " ++ decimal n ++ codes "\n", refl)
verdict_text_some moves lines g b p n (cooked shortest keys) h =
    let joined = joined_some moves g b p (codes ", ") keys (keys_legal g p n keys h.0) in (
      codes "cooked in " ++ decimal n ++ codes ", shortest " ++ decimal shortest ++ codes ": " ++ joined.0
          ++ codes "\n",
      (joined.0, joined.1, refl),
    )
verdict_text_some moves lines g b p n (dual beginning choices) h =
    let d = h.1 in
    let line = lines.some g b p beginning (playable_front g p beginning d.rest
    (line_playable g p n (beginning ++ d.rest) d.line)) in
    let joined = joined_some moves g b (reach g p beginning) (codes " / ") choices (keys_legal g (reach g p beginning)
    (n - d.turns) choices d.keys) in (
      codes "dual in " ++ decimal n ++ codes ": " ++ line.0 ++ codes " " ++ decimal (next_number beginning)
          ++ codes ". "
          ++ joined.0 ++ codes "\n",
      (line.0, joined.0, line.1, joined.1, refl),
    )
verdict_text_some moves lines g b p n (sound key) h =
    let text = moves.some g b p key (keys_legal g p n (key ∷ []) h.0.0 key (inl refl)) in
    (codes "sound in " ++ decimal n ++ codes ": " ++ text.0 ++ codes "\n", (text.0, text.1, refl))

verdict_text_only : MovesHaveTexts → LinesHaveTexts
    → (g : Geometry) (p : Placement) (n : ℕ) (v : Verdict) (text other : List ℕ) → IsVerdictText g p n v text
    → IsVerdictText g p n v other → text ≡ other
verdict_text_only moves lines g p n unsolvable text other h k = h ∙ sym k
verdict_text_only moves lines g p n (cooked shortest keys) text other (m, is, e) (m', is', e') =
    e ∙ (ap (λ z. codes "cooked in " ++ decimal n ++ codes ", shortest " ++ decimal shortest ++ codes ": " ++ z
    ++ codes "\n") (joined_only moves g p (codes ", ") keys m m' is is') ∙ sym e')
verdict_text_only moves lines g p n (dual beginning choices) text other (l, m, line, is, e) (l', m', line', is', e') =
    e ∙ (ap (λ z. codes "dual in " ++ decimal n ++ codes ": " ++ z ++ codes " " ++ decimal (next_number beginning)
    ++ codes ". " ++ m ++ codes "\n") (lines.one g p beginning l l' line line')
    ∙ (ap (λ z. codes "dual in " ++ decimal n ++ codes ": " ++ l' ++ codes " " ++ decimal (next_number beginning)
    ++ codes ". " ++ z ++ codes "\n") (joined_only moves g (reach g p beginning) (codes " / ") choices m m' is is')
    ∙ sym e'))
verdict_text_only moves lines g p n (sound key) text other (m, is, e) (m', is', e') =
    e ∙ (ap (λ z. codes "sound in " ++ decimal n ++ codes ": " ++ z ++ codes "\n") (moves.one g p key m m' is is')
    ∙ sym e')

pub verdict_line_some : OneVerdict → MovesHaveTexts → LinesHaveTexts → (g : Geometry) → IsBoard g
    → (p : Placement) (n : ℕ) → (line : List ℕ) × IsVerdictLine g p n line
verdict_line_some verdicts moves lines g b p n =
    let v = verdicts.some g b p n in
    let text = verdict_text_some moves lines g b p n v.0 v.1 in
    (text.0, (v.0, v.1, text.1))

verdict_line_only : OneVerdict → MovesHaveTexts → LinesHaveTexts → (g : Geometry) → IsBoard g
    → (p : Placement) (n : ℕ) (line other : List ℕ) → IsVerdictLine g p n line → IsVerdictLine g p n other
    → line ≡ other
verdict_line_only verdicts moves lines g b p n line other (v, is, text) (w, is', text') =
    verdict_text_only moves lines g p n w line other (subst (λ z. IsVerdictText g p n z line)
    (verdicts.only g b p n v w is is') text) text'

-- TRIES

pub try_line_some : MovesHaveTexts → (g : Geometry) → IsBoard g → (p : Placement) (n : ℕ) (t : Move × Move)
    → IsTry g p n t → (line : List ℕ) × IsTryLine g p t line
try_line_some moves g b p n t h =
    let move = moves.some g b p t.0 h.0 in
    let reply = moves.some g b (play g p t.0) t.1 h.2.refutes.0 in
    (codes "try " ++ move.0 ++ codes " refuted by " ++ reply.0 ++ codes "\n", (move.0, reply.0, move.1, reply.1, refl))

pub try_lines_some : MovesHaveTexts → (g : Geometry) → IsBoard g → (p : Placement) (n : ℕ) (tries : List (Move × Move))
    → ((t : Move × Move) → Member t tries → IsTry g p n t) → (text : List ℕ) × AreTryLines g p tries text
try_lines_some moves g b p n [] are = ([], refl)
try_lines_some moves g b p n (t ∷ tries) are =
    let one = try_line_some moves g b p n t (are t (inl refl)) in
    let rest = try_lines_some moves g b p n tries (λ x h. are x (inr h)) in
    (one.0 ++ rest.0, (one.0, rest.0, one.1, rest.1, refl))

try_line_only : MovesHaveTexts → (g : Geometry) (p : Placement) (t : Move × Move) (line other : List ℕ)
    → IsTryLine g p t line → IsTryLine g p t other → line ≡ other
try_line_only moves g p t line other (m, r, is, re, e) (m', r', is', re', e') =
    e ∙ (ap (λ z. codes "try " ++ z ++ codes " refuted by " ++ r ++ codes "\n") (moves.one g p t.0 m m' is is')
    ∙ (ap (λ z. codes "try " ++ m' ++ codes " refuted by " ++ z ++ codes "\n") (moves.one g (play g p t.0) t.1 r r' re
    re') ∙ sym e'))

try_lines_only : MovesHaveTexts → (g : Geometry) (p : Placement) (tries : List (Move × Move)) (text other : List ℕ)
    → AreTryLines g p tries text → AreTryLines g p tries other → text ≡ other
try_lines_only moves g p [] text other h k = h ∙ sym k
try_lines_only moves g p (t ∷ tries) text other (l, r, is, are, e) (l', r', is', are', e') =
    e ∙ (ap (λ z. z ++ r) (try_line_only moves g p t l l' is is')
    ∙ (ap (λ z. l' ++ z) (try_lines_only moves g p tries r r' are are') ∙ sym e'))

pub tries_listed_some : TriesAreListed → MovesHaveTexts → (g : Geometry) → IsBoard g → (p : Placement) (n : ℕ)
    → (text : List ℕ) × AreTriesListed g p n text
tries_listed_some law moves g b p n =
    let tries = law.some g b p n in
    let text = try_lines_some moves g b p n tries.0 (λ t h. (tries.1.exactly t).0 h) in
    (text.0, (tries.0, tries.1, text.1))

tries_listed_only : TriesAreListed → MovesHaveTexts → (g : Geometry) → IsBoard g
    → (p : Placement) (n : ℕ) (text other : List ℕ) → AreTriesListed g p n text → AreTriesListed g p n other
    → text ≡ other
tries_listed_only law moves g b p n text other (tries, are, lines) (others, are', lines') =
    try_lines_only moves g p others text other (subst (λ (z : List (Move × Move)). AreTryLines g p z text)
    (law.only g b p n tries others are are') lines) lines'

-- BOTH

pub judged_some : OneVerdict → TriesAreListed → MovesHaveTexts → LinesHaveTexts → (g : Geometry) → IsBoard g
    → (p : Placement) (n : ℕ) → (text : List ℕ) × IsJudgedText g p n text
judged_some verdicts law moves lines g b p n =
    let verdict = verdict_line_some verdicts moves lines g b p n in
    let tries = tries_listed_some law moves g b p n in
    (verdict.0 ++ tries.0, (verdict.0, tries.0, verdict.1, tries.1, refl))

pub judged_only : OneVerdict → TriesAreListed → MovesHaveTexts → LinesHaveTexts → (g : Geometry) → IsBoard g
    → (p : Placement) (n : ℕ) (text other : List ℕ) → IsJudgedText g p n text → IsJudgedText g p n other → text ≡ other
judged_only verdicts law moves lines g b p n text other (v, t, is, are, e) (v', t', is', are', e') =
    e ∙ (ap (λ z. z ++ t) (verdict_line_only verdicts moves lines g b p n v v' is is')
    ∙ (ap (λ z. v' ++ z) (tries_listed_only law moves g b p n t t' are are') ∙ sym e'))
