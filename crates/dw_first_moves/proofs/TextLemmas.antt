-- What is written of first moves.
use Rattle.std.proofs.Common.{◌≡◌, ℕ, ◌+◌, ◌<◌, List, [], ◌∷◌, ◌++◌, length, map, take}
use Rattle.std.proofs.Common.{get_or, refl, sym, ap, subst, ◌∙◌}
use Rattle.std.proofs.Common.{append_assoc, append-nil, arith, zero, suc, inl, inr}
use Rattle.std.specs.Prelude.{Result, Ok, Err, IfOk, codes}
use Rattle.std.proofs.lemmas.List.{take_more, map_push}
use Rattle.dw_board.specs.Geometry.{Geometry}
use Rattle.dw_board.specs.Placement.{Placement}
use Rattle.dw_board.specs.Lists.{Member}
use Rattle.dw_moves.specs.Moves.{Move, play}
use Rattle.dw_notation.specs.Text.{AreJoined, IsMoveText}
use Rattle.dw_moves.specs.inner.MemberLemmas.{mem_map}
use Rattle.dw_first_moves.specs.FirstMoves.{Effect, refuted_by, AreEffects, HasEffect, HaveEffects}
use Rattle.dw_first_moves.specs.FirstMovesText.{AreEffectLines, IsEffectLine, IsEffectText}

-- one line more
lines_more : (g : Geometry) (p : Placement) (done : List (Move × Effect)) (one : Move × Effect) (lines line : List ℕ)
    → AreEffectLines g p done lines → IsEffectLine g p one line
    → AreEffectLines g p (done ++ one ∷ []) (lines ++ line)
lines_more g p [] one lines line none here =
    (line, [], here, refl, ap (λ z. z ++ line) none ∙ sym (append-nil line))
lines_more g p (first ∷ done) one lines line h here = (
  h.0,
  h.1 ++ line,
  h.2,
  lines_more g p done one h.1 line h.3 here,
  ap (λ z. z ++ line) h.4 ∙ append_assoc h.0 h.1 line,
)

pub lines_next : {V : Type 0} (told : V → Move × Effect) (g : Geometry) (p : Placement) (done : List V) (i : ℕ)
    (one : V)
    (lines line now : List ℕ) → i < length done → one ≡ get_or done i one
    → AreEffectLines g p (map told (take i done)) lines → IsEffectLine g p (told one) line → now ≡ lines ++ line
    → AreEffectLines g p (map told (take (i + 1) done)) now
lines_next told g p done i one lines line now low at before here is =
    subst (λ z. AreEffectLines g p (map told z) now)
    (sym (take_more done i one low ∙ ap (λ z. take i done ++ z ∷ []) (sym at)))
    (subst (λ z. AreEffectLines g p z now) (sym (map_push told (take i done) one))
    (subst (AreEffectLines g p (map told (take i done) ++ told one ∷ [])) (sym is)
    (lines_more g p (map told (take i done)) (told one) lines line before here)))

-- each of these moves has its effect
pub effects_have : (g : Geometry) (p : Placement) (n : ℕ) (moves : List Move) (done : List (Move × Effect))
    → AreEffects g p n moves done → (x : Move × Effect) → Member x done → HasEffect g p n x.0 x.1
effects_have g p n [] done none x member = absurd (subst (Member x) none member)
effects_have g p n (m ∷ moves) done h x member = elim (subst (Member x) h.4 member) [
  | inl e ↦ subst (λ (z : Move × Effect). HasEffect g p n z.0 z.1) (sym e) h.2
  | inr later ↦ effects_have g p n moves h.1 h.3 x later
]

pub item_member : {A : Type 0} (xs : List A) (i : ℕ) (x : A) → i < length xs → x ≡ get_or xs i x → Member x xs
item_member [] i x low at = absurd (omega (arith, low))
item_member (y ∷ xs) zero x low at = inl at
item_member (y ∷ xs) (suc i) x low at = inr (item_member xs i x (omega (arith, low)) at)

pub effect_at : {V : Type 0} (told : V → Move × Effect) (g : Geometry) (p start : Placement)
    (effects : List (Move × Effect)) (done : List V) (i : ℕ) (one : V) (have : HaveEffects g start effects)
    → map told done ≡ effects → p ≡ start → i < length done → one ≡ get_or done i one
    → HasEffect g p have.0 (told one).0 (told one).1
effect_at told g p start effects done i one have same there low at =
    subst (λ z. HasEffect g z have.0 (told one).0 (told one).1) (sym there)
    (have.1 (told one) (subst (Member (told one)) same (mem_map told one done (item_member done i one low at))))

joined_2 : (a b : List ℕ) → a ++ (b ++ []) ≡ a ++ b
joined_2 a b = simp (append_assoc, append-nil)

joined_3 : (a b c : List ℕ) → a ++ (b ++ (c ++ [])) ≡ a ++ b ++ c
joined_3 a b c = simp (append_assoc, append-nil)

pub refuted_made : (g : Geometry) (p after : Placement) (m : Move) (effect : Effect) (replies : List Move)
    (joined one text : List ℕ) → after ≡ play g p m → refuted_by replies ≡ effect
    → AreJoined g after (codes ", ") replies joined → one ≡ joined → text ≡ codes " refuted by " ++ (one ++ [])
    → IsEffectText g p m effect text
refuted_made g p after m effect replies joined one text there is are same e =
    subst (λ z. IsEffectText g p m z text) is (
      joined,
      subst (λ z. AreJoined g z (codes ", ") replies joined) there are,
      e ∙ (joined_2 (codes " refuted by ") one ∙ ap (λ z. codes " refuted by " ++ z) same),
    )

pub line_made : (g : Geometry) (p : Placement) (one : Move × Effect) (move text a b line : List ℕ)
    → IsMoveText g p one.0 move → IsEffectText g p one.0 one.1 text → a ≡ move → b ≡ text
    → line ≡ a ++ (b ++ (codes "\n" ++ [])) → IsEffectLine g p one line
line_made g p one move text a b line is says first second e = (
  move,
  text,
  is,
  says,
  e ∙ (joined_3 a b (codes "\n") ∙ (λ i. first i ++ second i ++ codes "\n")),
)

pub ok_so : {T E : Type 0} (P Q : T → Type 0) (r : Result T E) → ((x : T) → P x → Q x) → IfOk r P → IfOk r Q
ok_so P Q (Ok x) so h = so x h
ok_so P Q (Err e) so h = tt
