-- Lemmas on comments and other bytes between sections.
use Rattle.std.proofs.Common.{◌≡◌, ℕ, ◌+◌, ◌-◌, ◌<◌, ◌==◌, List, [], ◌∷◌, ◌++◌, length, take, drop, Bool, true, false}
use Rattle.std.proofs.Common.{cond, slice_index, refl, sym, ap, ◌∙◌, subst, arith, inl, inr}
use Prim.Native.Nat.{suc}
use Rattle.std.proofs.lemmas.Bool.{and_parts, cases_Bool, eqb-true, not-true}
use Rattle.std.proofs.lemmas.List.{drop_more, take_all, length-drop}
use Rattle.std.proofs.Math.Seq.{take-add}
use Rattle.std.specs.List.{list_all}
use Rattle.dw_notation.specs.Between.{IsBetween}
use Rattle.dw_notation.specs.Between.IsBetween.{nothing, other, opened, within, closed}
use Rattle.dw_notation.specs.inner.Sections.{transition}
use Rattle.dw_notation.specs.inner.Tags.{passes}
use Rattle.dw_notation.specs.declared.problems.pdn.automaton.State.{State}
use Rattle.dw_notation.specs.declared.problems.pdn.automaton.State.TheVariants.{Outside, Comment, Between, BeforeName}
use Rattle.dw_notation.specs.declared.problems.pdn.automaton.State.TheVariants.{InName, BehindName, InValue, Escaped}
use Rattle.dw_notation.specs.declared.problems.pdn.automaton.State.TheVariants.{BehindValue, Rest}
use Rattle.dw_notation.specs.declared.problems.pdn.automaton.Action.TheVariants.{Open}

-- where the text stands, by whether it stands in a comment
abbrev pub state_of : Bool → State
state_of is = cond is Comment Outside

IsBetween-append : {a b c : Bool} {text more : List ℕ} → IsBetween a b text → IsBetween b c more
    → IsBetween a c (text ++ more)
IsBetween-append nothing more = more
IsBetween-append (other byte neither is) more = other byte neither (IsBetween-append is more)
IsBetween-append (opened is) more = opened (IsBetween-append is more)
IsBetween-append (within byte inside is) more = within byte inside (IsBetween-append is more)
IsBetween-append (closed is) more = closed (IsBetween-append is more)

pub IsBetween-passes : (is : Bool) (text : List ℕ) → list_all (passes (state_of is)) text ≡ true → IsBetween is is text
IsBetween-passes is [] all = nothing
IsBetween-passes true (byte ∷ text) all =
    let both = and_parts (passes Comment byte) (list_all (passes Comment) text) all in
    within byte (not-true _ both.0) (IsBetween-passes true text both.1)
IsBetween-passes false (byte ∷ text) all =
    let both = and_parts (passes Outside byte) (list_all (passes Outside) text) all in
    other byte (not-true _ both.0) (IsBetween-passes false text both.1)

abbrev pub is_comment : State → Bool
is_comment Comment = true
is_comment _ = false

pub not_comment : (state : State) → (state ≡ Comment → ⊥) → is_comment state ≡ false
not_comment Outside none = refl
not_comment Comment none = absurd (none refl)
not_comment Between none = refl
not_comment BeforeName none = refl
not_comment InName none = refl
not_comment BehindName none = refl
not_comment InValue none = refl
not_comment Escaped none = refl
not_comment BehindValue none = refl
not_comment Rest none = refl

-- one more byte, which begins no section
one_byte : (is : Bool) (byte : ℕ) → ((transition (state_of is) byte).action ≡ Open → ⊥)
    → IsBetween is (is_comment (transition (state_of is) byte).state) (byte ∷ [])
one_byte true byte none = elim (cases_Bool (byte == 125)) [
  | inl brace ↦ rw brace (subst (λ b. IsBetween true false (b ∷ [])) (sym (eqb-true byte 125 brace)) (closed nothing))
  | inr inside ↦ rw inside (within byte inside nothing)
]
one_byte false byte none = elim (cases_Bool (byte == 91)) [
  | inl bracket ↦ absurd (none (rw bracket refl))
  | inr no_bracket ↦ elim (cases_Bool (byte == 123)) [
    | inl brace ↦ rw (no_bracket, brace) (subst (λ b. IsBetween false true (b ∷ [])) (sym (eqb-true byte 123 brace))
        (opened nothing))
    | inr no_brace ↦ rw (no_bracket, no_brace) (other byte (rw (no_bracket, no_brace) refl) nothing)
  ]
]

-- the bytes that are passed at once behind one more byte
pub take-one_more : (at n : ℕ) (bytes : List ℕ) → at < length bytes
    → take (at + 1 + n) bytes ≡ take at bytes ++ slice_index bytes at ∷ take n (drop (at + 1) bytes)
take-one_more at n bytes inside =
    let e : at + 1 + n ≡ at + suc n = omega arith in
    ap (λ k. take k bytes) e ∙ take-add at (suc n) bytes
    ∙ ap (λ l. take at bytes ++ take (suc n) l) (drop_more bytes at 0 inside)

pub whole_rest : (i : ℕ) (bytes : List ℕ) → take (length bytes - i) (drop i bytes) ≡ drop i bytes
whole_rest i bytes = take_all (length bytes - i) (drop i bytes) (omega (arith, length-drop i bytes))

pub IsBetween-on : (begins is next : Bool) (at n : ℕ) (bytes : List ℕ) → at < length bytes
    → IsBetween begins is (take at bytes)
    → ((transition (state_of is) (slice_index bytes at)).action ≡ Open → ⊥)
    → next ≡ is_comment (transition (state_of is) (slice_index bytes at)).state
    → list_all (passes (state_of next)) (take n (drop (at + 1) bytes)) ≡ true
    → IsBetween begins next (take (at + 1 + n) bytes)
IsBetween-on begins is next at n bytes inside so_far none stands all =
    let byte = slice_index bytes at in
    subst (IsBetween begins next) (sym (take-one_more at n bytes inside))
    (IsBetween-append so_far (IsBetween-append
    (subst (λ b. IsBetween is b (byte ∷ [])) (sym stands) (one_byte is byte none))
    (IsBetween-passes next (take n (drop (at + 1) bytes)) all)))

-- the byte that begins a section
pub begins_section : (is : Bool) (byte : ℕ) → (transition (state_of is) byte).action ≡ Open → (is ≡ false) × (byte ≡ 91)
begins_section true byte opens = elim (cases_Bool (byte == 125)) [
  | inl brace ↦ let bad = rw brace at opens in cc
  | inr inside ↦ let bad = rw inside at opens in cc
]
begins_section false byte opens = elim (cases_Bool (byte == 91)) [
  | inl bracket ↦ (refl, eqb-true byte 91 bracket)
  | inr no_bracket ↦ elim (cases_Bool (byte == 123)) [
    | inl brace ↦ let bad = rw (no_bracket, brace) at opens in cc
    | inr no_brace ↦ let bad = rw (no_bracket, no_brace) at opens in cc
  ]
]
