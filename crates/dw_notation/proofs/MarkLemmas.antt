-- Lemmas on the byte-order mark at a text's front, which is held as a part of the first line.
use Rattle.std.proofs.Common.{◌≡◌, ℕ, ◌+◌, ◌≤◌, ◌==◌, ◌&&◌, inl, inr, List, [], ◌∷◌, ◌++◌, length, Bool, true, false}
use Rattle.std.proofs.Common.{cond, option_to_list, refl, sym, ap, ◌∙◌, arith}
use Rattle.std.proofs.lemmas.Bool.{and_parts, eqb-true, cases_Bool, cond-true, cond-false}
use Rattle.dw_board.specs.Geometry.{Geometry}
use Rattle.dw_notation.specs.TextLines.{without_mark}
use Rattle.dw_notation.specs.inner.TextLines.{line_of, line_found}
use Rattle.dw_notation.specs.inner.Ahead.{found_from}

-- a mark has three bytes
length-without_mark : (line : List ℕ) → length line ≤ length (without_mark line) + 3
length-without_mark [] = omega arith
length-without_mark (a ∷ []) = omega arith
length-without_mark (a ∷ b ∷ []) = omega arith
length-without_mark (a ∷ b ∷ c ∷ line) = elim ((a == 0xEF) && (b == 0xBB) && (c == 0xBF)) as
    (λ v. length (a ∷ b ∷ c ∷ line) ≤ length (cond v line (a ∷ b ∷ c ∷ line)) + 3) [
      | true ↦ omega arith
      | false ↦ omega
          arith
    ]

pub length-line_of : (first : Bool) (line : List ℕ) → length line ≤ length (line_of first line) + 3
length-line_of true line = length-without_mark line
length-line_of false line = omega arith

-- once three bytes of the first line are read, the mark is known
known : (at_end : Bool) (g : Geometry) (a b c : ℕ) (line bytes : List ℕ)
    → found_from at_end g true (a ∷ b ∷ c ∷ line) bytes
    ≡ found_from at_end g false (without_mark (a ∷ b ∷ c ∷ line)) bytes
known at_end g a b c line [] = refl
known at_end g a b c line (byte ∷ bytes) =
    let here = option_to_list (line_found g (without_mark (a ∷ b ∷ c ∷ line))) ++ found_from at_end g false [] bytes in
    let on : without_mark (a ∷ b ∷ c ∷ line) ++ byte ∷ [] ≡ without_mark (a ∷ b ∷ c ∷ (line ++ byte ∷ [])) =
    elim ((a == 0xEF) && (b == 0xBB) && (c == 0xBF)) as (λ v. cond v line (a ∷ b ∷ c ∷ line) ++ byte ∷ []
    ≡ cond v (line ++ byte ∷ []) (a ∷ b ∷ c ∷ (line ++ byte ∷ []))) [ true ↦ refl | false ↦ refl ] in
    ap (λ l. cond (byte == 10) here l) (known at_end g a b c (line ++ byte ∷ []) bytes
    ∙ ap (λ l. found_from at_end g false l bytes) (sym on))

-- bytes that are a mark are passed over
passed : (at_end : Bool) (g : Geometry) (a b c : ℕ) (bytes : List ℕ)
    → ((a == 0xEF) && (b == 0xBB) && (c == 0xBF)) ≡ true
    → found_from at_end g true [] (a ∷ b ∷ c ∷ bytes) ≡ found_from at_end g false [] bytes
passed at_end g a b c bytes mark =
    let all = and_parts ((a == 0xEF) && (b == 0xBB)) (c == 0xBF) mark in
    let both = and_parts (a == 0xEF) (b == 0xBB) all.0 in
    ap (λ x. found_from at_end g true [] (x ∷ b ∷ c ∷ bytes)) (eqb-true a 0xEF both.0)
    ∙ ap (λ x. found_from at_end g true [] (0xEF ∷ x ∷ c ∷ bytes)) (eqb-true b 0xBB both.1)
    ∙ ap (λ x. found_from at_end g true [] (0xEF ∷ 0xBB ∷ x ∷ bytes)) (eqb-true c 0xBF all.1)
    ∙ known at_end g 0xEF 0xBB 0xBF [] bytes

-- other bytes are read
kept : (at_end : Bool) (g : Geometry) (a b c : ℕ) (bytes : List ℕ)
    → ((a == 0xEF) && (b == 0xBB) && (c == 0xBF)) ≡ false
    → found_from at_end g true [] (a ∷ b ∷ c ∷ bytes) ≡ found_from at_end g false [] (a ∷ b ∷ c ∷ bytes)
kept at_end g a b c bytes none =
    let first = found_from at_end g false [] (b ∷ c ∷ bytes) in
    let second = option_to_list (line_found g (a ∷ [])) ++ found_from at_end g false [] (c ∷ bytes) in
    let third = option_to_list (line_found g (a ∷ b ∷ [])) ++ found_from at_end g false [] bytes in
    ap (λ l. cond (a == 10) (option_to_list (line_found g []) ++ first) (cond (b == 10) second (cond (c == 10) third
    l))) (known at_end g a b c [] bytes
    ∙ ap (λ l. found_from at_end g false l bytes) (cond-false _ [] (a ∷ b ∷ c ∷ []) none))

-- a text of lines says what it says without its mark
pub lines-mark : (at_end : Bool) (g : Geometry) (bytes : List ℕ) → found_from at_end g true [] bytes
    ≡ found_from at_end g false [] (without_mark bytes)
lines-mark at_end g [] = refl
lines-mark at_end g (a ∷ []) = refl
lines-mark at_end g (a ∷ b ∷ []) = refl
lines-mark at_end g (a ∷ b ∷ c ∷ bytes) = elim (cases_Bool ((a == 0xEF) && (b == 0xBB) && (c == 0xBF))) [
  | inl mark ↦ passed at_end g a b c bytes mark ∙ ap (found_from at_end g false [])
      (sym (cond-true _ bytes (a ∷ b ∷ c ∷ bytes) mark))
  | inr none ↦ kept at_end g a b c bytes none ∙ ap (found_from at_end g false [])
      (sym (cond-false _ bytes (a ∷ b ∷ c ∷ bytes) none))
]
