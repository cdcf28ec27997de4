-- Lemmas on the names of tags.
use Rattle.std.proofs.Common.{◌≡◌, ℕ, zero, suc, ◌<◌, ◌==◌, ◌&&◌, List, [], ◌∷◌, length, take, map, Bool, true, false}
use Rattle.std.proofs.Common.{IsTrue, ◌↔◌, refl, sym, ap, ◌∙◌, arith, cond, inl, inr}
use Rattle.std.proofs.lemmas.Bool.{eqb-true, eq-eqb, and_parts, and_from, cases_Bool}
use Rattle.std.specs.Char.{to_ascii_lowercase}
use Rattle.std.specs.Prelude.{codes}
use Rattle.dw_notation.specs.Tags.{same_name}
use Rattle.dw_notation.specs.inner.Sections.{kind_of}
use Rattle.dw_notation.specs.declared.problems.pdn.section.TagKind.TheVariants.{FenTag, GameTag, OtherTag}

same_name-maps : (name other : List ℕ) → same_name name other ≡ true → map to_ascii_lowercase name
    ≡ map to_ascii_lowercase other
same_name-maps [] [] h = refl
same_name-maps [] (b ∷ other) h = cc
same_name-maps (a ∷ name) [] h = cc
same_name-maps (a ∷ name) (b ∷ other) h =
    let parts = and_parts (to_ascii_lowercase a == to_ascii_lowercase b) (same_name name other) h in
    let first : to_ascii_lowercase a ≡ to_ascii_lowercase b = eqb-true _ _ parts.0 in
    let rest = same_name-maps name other parts.1 in
    cc

maps-same_name : (name other : List ℕ) → map to_ascii_lowercase name ≡ map to_ascii_lowercase other
    → same_name name other ≡ true
maps-same_name [] [] h = refl
maps-same_name [] (b ∷ other) h = cc
maps-same_name (a ∷ name) [] h = cc
maps-same_name (a ∷ name) (b ∷ other) h =
    let first : to_ascii_lowercase a ≡ to_ascii_lowercase b = cc in
    let rest : map to_ascii_lowercase name ≡ map to_ascii_lowercase other = cc in
    and_from _ _ (eq-eqb _ _ first) (maps-same_name name other rest)

-- names are the same where they are without regard to the case of letters
pub same_name-test : (b : Bool) (name other : List ℕ)
    → (IsTrue b ↔ (map to_ascii_lowercase name ≡ map to_ascii_lowercase other)) → b ≡ same_name name other
same_name-test b name other iff = elim (cases_Bool (same_name name other)) [
  | inl same ↦ iff.1 (same_name-maps name other same) ∙ sym same
  | inr differ ↦ elim (cases_Bool b) [
    | inl is ↦ absurd (let bad : true ≡ false = sym (maps-same_name name other (iff.0 is)) ∙ differ in cc)
    | inr is_not ↦ is_not ∙ sym differ
  ]
]

-- a name cut behind more bytes than the other has
pub same_name-take : (n : ℕ) (name other : List ℕ) → length other < n → same_name (take n name) other
    ≡ same_name name other
same_name-take zero name other h = absurd (omega arith)
same_name-take (suc n) [] other h = refl
same_name-take (suc n) (a ∷ name) [] h = refl
same_name-take (suc n) (a ∷ name) (b ∷ other) h = ap (λ v. (to_ascii_lowercase a == to_ascii_lowercase b) && v)
    (same_name-take n name other (omega arith))

pub kind_of-take : (name : List ℕ) → kind_of (take 9 name) ≡ kind_of name
kind_of-take name =
    ap (λ v. cond v FenTag (cond (same_name (take 9 name) (codes "GameType")) GameTag OtherTag))
    (same_name-take 9 name (codes "FEN") (omega arith))
    ∙ ap (λ v. cond (same_name name (codes "FEN")) FenTag (cond v GameTag OtherTag))
    (same_name-take 9 name (codes "GameType") (omega arith))
