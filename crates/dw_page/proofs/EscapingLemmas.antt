-- Escaped texts, byte by byte.
use Rattle.std.proofs.Common.{◌≡◌, ℕ, ◌+◌, ◌<◌, ◌∙◌, ap, sym, subst, refl, arith, true, false, List, [], ◌∷◌, ◌++◌, map}
use Rattle.std.proofs.Common.{Option, Some, None, take, length, get_or, flat_map, inl, inr}
use Rattle.std.specs.Prelude.{◌==◌, codes}
use Rattle.std.proofs.lemmas.Bool.{cases_Bool, eqb-true}
use Rattle.std.proofs.lemmas.List.{take_more, map-append, append_assoc, append-nil}
use Rattle.std.proofs.lemmas.Grind.{flat_map-append}
use Rattle.std.specs.Prelude.{IsUtf8}
use Rattle.std.specs.Str.{is_utf8}
use Rattle.std.proofs.lemmas.Str.{IsUtf8-from_is_utf8}
use Rattle.dw_page.specs.Escaping.{shown, escaped, printable, stands_for}
use Rattle.dw_page.specs.EscapingLaws.{is_plain, read}

-- what holds of the five bytes with their entities, and of any other byte with itself, holds of each with what stands
-- for it
pub each_shown : (P : ℕ → List ℕ → Type 0) → P 60 (codes "&lt;") → P 62 (codes "&gt;") → P 38 (codes "&amp;")
    → P 34 (codes "&quot;") → P 39 (codes "&#39;")
    → ((b : ℕ) → (b == 60) ≡ false → (b == 62) ≡ false → (b == 38) ≡ false → (b == 34) ≡ false → (b == 39) ≡ false
    → P b (b ∷ [])) → (b : ℕ) → P b (shown b)
each_shown P lt gt amp quot apos other b =
    let at : (n : ℕ) → (b == n) ≡ true → P n (shown n) → P b (shown b) =
    λ n e h. subst (λ k. P k (shown k)) (sym (eqb-true b n e)) h in
    elim (cases_Bool (b == 60)) [
      | inl e ↦ at 60 e lt
      | inr a ↦
          elim (cases_Bool (b == 62)) [
            | inl e ↦ at 62 e gt
            | inr c ↦
                elim (cases_Bool (b == 38)) [
                  | inl e ↦ at 38 e amp
                  | inr d ↦
                      elim (cases_Bool (b == 34)) [
                        | inl e ↦ at 34 e quot
                        | inr f ↦
                            elim (cases_Bool (b == 39)) [
                              | inl e ↦ at 39 e apos
                              | inr h ↦ rw (a, c, d, f, h) (other b a c d f h)
                            ]
                      ]
                ]
          ]
    ]

shown_plain : (rest : List ℕ) (b : ℕ) → is_plain (shown b ++ rest) ≡ is_plain rest
shown_plain rest =
    each_shown (λ b s. is_plain (s ++ rest) ≡ is_plain rest) refl refl refl refl refl
    (λ b a c d f h. rw (a, c, d, f, h) refl)

shown_read : (rest : List ℕ) (b : ℕ) → read None (shown b ++ rest) ≡ b ∷ read None rest
shown_read rest =
    each_shown (λ b s. read None (s ++ rest) ≡ b ∷ read None rest) refl refl refl refl refl
    (λ b a c d f h. rw d refl)

pub escaped_plain : (text : List ℕ) → is_plain (escaped text) ≡ true
escaped_plain [] = refl
escaped_plain (b ∷ text) = shown_plain (escaped text) b ∙ escaped_plain text

pub escaped_read : (text : List ℕ) → read None (escaped text) ≡ text
escaped_read [] = refl
escaped_read (b ∷ text) = shown_read (escaped text) b ∙ ap (λ t. b ∷ t) (escaped_read text)

-- bytes that are no text in UTF-8 are told so
pub not_utf8 : (bytes : List ℕ) → (IsUtf8 bytes → ⊥) → is_utf8 bytes ≡ false
not_utf8 bytes none =
    elim (cases_Bool (is_utf8 bytes)) [ inl e ↦ absurd (none (IsUtf8-from_is_utf8 bytes e)) | inr e ↦ e ]
