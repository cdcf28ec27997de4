-- Lemmas on a section's bytes that are kept, without the spaces behind it.
use Rattle.std.proofs.Common.{◌≡◌, ◌==◌, ℕ, zero, suc, ◌+◌, ◌-◌, ◌<◌, List, [], ◌∷◌, ◌++◌, length, take, true, false}
use Rattle.std.proofs.Common.{get_or, refl, sym, ap, subst, ◌∙◌, arith, append_assoc, length-append, inl, inr}
use Rattle.std.proofs.Math.Seq.{take-append_seam, take-append-add, get_or-append_seam, get_or-append_right}
use Rattle.std.proofs.lemmas.Bool.{and_parts, eqb-true, cases_Bool}
use Rattle.std.proofs.lemmas.List.Sums.{suffix_len_is}
use Rattle.std.proofs.lemmas.Str.Ascii.{trim_ascii_end_is}
use Rattle.std.specs.Char.{is_ascii_whitespace}
use Rattle.std.specs.List.{list_all, suffix_len}
use Rattle.std.specs.Str.{IsTrimAsciiEnd}
use Rattle.dw_notation.specs.Tags.{is_space}
use Rattle.dw_notation.specs.declared.problems.TheConstants.{MAX_SECTION}
use Rattle.dw_games.specs.inner.Sectioning.{IsRow}

-- ---- spaces are white space
is_white-space : (byte : ℕ) → is_space byte ≡ true → is_ascii_whitespace byte ≡ true
is_white-space byte h = elim (cases_Bool (byte == 32)) [
  | inl is ↦ rw (eqb-true byte 32 is) refl
  | inr no_blank ↦ elim (cases_Bool (byte == 9)) [
    | inl is ↦ rw (eqb-true byte 9 is) refl
    | inr no_tab ↦ elim (cases_Bool (byte == 10)) [
      | inl is ↦ rw (eqb-true byte 10 is) refl
      | inr no_feed ↦ rw (eqb-true byte 13 (rw (no_blank, no_tab, no_feed) at h)) refl
    ]
  ]
]

white_at : (gap : List ℕ) (k : ℕ) → list_all is_space gap ≡ true → k < length gap
    → is_ascii_whitespace (get_or gap k 0) ≡ true
white_at [] k all less = absurd (omega (arith, less))
white_at (byte ∷ gap) zero all less = is_white-space byte (and_parts (is_space byte) (list_all is_space gap) all).0
white_at (byte ∷ gap) (suc k) all less =
    white_at gap k (and_parts (is_space byte) (list_all is_space gap) all).1 (omega (arith, less))

take_spaces : (n : ℕ) (gap : List ℕ) → list_all is_space gap ≡ true → list_all is_space (take n gap) ≡ true
take_spaces zero gap all = refl
take_spaces (suc n) [] all = refl
take_spaces (suc n) (byte ∷ gap) all =
    let both = and_parts (is_space byte) (list_all is_space gap) all in rw both.0 (take_spaces n gap both.1)

-- ---- bytes cut to the size of what is trimmed
pub cut_to_trimmed : (bytes trimmed kept : List ℕ) → IsTrimAsciiEnd bytes trimmed → kept ≡ take (length trimmed) bytes
    → IsTrimAsciiEnd bytes kept
cut_to_trimmed bytes trimmed kept is e =
    subst (IsTrimAsciiEnd bytes) (is.1 ∙ ap (λ n. take n bytes) (sym is.2) ∙ sym e) is

-- ---- trimmed up to a bracket
trimmed : (front gap tags : List ℕ) → list_all is_space gap ≡ true → IsTrimAsciiEnd ((front ++ 93 ∷ []) ++ gap) tags
    → tags ≡ front ++ 93 ∷ []
trimmed front gap tags all is =
    let text = front ++ 93 ∷ [] in
    let size : length text ≡ length front + 1 = length-append front (93 ∷ []) in
    let whole : length (text ++ gap) ≡ length text + length gap = length-append text gap in
    let behind : suffix_len is_ascii_whitespace (text ++ gap) ≡ length (text ++ gap) - length text =
    suffix_len_is is_ascii_whitespace (text ++ gap) (length text) 0 (omega (arith, whole))
    (λ k from to. subst (λ x. is_ascii_whitespace x ≡ true) (sym (get_or-append_right text gap k 0 from))
    (white_at gap (k - length text) all (omega (arith, whole, from, to))))
    (λ some. subst (λ x. is_ascii_whitespace x ≡ false)
    (sym (bracket_at front gap (length text - 1) (omega (arith, size)))) refl) in
    let cut : length (text ++ gap) - suffix_len is_ascii_whitespace (text ++ gap) ≡ length text =
    omega (arith, behind, whole) in
    trim_ascii_end_is (text ++ gap) tags is ∙ ap (λ n. take n (text ++ gap)) cut ∙ take-append_seam text gap where
      bracket_at : (front gap : List ℕ) (k : ℕ) → k ≡ length front → get_or ((front ++ 93 ∷ []) ++ gap) k 0 ≡ 93
      bracket_at front gap k e = ap (λ l. get_or l k 0) (append_assoc front (93 ∷ []) gap)
          ∙ ap (λ n. get_or (front ++ 93 ∷ gap) n 0) e ∙ get_or-append_seam front 93 gap 0

pub kept_trimmed : (seen kept tags : List ℕ) → (r : IsRow seen) → kept ≡ take MAX_SECTION seen
    → IsTrimAsciiEnd kept tags → tags ≡ r.front ++ 93 ∷ []
kept_trimmed seen kept tags r same is =
    let text = r.front ++ 93 ∷ [] in
    let more = 65536 - length text in
    let fits : MAX_SECTION ≡ length text + more = omega (arith, r.few, length-append r.front (93 ∷ [])) in
    let cut : kept ≡ text ++ take more r.gap =
    same ∙ ap (take MAX_SECTION) (r.joined ∙ sym (append_assoc r.front (93 ∷ []) r.gap))
    ∙ ap (λ n. take n (text ++ r.gap)) fits ∙ take-append-add text r.gap more in
    trimmed r.front (take more r.gap) tags (take_spaces more r.gap r.spaces)
    (subst (λ l. IsTrimAsciiEnd l tags) cut is)
