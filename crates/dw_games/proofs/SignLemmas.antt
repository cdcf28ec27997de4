-- Signs of several bytes at the front of a text, and rows of them.
use Rattle.std.proofs.Common.{◌≡◌, ℕ, zero, suc, ◌+◌, ◌<◌, ◌≤◌, Bool, true, false, ◌&&◌, List, [], ◌∷◌, ◌++◌}
use Rattle.std.proofs.Common.{length, take, drop, refl, sym, ap, subst, ◌∙◌, arith, inl, inr, append_assoc}
use Rattle.std.proofs.Common.{length-append}
use Rattle.std.proofs.Math.Seq.{drop-append_seam, take-add}
use Rattle.std.proofs.lemmas.List.{length-drop, length-take-le, take-append-drop, drop-drop}
use Rattle.std.proofs.lemmas.Bool.{cases_Bool, and_parts, eqb-true, true≢false}
use Rattle.dw_board.specs.FenTokens.{is_digit}
use Rattle.dw_board.specs.Lists.{Member}
use Rattle.dw_games.specs.Signs.{IsRow, no_sign, one_sign, begins, crosses, marks, width, written_signs, written_width}
use Rattle.dw_games.specs.inner.Classes.{width_of}
use Rattle.dw_games.specs.declared.signs.Signs.{Signs}
use Rattle.dw_games.specs.declared.signs.Signs.TheVariants.{Mark, Cross, Written}
use Rattle.dw_games.specs.Tokens.{begins_with}

absent : {A : Type 0} → true ≡ false → A
absent h = absurd (true≢false h)

-- ---- one sign
begins_whole : (s text : List ℕ) → begins s text ≡ true
    → (length s ≤ length text) × (take (length s) text ≡ s)
begins_whole [] text h = (omega arith, refl)
begins_whole (x ∷ s) [] h = absent (sym h)
begins_whole (x ∷ s) (y ∷ text) h =
    let both = and_parts _ _ h in
    let same : y ≡ x = eqb-true y x both.0 in
    let rest = begins_whole s text both.1 in
    (omega (arith, rest.0), ap (λ z. z ∷ take (length s) text) same ∙ ap (λ z. x ∷ z) rest.1)

pub width_whole : (signs : List (List ℕ)) (text : List ℕ) → (width signs text ≤ length text)
    × (0 < width signs text → Member (take (width signs text) text) signs)
width_whole [] text = (omega arith, λ some. absurd (omega (arith, some)))
width_whole (s ∷ signs) text =
    let Whole : ℕ → Type 0 = λ n. (n ≤ length text) × (0 < n → Member (take n text) (s ∷ signs)) in
    elim (cases_Bool (begins s text)) [
      | inl is ↦
          let h = begins_whole s text is in
          let same : width (s ∷ signs) text ≡ length s = rw is refl in
          subst Whole (sym same) (h.0, λ some. inl h.1)
      | inr other ↦
          let h = width_whole signs text in
          let same : width (s ∷ signs) text ≡ width signs text = rw other refl in
          subst Whole (sym same) (h.0, λ some. inr (h.1 some))
    ]

-- the first byte of each sign passes a test
abbrev pub heads_pass : (ℕ → Bool) → List (List ℕ) → Bool
heads_pass test [] = true
heads_pass test ([] ∷ signs) = false
heads_pass test ((x ∷ s) ∷ signs) = test x && heads_pass test signs

pub head_passes : (test : ℕ → Bool) (signs : List (List ℕ)) → heads_pass test signs ≡ true → (b : ℕ) (bs : List ℕ)
    → 0 < width signs (b ∷ bs) → test b ≡ true
head_passes test [] all b bs some = absurd (omega (arith, some))
head_passes test ([] ∷ signs) all b bs some = absent (sym all)
head_passes test ((x ∷ s) ∷ signs) all b bs some = elim (cases_Bool (begins (x ∷ s) (b ∷ bs))) [
  | inl is ↦ subst (λ z. test z ≡ true) (sym (eqb-true b x (and_parts _ _ is).0)) (and_parts _ _ all).0
  | inr other ↦ head_passes test signs (and_parts _ _ all).1 b bs (rw other at some)
]

pub no_width : (test : ℕ → Bool) (signs : List (List ℕ)) → heads_pass test signs ≡ true → (b : ℕ) (bs : List ℕ)
    → test b ≡ false → width signs (b ∷ bs) ≡ 0
no_width test [] all b bs fails = refl
no_width test ([] ∷ signs) all b bs fails = absent (sym all)
no_width test ((x ∷ s) ∷ signs) all b bs fails = elim (cases_Bool (begins (x ∷ s) (b ∷ bs))) [
  | inl is ↦ absent (sym (subst (λ z. test z ≡ true) (sym (eqb-true b x (and_parts _ _ is).0)) (and_parts _ _ all).0)
      ∙ fails)
  | inr other ↦ rw other (no_width test signs (and_parts _ _ all).1 b bs fails)
]

-- ---- rows
pub row_ends : (w : List ℕ → ℕ) {row after : List ℕ} → IsRow w row after → w after ≡ 0
row_ends w (no_sign e) = e
row_ends w (one_sign s some is more) = row_ends w more

-- the number of bytes of a row of signs at the front of a text that has no more than some number of bytes
pub row_len : (w : List ℕ → ℕ) → ℕ → List ℕ → ℕ
row_len w zero text = 0
row_len w (suc fuel) text = elim (w text) [ zero ↦ 0 | suc n ↦ suc n + row_len w fuel (drop (suc n) text) ]

pub no_row_len : (w : List ℕ → ℕ) (fuel : ℕ) (text : List ℕ) → w text ≡ 0 → row_len w fuel text ≡ 0
unfolding row_len
no_row_len w zero text e = refl
no_row_len w (suc fuel) text e = rw (e, row_len) refl

row_step : (w : List ℕ → ℕ) (fuel n : ℕ) (text : List ℕ) → w text ≡ suc n
    → row_len w (suc fuel) text ≡ suc n + row_len w fuel (drop (suc n) text)
unfolding row_len
row_step w fuel n text e = rw (e, row_len) refl

pub row_front : (w : List ℕ → ℕ) (fuel : ℕ) {row after : List ℕ} → IsRow w row after → length row ≤ fuel
    → row_len w fuel (row ++ after) ≡ length row
row_front w fuel (no_sign {after = after} e) fits = no_row_len w fuel after e
row_front w zero (one_sign {row = row} s some is more) fits = absurd (omega (arith, some, fits, length-append s row))
row_front w (suc fuel) (one_sign {row = row} {after = after} [] some is more) fits = absurd (omega (arith, some))
row_front w (suc fuel) (one_sign {row = row} {after = after} (x ∷ s) some is more) fits =
    let h = row_front w fuel more (omega (arith, fits, length-append s row)) in
    let whole : (x ∷ s) ++ (row ++ after) ≡ ((x ∷ s) ++ row) ++ after = sym (append_assoc (x ∷ s) row after) in
    let step = row_step w fuel (length s) ((x ∷ s) ++ (row ++ after)) is in
    let rest : drop (length s) (s ++ (row ++ after)) ≡ row ++ after = drop-append_seam s (row ++ after) in
    let last : row_len w (suc fuel) ((x ∷ s) ++ (row ++ after)) ≡ suc (length s) + length row =
    step ∙ (ap (λ z. suc (length s) + row_len w fuel z) rest ∙ ap (λ n. suc (length s) + n) h) in
    subst (λ z. row_len w (suc fuel) z ≡ length ((x ∷ s) ++ row)) whole (last ∙ sym (length-append (x ∷ s) row))

-- a sign goes onto the front of a row
pub row_more : (w : List ℕ → ℕ) (text : List ℕ) (m n : ℕ) → 0 < m → m ≤ length text → w text ≡ m
    → IsRow w (take n (drop m text)) (drop n (drop m text)) → IsRow w (take (m + n) text) (drop (m + n) text)
row_more w text m n some fits is more =
    let whole : take m text ++ (take n (drop m text) ++ drop n (drop m text)) ≡ text =
    ap (λ z. take m text ++ z) (take-append-drop n (drop m text)) ∙ take-append-drop m text in
    let many : length (take m text) ≡ m = length-take-le m text fits in
    let first : 0 < length (take m text) = omega (arith, some, many) in
    let wide : w (take m text ++ (take n (drop m text) ++ drop n (drop m text))) ≡ length (take m text) =
    ap w whole ∙ (is ∙ sym many) in
    rw (take-add m n text, ← drop-drop n m text) (one_sign (take m text) first wide more)

pub no_row : (w : List ℕ → ℕ) (text : List ℕ) → IsRow w [] text → w text ≡ 0
no_row w text row = row_ends w row

-- each text begins with a row
pub row_some : (w : List ℕ → ℕ) → ((text : List ℕ) → w text ≤ length text) → (fuel : ℕ) (text : List ℕ)
    → length text ≤ fuel → (n : ℕ) × (n ≤ length text) × IsRow w (take n text) (drop n text)
row_some w fits zero text low =
    let none : w text ≡ 0 = omega (arith, fits text, low) in (0, omega arith, no_sign none)
row_some w fits (suc fuel) text low =
    elim (w text) as (λ m. w text ≡ m → (n : ℕ) × (n ≤ length text) × IsRow w (take n text) (drop n text)) [
      | zero ↦ λ e. (0, omega arith, no_sign e)
      | suc m ↦ λ e.
          let within : suc m ≤ length text = omega (arith, fits text, e) in
          let left = length-drop (suc m) text in
          let rest = row_some w fits fuel (drop (suc m) text) (omega (arith, low, within, left)) in (
            suc m + rest.0,
            omega (arith, within, rest.1, length-drop (suc m) text),
            row_more w text (suc m) rest.0 (omega arith) within e rest.2,
          )
    ] refl

-- ---- the signs of moves and results
pub written_fits : (text : List ℕ) → written_width text ≤ length text
written_fits [] = omega arith
written_fits (b ∷ bs) = elim (cases_Bool (is_digit b)) [
  | inl is ↦ rw is (omega arith)
  | inr other ↦ rw other (width_whole written_signs (b ∷ bs)).0
]

pub digit_wide : (b : ℕ) (bs : List ℕ) → is_digit b ≡ true → written_width (b ∷ bs) ≡ 1
digit_wide b bs is = rw is refl

pub digit_row : (b : ℕ) {row after : List ℕ} → is_digit b ≡ true → IsRow written_width row after
    → IsRow written_width (b ∷ row) after
digit_row b {row} {after} is run = one_sign (b ∷ []) (omega arith) (digit_wide b (row ++ after) is) run

pub no_digit_first : (xs : List ℕ) → written_width xs ≡ 0 → begins_with is_digit xs ≡ false
no_digit_first [] h = refl
no_digit_first (x ∷ xs) h = elim (cases_Bool (is_digit x)) [
  | inl is ↦ absurd (omega (arith, h, digit_wide x xs is))
  | inr other ↦ other
]

-- ---- a row that is counted from the front
pub kind_fits : (kind : Signs) (text : List ℕ) → width_of kind text ≤ length text
kind_fits Mark text = (width_whole marks text).0
kind_fits Cross text = (width_whole crosses text).0
kind_fits Written text = written_fits text

-- what stands behind so many bytes goes on a row that begins at the front
abbrev GoesOn : (List ℕ → ℕ) → List ℕ → ℕ → Type 0
GoesOn w text count = (n : ℕ) → IsRow w (take n (drop count text)) (drop n (drop count text))
    → IsRow w (take (count + n) text) (drop (count + n) text)

pub row_done : (w : List ℕ → ℕ) (text : List ℕ) (count : ℕ) → GoesOn w text count → w (drop count text) ≡ 0
    → IsRow w (take count text) (drop count text)
row_done w text count h none =
    let same : count + 0 ≡ count = omega arith in
    subst (λ k. IsRow w (take k text) (drop k text)) same (h 0 (no_sign none))

pub row_next : (w : List ℕ → ℕ) (text : List ℕ) (count m : ℕ) → GoesOn w text count → 0 < m
    → m ≤ length (drop count text) → w (drop count text) ≡ m → GoesOn w text (count + m)
row_next w text count m h some fits is n row =
    let there : IsRow w (take n (drop m (drop count text))) (drop n (drop m (drop count text))) =
    subst (λ x. IsRow w (take n x) (drop n x)) (sym (drop-drop m count text)) row in
    let same : count + (m + n) ≡ (count + m) + n = omega arith in
    subst (λ k. IsRow w (take k text) (drop k text)) same
    (h (m + n) (row_more w (drop count text) m n some fits is there))
