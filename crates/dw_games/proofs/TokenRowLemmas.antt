-- Each text has one row of tokens.
use Rattle.std.proofs.Common.{◌≡◌, ◌==◌, ℕ, zero, suc, ◌+◌, ◌<◌, ◌≤◌, Bool, true, false, ◌&&◌, ◌||◌, List, [], ◌∷◌}
use Rattle.std.proofs.Common.{◌++◌, length, take, drop, refl, sym, ap, subst, ◌∙◌, arith, inl, inr, append_assoc}
use Rattle.std.proofs.Common.{append-nil, length-append, add-one}
use Rattle.std.specs.Prelude.{if◌then◌else◌}
use Rattle.std.specs.List.{list_all}
use Rattle.std.proofs.Math.Seq.{take-append_seam, drop-append_seam}
use Rattle.std.proofs.lemmas.List.{drop_all, nil_from_length}
use Rattle.std.proofs.lemmas.Bool.{cases_Bool, or_cases, eqb-true}
use Rattle.dw_board.specs.FenTokens.{is_digit}
use Rattle.dw_notation.specs.Tags.{ends_line}
use Rattle.dw_games.specs.Signs.{IsRow, no_sign, one_sign, crosses, marks, width, written_width}
use Rattle.dw_games.specs.Tokens.{IsRun, IsToken, Token, AreTokens, begins_with, is_inside, is_in_line, is_dot, is_stop}
use Rattle.dw_games.specs.Tokens.{is_letter, has_plus, is_lone_cross, begins_mark, numbers_move, is_between}
use Rattle.dw_games.specs.Tokens.{begins_token, in_braces, to_line_end, whole_line, number, closed_number}
use Rattle.dw_games.specs.Tokens.{numbered_mark, mark_row, lone_cross, letter_plus, opens, closes, written}
use Rattle.dw_games.specs.Tokens.{open_result, unclosed, no_number, unknown, nothing, blank, token}
use Rattle.dw_games.specs.Laws.{HasOneRow}
use Rattle.dw_games.specs.declared.tokens.TokenKind.{TokenKind}
use Rattle.dw_games.specs.declared.tokens.TokenKind.TheVariants.{Comment, Passed, Written, Opens, Closes, CutOff}
use Rattle.dw_games.specs.declared.tokens.TokenKind.TheVariants.{Unknown}
use Rattle.dw_board.specs.Lists.{Member}
use Rattle.std.specs.Prelude.{not, ◌⊎◌}
use Rattle.std.proofs.Common.{leb}
use Rattle.std.proofs.lemmas.List.{length-drop, take-append-drop}
use Rattle.std.proofs.lemmas.Bool.{cases_lt, not-true, not-false, leb-true}
use Rattle.std.proofs.lemmas.Bool.Decides.{eqb_tells}
use Rattle.dw_games.proofs.SignLemmas.{row_some, no_row, width_whole, written_fits, head_passes, no_width, row_len}
use Rattle.dw_games.proofs.SignLemmas.{row_front, no_row_len, digit_wide, no_digit_first}
use Rattle.dw_games.proofs.TokenLemmas.{absent, comment_token, unclosed_token, mark_token, dots_token, mark_row_token}
use Rattle.dw_games.proofs.TokenLemmas.{lone_cross_token, letter_token, no_mark, closed_token, number_token, no_stop}
use Rattle.dw_games.proofs.TokenLemmas.{written_token, unknown_token, token_next}
use Rattle.std.proofs.lemmas.Bool.{and_parts}

-- the longest run at the front
run_len : (ℕ → Bool) → List ℕ → ℕ
run_len test [] = 0
run_len test (x ∷ xs) = elim (test x) [ true ↦ suc (run_len test xs) | false ↦ 0 ]

run_front : (test : ℕ → Bool) (run after : List ℕ) → list_all test run ≡ true → begins_with test after ≡ false
    → run_len test (run ++ after) ≡ length run
unfolding run_len
run_front test [] [] all ends = refl
run_front test [] (y ∷ after) all ends = rw ends refl
run_front test (x ∷ run) after all ends = elim (cases_Bool (test x)) [
  | inl is ↦ rw is (ap suc (run_front test run after (rw is at all) ends))
  | inr other ↦ absent (sym (rw other at all))
]

run_exists : (test : ℕ → Bool) (xs : List ℕ) → (n : ℕ) × (n ≤ length xs) × IsRun test (take n xs) (drop n xs)
run_exists test [] = (0, omega arith, record { all = refl; ends = refl })
run_exists test (x ∷ xs) = elim (cases_Bool (test x)) [
  | inl is ↦
      let h = run_exists test xs in (suc h.0, omega (arith, h.1), record { all = rw is h.2.all; ends = h.2.ends })
  | inr other ↦ (0, omega arith, record { all = refl; ends = other })
]

-- ---- each text has a row
-- a token begins with this byte, and has so many of those behind it
abbrev Front : Bool → ℕ → List ℕ → Type 0
Front fresh b bs = (what : TokenKind) × (n : ℕ) × (n ≤ length bs) × IsToken fresh what (b ∷ take n bs) (drop n bs)

front_comment : (fresh : Bool) (bs : List ℕ) → Front fresh 123 bs
front_comment fresh bs =
    let run = run_exists is_inside bs in
    elim (cases_lt run.0 (length bs)) [
      | inl closed ↦ (Comment, run.0 + 1, omega (arith, closed), comment_token fresh bs run.0 closed run.2)
      | inr all ↦ (CutOff, run.0, run.1, unclosed_token fresh bs run.0 all run.2)
    ]

front_line : (fresh : Bool) (bs : List ℕ) → is_between 59 bs ≡ false → Front fresh 59 bs
front_line fresh bs between =
    let run = run_exists is_in_line bs in
    let whole : numbers_move (take run.0 bs ++ drop run.0 bs) ≡ false =
    subst (λ x. numbers_move x ≡ false) (sym (take-append-drop run.0 bs)) between in
    (Comment, run.0, run.1, to_line_end whole run.2)

front_whole : (fresh : Bool) (bs : List ℕ) → Front fresh 37 bs
front_whole true bs = let run = run_exists is_in_line bs in (Comment, run.0, run.1, whole_line run.2)
front_whole false bs = (Unknown, 0, omega arith, unknown refl refl)

mark_by : (fresh : Bool) (bs : List ℕ) → (n : ℕ) × (n ≤ length bs) × IsRun is_digit (take n bs) (drop n bs)
    → Front fresh 36 bs
mark_by fresh bs (zero, fits, run) = (CutOff, 0, fits, no_number run.ends)
mark_by fresh bs (suc n, fits, run) = (Passed, suc n, fits, mark_token fresh bs (suc n) (omega arith) fits run)

front_mark : (fresh : Bool) (bs : List ℕ) → Front fresh 36 bs
front_mark fresh bs = mark_by fresh bs (run_exists is_digit bs)

front_dots : (fresh : Bool) (bs : List ℕ) → Front fresh 46 bs
front_dots fresh bs = let run = run_exists is_dot bs in (Passed, run.0, run.1, dots_token fresh bs run.0 run.2)

-- the first bytes of a text
abbrev Cut : Bool → List ℕ → Type 0
Cut fresh text = (n : ℕ) × (0 < n) × (n ≤ length text) × IsToken fresh Passed (take n text) (drop n text)

front_cut : (fresh : Bool) (b : ℕ) (bs : List ℕ) → Cut fresh (b ∷ bs) → Front fresh b bs
front_cut fresh b bs (zero, some, fits, is) = absurd (omega (arith, some))
front_cut fresh b bs (suc n, some, fits, is) = (Passed, n, omega (arith, fits), is)

digit_by : (fresh : Bool) (b : ℕ) (bs : List ℕ) → is_digit b ≡ true
    → (d : (n : ℕ) × (n ≤ length bs) × IsRun is_digit (take n bs) (drop n bs))
    → (n : ℕ) × (n ≤ length (drop d.0 bs)) × IsRun is_dot (take n (drop d.0 bs)) (drop n (drop d.0 bs)) → Front fresh b
    bs
digit_by fresh b bs is d (zero, fits, run) = elim (cases_Bool (begins_with (λ byte. byte == 41) (drop d.0 bs))) [
  | inl closing ↦
      let h = closed_token fresh b bs d.0 is d.1 d.2 closing in (Passed, d.0 + 1, h.0, h.1)
  | inr other ↦
      let w = row_some written_width written_fits (length bs) bs (omega arith) in (
        Written,
        w.0,
        w.1,
        written_token fresh b bs d.0 w.0 is d.1 d.2 (no_stop (drop d.0 bs) run.ends other) w.1 w.2,
      )
]
digit_by fresh b bs is d (suc n, fits, run) = (
  Passed,
  d.0 + suc n,
  omega (arith, d.1, fits, length-drop d.0 bs),
  number_token fresh b bs d.0 (suc n) is d.2 (omega arith) fits run,
)

front_digit : (fresh : Bool) (b : ℕ) (bs : List ℕ) → is_digit b ≡ true → Front fresh b bs
front_digit fresh b bs is =
    let digits = run_exists is_digit bs in
    digit_by fresh b bs is digits (run_exists is_dot (drop digits.0 bs))

-- marks without a number, or none of them
mark_cut : (fresh : Bool) (text : List ℕ) → Cut fresh text ⊎ (begins_mark text ≡ false)
mark_cut fresh text =
    let row = row_some (width marks) (λ x. (width_whole marks x).0) (length text) text (omega arith) in
    elim (cases_lt 0 row.0) [
      | inl some ↦ inl (row.0, some, row.1, mark_row_token fresh text row.0 some row.1 row.2)
      | inr none ↦
          let zero_row : row.0 ≡ 0 = omega (arith, none) in
          let no_marks : width marks text ≡ 0 =
          no_row (width marks) text (subst (λ n. IsRow (width marks) (take n text) (drop n text)) zero_row row.2) in
          elim (cases_Bool (is_lone_cross text)) [
            | inl alone ↦
                let h = lone_cross_token fresh text alone in
                inl (width crosses text, h.0, (width_whole crosses text).0, h.1)
            | inr crossed ↦ elim (cases_Bool (has_plus text)) [
              | inl is ↦ let h = letter_token fresh text is in inl (2, omega arith, h.0, h.1)
              | inr letter ↦ inr (no_mark text no_marks crossed letter)
            ]
          ]
    ]

front_sign : (fresh : Bool) (b : ℕ) (bs : List ℕ) → is_between b bs ≡ false → is_digit b ≡ false
    → Front fresh b bs
front_sign fresh b bs between digit = elim (eqb_tells b 123) [
  | inl e ↦ subst (λ x. Front fresh x bs) (sym e.1) (front_comment fresh bs)
  | inr brace ↦ elim (eqb_tells b 59) [
    | inl e ↦ subst (λ x. Front fresh x bs) (sym e.1) (front_line fresh bs (subst (λ x. is_between x bs ≡ false) e.1
        between))
    | inr semi ↦ elim (eqb_tells b 46) [
      | inl e ↦ subst (λ x. Front fresh x bs) (sym e.1) (front_dots fresh bs)
      | inr dot ↦ elim (eqb_tells b 36) [
        | inl e ↦ subst (λ x. Front fresh x bs) (sym e.1) (front_mark fresh bs)
        | inr sign ↦ elim (eqb_tells b 40) [
          | inl e ↦ subst (λ x. Front fresh x bs) (sym e.1) (Opens, 0, omega arith, opens)
          | inr opened ↦ elim (eqb_tells b 41) [
            | inl e ↦ subst (λ x. Front fresh x bs) (sym e.1) (Closes, 0, omega arith, closes)
            | inr closed ↦ elim (eqb_tells b 42) [
              | inl e ↦ subst (λ x. Front fresh x bs) (sym e.1) (Written, 0, omega arith, open_result)
              | inr starred ↦ elim (eqb_tells b 37) [
                | inl e ↦ subst (λ x. Front fresh x bs) (sym e.1) (front_whole fresh bs)
                | inr cent ↦ elim (mark_cut fresh (b ∷ bs)) [
                  | inl cut ↦ front_cut fresh b bs cut
                  | inr mark ↦ (
                    Unknown,
                    0,
                    omega arith,
                    unknown_token fresh b bs between digit mark brace.1 semi.1 dot.1 sign.1 opened.1 closed.1 starred.1
                        cent.1,
                  )
                ]
              ]
            ]
          ]
        ]
      ]
    ]
  ]
]

front : (fresh : Bool) (b : ℕ) (bs : List ℕ) → is_between b bs ≡ false → Front fresh b bs
front fresh b bs between = elim (cases_Bool (is_digit b)) [
  | inl is ↦ front_digit fresh b bs is
  | inr digit ↦ front_sign fresh b bs between digit
]

rows : (fuel place : ℕ) (fresh : Bool) (text : List ℕ) → length text ≤ fuel
    → (tokens : List Token) × AreTokens place fresh text tokens []
rows fuel place fresh [] fits = ([], nothing)
rows zero place fresh (b ∷ bs) fits = absurd (omega (arith, fits))
rows (suc fuel) place fresh (b ∷ bs) fits = elim (cases_Bool (is_between b bs)) [
  | inl is ↦
      let more = rows fuel (place + 1) (ends_line b) bs (omega (arith, fits)) in (more.0, blank is more.1)
  | inr space ↦
      let h = front fresh b bs space in
      let left : length (drop h.1 bs) ≤ fuel = omega (arith, fits, length-drop h.1 bs) in
      let more = rows fuel (place + suc h.1) false (drop h.1 bs) left in (
        _,
        token_next place (suc h.1) (place + suc h.1) fresh h.0 (b ∷ bs) (drop h.1 bs) [] more.0 h.3 (omega (arith, h.2))
            refl refl more.1,
      )
]

-- ---- and only one
-- the kind of the token at the front, and how many bytes it has
abbrev brace_lexed : ℕ → List ℕ → TokenKind × ℕ
brace_lexed n [] = (CutOff, suc n)
brace_lexed n (x ∷ rest) = (Comment, suc (suc n))

abbrev mark_lexed : ℕ → TokenKind × ℕ
mark_lexed zero = (CutOff, 1)
mark_lexed (suc n) = (Passed, suc (suc n))

abbrev digit_lexed : (digits dots : ℕ) (closing : Bool) (written : ℕ) → TokenKind × ℕ
digit_lexed digits zero true n = (Passed, suc (digits + 1))
digit_lexed digits zero false n = (Written, n)
digit_lexed digits (suc dots) closing n = (Passed, suc (digits + suc dots))

abbrev mark_row_lexed : (row cross : ℕ) (alone letter : Bool) → TokenKind × ℕ
mark_row_lexed (suc n) cross alone letter = (Passed, suc n)
mark_row_lexed zero cross true letter = (Passed, cross)
mark_row_lexed zero cross false true = (Passed, 2)
mark_row_lexed zero cross false false = (Unknown, 1)

abbrev other_lexed : List ℕ → TokenKind × ℕ
other_lexed text =
    mark_row_lexed (row_len (width marks) (length text) text) (width crosses text) (is_lone_cross text) (has_plus text)

abbrev cent_lexed : Bool → ℕ → TokenKind × ℕ
cent_lexed true n = (Comment, suc n)
cent_lexed false n = (Unknown, 1)

abbrev sign_lexed : Bool → ℕ → List ℕ → TokenKind × ℕ
sign_lexed fresh b bs =
    if b == 123 then brace_lexed (run_len is_inside bs) (drop (run_len is_inside bs) bs)
    else (if b == 59 then (Comment, suc (run_len is_in_line bs))
    else (if b == 46 then (Passed, suc (run_len is_dot bs))
    else (if b == 36 then mark_lexed (run_len is_digit bs)
    else (if b == 40 then (Opens, 1)
    else (if b == 41 then (Closes, 1)
    else (if b == 42 then (Written, 1)
    else (if b == 37 then cent_lexed fresh (run_len is_in_line bs) else other_lexed (b ∷ bs))))))))

abbrev is_closing : ℕ → Bool
is_closing byte = byte == 41

abbrev lexed : Bool → List ℕ → TokenKind × ℕ
lexed fresh [] = (Unknown, 0)
lexed fresh (b ∷ bs) =
    if is_digit b then digit_lexed (run_len is_digit bs) (run_len is_dot (drop (run_len is_digit bs) bs))
    (begins_with is_closing (drop (run_len is_digit bs) bs)) (row_len written_width (length (b ∷ bs)) (b ∷ bs))
    else sign_lexed fresh b bs

-- ---- bytes apart
or_no : (a b : Bool) → (a || b) ≡ false → (a ≡ false) × (b ≡ false)
or_no true b h = absent h
or_no false b h = (refl, h)

no_eq : (test : ℕ → Bool) (b x : ℕ) → test x ≡ false → test b ≡ true → (b == x) ≡ false
no_eq test b x fails is = elim (cases_Bool (b == x)) [
  | inl e ↦ absent (sym is ∙ (ap test (eqb-true b x e) ∙ fails))
  | inr other ↦ other
]

-- a byte is none of these
abbrev none_of : List ℕ → ℕ → Bool
none_of xs b = list_all (λ x. not (b == x)) xs

none_by : (test : ℕ → Bool) (xs : List ℕ) → list_all (λ x. not (test x)) xs ≡ true → (b : ℕ) → test b ≡ true
    → none_of xs b ≡ true
none_by test [] all b is = refl
none_by test (x ∷ xs) all b is =
    let both = and_parts _ _ all in
    rw (no_eq test b x (not-true _ both.0) is) (none_by test xs both.1 b is)

abbrev blanks : List ℕ
blanks = 32 ∷ 9 ∷ 10 ∷ 13 ∷ 44 ∷ 59 ∷ []

apart_between : (b : ℕ) (bs : List ℕ) → none_of blanks b ≡ true → is_between b bs ≡ false
apart_between b bs h =
    let space = and_parts _ _ h in
    let tab = and_parts _ _ space.1 in
    let feed = and_parts _ _ tab.1 in
    let carriage = and_parts _ _ feed.1 in
    let commas = and_parts _ _ carriage.1 in
    let semi = and_parts _ _ commas.1 in
    rw (
      not-true (b == 32) space.0,
      not-true (b == 9) tab.0,
      not-true (b == 10) feed.0,
      not-true (b == 13) carriage.0,
      not-true (b == 44) commas.0,
      not-true (b == 59) semi.0,
    ) refl

abbrev begins_plain : ℕ → Bool
begins_plain b = not (is_digit b) && none_of (123 ∷ 59 ∷ 46 ∷ 36 ∷ 40 ∷ 41 ∷ 42 ∷ 37 ∷ []) b

last_no : (b : ℕ) (x other : TokenKind × ℕ) → (b == 37) ≡ false → (if b == 37 then x else other) ≡ other
last_no b x other h = rw h refl

-- the answer for a byte that begins no other token
chain_no : (fresh : Bool) (b : ℕ) (bs : List ℕ) (other : TokenKind × ℕ) → is_digit b ≡ false → (b == 123) ≡ false
    → (b == 59) ≡ false → (b == 46) ≡ false → (b == 36) ≡ false → (b == 40) ≡ false → (b == 41) ≡ false
    → (b == 42) ≡ false → {answer : TokenKind × ℕ}
    → (if b == 37 then cent_lexed fresh (run_len is_in_line bs) else other_lexed (b ∷ bs)) ≡ answer
    → lexed fresh (b ∷ bs) ≡ answer
chain_no fresh b bs other digit brace semi dot sign opened closed starred {answer} last =
    rw (digit, brace, semi, dot, sign, opened, closed, starred) last

other_front : (fresh : Bool) (b : ℕ) (bs : List ℕ) → begins_plain b ≡ true
    → lexed fresh (b ∷ bs) ≡ other_lexed (b ∷ bs)
other_front fresh b bs h =
    let digit = and_parts _ _ h in
    let brace = and_parts _ _ digit.1 in
    let semi = and_parts _ _ brace.1 in
    let dot = and_parts _ _ semi.1 in
    let sign = and_parts _ _ dot.1 in
    let opened = and_parts _ _ sign.1 in
    let closed = and_parts _ _ opened.1 in
    let starred = and_parts _ _ closed.1 in
    let cent = and_parts _ _ starred.1 in
    chain_no fresh b bs (other_lexed (b ∷ bs)) (not-true _ digit.0) (not-true _ brace.0) (not-true _ semi.0)
    (not-true _ dot.0) (not-true _ sign.0) (not-true _ opened.0) (not-true _ closed.0) (not-true _ starred.0)
    (last_no b (cent_lexed fresh (run_len is_in_line bs)) (other_lexed (b ∷ bs)) (not-true _ cent.0))

letter_no_digit : (b : ℕ) → is_letter b ≡ true → not (is_digit b) ≡ true
letter_no_digit b is = elim (cases_Bool (is_digit b)) [
  | inl digit ↦
      let high : b ≤ 57 = leb-true b 57 (and_parts (leb 48 b) (leb b 57) digit).1 in
      let ranges = and_parts ((leb 65 b && leb b 90) || (leb 97 b && leb b 122)) (not ((b == 88) || (b == 120))) is in
      let low : 65 ≤ b = elim (or_cases (leb 65 b && leb b 90) (leb 97 b && leb b 122) ranges.0) [
        | inl big ↦ leb-true 65 b (and_parts (leb 65 b) (leb b 90) big).0
        | inr small ↦
            let from : 97 ≤ b = leb-true 97 b (and_parts (leb 97 b) (leb b 122) small).0 in omega (arith, from)
      ] in
      absurd (omega (arith, high, low))
  | inr other ↦ rw other refl
]

and_true : (a b : Bool) → a ≡ true → b ≡ true → (a && b) ≡ true
and_true a b h k = rw (h, k) refl

letter_plain : (b : ℕ) → is_letter b ≡ true → begins_plain b ≡ true
letter_plain b is =
    and_true (not (is_digit b)) (none_of (123 ∷ 59 ∷ 46 ∷ 36 ∷ 40 ∷ 41 ∷ 42 ∷ 37 ∷ []) b) (letter_no_digit b is)
    (none_by is_letter (123 ∷ 59 ∷ 46 ∷ 36 ∷ 40 ∷ 41 ∷ 42 ∷ 37 ∷ []) refl b is)

run_no : (test : ℕ → Bool) (x : ℕ) (xs : List ℕ) → test x ≡ false → run_len test (x ∷ xs) ≡ 0
unfolding run_len
run_no test x xs e = rw (e, run_len) refl

run_yes : (test : ℕ → Bool) (x : ℕ) (xs : List ℕ) → test x ≡ true → run_len test (x ∷ xs) ≡ suc (run_len test xs)
unfolding run_len
run_yes test x xs e = rw (e, run_len) refl

-- no dot and no parenthesis stands behind the digits at the front of signs of moves
stop_no_sign : (b : ℕ) (bs : List ℕ) → is_stop b ≡ true → written_width (b ∷ bs) ≡ 0
stop_no_sign b bs h = elim (or_cases _ _ h) [
  | inl e ↦ subst (λ x. written_width (x ∷ bs) ≡ 0) (sym (eqb-true b 46 e)) refl
  | inr e ↦ subst (λ x. written_width (x ∷ bs) ≡ 0) (sym (eqb-true b 41 e)) refl
]

first_no_stop : (b : ℕ) (bs : List ℕ) → 0 < written_width (b ∷ bs) → is_stop b ≡ false
first_no_stop b bs some = elim (cases_Bool (is_stop b)) [
  | inl is ↦ absurd (omega (arith, some, stop_no_sign b bs is))
  | inr other ↦ other
]

no_run : (test : ℕ → Bool) (xs : List ℕ) → begins_with test xs ≡ false → run_len test xs ≡ 0
unfolding run_len
no_run test [] h = refl
no_run test (x ∷ xs) h = run_no test x xs h

endless : {row after : List ℕ} → IsRow written_width row after
    → (list_all is_digit row ≡ true → begins_with is_stop after ≡ false)
    → begins_with is_stop (drop (run_len is_digit (row ++ after)) (row ++ after)) ≡ false
endless (no_sign {after = after} e) stops = rw (no_run is_digit after (no_digit_first after e)) (stops refl)
endless (one_sign {row = row} {after = after} [] some is more) stops = absurd (omega (arith, some))
endless (one_sign {row = row} {after = after} (x ∷ []) some is more) stops = elim (cases_Bool (is_digit x)) [
  | inl digit ↦ rw (run_yes is_digit x (row ++ after) digit) (endless more (λ h. stops (rw digit h)))
  | inr other ↦ rw (run_no is_digit x (row ++ after) other) (first_no_stop x (row ++ after) (omega (arith, is)))
]
endless (one_sign {row = row} {after = after} (x ∷ y ∷ s) some is more) stops = elim (cases_Bool (is_digit x)) [
  | inl digit ↦ absurd (omega (arith, is, digit_wide x ((y ∷ s) ++ (row ++ after)) digit))
  | inr other ↦
      rw (append_assoc s row after) (rw (run_no is_digit x (y ∷ (s ++ (row ++ after))) other)
      (first_no_stop x (y ∷ (s ++ (row ++ after))) (omega (arith, is))))
]

stop_parts : (xs : List ℕ) → begins_with is_stop xs ≡ false
    → (run_len is_dot xs ≡ 0) × (begins_with is_closing xs ≡ false)
stop_parts [] h = (no_run is_dot [] refl, refl)
stop_parts (x ∷ xs) h = let both = or_no (is_dot x) (x == 41) h in (no_run is_dot (x ∷ xs) both.0, both.1)

dot_lexed : (fresh : Bool) (b : ℕ) (bs : List ℕ) → is_dot b ≡ true
    → lexed fresh (b ∷ bs) ≡ (Passed, suc (run_len is_dot bs))
dot_lexed fresh b bs is =
    subst (λ x. lexed fresh (x ∷ bs) ≡ (Passed, suc (run_len is_dot bs))) (sym (eqb-true b 46 is)) refl

digit_front : (fresh : Bool) (b : ℕ) (bs : List ℕ) → is_digit b ≡ true
    → lexed fresh (b ∷ bs) ≡ digit_lexed (run_len is_digit bs) (run_len is_dot (drop (run_len is_digit bs) bs))
    (begins_with is_closing (drop (run_len is_digit bs) bs)) (row_len written_width (length (b ∷ bs)) (b ∷ bs))
digit_front fresh b bs is = rw is refl

mark_some : (n : ℕ) → 0 < n → mark_lexed n ≡ (Passed, suc n)
mark_some zero some = absurd (omega (arith, some))
mark_some (suc n) some = refl

dots_some : (d n w : ℕ) (closing : Bool) → 0 < n → digit_lexed d n closing w ≡ (Passed, suc (d + n))
dots_some d zero w closing some = absurd (omega (arith, some))
dots_some d (suc n) w closing some = refl

whole_run : (test : ℕ → Bool) (xs : List ℕ) → list_all test xs ≡ true → run_len test xs ≡ length xs
whole_run test xs all = subst (λ x. run_len test x ≡ length xs) (append-nil xs) (run_front test xs [] all refl)

row_fits : (row after : List ℕ) → length row ≤ length (row ++ after)
row_fits row after = omega (arith, length-append row after)

row_passed : (n c : ℕ) (alone letter : Bool) → 0 < n → mark_row_lexed n c alone letter ≡ (Passed, n)
row_passed zero c alone letter some = absurd (omega (arith, some))
row_passed (suc n) c alone letter some = refl

row_wide : (w : List ℕ → ℕ) {row after : List ℕ} → IsRow w row after → 0 < length row → 0 < w (row ++ after)
row_wide w (no_sign e) some = absurd (omega (arith, some))
row_wide w (one_sign {row = row} {after = after} s wide is more) some = rw (append_assoc s row after, is) wide

marks_lexed : (fresh : Bool) (row after : List ℕ) → 0 < length row → IsRow (width marks) row after
    → lexed fresh (row ++ after) ≡ (Passed, length row)
marks_lexed fresh [] after some run = absurd (omega (arith, some))
marks_lexed fresh (b ∷ row) after some run =
    let text : List ℕ = b ∷ (row ++ after) in
    let plain : begins_plain b ≡ true =
    head_passes begins_plain marks refl b (row ++ after) (row_wide (width marks) run some) in
    let long : row_len (width marks) (length text) text ≡ length (b ∷ row) =
    row_front (width marks) (length text) run (row_fits (b ∷ row) after) in
    other_front fresh b (row ++ after) plain
    ∙ (ap (λ n. mark_row_lexed n (width crosses text) (is_lone_cross text) (has_plus text)) long
    ∙ row_passed (length (b ∷ row)) (width crosses text) (is_lone_cross text) (has_plus text) some)

-- a text that begins with no row of marks
unmarked : (text : List ℕ) (alone letter : Bool) → width marks text ≡ 0 → is_lone_cross text ≡ alone
    → has_plus text ≡ letter → other_lexed text ≡ mark_row_lexed 0 (width crosses text) alone letter
unmarked text alone letter none cross is =
    ap (λ n. mark_row_lexed n (width crosses text) (is_lone_cross text) (has_plus text))
    (no_row_len (width marks) (length text) text none)
    ∙ (ap (λ a. mark_row_lexed 0 (width crosses text) a (has_plus text)) cross
    ∙ ap (λ l. mark_row_lexed 0 (width crosses text) alone l) is)

not_lone : (text : List ℕ) → width crosses text ≡ 0 → is_lone_cross text ≡ false
not_lone text none = ap (λ n. not (n == 0) && (written_width (drop (width crosses text) text) == 0)) none

letter_lexed : (fresh : Bool) (b : ℕ) (after : List ℕ) → is_letter b ≡ true
    → lexed fresh (b ∷ 43 ∷ after) ≡ (Passed, 2)
letter_lexed fresh b after is =
    let text : List ℕ = b ∷ 43 ∷ after in
    let none : not (is_letter b) ≡ false = ap not is in
    let marked : width marks text ≡ 0 = no_width (λ x. not (is_letter x)) marks refl b (43 ∷ after) none in
    let crossed : width crosses text ≡ 0 = no_width (λ x. not (is_letter x)) crosses refl b (43 ∷ after) none in
    let plus : has_plus text ≡ true = and_true (is_letter b) true is refl in
    other_front fresh b (43 ∷ after) (letter_plain b is) ∙ unmarked text false true marked (not_lone text crossed) plus

-- a cross, and nothing more that moves are written with
cross_lexed : (fresh : Bool) (s after : List ℕ) → written_width after ≡ 0 → Member s crosses
    → lexed fresh (s ++ after) ≡ (Passed, length s)
cross_lexed fresh s after none is =
    let alone : (written_width after == 0) ≡ true = ap (λ n. n == 0) none in
    let Goal : List ℕ → Type 0 = λ x. lexed fresh (x ++ after) ≡ (Passed, length x) in
    elim is [
      | inl e ↦ subst Goal (sym e) (unmarked (120 ∷ after) true (has_plus (120 ∷ after)) refl alone refl)
      | inr (inl e) ↦ subst Goal (sym e) (unmarked (88 ∷ after) true (has_plus (88 ∷ after)) refl alone refl)
      | inr (inr (inl e)) ↦ subst Goal (sym e) (unmarked (58 ∷ after) true (has_plus (58 ∷ after)) refl alone refl)
      | inr (inr (inr (inl e))) ↦
          subst Goal (sym e) (unmarked (215 ∷ after) true (has_plus (215 ∷ after)) refl alone refl)
      | inr (inr (inr (inr (inl e)))) ↦
          subst Goal (sym e) (unmarked (195 ∷ 151 ∷ after) true (has_plus (195 ∷ 151 ∷ after)) refl alone refl)
      | inr (inr (inr (inr (inr e)))) ↦ absurd e
    ]

no_digit_dot : (b : ℕ) → is_dot b ≡ true → is_digit b ≡ false
no_digit_dot b h = ap is_digit (eqb-true b 46 h)

dots_no_digit : (dots after : List ℕ) → 0 < length dots → list_all is_dot dots ≡ true
    → begins_with is_digit (dots ++ after) ≡ false
dots_no_digit [] after some all = absurd (omega (arith, some))
dots_no_digit (b ∷ dots) after some all = no_digit_dot b (and_parts _ _ all).0

number_lexed : (fresh : Bool) (digits dots after : List ℕ) → list_all is_digit digits ≡ true → 0 < length dots
    → IsRun is_dot dots after → lexed fresh ((digits ++ dots) ++ after) ≡ (Passed, length (digits ++ dots))
number_lexed fresh [] [] after all some run = absurd (omega (arith, some))
number_lexed fresh [] (b ∷ dots) after all some run =
    dot_lexed fresh b (dots ++ after) (and_parts _ _ run.all).0
    ∙ ap (λ n. (Passed, suc n)) (run_front is_dot dots after (and_parts _ _ run.all).1 run.ends)
number_lexed fresh (d ∷ digits) dots after all some run =
    let rest : list_all is_digit digits ≡ true = (and_parts _ _ all).1 in
    digit_front fresh d ((digits ++ dots) ++ after) (and_parts _ _ all).0
    ∙ rw (
      append_assoc digits dots after,
      run_front is_digit digits (dots ++ after) rest (dots_no_digit dots after some run.all),
      drop-append_seam digits (dots ++ after),
      run_front is_dot dots after run.all run.ends,
      length-append digits dots,
    )
    (dots_some (length digits) (length dots) _ _ some)

closed_lexed : (fresh : Bool) (digits after : List ℕ) → 0 < length digits → list_all is_digit digits ≡ true
    → lexed fresh ((digits ++ 41 ∷ []) ++ after) ≡ (Passed, length (digits ++ 41 ∷ []))
closed_lexed fresh [] after some all = absurd (omega (arith, some))
closed_lexed fresh (d ∷ digits) after some all =
    let both = and_parts (is_digit d) (list_all is_digit digits) all in
    digit_front fresh d ((digits ++ 41 ∷ []) ++ after) both.0
    ∙ rw (
      append_assoc digits (41 ∷ []) after,
      run_front is_digit digits (41 ∷ after) both.1 refl,
      drop-append_seam digits (41 ∷ after),
      no_run is_dot (41 ∷ after) refl,
      length-append digits (41 ∷ []),
    ) refl

written_lexed : (fresh : Bool) (b : ℕ) (more after : List ℕ) → is_digit b ≡ true
    → IsRow written_width (b ∷ more) after
    → (list_all is_digit (b ∷ more) ≡ true → begins_with is_stop after ≡ false)
    → lexed fresh (b ∷ (more ++ after)) ≡ (Written, length (b ∷ more))
written_lexed fresh b more after is row stops =
    let all : List ℕ = more ++ after in
    let rest : List ℕ = drop (run_len is_digit all) all in
    let none = stop_parts rest (rw (run_yes is_digit b all is) at (endless row stops)) in
    let long : row_len written_width (length (b ∷ all)) (b ∷ all) ≡ length (b ∷ more) =
    row_front written_width (length (b ∷ all)) row (row_fits (b ∷ more) after) in
    digit_front fresh b all is
    ∙ (ap (λ n. digit_lexed (run_len is_digit all) n (begins_with is_closing rest) (row_len written_width (length (b ∷
    all)) (b ∷ all))) none.0
    ∙ (ap (λ c. digit_lexed (run_len is_digit all) 0 c (row_len written_width (length (b ∷ all)) (b ∷ all))) none.1
    ∙ ap (λ n. (Written, n)) long))

cent_no : (fresh : Bool) (b n : ℕ) (other : TokenKind × ℕ) → (fresh && (b == 37)) ≡ false → other ≡ (Unknown, 1)
    → (if b == 37 then cent_lexed fresh n else other) ≡ (Unknown, 1)
cent_no true b n other h e = rw h e
cent_no false b n other h e = elim (cases_Bool (b == 37)) [ inl is ↦ rw is refl | inr is ↦ rw is e ]

zero_width : (n : ℕ) → not (n == 0) ≡ false → n ≡ 0
zero_width n h = eqb-true n 0 (not-false _ h)

unknown_lexed : (fresh : Bool) (b : ℕ) (bs : List ℕ) → begins_token fresh b bs ≡ false
    → lexed fresh (b ∷ bs) ≡ (Unknown, 1)
unknown_lexed fresh b bs none =
    let all = or_no _ _ none in
    let fronts = or_no (is_digit b) _ all.0 in
    let signs = or_no (fresh && (b == 37)) (begins_mark (b ∷ bs)) all.1 in
    let brace = or_no (b == 123) _ fronts.1 in
    let semi = or_no (b == 59) _ brace.1 in
    let dot = or_no (b == 46) _ semi.1 in
    let sign = or_no (b == 36) _ dot.1 in
    let opened = or_no (b == 40) _ sign.1 in
    let closed = or_no (b == 41) _ opened.1 in
    let starred = or_no (b == 42) _ closed.1 in
    let mark = or_no (not (width marks (b ∷ bs) == 0)) (is_lone_cross (b ∷ bs) || has_plus (b ∷ bs)) signs.1 in
    let letter = or_no (is_lone_cross (b ∷ bs)) (has_plus (b ∷ bs)) mark.1 in
    let other : other_lexed (b ∷ bs) ≡ (Unknown, 1) =
    unmarked (b ∷ bs) false false (zero_width (width marks (b ∷ bs)) mark.0) letter.0 letter.1 in
    chain_no fresh b bs (other_lexed (b ∷ bs)) fronts.0 brace.0 semi.0 dot.0 sign.0 opened.0 closed.0 starred.0
    (cent_no fresh b (run_len is_in_line bs) (other_lexed (b ∷ bs)) signs.0 other)

is_lexed : {fresh : Bool} {what : TokenKind} {text after : List ℕ} → IsToken fresh what text after
    → lexed fresh (text ++ after) ≡ (what, length text)
is_lexed (in_braces {inside = inside} {after = after} run) =
    rw (
      append_assoc inside (125 ∷ []) after,
      run_front is_inside inside (125 ∷ after) run.all refl,
      drop-append_seam inside (125 ∷ after),
      length-append inside (125 ∷ []),
      add-one,
    ) refl
is_lexed (to_line_end {line = line} {after = after} alone run) =
    rw (run_front is_in_line line after run.all run.ends) refl
is_lexed (whole_line {line = line} {after = after} run) = rw (run_front is_in_line line after run.all run.ends) refl
is_lexed (number {fresh = fresh} digits {dots = dots} {after = after} all some run) =
    number_lexed fresh digits dots after all some run
is_lexed (numbered_mark {digits = digits} {after = after} some run) =
    rw (run_front is_digit digits after run.all run.ends) (mark_some (length digits) some)
is_lexed (closed_number {fresh = fresh} digits {after = after} some all) =
    closed_lexed fresh digits after some all
is_lexed (mark_row {fresh = fresh} {row = row} {after = after} some run) = marks_lexed fresh row after some run
is_lexed (lone_cross {fresh = fresh} {sign = s} {after = after} is none) = cross_lexed fresh s after none is
is_lexed (letter_plus {fresh = fresh} {letter = letter} {after = after} is) = letter_lexed fresh letter after is
is_lexed opens = refl
is_lexed closes = refl
is_lexed (written {fresh = fresh} {digit = digit} {more = more} {after = after} is row stops) =
    written_lexed fresh digit more after is row stops
is_lexed open_result = refl
is_lexed (unclosed {inside = inside} all) =
    rw (append-nil inside) (rw (whole_run is_inside inside all, drop_all (length inside) inside (omega arith)) refl)
is_lexed (no_number {after = after} none) = rw (run_front is_digit [] after refl none) refl
is_lexed (unknown {fresh = fresh} {byte = byte} {after = after} none space) = unknown_lexed fresh byte after none

-- ---- one token at a time
digit_apart : (b : ℕ) (bs : List ℕ) → is_digit b ≡ true → is_between b bs ≡ false
digit_apart b bs is = apart_between b bs (none_by is_digit blanks refl b is)

cross_begins : (s after : List ℕ) → Member s crosses
    → (b : ℕ) × (bs : List ℕ) × (s ≡ b ∷ bs) × (is_between b (bs ++ after) ≡ false)
cross_begins s after (inl e) = (120, [], e, refl)
cross_begins s after (inr (inl e)) = (88, [], e, refl)
cross_begins s after (inr (inr (inl e))) = (58, [], e, refl)
cross_begins s after (inr (inr (inr (inl e)))) = (215, [], e, refl)
cross_begins s after (inr (inr (inr (inr (inl e))))) = (195, 151 ∷ [], e, refl)
cross_begins s after (inr (inr (inr (inr (inr e))))) = absurd e

-- nothing that stands between tokens begins one
begins_alike : {fresh : Bool} {what : TokenKind} {text after : List ℕ} → IsToken fresh what text after
    → (b : ℕ) × (bs : List ℕ) × (text ≡ b ∷ bs) × (is_between b (bs ++ after) ≡ false)
begins_alike (in_braces {inside = inside} run) = (123, inside ++ 125 ∷ [], refl, refl)
begins_alike (to_line_end {line = line} alone run) = (59, line, refl, alone)
begins_alike (whole_line {line = line} run) = (37, line, refl, refl)
begins_alike (number [] {dots = []} all some run) = absurd (omega (arith, some))
begins_alike (number [] {dots = b ∷ dots} {after = after} all some run) =
    (b, dots, refl, apart_between b (dots ++ after) (none_by is_dot blanks refl b (and_parts _ _ run.all).0))
begins_alike (number (b ∷ digits) {dots = dots} {after = after} all some run) =
    (b, digits ++ dots, refl, digit_apart b ((digits ++ dots) ++ after) (and_parts _ _ all).0)
begins_alike (closed_number [] some all) = absurd (omega (arith, some))
begins_alike (closed_number (b ∷ digits) {after = after} some all) =
    (b, digits ++ 41 ∷ [], refl, digit_apart b ((digits ++ 41 ∷ []) ++ after) (and_parts _ _ all).0)
begins_alike (numbered_mark {digits = digits} some run) = (36, digits, refl, refl)
begins_alike (mark_row {row = []} some run) = absurd (omega (arith, some))
begins_alike (mark_row {row = b ∷ row} {after = after} some run) = (
  b,
  row,
  refl,
  apart_between b (row ++ after) (head_passes (none_of blanks) marks refl b (row ++ after) (row_wide (width marks) run
      some)),
)
begins_alike (lone_cross {sign = s} {after = after} is none) = cross_begins s after is
begins_alike (letter_plus {letter = letter} {after = after} is) =
    (letter, 43 ∷ [], refl, apart_between letter (43 ∷ after) (none_by is_letter blanks refl letter is))
begins_alike opens = (40, [], refl, refl)
begins_alike closes = (41, [], refl, refl)
begins_alike (written {digit = digit} {more = more} {after = after} is row stops) =
    (digit, more, refl, digit_apart digit (more ++ after) is)
begins_alike open_result = (42, [], refl, refl)
begins_alike (unclosed {inside = inside} all) = (123, inside, refl, refl)
begins_alike (no_number none) = (36, [], refl, refl)
begins_alike (unknown {byte = byte} none between) = (byte, [], refl, between)

-- the same bytes begin with the same token
token_one : {fresh : Bool} {w v : TokenKind} {a b c d : List ℕ} → IsToken fresh w a b → IsToken fresh v c d
    → a ++ b ≡ c ++ d → (w ≡ v) × (a ≡ c) × (b ≡ d)
token_one {fresh = fresh} {a = a} {b = b} {c = c} {d = d} t u e =
    let both = sym (is_lexed t) ∙ (ap (lexed fresh) e ∙ is_lexed u) in
    let many : length a ≡ length c = ap (λ x. x.1) both in (
      ap (λ x. x.0) both,
      sym (take-append_seam a b) ∙ (ap (λ n. take n (a ++ b)) many ∙ (ap (take (length c)) e ∙ take-append_seam c d)),
      sym (drop-append_seam a b) ∙ (ap (λ n. drop n (a ++ b)) many ∙ (ap (drop (length c)) e ∙ drop-append_seam c d)),
    )

-- a blank and a token do not begin the same bytes
apart : {A : Type 0} {fresh : Bool} {what : TokenKind} {text after : List ℕ} (b : ℕ) (bs : List ℕ)
    → is_between b bs ≡ true → IsToken fresh what text after → b ∷ bs ≡ text ++ after → A
apart {after = after} b bs is t e =
    let h = begins_alike t in
    let first : b ∷ bs ≡ h.0 ∷ (h.1 ++ after) = e ∙ ap (λ x. x ++ after) h.2 in
    let same_byte : b ≡ h.0 = cc in
    let same_rest : bs ≡ h.1 ++ after = cc in
    absent (sym is ∙ (ap (λ x. is_between x bs) same_byte ∙ (ap (is_between h.0) same_rest ∙ h.3)))

some_bytes : {A : Type 0} {fresh : Bool} {what : TokenKind} {text after : List ℕ} → IsToken fresh what text after
    → [] ≡ text ++ after → A
some_bytes {after = after} t e =
    let h = begins_alike t in
    let none : [] ≡ h.0 ∷ (h.1 ++ after) = e ∙ ap (λ x. x ++ after) h.2 in cc

token_same : (place : ℕ) (w v : TokenKind) (a c : List ℕ) → w ≡ v → a ≡ c
    → ◌≡◌ {A = Token} (record { what = w; text = a; place = place }) (record { what = v; text = c; place = place })
token_same place w v a c p q = λ i. record { what = p i; text = q i; place = place }

cons_same : (t u : Token) (ts us : List Token) → t ≡ u → ts ≡ us → t ∷ ts ≡ u ∷ us
cons_same t u ts us h k = cc

-- tokens up to some rest of a text are the first ones of all its tokens
pub row_first : {place : ℕ} {fresh other : Bool} {text same : List ℕ} {ts us : List Token} {rest last : List ℕ}
    → AreTokens place fresh text us rest → AreTokens place other same ts last → last ≡ [] → fresh ≡ other → text ≡ same
    → (more : List Token) × (ts ≡ us ++ more)
row_first {ts = ts} nothing others l f t = (ts, refl)
row_first (blank is more) nothing l f t = let no : _ ≡ [] = t ∙ l in cc
row_first (blank {byte = x} {bytes = xs} is more) (blank {byte = y} {bytes = ys} too others) l f t =
    let first : x ≡ y = cc in
    let rest : xs ≡ ys = cc in row_first more others l (ap ends_line first) rest
row_first (blank {byte = x} {bytes = xs} is more) (token a b u others) l f t = apart x xs is u t
row_first (token a b u more) nothing l f t = some_bytes u (sym l ∙ sym t)
row_first (token a b u more) (blank {byte = y} {bytes = ys} is others) l f t = apart y ys is u (sym t)
row_first (token {place = place} {what = w} {rest = rest} a b {tokens = us} u more)
    (token {what = v} {rest = last} c d {tokens = ts} x others) l f t =
    let one = token_one (subst (λ z. IsToken z w a b) f u) x t in
    let there : AreTokens (place + length a) false d ts last =
    subst (λ n. AreTokens (place + n) false d ts last) (ap length (sym one.1)) others in
    let tail = row_first more there l refl one.2 in (
      tail.0,
      cons_same _ _ ts (us ++ tail.0) (sym (token_same place w v a c one.0 one.1)) tail.1,
    )

row_one : {place : ℕ} {fresh : Bool} {text : List ℕ} {ts us : List Token} → AreTokens place fresh text ts []
    → AreTokens place fresh text us [] → ts ≡ us
row_one {ts = ts} {us = us} h k =
    let there = row_first h k refl refl refl in
    let back = row_first k h refl refl refl in
    let none : there.0 ≡ [] =
    nil_from_length there.0 (omega (
      arith,
      ap length there.1,
      ap length back.1,
      length-append ts there.0,
      length-append
          us back.0,
    )) in
    sym (there.1 ∙ (ap (λ x. ts ++ x) none ∙ append-nil ts))

pub one_row : (text : List ℕ) → HasOneRow text
one_row text =
    let h = rows (length text) 1 true text (omega arith) in
    record { tokens = h.0; are = h.1; one = λ others are. row_one are h.1 }
