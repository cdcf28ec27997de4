-- Words as rows of tokens.
use Rattle.std.proofs.Common.{◌≡◌, ℕ, ◌+◌, ◌<◌, List, [], ◌∷◌, ◌++◌, length, map, refl, sym, ap, subst}
use Rattle.std.proofs.Common.{◌∙◌, inl, inr, append_assoc, append-nil, length-append, arith, Bool}
use Rattle.std.proofs.Common.{true, false, leb, cond}
use Rattle.std.specs.List.{list_all}
use Rattle.std.specs.Prelude.{◌==◌, ◌||◌}
use Rattle.std.proofs.lemmas.Bool.{and_parts, or_cases, eqb-true, true≢false}
use Rattle.std.proofs.lemmas.List.{map-append}
use Rattle.dw_board.specs.FenTokens.{is_digit, is_blank}
use Rattle.dw_notation.specs.Tags.{is_space, ends_line}
use Rattle.dw_games.specs.Tokens.{Token, IsToken, AreTokens, begins_with, is_between, is_dot, is_inside, number}
use Rattle.dw_games.specs.Tokens.{opens, closes, written, open_result, in_braces, nothing, blank, token}
use Rattle.dw_games.specs.declared.tokens.TokenKind.{TokenKind}
use Rattle.dw_games.specs.declared.tokens.TokenKind.TheVariants.{Comment, Passed, Written, Opens, Closes}
use Rattle.dw_solution.specs.Words.{closed, in_parentheses}
use Rattle.dw_solution.specs.Movetext.{filled, in_lines, in_movetext}
use Rattle.dw_games.specs.Signs.{IsRow, no_sign, one_sign, written_width}
use Rattle.dw_solution.proofs.WordLemmas.{IsMade}
use Rattle.dw_solution.proofs.ResultLemmas.{is_written}

-- what a token is, and its bytes
abbrev pub mark_of : Token → TokenKind × List ℕ
mark_of t = (t.what, t.text)

abbrev pub opening : TokenKind × List ℕ
opening = (Opens, 40 ∷ [])

abbrev pub closing : TokenKind × List ℕ
closing = (Closes, 41 ∷ [])

-- a word ends before these bytes
abbrev pub ends_word : List ℕ → Bool
ends_word [] = true
ends_word (b ∷ bytes) = is_space b || (b == 41)

-- the tokens of a word, where it ends
abbrev pub IsSpelled : List ℕ → List (TokenKind × List ℕ) → Type 0
IsSpelled w marks = (place : ℕ) (fresh : Bool) (after rest : List ℕ) (tokens : List Token) → ends_word after ≡ true
    → AreTokens (place + length w) false after tokens rest
    → (ts : List Token) × AreTokens place fresh (w ++ after) (ts ++ tokens) rest × (map mark_of ts ≡ marks)

one_token : (what : TokenKind) (text : List ℕ)
    → ((fresh : Bool) (after : List ℕ) → ends_word after ≡ true → IsToken fresh what text after)
    → IsSpelled text ((what, text) ∷ [])
one_token what text is place fresh after rest tokens e next =
    ((record { what = what; text = text; place = place }) ∷ [], token text after (is fresh after e) next, refl)

spelled_open : (w : List ℕ) (marks : List (TokenKind × List ℕ)) → IsSpelled w marks
    → IsSpelled (40 ∷ w) (opening ∷ marks)
spelled_open w marks h place fresh after rest tokens e next =
    let same : place + length (40 ∷ w) ≡ (place + 1) + length w = omega arith in
    let inner = h (place + 1) false after rest tokens e (subst (λ z. AreTokens z false after tokens rest) same next)
    in (
      (record { what = Opens; text = 40 ∷ []; place = place }) ∷ inner.0,
      token (40 ∷ []) (w ++ after) opens inner.1,
      ap (λ z. opening ∷ z) inner.2,
    )

spelled_close : (w : List ℕ) (marks : List (TokenKind × List ℕ)) → IsSpelled w marks
    → IsSpelled (w ++ 41 ∷ []) (marks ++ closing ∷ [])
spelled_close w marks h place fresh after rest tokens e next =
    let t : Token = record { what = Closes; text = 41 ∷ []; place = place + length w } in
    let same : place + length (w ++ 41 ∷ []) ≡ (place + length w) + 1 = omega (arith, length-append w (41 ∷ [])) in
    let behind : AreTokens (place + length w) false (41 ∷ after) (t ∷ tokens) rest =
    token (41 ∷ []) after closes (subst (λ z. AreTokens z false after tokens rest) same next) in
    let inner = h place fresh (41 ∷ after) rest (t ∷ tokens) refl behind in (
      inner.0 ++ t ∷ [],
      subst (λ z. AreTokens place fresh z ((inner.0 ++ t ∷ []) ++ tokens) rest)
          (sym (append_assoc w (41 ∷ []) after))
          (subst (λ z. AreTokens place fresh (w ++ 41 ∷ after) z rest) (sym (append_assoc inner.0 (t ∷ []) tokens))
          inner.1),
      map-append mark_of inner.0 (t ∷ []) ∙ ap (λ z. z ++ closing ∷ []) inner.2,
    )

-- ---- words in a row
abbrev pub AreSpelled : List (List ℕ) → List (TokenKind × List ℕ) → Type 0
AreSpelled [] marks = marks ≡ []
AreSpelled (w ∷ words) marks = (first : List (TokenKind × List ℕ)) × (rest : List (TokenKind × List ℕ))
    × IsSpelled w first × AreSpelled words rest × (marks ≡ first ++ rest)

pub spelled_one : (w : List ℕ) (marks : List (TokenKind × List ℕ)) → IsSpelled w marks → AreSpelled (w ∷ []) marks
spelled_one w marks h = (marks, [], h, refl, sym (append-nil marks))

pub spelled_append : (xs ys : List (List ℕ)) (ks ms : List (TokenKind × List ℕ)) → AreSpelled xs ks → AreSpelled ys ms
    → AreSpelled (xs ++ ys) (ks ++ ms)
spelled_append [] ys ks ms h k = subst (λ z. AreSpelled ys (z ++ ms)) (sym h) k
spelled_append (x ∷ xs) ys ks ms (a, b, s, t, e) k =
    (a, b ++ ms, s, spelled_append xs ys b ms t k, ap (λ z. z ++ ms) e ∙ append_assoc a b ms)

spelled_closed : (w : List ℕ) (words : List (List ℕ)) (ks : List (TokenKind × List ℕ)) → AreSpelled (w ∷ words) ks
    → AreSpelled (closed in_movetext (w ∷ words)) (ks ++ closing ∷ [])
spelled_closed w [] ks (a, b, s, t, e) =
    let whole : ks ≡ a = e ∙ (ap (λ z. a ++ z) t ∙ append-nil a) in (
      a ++ closing ∷ [],
      [],
      spelled_close w a s,
      refl,
      ap (λ z. z ++ closing ∷ []) whole ∙ sym (append-nil (a ++ closing ∷ [])),
    )
spelled_closed w (v ∷ words) ks (a, b, s, t, e) = (
  a,
  b ++ closing ∷ [],
  s,
  spelled_closed v words b t,
  ap (λ z. z ++ closing ∷ []) e ∙ append_assoc a b (closing ∷ []),
)

pub spelled_within : (w : List ℕ) (words : List (List ℕ)) (ks : List (TokenKind × List ℕ)) → AreSpelled (w ∷ words) ks
    → AreSpelled (in_parentheses in_movetext (w ∷ words)) (opening ∷ (ks ++ closing ∷ []))
spelled_within w words ks (a, b, s, t, e) =
    spelled_closed (40 ∷ w) words (opening ∷ ks)
    (opening ∷ a, b, spelled_open w a s, t, ap (λ z. opening ∷ z) e)

-- ---- words in lines
ends_filled : (column : ℕ) (words : List (List ℕ)) → ends_word (filled column words) ≡ true
ends_filled column [] = refl
ends_filled column (w ∷ words) =
    elim (leb (column + 1 + length w) 79) as (λ b. ends_word (cond b
    (32 ∷ (w ++ filled (column + 1 + length w) words)) (10 ∷ (w ++ filled (length w) words))) ≡ true)
    [ true ↦ refl | false ↦ refl ]

space_between : (b : ℕ) (bs : List ℕ) → is_space b ≡ true → is_between b bs ≡ true
space_between b bs is = rw is refl

filled_read : (column : ℕ) (words : List (List ℕ)) (ks : List (TokenKind × List ℕ)) (place : ℕ) → AreSpelled words ks
    → (ts : List Token) × AreTokens place false (filled column words) ts [] × (map mark_of ts ≡ ks)
filled_read column [] ks place h = ([], nothing, sym h)
filled_read column (w ∷ words) ks place (a, b, s, t, e) =
    let line : (sep next : ℕ) → is_space sep ≡ true → (ts : List Token)
    × AreTokens place false (sep ∷ (w ++ filled next words)) ts [] × (map mark_of ts ≡ ks) = λ sep next is.
    let rest = filled_read next words b (place + 1 + length w) t in
    let here = s (place + 1) (ends_line sep) (filled next words) [] rest.0 (ends_filled next words) rest.1 in (
      here.0 ++ rest.0,
      blank (space_between sep (w ++ filled next words) is) here.1,
      map-append mark_of here.0 rest.0 ∙ (ap (λ z. z ++ map mark_of rest.0) here.2 ∙ (ap (λ z. a ++ z) rest.2 ∙ sym e)),
    ) in
    elim (leb (column + 1 + length w) 79) as (λ c. (ts : List Token) × AreTokens place false (cond c
    (32 ∷ (w ++ filled (column + 1 + length w) words)) (10 ∷ (w ++ filled (length w) words))) ts []
    × (map mark_of ts ≡ ks)) [ true ↦ line 32 (column + 1 + length w) refl | false ↦ line 10 (length w) refl ]

pub lines_read : (w : List ℕ) (words : List (List ℕ)) (ks : List (TokenKind × List ℕ)) → AreSpelled (w ∷ words) ks
    → (ts : List Token) × AreTokens 1 true (in_lines (w ∷ words)) ts [] × (map mark_of ts ≡ ks)
lines_read w words ks (a, b, s, t, e) =
    let rest = filled_read (length w) words b (1 + length w) t in
    let here = s 1 true (filled (length w) words) [] rest.0 (ends_filled (length w) words) rest.1 in (
      here.0 ++ rest.0,
      here.1,
      map-append mark_of here.0 rest.0 ∙ (ap (λ z. z ++ map mark_of rest.0) here.2 ∙ (ap (λ z. a ++ z) rest.2 ∙ sym e)),
    )

-- ---- the words that are written
space_fails : (test : ℕ → Bool) → test 32 ≡ false → test 9 ≡ false → test 10 ≡ false → test 13 ≡ false → (b : ℕ)
    → is_space b ≡ true → test b ≡ false
space_fails test t32 t9 t10 t13 b e = elim (or_cases (is_blank b) (ends_line b) e) [
  | inl h ↦ elim (or_cases (b == 32) (b == 9) h) [
    | inl is ↦ subst (λ z. test z ≡ false) (sym (eqb-true b 32 is)) t32
    | inr is ↦ subst (λ z. test z ≡ false) (sym (eqb-true b 9 is)) t9
  ]
  | inr h ↦ elim (or_cases (b == 10) (b == 13) h) [
    | inl is ↦ subst (λ z. test z ≡ false) (sym (eqb-true b 10 is)) t10
    | inr is ↦ subst (λ z. test z ≡ false) (sym (eqb-true b 13 is)) t13
  ]
]

word_ends : (test : ℕ → Bool) → ((b : ℕ) → is_space b ≡ true → test b ≡ false) → test 41 ≡ false → (after : List ℕ)
    → ends_word after ≡ true → begins_with test after ≡ false
word_ends test space close [] e = refl
word_ends test space close (b ∷ bytes) e = elim (or_cases (is_space b) (b == 41) e) [
  | inl h ↦ space b h
  | inr h ↦ subst (λ z. test z ≡ false) (sym (eqb-true b 41 h)) close
]

no_dot : (after : List ℕ) → ends_word after ≡ true → begins_with is_dot after ≡ false
no_dot after e = word_ends is_dot (space_fails is_dot refl refl refl refl) refl after e

none_written : (after : List ℕ) → ends_word after ≡ true → written_width after ≡ 0
none_written [] e = refl
none_written (b ∷ bs) e = elim (or_cases (is_space b) (b == 41) e) [
  | inl h ↦ elim (or_cases (is_blank b) (ends_line b) h) [
    | inl white ↦ elim (or_cases (b == 32) (b == 9) white) [
      | inl is ↦ subst (λ z. written_width (z ∷ bs) ≡ 0) (sym (eqb-true b 32 is)) refl
      | inr is ↦ subst (λ z. written_width (z ∷ bs) ≡ 0) (sym (eqb-true b 9 is)) refl
    ]
    | inr end ↦ elim (or_cases (b == 10) (b == 13) end) [
      | inl is ↦ subst (λ z. written_width (z ∷ bs) ≡ 0) (sym (eqb-true b 10 is)) refl
      | inr is ↦ subst (λ z. written_width (z ∷ bs) ≡ 0) (sym (eqb-true b 13 is)) refl
    ]
  ]
  | inr is ↦ subst (λ z. written_width (z ∷ bs) ≡ 0) (sym (eqb-true b 41 is)) refl
]

written_one : (b : ℕ) (bs : List ℕ) → is_written b ≡ true → written_width (b ∷ bs) ≡ 1
written_one b bs h = elim (or_cases (is_digit b) _ h) [
  | inl is ↦ rw is refl
  | inr signs ↦ elim (or_cases (b == 45) _ signs) [
    | inl is ↦ subst (λ z. written_width (z ∷ bs) ≡ 1) (sym (eqb-true b 45 is)) refl
    | inr signs ↦ elim (or_cases (b == 120) _ signs) [
      | inl is ↦ subst (λ z. written_width (z ∷ bs) ≡ 1) (sym (eqb-true b 120 is)) refl
      | inr signs ↦ elim (or_cases (b == 88) _ signs) [
        | inl is ↦ subst (λ z. written_width (z ∷ bs) ≡ 1) (sym (eqb-true b 88 is)) refl
        | inr signs ↦ elim (or_cases (b == 47) false signs) [
          | inl is ↦ subst (λ z. written_width (z ∷ bs) ≡ 1) (sym (eqb-true b 47 is)) refl
          | inr none ↦ absurd (true≢false (sym none))
        ]
      ]
    ]
  ]
]

written_row : (text after : List ℕ) → list_all is_written text ≡ true → written_width after ≡ 0
    → IsRow written_width text after
written_row [] after all e = no_sign e
written_row (b ∷ text) after all e =
    let both = and_parts (is_written b) (list_all is_written text) all in
    one_sign (b ∷ []) (omega arith) (written_one b (text ++ after) both.0) (written_row text after both.1 e)

pub number_spelled : (digits dots : List ℕ) → list_all is_digit digits ≡ true → 0 < length dots
    → list_all is_dot dots ≡ true → IsSpelled (digits ++ dots) ((Passed, digits ++ dots) ∷ [])
number_spelled digits dots all some dotted =
    one_token Passed (digits ++ dots)
    (λ fresh after e. number digits all some (record { all = dotted; ends = no_dot after e }))

pub win_spelled : (digit : ℕ) (rest : List ℕ) → is_digit digit ≡ true → list_all is_written (digit ∷ rest) ≡ true
    → list_all is_digit (digit ∷ rest) ≡ false → IsSpelled (digit ∷ rest) ((Written, digit ∷ rest) ∷ [])
win_spelled digit rest is all mixed =
    one_token Written (digit ∷ rest)
    (λ fresh after e. written is (written_row (digit ∷ rest) after all (none_written after e))
    (λ same. absurd (true≢false (sym same ∙ mixed))))

pub move_spelled : (text : List ℕ) → IsMade is_written text → list_all is_digit text ≡ false
    → IsSpelled text ((Written, text) ∷ [])
move_spelled text h mixed =
    let all : list_all is_written (h.digit ∷ h.rest) ≡ true = subst (λ z. list_all is_written z ≡ true) h.first h.all in
    let not_all : list_all is_digit (h.digit ∷ h.rest) ≡ false =
    subst (λ z. list_all is_digit z ≡ false) h.first mixed in
    subst (λ z. IsSpelled z ((Written, z) ∷ [])) (sym h.first) (win_spelled h.digit h.rest h.is_digit all not_all)

pub comment_spelled : (inside : List ℕ) → list_all is_inside inside ≡ true
    → IsSpelled (123 ∷ (inside ++ 125 ∷ [])) ((Comment, 123 ∷ (inside ++ 125 ∷ [])) ∷ [])
comment_spelled inside all =
    one_token Comment (123 ∷ (inside ++ 125 ∷ [])) (λ fresh after e. in_braces (record { all = all; ends = refl }))

pub star_spelled : IsSpelled (42 ∷ []) ((Written, 42 ∷ []) ∷ [])
star_spelled = one_token Written (42 ∷ []) (λ fresh after e. open_result)
