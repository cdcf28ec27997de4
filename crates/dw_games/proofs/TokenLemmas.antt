-- Tokens at the front of bytes, told by how many of these are part of them.
use Rattle.std.proofs.Common.{◌≡◌, ◌==◌, ℕ, zero, suc, ◌+◌, ◌<◌, ◌≤◌, Bool, true, false, ◌&&◌, List, [], ◌∷◌, ◌++◌}
use Rattle.std.proofs.Common.{length, take, drop, get_or, refl, sym, ap, subst, ◌∙◌, arith, add-one, drop-cons, one-add}
use Rattle.std.proofs.Common.{inl, inr}
use Rattle.std.proofs.Math.Seq.{take-add, take-suc}
use Rattle.std.proofs.lemmas.List.{drop_all, length-take-le, take-append-drop, drop-drop}
use Rattle.std.proofs.lemmas.Bool.{not-false, eqb-true, cases_Bool, true≢false, and_parts}
use Rattle.std.specs.List.{list_all}
use Rattle.dw_board.specs.FenTokens.{is_digit}
use Rattle.dw_notation.specs.Tags.{ends_line}
use Rattle.dw_games.specs.Signs.{IsRow, crosses, marks, width, written_width}
use Rattle.dw_games.specs.Tokens.{IsRun, IsToken, Token, AreTokens, begins_with, is_inside, is_dot, is_stop, is_letter}
use Rattle.dw_games.specs.Tokens.{behind, is_in_line, numbers_move, to_line_end, has_plus, is_lone_cross, begins_mark}
use Rattle.dw_games.specs.Tokens.{begins_token, is_between}
use Rattle.dw_games.specs.Tokens.{unknown, in_braces, unclosed, numbered_mark, number, closed_number, mark_row}
use Rattle.dw_games.specs.Tokens.{lone_cross, letter_plus, written, nothing, blank, token}
use Rattle.dw_games.proofs.SignLemmas.{row_ends, digit_row, no_digit_first, width_whole}
use Rattle.std.proofs.Common.{◌||◌, ◌-◌, codes}
use Rattle.std.specs.Prelude.{not}
use Rattle.std.specs.List.{list_any}
use Rattle.std.proofs.Math.Nat.{eq-or-lt_of_le}
use Rattle.dw_games.specs.declared.tokens.TokenKind.{TokenKind}
use Rattle.dw_games.specs.declared.tokens.TokenKind.TheVariants.{Comment, Passed, Written, CutOff, Unknown}

pub absent : {A : Type 0} → true ≡ false → A
absent h = absurd (true≢false h)

-- ---- comments
closing : (byte : ℕ) → is_inside byte ≡ false → byte ≡ 125
closing byte h = eqb-true byte 125 (not-false _ h)

-- bytes up to the first brace that closes, and it
pub comment_token : (fresh : Bool) (xs : List ℕ) (n : ℕ) → n < length xs → IsRun is_inside (take n xs) (drop n xs)
    → IsToken fresh Comment (123 ∷ take (n + 1) xs) (drop (n + 1) xs)
comment_token fresh xs n fits run =
    let cut : drop n xs ≡ get_or xs n 0 ∷ drop (suc n) xs = drop-cons xs n 0 fits in
    let brace : get_or xs n 0 ≡ 125 = closing _ (rw cut at run.ends) in
    let taken : take (suc n) xs ≡ take n xs ++ 125 ∷ [] =
    take-suc xs n 0 fits ∙ ap (λ byte. take n xs ++ byte ∷ []) brace in
    let inner : IsRun is_inside (take n xs) (125 ∷ drop (suc n) xs) = record { all = run.all; ends = refl } in
    rw (add-one, taken) (in_braces inner)

-- all bytes, if no brace closes
pub unclosed_token : (fresh : Bool) (xs : List ℕ) (n : ℕ) → length xs ≤ n → IsRun is_inside (take n xs) (drop n xs)
    → IsToken fresh CutOff (123 ∷ take n xs) (drop n xs)
unclosed_token fresh xs n all run = rw (drop_all n xs all) (unclosed run.all)

-- ---- the bytes behind a run
behind_all : (test : ℕ → Bool) (run after : List ℕ) → list_all test run ≡ true → begins_with test after ≡ false
    → behind test (run ++ after) ≡ after
behind_all test [] [] all ends = refl
behind_all test [] (y ∷ after) all ends = rw ends refl
behind_all test (x ∷ run) after all ends =
    let both = and_parts (test x) (list_all test run) all in rw both.0 (behind_all test run after both.1 ends)

pub behind_run : (test : ℕ → Bool) (text : List ℕ) (n : ℕ) → IsRun test (take n text) (drop n text)
    → behind test text ≡ drop n text
behind_run test text n run =
    subst (λ z. behind test z ≡ drop n text) (take-append-drop n text)
    (behind_all test (take n text) (drop n text) run.all run.ends)

-- ---- marks
pub mark_token : (fresh : Bool) (xs : List ℕ) (n : ℕ) → 0 < n → n ≤ length xs → IsRun is_digit (take n xs) (drop n xs)
    → IsToken fresh Passed (36 ∷ take n xs) (drop n xs)
mark_token fresh xs n some fits run =
    let more : 0 < length (take n xs) = rw (length-take-le n xs fits) some in numbered_mark more run

pub mark_row_token : (fresh : Bool) (text : List ℕ) (n : ℕ) → 0 < n → n ≤ length text
    → IsRow (width marks) (take n text) (drop n text) → IsToken fresh Passed (take n text) (drop n text)
mark_row_token fresh text n some fits row =
    let more : 0 < length (take n text) = rw (length-take-le n text fits) some in mark_row more row

some_width : (n : ℕ) → not (n == 0) ≡ true → 0 < n
some_width zero h = absent (sym h)
some_width (suc n) h = omega arith

pub lone_cross_token : (fresh : Bool) (text : List ℕ) → is_lone_cross text ≡ true
    → (0 < width crosses text)
    × IsToken fresh Passed (take (width crosses text) text) (drop (width crosses text) text)
lone_cross_token fresh text h =
    let both = and_parts (not (width crosses text == 0)) (written_width (drop (width crosses text) text) == 0) h in
    let some : 0 < width crosses text = some_width (width crosses text) both.0 in
    (some, lone_cross ((width_whole crosses text).1 some) (eqb-true _ 0 both.1))

-- a token of some bytes, by its first byte and how many follow
pub token_front : (fresh : Bool) (text : List ℕ) (first : ℕ) (bytes : List ℕ) (n : ℕ) → text ≡ first ∷ bytes → 0 < n
    → IsToken fresh Passed (take n text) (drop n text)
    → IsToken fresh Passed (first ∷ take (n - 1) bytes) (drop (n - 1) bytes)
token_front fresh text first bytes zero e some is = absurd (omega (arith, some))
token_front fresh text first bytes (suc n) e some is =
    let same : suc n - 1 ≡ n = omega arith in
    subst (λ k. IsToken fresh Passed (first ∷ take k bytes) (drop k bytes)) (sym same)
    (subst (λ x. IsToken fresh Passed (take (suc n) x) (drop (suc n) x)) e is)

pub letter_token : (fresh : Bool) (text : List ℕ) → has_plus text ≡ true
    → (2 ≤ length text) × IsToken fresh Passed (take 2 text) (drop 2 text)
letter_token fresh [] h = absent (sym h)
letter_token fresh (b ∷ []) h = absent (sym (and_parts _ _ h).1)
letter_token fresh (b ∷ c ∷ bs) h =
    let both = and_parts (is_letter b) (c == 43) h in
    let token : IsToken fresh Passed (b ∷ 43 ∷ []) bs = letter_plus both.0 in
    (omega arith, subst (λ x. IsToken fresh Passed (b ∷ x ∷ []) bs) (sym (eqb-true c 43 both.1)) token)

-- no mark stands at the front
pub none_marked : (text : List ℕ) (n : ℕ) → n ≡ 0 → IsRow (width marks) (take n text) (drop n text)
    → width marks text ≡ 0
none_marked text n e row =
    row_ends (width marks) (subst (λ k. IsRow (width marks) (take k text) (drop k text)) e row)

pub unmarked_front : (text : List ℕ) (first : ℕ) (bytes : List ℕ) → text ≡ first ∷ bytes → begins_mark text ≡ false
    → begins_mark (first ∷ bytes) ≡ false
unmarked_front text first bytes e none = subst (λ x. begins_mark x ≡ false) e none

pub or_false : (a b : Bool) → a ≡ false → b ≡ false → (a || b) ≡ false
or_false a b h k = rw (h, k) refl

pub no_mark : (text : List ℕ) → width marks text ≡ 0 → is_lone_cross text ≡ false → has_plus text ≡ false
    → begins_mark text ≡ false
no_mark text none cross letter =
    or_false (not (width marks text == 0)) (is_lone_cross text || has_plus text) (ap (λ n. not (n == 0)) none)
    (or_false (is_lone_cross text) (has_plus text) cross letter)

-- ---- numbers
closing_inside : (xs : List ℕ) (d : ℕ) → d ≤ length xs → begins_with (λ byte. byte == 41) (drop d xs) ≡ true
    → d < length xs
closing_inside xs d fits closing = elim (eq-or-lt_of_le fits) [
  | inl is ↦ absent (sym (rw (drop_all d xs (omega (arith, is))) at closing))
  | inr lt ↦ lt
]

pub number_token : (fresh : Bool) (first : ℕ) (xs : List ℕ) (d e : ℕ) → is_digit first ≡ true
    → IsRun is_digit (take d xs) (drop d xs) → 0 < e → e ≤ length (drop d xs)
    → IsRun is_dot (take e (drop d xs)) (drop e (drop d xs))
    → IsToken fresh Passed (first ∷ take (d + e) xs) (drop (d + e) xs)
number_token fresh first xs d e is digits some fits dots =
    let more : 0 < length (take e (drop d xs)) = rw (length-take-le e (drop d xs) fits) some in
    let all : list_all is_digit (first ∷ take d xs) ≡ true = rw is digits.all in
    let behind : IsRun is_dot (take e (drop d xs)) (drop (d + e) xs) = rw (← drop-drop e d xs) dots in
    rw (take-add d e xs) (number (first ∷ take d xs) all more behind)

pub closed_token : (fresh : Bool) (first : ℕ) (xs : List ℕ) (d : ℕ) → is_digit first ≡ true → d ≤ length xs
    → IsRun is_digit (take d xs) (drop d xs) → begins_with (λ byte. byte == 41) (drop d xs) ≡ true
    → (d + 1 ≤ length xs) × IsToken fresh Passed (first ∷ take (d + 1) xs) (drop (d + 1) xs)
closed_token fresh first xs d is fits digits closing =
    let inside : d < length xs = closing_inside xs d fits closing in
    let cut : drop d xs ≡ get_or xs d 0 ∷ drop (suc d) xs = drop-cons xs d 0 inside in
    let bracket : get_or xs d 0 ≡ 41 = eqb-true _ 41 (rw cut at closing) in
    let taken : take (suc d) xs ≡ take d xs ++ 41 ∷ [] =
    take-suc xs d 0 inside ∙ ap (λ byte. take d xs ++ byte ∷ []) bracket in
    let all : list_all is_digit (first ∷ take d xs) ≡ true = rw is digits.all in
    let some : 0 < length (first ∷ take d xs) = omega arith in
    (omega (arith, inside), rw (add-one, taken) (closed_number (first ∷ take d xs) some all))

pub dots_token : (fresh : Bool) (xs : List ℕ) (n : ℕ) → IsRun is_dot (take n xs) (drop n xs)
    → IsToken fresh Passed (46 ∷ take n xs) (drop n xs)
dots_token fresh xs n run =
    let whole : IsRun is_dot (46 ∷ take n xs) (drop n xs) = record { all = run.all; ends = run.ends } in
    let some : 0 < length (46 ∷ take n xs) = omega arith in number [] refl some whole

-- ---- moves and results
-- two runs of one class at the front of the same bytes are equally long
one_run : (test : ℕ → Bool) (xs : List ℕ) (m n : ℕ) → m ≤ length xs → n ≤ length xs
    → list_all test (take m xs) ≡ true → begins_with test (drop m xs) ≡ false
    → list_all test (take n xs) ≡ true → begins_with test (drop n xs) ≡ false → m ≡ n
one_run test [] m n ms ns a b c d = omega (arith, ms, ns)
one_run test (x ∷ xs) zero zero ms ns a b c d = refl
one_run test (x ∷ xs) zero (suc n) ms ns a b c d = absent (sym (rw b at c))
one_run test (x ∷ xs) (suc m) zero ms ns a b c d = absent (sym (rw d at a))
one_run test (x ∷ xs) (suc m) (suc n) ms ns a b c d = elim (cases_Bool (test x)) [
  | inl is ↦ ap suc (one_run test xs m n (omega arith) (omega arith) (rw is at a) b (rw is at c) d)
  | inr other ↦ absent (sym (rw other at a))
]

-- no byte of a class stands at the front
pub none_run : (test : ℕ → Bool) (text : List ℕ) (n : ℕ) → n ≡ 0 → IsRun test (take n text) (drop n text)
    → begins_with test text ≡ false
none_run test text n e run = (subst (λ k. IsRun test (take k text) (drop k text)) e run).ends

-- no number of a move ends
pub no_stop : (xs : List ℕ) → begins_with is_dot xs ≡ false → begins_with (λ byte. byte == 41) xs ≡ false
    → begins_with is_stop xs ≡ false
no_stop [] dot closing = refl
no_stop (x ∷ xs) dot closing = or_false (is_dot x) (x == 41) dot closing

-- signs of moves, if no dot and no closing parenthesis stands behind their digits
pub written_token : (fresh : Bool) (first : ℕ) (xs : List ℕ) (d n : ℕ) → is_digit first ≡ true → d ≤ length xs
    → IsRun is_digit (take d xs) (drop d xs) → begins_with is_stop (drop d xs) ≡ false → n ≤ length xs
    → IsRow written_width (take n xs) (drop n xs) → IsToken fresh Written (first ∷ take n xs) (drop n xs)
written_token fresh first xs d n is fits digits stops within row =
    let none : written_width (drop n xs) ≡ 0 = row_ends written_width row in
    let endless : list_all is_digit (first ∷ take n xs) ≡ true → begins_with is_stop (drop n xs) ≡ false =
    λ h. let same : d ≡ n = one_run is_digit xs d n fits within digits.all digits.ends (and_parts _ _ h).1
    (no_digit_first (drop n xs) none) in rw (← same) stops in
    written is (digit_row first is row) endless

-- ---- bytes that begin no token
and_no : (b : Bool) → (b && false) ≡ false
and_no true = refl
and_no false = refl

differ : (a b : ℕ) → (a ≡ b → ⊥) → (a == b) ≡ false
differ a b ne = elim (cases_Bool (a == b)) [ inl is ↦ absurd (ne (eqb-true a b is)) | inr other ↦ other ]

pub line_token : (fresh : Bool) (b : ℕ) (bs : List ℕ) (n : ℕ) → b ≡ 59 → is_between b bs ≡ false
    → IsRun is_in_line (take n bs) (drop n bs) → IsToken fresh Comment (b ∷ take n bs) (drop n bs)
line_token fresh b bs n is between run =
    let alone : numbers_move bs ≡ false = subst (λ x. is_between x bs ≡ false) is between in
    let whole : numbers_move (take n bs ++ drop n bs) ≡ false =
    subst (λ x. numbers_move x ≡ false) (sym (take-append-drop n bs)) alone in
    subst (λ x. IsToken fresh Comment (x ∷ take n bs) (drop n bs)) (sym is) (to_line_end whole run)

pub unknown_token : (fresh : Bool) (b : ℕ) (rest : List ℕ) → is_between b rest ≡ false → is_digit b ≡ false
    → begins_mark (b ∷ rest) ≡ false → (b ≡ 123 → ⊥) → (b ≡ 59 → ⊥) → (b ≡ 46 → ⊥) → (b ≡ 36 → ⊥) → (b ≡ 40 → ⊥)
    → (b ≡ 41 → ⊥) → (b ≡ 42 → ⊥) → (b ≡ 37 → ⊥) → IsToken fresh Unknown (b ∷ []) rest
unknown_token fresh b rest space digit mark brace semi dot dollar opened closed starred cent =
    let signs : list_any (λ sign. b == sign) (codes "{;.$()*") ≡ false = rw (
      differ b 123 brace,
      differ b 59 semi,
      differ b 46 dot,
      differ b 36 dollar,
      differ b 40 opened,
      differ b 41 closed,
      differ b 42 starred,
    ) refl in
    let line : (fresh && (b == 37)) ≡ false = rw (differ b 37 cent) (and_no fresh) in
    let none : begins_token fresh b rest ≡ false =
    or_false _ _ (or_false _ _ digit signs) (or_false (fresh && (b == 37)) (begins_mark (b ∷ rest)) line mark) in
    unknown none space

-- ---- rows of tokens
-- a token stands in front of those behind it
pub token_next : (place n m : ℕ) (fresh : Bool) (what : TokenKind) (text rest left : List ℕ)
    (tokens : List Token) → IsToken fresh what (take n text) (drop n text) → n ≤ length text → drop n text ≡ rest →
    place + n ≡ m → AreTokens m false rest tokens left
    → AreTokens place fresh text ((record { what = what; text = take n text; place = place }) ∷ tokens) left
token_next place n m fresh what text rest left tokens is fits same sum are =
    let ahead : AreTokens (place + length (take n text)) false (drop n text) tokens left =
    rw (length-take-le n text fits, same, sum) are in
    subst (λ xs. AreTokens place fresh xs ((record { what = what; text = take n text; place = place }) ∷ tokens) left)
    (take-append-drop n text) (token (take n text) (drop n text) is ahead)

-- what stands ahead behind a blank stands ahead before it
pub blank_next : (text : List ℕ) (n : ℕ) (fresh next : Bool) (tokens : List Token) (left : List ℕ)
    → n < length text
    → true ≡ is_between (get_or text n 0) (drop (n + 1) text) → next ≡ ends_line (get_or text n 0)
    → AreTokens (n + 1 + 1) next (drop (n + 1) text) tokens left
    → AreTokens (n + 1) fresh (drop n text) tokens left
blank_next text n fresh next tokens left inside is ends are =
    let there : AreTokens (n + 1 + 1) (ends_line (get_or text n 0)) (drop (suc n) text) tokens left =
    rw (← ends) (rw (← add-one n) are) in
    let between : is_between (get_or text n 0) (drop (suc n) text) ≡ true =
    subst (λ k. is_between (get_or text n 0) (drop k text) ≡ true) (add-one n) (sym is) in
    let ahead : AreTokens (n + 1) fresh (get_or text n 0 ∷ drop (suc n) text) tokens left = blank between there in
    rw (drop-cons text n 0 inside) ahead

-- no token is ahead of nothing
pub none_ahead : (place : ℕ) (fresh : Bool) (text : List ℕ) → text ≡ [] → AreTokens place fresh text [] []
none_ahead place fresh text e = rw e nothing

-- the token at the front of the bytes that are ahead, and then those behind it
pub first_ahead : (text rest behind bytes : List ℕ) (n more : ℕ) (fresh : Bool) (what : TokenKind) (first : ℕ)
    (tokens : List Token) (left : List ℕ)
    → rest ≡ drop n text → rest ≡ first ∷ behind → bytes ≡ take (1 + more) rest → more ≤ length behind
    → IsToken fresh what (first ∷ take more behind) (drop more behind)
    → AreTokens (n + (1 + more) + 1) false (drop (n + (1 + more)) text) tokens left
    → AreTokens (n + 1) fresh (drop n text) ((record { what = what; text = bytes; place = n + 1 }) ∷ tokens) left
first_ahead text rest behind bytes n more fresh what first tokens left start is cut fits readable are =
    let whole : drop n text ≡ first ∷ behind = sym start ∙ is in
    let taken : bytes ≡ first ∷ take more behind = cut ∙ rw (is, one-add) refl in
    let beyond : drop more behind ≡ drop (n + (1 + more)) text =
    rw (← drop-drop (1 + more) n text) (rw (whole, one-add) refl) in
    let inside : suc more ≤ length (first ∷ behind) = omega arith in
    let core = token_next (n + 1) (suc more) (n + (1 + more) + 1) fresh what (first ∷ behind)
    (drop (n + (1 + more)) text) left tokens readable inside beyond (omega arith) are in
    rw (whole, taken) core
