-- The bytes of the words that are written.
use Rattle.std.proofs.Common.{◌≡◌, ℕ, ◌+◌, ◌<◌, zero, suc, List, [], ◌∷◌, ◌++◌, refl, sym, ap, subst, ◌∙◌, inl, inr}
use Rattle.std.proofs.Common.{Bool, true, false, leb, cond, decimal, codes, arith, Some, None}
use Rattle.std.specs.List.{list_all}
use Rattle.std.specs.Prelude.{◌%◌, ◌/◌, ◌==◌, ◌&&◌, ◌||◌, not}
use Rattle.std.specs.Fmt.{digits, digits_onto, digit_glyph}
use Rattle.std.proofs.lemmas.Bool.{cond-true, le-leb, lt-ltb, and_from, and_parts, ne_eqb, leb-true, eqb-true, or_cases}
use Rattle.std.proofs.lemmas.List.Folds.{list_all-append}
use Rattle.dw_board.specs.FenTokens.{is_digit}
use Rattle.dw_board.specs.Geometry.{Geometry, IsBoard}
use Rattle.dw_board.specs.Placement.{Placement, IsPosition}
use Rattle.dw_moves.specs.Laws.{PlayStays}
use Rattle.dw_moves.specs.Moves.{Move, Legal, play}
use Rattle.dw_moves.specs.inner.MemberLemmas.{mem_map}
use Rattle.dw_notation.specs.Text.{IsMoveText}
use Rattle.dw_notation.specs.MoveReading.{IsNumber, is_cross, AreCrossed, single, more, Named}
use Rattle.dw_notation.specs.MoveReading.{Names, by_dash, by_crosses}
use Rattle.dw_notation.specs.MoveReadingLaws.{WrittenMoveIsNamed}
use Rattle.dw_solution.specs.Tree.{Tree, over, branch}
use Rattle.dw_solution.specs.Movetext.{in_movetext}
use Rattle.dw_solution.specs.Words.{AreWords, AreVariations, closed, dots, has_move, in_parentheses, move_words}
use Rattle.dw_solution.specs.Words.{number_word}
use Rattle.dw_solution.specs.inner.Feeds.{IsUnbroken, AreUnbroken}

pub all_append : (test : ℕ → Bool) (xs ys : List ℕ) → list_all test xs ≡ true → list_all test ys ≡ true
    → list_all test (xs ++ ys) ≡ true
all_append test xs ys a b = list_all-append test xs ys ∙ and_from (list_all test xs) (list_all test ys) a b

-- ---- digits
glyph_digit : (n : ℕ) → is_digit (digit_glyph false (n % 10)) ≡ true
glyph_digit n =
    let low : n % 10 < 10 = omega arith in
    let e : digit_glyph false (n % 10) ≡ 48 + n % 10 = cond-true _ _ _ (lt-ltb (n % 10) 10 low) in
    subst (λ z. is_digit z ≡ true) (sym e)
    (and_from (leb 48 (48 + n % 10)) (leb (48 + n % 10) 57) (le-leb 48 (48 + n % 10) (omega arith))
    (le-leb (48 + n % 10) 57 (omega (arith, low))))

onto_digits : (k n : ℕ) (acc : List ℕ) → list_all is_digit acc ≡ true
    → list_all is_digit (digits_onto k 10 false n acc) ≡ true
onto_digits zero n acc h = h
onto_digits (suc k) n acc h =
    let here : list_all is_digit (digit_glyph false (n % 10) ∷ acc) ≡ true =
    and_from (is_digit (digit_glyph false (n % 10))) (list_all is_digit acc) (glyph_digit n) h in
    elim (n / 10 == 0) as (λ b. list_all is_digit (cond b (digit_glyph false (n % 10) ∷ acc)
    (digits_onto k 10 false (n / 10) (digit_glyph false (n % 10) ∷ acc))) ≡ true) [
      | true ↦ here
      | false ↦ onto_digits k (n / 10) (digit_glyph false (n % 10) ∷ acc) here
    ]

pub decimal_digits : (n : ℕ) → list_all is_digit (decimal n) ≡ true
unfolding digits
decimal_digits n = onto_digits 64 n [] refl

-- ---- what texts that name a move are made of
pub some_and : (b c : Bool) (n s : ℕ) → cond (b && c) (Some n) None ≡ Some s → b ≡ true
some_and true c n s e = refl
some_and false c n s e = cc

absent : {A B : Type 0} → (x : A) → None ≡ Some x → B
absent x e = cc

-- a text begins with a digit, and all its bytes pass a test
pub record IsMade (test : ℕ → Bool) (text : List ℕ) : Type 0 where
  pub digit : ℕ
  pub rest : List ℕ
  pub first : text ≡ digit ∷ rest
  pub is_digit : is_digit digit ≡ true
  pub all : list_all test text ≡ true

module _ (test : ℕ → Bool) (digit : (b : ℕ) → is_digit b ≡ true → test b ≡ true) (dash : test 45 ≡ true)
    (cross : (b : ℕ) → is_cross b ≡ true → test b ≡ true) where
  number_made : (g : Geometry) (text : List ℕ) (s : ℕ) → IsNumber g text s → IsMade test text
  number_made g [] s e = absent s e
  number_made g (d ∷ []) s e =
      let is = some_and (is_digit d) _ _ s e in
      record {
        digit = d;
        rest = [];
        first = refl;
        is_digit = is;
        all = and_from (test d) true (digit d is) refl;
      }
  number_made g (d ∷ e ∷ []) s h =
      let both = and_parts (is_digit d) (is_digit e) (some_and (is_digit d && is_digit e) _ _ s h) in
      record {
        digit = d;
        rest = e ∷ [];
        first = refl;
        is_digit = both.0;
        all = and_from (test d) (test e && true) (digit d both.0) (and_from (test e) true (digit e both.1) refl);
      }
  number_made g (d ∷ e ∷ f ∷ bytes) s h = absent s h

  joined_made : (front : List ℕ) (mark : ℕ) (back : List ℕ) → IsMade test front → test mark ≡ true
      → list_all test back ≡ true → IsMade test (front ++ mark ∷ back)
  joined_made front mark back h m b = record {
    digit = h.digit;
    rest = h.rest ++ mark ∷ back;
    first = ap (λ z. z ++ mark ∷ back) h.first;
    is_digit = h.is_digit;
    all = all_append test front (mark ∷ back) h.all (and_from (test mark) (list_all test back) m b);
  }

  crossed_made : {g : Geometry} {text squares : List ℕ} → AreCrossed g text squares → IsMade test text
  crossed_made (single {g = g} {text = text} {s = s} h) = number_made g text s h
  crossed_made (more {g = g} {s = s} front mark rest h is next) =
      joined_made front mark rest (number_made g front s h) (cross mark is) (crossed_made next).all

  pub names_made : {g : Geometry} {text : List ℕ} {named : Named} → Names g text named → IsMade test text
  names_made (by_dash {g = g} {from = from} {to = to} front back h k) =
      joined_made front 45 back (number_made g front from h) dash (number_made g back to k).all
  names_made (by_crosses h low high) = crossed_made h

-- ---- no word has a line feed
abbrev pub is_no_feed : ℕ → Bool
is_no_feed byte = not (byte == 10)

digit_unbroken : (b : ℕ) → is_digit b ≡ true → is_no_feed b ≡ true
digit_unbroken b e =
    let low = leb-true 48 b (and_parts (leb 48 b) (leb b 57) e).0 in ap not (ne_eqb b 10 (λ z. omega (arith, z, low)))

cross_unbroken : (b : ℕ) → is_cross b ≡ true → is_no_feed b ≡ true
cross_unbroken b e = elim (or_cases (b == 120) (b == 88) e) [
  | inl h ↦ subst (λ z. is_no_feed z ≡ true) (sym (eqb-true b 120 h)) refl
  | inr h ↦ subst (λ z. is_no_feed z ≡ true) (sym (eqb-true b 88 h)) refl
]

pub all_digits : (test : ℕ → Bool) → ((b : ℕ) → is_digit b ≡ true → test b ≡ true) → (xs : List ℕ)
    → list_all is_digit xs ≡ true → list_all test xs ≡ true
all_digits test h [] e = refl
all_digits test h (x ∷ xs) e =
    let both = and_parts (is_digit x) (list_all is_digit xs) e in
    and_from (test x) (list_all test xs) (h x both.0) (all_digits test h xs both.1)

pub decimal_unbroken : (n : ℕ) → IsUnbroken (decimal n)
decimal_unbroken n = all_digits is_no_feed digit_unbroken (decimal n) (decimal_digits n)

pub unbroken_append : (words later : List (List ℕ)) → AreUnbroken words → AreUnbroken later
    → AreUnbroken (words ++ later)
unbroken_append [] later h k = k
unbroken_append (w ∷ words) later h k = (h.0, unbroken_append words later h.1 k)

unbroken_closed : (words : List (List ℕ)) → AreUnbroken words → AreUnbroken (closed in_movetext words)
unbroken_closed [] h = tt
unbroken_closed (w ∷ []) h = (all_append is_no_feed w (codes ")") h.0 refl, tt)
unbroken_closed (w ∷ v ∷ words) h = (h.0, unbroken_closed (v ∷ words) h.1)

unbroken_within : (words : List (List ℕ)) → AreUnbroken words → AreUnbroken (in_parentheses in_movetext words)
unbroken_within [] h = tt
unbroken_within (w ∷ words) h = unbroken_closed ((codes "(" ++ w) ∷ words) (h.0, h.1)

unbroken_dots : (half : ℕ) → IsUnbroken (dots half)
unbroken_dots half = elim (half % 2 == 0) as (λ b. IsUnbroken (cond b (codes ".") (codes "..."))) [
  | true ↦ refl
  | false ↦ refl
]

unbroken_move : (half : ℕ) (due : Bool) (text : List ℕ) → IsUnbroken text
    → AreUnbroken (move_words in_movetext half due text)
unbroken_move half due text h =
    let number : IsUnbroken (number_word in_movetext half) =
    all_append is_no_feed (decimal (half / 2 + 1)) (dots half) (decimal_unbroken (half / 2 + 1)) (unbroken_dots half) in
    elim (due || (half % 2 == 0)) as (λ b. AreUnbroken (cond b (number_word in_movetext half ∷ []) [] ++ text ∷ [])) [
      | true ↦ (number, (h, tt))
      | false ↦ (h, tt)
    ]

-- a move that has a text is legal
pub text_legal : (g : Geometry) (p : Placement) (m : Move) (text : List ℕ) → IsMoveText g p m text → Legal g p m
text_legal g p m text h =
    subst (Legal g p) h.same ((h.all.in_order.exactly h.item.step).0 (mem_map (λ l. l.step) h.item h.list h.here))

module _ (named : WrittenMoveIsNamed) (stays : PlayStays) (g : Geometry) (board : IsBoard g) where
  text_unbroken : (p : Placement) → IsPosition g p.cells → (m : Move) (text : List ℕ) → IsMoveText g p m text
      → IsUnbroken text
  text_unbroken p pos m text h =
      (names_made is_no_feed digit_unbroken refl cross_unbroken (named g board p pos m text h).names).all

  mutual
    pub words_unbroken : (p : Placement) → IsPosition g p.cells → (half : ℕ) (due : Bool) (t : Tree)
        (words : List (List ℕ)) → AreWords in_movetext g p half due t words → AreUnbroken words
    words_unbroken p pos half due over words h = subst AreUnbroken (sym h) tt
    words_unbroken p pos half due (branch m behind others) words (text, variations, rest, is, beside, next, e) =
        subst AreUnbroken (sym e) (unbroken_append (move_words in_movetext half due text) (variations ++ rest)
        (unbroken_move half due text (text_unbroken p pos m text is))
        (unbroken_append variations rest (variations_unbroken p pos half others variations beside)
        (words_unbroken (play g p m) (stays g board p m pos (text_legal g p m text is)) (half + 1) (has_move others)
        behind rest next)))

    variations_unbroken : (p : Placement) → IsPosition g p.cells → (half : ℕ) (t : Tree) (words : List (List ℕ))
        → AreVariations in_movetext g p half t words → AreUnbroken words
    variations_unbroken p pos half over words h = subst AreUnbroken (sym h) tt
    variations_unbroken p pos half (branch m behind others) words (text, rest, later, is, next, beside, e) =
        let moved : List (List ℕ) = move_words in_movetext half true text in
        subst AreUnbroken (sym e) (unbroken_append (in_parentheses in_movetext (moved ++ rest)) later
        (unbroken_within (moved ++ rest) (unbroken_append moved rest
        (unbroken_move half true text (text_unbroken p pos m text is))
        (words_unbroken (play g p m) (stays g board p m pos (text_legal g p m text is)) (half + 1) false behind rest
        next)))
        (variations_unbroken p pos half others later beside))
