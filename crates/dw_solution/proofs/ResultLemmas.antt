-- The text of a move is no result, and has one byte for each sign.
use Rattle.std.proofs.Common.{◌≡◌, ◌⊎◌, ℕ, List, [], ◌∷◌, ◌++◌, refl, sym, ap, subst, ◌∙◌, inl, inr, arith}
use Rattle.std.proofs.Common.{Bool, true, false, leb, Some, None, zero, suc}
use Rattle.std.specs.List.{list_all, list_any}
use Rattle.std.specs.Prelude.{◌==◌, ◌&&◌, ◌||◌, ◌≤◌, not, Ok, codes, length}
use Rattle.std.specs.Ordering.{nat_cmp}
use Rattle.std.specs.FinSet as set
use Rattle.std.proofs.lemmas.Bool.{true≢false, and_parts, not-true, leb-true, ne_eqb}
use Rattle.std.proofs.lemmas.Bool.{or_cases, eqb-true, or_left}
use Rattle.dw_board.specs.FenTokens.{is_digit}
use Rattle.dw_board.specs.Geometry.{Geometry}
use Rattle.dw_board.specs.Lists.{Member}
use Rattle.dw_board.specs.Placement.{Placement, at}
use Rattle.dw_moves.specs.Laws.{LegalMovesTake}
use Rattle.dw_moves.specs.Moves.{Move, Legal, LegalAt}
use Rattle.dw_notation.specs.MoveReading.{IsNumber, is_cross, AreCrossed, single, more, Named}
use Rattle.dw_notation.specs.MoveReading.{QuietMove, Names, by_dash}
use Rattle.dw_notation.specs.MoveReading.{by_crosses, Fits, IsRead}
use Rattle.dw_games.specs.Play.{is_leading, plain, results}
use Rattle.dw_games.specs.Tokens.{is_inside}
use Rattle.dw_solution.proofs.WordLemmas.{IsMade, names_made, some_and, all_digits}

absent : {A B : Type 0} → (x : A) → None ≡ Some x → B
absent x e = cc

same_some : {A : Type 0} → (x y : A) → Some x ≡ Some y → x ≡ y
same_some x y e = cc

heads : {m n : ℕ} {l k : List ℕ} → m ∷ l ≡ n ∷ k → m ≡ n
heads e = cc

tails : {m n : ℕ} {l k : List ℕ} → m ∷ l ≡ n ∷ k → l ≡ k
tails e = cc

none_behind : {c : ℕ} {rest : List ℕ} → [] ≡ c ∷ rest → ⊥
none_behind e = cc

-- a byte of moves and results as they are written
abbrev pub is_written : ℕ → Bool
is_written byte = is_digit byte || list_any (λ sign. byte == sign) (codes "-xX/")

-- ---- a number before a byte that is no digit
number_before : (g : Geometry) (front back : List ℕ) (x a c s : ℕ) (rest : List ℕ) → IsNumber g front s
    → front ++ x ∷ back ≡ a ∷ c ∷ rest → is_digit c ≡ false → (front ≡ a ∷ []) × (x ≡ c) × (back ≡ rest)
number_before g [] back x a c s rest h e fails = absent s h
number_before g (d ∷ []) back x a c s rest h e fails =
    (ap (λ z. z ∷ []) (heads e), heads (tails e), tails (tails e))
number_before g (d ∷ f ∷ []) back x a c s rest h e fails =
    let both = and_parts (is_digit d) (is_digit f) (some_and (is_digit d && is_digit f) _ _ s h) in
    absurd (true≢false (sym both.1 ∙ (ap is_digit (heads (tails e)) ∙ fails)))
number_before g (d ∷ f ∷ j ∷ bytes) back x a c s rest h e fails = absent s h

number_alone : (g : Geometry) (text : List ℕ) (a c s : ℕ) (rest : List ℕ) → IsNumber g text s → text ≡ a ∷ c ∷ rest
    → is_digit c ≡ false → ⊥
number_alone g [] a c s rest h e fails = absent s h
number_alone g (d ∷ []) a c s rest h e fails = none_behind (tails e)
number_alone g (d ∷ f ∷ []) a c s rest h e fails =
    let both = and_parts (is_digit d) (is_digit f) (some_and (is_digit d && is_digit f) _ _ s h) in
    true≢false (sym both.1 ∙ (ap is_digit (heads (tails e)) ∙ fails))
number_alone g (d ∷ f ∷ j ∷ bytes) a c s rest h e fails = absent s h

crossed_second : {g : Geometry} {text squares : List ℕ} → AreCrossed g text squares → (a c : ℕ) (rest : List ℕ)
    → text ≡ a ∷ c ∷ rest → is_digit c ≡ false → is_cross c ≡ true
crossed_second (single {g = g} {text = text} {s = s} h) a c rest e fails =
    absurd (number_alone g text a c s rest h e fails)
crossed_second (more {g = g} {s = s} front x back h is next) a c rest e fails =
    let split = number_before g front back x a c s rest h e fails in subst (λ z. is_cross z ≡ true) split.1 is

-- what a text names whose second byte is no digit
abbrev Second : Geometry → Named → (a c : ℕ) → List ℕ → Type 0
Second g named a c rest = ((c ≡ 45) × ((s : ℕ) × (t : ℕ) × IsNumber g (a ∷ []) s × IsNumber g rest t
    × (named ≡ QuietMove s t))) ⊎ (is_cross c ≡ true)

names_second : {g : Geometry} {text : List ℕ} {named : Named} → Names g text named → (a c : ℕ) (rest : List ℕ)
    → text ≡ a ∷ c ∷ rest → is_digit c ≡ false → Second g named a c rest
names_second (by_dash {g = g} {from = from} {to = to} front back h k) a c rest e fails =
    let split = number_before g front back 45 a c from rest h e fails in
    inl (
      sym split.1,
      (from, to, subst (λ z. IsNumber g z from) split.0 h, subst (λ z. IsNumber g z to) split.2 k, refl),
    )
names_second (by_crosses h low high) a c rest e fails = inr (crossed_second h a c rest e fails)

no_zero : (g : Geometry) (s : ℕ) → IsNumber g (48 ∷ []) s → ⊥
no_zero g s h = absent s h

module _ (takes : LegalMovesTake) (g : Geometry) (p : Placement) (m : Move) where
  -- no quiet move stays where it is
  still : (k : ℕ) → k ≡ 0 → LegalAt g p k m → m.from ≡ m.to → ⊥
  still zero none h e = absent _ (sym h.0.free ∙ (ap (λ s. at p s) (sym e) ∙ h.0.stands.there))
  still (suc k) none h e = omega (arith, none)

  no_quiet : Legal g p m → m.taken ≡ set.empty → m.from ≡ m.to → ⊥
  no_quiet legal none e =
      let few = takes.taken g p legal.0 m legal.1 legal in
      let zero_taken : legal.0 ≡ 0 = sym few ∙ (ap set.len none ∙ set.len-empty nat_cmp) in
      still legal.0 zero_taken legal.2 e

  -- nor does a text name one that has one number before a byte that is no digit, and the same behind it
  no_dashes : (text : List ℕ) (named : Named) → Names g text named → Fits g p named m → (a c : ℕ) (rest : List ℕ)
      → text ≡ a ∷ c ∷ rest → is_digit c ≡ false → is_cross c ≡ false
      → ((s t : ℕ) → c ≡ 45 → IsNumber g (a ∷ []) s → IsNumber g rest t → s ≡ t) → ⊥
  no_dashes text named names fits a c rest e fails plain why = elim (names_second names a c rest e fails) [
    | inl (dash, (s, t, hs, ht, is)) ↦
        let quiet = subst (λ z. Fits g p z m) is fits in
        no_quiet quiet.0 quiet.2 (quiet.1.0 ∙ (why s t dash hs ht ∙ sym quiet.1.1))
    | inr crossed_too ↦ true≢false (sym crossed_too ∙ plain)
  ]

  pub not_result : (text : List ℕ) → IsMade is_written text → IsRead g p text (Ok m) → Member text results → ⊥
  not_result text made read (inl e) =
      no_dashes text read.named read.names read.answers.fits 50 45 (48 ∷ []) e refl refl
      (λ s t dash hs ht. absurd (no_zero g t ht))
  not_result text made read (inr (inl e)) =
      no_dashes text read.named read.names read.answers.fits 48 45 (50 ∷ []) e refl refl
      (λ s t dash hs ht. absurd (no_zero g s hs))
  not_result text made read (inr (inr (inl e))) =
      no_dashes text read.named read.names read.answers.fits 49 45 (49 ∷ []) e refl refl
      (λ s t dash hs ht. same_some s t (sym hs ∙ ht))
  not_result text made read (inr (inr (inr (inl e)))) =
      no_dashes text read.named read.names read.answers.fits 48 45 (48 ∷ []) e refl refl
      (λ s t dash hs ht. absurd (no_zero g s hs))
  not_result text made read (inr (inr (inr (inr (inl e))))) =
      no_dashes text read.named read.names read.answers.fits 49 45 (48 ∷ []) e refl refl
      (λ s t dash hs ht. absurd (no_zero g t ht))
  not_result text made read (inr (inr (inr (inr (inr (inl e)))))) =
      no_dashes text read.named read.names read.answers.fits 48 45 (49 ∷ []) e refl refl
      (λ s t dash hs ht. absurd (no_zero g s hs))
  not_result text made read (inr (inr (inr (inr (inr (inr (inl e))))))) =
      no_dashes text read.named read.names read.answers.fits 49 47 (50 ∷ 45 ∷ 49 ∷ 47 ∷ 50 ∷ []) e refl refl
      (λ s t dash hs ht. absurd (omega (arith, dash)))
  not_result text made read (inr (inr (inr (inr (inr (inr (inr (inl e)))))))) =
      let star : made.digit ≡ 42 = heads (sym made.first ∙ e) in
      true≢false (sym made.is_digit ∙ ap is_digit star)
  not_result text made read (inr (inr (inr (inr (inr (inr (inr (inr gone)))))))) = gone

-- ---- what the text of a move is made of
abbrev is_plain : ℕ → Bool
is_plain byte = not (is_leading byte) && (not (list_any (λ last. byte == last) (150 ∷ 145 ∷ 147 ∷ 146 ∷ []))
    && not (list_any (λ last. byte == last) (58 ∷ 215 ∷ 151 ∷ [])))

plain_same : (text : List ℕ) → list_all is_plain text ≡ true → plain text ≡ text
plain_same [] h = refl
plain_same (b ∷ text) h =
    let both = and_parts (is_plain b) (list_all is_plain text) h in
    let leading = and_parts _ _ both.0 in
    let last = and_parts _ _ leading.1 in
    rw (
      not-true (is_leading b) leading.0,
      not-true (list_any (λ last. b == last) (150 ∷ 145 ∷ 147 ∷ 146 ∷ [])) last.0,
      not-true (list_any (λ last. b == last) (58 ∷ 215 ∷ 151 ∷ [])) last.1,
    )
    (ap (λ z. b ∷ z) (plain_same text both.1))

-- a byte that passes a test is none of those that fail it
no_eq : (test : ℕ → Bool) (b x : ℕ) → test x ≡ false → test b ≡ true → (b == x) ≡ false
no_eq test b x fails is = ne_eqb b x (λ e. true≢false (sym is ∙ (ap test e ∙ fails)))

none_of : (test : ℕ → Bool) (xs : List ℕ) → list_all (λ x. not (test x)) xs ≡ true → (b : ℕ) → test b ≡ true
    → list_any (λ x. b == x) xs ≡ false
none_of test [] all b is = refl
none_of test (x ∷ xs) all b is =
    let both = and_parts _ _ all in
    rw (no_eq test b x (not-true _ both.0) is, none_of test xs both.1 b is) refl

plain_by : (test : ℕ → Bool) (b : ℕ) → list_all (λ x. not (test x)) (226 ∷ 128 ∷ 136 ∷ 195 ∷ []) ≡ true
    → list_all (λ x. not (test x)) (150 ∷ 145 ∷ 147 ∷ 146 ∷ []) ≡ true
    → list_all (λ x. not (test x)) (58 ∷ 215 ∷ 151 ∷ []) ≡ true → test b ≡ true → is_plain b ≡ true
plain_by test b leading dash cross is =
    rw (none_of test _ leading b is, none_of test _ dash b is, none_of test _ cross b is) refl

and_no : (b : Bool) → (b && false) ≡ false
and_no true = refl
and_no false = refl

digit_written : (b : ℕ) → is_digit b ≡ true → is_written b ≡ true
digit_written b e = or_left (is_digit b) _ e

cross_written : (b : ℕ) → is_cross b ≡ true → is_written b ≡ true
cross_written b e = elim (or_cases (b == 120) (b == 88) e) [
  | inl h ↦ subst (λ z. is_written z ≡ true) (sym (eqb-true b 120 h)) refl
  | inr h ↦ subst (λ z. is_written z ≡ true) (sym (eqb-true b 88 h)) refl
]

digit_plain : (b : ℕ) → is_digit b ≡ true → is_plain b ≡ true
digit_plain b e = plain_by is_digit b refl refl refl e

cross_plain : (b : ℕ) → is_cross b ≡ true → is_plain b ≡ true
cross_plain b e = plain_by is_cross b refl refl refl e

-- no text of a move is all digits
fails_at : (test : ℕ → Bool) (front : List ℕ) (x : ℕ) (back : List ℕ) → test x ≡ false
    → list_all test (front ++ x ∷ back) ≡ false
fails_at test [] x back h = rw h refl
fails_at test (y ∷ front) x back h = rw (fails_at test front x back h) (and_no (test y))

cross_no_digit : (b : ℕ) → is_cross b ≡ true → is_digit b ≡ false
cross_no_digit b e = elim (or_cases (b == 120) (b == 88) e) [
  | inl h ↦ ap is_digit (eqb-true b 120 h)
  | inr h ↦ ap is_digit (eqb-true b 88 h)
]

crossed_mixed : {g : Geometry} {text squares : List ℕ} → AreCrossed g text squares → 2 ≤ length squares
    → list_all is_digit text ≡ false
crossed_mixed (single h) low = absurd (omega (arith, low))
crossed_mixed (more front x back h is next) low = fails_at is_digit front x back (cross_no_digit x is)

pub names_mixed : {g : Geometry} {text : List ℕ} {named : Named} → Names g text named → list_all is_digit text ≡ false
names_mixed (by_dash front back h k) = fails_at is_digit front 45 back refl
names_mixed (by_crosses h low high) = crossed_mixed h low

pub names_written : {g : Geometry} {text : List ℕ} {named : Named} → Names g text named → IsMade is_written text
names_written names = names_made is_written digit_written refl cross_written names

pub names_plain : {g : Geometry} {text : List ℕ} {named : Named} → Names g text named → plain text ≡ text
names_plain {text = text} names = plain_same text (names_made is_plain digit_plain refl cross_plain names).all

-- a result is written so
pub results_plain : (text : List ℕ) → Member text results → Member (plain text) results
results_plain text (inl e) = subst (λ z. Member (plain z) results) (sym e) (inl refl)
results_plain text (inr (inl e)) = subst (λ z. Member (plain z) results) (sym e) (inr (inl refl))
results_plain text (inr (inr (inl e))) = subst (λ z. Member (plain z) results) (sym e) (inr (inr (inl refl)))
results_plain text (inr (inr (inr (inl e)))) =
    subst (λ z. Member (plain z) results) (sym e) (inr (inr (inr (inl refl))))
results_plain text (inr (inr (inr (inr (inl e))))) =
    subst (λ z. Member (plain z) results) (sym e) (inr (inr (inr (inr (inl refl)))))
results_plain text (inr (inr (inr (inr (inr (inl e)))))) =
    subst (λ z. Member (plain z) results) (sym e) (inr (inr (inr (inr (inr (inl refl))))))
results_plain text (inr (inr (inr (inr (inr (inr (inl e))))))) =
    subst (λ z. Member (plain z) results) (sym e) (inr (inr (inr (inr (inr (inr (inl refl)))))))
results_plain text (inr (inr (inr (inr (inr (inr (inr (inl e)))))))) =
    subst (λ z. Member (plain z) results) (sym e) (inr (inr (inr (inr (inr (inr (inr (inl refl))))))))
results_plain text (inr (inr (inr (inr (inr (inr (inr (inr gone)))))))) = absurd gone

digit_inside : (b : ℕ) → is_digit b ≡ true → is_inside b ≡ true
digit_inside b e =
    let high = leb-true b 57 (and_parts (leb 48 b) (leb b 57) e).1 in
    ap not (ne_eqb b 125 (λ z. omega (arith, z, high)))

pub digits_inside : (digits : List ℕ) → list_all is_digit digits ≡ true → list_all is_inside digits ≡ true
digits_inside digits h = all_digits is_inside digit_inside digits h
