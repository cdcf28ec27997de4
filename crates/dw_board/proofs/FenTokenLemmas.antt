-- Lemmas on the tokens of a text.
use Rattle.std.proofs.Common.{◌≡◌, ℕ, suc, zero, ◌+◌, ◌≤◌, Bool, true, false, ◌&&◌, ◌||◌, cond, eqb, List, [], ◌∷◌}
use Rattle.std.proofs.Common.{◌++◌, length, take, drop, Some, None, refl, sym, ap, ◌∙◌, arith, inl, inr}
use Rattle.std.proofs.Common.{slice_get}
use Rattle.std.specs.Option.{option_eq}
use Rattle.std.proofs.lemmas.Bool.{cases_Bool, and_parts, eqb-true, eq-eqb, ne_eqb, cases_eq, leb-true}
use Rattle.std.proofs.lemmas.Bool.Decides.{nat_tests}
use Rattle.std.proofs.lemmas.List.{take-append-drop, length-take-le}
use Rattle.dw_board.specs.Geometry.{Geometry}
use Rattle.dw_board.specs.declared.piece.Side.TheVariants.{White, Black}
use Rattle.dw_board.specs.FenTokens.{Token, tokens_from, with_byte, onto_run, is_blank, is_digit, begins_with_digit}
use Rattle.dw_board.specs.FenTokens.{is_sign, side_named, is_king_letter, number_named}
use Rattle.dw_board.specs.inner.FenBlanks.{begins_with_blank, IsSignByte}
use Rattle.dw_board.specs.FenTokens.{AreDigits}
use Rattle.dw_board.specs.inner.FenReader.{behind}
use Rattle.dw_board.specs.FenTokens.{first_is, first_named, place_of, is_empty}

pub tokens_from-blank : (place byte : ℕ) (bytes : List ℕ) → is_blank byte ≡ true → tokens_from place (byte ∷ bytes)
    ≡ tokens_from (place + 1) bytes
tokens_from-blank place byte bytes h = rw h refl

pub tokens_from-sign : (place byte : ℕ) (bytes : List ℕ) → is_blank byte ≡ false → is_digit byte ≡ false
    → tokens_from place (byte ∷ bytes) ≡ record { text = byte ∷ []; place = place } ∷ tokens_from (place + 1) bytes
tokens_from-sign place byte bytes h k = rw (h, k) refl

pub digit-not_blank : (byte : ℕ) → is_digit byte ≡ true → is_blank byte ≡ false
digit-not_blank byte h = grind (arith, nat_tests)

with_byte-joined : (byte place : ℕ) (joins : Bool) (tokens : List Token) → is_blank byte ≡ false → is_digit byte ≡ true
    → joins ≡ true
    → with_byte byte place joins tokens ≡ onto_run byte place tokens
with_byte-joined byte place joins tokens h k j = rw (h, k, j) refl

tokens_from-joined : (place d e : ℕ) (bytes : List ℕ) → is_digit d ≡ true → is_digit e ≡ true
    → tokens_from place (d ∷ e ∷ bytes) ≡ onto_run d place (tokens_from (place + 1) (e ∷ bytes))
tokens_from-joined place d e bytes h k = with_byte-joined d place (is_digit e) (tokens_from (place + 1) (e ∷ bytes))
    (digit-not_blank d h) h k

-- a run of digits is one token
pub tokens_from-run : (place d : ℕ) (ds rest : List ℕ) → AreDigits (d ∷ ds) → begins_with_digit rest ≡ false
    → tokens_from place (d ∷ (ds ++ rest)) ≡ record { text = d ∷ ds; place = place }
    ∷ tokens_from (place + suc (length ds)) rest
tokens_from-run place d [] rest are none = rw (digit-not_blank d are.0, are.0, none) refl
tokens_from-run place d (e ∷ ds) rest are none =
    let onward = tokens_from-run (place + 1) e ds rest are.1 none in
    let sum : place + 1 + suc (length ds) ≡ place + suc (suc (length ds)) = omega arith in
    tokens_from-joined place d e (ds ++ rest) are.0 are.1.0
    ∙ (ap (onto_run d place) onward ∙ ap (λ n. record { text = d ∷ e ∷ ds; place = place } ∷ tokens_from n rest) sum)

-- where no blank stands, the first token begins with the first byte
pub record BeginsWith (byte place : ℕ) (tokens : List Token) : Type 0 where
  pub more : List ℕ
  pub others : List Token
  pub is : tokens ≡ record { text = byte ∷ more; place = place } ∷ others

onto_run-begins : (place digit next : ℕ) (tokens : List Token) → BeginsWith next (place + 1) tokens
    → BeginsWith digit place (onto_run digit place tokens)
onto_run-begins place digit next tokens h = record {
  more = next ∷ h.more;
  others = h.others;
  is =
      ap (onto_run digit place) h.is;
}

pub tokens_from-begins : (place byte : ℕ) (bytes : List ℕ) → is_blank byte ≡ false
    → BeginsWith byte place (tokens_from place (byte ∷ bytes))
tokens_from-begins place byte [] h = elim (is_digit byte) as (λ v. BeginsWith byte place (cond (is_blank byte) []
    (cond (v && false) [] (record { text = byte ∷ []; place = place } ∷ [])))) [
      | true ↦ rw h (record { more = []; others = []; is = refl })
      | false ↦ rw h (record { more = []; others = []; is = refl })
    ]
tokens_from-begins place byte (next ∷ bytes) h = elim (cases_Bool (is_digit byte && is_digit next)) [
  | inl joins ↦
      let digit = and_parts _ _ joins in
      rw (h, joins) (onto_run-begins place byte next _ (tokens_from-begins (place + 1) next bytes
      (digit-not_blank next digit.1)))
  | inr apart ↦ rw (h, apart) (record { more = []; others = tokens_from (place + 1) (next ∷ bytes); is = refl })
]

-- ---- the first token by the first byte
pub place_of-here : (place : ℕ) (bytes : List ℕ) → begins_with_blank bytes ≡ false
    → place_of (tokens_from place bytes) (place + length bytes) ≡ place
place_of-here place [] h = omega arith
place_of-here place (byte ∷ bytes) h = let b = tokens_from-begins place byte bytes h in
    ap (λ ts. place_of ts (place + suc (length bytes))) b.is

pub is_empty-here : (place : ℕ) (bytes : List ℕ) → begins_with_blank bytes ≡ false → is_empty (tokens_from place bytes)
    ≡ eqb (length bytes) 0
is_empty-here place [] h = refl
is_empty-here place (byte ∷ bytes) h =
    let b = tokens_from-begins place byte bytes h in
    let no : eqb (suc (length bytes)) 0 ≡ false = ne_eqb _ 0 (λ e. omega arith) in
    ap is_empty b.is ∙ sym no

pub begins_with_sign : ℕ → List ℕ → Bool
begins_with_sign sign [] = false
begins_with_sign sign (byte ∷ bytes) = eqb byte sign

is_sign-other : (sign byte : ℕ) (more : List ℕ) → eqb byte sign ≡ false → is_sign sign (byte ∷ more) ≡ false
is_sign-other sign byte [] h = h
is_sign-other sign byte (m ∷ more) h = refl

pub first_is-sign : (sign place : ℕ) (bytes : List ℕ) → is_blank sign ≡ false → is_digit sign ≡ false
    → begins_with_blank bytes ≡ false
    → first_is (is_sign sign) (tokens_from place bytes) ≡ begins_with_sign sign bytes
unfolding begins_with_sign
first_is-sign sign place [] blank digit h = refl
first_is-sign sign place (byte ∷ bytes) blank digit h = elim (cases_Bool (eqb byte sign)) [
  | inl is ↦
      let e = eqb-true byte sign is in
      ap (first_is (is_sign sign)) (tokens_from-sign place byte bytes h (ap is_digit e ∙ digit))
  | inr other ↦
      let b = tokens_from-begins place byte bytes h in
      ap (first_is (is_sign sign)) b.is ∙ (is_sign-other sign byte b.more other ∙ sym other)
]

-- ---- tests of the first token
pub first_is_king : (tokens : List Token) → first_is is_king_letter tokens
    ≡ (first_is (is_sign 75) tokens || first_is (is_sign 107) tokens)
first_is_king [] = refl
first_is_king (t ∷ tokens) = refl

pub first_named_side : (tokens : List Token) → first_named side_named tokens ≡
    cond (first_is (is_sign 87) tokens || first_is (is_sign 119) tokens) (Some White)
    (cond (first_is (is_sign 66) tokens || first_is (is_sign 98) tokens) (Some Black) None)
first_named_side [] = refl
first_named_side (t ∷ tokens) = refl

-- ---- the text behind a place
pub slice_get-begins : (sign at : ℕ) (text : List ℕ) → option_eq eqb (slice_get text at) (Some sign)
    ≡ begins_with_sign sign (drop at text)
unfolding begins_with_sign
slice_get-begins sign zero [] = refl
slice_get-begins sign zero (byte ∷ text) = refl
slice_get-begins sign (suc at) [] = refl
slice_get-begins sign (suc at) (byte ∷ text) = slice_get-begins sign at text

pub same_test : (a b x y : ℕ) → (a ≡ b → x ≡ y) → (x ≡ y → a ≡ b) → eqb a b ≡ eqb x y
same_test a b x y to from = elim (cases_eq a b) [
  | inl e ↦ eq-eqb a b e ∙ sym (eq-eqb x y (to e))
  | inr ne ↦ ne_eqb a b ne ∙ sym (ne_eqb x y (λ e. ne (from e)))
]

is_sign-first : (sign byte : ℕ) (more : List ℕ) → is_sign sign (byte ∷ more) ≡ true → byte ≡ sign
is_sign-first sign byte [] h = eqb-true byte sign h
is_sign-first sign byte (m ∷ more) h = cc

-- behind a sign that is the first token the bytes go on
pub behind-sign : (sign place : ℕ) (bytes : List ℕ) → IsSignByte sign → begins_with_blank bytes ≡ false
    → first_is (is_sign sign) (tokens_from place bytes) ≡ true
    → behind (tokens_from place bytes) ≡ tokens_from (place + 1) (drop 1 bytes)
behind-sign sign place [] is h first = cc
behind-sign sign place (byte ∷ bytes) is h first =
    let b = tokens_from-begins place byte bytes h in
    let e : byte ≡ sign = is_sign-first sign byte b.more (sym (ap (first_is (is_sign sign)) b.is) ∙ first) in
    ap behind (tokens_from-sign place byte bytes h (ap is_digit e ∙ is.1))

pub first_is-room : (test : List ℕ → Bool) (place : ℕ) (bytes : List ℕ) → first_is test (tokens_from place bytes) ≡ true
    → 1 ≤ length bytes
first_is-room test place [] h = cc
first_is-room test place (byte ∷ bytes) h = omega arith

pub AreDigits-push : (bytes : List ℕ) (byte : ℕ) → AreDigits bytes → is_digit byte ≡ true
    → AreDigits (bytes ++ byte ∷ [])
AreDigits-push [] byte are h = (h, tt)
AreDigits-push (b ∷ bytes) byte are h = (are.0, AreDigits-push bytes byte are.1 h)

-- ---- the first token as a number
number_named-no_digit : (g : Geometry) (byte : ℕ) (more : List ℕ) → is_digit byte ≡ false → number_named g (byte ∷ more)
    ≡ None
number_named-no_digit g byte [] h = rw h refl
number_named-no_digit g byte (c ∷ []) h = rw h refl
number_named-no_digit g byte (c ∷ d ∷ more) h = refl

-- the run of digits at the front is the first token
pub first_named-run : (g : Geometry) (place : ℕ) (run rest : List ℕ) → AreDigits run → begins_with_digit rest ≡ false
    → begins_with_blank (run ++ rest) ≡ false
    → first_named (number_named g) (tokens_from place (run ++ rest)) ≡ number_named g run
first_named-run g place [] [] are none h = refl
first_named-run g place [] (byte ∷ rest) are none h =
    let b = tokens_from-begins place byte rest h in ap (first_named (number_named g)) b.is
    ∙ number_named-no_digit g byte b.more none
first_named-run g place (d ∷ ds) rest are none h = ap (first_named (number_named g))
    (tokens_from-run place d ds rest are none)

pub behind-run : (g : Geometry) (place n : ℕ) (run rest : List ℕ) → AreDigits run → begins_with_digit rest ≡ false
    → number_named g run ≡ Some n
    → behind (tokens_from place (run ++ rest)) ≡ tokens_from (place + length run) rest
behind-run g place n [] rest are none h = cc
behind-run g place n (d ∷ ds) rest are none h = ap behind (tokens_from-run place d ds rest are none)

-- the same with the run and the rest cut out of the bytes
module _ (g : Geometry) (place count : ℕ) (bytes : List ℕ) (are : AreDigits (take count bytes))
    (none : begins_with_digit (drop count bytes) ≡ false) (h : begins_with_blank bytes ≡ false) where
  pub first_named-cut : first_named (number_named g) (tokens_from place bytes) ≡ number_named g (take count bytes)
  first_named-cut =
      let whole = take-append-drop count bytes in
      ap (λ bs. first_named (number_named g) (tokens_from place bs)) (sym whole)
      ∙ first_named-run g place (take count bytes) (drop count bytes) are none (ap begins_with_blank whole ∙ h)

  pub behind-cut : (n : ℕ) → count ≤ length bytes → number_named g (take count bytes) ≡ Some n
      → behind (tokens_from place bytes) ≡ tokens_from (place + count) (drop count bytes)
  behind-cut n room named =
      let whole = take-append-drop count bytes in
      ap (λ bs. behind (tokens_from place bs)) (sym whole)
      ∙ (behind-run g place n (take count bytes) (drop count bytes) are none named
      ∙ ap (λ k. tokens_from (place + k) (drop count bytes)) (length-take-le count bytes room))

  pub first_named-none : number_named g (take count bytes) ≡ None
      → first_named (number_named g) (tokens_from place bytes) ≡ None
  first_named-none e = first_named-cut ∙ e
