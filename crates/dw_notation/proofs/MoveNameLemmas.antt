-- What the text of a move names, number by number from its front.
use Rattle.std.proofs.Common.{◌≡◌, ℕ, ◌<◌, ◌≤◌, true, false, List, [], ◌∷◌, ◌++◌, length, Some, None, refl, sym, ap}
use Rattle.std.proofs.Common.{◌∙◌, subst, ◌⊎◌, inl, inr, arith, append_assoc, append-nil, length-append}
use Rattle.std.proofs.lemmas.Bool.{cases_Bool, true≢false, or_cases, eqb-true}
use Rattle.dw_board.specs.Geometry.{Geometry}
use Rattle.dw_board.specs.FenTokens.{is_digit, begins_with_digit, number_named, AreDigits}
use Rattle.dw_notation.specs.MoveReading.{IsNumber, is_cross, AreCrossed, single, more, Named, QuietMove, Capture}
use Rattle.dw_notation.specs.MoveReading.{Names, by_dash, by_crosses}
use Rattle.dw_notation.specs.inner.MoveReader.{Begins, BeginsNowhere}

one_number : (g : Geometry) (text : List ℕ) (s t : ℕ) → IsNumber g text s → IsNumber g text t → s ≡ t
one_number g text s t h k = let e : Some s ≡ Some t = sym h ∙ k in cc

absent : {A : Type 0} → (x : A) → None ≡ Some x → ⊥
absent x e = cc

-- a number is made of digits
number_digits : (g : Geometry) (text : List ℕ) (s : ℕ) → IsNumber g text s → AreDigits text
number_digits g [] s h = tt
number_digits g (d ∷ []) s h = elim (cases_Bool (is_digit d)) [
  | inl is ↦ (is, tt)
  | inr other ↦ absurd (absent s (rw other at h))
]
number_digits g (d ∷ e ∷ []) s h = elim (cases_Bool (is_digit d)) [
  | inl is ↦ elim (cases_Bool (is_digit e)) [
    | inl too ↦ (is, (too, tt))
    | inr other ↦ absurd (absent s (rw (is, other) at h))
  ]
  | inr other ↦ absurd (absent s (rw other at h))
]
number_digits g (d ∷ e ∷ f ∷ text) s h = absurd (absent s h)

cross_is_no_digit : (byte : ℕ) → is_cross byte ≡ true → is_digit byte ≡ false
cross_is_no_digit byte h = elim (or_cases _ _ h) [
  | inl small ↦ ap is_digit (eqb-true byte 120 small)
  | inr great ↦ ap is_digit (eqb-true byte 88 great)
]

-- two texts of digits with no digit behind them, cut out of one text, are the same
one_front : (a b rest others : List ℕ) → AreDigits a → AreDigits b → begins_with_digit rest ≡ false
    → begins_with_digit others ≡ false → a ++ rest ≡ b ++ others → (a ≡ b) × (rest ≡ others)
one_front [] [] rest others ad bd re oe e = (refl, e)
one_front [] (y ∷ b) rest others ad bd re oe e = absurd (true≢false (sym bd.0 ∙ (sym (ap begins_with_digit e) ∙ re)))
one_front (x ∷ a) [] rest others ad bd re oe e = absurd (true≢false (sym ad.0 ∙ (ap begins_with_digit e ∙ oe)))
one_front (x ∷ a) (y ∷ b) rest others ad bd re oe e =
    let head : x ≡ y = cc in
    let tail : a ++ rest ≡ b ++ others = cc in
    let same = one_front a b rest others ad.1 bd.1 re oe tail in
    let both : x ∷ a ≡ y ∷ b = let first : a ≡ b = same.0 in cc in
    (both, same.1)

-- a text begins with one number at most
pub one_begin : (g : Geometry) (text : List ℕ) (s t : ℕ) (rest others : List ℕ) → Begins g text s rest
    → Begins g text t others → (s ≡ t) × (rest ≡ others)
one_begin g text s t rest others h k =
    let same = one_front h.front k.front rest others (number_digits g h.front s h.number)
    (number_digits g k.front t k.number) h.ends k.ends (sym h.joined ∙ k.joined) in
    (one_number g h.front s t h.number (subst (λ z. IsNumber g z t) (sym same.0) k.number), same.1)

-- ---- numbers joined by crosses
-- what stands behind the first number: nothing, or a cross and the other numbers
pub record GoesOn (g : Geometry) (rest : List ℕ) (s : ℕ) (squares : List ℕ) : Type 0 where
  pub cross : ℕ
  pub next : List ℕ
  pub others : List ℕ
  pub behind : rest ≡ cross ∷ next
  pub joins : is_cross cross ≡ true
  pub crossed : AreCrossed g next others
  pub all : squares ≡ s ∷ others

pub record CrossedFront (g : Geometry) (text squares : List ℕ) : Type 0 where
  pub first : ℕ
  pub rest : List ℕ
  pub begins : Begins g text first rest
  pub on : ((rest ≡ []) × (squares ≡ first ∷ [])) ⊎ GoesOn g rest first squares

pub crossed_front : (g : Geometry) (text squares : List ℕ) → AreCrossed g text squares → CrossedFront g text squares
crossed_front g text squares (single {s = s} number) = record {
  first = s;
  rest = [];
  begins = record { front = text; joined = sym (append-nil text); number = number; ends = refl };
  on = inl (refl, refl);
}
crossed_front g text squares (more {s = s} {squares = others} front cross next number joins crossed) = record {
  first = s;
  rest = cross ∷ next;
  begins = record { front = front; joined = refl; number = number; ends = cross_is_no_digit cross joins };
  on = inr (record {
    cross = cross;
    next = next;
    others = others;
    behind = refl;
    joins = joins;
    crossed = crossed;
    all =
        refl;
  });
}

-- what follows is known from what stands behind the first number
pub crossed_on : (g : Geometry) (text squares : List ℕ) (s : ℕ) (rest : List ℕ) → AreCrossed g text squares
    → Begins g text s rest → ((rest ≡ []) × (squares ≡ s ∷ [])) ⊎ GoesOn g rest s squares
crossed_on g text squares s rest h k =
    let f = crossed_front g text squares h in
    let same = one_begin g text f.first s f.rest rest f.begins k in
    let P : ℕ → List ℕ → Type 0 = λ t others. ((others ≡ []) × (squares ≡ t ∷ [])) ⊎ GoesOn g others t squares in
    subst (λ t. P t rest) same.0 (subst (P f.first) same.1 f.on)

-- one number alone
pub crossed_single : (g : Geometry) (text : List ℕ) (s : ℕ) (rest : List ℕ) → Begins g text s rest → rest ≡ []
    → AreCrossed g text (s ∷ [])
crossed_single g text s rest h none =
    let all : text ≡ h.front = h.joined ∙ (ap (λ z. h.front ++ z) none ∙ append-nil h.front) in
    subst (λ z. AreCrossed g z (s ∷ [])) (sym all) (single h.number)

-- a number with a cross and others behind it
pub crossed_more : (g : Geometry) (text : List ℕ) (s : ℕ) (rest : List ℕ) (cross : ℕ) (next squares : List ℕ)
    → Begins g text s rest → rest ≡ cross ∷ next → is_cross cross ≡ true → AreCrossed g next squares
    → AreCrossed g text (s ∷ squares)
crossed_more g text s rest cross next squares h is joins others =
    let all : text ≡ h.front ++ cross ∷ next = h.joined ∙ ap (λ z. h.front ++ z) is in
    subst (λ z. AreCrossed g z (s ∷ squares)) (sym all) (more h.front cross next h.number joins others)

-- ---- reading them one by one
-- these squares are read, and the numbers of the rest are the others
pub record Reading (g : Geometry) (text done rest : List ℕ) : Type 0 where
  pub forth : (others : List ℕ) → AreCrossed g rest others → AreCrossed g text (done ++ others)
  pub back : (squares : List ℕ) → AreCrossed g text squares → (others : List ℕ) × (squares ≡ done ++ others)
      × AreCrossed g rest others

pub reading_more : (g : Geometry) (text done rest now : List ℕ) (s : ℕ) (behind : List ℕ) (cross : ℕ) (next : List ℕ)
    → Reading g text done rest → now ≡ done ++ s ∷ [] → Begins g rest s behind → behind ≡ cross ∷ next
    → is_cross cross ≡ true → Reading g text now next
reading_more g text done rest now s behind cross next h now_is k is joins = subst (λ z. Reading g text z next)
    (sym now_is) (record {
      forth = λ others crossed. subst (AreCrossed g text) (sym (append_assoc done (s ∷ []) others))
          (h.forth (s ∷ others) (crossed_more g rest s behind cross next others k is joins crossed));
      back = λ squares crossed.
          let b = h.back squares crossed in
          elim (crossed_on g rest b.0 s behind b.2 k) [
            | inl last ↦ let e : [] ≡ cross ∷ next = sym last.0 ∙ is in absurd cc
            | inr on ↦
                let e : on.cross ∷ on.next ≡ cross ∷ next = sym on.behind ∙ is in
                let same : on.next ≡ next = cc in (
                  on.others,
                  b.1 ∙ (ap (λ z. done ++ z) on.all ∙ sym (append_assoc done (s ∷ []) on.others)),
                  subst (λ z. AreCrossed g z on.others) same on.crossed,
                )
          ];
    })

-- the last number
pub reading_ends : (g : Geometry) (text done rest now : List ℕ) (s : ℕ) (behind : List ℕ) → Reading g text done rest
    → now ≡ done ++ s ∷ [] → Begins g rest s behind → behind ≡ [] → AreCrossed g text now
reading_ends g text done rest now s behind h now_is k none = subst (AreCrossed g text) (sym now_is)
    (h.forth (s ∷ []) (crossed_single g rest s behind k none))

-- no number stands where one must
pub reading_nowhere : (g : Geometry) (text done rest : List ℕ) → Reading g text done rest → BeginsNowhere g rest
    → (squares : List ℕ) → AreCrossed g text squares → ⊥
reading_nowhere g text done rest h none squares crossed =
    let b = h.back squares crossed in
    let f = crossed_front g rest b.0 b.2 in
    none f.first f.rest f.begins

-- another sign stands behind a number
pub reading_breaks : (g : Geometry) (text done rest : List ℕ) (s : ℕ) (behind : List ℕ) (sign : ℕ) (next : List ℕ)
    → Reading g text done rest → Begins g rest s behind → behind ≡ sign ∷ next → is_cross sign ≡ false
    → (squares : List ℕ) → AreCrossed g text squares → ⊥
reading_breaks g text done rest s behind sign next h k is other squares crossed =
    let b = h.back squares crossed in
    elim (crossed_on g rest b.0 s behind b.2 k) [
      | inl last ↦ let e : [] ≡ sign ∷ next = sym last.0 ∙ is in absurd cc
      | inr on ↦
          let e : on.cross ∷ on.next ≡ sign ∷ next = sym on.behind ∙ is in
          let same : on.cross ≡ sign = cc in
          true≢false (sym on.joins ∙ (ap is_cross same ∙ other))
    ]

-- one number too many
pub reading_full : (g : Geometry) (text done rest : List ℕ) → Reading g text done rest → length done ≡ 21
    → (squares : List ℕ) → length squares ≤ 21 → AreCrossed g text squares → ⊥
reading_full g text done rest h full squares short crossed =
    let b = h.back squares crossed in
    let f = crossed_front g rest b.0 b.2 in
    let some : 0 < length b.0 = elim f.on [
      | inl last ↦ omega (arith, ap length last.1)
      | inr on ↦
          omega (arith, ap length on.all)
    ] in
    let long : length squares ≡ length (done ++ b.0) = ap length b.1 in
    omega (arith, length-append done b.0)

-- numbers joined by crosses are so in one way
pub one_crossed : (g : Geometry) (text others a b : List ℕ) → text ≡ others → AreCrossed g text a
    → AreCrossed g others b → a ≡ b
one_crossed g text others a b same (single {s = s} number) k =
    elim (crossed_on g text b s [] (subst (λ z. AreCrossed g z b) (sym same) k)
    (record { front = text; joined = sym (append-nil text); number = number; ends = refl })) [
      | inl last ↦ sym last.1
      | inr on ↦ let e : [] ≡ on.cross ∷ on.next = on.behind in absurd cc
    ]
one_crossed g text others a b same (more {s = s} {squares = squares} front cross next number joins crossed) k =
    elim (crossed_on g text b s (cross ∷ next) (subst (λ z. AreCrossed g z b) (sym same) k)
    (record { front = front; joined = refl; number = number; ends = cross_is_no_digit cross joins })) [
      | inl last ↦ let e : cross ∷ next ≡ [] = last.0 in absurd cc
      | inr on ↦
          let e : cross ∷ next ≡ on.cross ∷ on.next = on.behind in
          let rest : next ≡ on.next = cc in
          ap (λ z. s ∷ z) (one_crossed g next on.next squares on.others rest crossed on.crossed) ∙ sym on.all
    ]

-- ---- two numbers joined by a dash
pub record Dashed (g : Geometry) (text : List ℕ) (from to : ℕ) : Type 0 where
  pub rest : List ℕ
  pub begins : Begins g text from (45 ∷ rest)
  pub number : IsNumber g rest to

pub empty_text : (text : List ℕ) → length text ≡ 0 → text ≡ []
empty_text [] e = refl
empty_text (byte ∷ text) e = absurd (omega arith)

-- what a text that names something is made of
abbrev pub Parts : Geometry → List ℕ → Named → Type 0
Parts g text (QuietMove from to) = Dashed g text from to
Parts g text (Capture squares) = AreCrossed g text squares × (2 ≤ length squares) × (length squares ≤ 21)

pub parts_of : (g : Geometry) (text : List ℕ) (named : Named) → Names g text named → Parts g text named
parts_of g text named (by_dash front back first second) =
    record {
      rest = back;
      begins = record { front = front; joined = refl; number = first; ends = refl };
      number =
          second;
    }
parts_of g text named (by_crosses crossed some few) = (crossed, some, few)

pub dash_names : (g : Geometry) (text : List ℕ) (from to : ℕ) (behind rest : List ℕ) → Begins g text from behind
    → behind ≡ 45 ∷ rest → IsNumber g rest to → Names g text (QuietMove from to)
dash_names g text from to behind rest h is k =
    let all : text ≡ h.front ++ 45 ∷ rest = h.joined ∙ ap (λ z. h.front ++ z) is in
    subst (λ z. Names g z (QuietMove from to)) (sym all) (by_dash h.front rest h.number k)

-- no number stands in front
pub dash_nowhere : (g : Geometry) (text : List ℕ) → BeginsNowhere g text → (from to : ℕ)
    → Names g text (QuietMove from to) → ⊥
dash_nowhere g text none from to h = let d = parts_of g text (QuietMove from to) h in none from (45 ∷ d.rest) d.begins

-- another sign, or none, stands behind it
pub dash_other : (g : Geometry) (text : List ℕ) (s : ℕ) (behind : List ℕ) → Begins g text s behind
    → ((rest : List ℕ) → behind ≡ 45 ∷ rest → ⊥) → (from to : ℕ) → Names g text (QuietMove from to) → ⊥
dash_other g text s behind k other from to h =
    let d = parts_of g text (QuietMove from to) h in
    other d.rest (sym (one_begin g text from s (45 ∷ d.rest) behind d.begins k).1)

-- no number stands behind the dash
pub dash_alone : (g : Geometry) (text : List ℕ) (s : ℕ) (behind rest : List ℕ) → Begins g text s behind
    → behind ≡ 45 ∷ rest → number_named g rest ≡ None → (from to : ℕ) → Names g text (QuietMove from to) → ⊥
dash_alone g text s behind rest k is none from to h =
    let d = parts_of g text (QuietMove from to) h in
    let e : 45 ∷ d.rest ≡ 45 ∷ rest = (one_begin g text from s (45 ∷ d.rest) behind d.begins k).1 ∙ is in
    let same : d.rest ≡ rest = cc in
    absent to (sym none ∙ (ap (number_named g) (sym same) ∙ d.number))

-- a text with a dash behind its first number is not one with a cross there
dash_is_no_cross : (g : Geometry) (text : List ℕ) (from to : ℕ) (squares : List ℕ) → Dashed g text from to
    → AreCrossed g text squares → ⊥
dash_is_no_cross g text from to squares d crossed =
    elim (crossed_on g text squares from (45 ∷ d.rest) crossed d.begins) [
      | inl last ↦ let e : 45 ∷ d.rest ≡ [] = last.0 in cc
      | inr on ↦
          let e : 45 ∷ d.rest ≡ on.cross ∷ on.next = on.behind in
          let same : on.cross ≡ 45 = cc in
          true≢false (sym on.joins ∙ ap is_cross same)
    ]

one_dashed : (g : Geometry) (text : List ℕ) (from to from' to' : ℕ) → Dashed g text from to → Dashed g text from' to'
    → QuietMove from to ≡ QuietMove from' to'
one_dashed g text from to from' to' h k =
    let first = one_begin g text from from' (45 ∷ h.rest) (45 ∷ k.rest) h.begins k.begins in
    let e : 45 ∷ h.rest ≡ 45 ∷ k.rest = first.1 in
    let rest : h.rest ≡ k.rest = cc in
    let begin : from ≡ from' = first.0 in
    let end : to ≡ to' = one_number g h.rest to to' h.number (subst (λ z. IsNumber g z to') (sym rest) k.number) in
    cc

-- a text names one thing at most
pub names_one : (g : Geometry) (text : List ℕ) (named other : Named) → Names g text named → Names g text other
    → named ≡ other
names_one g text named other h k = by_parts named other (parts_of g text named h) (parts_of g text other k) where
  by_parts : (a b : Named) → Parts g text a → Parts g text b → a ≡ b
  by_parts (QuietMove from to) (QuietMove from' to') p q = one_dashed g text from to from' to' p q
  by_parts (QuietMove from to) (Capture squares) p q = absurd (dash_is_no_cross g text from to squares p q.0)
  by_parts (Capture squares) (QuietMove from to) p q = absurd (dash_is_no_cross g text from to squares q p.0)
  by_parts (Capture squares) (Capture others) p q = ap Capture (one_crossed g text text squares others refl p.0 q.0)

-- ---- the squares of a capture
pub capture_parts : (g : Geometry) (text squares : List ℕ) → Names g text (Capture squares) → AreCrossed g text squares
    × (2 ≤ length squares) × (length squares ≤ 21)
capture_parts g text squares h = parts_of g text (Capture squares) h

-- no squares joined by crosses, or too many of them
pub no_capture : (g : Geometry) (text : List ℕ) → ((squares : List ℕ) → length squares ≤ 21 → AreCrossed g text squares
    → ⊥) → (squares : List ℕ) → Names g text (Capture squares) → ⊥
no_capture g text none squares h = let k = capture_parts g text squares h in none squares k.2 k.0

-- too few
pub lone_number : (g : Geometry) (text lone : List ℕ) → AreCrossed g text lone → length lone ≤ 1 → (squares : List ℕ)
    → Names g text (Capture squares) → ⊥
lone_number g text lone crossed few squares h =
    let k = capture_parts g text squares h in
    let same : squares ≡ lone = one_crossed g text text squares lone refl k.0 crossed in
    omega (arith, k.1, ap length same)

-- a text that names no quiet move and no capture names nothing
pub names_nothing : (g : Geometry) (text : List ℕ) → ((from to : ℕ) → Names g text (QuietMove from to) → ⊥)
    → ((squares : List ℕ) → Names g text (Capture squares) → ⊥) → (named : Named) → Names g text named → ⊥
names_nothing g text quiet capture (QuietMove from to) h = quiet from to h
names_nothing g text quiet capture (Capture squares) h = capture squares h
