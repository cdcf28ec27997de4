-- Each text has its games, and no others.
use Rattle.std.proofs.Common.{◌≡◌, ◌==◌, ◌||◌, ◌⊎◌, ℕ, List, [], ◌∷◌, ◌++◌, drop, true, false, not, refl, sym, ap, ◌∙◌}
use Rattle.std.proofs.Common.{subst, arith, inl, inr, append-nil, append_assoc}
use Rattle.std.proofs.lemmas.Bool.{and_parts}
use Rattle.std.specs.List.{list_all}
use Rattle.dw_board.specs.Geometry.{Geometry}
use Rattle.dw_notation.specs.TextLines.{Found, without_mark}
use Rattle.dw_notation.specs.WholeTexts.{IsOpen, SectionsSay}
use Rattle.dw_notation.specs.WholeTexts.SectionsSay.{last_section}
use Rattle.dw_notation.specs.TagLaws.{TextsOfTagsSay}
use Rattle.dw_games.specs.Games.{Said, said_with, HasGames, games_from}
use Rattle.dw_games.specs.Games.HasGames.{nothing as no_games, other as no_section, comment as no_comment}
use Rattle.dw_games.specs.Games.HasGames.{last_comment as open_comment, section as with_section}
use Rattle.dw_games.specs.Games.HasGames.{last_section as with_last}
use Rattle.dw_games.specs.GameLaws.{TextsHaveGames}
use Rattle.dw_games.specs.inner.Keeping.{spaces_on, row_of}
use Rattle.dw_games.specs.inner.Playing.{unclosed}
use Rattle.dw_games.specs.inner.Sectioning.{IsCut, IsLast}
use Rattle.dw_games.proofs.SectionLemmas.{first, IsSection-begins, ended_says, said_gap, empty_games}
use Rattle.dw_games.proofs.GameLemmas.{games_some}

-- ---- one text, cut in two ways
record Same (a b : List ℕ) (x y : ℕ) (more rest : List ℕ) : Type 0 where
  pub front : a ≡ b
  pub byte : x ≡ y
  pub behind : more ≡ rest

compare : (a b : List ℕ) (x y : ℕ) (more rest : List ℕ) → a ++ x ∷ more ≡ b ++ y ∷ rest
    → Same a b x y more rest ⊎ (((c : List ℕ) × (b ≡ a ++ x ∷ c)) ⊎ ((c : List ℕ) × (a ≡ b ++ y ∷ c)))
compare [] [] x y more rest e = inl (record { front = refl; byte = ap first e; behind = ap (drop 1) e })
compare [] (q ∷ b) x y more rest e = inr (inl (b, ap (λ z. z ∷ b) (sym (ap first e))))
compare (p ∷ a) [] x y more rest e = inr (inr (a, ap (λ z. z ∷ a) (ap first e)))
compare (p ∷ a) (q ∷ b) x y more rest e =
    let head : p ≡ q = ap first e in
    elim (compare a b x y more rest (ap (drop 1) e)) [
      | inl same ↦ inl (record {
        front = ap (λ z. z ∷ a) head ∙ ap (λ l. q ∷ l) same.front;
        byte = same.byte;
        behind = same.behind;
      })
      | inr (inl longer) ↦ inr (inl (longer.0, ap (λ l. q ∷ l) longer.1 ∙ ap (λ z. z ∷ (a ++ x ∷ longer.0)) (sym head)))
      | inr (inr longer) ↦ inr (inr (longer.0, ap (λ l. p ∷ l) longer.1 ∙ ap (λ z. z ∷ (b ++ y ∷ longer.0)) head))
    ]

no_true : true ≡ false → ⊥
no_true h = cc

no_cons : (byte : ℕ) (text : List ℕ) → byte ∷ text ≡ [] → ⊥
no_cons byte text e = cc

-- ---- the brace that closes a comment is none of its bytes
open_no : (a rest : List ℕ) → IsOpen (a ++ 125 ∷ rest) → ⊥
open_no [] rest is = let bad : false ≡ true = is in no_true (sym bad)
open_no (byte ∷ a) rest is =
    open_no a rest (and_parts (not (byte == 125)) (list_all (λ byte. not (byte == 125)) (a ++ 125 ∷ rest)) is).1

closed_once : (a b more rest : List ℕ) → IsOpen a → IsOpen b → a ++ 125 ∷ more ≡ b ++ 125 ∷ rest
    → (a ≡ b) × (more ≡ rest)
closed_once a b more rest is other e = elim (compare a b 125 125 more rest e) [
  | inl same ↦ (same.front, same.behind)
  | inr (inl longer) ↦ absurd (open_no a longer.0 (subst IsOpen longer.1 other))
  | inr (inr longer) ↦ absurd (open_no b longer.0 (subst IsOpen longer.1 is))
]

-- a text that begins with another byte than a bracket has no section there
not_bracket : (text : List ℕ) (byte : ℕ) (more behind rest : List ℕ) → text ≡ 91 ∷ rest → text ++ behind ≡ byte ∷ more
    → byte ≡ 91
not_bracket text byte more behind rest begins e = sym (ap first (ap (λ l. l ++ behind) (sym begins) ∙ e))

neither_bracket : (byte : ℕ) → ((byte == 91) || (byte == 123)) ≡ false → byte ≡ 91 → ⊥
neither_bracket byte none bracket = let bad : true ≡ false = rw bracket at none in no_true bad

neither_brace : (byte : ℕ) → ((byte == 91) || (byte == 123)) ≡ false → byte ≡ 123 → ⊥
neither_brace byte none brace = let bad : true ≡ false = rw brace at none in no_true bad

brace_bracket : ◌≡◌ {A = ℕ} 123 91 → ⊥
brace_bracket e = omega (arith, e)

-- ---- a text that begins with another byte
at_other : (g : Geometry) (byte : ℕ) (more : List ℕ) → ((byte == 91) || (byte == 123)) ≡ false
    → {text front : List ℕ} {games : List Said} → HasGames g text front games → text ≡ byte ∷ more
    → (behind : List ℕ) × HasGames g more behind games × (front ≡ byte ∷ behind)
at_other g byte more none no_games e = absurd (no_cons byte more (sym e))
at_other g byte more none (no_section {more = m} {front} {games} b neither has) e =
    (front, subst (λ l. HasGames g l front games) (ap (drop 1) e) has, ap (λ z. z ∷ front) (ap first e))
at_other g byte more none (no_comment text is has) e = absurd (neither_brace byte none (sym (ap first e)))
at_other g byte more none (open_comment text is) e = absurd (neither_brace byte none (sym (ap first e)))
at_other g byte more none (with_section {more = m} text gap b found is spaces ends says has) e =
    let begins = IsSection-begins is in
    absurd (neither_bracket byte none (not_bracket text byte more (gap ++ b ∷ m) begins.0 begins.1 e))
at_other g byte more none (with_last text gap found is spaces says) e =
    let begins = IsSection-begins is in
    absurd (neither_bracket byte none (not_bracket text byte more gap begins.0 begins.1 e))

-- ---- a text that begins with a comment
at_comment : (g : Geometry) (inside more : List ℕ) → IsOpen inside → {text front : List ℕ} {games : List Said}
    → HasGames g text front games → text ≡ 123 ∷ (inside ++ 125 ∷ more)
    → (behind : List ℕ) × HasGames g more behind games × (front ≡ 123 ∷ (inside ++ 125 ∷ behind))
at_comment g inside more none no_games e = absurd (no_cons 123 (inside ++ 125 ∷ more) (sym e))
at_comment g inside more none (no_section b neither has) e = absurd (neither_brace b neither (ap first e))
at_comment g inside more none (no_comment {more = m} {front} {games} text is has) e =
    let same = closed_once text inside m more is none (ap (drop 1) e) in
    (front, subst (λ l. HasGames g l front games) same.1 has, ap (λ l. 123 ∷ (l ++ 125 ∷ front)) same.0)
at_comment g inside more none (open_comment text is) e =
    absurd (open_no inside more (subst IsOpen (ap (drop 1) e) is))
at_comment g inside more none (with_section {more = m} text gap b found is spaces ends says has) e =
    let begins = IsSection-begins is in
    absurd (brace_bracket (not_bracket text 123 (inside ++ 125 ∷ more) (gap ++ b ∷ m) begins.0 begins.1 e))
at_comment g inside more none (with_last text gap found is spaces says) e =
    let begins = IsSection-begins is in
    absurd (brace_bracket (not_bracket text 123 (inside ++ 125 ∷ more) gap begins.0 begins.1 e))

at_open : (g : Geometry) (inside : List ℕ) → IsOpen inside → {text front : List ℕ} {games : List Said}
    → HasGames g text front games → text ≡ 123 ∷ inside → (front ≡ 123 ∷ inside) × (games ≡ unclosed ∷ [])
at_open g inside none no_games e = absurd (no_cons 123 inside (sym e))
at_open g inside none (no_section b neither has) e = absurd (neither_brace b neither (ap first e))
at_open g inside none (no_comment {more = m} text is has) e =
    absurd (open_no text m (subst IsOpen (sym (ap (drop 1) e)) none))
at_open g inside none (open_comment text is) e = (ap (λ l. 123 ∷ l) (ap (drop 1) e), refl)
at_open g inside none (with_section {more = m} text gap b found is spaces ends says has) e =
    let begins = IsSection-begins is in
    absurd (brace_bracket (not_bracket text 123 inside (gap ++ b ∷ m) begins.0 begins.1 e))
at_open g inside none (with_last text gap found is spaces says) e =
    let begins = IsSection-begins is in
    absurd (brace_bracket (not_bracket text 123 inside gap begins.0 begins.1 e))

-- ---- a text that begins with a section
cut_begins : (g : Geometry) (a : List ℕ) (byte : ℕ) (found : Found) → IsCut g a byte found → (behind : List ℕ)
    → (rest : List ℕ) × (a ++ behind ≡ 91 ∷ rest)
cut_begins g a byte found c behind =
    let begins = IsSection-begins c.is in
    ((begins.0 ++ c.gap) ++ behind, ap (λ l. l ++ behind) (c.joined ∙ ap (λ l. l ++ c.gap) begins.1))

last_begins : (g : Geometry) (a : List ℕ) (found : Found) → IsLast g a found → (rest : List ℕ) × (a ≡ 91 ∷ rest)
last_begins g a found c =
    let begins = IsSection-begins c.is in (begins.0 ++ c.gap, c.joined ∙ ap (λ l. l ++ c.gap) begins.1)

module _ (law : TextsOfTagsSay) where
  not_ended : (g : Geometry) (a : List ℕ) (found : Found) → IsLast g a found → SectionsSay g false a []
  not_ended g a found c = subst (λ l. SectionsSay g false l []) (sym c.joined)
      (last_section c.text c.gap found c.is c.spaces c.says)

  as_last : (g : Geometry) (a : List ℕ) (byte : ℕ) (found : Found) → IsCut g a byte found → IsLast g a found
  as_last g a byte found c = record {
    tags = c.tags;
    some = c.some;
    last = c.last;
    text = c.text;
    gap = c.gap;
    is = c.is;
    spaces = inl c.spaces;
    says = c.says;
    joined = c.joined;
  }

  -- it goes on no longer
  cut_ends : (g : Geometry) (a b : List ℕ) (byte : ℕ) (more : List ℕ) (found other : Found) → IsCut g a byte found
      → IsLast g b other → b ≡ a ++ byte ∷ more → ⊥
  cut_ends g a b byte more found other c d e =
      ended_says law g c.tags c.some c.last b c.text c.gap more byte found c.is c.spaces c.ends c.says
      (sym (append_assoc c.text c.gap (byte ∷ more)) ∙ ap (λ l. l ++ byte ∷ more) (sym c.joined) ∙ sym e)
      (not_ended g b other d)

  last_says : (g : Geometry) (a : List ℕ) (found : Found) → IsLast g a found → SectionsSay g true a (found ∷ [])
  last_says g a found c = subst (λ l. SectionsSay g true l (found ∷ [])) (sym c.joined)
      (last_section c.text c.gap found c.is c.spaces c.says)

  one_found : (g : Geometry) (a : List ℕ) (found other : Found) → IsLast g a found → IsLast g a other → found ≡ other
  one_found g a found other c d =
      let same = law.only g true a (found ∷ []) (other ∷ []) (last_says g a found c) (last_says g a other d) in cc

  same_cut : (g : Geometry) (a b : List ℕ) (x y : ℕ) (more rest : List ℕ) (found other : Found) → IsCut g a x found
      → IsCut g b y other → a ++ x ∷ more ≡ b ++ y ∷ rest → Same a b x y more rest
  same_cut g a b x y more rest found other c d e = elim (compare a b x y more rest e) [
    | inl same ↦ same
    | inr (inl longer) ↦ absurd (cut_ends g a b x longer.0 found other c (as_last g b y other d) longer.1)
    | inr (inr longer) ↦ absurd (cut_ends g b a y longer.0 other found d (as_last g a x found c) longer.1)
  ]

  at_cut : (g : Geometry) (a : List ℕ) (x : ℕ) (more : List ℕ) (found : Found) → IsCut g a x found
      → {text front : List ℕ} {games : List Said} → HasGames g text front games → text ≡ a ++ x ∷ more
      → (behind : List ℕ) × (later : List Said) × HasGames g (x ∷ more) behind later × (front ≡ [])
      × (games ≡ said_with found (row_of a) (spaces_on [] a ++ behind) ∷ later)
  at_cut g a x more found c no_games e =
      let begins = cut_begins g a x found c (x ∷ more) in absurd (no_cons 91 begins.0 (sym begins.1 ∙ sym e))
  at_cut g a x more found c (no_section b neither has) e =
      let begins = cut_begins g a x found c (x ∷ more) in
      absurd (neither_bracket b neither (ap first (e ∙ begins.1)))
  at_cut g a x more found c (no_comment text is has) e =
      let begins = cut_begins g a x found c (x ∷ more) in absurd (brace_bracket (ap first (e ∙ begins.1)))
  at_cut g a x more found c (open_comment text is) e =
      let begins = cut_begins g a x found c (x ∷ more) in absurd (brace_bracket (ap first (e ∙ begins.1)))
  at_cut g a x more found c (with_section {tags} {some} {last} {more = m} {front} {games} text gap b other is spaces
      ends says has) e =
      let d : IsCut g (text ++ gap) b other = record {
        tags = tags;
        some = some;
        last = last;
        text = text;
        gap = gap;
        is = is;
        spaces = spaces;
        ends = ends;
        says = says;
        joined = refl;
      } in
      let same = same_cut g (text ++ gap) a b x m more other found d c (append_assoc text gap (b ∷ m) ∙ e) in
      let found_same = one_found g a other found
      (subst (λ l. IsLast g l other) same.front (as_last g (text ++ gap) b other d)) (as_last g a x found c) in (
        front,
        games,
        subst (λ z. HasGames g (z ∷ more) front games) same.byte
            (subst (λ l. HasGames g (b ∷ l) front games) same.behind has),
        refl,
        ap (λ z. z ∷ games) (said_gap g text gap front tags some last other is (inl spaces) says
            ∙ ap (λ l. said_with other (row_of l) (spaces_on [] l ++ front)) same.front
            ∙ ap (λ f. said_with f (row_of a) (spaces_on [] a ++ front)) found_same),
      )
  at_cut g a x more found c (with_last {tags} {some} {last} text gap other is spaces says) e =
      let d : IsLast g (text ++ gap) other = record {
        tags = tags;
        some = some;
        last = last;
        text = text;
        gap = gap;
        is = is;
        spaces = spaces;
        says = says;
        joined = refl;
      } in
      absurd (cut_ends g a (text ++ gap) x more found other c d e)

  at_last : (g : Geometry) (a : List ℕ) (found : Found) → IsLast g a found → {text front : List ℕ} {games : List Said}
      → HasGames g text front games → text ≡ a
      → (front ≡ []) × (games ≡ said_with found (row_of a) (spaces_on [] a ++ []) ∷ [])
  at_last g a found c no_games e =
      let begins = last_begins g a found c in absurd (no_cons 91 begins.0 (sym begins.1 ∙ sym e))
  at_last g a found c (no_section b neither has) e =
      let begins = last_begins g a found c in absurd (neither_bracket b neither (ap first (e ∙ begins.1)))
  at_last g a found c (no_comment text is has) e =
      let begins = last_begins g a found c in absurd (brace_bracket (ap first (e ∙ begins.1)))
  at_last g a found c (open_comment text is) e =
      let begins = last_begins g a found c in absurd (brace_bracket (ap first (e ∙ begins.1)))
  at_last g a found c (with_section {tags} {some} {last} {more = m} text gap b other is spaces ends says has) e =
      let d : IsCut g (text ++ gap) b other = record {
        tags = tags;
        some = some;
        last = last;
        text = text;
        gap = gap;
        is = is;
        spaces = spaces;
        ends = ends;
        says = says;
        joined = refl;
      } in
      absurd (cut_ends g (text ++ gap) a b m other found d c (sym e ∙ sym (append_assoc text gap (b ∷ m))))
  at_last g a found c (with_last {tags} {some} {last} text gap other is spaces says) e =
      let d : IsLast g a other = record {
        tags = tags;
        some = some;
        last = last;
        text = text;
        gap = gap;
        is = is;
        spaces = spaces;
        says = says;
        joined = sym e;
      } in (
        refl,
        ap (λ z. z ∷ []) (ap (said_with other text) (sym (append-nil gap))
            ∙ said_gap g text gap [] tags some last other is spaces says
            ∙ ap (λ l. said_with other (row_of l) (spaces_on [] l ++ [])) e
            ∙ ap (λ f. said_with f (row_of a) (spaces_on [] a ++ [])) (one_found g a other found d c)),
      )

  -- ---- one row of games
  pub one_row : (g : Geometry) {text front text2 front2 : List ℕ} {games games2 : List Said}
      → HasGames g text front games → HasGames g text2 front2 games2 → text2 ≡ text
      → (front2 ≡ front) × (games2 ≡ games)
  one_row g no_games second e = empty_games g second e
  one_row g (no_section {more} b neither has) second e =
      let r = at_other g b more neither second e in
      let same = one_row g has r.1 refl in (r.2 ∙ ap (λ l. b ∷ l) same.0, same.1)
  one_row g (no_comment {more} text is has) second e =
      let r = at_comment g text more is second e in
      let same = one_row g has r.1 refl in (r.2 ∙ ap (λ l. 123 ∷ (text ++ 125 ∷ l)) same.0, same.1)
  one_row g (open_comment text is) second e = at_open g text is second e
  one_row g (with_section {tags} {some} {last} {more} {front} {games} text gap b found is spaces ends says has) second e
      =
      let c : IsCut g (text ++ gap) b found = record {
        tags = tags;
        some = some;
        last = last;
        text = text;
        gap = gap;
        is = is;
        spaces = spaces;
        ends = ends;
        says = says;
        joined = refl;
      } in
      let r = at_cut g (text ++ gap) b more found c second (e ∙ sym (append_assoc text gap (b ∷ more))) in
      let same = one_row g has r.2 refl in (
        r.3,
        r.4 ∙ ap (λ l. said_with found (row_of (text ++ gap)) (spaces_on [] (text ++ gap) ++ l) ∷ r.1) same.0
            ∙ ap (λ l. said_with found (row_of (text ++ gap)) (spaces_on [] (text ++ gap) ++ front) ∷ l) same.1
            ∙ ap (λ z. z ∷ games) (sym (said_gap g text gap front tags some last found is (inl spaces) says)),
      )
  one_row g (with_last {tags} {some} {last} text gap found is spaces says) second e =
      let c : IsLast g (text ++ gap) found = record {
        tags = tags;
        some = some;
        last = last;
        text = text;
        gap = gap;
        is = is;
        spaces = spaces;
        says = says;
        joined = refl;
      } in
      let r = at_last g (text ++ gap) found c second e in (
        r.0,
        r.1 ∙ ap (λ z. z ∷ []) (sym (ap (said_with found text) (sym (append-nil gap))
            ∙ said_gap g text gap [] tags some last found is spaces says)),
      )

  pub texts_have_games : TextsHaveGames
  texts_have_games = record {
    some = λ g bytes.
        let r = games_some law g (without_mark bytes) in
        (games_from 0 r.1, record { front = r.0; said = r.1; has = r.2; numbers = refl });
    only = λ g bytes games others p q.
        p.numbers ∙ ap (games_from 0) (one_row g q.has p.has refl).1 ∙ sym q.numbers;
  }
