-- How a text of whole tags is read.
use Rattle.std.proofs.Common.{◌≡◌, ℕ, ◌+◌, ◌<◌, ◌==◌, ◌||◌, inl, inr, List, [], ◌∷◌, ◌++◌, length, Bool, true, false}
use Rattle.std.proofs.Common.{Option, refl, sym, ap, ◌∙◌, subst, arith, append_assoc, append-nil}
use Rattle.std.proofs.lemmas.Bool.{ne_eqb, cases_Bool, or_parts, and_parts, not-true, both_ways}
use Rattle.std.specs.List.{list_all}
use Rattle.dw_board.specs.Geometry.{Geometry}
use Rattle.dw_notation.specs.TextLines.{Found}
use Rattle.dw_notation.specs.inner.TagReading.{TagRead, read_by, tag_from}
use Rattle.dw_board.specs.FenTokens.{is_blank}
use Rattle.dw_notation.specs.inner.Sections.{transition, at, Section, kind_of, after}
use Rattle.dw_notation.specs.Tags.{is_name_byte, ends_line}
use Rattle.dw_notation.specs.inner.Sections.{section_found, found_by, sections_found}
use Rattle.dw_notation.specs.Tags.{Tag, is_plain, Spells, is_space}
use Rattle.dw_notation.specs.Tags.Spells.{nothing, quotation, backslash, lone, plain}
use Rattle.dw_notation.specs.declared.problems.pdn.automaton.State.{State}
use Rattle.dw_notation.specs.declared.problems.pdn.automaton.State.TheVariants.{Between, BeforeName, InName, BehindName}
use Rattle.dw_notation.specs.declared.problems.pdn.automaton.State.TheVariants.{InValue, BehindValue}
use Rattle.dw_notation.specs.declared.problems.pdn.automaton.Action.{Action}
use Rattle.dw_notation.specs.declared.problems.pdn.automaton.Action.TheVariants.{Count, AddName, OpenValue, AddValue}
use Rattle.dw_notation.specs.declared.problems.pdn.automaton.Action.TheVariants.{AddBoth}

-- ---- bytes of one kind are none of another
differs : (p : ℕ → Bool) (byte other : ℕ) → p byte ≡ true → p other ≡ false → (byte == other) ≡ false
differs p byte other is is_not = ne_eqb byte other (λ e. let bad : true ≡ false = sym is ∙ ap p e ∙ is_not in cc)

pub name_not_blank : (byte : ℕ) → is_name_byte byte ≡ true → is_blank byte ≡ false
name_not_blank byte h =
    let space = differs is_name_byte byte 32 h refl in
    let tab = differs is_name_byte byte 9 h refl in
    rw (space, tab) refl

blank_not_name : (byte : ℕ) → is_blank byte ≡ true → is_name_byte byte ≡ false
blank_not_name byte h = elim (cases_Bool (is_name_byte byte))
    [ inl is ↦ absurd (both_ways (is_blank byte) (name_not_blank byte is) h) | inr is_not ↦ is_not ]

-- ---- reading a text leads from one place to another, by bytes that do what is allowed
pub data Path (Allowed : Action → Type 0) : State → Section → List ℕ → State → Section → Type 0 where
  here : {state : State} {s : Section} → Path Allowed state s [] state s
  step : {state next last : State} {s t : Section} {text : List ℕ} (byte : ℕ) (action : Action)
      → transition state byte ≡ at next action → Allowed action → Path Allowed next (after action s) text last t
      → Path Allowed state s (byte ∷ text) last t

pub join_reads : {Allowed : Action → Type 0} {state mid next : State} {s t u : Section} {text other : List ℕ}
    → Path Allowed state s text mid t → Path Allowed mid t other next u → Path Allowed state s (text ++ other) next u
join_reads here two = two
join_reads (step byte action e allowed one) two = step byte action e allowed (join_reads one two)

-- nothing is found
abbrev pub IsSilent : Action → Type 0
IsSilent action = (f : Found) → found_by action f ≡ []

abbrev pub Reads : State → Section → List ℕ → State → Section → Type 0
Reads = Path IsSilent

pub reads_found : (at_end : Bool) (g : Geometry) (more : List ℕ) {state next : State} {s t : Section} {text : List ℕ}
    → Reads state s text next t
    → sections_found at_end g state s (text ++ more) ≡ sections_found at_end g next t more
reads_found at_end g more here = refl
reads_found at_end g more (step {state} {next} {s} {text} byte action e silent rest) =
    ap (λ x. found_by x.action (section_found g s) ++ sections_found at_end g x.state (after x.action s) (text ++ more))
    e ∙ ap (λ l. l ++ sections_found at_end g next (after action s) (text ++ more)) (silent (section_found g s))
    ∙ reads_found at_end g more rest

-- nor does a tag end
pub record IsInside (action : Action) : Type 0 where
  pub silent : IsSilent action
  pub goes : (s : Section) (bytes : List ℕ) (further : Section → Option TagRead)
      → read_by action s bytes further ≡ further (after action s)

abbrev pub Inside : State → Section → List ℕ → State → Section → Type 0
Inside = Path IsInside

pub outside : {state next : State} {s t : Section} {text : List ℕ} → Inside state s text next t
    → Reads state s text next t
outside here = here
outside (step byte action e inside rest) = step byte action e inside.silent (outside rest)

pub inside_read : (more : List ℕ) {state next : State} {s t : Section} {text : List ℕ} → Inside state s text next t
    → tag_from state s (text ++ more) ≡ tag_from next t more
inside_read more here = refl
inside_read more (step {state} {next} {s} {text} byte action e inside rest) =
    ap (λ x. read_by x.action s (text ++ more) (λ u. tag_from x.state u (text ++ more))) e
    ∙ inside.goes s (text ++ more) (λ u. tag_from next u (text ++ more)) ∙ inside_read more rest

pub counts : IsInside Count
counts = record { silent = λ f. refl; goes = λ s bytes further. refl }

pub names : (byte : ℕ) → IsInside (AddName byte)
names byte = record { silent = λ f. refl; goes = λ s bytes further. refl }

pub opens_value : IsInside OpenValue
opens_value = record { silent = λ f. refl; goes = λ s bytes further. refl }

pub values : (byte : ℕ) → IsInside (AddValue byte)
values byte = record { silent = λ f. refl; goes = λ s bytes further. refl }

pub values_both : (byte : ℕ) → IsInside (AddBoth byte)
values_both byte = record { silent = λ f. refl; goes = λ s bytes further. refl }

-- bytes of one kind that are counted
pub run_reads : (p : ℕ → Bool) (state : State) → ((byte : ℕ) → p byte ≡ true → transition state byte ≡ at state Count)
    → (text : List ℕ) → list_all p text ≡ true → (s : Section) (n : ℕ) → n ≡ s.read + length text
    → Inside state s text state (record s { read = n })
run_reads p state counted [] all s n e =
    let same : s.read ≡ n = omega arith in
    subst (λ m. Inside state s [] state (record s { read = m })) same here
run_reads p state counted (byte ∷ text) all s n e =
    let both = and_parts (p byte) (list_all p text) all in
    step byte Count (counted byte both.0) counts
    (run_reads p state counted text both.1 (record s { read = s.read + 1 }) n (omega arith))

before_name : (byte : ℕ) → is_blank byte ≡ true → transition BeforeName byte ≡ at BeforeName Count
before_name byte h = rw h refl

behind_name : (byte : ℕ) → is_blank byte ≡ true → transition BehindName byte ≡ at BehindName Count
behind_name byte h = rw h refl

behind_value : (byte : ℕ) → is_blank byte ≡ true → transition BehindValue byte ≡ at BehindValue Count
behind_value byte h = rw h refl

pub between : (byte : ℕ) → is_space byte ≡ true → transition Between byte ≡ at Between Count
between byte h = rw (differs is_space byte 91 h refl, h) refl

-- ---- a name
name_reads : (text : List ℕ) → list_all is_name_byte text ≡ true → (s : Section) (n : ℕ) (name : List ℕ)
    → n ≡ s.read + length text → name ≡ s.name ++ text
    → Inside InName s text InName (record s { read = n; name = name })
name_reads [] all s n name e f =
    let same : s.read ≡ n = omega arith in
    subst (λ m. Inside InName s [] InName (record s { read = m; name = name })) same
    (subst (λ l. Inside InName s [] InName (record s { name = l })) (sym (f ∙ append-nil s.name)) here)
name_reads (byte ∷ text) all s n name e f =
    let both = and_parts (is_name_byte byte) (list_all is_name_byte text) all in
    step byte (AddName byte) (rw both.0 refl) (names byte)
    (name_reads text both.1 (record s { read = s.read + 1; name = s.name ++ byte ∷ [] }) n name (omega arith)
    (f ∙ sym (append_assoc s.name (byte ∷ []) text)))

-- a whole name
whole_name_reads : (text : List ℕ) → 0 < length text → list_all is_name_byte text ≡ true → (s : Section) (n : ℕ)
    → s.name ≡ [] → n ≡ s.read + length text
    → Inside BeforeName s text InName (record s { read = n; name = text })
whole_name_reads [] some all s n bare_name e = absurd (omega arith)
whole_name_reads (byte ∷ text) some all s n bare_name e =
    let both = and_parts (is_name_byte byte) (list_all is_name_byte text) all in
    step byte (AddName byte) (rw (name_not_blank byte both.0, both.0) refl) (names byte)
    (name_reads text both.1 (record s { read = s.read + 1; name = s.name ++ byte ∷ [] }) n (byte ∷ text) (omega arith)
    (ap (λ l. (l ++ byte ∷ []) ++ text) (sym bare_name)))

-- ---- the mark behind it, with blanks before it
quote_reads : (text : List ℕ) → list_all is_blank text ≡ true → (s : Section) (n : ℕ) → n ≡ s.read + length text + 1
    → Inside InName s (text ++ 34 ∷ []) InValue (record s { read = n; kind = kind_of s.name; value = [] })
quote_reads [] all s n e =
    let same : s.read + 1 ≡ n = omega arith in
    subst (λ m. Inside InName s (34 ∷ []) InValue (record s { read = m; kind = kind_of s.name; value = [] })) same
    (step 34 OpenValue refl opens_value here)
quote_reads (byte ∷ text) all s n e =
    let both = and_parts (is_blank byte) (list_all is_blank text) all in
    let m = s.read + 1 + length text in
    let last : m + 1 ≡ n = omega arith in
    step byte Count (rw (blank_not_name byte both.0, both.0) refl) counts
    (join_reads (run_reads is_blank BehindName behind_name text both.1 (record s { read = s.read + 1 }) m refl)
    (subst (λ k. Inside BehindName (record s { read = m }) (34 ∷ []) InValue
    (record s { read = k; kind = kind_of s.name; value = [] })) last (step 34 OpenValue refl opens_value here)))

-- ---- a value
plain_parts : (byte : ℕ) → is_plain byte ≡ true → ((byte == 34) ≡ false) × ((byte == 92) ≡ false)
    × (ends_line byte ≡ false)
plain_parts byte h =
    let one = or_parts (byte == 34) ((byte == 92) || ends_line byte) (not-true _ h) in
    let two = or_parts (byte == 92) (ends_line byte) one.1 in
    (one.0, two.0, two.1)

value_reads : {text value : List ℕ} → Spells text value → (s : Section) (n : ℕ) (all : List ℕ)
    → n ≡ s.read + length text → all ≡ s.value ++ value
    → Inside InValue s text InValue (record s { read = n; value = all })
value_reads nothing s n all e f =
    let same : s.read ≡ n = omega arith in
    subst (λ m. Inside InValue s [] InValue (record s { read = m; value = all })) same
    (subst (λ l. Inside InValue s [] InValue (record s { value = l })) (sym (f ∙ append-nil s.value)) here)
value_reads (quotation {text} {value} spells) s n all e f =
    step 92 Count refl counts (step 34 (AddValue 34) refl (values 34)
    (value_reads spells (record s { read = s.read + 1 + 1; value = s.value ++ 34 ∷ [] }) n all (omega arith)
    (f ∙ sym (append_assoc s.value (34 ∷ []) value))))
value_reads (backslash {text} {value} spells) s n all e f =
    step 92 Count refl counts (step 92 (AddValue 92) refl (values 92)
    (value_reads spells (record s { read = s.read + 1 + 1; value = s.value ++ 92 ∷ [] }) n all (omega arith)
    (f ∙ sym (append_assoc s.value (92 ∷ []) value))))
value_reads (lone {text} {value} byte is_plain_byte spells) s n all e f =
    let parts = plain_parts byte is_plain_byte in
    step 92 Count refl counts (step byte (AddBoth byte) (rw (parts.0, parts.1, parts.2) refl) (values_both byte)
    (value_reads spells (record s { read = s.read + 1 + 1; value = (s.value ++ 92 ∷ []) ++ byte ∷ [] }) n all
    (omega arith)
    (f ∙ sym (append_assoc s.value (92 ∷ []) (byte ∷ value))
    ∙ sym (append_assoc (s.value ++ 92 ∷ []) (byte ∷ []) value))))
value_reads (plain {text} {value} byte is_plain_byte spells) s n all e f =
    let parts = plain_parts byte is_plain_byte in
    step byte (AddValue byte) (rw (parts.0, parts.1, parts.2) refl) (values byte)
    (value_reads spells (record s { read = s.read + 1; value = s.value ++ byte ∷ [] }) n all (omega arith)
    (f ∙ sym (append_assoc s.value (byte ∷ []) value)))

-- ---- a tag, between its brackets
pub tag_reads : (s : Section) (tag : Tag) (first middle last spelling : List ℕ) (n : ℕ) → s.name ≡ []
    → list_all is_blank first ≡ true → list_all is_blank middle ≡ true → list_all is_blank last ≡ true
    → 0 < length tag.name → list_all is_name_byte tag.name ≡ true → Spells spelling tag.value
    → n ≡ s.read + length first + length tag.name + length middle + length spelling + length last + 2
    → Inside BeforeName s (first ++ (tag.name ++ (middle ++ 34 ∷ (spelling ++ 34 ∷ last)))) BehindValue
    (record s { read = n; name = tag.name; kind = kind_of tag.name; value = tag.value })
tag_reads s tag first middle last spelling n bare_name blank_first blank_middle blank_last some named spells e =
    let r1 = s.read + length first in
    let r2 = r1 + length tag.name in
    let r3 = r2 + length middle + 1 in
    let r4 = r3 + length spelling in
    let s1 : Section = record s { read = r1 } in
    let s2 : Section = record s { read = r2; name = tag.name } in
    let s3 : Section = record s { read = r3; name = tag.name; kind = kind_of tag.name; value = [] } in
    let s4 : Section = record s { read = r4; name = tag.name; kind = kind_of tag.name; value = tag.value } in
    let s5 : Section = record s4 { read = r4 + 1 } in
    let end : Section = record s4 { read = n } in
    let value_text = spelling ++ 34 ∷ last in
    let value_part : Inside InValue s3 value_text BehindValue end =
    join_reads (value_reads spells s3 r4 tag.value refl refl)
    (step 34 Count refl counts (run_reads is_blank BehindValue behind_value last blank_last s5 n (omega (arith, e)))) in
    let name_part : Inside InName s2 (middle ++ 34 ∷ value_text) BehindValue end =
    subst (λ t. Inside InName s2 t BehindValue end) (append_assoc middle (34 ∷ []) value_text)
    (join_reads (quote_reads middle blank_middle s2 r3 refl) value_part) in
    join_reads (run_reads is_blank BeforeName before_name first blank_first s r1 refl)
    (join_reads (whole_name_reads tag.name some named s1 r2 bare_name refl) name_part)

-- bytes behind its last blanks
pub tag_body : (first name middle spelling last more : List ℕ)
    → (first ++ (name ++ (middle ++ 34 ∷ (spelling ++ 34 ∷ last)))) ++ more
    ≡ first ++ (name ++ (middle ++ 34 ∷ (spelling ++ 34 ∷ (last ++ more))))
tag_body first name middle spelling last more = simp append_assoc refl
