-- How the line of an unclosed tag is read.
use Rattle.std.proofs.Common.{◌≡◌, ℕ, ◌+◌, ◌<◌, ◌==◌, ◌⊎◌, inl, inr, List, [], ◌∷◌, ◌++◌, length, Bool, true, false}
use Rattle.std.proofs.Common.{not, Option, Some, refl, sym, ap, ◌∙◌, subst, arith, append_assoc, append-nil}
use Rattle.std.proofs.Common.{length-append}
use Rattle.std.proofs.lemmas.Bool.{cases_Bool, and_parts, and_from, or_cases, not-true, eqb-true}
use Rattle.std.proofs.lemmas.List.Folds.{list_all-append}
use Rattle.std.specs.List.{list_all}
use Rattle.dw_board.specs.FenTokens.{is_blank}
use Rattle.dw_notation.specs.TextLines.{Found}
use Rattle.dw_notation.specs.inner.Sections.{transition, at, Section, after}
use Rattle.dw_notation.specs.Tags.{is_name_byte, ends_line}
use Rattle.dw_notation.specs.inner.Sections.{found_at_end}
use Rattle.dw_notation.specs.Tags.{Tag, Spells, IsTag, IsUnclosed}
use Rattle.dw_notation.specs.Tags.Spells.{nothing, quotation, backslash, lone, plain}
use Rattle.dw_notation.specs.inner.TagReading.{TagRead, read_by}
use Rattle.dw_notation.proofs.TagReadingLemmas.{IsSilent, Reads}
use Rattle.dw_notation.proofs.TagReadingLemmas.Path.{here, step}
use Rattle.dw_notation.specs.declared.problems.pdn.automaton.State.{State}
use Rattle.dw_notation.specs.declared.problems.pdn.automaton.State.TheVariants.{Between, BeforeName, InName, BehindName}
use Rattle.dw_notation.specs.declared.problems.pdn.automaton.State.TheVariants.{InValue, Escaped, BehindValue, Rest}
use Rattle.dw_notation.specs.declared.problems.pdn.automaton.Action.{Action}
use Rattle.dw_notation.specs.declared.problems.pdn.automaton.Action.TheVariants.{Count, AddName, OpenValue, AddValue}
use Rattle.dw_notation.specs.declared.problems.pdn.automaton.Action.TheVariants.{AddBoth, Break, EndLine}

all_push : (p : ℕ → Bool) (text : List ℕ) (byte : ℕ) → list_all p text ≡ true → p byte ≡ true
    → list_all p (text ++ byte ∷ []) ≡ true
all_push p text byte all one = list_all-append p text (byte ∷ []) ∙ and_from _ _ all (and_from _ _ one refl)

spells_join : {text value other more : List ℕ} → Spells text value → Spells other more
    → Spells (text ++ other) (value ++ more)
spells_join nothing two = two
spells_join (quotation one) two = quotation (spells_join one two)
spells_join (backslash one) two = backslash (spells_join one two)
spells_join (lone byte h one) two = lone byte h (spells_join one two)
spells_join (plain byte h one) two = plain byte h (spells_join one two)

-- where the reading of a tag stands that was read so far
pub data SoFar : State → List ℕ → Type 0 where
  before : (first : List ℕ) → list_all is_blank first ≡ true → SoFar BeforeName (91 ∷ first)
  named : (first name : List ℕ) → list_all is_blank first ≡ true → 0 < length name → list_all is_name_byte name ≡ true
      → SoFar InName (91 ∷ (first ++ name))
  behind : (first name middle : List ℕ) → list_all is_blank first ≡ true → 0 < length name → list_all is_name_byte name
      ≡ true → list_all is_blank middle ≡ true
      → SoFar BehindName (91 ∷ (first ++ (name ++ middle)))
  valued : (first name middle spelling value : List ℕ) → list_all is_blank first ≡ true → 0 < length name
      → list_all is_name_byte name ≡ true → list_all is_blank middle ≡ true → Spells spelling value
      → SoFar InValue (91 ∷ (first ++ (name ++ (middle ++ 34 ∷ spelling))))
  escaped : (first name middle spelling value : List ℕ) → list_all is_blank first ≡ true → 0 < length name
      → list_all is_name_byte name ≡ true → list_all is_blank middle ≡ true → Spells spelling value
      → SoFar Escaped (91 ∷ (first ++ (name ++ (middle ++ 34 ∷ (spelling ++ 92 ∷ [])))))
  closing : (first name middle spelling value last : List ℕ) → list_all is_blank first ≡ true → 0 < length name
      → list_all is_name_byte name ≡ true → list_all is_blank middle ≡ true → Spells spelling value
      → list_all is_blank last ≡ true
      → SoFar BehindValue (91 ∷ (first ++ (name ++ (middle ++ 34 ∷ (spelling ++ 34 ∷ last)))))
  rest : (text : List ℕ) → SoFar Rest text

-- a byte in the line of a tag finds nothing, adds no tag, and ends none
pub record IsQuiet (action : Action) : Type 0 where
  pub found : IsSilent action
  pub read : (s : Section) → (after action s).read ≡ s.read + 1
  pub fens : (s : Section) → (after action s).fens ≡ s.fens
  pub games : (s : Section) → (after action s).games ≡ s.games
  pub goes : (s : Section) (bytes : List ℕ) (further : Section → Option TagRead) (one : TagRead)
      → read_by action s bytes further ≡ Some one → further (after action s) ≡ Some one

-- one more byte of the line: the tag goes on, or it is whole
abbrev pub GoesOn : State → List ℕ → ℕ → Type 0
GoesOn state text byte = (SoFar (transition state byte).state (text ++ byte ∷ []) × IsQuiet (transition state
    byte).action) ⊎ ((tag : Tag) × IsTag (text ++ byte ∷ []) tag)

goes_on : (state next : State) (action : Action) (text other : List ℕ) (byte : ℕ) → transition state byte ≡ at next
    action → text ++ byte ∷ [] ≡ other → SoFar next other → IsQuiet action → GoesOn state text byte
goes_on state next action text other byte e joined so_far quiet =
    inl (
      subst (λ t. SoFar t.state (text ++ byte ∷ [])) (sym e) (subst (SoFar next) (sym joined) so_far),
      subst (λ t. IsQuiet t.action) (sym e) quiet,
    )

quiet_count : IsQuiet Count
quiet_count = record {
  found = λ f. refl;
  read = λ s. refl;
  fens = λ s. refl;
  games = λ s. refl;
  goes = λ s bytes
      further one e. e;
}

quiet_name : (byte : ℕ) → IsQuiet (AddName byte)
quiet_name byte = record {
  found = λ f. refl;
  read = λ s. refl;
  fens = λ s. refl;
  games = λ s. refl;
  goes = λ s bytes
      further one e. e;
}

quiet_open : IsQuiet OpenValue
quiet_open = record {
  found = λ f. refl;
  read = λ s. refl;
  fens = λ s. refl;
  games = λ s. refl;
  goes = λ s bytes further
      one e. e;
}

quiet_value : (byte : ℕ) → IsQuiet (AddValue byte)
quiet_value byte = record {
  found = λ f. refl;
  read = λ s. refl;
  fens = λ s. refl;
  games = λ s. refl;
  goes = λ s bytes
      further one e. e;
}

quiet_both : (byte : ℕ) → IsQuiet (AddBoth byte)
quiet_both byte = record {
  found = λ f. refl;
  read = λ s. refl;
  fens = λ s. refl;
  games = λ s. refl;
  goes = λ s bytes
      further one e. e;
}

quiet_break : IsQuiet Break
quiet_break = record {
  found = λ f. refl;
  read = λ s. refl;
  fens = λ s. refl;
  games = λ s. refl;
  goes = λ s bytes
      further one e. cc;
}

breaks : (state : State) (text : List ℕ) (byte : ℕ) → transition state byte ≡ at Rest Break → GoesOn state text byte
breaks state text byte e = goes_on state Rest Break text (text ++ byte ∷ []) byte e refl (rest (text ++ byte ∷ []))
    quiet_break

pub tag_goes_on : {state : State} {text : List ℕ} (byte : ℕ) → ends_line byte ≡ false → SoFar state text
    → GoesOn state text byte
tag_goes_on byte inside (before first b1) = elim (cases_Bool (is_blank byte)) [
  | inl blank ↦ goes_on BeforeName BeforeName Count (91 ∷ first) (91 ∷ (first ++ byte ∷ [])) byte (rw blank refl) refl
      (before (first ++ byte ∷ []) (all_push is_blank first byte b1 blank)) quiet_count
  | inr none ↦ elim (cases_Bool (is_name_byte byte)) [
    | inl is ↦ goes_on BeforeName InName (AddName byte) (91 ∷ first) (91 ∷ (first ++ byte ∷ [])) byte
        (rw (none, is) refl) refl (named first (byte ∷ []) b1 (omega arith) (and_from _ _ is refl)) (quiet_name byte)
    | inr other ↦ breaks BeforeName (91 ∷ first) byte (rw (none, other, inside) refl)
  ]
]
tag_goes_on byte inside (named first name b1 some n) = elim (cases_Bool (is_name_byte byte)) [
  | inl is ↦ let more : 0 < length (name ++ byte ∷ []) = omega (arith, length-append name (byte ∷ [])) in
      goes_on InName InName (AddName byte) (91 ∷ (first ++ name)) (91 ∷ (first ++ (name ++ byte ∷ []))) byte
      (rw is refl) (ap (λ l. 91 ∷ l) (append_assoc first name (byte ∷ [])))
      (named first (name ++ byte ∷ []) b1 more (all_push is_name_byte name byte n is)) (quiet_name byte)
  | inr none ↦ elim (cases_Bool (is_blank byte)) [
    | inl blank ↦ goes_on InName BehindName Count (91 ∷ (first ++ name)) (91 ∷ (first ++ (name ++ byte ∷ []))) byte
        (rw (none, blank) refl) (ap (λ l. 91 ∷ l) (append_assoc first name (byte ∷ [])))
        (behind first name (byte ∷ []) b1 some n (and_from _ _ blank refl)) quiet_count
    | inr other ↦ elim (cases_Bool (byte == 34)) [
      | inl mark ↦ goes_on InName InValue OpenValue (91 ∷ (first ++ name)) (91 ∷ (first ++ (name ++ 34 ∷ []))) byte
          (rw (none, other, mark) refl)
          (ap (λ l. 91 ∷ l) (append_assoc first name (byte ∷ [])) ∙ ap (λ b. 91 ∷ (first ++ (name ++ b ∷ [])))
          (eqb-true byte 34 mark))
          (valued first name [] [] [] b1 some n refl nothing) quiet_open
      | inr neither ↦ breaks InName (91 ∷ (first ++ name)) byte (rw (none, other, neither, inside) refl)
    ]
  ]
]
tag_goes_on byte inside (behind first name middle b1 some n b2) =
    let joined : (91 ∷ (first ++ (name ++ middle))) ++ byte ∷ [] ≡ 91 ∷ (first ++ (name ++ (middle ++ byte ∷ []))) =
    simp append_assoc in
    elim (cases_Bool (is_blank byte)) [
      | inl blank ↦ goes_on BehindName BehindName Count (91 ∷ (first ++ (name ++ middle)))
          (91 ∷ (first ++ (name ++ (middle ++ byte ∷ [])))) byte (rw blank refl) joined
          (behind first name (middle ++ byte ∷ []) b1 some n (all_push is_blank middle byte b2 blank)) quiet_count
      | inr none ↦ elim (cases_Bool (byte == 34)) [
        | inl mark ↦ goes_on BehindName InValue OpenValue (91 ∷ (first ++ (name ++ middle)))
            (91 ∷ (first ++ (name ++ (middle ++ 34 ∷ [])))) byte (rw (none, mark) refl)
            (joined ∙ ap (λ b. 91 ∷ (first ++ (name ++ (middle ++ b ∷ [])))) (eqb-true byte 34 mark))
            (valued first name middle [] [] b1 some n b2 nothing) quiet_open
        | inr neither ↦ breaks BehindName (91 ∷ (first ++ (name ++ middle))) byte (rw (none, neither, inside) refl)
      ]
    ]
tag_goes_on byte inside (valued first name middle spelling value b1 some n b2 spells) =
    let text = 91 ∷ (first ++ (name ++ (middle ++ 34 ∷ spelling))) in
    let joined : text ++ byte ∷ [] ≡ 91 ∷ (first ++ (name ++ (middle ++ 34 ∷ (spelling ++ byte ∷ [])))) =
    simp append_assoc in
    elim (cases_Bool (byte == 34)) [
      | inl mark ↦ goes_on InValue BehindValue Count text
          (91 ∷ (first ++ (name ++ (middle ++ 34 ∷ (spelling ++ 34 ∷ []))))) byte (rw mark refl)
          (joined ∙ ap (λ b. 91 ∷ (first ++ (name ++ (middle ++ 34 ∷ (spelling ++ b ∷ []))))) (eqb-true byte 34 mark))
          (closing first name middle spelling value [] b1 some n b2 spells refl) quiet_count
      | inr none ↦ elim (cases_Bool (byte == 92)) [
        | inl slash ↦ goes_on InValue Escaped Count text
            (91 ∷ (first ++ (name ++ (middle ++ 34 ∷ (spelling ++ 92 ∷ []))))) byte (rw (none, slash) refl)
            (joined ∙ ap (λ b. 91 ∷ (first ++ (name ++ (middle ++ 34 ∷ (spelling ++ b ∷ [])))))
            (eqb-true byte 92 slash))
            (escaped first name middle spelling value b1 some n b2 spells) quiet_count
        | inr other ↦ goes_on InValue InValue (AddValue byte) text
            (91 ∷ (first ++ (name ++ (middle ++ 34 ∷ (spelling ++ byte ∷ []))))) byte (rw (none, other, inside) refl)
            joined
            (valued first name middle (spelling ++ byte ∷ []) (value ++ byte ∷ []) b1 some n b2
            (spells_join spells (plain byte (rw (none, other, inside) refl) nothing))) (quiet_value byte)
      ]
    ]
tag_goes_on byte inside (escaped first name middle spelling value b1 some n b2 spells) =
    let text = 91 ∷ (first ++ (name ++ (middle ++ 34 ∷ (spelling ++ 92 ∷ [])))) in
    let joined : text ++ byte ∷ [] ≡ 91 ∷ (first ++ (name ++ (middle ++ 34 ∷ (spelling ++ 92 ∷ byte ∷ [])))) =
    simp append_assoc in
    elim (cases_Bool (byte == 34)) [
      | inl mark ↦ goes_on Escaped InValue (AddValue byte) text
          (91 ∷ (first ++ (name ++ (middle ++ 34 ∷ (spelling ++ 92 ∷ 34 ∷ []))))) byte (rw mark refl)
          (joined ∙ ap (λ b. 91 ∷ (first ++ (name ++ (middle ++ 34 ∷ (spelling ++ 92 ∷ b ∷ [])))))
          (eqb-true byte 34 mark))
          (valued first name middle (spelling ++ 92 ∷ 34 ∷ []) (value ++ 34 ∷ []) b1 some n b2
          (spells_join spells (quotation nothing))) (quiet_value byte)
      | inr none ↦ elim (cases_Bool (byte == 92)) [
        | inl slash ↦ goes_on Escaped InValue (AddValue byte) text
            (91 ∷ (first ++ (name ++ (middle ++ 34 ∷ (spelling ++ 92 ∷ 92 ∷ []))))) byte (rw (none, slash) refl)
            (joined ∙ ap (λ b. 91 ∷ (first ++ (name ++ (middle ++ 34 ∷ (spelling ++ 92 ∷ b ∷ [])))))
            (eqb-true byte 92 slash))
            (valued first name middle (spelling ++ 92 ∷ 92 ∷ []) (value ++ 92 ∷ []) b1 some n b2
            (spells_join spells (backslash nothing))) (quiet_value byte)
        | inr other ↦ goes_on Escaped InValue (AddBoth byte) text
            (91 ∷ (first ++ (name ++ (middle ++ 34 ∷ (spelling ++ 92 ∷ byte ∷ []))))) byte
            (rw (none, other, inside) refl) joined
            (valued first name middle (spelling ++ 92 ∷ byte ∷ []) (value ++ 92 ∷ byte ∷ []) b1 some n b2
            (spells_join spells (lone byte (rw (none, other, inside) refl) nothing))) (quiet_both byte)
      ]
    ]
tag_goes_on byte inside (closing first name middle spelling value last b1 some n b2 spells b3) =
    let text = 91 ∷ (first ++ (name ++ (middle ++ 34 ∷ (spelling ++ 34 ∷ last)))) in
    let joined : text ++ byte ∷ [] ≡ 91 ∷ (first ++ (name ++ (middle ++ 34 ∷ (spelling ++ 34 ∷ (last ++ byte ∷ []))))) =
    simp append_assoc in
    elim (cases_Bool (is_blank byte)) [
      | inl blank ↦ goes_on BehindValue BehindValue Count text
          (91 ∷ (first ++ (name ++ (middle ++ 34 ∷ (spelling ++ 34 ∷ (last ++ byte ∷ [])))))) byte (rw blank refl)
          joined
          (closing first name middle spelling value (last ++ byte ∷ []) b1 some n b2 spells
          (all_push is_blank last byte b3 blank)) quiet_count
      | inr none ↦ elim (cases_Bool (byte == 93)) [
        | inl close ↦ inr (
          record { name = name; value = value },
          record {
            first = first;
            middle = middle;
            last = last;
            spelling = spelling;
            blank_first = b1;
            blank_middle = b2;
            blank_last = b3;
            some = some;
            named = n;
            spells = spells;
            joined = joined ∙ ap (λ b. 91 ∷ (first ++ (name ++ (middle ++ 34 ∷ (spelling ++ 34 ∷ (last ++ b ∷ []))))))
                (eqb-true byte 93 close);
          },
        )
        | inr other ↦ breaks BehindValue text byte (rw (none, other, inside) refl)
      ]
    ]
tag_goes_on byte inside (rest text) = goes_on Rest Rest Count text (text ++ byte ∷ []) byte (rw inside refl) refl
    (rest (text ++ byte ∷ [])) quiet_count

-- ---- the whole line
pub record LineRead (state : State) (text line : List ℕ) (s : Section) : Type 0 where
  pub next : State
  pub last : Section
  pub so_far : SoFar next (text ++ line)
  pub read : last.read ≡ s.read + length line
  pub fens : last.fens ≡ s.fens
  pub games : last.games ≡ s.games
  pub reads : Reads state s line next last

line_reads : (line : List ℕ) (state : State) (text : List ℕ) → SoFar state text
    → list_all (λ byte. not (ends_line byte)) line ≡ true
    → ((front back : List ℕ) (tag : Tag) → text ++ line ≡ front ++ back → IsTag front tag → ⊥) → (s : Section)
    → LineRead state text line s
line_reads [] state text so_far in_line unbroken s = record {
  next = state;
  last = s;
  so_far = subst (SoFar state) (sym (append-nil text)) so_far;
  read = omega arith;
  fens = refl;
  games = refl;
  reads = here;
}
line_reads (byte ∷ line) state text so_far in_line unbroken s =
    let both = and_parts (not (ends_line byte)) (list_all (λ b. not (ends_line b)) line) in_line in
    let joined = append_assoc text (byte ∷ []) line in
    elim (tag_goes_on byte (not-true _ both.0) so_far) [
      | inl on ↦
          let t = transition state byte in
          let more_read = line_reads line t.state (text ++ byte ∷ []) on.0 both.1 (λ front back tag e is. unbroken front
          back tag (sym joined ∙ e) is) (after t.action s) in
          let one = on.1.read s in
          record {
            next = more_read.next;
            last = more_read.last;
            so_far = subst (SoFar more_read.next) joined more_read.so_far;
            read = omega (arith, more_read.read, one);
            fens = more_read.fens ∙ on.1.fens s;
            games = more_read.games ∙ on.1.games s;
            reads = step byte t.action refl on.1.found more_read.reads;
          }
      | inr whole ↦ absurd (unbroken (text ++ byte ∷ []) line whole.0 (sym joined) whole.1)
    ]

-- behind the first bracket of an unclosed tag
pub unclosed_reads : (text : List ℕ) → (u : IsUnclosed text) → (s : Section) → LineRead BeforeName (91 ∷ []) u.line s
unclosed_reads text u s = line_reads u.line BeforeName (91 ∷ []) (before [] refl) u.in_line
    (λ front back tag e is. u.broken front back tag (u.joined ∙ e) is) s

-- the end of its line ends it
ends_at : {state : State} {text : List ℕ} → SoFar state text → (transition state 10 ≡ at Between EndLine)
    × (transition state 13 ≡ at Between EndLine)
ends_at (before first b1) = (refl, refl)
ends_at (named first name b1 some n) = (refl, refl)
ends_at (behind first name middle b1 some n b2) = (refl, refl)
ends_at (valued first name middle spelling value b1 some n b2 spells) = (refl, refl)
ends_at (escaped first name middle spelling value b1 some n b2 spells) = (refl, refl)
ends_at (closing first name middle spelling value last b1 some n b2 spells b3) = (refl, refl)
ends_at (rest text) = (refl, refl)

pub line_ends : {state : State} {text : List ℕ} (byte : ℕ) → ends_line byte ≡ true → SoFar state text → transition state
    byte ≡ at Between EndLine
line_ends {state} byte ends so_far = elim (or_cases (byte == 10) (byte == 13) ends) [
  | inl feed ↦ ap (transition state) (eqb-true byte 10 feed) ∙ (ends_at so_far).0
  | inr return ↦ ap (transition state) (eqb-true byte 13 return) ∙ (ends_at so_far).1
]

-- and so does the end of the text
pub text_ends : {state : State} {text : List ℕ} (whole unclosed : Found) → SoFar state text
    → found_at_end state whole unclosed ≡ unclosed ∷ []
text_ends whole unclosed (before first b1) = refl
text_ends whole unclosed (named first name b1 some n) = refl
text_ends whole unclosed (behind first name middle b1 some n b2) = refl
text_ends whole unclosed (valued first name middle spelling value b1 some n b2 spells) = refl
text_ends whole unclosed (escaped first name middle spelling value b1 some n b2 spells) = refl
text_ends whole unclosed (closing first name middle spelling value last b1 some n b2 spells b3) = refl
text_ends whole unclosed (rest text) = refl
