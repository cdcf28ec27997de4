-- Each text of tags is a row of comments, sections and other bytes.
use Rattle.std.proofs.Common.{◌≡◌, ℕ, zero, suc, ◌+◌, ◌≤◌, ◌==◌, ◌⊎◌, inl, inr, List, [], ◌∷◌, ◌++◌, length, Bool, true}
use Rattle.std.proofs.Common.{false, Err, not, refl, sym, ap, ◌∙◌, subst, arith, append_assoc, append-nil}
use Rattle.std.proofs.Common.{length-append}
use Rattle.std.proofs.lemmas.Bool.{cases_Bool, and_from, eqb-true}
use Rattle.std.specs.List.{list_all}
use Rattle.dw_board.specs.Geometry.{Geometry}
use Rattle.dw_notation.specs.TextLines.{Found}
use Rattle.dw_notation.specs.Tags.{ends_line, Tag, IsTag, IsUnclosed, is_space, IsGap, IsSection}
use Rattle.dw_notation.specs.inner.Tags.{tags_found, outside_found, ends_section}
use Rattle.dw_notation.specs.Tags.IsSection.{single, broken, longer, longer_broken}
use Rattle.dw_notation.specs.TextLines.{if_over}
use Rattle.dw_notation.specs.WholeTexts.{IsOpen, SectionsSay}
use Rattle.dw_notation.specs.WholeTexts.SectionsSay.{nothing, other, comment, last_comment, section, last_section}
use Rattle.dw_notation.specs.declared.problems.ProblemFault.TheVariants.{UnclosedComment}
use Rattle.dw_notation.proofs.TextSaysLemmas.{FensAreRead, section_says, section_says-only}
use Rattle.dw_notation.proofs.TagFrontLemmas.{tag_or_none}
use Rattle.dw_notation.proofs.SectionReadingLemmas.{sections_are_found, last_section_is_found, comments_say_nothing}
use Rattle.dw_notation.proofs.SectionReadingLemmas.{open_comment_is_found, others_say_nothing}
use Rattle.dw_notation.proofs.SectionReadingLemmas.{open_comment_gives_nothing, open_section_gives_nothing}

-- ---- a row says what is found
nothing_is_found : (over : Bool) (g : Geometry) → [] ≡ outside_found over g []
nothing_is_found true g = refl
nothing_is_found false g = refl

last_comment_says : (over : Bool) (g : Geometry) (text : List ℕ) → IsOpen text
    → if_over over (Err UnclosedComment ∷ []) ≡ outside_found over g (123 ∷ text)
last_comment_says true g text unclosed = sym (open_comment_is_found g text unclosed)
last_comment_says false g text unclosed = sym (open_comment_gives_nothing g text unclosed)

last_section_says : (over : Bool) (g : Geometry) (text gap : List ℕ) (tags : List Tag) (some last : Bool)
    → IsSection text tags some last → IsGap last gap ⊎ (gap ≡ [])
    → if_over over (tags_found g (length text) some tags ∷ []) ≡ outside_found over g (text ++ gap)
last_section_says true g text gap tags some last is spaces = sym (last_section_is_found g text gap tags some last is
    spaces)
last_section_says false g text gap tags some last is spaces = sym (open_section_gives_nothing g text gap tags some last
    is spaces)

pub sections_say-only : FensAreRead → {g : Geometry} {over : Bool} {text : List ℕ} {found : List Found}
    → SectionsSay g over text found → found ≡ outside_found over g text
sections_say-only law (nothing {g} {over}) = nothing_is_found over g
sections_say-only law (other {g} {over} {more} byte neither says) = sections_say-only law says
    ∙ sym (others_say_nothing over g byte more neither)
sections_say-only law (comment {g} {over} {more} text unclosed says) = sections_say-only law says
    ∙ sym (comments_say_nothing over g text more unclosed)
sections_say-only law (last_comment {g} {over} text unclosed) = last_comment_says over g text unclosed
sections_say-only law (section {g} {over} {tags} {some} {last} {more} {found} text gap byte said is spaces ends here
    says) =
    ap (λ x. x ∷ found) (section_says-only law g (length text) some tags said here)
    ∙ ap (λ l. tags_found g (length text) some tags ∷ l) (sections_say-only law says)
    ∙ sym (sections_are_found over g text gap more tags some last byte is spaces ends)
sections_say-only law (last_section {g} {over} {tags} {some} {last} text gap said is spaces here) =
    ap (λ x. if_over over (x ∷ [])) (section_says-only law g (length text) some tags said here)
    ∙ last_section_says over g text gap tags some last is spaces

-- ---- cutting a text where bytes of one kind end
data Stops : (ℕ → Bool) → List ℕ → Type 0 where
  at_end : {p : ℕ → Bool} → Stops p []
  at_byte : {p : ℕ → Bool} (byte : ℕ) (more : List ℕ) → p byte ≡ false → Stops p (byte ∷ more)

stop_of : {p : ℕ → Bool} {byte : ℕ} {more : List ℕ} → Stops p (byte ∷ more) → p byte ≡ false
stop_of (at_byte byte more none) = none

un_not : (b : Bool) → not b ≡ false → b ≡ true
un_not true e = refl
un_not false e = let bad : true ≡ false = e in cc

record Cut (p : ℕ → Bool) (text : List ℕ) : Type 0 where
  pub front : List ℕ
  pub back : List ℕ
  pub joined : text ≡ front ++ back
  pub all : list_all p front ≡ true
  pub stops : Stops p back

cut : (p : ℕ → Bool) (text : List ℕ) → Cut p text
cut p [] = record { front = []; back = []; joined = refl; all = refl; stops = at_end }
cut p (byte ∷ text) = elim (cases_Bool (p byte)) [
  | inl is ↦ let c = cut p text in record {
    front = byte ∷ c.front;
    back = c.back;
    joined = ap (λ l. byte ∷ l) c.joined;
    all = and_from _ _ is c.all;
    stops = c.stops;
  }
  | inr none ↦ record { front = []; back = byte ∷ text; joined = refl; all = refl; stops = at_byte byte text none }
]

-- a whole tag, or its line, which is unclosed
record FrontTag (text : List ℕ) : Type 0 where
  pub front : List ℕ
  pub back : List ℕ
  pub joined : text ≡ front ++ back
  pub is : ((tag : Tag) × IsTag front tag) ⊎ (IsUnclosed front × Stops (λ byte. not (ends_line byte)) back)

front_tag : (line : List ℕ) → FrontTag (91 ∷ line)
front_tag line =
    let c = cut (λ byte. not (ends_line byte)) line in
    let joined : 91 ∷ line ≡ (91 ∷ c.front) ++ c.back = ap (λ l. 91 ∷ l) c.joined in
    elim (tag_or_none c.front) [
      | inl has ↦ record {
        front = has.text;
        back = has.more ++ c.back;
        joined = joined ∙ ap (λ l. l ++ c.back) has.joined ∙ append_assoc has.text has.more c.back;
        is = inl (has.tag, has.is);
      }
      | inr none ↦ record {
        front = 91 ∷ c.front;
        back = c.back;
        joined = joined;
        is = inr (record { line = c.front; in_line = c.all; joined = refl; broken = none }, c.stops);
      }
    ]

-- ---- a section at the front
tag_some : (text : List ℕ) (tag : Tag) → IsTag text tag → 1 ≤ length text
tag_some text tag is = let size = ap length is.joined in omega (arith, size)

unclosed_some : (text : List ℕ) → IsUnclosed text → 1 ≤ length text
unclosed_some text is = let size = ap length is.joined in omega (arith, size)

section_some : {text : List ℕ} {tags : List Tag} {some last : Bool} → IsSection text tags some last → 1 ≤ length text
section_some (single {text} {tag} is) = tag_some text tag is
section_some (broken {text} is) = unclosed_some text is
section_some (longer text gap next is spaces is_tag) = let size = length-append text (gap ++ next) in let front =
    section_some is in omega (arith, size, front)
section_some (longer_broken text gap next is spaces is_unclosed) = let size = length-append text (gap ++ next) in
    let front = section_some is in omega (arith, size, front)

-- what may stand behind: the end of the line, if the last tag is unclosed
abbrev MayFollow : Bool → List ℕ → Type 0
MayFollow last back = last ≡ true → Stops (λ byte. not (ends_line byte)) back

record FrontSection (text : List ℕ) : Type 0 where
  pub front : List ℕ
  pub gap : List ℕ
  pub back : List ℕ
  pub tags : List Tag
  pub some : Bool
  pub last : Bool
  pub joined : text ≡ front ++ (gap ++ back)
  pub is : IsSection front tags some last
  pub ends : ((back ≡ []) × (IsGap last gap ⊎ (gap ≡ []))) ⊎ ((byte : ℕ) × (more : List ℕ) × (back ≡ byte ∷ more)
      × IsGap last gap × (ends_section byte ≡ true))

record FrontGap (last : Bool) (text : List ℕ) : Type 0 where
  pub gap : List ℕ
  pub back : List ℕ
  pub joined : text ≡ gap ++ back
  pub spaces : IsGap last gap
  pub stops : Stops is_space back

front_gap : (last : Bool) (byte : ℕ) (more : List ℕ) → MayFollow last (byte ∷ more) → FrontGap last (byte ∷ more)
front_gap false byte more may = let c = cut is_space (byte ∷ more) in record {
  gap = c.front;
  back = c.back;
  joined =
      c.joined;
  spaces = c.all;
  stops = c.stops;
}
front_gap true byte more may =
    let c = cut is_space more in
    record {
      gap = byte ∷ c.front;
      back = c.back;
      joined = ap (λ l. byte ∷ l) c.joined;
      spaces =
          (un_not _ (stop_of (may refl)), c.all);
      stops = c.stops;
    }

-- the spaces behind a section, and what is behind them, given how a longer section goes on
behind_gap : (n : ℕ) → ((text back : List ℕ) (tags : List Tag) (some last : Bool) → IsSection text tags some last
    → MayFollow last back → length back ≤ n → FrontSection (text ++ back))
    → (text gap back : List ℕ) (tags : List Tag) (some last : Bool) → IsSection text tags some last → IsGap last gap
    → Stops is_space back → length back ≤ n + 1 → FrontSection (text ++ (gap ++ back))
behind_gap n further text gap [] tags some last is spaces stops size = record {
  front = text;
  gap = gap;
  back = [];
  tags = tags;
  some = some;
  last = last;
  joined = refl;
  is = is;
  ends = inl (refl, inl spaces);
}
behind_gap n further text gap (byte ∷ more) tags some last is spaces stops size = elim (cases_Bool (byte == 91)) [
  | inl bracket ↦
      let t = front_tag more in
      let back_is : byte ∷ more ≡ t.front ++ t.back = ap (λ b. b ∷ more) (eqb-true byte 91 bracket) ∙ t.joined in
      let longer_text = text ++ (gap ++ t.front) in
      let joined : text ++ (gap ++ byte ∷ more) ≡ longer_text ++ t.back =
      ap (λ l. text ++ (gap ++ l)) back_is ∙ ap (λ l. text ++ l) (sym (append_assoc gap t.front t.back))
      ∙ sym (append_assoc text (gap ++ t.front) t.back) in
      let sizes = ap length back_is in
      let parts = length-append t.front t.back in
      elim t.is [
        | inl whole ↦
            let front = tag_some t.front whole.0 whole.1 in
            subst FrontSection (sym joined)
            (further longer_text t.back (whole.0 ∷ tags) some false (longer text gap t.front is spaces whole.1)
            (λ e. let bad : false ≡ true = e in cc) (omega (arith, sizes, parts, front, size)))
        | inr line ↦
            let front = unclosed_some t.front line.0 in
            subst FrontSection (sym joined) (further longer_text t.back tags true true
            (longer_broken text gap t.front is spaces line.0) (λ e. line.1)
            (omega (arith, sizes, parts, front, size)))
      ]
  | inr none ↦
      let space = stop_of stops in
      let last_byte : ends_section byte ≡ true = rw (none, space) refl in
      record {
        front = text;
        gap = gap;
        back = byte ∷ more;
        tags = tags;
        some = some;
        last = last;
        joined = refl;
        is =
            is;
        ends = inr (byte, more, refl, spaces, last_byte);
      }
]

go_on : (n : ℕ) (text back : List ℕ) (tags : List Tag) (some last : Bool) → IsSection text tags some last
    → MayFollow last back → length back ≤ n → FrontSection (text ++ back)
go_on n text [] tags some last is may size = record {
  front = text;
  gap = [];
  back = [];
  tags = tags;
  some = some;
  last = last;
  joined = refl;
  is = is;
  ends = inl (refl, inr refl);
}
go_on zero text (byte ∷ more) tags some last is may size = absurd (omega (arith, size))
go_on (suc n) text (byte ∷ more) tags some last is may size =
    let f = front_gap last byte more may in
    let sizes = ap length f.joined in
    let parts = length-append f.gap f.back in
    subst (λ l. FrontSection (text ++ l)) (sym f.joined) (behind_gap n (go_on n) text f.gap f.back tags some last is
    f.spaces f.stops (omega (arith, sizes, parts, size)))

first_section : (more : List ℕ) → FrontSection (91 ∷ more)
first_section more =
    let t = front_tag more in
    subst FrontSection (sym t.joined) (elim t.is [
      | inl whole ↦ go_on (length t.back) t.front t.back (whole.0 ∷ []) false false (single whole.1)
          (λ e. let bad : false ≡ true = e in cc) (omega arith)
      | inr line ↦ go_on (length t.back) t.front t.back [] true true (broken line.0) (λ e. line.1) (omega arith)
    ])

-- ---- the row
module _ (law : FensAreRead) where
  abbrev Row : Geometry → Bool → List ℕ → Type 0
  Row g over text = (found : List Found) × SectionsSay g over text found

  section_row : (n : ℕ) (g : Geometry) (over : Bool) → ((text : List ℕ) → length text ≤ n → Row g over text)
      → (more : List ℕ) → length more ≤ n → Row g over (91 ∷ more)
  section_row n g over further more size =
      let f = first_section more in
      let said = tags_found g (length f.front) f.some f.tags in
      let here = section_says law g (length f.front) f.some f.tags in
      elim f.ends [
        | inl none ↦ (
          if_over over (said ∷ []),
          subst (λ l. SectionsSay g over l (if_over over (said ∷ []))) (sym (f.joined ∙ ap (λ b. f.front ++ (f.gap ++
              b)) none.0
              ∙ ap (λ l. f.front ++ l) (append-nil f.gap))) (last_section f.front f.gap said
              f.is none.1 here),
        )
        | inr next ↦
            let joined = f.joined ∙ ap (λ b. f.front ++ (f.gap ++ b)) next.2 in
            let sizes = ap length joined in
            let one = length-append f.front (f.gap ++ next.0 ∷ next.1) in
            let two = length-append f.gap (next.0 ∷ next.1) in
            let some = section_some f.is in
            let r = further (next.0 ∷ next.1) (omega (arith, sizes, one, two, some, size)) in (
              said ∷ r.0,
              subst (λ l. SectionsSay g over l (said ∷ r.0)) (sym joined) (section f.front f.gap next.0 said f.is next.3
                  next.4 here
                  r.1),
            )
      ]

  comment_behind : (n : ℕ) (g : Geometry) (over : Bool) → ((text : List ℕ) → length text ≤ n → Row g over text)
      → (text back : List ℕ) → IsOpen text → Stops (λ byte. not (byte == 125)) back → length back ≤ n
      → Row g over (123 ∷ (text ++ back))
  comment_behind n g over further text [] unclosed stops size = (
    if_over over (Err UnclosedComment ∷ []),
    subst (λ l. SectionsSay g over (123 ∷ l) (if_over over (Err UnclosedComment ∷ []))) (sym (append-nil text))
        (last_comment text unclosed),
  )
  comment_behind n g over further text (byte ∷ more) unclosed stops size =
      let brace : byte ≡ 125 = eqb-true byte 125 (un_not (byte == 125) (stop_of stops)) in
      let r = further more (omega (arith, size)) in
      (r.0, subst (λ b. SectionsSay g over (123 ∷ (text ++ b ∷ more)) r.0) (sym brace) (comment text unclosed r.1))

  comment_row : (n : ℕ) (g : Geometry) (over : Bool) → ((text : List ℕ) → length text ≤ n → Row g over text)
      → (more : List ℕ) → length more ≤ n → Row g over (123 ∷ more)
  comment_row n g over further more size =
      let c = cut (λ byte. not (byte == 125)) more in
      let sizes = ap length c.joined in
      let parts = length-append c.front c.back in
      subst (λ l. Row g over (123 ∷ l)) (sym c.joined) (comment_behind n g over further c.front c.back c.all c.stops
      (omega (arith, sizes, parts, size)))

  row : (n : ℕ) (g : Geometry) (over : Bool) (text : List ℕ) → length text ≤ n → Row g over text
  row n g over [] size = ([], nothing)
  row zero g over (byte ∷ more) size = absurd (omega (arith, size))
  row (suc n) g over (byte ∷ more) size =
      let less : length more ≤ n = omega (arith, size) in
      elim (cases_Bool (byte == 91)) [
        | inl bracket ↦ subst (λ b. Row g over (b ∷ more)) (sym (eqb-true byte 91 bracket))
            (section_row n g over (row n g over) more less)
        | inr none ↦ elim (cases_Bool (byte == 123)) [
          | inl brace ↦ subst (λ b. Row g over (b ∷ more)) (sym (eqb-true byte 123 brace))
              (comment_row n g over (row n g over) more less)
          | inr neither ↦ let r = row n g over more less in (r.0, other byte (rw (none, neither) refl) r.1)
        ]
      ]

  pub sections_say : (g : Geometry) (over : Bool) (text : List ℕ) → SectionsSay g over text (outside_found over g text)
  sections_say g over text =
      let r = row (length text) g over text (omega arith) in
      subst (SectionsSay g over text) (sections_say-only law r.1) r.1
