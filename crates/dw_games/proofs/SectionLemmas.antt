-- Lemmas on a section that is read byte by byte.
use Rattle.std.proofs.Common.{◌≡◌, ◌==◌, ◌+◌, ◌-◌, ◌<◌, ◌≤◌, ◌||◌, ◌⊎◌, ℕ, not, List, [], ◌∷◌, ◌++◌, length, take, drop}
use Rattle.std.proofs.Common.{Bool, true, false, slice_index, Option, Some, None, Ok, Err, MatchBool, refl, sym, ap}
use Rattle.std.proofs.Common.{◌∙◌, subst, arith, append_assoc, append-nil, inl, inr, option_to_list, cond, nat_lt}
use Rattle.std.proofs.Common.{length-append}
use Rattle.std.proofs.Math.Seq.{take-append_seam}
use Rattle.std.proofs.lemmas.Bool.{and_parts, ltb-false}
use Rattle.std.proofs.lemmas.List.{same_from_push, take-append-drop, take_more}
use Rattle.std.specs.List.{list_all}
use Rattle.dw_board.specs.Geometry.{Geometry}
use Rattle.dw_board.specs.Placement.{Placement}
use Rattle.dw_notation.specs.TextLines.{Found}
use Rattle.dw_notation.specs.Tags.{Tag, IsTag, is_space, IsGap, IsSection, SectionSays}
use Rattle.dw_notation.specs.Tags.IsSection.{single, broken, longer, longer_broken}
use Rattle.dw_notation.specs.WholeTexts.{SectionsSay}
use Rattle.dw_notation.specs.TagLaws.{TextsOfTagsSay}
use Rattle.dw_notation.specs.WholeTexts.SectionsSay.{nothing, other, comment, last_comment, section, last_section}
use Rattle.dw_notation.specs.declared.problems.TheConstants.{MAX_SECTION}
use Rattle.dw_notation.specs.declared.problems.ProblemFault.TheVariants.{SectionTooLong, UnclosedTag}
use Rattle.dw_games.specs.Games.{Said, said_with, HasGames}
use Rattle.dw_games.specs.Games.HasGames.{nothing as no_games, other as no_section, comment as no_comment}
use Rattle.dw_games.specs.Games.HasGames.{last_comment as open_comment, section as with_section}
use Rattle.dw_games.specs.Games.HasGames.{last_section as with_last}
use Rattle.dw_games.specs.inner.Keeping.{spaces_on, row_of}
use Rattle.dw_games.specs.inner.Sectioning.{IsCut, IsLast, IsRow, EndsWell}

abbrev pub first : List ℕ → ℕ
first [] = 0
first (byte ∷ text) = byte

first-eq : (a b : ℕ) (x y : List ℕ) → a ∷ x ≡ b ∷ y → a ≡ b
first-eq a b x y e = ap first e

-- ---- a section begins with a bracket
pub IsSection-begins : {text : List ℕ} {tags : List Tag} {some last : Bool} → IsSection text tags some last
    → (rest : List ℕ) × (text ≡ 91 ∷ rest)
IsSection-begins (single is) = (_, is.joined)
IsSection-begins (broken is) = (is.line, is.joined)
IsSection-begins (longer text gap next is spaces tag) =
    let r = IsSection-begins is in (r.0 ++ (gap ++ next), ap (λ l. l ++ (gap ++ next)) r.1)
IsSection-begins (longer_broken text gap next is spaces tag) =
    let r = IsSection-begins is in (r.0 ++ (gap ++ next), ap (λ l. l ++ (gap ++ next)) r.1)

-- ---- where a byte ends it
init_last : (byte : ℕ) (more : List ℕ) → (init : List ℕ) × (last : ℕ) × (byte ∷ more ≡ init ++ last ∷ [])
init_last byte [] = ([], byte, refl)
init_last byte (next ∷ more) = let r = init_last next more in (byte ∷ r.0, r.1, ap (λ l. byte ∷ l) r.2)

module _ (law : TextsOfTagsSay) where
  -- a section that is ended says something
  pub ended_says : (g : Geometry) (tags : List Tag) (some last : Bool) (seen text gap more : List ℕ) (byte : ℕ)
      (said : Found) → IsSection text tags some last → IsGap last gap → not ((byte == 91) || is_space byte) ≡ true
      → SectionSays g (length text) some tags said → text ++ (gap ++ byte ∷ more) ≡ seen
      → SectionsSay g false seen [] → ⊥
  ended_says g tags some last seen text gap more byte said is spaces ends says same none =
      let rest = law.some g false (byte ∷ more) in
      let bad : [] ≡ said ∷ rest.0 = law.only g false seen [] (said ∷ rest.0) none
      (subst (λ l. SectionsSay g false l (said ∷ rest.0)) same (section text gap byte said is spaces ends says rest.1))
      in cc

  cut_more : (g : Geometry) (seen : List ℕ) (byte : ℕ) (found : Found) (tags : List Tag) (some last : Bool)
      (text gap : List ℕ) (b : ℕ) (more : List ℕ) (said : Found) → IsSection text tags some last → IsGap last gap
      → not ((b == 91) || is_space b) ≡ true → SectionSays g (length text) some tags said
      → text ++ (gap ++ b ∷ more) ≡ seen ++ byte ∷ [] → said ≡ found → SectionsSay g false seen []
      → IsCut g seen byte found
  cut_more g seen byte found tags some last text gap b [] said is spaces ends says e same none =
      let flat = same_from_push (text ++ gap) seen b byte (append_assoc text gap (b ∷ []) ∙ e) in
      record {
        tags = tags;
        some = some;
        last = last;
        text = text;
        gap = gap;
        is = is;
        spaces = spaces;
        ends = subst (λ x. not ((x == 91) || is_space x) ≡ true) flat.1 ends;
        says = subst (SectionSays g (length text) some tags) same says;
        joined = sym flat.0;
      }
  cut_more g seen byte found tags some last text gap b (c ∷ more) said is spaces ends says e same none =
      let r = init_last c more in
      let flat = same_from_push (text ++ (gap ++ b ∷ r.0)) seen r.1 byte
      (append_assoc text (gap ++ b ∷ r.0) (r.1 ∷ []) ∙ ap (λ l. text ++ l) (append_assoc gap (b ∷ r.0) (r.1 ∷ []))
      ∙ ap (λ l. text ++ (gap ++ b ∷ l)) (sym r.2) ∙ e) in
      absurd (ended_says g tags some last seen text gap r.0 b said is spaces ends says flat.0 none)

  pub cut_at : (g : Geometry) (seen rest : List ℕ) (byte : ℕ) (found : Found) (later : List Found) {text : List ℕ}
      {all : List Found} → SectionsSay g false text all → text ≡ seen ++ byte ∷ [] → text ≡ 91 ∷ rest
      → all ≡ found ∷ later → SectionsSay g false seen [] → IsCut g seen byte found
  cut_at g seen rest byte found later nothing joined begins all none = cc
  cut_at g seen rest byte found later (other b neither says) joined begins all none =
      let e = first-eq b 91 _ rest begins in let bad : true ≡ false = rw e at neither in cc
  cut_at g seen rest byte found later (comment text is says) joined begins all none =
      let e = first-eq 123 91 _ rest begins in let bad : ⊥ = omega (arith, e) in absurd bad
  cut_at g seen rest byte found later (last_comment text is) joined begins all none =
      let e = first-eq 123 91 _ rest begins in let bad : ⊥ = omega (arith, e) in absurd bad
  cut_at g seen rest byte found later (section {tags} {some} {last} {more} {found = after} text gap b said is spaces
      ends says here) joined begins all none =
      let same : said ≡ found = cc in
      cut_more g seen byte found tags some last text gap b more said is spaces ends says joined same none
  cut_at g seen rest byte found later (last_section text gap said is spaces says) joined begins all none = cc

  -- ---- where the text ends
  one_said : (said : Found) (result : Option Found) → said ∷ [] ≡ option_to_list result → result ≡ Some said
  one_said said None e = cc
  one_said said (Some found) e = cc

  pub last_at : (g : Geometry) (seen rest : List ℕ) (result : Option Found) {text : List ℕ} {all : List Found}
      → SectionsSay g true text all → text ≡ seen → text ≡ 91 ∷ rest → all ≡ option_to_list result
      → SectionsSay g false seen [] → (found : Found) × (result ≡ Some found) × IsLast g seen found
  last_at g seen rest result nothing joined begins all none = cc
  last_at g seen rest result (other b neither says) joined begins all none =
      let e = first-eq b 91 _ rest begins in let bad : true ≡ false = rw e at neither in cc
  last_at g seen rest result (comment text is says) joined begins all none =
      let e = first-eq 123 91 _ rest begins in let bad : ⊥ = omega (arith, e) in absurd bad
  last_at g seen rest result (last_comment text is) joined begins all none =
      let e = first-eq 123 91 _ rest begins in let bad : ⊥ = omega (arith, e) in absurd bad
  last_at g seen rest result (section {tags} {some} {last} {more} text gap b said is spaces ends says here) joined
      begins all none = absurd (ended_says g tags some last seen text gap more b said is spaces ends says joined none)
  last_at g seen rest result (last_section {tags} {some} {last} text gap said is spaces says) joined begins all none = (
    said,
    one_said said result all,
    record {
      tags = tags;
      some = some;
      last = last;
      text = text;
      gap = gap;
      is = is;
      spaces = spaces;
      says = says;
      joined = sym joined;
    },
  )

-- ---- the spaces behind a section that is not refused
pub spaces_on-append : (spaces text more : List ℕ) → spaces_on spaces (text ++ more)
    ≡ spaces_on (spaces_on spaces text) more
spaces_on-append spaces [] more = refl
spaces_on-append spaces (byte ∷ text) more = spaces_on-append (cond (is_space byte) (spaces ++ byte ∷ []) []) text more

pub spaces_on-gap : (spaces gap : List ℕ) → list_all is_space gap ≡ true → spaces_on spaces gap ≡ spaces ++ gap
spaces_on-gap spaces [] all = sym (append-nil spaces)
spaces_on-gap spaces (byte ∷ gap) all =
    let both = and_parts (is_space byte) (list_all is_space gap) all in
    rw both.0 (spaces_on-gap (spaces ++ byte ∷ []) gap both.1 ∙ append_assoc spaces (byte ∷ []) gap)

-- the spaces at the end of a piece, behind other bytes of it
pub spaces_on-rest : (spaces piece : List ℕ) (start : ℕ) → 0 < start → start ≤ length piece
    → list_all is_space (drop start piece) ≡ true → is_space (slice_index piece (start - 1)) ≡ false
    → spaces_on spaces piece ≡ drop start piece
spaces_on-rest spaces piece start some inside all no_space =
    let front = take (start - 1) piece in
    let last = slice_index piece (start - 1) in
    let e : start - 1 + 1 ≡ start = omega (arith, some) in
    let joined : take start piece ≡ front ++ last ∷ [] =
    ap (λ n. take n piece) (sym e) ∙ take_more piece (start - 1) 0 (omega (arith, some, inside)) in
    let none : spaces_on spaces (take start piece) ≡ [] =
    ap (spaces_on spaces) joined ∙ spaces_on-append spaces front (last ∷ [])
    ∙ ap (λ v. cond v (spaces_on spaces front ++ last ∷ []) []) no_space in
    ap (spaces_on spaces) (sym (take-append-drop start piece))
    ∙ spaces_on-append spaces (take start piece) (drop start piece)
    ∙ ap (λ l. spaces_on l (drop start piece)) none ∙ spaces_on-gap [] (drop start piece) all

spaces_on-bracket : (spaces text : List ℕ) → spaces_on spaces (text ++ 93 ∷ []) ≡ []
spaces_on-bracket spaces text = spaces_on-append spaces text (93 ∷ [])

tag_joined : (a b c d e : List ℕ) → 91 ∷ (a ++ (b ++ (c ++ 34 ∷ (d ++ 34 ∷ (e ++ 93 ∷ [])))))
    ≡ (91 ∷ (a ++ (b ++ (c ++ 34 ∷ (d ++ 34 ∷ e))))) ++ 93 ∷ []
tag_joined a b c d e = simp append_assoc refl

tag_closed : (text : List ℕ) (tag : Tag) → IsTag text tag → (front : List ℕ) × (text ≡ front ++ 93 ∷ [])
tag_closed text tag is = (
  91 ∷ (is.first ++ (tag.name ++ (is.middle ++ 34 ∷ (is.spelling ++ 34 ∷ is.last)))),
  is.joined ∙ tag_joined is.first tag.name is.middle is.spelling is.last,
)

pub section_closed : {text : List ℕ} {tags : List Tag} {some last : Bool} → IsSection text tags some last → some ≡ false
    → (last ≡ false) × ((front : List ℕ) × (text ≡ front ++ 93 ∷ []))
section_closed (single {text} {tag} is) whole = (refl, tag_closed text tag is)
section_closed (broken is) whole = cc
section_closed (longer text gap next {tag} is spaces tag_is) whole =
    let r = tag_closed next tag tag_is in (
      refl,
      (
        text ++ (gap ++ r.0),
        ap (λ l. text ++ (gap ++ l)) r.1 ∙ sym (append_assoc text (gap ++ r.0) (93 ∷ [])
            ∙ ap (λ l. text ++ l) (append_assoc gap r.0 (93 ∷ []))),
      ),
    )
section_closed (longer_broken text gap next is spaces unclosed) whole = cc

whole : (p : Placement) (A : Type 0) (long some : Bool) → MatchBool long (Ok p ≡ Err SectionTooLong)
    (MatchBool some (Ok p ≡ Err UnclosedTag) A) → some ≡ false
whole p A true true h = cc
whole p A true false h = refl
whole p A false true h = cc
whole p A false false h = refl

pub all_spaces : (last : Bool) (gap : List ℕ) → last ≡ false → IsGap last gap ⊎ (gap ≡ []) → list_all is_space gap ≡
    true
all_spaces true gap whole h = cc
all_spaces false gap whole (inl spaces) = spaces
all_spaces false gap whole (inr none) = rw none refl

pub not_refused : (g : Geometry) (size : ℕ) (some : Bool) (tags : List Tag) (p : Placement)
    → SectionSays g size some tags (Ok p) → some ≡ false
not_refused g size some tags p says = whole p _ (nat_lt MAX_SECTION size) some says

-- the spaces behind a bracket, and what stands before them
spaces_on-closed : (text front gap : List ℕ) → list_all is_space gap ≡ true → text ≡ front ++ 93 ∷ []
    → gap ≡ spaces_on [] (text ++ gap)
spaces_on-closed text front gap all closed =
    sym (spaces_on-append [] text gap
    ∙ ap (λ l. spaces_on l gap) (ap (spaces_on []) closed ∙ spaces_on-bracket [] front)
    ∙ spaces_on-gap [] gap all)

row_cut : (text gap : List ℕ) → gap ≡ spaces_on [] (text ++ gap) → text ≡ row_of (text ++ gap)
row_cut text gap e =
    let size : length (text ++ gap) - length (spaces_on [] (text ++ gap)) ≡ length text =
    omega (arith, length-append text gap, ap length e) in
    sym (ap (λ n. take n (text ++ gap)) size ∙ take-append_seam text gap)

gap_is_spaces : (text gap : List ℕ) (tags : List Tag) (some last : Bool) → IsSection text tags some last
    → IsGap last gap ⊎ (gap ≡ []) → some ≡ false → gap ≡ spaces_on [] (text ++ gap)
gap_is_spaces text gap tags some last is spaces whole =
    let closed = section_closed is whole in
    spaces_on-closed text closed.1.0 gap (all_spaces last gap closed.0 spaces) closed.1.1

pub said_gap : (g : Geometry) (text gap front : List ℕ) (tags : List Tag) (some last : Bool) (found : Found)
    → IsSection text tags some last → IsGap last gap ⊎ (gap ≡ []) → SectionSays g (length text) some tags found
    → said_with found text (gap ++ front) ≡ said_with found (row_of (text ++ gap)) (spaces_on [] (text ++ gap) ++ front)
said_gap g text gap front tags some last (Ok p) is spaces says =
    let e = gap_is_spaces text gap tags some last is spaces (not_refused g (length text) some tags p says) in
    ap (λ l. said_with (Ok p) text (l ++ front)) e
    ∙ ap (λ l. said_with (Ok p) l (spaces_on [] (text ++ gap) ++ front)) (row_cut text gap e)
said_gap g text gap front tags some last (Err fault) is spaces says = refl

-- ---- a section that is not refused ends with a bracket
short : (p : Placement) (A : Type 0) (long some : Bool) → MatchBool long (Ok p ≡ Err SectionTooLong)
    (MatchBool some (Ok p ≡ Err UnclosedTag) A) → long ≡ false
short p A true some h = cc
short p A false some h = refl

ends_well : (g : Geometry) (seen text gap : List ℕ) (tags : List Tag) (some last : Bool) (found : Found)
    → IsSection text tags some last → IsGap last gap ⊎ (gap ≡ []) → SectionSays g (length text) some tags found
    → seen ≡ text ++ gap → EndsWell found seen
ends_well g seen text gap tags some last (Ok p) is spaces says joined =
    let closed = section_closed is (not_refused g (length text) some tags p says) in
    let few = ltb-false MAX_SECTION (length text) (short p _ (nat_lt MAX_SECTION (length text)) some says) in
    record {
      front = closed.1.0;
      gap = gap;
      spaces = all_spaces last gap closed.0 spaces;
      few = omega (arith, few, ap length closed.1.1, length-append closed.1.0 (93 ∷ []));
      joined = joined ∙ ap (λ l. l ++ gap) closed.1.1 ∙ append_assoc closed.1.0 (93 ∷ []) gap;
    }
ends_well g seen text gap tags some last (Err fault) is spaces says joined = tt

pub cut_ends_well : (g : Geometry) (seen : List ℕ) (byte : ℕ) (found : Found) → IsCut g seen byte found
    → EndsWell found seen
cut_ends_well g seen byte found c =
    ends_well g seen c.text c.gap c.tags c.some c.last found c.is (inl c.spaces) c.says c.joined

pub last_ends_well : (g : Geometry) (seen : List ℕ) (found : Found) → IsLast g seen found → EndsWell found seen
last_ends_well g seen found c =
    ends_well g seen c.text c.gap c.tags c.some c.last found c.is c.spaces c.says c.joined

-- ---- what is told of it
pub row-of_closed : (seen : List ℕ) → (r : IsRow seen) → row_of seen ≡ r.front ++ 93 ∷ []
row-of_closed seen r =
    let text = r.front ++ 93 ∷ [] in
    let whole : seen ≡ text ++ r.gap = r.joined ∙ sym (append_assoc r.front (93 ∷ []) r.gap) in
    ap row_of whole ∙ sym (row_cut text r.gap (spaces_on-closed text r.front r.gap r.spaces refl))

-- ---- what a section says, and what a text says that goes on behind it
pub cut_games : (g : Geometry) (seen more front : List ℕ) (byte : ℕ) (found : Found) (games : List Said)
    → IsCut g seen byte found → HasGames g (byte ∷ more) front games
    → HasGames g (seen ++ byte ∷ more) [] (said_with found (row_of seen) (spaces_on [] seen ++ front) ∷ games)
cut_games g seen more front byte found games c has =
    let gap : said_with found c.text (c.gap ++ front) ≡ said_with found (row_of seen) (spaces_on [] seen ++ front) =
    said_gap g c.text c.gap front c.tags c.some c.last found c.is (inl c.spaces) c.says
    ∙ ap (λ l. said_with found (row_of l) (spaces_on [] l ++ front)) (sym c.joined) in
    subst (λ l. HasGames g l [] (said_with found (row_of seen) (spaces_on [] seen ++ front) ∷ games))
    (sym (append_assoc c.text c.gap (byte ∷ more)) ∙ ap (λ l. l ++ byte ∷ more) (sym c.joined))
    (subst (λ x. HasGames g (c.text ++ (c.gap ++ byte ∷ more)) [] (x ∷ games)) gap
    (with_section c.text c.gap byte found c.is c.spaces c.ends c.says has))

pub last_games : (g : Geometry) (seen : List ℕ) (found : Found) → IsLast g seen found
    → HasGames g seen [] (said_with found (row_of seen) (spaces_on [] seen ++ []) ∷ [])
last_games g seen found c =
    let gap : said_with found c.text c.gap ≡ said_with found (row_of seen) (spaces_on [] seen ++ []) =
    ap (said_with found c.text) (sym (append-nil c.gap))
    ∙ said_gap g c.text c.gap [] c.tags c.some c.last found c.is c.spaces c.says
    ∙ ap (λ l. said_with found (row_of l) (spaces_on [] l ++ [])) (sym c.joined) in
    subst (λ l. HasGames g l [] (said_with found (row_of seen) (spaces_on [] seen ++ []) ∷ [])) (sym c.joined)
    (subst (λ x. HasGames g (c.text ++ c.gap) [] (x ∷ [])) gap (with_last c.text c.gap found c.is c.spaces c.says))

-- the empty text has no games
no_cons : (byte : ℕ) (text : List ℕ) → byte ∷ text ≡ [] → ⊥
no_cons byte text e = cc

pub empty_games : (g : Geometry) {text front : List ℕ} {games : List Said} → HasGames g text front games → text ≡ []
    → (front ≡ []) × (games ≡ [])
empty_games g no_games e = (refl, refl)
empty_games g (no_section byte neither has) e = absurd (no_cons byte _ e)
empty_games g (no_comment text is has) e = absurd (no_cons 123 _ e)
empty_games g (open_comment text is) e = absurd (no_cons 123 _ e)
empty_games g (with_section {more} text gap byte found is spaces ends says has) e =
    let begins = IsSection-begins is in
    absurd (no_cons 91 (begins.0 ++ (gap ++ byte ∷ more)) (ap (λ l. l ++ (gap ++ byte ∷ more)) (sym begins.1) ∙ e))
empty_games g (with_last text gap found is spaces says) e =
    let begins = IsSection-begins is in
    absurd (no_cons 91 (begins.0 ++ gap) (ap (λ l. l ++ gap) (sym begins.1) ∙ e))
