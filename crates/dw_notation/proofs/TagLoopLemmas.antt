-- Lemmas on a tag that is read in a loop, and on the place of its name.
use Rattle.std.proofs.Common.{◌≡◌, ℕ, ◌+◌, ◌<◌, ◌≤◌, List, [], ◌∷◌, ◌++◌, length, take, drop, slice_index, true, false}
use Rattle.std.proofs.Common.{Option, None, refl, sym, ap, ◌∙◌, subst, arith, length-append}
use Rattle.std.proofs.Math.Seq.{take-append_seam}
use Rattle.std.proofs.lemmas.Bool.{and_parts}
use Rattle.std.proofs.lemmas.List.{drop_more, drop_all, take-append-drop, length-drop}
use Rattle.std.specs.List.{list_all}
use Rattle.dw_board.specs.FenTokens.{is_blank}
use Rattle.dw_notation.specs.Tags.{Tag, IsTag, is_name_byte}
use Rattle.dw_notation.specs.ReadTags.{NoTag}
use Rattle.dw_notation.specs.inner.Sections.{Section, transition}
use Rattle.dw_notation.specs.inner.TagReading.{TagRead, read_by, tag_from, begun, ReadsTag, begins_blank}
use Rattle.dw_notation.specs.declared.problems.pdn.automaton.State.{State}
use Rattle.dw_notation.specs.declared.problems.pdn.automaton.State.TheVariants.{BeforeName}
use Rattle.dw_notation.specs.declared.problems.pdn.automaton.Action.{Action}
use Rattle.dw_notation.specs.declared.problems.pdn.automaton.Action.TheVariants.{Keep, Open, Count, AddName, OpenValue}
use Rattle.dw_notation.specs.declared.problems.pdn.automaton.Action.TheVariants.{AddValue, AddBoth, Close, Break}
use Rattle.dw_notation.specs.declared.problems.pdn.automaton.Action.TheVariants.{EndLine, NextTag, End}
use Rattle.dw_notation.specs.declared.problems.pdn.automaton.Transition.{Transition}
use Rattle.dw_notation.proofs.TagReadingLemmas.{name_not_blank}
use Rattle.dw_notation.proofs.TagFrontLemmas.{tag_is_read, begins_with_read, no_tag_read, same_read}

pub ReadsTag-start : (inside value : List ℕ) → value ≡ [] → ReadsTag inside 0 BeforeName 0 value
ReadsTag-start inside value none = record {
  section = begun;
  is_named = refl;
  few = omega arith;
  is_value = sym none;
  same = refl;
}

-- no other bytes go on with a tag or end it
pub breaks_tag : (action : Action) (s : Section) (bytes : List ℕ) (further : Section → Option TagRead)
    → (action ≡ Count → ⊥) → ((byte : ℕ) → action ≡ AddName byte → ⊥) → (action ≡ OpenValue → ⊥)
    → ((byte : ℕ) → action ≡ AddValue byte → ⊥) → ((byte : ℕ) → action ≡ AddBoth byte → ⊥) → (action ≡ Close → ⊥)
    → read_by action s bytes further ≡ None
breaks_tag Keep s bytes further c n o v b e = refl
breaks_tag Open s bytes further c n o v b e = refl
breaks_tag Count s bytes further c n o v b e = absurd (c refl)
breaks_tag (AddName byte) s bytes further c n o v b e = absurd (n byte refl)
breaks_tag OpenValue s bytes further c n o v b e = absurd (o refl)
breaks_tag (AddValue byte) s bytes further c n o v b e = absurd (v byte refl)
breaks_tag (AddBoth byte) s bytes further c n o v b e = absurd (b byte refl)
breaks_tag Close s bytes further c n o v b e = absurd (e refl)
breaks_tag Break s bytes further c n o v b e = refl
breaks_tag EndLine s bytes further c n o v b e = refl
breaks_tag NextTag s bytes further c n o v b e = refl
breaks_tag End s bytes further c n o v b e = refl

module _ (inside : List ℕ) (i : ℕ) (state : State) (named : ℕ) (value : List ℕ) (t : Transition)
    (r : ReadsTag inside i state named value) (within : i < length inside)
    (is : t ≡ transition state (slice_index inside i)) where
  pub read_next : tag_from BeforeName begun inside
      ≡ read_by t.action r.section (drop (i + 1) inside) (λ u. tag_from t.state u (drop (i + 1) inside))
  read_next = r.same ∙ ap (tag_from state r.section) (drop_more inside i 0 within)
      ∙ ap (λ x. read_by x.action r.section (drop (i + 1) inside) (λ u. tag_from x.state u (drop (i + 1) inside))) (sym
      is)

  -- the tag goes on
  pub ReadsTag-step : (s : Section) (now : ℕ) (longer : List ℕ)
      → read_by t.action r.section (drop (i + 1) inside) (λ u. tag_from t.state u (drop (i + 1) inside))
      ≡ tag_from t.state s (drop (i + 1) inside)
      → length s.name ≡ now → now ≤ i + 1 → s.value ≡ longer → ReadsTag inside (i + 1) t.state now longer
  ReadsTag-step s now longer goes is_now few is_longer = record {
    section = s;
    is_named = is_now;
    few = few;
    is_value = is_longer;
    same = read_next ∙ goes;
  }

  -- it is whole
  pub whole_tag : (text cut : List ℕ) → text ≡ 91 ∷ inside → t.action ≡ Close → cut ≡ take (i + 2) text
      → (said : Tag) × IsTag cut said × (length said.name ≡ named) × (said.value ≡ value)
      × (text ≡ cut ++ drop (i + 1) inside)
  whole_tag text cut bracket closes is_cut =
      let read = read_next
      ∙ ap (λ a. read_by a r.section (drop (i + 1) inside) (λ u. tag_from t.state u (drop (i + 1) inside))) closes in
      let b = begins_with_read inside _ read in
      let same = same_read (sym (tag_is_read b.text b.more inside b.tag b.is b.joined) ∙ read) in
      let more : b.more ≡ drop (i + 1) inside = ap (λ one. one.more) same in
      let size : i + 2 ≡ length b.text =
      omega (arith, ap length b.joined, length-append b.text b.more, ap length more, length-drop (i + 1) inside, within)
      in
      let front : b.text ≡ cut = sym (is_cut ∙ ap (take (i + 2)) (bracket ∙ b.joined)
      ∙ ap (λ n. take n (b.text ++ b.more)) size ∙ take-append_seam b.text b.more) in (
        b.tag,
        subst (λ l. IsTag l b.tag) front b.is,
        ap (λ one. length one.name) same ∙ r.is_named,
        ap (λ one. one.value) same ∙ r.is_value,
        bracket ∙ b.joined ∙ ap (λ l. l ++ b.more) front ∙ ap (λ l. cut ++ l) more,
      )

  -- it is broken
  pub broken_tag : (text : List ℕ) → text ≡ 91 ∷ inside
      → read_by t.action r.section (drop (i + 1) inside) (λ u. tag_from t.state u (drop (i + 1) inside)) ≡ None
      → NoTag text
  broken_tag text bracket broken = subst NoTag (sym bracket) (no_tag_read inside (read_next ∙ broken))

-- the text ends in it
pub open_tag : (text inside : List ℕ) (i : ℕ) (state : State) (named : ℕ) (value : List ℕ) → text ≡ 91 ∷ inside
    → ReadsTag inside i state named value → length inside ≤ i → NoTag text
open_tag text inside i state named value bracket r over = subst NoTag (sym bracket)
    (no_tag_read inside (r.same ∙ ap (tag_from state r.section) (drop_all i inside over)))

-- ---- the blanks before a name
no_true : true ≡ false → ⊥
no_true h = cc

tail-eq : (a b : ℕ) (x y : List ℕ) → a ∷ x ≡ b ∷ y → x ≡ y
tail-eq a b x y e = ap (drop 1) e

one_run : (a b x y : List ℕ) → list_all is_blank a ≡ true → begins_blank x ≡ false → list_all is_blank b ≡ true
    → begins_blank y ≡ false → a ++ x ≡ b ++ y → x ≡ y
one_run [] [] x y all ends also stops e = e
one_run [] (byte ∷ b) x y all ends also stops e =
    let none : is_blank byte ≡ false = subst (λ l. begins_blank l ≡ false) e ends in
    absurd (no_true (sym (and_parts (is_blank byte) (list_all is_blank b) also).0 ∙ none))
one_run (byte ∷ a) [] x y all ends also stops e =
    let none : is_blank byte ≡ false = subst (λ l. begins_blank l ≡ false) (sym e) stops in
    absurd (no_true (sym (and_parts (is_blank byte) (list_all is_blank a) all).0 ∙ none))
one_run (byte ∷ a) (other ∷ b) x y all ends also stops e = one_run a b x y
    (and_parts (is_blank byte) (list_all is_blank a) all).1 ends
    (and_parts (is_blank other) (list_all is_blank b) also).1 stops (tail-eq byte other (a ++ x) (b ++ y) e)

name_begins : (name more : List ℕ) → 0 < length name → list_all is_name_byte name ≡ true
    → begins_blank (name ++ more) ≡ false
name_begins [] more some all = absurd (omega (arith, some))
name_begins (byte ∷ name) more some all =
    name_not_blank byte (and_parts (is_name_byte byte) (list_all is_name_byte name) all).0

-- the name stands behind them
pub name_at : (text inside behind : List ℕ) (k : ℕ) (said : Tag) → IsTag text said → inside ≡ drop 1 text
    → behind ≡ drop k inside → list_all is_blank (take k inside) ≡ true → begins_blank (drop k inside) ≡ false
    → (rest : List ℕ) × (behind ≡ said.name ++ rest)
name_at text inside behind k said is is_inside is_behind all ends =
    let rest = is.middle ++ 34 ∷ (is.spelling ++ 34 ∷ (is.last ++ 93 ∷ [])) in (
      rest,
      is_behind ∙ one_run (take k inside) is.first (drop k inside) (said.name ++ rest) all ends is.blank_first
          (name_begins said.name rest is.some is.named)
          (take-append-drop k inside ∙ is_inside ∙ ap (drop 1) is.joined),
    )

pub name_fits : (behind name rest : List ℕ) (named : ℕ) → behind ≡ name ++ rest → length name ≡ named
    → named ≤ length behind
name_fits behind name rest named e size = omega (arith, ap length e, length-append name rest, size)

pub name_taken : (behind name rest : List ℕ) (named : ℕ) → behind ≡ name ++ rest → length name ≡ named
    → take named behind ≡ name
name_taken behind name rest named e size = ap (take named) e ∙ ap (λ n. take n (name ++ rest)) (sym size)
    ∙ take-append_seam name rest
