-- A text begins with one tag at most, and that is the one that is read of it.
use Rattle.std.proofs.Common.{◌≡◌, ℕ, ◌==◌, ◌⊎◌, inl, inr, List, [], ◌∷◌, ◌++◌, drop, true, Option, Some, None, refl}
use Rattle.std.proofs.Common.{sym, ap, ◌∙◌, subst, append_assoc}
use Rattle.std.proofs.lemmas.Bool.{cases_Bool, eqb-true}
use Rattle.std.proofs.lemmas.List.{append_cancel_right}
use Rattle.dw_notation.specs.Tags.{Tag, IsTag, ends_line}
use Rattle.dw_notation.specs.ReadTags.{NoTag}
use Rattle.dw_notation.specs.TagLaws.{BeginsWithTag, OneTagAtFront}
use Rattle.dw_notation.specs.inner.Sections.{Section, transition, after}
use Rattle.dw_notation.specs.inner.TagReading.{TagRead, read_by, tag_from, begun}
use Rattle.dw_notation.specs.declared.problems.pdn.automaton.State.{State}
use Rattle.dw_notation.specs.declared.problems.pdn.automaton.State.TheVariants.{BeforeName}
use Rattle.dw_notation.proofs.TagReadingLemmas.{inside_read, tag_reads, tag_body}
use Rattle.dw_notation.proofs.TagBreakingLemmas.{SoFar, tag_goes_on, line_ends}
use Rattle.dw_notation.proofs.TagBreakingLemmas.SoFar.{before}

no_read : {one : TagRead} → None ≡ Some one → ⊥
no_read e = cc

-- a whole tag is read
pub tag_is_read : (text more inside : List ℕ) (tag : Tag) → IsTag text tag → 91 ∷ inside ≡ text ++ more
    → tag_from BeforeName begun inside ≡ Some (record { name = tag.name; value = tag.value; more = more })
tag_is_read text more inside tag is e =
    let body = is.first ++ (tag.name ++ (is.middle ++ 34 ∷ (is.spelling ++ 34 ∷ is.last))) in
    let whole : inside ≡ body ++ 93 ∷ more =
    ap (drop 1) (e ∙ ap (λ l. l ++ more) is.joined)
    ∙ tag_body is.first tag.name is.middle is.spelling (is.last ++ 93 ∷ []) more
    ∙ ap (λ l. is.first ++ (tag.name ++ (is.middle ++ 34 ∷ (is.spelling ++ 34 ∷ l)))) (append_assoc is.last (93 ∷ [])
    more) ∙ sym (tag_body is.first tag.name is.middle is.spelling is.last (93 ∷ more)) in
    ap (tag_from BeforeName begun) whole
    ∙ inside_read (93 ∷ more) (tag_reads begun tag is.first is.middle is.last is.spelling _ refl is.blank_first
    is.blank_middle is.blank_last is.some is.named is.spells refl)

-- what is read is a whole tag
read_is_tag : (line : List ℕ) (state : State) (text : List ℕ) (s : Section) (one : TagRead) → SoFar state text
    → tag_from state s line ≡ Some one → BeginsWithTag (text ++ line)
read_is_tag [] state text s one so_far e = absurd (no_read e)
read_is_tag (byte ∷ line) state text s one so_far e = elim (cases_Bool (ends_line byte)) [
  | inl ends ↦ absurd (no_read (ap (λ x. read_by x.action s line (λ t. tag_from x.state t line))
      (sym (line_ends byte ends so_far)) ∙ e))
  | inr in_line ↦ elim (tag_goes_on byte in_line so_far) [
    | inl on ↦
        let to = transition state byte in
        subst BeginsWithTag (append_assoc text (byte ∷ []) line) (read_is_tag line to.state (text ++ byte ∷ [])
        (after to.action s) one on.0 (on.1.goes s line (λ t. tag_from to.state t line) one e))
    | inr whole ↦ record {
      text = text ++ byte ∷ [];
      more = line;
      tag = whole.0;
      joined = sym (append_assoc text (byte ∷ []) line);
      is = whole.1;
    }
  ]
]

pub begins_with_read : (inside : List ℕ) (one : TagRead) → tag_from BeforeName begun inside ≡ Some one
    → BeginsWithTag (91 ∷ inside)
begins_with_read inside one e = read_is_tag inside BeforeName (91 ∷ []) begun one (before [] refl) e

pub no_tag_read : (inside : List ℕ) → tag_from BeforeName begun inside ≡ None → NoTag (91 ∷ inside)
no_tag_read inside e text more tag joined is = no_read (sym e ∙ tag_is_read text more inside tag is joined)

pub tag_or_none : (inside : List ℕ) → BeginsWithTag (91 ∷ inside) ⊎ NoTag (91 ∷ inside)
tag_or_none inside = by_read (tag_from BeforeName begun inside) refl where
  by_read : (o : Option TagRead) → tag_from BeforeName begun inside ≡ o
      → BeginsWithTag (91 ∷ inside) ⊎ NoTag (91 ∷ inside)
  by_read None e = inr (no_tag_read inside e)
  by_read (Some one) e = inl (begins_with_read inside one e)

-- ---- it is the only one
begins_with_bracket : (bytes : List ℕ) → (b : BeginsWithTag bytes) → 91 ∷ drop 1 bytes ≡ bytes
begins_with_bracket bytes b =
    let whole = b.joined ∙ ap (λ l. l ++ b.more) b.is.joined in
    subst (λ l. 91 ∷ drop 1 l ≡ l) (sym whole) refl

pub no_bracket : (bytes : List ℕ) → ((inside : List ℕ) → bytes ≡ 91 ∷ inside → ⊥) → NoTag bytes
no_bracket bytes none text more tag joined is = none (drop 1 bytes)
    (sym (begins_with_bracket bytes (record { text = text; more = more; tag = tag; joined = joined; is = is })))

pub same_read : {one other : TagRead} → Some one ≡ Some other → one ≡ other
same_read e = cc

begins_or_none : (bytes : List ℕ) → BeginsWithTag bytes ⊎ NoTag bytes
begins_or_none [] = inr (no_bracket [] (λ inside e. let bad : ⊥ = cc in bad))
begins_or_none (byte ∷ inside) = elim (cases_Bool (byte == 91)) [
  | inl bracket ↦ subst (λ b. BeginsWithTag (b ∷ inside) ⊎ NoTag (b ∷ inside)) (sym (eqb-true byte 91 bracket))
      (tag_or_none inside)
  | inr other ↦ inr (no_bracket (byte ∷ inside) (λ more e. let head : byte ≡ 91 = cc in
      let bad : true ≡ (byte == 91) = sym (rw head refl) in let worse : ⊥ = cc in worse))
]

pub one_tag_at_front : OneTagAtFront
one_tag_at_front = record {
  some = begins_or_none;
  only = λ bytes first other.
      let opens = begins_with_bracket bytes first in
      let same = same_read (sym (tag_is_read other.text other.more (drop 1 bytes) other.tag other.is
      (opens ∙ other.joined)) ∙ tag_is_read first.text first.more (drop 1 bytes) first.tag first.is
      (opens ∙ first.joined)) in
      let rest = ap (λ one. one.more) same in (
        append_cancel_right other.text first.text other.more
            (sym other.joined ∙ first.joined ∙ ap (λ l. first.text ++ l) (sym rest)),
        ap (λ one. record { name = one.name; value = one.value }) same,
        rest,
      );
}
