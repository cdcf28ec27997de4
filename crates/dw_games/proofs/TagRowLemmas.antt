-- Lemmas on the whole tags of a text: it has one row of them, and those of a section are its own.
use Rattle.std.proofs.Common.{◌≡◌, ◌<◌, ◌≤◌, ℕ, zero, suc, List, [], ◌∷◌, ◌++◌, length, drop, Bool, true, false, map}
use Rattle.std.proofs.Common.{reverse, refl, sym, ap, ◌∙◌, subst, arith, append_assoc, append-nil, length-append, inl}
use Rattle.std.proofs.Common.{inr}
use Rattle.std.proofs.Math.Seq.{drop-append_seam}
use Rattle.std.proofs.lemmas.Bool.{and_parts, cases_Bool}
use Rattle.std.proofs.lemmas.List.{map-append, reverse-append}
use Rattle.std.specs.List.{list_all}
use Rattle.dw_notation.specs.Tags.{Tag, IsTag, is_space, IsSection}
use Rattle.dw_notation.specs.ReadTags.{NoTag}
use Rattle.dw_notation.specs.Tags.IsSection.{single, broken, longer, longer_broken}
use Rattle.dw_games.specs.Tokens.{begins_with}
use Rattle.dw_games.specs.TagRows.{TagText, AreTags, tag_text}
use Rattle.dw_games.specs.TagRows.AreTags.{nothing, space, tag}
use Rattle.dw_games.specs.TagRowLaws.{OneRowOfTags, SectionsHaveTheirTags}
use Rattle.dw_notation.specs.TagLaws.{BeginsWithTag, OneTagAtFront}
use Rattle.dw_notation.specs.declared.tags.Tag.{Tag as ReadTag}
use Rattle.dw_games.proofs.SectionLemmas.{first, section_closed, all_spaces}

-- ---- a text has one row of tags
no_true : true ≡ false → ⊥
no_true h = cc

tag_opens : (text more : List ℕ) (said : Tag) → IsTag text said → (rest : List ℕ) × (text ++ more ≡ 91 ∷ rest)
tag_opens text more said is = (_, ap (λ l. l ++ more) is.joined)

no_space : (bytes rest : List ℕ) (byte : ℕ) → is_space byte ≡ true → byte ∷ bytes ≡ 91 ∷ rest → ⊥
no_space bytes rest byte is e =
    let bad : false ≡ true = subst (λ b. is_space b ≡ true) (ap first e) is in no_true (sym bad)

at_nothing : (bytes : List ℕ) → begins_with is_space bytes ≡ false → NoTag bytes → {text : List ℕ}
    {tags : List TagText} → AreTags text tags → text ≡ bytes → tags ≡ []
at_nothing bytes stops none (nothing no_space_there no_tag) e = refl
at_nothing bytes stops none (space {byte} {bytes = more} is are) e =
    absurd (no_true (sym is ∙ subst (λ l. begins_with is_space l ≡ false) (sym e) stops))
at_nothing bytes stops none (tag {bytes = more} {said} text is are) e = absurd (none text more said (sym e) is)

at_space : (byte : ℕ) (bytes : List ℕ) → is_space byte ≡ true → {text : List ℕ} {tags : List TagText}
    → AreTags text tags → text ≡ byte ∷ bytes → AreTags bytes tags
at_space byte bytes blank (nothing stops none) e =
    absurd (no_true (sym blank ∙ subst (λ l. begins_with is_space l ≡ false) e stops))
at_space byte bytes blank (space {tags} is are) e = subst (λ l. AreTags l tags) (ap behind_first e) are where
  behind_first : List ℕ → List ℕ
  behind_first [] = []
  behind_first (b ∷ l) = l
at_space byte bytes blank (tag {bytes = more} {said} text is are) e =
    let opens = tag_opens text more said is in absurd (no_space bytes opens.0 byte blank (sym e ∙ opens.1))

at_tag : OneTagAtFront → (front bytes : List ℕ) (said : Tag) → IsTag front said → {text : List ℕ} {tags : List TagText}
    → AreTags text tags → text ≡ front ++ bytes
    → (later : List TagText) × AreTags bytes later × (tags ≡ record { text = front; tag = said } ∷ later)
at_tag law front bytes said is (nothing stops none) e = absurd (none front bytes said e is)
at_tag law front bytes said is (space {byte} {bytes = more} blank are) e =
    let opens = tag_opens front bytes said is in absurd (no_space more opens.0 byte blank (e ∙ opens.1))
at_tag law front bytes said is (tag {bytes = more} {said = also} {tags} text that are) e =
    let same = law.only (front ++ bytes)
    (record { text = front; more = bytes; tag = said; joined = refl; is = is })
    (record { text = text; more = more; tag = also; joined = sym e; is = that }) in (
      tags,
      subst (λ l. AreTags l tags) same.2 are,
      ap (λ l. record { text = l; tag = also } ∷ tags) same.0 ∙ ap (λ s. record { text = front; tag = s } ∷ tags)
          same.1,
    )

one_row : OneTagAtFront → {text other : List ℕ} {tags others : List TagText} → AreTags text tags → AreTags other others
    → other ≡ text → others ≡ tags
one_row law (nothing {bytes} stops none) second e = at_nothing bytes stops none second e
one_row law (space {byte} {bytes} is are) second e = one_row law are (at_space byte bytes is second e) refl
one_row law (tag {bytes} {said} {tags} text is are) second e =
    let r = at_tag law text bytes said is second e in
    r.2 ∙ ap (λ l. record { text = text; tag = said } ∷ l) (one_row law are r.1 refl)

-- ---- a row of tags that is read
pub spaces_before : (gap bytes : List ℕ) (tags : List TagText) → list_all is_space gap ≡ true → AreTags bytes tags
    → AreTags (gap ++ bytes) tags
spaces_before [] bytes tags all are = are
spaces_before (byte ∷ gap) bytes tags all are =
    let both = and_parts (is_space byte) (list_all is_space gap) all in
    space both.0 (spaces_before gap bytes tags both.1 are)

pub tags_on : (section rest back after : List ℕ) (read now : List ReadTag) (one : ReadTag)
    → ((more : List TagText) → AreTags rest more → AreTags section (map tag_text read ++ more))
    → (behind : List ℕ) × (rest ≡ one.text.now ++ behind) × IsTag one.text.now (tag_text one).tag
    → back ≡ drop (length one.text.now) rest
    → ((more : List TagText) → AreTags after more → AreTags back more) → now ≡ read ++ one ∷ []
    → (more : List TagText) → AreTags after more → AreTags section (map tag_text now ++ more)
tags_on section rest back after read now one ahead here is_back spaces is_now = λ more are.
    let behind : back ≡ here.0 =
    is_back ∙ ap (drop (length one.text.now)) here.1 ∙ drop-append_seam one.text.now here.0 in
    let whole : AreTags rest (tag_text one ∷ more) = subst (λ l. AreTags l (tag_text one ∷ more)) (sym here.1)
    (tag one.text.now here.2 (subst (λ l. AreTags l more) behind (spaces more are))) in
    let row : map tag_text now ++ more ≡ map tag_text read ++ tag_text one ∷ more =
    ap (λ l. map tag_text l ++ more) is_now ∙ ap (λ l. l ++ more) (map-append tag_text read (one ∷ []))
    ∙ append_assoc (map tag_text read) (tag_text one ∷ []) more in
    subst (AreTags section) (sym row) (ahead (tag_text one ∷ more) whole)

pub tags_over : (section rest : List ℕ) (read : List ReadTag)
    → ((more : List TagText) → AreTags rest more → AreTags section (map tag_text read ++ more))
    → begins_with is_space rest ≡ false → NoTag rest → AreTags section (map tag_text read)
tags_over section rest read ahead stops none =
    subst (AreTags section) (append-nil (map tag_text read)) (ahead [] (nothing stops none))

-- ---- each text has one
no_tag : NoTag []
no_tag text more said e is = no_cons (e ∙ (tag_opens text more said is).1) where
  no_cons : {rest : List ℕ} → [] ≡ 91 ∷ rest → ⊥
  no_cons h = cc

shorter : (bytes : List ℕ) → (t : BeginsWithTag bytes) → length t.more < length bytes
shorter bytes t = omega (arith, ap length t.joined, length-append t.text t.more, ap length t.is.joined)

tags_within : OneTagAtFront → (n : ℕ) (text : List ℕ) → length text ≤ n → (tags : List TagText) × AreTags text tags
tags_within law n [] fits = ([], nothing refl no_tag)
tags_within law zero (byte ∷ text) fits = absurd (omega (arith, fits))
tags_within law (suc n) (byte ∷ text) fits = elim (cases_Bool (is_space byte)) [
  | inl blank ↦ let r = tags_within law n text (omega (arith, fits)) in (r.0, space blank r.1)
  | inr stops ↦ elim (law.some (byte ∷ text)) [
    | inr none ↦ ([], nothing stops none)
    | inl t ↦
        let r = tags_within law n t.more (omega (arith, fits, shorter (byte ∷ text) t)) in
        let one : TagText = record { text = t.text; tag = t.tag } in
        (one ∷ r.0, subst (λ l. AreTags l (one ∷ r.0)) (sym t.joined) (tag t.text t.is r.1))
  ]
]

pub one_row_of_tags : OneTagAtFront → OneRowOfTags
one_row_of_tags law text =
    let r = tags_within law (length text) text (omega arith) in
    record { tags = r.0; are = r.1; one = λ others are. one_row law r.1 are refl }

-- ---- those of a section
record HasTags (text : List ℕ) (tags : List Tag) : Type 0 where
  pub texts : List TagText
  pub said : map (λ (t : TagText). t.tag) texts ≡ reverse tags
  pub are : (more : List ℕ) (later : List TagText) → AreTags more later → AreTags (text ++ more) (texts ++ later)

section_has : {text : List ℕ} {tags : List Tag} {some last : Bool} → IsSection text tags some last → some ≡ false
    → HasTags text tags
section_has (single {text} {tag = said} is) whole = record {
  texts = record { text = text; tag = said } ∷ [];
  said = refl;
  are = λ more later are. tag text is are;
}
section_has (broken is) whole = absurd (no_true whole)
section_has (longer text gap next {tags} {tag = said} {last} is spaces next_is) whole =
    let r = section_has is whole in
    let one : TagText = record { text = next; tag = said } in
    let closed = section_closed is whole in
    let all = all_spaces last gap closed.0 (inl spaces) in
    record {
      texts = r.texts ++ one ∷ [];
      said = map-append (λ (t : TagText). t.tag) r.texts (one ∷ []) ∙ ap (λ l. l ++ said ∷ []) r.said
          ∙ sym (reverse-append (said ∷ []) tags);
      are = λ more later are.
          let behind = r.are (gap ++ (next ++ more)) (one ∷ later)
          (spaces_before gap (next ++ more) (one ∷ later) all (tag next next_is are)) in
          subst (λ l. AreTags l ((r.texts ++ one ∷ []) ++ later))
          (sym (append_assoc text (gap ++ next) more ∙ ap (λ l. text ++ l) (append_assoc gap next more)))
          (subst (AreTags (text ++ (gap ++ (next ++ more)))) (sym (append_assoc r.texts (one ∷ []) later)) behind);
    }
section_has (longer_broken text gap next is spaces unclosed) whole = absurd (no_true whole)

pub sections_have_their_tags : OneTagAtFront → SectionsHaveTheirTags
sections_have_their_tags law text tags found is are =
    let r = section_has is refl in
    let there : AreTags text r.texts = subst (λ l. AreTags l r.texts) (append-nil text)
    (subst (AreTags (text ++ [])) (append-nil r.texts) (r.are [] [] (nothing refl no_tag))) in
    ap (map (λ (t : TagText). t.tag)) (one_row law there are refl) ∙ r.said
