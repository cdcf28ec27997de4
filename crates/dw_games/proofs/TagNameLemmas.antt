-- Lemmas on the names of tags: the case of their letters, and the tags of a name.
use Rattle.std.proofs.Common.{◌≡◌, ◌+◌, ◌<◌, ℕ, List, [], ◌∷◌, ◌++◌, length, take, drop, get_or, true, false, refl, sym}
use Rattle.std.proofs.Common.{ap, ◌∙◌, inl, inr}
use Rattle.std.proofs.lemmas.List.{map-append, take-append-drop, drop_more, take_more}
use Rattle.std.proofs.lemmas.Bool.{cases_Bool}
use Rattle.dw_notation.specs.Tags.{Tag, same_name, values_named}
use Rattle.dw_games.specs.TagRows.{tag_text, said_by}
use Rattle.dw_notation.specs.declared.tags.Tag.{Tag as ReadTag}

abbrev said_of : ReadTag → Tag
said_of read = (tag_text read).tag

-- ---- the tags of a name
values_named-append : (name : List ℕ) (tags more : List Tag)
    → values_named name (tags ++ more) ≡ values_named name tags ++ values_named name more
values_named-append name [] more = refl
values_named-append name (tag ∷ tags) more = elim (cases_Bool (same_name tag.name name)) [
  | inl same ↦ rw same (ap (λ l. tag.value ∷ l) (values_named-append name tags more))
  | inr differ ↦ rw differ (values_named-append name tags more)
]

module _ (name : List ℕ) (tags : List ReadTag) (i : ℕ) (one : ReadTag) where
  pub first_named : i < length tags → one ≡ get_or tags i one → values_named name (said_by (take i tags)) ≡ []
      → same_name one.name.now name ≡ true
      → (others : List (List ℕ)) × (values_named name (said_by tags) ≡ one.value.items ∷ others)
  first_named inside is none same =
      let behind = drop (i + 1) tags in
      let whole : tags ≡ take i tags ++ one ∷ behind = sym (take-append-drop i tags)
      ∙ ap (λ l. take i tags ++ l) (drop_more tags i one inside ∙ ap (λ t. t ∷ behind) (sym is)) in
      let here : values_named name (said_by (one ∷ behind)) ≡ one.value.items ∷ values_named name (said_by behind) =
      rw same refl in (
        values_named name (said_by behind),
        ap (λ l. values_named name (said_by l)) whole
            ∙ ap (values_named name) (map-append said_of (take i tags) (one ∷ behind))
            ∙ values_named-append name (said_by (take i tags)) (said_by (one ∷ behind))
            ∙ ap (λ l. l ++ values_named name (said_by (one ∷ behind))) none ∙ here,
      )

  pub none_named : i < length tags → one ≡ get_or tags i one → values_named name (said_by (take i tags)) ≡ []
      → same_name one.name.now name ≡ false → values_named name (said_by (take (i + 1) tags)) ≡ []
  none_named inside is none differ =
      let here : values_named name (said_by (one ∷ [])) ≡ [] = rw differ refl in
      ap (λ l. values_named name (said_by l))
      (take_more tags i one inside ∙ ap (λ t. take i tags ++ t ∷ []) (sym is))
      ∙ ap (values_named name) (map-append said_of (take i tags) (one ∷ []))
      ∙ values_named-append name (said_by (take i tags)) (said_by (one ∷ []))
      ∙ ap (λ l. l ++ values_named name (said_by (one ∷ []))) none ∙ here
