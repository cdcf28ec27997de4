-- What a text of lines says is what is found in it.
use Rattle.std.proofs.Common.{◌≡◌, ℕ, ◌==◌, List, [], ◌∷◌, ◌++◌, length, Bool, true, false, cond, nat_lt, MatchBool}
use Rattle.std.proofs.Common.{Some, None, Ok, Err, option_to_list, refl, sym, ap, subst, ◌∙◌, append_assoc, append-nil}
use Rattle.std.proofs.Common.{inl, inr, arith, codes, map}
use Rattle.std.proofs.lemmas.Bool.{cases_Bool, and_parts, eqb-true}
use Rattle.std.specs.Char.{to_ascii_lowercase}
use Rattle.std.specs.List.{list_all}
use Rattle.dw_board.specs.Geometry.{Geometry}
use Rattle.dw_board.specs.FenTokens.{is_blank}
use Rattle.dw_board.specs.Fen.{fen}
use Rattle.dw_board.specs.FenLaws.{ReadingIsGrammar, FaultIsGrammar}
use Rattle.dw_notation.specs.TextLines.{NoLineFeed, without_return, Found, FenSays, LineSays, if_over, LinesSay}
use Rattle.dw_notation.specs.TextLines.LinesSay.{last, one_more}
use Rattle.dw_notation.specs.Tags.{Tag, same_name, values_named, game_of, is_wrong, FensSay, SectionSays}
use Rattle.dw_notation.specs.inner.Tags.{with_fen, fens_of, with_game, games_of, tags_found}
use Rattle.dw_notation.specs.inner.Sections.{fens_found}
use Rattle.dw_notation.specs.inner.TextLines.{fen_found, text_found, line_found}
use Rattle.dw_notation.specs.inner.Ahead.{found_from}
use Rattle.dw_notation.specs.declared.problems.TheConstants.{MAX_LINE, MAX_SECTION}
use Rattle.dw_notation.specs.declared.problems.ProblemFault.TheVariants.{Fen, NoFen, TwoFens, WrongGame, LineTooLong}
use Rattle.dw_notation.specs.declared.problems.ProblemFault.TheVariants.{SectionTooLong, UnclosedTag, UnclosedComment}
use Rattle.dw_notation.specs.declared.problems.ProblemFault.TheVariants.{TooManyProblems}
use Rattle.dw_notation.specs.declared.problems.pdn.section.TagKind.TheVariants.{FenTag, GameTag, OtherTag}
use Rattle.dw_notation.proofs.CutLemmas.{NoLineFeed-push, found_from-piece}

-- ---- the values of tags
same_name-length : (name other : List ℕ) → same_name name other ≡ true → length name ≡ length other
same_name-length [] [] h = refl
same_name-length [] (b ∷ other) h = cc
same_name-length (a ∷ name) [] h = cc
same_name-length (a ∷ name) (b ∷ other) h =
    let parts = and_parts (to_ascii_lowercase a == to_ascii_lowercase b) (same_name name other) h in
    let rest = same_name-length name other parts.1 in
    omega (arith, rest)

-- no tag is of both names
no_game : (name : List ℕ) → same_name name (codes "FEN") ≡ true → same_name name (codes "GameType") ≡ false
no_game name fen = elim (cases_Bool (same_name name (codes "GameType"))) [
  | inl game ↦
      let three : length name ≡ 3 = same_name-length name (codes "FEN") fen in
      let eight : length name ≡ 8 = same_name-length name (codes "GameType") game in
      absurd (omega (arith, three, eight))
  | inr none ↦ none
]

fen_value : (fen game : Bool) (value : List ℕ) (fens named : List (List ℕ)) → fens ≡ named
    → with_fen (cond fen FenTag (cond game GameTag OtherTag)) value fens ≡ cond fen (value ∷ named) named
fen_value true game value fens named rest = ap (λ l. value ∷ l) rest
fen_value false true value fens named rest = rest
fen_value false false value fens named rest = rest

fens_named : (tags : List Tag) → fens_of tags ≡ values_named (codes "FEN") tags
fens_named [] = refl
fens_named (tag ∷ tags) = fen_value (same_name tag.name (codes "FEN")) (same_name tag.name (codes "GameType")) tag.value
    (fens_of tags) (values_named (codes "FEN") tags) (fens_named tags)

game_value : (fen game : Bool) (value games : List ℕ) (named : List (List ℕ)) → games ≡ map game_of named
    → (fen ≡ true → game ≡ false)
    → with_game (cond fen FenTag (cond game GameTag OtherTag)) value games ≡ map game_of (cond game (value ∷ named)
    named)
game_value true true value games named rest apart = let bad : true ≡ false = apart refl in cc
game_value true false value games named rest apart = rest
game_value false true value games named rest apart = ap (λ l. game_of value ∷ l) rest
game_value false false value games named rest apart = rest

games_named : (tags : List Tag) → games_of tags ≡ map game_of (values_named (codes "GameType") tags)
games_named [] = refl
games_named (tag ∷ tags) = game_value (same_name tag.name (codes "FEN")) (same_name tag.name (codes "GameType"))
    tag.value (games_of tags) (values_named (codes "GameType") tags) (games_named tags) (no_game tag.name)

-- ---- a FEN text
-- reading one gives what the grammar does, a position or a fault
abbrev pub FensAreRead : Type 0
FensAreRead = ReadingIsGrammar × FaultIsGrammar

module _ (law : FensAreRead) where
  pub fen_says : (g : Geometry) (text : List ℕ) → FenSays g text (fen_found (fen g text))
  fen_says g text = by_case (fen g text) refl where
    by_case : (r : _) → fen g text ≡ r → FenSays g text (fen_found r)
    by_case (Ok p) e = (law.0 g text p).0 e
    by_case (Err fault) e = (law.1 g text fault).0 e

  pub fen_says-only : (g : Geometry) (text : List ℕ) (found : Found) → FenSays g text found
      → found ≡ fen_found (fen g text)
  fen_says-only g text (Ok p) h = sym (ap fen_found ((law.0 g text p).1 h))
  fen_says-only g text (Err (Fen fault)) h = sym (ap fen_found ((law.1 g text fault).1 h))
  fen_says-only g text (Err NoFen) h = absurd h
  fen_says-only g text (Err TwoFens) h = absurd h
  fen_says-only g text (Err WrongGame) h = absurd h
  fen_says-only g text (Err LineTooLong) h = absurd h
  fen_says-only g text (Err SectionTooLong) h = absurd h
  fen_says-only g text (Err UnclosedTag) h = absurd h
  fen_says-only g text (Err UnclosedComment) h = absurd h
  fen_says-only g text (Err TooManyProblems) h = absurd h

  -- ---- a line
  text_says : (g : Geometry) (text : List ℕ) → LineSays g text (option_to_list (text_found g text))
  text_says g text = by_case (nat_lt MAX_LINE (length text)) (list_all is_blank text) where
    by_case : (long blank : Bool) → MatchBool long
        (option_to_list (cond long (Some (Err LineTooLong)) (cond blank None (Some (fen_found (fen g text)))))
        ≡ Err LineTooLong ∷ [])
        (MatchBool blank
        (option_to_list (cond long (Some (Err LineTooLong)) (cond blank None (Some (fen_found (fen g text))))) ≡ [])
        ((found : Found) × FenSays g text found
        × (option_to_list (cond long (Some (Err LineTooLong)) (cond blank None (Some (fen_found (fen g text)))))
        ≡ found ∷ [])))
    by_case true blank = refl
    by_case false true = refl
    by_case false false = (fen_found (fen g text), fen_says g text, refl)

  text_says-only : (g : Geometry) (text : List ℕ) (said : List Found) → LineSays g text said
      → said ≡ option_to_list (text_found g text)
  text_says-only g text said = by_case (nat_lt MAX_LINE (length text)) (list_all is_blank text) where
    by_case : (long blank : Bool) → MatchBool long (said ≡ Err LineTooLong ∷ [])
        (MatchBool blank (said ≡ []) ((found : Found) × FenSays g text found × (said ≡ found ∷ [])))
        → said ≡ option_to_list (cond long (Some (Err LineTooLong)) (cond blank None (Some (fen_found (fen g text)))))
    by_case true blank h = h
    by_case false true h = h
    by_case false false h = h.2 ∙ ap (λ f. f ∷ []) (fen_says-only g text h.0 h.1)

  line_says : (g : Geometry) (line : List ℕ) → LineSays g (without_return line) (option_to_list (line_found g line))
  unfolding line_found
  line_says g line = text_says g (without_return line)

  line_says-only : (g : Geometry) (line : List ℕ) (said : List Found) → LineSays g (without_return line) said
      → said ≡ option_to_list (line_found g line)
  unfolding line_found
  line_says-only g line said h = text_says-only g (without_return line) said h

  -- ---- a text of lines
  over_found : (over : Bool) (g : Geometry) (line : List ℕ) → found_from over g false line []
      ≡ if_over over (option_to_list (line_found g line))
  over_found true g line = refl
  over_found false g line = refl

  lines_say-from : (g : Geometry) (over : Bool) (line bytes : List ℕ) → NoLineFeed line
      → LinesSay g over (line ++ bytes) (found_from over g false line bytes)
  lines_say-from g over line [] none =
      subst (λ l. LinesSay g over l (found_from over g false line [])) (sym (append-nil line))
      (subst (LinesSay g over line) (sym (over_found over g line)) (last line (option_to_list (line_found g line)) none
      (line_says g line)))
  lines_say-from g over line (byte ∷ bytes) none = elim (cases_Bool (byte == 10)) [
    | inl feed ↦ rw feed (subst (λ b. LinesSay g over (line ++ b ∷ bytes) (option_to_list (line_found g line)
        ++ found_from over g false [] bytes)) (sym (eqb-true byte 10 feed)) (one_more line (option_to_list (line_found g
        line)) none (line_says g line) (lines_say-from g over [] bytes tt)))
    | inr other ↦ rw other (subst (λ l. LinesSay g over l (found_from over g false (line ++ byte ∷ []) bytes))
        (append_assoc line (byte ∷ []) bytes) (lines_say-from g over (line ++ byte ∷ []) bytes
        (NoLineFeed-push line byte none other)))
  ]

  pub lines_say : (g : Geometry) (over : Bool) (bytes : List ℕ) → LinesSay g over bytes (found_from over g false []
      bytes)
  lines_say g over bytes = lines_say-from g over [] bytes tt

  pub lines_say-only : {g : Geometry} {over : Bool} {bytes : List ℕ} {found : List Found} → LinesSay g over bytes found
      → found ≡ found_from over g false [] bytes
  lines_say-only (last {g} {over} line said none says) =
      ap (if_over over) (line_says-only g line said says) ∙ sym (over_found over g line)
      ∙ sym (found_from-piece over g false [] line [] none) ∙ ap (found_from over g false []) (append-nil line)
  lines_say-only (one_more {g} {over} {more} {found} line said none says rest) =
      ap (λ l. l ++ found) (line_says-only g line said says)
      ∙ ap (λ l. option_to_list (line_found g line) ++ l) (lines_say-only rest)
      ∙ sym (found_from-piece over g false [] line (10 ∷ more) none)

  -- ---- a section
  fens_say : (g : Geometry) (fens : List (List ℕ)) → FensSay g fens (fens_found g fens)
  fens_say g [] = refl
  fens_say g (text ∷ []) = fen_says g text
  fens_say g (text ∷ other ∷ fens) = refl

  fens_say-only : (g : Geometry) (fens : List (List ℕ)) (found : Found) → FensSay g fens found
      → found ≡ fens_found g fens
  fens_say-only g [] found h = h
  fens_say-only g (text ∷ []) found h = fen_says-only g text found h
  fens_say-only g (text ∷ other ∷ fens) found h = h

  -- what a section says, by its values
  abbrev ValuesSay : Geometry → Bool → Bool → List ℕ → List (List ℕ) → Found → Type 0
  ValuesSay g long some games fens found =
      MatchBool long (found ≡ Err SectionTooLong) (MatchBool some (found ≡ Err UnclosedTag)
      (MatchBool (is_wrong g games) (found ≡ Err WrongGame) (FensSay g fens found)))

  abbrev values_found : Geometry → Bool → Bool → List ℕ → List (List ℕ) → Found
  values_found g long some games fens = cond long (Err SectionTooLong) (cond some (Err UnclosedTag)
      (cond (is_wrong g games) (Err WrongGame) (fens_found g fens)))

  values_say : (g : Geometry) (long some wrong : Bool) (fens : List (List ℕ)) → MatchBool long
      (cond long (Err SectionTooLong) (cond some (Err UnclosedTag) (cond wrong (Err WrongGame) (fens_found g fens)))
      ≡ Err SectionTooLong) (MatchBool some
      (cond long (Err SectionTooLong) (cond some (Err UnclosedTag) (cond wrong (Err WrongGame) (fens_found g fens)))
      ≡ Err UnclosedTag) (MatchBool wrong
      (cond long (Err SectionTooLong) (cond some (Err UnclosedTag) (cond wrong (Err WrongGame) (fens_found g fens)))
      ≡ Err WrongGame) (FensSay g fens
      (cond long (Err SectionTooLong) (cond some (Err UnclosedTag) (cond wrong (Err WrongGame) (fens_found g fens)))))))
  values_say g true some wrong fens = refl
  values_say g false true wrong fens = refl
  values_say g false false true fens = refl
  values_say g false false false fens = fens_say g fens

  values_say-only : (g : Geometry) (long some wrong : Bool) (fens : List (List ℕ)) (found : Found)
      → MatchBool long (found ≡ Err SectionTooLong) (MatchBool some (found ≡ Err UnclosedTag)
      (MatchBool wrong (found ≡ Err WrongGame) (FensSay g fens found)))
      → found
      ≡ cond long (Err SectionTooLong) (cond some (Err UnclosedTag) (cond wrong (Err WrongGame) (fens_found g fens)))
  values_say-only g true some wrong fens found h = h
  values_say-only g false true wrong fens found h = h
  values_say-only g false false true fens found h = h
  values_say-only g false false false fens found h = fens_say-only g fens found h

  pub section_says : (g : Geometry) (size : ℕ) (some : Bool) (tags : List Tag)
      → SectionSays g size some tags (tags_found g size some tags)
  section_says g size some tags =
      let found = tags_found g size some tags in
      let long = nat_lt MAX_SECTION size in
      subst (λ fens. ValuesSay g long some (map game_of (values_named (codes "GameType") tags)) fens found)
      (fens_named tags)
      (subst (λ games. ValuesSay g long some games (fens_of tags) found) (games_named tags)
      (values_say g long some (is_wrong g (games_of tags)) (fens_of tags)))

  pub section_says-only : (g : Geometry) (size : ℕ) (some : Bool) (tags : List Tag) (found : Found)
      → SectionSays g size some tags found → found ≡ tags_found g size some tags
  section_says-only g size some tags found h =
      let long = nat_lt MAX_SECTION size in
      let games = values_named (codes "GameType") tags in
      let fens = values_named (codes "FEN") tags in
      values_say-only g long some (is_wrong g (map game_of games)) fens found h
      ∙ ap (λ l. values_found g long some l fens) (sym (games_named tags))
      ∙ ap (λ l. values_found g long some (games_of tags) l) (sym (fens_named tags))
