-- Lemmas on the games of a text.
use Rattle.std.proofs.Common.{◌≡◌, ◌==◌, ◌||◌, ◌&&◌, ◌+◌, ◌<◌, ◌≤◌, ℕ, List, [], ◌∷◌, ◌++◌, drop, true, false, refl}
use Rattle.std.proofs.Common.{sym, ap, ◌∙◌, subst, arith, inl, inr}
use Rattle.std.proofs.lemmas.Bool.{and_parts, eqb-true, cases_Bool, cond-true, cond-false, lt-ltb, le-ltb, ne_eqb}
use Rattle.std.proofs.lemmas.Bool.{cases_lt}
use Rattle.dw_board.specs.Geometry.{Geometry}
use Rattle.dw_notation.specs.TextLines.{Found, without_mark}
use Rattle.dw_notation.specs.WholeTexts.{SectionsSay}
use Rattle.dw_notation.specs.TagLaws.{TextsOfTagsSay}
use Rattle.dw_notation.specs.WholeTexts.SectionsSay.{nothing, other, comment, last_comment, section, last_section}
use Rattle.dw_games.specs.Games.{Said, said_with, HasGames, games_from}
use Rattle.dw_games.specs.Games.HasGames.{nothing as no_games, other as no_section, comment as no_comment}
use Rattle.dw_games.specs.Games.HasGames.{last_comment as open_comment, section as with_section}
use Rattle.dw_games.specs.Games.HasGames.{last_section as with_last}
use Rattle.dw_games.specs.inner.GameReaders.{counted_found}
use Rattle.dw_games.specs.inner.Playing.{unclosed}
use Rattle.dw_games.proofs.SectionLemmas.{first, IsSection-begins}

-- ---- each text has games
from_says : (g : Geometry) {text : List ℕ} {found : List Found} → SectionsSay g true text found
    → (front : List ℕ) × (games : List Said) × HasGames g text front games
from_says g nothing = ([], [], no_games)
from_says g (other byte neither says) = let r = from_says g says in (byte ∷ r.0, r.1, no_section byte neither r.2)
from_says g (comment text is says) =
    let r = from_says g says in (123 ∷ (text ++ 125 ∷ r.0), r.1, no_comment text is r.2)
from_says g (last_comment text is) = (123 ∷ text, unclosed ∷ [], open_comment text is)
from_says g (section text gap byte found is spaces ends says more) =
    let r = from_says g more in
    ([], said_with found text (gap ++ r.0) ∷ r.1, with_section text gap byte found is spaces ends says r.2)
from_says g (last_section text gap found is spaces says) =
    ([], said_with found text gap ∷ [], with_last text gap found is spaces says)

pub games_some : TextsOfTagsSay → (g : Geometry) (text : List ℕ)
    → (front : List ℕ) × (games : List Said) × HasGames g text front games
games_some law g text = from_says g (law.some g true text).1

-- ---- a text that begins with a section has no front
pub bracket_front : (g : Geometry) (rest : List ℕ) {text front : List ℕ} {games : List Said} → HasGames g text front
    games → text ≡ 91 ∷ rest → HasGames g text [] games
bracket_front g rest no_games e = no_games
bracket_front g rest (no_section byte neither has) e =
    let bracket : byte ≡ 91 = ap first e in let bad : true ≡ false = rw bracket at neither in absurd (no_true bad) where
      no_true : true ≡ false → ⊥
      no_true h = cc
bracket_front g rest (no_comment text is has) e =
    let other : 123 ≡ 91 = ap first e in let bad : ⊥ = omega (arith, other) in absurd bad
bracket_front g rest (open_comment text is) e =
    let other : 123 ≡ 91 = ap first e in let bad : ⊥ = omega (arith, other) in absurd bad
bracket_front g rest (with_section text gap byte found is spaces ends says has) e =
    with_section text gap byte found is spaces ends says has
bracket_front g rest (with_last text gap found is spaces says) e = with_last text gap found is spaces says

-- ---- the mark at a text's front is none of its games
rest-eq : (a b : ℕ) (x y : List ℕ) → a ∷ x ≡ b ∷ y → x ≡ y
rest-eq a b x y e = ap (drop 1) e

pub behind_other : (g : Geometry) (byte : ℕ) (more : List ℕ) → ((byte == 91) || (byte == 123)) ≡ false
    → {text front : List ℕ} {games : List Said} → HasGames g text front games → text ≡ byte ∷ more
    → (front : List ℕ) × HasGames g more front games
behind_other g byte more none no_games e = let bad : [] ≡ byte ∷ more = e in absurd (no_cons bad) where
  no_cons : [] ≡ byte ∷ more → ⊥
  no_cons h = cc
behind_other g byte more none (no_section {more = behind} {front} {games} b neither has) e =
    (front, subst (λ l. HasGames g l front games) (rest-eq b byte behind more e) has)
behind_other g byte more none (no_comment text is has) e =
    let brace : 123 ≡ byte = ap first e in let bad : true ≡ false = rw (← brace) at none in absurd (no_true bad) where
      no_true : true ≡ false → ⊥
      no_true h = cc
behind_other g byte more none (open_comment text is) e =
    let brace : 123 ≡ byte = ap first e in let bad : true ≡ false = rw (← brace) at none in absurd (no_true bad) where
      no_true : true ≡ false → ⊥
      no_true h = cc
behind_other g byte more none (with_section {more = behind} text gap b found is spaces ends says has) e =
    let begins = IsSection-begins is in
    let bracket : 91 ≡ byte = ap first (ap (λ l. l ++ (gap ++ b ∷ behind)) (sym begins.1) ∙ e) in
    let bad : true ≡ false = rw (← bracket) at none in absurd (no_true bad) where
      no_true : true ≡ false → ⊥
      no_true h = cc
behind_other g byte more none (with_last text gap found is spaces says) e =
    let begins = IsSection-begins is in
    let bracket : 91 ≡ byte = ap first (ap (λ l. l ++ gap) (sym begins.1) ∙ e) in
    let bad : true ≡ false = rw (← bracket) at none in absurd (no_true bad) where
      no_true : true ≡ false → ⊥
      no_true h = cc

marked : (g : Geometry) (bytes front : List ℕ) (games : List Said)
    → HasGames g (0xEF ∷ 0xBB ∷ 0xBF ∷ bytes) front games → (front : List ℕ) × HasGames g bytes front games
marked g bytes front games has =
    let a = behind_other g 0xEF (0xBB ∷ 0xBF ∷ bytes) refl has refl in
    let b = behind_other g 0xBB (0xBF ∷ bytes) refl a.1 refl in
    behind_other g 0xBF bytes refl b.1 refl

pub mark_passed : (g : Geometry) (bytes front : List ℕ) (games : List Said) → HasGames g bytes front games
    → (front : List ℕ) × HasGames g (without_mark bytes) front games
mark_passed g [] front games has = (front, has)
mark_passed g (a ∷ []) front games has = (front, has)
mark_passed g (a ∷ b ∷ []) front games has = (front, has)
mark_passed g (a ∷ b ∷ c ∷ bytes) front games has = elim (cases_Bool ((a == 0xEF) && (b == 0xBB) && (c == 0xBF))) [
  | inl mark ↦
      let all = and_parts ((a == 0xEF) && (b == 0xBB)) (c == 0xBF) mark in
      let both = and_parts (a == 0xEF) (b == 0xBB) all.0 in
      let same : a ∷ b ∷ c ∷ bytes ≡ 0xEF ∷ 0xBB ∷ 0xBF ∷ bytes =
      ap (λ x. x ∷ b ∷ c ∷ bytes) (eqb-true a 0xEF both.0) ∙ ap (λ x. 0xEF ∷ x ∷ c ∷ bytes) (eqb-true b 0xBB both.1)
      ∙ ap (λ x. 0xEF ∷ 0xBB ∷ x ∷ bytes) (eqb-true c 0xBF all.1) in
      let r = marked g bytes front games (subst (λ l. HasGames g l front games) same has) in
      (r.0, subst (λ l. HasGames g l r.0 games) (sym (cond-true _ bytes (a ∷ b ∷ c ∷ bytes) mark)) r.1)
  | inr none ↦ (front, subst (λ l. HasGames g l front games) (sym (cond-false _ bytes (a ∷ b ∷ c ∷ bytes) none)) has)
]

-- ---- numbers
games_from-full : (more : List Said) → games_from 1000001 more ≡ []
games_from-full [] = refl
games_from-full (said ∷ more) = refl

pub games_from-one : (handed : ℕ) (found : Found) (text movetext : List ℕ) (more : List Said) → handed ≤ 1000000
    → games_from handed (said_with found text movetext ∷ more)
    ≡ record { number = handed + 1; said = said_with (counted_found handed found) text movetext }
    ∷ games_from (handed + 1) more
games_from-one handed found text movetext more h = elim (cases_lt handed 1000000) [
  | inl less ↦ rw (lt-ltb handed 1000000 less) refl
  | inr full ↦ let e : handed ≡ 1000000 = omega (arith, h, full) in rw e (rw (games_from-full more) refl)
]

pub games_from-over : (handed : ℕ) (said : List Said) → 1000000 < handed → games_from handed said ≡ []
games_from-over handed [] h = refl
games_from-over handed (one ∷ said) h = rw (
  le-ltb handed 1000000 (omega (arith, h)),
  ne_eqb handed 1000000 (λ e. omega (arith, h, e)),
) refl
