-- Of a game with a position the section is told that says it.
use Rattle.std.proofs.Common.{◌≡◌, ◌==◌, ◌+◌, ℕ, List, [], ◌∷◌, ◌++◌, length, Bool, false, Ok, Err, nat_lt, refl, sym}
use Rattle.std.proofs.Common.{subst, inl, inr}
use Rattle.std.proofs.lemmas.Bool.{cases_Bool}
use Rattle.dw_board.specs.Geometry.{Geometry}
use Rattle.dw_board.specs.Lists.{Member}
use Rattle.dw_board.specs.Placement.{Placement}
use Rattle.dw_notation.specs.TextLines.{Found}
use Rattle.dw_notation.specs.Tags.{Tag, IsSection, SectionSays}
use Rattle.dw_notation.specs.declared.problems.ProblemFault.{ProblemFault}
use Rattle.dw_notation.specs.declared.problems.ProblemFault.TheVariants.{TooManyProblems}
use Rattle.dw_games.specs.Games.{Said, said_with, HasGames, NumberedGame, games_from}
use Rattle.dw_games.specs.Games.HasGames.{nothing as no_games, other as no_section, comment as no_comment}
use Rattle.dw_games.specs.Games.HasGames.{last_comment as open_comment, section as with_section}
use Rattle.dw_games.specs.Games.HasGames.{last_section as with_last}
use Rattle.dw_games.specs.GameLaws.{SaysPosition, GamesTellSections}
use Rattle.dw_games.proofs.SectionLemmas.{section_closed, not_refused}

-- what is said is told with its section
abbrev Tells : Geometry → Said → Type 0
Tells g said = (p : Placement) → said.found ≡ Ok p → SaysPosition g p said.tags

refused_tells : (g : Geometry) (text movetext : List ℕ) (fault : ProblemFault)
    → Tells g (said_with (Err fault) text movetext)
refused_tells g text movetext fault p e = cc

section_tells : (g : Geometry) (text movetext : List ℕ) (tags : List Tag) (some last : Bool) (found : Found)
    → IsSection text tags some last → SectionSays g (length text) some tags found
    → Tells g (said_with found text movetext)
section_tells g text movetext tags some last (Err fault) is says = refused_tells g text movetext fault
section_tells g text movetext tags some last (Ok position) is says = λ p e.
    let whole : some ≡ false = not_refused g (length text) some tags position says in
    let closed : last ≡ false = (section_closed is whole).0 in
    record {
      tags = tags;
      is = subst (λ b. IsSection text tags false b) closed (subst (λ b. IsSection text tags b last) whole is);
      says = subst (SectionSays g (length text) false tags) e
          (subst (λ b. SectionSays g (length text) b tags (Ok position)) whole says);
    }

-- so is all that a text says
all_tell : (g : Geometry) {text front : List ℕ} {games : List Said} → HasGames g text front games → (said : Said)
    → Member said games → Tells g said
all_tell g no_games said among = absurd among
all_tell g (no_section byte neither has) said among = all_tell g has said among
all_tell g (no_comment text is has) said among = all_tell g has said among
all_tell g (open_comment text is) said (inl e) = subst (Tells g) (sym e) (refused_tells g [] [] _)
all_tell g (open_comment text is) said (inr none) = absurd none
all_tell g (with_section {tags} {some} {last} {front} text gap byte found is spaces ends says has) said (inl e) =
    subst (Tells g) (sym e) (section_tells g text (gap ++ front) tags some last found is says)
all_tell g (with_section text gap byte found is spaces ends says has) said (inr among) = all_tell g has said among
all_tell g (with_last {tags} {some} {last} text gap found is spaces says) said (inl e) =
    subst (Tells g) (sym e) (section_tells g text gap tags some last found is says)
all_tell g (with_last text gap found is spaces says) said (inr none) = absurd none

-- and what is numbered
next_tells : (g : Geometry) (number : ℕ) (x : Said) (more : List NumberedGame) (game : NumberedGame) → Tells g x
    → (Member game more → Tells g game.said) → Member game (record { number = number; said = x } ∷ more)
    → Tells g game.said
next_tells g number x more game here behind (inl e) = subst (λ (n : NumberedGame). Tells g n.said) (sym e) here
next_tells g number x more game here behind (inr among) = behind among

numbered_tell : (g : Geometry) (handed : ℕ) (said : List Said) → ((one : Said) → Member one said → Tells g one)
    → (game : NumberedGame) → Member game (games_from handed said) → Tells g game.said
numbered_tell g handed [] all game among = absurd among
numbered_tell g handed (x ∷ said) all game among = elim (cases_Bool (nat_lt handed 1000000)) [
  | inl less ↦ next_tells g (handed + 1) x (games_from (handed + 1) said) game (all x (inl refl))
      (numbered_tell g (handed + 1) said (λ one is. all one (inr is)) game) (rw less at among)
  | inr more ↦ elim (cases_Bool (handed == 1000000)) [
    | inl full ↦ next_tells g (handed + 1) (said_with (Err TooManyProblems) [] []) [] game
        (refused_tells g [] [] TooManyProblems) (λ none. absurd none) (rw (more, full) at among)
    | inr over ↦ absurd (rw (more, over) at among)
  ]
]

pub games_tell_sections : GamesTellSections
games_tell_sections g bytes games game p are among e =
    numbered_tell g 0 are.said (λ one is. all_tell g are.has one is) game
    (subst (Member game) are.numbers among) p e
