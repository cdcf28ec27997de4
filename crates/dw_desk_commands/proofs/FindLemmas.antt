-- What is found after a number of expansions, and how it comes together in a row of JSON.
use Rattle.std.proofs.Common.{◌≡◌, ◌+◌, ◌-◌, ℕ, List, [], ◌∷◌, ◌++◌, Option, Some, Ok, true, refl, sym, ◌∙◌, ap, subst}
use Rattle.std.proofs.Common.{arith}
use Rattle.std.specs.Prelude.{Result}
use Rattle.std.proofs.lemmas.Bool.{true≢false}
use Rattle.std.specs.Prelude.{codes}
use Rattle.json.specs.Json.{string}
use Rattle.json.specs.Written.{Written}
use Rattle.dw_board.specs.Geometry.{Geometry}
use Rattle.dw_board.specs.Placement.{Placement}
use Rattle.dw_moves.specs.Moves.{Move}
use Rattle.dw_report.specs.MoveTexts.{AreChoices, AreKeyTexts, AreTryTexts}
use Rattle.dw_verdict.specs.Verdict.{Verdict, dual}
use Rattle.dw_solve.specs.declared.stop.Stop.{Stop}
use Rattle.dw_study.specs.Finding.{judged}
use Rattle.dw_study.specs.Finding as of
use Rattle.dw_study.specs.Telling.{told_by}
use Rattle.dw_study.specs.declared.finding.Finding.{Finding}
use Rattle.dw_study.specs.declared.finding.Finding.TheVariants.{Judged, Undecided}
use Rattle.dw_desk_commands.specs.Find.{MayStayOpen, is_open}
use Rattle.dw_desk_commands.specs.FindJson.{AreAfterKeys, AreFound, before_keys, verdict_word}
use Rattle.dw_json.specs.Rows.{Member, count, pairs, texts}
use Rattle.dw_json.specs.Writing.{WritesMembers}
use Rattle.dw_json.specs.inner.Composing.{both}

-- a finding, as the answer of a search
abbrev answered : {B : Type 0} → Finding B → Result (Finding B) Stop
answered f = Ok f

-- a search for a finding that leaves it open used up the bound
pub used_up : {B : Type 0} (each : Option ℕ) (before start after : ℕ) (f : Finding B) → start ≡ before
    → ((k : ℕ) → answered f ≡ Ok (Undecided k)
    → (bound : ℕ) × (each ≡ Some bound) × (after ≡ start + bound)) → MayStayOpen each (after - before) (told_by f)
used_up each before start after (Judged k it) same so = λ is. absurd (true≢false (sym is))
used_up each before start after (Undecided k) same so = λ is.
    let b = so k refl in
    let spent : b.0 ≡ after - before = omega (arith, same, b.2) in
    b.1 ∙ ap Some spent

-- and so it did if nothing more was expanded
pub still_used_up : (each : Option ℕ) (before mid after : ℕ) (f : of.Finding) → MayStayOpen each (mid - before) f
    → (is_open f ≡ true → after ≡ mid) → MayStayOpen each (after - before) f
still_used_up each before mid after f up same = λ is. up is ∙ ap (λ z. Some (z - before)) (sym (same is))

-- the members of a choice
pub choice_told : (g : Geometry) (p : Placement) (verdict : Verdict) (at choices at' choices' : List Move)
    (line line' : List ℕ) (moves moves' : List (List ℕ)) → verdict ≡ dual at choices → at' ≡ at → choices' ≡ choices
    → line' ≡ line → moves' ≡ moves → AreChoices g p at' choices' line moves
    → AreAfterKeys g p verdict ((codes "at", string line') ∷ (codes "choices", texts moves') ∷ [])
choice_told g p verdict at choices at' choices' line line' moves moves' said a b l m are =
    let told : AreChoices g p at choices line moves =
    subst (λ z. AreChoices g p at z line moves) b (subst (λ z. AreChoices g p z choices' line moves) a are) in
    subst (λ v. AreAfterKeys g p v ((codes "at", string line') ∷ (codes "choices", texts moves') ∷ [])) (sym said) (
      line,
      moves,
      told,
      ap (λ z. (codes "at", string z) ∷ (codes "choices", texts moves') ∷ []) l
          ∙ ap (λ z. (codes "at", string line) ∷ (codes "choices", texts z) ∷ []) m,
    )

-- the members of a verdict and the tries
pub judged_told : (g : Geometry) (p : Placement) (k k' : ℕ) (verdict : Verdict) (word' : List ℕ)
    (keys keys' : List (List ℕ)) (after : List Member) (tries tries' : List (Move × Move))
    (tried tried' : List (List ℕ × List ℕ)) → k' ≡ k → word' ≡ verdict_word verdict → keys' ≡ keys → tries' ≡ tries
    → tried' ≡ tried → AreKeyTexts g p k keys → AreAfterKeys g p verdict after → AreTryTexts g p tries' tried
    → AreFound g p (judged k verdict tries) ((codes "n", count k') ∷ (codes "verdict", string word')
    ∷ before_keys verdict ++ (codes "keys", texts keys') ∷ after ++ (codes "tries", pairs tried') ∷ [])
judged_told g p k k' verdict word' keys keys' after tries tries' tried tried' n v ks ts td are_keys are_after
    are_tries = (
      keys,
      after,
      tried,
      are_keys,
      are_after,
      subst (λ z. AreTryTexts g p z tried) ts are_tries,
      ap (λ z. (codes "n", count z) ∷ (codes "verdict", string word') ∷ before_keys verdict
          ++ (codes "keys", texts keys') ∷ after ++ (codes "tries", pairs tried') ∷ []) n
          ∙ (ap (λ z. (codes "n", count k) ∷ (codes "verdict", string z) ∷ before_keys verdict
          ++ (codes "keys", texts keys') ∷ after ++ (codes "tries", pairs tried') ∷ []) v
          ∙ (ap (λ z. (codes "n", count k) ∷ (codes "verdict", string (verdict_word verdict)) ∷ before_keys verdict
          ++ (codes "keys", texts z) ∷ after ++ (codes "tries", pairs tried') ∷ []) ks
          ∙ ap (λ z. (codes "n", count k) ∷ (codes "verdict", string (verdict_word verdict)) ∷ before_keys verdict
          ++ (codes "keys", texts keys) ∷ after ++ (codes "tries", pairs z) ∷ []) td)),
    )

-- the members of a verdict and the tries, one after another
pub judged_written : (n verdict keys tries : Member) (before after : List Member) (w0 w1 w2 w3 w4 w5 w6 : Written)
    → WritesMembers (n ∷ []) w0 w1 → WritesMembers (verdict ∷ []) w1 w2 → WritesMembers before w2 w3 → WritesMembers
    (keys ∷ []) w3 w4 → WritesMembers after w4 w5 → WritesMembers (tries ∷ []) w5 w6
    → WritesMembers (n ∷ verdict ∷ before ++ keys ∷ after ++ tries ∷ []) w0 w6
judged_written n verdict keys tries before after w0 w1 w2 w3 w4 w5 w6 a b c d e f =
    both (n ∷ verdict ∷ before ++ keys ∷ after) (tries ∷ []) w0 w5 w6 (both (n ∷ verdict ∷ before) (keys ∷ after) w0 w3
    w5 (both (n ∷ verdict ∷ []) before w0 w2 w3 (both (n ∷ []) (verdict ∷ []) w0 w1 w2 a b) c)
    (both (keys ∷ []) after w3 w4 w5 d e)) f
