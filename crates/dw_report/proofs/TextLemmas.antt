-- Each problem has a text, and only one.
use Rattle.std.proofs.Common.{◌≡◌, ℕ, ◌≤◌, List, [], ◌∷◌, ◌++◌, length, refl, sym, ap, ◌∙◌, Ok, Err, true, subst}
use Rattle.std.specs.List.{flat_map}
use Rattle.std.specs.Prelude.{codes, map}
use Rattle.json.specs.Json.{string}
use Rattle.dw_board.specs.FenText.{written}
use Rattle.dw_json.specs.Rows.{count, pairs, row}
use Rattle.dw_board.specs.Geometry.{Geometry, IsBoard}
use Rattle.dw_board.specs.Placement.{Placement}
use Rattle.dw_board.specs.Diagram.{diagram_text}
use Rattle.dw_moves.specs.Laws.{MovesInOrder, OneBest, MovesHaveKeys}
use Rattle.dw_moves.specs.Order.{Listed}
use Rattle.dw_notation.specs.TextLines.{Found}
use Rattle.dw_notation.specs.Problems.{Numbered, TextsHaveProblems}
use Rattle.dw_notation.specs.TextLaws.{MovesHaveTexts, LinesHaveTexts}
use Rattle.dw_list.specs.Laws.{LinesExist, LineOrPlace}
use Rattle.dw_report.specs.Request.{Request}
use Rattle.dw_report.specs.Report.{IsMovesText, IsSaid, IsFurther, IsProblemText, AreTexts, heading, move_line}
use Rattle.dw_report.specs.JsonRows.{IsMovesRow, shown_row}
use Rattle.dw_report.specs.inner.Rows.{move_pair, refused_text}
use Rattle.dw_report.specs.inner.Rows.{count_line}
use Rattle.dw_report.specs.Report.{chosen, IsReport}
use Rattle.dw_verdict.specs.VerdictLaws.{OneVerdict, TriesAreListed}
use Rattle.dw_report.specs.declared.settings.Command.{Command}
use Rattle.dw_report.specs.declared.settings.Command.TheVariants.{Show, ShowRow, Moves, MovesRow, Judge, List as Lists}
use Rattle.dw_report.proofs.JudgedTextLemmas.{judged_some, judged_only}
use Rattle.dw_report.proofs.ListedTextLemmas.{listed_some, listed_only}

-- the laws of the layers below
pub record Laws : Type 0 where
  pub order : MovesInOrder
  pub keys : MovesHaveKeys
  pub best : OneBest
  pub verdicts : OneVerdict
  pub tries : TriesAreListed
  pub exist : LinesExist
  pub place : LineOrPlace
  pub moves : MovesHaveTexts
  pub lines : LinesHaveTexts

-- the row of the moves of a list, of which each takes so many pieces
abbrev moves_members : Geometry → ℕ → Placement → List Listed → ℕ → List ℕ
moves_members g number p list most = row ((codes "problem", count number) ∷ (codes "fen", string (written g p))
    ∷ (codes "taking", count most) ∷ (codes "moves", pairs (map (move_pair g p list) list)) ∷ [])

moves_some : MovesInOrder → OneBest → (g : Geometry) → IsBoard g → (p : Placement) → (text : List ℕ)
    × IsMovesText g p text
moves_some order best g b p =
    let all = order.listed g b p in
    let most = best.some g p in (
      flat_map (move_line g p all.0) all.0 ++ count_line (length all.0) most.0,
      record {
        list = all.0;
        all = all.1;
        most = most.0;
        best = most.1;
        is = refl;
      },
    )

moves_row_some : MovesInOrder → OneBest → (g : Geometry) → IsBoard g → (number : ℕ) (p : Placement)
    → (text : List ℕ) × IsMovesRow g number p text
moves_row_some order best g b number p =
    let all = order.listed g b p in
    let most = best.some g p in (
      moves_members g number p all.0 most.0,
      record {
        list = all.0;
        all = all.1;
        most = most.0;
        best = most.1;
        is = refl;
      },
    )

said_some : Laws → (g : Geometry) → IsBoard g → (command : Command) (request : Request) → 1 ≤ request.lines
    → (number : ℕ) (p : Placement) → (text : List ℕ) × IsSaid g command request number p text
said_some laws g b Show request some number p = (diagram_text g p, refl)
said_some laws g b ShowRow request some number p = (shown_row g number p, refl)
said_some laws g b Moves request some number p = moves_some laws.order laws.best g b p
said_some laws g b MovesRow request some number p = moves_row_some laws.order laws.best g b number p
said_some laws g b Judge request some number p =
    judged_some laws.verdicts laws.tries laws.moves laws.lines g b p request.moves
said_some laws g b Lists request some number p =
    listed_some laws.exist laws.place laws.lines g b p request.moves request.lines request.after some

further_some : Laws → (g : Geometry) → IsBoard g → (request : Request) → 1 ≤ request.lines → (number : ℕ)
    (found : Found) → (text : List ℕ) × IsFurther g request number found text
further_some laws g b request some number (Ok p) = said_some laws g b request.command request some number p
further_some laws g b request some number (Err fault) = (refused_text request.command number fault, refl)

problem_some : Laws → (g : Geometry) → IsBoard g → (request : Request) → 1 ≤ request.lines → (problem : Numbered)
    → (text : List ℕ) × IsProblemText g request problem text
problem_some laws g b request some problem =
    let f = further_some laws g b request some problem.number problem.found in
    (heading g request.command problem ++ f.0, record { further = f.0; follows = f.1; is = refl })

pub texts_some : Laws → (g : Geometry) → IsBoard g → (request : Request) → 1 ≤ request.lines
    → (problems : List Numbered) → (text : List ℕ) × AreTexts g request problems text
texts_some laws g b request some [] = ([], refl)
texts_some laws g b request some (problem ∷ problems) =
    let one = problem_some laws g b request some problem in
    let rest = texts_some laws g b request some problems in
    (one.0 ++ rest.0, (one.0, rest.0, one.1, rest.1, refl))

moves_only : MovesInOrder → OneBest → (g : Geometry) (p : Placement) (text other : List ℕ) → IsMovesText g p text
    → IsMovesText g p other → text ≡ other
moves_only order best g p text other h k =
    let lists = order.same g p h.list k.list h.all k.all in
    let mosts = best.only g p h.most k.most h.best k.best in
    h.is ∙ (ap (λ (z : List Listed). flat_map (move_line g p z) z ++ count_line (length z) h.most) lists
    ∙ (ap (λ n. flat_map (move_line g p k.list) k.list ++ count_line (length k.list) n) mosts ∙ sym k.is))

moves_row_only : MovesInOrder → OneBest → (g : Geometry) (number : ℕ) (p : Placement) (text other : List ℕ)
    → IsMovesRow g number p text → IsMovesRow g number p other → text ≡ other
moves_row_only order best g number p text other h k =
    let lists = order.same g p h.list k.list h.all k.all in
    let mosts = best.only g p h.most k.most h.best k.best in
    h.is ∙ (ap (λ (z : List Listed). moves_members g number p z h.most) lists
    ∙ (ap (λ n. moves_members g number p k.list n) mosts ∙ sym k.is))

said_only : Laws → (g : Geometry) → IsBoard g → (command : Command) (request : Request) (number : ℕ) (p : Placement)
    (text other : List ℕ) → IsSaid g command request number p text → IsSaid g command request number p other
    → text ≡ other
said_only laws g b Show request number p text other h k = h ∙ sym k
said_only laws g b ShowRow request number p text other h k = h ∙ sym k
said_only laws g b Moves request number p text other h k = moves_only laws.order laws.best g p text other h k
said_only laws g b MovesRow request number p text other h k =
    moves_row_only laws.order laws.best g number p text other h k
said_only laws g b Judge request number p text other h k = judged_only laws.verdicts laws.tries laws.moves laws.lines g
    b p request.moves text other h k
said_only laws g b Lists request number p text other h k = listed_only laws.exist laws.place laws.lines laws.keys g p
    request.moves request.lines request.after text other h k

further_only : Laws → (g : Geometry) → IsBoard g → (request : Request) (number : ℕ) (found : Found)
    (text other : List ℕ) → IsFurther g request number found text → IsFurther g request number found other
    → text ≡ other
further_only laws g b request number (Ok p) text other h k =
    said_only laws g b request.command request number p text other h k
further_only laws g b request number (Err fault) text other h k = h ∙ sym k

pub texts_only : Laws → (g : Geometry) → IsBoard g
    → (request : Request) (problems : List Numbered) (text other : List ℕ) → AreTexts g request problems text
    → AreTexts g request problems other → text ≡ other
texts_only laws g b request [] text other h k = h ∙ sym k
texts_only laws g b request (problem ∷ problems) text other (one, rest, is, are, joined) (
  one',
  rest',
  is',
  are',
  joined',
) =
    let further = further_only laws g b request problem.number problem.found is.further is'.further is.follows
    is'.follows in
    let ones : one ≡ one' = is.is ∙ (ap (λ z. heading g request.command problem ++ z) further ∙ sym is'.is) in
    let rests = texts_only laws g b request problems rest rest' are are' in
    joined ∙ (ap (λ z. z ++ rest) ones ∙ (ap (λ z. one' ++ z) rests ∙ sym joined'))

-- a byte text has a report
pub report_some : Laws → TextsHaveProblems → (g : Geometry) → IsBoard g → (request : Request) → 1 ≤ request.lines
    → (bytes : List ℕ) → (text : List ℕ) × IsReport g request bytes text
report_some laws have g b request some bytes =
    let problems = have.some g request.form true bytes in
    let text = texts_some laws g b request some (chosen request.only problems.0) in
    (text.0, (problems.0, problems.1, text.1))

-- and only one
pub report_only : Laws → TextsHaveProblems → (g : Geometry) → IsBoard g → (request : Request)
    → (bytes text other : List ℕ) → IsReport g request bytes text → IsReport g request bytes other → text ≡ other
report_only laws have g b request bytes text other h k =
    let same = have.only g request.form true bytes h.0 k.0 h.1 k.1 in
    texts_only laws g b request (chosen request.only k.0) text other
    (subst (λ l. AreTexts g request (chosen request.only l) text) same h.2) k.2
