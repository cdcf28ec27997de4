-- The texts of remarks, put together.
use Rattle.std.proofs.Common.{◌≡◌, ℕ, List, [], ◌++◌, refl, ap, ◌∙◌, codes, decimal, append-nil, append_assoc, Option}
use Rattle.std.proofs.Common.{Some, None, option_map}
use Rattle.std.specs.List.{join_by}
use Rattle.dw_board.specs.Geometry.{Geometry}
use Rattle.dw_board.specs.Placement.{Placement}
use Rattle.dw_moves.specs.Moves.{Move}
use Rattle.dw_report.specs.inner.JoinedLemmas.{joined_5, joined_7, joined_9}
use Rattle.dw_study.specs.Remarks.{Remark, fails, also, leaves_open, ends}
use Rattle.dw_study.specs.RemarkText.{behind_blank, missing_text, IsRemarkText}
use Rattle.dw_study.specs.RemarkFields.{AreRemarkFields, Words}

-- a remark is told only if its beginning is
pub told : (o : Option (List Move)) (f : List Move → Remark) (r : Remark) → option_map f o ≡ Some r
    → (b : List Move) × (o ≡ Some b) × (f b ≡ r)
told None f r e = let bad : None ≡ Some r = e in cc
told (Some b) f r e = (b, refl, ap inside e) where
  inside : Option Remark → Remark
  inside None = r
  inside (Some z) = z

joined_4 : (a b c d : List ℕ) → a ++ (b ++ (c ++ (d ++ []))) ≡ a ++ b ++ c ++ d
joined_4 a b c d = simp (append_assoc, append-nil)

-- the text of a remark, given its parts
module _ (g : Geometry) (p : Placement) (b : List Move) (words : Words) (begun digits moved text : List ℕ)
    (blank : begun ≡ behind_blank words.line) (number : digits ≡ decimal words.turn) where
  pub fails_made : (m r : Move) (reply : List ℕ) → AreRemarkFields g p (fails b m r) words
      → moved ≡ join_by (λ t. t) (codes ", ") words.moves
      → ((answer : List ℕ) → words.refutation ≡ Some answer → reply ≡ answer)
      → text ≡ codes "fails" ++ (begun ++ (codes " " ++ (digits ++ (codes ". " ++ (moved ++ (codes " refuted by "
      ++ (reply ++ (codes "\n" ++ [])))))))) → IsRemarkText g p (fails b m r) text
  fails_made m r reply (move, answer, written, is, answers, one, refutes, wins, turn) joined said e =
      let first : moved ≡ move = joined ∙ (ap (join_by (λ t. t) (codes ", ")) one ∙ append-nil move) in
      let second = said answer refutes in
      let here = number ∙ ap decimal turn in (
        words.line,
        move,
        answer,
        written,
        is,
        answers,
        e ∙ (joined_9 (codes "fails") begun (codes " ") digits (codes ". ") moved (codes " refuted by ") reply
            (codes "\n") ∙ (λ i. codes "fails" ++ blank i ++ codes " " ++ here i ++ codes ". " ++ first i
            ++ codes " refuted by " ++ second i ++ codes "\n")),
      )

  pub also_made : (keys : List Move) → AreRemarkFields g p (also b keys) words
      → moved ≡ join_by (λ t. t) (codes " / ") words.moves
      → text ≡ codes "also" ++ (begun ++ (codes " " ++ (digits ++ (codes ". " ++ (moved ++ (codes "\n" ++ []))))))
      → IsRemarkText g p (also b keys) text
  also_made keys (written, are, none, wins, turn) joined e =
      let here = number ∙ ap decimal turn in (
        words.line,
        moved,
        written,
        (words.moves, are, joined),
        e ∙ (joined_7 (codes "also") begun (codes " ") digits (codes ". ") moved (codes "\n")
            ∙ (λ i. codes "also" ++ blank i ++ codes " " ++ here i ++ codes ". " ++ moved ++ codes "\n")),
      )

  pub open_made : (replies : List Move) → AreRemarkFields g p (leaves_open b replies) words
      → moved ≡ join_by (λ t. t) (codes ", ") words.moves
      → text ≡ codes "open" ++ (begun ++ (codes ": " ++ (moved ++ (codes "\n" ++ []))))
      → IsRemarkText g p (leaves_open b replies) text
  open_made replies (written, are, none, wins, turn) joined e = (
    words.line,
    moved,
    written,
    (words.moves, are, joined),
    e ∙ (joined_5 (codes "open") begun (codes ": ") moved (codes "\n")
        ∙ (λ i. codes "open" ++ blank i ++ codes ": " ++ moved ++ codes "\n")),
  )

  pub ends_made : (wins_in : Option ℕ) (missing : List ℕ) → AreRemarkFields g p (ends b wins_in) words
      → missing ≡ missing_text words.wins_in
      → text ≡ codes "ends" ++ (begun ++ (missing ++ (codes "\n" ++ []))) → IsRemarkText g p (ends b wins_in) text
  ends_made wins_in missing (written, are, none, wins, turn) made e =
      let here : missing ≡ missing_text wins_in = made ∙ ap missing_text wins in (
        words.line,
        written,
        e ∙ (joined_4 (codes "ends") begun missing (codes "\n")
            ∙ (λ i. codes "ends" ++ blank i ++ here i ++ codes "\n")),
      )
