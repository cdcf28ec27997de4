-- The remarks on a tree can be told: each stands behind a beginning that leads to its position.
use Rattle.std.proofs.Common.{◌≡◌, ℕ, zero, suc, List, [], ◌∷◌, ◌++◌, map, refl, sym, ap, subst, ◌∙◌, inl, inr}
use Rattle.dw_board.specs.Geometry.{Geometry}
use Rattle.dw_board.specs.Lists.{Member}
use Rattle.dw_board.specs.Placement.{Placement}
use Rattle.dw_moves.specs.Moves.{Move, Legal, play}
use Rattle.dw_moves.specs.inner.MemberLemmas.{mem_cases, mem_map_back}
use Rattle.dw_verdict.specs.Verdict.{IsWinning, reach}
use Rattle.dw_study.specs.Laws.{RemarksHaveTexts}
use Rattle.dw_study.specs.RemarkText.{HasTexts}
use Rattle.dw_study.specs.Remarks.{Remark, fails, also, leaves_open, if_any, AtAttacker, AtDefender}
use Rattle.dw_study.specs.Remarks.{without_move, with_moves, over, without_reply, with_replies, InTurn, nothing}
use Rattle.dw_study.specs.Remarks.{one_more, AfterKey, AreRemarks}
use Rattle.dw_study.proofs.BeginningLemmas.{reach_push}

-- ---- what a remark names
if_any_is : (remark : List Move → Remark) (moves : List Move) (r : Remark) → Member r (if_any remark moves)
    → r ≡ remark moves
if_any_is remark [] r there = absurd there
if_any_is remark (m ∷ moves) r (inl e) = e
if_any_is remark (m ∷ moves) r (inr gone) = absurd gone

winning_legal : (g : Geometry) (p : Placement) (n : ℕ) (m : Move) → IsWinning g p n m → Legal g p m
winning_legal g p zero m wins = absurd wins
winning_legal g p (suc n) m wins = wins.0

module _ (g : Geometry) (start : Placement) (tree : List (List Move)) where
  legal_there : (b : List Move) (p : Placement) (m : Move) → reach g start b ≡ p → Legal g p m
      → Legal g (reach g start b) m
  legal_there b p m h legal = subst (λ z. Legal g z m) (sym h) legal

  leads_on : (b : List Move) (p : Placement) (m : Move) → reach g start b ≡ p
      → reach g start (b ++ m ∷ []) ≡ play g p m
  leads_on b p m h = reach_push g start b m ∙ ap (λ z. play g z m) h

  told_at_attacker : (p : Placement) (n : ℕ) (b : List Move) {here : List Remark} {moves : List Move}
      → reach g start b ≡ p → AtAttacker g p n tree b here moves → (r : Remark) → Member r here → HasTexts g start r
  told_at_attacker p n b h (without_move none least) r (inl e) = subst (HasTexts g start) (sym e) tt
  told_at_attacker p n b h (without_move none least) r (inr gone) = absurd gone
  told_at_attacker p n b h (with_moves {failing = failing} {others = others} m goes f o k) r there =
      elim (mem_cases r (map (λ t. fails b t.0 t.1) failing) (if_any (also b) others) there) [
        | inl fail ↦
            let t = mem_map_back (λ t. fails b t.0 t.1) r failing fail in
            let is = (f.exactly t.0).0 t.1 in
            subst (HasTexts g start) (sym t.2) (
              legal_there b p t.0.0 h is.0.0,
              subst (λ z. Legal g (play g z t.0.0) t.0.1) (sym h) is.1.refutes.0,
            )
        | inr any ↦ subst (HasTexts g start) (sym (if_any_is (also b) others r any))
            (λ key x. legal_there b p key h (winning_legal g p n key ((o.exactly key).0 x).0))
      ]

  told_at_defender : (q : Placement) (b : List Move) {here : List Remark} {moves : List Move} → reach g start b ≡ q
      → AtDefender g q tree b here moves → (r : Remark) → Member r here → HasTexts g start r
  told_at_defender q b h (over none) r there = absurd there
  told_at_defender q b h (without_reply s legal never least) r (inl e) = subst (HasTexts g start) (sym e) tt
  told_at_defender q b h (without_reply s legal never least) r (inr gone) = absurd gone
  told_at_defender q b h (with_replies {others = others} s goes o k) r there =
      subst (HasTexts g start) (sym (if_any_is (leaves_open b) others r there))
      (λ reply x. legal_there b q reply h ((o.exactly reply).0 x).0)

  told_behind : {Behind : Move → List Remark → Type 0} {moves : List Move} {later : List Remark}
      → InTurn Behind moves later
      → ((m : Move) (rs : List Remark) → Behind m rs → (r : Remark) → Member r rs → HasTexts g start r)
      → (r : Remark) → Member r later → HasTexts g start r
  told_behind nothing each r there = absurd there
  told_behind (one_more {before = before} {remarks = remarks} o h k) each r there =
      elim (mem_cases r before remarks there) [
        | inl old ↦ told_behind h each r old
        | inr new ↦ each o remarks k r new
      ]

  told_after : (n : ℕ) → ((p : Placement) (b : List Move) (remarks : List Remark) → reach g start b ≡ p
      → AreRemarks g tree n p b remarks → (r : Remark) → Member r remarks → HasTexts g start r)
      → (q : Placement) (b : List Move) (remarks : List Remark) → reach g start b ≡ q
      → AfterKey (AreRemarks g tree n) g tree q b remarks → (r : Remark) → Member r remarks → HasTexts g start r
  told_after n told q b remarks h are r there =
      elim (mem_cases r are.here are.later (subst (Member r) are.joined there)) [
        | inl here ↦ told_at_defender q b h are.at r here
        | inr later ↦ told_behind are.behind
            (λ m rs behind. told (play g q m) (b ++ m ∷ []) rs (leads_on b q m h) behind) r later
      ]

  told_all : (n : ℕ) (p : Placement) (b : List Move) (remarks : List Remark) → reach g start b ≡ p
      → AreRemarks g tree n p b remarks → (r : Remark) → Member r remarks → HasTexts g start r
  told_all zero p b remarks h are r there = absurd are
  told_all (suc n) p b remarks h are r there =
      elim (mem_cases r are.here are.later (subst (Member r) are.joined there)) [
        | inl here ↦ told_at_attacker p (suc n) b h are.at r here
        | inr later ↦ told_behind are.behind
            (λ m rs behind. told_after n (told_all n) (play g p m) (b ++ m ∷ []) rs (leads_on b p m h) behind) r later
      ]

pub remarks_told : RemarksHaveTexts
remarks_told g p tree n remarks are = told_all g p tree n p [] remarks refl are
