-- The tree of a movetext has one list of remarks at most.
use Rattle.std.proofs.Common.{◌≡◌, ℕ, zero, suc, List, [], ◌∷◌, ◌++◌, map, Some, refl, sym, ap, subst, ◌∙◌, inl, inr}
use Rattle.std.proofs.Common.{arith, ◌<◌, ◌≤◌, Option, None}
use Rattle.std.proofs.lemmas.Bool.{cases_lt}
use Rattle.std.specs.List.{slice_get}
use Rattle.dw_board.specs.Geometry.{Geometry}
use Rattle.dw_board.specs.Placement.{Placement}
use Rattle.dw_board.specs.Lists.{Member, NoRepeat}
use Rattle.dw_moves.specs.Moves.{Move, Legal, play}
use Rattle.dw_moves.specs.Order.{Precedes}
use Rattle.dw_moves.specs.Laws.{MovesHaveKeys}
use Rattle.dw_moves.specs.inner.MemberLemmas.{mem_cases}
use Rattle.dw_moves.specs.inner.OneListLemmas.{list_only}
use Rattle.dw_solve.specs.Laws.{WinsStay}
use Rattle.dw_solve.specs.Solving.{IsLeast}
use Rattle.dw_solve.specs.Wins.{Win, Lost}
use Rattle.dw_solve.specs.inner.LineOrderLemmas.{precedes_asym}
use Rattle.dw_games.specs.Movetext.{AreDistinct, IsTree}
use Rattle.dw_games.specs.Movetext as tree
use Rattle.dw_verdict.specs.Verdict.{IsWinning}
use Rattle.dw_study.specs.Remarks.{Remark, fails, also, leaves_open, ends, GoesOnBy, StandsBefore, IsFailing, if_any}
use Rattle.dw_study.specs.Remarks.{IsLeastLoss}
use Rattle.dw_study.specs.Remarks.{AtAttacker, without_move, with_moves, AtDefender, over, without_reply, with_replies}
use Rattle.dw_study.specs.Remarks.{InTurn, nothing, one_more, AndBehind, AfterKey, AreRemarks}
use Rattle.dw_study.proofs.ChildLemmas.{same, absent, at_member, filled, last_same}

-- ---- each beginning stands once
once_more : {A : Type 0} (xs : List A) (x : A) → NoRepeat xs → (Member x xs → ⊥) → NoRepeat (xs ++ x ∷ [])
once_more [] x once new = ((λ m. m), tt)
once_more (y ∷ xs) x once new = (
  λ m. elim (mem_cases y xs (x ∷ []) m) [
    | inl old ↦ once.0 old
    | inr (inl e) ↦ new (inl (sym e))
    | inr (inr gone) ↦ gone
  ],
  once_more xs x once.1 (λ m. new (inr m)),
)

distinct_once : {paths beginnings : List (List Move)} → AreDistinct paths beginnings → NoRepeat beginnings
distinct_once tree.nothing = tt
distinct_once (tree.again path h m) = distinct_once h
distinct_once (tree.first path h new) = once_more _ path (distinct_once h) new

no_twice : {A : Type 0} (xs : List A) (i j : ℕ) (x : A) → NoRepeat xs → slice_get xs i ≡ Some x
    → slice_get xs j ≡ Some x → i ≡ j
no_twice [] i j x once a c = absent x a
no_twice (y ∷ xs) zero zero x once a c = refl
no_twice (y ∷ xs) zero (suc j) x once a c =
    absurd (once.0 (subst (λ z. Member z xs) (sym (same y x a)) (at_member x xs j c)))
no_twice (y ∷ xs) (suc i) zero x once a c =
    absurd (once.0 (subst (λ z. Member z xs) (sym (same y x c)) (at_member x xs i a)))
no_twice (y ∷ xs) (suc i) (suc j) x once a c = ap suc (no_twice xs i j x once.1 a c)

-- ---- what is remarked behind moves in turn
in_turn_one : (Behind : Move → List Remark → Type 0)
    → ((m : Move) (rs ss : List Remark) → Behind m rs → Behind m ss → rs ≡ ss)
    → {moves others : List Move} {rs ss : List Remark} → moves ≡ others → InTurn Behind moves rs
    → InTurn Behind others ss → rs ≡ ss
in_turn_one Behind one e nothing nothing = refl
in_turn_one Behind one e nothing (one_more {moves = moves} m h k) = filled moves m e
in_turn_one Behind one e (one_more {moves = moves} m h k) nothing = filled moves m (sym e)
in_turn_one Behind one e (one_more {moves = moves} {remarks = rs} m h k) (one_more {moves = others} {remarks = ss} o i
    j) =
    let both = last_same moves others m o e in
    let before = in_turn_one Behind one both.0 h i in
    let here = one o rs ss (subst (λ z. Behind z rs) both.1 k) j in
    (λ x. before x ++ here x)

and_behind_one : (At : List Remark → List Move → Type 0) (Behind : Move → List Remark → Type 0)
    → ((hs ks : List Remark) (ms os : List Move) → At hs ms → At ks os → (hs ≡ ks) × (ms ≡ os))
    → ((m : Move) (rs ss : List Remark) → Behind m rs → Behind m ss → rs ≡ ss)
    → (rs ss : List Remark) → AndBehind At Behind rs → AndBehind At Behind ss → rs ≡ ss
and_behind_one At Behind at_one one rs ss h k =
    let both = at_one h.here k.here h.moves k.moves h.at k.at in
    let later = in_turn_one Behind one both.1 h.behind k.behind in
    h.joined ∙ ((λ x. both.0 x ++ later x) ∙ sym k.joined)

-- ---- one number is the least
not_below : (Holds : ℕ → Type 0) (i j : ℕ) → Holds i → ((k : ℕ) → k < j → Holds k → ⊥) → j ≤ i
not_below Holds i j holds none = elim (cases_lt i j) [
  | inl less ↦ absurd (none i less holds)
  | inr more ↦ more
]

least_only : WinsStay → (g : Geometry) (p : Placement) (n : ℕ) (i j : Option ℕ) → IsLeast g p n i → IsLeast g p n j
    → i ≡ j
least_only stay g p n None None none never = refl
least_only stay g p n None (Some j) none found = absurd (none (stay.win g p j n found.1 found.2))
least_only stay g p n (Some i) None found none = absurd (none (stay.win g p i n found.1 found.2))
least_only stay g p n (Some i) (Some j) found other =
    let low = not_below (Win g p) i j found.2 other.3 in
    let high = not_below (Win g p) j i other.2 found.3 in
    ap Some (omega (arith, low, high))

loss_only : (g : Geometry) (q : Placement) (i j : ℕ) → IsLeastLoss g q i → IsLeastLoss g q j → i ≡ j
loss_only g q i j one other =
    let low = not_below (Lost g q) i j one.lost other.none_less in
    let high = not_below (Lost g q) j i other.lost one.none_less in
    omega (arith, low, high)

module _ (keys : MovesHaveKeys) (stay : WinsStay) (g : Geometry) (tree : List (List Move)) (once : NoRepeat tree) where
  stands_asym : (b : List Move) (m o : Move) → StandsBefore tree b m o → StandsBefore tree b o m → ⊥
  stands_asym b m o h k =
      let one : h.0 ≡ k.1 = no_twice tree h.0 k.1 (b ++ m ∷ []) once h.3 k.4 in
      let two : h.1 ≡ k.0 = no_twice tree h.1 k.0 (b ++ o ∷ []) once h.4 k.3 in
      omega (arith, one, two, h.2, k.2)

  -- ---- what is remarked on a beginning
  at_attacker_one : (p : Placement) (n : ℕ) (b : List Move) (hs ks : List Remark) (ms os : List Move)
      → AtAttacker g p n tree b hs ms → AtAttacker g p n tree b ks os → (hs ≡ ks) × (ms ≡ os)
  at_attacker_one p n b hs ks ms os (without_move {wins_in = i} none least) (without_move {wins_in = j} never other) =
      let same = least_only stay g p n i j least other in ((λ x. ends b (same x) ∷ []), refl)
  at_attacker_one p n b hs ks ms os (without_move none least) (with_moves m goes f o k) = absurd (none m goes)
  at_attacker_one p n b hs ks ms os (with_moves m goes f o k) (without_move none least) = absurd (none m goes)
  at_attacker_one p n b hs ks ms os (with_moves m goes f o k) (with_moves m' goes' f' o' k') =
      let failing = list_only (λ (s t : Move × Move). StandsBefore tree b s.0 t.0) (IsFailing g p n tree b)
      (λ s t. stands_asym b s.0 t.0) _ _ f f' in
      let others = list_only (Precedes g p) (λ k. IsWinning g p n k × (GoesOnBy g p tree b k → ⊥))
      (precedes_asym keys g p) _ _ o o' in
      let followed = list_only (StandsBefore tree b) (λ k. GoesOnBy g p tree b k × IsWinning g p n k)
      (stands_asym b) _ _ k k' in
      ((λ x. map (λ t. fails b t.0 t.1) (failing x) ++ if_any (also b) (others x)), followed)

  at_defender_one : (q : Placement) (b : List Move) (hs ks : List Remark) (ms os : List Move)
      → AtDefender g q tree b hs ms → AtDefender g q tree b ks os → (hs ≡ ks) × (ms ≡ os)
  at_defender_one q b hs ks ms os (over none) (over never) = (refl, refl)
  at_defender_one q b hs ks ms os (over none) (without_reply r legal never least) = absurd (none r legal)
  at_defender_one q b hs ks ms os (over none) (with_replies r goes o k) = absurd (none r goes.0)
  at_defender_one q b hs ks ms os (without_reply r legal never least) (over none) = absurd (none r legal)
  at_defender_one q b hs ks ms os (without_reply {k = i} r legal never least)
      (without_reply {k = j} s legal' never' other) =
      let same = loss_only g q i j least other in ((λ x. ends b (Some (same x)) ∷ []), refl)
  at_defender_one q b hs ks ms os (without_reply r legal never least) (with_replies s goes o k) = absurd (never s goes)
  at_defender_one q b hs ks ms os (with_replies r goes o k) (over none) = absurd (none r goes.0)
  at_defender_one q b hs ks ms os (with_replies r goes o k) (without_reply s legal never least) =
      absurd (never r goes)
  at_defender_one q b hs ks ms os (with_replies r goes o k) (with_replies s goes' o' k') =
      let others = list_only (Precedes g q) (λ m. Legal g q m × (GoesOnBy g q tree b m → ⊥))
      (precedes_asym keys g q) _ _ o o' in
      let replies = list_only (StandsBefore tree b) (GoesOnBy g q tree b) (stands_asym b) _ _ k k' in
      ((λ x. if_any (leaves_open b) (others x)), replies)

  remarks_one : (n : ℕ) (p : Placement) (b : List Move) (rs ss : List Remark) → AreRemarks g tree n p b rs
      → AreRemarks g tree n p b ss → rs ≡ ss
  remarks_one zero p b rs ss h k = absurd h
  remarks_one (suc n) p b rs ss h k =
      and_behind_one (AtAttacker g p (suc n) tree b)
      (λ m. AfterKey (AreRemarks g tree n) g tree (play g p m) (b ++ m ∷ []))
      (at_attacker_one p (suc n) b)
      (λ m us vs. and_behind_one (AtDefender g (play g p m) tree (b ++ m ∷ []))
      (λ r. AreRemarks g tree n (play g (play g p m) r) ((b ++ m ∷ []) ++ r ∷ []))
      (at_defender_one (play g p m) (b ++ m ∷ []))
      (λ r. remarks_one n (play g (play g p m) r) ((b ++ m ∷ []) ++ r ∷ [])) us vs) rs ss h k

pub tree_has_one : MovesHaveKeys → WinsStay → (g : Geometry) (p : Placement) (text : List ℕ)
    (beginnings : List (List Move))
    → IsTree g p text beginnings → (n : ℕ) (rs ss : List Remark) → AreRemarks g beginnings n p [] rs
    → AreRemarks g beginnings n p [] ss → rs ≡ ss
tree_has_one keys stay g p text beginnings is n rs ss h k =
    remarks_one keys stay g beginnings (distinct_once is.distinct) n p [] rs ss h k
