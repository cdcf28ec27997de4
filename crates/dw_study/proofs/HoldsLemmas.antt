-- If no remark on a tree is a fault, each of its paths that goes on nowhere is a line; if there is no remark at all,
-- these are all lines.
use Rattle.std.proofs.Common.{◌≡◌, ◌⊎◌, ℕ, zero, suc, ◌-◌, ◌≤◌, List, [], ◌∷◌, ◌++◌, length, map, refl, sym, ap, subst}
use Rattle.std.proofs.Common.{◌∙◌, inl, inr, arith, append-nil, append_assoc}
use Rattle.dw_board.specs.Geometry.{Geometry, IsBoard}
use Rattle.dw_board.specs.Placement.{Placement}
use Rattle.dw_board.specs.Lists.{Member}
use Rattle.dw_moves.specs.Moves.{Move, Legal, NoMove, play}
use Rattle.dw_moves.specs.Order.{Precedes, IsAscending}
use Rattle.dw_moves.specs.Laws.{MovesInOrder}
use Rattle.std.proofs.Common.{Bool, true, false}
use Rattle.std.proofs.lemmas.Bool.{true≢false}
use Rattle.dw_moves.specs.inner.MoveLemmas.{same_moves, same_moves-is}
use Rattle.dw_moves.specs.inner.MemberLemmas.{mem_left, mem_right, mem_cases, mem_map}
use Rattle.dw_solve.specs.Lines.{Line}
use Rattle.dw_solve.specs.Wins.{Win, Lost}
use Rattle.dw_solve.specs.Laws.{WinsAreDecided}
use Rattle.dw_games.specs.Play.{after}
use Rattle.dw_games.specs.Laws.{IsPlayed}
use Rattle.dw_verdict.specs.Verdict.{IsWinning}
use Rattle.dw_study.specs.Remarks.{Remark, fails, ends, GoesOnBy, IsFirstRefutation, AtAttacker, without_move}
use Rattle.dw_study.specs.Remarks.{with_moves, AtDefender, over, without_reply, with_replies, InTurn, nothing, one_more}
use Rattle.dw_study.specs.Remarks.{also, leaves_open, if_any, AreRemarks}
use Rattle.dw_study.specs.Laws.{IsFault}
use Rattle.dw_study.proofs.ChildLemmas.{last_same, after_more}

-- ---- the first reply that refutes is there, or none refutes
find_first : WinsAreDecided → (g : Geometry) (q : Placement) (n : ℕ) (xs : List Move) → IsAscending (Precedes g q) xs
    → ((r : Move) → Member r xs → Win g (play g q r) n)
    ⊎ ((r : Move) × Member r xs × (Win g (play g q r) n → ⊥)
    × ((o : Move) → Member o xs → (Win g (play g q o) n → ⊥) → (o ≡ r) ⊎ Precedes g q r o))
find_first decided g q n [] order = inl (λ r m. absurd m)
find_first decided g q n (x ∷ xs) order = elim (decided g (play g q x) n) [
  | inr lost ↦ inr (x, inl refl, lost, λ o m h. elim m [ inl e ↦ inl e | inr k ↦ inr (order.0 o k) ])
  | inl win ↦ elim (find_first decided g q n xs order.1) [
    | inl all ↦ inl (λ r m. elim m [ inl e ↦ subst (λ z. Win g (play g q z) n) (sym e) win | inr k ↦ all r k ])
    | inr f ↦ inr (
      f.0,
      inr f.1,
      f.2,
      λ o m h. elim m [ inl e ↦ absurd (h (subst (λ z. Win g (play g q z) n) (sym e) win)) | inr k ↦ f.3 o k h ],
    )
  ]
]

lost_or_first : WinsAreDecided → MovesInOrder → (g : Geometry) → IsBoard g → (q : Placement) (n : ℕ)
    → Lost g q n ⊎ ((r : Move) × IsFirstRefutation g q n r)
lost_or_first decided order g board q n =
    let list = order.some g board q in
    elim (find_first decided g q n list.0 list.1.ascending) [
      | inl all ↦ inl (λ r legal. all r ((list.1.exactly r).1 legal))
      | inr f ↦ inr (
        f.0,
        record {
          refutes = ((list.1.exactly f.0).0 f.1, f.2);
          first = λ o h. f.3 o ((list.1.exactly o).1 h.0) h.1;
        },
      )
    ]

-- ---- lists
pub split_last : {A : Type 0} (y : A) (ys : List A) → (front : List A) × (last : A) × (y ∷ ys ≡ front ++ last ∷ [])
    × (length front ≡ length ys)
split_last y [] = ([], y, refl, refl)
split_last y (z ∷ ys) = let h = split_last z ys in (y ∷ h.0, h.1, ap (λ w. y ∷ w) h.2, ap suc h.3)

some_list : {A B : Type 0} (xs ys : List A) (x : A) → xs ++ x ∷ ys ≡ [] → B
some_list [] ys x e = cc
some_list (y ∷ xs) ys x e = cc

behind_of : {Behind : Move → List Remark → Type 0} {moves : List Move} {later : List Remark} → InTurn Behind moves later
    → (m : Move) → Member m moves → (rs : List Remark) × Behind m rs × ((r : Remark) → Member r rs → Member r later)
behind_of nothing m there = absurd there
behind_of {Behind = Behind} (one_more {moves = moves} {before = before} {remarks = remarks} o h k) m there =
    elim (mem_cases m moves (o ∷ []) there) [
      | inl old ↦ let f = behind_of h m old in (f.0, f.1, λ r x. mem_left r before remarks (f.2 r x))
      | inr (inl e) ↦ (remarks, subst (λ z. Behind z remarks) (sym e) k, λ r x. mem_right r before remarks x)
      | inr (inr gone) ↦ absurd gone
    ]

-- whether a path stands in a tree
pub same_decided : (m n : Move) (b : Bool) → same_moves m n ≡ b → (m ≡ n) ⊎ (m ≡ n → ⊥)
same_decided m n true is = inl ((same_moves-is m n).0 is)
same_decided m n false is = inr (λ e. true≢false (sym ((same_moves-is m n).1 e) ∙ is))

pub first_same : (m n : Move) (l k : List Move) → m ∷ l ≡ n ∷ k → m ≡ n
first_same m n l k e = cc

pub rest_same : (m n : Move) (l k : List Move) → m ∷ l ≡ n ∷ k → l ≡ k
rest_same m n l k e = cc

pub unlike : {A : Type 0} (m : Move) (l : List Move) → m ∷ l ≡ [] → A
unlike m l e = cc

path_decided : (l k : List Move) → (l ≡ k) ⊎ (l ≡ k → ⊥)
path_decided [] [] = inl refl
path_decided [] (n ∷ k) = inr (λ e. unlike n k (sym e))
path_decided (m ∷ l) [] = inr (λ e. unlike m l e)
path_decided (m ∷ l) (n ∷ k) = elim (same_decided m n (same_moves m n) refl) [
  | inr differ ↦ inr (λ e. differ (first_same m n l k e))
  | inl e ↦ elim (path_decided l k) [
    | inr differ ↦ inr (λ f. differ (rest_same m n l k f))
    | inl f ↦ inl (λ i. e i ∷ f i)
  ]
]

pub stands_decided : (path : List Move) (tree : List (List Move)) → Member path tree ⊎ (Member path tree → ⊥)
stands_decided path [] = inr (λ m. m)
stands_decided path (other ∷ tree) = elim (path_decided path other) [
  | inl e ↦ inl (inl e)
  | inr differ ↦ elim (stands_decided path tree) [
    | inl m ↦ inl (inr m)
    | inr not_there ↦ inr (λ m. elim m [ inl e ↦ differ e | inr old ↦ not_there old ])
  ]
]

if_any_said : (remark : List Move → Remark) (moves : List Move) (m : Move) → Member m moves
    → Member (remark moves) (if_any remark moves)
if_any_said remark [] m there = absurd there
if_any_said remark (n ∷ moves) m there = inl refl

pub none_among : (rs : List Remark) → rs ≡ [] → (r : Remark) → Member r rs → IsFault r → ⊥
none_among rs none r there fault = subst (Member r) none there

-- no remark is a fault
abbrev NoFault : List Remark → Type 0
NoFault rs = (r : Remark) → Member r rs → IsFault r → ⊥

-- there is no remark
abbrev Silent : List Remark → Type 0
Silent rs = (r : Remark) → Member r rs → ⊥

-- a path goes on nowhere
abbrev IsWhole : List (List Move) → List Move → Type 0
IsWhole tree path = (m : Move) → Member (path ++ m ∷ []) tree → ⊥

module _ (decided : WinsAreDecided) (order : MovesInOrder) (g : Geometry) (board : IsBoard g) (start : Placement)
    (tree : List (List Move)) (played : (path : List Move) → Member path tree → IsPlayed g start tree path) where
  -- the beginnings of a path stand in the tree
  pub begins : (k : ℕ) (b : List Move) (m : Move) (rest : List Move) → length rest ≤ k → Member (b ++ m ∷ rest) tree
      → Member (b ++ m ∷ []) tree
  begins k b m [] few there = there
  begins zero b m (r ∷ rest) few there = absurd (omega (arith, few))
  begins (suc k) b m (r ∷ rest) few there =
      let path = played (b ++ m ∷ r ∷ rest) there in
      let split = split_last r rest in
      let is : (b ++ m ∷ split.0) ++ split.1 ∷ [] ≡ path.front ++ path.last ∷ [] =
      append_assoc b (m ∷ split.0) (split.1 ∷ []) ∙ (ap (λ z. b ++ m ∷ z) (sym split.2) ∙ path.is) in
      let front = (last_same (b ++ m ∷ split.0) path.front split.1 path.last is).0 in
      elim path.there [
        | inl none ↦ some_list b split.0 m (front ∙ none)
        | inr in_it ↦
            begins k b m split.0 (omega (arith, few, split.3)) (subst (λ z. Member z tree) (sym front) in_it)
      ]

  pub goes_on_by : (p : Placement) (b : List Move) (m : Move) → p ≡ after g start b → Member (b ++ m ∷ []) tree
      → GoesOnBy g p tree b m
  goes_on_by p b m at there =
      let path = played (b ++ m ∷ []) there in
      let both = last_same b path.front m path.last path.is in
      let legal = subst (λ z. Legal g (after g start z) path.last) (sym both.0) path.legal in
      (subst (λ z. Legal g z m) (sym at) (subst (Legal g (after g start b)) (sym both.1) legal), there)

  -- ---- a beginning without a fault
  attacker_ends : (p : Placement) (n : ℕ) (b : List Move) {here : List Remark} {moves : List Move}
      → AtAttacker g p n tree b here moves → NoFault here → IsWhole tree b → ⊥
  attacker_ends p n b (without_move none least) right whole = right (ends b _) (inl refl) tt
  attacker_ends p n b (with_moves m goes f o k) right whole = whole m goes.1

  attacker_wins : (p : Placement) (n : ℕ) (b : List Move) {here : List Remark} {moves : List Move}
      → AtAttacker g p (suc n) tree b here moves → NoFault here → (m : Move) → GoesOnBy g p tree b m
      → Member m moves × IsWinning g p (suc n) m
  attacker_wins p n b (without_move none least) right m goes = absurd (none m goes)
  attacker_wins p n b (with_moves {failing = failing} {others = others} x goes' f o k) right m goes =
      elim (lost_or_first decided order g board (play g p m) n) [
        | inl lost ↦ ((k.exactly m).1 (goes, (goes.0, lost)), (goes.0, lost))
        | inr r ↦
            let same : suc n - 1 ≡ n = omega arith in
            let first = subst (λ z. IsFirstRefutation g (play g p m) z r.0) (sym same) r.1 in
            let there = (f.exactly (m, r.0)).1 (goes, first) in
            absurd (right (fails b m r.0) (mem_left (fails b m r.0) (map (λ t. fails b t.0 t.1) failing) _
            (mem_map (λ t. fails b t.0 t.1) (m, r.0) failing there)) tt)
      ]

  defender_ends : (q : Placement) (b : List Move) {here : List Remark} {moves : List Move}
      → AtDefender g q tree b here moves → NoFault here → IsWhole tree b → NoMove g q
  defender_ends q b (over none) right whole = none
  defender_ends q b (without_reply r legal never least) right whole = absurd (right (ends b _) (inl refl) tt)
  defender_ends q b (with_replies r goes o k) right whole = absurd (whole r goes.1)

  defender_replies : (q : Placement) (b : List Move) {here : List Remark} {moves : List Move}
      → AtDefender g q tree b here moves → (r : Move) → GoesOnBy g q tree b r → Member r moves
  defender_replies q b (over none) r goes = absurd (none r goes.0)
  defender_replies q b (without_reply x legal never least) r goes = absurd (never r goes)
  defender_replies q b (with_replies x goes' o k) r goes = (k.exactly r).1 goes

  right_here : (rs here later : List Remark) → rs ≡ here ++ later → NoFault rs → NoFault here
  right_here rs here later e right r m = right r (subst (Member r) (sym e) (mem_left r here later m))

  right_later : (rs here later : List Remark) → rs ≡ here ++ later → NoFault rs → NoFault later
  right_later rs here later e right r m = right r (subst (Member r) (sym e) (mem_right r here later m))

  -- what leads on is a line
  leads_on : (n : ℕ) (p : Placement) (b : List Move) (rs : List Remark) → p ≡ after g start b
      → AreRemarks g tree n p b rs → NoFault rs → (rest : List Move) → Member (b ++ rest) tree
      → IsWhole tree (b ++ rest) → Line g p n rest
  leads_on zero p b rs at h right rest there whole = absurd h
  leads_on (suc n) p b rs at h right [] there whole =
      absurd (attacker_ends p (suc n) b h.at (right_here rs h.here h.later h.joined right)
      (subst (IsWhole tree) (append-nil b) whole))
  leads_on (suc n) p b rs at h right (m ∷ []) there whole =
      let won = attacker_wins p n b h.at (right_here rs h.here h.later h.joined right) m (goes_on_by p b m at there) in
      let next = behind_of h.behind m won.0 in
      let later = right_later rs h.here h.later h.joined right in
      let still : NoFault next.0 = λ r x. later r (next.2 r x) in (
        won.1.0,
        won.1.1,
        defender_ends (play g p m) (b ++ m ∷ []) next.1.at
            (right_here next.0 next.1.here next.1.later next.1.joined still) whole,
      )
  leads_on (suc n) p b rs at h right (m ∷ r ∷ l) there whole =
      let first = begins (length (r ∷ l)) b m (r ∷ l) (omega arith) there in
      let won = attacker_wins p n b h.at (right_here rs h.here h.later h.joined right) m (goes_on_by p b m at first) in
      let next = behind_of h.behind m won.0 in
      let later = right_later rs h.here h.later h.joined right in
      let still : NoFault next.0 = λ x y. later x (next.2 x y) in
      let q : Placement = play g p m in
      let c : List Move = b ++ m ∷ [] in
      let to : q ≡ after g start c = ap (λ z. play g z m) at ∙ sym (after_more g start b m) in
      let joined : c ++ r ∷ l ≡ b ++ m ∷ r ∷ l = append_assoc b (m ∷ []) (r ∷ l) in
      let reply = begins (length l) c r l (omega arith) (subst (λ z. Member z tree) (sym joined) there) in
      let goes = goes_on_by q c r to reply in
      let deeper = behind_of next.1.behind r (defender_replies q c next.1.at r goes) in
      let last : NoFault deeper.0 = λ x y. right_later next.0 next.1.here next.1.later next.1.joined still x
      (deeper.2 x y) in
      let whole_path : (c ++ r ∷ []) ++ l ≡ b ++ m ∷ r ∷ l = append_assoc c (r ∷ []) l ∙ joined in (
        won.1.0,
        won.1.1,
        goes.0,
        leads_on n (play g q r) (c ++ r ∷ []) deeper.0
            (ap (λ z. play g z r) to ∙ sym (after_more g start c r)) deeper.1 last l
            (subst (λ z. Member z tree) (sym whole_path) there) (subst (IsWhole tree) (sym whole_path) whole),
      )

  pub holds : (n : ℕ) (rs : List Remark) → AreRemarks g tree n start [] rs → ((r : Remark) → Member r rs → IsFault r →
      ⊥) → (path : List Move) → Member path tree → ((m : Move) → Member (path ++ m ∷ []) tree → ⊥) → Line g start n path
  holds n rs h right path there whole = leads_on n start [] rs refl h right path there whole

  -- ---- no remark at all
  attacker_whole : (p : Placement) (n : ℕ) (b : List Move) {here : List Remark} {moves : List Move}
      → AtAttacker g p n tree b here moves → Silent here → (m : Move) → IsWinning g p n m
      → Legal g p m → GoesOnBy g p tree b m × Member m moves
  attacker_whole p n b (without_move never least) none m wins legal = absurd (none (ends b _) (inl refl))
  attacker_whole p n b (with_moves {failing = failing} {others = others} x goes' f o k) none m wins legal =
      elim (stands_decided (b ++ m ∷ []) tree) [
        | inl there ↦ ((legal, there), (k.exactly m).1 ((legal, there), wins))
        | inr not_there ↦
            absurd (none (also b others) (mem_right (also b others) (map (λ t. fails b t.0 t.1) failing) _
            (if_any_said (also b) others m ((o.exactly m).1 (wins, λ goes. not_there goes.1)))))
      ]

  defender_whole : (q : Placement) (b : List Move) {here : List Remark} {moves : List Move}
      → AtDefender g q tree b here moves → Silent here → (r : Move) → Legal g q r
      → GoesOnBy g q tree b r × Member r moves
  defender_whole q b (over never) none r legal = absurd (never r legal)
  defender_whole q b (without_reply x lawful never least) none r legal = absurd (none (ends b _) (inl refl))
  defender_whole q b (with_replies {others = others} x goes' o k) none r legal =
      elim (stands_decided (b ++ r ∷ []) tree) [
        | inl there ↦ ((legal, there), (k.exactly r).1 (legal, there))
        | inr not_there ↦
            absurd (none (leaves_open b others)
            (if_any_said (leaves_open b) others r ((o.exactly r).1 (legal, λ goes. not_there goes.1))))
      ]

  -- a line stands in the tree, and goes on nowhere
  stands_there : (n : ℕ) (p : Placement) (b : List Move) (rs : List Remark) → p ≡ after g start b
      → AreRemarks g tree n p b rs → Silent rs → (rest : List Move) → Line g p n rest
      → Member (b ++ rest) tree × IsWhole tree (b ++ rest)
  stands_there zero p b rs at h none rest line = absurd h
  stands_there (suc n) p b rs at h none [] line = absurd line
  stands_there (suc n) p b rs at h none (m ∷ []) line =
      let here : Silent h.here = λ x y. none x (subst (Member x) (sym h.joined) (mem_left x h.here h.later y)) in
      let won = attacker_whole p (suc n) b h.at here m (line.0, line.1) line.0 in
      let to : play g p m ≡ after g start (b ++ m ∷ []) = ap (λ z. play g z m) at ∙ sym (after_more g start b m) in
      (won.0.1, λ x there. line.2 x (goes_on_by (play g p m) (b ++ m ∷ []) x to there).0)
  stands_there (suc n) p b rs at h none (m ∷ r ∷ l) line =
      let here : Silent h.here = λ x y. none x (subst (Member x) (sym h.joined) (mem_left x h.here h.later y)) in
      let won = attacker_whole p (suc n) b h.at here m (line.0, line.1) line.0 in
      let next = behind_of h.behind m won.1 in
      let still : Silent next.0 = λ x y. none x (subst (Member x) (sym h.joined) (mem_right x h.here h.later (next.2 x
      y))) in
      let q : Placement = play g p m in
      let c : List Move = b ++ m ∷ [] in
      let to : q ≡ after g start c = ap (λ z. play g z m) at ∙ sym (after_more g start b m) in
      let there : Silent next.1.here = λ x y. still x (subst (Member x) (sym next.1.joined) (mem_left x next.1.here
      next.1.later y)) in
      let reply = defender_whole q c next.1.at there r line.2 in
      let deeper = behind_of next.1.behind r reply.1 in
      let last : Silent deeper.0 = λ x y. still x (subst (Member x) (sym next.1.joined) (mem_right x next.1.here
      next.1.later (deeper.2 x y))) in
      let whole_path : (c ++ r ∷ []) ++ l ≡ b ++ m ∷ r ∷ l =
      append_assoc c (r ∷ []) l ∙ append_assoc b (m ∷ []) (r ∷ l) in
      subst (λ z. Member z tree × IsWhole tree z) whole_path
      (stands_there n (play g q r) (c ++ r ∷ []) deeper.0
      (ap (λ z. play g z r) to ∙ sym (after_more g start c r)) deeper.1 last l line.3)

  pub all_lines : (n : ℕ) → AreRemarks g tree n start [] [] → (path : List Move) → Line g start n path
      → Member path tree × ((m : Move) → Member (path ++ m ∷ []) tree → ⊥)
  all_lines n h path line = stands_there n start [] [] refl h (λ r m. m) path line
