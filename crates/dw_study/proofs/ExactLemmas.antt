-- If each path of a tree that goes on nowhere is a line, no remark is a fault; if these are all lines, there is none.
-- And each end has a number.
use Rattle.std.proofs.Common.{◌≡◌, ◌⊎◌, ℕ, zero, suc, ◌+◌, ◌<◌, ◌≤◌, List, [], ◌∷◌, ◌++◌, length, map, max, refl, sym}
use Rattle.std.proofs.Common.{ap, subst, ◌∙◌, inl, inr, arith, append-nil, append_assoc, length-append, Option, Some}
use Rattle.std.proofs.Common.{None}
use Rattle.std.specs.Prelude.{IsSome}
use Rattle.dw_solve.specs.Solving.{IsLeast}
use Rattle.dw_board.specs.Geometry.{Geometry, IsBoard}
use Rattle.dw_board.specs.Placement.{Placement}
use Rattle.dw_board.specs.Lists.{Member}
use Rattle.dw_moves.specs.Moves.{Move, Legal, play}
use Rattle.dw_moves.specs.Order.{Precedes, IsListOf}
use Rattle.dw_moves.specs.Laws.{MovesInOrder}
use Rattle.dw_moves.specs.inner.MoveLemmas.{same_moves}
use Rattle.dw_moves.specs.inner.MemberLemmas.{mem_left, mem_right, mem_cases, mem_map_back}
use Rattle.dw_solve.specs.Lines.{Line}
use Rattle.dw_solve.specs.Wins.{Win, Lost}
use Rattle.dw_games.specs.Play.{after}
use Rattle.dw_games.specs.Laws.{IsPlayed}
use Rattle.dw_verdict.specs.Verdict.{IsWinning}
use Rattle.dw_study.specs.Remarks.{Remark, fails, also, leaves_open, ends, GoesOnBy, if_any, AtAttacker, without_move}
use Rattle.dw_study.specs.Remarks.{with_moves, AtDefender, over, without_reply, with_replies, InTurn, nothing, one_more}
use Rattle.dw_study.specs.Remarks.{AreRemarks}
use Rattle.dw_study.specs.Laws.{IsFault, IsWholePath}
use Rattle.dw_study.proofs.ChildLemmas.{after_more}
use Rattle.dw_study.proofs.HoldsLemmas.{same_decided, first_same, rest_same, unlike, begins, goes_on_by}
use Rattle.dw_study.proofs.SeenLemmas.{refuted}
use Rattle.dw_solve.specs.Laws.{WinsAreDecided}

-- ---- a path of a tree goes on to one that goes on nowhere
abbrev longest : List (List Move) → ℕ
longest [] = 0
longest (path ∷ tree) = max (length path) (longest tree)

no_longer : (path : List Move) (tree : List (List Move)) → Member path tree → length path ≤ longest tree
no_longer path [] m = absurd m
no_longer path (other ∷ tree) (inl e) = let same : length path ≡ length other = ap length e in omega (arith, same)
no_longer path (other ∷ tree) (inr m) = let h = no_longer path tree m in omega (arith, h)

-- whether a path is another with one move more
one_longer : (c x : List Move) → ((m : Move) × (c ++ m ∷ [] ≡ x)) ⊎ ((m : Move) → c ++ m ∷ [] ≡ x → ⊥)
one_longer [] [] = inr (λ m e. unlike m [] e)
one_longer [] (m ∷ []) = inl (m, refl)
one_longer [] (m ∷ n ∷ x) = inr (λ o e. unlike n x (sym (rest_same o m [] (n ∷ x) e)))
one_longer (a ∷ c) [] = inr (λ m e. unlike a (c ++ m ∷ []) e)
one_longer (a ∷ c) (z ∷ x) = elim (same_decided a z (same_moves a z) refl) [
  | inr differ ↦ inr (λ m e. differ (first_same a z (c ++ m ∷ []) x e))
  | inl e ↦ elim (one_longer c x) [
    | inr none ↦ inr (λ m f. none m (rest_same a z (c ++ m ∷ []) x f))
    | inl h ↦ inl (h.0, λ i. e i ∷ h.1 i)
  ]
]

goes_decided : (c : List Move) (tree : List (List Move)) → ((m : Move) × Member (c ++ m ∷ []) tree)
    ⊎ ((m : Move) → Member (c ++ m ∷ []) tree → ⊥)
goes_decided c [] = inr (λ m gone. gone)
goes_decided c (x ∷ tree) = elim (one_longer c x) [
  | inl h ↦ inl (h.0, inl h.1)
  | inr none ↦ elim (goes_decided c tree) [
    | inl h ↦ inl (h.0, inr h.1)
    | inr never ↦ inr (λ m there. elim there [ inl e ↦ none m e | inr old ↦ never m old ])
  ]
]

pub extends : (tree : List (List Move)) (k : ℕ) (c : List Move) → Member c tree → longest tree ≤ length c + k
    → (rest : List Move) × IsWholePath tree (c ++ rest)
extends tree zero c there few = elim (goes_decided c tree) [
  | inr whole ↦ ([], subst (IsWholePath tree) (sym (append-nil c)) (there, whole))
  | inl h ↦
      let long = no_longer (c ++ h.0 ∷ []) tree h.1 in
      let one = length-append c (h.0 ∷ []) in
      absurd (omega (arith, few, long, one))
]
extends tree (suc k) c there few = elim (goes_decided c tree) [
  | inr whole ↦ ([], subst (IsWholePath tree) (sym (append-nil c)) (there, whole))
  | inl h ↦
      let one = length-append c (h.0 ∷ []) in
      let e = extends tree k (c ++ h.0 ∷ []) h.1 (omega (arith, few, one)) in
      (h.0 ∷ e.0, subst (IsWholePath tree) (append_assoc c (h.0 ∷ []) e.0) e.1)
]

-- ---- a number of moves
-- a remark on an end has a number
abbrev IsNumbered : Remark → Type 0
IsNumbered (fails b m r) = Unit {0}
IsNumbered (also b keys) = Unit {0}
IsNumbered (leaves_open b replies) = Unit {0}
IsNumbered (ends b wins_in) = IsSome wins_in

least_some : (g : Geometry) (p : Placement) (n : ℕ) (k : Option ℕ) → IsLeast g p n k → Win g p n → IsSome k
least_some g p n None none win = absurd (none win)
least_some g p n (Some k) found win = refl

-- ---- lists of remarks
if_any_is : (remark : List Move → Remark) (moves : List Move) (r : Remark) → Member r (if_any remark moves)
    → (r ≡ remark moves) × ((m : Move) × Member m moves)
if_any_is remark [] r there = absurd there
if_any_is remark (m ∷ moves) r (inl e) = (e, (m, inl refl))
if_any_is remark (m ∷ moves) r (inr gone) = absurd gone

record From (Behind : Move → List Remark → Type 0) (moves : List Move) (r : Remark) : Type 0 where
  move : Move
  among : Member move moves
  remarks : List Remark
  behind : Behind move remarks
  there : Member r remarks

said_behind : {Behind : Move → List Remark → Type 0} {moves : List Move} {later : List Remark}
    → InTurn Behind moves later → (r : Remark) → Member r later → From Behind moves r
said_behind nothing r there = absurd there
said_behind (one_more {moves = moves} {before = before} {remarks = remarks} m h k) r there =
    elim (mem_cases r before remarks there) [
      | inl old ↦
          let f = said_behind h r old in record {
            move = f.move;
            among = mem_left f.move moves (m ∷ []) f.among;
            remarks = f.remarks;
            behind = f.behind;
            there = f.there;
          }
      | inr new ↦ record {
        move = m;
        among = mem_right m moves (m ∷ []) (inl refl);
        remarks = remarks;
        behind = k;
        there = new;
      }
    ]

-- ---- a win has a line
module _ (order : MovesInOrder) (g : Geometry) (board : IsBoard g) where
  key_line : (n : ℕ) (p : Placement) (m : Move) → Legal g p m → Lost g (play g p m) n
      → ((q : Placement) → Win g q n → (r : Move) × (l : List Move) × Line g q n (r ∷ l)) → (moves : List Move)
      → IsListOf (Precedes g (play g p m)) (Legal g (play g p m)) moves → (l : List Move) × Line g p (suc n) (m ∷ l)
  key_line n p m legal lost later [] all = ([], (legal, lost, λ r lawful. (all.exactly r).1 lawful))
  key_line n p m legal lost later (r ∷ moves) all =
      let lawful = (all.exactly r).0 (inl refl) in
      let h = later (play g (play g p m) r) (lost r lawful) in
      (r ∷ h.0 ∷ h.1, (legal, lost, lawful, h.2))

  win_line : (n : ℕ) (p : Placement) → Win g p n → (m : Move) × (l : List Move) × Line g p n (m ∷ l)
  win_line zero p win = absurd win
  win_line (suc n) p win =
      let list = order.some g board (play g p win.0) in
      let h = key_line n p win.0 win.1 win.2 (win_line n) list.0 list.1 in
      (win.0, h.0, h.1)

  line_behind : (n : ℕ) (p : Placement) (m : Move) → IsWinning g p (suc n) m → (l : List Move) × Line g p (suc n) (m ∷
      l)
  line_behind n p m wins =
      let list = order.some g board (play g p m) in key_line n p m wins.0 wins.1 (win_line n) list.0 list.1

  -- a line on which a reply is played
  line_through : (n : ℕ) (p : Placement) (m r : Move) → IsWinning g p (suc n) m → Legal g (play g p m) r
      → (l : List Move) × Line g p (suc n) (m ∷ r ∷ l)
  line_through n p m r wins legal =
      let h = win_line n (play g (play g p m) r) (wins.1 r legal) in (h.0 ∷ h.1, (wins.0, wins.1, legal, h.2))

module _ (decided : WinsAreDecided) (order : MovesInOrder) (g : Geometry) (board : IsBoard g) (start : Placement)
    (tree : List (List Move)) (played : (path : List Move) → Member path tree → IsPlayed g start tree path)
    (some : 0 < length tree) where
  -- all paths that go on nowhere are lines, from a beginning on
  abbrev Lined : ℕ → Placement → List Move → Type 0
  Lined n p b = (rest : List Move) → IsWholePath tree (b ++ rest) → Line g p n rest

  -- all lines stand in the tree
  abbrev Full : ℕ → Placement → List Move → Type 0
  Full n p b = (rest : List Move) → Line g p n rest → Member (b ++ rest) tree

  some_path : (paths : List (List Move)) → 0 < length paths → (path : List Move) × Member path paths
  some_path [] any = absurd (omega (arith, any))
  some_path (path ∷ paths) any = (path, inl refl)

  root_goes : ((m : Move) → Member (m ∷ []) tree → ⊥) → ⊥
  root_goes whole =
      let first = some_path tree some in
      let path = played first.0 first.1 in
      go path.front path.last (subst (λ z. Member z tree) path.is first.1) where
        go : (front : List Move) (last : Move) → Member (front ++ last ∷ []) tree → ⊥
        go [] last there = whole last there
        go (m ∷ front) last there =
            whole m (begins decided order g board start tree played (length (front ++ last ∷ [])) [] m (front ++ last ∷
            []) (omega arith) there)

  no_ends : (n : ℕ) (p : Placement) (b : List Move) → (b ≡ []) ⊎ Member b tree → Lined (suc n) p b
      → ((m : Move) → Member (b ++ m ∷ []) tree → ⊥) → ⊥
  no_ends n p b (inl root) lined whole =
      root_goes (λ m there. whole m (subst (λ z. Member (z ++ m ∷ []) tree) (sym root) there))
  no_ends n p b (inr there) lined whole =
      lined [] (subst (IsWholePath tree) (sym (append-nil b)) (there, whole))

  line_wins : (n : ℕ) (p : Placement) (m : Move) (rest : List Move) → Line g p (suc n) (m ∷ rest)
      → IsWinning g p (suc n) m
  line_wins n p m [] line = (line.0, line.1)
  line_wins n p m (r ∷ rest) line = (line.0, line.1)

  -- ---- no fault, if the paths are lines
  attacker_right : (n : ℕ) (p : Placement) (b : List Move) {here : List Remark} {moves : List Move}
      → p ≡ after g start b → (b ≡ []) ⊎ Member b tree → Lined (suc n) p b
      → AtAttacker g p (suc n) tree b here moves → (r : Remark) → Member r here → IsFault r → ⊥
  attacker_right n p b at root lined (without_move never least) r there fault =
      no_ends n p b root lined (λ m on. never m (goes_on_by decided order g board start tree played p b m at on))
  attacker_right n p b at root lined (with_moves {failing = failing} {others = others} x goes f o k) r there fault =
      elim (mem_cases r (map (λ t. fails b t.0 t.1) failing) (if_any (also b) others) there) [
        | inl said ↦
            let t = mem_map_back (λ t. fails b t.0 t.1) r failing said in
            let is = (f.exactly t.0).0 t.1 in
            let e = extends tree (longest tree) (b ++ t.0.0 ∷ []) is.0.1 (omega arith) in
            let line = lined (t.0.0 ∷ e.0) (subst (IsWholePath tree) (append_assoc b (t.0.0 ∷ []) e.0) e.1) in
            refuted g p (suc n) t.0.0 t.0.1 is.1 (line_wins n p t.0.0 e.0 line)
        | inr other ↦ let a = if_any_is (also b) others r other in subst IsFault a.0 fault
      ]

  attacker_moves : (n : ℕ) (p : Placement) (b : List Move) {here : List Remark} {moves : List Move}
      → AtAttacker g p n tree b here moves → (m : Move) → Member m moves → GoesOnBy g p tree b m × IsWinning g p n m
  attacker_moves n p b (without_move never least) m there = absurd there
  attacker_moves n p b (with_moves x goes f o k) m there = (k.exactly m).0 there

  defender_right : (n : ℕ) (p : Placement) (b : List Move) (m : Move) {here : List Remark} {moves : List Move}
      → play g p m ≡ after g start (b ++ m ∷ []) → Lined (suc n) p b → Member (b ++ m ∷ []) tree
      → AtDefender g (play g p m) tree (b ++ m ∷ []) here moves → (r : Remark) → Member r here → IsFault r → ⊥
  defender_right n p b m to lined on (over never) r there fault = there
  defender_right n p b m to lined on (without_reply x legal never least) r there fault =
      let line = lined (m ∷ []) (
        on,
        λ y further. never y (goes_on_by decided order g board start tree played
            (play g p m) (b ++ m ∷ []) y to further),
      ) in
      line.2 x legal
  defender_right n p b m to lined on (with_replies {others = others} x goes o k) r there fault =
      let a = if_any_is (leaves_open (b ++ m ∷ [])) others r there in subst IsFault a.0 fault

  defender_moves : (q : Placement) (b : List Move) {here : List Remark} {moves : List Move}
      → AtDefender g q tree b here moves → (r : Move) → Member r moves → GoesOnBy g q tree b r
  defender_moves q b (over never) r there = absurd there
  defender_moves q b (without_reply x legal never least) r there = absurd there
  defender_moves q b (with_replies x goes o k) r there = (k.exactly r).0 there

  faultless : (n : ℕ) (p : Placement) (b : List Move) (rs : List Remark) → p ≡ after g start b
      → (b ≡ []) ⊎ Member b tree → AreRemarks g tree n p b rs → Lined n p b → (r : Remark) → Member r rs → IsFault r
      → ⊥
  faultless zero p b rs at root h lined r there fault = absurd h
  faultless (suc n) p b rs at root h lined r there fault =
      elim (mem_cases r h.here h.later (subst (Member r) h.joined there)) [
        | inl here ↦ attacker_right n p b at root lined h.at r here fault
        | inr later ↦
            let f = said_behind h.behind r later in
            let goes = attacker_moves (suc n) p b h.at f.move f.among in
            let k = f.behind in
            let q : Placement = play g p f.move in
            let c : List Move = b ++ f.move ∷ [] in
            let to : q ≡ after g start c = ap (λ z. play g z f.move) at ∙ sym (after_more g start b f.move) in
            elim (mem_cases r k.here k.later (subst (Member r) k.joined f.there)) [
              | inl here ↦ defender_right n p b f.move to lined goes.0.1 k.at r here fault
              | inr deep ↦
                  let e = said_behind k.behind r deep in
                  let reply = defender_moves q c k.at e.move e.among in
                  faultless n (play g q e.move) (c ++ e.move ∷ []) e.remarks
                  (ap (λ z. play g z e.move) to ∙ sym (after_more g start c e.move)) (inr reply.1) e.behind
                  (λ rest whole. (lined (f.move ∷ e.move ∷ rest) (subst (IsWholePath tree)
                  (append_assoc c (e.move ∷ []) rest ∙ append_assoc b (f.move ∷ []) (e.move ∷ rest)) whole)).3)
                  r e.there fault
            ]
      ]

  -- ---- only faults, if all lines stand in the tree
  attacker_speaks : (n : ℕ) (p : Placement) (b : List Move) {here : List Remark} {moves : List Move}
      → Full (suc n) p b → AtAttacker g p (suc n) tree b here moves → (r : Remark) → Member r here → IsFault r
  attacker_speaks n p b full (without_move never least) r (inl e) = subst IsFault (sym e) tt
  attacker_speaks n p b full (without_move never least) r (inr gone) = absurd gone
  attacker_speaks n p b full (with_moves {failing = failing} {others = others} x goes f o k) r there =
      elim (mem_cases r (map (λ t. fails b t.0 t.1) failing) (if_any (also b) others) there) [
        | inl said ↦
            let t = mem_map_back (λ t. fails b t.0 t.1) r failing said in subst IsFault (sym t.2) tt
        | inr other ↦
            let a = if_any_is (also b) others r other in
            let key = (o.exactly a.1.0).0 a.1.1 in
            let line = line_behind order g board n p a.1.0 key.0 in
            let on = begins decided order g board start tree played (length line.0) b a.1.0 line.0 (omega arith)
            (full (a.1.0 ∷ line.0) line.1) in
            absurd (key.1 (key.0.0, on))
      ]

  defender_speaks : (n : ℕ) (p : Placement) (b : List Move) (m : Move) {here : List Remark} {moves : List Move}
      → IsWinning g p (suc n) m → Full (suc n) p b → AtDefender g (play g p m) tree (b ++ m ∷ []) here moves
      → (r : Remark) → Member r here → IsFault r
  defender_speaks n p b m wins full (over never) r there = absurd there
  defender_speaks n p b m wins full (without_reply x legal never least) r (inl e) = subst IsFault (sym e) tt
  defender_speaks n p b m wins full (without_reply x legal never least) r (inr gone) = absurd gone
  defender_speaks n p b m wins full (with_replies {others = others} x goes o k) r there =
      let a = if_any_is (leaves_open (b ++ m ∷ [])) others r there in
      let reply = (o.exactly a.1.0).0 a.1.1 in
      let line = line_through order g board n p m a.1.0 wins reply.0 in
      let on = begins decided order g board start tree played (length line.0) (b ++ m ∷ []) a.1.0 line.0 (omega arith)
      (subst (λ z. Member z tree) (sym (append_assoc b (m ∷ []) (a.1.0 ∷ line.0))) (full (m ∷ a.1.0 ∷ line.0) line.1))
      in absurd (reply.1 (reply.0, on))

  speaks : (n : ℕ) (p : Placement) (b : List Move) (rs : List Remark) → AreRemarks g tree n p b rs → Full n p b
      → (r : Remark) → Member r rs → IsFault r
  speaks zero p b rs h full r there = absurd h
  speaks (suc n) p b rs h full r there =
      elim (mem_cases r h.here h.later (subst (Member r) h.joined there)) [
        | inl here ↦ attacker_speaks n p b full h.at r here
        | inr later ↦
            let f = said_behind h.behind r later in
            let goes = attacker_moves (suc n) p b h.at f.move f.among in
            let k = f.behind in
            let q : Placement = play g p f.move in
            let c : List Move = b ++ f.move ∷ [] in
            elim (mem_cases r k.here k.later (subst (Member r) k.joined f.there)) [
              | inl here ↦ defender_speaks n p b f.move goes.1 full k.at r here
              | inr deep ↦
                  let e = said_behind k.behind r deep in
                  let reply = defender_moves q c k.at e.move e.among in
                  speaks n (play g q e.move) (c ++ e.move ∷ []) e.remarks e.behind
                  (λ rest line. subst (λ z. Member z tree)
                  (sym (append_assoc c (e.move ∷ []) rest ∙ append_assoc b (f.move ∷ []) (e.move ∷ rest)))
                  (full (f.move ∷ e.move ∷ rest) (goes.1.0, goes.1.1, reply.0, line))) r e.there
            ]
      ]

  pub right : (n : ℕ) (rs : List Remark) → AreRemarks g tree n start [] rs
      → ((path : List Move) → IsWholePath tree path → Line g start n path) → (r : Remark) → Member r rs → IsFault r → ⊥
  right n rs h lines r there fault = faultless n start [] rs refl (inl refl) h lines r there fault

  pub silent : (n : ℕ) (rs : List Remark) → AreRemarks g tree n start [] rs
      → ((path : List Move) → IsWholePath tree path → Line g start n path)
      → ((path : List Move) → Line g start n path → IsWholePath tree path) → rs ≡ []
  silent n [] h lines all = refl
  silent n (r ∷ rs) h lines all =
      absurd (right n (r ∷ rs) h lines r (inl refl)
      (speaks n start [] (r ∷ rs) h (λ path line. (all path line).0) r (inl refl)))

  -- ---- each end has a number
  -- the tree goes on from a beginning, as from the root, or there is a win after it, as after a key and a reply
  abbrev GoesOnOrWins : ℕ → Placement → List Move → Type 0
  GoesOnOrWins n p b = ((m : Move) → GoesOnBy g p tree b m → ⊥) → Win g p n

  attacker_numbered : (p : Placement) (n : ℕ) (b : List Move) {here : List Remark} {moves : List Move}
      → GoesOnOrWins n p b → AtAttacker g p n tree b here moves → (r : Remark) → Member r here → IsNumbered r
  attacker_numbered p n b won (without_move {wins_in = k} never least) r (inl e) =
      subst IsNumbered (sym e) (least_some g p n k least (won never))
  attacker_numbered p n b won (without_move never least) r (inr gone) = absurd gone
  attacker_numbered p n b won (with_moves {failing = failing} {others = others} x goes f o k) r there =
      elim (mem_cases r (map (λ t. fails b t.0 t.1) failing) (if_any (also b) others) there) [
        | inl said ↦
            let t = mem_map_back (λ t. fails b t.0 t.1) r failing said in subst IsNumbered (sym t.2) tt
        | inr other ↦ let a = if_any_is (also b) others r other in subst IsNumbered (sym a.0) tt
      ]

  defender_numbered : (q : Placement) (b : List Move) {here : List Remark} {moves : List Move}
      → AtDefender g q tree b here moves → (r : Remark) → Member r here → IsNumbered r
  defender_numbered q b (over none) r there = absurd there
  defender_numbered q b (without_reply s legal never least) r (inl e) = subst IsNumbered (sym e) refl
  defender_numbered q b (without_reply s legal never least) r (inr gone) = absurd gone
  defender_numbered q b (with_replies {others = others} s goes o k) r there =
      let a = if_any_is (leaves_open b) others r there in subst IsNumbered (sym a.0) tt

  numbered : (n : ℕ) (p : Placement) (b : List Move) (rs : List Remark) → GoesOnOrWins n p b
      → AreRemarks g tree n p b rs → (r : Remark) → Member r rs → IsNumbered r
  numbered zero p b rs won h r there = absurd h
  numbered (suc n) p b rs won h r there =
      elim (mem_cases r h.here h.later (subst (Member r) h.joined there)) [
        | inl here ↦ attacker_numbered p (suc n) b won h.at r here
        | inr later ↦
            let f = said_behind h.behind r later in
            let key = attacker_moves (suc n) p b h.at f.move f.among in
            let k = f.behind in
            let q : Placement = play g p f.move in
            let c : List Move = b ++ f.move ∷ [] in
            elim (mem_cases r k.here k.later (subst (Member r) k.joined f.there)) [
              | inl here ↦ defender_numbered q c k.at r here
              | inr deep ↦
                  let e = said_behind k.behind r deep in
                  let reply = defender_moves q c k.at e.move e.among in
                  numbered n (play g q e.move) (c ++ e.move ∷ []) e.remarks (λ never. key.1.1 e.move reply.0) e.behind
                  r e.there
            ]
      ]

  pub ends_numbered : (n : ℕ) (rs : List Remark) → AreRemarks g tree n start [] rs → (b : List Move) (k : Option ℕ)
      → Member (ends b k) rs → IsSome k
  ends_numbered n rs h b k there =
      numbered n start [] rs (λ never. absurd (root_goes (λ m on. never m
      (goes_on_by decided order g board start tree played start [] m refl on)))) h (ends b k) there
