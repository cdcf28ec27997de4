-- What is seen of a beginning, and what is remarked behind it.
use Rattle.std.proofs.Common.{◌≡◌, ℕ, zero, suc, ◌+◌, ◌-◌, ◌<◌, ◌≤◌, List, [], ◌∷◌, ◌++◌, length, map, take, drop}
use Rattle.std.proofs.Common.{get_or, Vec, Global, cond, ◌*◌}
use Rattle.std.proofs.Common.{Option, Some, refl, sym, ap, subst, ◌∙◌, inl, inr, arith, Bool, true, false, IsTrue}
use Rattle.std.proofs.Common.{◌↔◌, append-nil, append_assoc, not}
use Rattle.std.specs.Prelude.{option_map}
use Rattle.std.proofs.lemmas.Bool.{true≢false}
use Rattle.std.specs.List.{slice_get}
use Rattle.std.proofs.lemmas.List.{take_all, map-append, map-id}
use Rattle.dw_board.specs.Geometry.{Geometry}
use Rattle.dw_board.specs.Placement.{Placement}
use Rattle.dw_board.specs.Lists.{Member}
use Rattle.dw_moves.specs.Moves.{Move, Legal, play}
use Rattle.dw_moves.specs.Order.{Precedes, IsAscending, IsListOf}
use Rattle.dw_moves.specs.Laws.{MovesHaveKeys}
use Rattle.dw_moves.specs.inner.MemberLemmas.{mem_cases, mem_map}
use Rattle.dw_solve.specs.inner.ListLemmas.{at_item, ascending_parts, listed_as}
use Rattle.dw_solve.specs.inner.LineOrderLemmas.{precedes_asym}
use Rattle.dw_solve.specs.Solving.{IsLeast}
use Rattle.dw_solve.specs.Wins.{Win, Lost}
use Rattle.dw_verdict.specs.Verdict.{IsWinning}
use Rattle.dw_verdict.specs.inner.GatheredLemmas.{GatheredTo, to_none, to_more, to_same, to_all, item_among}
use Rattle.dw_games.specs.Walk.{PlayedTree, place_of, beginning_at}
use Rattle.dw_games.specs.declared.branches.Node.{Node}
use Rattle.dw_study.specs.declared.branch.CheckNode.{CheckNode}
use Rattle.dw_study.specs.declared.branch.Child.{Child}
use Rattle.dw_study.specs.declared.branch.Seen.{Seen}
use Rattle.dw_study.specs.declared.remark.Remark as code
use Rattle.dw_study.specs.declared.remark.Remark.TheVariants.{Fails, Also, Open, Ends}
use Rattle.dw_study.specs.Remarks.{Remark, fails, also, leaves_open, ends, GoesOnBy, StandsBefore, IsFirstRefutation}
use Rattle.dw_study.specs.Remarks.{if_any, AtAttacker, without_move, with_moves, AtDefender, over, without_reply}
use Rattle.dw_study.specs.Remarks.{with_replies, InTurn, nothing, one_more, IsLeastLoss}
use Rattle.dw_study.specs.Telling.{remark_in, Say}
use Rattle.dw_study.specs.inner.Checking.{AreChildren, AreOthers, AreOtherKeys, IsSorted, IsSeen, IsAt}
use Rattle.dw_study.specs.inner.Checking.{At}
use Rattle.dw_study.specs.inner.Checking.{Behind, IsChild, IsKept, left_after}
use Rattle.dw_study.proofs.ChildLemmas.{after_more}

-- ---- the first reply that refutes
-- the attacker wins after each of the first so many replies
abbrev pub WonTo : {V : Type 0} → (V → Move) → Geometry → Placement → ℕ → List V → ℕ → Type 0
WonTo step g q n xs i = (m : Move) → Member m (map step (take i xs)) → Win g (play g q m) n

module _ {V : Type 0} (step : V → Move) (g : Geometry) (q : Placement) (n : ℕ) (xs : List V) (i : ℕ) (x : V) where
  pub won_more : i < length xs → x ≡ get_or xs i x → Win g (play g q (step x)) n → WonTo step g q n xs i
      → WonTo step g q n xs (i + 1)
  won_more low at here before m member =
      let parts = at_item step xs i x low at in
      let one : i + 1 ≡ suc i = omega arith in
      let now = subst (λ z. Member m (map step (take z xs))) one member in
      elim (mem_cases m (map step (take i xs)) (step x ∷ []) (subst (Member m) parts.1 now)) [
        | inl early ↦ before m early
        | inr (inl e) ↦ subst (λ z. Win g (play g q z) n) (sym e) here
        | inr (inr gone) ↦ absurd gone
      ]

  pub first_found : IsListOf (Precedes g q) (Legal g q) (map step xs) → i < length xs → x ≡ get_or xs i x
      → (Win g (play g q (step x)) n → ⊥) → WonTo step g q n xs i → IsFirstRefutation g q n (step x)
  first_found all low at none before =
      let parts = at_item step xs i x low at in record {
        refutes = (item_among step (Precedes g q) (Legal g q) xs i x all low at, none);
        first = λ other h.
            elim (mem_cases other (map step (take i xs)) (step x ∷ map step (drop (suc i) xs))
            (subst (Member other) parts.0 ((all.exactly other).1 h.0))) [
              | inl early ↦ absurd (h.1 (before other early))
              | inr (inl e) ↦ inl e
              | inr (inr late) ↦
                  let rest = (ascending_parts (Precedes g q) (map step (take i xs)) _
                  (subst (IsAscending (Precedes g q)) parts.0 all.ascending)).0 in
                  inr (rest.0 other late)
            ];
      }

pub won_all : {V : Type 0} (step : V → Move) (g : Geometry) (q : Placement) (n : ℕ) (xs : List V) (i : ℕ)
    → IsListOf (Precedes g q) (Legal g q) (map step xs) → length xs ≤ i → WonTo step g q n xs i → Lost g q n
won_all step g q n xs i all end before r legal =
    before r (subst (λ z. Member r (map step z)) (sym (take_all i xs end)) ((all.exactly r).1 legal))

-- a position after which there is no win
pub no_win : (g : Geometry) (q after : Placement) (n : ℕ) (r : Move) (won : Bool) → after ≡ play g q r
    → (IsTrue won ↔ Win g after n) → won ≡ false → Win g (play g q r) n → ⊥
no_win g q after n r won there tells lost w =
    let holds = tells.1 (subst (λ z. Win g z n) (sym there) w) in cc

pub a_win : (g : Geometry) (q after : Placement) (n : ℕ) (r : Move) (won : Bool) → after ≡ play g q r
    → (IsTrue won ↔ Win g after n) → won ≡ true → Win g (play g q r) n
a_win g q after n r won there tells holds = subst (λ z. Win g z n) there (tells.0 holds)

-- there is only one first reply
pub one_first : MovesHaveKeys → (g : Geometry) (q : Placement) (n : ℕ) (r s : Move) → IsFirstRefutation g q n r
    → IsFirstRefutation g q n s → s ≡ r
one_first keys g q n r s first other = elim (first.first s other.refutes) [
  | inl e ↦ e
  | inr less ↦ elim (other.first r first.refutes) [
    | inl e ↦ sym e
    | inr more ↦ absurd (precedes_asym keys g q r s less more)
  ]
]

pub wins_if : (g : Geometry) (p : Placement) (n : ℕ) (m : Move) → 1 ≤ n → Legal g p m → Lost g (play g p m) (n - 1)
    → IsWinning g p n m
wins_if g p zero m some legal lost = absurd (omega (arith, some))
wins_if g p (suc n) m some legal lost =
    let same : suc n - 1 ≡ n = omega arith in (legal, subst (Lost g (play g p m)) same lost)

pub key_lost : (g : Geometry) (p : Placement) (n : ℕ) (m : Move) → IsWinning g p n m
    → Legal g p m × Lost g (play g p m) (left_after true n) × Lost g (play g p m) (n - 1)
key_lost g p zero m h = absurd h
key_lost g p (suc n) m h =
    let same : suc n - 1 ≡ n = omega arith in (h.0, h.1, subst (Lost g (play g p m)) (sym same) h.1)

-- no refuted move wins
pub refuted : (g : Geometry) (p : Placement) (n : ℕ) (m r : Move) → IsFirstRefutation g (play g p m) (n - 1) r
    → IsWinning g p n m → ⊥
refuted g p n m r first h = let lost = (key_lost g p n m h).2 in first.refutes.1 (lost r first.refutes.0)

-- a move wins exactly if the position after it is lost
pub wins_lost : (g : Geometry) (p after : Placement) (n : ℕ) (m : Move) (answer : Bool) → 1 ≤ n → Legal g p m
    → after ≡ play g p m → (IsTrue answer ↔ Lost g after (n - 1)) → answer ≡ true → IsWinning g p n m
wins_lost g p after n m answer some legal there is e =
    wins_if g p n m some legal (subst (λ z. Lost g z (n - 1)) there (is.0 e))

pub fails_kept : (g : Geometry) (p after : Placement) (n : ℕ) (m : Move) (answer : Bool) → after ≡ play g p m
    → (IsTrue answer ↔ Lost g after (n - 1)) → answer ≡ false → IsWinning g p n m → ⊥
fails_kept g p after n m answer there is e wins =
    true≢false (sym (is.1 (subst (λ z. Lost g z (n - 1)) (sym there) (key_lost g p n m wins).2)) ∙ e)

pub item_member : {A : Type 0} (xs : List A) (i : ℕ) (x : A) → i < length xs → x ≡ get_or xs i x → Member x xs
item_member [] i x low at = absurd (omega (arith, low))
item_member (y ∷ xs) zero x low at = inl at
item_member (y ∷ xs) (suc i) x low at = inr (item_member xs i x (omega (arith, low)) at)

-- ---- the children that win and those that fail
pub record SortedTo {B : Type 0} (g : Geometry) (p : Placement) (n : ℕ) (tree : List (List Move)) (b : List Move)
    (node : Option Node) (children : List (Child B)) (i : ℕ) (remarks : List (code.Remark B))
    (followed : List (Child B)) : Type 0 where
  pub failing : List (Move × Move)
  pub said : remarks ≡ map (λ t. Fails node t.0 t.1) failing
  pub fail : GatheredTo (λ c. c.mv) (StandsBefore tree b) (λ (t : Move × Move). t.0)
      (λ (t : Move × Move). IsFirstRefutation g (play g p t.0) (n - 1) t.1) children i failing
  pub win : GatheredTo (λ c. c.mv) (StandsBefore tree b) (λ m. m) (IsWinning g p n) children i
      (map (λ c. c.mv) followed)
  pub each : (c : Child B) → Member c followed → Member c children

module _ {B : Type 0} (g : Geometry) (p : Placement) (n : ℕ) (tree : List (List Move)) (b : List Move)
    (node : Option Node) (children : List (Child B)) where
  pub sorted_none : (remarks : List (code.Remark B)) (followed : List (Child B)) → remarks ≡ [] → followed ≡ []
      → SortedTo g p n tree b node children 0 remarks followed
  sorted_none remarks followed none nobody = record {
    failing = [];
    said = none;
    fail = to_none (λ (c : Child B). c.mv) (StandsBefore tree b) (λ (t : Move × Move). t.0)
        (λ (t : Move × Move). IsFirstRefutation g (play g p t.0) (n - 1) t.1) children [] refl;
    win = to_none (λ (c : Child B). c.mv) (StandsBefore tree b) (λ m. m) (IsWinning g p n) children
        (map (λ (c : Child B). c.mv) followed) (ap (map (λ (c : Child B). c.mv)) nobody);
    each = λ c m. absurd (subst (Member c) nobody m);
  }

  -- the next one fails
  pub sorted_fail : MovesHaveKeys → AreChildren g p tree b children → (i : ℕ) (c : Child B) (reply : Move)
      (after : Placement) (remarks now : List (code.Remark B)) (followed : List (Child B)) → i < length children
      → c ≡ get_or children i c → after ≡ play g p c.mv → IsFirstRefutation g after (n - 1) reply
      → now ≡ remarks ++ Fails node c.mv reply ∷ []
      → SortedTo g p n tree b node children i remarks followed
      → SortedTo g p n tree b node children (i + 1) now followed
  sorted_fail keys all i c reply after remarks now followed low at there first pushed h =
      let here = subst (λ z. IsFirstRefutation g z (n - 1) reply) there first in
      record {
        failing = h.failing ++ (c.mv, reply) ∷ [];
        said = pushed ∙ (ap (λ z. z ++ Fails node c.mv reply ∷ []) h.said
            ∙ sym (map-append (λ (t : Move × Move). Fails node t.0 t.1) h.failing ((c.mv, reply) ∷ [])));
        fail = to_more (λ (x : Child B). x.mv) (StandsBefore tree b) (λ (t : Move × Move). t.0)
            (λ (t : Move × Move). IsFirstRefutation g (play g p t.0) (n - 1) t.1) children i c h.failing (c.mv, reply)
            all.in_order.ascending low at refl here
            (λ z e k. let same = one_first keys g (play g p c.mv) (n - 1) reply z.1 here
            (subst (λ m. IsFirstRefutation g (play g p m) (n - 1) z.1) e k) in (λ j. (e j, same j))) h.fail;
        win = to_same (λ (x : Child B). x.mv) (StandsBefore tree b) (λ m. m) (IsWinning g p n) children i c
            (map (λ (x : Child B). x.mv) followed) low at
            (λ z e k. refuted g p n c.mv reply here (subst (IsWinning g p n) e k)) h.win;
        each = h.each;
      }

  -- or it wins
  pub sorted_key : AreChildren g p tree b children → (i : ℕ) (c : Child B) (after : Placement)
      (remarks : List (code.Remark B)) (followed now : List (Child B)) → 1 ≤ n → i < length children
      → c ≡ get_or children i c → Legal g p c.mv → after ≡ play g p c.mv → Lost g after (n - 1)
      → now ≡ followed ++ c ∷ []
      → SortedTo g p n tree b node children i remarks followed
      → SortedTo g p n tree b node children (i + 1) remarks now
  sorted_key all i c after remarks followed now some low at legal there lost pushed h =
      let here = wins_if g p n c.mv some legal (subst (λ z. Lost g z (n - 1)) there lost) in
      record {
        failing = h.failing;
        said = h.said;
        fail = to_same (λ (x : Child B). x.mv) (StandsBefore tree b) (λ (t : Move × Move). t.0)
            (λ (t : Move × Move). IsFirstRefutation g (play g p t.0) (n - 1) t.1) children i c h.failing low at
            (λ z e k. refuted g p n c.mv z.1 (subst (λ m. IsFirstRefutation g (play g p m) (n - 1) z.1) e k) here)
            h.fail;
        win = subst (GatheredTo (λ (x : Child B). x.mv) (StandsBefore tree b) (λ m. m) (IsWinning g p n) children
            (i + 1)) (sym (ap (map (λ (x : Child B). x.mv)) pushed
            ∙ map-append (λ (x : Child B). x.mv) followed (c ∷ [])))
            (to_more (λ (x : Child B). x.mv) (StandsBefore tree b) (λ m. m) (IsWinning g p n) children i c
            (map (λ (x : Child B). x.mv) followed) c.mv all.in_order.ascending low at refl here (λ z e k. e) h.win);
        each = λ d m. elim (mem_cases d followed (c ∷ []) (subst (Member d) pushed m)) [
          | inl old ↦ h.each d old
          | inr (inl e) ↦ subst (λ z. Member z children) (sym e) (item_member children i c low at)
          | inr (inr gone) ↦ absurd gone
        ];
      }

  -- all were sorted
  pub sorted_all : AreChildren g p tree b children → (i : ℕ) (seen : Seen B) → length children ≤ i
      → SortedTo g p n tree b node children i seen.remarks.items seen.followed.items
      → IsSorted g p n tree b node children seen
  sorted_all all i seen end h = record {
    failing = h.failing;
    fail = to_all (λ (x : Child B). x.mv) (StandsBefore tree b) (λ (t : Move × Move). t.0)
        (λ (t : Move × Move). IsFirstRefutation g (play g p t.0) (n - 1) t.1) (GoesOnBy g p tree b) children i
        h.failing end all.in_order h.fail;
    said = h.said;
    win = to_all (λ (x : Child B). x.mv) (StandsBefore tree b) (λ m. m) (IsWinning g p n) (GoesOnBy g p tree b)
        children i (map (λ (x : Child B). x.mv) seen.followed.items) end all.in_order h.win;
    each = h.each;
  }

-- ---- the other keys
pub winning_all : (g : Geometry) (p : Placement) (n : ℕ) (given others keys : List Move) (i : ℕ)
    → AreOthers g p given others → length others ≤ i
    → GatheredTo (λ m. m) (Precedes g p) (λ m. m) (IsWinning g p n) others i keys → AreOtherKeys g p n given keys
winning_all g p n given others keys i all end h =
    listed_as (Precedes g p) (λ m. (Legal g p m × (Member m given → ⊥)) × IsWinning g p n m)
    (λ m. IsWinning g p n m × (Member m given → ⊥)) keys
    (λ m f. (f.1, f.0.1)) (λ m f. (((key_lost g p n m f.0).0, f.1), f.0))
    (to_all (λ m. m) (Precedes g p) (λ m. m) (IsWinning g p n) (λ m. Legal g p m × (Member m given → ⊥)) others i keys
    end (subst (IsListOf (Precedes g p) (λ m. Legal g p m × (Member m given → ⊥))) (sym (map-id others)) all) h)

-- those that are none of a list's are none of the same list's
pub others_of : {B : Type 0} (g : Geometry) (p : Placement) (given children : List (Child B)) (others : List Move)
    → given ≡ children → AreOthers g p (map (λ c. c.mv) given) others → AreOthers g p (map (λ c. c.mv) children) others
others_of {B} g p given children others same h =
    subst (λ z. AreOthers g p (map (λ (c : Child B). c.mv) z) others) same h

pub sorted_of : {B : Type 0} (g : Geometry) (p : Placement) (n : ℕ) (tree : List (List Move)) (b : List Move)
    (node : Option Node) (given children : List (Child B)) (seen : Seen B) → given ≡ children
    → IsSorted g p n tree b node given seen → IsSorted g p n tree b node children seen
sorted_of g p n tree b node given children seen same h = subst (λ z. IsSorted g p n tree b node z seen) same h

-- ---- what is said
pub if_none : (remark : List Move → Remark) (moves : List Move) → length moves ≡ 0 → if_any remark moves ≡ []
if_none remark [] none = refl
if_none remark (m ∷ moves) none = absurd (omega (arith, none))

pub if_some : (remark : List Move → Remark) (moves : List Move) → 0 < length moves
    → if_any remark moves ≡ remark moves ∷ []
if_some remark [] some = absurd (omega (arith, some))
if_some remark (m ∷ moves) some = refl

both_same : {A : Type 0} {x y : A} {xs ys : List A} → x ≡ y → xs ≡ ys → x ∷ xs ≡ y ∷ ys
both_same h t = cc

module _ (B : Type 0) (tree : List (List Move)) (node : Option Node) (b : List Move)
    (there : beginning_at tree (place_of node) ≡ Some b) where
  said_fails : (failing : List (Move × Move))
      → map (remark_in {B = B} tree) (map (λ t. Fails node t.0 t.1) failing)
      ≡ map (λ (r : Remark). Some r) (map (λ t. fails b t.0 t.1) failing)
  said_fails [] = refl
  said_fails (t ∷ failing) =
      both_same (ap (option_map (λ z. fails z t.0 t.1)) there) (said_fails failing)

  said_also : (keys : Vec Move Global) → remark_in {B = B} tree (Also node keys) ≡ Some (also b keys.items)
  said_also keys = ap (option_map (λ z. also z keys.items)) there

  said_open : (replies : Vec Move Global) → remark_in {B = B} tree (Open node replies)
      ≡ Some (leaves_open b replies.items)
  said_open replies = ap (option_map (λ z. leaves_open z replies.items)) there

  said_ends : (wins_in : Option ℕ) → remark_in {B = B} tree (Ends node wins_in) ≡ Some (ends b wins_in)
  said_ends wins_in = ap (option_map (λ z. ends z wins_in)) there

-- one remark
one_said : (B : Type 0) (tree : List (List Move)) (r : code.Remark B) (remark : Remark) (items : List (code.Remark B))
    → items ≡ r ∷ [] → remark_in tree r ≡ Some remark
    → map (remark_in tree) items ≡ map (λ (x : Remark). Some x) (remark ∷ [])
one_said B tree r remark items is says = ap (map (remark_in tree)) is ∙ ap (λ z. z ∷ []) says

-- remarks, and then others
pub say_then : {B : Type 0} (tree : List (List Move)) (items more : List (code.Remark B)) (said others : List Remark)
    → map (remark_in tree) items ≡ map (λ (r : Remark). Some r) said
    → map (remark_in tree) more ≡ map (λ (r : Remark). Some r) others
    → map (remark_in tree) (items ++ more) ≡ map (λ (r : Remark). Some r) (said ++ others)
say_then tree items more said others h k =
    map-append (remark_in tree) items more ∙ (ap (λ z. z ++ map (remark_in tree) more) h
    ∙ (ap (λ z. map (λ (r : Remark). Some r) said ++ z) k ∙ sym (map-append (λ (r : Remark). Some r) said others)))

-- ---- what is seen where the attacker is to move
none_at_all : {B : Type 0} (g : Geometry) (p : Placement) (tree : List (List Move)) (b : List Move)
    (children : List (Child B)) → AreChildren g p tree b children → length children ≡ 0 → (m : Move)
    → GoesOnBy g p tree b m → ⊥
none_at_all g p tree b [] all none m goes = (all.in_order.exactly m).1 goes
none_at_all g p tree b (c ∷ children) all none m goes = absurd (omega (arith, none))

some_child : {B : Type 0} (g : Geometry) (p : Placement) (tree : List (List Move)) (b : List Move)
    (children : List (Child B)) → AreChildren g p tree b children → 0 < length children
    → (m : Move) × GoesOnBy g p tree b m
some_child g p tree b [] all some = absurd (omega (arith, some))
some_child g p tree b (c ∷ children) all some = (c.mv, (all.in_order.exactly c.mv).0 (inl refl))

nothing_open : {B : Type 0} (g : Geometry) (p : Placement) (tree : List (List Move)) (b : List Move)
    (children : List (Child B)) (others : List Move) → AreChildren g p tree b children
    → AreOthers g p (map (λ c. c.mv) children) others
    → length others ≡ 0 → IsListOf (Precedes g p) (λ m. Legal g p m × (GoesOnBy g p tree b m → ⊥)) others
    → AtDefender g p tree b [] (map (λ c. c.mv) children)
nothing_open g p tree b children (r ∷ others) all other none lacks = absurd (omega (arith, none))
nothing_open g p tree b [] [] all other none lacks =
    over (λ m legal. (other.exactly m).1 (legal, λ member. member))
nothing_open g p tree b (c ∷ children) [] all other none lacks =
    let first = (all.in_order.exactly c.mv).0 (inl refl) in with_replies c.mv first lacks all.in_order

-- how much is missing where the attacker (true) is to move, or the defender (false), who can
abbrev pub IsMissing : Geometry → Bool → ℕ → Placement → Option ℕ → Type 0
IsMissing g true n p wins_in = IsLeast g p n wins_in
IsMissing g false n q wins_in = (k : ℕ) × (wins_in ≡ Some k) × IsLeastLoss g q k × ((r : Move) × Legal g q r)

module _ {B : Type 0} (g : Geometry) (p : Placement) (n : ℕ) (tree : List (List Move)) (b : List Move)
    (node : Option Node) (there : beginning_at tree (place_of node) ≡ Some b) (children : List (Child B))
    (all : AreChildren g p tree b children) where
  -- the solution ends
  pub ends_seen : (attacks : Bool) (wins_in : Option ℕ) (seen : Seen B) → length children ≡ 0
      → IsMissing g attacks n p wins_in
      → seen.remarks.items ≡ Ends node wins_in ∷ [] → seen.followed.items ≡ []
      → IsSeen g tree attacks n p b seen
  ends_seen attacks wins_in seen none missing said nobody = record {
    here = (
      ends b wins_in ∷ [],
      one_said B tree (Ends node wins_in) (ends b wins_in) seen.remarks.items said
          (said_ends B tree node b there wins_in),
      subst (At g tree attacks n p b (ends b wins_in ∷ []))
          (sym (ap (map (λ (c : Child B). c.mv)) nobody)) (stop attacks wins_in missing),
    );
    each = λ c m. absurd (subst (Member c) nobody m);
    kept = λ m h. absurd (subst (λ z. Member m (map (λ (c : Child B). c.mv) z)) nobody h);
  } where
    stop : (a : Bool) (k : Option ℕ) → IsMissing g a n p k → At g tree a n p b (ends b k ∷ []) []
    stop true k least = without_move (none_at_all g p tree b children all none) least
    stop false k (j, is, least, reply) =
        subst (λ z. At g tree false n p b (ends b z ∷ []) []) (sym is)
        (without_reply reply.0 reply.1 (none_at_all g p tree b children all none) least)

  keys_kept : (seen : Seen B) → IsSorted g p n tree b node children seen → (m : Move)
      → Member m (map (λ c. c.mv) seen.followed.items)
      → Legal g p m × IsKept g (not true) (left_after true n) (play g p m)
  keys_kept seen sorted m member =
      let key = key_lost g p n m ((sorted.win.exactly m).0 member).1 in (key.0, key.1)

  at_attacker : (seen : Seen B) (sorted : IsSorted g p n tree b node children seen) (others keys : List Move)
      → 0 < length children → AreOtherKeys g p n (map (λ c. c.mv) children) keys
      → AtAttacker g p n tree b (map (λ t. fails b t.0 t.1) sorted.failing ++ if_any (also b) keys)
      (map (λ c. c.mv) seen.followed.items)
  at_attacker seen sorted others keys some other =
      let first = some_child g p tree b children all some in
      with_moves first.0 first.1 sorted.fail
      (listed_as (Precedes g p) (λ m. IsWinning g p n m × (Member m (map (λ (c : Child B). c.mv) children) → ⊥))
      (λ m. IsWinning g p n m × (GoesOnBy g p tree b m → ⊥)) keys
      (λ m f. (f.0, λ goes. f.1 ((all.in_order.exactly m).1 goes)))
      (λ m f. (f.0, λ member. f.1 ((all.in_order.exactly m).0 member))) other)
      sorted.win

  -- no key is left out
  pub attacker_seen : (seen : Seen B) (keys : List Move) → IsSorted g p n tree b node children seen
      → 0 < length children → AreOtherKeys g p n (map (λ c. c.mv) children) keys → length keys ≡ 0
      → IsSeen g tree true n p b seen
  attacker_seen seen keys sorted some other none = record {
    here = (
      map (λ t. fails b t.0 t.1) sorted.failing ++ if_any (also b) keys,
      ap (map (remark_in tree)) sorted.said ∙ (said_fails B tree node b there sorted.failing
          ∙ ap (map (λ (r : Remark). Some r)) (sym (ap (λ z. map (λ t. fails b t.0 t.1) sorted.failing ++ z)
          (if_none (also b) keys none) ∙ append-nil _))),
      at_attacker seen sorted keys keys some other,
    );
    each = λ c m. all.each c (sorted.each c m);
    kept = keys_kept seen sorted;
  }

  -- some are
  pub attacker_misses : (seen now : Seen B) (keys : Vec Move Global) → IsSorted g p n tree b node children seen
      → 0 < length children → AreOtherKeys g p n (map (λ c. c.mv) children) keys.items → 0 < length keys.items
      → now.remarks.items ≡ seen.remarks.items ++ Also node keys ∷ []
      → now.followed.items ≡ seen.followed.items → IsSeen g tree true n p b now
  attacker_misses seen now keys sorted some other any pushed same_ones = record {
    here = (
      map (λ t. fails b t.0 t.1) sorted.failing ++ if_any (also b) keys.items,
      ap (map (remark_in tree)) pushed ∙ say_then tree seen.remarks.items (Also node keys ∷ [])
          (map (λ t. fails b t.0 t.1) sorted.failing) (if_any (also b) keys.items)
          (ap (map (remark_in tree)) sorted.said ∙ said_fails B tree node b there sorted.failing)
          (one_said B tree (Also node keys) (also b keys.items) (Also node keys ∷ []) refl
          (said_also B tree node b there keys)
          ∙ ap (map (λ (r : Remark). Some r)) (sym (if_some (also b) keys.items any))),
      subst (λ z. AtAttacker g p n tree b (map (λ t. fails b t.0 t.1) sorted.failing ++ if_any (also b) keys.items)
          (map (λ (c : Child B). c.mv) z)) (sym same_ones) (at_attacker seen sorted keys.items keys.items some other),
    );
    each = λ c m. all.each c (sorted.each c (subst (Member c) same_ones m));
    kept = λ m h. keys_kept seen sorted m (subst (λ z. Member m (map (λ (c : Child B). c.mv) z)) same_ones h);
  }

  -- ---- and where the defender is
  replies_kept : Lost g p n → (m : Move) → Member m (map (λ c. c.mv) children)
      → Legal g p m × IsKept g (not false) (left_after false n) (play g p m)
  replies_kept lost m member =
      let legal = ((all.in_order.exactly m).0 member).0 in (legal, some_left (play g p m) n (lost m legal)) where
        some_left : (q : Placement) (k : ℕ) → Win g q k → 1 ≤ k
        some_left q zero win = absurd win
        some_left q (suc k) win = omega arith

  lacking : (others : List Move) → AreOthers g p (map (λ c. c.mv) children) others
      → IsListOf (Precedes g p) (λ m. Legal g p m × (GoesOnBy g p tree b m → ⊥)) others
  lacking others other =
      listed_as (Precedes g p) (λ m. Legal g p m × (Member m (map (λ (c : Child B). c.mv) children) → ⊥))
      (λ m. Legal g p m × (GoesOnBy g p tree b m → ⊥)) others
      (λ m f. (f.0, λ goes. f.1 ((all.in_order.exactly m).1 goes)))
      (λ m f. (f.0, λ member. f.1 ((all.in_order.exactly m).0 member))) other

  -- all replies are there, or there is none
  pub defender_seen : (seen : Seen B) (others : List Move) → AreOthers g p (map (λ c. c.mv) children) others
      → length others ≡ 0
      → Lost g p n → seen.remarks.items ≡ [] → seen.followed.items ≡ children → IsSeen g tree false n p b seen
  defender_seen seen others other none lost silent same_ones = record {
    here = (
      [],
      ap (map (remark_in tree)) silent,
      subst (λ z. AtDefender g p tree b [] (map (λ (c : Child B). c.mv) z))
          (sym same_ones) (nothing_open g p tree b children others all other none (lacking others other)),
    );
    each = λ c m. all.each c (subst (Member c) same_ones m);
    kept = λ m h. replies_kept lost m (subst (λ z. Member m (map (λ (c : Child B). c.mv) z)) same_ones h);
  }

  -- some are not
  pub defender_misses : (seen : Seen B) (replies : Vec Move Global) → AreOthers g p (map (λ c. c.mv) children)
      replies.items → 0 < length replies.items
      → 0 < length children → Lost g p n → seen.remarks.items ≡ Open node replies ∷ []
      → seen.followed.items ≡ children → IsSeen g tree false n p b seen
  defender_misses seen replies other any some lost said same_ones =
      let first = some_child g p tree b children all some in record {
        here = (
          if_any (leaves_open b) replies.items,
          one_said B tree (Open node replies) (leaves_open b replies.items) seen.remarks.items said
              (said_open B tree node b there replies)
              ∙ ap (map (λ (r : Remark). Some r)) (sym (if_some (leaves_open b) replies.items any)),
          subst (λ z. AtDefender g p tree b (if_any (leaves_open b) replies.items) (map (λ (c : Child B). c.mv) z))
              (sym same_ones) (with_replies first.0 first.1 (lacking replies.items other) all.in_order),
        );
        each = λ c m. all.each c (subst (Member c) same_ones m);
        kept = λ m h. replies_kept lost m (subst (λ z. Member m (map (λ (c : Child B). c.mv) z)) same_ones h);
      }

  -- a legal reply that is none of these
  pub one_lacks : (others : List Move) → AreOthers g p (map (λ c. c.mv) children) others → 0 < length others
      → (r : Move) × Legal g p r
  one_lacks [] other some = absurd (omega (arith, some))
  one_lacks (r ∷ others) other some = (r, ((other.exactly r).0 (inl refl)).0)

-- ---- what is remarked behind the moves that are followed
-- the remarks so far: on the beginning, and behind the first so many of these moves
pub record SoFar (At : List Remark → Type 0) (Later : Move → List Remark → Type 0) (moves : List Move)
    (remarks : List Remark) : Type 0 where
  pub here : List Remark
  pub later : List Remark
  pub at : At here
  pub behind : InTurn Later moves later
  pub joined : remarks ≡ here ++ later

-- what may be remarked behind a move
abbrev pub Later : Geometry → List (List Move) → Bool → ℕ → Placement → List Move → Move → List Remark → Type 0
Later g tree attacks n p b m remarks =
    Behind g tree (not attacks) (left_after attacks n) (play g p m) (b ++ m ∷ []) remarks

-- the remarks that were said after so many of the children
abbrev pub SaidTo : {B : Type 0} → Geometry → List (List Move) → Bool → ℕ → Placement → List Move → List (Child B) → ℕ
    → List (code.Remark B) → Type 0
SaidTo g tree attacks n p b followed i items =
    Say tree items (SoFar (λ here. At g tree attacks n p b here (map (λ c. c.mv) followed)) (Later g tree attacks n p b)
    (map (λ c. c.mv) (take i followed)))

behind_all : (g : Geometry) (tree : List (List Move)) (attacks : Bool) (n : ℕ) (p : Placement) (b : List Move)
    (moves : List Move) (remarks : List Remark) → (attacks ≡ true → 1 ≤ n)
    → SoFar (λ here. At g tree attacks n p b here moves) (Later g tree attacks n p b) moves remarks
    → Behind g tree attacks n p b remarks
behind_all g tree attacks n p b moves remarks some h = by attacks n some h where
  by : (a : Bool) (k : ℕ) → (a ≡ true → 1 ≤ k)
      → SoFar (λ here. At g tree a k p b here moves) (Later g tree a k p b) moves remarks
      → Behind g tree a k p b remarks
  by true zero some h = absurd (let no = some refl in omega (arith, no))
  by true (suc k) some h = record {
    here = h.here;
    moves = moves;
    later = h.later;
    at = h.at;
    behind = h.behind;
    joined = h.joined;
  }
  by false k some h = record {
    here = h.here;
    moves = moves;
    later = h.later;
    at = h.at;
    behind = h.behind;
    joined = h.joined;
  }

module _ {B : Type 0} (g : Geometry) (tree : List (List Move)) (attacks : Bool) (n : ℕ) (p : Placement)
    (b : List Move) where
  pub said_none : (seen : Seen B) → IsSeen g tree attacks n p b seen
      → SaidTo g tree attacks n p b seen.followed.items 0 seen.remarks.items
  said_none seen h = (
    h.here.0,
    h.here.1,
    record { here = h.here.0; later = []; at = h.here.2; behind = nothing; joined = sym (append-nil h.here.0) },
  )

  pub said_more : (followed : List (Child B)) (i : ℕ) (c : Child B) (items more now : List (code.Remark B))
      → i < length followed → c ≡ get_or followed i c
      → SaidTo g tree attacks n p b followed i items → Say tree more (Later g tree attacks n p b c.mv)
      → now ≡ items ++ more → SaidTo g tree attacks n p b followed (i + 1) now
  said_more followed i c items more now low at h k pushed =
      let parts = at_item (λ (x : Child B). x.mv) followed i c low at in
      let one : i + 1 ≡ suc i = omega arith in (
        h.0 ++ k.0,
        ap (map (remark_in tree)) pushed ∙ say_then tree items more h.0 k.0 h.1 k.1,
        record {
          here = h.2.here;
          later = h.2.later ++ k.0;
          at = h.2.at;
          behind = subst (λ z. InTurn (Later g tree attacks n p b) (map (λ (x : Child B). x.mv) (take z followed))
              (h.2.later ++ k.0)) (sym one)
              (subst (λ z. InTurn (Later g tree attacks n p b) z (h.2.later ++ k.0)) (sym parts.1)
              (one_more c.mv h.2.behind k.2));
          joined = ap (λ z. z ++ k.0) h.2.joined ∙ append_assoc h.2.here h.2.later k.0;
        },
      )

  pub said_all : (followed : List (Child B)) (i : ℕ) (items : List (code.Remark B)) → length followed ≤ i
      → (attacks ≡ true → 1 ≤ n) → SaidTo g tree attacks n p b followed i items
      → Say tree items (Behind g tree attacks n p b)
  said_all followed i items end some h = (
    h.0,
    h.1,
    behind_all g tree attacks n p b (map (λ (c : Child B). c.mv) followed) h.0 some
        (subst (λ z. SoFar (λ here. At g tree attacks n p b here (map (λ (c : Child B). c.mv) followed))
        (Later g tree attacks n p b) (map (λ (c : Child B). c.mv) z) h.0) (take_all i followed end) h.2),
  )

-- ---- going on behind a move
-- what holds of a child that is followed
pub child_kept : {B : Type 0} (g : Geometry) (tree : List (List Move)) (attacks : Bool) (n : ℕ) (p : Placement)
    (b : List Move) (seen : Seen B) (items : List (Child B)) (i : ℕ) (c : Child B)
    → IsSeen g tree attacks n p b seen → items ≡ seen.followed.items → i < length items → c ≡ get_or items i c
    → Legal g p c.mv × IsKept g (not attacks) (left_after attacks n) (play g p c.mv) × IsChild g p tree b c
child_kept {B} g tree attacks n p b seen items i c h same low at =
    let member = subst (Member c) same (item_member items i c low at) in
    let kept = h.kept c.mv (mem_map (λ (x : Child B). x.mv) c seen.followed.items member) in
    (kept.0, kept.1, h.each c member)

pub left_less : (attacks : Bool) (n : ℕ) → left_after attacks n ≤ n
left_less true zero = omega arith
left_less true (suc n) = omega arith
left_less false n = omega arith

pub falls : (g : Geometry) (attacks : Bool) (n : ℕ) (p : Placement) → IsKept g attacks n p
    → 2 * left_after attacks n + cond (not attacks) 0 1 < 2 * n + cond attacks 0 1
falls g true zero p kept = absurd (omega (arith, kept))
falls g true (suc n) p kept = omega arith
falls g false n p kept = omega arith

pub kept_some : (g : Geometry) (attacks : Bool) (n : ℕ) (p : Placement) → IsKept g attacks n p → attacks ≡ true → 1 ≤ n
kept_some g true n p kept e = kept
kept_some g false n p kept e = absurd (true≢false (sym e))

-- the beginning with one move more
abbrev pub after_child : {B : Type 0} → Geometry → CheckNode B → Child B → CheckNode B
after_child g spot c = record {
  node = Some c.node;
  position = play g spot.position c.mv;
  attacks = not spot.attacks;
  left = left_after spot.attacks spot.left;
}

pub after_there : {B : Type 0} (g : Geometry) (tree : PlayedTree) (spot after : CheckNode B) (c : Child B)
    (b : List Move) → IsAt g tree spot b → after ≡ after_child g spot c
    → slice_get tree.paths c.node.0 ≡ Some (b ++ c.mv ∷ []) → IsAt g tree after (b ++ c.mv ∷ [])
after_there {B} g tree spot after c b here is there =
    subst (λ (z : CheckNode B). IsAt g tree z (b ++ c.mv ∷ [])) (sym is) record {
      there = there;
      position = ap (λ z. play g z c.mv) here.position ∙ sym (after_more g tree.start b c.mv);
    }

pub after_kept : {B : Type 0} (g : Geometry) (spot after : CheckNode B) (c : Child B) → after ≡ after_child g spot c
    → IsKept g (not spot.attacks) (left_after spot.attacks spot.left) (play g spot.position c.mv)
    → IsKept g after.attacks after.left after.position
after_kept {B} g spot after c is kept =
    subst (λ (z : CheckNode B). IsKept g z.attacks z.left z.position) (sym is) kept

pub after_less : {B : Type 0} (g : Geometry) (spot after : CheckNode B) (c : Child B) → after ≡ after_child g spot c
    → after.left ≤ spot.left
after_less {B} g spot after c is =
    subst (λ (z : CheckNode B). z.left ≤ spot.left) (sym is) (left_less spot.attacks spot.left)

pub after_falls : {B : Type 0} (g : Geometry) (spot after : CheckNode B) (c : Child B) → after ≡ after_child g spot c
    → IsKept g spot.attacks spot.left spot.position
    → 2 * after.left + cond after.attacks 0 1 < 2 * spot.left + cond spot.attacks 0 1
after_falls {B} g spot after c is kept =
    subst (λ (z : CheckNode B). 2 * z.left + cond z.attacks 0 1 < 2 * spot.left + cond spot.attacks 0 1) (sym is)
    (falls g spot.attacks spot.left spot.position kept)

pub after_says : {B : Type 0} (g : Geometry) (tree : List (List Move)) (spot after : CheckNode B) (c : Child B)
    (b : List Move) (items : List (code.Remark B)) → after ≡ after_child g spot c
    → Say tree items (Behind g tree after.attacks after.left after.position (b ++ c.mv ∷ []))
    → Say tree items (Later g tree spot.attacks spot.left spot.position b c.mv)
after_says {B} g tree spot after c b items is says =
    subst (λ (z : CheckNode B). Say tree items (Behind g tree z.attacks z.left z.position (b ++ c.mv ∷ []))) is says
