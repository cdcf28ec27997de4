-- The nodes behind a beginning, met one after another, and the moves that are none of theirs.
use Rattle.std.proofs.Common.{◌≡◌, ℕ, zero, suc, ◌+◌, ◌-◌, ◌<◌, ◌≤◌, List, [], ◌∷◌, ◌++◌, length, map, take, get_or}
use Rattle.std.proofs.Common.{Option, Some, None, refl, sym, ap, subst, ◌∙◌, ◌⊎◌, inl, inr, arith, Bool, true, false}
use Rattle.std.proofs.Common.{IsTrue, ◌==◌, Vec, Global, vec_len}
use Rattle.std.specs.Prelude.{MatchOption}
use Rattle.std.specs.List.{slice_get}
use Rattle.std.proofs.lemmas.Bool.{cases_lt, eqb-true, eqb-false}
use Rattle.std.proofs.lemmas.List.{take_all, map-append}
use Rattle.std.proofs.lemmas.Option.{slice_get_within}
use Rattle.dw_board.specs.Geometry.{Geometry}
use Rattle.dw_board.specs.Placement.{Placement}
use Rattle.dw_board.specs.Lists.{Member}
use Rattle.dw_moves.specs.Moves.{Move, Legal, play}
use Rattle.dw_moves.specs.Order.{IsAscending}
use Rattle.dw_moves.specs.inner.MemberLemmas.{mem_left, mem_right, mem_cases, mem_map_back}
use Rattle.dw_solve.specs.inner.ListLemmas.{at_item}
use Rattle.dw_games.specs.Play.{after}
use Rattle.dw_games.specs.Walk.{PlayedTree, place_of, beginning_at, IsNext}
use Rattle.dw_games.specs.declared.branches.Node.{Node}
use Rattle.dw_study.specs.declared.branch.CheckNode.{CheckNode}
use Rattle.dw_study.specs.declared.branch.Child.{Child}
use Rattle.dw_study.specs.Remarks.{StandsBefore, GoesOnBy}
use Rattle.dw_study.specs.inner.Checking.{AreChildren, IsAt, IsChild, IsNodeOf}

pub same : {A : Type 0} (x y : A) → Some x ≡ Some y → x ≡ y
same x y e = cc

pub absent : {A B : Type 0} (x : A) → None ≡ Some x → B
absent x e = cc

member_at : {A : Type 0} → (x : A) (xs : List A) → Member x xs → (k : ℕ) × (slice_get xs k ≡ Some x)
member_at x [] h = absurd h
member_at x (y ∷ xs) (inl e) = (zero, ap Some (sym e))
member_at x (y ∷ xs) (inr h) = let more = member_at x xs h in (suc more.0, more.1)

pub at_member : {A : Type 0} → (x : A) (xs : List A) (k : ℕ) → slice_get xs k ≡ Some x → Member x xs
at_member x [] k e = absent x e
at_member x (y ∷ xs) zero e = inl (sym (same y x e))
at_member x (y ∷ xs) (suc k) e = inr (at_member x xs k e)

-- lists with a last element are the same if both parts are
pub filled : {A B : Type 0} (xs : List A) (x : A) → [] ≡ xs ++ x ∷ [] → B
filled [] x e = cc
filled (y ∷ xs) x e = cc

joined : {A : Type 0} (a b : A) (xs ys : List A) → a ≡ b → xs ≡ ys → a ∷ xs ≡ b ∷ ys
joined a b xs ys h t = cc

pub last_same : {A : Type 0} (xs ys : List A) (x y : A) → xs ++ x ∷ [] ≡ ys ++ y ∷ [] → (xs ≡ ys) × (x ≡ y)
last_same [] [] x y e = (refl, cc)
last_same [] (b ∷ ys) x y e = let tail : [] ≡ ys ++ y ∷ [] = cc in filled ys y tail
last_same (a ∷ xs) [] x y e = let tail : [] ≡ xs ++ x ∷ [] = cc in filled xs x tail
last_same (a ∷ xs) (b ∷ ys) x y e =
    let head : a ≡ b = cc in
    let tail : xs ++ x ∷ [] ≡ ys ++ y ∷ [] = cc in
    let rest = last_same xs ys x y tail in
    (joined a b xs ys head rest.0, rest.1)

pub after_more : (g : Geometry) (p : Placement) (b : List Move) (m : Move) → after g p (b ++ m ∷ [])
    ≡ play g (after g p b) m
after_more g p [] m = refl
after_more g p (x ∷ b) m = after_more g (play g p x) b m

-- how much of a list is ahead of a place in it
abbrev pub ahead : ℕ → Option ℕ → ℕ
ahead size None = 0
ahead size (Some n) = size - n

-- the children that stand before a place
pub record ChildrenTo {B : Type 0} (g : Geometry) (p : Placement) (tree : List (List Move)) (b : List Move) (from : ℕ)
    (children : List (Child B)) : Type 0 where
  pub ascending : IsAscending (StandsBefore tree b) (map (λ c. c.mv) children)
  pub each : (c : Child B) → Member c children → IsChild g p tree b c × (c.node.0 < from) × Legal g p c.mv
  pub all : (k : ℕ) (m : Move) → k < from → slice_get tree k ≡ Some (b ++ m ∷ []) → Member m (map (λ c. c.mv) children)

-- those before the next node were met
pub record HaveMet {B : Type 0} (g : Geometry) (tree : PlayedTree) (spot : CheckNode B) (next : Option Node)
    (children : List (Child B)) : Type 0 where
  pub beginning : List Move
  pub at : IsAt g tree spot beginning
  pub from : ℕ
  pub next_one : IsNext tree.paths beginning from (place_of next)
  pub met : ChildrenTo g spot.position tree.paths beginning from children

-- an ascending list with one more element behind all others
ascending_more : {X : Type 0} (R : X → X → Type 0) (xs : List X) (x : X) → IsAscending R xs
    → ((y : X) → Member y xs → R y x) → IsAscending R (xs ++ x ∷ [])
ascending_more R [] x h less = ((λ y m. absurd m), tt)
ascending_more R (z ∷ xs) x h less = (
  λ y m. elim (mem_cases y xs (x ∷ []) m) [
    | inl old ↦ h.0 y old
    | inr (inl e) ↦ subst (R z) (sym e) (less z (inl refl))
    | inr (inr gone) ↦ absurd gone
  ],
  ascending_more R xs x h.1 (λ y m. less y (inr m)),
)

cases_at : (tree : List (List Move)) (b : List Move) (from n k : ℕ) (m o : Move) → from ≤ n → k < n + 1
    → ((j : ℕ) → from ≤ j → j < n → (x : Move) × (slice_get tree j ≡ Some (b ++ x ∷ [])) → ⊥)
    → slice_get tree n ≡ Some (b ++ m ∷ []) → slice_get tree k ≡ Some (b ++ o ∷ []) → (k < from) ⊎ (o ≡ m)
cases_at tree b from n k m o low high none here there = elim (cases_lt k from) [
  | inl before ↦ inl before
  | inr after ↦ elim (cases_lt k n) [
    | inl between ↦ absurd (none k after between (o, there))
    | inr past ↦
        let at : k ≡ n = omega (arith, past, high) in
        inr (last_same b b o m (same _ _ (sym there ∙ (ap (λ z. slice_get tree z) at ∙ here)))).1
  ]
]

-- one more is met
met_more : {B : Type 0} (g : Geometry) (p : Placement) (tree : List (List Move)) (b : List Move) (from : ℕ)
    (c : Child B) (children : List (Child B)) → from ≤ c.node.0
    → ((j : ℕ) → from ≤ j → j < c.node.0 → (x : Move) × (slice_get tree j ≡ Some (b ++ x ∷ [])) → ⊥)
    → IsChild g p tree b c → Legal g p c.mv → ChildrenTo g p tree b from children
    → ChildrenTo g p tree b (c.node.0 + 1) (children ++ c ∷ [])
met_more {B} g p tree b from c children low none here legal h = record {
  ascending = rw (map-append (λ (x : Child B). x.mv) children (c ∷ []))
      (ascending_more (StandsBefore tree b) (map (λ (x : Child B). x.mv) children) c.mv h.ascending
      (λ x old. let k = mem_map_back (λ (x : Child B). x.mv) x children old in
      let e = h.each k.0 k.1 in (
        k.0.node.0,
        c.node.0,
        omega (arith, e.1, low),
        subst (λ z. slice_get tree k.0.node.0 ≡ Some (b ++ z ∷ [])) (sym k.2) e.0.there,
        here.there,
      )));
  each = λ d member. elim (mem_cases d children (c ∷ []) member) [
    | inl old ↦ let e = h.each d old in (e.0, omega (arith, e.1, low), e.2)
    | inr (inl new) ↦ rw new (here, omega arith, legal)
    | inr (inr gone) ↦ absurd gone
  ];
  all = λ k o high there. rw (map-append (λ (x : Child B). x.mv) children (c ∷ []))
      (elim (cases_at tree b from c.node.0 k c.mv o low high none here.there there) [
        | inl before ↦ mem_left o (map (λ (x : Child B). x.mv) children) (c.mv ∷ []) (h.all k o before there)
        | inr e ↦ mem_right o (map (λ (x : Child B). x.mv) children) (c.mv ∷ []) (inl e)
      ]);
}

module _ {B : Type 0} (g : Geometry) (tree : PlayedTree) (spot : CheckNode B) where
  pub met_none : (next : Option Node) (children : List (Child B)) → (b : List Move) × IsAt g tree spot b
      → MatchOption (beginning_at tree.paths (place_of spot.node)) (next ≡ None)
      (λ b. IsNext tree.paths b 0 (place_of next))
      → children ≡ [] → HaveMet g tree spot next children
  met_none next children at first none =
      let is = rw at.1.there at first in
      rw none record {
        beginning = at.0;
        at = at.1;
        from = 0;
        next_one = is;
        met = record {
          ascending = tt;
          each = λ c m. absurd m;
          all = λ k m low e. absurd (omega (arith, low));
        };
      }

  module _ (next : Option Node) (n : Node) (children : List (Child B)) (is : next ≡ Some n)
      (h : HaveMet g tree spot next children) where
    next_met : IsNext tree.paths h.beginning h.from (Some n.0)
    next_met = rw is at h.next_one

    -- the place of the next node is in the tree
    pub inside : n.0 < length tree.paths
    inside = slice_get_within tree.paths n.0 (h.beginning ++ next_met.1.0 ∷ []) next_met.1.1

    -- the next one but this is nearer the end
    pub nearer : (after : Option Node) → ((b : List Move) (m : Move) → slice_get tree.paths n.0 ≡ Some (b ++ m ∷ [])
        → IsNext tree.paths b (n.0 + 1) (place_of after))
        → ahead (length tree.paths) (place_of after) < ahead (length tree.paths) (Some n.0)
    nearer None on = let low = inside in omega (arith, low)
    nearer (Some k) on =
        let low = inside in
        let later = on h.beginning next_met.1.0 next_met.1.1 in
        omega (arith, low, later.0)

    pub met_child : (then : Option Node) (c : Child B) → IsNodeOf g tree n c
        → ((b : List Move) (m : Move) → slice_get tree.paths n.0 ≡ Some (b ++ m ∷ [])
        → IsNext tree.paths b (n.0 + 1) (place_of then))
        → HaveMet g tree spot then (children ++ c ∷ [])
    met_child then c found on =
        let first : found.0 ≡ h.beginning =
        (last_same found.0 h.beginning c.mv next_met.1.0 (same _ _ (sym found.2 ∙ next_met.1.1))).0 in
        let there : slice_get tree.paths n.0 ≡ Some (h.beginning ++ c.mv ∷ []) =
        subst (λ z. slice_get tree.paths n.0 ≡ Some (z ++ c.mv ∷ [])) first found.2 in
        let at : after g tree.start found.0 ≡ spot.position =
        ap (after g tree.start) first ∙ sym h.at.position in
        let legal : Legal g spot.position c.mv = subst (λ z. Legal g z c.mv) at found.3.legal in
        let child : IsChild g spot.position tree.paths h.beginning c = record {
          there = subst (λ z. slice_get tree.paths z.0 ≡ Some (h.beginning ++ c.mv ∷ [])) (sym found.1) there;
          position = found.4 ∙ (after_more g tree.start found.0 c.mv ∙ ap (λ z. play g z c.mv) at);
        } in
        record {
          beginning = h.beginning;
          at = h.at;
          from = n.0 + 1;
          next_one = on h.beginning c.mv there;
          met = subst (λ z. ChildrenTo g spot.position tree.paths h.beginning (z.0 + 1) (children ++ c ∷ [])) found.1
              (met_more g spot.position tree.paths h.beginning h.from c children
              (subst (λ z. h.from ≤ z.0) (sym found.1) next_met.0)
              (λ j from below. next_met.2 j from (subst (λ z. j < z.0) found.1 below)) child legal h.met);
        }

    -- the node has a move
    pub met_some : {A : Type 0} → slice_get tree.paths n.0 ≡ None → A
    met_some none = absent (h.beginning ++ next_met.1.0 ∷ []) (sym none ∙ next_met.1.1)

  goes_on_by : (b : List Move) (from : ℕ) (children : List (Child B)) → IsNext tree.paths b from None
      → ChildrenTo g spot.position tree.paths b from children → (m : Move) → GoesOnBy g spot.position tree.paths b m
      → Member m (map (λ c. c.mv) children)
  goes_on_by b from children none h m goes =
      let at = member_at (b ++ m ∷ []) tree.paths goes.1 in
      elim (cases_lt at.0 from) [
        | inl before ↦ h.all at.0 m before at.1
        | inr after ↦ absurd (none at.0 after (m, at.1))
      ]

  -- all were met
  pub met_all : (next : Option Node) (children : List (Child B)) (b : List Move) → next ≡ None
      → HaveMet g tree spot next children → IsAt g tree spot b
      → AreChildren g spot.position tree.paths b children
  met_all next children b is h here =
      let none = rw is at h.next_one in
      let at : h.beginning ≡ b = same _ _ (sym h.at.there ∙ here.there) in
      subst (λ z. AreChildren g spot.position tree.paths z children) at record {
        in_order = record {
          ascending = h.met.ascending;
          exactly = λ m. (
            λ member. let k = mem_map_back (λ (x : Child B). x.mv) m children member in
                let e = h.met.each k.0 k.1 in
                subst (GoesOnBy g spot.position tree.paths h.beginning) (sym k.2)
                (e.2, at_member (h.beginning ++ k.0.mv ∷ []) tree.paths k.0.node.0 e.0.there),
            goes_on_by h.beginning h.from children none h.met m,
          );
        };
        each = λ c member. (h.met.each c member).0;
      }

-- ---- whether a move is one of the children's
pub not_yet : {B : Type 0} (m : Move) (children : List (Child B)) (i : ℕ) (c : Child B) → i < length children
    → c ≡ get_or children i c → (c.mv ≡ m → ⊥) → (Member m (map (λ c. c.mv) (take i children)) → ⊥)
    → Member m (map (λ c. c.mv) (take (i + 1) children)) → ⊥
not_yet {B} m children i c low at other none h =
    let parts = at_item (λ (x : Child B). x.mv) children i c low at in
    let one : i + 1 ≡ suc i = omega arith in
    let now = subst (λ z. Member m (map (λ (x : Child B). x.mv) (take z children))) one h in
    elim (mem_cases m (map (λ (x : Child B). x.mv) (take i children)) (c.mv ∷ []) (subst (Member m) parts.1 now)) [
      | inl old ↦ none old
      | inr (inl e) ↦ other (sym e)
      | inr (inr gone) ↦ gone
    ]

pub one_of_them : {B : Type 0} (m : Move) (children : List (Child B)) (i : ℕ) (c : Child B) → i < length children
    → c ≡ get_or children i c → c.mv ≡ m → Member m (map (λ c. c.mv) children)
one_of_them {B} m children i c low at is =
    let parts = at_item (λ (x : Child B). x.mv) children i c low at in
    subst (Member m) (sym parts.0) (mem_right m (map (λ (x : Child B). x.mv) (take i children)) _ (inl (sym is)))

pub none_of_them : {B : Type 0} (m : Move) (children : List (Child B)) (i : ℕ) → length children ≤ i
    → (Member m (map (λ c. c.mv) (take i children)) → ⊥) → Member m (map (λ c. c.mv) children) → ⊥
none_of_them {B} m children i end none h =
    none (subst (λ z. Member m (map (λ (x : Child B). x.mv) z)) (sym (take_all i children end)) h)

pub is_not_so : (b : Bool) → b ≡ false → IsTrue b → ⊥
is_not_so b e h = cc

pub is_so : (b : Bool) → b ≡ true → IsTrue b
is_so b e = cc

-- ---- whether a list is empty
pub none_there : {A : Type 0} (v : Vec A Global) (b : Bool) → b ≡ (vec_len v == 0) → b ≡ true → length v.items ≡ 0
none_there v b is e =
    let none : vec_len v ≡ 0 = eqb-true (vec_len v) 0 (sym is ∙ e) in omega (arith, v.ok.0, none)

pub some_there : {A : Type 0} (v : Vec A Global) (b : Bool) → b ≡ (vec_len v == 0) → b ≡ false → 0 < length v.items
some_there v b is e =
    let no = eqb-false (vec_len v) 0 (sym is ∙ e) in omega (arith, v.ok.0, no)
