-- Following a list of moves, level by level.
use Rattle.std.proofs.Common.{◌≡◌, ℕ, ◌+◌, ◌≤◌, ◌<◌, zero, suc, Bool, true, false, Some, None, Option, List, [], ◌∷◌}
use Rattle.std.proofs.Common.{◌++◌, length, take, get_or, reverse, refl, sym, ap, ◌∙◌, subst, ◌⊎◌, inl, inr, arith}
use mathlib.Core.List.{reverse_aux}
use Rattle.std.specs.Prelude.{not}
use Rattle.std.proofs.lemmas.Bool.{true≢false, cases_lt}
use Rattle.std.proofs.lemmas.Grind.{reverse_onto}
use Rattle.std.proofs.lemmas.List.{take_all, reverse-reverse, reverse-append, length-reverse}
use Rattle.dw_board.specs.Geometry.{Geometry}
use Rattle.dw_board.specs.Placement.{Placement}
use Rattle.dw_moves.specs.Moves.{Move, Legal, play}
use Rattle.dw_board.specs.Lists.{Member}
use Rattle.dw_moves.specs.inner.MemberLemmas.{mem_cases, mem_split, mem_right}
use Rattle.dw_moves.specs.Order.{Precedes, IsListOf}
use Rattle.dw_moves.specs.Laws.{MovesHaveKeys, MovesListed}
use Rattle.dw_solve.specs.Wins.{Win}
use Rattle.dw_list.specs.Places.IsPlace.{lacks, leaves}
use Rattle.dw_solve.specs.Lines.{Line, Before, Lines}
use Rattle.dw_list.specs.Places.{After, Begins, IsPlace}
use Rattle.dw_list.specs.LineStack.{BeginsAmong, Level, LineStack, IsAhead, IsBehind, Remains, IsStillAhead}
use Rattle.dw_list.specs.inner.Ways.{GoesOn, IsNext, left_after, Keeps}
use Rattle.dw_list.specs.inner.Levels.{AreBehind, Leads, AreLevels}
use Rattle.dw_list.specs.inner.Steps.{begun, with_ahead}
use Rattle.dw_list.specs.declared.stack.Candidate.{Candidate}
use Rattle.dw_list.specs.inner.Tasks.{IsCandidate, IsListed}
use Rattle.dw_list.specs.LineWalk.{IsAlong}
use Rattle.dw_list.specs.inner.LineWalk.{SomePassed, IsNotAhead, IsUnlisted, WentOn, GoOnWith}
use Rattle.dw_list.proofs.StackViewLemmas.{standing}
use Rattle.dw_list.proofs.WayLemmas.{goes_from, next_legal, next_keeps}
use Rattle.dw_solve.specs.inner.ListLemmas.{ascending_parts}
use Rattle.dw_solve.specs.inner.LineOrderLemmas.{precedes_asym, before_asym}
use Rattle.dw_solve.specs.inner.LineLemmas.{win_line}
use Rattle.dw_list.proofs.DecidingLemmas.{lost_goes_on}
use Rattle.dw_list.proofs.StackLemmas.{leads_lost}
use Rattle.dw_list.proofs.RemainingLemmas.{goes_next, leads_line, remains_later}

-- a line along the levels goes on behind them
pub leads_back : (g : Geometry) (p : Placement) (n : ℕ) (outer : List Level) (line : List Move) (a : Bool)
    (q : Placement) (k : ℕ) → Leads g p n outer line a q k → (t : List Move) → Line g p n (reverse_aux line t)
    → GoesOn g a q k t
leads_back g p n [] [] a q k h t here = subst (λ z. GoesOn g z q k t) (sym h.0)
    (subst (λ z. GoesOn g true z k t) (sym h.1) (subst (λ z. GoesOn g true p z t) (sym h.2) here))
leads_back g p n [] (m ∷ line) a q k h t here = absurd h
leads_back g p n (f ∷ outer) [] a q k h t here = absurd h
leads_back g p n (f ∷ outer) (m ∷ line) a q k h t here =
    goes_next g f m a q k t h.3 h.4 h.5 (leads_back g p n outer line f.attacks f.position f.left h.0 (m ∷ t) here)

-- some line goes on behind levels along which a move was played
pub leads_goes_on : MovesListed → (g : Geometry) (p : Placement) (n : ℕ) (outer : List Level) (line : List Move)
    (a : Bool) (q : Placement) (k : ℕ) → Leads g p n outer line a q k → 0 < length line → (t : List Move)
    × GoesOn g a q k t
leads_goes_on listed g p n [] [] a q k h some = absurd (omega arith)
leads_goes_on listed g p n [] (m ∷ line) a q k h some = absurd h
leads_goes_on listed g p n (f ∷ outer) [] a q k h some = absurd h
leads_goes_on listed g p n (f ∷ outer) (m ∷ line) false q k h some = lost_goes_on listed g k q
    (leads_lost g p n (f ∷ outer) (m ∷ line) q k h)
leads_goes_on listed g p n (f ∷ outer) (m ∷ line) true q k h some =
    win_line listed g k q (won f.attacks f.left h.0 h.1 h.3 h.5) where
      won : (b : Bool) (j : ℕ) → Leads g p n outer line b f.position j → IsNext g b f.position j m → true ≡ not b
          → k ≡ left_after b j → Win g q k
      won true j leads next e ek = absurd (true≢false e)
      won false j leads next e ek =
          subst (λ z. Win g z k) (sym h.4) (subst (λ z. Win g (play g f.position m) z) (sym ek)
          (leads_lost g p n outer line f.position j leads m next))

-- what comes after the line along the levels is still ahead of them
pub before_remains : MovesHaveKeys → (g : Geometry) (p : Placement) (n : ℕ) (outer : List Level) (line : List Move)
    (a : Bool) (q : Placement) (k : ℕ) → Leads g p n outer line a q k → (s : List Move) (P : List Move → Type 0)
    → ((t : List Move) → GoesOn g a q k t → Before g q s t → P t) → (l : List Move) → Line g p n l
    → Before g p (reverse_aux line s) l → Remains outer line P l
before_remains keys g p n [] [] a q k h s P to l here less =
    to l (subst (λ z. GoesOn g z q k l) (sym h.0) (subst (λ z. GoesOn g true z k l) (sym h.1)
    (subst (λ z. GoesOn g true p z l) (sym h.2) here))) (subst (λ z. Before g z s l) (sym h.1) less)
before_remains keys g p n [] (m ∷ line) a q k h s P to l here less = absurd h
before_remains keys g p n (f ∷ outer) [] a q k h s P to l here less = absurd h
before_remains keys g p n (f ∷ outer) (m ∷ line) a q k h s P to l here less =
    before_remains keys g p n outer line f.attacks f.position f.left h.0 (m ∷ s) (IsBehind f.ahead m P)
    (λ t on lower. ways f.ahead h.2 t on lower) l here less where
      ways : (o : Option (List Move)) → AreBehind g f.position m o → (t : List Move)
          → GoesOn g f.attacks f.position f.left t → Before g f.position (m ∷ s) t → IsBehind o m P t
      ways None behind t on lower = absurd behind
      ways (Some ms) behind [] on lower = absurd lower
      ways (Some ms) behind (r ∷ t) on lower = elim lower [
        | inl first ↦
            let legal = next_legal g f.attacks f.position f.left r (goes_from g f.attacks f.position f.left r t on).0 in
            elim (mem_cases r behind.0 (m ∷ ms) ((behind.1.exactly r).1 legal)) [
              | inl early ↦ absurd (precedes_asym keys g f.position r m
                  ((ascending_parts (Precedes g f.position) behind.0 (m ∷ ms) behind.1.ascending).1 r m early
                  (inl refl)) first)
              | inr (inl e) ↦ absurd (let twice : Precedes g f.position m m = subst (Precedes g f.position m) e first in
                  precedes_asym keys g f.position m m twice twice)
              | inr (inr late) ↦ inl late
            ]
        | inr rest ↦
            let same : m ≡ r = rest.0 in
            inr (
              t,
              (λ i. sym same i ∷ t),
              to t (goes_next g f m a q k t h.3 h.4 h.5 (subst (λ z. GoesOn g f.attacks f.position f.left (z ∷ t))
                  (sym same) on)) (subst (λ z. Before g z s t) (sym h.4) rest.1),
            )
      ]

-- LISTS AND THEIR BEGINNINGS

pub onto_reverse : {X : Type 0} (xs ys : List X) → reverse_aux (reverse xs) ys ≡ xs ++ ys
onto_reverse xs ys = onto (reverse xs) ys ∙ ap (λ z. z ++ ys) (reverse-reverse xs) where
  nothing : {X : Type 0} (xs : List X) → xs ≡ xs ++ []
  nothing [] = refl
  nothing (x ∷ xs) = ap (λ z. x ∷ z) (nothing xs)

  onto : {X : Type 0} (xs ys : List X) → reverse_aux xs ys ≡ reverse xs ++ ys
  onto xs [] = nothing (reverse xs)
  onto xs (y ∷ ys) = reverse_onto xs y ys

take_parts : {X : Type 0} (j i : ℕ) (xs : List X) → j ≤ i → (rest : List X) × (take i xs ≡ take j xs ++ rest)
take_parts zero i xs low = (take i xs, refl)
take_parts (suc j) zero xs low = absurd (omega arith)
take_parts (suc j) (suc i) [] low = ([], refl)
take_parts (suc j) (suc i) (x ∷ xs) low = let r = take_parts j i xs (omega arith) in (r.0, ap (λ z. x ∷ z) r.1)

append_append : {X : Type 0} (xs ys zs : List X) → (xs ++ ys) ++ zs ≡ xs ++ (ys ++ zs)
append_append [] ys zs = refl
append_append (x ∷ xs) ys zs = ap (λ z. x ∷ z) (append_append xs ys zs)

-- lines that begin with a list begin with its beginnings
pub begins_less : (g : Geometry) (p : Placement) (n : ℕ) (l : List Move) (j i : ℕ) → j ≤ i → Begins g p n (take i l)
    → Begins g p n (take j l)
begins_less g p n l j i low h =
    let r = take_parts j i l low in
    (r.0 ++ h.0, subst (Line g p n) (ap (λ z. z ++ h.0) r.1 ∙ append_append (take j l) r.0 h.0) h.1)

-- AFTER A LINE

pub comes_after : MovesHaveKeys → (g : Geometry) (p : Placement) (n : ℕ) (l : List Move) (P : List Move → Type 0)
    → ((z : List Move) → Line g p n z → P z → Before g p l z) → ((z : List Move) → Line g p n z → Before g p l z → P z)
    → Line g p n l → (lines : List (List Move)) → Lines g p n lines → (rest : List (List Move)) × After lines l rest
    × IsListOf (Before g p) (λ z. Line g p n z × P z) rest
comes_after keys g p n l P later ahead here lines all =
    let cut = mem_split l lines ((all.exactly l).1 here) in
    let whole = subst (IsListOf (Before g p) (Line g p n)) cut.2 all in
    let parts = ascending_parts (Before g p) cut.0 (l ∷ cut.1) whole.ascending in (
      cut.1,
      (cut.0, cut.2),
      record {
        ascending = parts.0.1;
        exactly = λ z. (
          (λ m. let line = (whole.exactly z).0 (mem_right z cut.0 (l ∷ cut.1) (inr m)) in
              (line, ahead z line (parts.0.0 z m))),
          (λ k. elim (mem_cases z cut.0 (l ∷ cut.1) ((whole.exactly z).1 k.0)) [
            | inl early ↦ absurd (before_asym keys g p z l (parts.1 z l early (inl refl)) (later z k.0 k.1))
            | inr (inl e) ↦ absurd (let twice : Before g p l l = subst (Before g p l) e (later z k.0 k.1) in
                before_asym keys g p l l twice twice)
            | inr (inr late) ↦ late
          ]),
        );
      },
    )

-- ONE MOVE

levels_last : (x y : Level) (xs ys : List Level) → x ∷ xs ≡ y ∷ ys → x ≡ y
levels_last x y xs ys e = cc

module _ (g : Geometry) (old new : LineStack) (end : Bool) (h : IsListed g old new end) where
  pub listed_levels : new.levels ≡ with_ahead h.last h.listing.moves ∷ h.outer
  listed_levels = ap (λ (s : LineStack). s.levels) h.is ∙ ap (λ z. z ∷ h.outer) h.listing.is

  -- the move is not among the legal ones
  pub follow_barred : (m : Move) → IsNotAhead new m → GoOnWith g old.levels m → ⊥
  follow_barred m none on =
      let same = levels_last on.last h.last on.outer h.outer (sym on.are ∙ h.are) in
      let legal : Legal g h.last.position m = subst (λ (z : Level). Legal g z.position m) same
      (next_legal g on.last.attacks on.last.position on.last.left m on.next) in
      none h.last h.outer h.listing.moves listed_levels ((h.listing.all.exactly m).1 legal)

  pub follow_moves : (now : LineStack) → SomePassed new now → now.moves ≡ old.moves
  follow_moves now passed =
      let r = passed h.last h.outer h.listing.moves listed_levels in
      ap (λ (s : LineStack). s.moves) r.1 ∙ ap (λ (s : LineStack). s.moves) h.is

  -- the move does not keep a win
  pub follow_lost : {B : Type 0} (now : LineStack) (t : Candidate B) (m : Move) → SomePassed new now → IsCandidate g
      now.levels t → t.mv ≡ m → (Keeps g t.attacks t.after t.left → ⊥) → GoOnWith g old.levels m → ⊥
  follow_lost now t m passed candidate is lost on =
      let r = passed h.last h.outer h.listing.moves listed_levels in
      let same = levels_last on.last h.last on.outer h.outer (sym on.are ∙ h.are) in
      let level = levels_last candidate.last (with_ahead h.last r.0) candidate.outer h.outer (sym candidate.are
      ∙ ap (λ (s : LineStack). s.levels) r.1) in
      let next : IsNext g h.last.attacks h.last.position h.last.left t.mv =
      subst (λ z. IsNext g h.last.attacks h.last.position h.last.left z) (sym is)
      (subst (λ (z : Level). IsNext g z.attacks z.position z.left m) same on.next) in
      let keeps = next_keeps g h.last.attacks h.last.position h.last.left t.mv next in
      let here : Keeps g candidate.last.attacks (play g candidate.last.position t.mv)
      (left_after candidate.last.attacks candidate.last.left) =
      subst (λ (z : Level). Keeps g z.attacks (play g z.position t.mv) (left_after z.attacks z.left)) (sym level)
      keeps in
      lost (subst (λ z. Keeps g t.attacks t.after z) (sym candidate.left)
      (subst (λ z. Keeps g t.attacks z (left_after candidate.last.attacks candidate.last.left)) (sym candidate.after)
      (subst (λ z. Keeps g z (play g candidate.last.position t.mv) (left_after candidate.last.attacks
      candidate.last.left)) (sym candidate.attacks) here)))

-- ALL MOVES

-- the stack went along the first i moves
pub record Follows (g : Geometry) (p : Placement) (n : ℕ) (l : List Move) (i : ℕ) (s : LineStack) : Type 0 where
  pub position : s.position ≡ p
  pub moves : s.moves ≡ n
  pub line : s.line ≡ reverse (take i l)
  pub unlisted : IsUnlisted s.levels
  pub levels : AreLevels g s.position s.moves s.levels s.line

pub follows_leads : (g : Geometry) (p : Placement) (n : ℕ) (l : List Move) (i : ℕ) (s : LineStack)
    → (h : Follows g p n l i s) → Leads g p n h.unlisted.outer (reverse (take i l)) h.unlisted.last.attacks
    h.unlisted.last.position h.unlisted.last.left
follows_leads g p n l i s h =
    let f = h.unlisted.last in
    let levels = subst (λ z. AreLevels g s.position s.moves z s.line) h.unlisted.are h.levels in
    subst (λ z. Leads g z n h.unlisted.outer (reverse (take i l)) f.attacks f.position f.left) h.position
    (subst (λ z. Leads g s.position z h.unlisted.outer (reverse (take i l)) f.attacks f.position f.left) h.moves
    (subst (λ z. Leads g s.position s.moves h.unlisted.outer z f.attacks f.position f.left) h.line levels.0))

take_one : {X : Type 0} (xs : List X) (i : ℕ) (x : X) → i < length xs → x ≡ get_or xs i x → take (suc i) xs
    ≡ take i xs ++ x ∷ []
take_one [] i x low e = absurd (omega arith)
take_one (y ∷ xs) zero x low e = ap (λ z. z ∷ []) (sym e)
take_one (y ∷ xs) (suc i) x low e = ap (λ z. y ∷ z) (take_one xs i x (omega arith) e)

take_rest : {X : Type 0} (i : ℕ) (xs : List X) → (rest : List X) × (xs ≡ take i xs ++ rest)
take_rest zero xs = (xs, refl)
take_rest (suc i) [] = ([], refl)
take_rest (suc i) (x ∷ xs) = let r = take_rest i xs in (r.0, ap (λ z. x ∷ z) r.1)

take_length : {X : Type 0} (i : ℕ) (xs : List X) → i ≤ length xs → length (take i xs) ≡ i
take_length zero xs low = refl
take_length (suc i) [] low = absurd (omega arith)
take_length (suc i) (x ∷ xs) low = let e = take_length i xs (omega arith) in omega arith

pub take_whole : {X : Type 0} (xs : List X) → take (length xs) xs ≡ xs
take_whole [] = refl
take_whole (x ∷ xs) = ap (λ z. x ∷ z) (take_whole xs)

pub follows_init : (g : Geometry) (p : Placement) (n : ℕ) (l : List Move) (s : LineStack)
    → s ≡ standing p n [] (begun p true n ∷ []) → AreLevels g s.position s.moves s.levels s.line → Follows g p n l 0 s
follows_init g p n l s is levels = record {
  position = ap (λ (z : LineStack). z.position) is;
  moves = ap (λ (z : LineStack). z.moves) is;
  line = ap (λ (z : LineStack). z.line) is;
  unlisted = record { last = begun p true n; outer = []; are = ap (λ (z : LineStack). z.levels) is; ahead = refl };
  levels = levels;
}

pub follows_more : (g : Geometry) (p : Placement) (n : ℕ) (l : List Move) (i : ℕ) (m : Move) (old new : LineStack)
    → Follows g p n l i old → i < length l → m ≡ get_or l i m → WentOn old new m
    → AreLevels g new.position new.moves new.levels new.line → Follows g p n l (i + 1) new
follows_more g p n l i m old new h low at went levels =
    let one : i + 1 ≡ suc i = omega arith in
    record {
      position = went.position ∙ h.position;
      moves = went.moves ∙ h.moves;
      line = went.line ∙ ap (λ z. m ∷ z) h.line ∙ sym (reverse-append (take i l) (m ∷ []))
          ∙ ap reverse (sym (take_one l i m low at)) ∙ ap (λ z. reverse (take z l)) (sym one);
      unlisted = went.unlisted;
      levels = levels;
    }

-- lines begin with the moves so far
begins_so_far : MovesListed → (g : Geometry) (p : Placement) (n : ℕ) (l : List Move) (i : ℕ) (s : LineStack)
    → Follows g p n l i s → i ≤ length l → (j : ℕ) → 0 < j → j ≤ i → Begins g p n (take j l)
begins_so_far listed g p n l i s h fits j some low =
    let leads = follows_leads g p n l i s h in
    let f = h.unlisted.last in
    let t = leads_goes_on listed g p n h.unlisted.outer (reverse (take i l)) f.attacks f.position f.left leads
    (omega (arith, take_length i l fits, length-reverse (take i l))) in
    let line = leads_line g p n h.unlisted.outer (reverse (take i l)) f.attacks f.position f.left leads t.0 t.1 in
    begins_less g p n l j i low (t.0, subst (Line g p n) (onto_reverse (take i l) t.0) line)

-- THE PLACE OF A LIST THAT IS NO LINE

pub record LeavesAt (g : Geometry) (p : Placement) (n : ℕ) (l : List Move) (place : ℕ) : Type 0 where
  pub no_line : Line g p n l → ⊥
  pub first : 1 ≤ place
  pub last : place ≤ length l + 1
  pub earlier : (j : ℕ) → 0 < j → j < place → Begins g p n (take j l)
  pub leaves : place ≤ length l → Begins g p n (take place l) → ⊥

begins_all : (g : Geometry) (p : Placement) (n : ℕ) (l : List Move) → ((j : ℕ) → 0 < j → j < length l + 1
    → Begins g p n (take j l)) → (l ≡ []) ⊎ Begins g p n l
begins_all g p n [] h = inl refl
begins_all g p n (m ∷ l) h = inr (subst (Begins g p n) (take_whole (m ∷ l)) (h (length (m ∷ l)) (omega arith) (omega
    arith)))

pub place_of : (g : Geometry) (p : Placement) (n : ℕ) (l : List Move) (place : ℕ) → LeavesAt g p n l place
    → IsPlace g p n l place
place_of g p n l place h = elim (cases_lt (length l) place) [
  | inl beyond ↦
      let last = h.last in
      let e : place ≡ length l + 1 = omega (arith, beyond, last) in
      subst (IsPlace g p n l) (sym e) (lacks h.no_line (begins_all g p n l (λ j some less. h.earlier j some
      (omega (arith, e, less)))))
  | inr within ↦ leaves h.first (h.leaves within) h.earlier
]

pub leaves_at : (g : Geometry) (p : Placement) (n : ℕ) (l : List Move) (place : ℕ) → IsPlace g p n l place
    → LeavesAt g p n l place
leaves_at g p n l place (lacks none begins) = record {
  no_line = none;
  first = omega arith;
  last = omega arith;
  earlier = λ j some less. elim begins [
    | inl e ↦ let size = ap length e in absurd (omega (arith, size, some, less))
    | inr whole ↦ begins_less g p n l j (length l) (omega (arith, less)) (subst (Begins g p n) (sym (take_whole l))
        whole)
  ];
  leaves = λ within. absurd (omega (arith, within));
}
leaves_at g p n l place (leaves first none earlier) = record {
  no_line = λ line. let rest = take_rest place l in none (rest.0, subst (Line g p n) rest.1 line);
  first = first;
  last = elim (cases_lt (length l + 1) place) [
    | inl beyond ↦
        let all : take (length l + 1) l ≡ take place l = take_all (length l + 1) l (omega arith)
        ∙ sym (take_all place l (omega (arith, beyond))) in
        absurd (none (subst (Begins g p n) all (earlier (length l + 1) (omega arith) beyond)))
    | inr within ↦ within
  ];
  earlier = earlier;
  leaves = λ _. none;
}

-- no line goes on with the next move
pub follows_place : MovesListed → (g : Geometry) (p : Placement) (n : ℕ) (l : List Move) (i : ℕ) (m : Move)
    (s : LineStack) → Follows g p n l i s → i < length l → m ≡ get_or l i m → (GoOnWith g s.levels m → ⊥)
    → LeavesAt g p n l (i + 1)
follows_place listed g p n l i m s h low at barred =
    let leads = follows_leads g p n l i s h in
    let f = h.unlisted.last in
    let one : i + 1 ≡ suc i = omega arith in
    let parts : take (i + 1) l ≡ take i l ++ m ∷ [] = ap (λ z. take z l) one ∙ take_one l i m low at in
    let leaves : Begins g p n (take (i + 1) l) → ⊥ = λ b.
    let line = subst (Line g p n) (ap (λ z. z ++ b.0) parts ∙ append_append (take i l) (m ∷ []) b.0
    ∙ sym (onto_reverse (take i l) (m ∷ b.0))) b.1 in
    let on = leads_back g p n h.unlisted.outer (reverse (take i l)) f.attacks f.position f.left leads (m ∷ b.0) line in
    barred (record {
      last = f;
      outer = h.unlisted.outer;
      are = h.unlisted.are;
      next =
          (goes_from g f.attacks f.position f.left m b.0 on).0;
    }) in
    let rest = take_rest (i + 1) l in
    record {
      no_line = λ line. leaves (rest.0, subst (Line g p n) rest.1 line);
      first = omega arith;
      last = omega arith;
      earlier = λ j some less. begins_so_far listed g p n l i s h (omega arith) j some (omega arith);
      leaves = λ _. leaves;
    }

-- the list lacks a move
pub follows_short : MovesListed → (g : Geometry) (p : Placement) (n : ℕ) (l : List Move) (s new : LineStack) (end :
    Bool) → Follows g p n l (length l) s → IsListed g s new end → end ≡ false → LeavesAt g p n l (length l + 1)
follows_short listed g p n l s new end h k no_end =
    let leads = follows_leads g p n l (length l) s h in
    let f = h.unlisted.last in
    let same = levels_last f k.last h.unlisted.outer k.outer (sym h.unlisted.are ∙ k.are) in
    record {
      no_line = λ line.
          let on = leads_back g p n h.unlisted.outer (reverse (take (length l) l)) f.attacks f.position f.left leads []
          (subst (Line g p n) (nothing l ∙ ap (λ z. z ++ []) (sym (take_whole l))
          ∙ sym (onto_reverse (take (length l) l) [])) line) in
          let ended = ends f.attacks f.position f.left k.listing.moves (subst (λ (z : Level). (m : Move)
          → Member m k.listing.moves → Legal g z.position m) (sym same) (λ m member. (k.listing.all.exactly m).0
          member)) on in
          let yes = k.end.1 (subst (λ (z : Level). z.attacks ≡ false) same ended.0, ended.1) in
          true≢false (sym yes ∙ no_end);
      first = omega arith;
      last = omega arith;
      earlier = λ j some less. begins_so_far listed g p n l (length l) s h (omega arith) j some (omega arith);
      leaves = λ low. absurd (omega arith);
    } where
      nothing : {X : Type 0} (xs : List X) → xs ≡ xs ++ []
      nothing [] = refl
      nothing (x ∷ xs) = ap (λ z. x ∷ z) (nothing xs)

      ends : (a : Bool) (q : Placement) (j : ℕ) (ms : List Move) → ((m : Move) → Member m ms → Legal g q m)
          → GoesOn g a q j [] → (a ≡ false) × (ms ≡ [])
      ends true q zero ms from on = absurd on
      ends true q (suc j) ms from on = absurd on
      ends false q j [] from on = (refl, refl)
      ends false q j (m ∷ ms) from on = absurd (on m (from m (inl refl)))

-- the list is a line
pub follows_line : MovesHaveKeys → (g : Geometry) (p : Placement) (n : ℕ) (l : List Move) (s new : LineStack)
    (end : Bool) → Follows g p n l (length l) s → IsListed g s new end → end ≡ true → IsAlong g p n l new
follows_line keys g p n l s new end h k ends_here =
    let leads = follows_leads g p n l (length l) s h in
    let f = h.unlisted.last in
    let same = levels_last f k.last h.unlisted.outer k.outer (sym h.unlisted.are ∙ k.are) in
    let others = levels_rest f k.last h.unlisted.outer k.outer (sym h.unlisted.are ∙ k.are) in
    let ended = k.end.0 ends_here in
    let outer = h.unlisted.outer in
    let new_is : new ≡ standing p n (reverse l) (with_ahead f [] ∷ outer) =
    k.is ∙ ap (λ z. record s { levels = z ∷ k.outer }) k.listing.is
    ∙ ap (λ z. record s { levels = with_ahead k.last z ∷ k.outer }) ended.1
    ∙ ap (λ z. record s { levels = with_ahead z [] ∷ k.outer }) (sym same)
    ∙ ap (λ z. record s { levels = with_ahead f [] ∷ z }) (sym others)
    ∙ (λ i. standing (h.position i) (h.moves i) ((h.line ∙ ap reverse (take_whole l)) i) (with_ahead f [] ∷ outer)) in
    let leads' = subst (λ z. Leads g p n outer (reverse z) f.attacks f.position f.left) (take_whole l) leads in
    let all : IsListOf (Precedes g f.position) (Legal g f.position) [] =
    subst (λ (z : Level). IsListOf (Precedes g z.position) (Legal g z.position) []) (sym same)
    (subst (IsListOf (Precedes g k.last.position) (Legal g k.last.position)) ended.1 k.listing.all) in
    let defends : f.attacks ≡ false = subst (λ (z : Level). z.attacks ≡ false) (sym same) ended.0 in
    let on : GoesOn g f.attacks f.position f.left [] = subst (λ z. GoesOn g z f.position f.left []) (sym defends)
    (λ r legal. (all.exactly r).1 legal) in
    let whole : reverse_aux (reverse l) [] ≡ l = reverse-reverse l in
    let line : Line g p n l = subst (Line g p n) whole (leads_line g p n outer (reverse l) f.attacks f.position f.left
    leads' [] on) in
    subst (IsAlong g p n l) (sym new_is) (record {
      position = refl;
      moves = refl;
      line = line;
      stands = reverse-reverse l;
      rest = comes_after keys g p n l (IsStillAhead (with_ahead f [] ∷ outer) (reverse l))
          (λ z here r. subst (λ w. Before g p w z) whole (remains_later g p n outer (reverse l) f.attacks f.position
          f.left leads' [] (IsAhead (Some [])) (λ t b. absurd (begins_none t b)) z r))
          (λ z here less. before_remains keys g p n outer (reverse l) f.attacks f.position f.left leads' []
          (IsAhead (Some [])) (λ t goes b. absurd
          (none_after f.position f.left t (subst (λ w. GoesOn g w f.position f.left t) defends goes) b
          (λ r legal. (all.exactly r).1 legal))) z here (subst (λ w. Before g p w z) (sym whole) less))
          line;
    }) where
      levels_rest : (x y : Level) (xs ys : List Level) → x ∷ xs ≡ y ∷ ys → xs ≡ ys
      levels_rest x y xs ys e = cc

      begins_none : (t : List Move) → BeginsAmong [] t → ⊥
      begins_none [] b = b
      begins_none (m ∷ t) b = b

      none_after : (q : Placement) (j : ℕ) (t : List Move) → GoesOn g false q j t → Before g q [] t
          → ((r : Move) → Legal g q r → ⊥) → ⊥
      none_after q j [] goes less none = less
      none_after q j (r ∷ t) goes less none = none r goes.0
