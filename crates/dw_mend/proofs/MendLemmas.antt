-- What is written of neighbours, one neighbour after another.
use Rattle.std.proofs.Common.{◌≡◌, ◌∙◌, ℕ, ◌+◌, ◌<◌, List, [], ◌∷◌, ◌++◌, length, map, take, get_or, refl, sym, ap}
use Rattle.std.proofs.Common.{subst, add-zero, ◌-◌, append_assoc, append-nil, arith, inl, inr, ◌*◌, ◌≤◌, ◌%◌, Option}
use Rattle.std.proofs.Common.{Some, None, zero-le}
use Rattle.dw_notation.specs.Streams.{Appends}
use Rattle.dw_notation.specs.Writes.{StopsShort}
use Rattle.dw_notation.specs.inner.StreamLemmas.{Appends-trans}
use Rattle.std.specs.Prelude.{◌==◌, Result, Ok, Err, IfSome}
use Rattle.std.specs.Result.{IsErrAnd}
use Rattle.std.proofs.lemmas.Bool.{cases_Bool}
use Rattle.std.proofs.lemmas.List.{map_push, take-map, take_all}
use Rattle.dw_board.specs.Geometry.{Geometry}
use Rattle.dw_board.specs.Placement.{Placement}
use Rattle.dw_moves.specs.Moves.{Move}
use Rattle.dw_solve.specs.Searching.{IsCounted}
use Rattle.dw_verdict.specs.Verdict.{IsVerdict, sound}
use Rattle.dw_mend.specs.Changes.{Change, AreNeighbours}
use Rattle.dw_mend.specs.MendText.{IsLineOf}
use Rattle.dw_mend.specs.declared.rows.Wording.{Wording}
use Rattle.dw_mend.specs.Mending.{Counts, AreBounded, AreMended, IsMendStop}
use Rattle.dw_parts.specs.Parts.{part_from, part_of}
use Rattle.dw_mend.specs.inner.Mending.{Adds}
use Rattle.dw_mend.specs.declared.mend.Soundness as finds
use Rattle.dw_mend.specs.declared.mend.Soundness.TheVariants.{Sound, Unsound, Undecided}
use Rattle.dw_mend.proofs.ListLemmas.{one_more}
use Rattle.dw_mend.proofs.MakingLemmas.{one_list}

-- ---- one neighbour
-- nothing is written of none
abbrev nothing : Counts
nothing = record { sound = 0; undecided = 0; expanded = 0 }

pub one_sound : (w : Wording) (g : Geometry) (n : ℕ) (each : Option ℕ) (x : Change × Placement) (key : Move)
    (line : List ℕ) (spent : ℕ) → IfSome each (λ bound. spent ≤ bound)
    → IsVerdict g x.1 n (sound key) × IsLineOf w g n x key line
    → AreMended w g n each (x ∷ []) line (record { sound = 1; undecided = 0; expanded = spent })
one_sound w g n each x key line spent few is = (
  [],
  nothing,
  spent,
  (refl, refl, refl, refl),
  sym (add-zero spent),
  few,
  inl (key, line, is.0, is.1, sym (append-nil line), refl, refl),
)

pub one_unsound : (w : Wording) (g : Geometry) (n : ℕ) (each : Option ℕ) (x : Change × Placement) (line : List ℕ)
    (spent : ℕ) → IfSome each (λ bound. spent ≤ bound)
    → ((key : Move) → IsVerdict g x.1 n (sound key) → ⊥) × (line ≡ [])
    → AreMended w g n each (x ∷ []) line (record { sound = 0; undecided = 0; expanded = spent })
one_unsound w g n each x line spent few is = (
  [],
  nothing,
  spent,
  (refl, refl, refl, refl),
  sym (add-zero spent),
  few,
  inr (inl (is.0, is.1, refl, refl)),
)

pub one_undecided : (w : Wording) (g : Geometry) (n : ℕ) (each : Option ℕ) (x : Change × Placement) (line : List ℕ)
    (spent : ℕ) → IfSome each (λ bound. spent ≤ bound) → each ≡ Some spent → line ≡ []
    → AreMended w g n each (x ∷ []) line (record { sound = 0; undecided = 1; expanded = spent })
one_undecided w g n each x line spent few up is = (
  [],
  nothing,
  spent,
  (refl, refl, refl, refl),
  sym (add-zero spent),
  few,
  inr (inr (is, refl, refl, up)),
)

-- ---- several
-- the counts of both
abbrev both : Counts → Counts → Counts
both counts others = record {
  sound = counts.sound + others.sound;
  undecided = counts.undecided + others.undecided;
  expanded = counts.expanded + others.expanded;
}

mended_both : (w : Wording) (g : Geometry) (n : ℕ) (each : Option ℕ) (xs ys : List (Change × Placement))
    (text more : List ℕ) (counts others : Counts) (s u e : ℕ) → AreMended w g n each xs text counts
    → AreMended w g n each ys more others → s ≡ counts.sound + others.sound
    → u ≡ counts.undecided + others.undecided → e ≡ counts.expanded + others.expanded
    → AreMended w g n each (xs ++ ys) (text ++ more) (record { sound = s; undecided = u; expanded = e })
mended_both w g n each [] ys text more counts others s u e none are es eu ee =
    let none_sound = none.1 in
    let none_undecided = none.2 in
    let none_expanded = none.3 in
    let so : s ≡ others.sound = omega arith in
    let un : u ≡ others.undecided = omega arith in
    let ex : e ≡ others.expanded = omega arith in
    subst (λ z. AreMended w g n each ys z (record { sound = s; undecided = u; expanded = e }))
    (sym (ap (λ z. z ++ more) none.0))
    (subst (λ z. AreMended w g n each ys more (record { sound = z; undecided = u; expanded = e })) (sym so)
    (subst (λ z. AreMended w g n each ys more (record { sound = others.sound; undecided = z; expanded = e })) (sym un)
    (subst (λ z. AreMended w g n each ys more (record {
      sound = others.sound;
      undecided = others.undecided;
      expanded = z;
    })) (sym ex) are)))
mended_both w g n each (x ∷ xs) ys text more counts others s u e (rest, behind, spent, are', ce, few, found) are es eu
    ee = (
      rest ++ more,
      both behind others,
      spent,
      mended_both w g n each xs ys rest more behind others _ _ _ are' are refl refl refl,
      (let is : e ≡ spent + (behind.expanded + others.expanded) = omega (arith, ee, ce) in is),
      few,
      elim found [
        | inl (key, line, is, told, t, cs, cu) ↦ inl (
          key,
          line,
          is,
          told,
          ap (λ z. z ++ more) t ∙ append_assoc line rest more,
          (let e : s ≡ behind.sound + others.sound + 1 = omega (arith, es, cs) in e),
          (let e : u ≡ behind.undecided + others.undecided = omega (arith, eu, cu) in e),
        )
        | inr (inl (never, t, cs, cu)) ↦ inr (inl (
          never,
          ap (λ z. z ++ more) t,
          (let e : s ≡ behind.sound + others.sound = omega (arith, es, cs) in e),
          (let e : u ≡ behind.undecided + others.undecided = omega (arith, eu, cu) in e),
        ))
        | inr (inr (t, cs, cu, up)) ↦ inr (inr (
          ap (λ z. z ++ more) t,
          (let e : s ≡ behind.sound + others.sound = omega (arith, es, cs) in e),
          (let e : u ≡ behind.undecided + others.undecided + 1 = omega (arith, eu, cu) in e),
          up,
        ))
      ],
    )

-- the next neighbour of a list
pub mended_next : {X : Type 0} (f : X → Change × Placement) (w : Wording) (g : Geometry) (n : ℕ) (each : Option ℕ)
    (xs : List X) (i : ℕ) (x : X) (text line : List ℕ) (counts one : Counts) (s u e : ℕ) → i < length xs
    → x ≡ get_or xs i x → AreMended w g n each (map f (take i xs)) text counts
    → AreMended w g n each (f x ∷ []) line one → s ≡ counts.sound + one.sound → u ≡ counts.undecided + one.undecided
    → e ≡ counts.expanded + one.expanded
    → AreMended w g n each (map f (take (i + 1) xs)) (text ++ line)
    (record { sound = s; undecided = u; expanded = e })
mended_next f w g n each xs i x text line counts one s u e low is so_far here es eu ee =
    subst (λ z. AreMended w g n each z (text ++ line) (record { sound = s; undecided = u; expanded = e }))
    (sym (ap (map f) (one_more xs i x low is) ∙ map_push f (take i xs) x))
    (mended_both w g n each (map f (take i xs)) (f x ∷ []) text line counts one s u e so_far here es eu ee)

-- ---- what is found of a neighbour
pub adds_sound : {B : Type 0} (w : Wording) (g : Geometry) (n : ℕ) (each : Option ℕ) (x : Change × Placement)
    (found : finds.Soundness B) (key : Move) (line : List ℕ) (spent : ℕ) → IfSome each (λ bound. spent ≤ bound)
    → found ≡ Sound key → Adds w g n x found line
    → AreMended w g n each (x ∷ []) line (record { sound = 1; undecided = 0; expanded = spent })
adds_sound w g n each x found key line spent few is adds =
    one_sound w g n each x key line spent few (subst (λ z. Adds w g n x z line) is adds)

pub adds_unsound : {B : Type 0} (w : Wording) (g : Geometry) (n : ℕ) (each : Option ℕ) (x : Change × Placement)
    (found : finds.Soundness B) (line : List ℕ) (spent : ℕ) → IfSome each (λ bound. spent ≤ bound) → found ≡ Unsound
    → Adds w g n x found line
    → AreMended w g n each (x ∷ []) line (record { sound = 0; undecided = 0; expanded = spent })
adds_unsound w g n each x found line spent few is adds =
    one_unsound w g n each x line spent few (subst (λ z. Adds w g n x z line) is adds)

pub adds_undecided : {B : Type 0} (w : Wording) (g : Geometry) (n : ℕ) (each : Option ℕ) (x : Change × Placement)
    (found : finds.Soundness B) (line : List ℕ) (spent : ℕ) → IfSome each (λ bound. spent ≤ bound) → each ≡ Some spent
    → found ≡ Undecided → Adds w g n x found line
    → AreMended w g n each (x ∷ []) line (record { sound = 0; undecided = 1; expanded = spent })
adds_undecided w g n each x found line spent few up is adds =
    one_undecided w g n each x line spent few up (subst (λ z. Adds w g n x z line) is adds)

-- ---- how many positions are expanded for a neighbour
-- no more than the bound allows
pub few_spent : (each : Option ℕ) (before after : ℕ) → IfSome each (λ bound. after ≤ before + bound)
    → IfSome each (λ bound. after - before ≤ bound)
few_spent None before after few = few
few_spent (Some bound) before after few = omega (arith, few)

-- and as many, if it is undecided
pub all_spent : (each : Option ℕ) (before after : ℕ)
    → (bound : ℕ) × (each ≡ Some bound) × (after ≡ before + bound) → each ≡ Some (after - before)
all_spent each before after up = let is : up.0 ≡ after - before = omega (arith, up.2) in up.1 ∙ ap Some is

more_times : (u bound : ℕ) → (u + 1) * bound ≡ u * bound + bound
more_times u bound = grind arith

-- one neighbour more, which is not undecided
pub bounded_more : (each : Option ℕ) (i u v base before after : ℕ) → v ≡ u → before ≤ after
    → IfSome each (λ bound. after ≤ before + bound) → AreBounded each i u base before
    → AreBounded each (i + 1) v base after
bounded_more None i u v base before after same rises few so_far = same ∙ so_far
bounded_more (Some bound) i u v base before after same rises few so_far =
    let e = more_times i bound in
    let s : v * bound ≡ u * bound = ap (λ z. z * bound) same in
    (omega (arith, so_far.0, rises, s), omega (arith, so_far.1, few, e))

-- one more, which is undecided after as many positions as it may take
pub bounded_open : (each : Option ℕ) (i u v base before after : ℕ) → v ≡ u + 1
    → (bound : ℕ) × (each ≡ Some bound) × (after ≡ before + bound) → AreBounded each i u base before
    → AreBounded each (i + 1) v base after
bounded_open each i u v base before after one spent so_far =
    subst (λ z. AreBounded z (i + 1) v base after) (sym spent.1)
    (open_some (subst (λ z. AreBounded z i u base before) spent.1 so_far))
  where
    open_some : AreBounded (Some spent.0) i u base before → AreBounded (Some spent.0) (i + 1) v base after
    open_some b =
        let e = more_times i spent.0 in
        let s : v * spent.0 ≡ u * spent.0 + spent.0 = ap (λ z. z * spent.0) one ∙ more_times u spent.0 in
        let is = spent.2 in
        (omega (arith, b.0, is, s), omega (arith, b.1, is, e))

-- what a search counts, and then another one
pub counted_on : (a l b m c o : ℕ) → IsCounted a l b m → IsCounted b m c o → IsCounted a l c o
counted_on a l b m c o h k = record {
  rises = omega (arith, h.rises, k.rises);
  within = subst (λ z. c ≤ z) h.same k.within;
  same = k.same ∙ h.same;
}

-- ---- a stop
pub same_fault : {T E : Type 0} (r : Result T E) (d f : E) → IsErrAnd r (λ z. z ≡ d) → r ≡ Err f → d ≡ f
same_fault (Ok x) d f is e = absurd is
same_fault (Err z) d f is e = cc

pub stop_at : {X : Type 0} (f : X → Change × Placement) (w : Wording) (g : Geometry) (n : ℕ) (each : Option ℕ)
    (xs : List X) (i : ℕ) (counts : Counts) (text : List ℕ) → AreMended w g n each (map f (take i xs)) text counts
    → IsMendStop w g n each (map f xs) text
stop_at f w g n each xs i counts text are = record {
  some = i;
  counts = counts;
  mended = subst (λ z. AreMended w g n each z text counts) (sym (take-map f i xs)) are;
}

-- a text was written, and a beginning of the next one
pub short_after : (old mid new before next : List ℕ) → Appends old mid before → StopsShort mid new next
    → StopsShort old new (before ++ next)
short_after old mid new before next wrote short = record {
  out = before ++ short.out;
  taken = Appends-trans old mid new before short.out wrote short.taken;
  front = record {
    back = short.front.back;
    joined = append_assoc before short.out short.front.back ∙ ap (λ z. before ++ z) short.front.joined;
  };
}

any_bound : (each : Option ℕ) → IfSome each (λ bound. 0 ≤ bound)
any_bound None = tt
any_bound (Some bound) = zero-le

-- a line more than some first neighbours have
pub stop_behind : {X : Type 0} (f : X → Change × Placement) (w : Wording) (g : Geometry) (n : ℕ) (each : Option ℕ)
    (xs : List X) (i : ℕ) (x : X) (text line : List ℕ) (counts : Counts) (key : Move) → i < length xs
    → x ≡ get_or xs i x → AreMended w g n each (map f (take i xs)) text counts → IsVerdict g (f x).1 n (sound key)
    → IsLineOf w g n (f x) key line → IsMendStop w g n each (map f xs) (text ++ line)
stop_behind f w g n each xs i x text line counts key low is so_far verdict told =
    stop_at f w g n each xs (i + 1) _ (text ++ line)
    (mended_next f w g n each xs i x text line counts (record { sound = 1; undecided = 0; expanded = 0 })
    (counts.sound + 1) (counts.undecided + 0) (counts.expanded + 0) low is so_far
    (one_sound w g n each (f x) key line 0 (any_bound each) (verdict, told)) refl refl refl)

-- before the first neighbour
pub stop_at_once : (w : Wording) (g : Geometry) (n : ℕ) (each : Option ℕ) (xs : List (Change × Placement))
    → IsMendStop w g n each xs []
stop_at_once w g n each xs = record { some = 0; counts = nothing; mended = (refl, refl, refl, refl) }

-- after the last one
pub stop_at_end : (w : Wording) (g : Geometry) (n : ℕ) (each : Option ℕ) (xs : List (Change × Placement))
    (text : List ℕ) (counts : Counts) → AreMended w g n each xs text counts → IsMendStop w g n each xs text
stop_at_end w g n each xs text counts are = record {
  some = length xs;
  counts = counts;
  mended = subst (λ z. AreMended w g n each z text counts) (sym (take_all (length xs) xs (omega arith))) are;
}

-- ---- a part
part_map : {X Y : Type 0} (f : X → Y) (place i m : ℕ) (xs : List X)
    → part_from place i m (map f xs) ≡ map f (part_from place i m xs)
part_map f place i m [] = refl
part_map f place i m (x ∷ xs) = elim (cases_Bool (place % m == i % m)) [
  | inl yes' ↦ rw yes' (ap (λ z. f x ∷ z) (part_map f (place + 1) i m xs))
  | inr no' ↦ rw no' (part_map f (place + 1) i m xs)
]

-- a part of the neighbours of a position, which have only one list
pub part_told : {X : Type 0} (f : X → Change × Placement) (g : Geometry) (p : Placement) (i m : ℕ) (xs some : List X)
    (all : List (Change × Placement)) → AreNeighbours g p (map f xs) → AreNeighbours g p all
    → some ≡ part_of i m xs → map f some ≡ part_of i m all
part_told f g p i m xs some all are are' is =
    ap (map f) is ∙ (sym (part_map f 1 i m xs) ∙ ap (part_of i m) (one_list.only g p (map f xs) all are are'))
