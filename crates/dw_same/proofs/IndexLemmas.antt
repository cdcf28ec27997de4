-- How an index answers after a problem was added.
use Rattle.std.proofs.Common.{◌≡◌, ◌∙◌, ℕ, Bool, true, false, cond, List, [], ◌∷◌, ◌++◌, Option, Some, None}
use Rattle.std.proofs.Common.{refl, sym, ap, subst, inl, inr, ◌⊎◌, append_assoc, nat_eq, Result, Ok, Err}
use Rattle.std.specs.Cmp.Lexicographic.{bytes_decides, pointwise}
use Rattle.std.specs.Map.{lookup}
use Rattle.std.specs.Prelude.{option_map, OnErr}
use Rattle.dw_board.specs.declared.piece.Side.{Side}
use Rattle.dw_board.specs.Geometry.{Geometry, IsBoard}
use Rattle.dw_board.specs.Lists.{Member}
use Rattle.dw_board.specs.Placement.{IsPosition, Placement}
use Rattle.dw_same.specs.Repeats.{IsFirst, IsFirstSame, IsNew, Noted}
use Rattle.dw_same.specs.Turning.{AreSame}
use Rattle.dw_same.specs.declared.index.First.{First}
use Rattle.dw_same.specs.declared.index.Repeat.{Repeat}
use Rattle.dw_same.specs.inner.Keys.{found_in, key, repeat_of}
use Rattle.dw_same.proofs.TurnLemmas.{keys_meet, same_key}

-- ---- ENTRIES

pushed_some : {K X : Type 0} (test : K → Bool) (entries : List (K × X)) (k : K) (v x : X)
    → lookup test entries ≡ Some x → lookup test (entries ++ (k, v) ∷ []) ≡ Some x
pushed_some test [] k v x h = cc
pushed_some test (e ∷ es) k v x h = (elim (test e.0) as (λ b. test e.0 ≡ b
    → lookup test (e ∷ es ++ (k, v) ∷ []) ≡ Some x) [
      | true ↦ λ t. let h' = rw t at h in rw t h'
      | false ↦ λ t. let h' = rw t at h in rw t (pushed_some test es k v x h')
    ]) refl

pushed_none : {K X : Type 0} (test : K → Bool) (entries : List (K × X)) (k : K) (v : X)
    → lookup test entries ≡ None → lookup test (entries ++ (k, v) ∷ []) ≡ cond (test k) (Some v) None
pushed_none test [] k v h = refl
pushed_none test (e ∷ es) k v h = (elim (test e.0) as (λ b. test e.0 ≡ b
    → lookup test (e ∷ es ++ (k, v) ∷ []) ≡ cond (test k) (Some v) None) [
      | true ↦ λ t. let h' = rw t at h in cc
      | false ↦ λ t. let h' = rw t at h in rw t (pushed_none test es k v h')
    ]) refl

-- ---- PROBLEMS

member_cases : (y x : Noted) (xs : List Noted) → Member y (xs ++ x ∷ []) → Member y xs ⊎ (y ≡ x)
member_cases y x [] (inl e) = inr e
member_cases y x [] (inr m) = absurd m
member_cases y x (z ∷ xs) (inl e) = inl (inl e)
member_cases y x (z ∷ xs) (inr m) = elim (member_cases y x xs m) [ inl l ↦ inl (inr l) | inr e ↦ inr e ]

-- a repeat stays the first, whatever is added
first_stays : (g : Geometry) (before : List Noted) (x : Noted) (p : Placement) (repeat : Repeat)
    → IsFirst g before p repeat → IsFirst g (before ++ x ∷ []) p repeat
first_stays g before x p repeat h = record {
  before = h.before;
  first = h.first;
  behind = h.behind ++ x ∷ [];
  are = ap (λ z. z ++ x ∷ []) h.are ∙ append_assoc h.before (h.first ∷ h.behind) (x ∷ []);
  repeats = h.repeats;
  new = h.new;
}

-- a position stays new if the problem that is added is not the same
new_stays : (g : Geometry) (before : List Noted) (x : Noted) (p : Placement) → IsNew g before p
    → (AreSame g p x.position → ⊥) → IsNew g (before ++ x ∷ []) p
new_stays g before x p new other problem member same = elim (member_cases problem x before member) [
  | inl m ↦ new problem m same
  | inr e ↦ other (subst (λ z. AreSame g p z.position) e same)
]

-- an index with these entries answers as these problems do
abbrev pub Answers : Geometry → List Noted → List (List ℕ × First) → Type 0
Answers g problems entries =
    (p : Placement) → IsPosition g p.cells → IsFirstSame g problems p (found_in g entries p)

found_some : (g : Geometry) (before : List Noted) (entries : List (List ℕ × First)) (p : Placement) (first : First)
    → IsFirstSame g before p (found_in g entries p) → lookup (pointwise nat_eq (key g p)) entries ≡ Some first
    → IsFirst g before p (repeat_of first p.turn)
found_some g before entries p first h is =
    subst (λ z. IsFirstSame g before p (option_map (λ (f : First). repeat_of f p.turn) z)) is h

pub found_none : (g : Geometry) (before : List Noted) (entries : List (List ℕ × First)) (p : Placement)
    → IsFirstSame g before p (found_in g entries p) → lookup (pointwise nat_eq (key g p)) entries ≡ None
    → IsNew g before p
found_none g before entries p h is =
    subst (λ z. IsFirstSame g before p (option_map (λ (f : First). repeat_of f p.turn) z)) is h

found_as : (g : Geometry) (before : List Noted) (entries : List (List ℕ × First)) (p : Placement)
    (found : Option First) → lookup (pointwise nat_eq (key g p)) entries ≡ found
    → IsFirstSame g before p (option_map (λ (f : First). repeat_of f p.turn) found)
    → IsFirstSame g before p (found_in g entries p)
found_as g before entries p found is h =
    subst (λ z. IsFirstSame g before p (option_map (λ (f : First). repeat_of f p.turn) z)) (sym is) h

-- ---- ADDING

-- a repeat is added, and the entries stay
pub repeat_added : (g : Geometry) → IsBoard g → (before : List Noted) (entries : List (List ℕ × First)) (x : Noted)
    (first : First) → IsPosition g x.position.cells
    → lookup (pointwise nat_eq (key g x.position)) entries ≡ Some first → Answers g before entries
    → Answers g (before ++ x ∷ []) entries
repeat_added g board before entries x first rules there all p rp =
    (elim (lookup (pointwise nat_eq (key g p)) entries) as (λ z. lookup (pointwise nat_eq (key g p)) entries ≡ z
    → IsFirstSame g (before ++ x ∷ []) p (found_in g entries p)) [
      | Some f ↦ λ is. found_as g (before ++ x ∷ []) entries p (Some f) is
          (first_stays g before x p (repeat_of f p.turn) (found_some g before entries p f (all p rp) is))
      | None ↦ λ is. found_as g (before ++ x ∷ []) entries p None is
          (new_stays g before x p (found_none g before entries p (all p rp) is) (λ same.
          let both = sym is ∙ (ap (λ k. lookup (pointwise nat_eq k) entries)
          (same_key g board p x.position rules same) ∙ there) in cc))
    ]) refl

-- a new problem is added, and its entry after the others
pub new_added : (g : Geometry) → IsBoard g → (before : List Noted) (entries : List (List ℕ × First)) (x : Noted)
    → IsPosition g x.position.cells → lookup (pointwise nat_eq (key g x.position)) entries ≡ None
    → Answers g before entries → Answers g (before ++ x ∷ [])
    (entries ++ (key g x.position, record { number = x.number; turn = x.position.turn }) ∷ [])
new_added g board before entries x rules absent all p rp =
    let first : First = record { number = x.number; turn = x.position.turn } in
    let more = entries ++ (key g x.position, first) ∷ [] in
    (elim (lookup (pointwise nat_eq (key g p)) entries) as (λ z. lookup (pointwise nat_eq (key g p)) entries ≡ z
    → IsFirstSame g (before ++ x ∷ []) p (found_in g more p)) [
      | Some f ↦ λ is. found_as g (before ++ x ∷ []) more p (Some f)
          (pushed_some (pointwise nat_eq (key g p)) entries (key g x.position) first f is)
          (first_stays g before x p (repeat_of f p.turn) (found_some g before entries p f (all p rp) is))
      | None ↦ λ is.
          let new = found_none g before entries p (all p rp) is in
          let here = pushed_none (pointwise nat_eq (key g p)) entries (key g x.position) first is in
          (elim (pointwise nat_eq (key g p) (key g x.position)) as (λ b.
          pointwise nat_eq (key g p) (key g x.position) ≡ b
          → IsFirstSame g (before ++ x ∷ []) p (found_in g more p)) [
            | true ↦ λ t. found_as g (before ++ x ∷ []) more p (Some first)
                (here ∙ ap (λ b. cond b (Some first) None) t)
                (record {
                  before = before;
                  first = x;
                  behind = [];
                  are = refl;
                  repeats = keys_meet g board p x.position rp rules x.number
                      ((bytes_decides (key g p) (key g x.position)).0 t);
                  new = new;
                })
            | false ↦ λ t. found_as g (before ++ x ∷ []) more p None
                (here ∙ ap (λ b. cond b (Some first) None) t)
                (new_stays g before x p new (λ same.
                let yes' = (bytes_decides (key g p) (key g x.position)).1 (same_key g board p x.position rules same) in
                let both = sym t ∙ yes' in cc))
          ]) refl
    ]) refl

-- no entries, no problems
pub none_yet : (g : Geometry) (entries : List (List ℕ × First)) → entries ≡ [] → Answers g [] entries
none_yet g entries is p rp = subst (λ z. IsFirstSame g [] p (found_in g z p)) (sym is) (λ x member same. absurd member)

-- a look-up that finds an entry finds the first problem that is the same
pub found_again : (g : Geometry) (before : List Noted) (entries : List (List ℕ × First)) (p : Placement) (first : First)
    (turn : Side) (repeat : Repeat) → turn ≡ p.turn → repeat ≡ repeat_of first turn
    → IsFirstSame g before p (found_in g entries p) → lookup (pointwise nat_eq (key g p)) entries ≡ Some first
    → IsFirst g before p repeat
found_again g before entries p first turn repeat turn_is is h there =
    subst (IsFirst g before p) (sym (is ∙ ap (repeat_of first) turn_is)) (found_some g before entries p first h there)

abbrev first_of : ℕ → Side → First
first_of number turn = record { number = number; turn = turn }

-- a new problem is added, and its entry is pushed
pub new_pushed : (g : Geometry) → IsBoard g → (before : List Noted) (old new : List (List ℕ × First)) (x : Noted)
    (k : List ℕ) (turn : Side) → IsPosition g x.position.cells → k ≡ key g x.position → turn ≡ x.position.turn
    → lookup (pointwise nat_eq k) old ≡ None
    → new ≡ old ++ (k, record { number = x.number; turn = turn }) ∷ [] → Answers g before old
    → Answers g (before ++ x ∷ []) new
new_pushed g board before old new x k turn rules key_is turn_is absent is all =
    let entry = λ (z : List ℕ) (side : Side).
    old ++ (z, first_of x.number side) ∷ [] in
    let same : new ≡ entry (key g x.position) x.position.turn = is ∙ λ i. entry (key_is i) (turn_is i) in
    subst (Answers g (before ++ x ∷ [])) (sym same) (new_added g board before old x rules
    (ap (λ z. lookup (pointwise nat_eq z) old) (sym key_is) ∙ absent) all)

-- an error leaves what holds without it
pub on_err : {X E : Type 0} {Holds : Type 0} (result : Result X E) → Holds → OnErr result Holds
on_err (Ok x) h = tt
on_err (Err e) h = h
