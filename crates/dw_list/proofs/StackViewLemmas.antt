-- The levels of a stack, the last one first, as its frames change.
use Rattle.std.proofs.Common.{◌≡◌, ℕ, ◌+◌, ◌-◌, ◌*◌, ◌≤◌, ◌↔◌, zero, suc, Bool, true, false, Some, None, Option, List}
use Rattle.std.proofs.Common.{[], ◌∷◌, ◌++◌, length, drop, take, get_or, reverse, refl, sym, ap, ◌∙◌, subst, arith}
use Rattle.std.proofs.Common.{IsTrue, length-append}
use Rattle.std.specs.Prelude.{not, IsSome}
use Rattle.std.proofs.lemmas.List.{reverse-append, reverse-reverse, length-reverse, length-take-le}
use Rattle.std.proofs.lemmas.List.{take_more, take-take}
use Rattle.dw_board.specs.Geometry.{Geometry}
use Rattle.dw_board.specs.Placement.{Placement}
use Rattle.dw_moves.specs.Moves.{Move, play}
use Rattle.dw_list.specs.inner.Ways.{left_after, Keeps}
use Rattle.dw_list.specs.LineStack.{Level, LineStack}
use Rattle.dw_list.specs.inner.Levels.{AreLevels}
use Rattle.dw_list.specs.declared.stack.Candidate.{Candidate}
use Rattle.dw_list.specs.inner.Tasks.{IsCandidate}
use Rattle.dw_list.specs.inner.Steps.{begun, first_ahead, passed, passed_last, IsListing}
use Rattle.dw_list.proofs.StackLemmas.{levels_passed, levels_entered, levels_back, room_entered}

abbrev pub standing : Placement → ℕ → List Move → List Level → LineStack
standing p n line levels = record { position = p; moves = n; line = line; levels = levels }

pub end_first : {X : Type 0} (xs ys : List X) (x : X) → xs ≡ ys ++ x ∷ [] → reverse xs ≡ x ∷ reverse ys
end_first xs ys x e = ap reverse e ∙ reverse-append ys (x ∷ [])

turned_twice : {X : Type 0} (xs ys : List X) (x y : X) → xs ≡ (ys ++ x ∷ []) ++ y ∷ [] → reverse xs ≡ y ∷ x ∷ reverse ys
turned_twice xs ys x y e = end_first xs (ys ++ x ∷ []) y e ∙ ap (λ z. y ∷ z) (end_first (ys ++ x ∷ []) ys x refl)

-- a list whose turned form has this first element
pub turned_back : {X : Type 0} (xs ys : List X) (x : X) → reverse xs ≡ x ∷ ys → xs ≡ reverse ys ++ x ∷ []
turned_back xs ys x e = sym (reverse-reverse xs) ∙ (ap reverse e ∙ reverse-append (x ∷ []) ys)

-- a list that is not empty has a last element
pub ends : {X : Type 0} (xs : List X) → 1 ≤ length xs → (ys : List X) × (x : X) × (xs ≡ ys ++ x ∷ [])
ends [] some = absurd (omega (arith, some))
ends (y ∷ []) some = ([], y, refl)
ends (y ∷ z ∷ xs) some = let r = ends (z ∷ xs) (omega arith) in (y ∷ r.0, r.1, ap (λ w. y ∷ w) r.2)

-- the first elements end with the one before their number
pub last_taken : {X : Type 0} (xs : List X) (n i : ℕ) (x : X) → n ≤ length xs → i + 1 ≡ n → x ≡ get_or xs i x
    → take n xs ≡ take i xs ++ x ∷ []
last_taken xs n i x fits e at = ap (λ k. take k xs) (sym e) ∙ (take_more xs i x (omega (arith, fits, e))
    ∙ ap (λ z. take i xs ++ z ∷ []) (sym at))

pub at_last : {X : Type 0} (xs ys : List X) (n : ℕ) (x : X) → n ≤ length xs → ys ≡ xs → x ≡ get_or ys (n - 1) x → 1 ≤ n
    → reverse (take n xs) ≡ x ∷ reverse (take (n - 1) xs)
at_last xs ys n x fits same at some = end_first (take n xs) (take (n - 1) xs) x
    (last_taken xs n (n - 1) x fits (omega (arith, some)) (at ∙ ap (λ z. get_or z (n - 1) x) same))

-- one element fewer, turned round
pub one_less : {X : Type 0} (xs : List X) (n k : ℕ) → n ≤ length xs → k ≡ n - 1
    → reverse (take k xs) ≡ drop 1 (reverse (take n xs))
one_less xs zero k fits e = rw e refl
one_less xs (suc n) k fits e =
    let same : k ≡ n = omega (arith, e) in
    let r = ends (take (suc n) xs) (omega (arith, length-take-le (suc n) xs fits)) in
    let all : n ≡ length r.0 = omega (
      arith,
      ap length r.2,
      length-append r.0 (r.1 ∷ []),
      length-take-le (suc n) xs
          fits,
    ) in
    let front : take k xs ≡ r.0 = ap (λ z. take z xs) same ∙ (sym (take-take n (suc n) xs (omega arith))
    ∙ (ap (take n) r.2 ∙ (ap (λ z. take z (r.0 ++ r.1 ∷ [])) all ∙ front_of r.0 (r.1 ∷ [])))) in
    ap reverse front ∙ sym (ap (drop 1) (end_first (take (suc n) xs) r.0 r.1 r.2)) where
      front_of : {X : Type 0} (ys zs : List X) → take (length ys) (ys ++ zs) ≡ ys
      front_of [] zs = refl
      front_of (y ∷ ys) zs = ap (λ w. y ∷ w) (front_of ys zs)

module _ (g : Geometry) (p : Placement) (n : ℕ) where
  pub inside_passed : (old outer new : List Level) (f : Level) (line : List Move) → old ≡ outer ++ f ∷ []
      → new ≡ outer ++ passed f ∷ [] → AreLevels g p n (reverse old) line → AreLevels g p n (reverse new) line
  inside_passed old outer new f line was is inv =
      subst (λ z. AreLevels g p n z line) (sym (end_first new outer (passed f) is))
      (levels_passed g p n (f ∷ reverse outer) line (subst (λ z. AreLevels g p n z line) (end_first old outer f was)
      inv))

  pub inside_back : (old new : List Level) (line line' : List Move) → reverse new ≡ drop 1 (reverse old)
      → line' ≡ drop 1 line → AreLevels g p n (reverse old) line → AreLevels g p n (reverse new) line'
  inside_back old new line line' is is' inv = subst (λ z. AreLevels g p n z line') (sym is)
      (subst (λ z. AreLevels g p n (drop 1 (reverse old)) z) (sym is') (levels_back g p n (reverse old) line inv))

  -- what is known before a candidate is entered
  pub entering : {B : Type 0} (xs levels : List Level) (d : ℕ) (line : List Move) (t : Candidate B)
      → reverse (take d xs) ≡ levels → (h : IsCandidate g levels t) → d ≤ length xs → length xs ≤ 2 * n
      → AreLevels g p n (reverse (take d xs)) line → (take d xs ≡ reverse h.outer ++ h.last ∷ []) × (1 ≤ d)
      × (length line + 2 ≤ 2 * n) × (d + 1 ≤ 2 * n)
  entering xs levels d line t seen h fits few inv =
      let was = turned_back (take d xs) h.outer h.last (seen ∙ h.are) in
      let long : length h.outer + 1
      ≡ d = omega (
        arith,
        ap length was,
        length-append (reverse h.outer) (h.last ∷ []),
        length-reverse h.outer,
        length-take-le d xs fits,
      ) in
      let room = room_entered g p n h.last h.outer line t.mv (subst (λ z. AreLevels g p n z line) (seen ∙ h.are) inv)
      (omega (arith, long, fits, few)) h.first in
      (was, omega (arith, long), room.0, omega (arith, room.1, long))

  pub inside_entered : (old outer new : List Level) (f : Level) (line : List Move) (m : Move) (after : Placement)
      (attacks : Bool) (left : ℕ) → old ≡ outer ++ f ∷ []
      → new ≡ (outer ++ passed f ∷ []) ++ begun after (not attacks) left ∷ [] → first_ahead f.ahead ≡ Some m
      → after ≡ play g f.position m → attacks ≡ f.attacks → left ≡ left_after f.attacks f.left
      → Keeps g attacks after left → length old ≤ 2 * n → AreLevels g p n (reverse old) line
      → AreLevels g p n (reverse new) (m ∷ line)
  inside_entered old outer new f line m after attacks left was is first after_is attacks_is left_is keeps few inv =
      let before = subst (λ z. AreLevels g p n z line) (end_first old outer f was) inv in
      let count : length (reverse outer) + 1
      ≤ 2 * n = omega (arith, few, ap length was, length-append outer (f ∷ []), length-reverse outer) in
      let same : begun after (not attacks) left ≡ begun (play g f.position m) (not f.attacks) (left_after f.attacks
      f.left) = λ i. begun (after_is i) (not (attacks_is i)) (left_is i) in
      let kept : Keeps g f.attacks (play g f.position m) (left_after f.attacks f.left) =
      subst (λ z. Keeps g f.attacks (play g f.position m) z) left_is (subst (λ z. Keeps g f.attacks z left) after_is
      (subst (λ z. Keeps g z after left) attacks_is keeps)) in
      subst (λ z. AreLevels g p n z (m ∷ line)) (sym (turned_twice new outer (passed f) _ is))
      (subst (λ z. AreLevels g p n (z ∷ passed f ∷ reverse outer) (m ∷ line)) (sym same)
      (levels_entered g p n f (reverse outer) line m before count first kept))

-- what a frame says of its moves
pub not_listed : (o : Option (List Move)) (b : Bool) → IsTrue b ↔ IsSome o → b ≡ false → o ≡ None
not_listed None b h e = refl
not_listed (Some ms) b h e = let t = h.1 refl in cc

pub all_passed : (o : Option (List Move)) (b : Bool) → IsTrue b ↔ IsSome o → b ≡ true → first_ahead o ≡ None
    → o ≡ Some []
all_passed None b h e f = let t = h.0 e in cc
all_passed (Some []) b h e f = refl
all_passed (Some (m ∷ ms)) b h e f = cc

pub listing_ends : (g : Geometry) (f h : Level) (end : Bool) (listing : IsListing g f h) → IsTrue end
    ↔ ((h.attacks ≡ false) × (first_ahead h.ahead ≡ None)) → IsTrue end ↔ ((f.attacks ≡ false) × (listing.moves ≡ []))
listing_ends g f h end listing e =
    let k = subst (λ (z : Level). IsTrue end ↔ ((z.attacks ≡ false) × (first_ahead z.ahead ≡ None))) listing.is e in
    ((λ t. let r = k.0 t in (r.0, none listing.moves r.1)), (λ r. k.1 (r.0, ap (λ z. first_ahead (Some z)) r.1))) where
      none : (ms : List Move) → first_ahead (Some ms) ≡ None → ms ≡ []
      none [] e = refl
      none (m ∷ ms) e = cc

-- the stack with other levels
pub with_levels : (s : LineStack) (p : Placement) (n : ℕ) (line : List Move) (old new wanted : List Level)
    → standing p n line old ≡ s → new ≡ wanted → standing p n line new ≡ record s { levels = wanted }
with_levels s p n line old new wanted is same = subst (λ (z : LineStack). standing p n line new
    ≡ record z { levels = wanted }) is (λ i. standing p n line (same i))

pub with_both : (s : LineStack) (p : Placement) (n : ℕ) (line line' : List Move) (old new : List Level)
    → standing p n line old ≡ s → line' ≡ drop 1 line → new ≡ drop 1 old → standing p n line' new
    ≡ record s { line = drop 1 s.line; levels = drop 1 s.levels }
with_both s p n line line' old new is e f = subst (λ (z : LineStack). standing p n line' new
    ≡ record z { line = drop 1 z.line; levels = drop 1 z.levels }) is (λ i. standing p n (e i) (f i))

-- what a stack keeps to inside holds of what is seen of it
pub seen_levels : (g : Geometry) (inside seen : LineStack) → inside ≡ seen
    → AreLevels g inside.position inside.moves inside.levels inside.line
    → AreLevels g seen.position seen.moves seen.levels seen.line
seen_levels g inside seen is levels = subst (λ (s : LineStack). AreLevels g s.position s.moves s.levels s.line) is
    levels

-- what is seen of a stack whose last level passed a move
pub seen_passed : (s : LineStack) (p : Placement) (n : ℕ) (line : List Move) (old outer new : List Level) (f : Level)
    → standing p n line (reverse old) ≡ s → old ≡ outer ++ f ∷ [] → new ≡ outer ++ passed f ∷ []
    → standing p n line (reverse new) ≡ record s { levels = passed_last s.levels }
seen_passed s p n line old outer new f seen was is =
    with_levels s p n line (reverse old) (reverse new) (passed_last s.levels) seen
    (end_first new outer (passed f) is ∙ (sym (ap passed_last (end_first old outer f was))
    ∙ ap (λ (z : LineStack). passed_last z.levels) seen))

-- what is seen of a stack that went on with a move
pub seen_entered : (s : LineStack) (p : Placement) (n : ℕ) (line line' : List Move) (m : Move)
    (old outer new : List Level) (f k : Level) → standing p n (reverse line) (reverse old) ≡ s → line' ≡ line ++ m ∷ []
    → old ≡ outer ++ f ∷ [] → new ≡ (outer ++ passed f ∷ []) ++ k ∷ [] → standing p n (reverse line') (reverse new)
    ≡ record s { line = m ∷ s.line; levels = k ∷ passed_last s.levels }
seen_entered s p n line line' m old outer new f k seen played was is =
    let line_is : reverse line' ≡ m ∷ reverse line = end_first line' line m played in
    let levels : reverse new ≡ k ∷ passed_last (reverse old) = turned_twice new outer (passed f) k is
    ∙ ap (λ z. k ∷ passed_last z) (sym (end_first old outer f was)) in
    subst (λ (z : LineStack). standing p n (reverse line') (reverse new)
    ≡ record z { line = m ∷ z.line; levels = k ∷ passed_last z.levels }) seen
    (λ i. standing p n (line_is i) (levels i))
