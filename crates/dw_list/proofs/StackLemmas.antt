-- What the steps of a stack keep.
use Rattle.std.proofs.Common.{◌≡◌, ℕ, ◌+◌, ◌*◌, ◌≤◌, zero, suc, Bool, true, false, cond, Some, None, Option, List, []}
use Rattle.std.proofs.Common.{◌∷◌, ◌++◌, length, drop, refl, sym, subst, arith, append_assoc}
use Rattle.std.specs.Prelude.{not, option_map}
use Rattle.std.proofs.lemmas.Bool.{true≢false}
use Rattle.std.proofs.lemmas.Option.{none-some, same_Some}
use Rattle.dw_board.specs.Geometry.{Geometry}
use Rattle.dw_board.specs.Placement.{Placement}
use Rattle.dw_moves.specs.Moves.{Move, Legal, NoMove, play}
use Rattle.dw_moves.specs.inner.MemberLemmas.{mem_at}
use Rattle.dw_moves.specs.Order.{Precedes, IsListOf}
use Rattle.dw_solve.specs.Wins.{Win, Lost}
use Rattle.dw_list.specs.inner.Ways.{IsNext, left_after, Keeps}
use Rattle.dw_list.specs.LineStack.{Level}
use Rattle.dw_list.specs.inner.Levels.{AreLast, AreBehind, Leads, AreLevels}
use Rattle.dw_list.specs.inner.Steps.{begun, first_ahead, passed, IsListing, passed_last}
use Rattle.dw_list.proofs.WayLemmas.{next_to}

-- COUNTS

leads_length : (g : Geometry) (p : Placement) (n : ℕ) (outer : List Level) (line : List Move) (a : Bool) (q : Placement)
    (k : ℕ) → Leads g p n outer line a q k → length outer ≡ length line
leads_length g p n [] [] a q k h = refl
leads_length g p n [] (m ∷ line) a q k h = absurd h
leads_length g p n (f ∷ outer) [] a q k h = absurd h
leads_length g p n (f ∷ outer) (m ∷ line) a q k h = let e = leads_length g p n outer line f.attacks f.position f.left
    h.0 in omega arith

after_count : (g : Geometry) (a : Bool) (p : Placement) (k : ℕ) (m : Move) → IsNext g a p k m
    → suc (2 * left_after a k + cond (not a) 0 1) ≡ 2 * k + cond a 0 1
after_count g true p zero m h = absurd h
after_count g true p (suc k) m h = omega arith
after_count g false p k m h = omega arith

-- the levels and what is left make up all plies
pub leads_count : (g : Geometry) (p : Placement) (n : ℕ) (outer : List Level) (line : List Move) (a : Bool)
    (q : Placement) (k : ℕ) → Leads g p n outer line a q k → length outer + (2 * k + cond a 0 1) ≡ 2 * n
leads_count g p n [] [] a q k h = let e = h.2 in rw h.0 (omega arith)
leads_count g p n [] (m ∷ line) a q k h = absurd h
leads_count g p n (f ∷ outer) [] a q k h = absurd h
leads_count g p n (f ∷ outer) (m ∷ line) a q k h =
    let rest = leads_count g p n outer line f.attacks f.position f.left h.0 in
    let here = after_count g f.attacks f.position f.left m h.1 in
    rw (h.3, h.5) (omega arith)

-- the defender has lost
pub leads_lost : (g : Geometry) (p : Placement) (n : ℕ) (outer : List Level) (line : List Move) (q : Placement) (k : ℕ)
    → Leads g p n outer line false q k → Lost g q k
leads_lost g p n [] [] q k h = absurd (true≢false (sym h.0))
leads_lost g p n [] (m ∷ line) q k h = absurd h
leads_lost g p n (f ∷ outer) [] q k h = absurd h
leads_lost g p n (f ∷ outer) (m ∷ line) q k h = subst (λ z. Lost g z k) (sym h.4)
    (subst (λ z. Lost g (play g f.position m) z) (sym h.5) (lost g f.attacks f.position f.left m h.1 h.3)) where
      lost : (g : Geometry) (a : Bool) (p : Placement) (n : ℕ) (m : Move) → IsNext g a p n m → false ≡ not a
          → Lost g (play g p m) (left_after a n)
      lost g true p zero m next e = absurd next
      lost g true p (suc n) m next e = next.1
      lost g false p n m next e = absurd (true≢false (sym e))

-- with no move left for the attacker, the defender has none
pub none_left : (g : Geometry) (p : Placement) (n : ℕ) (outer : List Level) (line : List Move) (f : Level)
    → Leads g p n outer line f.attacks f.position f.left → f.attacks ≡ false → f.left ≡ 0 → NoMove g f.position
none_left g p n outer line f h attacks left = leads_lost g p n outer line f.position 0
    (subst (λ k. Leads g p n outer line false f.position k) left
    (subst (λ a. Leads g p n outer line a f.position f.left) attacks h))

win_some : (g : Geometry) (p : Placement) (n : ℕ) → Win g p n → 1 ≤ n
win_some g p zero w = absurd w
win_some g p (suc n) w = omega arith

-- if a move is ahead, the attacker has a move left
pub leads_some : (g : Geometry) (p : Placement) (n : ℕ) (outer : List Level) (line : List Move) (a : Bool)
    (q : Placement) (k : ℕ) (m : Move) → Leads g p n outer line a q k → length outer + 1 ≤ 2 * n → Legal g q m → 1 ≤ k
leads_some g p n outer line true q k m h fits legal = let c = leads_count g p n outer line true q k h in omega arith
leads_some g p n outer line false q k m h fits legal = win_some g (play g q m) k (leads_lost g p n outer line q k h m
    legal)

-- WHAT IS AHEAD

pub last_all : (g : Geometry) (q : Placement) (ms : List Move) → IsListOf (Precedes g q) (Legal g q) ms
    → AreLast g q (Some ms)
last_all g q ms h = ([], h)

pub last_passed : (g : Geometry) (q : Placement) (o : Option (List Move)) → AreLast g q o
    → AreLast g q (option_map (drop 1) o)
last_passed g q None h = tt
last_passed g q (Some []) h = h
last_passed g q (Some (m ∷ ms)) h = (
  h.0 ++ m ∷ [],
  subst (IsListOf (Precedes g q) (Legal g q)) (sym (append_assoc h.0 (m ∷ []) ms)) h.1,
)

pub last_behind : (g : Geometry) (q : Placement) (m : Move) (o : Option (List Move)) → AreBehind g q m o → AreLast g q o
last_behind g q m None h = absurd h
last_behind g q m (Some ms) h = (
  h.0 ++ m ∷ [],
  subst (IsListOf (Precedes g q) (Legal g q)) (sym (append_assoc h.0 (m ∷ []) ms)) h.1,
)

pub behind_first : (g : Geometry) (q : Placement) (m : Move) (o : Option (List Move)) → first_ahead o ≡ Some m
    → AreLast g q o → AreBehind g q m (option_map (drop 1) o) × Legal g q m
behind_first g q m None e h = absurd (none-some m e)
behind_first g q m (Some []) e h = absurd (none-some m e)
behind_first g q m (Some (r ∷ ms)) e h =
    let same : r ≡ m = same_Some r m e in
    let all = subst (λ z. IsListOf (Precedes g q) (Legal g q) (h.0 ++ z ∷ ms)) same h.1 in
    ((h.0, all), (all.exactly m).0 (mem_at m h.0 ms))

-- THE LEVELS

pub levels_listed : (g : Geometry) (p : Placement) (n : ℕ) (f h : Level) (outer : List Level) (line : List Move)
    → AreLevels g p n (f ∷ outer) line → IsListing g f h → AreLevels g p n (h ∷ outer) line
levels_listed g p n f h outer line levels listing =
    subst (λ z. AreLevels g p n (z ∷ outer) line) (sym listing.is) (
      levels.0,
      last_all g f.position listing.moves listing.all,
    )

pub levels_passed : (g : Geometry) (p : Placement) (n : ℕ) (levels : List Level) (line : List Move)
    → AreLevels g p n levels line → AreLevels g p n (passed_last levels) line
levels_passed g p n [] line h = h
levels_passed g p n (f ∷ outer) line h = (h.0, last_passed g f.position f.ahead h.1)

pub levels_back : (g : Geometry) (p : Placement) (n : ℕ) (levels : List Level) (line : List Move)
    → AreLevels g p n levels line → AreLevels g p n (drop 1 levels) (drop 1 line)
levels_back g p n [] [] h = h
levels_back g p n [] (m ∷ line) h = cc
levels_back g p n (f ∷ []) [] h = refl
levels_back g p n (f ∷ []) (m ∷ line) h = absurd h.0
levels_back g p n (f ∷ e ∷ outer) [] h = absurd h.0
levels_back g p n (f ∷ e ∷ outer) (m ∷ line) h = (h.0.0, last_behind g e.position m e.ahead h.0.2)

pub levels_entered : (g : Geometry) (p : Placement) (n : ℕ) (f : Level) (outer : List Level) (line : List Move)
    (m : Move) → AreLevels g p n (f ∷ outer) line → length outer + 1 ≤ 2 * n → first_ahead f.ahead ≡ Some m
    → Keeps g f.attacks (play g f.position m) (left_after f.attacks f.left)
    → AreLevels g p n (begun (play g f.position m) (not f.attacks) (left_after f.attacks f.left) ∷ passed f ∷ outer)
    (m ∷ line)
levels_entered g p n f outer line m h fits first keeps =
    let behind = behind_first g f.position m f.ahead first h.1 in
    let some = leads_some g p n outer line f.attacks f.position f.left m h.0 fits behind.1 in
    ((h.0, next_to g f.attacks f.position f.left m (λ _. some) behind.1 keeps, behind.0, refl, refl, refl), tt)

-- there is room for one more level, and for a move in the line
pub room_entered : (g : Geometry) (p : Placement) (n : ℕ) (f : Level) (outer : List Level) (line : List Move) (m : Move)
    → AreLevels g p n (f ∷ outer) line → length outer + 1 ≤ 2 * n → first_ahead f.ahead ≡ Some m
    → (length line + 2 ≤ 2 * n) × (length outer + 2 ≤ 2 * n)
room_entered g p n f outer line m h fits first =
    let behind = behind_first g f.position m f.ahead first h.1 in
    let some = leads_some g p n outer line f.attacks f.position f.left m h.0 fits behind.1 in
    let count = leads_count g p n outer line f.attacks f.position f.left h.0 in
    let long = leads_length g p n outer line f.attacks f.position f.left h.0 in
    (omega arith, omega arith)
