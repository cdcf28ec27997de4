-- The plain list of moves holds exactly the legal moves.
use Rattle.std.proofs.Common.{◌≡◌, ℕ, ◌<◌, ◌≤◌, zero, suc, List, [], ◌∷◌, length, map, refl, sym, ap, subst, inl, inr}
use Rattle.std.proofs.Common.{arith, Bool, true, false, not, Some, None, ◌==◌, length-append}
use Rattle.std.specs.Prelude.{filter}
use Rattle.std.proofs.lemmas.List.Sums.{count_by-le-length}
use Rattle.std.proofs.lemmas.Bool.{true≢false, eqb-true, eq-eqb, cases_Bool, cases_lt}
use Rattle.dw_board.specs.declared.piece.Side.{Side}
use Rattle.dw_board.specs.declared.piece.Side.TheVariants.{White, Black}
use Rattle.dw_board.specs.declared.piece.Kind.{Kind}
use Rattle.dw_board.specs.declared.piece.Kind.TheVariants.{Man, King}
use Rattle.dw_board.specs.declared.board.Dir.{Dir}
use Rattle.dw_board.specs.declared.piece.Piece.{Piece}
use Rattle.dw_board.specs.Geometry.{Geometry, squares, OnBoard, is_down}
use Rattle.dw_board.specs.Placement.{Placement, at, is_of, placed, same_side}
use Rattle.std.specs.FinSet as set
use Rattle.dw_moves.specs.Moves.{IsForward, Quiet, Path, IsBest, Move, Legal, LegalAt, ray}
use Rattle.dw_board.specs.Lists.{Member}
use Rattle.dw_board.specs.Placement.{other}
use Rattle.dw_moves.specs.inner.MoveLemmas.{same_move}
use Rattle.dw_moves.proofs.CaptureBoundLemmas.{path_bound}
use Rattle.dw_moves.specs.inner.Plain.{numbers_to, dirs, is_forward, may_go, goes, quiet_for, targets_of, targets}
use Rattle.dw_moves.specs.inner.Plain.{quiet_pairs}
use Rattle.dw_moves.proofs.PlainLemmas.{Capture, captures, captures_of, path_list, longest, best, quiet_move}
use Rattle.dw_moves.proofs.PlainLemmas.{quiet_list, move_of, legal_at, legal_list}
use Rattle.dw_moves.specs.inner.MemberLemmas.{mem_map, mem_map_back, mem_flat, mem_flat_back, mem_left, mem_right}
use Rattle.dw_moves.specs.inner.MemberLemmas.{mem_cases, mem_filter, mem_filter_back}
use Rattle.dw_moves.proofs.ExactLemmas.{option_cases, same_side_true, same_side_refl, Lands, lands_from, lands_in}
use Rattle.dw_moves.proofs.ExactLemmas.{all_dirs}
use Rattle.dw_moves.proofs.PlainListLemmas.{captures_from, captures_in}

not_true : (b : Bool) → not b ≡ true → b ≡ false
not_true true e = absurd (true≢false (sym e))
not_true false e = refl

pub square_in : (n s : ℕ) → s < n → Member (suc s) (numbers_to n)
square_in zero s h = absurd (omega arith)
square_in (suc n) s h = elim (cases_lt s n) [
  | inl l ↦ mem_left (suc s) (numbers_to n) (suc n ∷ []) (square_in n s l)
  | inr go ↦ let e : s ≡ n = omega arith in mem_right (suc s) (numbers_to n) (suc n ∷ []) (inl (ap suc e))
]

-- a number from 1 to n is one of them
pub number_in : (n s : ℕ) → 1 ≤ s → s ≤ n → Member s (numbers_to n)
number_in n zero low high = absurd (omega arith)
number_in n (suc s) low high = square_in n s (omega arith)

pub from_number : (n s : ℕ) → Member s (numbers_to n) → (1 ≤ s) × (s ≤ n)
from_number zero s m = absurd m
from_number (suc n) s m = elim (mem_cases s (numbers_to n) (suc n ∷ []) m) [
  | inl l ↦ let h = from_number n s l in (h.0, omega (arith, h.1))
  | inr (inl e) ↦ (omega arith, omega arith)
  | inr (inr r) ↦ absurd r
]

-- a path takes no more than there are cells
path_short : (g : Geometry) (p : Placement) (from : ℕ) (ts cs : List ℕ) → Path g p from ts cs
    → length cs ≤ length p.cells
path_short g p from ts cs h =
    omega (arith, path_bound g p from ts cs h, count_by-le-length (is_of (other p.turn)) p.cells)

captures_of_from : (g : Geometry) (p : Placement) (s : ℕ) (w : Capture) (piece : Piece) → OnBoard g s
    → at p s ≡ Some piece → Member w (captures_of g p s (Some piece)) → Path g p w.start w.landings w.over
captures_of_from g p s w piece on e m = elim (cases_Bool (same_side piece.side p.turn)) [
  | inl own ↦
      let f = mem_map_back (λ (q : List ℕ × List ℕ). record { start = s; landings = q.0; over = q.1 }) w
      (captures g (placed p s None) piece (length p.cells) s []) (rw (own, captures_of) at m) in
      let h = captures_from g (placed p s None) piece (length p.cells) s [] f.0 f.1 in
      subst (λ (w : Capture). Path g p w.start w.landings w.over) (sym f.2)
      (record {
        piece = piece;
        stands = record { on_board = on; there = e; own = same_side_true piece.side p.turn own };
        jumps = h.jumps;
        once = h.once;
      })
  | inr not_own ↦ absurd (rw (not_own, captures_of) at m)
]

pub path_from : (g : Geometry) (p : Placement) (w : Capture) → Member w (path_list g p)
    → Path g p w.start w.landings w.over
path_from g p w m =
    let f = mem_flat_back (λ s. captures_of g p s (at p s)) w (numbers_to (squares g)) m in
    elim (option_cases (at p f.0)) [
      | inl e ↦ absurd (rw (e, captures_of) at f.2)
      | inr e ↦ captures_of_from g p f.0 w e.0 (from_number (squares g) f.0 f.1) e.1 (rw e.1 at f.2)
    ]

pub path_in : (g : Geometry) (p : Placement) (from : ℕ) (ts cs : List ℕ) → Path g p from ts cs
    → Member (record { start = from; landings = ts; over = cs }) (path_list g p)
path_in g p from ts cs h =
    let w : Capture = record { start = from; landings = ts; over = cs } in
    let own : same_side h.piece.side p.turn ≡ true = rw h.stands.own (same_side_refl p.turn) in
    let found : Member (ts, cs) (captures g (placed p from None) h.piece (length p.cells) from []) =
    captures_in g (placed p from None) h.piece (length p.cells) from [] ts cs h.jumps h.once (λ x m u. u)
    (path_short g p from ts cs h) in
    let here : Member w (captures_of g p from (Some h.piece)) =
    rw (own, captures_of) (mem_map (λ (q : List ℕ × List ℕ). record { start = from; landings = q.0; over = q.1 })
    (ts, cs) (captures g (placed p from None) h.piece (length p.cells) from []) found) in
    mem_flat (λ s. captures_of g p s (at p s)) from w (numbers_to (squares g))
    (number_in (squares g) from h.stands.on_board.0 h.stands.on_board.1) (rw h.stands.there here)

longest_most : (ws : List Capture) (w : Capture) → Member w ws → length w.over ≤ longest ws
longest_most [] w m = absurd m
longest_most (v ∷ ws) w (inl e) = let same : length w.over ≡ length v.over = ap (λ (q : Capture). length q.over) e in
    omega arith
longest_most (v ∷ ws) w (inr m) = omega (arith, longest_most ws w m)

longest_reached : (ws : List Capture) → 0 < longest ws → (w : Capture) × Member w ws × (length w.over ≡ longest ws)
longest_reached [] h = absurd (omega arith)
longest_reached (v ∷ ws) h = elim (cases_lt (length v.over) (longest ws)) [
  | inl l ↦ let r = longest_reached ws (omega arith) in (r.0, inr r.1, omega (arith, r.2))
  | inr go ↦ (v, inl refl, omega arith)
]

pub is_best : (g : Geometry) (p : Placement) → IsBest g p (best g p)
is_best g p = record {
  reached = λ h. let r = longest_reached (path_list g p) h in (
    r.0.start,
    r.0.landings,
    r.0.over,
    path_from g p r.0 r.1,
    r.2,
  );
  most = λ from ts cs h. longest_most (path_list g p) (record { start = from; landings = ts; over = cs })
      (path_in g p from ts cs h);
}

best_below : (g : Geometry) (p : Placement) (j k : ℕ) → IsBest g p j → IsBest g p k → j ≤ k
best_below g p j k hj hk = elim (cases_lt 0 j) [
  | inl l ↦ let r = hj.reached l in omega (arith, hk.most r.0 r.1 r.2 r.3, r.4)
  | inr go ↦ omega arith
]

pub best_only : (g : Geometry) (p : Placement) (j k : ℕ) → IsBest g p j → IsBest g p k → j ≡ k
best_only g p j k hj hk = omega (arith, best_below g p j k hj hk, best_below g p k j hk hj)

-- with this greatest number a legal move is one at it
pub legal_best : (g : Geometry) (p : Placement) (k : ℕ) (m : Move) → IsBest g p k → Legal g p m → LegalAt g p k m
legal_best g p k m best l = subst (λ z. LegalAt g p z m) (best_only g p l.0 k l.1 best) l.2

forward_from : (side : Side) (d : Dir) → is_forward side d ≡ true → IsForward side d
forward_from White d e = not_true (is_down d) e
forward_from Black d e = e

forward_in : (side : Side) (d : Dir) → IsForward side d → is_forward side d ≡ true
forward_in White d f = rw f refl
forward_in Black d f = f

pub may_from : (k : Kind) (side : Side) (d : Dir) → may_go k side d ≡ true → k ≡ Man → IsForward side d
may_from Man side d e q = forward_from side d e
may_from King side d e q = cc

pub may_in : (k : Kind) (side : Side) (d : Dir) → (k ≡ Man → IsForward side d) → may_go k side d ≡ true
may_in Man side d f = forward_in side d (f refl)
may_in King side d f = refl

-- a quiet landing of a piece on s
pub record Goes (k : Kind) (g : Geometry) (p : Placement) (side : Side) (s t : ℕ) (dir : Dir) : Type 0 where
  pub lands : Lands k p (ray g s dir) t
  pub ahead : k ≡ Man → IsForward side dir

pub goes_from : (k : Kind) (g : Geometry) (p : Placement) (side : Side) (s t : ℕ) (d : Dir)
    → Member t (goes k g p side s d) → Goes k g p side s t d
goes_from k g p side s t d m = elim (cases_Bool (may_go k side d)) [
  | inl e ↦ record { lands = lands_from k p (ray g s d) t (rw e at m); ahead = may_from k side d e }
  | inr e ↦ absurd (rw e at m)
]

goes_in : (k : Kind) (g : Geometry) (p : Placement) (side : Side) (s t : ℕ) (d : Dir) → Goes k g p side s t d
    → Member t (goes k g p side s d)
goes_in k g p side s t d h = rw (may_in k side d h.ahead) (lands_in k p (ray g s d) t h.lands)

target_of_from : (g : Geometry) (p : Placement) (s t : ℕ) (piece : Piece) → OnBoard g s → at p s ≡ Some piece
    → Member t (targets_of g p s (Some piece)) → Quiet g p s t
target_of_from g p s t piece on e m = elim (cases_Bool (same_side piece.side p.turn)) [
  | inl own ↦
      let f = mem_flat_back (goes piece.kind g p p.turn s) t dirs (rw own at m) in
      let h = goes_from piece.kind g p p.turn s t f.0 f.2 in
      record {
        piece = piece;
        stands = record { on_board = on; there = e; own = same_side_true piece.side p.turn own };
        dir = f.0;
        between = h.lands.before;
        beyond = h.lands.beyond;
        on_ray = h.lands.is;
        clear = h.lands.clear;
        free = h.lands.free;
        man = λ q. (h.lands.man q, h.ahead q);
      }
  | inr not_own ↦ absurd (rw not_own at m)
]

pub target_from : (g : Geometry) (p : Placement) (s t : ℕ) → OnBoard g s → Member t (targets g p s) → Quiet g p s t
target_from g p s t on m = elim (option_cases (at p s)) [
  | inl e ↦ absurd (rw (e, targets_of) at m)
  | inr e ↦ target_of_from g p s t e.0 on e.1 (rw e.1 at m)
]

pub target_in : (g : Geometry) (p : Placement) (s t : ℕ) → Quiet g p s t → Member t (targets g p s)
target_in g p s t h =
    let own : same_side h.piece.side p.turn ≡ true = rw h.stands.own (same_side_refl p.turn) in
    let there : Member t (quiet_for h.piece.kind g p p.turn s) = mem_flat (goes h.piece.kind g p p.turn s) h.dir t dirs
    (all_dirs h.dir)
    (goes_in h.piece.kind g p p.turn s t h.dir
    (record {
      lands = record {
        before = h.between;
        beyond = h.beyond;
        is = h.on_ray;
        clear = h.clear;
        free = h.free;
        man = λ q. (h.man q).0;
      };
      ahead = λ q. (h.man q).1;
    })) in
    let here : Member t (targets_of g p s (Some h.piece)) = rw own there in
    rw h.stands.there here

pub pair_from : (g : Geometry) (p : Placement) (m : ℕ × ℕ) → Member m (quiet_pairs g p) → Quiet g p m.0 m.1
pair_from g p m h =
    let f = mem_flat_back (λ s. map (λ t. (s, t)) (targets g p s)) m (numbers_to (squares g)) h in
    let k = mem_map_back (λ t. (f.0, t)) m (targets g p f.0) f.2 in
    let q = target_from g p f.0 k.0 (from_number (squares g) f.0 f.1) k.1 in
    subst (λ (m : ℕ × ℕ). Quiet g p m.0 m.1) (sym k.2) q

pub pair_in : (g : Geometry) (p : Placement) (s t : ℕ) → Quiet g p s t → Member (s, t) (quiet_pairs g p)
pair_in g p s t h = mem_flat (λ s. map (λ t. (s, t)) (targets g p s)) s (s, t) (numbers_to (squares g))
    (number_in (squares g) s h.stands.on_board.0 h.stands.on_board.1) (mem_map (λ t. (s, t)) t (targets g p s)
    (target_in g p s t h))

pub quiet_from : (g : Geometry) (p : Placement) (m : Move) → Member m (quiet_list g p) → Quiet g p m.from m.to
    × (m.taken ≡ set.empty)
quiet_from g p m h =
    let f = mem_map_back quiet_move m (quiet_pairs g p) h in
    subst (λ (m : Move). Quiet g p m.from m.to × (m.taken ≡ set.empty)) (sym f.2) (pair_from g p f.0 f.1, refl)

pub quiet_in : (g : Geometry) (p : Placement) (from to : ℕ) → Quiet g p from to
    → Member (record { from = from; to = to; taken = set.empty }) (quiet_list g p)
quiet_in g p from to h = mem_map quiet_move (from, to) (quiet_pairs g p) (pair_in g p from to h)

at_from : (g : Geometry) (p : Placement) (k : ℕ) (m : Move) → Member m (legal_at g p (path_list g p) k)
    → LegalAt g p k m
at_from g p zero m h = quiet_from g p m h
at_from g p (suc k) m h =
    let f = mem_map_back move_of m (filter (λ (w : Capture). length w.over == suc k) (path_list g p)) h in
    let go = mem_filter_back (λ (w : Capture). length w.over == suc k) f.0 (path_list g p) f.1 in
    let w : Capture = f.0 in
    subst (LegalAt g p (suc k)) (sym f.2) (
      w.landings,
      record {
        over = w.over;
        path = path_from g p w go.0;
        count = eqb-true (length w.over) (suc k) go.1;
        ends = refl;
        takes = refl;
      },
    )

at_in : (g : Geometry) (p : Placement) (k : ℕ) (m : Move) → LegalAt g p k m → Member m (legal_at g p (path_list g p) k)
at_in g p zero m h =
    subst (λ (n : Move). Member n (quiet_list g p)) (same_move (record { from = m.from; to = m.to; taken = set.empty })
    m refl refl (sym h.1)) (quiet_in g p m.from m.to h.0)
at_in g p (suc k) m h =
    let go = h.1 in
    let w : Capture = record { start = m.from; landings = h.0; over = go.over } in
    let found = path_in g p m.from h.0 go.over go.path in
    let kept = mem_filter (λ (w : Capture). length w.over == suc k) w (path_list g p) found
    (eq-eqb (length go.over) (suc k) go.count) in
    subst (λ (n : Move). Member n (legal_at g p (path_list g p) (suc k))) (same_move (move_of w) m refl go.ends
    (sym go.takes))
    (mem_map move_of w (filter (λ (w : Capture). length w.over == suc k) (path_list g p)) kept)

-- THE LIST OF LEGAL MOVES
pub legal_from : (g : Geometry) (p : Placement) (m : Move) → Member m (legal_list g p) → Legal g p m
legal_from g p m h = (best g p, is_best g p, at_from g p (best g p) m h)

pub legal_in : (g : Geometry) (p : Placement) (m : Move) → Legal g p m → Member m (legal_list g p)
legal_in g p m h = at_in g p (best g p) m (legal_best g p (best g p) m (is_best g p) h)
