-- What the walks found is the list of legal moves.
use Rattle.std.proofs.Common.{◌≡◌, ℕ, ◌<◌, zero, suc, List, [], ◌∷◌, ◌++◌, length, map, refl, sym, ap, ◌∙◌, subst, inl}
use Rattle.std.proofs.Common.{inr, arith, ◌↔◌, ◌≤◌, Option, Some, None}
use Rattle.std.specs.Prelude.{IsSome}
use Rattle.std.proofs.lemmas.Bool.{cases_lt}
use Rattle.std.specs.FinSet as fin
use Rattle.std.specs.Ordering.{nat_cmp}
use Rattle.dw_board.specs.Geometry.{Geometry, IsBoard, Squares}
use Rattle.dw_board.specs.Placement.{Placement, IsPosition, other}
use Rattle.dw_moves.specs.Moves.{IsBest, CanCapture, Move, Quiet, Path, IsPathOf, Legal, LegalAt, AreLegal, last_of}
use Rattle.dw_moves.specs.Moves.{AreEnds, SharesEnds}
use Rattle.dw_board.specs.Lists.{Member}
use Rattle.dw_moves.specs.inner.Plain.{quiet_to, Adds}
use Rattle.dw_moves.specs.Order.{Listed}
use Rattle.dw_moves.specs.inner.Walks.{Captures, EndsKept, Held, Is, IsMost, IsTwin, Longest, Makes, MovesHeld, OneKept}
use Rattle.dw_moves.specs.inner.Walks.{number}
use Rattle.dw_moves.proofs.CaptureBoundLemmas.{path_bound}
use Rattle.dw_moves.proofs.GroundLemmas.{side_fits}
use Rattle.dw_moves.proofs.LegalMoveLemmas.{legal_best}
use Rattle.dw_moves.proofs.SquareSetLemmas.{len_list}
use Rattle.dw_moves.proofs.AddingLemmas.{AreQuiet, are_quiet, move_to}

-- a path that takes something is a capture
abbrev capture_on : ℕ → List ℕ → List ℕ → Listed
capture_on from ts cs =
    record { step = record { from = from; to = last_of from ts; taken = fin.from_list cs }; path = from ∷ ts }

pub captured : (g : Geometry) (p : Placement) (from : ℕ) (ts cs : List ℕ) → Path g p from ts cs → 0 < length cs
    → (l : Listed) × Captures g p l × (number l ≡ length cs)
captured g p from ts cs path some =
    let count = len_list cs path.once in (
      capture_on from ts cs,
      record {
        landings = ts;
        some = omega (arith, count);
        leads = record { over = cs; path = path; count = sym count; ends = refl; takes = refl };
        path = refl;
      },
      count,
    )

-- the number reached is the greatest
pub best_of : (g : Geometry) (p : Placement) (k : ℕ) → IsMost (Captures g p) k → IsBest g p k
best_of g p k h = record {
  reached = λ some. elim h.reached [
    | inl none ↦ absurd (omega arith)
    | inr r ↦ let is = r.1.leads in (r.0.step.from, r.1.landings, is.over, is.path, is.count ∙ r.2)
  ];
  most = λ from ts cs path. elim (cases_lt 0 (length cs)) [
    | inl some ↦
        let c = captured g p from ts cs path some in
        omega (arith, h.most c.0 c.1, c.2)
    | inr none ↦ omega arith
  ];
}

-- it is at most twenty
pub best_small : (g : Geometry) → IsBoard g → (p : Placement) (k : ℕ) → IsPosition g p.cells → IsBest g p k → k ≤ 20
best_small g board p k pos best = elim (cases_lt 0 k) [
  | inl some ↦ let r = best.reached some in
      omega (arith, path_bound g p r.0 r.1 r.2 r.3, r.4, side_fits g p (other p.turn) pos, board.side_high)
  | inr none ↦ omega arith
]

empty_list : (ms : List Move) → ((m : Move) → Member m ms → ⊥) → ms ≡ []
empty_list [] h = refl
empty_list (m ∷ ms) h = absurd (h m (inl refl))

none_kept : (g : Geometry) (p : Placement) (kept : List Move) → MovesHeld (Captures g p) 0 kept → kept ≡ []
none_kept g p kept h = empty_list kept (λ m x. let c = (h.kept.exactly m).0 x in omega (arith, c.1.some, c.2))

pub quiet_from_legal : (g : Geometry) (p : Placement) (m : Move) → IsBest g p 0 → Legal g p m → Quiet g p m.from m.to
    × (m.taken ≡ fin.empty)
quiet_from_legal g p m best l = legal_best g p 0 m best l

-- nothing can be taken, and the quiet moves were added
pub legal_quietly : (g : Geometry) (p : Placement) (k : ℕ) (kept now : List Move) → k ≡ 0
    → MovesHeld (Captures g p) k kept → Adds quiet_to (Quiet g p) kept now → AreLegal g p now
legal_quietly g p k kept now none h added =
    let zero_kept : MovesHeld (Captures g p) 0 kept = subst (λ z. MovesHeld (Captures g p) z kept) none h in
    let best : IsBest g p 0 = best_of g p 0 zero_kept.most in
    let all : now ≡ map move_to added.pairs = added.are ∙ ap (λ z. z ++ map move_to added.pairs)
    (none_kept g p kept zero_kept) in
    let quiet : AreQuiet g p now = subst (AreQuiet g p) (sym all) (are_quiet g p added.pairs added.those) in
    record {
      exactly = λ m. (
        (λ x. (0, best, (quiet.exactly m).0 x)),
        (λ l. (quiet.exactly m).1 (quiet_from_legal g p m best l)),
      );
      once = quiet.once;
    }

-- m is a legal move by this path, if the greatest number is above 0
pub legal_path : (g : Geometry) (p : Placement) (k : ℕ) (m : Move) → 0 < k → IsBest g p k → Legal g p m
    → (landings : List ℕ) × IsPathOf g p m k landings
legal_path g p zero m some best l = absurd (omega arith)
legal_path g p (suc k) m some best l = legal_best g p (suc k) m best l

pub path_takes : (g : Geometry) (p : Placement) (k : ℕ) (m : Move) (landings : List ℕ) → IsPathOf g p m k landings
    → fin.len m.taken ≡ k
path_takes g p k m landings is = ap fin.len is.takes ∙ (len_list is.over is.path.once ∙ is.count)

-- a path that takes the greatest number is a capture that does
pub path_captures : (g : Geometry) (p : Placement) (k : ℕ) (m : Move) (landings : List ℕ) → 0 < k
    → IsPathOf g p m k landings → Longest (Captures g p) k (Is (record { step = m; path = m.from ∷ landings }))
path_captures g p k m landings some is =
    let count : fin.len m.taken ≡ k = path_takes g p k m landings is in (
      record { step = m; path = m.from ∷ landings },
      record {
        landings = landings;
        some = omega (arith, count);
        leads = subst (λ z. IsPathOf g p m z landings) (sym count) is;
        path = refl;
      },
      count,
      refl,
    )

pub capture_from_legal : (g : Geometry) (p : Placement) (k : ℕ) (m : Move) → 0 < k → IsBest g p k → Legal g p m
    → Longest (Captures g p) k (Makes m)
capture_from_legal g p k m some best l =
    let way = legal_path g p k m some best l in
    let c = path_captures g p k m way.0 some way.1 in
    (c.0, c.1, c.2, ap (λ (z : Listed). z.step) c.3)

pub legal_from_capture : (g : Geometry) (p : Placement) (k : ℕ) (m : Move) → IsBest g p k
    → Longest (Captures g p) k (Makes m) → Legal g p m
legal_from_capture g p k m best h = by_number k best (subst (λ z. (0 < z) × ((landings : List ℕ)
    × IsPathOf g p m z landings)) h.2 (
      h.1.some,
      subst (λ z. (landings : List ℕ) × IsPathOf g p z (number h.0) landings)
          h.3 (h.1.landings, h.1.leads),
    )) where
      by_number : (k : ℕ) → IsBest g p k → (0 < k) × ((landings : List ℕ) × IsPathOf g p m k landings) → Legal g p m
      by_number zero best f = absurd (omega (arith, f.0))
      by_number (suc k) best f = (suc k, best, f.1)

-- something can be taken
pub legal_captures : (g : Geometry) (p : Placement) (k : ℕ) (kept : List Move) → 0 < k
    → MovesHeld (Captures g p) k kept → AreLegal g p kept
legal_captures g p k kept some h =
    let best : IsBest g p k = best_of g p k h.most in
    record {
      exactly = λ m. (
        (λ x. legal_from_capture g p k m best ((h.kept.exactly m).0 x)),
        (λ l. (h.kept.exactly m).1 (capture_from_legal g p k m some best l)),
      );
      once = h.kept.once;
    }

-- a legal move takes the greatest number
pub legal_count : (g : Geometry) (p : Placement) (k : ℕ) (m : Move) → IsBest g p k → Legal g p m → fin.len m.taken ≡ k
legal_count g p k m best l = count k (legal_best g p k m best l) where
  count : (k : ℕ) → LegalAt g p k m → fin.len m.taken ≡ k
  count zero h = ap fin.len h.1 ∙ fin.len-empty nat_cmp
  count (suc k) h = path_takes g p (suc k) m h.0 h.1

-- nothing is taken where nothing can be
pub best_none : (g : Geometry) (p : Placement) → (CanCapture g p → ⊥) → IsBest g p 0
best_none g p none = record {
  reached = λ some. absurd (omega arith);
  most = λ from ts cs path. elim (cases_lt 0 (length cs)) [
    | inl some ↦ absurd (none (from, ts, cs, path, some))
    | inr few ↦ few
  ];
}

-- a quiet move is legal if nothing can be taken
pub legal_if_quiet : (g : Geometry) (p : Placement) (m : Move) → fin.len m.taken ≡ 0
    → (Quiet g p m.from m.to × (CanCapture g p → ⊥)) ↔ Legal g p m
legal_if_quiet g p m none = (
  (λ h. (0, best_none g p h.1, (h.0, fin.empty_of_len m.taken none))),
  (λ l.
      let zero : l.0 ≡ 0 = sym (legal_count g p l.0 m l.1 l) ∙ none in
      let best : IsBest g p 0 = subst (IsBest g p) zero l.1 in
      ((quiet_from_legal g p m best l).0, λ can. omega (arith, can.4, best.most can.0 can.1 can.2 can.3))),
)

-- a capture is legal if it is among those that take the greatest number
pub legal_if_sought : {g : Geometry} {p : Placement} {k : ℕ} {m : Move} {found : Option Move}
    → Held (Captures g p) k (OneKept (Captures g p) (Makes m) k found) → (fin.len m.taken ≡ 0 → ⊥)
    → IsSome found ↔ Legal g p m
legal_if_sought {g} {p} {k} {m} {found} h takes = (
  (λ some. legal_from_capture g p k m best (one_of found h.kept.is some)),
  (λ l.
      let count : fin.len m.taken ≡ k = legal_count g p k m best l in
      h.kept.some (capture_from_legal g p k m (above k (λ e. takes (count ∙ e))) best l)),
) where
  best : IsBest g p k
  best = best_of g p k h.most

  above : (n : ℕ) → (n ≡ 0 → ⊥) → 0 < n
  above n h = omega arith

  one_of : (o : Option Move) → ((n : Move) → o ≡ Some n
      → Longest (Captures g p) k (λ l. Makes n l × Makes m l)) → IsSome o → Longest (Captures g p) k (Makes m)
  one_of None is some = cc
  one_of (Some n) is some = let c = is n refl in (c.0, c.1, c.2, c.3.1)

-- one that shares the ends of a move is among them if there is one
pub shares_if_sought : {g : Geometry} {p : Placement} {k : ℕ} {m : Move} {found : Option Move}
    → Held (Captures g p) k (OneKept (Captures g p) (IsTwin m) k found) → IsSome found ↔ SharesEnds g p m
shares_if_sought {g} {p} {k} {m} {found} h = (
  (λ some. let c = one_of found h.kept.is some in
      (c.0.step, legal_from_capture g p k c.0.step best (c.0, c.1, c.2, refl), c.1.some, c.3.0, c.3.1, c.3.2)),
  (λ l.
      let takes : 0 < k = omega (arith, l.2, legal_count g p k l.0 best l.1) in
      let c = capture_from_legal g p k l.0 takes best l.1 in
      let twin : IsTwin m (record { step = l.0; path = c.0.path }) = (l.3, l.4, l.5) in
      h.kept.some (c.0, c.1, c.2, subst (λ z. IsTwin m (record { step = z; path = c.0.path })) (sym c.3) twin)),
) where
  best : IsBest g p k
  best = best_of g p k h.most

  one_of : (o : Option Move) → ((n : Move) → o ≡ Some n
      → Longest (Captures g p) k (λ l. Makes n l × IsTwin m l)) → IsSome o → Longest (Captures g p) k (IsTwin m)
  one_of None is some = cc
  one_of (Some n) is some = let c = is n refl in (c.0, c.1, c.2, c.3.1)

-- the squares on which those of the greatest number end are those on which a legal capture ends
pub ends_legal : (g : Geometry) (p : Placement) (k : ℕ) (ends : Squares)
    → Held (Captures g p) k (EndsKept (Captures g p) k ends) → AreEnds g p ends
ends_legal g p k ends h s =
    let best : IsBest g p k = best_of g p k h.most in (
      (λ x.
          let c = (h.kept.exactly s).0 x in
          (c.0.step, legal_from_capture g p k c.0.step best (c.0, c.1, c.2, refl), c.1.some, c.3)),
      (λ l.
          let takes : 0 < k = omega (arith, l.2, legal_count g p k l.0 best l.1) in
          let c = capture_from_legal g p k l.0 takes best l.1 in
          (h.kept.exactly s).1 (c.0, c.1, c.2, ap (λ (m : Move). m.to) c.3 ∙ l.3)),
    )
