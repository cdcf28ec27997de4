-- How the quiet moves are added to a list: those of men direction by direction, those of kings square by square.
use Rattle.std.proofs.Common.{◌≡◌, ℕ, List, [], ◌∷◌, ◌++◌, map, refl, sym, ap, ◌∙◌, subst, ◌⊎◌, inl, inr, ◌↔◌, Bool}
use Rattle.std.proofs.Common.{true, false, Option, Some, None, append-nil}
use Rattle.std.proofs.lemmas.Bool.{true≢false}
use Rattle.std.specs.FinSet as fin
use Rattle.std.specs.Ordering.{nat_cmp}
use Rattle.dw_board.specs.declared.board.Dir.{Dir}
use Rattle.dw_board.specs.declared.board.Dir.TheVariants.{UpLeft, UpRight, DownLeft, DownRight}
use Rattle.dw_board.specs.declared.piece.Side.{Side}
use Rattle.dw_board.specs.declared.piece.Kind.TheVariants.{Man, King}
use Rattle.dw_board.specs.declared.piece.Piece.{Piece}
use Rattle.dw_board.specs.Geometry.{Geometry, IsBoard, OnBoard, step, Squares, back}
use Rattle.dw_board.specs.Placement.{Placement, at, is_man}
use Rattle.dw_moves.specs.Moves.{IsForward, Move, Quiet, ray, In}
use Rattle.dw_board.specs.Lists.{Member, NoRepeat}
use Rattle.dw_moves.specs.inner.MoveLemmas.{same_move}
use Rattle.dw_moves.specs.inner.MemberLemmas.{mem_map, mem_map_back}
use Rattle.dw_moves.specs.inner.Plain.{may_go, quiet_for, targets_of, targets, quiet_to, Adds, AreThose, ManSteps}
use Rattle.dw_moves.specs.inner.Plain.{KingGoes}
use Rattle.dw_moves.proofs.ExactLemmas.{option_cases, same_side_refl}
use Rattle.dw_moves.proofs.StepLemmas.{none_some, some_inj, step_is}
use Rattle.dw_moves.proofs.StepBackLemmas.{step_back}
use Rattle.dw_moves.proofs.RayLemmas.{Toward, ray_some, ray_toward, one_dir}
use Rattle.dw_moves.proofs.JumpStepLemmas.{added_both, added_four}
use Rattle.dw_moves.proofs.LegalMoveLemmas.{may_from, may_in, target_from, target_in}
use Rattle.dw_moves.proofs.QuietOnceLemmas.{once_map, quiet_for_once}
use Rattle.dw_moves.proofs.SquareSetLemmas.{in_none, in_minus, in_rest, not_removed, out_of_rest, past_rest}
use Rattle.dw_moves.proofs.GlanceSetLemmas.{AreKind}
use Rattle.dw_moves.proofs.GlanceRunLemmas.{IsShifted}
use Rattle.dw_moves.proofs.SlideLemmas.{ray_head}
use Rattle.dw_moves.proofs.FirstJumpLemmas.{piece_is, kind_cases}
use Rattle.dw_moves.proofs.PairLemmas.{none_are, those_same, those_then, those_four}

map_pair : {X : Type 0} (made : ℕ → ℕ → X) (s : ℕ) (ts : List ℕ) → map (made s) ts
    ≡ map (λ (q : ℕ × ℕ). made q.0 q.1) (map (λ t. (s, t)) ts)
map_pair made s [] = refl
map_pair made s (t ∷ ts) = ap (λ z. made s t ∷ z) (map_pair made s ts)

-- ---- lists to which is added
module _ {X : Type 0} {made : ℕ → ℕ → X} where
  pub adds_none : {P : ℕ → ℕ → Type 0} (old : List X) → ((s t : ℕ) → P s t → ⊥) → Adds made P old old
  adds_none old never = record {
    pairs = [];
    those = none_are never;
    are = sym (append-nil old);
  }

  pub adds_same : {P Q : ℕ → ℕ → Type 0} {old new : List X} → Adds made P old new → ((s t : ℕ) → P s t ↔ Q s t)
      → Adds made Q old new
  adds_same h same = record { pairs = h.pairs; those = those_same h.those same; are = h.are }

  pub adds_then : {P Q : ℕ → ℕ → Type 0} {old now new : List X} → Adds made P old now → Adds made Q now new
      → ((s t : ℕ) → P s t → Q s t → ⊥) → Adds made (λ s t. P s t ⊎ Q s t) old new
  adds_then {old = old} {now = now} {new = new} a b apart = record {
    pairs = a.pairs ++ b.pairs;
    those = those_then a.those b.those apart;
    are = added_both (λ (q : ℕ × ℕ). made q.0 q.1) a.pairs b.pairs old now new a.are b.are;
  }

  -- the moves from one square
  adds_from : (from : ℕ) (ts : List ℕ) {old new : List X} → NoRepeat ts → new ≡ old ++ map (made from) ts
      → Adds made (λ s t. (s ≡ from) × Member t ts) old new
  adds_from from ts {old} once is = record {
    pairs = map (λ t. (from, t)) ts;
    those = record {
      exactly = λ s t. (
        (λ m. let r = mem_map_back (λ t. (from, t)) (s, t) ts m in (
          ap (λ (q : ℕ × ℕ). q.0) r.2,
          subst (λ z. Member z ts) (sym (ap (λ (q : ℕ × ℕ). q.1) r.2)) r.1,
        )),
        (λ h. subst (λ z. Member {X = ℕ × ℕ} (z, t) (map (λ t. (from, t)) ts)) (sym h.0)
            (mem_map (λ t. (from, t)) t ts h.1)),
      );
      once = once_map (λ t. (from, t)) (λ x y e. ap (λ (q : ℕ × ℕ). q.1) e) ts once;
    };
    are = is ∙ ap (λ z. old ++ z) (map_pair made from ts);
  }

  adds_four : (P : Dir → ℕ → ℕ → Type 0) → ((d e : Dir) (s t : ℕ) → P d s t → P e s t → d ≡ e)
      → {m0 m1 m2 m3 m4 : List X} → Adds made (P UpLeft) m0 m1 → Adds made (P UpRight) m1 m2
      → Adds made (P DownLeft) m2 m3 → Adds made (P DownRight) m3 m4 → Adds made (λ s t. (d : Dir) × P d s t) m0 m4
  adds_four P tell {m0} {m1} {m2} {m3} {m4} a b c d = record {
    pairs = a.pairs ++ (b.pairs ++ (c.pairs ++ (d.pairs ++ [])));
    those = those_four P tell a.those b.those c.those d.those;
    are = added_four (λ (q : ℕ × ℕ). made q.0 q.1) a.pairs b.pairs c.pairs d.pairs m0 m1 m2 m3 m4 a.are b.are c.are
        d.are;
  }

-- P holds, and one of the two squares is none of those still to come
abbrev pub Past : (ℕ → ℕ → ℕ) → Squares → (ℕ → ℕ → Type 0) → ℕ → ℕ → Type 0
Past x left P s t = (fin.contains left (x s t) ≡ false) × P s t

module _ {X : Type 0} {made : ℕ → ℕ → X} (x : ℕ → ℕ → ℕ) (P : ℕ → ℕ → Type 0) (left : Squares) where
  past_none : (old : List X) → ((s t : ℕ) → P s t → In (x s t) left) → Adds made (Past x left P) old old
  past_none old all = adds_none old (λ s t h. true≢false (sym (all s t h.1) ∙ h.0))

  past_more : {old now new : List X} (rest : Squares) (k : ℕ) → In k left → rest ≡ fin.remove left k
      → Adds made (Past x left P) old now → Adds made (λ s t. (x s t ≡ k) × P s t) now new
      → Adds made (Past x rest P) old new
  past_more {old} {now} {new} rest k there rest_is h here =
      let both : Adds made (λ s t. Past x left P s t ⊎ ((x s t ≡ k) × P s t)) old new = adds_then h here
      (λ s t out q. true≢false (sym there ∙ (ap (fin.contains left) (sym q.0) ∙ out.0))) in
      subst (λ v. Adds made (Past x v P) old new) (sym rest_is) (adds_same both (λ s t. (
        (λ y. elim y [
          | inl before ↦ (out_of_rest left k (x s t) before.0, before.1)
          | inr q ↦ (ap (fin.contains (fin.remove left k)) q.0 ∙ not_removed left k, q.1)
        ]),
        (λ q. elim (past_rest left k (x s t) q.0) [ inl same ↦ inr (same, q.1) | inr before ↦ inl (before, q.1) ]),
      )))

  past_all : {old now : List X} → left ≡ fin.empty → Adds made (Past x left P) old now → Adds made P old now
  past_all none h = adds_same h (λ s t. (
    (λ y. y.1),
    (λ q. (ap (λ v. fin.contains v (x s t)) none ∙ fin.contains-empty nat_cmp (x s t), q)),
  ))

-- ---- steps of men
-- the square that a pair begins on, or leads to
abbrev pub start : ℕ → ℕ → ℕ
start s t = s

abbrev pub end : ℕ → ℕ → ℕ
end s t = t

-- the squares still to come are reached, and the steps onto the others were added
pub record Stepping {X : Type 0} (made : ℕ → ℕ → X) (g : Geometry) (p : Placement) (d : Dir) (left : Squares)
    (old now : List X) : Type 0 where
  pub reached : (t : ℕ) → In t left → (s : ℕ) × ManSteps g p d s t
  pub added : Adds made (Past end left (ManSteps g p d)) old now

module _ {X : Type 0} {made : ℕ → ℕ → X} {g : Geometry} (b : IsBoard g) {p : Placement} {d : Dir} {left : Squares}
    {old : List X} where
  pub stepping_none : ((t : ℕ) → In t left ↔ ((s : ℕ) × ManSteps g p d s t)) → Stepping made g p d left old old
  stepping_none are = record {
    reached = λ t. (are t).0;
    added = past_none end (ManSteps g p d) left old (λ s t h. (are t).1 (s, h));
  }

  -- each step can be taken back
  pub stepping_back : {now : List X} {e : Dir} (to : ℕ) → e ≡ back d → In to left → Stepping made g p d left old now
      → step g to e ≡ None → ⊥
  stepping_back {e = e} to e_is there h none =
      let r = h.reached to there in
      none_some r.0 (sym none ∙ (ap (step g to) e_is ∙ step_back g b r.0 to d r.1.on r.1.steps))

  pub stepping_more : {now new : List X} {e : Dir} {rest : Squares} (from to : ℕ) → e ≡ back d → In to left
      → rest ≡ fin.remove left to → step g to e ≡ Some from → Stepping made g p d left old now
      → new ≡ now ++ made from to ∷ [] → Stepping made g p d rest old new
  stepping_more {now} {new} {e} {rest} from to e_is there rest_is leads h new_is =
      let one : (s : ℕ) → ManSteps g p d s to → s ≡ from = λ s m. some_inj (sym (step_back g b s to d m.on m.steps)
      ∙ (ap (step g to) (sym e_is) ∙ leads)) in
      let r = h.reached to there in
      let here : ManSteps g p d from to = subst (λ z. ManSteps g p d z to) (one r.0 r.1) r.1 in
      let last : Adds made (λ s t. (s ≡ from) × Member t (to ∷ [])) now new =
      adds_from from (to ∷ []) ((λ m. m), tt) new_is in
      record {
        reached = λ t m. h.reached t ((in_rest left to rest t rest_is).0 m).0;
        added = past_more end (ManSteps g p d) left rest to there rest_is h.added (adds_same last (λ s t. (
          (λ q. elim q.1 [
            | inl same ↦ (
              same,
              subst (λ z. ManSteps g p d z t) (sym q.0) (subst (ManSteps g p d from) (sym same) here),
            )
            | inr none ↦ absurd none
          ]),
          (λ q. (one s (subst (ManSteps g p d s) q.0 q.1), inl q.0)),
        )));
      }

  pub stepping_all : {now : List X} → left ≡ fin.empty → Stepping made g p d left old now
      → Adds made (ManSteps g p d) old now
  stepping_all none h = past_all end (ManSteps g p d) left none h.added

-- the squares that men reach
pub reach_is : (g : Geometry) → IsBoard g
    → (p : Placement) (d : Dir) (side : Side) (may : Bool) (men next occupied v : Squares) → side ≡ p.turn
    → may ≡ may_go Man side d → may ≡ true → AreKind g p side Man men → IsShifted g men d next
    → ((s : ℕ) → In s occupied ↔ (OnBoard g s × ((q : Piece) × (at p s ≡ Some q)))) → v ≡ fin.difference next occupied
    → (t : ℕ) → In t v ↔ ((s : ℕ) × ManSteps g p d s t)
reach_is g b p d side may men next occupied v side_is may_is may_true men_are shifted all v_is t = (
  (λ h.
      let out = (in_minus next occupied v t v_is).0 h in
      let from = (shifted t).0 out.0 in
      let stands = (men_are from.0).0 from.1.0 in
      let on : OnBoard g t = (step_is g b from.0 t d stands.0 from.1.1).on in (
        from.0,
        record {
          on = stands.0;
          there = stands.1 ∙ ap (λ z. Some (record { side = z; kind = Man })) side_is;
          ahead = subst (λ z. IsForward z d) side_is (may_from Man side d (sym may_is ∙ may_true) refl);
          steps = from.1.1;
          free = elim (option_cases (at p t)) [ inl none ↦ none | inr q ↦ absurd (out.1 ((all t).1 (on, q))) ];
        },
      )),
  (λ h.
      let m = h.1 in
      let stands : at p h.0 ≡ Some (record { side = side; kind = Man }) = m.there
      ∙ ap (λ z. Some (record { side = z; kind = Man })) (sym side_is) in
      (in_minus next occupied v t v_is).1 (
        (shifted t).1 (h.0, ((men_are h.0).1 (m.on, stands), m.steps)),
        λ i. let q =
            ((all t).0 i).1 in none_some q.0 (sym m.free ∙ q.1),
      )),
)

pub no_reach : (g : Geometry) (p : Placement) (d : Dir) (side : Side) (may : Bool) (v : Squares) → side ≡ p.turn
    → may ≡ may_go Man side d → may ≡ false → v ≡ fin.empty → (t : ℕ) → In t v ↔ ((s : ℕ) × ManSteps g p d s t)
no_reach g p d side may v side_is may_is not v_is t = (
  (λ h. absurd (in_none v t v_is h)),
  (λ h. absurd (true≢false (sym (may_in Man side d (λ _. subst (λ z. IsForward z d) (sym side_is) h.1.ahead))
      ∙ (sym may_is ∙ not)))),
)

-- ---- moves of kings
-- the kings still to come stand there, and the moves of the others were added
pub record Going {X : Type 0} (made : ℕ → ℕ → X) (g : Geometry) (p : Placement) (left : Squares) (old now : List X) :
    Type 0 where
  pub stand : (s : ℕ) → In s left → OnBoard g s × (at p s ≡ Some (record { side = p.turn; kind = King }))
  pub added : Adds made (Past start left (KingGoes g p)) old now

module _ {X : Type 0} {made : ℕ → ℕ → X} {g : Geometry} (b : IsBoard g) {p : Placement} {left : Squares}
    {old : List X} where
  pub going_none : AreKind g p p.turn King left → Going made g p left old old
  going_none are = record {
    stand = λ s. (are s).0;
    added = past_none start (KingGoes g p) left old (λ s t h. (are s).1 (h.on, h.there));
  }

  pub going_more : {now new : List X} {rest : Squares} (from : ℕ) → In from left → rest ≡ fin.remove left from
      → Going made g p left old now → new ≡ now ++ map (made from) (quiet_for King g p p.turn from)
      → Going made g p rest old new
  going_more {now} {new} {rest} from there rest_is h new_is =
      let ts : List ℕ = quiet_for King g p p.turn from in
      let stands = h.stand from there in
      let last : Adds made (λ s t. (s ≡ from) × Member t ts) now new =
      adds_from from ts (quiet_for_once King g b p p.turn from stands.0) new_is in
      record {
        stand = λ s m. h.stand s ((in_rest left from rest s rest_is).0 m).0;
        added = past_more start (KingGoes g p) left rest from there rest_is h.added (adds_same last (λ s t. (
          (λ q. (
            q.0,
            subst (λ z. KingGoes g p z t) (sym q.0) (record { on = stands.0; there = stands.1; goes = q.1 }),
          )),
          (λ q. (q.0, (subst (λ z. KingGoes g p z t) q.0 q.1).goes)),
        )));
      }

  pub going_all : {now : List X} → left ≡ fin.empty → Going made g p left old now → Adds made (KingGoes g p) old now
  going_all none h = past_all start (KingGoes g p) left none h.added

-- ---- all quiet moves
man_is_quiet : (g : Geometry) → IsBoard g → (p : Placement) (d : Dir) (s t : ℕ) → ManSteps g p d s t → Quiet g p s t
man_is_quiet g b p d s t h = record {
  piece = record { side = p.turn; kind = Man };
  stands = record { on_board = h.on; there = h.there; own = refl };
  dir = d;
  between = [];
  beyond = ray g t d;
  on_ray = ray_some g b s t d h.on h.steps;
  clear = tt;
  free = h.free;
  man = λ q. (refl, h.ahead);
}

king_targets : (g : Geometry) (p : Placement) (s : ℕ) → at p s ≡ Some (record { side = p.turn; kind = King })
    → targets g p s ≡ quiet_for King g p p.turn s
king_targets g p s there = ap (targets_of g p s) there ∙ rw (same_side_refl p.turn, targets_of) refl

king_is_quiet : (g : Geometry) (p : Placement) (s t : ℕ) → KingGoes g p s t → Quiet g p s t
king_is_quiet g p s t h = target_from g p s t h.on (subst (Member t) (sym (king_targets g p s h.there)) h.goes)

-- a man's step in one of the four directions, or a king's move
abbrev pub Either : Geometry → Placement → ℕ → ℕ → Type 0
Either g p s t = ((d : Dir) × ManSteps g p d s t) ⊎ KingGoes g p s t

quiet_either : (g : Geometry) → IsBoard g → (p : Placement) (s t : ℕ) → Quiet g p s t → Either g p s t
quiet_either g b p s t q = elim (kind_cases q.piece.kind) [
  | inl man ↦
      let next : ray g s q.dir ≡ t ∷ q.beyond = q.on_ray ∙ ap (λ z. z ++ t ∷ q.beyond) (q.man man).0 in
      inl (
        q.dir,
        record {
          on = q.stands.on_board;
          there = q.stands.there ∙ ap Some (piece_is q.piece p.turn Man q.stands.own man);
          ahead = (q.man man).1;
          steps = (ray_head g b s t q.beyond q.dir q.stands.on_board next).0;
          free = q.free;
        },
      )
  | inr king ↦
      let there : at p s ≡ Some (record { side = p.turn; kind = King }) = q.stands.there
      ∙ ap Some (piece_is q.piece p.turn King q.stands.own king) in
      inr (record {
        on = q.stands.on_board;
        there = there;
        goes = subst (Member t) (king_targets g p s there) (target_in g p s t q);
      })
]

pub either_is : (g : Geometry) → IsBoard g → (p : Placement) (s t : ℕ) → Either g p s t ↔ Quiet g p s t
either_is g b p s t = (
  (λ x. elim x [ inl m ↦ man_is_quiet g b p m.0 s t m.1 | inr k ↦ king_is_quiet g p s t k ]),
  quiet_either g b p s t,
)

-- a step has one direction
pub one_step : (g : Geometry) → IsBoard g → (p : Placement) (d e : Dir) (s t : ℕ) → ManSteps g p d s t
    → ManSteps g p e s t → d ≡ e
one_step g b p d e s t h k = one_dir g s t d e (toward d h) (toward e k) where
  toward : (d : Dir) → ManSteps g p d s t → Toward g d s t
  toward d h = ray_toward g b d s t h.on (subst (Member t) (sym (ray_some g b s t d h.on h.steps)) (inl refl))

-- no man is a king
pub not_king : (g : Geometry) (p : Placement) (s t : ℕ) → (d : Dir) × ManSteps g p d s t → KingGoes g p s t → ⊥
not_king g p s t h k = true≢false (ap man_at (sym h.1.there ∙ k.there)) where
  man_at : Option Piece → Bool
  man_at None = false
  man_at (Some q) = is_man q.kind

pub all_quiet : {X : Type 0} {made : ℕ → ℕ → X} (g : Geometry) → IsBoard g → (p : Placement)
    {m0 m1 m2 m3 m4 new : List X} → Adds made (ManSteps g p UpLeft) m0 m1 → Adds made (ManSteps g p UpRight) m1 m2
    → Adds made (ManSteps g p DownLeft) m2 m3 → Adds made (ManSteps g p DownRight) m3 m4
    → Adds made (KingGoes g p) m4 new → Adds made (Quiet g p) m0 new
all_quiet g b p h1 h2 h3 h4 kings =
    adds_same (adds_then (adds_four (ManSteps g p) (one_step g b p) h1 h2 h3 h4) kings (not_king g p)) (either_is g b p)

-- ---- lists of quiet moves
-- exactly the quiet moves, each once
pub record AreQuiet (g : Geometry) (p : Placement) (moves : List Move) : Type 0 where
  pub exactly : (m : Move) → Member m moves ↔ (Quiet g p m.from m.to × (m.taken ≡ fin.empty))
  pub once : NoRepeat moves

abbrev pub move_to : ℕ × ℕ → Move
move_to q = quiet_to q.0 q.1

pub are_quiet : (g : Geometry) (p : Placement) (pairs : List (ℕ × ℕ)) → AreThose (Quiet g p) pairs
    → AreQuiet g p (map move_to pairs)
are_quiet g p pairs those = record {
  exactly = λ m. (
    (λ x. let r = mem_map_back move_to m pairs x in subst (λ (z : Move). Quiet g p z.from z.to × (z.taken ≡ fin.empty))
        (sym r.2) ((those.exactly r.0.0 r.0.1).0 r.1, refl)),
    (λ h. subst (λ z. Member z (map move_to pairs)) (same_move (move_to (m.from, m.to)) m refl refl (sym h.1))
        (mem_map move_to (m.from, m.to) pairs ((those.exactly m.from m.to).1 h.0))),
  );
  once = once_map move_to (λ x y e. ap (λ (m : Move). (m.from, m.to)) e) pairs those.once;
}
