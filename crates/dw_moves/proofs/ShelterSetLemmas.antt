-- Pieces that are not exposed, and their steps, found on sets of squares.
use Rattle.std.proofs.Common.{◌≡◌, ℕ, refl, sym, ap, ◌∙◌, subst, ◌⊎◌, inl, inr, ◌↔◌, Bool, true, false, not, Some}
use Rattle.std.specs.Prelude.{IsTrue}
use Rattle.std.proofs.lemmas.Bool.{true≢false}
use Rattle.std.specs.FinSet as fin
use Rattle.dw_board.specs.declared.board.Dir.{Dir}
use Rattle.dw_board.specs.declared.board.Dir.TheVariants.{UpLeft, UpRight, DownLeft, DownRight}
use Rattle.dw_board.specs.declared.piece.Side.{Side}
use Rattle.dw_board.specs.Geometry.{Geometry, IsBoard, OnBoard, step, back, Squares}
use Rattle.dw_board.specs.Placement.{Placement, at, is_of, other, same_side}
use Rattle.dw_moves.specs.Moves.{IsForward, CanCapture, In}
use Rattle.dw_moves.specs.Replies.{with_turn, passed, OneStep, TwoSteps, LeadToTwo, IsOpen, IsExposed, SafeStep}
use Rattle.dw_moves.specs.Replies.{HasSureReply}
use Rattle.dw_moves.specs.inner.Glance.{AreSets, StepsFrom, StepsOn, HasTwo}
use Rattle.dw_moves.specs.inner.Shelter.{OpenIn, ExposedIn}
use Rattle.dw_moves.proofs.StepLemmas.{some_inj, step_is}
use Rattle.dw_moves.proofs.StepBackLemmas.{step_back}
use Rattle.dw_moves.proofs.ExactLemmas.{same_side_refl}
use Rattle.dw_moves.proofs.SquareSetLemmas.{in_or, in_and, in_minus}
use Rattle.dw_moves.proofs.StepSetLemmas.{step_of, from_step}

-- the next squares outside, and back
pub open_is : (g : Geometry) → IsBoard g → (pieces shifted next behind : Squares) (d e : Dir)
    → ((s : ℕ) → In s pieces → OnBoard g s) → e ≡ back d
    → ((t : ℕ) → In t shifted ↔ ((s : ℕ) × (In s pieces × (step g s d ≡ Some t))))
    → next ≡ fin.difference shifted pieces
    → ((t : ℕ) → In t behind ↔ ((s : ℕ) × (In s next × (step g s e ≡ Some t))))
    → (s : ℕ) → In s behind ↔ (In s pieces × OpenIn g pieces s d)
open_is g b pieces shifted next behind d e on back_is shifts next_is shifts_back s = (
  (λ h.
      let w = (shifts_back s).0 h in
      let n = (in_minus shifted pieces next w.0 next_is).0 w.1.0 in
      let f = (shifts w.0).0 n.0 in
      let same : f.0 ≡ s = some_inj (sym (step_back g b f.0 w.0 d (on f.0 f.1.0) f.1.1)
      ∙ (ap (step g w.0) (sym back_is) ∙ w.1.1)) in
      (subst (λ z. In z pieces) same f.1.0, (w.0, ap (λ z. step g z d) (sym same) ∙ f.1.1, n.1))),
  (λ h.
      let n : In h.1.0 next = (in_minus shifted pieces next h.1.0 next_is).1 (
        (shifts h.1.0).1 (s, (h.0, h.1.1)),
        h.1.2,
      ) in
      (shifts_back s).1 (h.1.0, (n, ap (step g h.1.0) back_is ∙ step_back g b s h.1.0 d (on s h.0) h.1.1))),
)

pub exposed_is : (g : Geometry) (pieces ul dr falling ur dl rising all : Squares)
    → ((s : ℕ) → In s ul ↔ (In s pieces × OpenIn g pieces s UpLeft))
    → ((s : ℕ) → In s dr ↔ (In s pieces × OpenIn g pieces s DownRight)) → falling ≡ fin.intersection ul dr
    → ((s : ℕ) → In s ur ↔ (In s pieces × OpenIn g pieces s UpRight))
    → ((s : ℕ) → In s dl ↔ (In s pieces × OpenIn g pieces s DownLeft)) → rising ≡ fin.intersection ur dl
    → all ≡ fin.union falling rising
    → (s : ℕ) → In s all ↔ (In s pieces × ExposedIn g pieces s)
exposed_is g pieces ul dr falling ur dl rising all ul_is dr_is falling_is ur_is dl_is rising_is all_is s = (
  (λ h. elim ((in_or falling rising all s all_is).0 h) [
    | inl f ↦ let w = (in_and ul dr falling s falling_is).0 f in let a = (ul_is s).0 w.0 in
        (a.0, (UpLeft, a.1, ((dr_is s).0 w.1).1))
    | inr r ↦ let w = (in_and ur dl rising s rising_is).0 r in let a = (ur_is s).0 w.0 in
        (a.0, (UpRight, a.1, ((dl_is s).0 w.1).1))
  ]),
  (λ h. by_dir h.1.0 h.0 h.1.1 h.1.2),
) where
  falls : In s pieces → OpenIn g pieces s UpLeft → OpenIn g pieces s DownRight → In s all
  falls i a c = (in_or falling rising all s all_is).1
      (inl ((in_and ul dr falling s falling_is).1 ((ul_is s).1 (i, a), (dr_is s).1 (i, c))))

  rises : In s pieces → OpenIn g pieces s UpRight → OpenIn g pieces s DownLeft → In s all
  rises i a c = (in_or falling rising all s all_is).1
      (inr ((in_and ur dl rising s rising_is).1 ((ur_is s).1 (i, a), (dl_is s).1 (i, c))))

  by_dir : (d : Dir) → In s pieces → OpenIn g pieces s d → OpenIn g pieces s (back d) → In s all
  by_dir UpLeft i a c = falls i a c
  by_dir DownRight i a c = falls i c a
  by_dir UpRight i a c = rises i a c
  by_dir DownLeft i a c = rises i c a

-- the same of a side's pieces on the board
abbrev AreAllOf : Geometry → Placement → Side → Squares → Type 0
AreAllOf g p side v = (s : ℕ) → In s v ↔ (OnBoard g s × IsTrue (is_of side (at p s)))

open_there : (g : Geometry) → IsBoard g → (p : Placement) (side : Side) (v : Squares) → AreAllOf g p side v
    → (s : ℕ) (d : Dir) → OnBoard g s → OpenIn g v s d ↔ IsOpen g p side s d
open_there g b p side v are s d on = (
  (λ h. (h.0, h.1, λ e. h.2 ((are h.0).1 ((step_is g b s h.0 d on h.1).on, e)))),
  (λ h. (h.0, h.1, λ i. h.2 ((are h.0).0 i).1)),
)

exposed_there : (g : Geometry) → IsBoard g → (p : Placement) (side : Side) (v : Squares) → AreAllOf g p side v → (s : ℕ)
    → OnBoard g s → ExposedIn g v s ↔ IsExposed g p side s
exposed_there g b p side v are s on = (
  (λ h. (h.0, (open_there g b p side v are s h.0 on).0 h.1, (open_there g b p side v are s (back h.0) on).0 h.2)),
  (λ h. (h.0, (open_there g b p side v are s h.0 on).1 h.1, (open_there g b p side v are s (back h.0) on).1 h.2)),
)

module _ (g : Geometry) (b : IsBoard g) (p : Placement) (men kings enemies occupied : Squares)
    (sets : AreSets g p men kings enemies occupied)
    (own out men_left kings_left : Squares) (own_are : AreAllOf g p p.turn own) (out_is : (s : ℕ) → In s out
    ↔ (In s own × ExposedIn g own s))
    (men_is : men_left ≡ fin.difference men out) (kings_is : kings_left ≡ fin.difference kings out) where
  standing : (s t : ℕ) → OneStep g p s t → In s own
  standing s t q = (own_are s).1 (
    q.stands.on_board,
    ap (is_of p.turn) q.stands.there ∙ (ap (λ z. same_side z p.turn) q.stands.own ∙ same_side_refl p.turn),
  )

  -- a step by a piece that is left is one by a piece that is not exposed
  left_step : (d : Dir) (s t : ℕ) → StepsFrom g p.turn men_left kings_left occupied d s t → OneStep g p s t
      × (IsExposed g p p.turn s → ⊥)
  left_step d s t h =
      let parts : ((In s men × IsForward p.turn d) ⊎ In s kings) × (In s out → ⊥) = (elim h.0 [
        | inl m ↦ let w = (in_minus men out men_left s men_is).0 m.0 in (inl (w.0, m.1), w.1)
        | inr k ↦ let w = (in_minus kings out kings_left s kings_is).0 k in (inr w.0, w.1)
      ]) in
      let q : OneStep g p s t = step_of b sets d s t (parts.0, h.1, h.2) in (
        q,
        λ e. parts.1 ((out_is s).1 (
          standing s t q,
          (exposed_there g b p p.turn own own_are s q.stands.on_board).1 e,
        )),
      )

  step_left : (s t : ℕ) → OneStep g p s t → (IsExposed g p p.turn s → ⊥) → (d : Dir)
      × StepsOn g p.turn men_left kings_left occupied d t
  step_left s t q safe =
      let h = from_step b sets s t q in
      let not_out : In s out → ⊥ = λ i. safe ((exposed_there g b p p.turn own own_are s q.stands.on_board).0
      ((out_is s).0 i).1) in
      let mover : (In s men_left × IsForward p.turn q.dir) ⊎ In s kings_left = elim h.0 [
        | inl m ↦ inl ((in_minus men out men_left s men_is).1 (m.0, not_out), m.1)
        | inr k ↦ inr ((in_minus kings out kings_left s kings_is).1 (k, not_out))
      ] in
      (q.dir, (s, mover, h.1, h.2))

  pub left_steps : (all : Squares)
      → ((t : ℕ) → In t all ↔ ((d : Dir) × StepsOn g p.turn men_left kings_left occupied d t)) → (t : ℕ) → In t all
      ↔ ((s : ℕ) × (OneStep g p s t × (IsExposed g p p.turn s → ⊥)))
  left_steps all are t = (
    (λ h. let w = (are t).0 h in (w.1.0, left_step w.0 w.1.0 t (w.1.1, w.1.2, w.1.3))),
    (λ h. (are t).1 (step_left h.0 t h.1.0 h.1.1)),
  )

pub safe_steps_are : (g : Geometry) → IsBoard g → (p : Placement) (side : Side) (men kings enemies occupied : Squares)
    → AreSets g (with_turn p side) men kings enemies occupied → side ≡ other p.turn
    → (own out men_left kings_left : Squares) → AreAllOf g p side own
    → ((s : ℕ) → In s out ↔ (In s own × ExposedIn g own s)) → men_left ≡ fin.difference men out
    → kings_left ≡ fin.difference kings out
    → (all : Squares) → ((t : ℕ) → In t all ↔ ((d : Dir) × StepsOn g side men_left kings_left occupied d t)) → (t : ℕ)
    → In t all ↔ ((s : ℕ) × SafeStep g p s t)
safe_steps_are g b p side men kings enemies occupied sets side_is own out men_left kings_left own_are out_is men_is
    kings_is all are t =
    subst (λ z. In t all ↔ ((s : ℕ) × (OneStep g (with_turn p z) s t × (IsExposed g p z s → ⊥)))) side_is
    (left_steps g b (with_turn p side) men kings enemies occupied sets own out men_left kings_left own_are out_is men_is
    kings_is all are t)

-- A SURE REPLY

pub two_lead : {Leads : ℕ → ℕ → Type 0} → (steps : Squares) → ((t : ℕ) → In t steps ↔ ((s : ℕ) × Leads s t))
    → HasTwo steps ↔ LeadToTwo Leads
two_lead steps are = (
  (λ h.
      let a = (are h.0).0 h.2 in
      let c = (are h.1).0 h.3 in
      record { from = a.0; to = h.0; one = a.1; from_too = c.0; to_too = h.1; two = c.1; apart = h.4 }),
  (λ h. (h.to, h.to_too, (are h.to).1 (h.from, h.one), (are h.to_too).1 (h.from_too, h.two), h.apart)),
)

module _ (g : Geometry) (p : Placement) (steps : Squares) (two : Bool)
    (are : (t : ℕ) → In t steps ↔ ((s : ℕ) × OneStep g (passed p) s t)) (has : IsTrue two ↔ HasTwo steps) where
  enough : two ≡ false → TwoSteps g (passed p) → ⊥
  enough few steps_too = true≢false (sym (has.1 ((two_lead steps are).1 steps_too)) ∙ few)

  -- without two steps no reply is sure
  pub few_steps : two ≡ false → HasSureReply g p → ⊥
  few_steps few (inl loose) = enough few loose.1
  few_steps few (inr safe) = enough few (record {
    from = safe.from;
    to = safe.to;
    one = safe.one.0;
    from_too = safe.from_too;
    to_too = safe.to_too;
    two = safe.two.0;
    apart = safe.apart;
  })

  -- with two steps, but none by pieces that are not exposed, all depends on whether anything can be taken
  pub loose_steps : (takes : Bool) → IsTrue takes ↔ CanCapture g p → two ≡ true → (LeadToTwo (SafeStep g p) → ⊥)
      → IsTrue (not takes) ↔ HasSureReply g p
  loose_steps true can some none = (
    (λ yes. absurd (true≢false (sym yes))),
    (λ h. elim h [ inl loose ↦ absurd (loose.0 (can.0 refl)) | inr safe ↦ absurd (none safe) ]),
  )
  loose_steps false can some none = (
    (λ yes. inl ((λ k. true≢false (sym (can.1 k))), (two_lead steps are).0 (has.0 some))),
    (λ h. refl),
  )
