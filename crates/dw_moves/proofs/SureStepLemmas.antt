-- Steps of one square after which a reply is sure, looked for direction by direction.
use Rattle.std.proofs.Common.{◌≡◌, ℕ, zero, suc, refl, sym, ◌∙◌, subst, inl, inr, arith, Some, None, ◌↔◌}
use Rattle.std.proofs.lemmas.Bool.{cases_eq}
use Rattle.std.specs.FinSet as fin
use Rattle.dw_board.specs.declared.board.Dir.{Dir}
use Rattle.dw_board.specs.declared.board.Dir.TheVariants.{UpLeft, UpRight, DownLeft, DownRight}
use Rattle.dw_board.specs.Geometry.{Geometry, IsBoard, step, Squares, back}
use Rattle.dw_board.specs.Placement.{Placement}
use Rattle.dw_moves.specs.Moves.{CanCapture, IsBest, Legal, Move, play, In}
use Rattle.dw_moves.specs.inner.Plain.{quiet_to}
use Rattle.dw_moves.specs.inner.Glance.{AreSets, StepsFrom, StepsOn, NoneSure}
use Rattle.dw_moves.specs.Replies.{OneStep, HasSureReply, IsSureStep}
use Rattle.dw_moves.proofs.PlainLemmas.{best}
use Rattle.dw_moves.proofs.LegalMoveLemmas.{is_best}
use Rattle.dw_moves.proofs.ReplyLemmas.{step_quiet}
use Rattle.dw_moves.proofs.SquareSetLemmas.{in_none, in_rest}
use Rattle.dw_moves.proofs.StepBackLemmas.{step_back}
use Rattle.dw_moves.proofs.StepLemmas.{none_some, some_inj}
use Rattle.dw_moves.proofs.StepSetLemmas.{step_of, from_step}

-- a step is legal where nothing can be taken
pub legal_step : (g : Geometry) → IsBoard g → (p : Placement) (s t : ℕ) → (CanCapture g p → ⊥) → OneStep g p s t
    → Legal g p (quiet_to s t)
legal_step g b p s t none h = by_best (best g p) (is_best g p) where
  by_best : (k : ℕ) → IsBest g p k → Legal g p (quiet_to s t)
  by_best zero is = (0, is, (step_quiet g b p s t h, refl))
  by_best (suc k) is = let r = is.reached (omega arith) in absurd (none (r.0, r.1, r.2, r.3, omega (arith, r.4)))

-- the goals still to be gone through, where after no step onto another one a reply is sure
pub record IsLeft (g : Geometry) (p : Placement) (men kings occupied : Squares) (d : Dir) (left : Squares) :
    Type 0 where
  pub steps : (t : ℕ) → In t left → StepsOn g p.turn men kings occupied d t
  pub tried : NoneSure g p men kings occupied d left

module _ {g : Geometry} (b : IsBoard g) {p : Placement} {men kings enemies occupied : Squares}
    (sets : AreSets g p men kings enemies occupied) (d : Dir) where
  -- one step back from a goal is where the step began
  start : (s t : ℕ) → StepsFrom g p.turn men kings occupied d s t → step g t (back d) ≡ Some s
  start s t h = step_back g b s t d (step_of b sets d s t h).stands.on_board h.1

  pub all_left : {left : Squares} → ((t : ℕ) → In t left ↔ StepsOn g p.turn men kings occupied d t)
      → IsLeft g p men kings occupied d left
  all_left are = record { steps = λ t. (are t).0; tried = λ s t h out _. out ((are t).1 (s, h.0, h.1, h.2)) }

  pub goal_step : {left : Squares} → IsLeft g p men kings occupied d left → (s t : ℕ) → In t left
      → step g t (back d) ≡ Some s → OneStep g p s t
  goal_step l s t m leads =
      let h = l.steps t m in
      let same : h.0 ≡ s = some_inj (sym (start h.0 t (h.1, h.2, h.3)) ∙ leads) in
      step_of b sets d s t
      (subst (λ z. StepsFrom g p.turn men kings occupied d z t) same (h.1, h.2, h.3))

  pub one_tried : {left rest : Squares} → IsLeft g p men kings occupied d left → (s t : ℕ) → rest ≡ fin.remove left t
      → step g t (back d) ≡ Some s → (HasSureReply g (play g p (quiet_to s t)) → ⊥)
      → IsLeft g p men kings occupied d rest
  one_tried {left} {rest} l s t is leads none = record {
    steps = λ u m. l.steps u ((in_rest left t rest u is).0 m).0;
    tried = λ r u h out sure. elim (cases_eq u t) [
      | inl e ↦
          let there : StepsFrom g p.turn men kings occupied d r t =
          subst (λ z. StepsFrom g p.turn men kings occupied d r z) e h in
          let same : r ≡ s = some_inj (sym (start r t there) ∙ leads) in
          none (subst (λ z. HasSureReply g (play g p (quiet_to z t))) same
          (subst (λ z. HasSureReply g (play g p (quiet_to r z))) e sure))
      | inr ne ↦ l.tried r u h (λ m. out ((in_rest left t rest u is).1 (m, ne))) sure
    ];
  }

  pub none_begun : {left : Squares} → IsLeft g p men kings occupied d left → (t : ℕ) → In t left
      → step g t (back d) ≡ None → ⊥
  none_begun l t m leads = let h = l.steps t m in none_some h.0 (sym leads ∙ start h.0 t (h.1, h.2, h.3))

-- none in all four directions
pub none_anywhere : (g : Geometry) → IsBoard g → (p : Placement) (men kings enemies occupied : Squares)
    → AreSets g p men kings enemies occupied
    → NoneSure g p men kings occupied UpLeft fin.empty → NoneSure g p men kings occupied UpRight fin.empty
    → NoneSure g p men kings occupied DownLeft fin.empty → NoneSure g p men kings occupied DownRight fin.empty
    → (m : Move) → IsSureStep g p m → ⊥
none_anywhere g b p men kings enemies occupied sets ul ur dl dr m h =
    let same : m ≡ quiet_to m.from m.to = λ i. record { from = m.from; to = m.to; taken = h.1 i } in
    in_dir h.0.dir (from_step b sets m.from m.to h.0)
    (subst (λ z. HasSureReply g (play g p z)) same h.2) where
      out : (t : ℕ) → In t fin.empty → ⊥
      out t m = in_none fin.empty t refl m

      in_dir : (d : Dir) → StepsFrom g p.turn men kings occupied d m.from m.to
          → HasSureReply g (play g p (quiet_to m.from m.to)) → ⊥
      in_dir UpLeft f sure = ul m.from m.to f (out m.to) sure
      in_dir UpRight f sure = ur m.from m.to f (out m.to) sure
      in_dir DownLeft f sure = dl m.from m.to f (out m.to) sure
      in_dir DownRight f sure = dr m.from m.to f (out m.to) sure
