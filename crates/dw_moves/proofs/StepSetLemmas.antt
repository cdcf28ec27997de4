-- Steps of one square, found on the sets of a position.
use Rattle.std.proofs.Common.{◌≡◌, ◌≢◌, ℕ, refl, sym, ◌∙◌, subst, ◌⊎◌, inl, inr, ◌↔◌, Bool, false, Some}
use Rattle.std.specs.Prelude.{IsTrue}
use Rattle.std.proofs.lemmas.Bool.{true≢false, cases_eq}
use Rattle.std.specs.FinSet as fin
use Rattle.dw_board.specs.declared.board.Dir.{Dir}
use Rattle.dw_board.specs.declared.piece.Side.{Side}
use Rattle.dw_board.specs.declared.piece.Kind.{Kind}
use Rattle.dw_board.specs.declared.piece.Kind.TheVariants.{Man, King}
use Rattle.dw_board.specs.Geometry.{Geometry, IsBoard, OnBoard, Squares}
use Rattle.dw_board.specs.Placement.{Placement, at, other}
use Rattle.dw_moves.specs.Moves.{IsForward, In}
use Rattle.dw_moves.specs.inner.Glance.{AreSets, StepsFrom, StepsOn, HasTwo}
use Rattle.dw_moves.specs.Replies.{with_turn, passed, OneStep}
use Rattle.dw_moves.proofs.StepLemmas.{step_is}
use Rattle.dw_moves.proofs.SquareSetLemmas.{in_none, in_rest}
use Rattle.dw_moves.proofs.SlideLemmas.{is_free, is_out}
use Rattle.dw_moves.proofs.GlanceSetLemmas.{own_in}

module _ {g : Geometry} (b : IsBoard g) {p : Placement} {men kings enemies occupied : Squares}
    (sets : AreSets g p men kings enemies occupied) where
  pub step_of : (d : Dir) (s t : ℕ) → StepsFrom g p.turn men kings occupied d s t → OneStep g p s t
  step_of d s t h = elim h.0 [
    | inl m ↦ let here = (sets.of_men s).0 m.0 in made Man here.0 here.1 (λ _. m.1)
    | inr k ↦ let here = (sets.of_kings s).0 k in made King here.0 here.1 (λ q. cc)
  ] where
    made : (kind_of : Kind) → OnBoard g s → at p s ≡ Some (record { side = p.turn; kind = kind_of })
        → (kind_of ≡ Man → IsForward p.turn d) → OneStep g p s t
    made kind_of on there ahead = record {
      piece = record { side = p.turn; kind = kind_of };
      stands = record { on_board = on; there = there; own = refl };
      dir = d;
      leads = h.1;
      free = is_free g p occupied t sets.of_all (step_is g b s t d on h.1).on h.2;
      man = ahead;
    }

  pub step_from : (d : Dir) (t : ℕ) → StepsOn g p.turn men kings occupied d t → (s : ℕ) × OneStep g p s t
  step_from d t h = (h.0, step_of d h.0 t (h.1, h.2, h.3))

  pub from_step : (s t : ℕ) (q : OneStep g p s t) → StepsFrom g p.turn men kings occupied q.dir s t
  from_step s t q =
      let mover : (In s men × IsForward p.turn q.dir) ⊎ In s kings = elim (own_in sets q.stands) [
        | inl man ↦ inl (man.1, q.man man.0)
        | inr king ↦ inr king.1
      ] in
      (mover, q.leads, is_out g p occupied t sets.of_all q.free)

  pub step_in : (s t : ℕ) → OneStep g p s t → (d : Dir) × StepsOn g p.turn men kings occupied d t
  step_in s t q = let h = from_step s t q in (q.dir, (s, h.0, h.1, h.2))

pub all_steps : (g : Geometry) → IsBoard g → (p : Placement) (side : Side) (men kings enemies occupied : Squares)
    → AreSets g (with_turn p side) men kings enemies occupied → side ≡ other p.turn
    → (all : Squares) → ((t : ℕ) → In t all ↔ ((d : Dir) × StepsOn g side men kings occupied d t)) → (t : ℕ) → In t all
    ↔ ((s : ℕ) × OneStep g (passed p) s t)
all_steps g b p side men kings enemies occupied sets side_is all are t =
    subst (λ z. In t all ↔ ((s : ℕ) × OneStep g (with_turn p z) s t)) side_is (
      (λ h. let w = (are t).0 h in step_from b sets w.0 t w.1),
      (λ h. (are t).1 (step_in b sets h.0 t h.1)),
    )

-- TWO MEMBERS

pub two_of : (v rest : Squares) (s : ℕ) (r : Bool) → In s v → rest ≡ fin.remove v s → IsTrue r ↔ ((t : ℕ) × In t rest)
    → IsTrue r ↔ HasTwo v
two_of v rest s r there rest_is any = (
  (λ yes. let t = any.0 yes in let other = (left t.0).0 t.1 in (s, t.0, there, other.0, λ e. other.1 (sym e))),
  (λ h. elim (cases_eq h.0 s) [
    | inr ne ↦ any.1 (h.0, (left h.0).1 (h.2, ne))
    | inl e ↦ any.1 (h.1, (left h.1).1 (h.3, λ f. h.4 (e ∙ sym f)))
  ]),
) where
  left : (t : ℕ) → In t rest ↔ (In t v × (t ≢ s))
  left t = in_rest v s rest t rest_is

pub two_of_none : (v : Squares) → v ≡ fin.empty → IsTrue false ↔ HasTwo v
two_of_none v e = ((λ no. absurd (true≢false (sym no))), (λ h. absurd (in_none v h.0 e h.2)))
