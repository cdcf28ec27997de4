-- The sets of a position.
use Rattle.std.proofs.Common.{◌≡◌, ℕ, refl, sym, ap, ◌∙◌, subst, ◌⊎◌, inl, inr, ◌↔◌, Bool, true, false, Option, Some}
use Rattle.std.proofs.Common.{None, is_some}
use Rattle.std.specs.Prelude.{IsTrue}
use Rattle.std.proofs.lemmas.Bool.{true≢false}
use Rattle.std.specs.FinSet as fin
use Rattle.dw_board.specs.declared.board.Dir.{Dir}
use Rattle.dw_board.specs.declared.piece.Piece.{Piece}
use Rattle.dw_board.specs.declared.piece.Side.{Side}
use Rattle.dw_board.specs.declared.piece.Side.TheVariants.{White, Black}
use Rattle.dw_board.specs.declared.piece.Kind.{Kind}
use Rattle.dw_board.specs.declared.piece.Kind.TheVariants.{Man, King}
use Rattle.dw_board.specs.Geometry.{Geometry, IsBoard, OnBoard, step, Squares}
use Rattle.dw_board.specs.Placement.{Placement, at, is_of, other}
use Rattle.dw_moves.specs.Moves.{In, Stands}
use Rattle.dw_moves.specs.inner.Plain.{free_if, free_step}
use Rattle.dw_moves.specs.inner.Glance.{AreOf, AreSets}
use Rattle.dw_moves.proofs.StepLemmas.{step_is}
use Rattle.dw_moves.proofs.ExactLemmas.{option_cases, same_side_true, same_side_refl}
use Rattle.dw_moves.proofs.SquareSetLemmas.{in_or}

-- the squares on which a piece of this side and kind stands
abbrev pub AreKind : Geometry → Placement → Side → Kind → Squares → Type 0
AreKind g p side kind v = (s : ℕ) → In s v ↔ (OnBoard g s × (at p s ≡ Some (record { side = side; kind = kind })))

-- the men and the kings of a side are its pieces
pub both_kinds : (g : Geometry) (p : Placement) (side : Side) (men kings v : Squares) → AreKind g p side Man men
    → AreKind g p side King kings → v ≡ fin.union men kings → AreOf g p side v
both_kinds g p side men kings v m k e s = (
  (λ h. elim ((in_or men kings v s e).0 h) [
    | inl a ↦ let r = (m s).0 a in (r.0, (Man, r.1))
    | inr a ↦ let r = (k s).0 a in (r.0, (King, r.1))
  ]),
  (λ h. (in_or men kings v s e).1 (of_kind h.1.0 h.0 h.1.1)),
) where
  of_kind : (kind : Kind) → OnBoard g s → at p s ≡ Some (record { side = side; kind = kind }) → In s men ⊎ In s kings
  of_kind Man on there = inl ((m s).1 (on, there))
  of_kind King on there = inr ((k s).1 (on, there))

-- the squares on which a piece of this side stands
pub all_are : (g : Geometry) (p : Placement) (side : Side) (v : Squares)
    → ((s : ℕ) → In s v ↔ (OnBoard g s × IsTrue (is_of side (at p s)))) → AreOf g p side v
all_are g p side v h s = (
  (λ i. let r = (h s).0 i in (r.0, of_side (at p s) r.1)),
  (λ r. (h s).1 (r.0, ap (is_of side) r.1.1 ∙ same_side_refl side)),
) where
  of_side : (o : Option Piece) → is_of side o ≡ true → (k : Kind) × (o ≡ Some (record { side = side; kind = k }))
  of_side None e = cc
  of_side (Some q) e = let same : q.side ≡ side = same_side_true q.side side e in
      (q.kind, λ i. Some (record { side = same i; kind = q.kind }))

-- the squares on which a piece stands
pub occupied_are : (g : Geometry) (p : Placement) (v : Squares)
    → ((s : ℕ) → In s v ↔ (OnBoard g s × IsTrue (is_some (at p s)))) → (s : ℕ) → In s v
    ↔ (OnBoard g s × ((q : Piece) × (at p s ≡ Some q)))
occupied_are g p v h s = (
  (λ i. let r = (h s).0 i in (r.0, some_of (at p s) r.1)),
  (λ r. (h s).1 (r.0, ap is_some r.1.1)),
) where
  some_of : (o : Option Piece) → is_some o ≡ true → (q : Piece) × (o ≡ Some q)
  some_of None e = cc
  some_of (Some q) e = (q, refl)

-- the next square is empty, or a piece stands there
pub free_step_none : (g : Geometry) → IsBoard g → (p : Placement) (s : ℕ) (d : Dir) (t : ℕ) (occupied : Squares)
    (there : Bool) → OnBoard g s → step g s d ≡ Some t
    → ((s : ℕ) → In s occupied ↔ (OnBoard g s × IsTrue (is_some (at p s))))
    → there ≡ fin.contains occupied t → there ≡ true → free_step g p s d ≡ None
free_step_none g b p s d t occupied there on leads are is taken =
    let q = ((occupied_are g p occupied are t).0 (sym is ∙ taken)).1 in
    ap (free_if p) leads ∙ rw (q.1, free_if) refl

pub free_step_some : (g : Geometry) → IsBoard g → (p : Placement) (s : ℕ) (d : Dir) (t : ℕ) (occupied : Squares)
    (there : Bool) → OnBoard g s → step g s d ≡ Some t
    → ((s : ℕ) → In s occupied ↔ (OnBoard g s × IsTrue (is_some (at p s))))
    → there ≡ fin.contains occupied t → there ≡ false → free_step g p s d ≡ Some t
free_step_some g b p s d t occupied there on leads are is out = elim (option_cases (at p t)) [
  | inl e ↦ ap (free_if p) leads ∙ rw (e, free_if) refl
  | inr q ↦ absurd (true≢false (sym ((occupied_are g p occupied are t).1 ((step_is g b s t d on leads).on, q))
      ∙ (sym is ∙ out)))
]

own_or_other : (a b : Side) → (b ≡ a) ⊎ (b ≡ other a)
own_or_other White White = inl refl
own_or_other White Black = inr refl
own_or_other Black White = inr refl
own_or_other Black Black = inl refl

pub sets_are : (g : Geometry) (p : Placement) (side against : Side) (men kings own enemies occupied : Squares)
    → side ≡ p.turn → against ≡ other side → AreKind g p side Man men → AreKind g p side King kings
    → AreOf g p against enemies
    → own ≡ fin.union men kings → occupied ≡ fin.union own enemies → AreSets g p men kings enemies occupied
sets_are g p side against men kings own enemies occupied side_is against_is m k n own_is all_is =
    let mover : AreOf g p p.turn own = subst (λ z. AreOf g p z own) side_is (both_kinds g p side men kings own m k
    own_is) in
    let enemy : AreOf g p (other p.turn) enemies = subst (λ z. AreOf g p z enemies) (against_is ∙ ap other side_is) n in
    record {
      of_men = subst (λ z. AreKind g p z Man men) side_is m;
      of_kings = subst (λ z. AreKind g p z King kings) side_is k;
      of_enemies = enemy;
      of_all = λ s. (
        (λ h. elim ((in_or own enemies occupied s all_is).0 h) [
          | inl a ↦ let r = (mover s).0 a in (r.0, (record { side = p.turn; kind = r.1.0 }, r.1.1))
          | inr a ↦ let r = (enemy s).0 a in (r.0, (record { side = other p.turn; kind = r.1.0 }, r.1.1))
        ]),
        (λ h.
            let of_side : (b : Side) → h.1.0.side ≡ b → at p s ≡ Some (record { side = b; kind = h.1.0.kind }) =
            λ b e. h.1.1 ∙ ap (λ z. Some (record { side = z; kind = h.1.0.kind })) e in
            (in_or own enemies occupied s all_is).1 (elim (own_or_other p.turn h.1.0.side) [
              | inl e ↦ inl ((mover s).1 (h.0, (h.1.0.kind, of_side p.turn e)))
              | inr e ↦ inr ((enemy s).1 (h.0, (h.1.0.kind, of_side (other p.turn) e)))
            ])),
      );
    }

-- a piece of the side to move is one of its men, or of its kings
pub own_in : {g : Geometry} {p : Placement} {men kings enemies occupied : Squares} {s : ℕ} {piece : Piece}
    → AreSets g p men kings enemies occupied → Stands g p s piece
    → ((piece.kind ≡ Man) × In s men) ⊎ ((piece.kind ≡ King) × In s kings)
own_in {p = p} {men = men} {kings = kings} {s = s} {piece = piece} sets stands = by_kind piece.kind refl where
  there : (kind_of : Kind) → piece.kind ≡ kind_of → at p s ≡ Some (record { side = p.turn; kind = kind_of })
  there kind_of e = stands.there ∙ ap Some (λ i. record { side = stands.own i; kind = e i })

  by_kind : (kind_of : Kind) → piece.kind ≡ kind_of
      → ((piece.kind ≡ Man) × In s men) ⊎ ((piece.kind ≡ King) × In s kings)
  by_kind Man e = inl (e, (sets.of_men s).1 (stands.on_board, there Man e))
  by_kind King e = inr (e, (sets.of_kings s).1 (stands.on_board, there King e))
