-- What is met and reached on sets of squares, as the kernel computes it.
use Rattle.std.proofs.Common.{◌≡◌, ℕ, ◌<◌, zero, suc, Bool, true, false, refl, sym, ◌∙◌, subst, ◌⊎◌, inl, inr, ◌↔◌}
use Rattle.std.proofs.Common.{Some}
use Rattle.std.specs.Prelude.{IsTrue}
use Rattle.std.proofs.lemmas.Bool.{true≢false}
use Rattle.std.specs.FinSet as fin
use Rattle.dw_board.specs.declared.board.Dir.{Dir}
use Rattle.dw_board.specs.declared.board.Dir.TheVariants.{UpLeft, UpRight, DownLeft, DownRight}
use Rattle.dw_board.specs.declared.piece.Side.{Side}
use Rattle.dw_board.specs.declared.piece.Kind.TheVariants.{Man}
use Rattle.dw_board.specs.Geometry.{Geometry, IsBoard, OnBoard, step, Squares}
use Rattle.dw_moves.specs.Moves.{IsForward, In}
use Rattle.dw_moves.specs.inner.Plain.{may_go}
use Rattle.dw_moves.specs.inner.Glance.{MenMeet, MenTake, KingsTake, Takes, Steps, StepsOn}
use Rattle.dw_board.specs.Slides.{SlidesTo}
use Rattle.dw_moves.proofs.SlideLemmas.{room_behind}
use Rattle.dw_moves.proofs.LegalMoveLemmas.{may_from, may_in}
use Rattle.dw_moves.proofs.SquareSetLemmas.{in_or, in_and, in_minus}

-- a step from a set leads to these squares
abbrev pub IsShifted : Geometry → Squares → Dir → Squares → Type 0
IsShifted g from d v = (t : ℕ) → In t v ↔ ((s : ℕ) × (In s from × (step g s d ≡ Some t)))

pub men_meet : (g : Geometry) (men enemies occupied : Squares) (d : Dir) (next v : Squares) → IsShifted g men d next
    → v ≡ fin.intersection next enemies → (c : ℕ) → In c v ↔ MenMeet g men enemies occupied d c
men_meet g men enemies occupied d next v shifted e c = (
  (λ h. let both = (in_and next enemies v c e).0 h in let r = (shifted c).0 both.0 in (r.0, r.1.0, r.1.1, both.1)),
  (λ h. (in_and next enemies v c e).1 ((shifted c).1 (h.0, (h.1, h.2)), h.3)),
)

-- kings slide as near as they have to, to take what comes next
pub kings_take_behind : (g : Geometry) → IsBoard g
    → (kings enemies occupied : Squares) (d : Dir) (reached next met behind free : Squares)
    → ((t : ℕ) → In t reached ↔ ((n : ℕ) × (n < 8) × SlidesTo g kings occupied d n t))
    → ((s : ℕ) → In s kings → OnBoard g s)
    → IsShifted g reached d next → met ≡ fin.intersection next enemies → IsShifted g met d behind
    → free ≡ fin.difference behind occupied → (t : ℕ) → In t free ↔ KingsTake g kings enemies occupied d t
kings_take_behind g b kings enemies occupied d reached next met behind free slid on shifted met_is further free_is t = (
  (λ h.
      let w = (in_minus behind occupied free t free_is).0 h in
      let c = (further t).0 w.0 in
      let both = (in_and next enemies met c.0 met_is).0 c.1.0 in
      let s = (shifted c.0).0 both.0 in
      let r = (slid s.0).0 s.1.0 in
      (c.0, (r.0, (s.0, r.2, s.1.1, both.1)), c.1.1, w.1)),
  (λ h.
      let m = h.1.1 in
      let few = room_behind g b kings occupied d on h.1.0 m.0 h.0 t m.1 m.2 h.2 in
      let hit : In h.0 met = (in_and next enemies met h.0 met_is).1
      ((shifted h.0).1 (m.0, ((slid m.0).1 (h.1.0, few, m.1), m.2)), m.3) in
      (in_minus behind occupied free t free_is).1 ((further t).1 (h.0, (hit, h.2)), h.3)),
)

-- behind what is met an empty square
pub behind_is : (P : ℕ → Type 0) (g : Geometry) (occupied : Squares) (d : Dir) (met behind free : Squares)
    → ((c : ℕ) → In c met ↔ P c) → IsShifted g met d behind → free ≡ fin.difference behind occupied
    → (t : ℕ) → In t free ↔ ((c : ℕ) × P c × (step g c d ≡ Some t) × (In t occupied → ⊥))
behind_is P g occupied d met behind free is shifted free_is t = (
  (λ h.
      let w = (in_minus behind occupied free t free_is).0 h in
      let c = (shifted t).0 w.0 in
      (c.0, (is c.0).0 c.1.0, c.1.1, w.1)),
  (λ h. (in_minus behind occupied free t free_is).1 ((shifted t).1 (h.0, ((is h.0).1 h.1, h.2)), h.3)),
)

-- what leads somewhere in one of the four directions
pub in_any : (F : Dir → ℕ → Type 0) (ul ur dl dr up down all : Squares) → ((t : ℕ) → In t ul ↔ F UpLeft t)
    → ((t : ℕ) → In t ur ↔ F UpRight t) → ((t : ℕ) → In t dl ↔ F DownLeft t) → ((t : ℕ) → In t dr ↔ F DownRight t)
    → up ≡ fin.union ul ur → down ≡ fin.union dl dr → all ≡ fin.union up down → (t : ℕ) → In t all ↔ ((d : Dir) × F d t)
in_any F ul ur dl dr up down all a b c e up_is down_is all_is t = (
  (λ h. elim ((in_or up down all t all_is).0 h) [
    | inl u ↦ elim ((in_or ul ur up t up_is).0 u) [ inl x ↦ (UpLeft, (a t).0 x) | inr x ↦ (UpRight, (b t).0 x) ]
    | inr u ↦ elim ((in_or dl dr down t down_is).0 u) [ inl x ↦ (DownLeft, (c t).0 x) | inr x ↦ (DownRight, (e t).0 x) ]
  ]),
  (λ h. by_dir h.0 h.1),
) where
  by_dir : (d : Dir) → F d t → In t all
  by_dir UpLeft h = (in_or up down all t all_is).1 (inl ((in_or ul ur up t up_is).1 (inl ((a t).1 h))))
  by_dir UpRight h = (in_or up down all t all_is).1 (inl ((in_or ul ur up t up_is).1 (inr ((b t).1 h))))
  by_dir DownLeft h = (in_or up down all t all_is).1 (inr ((in_or dl dr down t down_is).1 (inl ((c t).1 h))))
  by_dir DownRight h = (in_or up down all t all_is).1 (inr ((in_or dl dr down t down_is).1 (inr ((e t).1 h))))

-- a square is found in some direction
pub somewhere : (P : Dir → ℕ → Type 0) (all : Squares) (r : Bool) → ((t : ℕ) → In t all ↔ ((d : Dir) × P d t))
    → IsTrue r ↔ ((t : ℕ) × In t all) → IsTrue r ↔ ((d : Dir) × (t : ℕ) × P d t)
somewhere P all r are any = (
  (λ yes. let t = any.0 yes in let h = (are t.0).0 t.1 in (h.0, t.0, h.1)),
  (λ h. any.1 (h.1, (are h.1).1 (h.0, h.2))),
)

-- a man takes, or a king
pub men_take_is : (g : Geometry) (men kings enemies occupied : Squares)
    → ((d : Dir) × (t : ℕ) × MenTake g men enemies occupied d t) → (d : Dir) × Takes g men kings enemies occupied d
men_take_is g men kings enemies occupied h = (h.0, (h.2.0, h.1, inl h.2.1, h.2.2, h.2.3))

pub kings_take_is : (g : Geometry) (men kings enemies occupied : Squares)
    → ((d : Dir) × (t : ℕ) × KingsTake g kings enemies occupied d t) → (d : Dir) × Takes g men kings enemies occupied d
kings_take_is g men kings enemies occupied h = (h.0, (h.2.0, h.1, inr h.2.1, h.2.2, h.2.3))

pub takes_by : (g : Geometry) (men kings enemies occupied : Squares)
    → ((d : Dir) × Takes g men kings enemies occupied d)
    → ((d : Dir) × (t : ℕ) × MenTake g men enemies occupied d t)
    ⊎ ((d : Dir) × (t : ℕ) × KingsTake g kings enemies occupied d t)
takes_by g men kings enemies occupied h = elim h.1.2 [
  | inl m ↦ inl (h.0, h.1.1, (h.1.0, m, h.1.3, h.1.4))
  | inr k ↦ inr (h.0, h.1.1, (h.1.0, k, h.1.3, h.1.4))
]

-- no kings take nothing
none_slide : (g : Geometry) (from occupied : Squares) (d : Dir) → ((s : ℕ) → In s from → ⊥) → (n t : ℕ)
    → SlidesTo g from occupied d n t → ⊥
none_slide g from occupied d none zero t r = none t r
none_slide g from occupied d none (suc n) t r = none_slide g from occupied d none n r.0 r.1

pub no_kings_take : (g : Geometry) (kings enemies occupied : Squares) → ((s : ℕ) → In s kings → ⊥)
    → ((d : Dir) × (t : ℕ) × KingsTake g kings enemies occupied d t) → ⊥
no_kings_take g kings enemies occupied none h = let m = h.2.1 in none_slide g kings occupied h.0 none m.0 m.1.0 m.1.1

-- the pieces that may go this way where they take nothing
abbrev pub AreMovers : Side → Squares → Squares → Dir → Squares → Type 0
AreMovers side men kings d movers = (s : ℕ) → In s movers ↔ ((In s men × IsForward side d) ⊎ In s kings)

pub movers_ahead : (side : Side) (men kings : Squares) (d : Dir) (movers : Squares) → may_go Man side d ≡ true
    → movers ≡ fin.union kings men → AreMovers side men kings d movers
movers_ahead side men kings d movers e is s = (
  (λ h. elim ((in_or kings men movers s is).0 h) [ inl k ↦ inr k | inr m ↦ inl (m, may_from Man side d e refl) ]),
  (λ h. (in_or kings men movers s is).1 (elim h [ inl m ↦ inr m.0 | inr k ↦ inl k ])),
)

pub movers_back : (side : Side) (men kings : Squares) (d : Dir) (movers : Squares) → may_go Man side d ≡ false
    → movers ≡ kings → AreMovers side men kings d movers
movers_back side men kings d movers e is s = (
  (λ h. inr (subst (In s) is h)),
  (λ h. elim h [
    | inl m ↦ absurd (true≢false (sym (may_in Man side d (λ _. m.1)) ∙ e))
    | inr k ↦ subst (In s) (sym is) k
  ]),
)

pub next_free_is : (g : Geometry) (side : Side) (men kings occupied : Squares) (d : Dir) (movers next free : Squares)
    → AreMovers side men kings d movers → IsShifted g movers d next → free ≡ fin.difference next occupied → (t : ℕ)
    → In t free ↔ StepsOn g side men kings occupied d t
next_free_is g side men kings occupied d movers next free m shifted free_is t = (
  (λ h.
      let w = (in_minus next occupied free t free_is).0 h in
      let s = (shifted t).0 w.0 in
      (s.0, (m s.0).0 s.1.0, s.1.1, w.1)),
  (λ h. (in_minus next occupied free t free_is).1 ((shifted t).1 (h.0, ((m h.0).1 h.1, h.2)), h.3)),
)

pub steps_is : (g : Geometry) (side : Side) (men kings occupied : Squares) (d : Dir) (free : Squares) (r : Bool)
    → ((t : ℕ) → In t free ↔ StepsOn g side men kings occupied d t) → IsTrue r ↔ ((s : ℕ) × In s free) → IsTrue r
    ↔ Steps g side men kings occupied d
steps_is g side men kings occupied d free r is any = (
  (λ yes. let t = any.0 yes in let h = (is t.0).0 t.1 in (h.0, t.0, h.1, h.2, h.3)),
  (λ h. any.1 (h.1, (is h.1).1 (h.0, h.2, h.3, h.4))),
)
