-- The pieces that move or take are found from the squares that they reach.
use Rattle.std.proofs.Common.{◌≡◌, ℕ, length, sym, ap, ◌∙◌, subst, ◌⊎◌, inl, inr, ◌↔◌, Some, None}
use Rattle.std.specs.FinSet as fin
use Rattle.dw_board.specs.declared.board.Dir.{Dir}
use Rattle.dw_board.specs.declared.piece.Piece.{Piece}
use Rattle.dw_board.specs.Geometry.{Geometry, IsBoard, OnBoard, step, Squares, back}
use Rattle.dw_board.specs.Placement.{Placement, at, placed, other}
use Rattle.dw_moves.specs.Moves.{Stands, Jump, In}
use Rattle.dw_moves.specs.inner.Glance.{AreSets, MenMeet, KingsTake, CanTakeTowards}
use Rattle.dw_moves.proofs.ExactLemmas.{jump_along}
use Rattle.dw_moves.proofs.StepLemmas.{step_is}
use Rattle.dw_moves.proofs.StepBackLemmas.{step_back}
use Rattle.dw_moves.proofs.SquareSetLemmas.{in_or, in_minus}
use Rattle.dw_moves.proofs.GlanceSetLemmas.{own_in}
use Rattle.dw_moves.proofs.GlanceRunLemmas.{IsShifted}
use Rattle.dw_moves.proofs.ManJumpLemmas.{man_jump}
use Rattle.dw_moves.proofs.RayLemmas.{jumped_on_ray, landing_on_ray}
use Rattle.dw_moves.proofs.SlideLemmas.{is_out}
use Rattle.dw_moves.proofs.FirstJumpLemmas.{same_on_ray, jump_meets}

-- a man that can take is found from the square behind what it takes
pub taker_in : (g : Geometry) → IsBoard g → (men enemies occupied met next free over behind : Squares) (d e : Dir)
    → e ≡ back d → ((c : ℕ) → In c met ↔ MenMeet g men enemies occupied d c)
    → IsShifted g met d next → free ≡ fin.difference next occupied → IsShifted g free e over → IsShifted g over e behind
    → (s c t : ℕ) → OnBoard g s → In s men → step g s d ≡ Some c → In c enemies → step g c d ≡ Some t
    → (In t occupied → ⊥) → In s behind
taker_in g b men enemies occupied met next free over behind d e e_is met_is next_is free_is over_is behind_is s c t on m
    to enemy further empty =
    let c_on : OnBoard g c = (step_is g b s c d on to).on in
    let hit : In c met = (met_is c).1 (s, m, to, enemy) in
    let landed : In t free = (in_minus next occupied free t free_is).1 ((next_is t).1 (c, (hit, further)), empty) in
    let there : In c over = (over_is c).1
    (t, (landed, subst (λ z. step g t z ≡ Some c) (sym e_is) (step_back g b c t d c_on further))) in
    (behind_is s).1 (c, (there, subst (λ z. step g c z ≡ Some s) (sym e_is) (step_back g b s c d on to)))

-- a man takes from s in a direction
abbrev pub TakesFrom : Geometry → Squares → Squares → Squares → ℕ → Dir → Type 0
TakesFrom g men enemies occupied s d = (c : ℕ) × (t : ℕ) × OnBoard g s × In s men × (step g s d ≡ Some c)
    × In c enemies × (step g c d ≡ Some t) × (In t occupied → ⊥)

module _ {g : Geometry} (b : IsBoard g) {p : Placement} {men kings enemies occupied : Squares}
    (sets : AreSets g p men kings enemies occupied) where
  -- a jump begins with a king, or with a man next to an enemy that has an empty square behind it
  jump_begins : (s c t : ℕ) (piece : Piece) → Stands g p s piece → (j : Jump g (placed p s None) piece s c t)
      → In s kings ⊎ TakesFrom g men enemies occupied s j.dir
  jump_begins s c t piece stands j =
      let on = stands.on_board in
      elim (own_in sets stands) [
        | inl man ↦
            let m = man_jump g b (placed p s None) piece s c t j man.0 on in
            let c_at : at p c ≡ Some (record { side = other p.turn; kind = j.enemy.0 }) =
            sym (same_on_ray g b p j.dir s c on (jumped_on_ray g (placed p s None) piece s c t j))
            ∙ (j.enemy.1 ∙ ap (λ z. Some (record { side = other z; kind = j.enemy.0 })) stands.own) in
            let t_at : at p t ≡ None = sym (same_on_ray g b p j.dir s t on
            (landing_on_ray g (placed p s None) piece s c t j)) ∙ j.free in
            inr (
              c,
              t,
              on,
              man.1,
              m.0,
              (sets.of_enemies c).1 (m.1, (j.enemy.0, c_at)),
              m.2,
              is_out g p occupied t sets.of_all t_at,
            )
        | inr king ↦ inl king.1
      ]

  pub towards_within : (movers towards all : Squares) (d : Dir) (s : ℕ)
      → (In s kings → ((u : ℕ) × KingsTake g kings enemies occupied d u) → In s movers)
      → (TakesFrom g men enemies occupied s d → In s towards) → all ≡ fin.union movers towards
      → CanTakeTowards g p d s → In s all
  towards_within movers towards all d s k f all_is h =
      let j = jump_along g (placed p s None) h.2 s h.0 h.1 d h.4 in
      let takes : In s kings → (u : ℕ) × KingsTake g kings enemies occupied d u = λ i.
      let m = jump_meets b sets s h.0 h.1 h.2 h.3 j.0 kings i in
      subst (λ z. (u : ℕ) × KingsTake g kings enemies occupied z u) j.1
      (m.0, (h.0, (length j.0.before, m.1), m.2, m.3)) in
      (in_or movers towards all s all_is).1 (elim (jump_begins s h.0 h.1 h.2 h.3 j.0) [
        | inl i ↦ inl (k i (takes i))
        | inr m ↦ inr (f (subst (TakesFrom g men enemies occupied s) j.1 m))
      ])
