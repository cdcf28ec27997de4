-- Something can be taken where a single jump is there, and a first jump is found on the sets of a position.
use Rattle.std.proofs.Common.{◌≡◌, ◌≢◌, ℕ, ◌-◌, ◌≤◌, ◌<◌, List, [], ◌∷◌, ◌++◌, length, refl, sym, ap, ◌∙◌, subst, ◌⊎◌}
use Rattle.std.proofs.Common.{inl, inr, ◌↔◌, arith, Some, None, get_or-set_other}
use Rattle.dw_board.specs.declared.board.Dir.{Dir}
use Rattle.dw_board.specs.declared.piece.Side.{Side}
use Rattle.dw_board.specs.declared.piece.Kind.{Kind}
use Rattle.dw_board.specs.declared.piece.Kind.TheVariants.{Man, King}
use Rattle.dw_board.specs.declared.piece.Piece.{Piece}
use Rattle.dw_board.specs.Geometry.{Geometry, IsBoard, OnBoard, step, Squares}
use Rattle.dw_board.specs.Placement.{Placement, at, placed, other}
use Rattle.dw_moves.specs.Moves.{AllEmpty, Stands, Jump, Jumps, Path, CanCapture, ray, In}
use Rattle.dw_board.specs.Lists.{Member}
use Rattle.dw_moves.specs.inner.Glance.{AreSets, MeetsBehind, Takes}
use Rattle.dw_moves.specs.inner.MemberLemmas.{mem_left, mem_right, mem_at}
use Rattle.dw_moves.proofs.StepLemmas.{none_some, step_is}
use Rattle.dw_moves.proofs.ExactLemmas.{option_cases}
use Rattle.dw_moves.proofs.RayLemmas.{Toward, ray_some, ray_of_low, ray_toward}
use Rattle.dw_moves.proofs.QuietOnceLemmas.{not_toward}
use Rattle.dw_moves.proofs.CaptureBoundLemmas.{stood}
use Rattle.dw_moves.proofs.GlanceSetLemmas.{own_in}
use Rattle.dw_moves.proofs.SlideLemmas.{is_free, is_out, ray_head, run_of, Walked, walk}

pub empty_member : (p : Placement) (xs : List ℕ) (x : ℕ) → AllEmpty p xs → Member x xs → at p x ≡ None
empty_member p [] x h m = absurd m
empty_member p (y ∷ xs) x h (inl e) = ap (at p) e ∙ h.0
empty_member p (y ∷ xs) x h (inr m) = empty_member p xs x h.1 m

-- what was empty stays empty where a square is emptied
still_empty : (p : Placement) (s t : ℕ) → at p t ≡ None → at (placed p s None) t ≡ None
still_empty p s t e = elim (option_cases (at (placed p s None) t)) [
  | inl none ↦ none
  | inr q ↦ absurd (none_some q.0 (sym e ∙ stood p s t q.0 q.1))
]

all_still_empty : (p : Placement) (s : ℕ) (xs : List ℕ) → AllEmpty p xs → AllEmpty (placed p s None) xs
all_still_empty p s [] h = tt
all_still_empty p s (x ∷ xs) h = (still_empty p s x h.0, all_still_empty p s xs h.1)

-- another square holds what it held
pub other_at : (p : Placement) (s t : ℕ) → 1 ≤ s → 1 ≤ t → t ≢ s → at (placed p s None) t ≡ at p t
other_at p s t low low_too ne = let apart : t - 1 ≢ s - 1 = λ e. ne (omega arith) in get_or-set_other p.cells (s - 1)
    (t - 1) None None apart

-- no square of a ray is its origin
pub apart_on_ray : (g : Geometry) → IsBoard g → (d : Dir) (s x : ℕ) → OnBoard g s → Member x (ray g s d) → x ≢ s
apart_on_ray g b d s x on m e = not_toward g d s (subst (Toward g d s) e (ray_toward g b d s x on m))

-- so it holds what it held before the origin was emptied
pub same_on_ray : (g : Geometry) → IsBoard g → (p : Placement) (d : Dir) (s x : ℕ) → OnBoard g s → Member x (ray g s d)
    → at (placed p s None) x ≡ at p x
same_on_ray g b p d s x on m = other_at p s x on.0 (ray_of_low g g.rows s d x m) (apart_on_ray g b d s x on m)

no_length : (xs : List ℕ) → length xs ≡ 0 → xs ≡ []
no_length [] e = refl
no_length (x ∷ xs) e = absurd (omega arith)

-- the first square behind an enemy is empty
pub head_free : (p : Placement) (behind : List ℕ) (t : ℕ) (beyond : List ℕ) → AllEmpty p behind → at p t ≡ None
    → (x : ℕ) × (rest : List ℕ) × (behind ++ t ∷ beyond ≡ x ∷ rest) × (at p x ≡ None)
head_free p [] t beyond clear free = (t, beyond, refl, free)
head_free p (x ∷ behind) t beyond clear free = (x, behind ++ t ∷ beyond, refl, clear.0)

pub piece_is : (piece : Piece) (side : Side) (kind_of : Kind) → piece.side ≡ side → piece.kind ≡ kind_of
    → piece ≡ record { side = side; kind = kind_of }
piece_is piece side kind_of e f = λ i. record { side = e i; kind = f i }

pub kind_cases : (k : Kind) → (k ≡ Man) ⊎ (k ≡ King)
kind_cases Man = inl refl
kind_cases King = inr refl

pub first_jump : (g : Geometry) (p : Placement) (piece : Piece) (s : ℕ) (ts cs : List ℕ) → Jumps g p piece s ts cs
    → 0 < length cs → (c : ℕ) × (t : ℕ) × Jump g p piece s c t
first_jump g p piece s [] [] h some = absurd (omega arith)
first_jump g p piece s [] (c ∷ cs) h some = absurd h
first_jump g p piece s (t ∷ ts) [] h some = absurd h
first_jump g p piece s (t ∷ ts) (c ∷ cs) h some = (c, t, h.0)

module _ {g : Geometry} (b : IsBoard g) {p : Placement} {men kings enemies occupied : Squares}
    (sets : AreSets g p men kings enemies occupied) where
  -- one jump behind such a run
  jump_of : (kind : Kind) (from : Squares) (d : Dir)
      → ((s : ℕ) → In s from ↔ (OnBoard g s × (at p s ≡ Some (record { side = p.turn; kind = kind })))) → (n c t : ℕ)
      → (kind ≡ Man → n ≡ 0)
      → MeetsBehind g from enemies occupied d n c → step g c d ≡ Some t → (In t occupied → ⊥) → CanCapture g p
  jump_of kind from d from_is n c t man m to free =
      let h = run_of g b p occupied sets.of_all from d (λ s i. ((from_is s).0 i).0) n m.0 m.1 in
      let piece : Piece = record { side = p.turn; kind = kind } in
      let own = (from_is h.start).0 h.begins in
      let c_on : OnBoard g c = (step_is g b m.0 c d h.on m.2).on in
      let t_on : OnBoard g t = (step_is g b c t d c_on to).on in
      let enemy = (sets.of_enemies c).0 m.3 in
      let ray_is : ray g h.start d ≡ h.before ++ c ∷ ([] ++ t ∷ ray g t d) = h.on_ray
      ∙ ap (λ z. h.before ++ z) (ray_some g b m.0 c d h.on m.2 ∙ ap (λ z. c ∷ z) (ray_some g b c t d c_on to)) in
      let on_ray : Member c (ray g h.start d) = subst (Member c) (sym ray_is) (mem_at c h.before (t ∷ ray g t d)) in
      let jump : Jump g (placed p h.start None) piece h.start c t = record {
        dir = d;
        before = h.before;
        behind = [];
        beyond = ray g t d;
        on_ray = ray_is;
        clear = all_still_empty p h.start h.before h.clear;
        enemy = (enemy.1.0, same_on_ray g b p d h.start c own.0 on_ray ∙ enemy.1.1);
        clear_behind = tt;
        free = still_empty p h.start t (is_free g p occupied t sets.of_all t_on free);
        man = λ q. (no_length h.before (h.steps ∙ man q), refl);
      } in
      let path : Path g p h.start (t ∷ []) (c ∷ []) =
      record {
        piece = piece;
        stands = record { on_board = own.0; there = own.1; own = refl };
        jumps = (jump, tt);
        once = ((λ i. i), tt);
      } in
      (h.start, t ∷ [], c ∷ [], path, omega arith)

  pub takes_capture : (d : Dir) → Takes g men kings enemies occupied d → CanCapture g p
  takes_capture d h = elim h.2 [
    | inl m ↦ jump_of Man men d sets.of_men 0 h.0 h.1 (λ _. refl) m h.3 h.4
    | inr m ↦ jump_of King kings d sets.of_kings m.0 h.0 h.1 (λ q. cc) m.1 h.3 h.4
  ]

  -- what a jump takes is met from its start, and the next square is empty
  pub jump_meets : (s c t : ℕ) (piece : Piece) → Stands g p s piece → (j : Jump g (placed p s None) piece s c t)
      → (from : Squares) → In s from
      → (u : ℕ) × MeetsBehind g from enemies occupied j.dir (length j.before) c × (step g c j.dir ≡ Some u)
      × (In u occupied → ⊥)
  jump_meets s c t piece stands j from i =
      let d : Dir = j.dir in
      let next = head_free (placed p s None) j.behind t j.beyond j.clear_behind j.free in
      let ray_is : ray g s d ≡ j.before ++ c ∷ (next.0 ∷ next.1) = j.on_ray ∙ ap (λ z. j.before ++ c ∷ z) next.2 in
      let empty_on : (x : ℕ) → Member x (ray g s d) → at (placed p s None) x ≡ None → In x occupied
      → ⊥ = λ x i e. is_out g p occupied x sets.of_all
      (sym (same_on_ray g b p d s x stands.on_board i) ∙ e) in
      let free : (x : ℕ) → Member x j.before → In x occupied
      → ⊥ = λ x i. empty_on x (subst (Member x) (sym j.on_ray) (mem_left x j.before (c ∷ (j.behind ++ t ∷ j.beyond))
      i)) (empty_member (placed p s None) j.before x j.clear i) in
      let behind : In next.0 occupied
      → ⊥ = empty_on next.0 (subst (Member next.0) (sym ray_is) (mem_right next.0 j.before (c ∷ (next.0 ∷ next.1))
      (inr (inl refl)))) next.3 in
      let enemy_at : at p c ≡ Some (record { side = other p.turn; kind = j.enemy.0 }) =
      stood p s c (record { side = other piece.side; kind = j.enemy.0 }) j.enemy.1
      ∙ ap (λ z. Some (record { side = other z; kind = j.enemy.0 })) stands.own in
      let w : Walked g from occupied d (length j.before) c (next.0 ∷ next.1) = walk g b from occupied d j.before 0
      (length j.before) s c (next.0 ∷ next.1) (omega arith) i stands.on_board ray_is free in (
        next.0,
        (w.last, w.runs, w.steps, (sets.of_enemies c).1 (w.on, (j.enemy.0, enemy_at))),
        (ray_head g b c next.0 next.1 d w.on w.ray_is).0,
        behind,
      )

  jump_takes : (s c t : ℕ) (piece : Piece) → Stands g p s piece → Jump g (placed p s None) piece s c t → (d : Dir)
      × Takes g men kings enemies occupied d
  jump_takes s c t piece stands j =
      elim (own_in sets stands) [
        | inl man ↦
            let m = jump_meets s c t piece stands j men man.1 in
            let at_once : length j.before ≡ 0 = ap length (j.man man.0).0 in
            (j.dir, (c, m.0, inl (subst (λ n. MeetsBehind g men enemies occupied j.dir n c) at_once m.1), m.2, m.3))
        | inr king ↦
            let m = jump_meets s c t piece stands j kings king.1 in
            (j.dir, (c, m.0, inr (length j.before, m.1), m.2, m.3))
      ]

  pub capture_takes : CanCapture g p → (d : Dir) × Takes g men kings enemies occupied d
  capture_takes h =
      let first = first_jump g (placed p h.0 None) h.3.piece h.0 h.1 h.2 h.3.jumps h.4 in
      jump_takes h.0 first.0 first.1 h.3.piece h.3.stands first.2
