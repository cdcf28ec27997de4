-- The plain lists hold exactly what the definitions say: one jump.
use Rattle.std.proofs.Common.{◌≡◌, ℕ, List, [], ◌∷◌, ◌++◌, refl, sym, ap, ◌∙◌, subst, ◌⊎◌, inl, inr, Bool, true, false}
use Rattle.std.proofs.Common.{Option, Some, None}
use Rattle.dw_board.specs.declared.piece.Side.{Side}
use Rattle.dw_board.specs.declared.piece.Side.TheVariants.{White, Black}
use Rattle.dw_board.specs.declared.piece.Kind.{Kind}
use Rattle.dw_board.specs.declared.piece.Kind.TheVariants.{Man, King}
use Rattle.dw_board.specs.declared.board.Dir.{Dir}
use Rattle.dw_board.specs.declared.board.Dir.TheVariants.{UpLeft, UpRight, DownLeft, DownRight}
use Rattle.dw_board.specs.declared.piece.Piece.{Piece}
use Rattle.dw_board.specs.Geometry.{Geometry}
use Rattle.dw_board.specs.Placement.{Placement, at, same_side}
use Rattle.dw_moves.specs.Moves.{AllEmpty, Jump, ray}
use Rattle.dw_board.specs.Lists.{Member}
use Rattle.dw_board.specs.Placement.{other}
use Rattle.dw_moves.specs.inner.Plain.{dirs, free_front, free_next, landings_for, over_enemy, man_takes, king_takes}
use Rattle.dw_moves.specs.inner.Plain.{takes_for, jump_list}
use Rattle.dw_moves.specs.inner.MemberLemmas.{mem_map, mem_map_back, mem_flat, mem_flat_back}

pub option_cases : {A : Type 0} → (o : Option A) → (o ≡ None) ⊎ ((x : A) × (o ≡ Some x))
option_cases None = inl refl
option_cases (Some x) = inr (x, refl)

pub same_side_true : (a b : Side) → same_side a b ≡ true → a ≡ b
same_side_true White White e = refl
same_side_true White Black e = cc
same_side_true Black White e = cc
same_side_true Black Black e = refl

pub same_side_refl : (a : Side) → same_side a a ≡ true
same_side_refl White = refl
same_side_refl Black = refl

-- a landing on a ray: t behind empty squares, at once for a man
pub record Lands (k : Kind) (cells : Placement) (xs : List ℕ) (t : ℕ) : Type 0 where
  pub before : List ℕ
  pub beyond : List ℕ
  pub is : xs ≡ before ++ t ∷ beyond
  pub clear : AllEmpty cells before
  pub free : at cells t ≡ None
  pub man : k ≡ Man → before ≡ []

pub front_lands : (cells : Placement) (xs : List ℕ) (t : ℕ) → Member t (free_front cells xs) → Lands King cells xs t
front_lands cells [] t m = absurd m
front_lands cells (x ∷ xs) t m = elim (option_cases (at cells x)) [
  | inl e ↦ elim (rw (e, free_front) at m) [
    | inl q ↦ record {
      before = [];
      beyond = xs;
      is = ap (λ z. z ∷ xs) (sym q);
      clear = tt;
      free =
          subst (λ z. at cells z ≡ None) (sym q) e;
      man = λ _. refl;
    }
    | inr m' ↦ let h = front_lands cells xs t m' in
        record {
          before = x ∷ h.before;
          beyond = h.beyond;
          is = ap (λ z. x ∷ z) h.is;
          clear = (e, h.clear);
          free =
              h.free;
          man = λ q. cc;
        }
  ]
  | inr e ↦ absurd (rw (e.1, free_front) at m)
]

pub front_has : (cells : Placement) (l r : List ℕ) (t : ℕ) → AllEmpty cells l → at cells t ≡ None
    → Member t (free_front cells (l ++ t ∷ r))
front_has cells [] r t c f = rw (f, free_front) (inl refl)
front_has cells (x ∷ l) r t c f = rw (c.0, free_front) (inr (front_has cells l r t c.1 f))

pub next_lands : (cells : Placement) (xs : List ℕ) (t : ℕ) → Member t (free_next cells xs) → Lands Man cells xs t
next_lands cells [] t m = absurd m
next_lands cells (x ∷ xs) t m = elim (option_cases (at cells x)) [
  | inl e ↦ elim (rw (e, free_next) at m) [
    | inl q ↦ record {
      before = [];
      beyond = xs;
      is = ap (λ z. z ∷ xs) (sym q);
      clear = tt;
      free =
          subst (λ z. at cells z ≡ None) (sym q) e;
      man = λ _. refl;
    }
    | inr m' ↦ absurd m'
  ]
  | inr e ↦ absurd (rw (e.1, free_next) at m)
]

pub next_has : (cells : Placement) (r : List ℕ) (t : ℕ) → at cells t ≡ None → Member t (free_next cells (t ∷ r))
next_has cells r t f = rw (f, free_next) (inl refl)

pub lands_from : (k : Kind) (cells : Placement) (xs : List ℕ) (t : ℕ) → Member t (landings_for k cells xs)
    → Lands k cells xs t
lands_from Man = next_lands
lands_from King = front_lands

pub lands_in : (k : Kind) (cells : Placement) (xs : List ℕ) (t : ℕ) → Lands k cells xs t
    → Member t (landings_for k cells xs)
lands_in Man cells xs t h =
    let e : xs ≡ t ∷ h.beyond = h.is ∙ ap (λ l. l ++ t ∷ h.beyond) (h.man refl) in
    rw e (next_has cells h.beyond t h.free)
lands_in King cells xs t h = rw h.is (front_has cells h.before h.beyond t h.clear h.free)

-- a capture on a ray
pub record Takes (k : Kind) (cells : Placement) (side : Side) (xs : List ℕ) (c t : ℕ) : Type 0 where
  pub before : List ℕ
  pub behind : List ℕ
  pub beyond : List ℕ
  pub is : xs ≡ before ++ c ∷ (behind ++ t ∷ beyond)
  pub clear : AllEmpty cells before
  pub enemy : (q : Kind) × (at cells c ≡ Some (record { side = other side; kind = q }))
  pub clear_behind : AllEmpty cells behind
  pub free : at cells t ≡ None
  pub man : k ≡ Man → (before ≡ []) × (behind ≡ [])

-- the enemy stands at the front of the list
enemy_takes : (k : Kind) (cells : Placement) (side : Side) (x : ℕ) (xs : List ℕ) (j : ℕ × ℕ) (piece : Piece)
    → at cells x ≡ Some piece → Member j (over_enemy cells side k (Some piece) x xs)
    → Takes k cells side (x ∷ xs) j.0 j.1
enemy_takes k cells side x xs j piece e m =
    let go : (b : Bool) → same_side piece.side (other side) ≡ b
    → Takes k cells side (x ∷ xs) j.0 j.1 = λ b. elim b as (λ v. same_side piece.side (other side) ≡ v
    → Takes k cells side (x ∷ xs) j.0 j.1) [
      | true ↦ λ s.
          let m' = rw (s, over_enemy) at m in
          let w = mem_map_back (λ t. (x, t)) j (landings_for k cells xs) m' in
          let l = lands_from k cells xs w.0 w.1 in
          let c_is : j.0 ≡ x = ap (λ (q : ℕ × ℕ). q.0) w.2 in
          let t_is : j.1 ≡ w.0 = ap (λ (q : ℕ × ℕ). q.1) w.2 in
          rw (c_is, t_is) (record {
            before = [];
            behind = l.before;
            beyond = l.beyond;
            is = ap (λ z. x ∷ z) l.is;
            clear = tt;
            enemy = (
              piece.kind,
              e ∙ ap (λ (q : Side). Some (record { side = q; kind = piece.kind }))
                  (same_side_true piece.side (other side) s),
            );
            clear_behind = l.clear;
            free = l.free;
            man = λ q. (refl, l.man q);
          })
      | false ↦ λ s. absurd (rw (s, over_enemy) at m)
    ] in
    go (same_side piece.side (other side)) refl

enemy_in : (k : Kind) (cells : Placement) (side : Side) (x : ℕ) (xs : List ℕ) (t : ℕ) (q : Kind) → Lands k cells xs t
    → Member (x, t) (over_enemy cells side k (Some (record { side = other side; kind = q })) x xs)
enemy_in k cells side x xs t q l = rw (same_side_refl (other side), over_enemy)
    (mem_map (λ t. (x, t)) t (landings_for k cells xs) (lands_in k cells xs t l))

man_from : (cells : Placement) (side : Side) (xs : List ℕ) (j : ℕ × ℕ) → Member j (man_takes cells side xs)
    → Takes Man cells side xs j.0 j.1
man_from cells side [] j m = absurd m
man_from cells side (x ∷ xs) j m = elim (option_cases (at cells x)) [
  | inl e ↦ absurd (rw (e, man_takes, over_enemy) at m)
  | inr e ↦ enemy_takes Man cells side x xs j e.0 e.1 (rw (e.1, man_takes) at m)
]

king_from : (cells : Placement) (side : Side) (xs : List ℕ) (j : ℕ × ℕ) → Member j (king_takes cells side xs)
    → Takes King cells side xs j.0 j.1
king_from cells side [] j m = absurd m
king_from cells side (x ∷ xs) j m = elim (option_cases (at cells x)) [
  | inl e ↦ let h = king_from cells side xs j (rw (e, king_takes) at m) in
      record {
        before = x ∷ h.before;
        behind = h.behind;
        beyond = h.beyond;
        is = ap (λ z. x ∷ z) h.is;
        clear =
            (e, h.clear);
        enemy = h.enemy;
        clear_behind = h.clear_behind;
        free = h.free;
        man = λ q. cc;
      }
  | inr e ↦ enemy_takes King cells side x xs j e.0 e.1 (rw (e.1, king_takes) at m)
]

king_in : (cells : Placement) (side : Side) (before xs : List ℕ) (c t : ℕ) (q : Kind) → AllEmpty cells before
    → at cells c ≡ Some (record { side = other side; kind = q }) → Lands King cells xs t
    → Member (c, t) (king_takes cells side (before ++ c ∷ xs))
king_in cells side [] xs c t q clear e l = rw (e, king_takes) (enemy_in King cells side c xs t q l)
king_in cells side (x ∷ before) xs c t q clear e l = rw (clear.0, king_takes) (king_in cells side before xs c t q
    clear.1 e l)

pub takes_from : (k : Kind) (cells : Placement) (side : Side) (xs : List ℕ) (j : ℕ × ℕ)
    → Member j (takes_for k cells side xs) → Takes k cells side xs j.0 j.1
takes_from Man = man_from
takes_from King = king_from

takes_lands : (k : Kind) (cells : Placement) (side : Side) (xs : List ℕ) (c t : ℕ) → (h : Takes k cells side xs c t)
    → Lands k cells (h.behind ++ t ∷ h.beyond) t
takes_lands k cells side xs c t h = record {
  before = h.behind;
  beyond = h.beyond;
  is = refl;
  clear = h.clear_behind;
  free = h.free;
  man = λ q. (h.man q).1;
}

pub takes_in : (k : Kind) (cells : Placement) (side : Side) (xs : List ℕ) (c t : ℕ) → Takes k cells side xs c t
    → Member (c, t) (takes_for k cells side xs)
takes_in Man cells side xs c t h =
    let e : xs ≡ c ∷ (h.behind ++ t ∷ h.beyond) = h.is ∙ ap (λ l. l ++ c ∷ (h.behind ++ t ∷ h.beyond)) (h.man refl).0 in
    let m : Member (c, t) (over_enemy cells side Man (at cells c) c (h.behind ++ t ∷ h.beyond)) =
    rw h.enemy.1 (enemy_in Man cells side c (h.behind ++ t ∷ h.beyond) t h.enemy.0 (takes_lands Man cells side xs c t
    h)) in
    rw e m
takes_in King cells side xs c t h = rw h.is (king_in cells side h.before (h.behind ++ t ∷ h.beyond) c t h.enemy.0
    h.clear h.enemy.1 (takes_lands King cells side xs c t h))

pub all_dirs : (d : Dir) → Member d dirs
all_dirs UpLeft = inl refl
all_dirs UpRight = inr (inl refl)
all_dirs DownLeft = inr (inr (inl refl))
all_dirs DownRight = inr (inr (inr (inl refl)))

-- what can be taken on a ray is a jump in its direction
pub jump_along : (g : Geometry) (cells : Placement) (piece : Piece) (s c t : ℕ) (d : Dir)
    → Member (c, t) (takes_for piece.kind cells piece.side (ray g s d)) → (j : Jump g cells piece s c t) × (j.dir ≡ d)
jump_along g cells piece s c t d m =
    let h = takes_from piece.kind cells piece.side (ray g s d) (c, t) m in (
      record {
        dir = d;
        before = h.before;
        behind = h.behind;
        beyond = h.beyond;
        on_ray = h.is;
        clear = h.clear;
        enemy =
            h.enemy;
        clear_behind = h.clear_behind;
        free = h.free;
        man = h.man;
      },
      refl,
    )

-- the list of jumps holds the jumps
pub jump_from : (g : Geometry) (cells : Placement) (piece : Piece) (s : ℕ) (j : ℕ × ℕ)
    → Member j (jump_list g cells piece s) → Jump g cells piece s j.0 j.1
jump_from g cells piece s j m =
    let f = mem_flat_back (λ d. takes_for piece.kind cells piece.side (ray g s d)) j dirs m in
    (jump_along g cells piece s j.0 j.1 f.0 f.2).0

pub jump_in : (g : Geometry) (cells : Placement) (piece : Piece) (s c t : ℕ) → Jump g cells piece s c t
    → Member (c, t) (jump_list g cells piece s)
jump_in g cells piece s c t h =
    mem_flat (λ d. takes_for piece.kind cells piece.side (ray g s d)) h.dir (c, t) dirs (all_dirs h.dir)
    (takes_in piece.kind cells piece.side (ray g s h.dir) c t (record {
      before = h.before;
      behind = h.behind;
      beyond =
          h.beyond;
      is = h.on_ray;
      clear = h.clear;
      enemy = h.enemy;
      clear_behind = h.clear_behind;
      free = h.free;
      man =
          h.man;
    }))
