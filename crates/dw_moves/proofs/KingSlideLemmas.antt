-- How the quiet moves of kings are counted: all kings slide together, and each square is reached from one king alone.
use Rattle.std.proofs.Common.{◌≡◌, ℕ, ◌+◌, ◌||◌, zero, suc, List, [], ◌∷◌, ◌++◌, length, refl, sym, ap, ◌∙◌, subst, inl}
use Rattle.std.proofs.Common.{inr, ◌↔◌, arith}
use Rattle.std.proofs.lemmas.Bool.{true≢false, cases_eq, eq-eqb, ne_eqb}
use Rattle.std.specs.FinSet as fin
use Rattle.std.specs.Ordering.{nat_cmp}
use Rattle.dw_board.specs.declared.board.Dir.{Dir}
use Rattle.dw_board.specs.declared.board.Dir.TheVariants.{UpLeft, UpRight, DownLeft, DownRight}
use Rattle.dw_board.specs.declared.piece.Kind.TheVariants.{King}
use Rattle.dw_board.specs.Geometry.{Geometry, IsBoard, OnBoard, Squares}
use Rattle.dw_board.specs.Lists.{Member}
use Rattle.dw_board.specs.Placement.{Placement}
use Rattle.dw_board.specs.Slides.{SlidesTo}
use Rattle.dw_moves.specs.Moves.{ray, In}
use Rattle.dw_moves.specs.inner.MemberLemmas.{mem_at, mem_flat, mem_flat_back}
use Rattle.dw_moves.specs.inner.Plain.{dirs, free_front, goes, Counts, KingGoes, KingLands}
use Rattle.dw_moves.proofs.ExactLemmas.{all_dirs, front_has, front_lands}
use Rattle.dw_moves.proofs.FirstJumpLemmas.{empty_member}
use Rattle.dw_moves.proofs.GlanceSetLemmas.{AreKind}
use Rattle.dw_moves.proofs.SquareSetLemmas.{contains-insert}
use Rattle.dw_moves.proofs.PairLemmas.{none_are}
use Rattle.dw_moves.proofs.RayLemmas.{ray_some, ray_toward, one_dir}
use Rattle.dw_moves.proofs.SlideLemmas.{AreAll, is_free, is_out, run_of, walk}
use Rattle.dw_moves.proofs.SquareSetLemmas.{in_none, in_minus}
use Rattle.dw_moves.proofs.StepBackLemmas.{step_back}
use Rattle.dw_moves.proofs.StepLemmas.{some_inj, step_is}
use Rattle.dw_moves.proofs.TallyLemmas.{counted_by, counts_same, counts_four}

pub one_in : (q : ℕ) → In q (fin.insert fin.empty q)
one_in q = contains-insert fin.empty q q ∙ ap (λ z. z || fin.contains {R = nat_cmp} fin.empty q) (eq-eqb q q refl)

pub in_one : (q x : ℕ) → In x (fin.insert fin.empty q) → x ≡ q
in_one q x h = elim (cases_eq x q) [
  | inl e ↦ e
  | inr ne ↦ absurd (true≢false (sym h
      ∙ (contains-insert fin.empty q x ∙ (ap (λ z. z || fin.contains {R = nat_cmp} fin.empty x) (ne_eqb x q ne)
      ∙ fin.contains-empty nat_cmp x))))
]

-- ---- the four directions
lands_toward : (g : Geometry) → IsBoard g → (p : Placement) (d e : Dir) (s t : ℕ) → KingLands g p d s t
    → KingLands g p e s t → d ≡ e
lands_toward g b p d e s t h k =
    let a = front_lands p (ray g s d) t h.lands in
    let c = front_lands p (ray g s e) t k.lands in
    one_dir g s t d e
    (ray_toward g b d s t h.on (subst (Member t) (sym a.is) (mem_at t a.before a.beyond)))
    (ray_toward g b e s t h.on (subst (Member t) (sym c.is) (mem_at t c.before c.beyond)))

-- a king's moves are those in each direction
lands_are : (g : Geometry) (p : Placement) (s t : ℕ) → ((d : Dir) × KingLands g p d s t) ↔ KingGoes g p s t
lands_are g p s t =
    let f : Dir → List ℕ = goes King g p p.turn s in (
      (λ h. record { on = h.1.on; there = h.1.there; goes = mem_flat f h.0 t dirs (all_dirs h.0) h.1.lands }),
      (λ h. let r = mem_flat_back f t dirs h.goes in (r.0, record { on = h.on; there = h.there; lands = r.2 })),
    )

-- without kings there are none
pub no_kings_counted : (g : Geometry) (p : Placement) (kings : Squares) → AreKind g p p.turn King kings
    → kings ≡ fin.empty → Counts (KingGoes g p) 0
no_kings_counted g p kings are none = record {
  pairs = [];
  those = none_are (λ s t h. in_none kings s none ((are s).1 (h.on, h.there)));
  count = refl;
}

pub kings_counted : {g : Geometry} → IsBoard g → {p : Placement} {n1 n2 n3 n4 : ℕ} → Counts (KingLands g p UpLeft) n1
    → Counts (KingLands g p UpRight) n2 → Counts (KingLands g p DownLeft) n3 → Counts (KingLands g p DownRight) n4
    → Counts (KingGoes g p) ((n1 + n2) + (n3 + n4))
kings_counted {g} b {p} c1 c2 c3 c4 = counts_same (counts_four (KingLands g p) (lands_toward g b p) c1 c2 c3 c4)
    (lands_are g p)

-- ---- one direction
-- slides over free squares that begin on barred ones and end on one square have begun on one square
slides_meet : (g : Geometry) → IsBoard g → (barred from other : Squares) (d : Dir)
    → ((s : ℕ) → In s from → OnBoard g s × In s barred) → ((s : ℕ) → In s other → OnBoard g s × In s barred)
    → (n m t : ℕ) → SlidesTo g from barred d n t → SlidesTo g other barred d m t → (s : ℕ) × (In s from × In s other)
slides_meet g b barred from other d f o zero zero t h k = (t, (h, k))
slides_meet g b barred from other d f o zero (suc m) t h k = absurd (k.3 (f t h).1)
slides_meet g b barred from other d f o (suc n) zero t h k = absurd (h.3 (o t k).1)
slides_meet g b barred from other d f o (suc n) (suc m) t h k =
    let on = slide_on g b barred from d (λ s i. (f s i).0) n h.0 h.1 in
    let on_too = slide_on g b barred other d (λ s i. (o s i).0) m k.0 k.1 in
    let back_is = step_back g b h.0 t d on h.2 in
    let back_too = step_back g b k.0 t d on_too k.2 in
    let same : k.0 ≡ h.0 = some_inj (sym back_too ∙ back_is) in
    slides_meet g b barred from other d f o n m h.0 h.1 (subst (λ z. SlidesTo g other barred d m z) same k.1)
  where
    slide_on : (g : Geometry) → IsBoard g → (barred from : Squares) (d : Dir) → ((s : ℕ) → In s from → OnBoard g s)
        → (n t : ℕ) → SlidesTo g from barred d n t → OnBoard g t
    slide_on g b barred from d on zero t r = on t r
    slide_on g b barred from d on (suc n) t r = (step_is g b r.0 t d (slide_on g b barred from d on n r.0 r.1) r.2).on

module _ (g : Geometry) (b : IsBoard g) (p : Placement) (d : Dir) (kings occupied : Squares)
    (kings_are : AreKind g p p.turn King kings) (all : AreAll g p occupied) where
  king_stands : (s : ℕ) → In s kings → OnBoard g s × In s occupied
  king_stands s i = let h = (kings_are s).0 i in (h.0, (all s).1 (h.0, (record { side = p.turn; kind = King }, h.1)))

  -- a king that lands slides, alone or with others
  lands_slides : (from : Squares) (s t : ℕ) → In s from → KingLands g p d s t
      → (n : ℕ) × SlidesTo g from occupied d (suc n) t
  lands_slides from s t i h =
      let l = front_lands p (ray g s d) t h.lands in
      let w = walk g b from occupied d l.before 0 (length l.before) s t l.beyond (omega arith) i h.on l.is
      (λ x m. is_out g p occupied x all (empty_member p l.before x l.clear m)) in
      (length l.before, (w.last, w.runs, w.steps, is_out g p occupied t all l.free))

  slides_lands : (n t : ℕ) → SlidesTo g kings occupied d (suc n) t → (s : ℕ) × KingLands g p d s t
  slides_lands n t r =
      let h = run_of g b p occupied all kings d (λ s i. (king_stands s i).0) n r.0 r.1 in
      let king = (kings_are h.start).0 h.begins in
      let on : OnBoard g t = (step_is g b r.0 t d h.on r.2).on in
      let ray_is : ray g h.start d ≡ h.before ++ t ∷ ray g t d = h.on_ray
      ∙ ap (λ z. h.before ++ z) (ray_some g b r.0 t d h.on r.2) in (
        h.start,
        record {
          on = king.0;
          there = king.1;
          lands = subst (λ z. Member t (free_front p z)) (sym ray_is) (front_has p h.before (ray g t d) t h.clear
              (is_free g p occupied t all on r.3));
        },
      )

  king_one : (r s t : ℕ) → KingLands g p d r t → KingLands g p d s t → r ≡ s
  king_one r s t h k =
      let only : (q : ℕ) → Squares = λ q. fin.insert fin.empty q in
      let here : (q : ℕ) → In q (only q) = λ q. one_in q in
      let stands : (q x : ℕ) → KingLands g p d q t → In x (only q) → OnBoard g x × In x occupied = λ q x w i.
      let same : x ≡ q = in_one q x i in
      subst (λ z. OnBoard g z × In z occupied) (sym same) (king_stands q ((kings_are q).1 (w.on, w.there))) in
      let a = lands_slides (only r) r t (here r) h in
      let c = lands_slides (only s) s t (here s) k in
      let m = slides_meet g b occupied (only r) (only s) d (λ x i. stands r x h i) (λ x i. stands s x k i) (suc a.0)
      (suc c.0) t a.1 c.1 in
      sym (in_one r m.0 m.1.0) ∙ in_one s m.0 m.1.1

  pub run_counted : (reached v : Squares) (n : ℕ)
      → ((t : ℕ) → In t reached ↔ ((n : ℕ) × SlidesTo g kings occupied d n t)) → v ≡ fin.difference reached kings
      → n ≡ fin.len v → Counts (KingLands g p d) n
  run_counted reached v n slid v_is n_is = counted_by (KingLands g p d) king_one v n
      (λ t. (
        (λ h.
            let out = (in_minus reached kings v t v_is).0 h in
            let r = (slid t).0 out.0 in
            moved_on r.0 t r.1 out.1),
        (λ h.
            let r = lands_slides kings h.0 t ((kings_are h.0).1 (h.1.on, h.1.there)) h.1 in
            (in_minus reached kings v t v_is).1 ((slid t).1 (suc r.0, r.1), λ i. r.1.3 (king_stands t i).1)),
      )) n_is
    where
      moved_on : (n t : ℕ) → SlidesTo g kings occupied d n t → (In t kings → ⊥) → (s : ℕ) × KingLands g p d s t
      moved_on zero t r out = absurd (out r)
      moved_on (suc n) t r out = slides_lands n t r
