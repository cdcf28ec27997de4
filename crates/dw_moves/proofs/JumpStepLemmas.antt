-- How the jumps of a piece are found square by square.
use Rattle.std.proofs.Common.{◌≡◌, ℕ, List, [], ◌∷◌, ◌++◌, map, refl, sym, ap, ◌∙◌, inl, inr, true, false, Some, None}
use Rattle.std.proofs.Common.{append_assoc, append-nil}
use Rattle.std.proofs.lemmas.List.{map-append}
use Rattle.dw_board.specs.declared.piece.Kind.{Kind}
use Rattle.dw_board.specs.declared.piece.Kind.TheVariants.{Man, King}
use Rattle.dw_board.specs.declared.piece.Side.{Side}
use Rattle.dw_board.specs.declared.piece.Piece.{Piece}
use Rattle.dw_board.specs.declared.board.Dir.{Dir}
use Rattle.dw_board.specs.Geometry.{Geometry, IsBoard, OnBoard, step, Squares}
use Rattle.dw_board.specs.Placement.{Placement, at, same_side, other}
use Rattle.dw_moves.specs.Moves.{ray, In}
use Rattle.dw_moves.specs.inner.Plain.{TakesOver, landings_for, king_takes, takes_for, over_enemy, free_step}
use Rattle.std.proofs.lemmas.Bool.{true≢false}
use Rattle.std.specs.FinSet as fin
use Rattle.dw_moves.specs.inner.Glance.{AreOf}
use Rattle.dw_moves.proofs.ExactLemmas.{option_cases, same_side_true, same_side_refl}
use Rattle.dw_moves.proofs.StepLemmas.{step_is}
use Rattle.dw_moves.proofs.RayLemmas.{ray_some, ray_none}
use Rattle.dw_moves.proofs.SquareSetLemmas.{not_both}
use Rattle.dw_moves.proofs.RunLemmas.{Freed, man_run, king_run, run_stop}

-- what was added for the squares reached, and what is still to come
pub record Added {X : Type 0} (f : ℕ → X) (g : Geometry) (p : Placement) (k : Kind) (d : Dir) (from at : ℕ)
    (old now : List X) : Type 0 where
  pub on : OnBoard g at
  pub all : now ++ map f (landings_for k p (ray g at d)) ≡ old ++ map f (landings_for k p (ray g from d))

pub added_more : {X : Type 0} (f : ℕ → X) (g : Geometry) (p : Placement) (k : Kind) (d : Dir) (from s t : ℕ)
    (old now new : List X) → k ≡ King → Added f g p k d from s old now → Freed g p s d t → new ≡ now ++ f t ∷ []
    → Added f g p k d from t old new
added_more f g p Man d from s t old now new k h e is = cc
added_more f g p King d from s t old now new k h e is =
    let one : map f (landings_for King p (ray g s d)) ≡ f t ∷ map f (landings_for King p (ray g t d)) =
    ap (map f) (king_run e) in
    record {
      on = e.on;
      all = ap (λ z. z ++ map f (landings_for King p (ray g t d))) is
          ∙ (append_assoc now (f t ∷ []) (map f (landings_for King p (ray g t d)))
          ∙ (ap (λ z. now ++ z) (sym one) ∙ h.all));
    }

pub added_last : {X : Type 0} (f : ℕ → X) (g : Geometry) (p : Placement) (k : Kind) (d : Dir) (from s t : ℕ)
    (old now new : List X) → k ≡ Man → Added f g p k d from s old now → Freed g p s d t → new ≡ now ++ f t ∷ []
    → new ≡ old ++ map f (landings_for k p (ray g from d))
added_last f g p Man d from s t old now new k h e is =
    let one : map f (landings_for Man p (ray g s d)) ≡ f t ∷ [] = ap (map f) (man_run e) in
    is ∙ (ap (λ z. now ++ z) (sym one) ∙ h.all)
added_last f g p King d from s t old now new k h e is = cc

pub added_stop : {X : Type 0} (f : ℕ → X) (g : Geometry) → IsBoard g
    → (p : Placement) (k : Kind) (d : Dir) (from s : ℕ) (old now : List X) → Added f g p k d from s old now
    → free_step g p s d ≡ None → now ≡ old ++ map f (landings_for k p (ray g from d))
added_stop f g b p k d from s old now h e =
    sym (append-nil now) ∙ (ap (λ z. now ++ z) (ap (map f) (sym (run_stop g b k p s d h.on e))) ∙ h.all)

-- a king's jumps are those from the square reached
pub record Reached (g : Geometry) (p : Placement) (d : Dir) (from at : ℕ) : Type 0 where
  pub on : OnBoard g at
  pub takes : (side : Side) → king_takes p side (ray g from d) ≡ king_takes p side (ray g at d)

pub reached_more : (g : Geometry) (p : Placement) (d : Dir) (from s t : ℕ) → Reached g p d from s → Freed g p s d t
    → Reached g p d from t
reached_more g p d from s t h f = record {
  on = f.on;
  takes = λ side. h.takes side ∙ (ap (king_takes p side) f.ray_is ∙ rw (f.free, king_takes) refl);
}

met_piece : (k : Kind) (p : Placement) (side : Side) (c : ℕ) (cs : List ℕ) (q : Piece) → at p c ≡ Some q
    → takes_for k p side (c ∷ cs) ≡ over_enemy p side k (Some q) c cs
met_piece Man p side c cs q e = rw e refl
met_piece King p side c cs q e = rw (e, king_takes) refl

-- past the edge a man meets nothing, nor where no enemy stands on the next square
pub man_edge : (g : Geometry) (p : Placement) (side : Side) (d : Dir) (from : ℕ) → step g from d ≡ None
    → takes_for Man p side (ray g from d) ≡ []
man_edge g p side d from e = ap (takes_for Man p side) (ray_none g from d e)

pub man_other : (g : Geometry) → IsBoard g → (p : Placement) (side : Side) (d : Dir) (from c : ℕ) (enemies : Squares)
    → OnBoard g from → step g from d ≡ Some c → AreOf g p (other side) enemies → fin.contains enemies c ≡ false
    → takes_for Man p side (ray g from d) ≡ []
man_other g b p side d from c enemies on s are out =
    ap (takes_for Man p side) (ray_some g b from c d on s) ∙ elim (option_cases (at p c)) [
      | inl none ↦ rw (none, over_enemy) refl
      | inr q ↦
          let enemy_in : same_side q.0.side (other side) ≡ true → In c enemies = λ e.
          let own : q.0.side ≡ other side = same_side_true q.0.side (other side) e in
          (are c).1 (
            (step_is g b from c d on s).on,
            (
              q.0.kind,
              q.1 ∙ (λ i. Some (record {
                side = own i;
                kind = q.0.kind;
              })),
            ),
          ) in
          let friend : same_side q.0.side (other side) ≡ false = not_both (same_side q.0.side (other side))
          (λ e. true≢false (sym (enemy_in e) ∙ out)) in
          met_piece Man p side c (ray g c d) q.0 q.1 ∙ rw (friend, over_enemy) refl
    ]

-- an enemy is met behind squares over which nothing is taken
pub met_enemy : (g : Geometry) → IsBoard g → (p : Placement) (k : Kind) (side : Side) (d : Dir) (from before c : ℕ)
    (enemies : Squares) → OnBoard g before → takes_for k p side (ray g from d) ≡ takes_for k p side (ray g before d)
    → step g before d ≡ Some c → AreOf g p (other side) enemies → In c enemies → TakesOver k g p side from d c
met_enemy g b p k side d from before c enemies on same s are there =
    let e = (are c).0 there in
    let f : same_side (other side) (other side) ≡ true = same_side_refl (other side) in
    same ∙ (ap (takes_for k p side) (ray_some g b before c d on s)
    ∙ (met_piece k p side c (ray g c d) (record { side = other side; kind = e.1.0 }) e.1.1 ∙ rw (f, over_enemy) refl))

-- what is added one after another
pub added_both : {X Y : Type 0} (f : Y → X) (a b : List Y) (old now new : List X) → now ≡ old ++ map f a
    → new ≡ now ++ map f b → new ≡ old ++ map f (a ++ b)
added_both f a b old now new ha hb = hb ∙ (ap (λ z. z ++ map f b) ha ∙ (append_assoc old (map f a) (map f b)
    ∙ ap (λ z. old ++ z) (sym (map-append f a b))))

pub added_four : {X Y : Type 0} (f : Y → X) (a b c d : List Y) (l0 l1 l2 l3 l4 : List X) → l1 ≡ l0 ++ map f a
    → l2 ≡ l1 ++ map f b → l3 ≡ l2 ++ map f c → l4 ≡ l3 ++ map f d → l4 ≡ l0 ++ map f (a ++ (b ++ (c ++ (d ++ []))))
added_four f a b c d l0 l1 l2 l3 l4 ha hb hc hd =
    added_both f a (b ++ (c ++ (d ++ []))) l0 l1 l4 ha (added_both f b (c ++ (d ++ [])) l1 l2 l4 hb
    (added_both f c (d ++ []) l2 l3 l4 hc (added_both f d [] l3 l4 l4 hd (sym (append-nil l4)))))
