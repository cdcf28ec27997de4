-- How pairs are counted, and with them the quiet moves.
use Rattle.std.proofs.Common.{◌≡◌, ◌≢◌, ℕ, ◌+◌, zero, suc, [], ◌∷◌, ◌++◌, refl, sym, ap, ◌∙◌, subst, inl, inr, ◌↔◌}
use Rattle.std.proofs.Common.{arith, length-append}
use Rattle.std.proofs.lemmas.Bool.{cases_eq}
use Rattle.std.specs.FinSet as fin
use Rattle.std.specs.Ordering.{nat_cmp}
use Rattle.dw_board.specs.declared.board.Dir.{Dir}
use Rattle.dw_board.specs.declared.board.Dir.TheVariants.{UpLeft, UpRight, DownLeft, DownRight}
use Rattle.dw_board.specs.Geometry.{Geometry, IsBoard, Squares}
use Rattle.dw_board.specs.Placement.{Placement}
use Rattle.dw_moves.specs.Moves.{IsQuietCount, In}
use Rattle.dw_moves.specs.inner.Plain.{Counts, ManSteps, KingGoes}
use Rattle.dw_moves.proofs.AddingLemmas.{either_is, not_king, one_step}
use Rattle.dw_moves.proofs.PairLemmas.{none_are, those_same, those_then, those_four}
use Rattle.dw_moves.proofs.SquareSetLemmas.{in_none, in_rest, one_fewer, some_in}
use Rattle.dw_moves.proofs.StepBackLemmas.{step_back}
use Rattle.dw_moves.proofs.StepLemmas.{some_inj}

-- ---- counts
pub counts_same : {P Q : ℕ → ℕ → Type 0} {n : ℕ} → Counts P n → ((s t : ℕ) → P s t ↔ Q s t) → Counts Q n
counts_same c same = record { pairs = c.pairs; those = those_same c.those same; count = c.count }

-- pairs whose second squares are those of a set, and tell the first
paired : (P : ℕ → ℕ → Type 0) → ((r s t : ℕ) → P r t → P s t → r ≡ s) → (n : ℕ) (v : Squares) → fin.len v ≡ n
    → ((t : ℕ) → In t v → (s : ℕ) × P s t) → Counts (λ s t. In t v × P s t) n
paired P one zero v e from = record {
  pairs = [];
  those = none_are (λ s t h. in_none v t (fin.empty_of_len v e) h.0);
  count = refl;
}
paired P one (suc n) v e from =
    let some = some_in v (λ z. let none : fin.len v ≡ 0 = ap fin.len z ∙ fin.len-empty nat_cmp in omega arith) in
    let to : ℕ = some.0 in
    let first = from to some.1 in
    let rest : Squares = fin.remove v to in
    let fewer : fin.len rest ≡ n = omega (arith, one_fewer v to some.1) in
    let left : (t : ℕ) → In t rest ↔ (In t v × (t ≢ to)) = λ t. in_rest v to rest t refl in
    let h = paired P one n rest fewer (λ t m. from t ((left t).0 m).0) in
    record {
      pairs = (first.0, to) ∷ h.pairs;
      those = record {
        exactly = λ s t. (
          (λ m. elim m [
            | inl same ↦
                let s_is : s ≡ first.0 = ap (λ q. q.0) same in
                let t_is : t ≡ to = ap (λ q. q.1) same in (
                  subst (λ z. In z v) (sym t_is) some.1,
                  subst (λ z. P z t) (sym s_is) (subst (λ z. P first.0 z) (sym t_is) first.1),
                )
            | inr more ↦ let k = (h.those.exactly s t).0 more in (((left t).0 k.0).0, k.1)
          ]),
          (λ k. elim (cases_eq t to) [
            | inl t_is ↦
                let s_is : s ≡ first.0 = one s first.0 t k.1 (subst (λ z. P first.0 z) (sym t_is) first.1) in
                inl (ap (λ z. (z, t)) s_is ∙ ap (λ z. (first.0, z)) t_is)
            | inr ne ↦ inr ((h.those.exactly s t).1 ((left t).1 (k.0, ne), k.1))
          ]),
        );
        once = ((λ m. ((left to).0 ((h.those.exactly first.0 to).0 m).0).1 refl), h.those.once);
      };
      count = omega (arith, h.count);
    }

pub counted_by : (P : ℕ → ℕ → Type 0) → ((r s t : ℕ) → P r t → P s t → r ≡ s) → (v : Squares) (n : ℕ)
    → ((t : ℕ) → In t v ↔ ((s : ℕ) × P s t)) → n ≡ fin.len v → Counts P n
counted_by P one v n are n_is = counts_same (paired P one n v (sym n_is) (λ t. (are t).0))
    (λ s t. ((λ h. h.1), (λ k. ((are t).1 (s, k), k))))

-- in the four directions, where a pair tells its direction
pub counts_four : (P : Dir → ℕ → ℕ → Type 0) → ((d e : Dir) (s t : ℕ) → P d s t → P e s t → d ≡ e)
    → {n1 n2 n3 n4 : ℕ} → Counts (P UpLeft) n1 → Counts (P UpRight) n2 → Counts (P DownLeft) n3
    → Counts (P DownRight) n4 → Counts (λ s t. (d : Dir) × P d s t) ((n1 + n2) + (n3 + n4))
counts_four P tell a b c d = record {
  pairs = a.pairs ++ (b.pairs ++ (c.pairs ++ (d.pairs ++ [])));
  those = those_four P tell a.those b.those c.those d.those;
  count = omega (
    arith,
    length-append a.pairs (b.pairs ++ (c.pairs ++ (d.pairs ++ []))),
    length-append b.pairs (c.pairs ++ (d.pairs ++ [])),
    length-append c.pairs (d.pairs ++ []),
    length-append d.pairs [],
    a.count,
    b.count,
    c.count,
    d.count,
  );
}

-- steps of men are as many as the squares that they reach
pub men_counted : (g : Geometry) → IsBoard g → (p : Placement) (d : Dir) (v : Squares) (n : ℕ)
    → ((t : ℕ) → In t v ↔ ((s : ℕ) × ManSteps g p d s t)) → n ≡ fin.len v → Counts (ManSteps g p d) n
men_counted g b p d = counted_by (ManSteps g p d) (λ r s t h k.
    some_inj (sym (step_back g b r t d h.on h.steps) ∙ step_back g b s t d k.on k.steps))

pub all_counted : {g : Geometry} → IsBoard g → {p : Placement} {n1 n2 n3 n4 n5 : ℕ} → Counts (ManSteps g p UpLeft) n1
    → Counts (ManSteps g p UpRight) n2 → Counts (ManSteps g p DownLeft) n3 → Counts (ManSteps g p DownRight) n4
    → Counts (KingGoes g p) n5 → IsQuietCount g p ((n1 + n2) + (n3 + n4) + n5)
all_counted {g} b {p} c1 c2 c3 c4 kings =
    let men = counts_four (ManSteps g p) (one_step g b p) c1 c2 c3 c4 in
    let all = those_same (those_then men.those kings.those (not_king g p)) (either_is g b p) in
    record {
      moves = men.pairs ++ kings.pairs;
      exactly = all.exactly;
      once = all.once;
      count = omega (arith, length-append men.pairs kings.pairs, men.count, kings.count);
    }
