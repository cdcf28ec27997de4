-- Drawings, square by square.
use Rattle.std.proofs.Common.{◌≡◌, ℕ, ◌+◌, ◌∙◌, ap, sym, List, [], ◌∷◌, ◌++◌, flat_map, arith, add_comm}
use Rattle.std.specs.List.{range_with_len}
use Rattle.std.proofs.lemmas.List.{append-nil}
use Rattle.std.proofs.lemmas.List.FromFn.{map-range_with_len_more}
use Rattle.std.proofs.lemmas.Grind.{flat_map-append}
use Rattle.std.proofs.Common.{suc, zero, add-zero, add-one}

range_more : (a n : ℕ) → range_with_len a (suc n) ≡ range_with_len a n ++ (a + n) ∷ []
range_more a zero = ap (λ k. k ∷ []) (sym (add-zero a))
range_more a (suc n) = ap (λ t. a ∷ t) (range_more (a + 1) n ∙ ap (λ k. range_with_len (a + 1) n ++ k ∷ [])
    (let e : a + 1 + n ≡ a + suc n = omega arith in e))

-- one more of the first numbers, from 1 on
pub first_more : (f : ℕ → List ℕ) (n : ℕ) → flat_map f (range_with_len 1 (n + 1))
    ≡ flat_map f (range_with_len 1 n) ++ f (n + 1)
first_more f n =
    ap (λ k. flat_map f (range_with_len 1 k)) (add-one n)
    ∙ (ap (flat_map f) (range_more 1 n ∙ ap (λ k. range_with_len 1 n ++ k ∷ []) (add_comm 1 n))
    ∙ (flat_map-append f (range_with_len 1 n) ((n + 1) ∷ [])
    ∙ ap (λ t. flat_map f (range_with_len 1 n) ++ t) (append-nil (f (n + 1)))))
