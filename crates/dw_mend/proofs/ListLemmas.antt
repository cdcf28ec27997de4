-- Lists that a loop makes, an item at a time.
use Rattle.std.proofs.Common.{◌≡◌, ◌∙◌, ℕ, ◌+◌, ◌<◌, List, [], ◌∷◌, ◌++◌, length, map, take, get_or, sym, ap}
use Rattle.std.proofs.Common.{append_assoc, append-nil, zero, suc, arith, add-zero, add-one, length-take, ◌%◌, inl, inr}
use Rattle.std.proofs.Common.{if◌then◌else◌}
use Rattle.std.specs.Prelude.{◌==◌}
use Rattle.std.proofs.lemmas.Bool.{cases_Bool, eq-eqb, ne_eqb}
use Rattle.std.specs.List.{flat_map, range_with_len}
use Rattle.std.proofs.lemmas.List.{take_more, map_push}
use Rattle.std.proofs.lemmas.Grind.{flat_map-append}

-- the first i + 1 items
pub one_more : {X : Type 0} (xs : List X) (i : ℕ) (x : X) → i < length xs → x ≡ get_or xs i x
    → take (i + 1) xs ≡ take i xs ++ x ∷ []
one_more xs i x low is = take_more xs i x low ∙ ap (λ z. take i xs ++ z ∷ []) (sym is)

-- a list that has some items more, which a function gives of one
pub flat_next : {X Y : Type 0} (f : X → List Y) (old now new : List Y) (xs : List X) (i : ℕ) (x : X)
    → i < length xs → x ≡ get_or xs i x → now ≡ old ++ flat_map f (take i xs) → new ≡ now ++ f x
    → new ≡ old ++ flat_map f (take (i + 1) xs)
flat_next f old now new xs i x low is so_far pushed =
    pushed ∙ (ap (λ z. z ++ f x) so_far ∙ (append_assoc old (flat_map f (take i xs)) (f x)
    ∙ ap (λ z. old ++ z) (sym (ap (flat_map f) (one_more xs i x low is)
    ∙ (flat_map-append f (take i xs) (x ∷ []) ∙ ap (λ z. flat_map f (take i xs) ++ z) (append-nil (f x)))))))

-- ---- the squares of a board
range_suc : (a n : ℕ) → range_with_len a (suc n) ≡ range_with_len a n ++ (a + n) ∷ []
range_suc a zero = ap (λ k. k ∷ []) (sym (add-zero a))
range_suc a (suc n) = ap (λ t. a ∷ t) (range_suc (a + 1) n
    ∙ ap (λ k. range_with_len (a + 1) n ++ k ∷ []) (let e : a + 1 + n ≡ a + suc n = omega arith in e))

pub range_next : (n : ℕ) → range_with_len 1 (n + 1) ≡ range_with_len 1 n ++ (n + 1) ∷ []
range_next n = ap (range_with_len 1) (add-one n) ∙ (range_suc 1 n
    ∙ ap (λ k. range_with_len 1 n ++ k ∷ []) (let e : 1 + n ≡ n + 1 = omega arith in e))

-- ---- the changes
-- four lists, each behind those before
pub four_joined : {X : Type 0} (one two three four none a b c d : List X) → none ≡ [] → a ≡ none ++ one → b ≡ a ++ two
    → c ≡ b ++ three → d ≡ c ++ four → d ≡ ((one ++ two) ++ three) ++ four
four_joined one two three four none a b c d n e f h k =
    k ∙ ap (λ z. z ++ four) (h ∙ ap (λ z. z ++ three) (f ∙ ap (λ z. z ++ two) (e ∙ ap (λ z. z ++ one) n)))
