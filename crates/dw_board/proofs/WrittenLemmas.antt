-- The pieces of a side, one square after another, as a FEN text lists them.
use Rattle.std.proofs.Common.{◌≡◌, ℕ, suc, zero, ◌+◌, ◌-◌, ◌*◌, ◌≤◌, ◌<◌, Bool, true, false, cond, List, [], ◌∷◌, ◌++◌}
use Rattle.std.proofs.Common.{length, take, get_or, map, filter, count_by, None, refl, sym, ap, ◌∙◌, arith}
use Rattle.std.proofs.Common.{if◌then◌else◌, codes, append_assoc, length-append, add-zero, add-one, add_comm, inl, inr}
use Rattle.std.proofs.Common.{decimal}
use Rattle.std.specs.List.{join_with_byte, range_with_len}
use Rattle.std.proofs.lemmas.Bool.{cases_Bool}
use Rattle.std.proofs.lemmas.List.Elements.{filter-append}
use Rattle.std.proofs.lemmas.List.{append-nil, map-append}
use Rattle.dw_board.specs.FenText.{item_text, king_mark}
use Rattle.std.proofs.lemmas.List.Sums.{count_by_more_yes, count_by_more_no, sum_by-take-le}
use Rattle.dw_board.specs.declared.piece.Side.{Side}
use Rattle.dw_board.specs.Placement.{Placement, at, is_of, count, IsPosition}
use Rattle.dw_board.specs.Geometry.{Geometry, IsBoard, squares}
use Rattle.dw_board.specs.declared.piece.Side.TheVariants.{White, Black}

-- the squares up to n on which a side stands
abbrev pub held : Placement → Side → ℕ → List ℕ
held p side n = filter (λ s. is_of side (at p s)) (range_with_len 1 n)

abbrev pub is_nil : {A : Type 0} → List A → Bool
is_nil [] = true
is_nil (x ∷ xs) = false

pub range_more : (a n : ℕ) → range_with_len a (suc n) ≡ range_with_len a n ++ (a + n) ∷ []
range_more a zero = ap (λ k. k ∷ []) (sym (add-zero a))
range_more a (suc n) = ap (λ t. a ∷ t) (range_more (a + 1) n ∙ ap (λ k. range_with_len (a + 1) n ++ k ∷ [])
    (let e : a + 1 + n ≡ a + suc n = omega arith in e))

held-more : (p : Placement) (side : Side) (n : ℕ) → held p side (n + 1)
    ≡ held p side n ++ cond (is_of side (at p (n + 1))) ((n + 1) ∷ []) []
held-more p side n =
    ap (held p side) (add-one n)
    ∙ (ap (filter (λ s. is_of side (at p s))) (range_more 1 n ∙ ap (λ k. range_with_len 1 n ++ k ∷ []) (add_comm 1 n))
    ∙ filter-append (λ s. is_of side (at p s)) (range_with_len 1 n) ((n + 1) ∷ []))

pub held-with : (p : Placement) (side : Side) (n : ℕ) → is_of side (at p (n + 1)) ≡ true → held p side (n + 1)
    ≡ held p side n ++ (n + 1) ∷ []
held-with p side n e = held-more p side n ∙ ap (λ b. held p side n ++ cond b ((n + 1) ∷ []) []) e

pub held-past : (p : Placement) (side : Side) (n : ℕ) → is_of side (at p (n + 1)) ≡ false → held p side (n + 1)
    ≡ held p side n
held-past p side n e = held-more p side n ∙ (ap (λ b. held p side n ++ cond b ((n + 1) ∷ []) []) e ∙ append-nil _)

pub length-held : (p : Placement) (side : Side) (n : ℕ) → n ≤ length p.cells → length (held p side n)
    ≡ count_by (is_of side) (take n p.cells)
length-held p side zero h = refl
length-held p side (suc n) h =
    let low : n < length p.cells = omega arith in
    let here : n + 1 - 1 ≡ n = omega arith in
    ap (λ k. length (held p side k)) (sym (add-one n)) ∙ (elim (cases_Bool (is_of side (at p (n + 1)))) [
      | inl e ↦ ap length (held-with p side n e) ∙ (length-append (held p side n) _
          ∙ (ap (λ k. k + 1) (length-held p side n (omega arith))
          ∙ sym (count_by_more_yes (is_of side) p.cells n None low (ap (λ k. is_of side (get_or p.cells k None))
          (sym here) ∙ e))))
      | inr e ↦ ap length (held-past p side n e) ∙ (length-held p side n (omega arith)
          ∙ sym (count_by_more_no (is_of side) p.cells n None low (ap (λ k. is_of side (get_or p.cells k None))
          (sym here) ∙ e)))
    ] ∙ ap (λ k. count_by (is_of side) (take k p.cells)) (add-one n))

pub length-held-le : (p : Placement) (side : Side) (n : ℕ) → n ≤ length p.cells → length (held p side n) ≤ count p side
length-held-le p side n h = omega (
  arith,
  length-held p side n h,
  sum_by-take-le (λ x. cond (is_of side x) 1 0) p.cells n,
)

-- one more item, with a comma before it unless it is the first
pub join-more : (c : ℕ) (xs : List (List ℕ)) (x : List ℕ) → join_with_byte c (xs ++ x ∷ []) ≡ join_with_byte c xs
    ++ ((if is_nil xs then [] else c ∷ []) ++ x)
join-more c [] x = refl
join-more c (y ∷ []) x = refl
join-more c (y ∷ z ∷ xs) x = ap (λ t. y ++ (c ∷ t)) (join-more c (z ∷ xs) x)
    ∙ sym (append_assoc y (c ∷ join_with_byte c (z ∷ xs)) (c ∷ x))

pub is_nil-more : {A : Type 0} (xs : List A) (x : A) → is_nil (xs ++ x ∷ []) ≡ false
is_nil-more [] x = refl
is_nil-more (y ∷ xs) x = refl

pub is_nil-map : {A B : Type 0} (f : A → B) (xs : List A) → is_nil (map f xs) ≡ is_nil xs
is_nil-map f [] = refl
is_nil-map f (x ∷ xs) = refl

-- a text that holds a start and the items of the squares up to n
pub record IsWrittenTo (p : Placement) (side : Side) (n : ℕ) (start text : List ℕ) (first : Bool) : Type 0 where
  pub text_is : text ≡ start ++ join_with_byte 44 (map (item_text p) (held p side n))
  pub first_is : first ≡ is_nil (held p side n)
  pub few : length text ≤ length start + 4 * length (held p side n)

pub IsWrittenTo-none : (p : Placement) (side : Side) (start : List ℕ) → IsWrittenTo p side 0 start start true
IsWrittenTo-none p side start = record { text_is = sym (append-nil start); first_is = refl; few = omega arith }

pub IsWrittenTo-with : (p : Placement) (side : Side) (n : ℕ) (start old text : List ℕ) (was first : Bool)
    → IsWrittenTo p side n start old was
    → is_of side (at p (n + 1)) ≡ true → text ≡ old ++ (if was then [] else codes ",") ++ king_mark (at p (n + 1))
    ++ decimal (n + 1) → length text ≤ length old + 4 → first ≡ false → IsWrittenTo p side (n + 1) start text first
IsWrittenTo-with p side n start old text was first h there more small now =
    let e = held-with p side n there in
    let items = map (item_text p) (held p side n) in
    let comma = if was then [] else codes "," in
    record {
      text_is = more ∙ (append_assoc (old ++ comma) (king_mark (at p (n + 1))) (decimal (n + 1))
          ∙ (append_assoc old comma (item_text p (n + 1))
          ∙ (ap (λ t. t ++ (comma ++ item_text p (n + 1))) h.text_is
          ∙ (append_assoc start (join_with_byte 44 items) (comma ++ item_text p (n + 1))
          ∙ ap (λ t. start ++ t) (ap (λ b. join_with_byte 44 items
          ++ ((if b then [] else codes ",") ++ item_text p (n + 1))) (h.first_is
          ∙ sym (is_nil-map (item_text p) (held p side n)))
          ∙ (sym (join-more 44 items (item_text p (n + 1)))
          ∙ ap (join_with_byte 44) (sym (map-append (item_text p) (held p side n) ((n + 1) ∷ [])))
          ∙ ap (λ t. join_with_byte 44 (map (item_text p) t)) (sym e)))))));
      first_is = now ∙ sym (ap is_nil e ∙ is_nil-more (held p side n) (n + 1));
      few = let k = ap length e ∙ length-append (held p side n) ((n + 1) ∷ []) in let m = h.few in omega arith;
    }

side_few : (g : Geometry) → IsBoard g → (p : Placement) → IsPosition g p.cells → (side : Side) → count p side ≤ 20
side_few g b p h White = omega (arith, h.white_fits, b.side_high)
side_few g b p h Black = omega (arith, h.black_fits, b.side_high)

pub held-few : (g : Geometry) → IsBoard g → (p : Placement) → IsPosition g p.cells → (side : Side) (n : ℕ)
    → n ≤ squares g → length (held p side n) ≤ 20
held-few g b p h side n low = omega (
  arith,
  length-held-le p side n (omega (arith, h.fifty, b.squares_high)),
  side_few g b p h side,
)

-- there is room for one more piece
pub room_for : (g : Geometry) → IsBoard g → (p : Placement) → IsPosition g p.cells
    → (side : Side) (n : ℕ) (start text : List ℕ) (first : Bool) → IsWrittenTo p side n start text first
    → n < squares g → is_of side (at p (n + 1)) ≡ true → length start + 80 ≤ 192 → length text + 4 ≤ 192
room_for g b p h side n start text first w low there room =
    let more = ap length (held-with p side n there) ∙ length-append (held p side n) ((n + 1) ∷ []) in
    let all = held-few g b p h side (n + 1) (omega arith) in
    let few = w.few in
    omega arith
