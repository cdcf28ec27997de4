-- Slides of a whole set: what the doublings on words reach.
use Rattle.std.proofs.Common.{◌≡◌, ℕ, zero, suc, ◌+◌, ◌-◌, ◌*◌, ◌/◌, ◌^◌, ◌≤◌, ◌<◌, Bool, true, false, not, w64, Some}
use Rattle.std.proofs.Common.{refl, sym, ap, ◌∙◌, subst, arith, inl, inr, ◌↔◌, bit_and}
use Rattle.std.specs.Int.{bit_not}
use Rattle.std.specs.FinSet as set
use Rattle.std.proofs.lemmas.Bool.{cases_Bool, cases_lt, true≢false, and_parts, and_from, or_cases, or_left, or_right}
use Rattle.dw_board.specs.declared.board.Dir.{Dir}
use Rattle.dw_board.specs.declared.board.Dir.TheVariants.{UpLeft, UpRight, DownLeft, DownRight}
use Rattle.dw_board.specs.Geometry.{Geometry, IsBoard, OnBoard, step, squares, bit, is_down, IsShift, ShiftsAreSteps}
use Rattle.dw_board.specs.Geometry.{Squares}
use Rattle.dw_board.specs.Slides.{SlidesTo}
use Rattle.dw_board.specs.SquareSet.{is_set, squares_of, OnlySquares, WholeBoard}
use Rattle.dw_board.specs.inner.GeometryLemmas.{at_boards, step-OnBoard}
use Rattle.dw_board.specs.inner.Shifting.{shifted_word}
use Rattle.dw_board.specs.inner.Sliding.{stride, moved_word, further, clearer, near_word, slid_word}
use Rattle.dw_board.specs.inner.SquareSetLemmas.{is_set-or, bit-within, bit-small, contains-here}
use Rattle.dw_board.proofs.SetLemmas.{is_set-and, is_set-minus, is_set-shr, is_set-shl_low, is_set-shl_high, shift_set}
use Rattle.dw_board.proofs.SetLemmas.{contains-shifted, squares_of-within, members-are, OnlySquares-or}
use Rattle.dw_board.proofs.SetLemmas.{OnlySquares-and_left}

-- ---- by how many bits n steps move a bit
abbrev pub places : ℕ → ℕ → ℕ
places m zero = 0
places m (suc n) = places m n + m

at_least : (k m n : ℕ) → k ≤ m → k * n ≤ places m n
at_least k m zero h = omega arith
at_least k m (suc n) h = omega (arith, at_least k m n h)

few : (r p : ℕ) → r ≡ 2 * p → 2 ≤ p → p ≤ 5 → (m n : ℕ) → p ≤ m → places m n < r * p + r / 2 → n < 16
few = at_boards (λ r p. (m n : ℕ) → p ≤ m → places m n < r * p + r / 2 → n < 16)
    (λ m n h low. let k : 2 * n ≤ places m n = at_least 2 m n h in omega arith)
    (λ m n h low. let k : 3 * n ≤ places m n = at_least 3 m n h in omega arith)
    (λ m n h low. let k : 4 * n ≤ places m n = at_least 4 m n h in omega arith)
    (λ m n h low. let k : 5 * n ≤ places m n = at_least 5 m n h in omega arith)

stride_low : (g : Geometry) (d : Dir) → g.per_row ≤ stride g d
stride_low g UpLeft = omega arith
stride_low g UpRight = omega arith
stride_low g DownLeft = omega arith
stride_low g DownRight = omega arith

-- ---- a word moved by n strides
moved_down : (w by m x y : ℕ) → x < 64 → y < 64 → y ≡ x + m → is_set (moved_word true (by + m) w) y
    ≡ is_set (moved_word true by w) x
moved_down w by m x y low small h = elim (cases_lt x by) [
  | inl less ↦ is_set-shl_low w (by + m) y small (omega arith) ∙ sym (is_set-shl_low w by x low less)
  | inr more ↦ is_set-shl_high w (by + m) y small (omega arith) ∙ ap (is_set w) (let e : y - (by + m)
      ≡ x - by = omega arith in e) ∙ sym (is_set-shl_high w by x low more)
]

moved_more : (g : Geometry) (d : Dir) (w by x y : ℕ) → x < 64 → y < 64 → IsShift g d x y
    → is_set (moved_word (is_down d) (by + stride g d) w) y ≡ is_set (moved_word (is_down d) by w) x
moved_more g UpLeft w by x y low small h =
    is_set-shr w (by + (g.per_row + 1)) y ∙ ap (is_set w) (let e : by + (g.per_row + 1) + y ≡ by + x = omega arith in e)
    ∙ sym (is_set-shr w by x)
moved_more g UpRight w by x y low small h =
    is_set-shr w (by + g.per_row) y ∙ ap (is_set w) (let e : by + g.per_row + y ≡ by + x = omega arith in e)
    ∙ sym (is_set-shr w by x)
moved_more g DownLeft w by x y low small h = moved_down w by g.per_row x y low small h
moved_more g DownRight w by x y low small h = moved_down w by (g.per_row + 1) x y low small h

-- one stride is a step
moved_once : (g : Geometry) (d : Dir) (w : ℕ) → moved_word (is_down d) (0 + stride g d) w ≡ shifted_word g d w
moved_once g UpLeft w = ap (λ n. moved_word false n w) (let e : 0 + (g.per_row + 1) ≡ g.per_row + 1 = omega arith in e)
moved_once g UpRight w = ap (λ n. moved_word false n w) (let e : 0 + g.per_row ≡ g.per_row = omega arith in e)
moved_once g DownLeft w = ap (λ n. moved_word true n w) (let e : 0 + g.per_row ≡ g.per_row = omega arith in e)
moved_once g DownRight w = ap (λ n. moved_word true n w) (let e : 0 + (g.per_row + 1) ≡ g.per_row + 1 = omega arith in
    e)

-- ---- slides one after the other
abbrev plus : ℕ → ℕ → ℕ
plus zero n = n
plus (suc m) n = suc (plus m n)

plus_is : (m n : ℕ) → plus m n ≡ m + n
plus_is zero n = omega arith
plus_is (suc m) n = omega (arith, plus_is m n)

slides_on : (g : Geometry) (from mid barred : Squares) (d : Dir) (n : ℕ) → ((s : ℕ) → set.contains mid s ≡ true
    → SlidesTo g from barred d n s)
    → (m t : ℕ) → SlidesTo g mid barred d m t → SlidesTo g from barred d (plus m n) t
slides_on g from mid barred d n h zero t r = h t r
slides_on g from mid barred d n h (suc m) t r = (r.0, slides_on g from mid barred d n h m r.0 r.1, r.2, r.3)

slides_split : (g : Geometry) (from mid barred : Squares) (d : Dir) (n : ℕ) → ((s : ℕ) → SlidesTo g from barred d n s
    → set.contains mid s ≡ true)
    → (m t : ℕ) → SlidesTo g from barred d (plus m n) t → SlidesTo g mid barred d m t
slides_split g from mid barred d n h zero t r = h t r
slides_split g from mid barred d n h (suc m) t r = (r.0, slides_split g from mid barred d n h m r.0 r.1, r.2, r.3)

-- where a slide began, and what led there leads on
slides_start : (g : Geometry) (from mid barred : Squares) (d : Dir) (m t : ℕ) → SlidesTo g mid barred d m t
    → (s : ℕ) × (set.contains mid s ≡ true) × ((n : ℕ) → SlidesTo g from barred d n s
    → SlidesTo g from barred d (plus m n) t)
slides_start g from mid barred d zero t r = (t, r, λ n h. h)
slides_start g from mid barred d (suc m) t r =
    let h = slides_start g from mid barred d m r.0 r.1 in
    (h.0, h.1, λ n k. (r.0, h.2 n k, r.2, r.3))

module _ (g : Geometry) (b : IsBoard g) (shifts : ShiftsAreSteps g) (whole_word : ℕ) (whole : WholeBoard g whole_word)
    (d : Dir) where
  within : (from barred : Squares) → ((s : ℕ) → set.contains from s ≡ true → OnBoard g s) → (n t : ℕ)
      → SlidesTo g from barred d n t → OnBoard g t
  within from barred on zero t r = on t r
  within from barred on (suc n) t r = step-OnBoard g b r.0 t d (within from barred on n r.0 r.1) r.2

  -- ---- no slide is longer than the board
  far_down : (e : Dir) → is_down e ≡ true → (x y : ℕ) → IsShift g e x y → y ≡ x + stride g e
  far_down UpLeft e x y h = absurd (true≢false (sym e))
  far_down UpRight e x y h = absurd (true≢false (sym e))
  far_down DownLeft e x y h = h
  far_down DownRight e x y h = h

  far_up : (e : Dir) → is_down e ≡ false → (x y : ℕ) → IsShift g e x y → x ≡ y + stride g e
  far_up UpLeft e x y h = h
  far_up UpRight e x y h = h
  far_up DownLeft e x y h = absurd (true≢false e)
  far_up DownRight e x y h = absurd (true≢false e)

  shift_of : (s t : ℕ) → OnBoard g s → step g s d ≡ Some t → IsShift g d (bit g s) (bit g t)
  shift_of s t on e = (shifts s t d on (step-OnBoard g b s t d on e)).0 e

  slides_down : is_down d ≡ true → (from barred : Squares) → ((s : ℕ) → set.contains from s ≡ true → OnBoard g s)
      → (n t : ℕ) → SlidesTo g from barred d n t
      → places (stride g d) n ≤ bit g t
  slides_down down from barred on zero t r = omega arith
  slides_down down from barred on (suc n) t r =
      omega (
        arith,
        slides_down down from barred on n r.0 r.1,
        far_down d down (bit g r.0) (bit g t) (shift_of r.0 t (within from barred on n r.0 r.1) r.2),
      )

  slides_up : is_down d ≡ false → (from barred : Squares) → ((s : ℕ) → set.contains from s ≡ true → OnBoard g s)
      → (n t : ℕ) → SlidesTo g from barred d n t
      → bit g t + places (stride g d) n < squares g + g.rows / 2
  slides_up up from barred on zero t r = omega (arith, bit-within g b t (on t r))
  slides_up up from barred on (suc n) t r =
      omega (
        arith,
        slides_up up from barred on n r.0 r.1,
        far_up d up (bit g r.0) (bit g t) (shift_of r.0 t (within from barred on n r.0 r.1) r.2),
      )

  slides_few : (from barred : Squares) → ((s : ℕ) → set.contains from s ≡ true → OnBoard g s) → (n t : ℕ)
      → SlidesTo g from barred d n t → n < 16
  slides_few from barred on n t r =
      let m : ℕ = places (stride g d) n in
      let low : m < squares g + g.rows / 2 = elim (cases_Bool (is_down d)) [
        | inl down ↦ omega (
          arith,
          slides_down down from barred on n t r,
          bit-within g b t (within from barred on n t r),
        )
        | inr up ↦ omega (arith, slides_up up from barred on n t r)
      ] in
      few g.rows g.per_row b.even b.low b.high (stride g d) n (stride_low g d) low

  -- ---- the squares of a word, moved over free squares
  module _ (barred : Squares) (free : ℕ) (free_is : (t : ℕ) → (set.contains (squares_of g free) t ≡ true)
      ↔ (OnBoard g t × (set.contains barred t ≡ true → ⊥))) where
    abbrev Clear : ℕ → ℕ → Type 0
    Clear n t = SlidesTo g (squares_of g free) barred d n t

    clear_on : (n t : ℕ) → Clear n t → OnBoard g t
    clear_on n t r = within (squares_of g free) barred (λ s h. ((free_is s).0 h).0) n t r

    moved_to : (w : ℕ) → OnlySquares g w → (j t : ℕ) → Clear j t
        → is_set (moved_word (is_down d) (places (stride g d) (suc j)) w) (bit g t) ≡ true
        → SlidesTo g (squares_of g w) barred d (suc j) t
    moved_to w only zero t clear e =
        let is = (free_is t).0 clear in
        let here = contains-here g (bit_and (shifted_word g d w) whole_word) t is.0
        ∙ (is_set-and (shifted_word g d w) whole_word (bit g t)
        ∙ and_from _ _ (ap (λ z. is_set z (bit g t)) (sym (moved_once g d w)) ∙ e) (whole.all t is.0)) in
        let h = (contains-shifted g b shifts w whole_word d only whole t).0 here in
        (h.0, h.1.0, h.1.1, is.1)
    moved_to w only (suc j) t clear e =
        let on = clear_on j clear.0 clear.1 in
        let to = clear_on (suc j) t clear in
        let same = moved_more g d w (places (stride g d) (suc j)) (bit g clear.0) (bit g t) (bit-small g b clear.0 on)
        (bit-small g b t to) (shift_of clear.0 t on clear.2) in
        (clear.0, moved_to w only j clear.0 clear.1 (sym same ∙ e), clear.2, clear.3)

    moved_from : (w j t : ℕ) → SlidesTo g (squares_of g w) barred d (suc j) t
        → (is_set (moved_word (is_down d) (places (stride g d) (suc j)) w) (bit g t) ≡ true) × Clear j t
    moved_from w zero t r =
        let on = squares_of-within g w r.0 r.1 in
        let to = step-OnBoard g b r.0 t d on r.2 in
        let shift = shift_set g d w (bit g r.0) (bit g t) (bit-small g b t to) (shift_of r.0 t on r.2) in (
          ap (λ z. is_set z (bit g t)) (moved_once g d w) ∙ (shift ∙ (sym (contains-here g w r.0 on) ∙ r.1)),
          (free_is t).1 (to, r.3),
        )
    moved_from w (suc j) t r =
        let h = moved_from w j r.0 r.1 in
        let on = clear_on j r.0 h.1 in
        let to = step-OnBoard g b r.0 t d on r.2 in
        let same = moved_more g d w (places (stride g d) (suc j)) (bit g r.0) (bit g t) (bit-small g b r.0 on)
        (bit-small g b t to) (shift_of r.0 t on r.2) in
        (same ∙ h.0, (r.0, h.1, r.2, r.3))

    -- ---- the doublings: what is reached in at most j steps, and what is clear with the j squares before it
    record Doubled (word j reached clear : ℕ) : Type 0 where
      pub reach : (t : ℕ) → (set.contains (squares_of g reached) t ≡ true)
          ↔ ((n : ℕ) × (n < suc j) × SlidesTo g (squares_of g word) barred d n t)
      pub clears : (t : ℕ) → (set.contains (squares_of g clear) t ≡ true) ↔ Clear j t
      pub only_reached : OnlySquares g reached
      pub only_clear : OnlySquares g clear

    none_yet : (word : ℕ) → OnlySquares g word → OnlySquares g free → Doubled word 0 word free
    none_yet word only only_free = record {
      reach = λ t. (
        (λ h. (0, omega arith, h)),
        (λ h. let same : h.0 ≡ 0 = omega (arith, h.1) in subst (λ n. SlidesTo g (squares_of g word) barred d n t) same
            h.2),
      );
      clears = λ t. (λ h. h, λ h. h);
      only_reached = only;
      only_clear = only_free;
    }

    member : (w t : ℕ) → (set.contains (squares_of g w) t ≡ true) ↔ (OnBoard g t × (is_set w (bit g t) ≡ true))
    member w t = members-are g w (squares_of g w) refl t

    -- what is clear here and reached so many strides before
    hops : (word j reached clear w t : ℕ) → Doubled word j reached clear → OnlySquares g w
        → (is_set (bit_and clear (moved_word (is_down d) (places (stride g d) (suc j)) w)) (bit g t) ≡ true)
        → OnBoard g t → SlidesTo g (squares_of g w) barred d (suc j) t
    hops word j reached clear w t h only e on =
        let both = and_parts _ _ (sym (is_set-and clear (moved_word (is_down d) (places (stride g d) (suc j)) w)
        (bit g t)) ∙ e) in
        moved_to w only j t ((h.clears t).0 ((member clear t).1 (on, both.0))) both.1

    hopped : (word j reached clear w t : ℕ) → Doubled word j reached clear
        → SlidesTo g (squares_of g w) barred d (suc j) t
        → OnBoard g t × (is_set (bit_and clear (moved_word (is_down d) (places (stride g d) (suc j)) w)) (bit g t)
        ≡ true)
    hopped word j reached clear w t h r =
        let m = moved_from w j t r in
        let at_t = (member clear t).0 ((h.clears t).1 m.1) in (
          at_t.0,
          is_set-and clear (moved_word (is_down d) (places (stride g d) (suc j)) w) (bit g t) ∙ and_from _ _ at_t.1 m.0,
        )

    doubled : (word j reached clear by : ℕ) → by ≡ places (stride g d) (suc j) → Doubled word j reached clear
        → Doubled word (plus (suc j) j) (further (is_down d) by reached clear) (clearer (is_down d) by clear)
    doubled word j reached clear by by_is h =
        subst (λ z. Doubled word (plus (suc j) j) (further (is_down d) z reached clear) (clearer (is_down d) z clear))
        (sym by_is) (record {
          reach = λ t. (
            (λ k.
                let at_t = (member (further (is_down d) (places (stride g d) (suc j)) reached clear) t).0 k in
                elim (or_cases _ _ (sym (is_set-or reached
                (bit_and clear (moved_word (is_down d) (places (stride g d) (suc j)) reached)) (bit g t)) ∙ at_t.1)) [
                  | inl before ↦ let r = (h.reach t).0 ((member reached t).1 (at_t.0, before)) in
                      (r.0, omega (arith, r.1, plus_is (suc j) j), r.2)
                  | inr hop ↦
                      let start = slides_start g (squares_of g word) (squares_of g reached) barred d (suc j) t
                      (hops word j reached clear reached t h h.only_reached hop at_t.0) in
                      let r = (h.reach start.0).0 start.1 in
                      (plus (suc j) r.0, omega (arith, r.1, plus_is (suc j) r.0, plus_is (suc j) j), start.2 r.0 r.2)
                ]),
            (λ k. (member (further (is_down d) (places (stride g d) (suc j)) reached clear) t).1
                (elim (cases_lt k.0 (suc j)) [
                  | inl less ↦
                      let at_t = (member reached t).0 ((h.reach t).1 (k.0, less, k.2)) in (
                        at_t.0,
                        is_set-or reached (bit_and clear (moved_word (is_down d) (places (stride g d) (suc j)) reached))
                            (bit g t) ∙ or_left _ _ at_t.1,
                      )
                  | inr more ↦
                      let i : ℕ = k.0 - suc j in
                      let low : i < suc j = omega (arith, k.1, more, plus_is (suc j) j) in
                      let same : k.0 ≡ plus (suc j) i = omega (arith, more, plus_is (suc j) i) in
                      let r = slides_split g (squares_of g word) (squares_of g reached) barred d i
                      (λ s z. (h.reach s).1 (i, low, z)) (suc j) t
                      (subst (λ n. SlidesTo g (squares_of g word) barred d n t)
                      same k.2) in
                      let at_t = hopped word j reached clear reached t h r in (
                        at_t.0,
                        is_set-or reached (bit_and clear (moved_word (is_down d) (places (stride g d) (suc j)) reached))
                            (bit g t) ∙ or_right _ _ at_t.1,
                      )
                ])),
          );
          clears = λ t. (
            (λ k.
                let at_t = (member (clearer (is_down d) (places (stride g d) (suc j)) clear) t).0 k in
                slides_on g (squares_of g free) (squares_of g clear) barred d j (λ s z. (h.clears s).0 z) (suc j) t
                (hops word j reached clear clear t h h.only_clear at_t.1 at_t.0)),
            (λ k. (member (clearer (is_down d) (places (stride g d) (suc j)) clear) t).1
                (hopped word j reached clear clear t h (slides_split g (squares_of g free) (squares_of g clear) barred d
                j
                (λ s z. (h.clears s).1 z) (suc j) t k))),
          );
          only_reached = OnlySquares-or g reached (bit_and clear (moved_word (is_down d) (places (stride g d) (suc j))
              reached)) h.only_reached (OnlySquares-and_left g clear
              (moved_word (is_down d) (places (stride g d) (suc j))
              reached) h.only_clear);
          only_clear = OnlySquares-and_left g clear (moved_word (is_down d) (places (stride g d) (suc j)) clear)
              h.only_clear;
        })

    -- three doublings
    near : (word : ℕ) → OnlySquares g word → OnlySquares g free
        → Doubled word 7 (near_word g d word free) (clearer (is_down d) (4 * stride g d)
        (clearer (is_down d) (2 * stride g d) (clearer (is_down d) (stride g d) free)))
    near word only only_free =
        let m : ℕ = stride g d in
        doubled word 3 _ _ (4 * m) (omega arith) (doubled word 1 _ _ (2 * m) (omega arith)
        (doubled word 0 word free m (omega arith) (none_yet word only only_free)))

    pub OnlySquares-near : (word : ℕ) → OnlySquares g word → OnlySquares g free
        → OnlySquares g (near_word g d word free)
    OnlySquares-near word only only_free = (near word only only_free).only_reached

    pub contains-near : (word : ℕ) → OnlySquares g word → OnlySquares g free → (t : ℕ)
        → (set.contains (squares_of g (near_word g d word free)) t ≡ true)
        ↔ ((n : ℕ) × (n < 8) × SlidesTo g (squares_of g word) barred d n t)
    contains-near word only only_free t = (near word only only_free).reach t

    -- and a fourth
    slid : (word : ℕ) → OnlySquares g word → OnlySquares g free
        → Doubled word 15 (slid_word g d word free) (clearer (is_down d) (8 * stride g d)
        (clearer (is_down d) (4 * stride g d) (clearer (is_down d) (2 * stride g d)
        (clearer (is_down d) (stride g d) free))))
    slid word only only_free = doubled word 7 _ _ (8 * stride g d) (omega arith) (near word only only_free)

    pub OnlySquares-slid : (word : ℕ) → OnlySquares g word → OnlySquares g free
        → OnlySquares g (slid_word g d word free)
    OnlySquares-slid word only only_free = (slid word only only_free).only_reached

    pub contains-slid : (word : ℕ) → OnlySquares g word → OnlySquares g free → (t : ℕ)
        → (set.contains (squares_of g (slid_word g d word free)) t ≡ true)
        ↔ ((n : ℕ) × SlidesTo g (squares_of g word) barred d n t)
    contains-slid word only only_free t =
        let h = (slid word only only_free).reach t in (
          (λ k. let r = h.0 k in (r.0, r.2)),
          (λ k. h.1 (k.0, slides_few (squares_of g word) barred (λ s i. squares_of-within g word s i) k.0 t k.1, k.1)),
        )

-- the squares of the board that are not in a set
not_in : (c : Bool) → (not c ≡ true) ↔ (c ≡ true → ⊥)
not_in true = (λ e. absurd (true≢false (sym e)), λ h. absurd (h refl))
not_in false = (λ e h. true≢false (sym h), λ h. refl)

pub free_squares : (g : Geometry) → IsBoard g → (m w : ℕ) (v : Squares) → WholeBoard g m → w < 2 ^ 64
    → squares_of g w ≡ v → (t : ℕ)
    → (set.contains (squares_of g (bit_and m (bit_not w64 w))) t ≡ true) ↔ (OnBoard g t × (set.contains v t ≡ true → ⊥))
free_squares g b m w v whole fits e t = (
  (λ h.
      let at_t = (members-are g (bit_and m (bit_not w64 w)) (squares_of g (bit_and m (bit_not w64 w))) refl t).0 h in
      let both = and_parts _ _ (sym (is_set-minus m w (bit g t) fits (bit-small g b t at_t.0)) ∙ at_t.1) in
      (at_t.0, λ i. (not_in (is_set w (bit g t))).0 both.1 ((members-are g w v e t).0 i).1)),
  (λ h. (members-are g (bit_and m (bit_not w64 w)) (squares_of g (bit_and m (bit_not w64 w))) refl t).1 (
    h.0,
    is_set-minus m w (bit g t) fits (bit-small g b t h.0) ∙ and_from _ _ (whole.all t h.0)
        ((not_in (is_set w (bit g t))).1 (λ i. h.1 ((members-are g w v e t).1 (h.0, i)))),
  )),
)
