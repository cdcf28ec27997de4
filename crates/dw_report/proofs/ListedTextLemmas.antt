-- Each list of lines has a text, and only one.
use Rattle.std.proofs.Common.{◌≡◌, ℕ, ◌+◌, ◌-◌, ◌<◌, ◌≤◌, ◌⊎◌, zero, suc, Option, Some, None, List, [], ◌∷◌, ◌++◌}
use Rattle.std.proofs.Common.{length, refl, sym, ap, ◌∙◌, subst, inl, inr, codes, decimal, arith, append_assoc}
use Rattle.std.proofs.Common.{length-append}
use Rattle.std.proofs.lemmas.Bool.{cases_order}
use Rattle.dw_board.specs.Geometry.{Geometry, IsBoard}
use Rattle.dw_board.specs.Placement.{Placement}
use Rattle.dw_moves.specs.Moves.{Move}
use Rattle.dw_board.specs.Lists.{Member}
use Rattle.dw_moves.specs.inner.MemberLemmas.{mem_left, mem_right}
use Rattle.dw_moves.specs.Order.{IsAscending}
use Rattle.dw_moves.specs.Laws.{MovesHaveKeys}
use Rattle.dw_notation.specs.TextLaws.{LinesHaveTexts}
use Rattle.dw_solve.specs.Lines.{Line, Lines, Before}
use Rattle.dw_list.specs.Places.{After}
use Rattle.dw_list.specs.Laws.{LinesExist, LineOrPlace}
use Rattle.dw_solve.specs.inner.LineOrderLemmas.{before_asym}
use Rattle.dw_solve.specs.inner.ListLemmas.{ascending_parts}
use Rattle.dw_report.specs.ListedText.{AreLineTexts, IsComplete, IsCut, IsListing, IsListedText, more_after}
use Rattle.dw_report.specs.inner.Rows.{refused_line}
use Rattle.dw_report.proofs.JudgedTextLemmas.{line_playable}

-- TEXTS OF LINES

pub line_texts_some : LinesHaveTexts → (g : Geometry) → IsBoard g → (p : Placement) (n : ℕ) (lines : List (List Move))
    → ((l : List Move) → Member l lines → Line g p n l) → (text : List ℕ) × AreLineTexts g p lines text
line_texts_some law g b p n [] are = ([], refl)
line_texts_some law g b p n (l ∷ lines) are =
    let one = law.some g b p l (line_playable g p n l (are l (inl refl))) in
    let rest = line_texts_some law g b p n lines (λ x h. are x (inr h)) in
    (one.0 ++ codes "\n" ++ rest.0, (one.0, rest.0, one.1, rest.1, refl))

line_texts_only : LinesHaveTexts → (g : Geometry) (p : Placement) (lines : List (List Move)) (text other : List ℕ)
    → AreLineTexts g p lines text → AreLineTexts g p lines other → text ≡ other
line_texts_only law g p [] text other h k = h ∙ sym k
line_texts_only law g p (l ∷ lines) text other (t, r, is, are, e) (t', r', is', are', e') =
    e ∙ (ap (λ z. z ++ codes "\n" ++ r) (law.one g p l t t' is is')
    ∙ (ap (λ z. t' ++ codes "\n" ++ z) (line_texts_only law g p lines r r' are are') ∙ sym e'))

-- PARTS OF LISTS

-- a list in three parts, the middle one at a place
split_at : {X : Type 0} (k : ℕ) (xs : List X) → k < length xs → (front : List X) × (x : X) × (back : List X)
    × (xs ≡ front ++ x ∷ back) × (length front ≡ k)
split_at k [] low = absurd (omega (arith, low))
split_at zero (x ∷ xs) low = ([], x, xs, refl, refl)
split_at (suc k) (x ∷ xs) low =
    let r = split_at k xs (omega (arith, low)) in
    (x ∷ r.0, r.1, r.2, ap (λ z. x ∷ z) r.3, ap suc r.4)

fronts_same : {X : Type 0} (xs ys us vs : List X) → length xs ≡ length us → xs ++ ys ≡ us ++ vs → xs ≡ us
fronts_same [] ys [] vs l e = refl
fronts_same [] ys (u ∷ us) vs l e = absurd (omega (arith, l))
fronts_same (x ∷ xs) ys [] vs l e = absurd (omega (arith, l))
fronts_same (x ∷ xs) ys (u ∷ us) vs l e =
    let shorter : length xs ≡ length us = omega (arith, l) in
    let tails : xs ++ ys ≡ us ++ vs = cc in
    let heads : x ≡ u = cc in
    ap (λ z. z ∷ xs) heads ∙ ap (λ z. u ∷ z) (fronts_same xs ys us vs shorter tails)

lasts_same : {X : Type 0} (xs us : List X) (x u : X) → xs ++ x ∷ [] ≡ us ++ u ∷ [] → x ≡ u
lasts_same [] [] x u e = cc
lasts_same [] (v ∷ []) x u e = cc
lasts_same [] (v ∷ w ∷ us) x u e = cc
lasts_same (y ∷ []) [] x u e = cc
lasts_same (y ∷ z ∷ xs) [] x u e = cc
lasts_same (y ∷ xs) (v ∷ us) x u e =
    let tails : xs ++ x ∷ [] ≡ us ++ u ∷ [] = cc in
    lasts_same xs us x u tails

-- in an ascending list what comes after an element is one list
after_only : {X : Type 0} (R : X → X → Type 0) → ((x y : X) → R x y → R y x → ⊥) → (x : X) (xs us ys vs : List X)
    → IsAscending R (xs ++ x ∷ ys) → xs ++ x ∷ ys ≡ us ++ x ∷ vs → ys ≡ vs
after_only R asym x [] [] ys vs a e = cc
after_only R asym x [] (u ∷ us) ys vs a e =
    let same : u ≡ x = cc in
    let r = (ascending_parts R (u ∷ us) (x ∷ vs) (subst (IsAscending R) e a)).1 u x (inl refl) (inl refl) in
    let s = subst (λ z. R z x) same r in
    absurd (asym x x s s)
after_only R asym x (y ∷ xs) [] ys vs a e =
    let same : y ≡ x = cc in
    let r = (ascending_parts R (y ∷ xs) (x ∷ ys) a).1 y x (inl refl) (inl refl) in
    let s = subst (λ z. R z x) same r in
    absurd (asym x x s s)
after_only R asym x (y ∷ xs) (u ∷ us) ys vs a e =
    let tails : xs ++ x ∷ ys ≡ us ++ x ∷ vs = cc in
    after_only R asym x xs us ys vs a.1 tails

member_splits : {X : Type 0} (x : X) (xs : List X) → Member x xs → (front : List X) × (back : List X)
    × (xs ≡ front ++ x ∷ back)
member_splits x [] h = absurd h
member_splits x (y ∷ xs) (inl e) = ([], xs, ap (λ z. z ∷ xs) (sym e))
member_splits x (y ∷ xs) (inr h) = let r = member_splits x xs h in (y ∷ r.0, r.1, ap (λ z. y ∷ z) r.2)

-- LISTS

-- a list of lines, cut where it is too long
pub listing_some : LinesHaveTexts → (g : Geometry) → IsBoard g → (p : Placement) (n most : ℕ) (lines : List (List Move))
    → 1 ≤ most → ((l : List Move) → Member l lines → Line g p n l) → (text : List ℕ) × IsListing g p most lines text
listing_some law g b p n most lines some are = by_order (cases_order (length lines) most) where
  complete : length lines ≤ most → (text : List ℕ) × IsListing g p most lines text
  complete few =
      let texts = line_texts_some law g b p n lines are in (
        texts.0 ++ codes "complete " ++ decimal (length lines) ++ codes "\n",
        inl (record { few = few; texts = texts.0; are = texts.1; is = refl }),
      )

  cut : most < length lines → (text : List ℕ) × IsListing g p most lines text
  cut long =
      let parts = split_at (most - 1) lines (omega (arith, long, some)) in
      let split : lines ≡ (parts.0 ++ parts.1 ∷ []) ++ parts.2 = parts.3
      ∙ sym (append_assoc parts.0 (parts.1 ∷ []) parts.2) in
      let count : length (parts.0 ++ parts.1 ∷ []) ≡ length parts.0 + 1 = length-append parts.0 (parts.1 ∷ []) in
      let all : length lines ≡ length (parts.0 ++ parts.1 ∷ []) + length parts.2 = ap length split
      ∙ length-append (parts.0 ++ parts.1 ∷ []) parts.2 in
      let texts = line_texts_some law g b p n (parts.0 ++ parts.1 ∷ [])
      (λ l h. are l (subst (Member l) (sym split) (mem_left l (parts.0 ++ parts.1 ∷ []) parts.2 h))) in (
        texts.0 ++ more_after g parts.1,
        inr (record {
          earlier = parts.0;
          last = parts.1;
          left = parts.2;
          split = split;
          many = omega (arith, count, parts.4, some);
          more = omega (arith, all, count, parts.4, long, some);
          texts = texts.0;
          are = texts.1;
          is = refl;
        }),
      )

  by_order : (length lines ≡ most) ⊎ ((length lines < most) ⊎ (most < length lines)) → (text : List ℕ)
      × IsListing g p most lines text
  by_order (inl e) = complete (omega (arith, e))
  by_order (inr (inl l)) = complete (omega (arith, l))
  by_order (inr (inr l)) = cut l

too_many : (g : Geometry) (p : Placement) (most : ℕ) (lines : List (List Move)) (text other : List ℕ)
    → IsComplete g p most lines text → IsCut g p most lines other → ⊥
too_many g p most lines text other h k =
    let all : length lines ≡ length (k.earlier ++ k.last ∷ []) + length k.left = ap length k.split
    ∙ length-append (k.earlier ++ k.last ∷ []) k.left in
    omega (arith, all, k.many, k.more, h.few)

pub listing_only : LinesHaveTexts → (g : Geometry) (p : Placement) (most : ℕ) (lines : List (List Move))
    (text other : List ℕ) → IsListing g p most lines text → IsListing g p most lines other → text ≡ other
listing_only law g p most lines text other (inl h) (inl k) =
    h.is ∙ (ap (λ z. z ++ codes "complete " ++ decimal (length lines) ++ codes "\n")
    (line_texts_only law g p lines h.texts k.texts h.are k.are) ∙ sym k.is)
listing_only law g p most lines text other (inl h) (inr k) = absurd (too_many g p most lines text other h k)
listing_only law g p most lines text other (inr h) (inl k) = absurd (too_many g p most lines other text k h)
listing_only law g p most lines text other (inr h) (inr k) =
    let fronts : h.earlier ++ h.last ∷ [] ≡ k.earlier ++ k.last ∷ [] = fronts_same (h.earlier ++ h.last ∷ []) h.left
    (k.earlier ++ k.last ∷ []) k.left (h.many ∙ sym k.many) (sym h.split ∙ k.split) in
    let texts : h.texts ≡ k.texts = line_texts_only law g p (k.earlier ++ k.last ∷ []) h.texts k.texts
    (subst (λ z. AreLineTexts g p z h.texts) fronts h.are) k.are in
    let lasts : h.last ≡ k.last = lasts_same h.earlier k.earlier h.last k.last fronts in
    h.is ∙ (ap (λ z. z ++ more_after g h.last) texts ∙ (ap (λ z. k.texts ++ more_after g z) lasts ∙ sym k.is))

-- THE LINES THAT ARE ASKED FOR

pub listed_some : LinesExist → LineOrPlace → LinesHaveTexts → (g : Geometry) → IsBoard g
    → (p : Placement) (n most : ℕ) (after : Option (List Move)) → 1 ≤ most → (text : List ℕ)
    × IsListedText g p n most after text
listed_some exist place law g b p n most None some =
    let lines = exist.some g b p n in
    let text = listing_some law g b p n most lines.0 some (λ l h. (lines.1.exactly l).0 h) in
    (text.0, (lines.0, lines.1, text.1))
listed_some exist place law g b p n most (Some l) some = elim (place.some g p n l) [
  | inl line ↦
      let lines = exist.some g b p n in
      let parts = member_splits l lines.0 ((lines.1.exactly l).1 line) in
      let text = listing_some law g b p n most parts.1 some
      (λ x h. (lines.1.exactly x).0 (subst (Member x) (sym parts.2) (mem_right x parts.0 (l ∷ parts.1) (inr h)))) in
      (text.0, inl (lines.0, parts.1, lines.1, (parts.0, parts.2), text.1))
  | inr none ↦ (refused_line none.0, inr (none.0, none.1, refl))
]

-- a list of moves after which lines come is a line
pub after_line : (g : Geometry) (p : Placement) (n : ℕ) (lines rest : List (List Move)) (l : List Move)
    → Lines g p n lines → After lines l rest → Line g p n l
after_line g p n lines rest l are (earlier, split) = (are.exactly l).0
    (subst (Member l) (sym split) (mem_right l earlier (l ∷ rest) (inl refl)))

pub listed_only : LinesExist → LineOrPlace → LinesHaveTexts → MovesHaveKeys
    → (g : Geometry) (p : Placement) (n most : ℕ) (after : Option (List Move)) (text other : List ℕ)
    → IsListedText g p n most after text → IsListedText g p n most after other → text ≡ other
listed_only exist place law keys g p n most None text other (lines, are, is) (others, are', is') =
    listing_only law g p most others text other (subst (λ (z : List (List Move)). IsListing g p most z text)
    (exist.only g p n lines others are are') is) is'
listed_only exist place law keys g p n most (Some l) text other (inl (lines, rest, are, after, is))
    (inl (others, rest', are', after', is')) =
    let same : lines ≡ others = exist.only g p n lines others are are' in
    let rests : rest ≡ rest' = after_only (Before g p) (before_asym keys g p) l after.0 after'.0 rest rest'
    (subst (IsAscending (Before g p)) after.1 are.ascending) (sym after.1 ∙ (same ∙ after'.1)) in
    listing_only law g p most rest' text other (subst (λ (z : List (List Move)). IsListing g p most z text) rests is)
    is'
listed_only exist place law keys g p n most (Some l) text other (inl (lines, rest, are, after, is))
    (inr (k, none, is')) = absurd (place.both g p n l k (after_line g p n lines rest l are after) none)
listed_only exist place law keys g p n most (Some l) text other (inr (k, none, is'))
    (inl (lines, rest, are, after, is)) = absurd (place.both g p n l k (after_line g p n lines rest l are after) none)
listed_only exist place law keys g p n most (Some l) text other (inr (j, none, is)) (inr (k, none', is')) =
    is ∙ (ap refused_line (place.only g p n l j k none none') ∙ sym is')
