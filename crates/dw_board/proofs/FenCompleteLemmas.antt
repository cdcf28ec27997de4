-- What is in the grammar is read.
use Rattle.std.proofs.Common.{◌≡◌, ℕ, suc, zero, ◌+◌, ◌-◌, Bool, true, false, ◌||◌, cond, List, [], ◌∷◌, ◌++◌, map}
use Rattle.std.proofs.Common.{Option, Some, None, Result, Ok, refl, sym, ap, ◌∙◌, subst, inl, inr, append_assoc}
use Rattle.std.proofs.Common.{append-nil, eqb}
use Rattle.std.specs.List.{range_with_len}
use Rattle.std.proofs.lemmas.Bool.{cases_Bool, eqb-true, eq-eqb, or_cases, or_right}
use Rattle.dw_board.specs.Geometry.{Geometry}
use Rattle.dw_board.specs.Placement.{Placement, empty, placed, put_fault, same_side}
use Rattle.dw_board.specs.FenTokens.{Token, is_sign, side_named, is_king_letter, number_named, is_digit}
use Rattle.dw_board.specs.FenTokens.{square_numbered}
use Rattle.dw_board.specs.inner.FenReader.{behind}
use Rattle.dw_board.specs.FenTokens.{first_is, first_named, is_empty}
use Rattle.dw_board.specs.inner.FenReading.{listing}
use Rattle.dw_board.specs.FenTokens.{no_item}
use Rattle.dw_board.specs.FenGrammar.{Placing, IsRange, IsItem, IsItems, IsList, IsEnd, IsTail, named, all_named, Sets}
use Rattle.dw_board.specs.FenGrammar.{Names, number, range, men, kings, single, more, bare, full, nothing, stop, ends}
use Rattle.dw_board.specs.FenGrammar.{fields, one_list, two_lists}
use Rattle.dw_board.specs.Fen.{◌>>=◌, Listing, Item, Stage, Start, AfterTurn, AfterColon, AfterColour, AfterComma}
use Rattle.dw_board.specs.Fen.{AfterKing, AfterNumber, AfterDash, AfterItem, read_from, at_end, with_item, then_set}
use Rattle.dw_board.specs.Fen.{set_squares, piece_of}
use Rattle.dw_board.specs.declared.piece.Side.{Side}
use Rattle.dw_board.specs.declared.piece.Piece.{Piece}
use Rattle.dw_board.specs.declared.piece.PutFault.{PutFault}
use Rattle.dw_board.specs.declared.fen.fault.FenFault.{FenFault}
use Rattle.dw_board.proofs.FenStageLemmas.{turn_read, colon_read, colour_read, second_read, list_nothing}
use Rattle.dw_board.proofs.FenStageLemmas.{list_something, comma_read, king_read, king_number, man_number, dash_read}
use Rattle.dw_board.proofs.FenStageLemmas.{range_read, number_read, list_colon, lists_read, list_ended}

abbrev texts : List Token → List (List ℕ)
texts ts = map (λ t. t.text) ts

-- ---- pieces that are set
set_then : (o : Option PutFault) (place : ℕ) (r : Result Placement FenFault) → o ≡ None → then_set o place r ≡ r
set_then None place r e = refl
set_then (Some why) place r e = cc

Sets-set_squares : (g : Geometry) (piece : Piece) (place from n : ℕ) (p q : Placement)
    → Sets g p (map (λ s. (s, piece)) (range_with_len from n)) q → set_squares g piece place from n p ≡ Ok q
Sets-set_squares g piece place from zero p q e = ap Ok e
Sets-set_squares g piece place from (suc n) p q h =
    set_then (put_fault g p from piece) place _ h.0 ∙ Sets-set_squares g piece place (from + 1) n
    (placed p from (Some piece)) q h.1

pub sets_item : (g : Geometry) (list : Listing) (item : Item) (to : ℕ) (q : Placement)
    → Sets g list.placed (named list.side (record { is_king = item.is_king; from = item.from; to = to })) q
    → with_item g list item to ≡ Ok (listing list.side list.is_second q)
sets_item g list item to q h =
    ap (λ r. r >>= λ p. Ok (listing list.side list.is_second p)) (Sets-set_squares g (piece_of list item) item.place
    item.from (to + 1 - item.from) list.placed q h)

pub Sets-split : (g : Geometry) (p r : Placement) (xs ys : List (ℕ × Piece)) → Sets g p (xs ++ ys) r → (q : Placement)
    × Sets g p xs q × Sets g q ys r
Sets-split g p r [] ys h = (p, refl, h)
Sets-split g p r (x ∷ xs) ys h = let s = Sets-split g (placed p x.0 (Some x.1)) r xs ys h.1 in (s.0, (h.0, s.1), s.2)

-- ---- signs
true-false : {A : Type 0} → true ≡ false → A
true-false e = cc

two_signs : (w : List ℕ) (a b : ℕ) → is_sign a w ≡ true → is_sign b w ≡ true → a ≡ b
two_signs [] a b h k = cc
two_signs (x ∷ []) a b h k = sym (eqb-true x a h) ∙ eqb-true x b k
two_signs (x ∷ y ∷ w) a b h k = cc

pub apart : (w : List ℕ) (a b : ℕ) → eqb a b ≡ false → is_sign a w ≡ true → is_sign b w ≡ false
apart w a b ne h = elim (cases_Bool (is_sign b w)) [
  | inl k ↦ true-false (sym (eq-eqb a b (two_signs w a b h k)) ∙ ne)
  | inr k ↦ k
]

some-none : {A B : Type 0} (x : A) → None ≡ Some x → B
some-none x e = cc

digit_sign : (d sign : ℕ) → is_digit d ≡ true → is_digit sign ≡ false → eqb d sign ≡ false
digit_sign d sign h k = elim (cases_Bool (eqb d sign)) [
  | inl e ↦ true-false (sym h ∙ (ap is_digit (eqb-true d sign e) ∙ k))
  | inr e ↦ e
]

numbered_digit : (g : Geometry) (b : Bool) (k n : ℕ) → square_numbered g b k ≡ Some n → b ≡ true
numbered_digit g true k n e = refl
numbered_digit g false k n e = some-none n e

-- a number is no sign
number-no_sign : (g : Geometry) (w : List ℕ) (n sign : ℕ) → is_digit sign ≡ false → number_named g w ≡ Some n
    → is_sign sign w ≡ false
number-no_sign g [] n sign h e = refl
number-no_sign g (d ∷ []) n sign h e = digit_sign d sign (numbered_digit g (is_digit d) _ n e) h
number-no_sign g (d ∷ x ∷ []) n sign h e = refl
number-no_sign g (d ∷ x ∷ y ∷ w) n sign h e = refl

number-no_king : (g : Geometry) (w : List ℕ) (n : ℕ) → number_named g w ≡ Some n → is_king_letter w ≡ false
number-no_king g w n e = let a = number-no_sign g w n 75 refl e in let b = number-no_sign g w n 107 refl e in
    rw (a, b) refl

king-no_sign : (w : List ℕ) (sign : ℕ) → eqb 75 sign ≡ false → eqb 107 sign ≡ false → is_king_letter w ≡ true
    → is_sign sign w ≡ false
king-no_sign w sign a b h = elim (or_cases _ _ h) [
  | inl upper ↦ apart w 75 sign a upper
  | inr lower ↦ apart w 107 sign b lower
]

-- nothing, a colon or a stop is next
pub closes : List (List ℕ) → Bool
closes [] = true
closes (w ∷ ws) = is_sign 58 w || is_sign 46 w

pub no_dash : List (List ℕ) → Bool
no_dash [] = true
no_dash (w ∷ ws) = cond (is_sign 45 w) false true

pub closes-no_dash : (ws : List (List ℕ)) → closes ws ≡ true → no_dash ws ≡ true
unfolding closes no_dash
closes-no_dash [] h = refl
closes-no_dash (w ∷ ws) h = elim (or_cases _ _ h) [
  | inl colon ↦ let k = apart w 58 45 refl colon in rw k refl
  | inr stopped ↦ let k = apart w 46 45 refl stopped in rw k refl
]

pub comma-no_dash : (w : List ℕ) (ws : List (List ℕ)) → is_sign 44 w ≡ true → no_dash (w ∷ ws) ≡ true
unfolding no_dash
comma-no_dash w ws h = let k = apart w 44 45 refl h in rw k refl

no_dash-first : (ts : List Token) (ws : List (List ℕ)) → texts ts ≡ ws → no_dash ws ≡ true → first_is (is_sign 45) ts
    ≡ false
unfolding no_dash
no_dash-first [] ws e h = refl
no_dash-first (t ∷ ts) ws e h =
    let k : cond (is_sign 45 t.text) false true ≡ true = ap no_dash e ∙ h in
    elim (cases_Bool (is_sign 45 t.text)) [ inl dash ↦ true-false (sym k ∙ rw dash refl) | inr none ↦ none ]

-- ---- tokens by their words
pub record Cut (ts : List Token) (w : List ℕ) (ws : List (List ℕ)) : Type 0 where
  pub first : Token
  pub rest : List Token
  pub is : ts ≡ first ∷ rest
  pub text : first.text ≡ w
  pub others : texts rest ≡ ws

pub cut : (ts : List Token) (w : List ℕ) (ws : List (List ℕ)) → texts ts ≡ w ∷ ws → Cut ts w ws
cut [] w ws e = cc
cut (t ∷ ts) w ws e = record { first = t; rest = ts; is = refl; text = cc; others = cc }

pub colon-closes : (w : List ℕ) (ws : List (List ℕ)) → is_sign 58 w ≡ true → closes (w ∷ ws) ≡ true
unfolding closes
colon-closes w ws h = rw h refl

pub stop-closes : (w : List ℕ) (ws : List (List ℕ)) → is_sign 46 w ≡ true → closes (w ∷ ws) ≡ true
unfolding closes
stop-closes w ws h = or_right (is_sign 58 w) _ h

end-closes : (ws : List (List ℕ)) → IsEnd ws → closes ws ≡ true
unfolding closes
end-closes ws nothing = refl
end-closes ws (stop {w = w} h) = stop-closes w [] h

tail-closes : (ws : List (List ℕ)) → IsTail ws → closes ws ≡ true
tail-closes ws (ends h) = end-closes ws h
tail-closes ws (fields {w = w} {ws = vs} h) = colon-closes w vs h

none_left : (ts : List Token) → texts ts ≡ [] → (good bad : Result Placement FenFault) → cond (is_empty ts) good bad
    ≡ good
none_left [] e good bad = refl
none_left (t ∷ ts) e good bad = cc

-- a list begins with its colour
pub list_begins : {g : Geometry} (ws : List (List ℕ)) (is : List Placing) (side : Side) → IsList g ws side is
    → (w : List ℕ) × (vs : List (List ℕ)) × (ws ≡ w ∷ vs) × (side_named w ≡ Some side) × IsList g (w ∷ vs) side is
list_begins ws is side (bare {w = w} h) = (w, [], refl, h, bare h)
list_begins ws is side (full {w = w} {ws = vs} h items) = (w, vs, refl, h, full h items)

-- reading on, up to where these words are left
pub record Reads (g : Geometry) (end : ℕ) (from : Stage) (ts : List Token) (tail : List (List ℕ)) (to : Stage) :
    Type 0 where
  pub front : List Token
  pub rest : List Token
  pub is : ts ≡ front ++ rest
  pub words : texts rest ≡ tail
  pub same : read_from g end from ts ≡ read_from g end to rest

module _ (g : Geometry) (end : ℕ) where
  numbers_read : (ws : List (List ℕ)) (m n : ℕ) → IsRange g ws m n
      → (from : Stage) (king : Bool) (list : Listing) (q : Placement) (ts : List Token) (tail : List (List ℕ))
      → texts ts ≡ ws ++ tail → no_dash tail ≡ true
      → Sets g list.placed (named list.side (record { is_king = king; from = m; to = n })) q
      → ((t : Token) (rest : List Token) → number_named g t.text ≡ Some m → read_from g end from (t ∷ rest)
      ≡ read_from g end (AfterNumber list (record { is_king = king; from = m; place = t.place })) rest)
      → Reads g end from ts tail (AfterItem (listing list.side list.is_second q))
  numbers_read ws m n (number {w = w} h) from king list q ts tail e clear sets go =
      let c = cut ts w tail e in
      let item : Item = record { is_king = king; from = m; place = c.first.place } in
      record {
        front = c.first ∷ [];
        rest = c.rest;
        is = c.is;
        words = c.others;
        same = ap (read_from g end from) c.is ∙ (go c.first c.rest (ap (number_named g) c.text ∙ h)
            ∙ (number_read g end list item c.rest (no_dash-first c.rest tail c.others clear)
            ∙ ap (λ r. r >>= λ all. read_from g end (AfterItem all) c.rest) (sets_item g list item m q sets)));
      }
  numbers_read ws m n (range {v = v} {d = d} {w = w} h dash k le) from king list q ts tail e clear sets go =
      let c = cut ts v (d ∷ w ∷ tail) e in
      let c2 = cut c.rest d (w ∷ tail) c.others in
      let c3 = cut c2.rest w tail c2.others in
      let item : Item = record { is_king = king; from = m; place = c.first.place } in
      let dashed : first_is (is_sign 45) c.rest ≡ true = ap (first_is (is_sign 45)) c2.is
      ∙ (ap (is_sign 45) c2.text ∙ dash) in
      let after_dash : behind c.rest ≡ c2.rest = ap behind c2.is in
      let last : first_named (number_named g) c2.rest ≡ Some n = ap (first_named (number_named g)) c3.is
      ∙ (ap (number_named g) c3.text ∙ k) in
      record {
        front = c.first ∷ c2.first ∷ c3.first ∷ [];
        rest = c3.rest;
        is = c.is ∙ ap (λ l. c.first ∷ l) (c2.is ∙ ap (λ l. c2.first ∷ l) c3.is);
        words = c3.others;
        same = ap (read_from g end from) c.is ∙ (go c.first c.rest (ap (number_named g) c.text ∙ h)
            ∙ (dash_read g end list item c.rest dashed ∙ (ap (read_from g end (AfterDash list item)) after_dash
            ∙ (range_read g end list item c2.rest n last le
            ∙ (ap (λ r. r >>= λ all. read_from g end (AfterItem all) (behind c2.rest)) (sets_item g list item n q sets)
            ∙ ap (read_from g end (AfterItem (listing list.side list.is_second q))) (ap behind c3.is))))));
      }

  item_read : (ws : List (List ℕ)) (i : Placing) → IsItem g ws i
      → (list : Listing) (q : Placement) (ts : List Token) (tail : List (List ℕ))
      → texts ts ≡ ws ++ tail → no_dash tail ≡ true → Sets g list.placed (named list.side i) q
      → Reads g end (AfterComma list) ts tail (AfterItem (listing list.side list.is_second q))
  item_read ws i (men {m = m} {n = n} r) list q ts tail e clear sets =
      numbers_read ws m n r (AfterComma list) false list q ts tail e clear sets (λ t rest h. man_number g end list
      (t ∷ rest) m (number-no_king g t.text m h) h)
  item_read ws i (kings {k = k} {ws = vs} {m = m} {n = n} king r) list q ts tail e clear sets =
      let c = cut ts k (vs ++ tail) e in
      let reads = numbers_read vs m n r (AfterKing list) true list q c.rest tail c.others clear sets
      (λ t rest h. king_number g end list (t ∷ rest) m h) in
      record {
        front = c.first ∷ reads.front;
        rest = reads.rest;
        is = c.is ∙ ap (λ l. c.first ∷ l) reads.is;
        words = reads.words;
        same = ap (read_from g end (AfterComma list)) c.is
            ∙ (king_read g end list (c.first ∷ c.rest) (ap is_king_letter c.text ∙ king) ∙ reads.same);
      }

  items_read : (ws : List (List ℕ)) (is : List Placing) → IsItems g ws is
      → (list : Listing) (q : Placement) (ts : List Token) (tail : List (List ℕ))
      → texts ts ≡ ws ++ tail → no_dash tail ≡ true → Sets g list.placed (all_named list.side is) q
      → Reads g end (AfterComma list) ts tail (AfterItem (listing list.side list.is_second q))
  items_read ws is (single {i = i} item) list q ts tail e clear sets =
      item_read ws i item list q ts tail e clear (subst (λ l. Sets g list.placed l q) (append-nil (named list.side i))
      sets)
  items_read ws is (more {i = i} {is = js} front comma vs item sign items) list q ts tail e clear sets =
      let s = Sets-split g list.placed q (named list.side i) (all_named list.side js) sets in
      let first = item_read front i item list s.0 ts (comma ∷ (vs ++ tail)) (e ∙ append_assoc front (comma ∷ vs) tail)
      (comma-no_dash comma (vs ++ tail) sign) s.1 in
      let c = cut first.rest comma (vs ++ tail) first.words in
      let middle = listing list.side list.is_second s.0 in
      let others = items_read vs js items middle q c.rest tail c.others clear s.2 in
      record {
        front = first.front ++ c.first ∷ others.front;
        rest = others.rest;
        is = first.is ∙ (ap (λ l. first.front ++ l) (c.is ∙ ap (λ l. c.first ∷ l) others.is)
            ∙ sym (append_assoc first.front (c.first ∷ others.front) others.rest));
        words = others.words;
        same = first.same ∙ (ap (read_from g end (AfterItem middle)) c.is
            ∙ (comma_read g end middle (c.first ∷ c.rest) (ap (is_sign 44) c.text ∙ sign) ∙ others.same));
      }

  first_word-closes : (ts : List Token) (ws : List (List ℕ)) → texts ts ≡ ws → closes ws ≡ true → no_item ts ≡ true
  unfolding closes
  first_word-closes [] ws e h = refl
  first_word-closes (t ∷ ts) ws e h = ap closes e ∙ h

  item-not_closed : (ws : List (List ℕ)) (i : Placing) → IsItem g ws i → (ts : List Token) (tail : List (List ℕ))
      → texts ts ≡ ws ++ tail → no_item ts ≡ false
  item-not_closed ws i (men {m = m} (number {w = w} h)) ts tail e =
      let c = cut ts w tail e in
      let a = number-no_sign g c.first.text m 58 refl (ap (number_named g) c.text ∙ h) in
      let b = number-no_sign g c.first.text m 46 refl (ap (number_named g) c.text ∙ h) in
      ap no_item c.is ∙ rw (a, b) refl
  item-not_closed ws i (men {m = m} (range {v = v} {d = d} {w = w} h dash k le)) ts tail e =
      let c = cut ts v (d ∷ w ∷ tail) e in
      let a = number-no_sign g c.first.text m 58 refl (ap (number_named g) c.text ∙ h) in
      let b = number-no_sign g c.first.text m 46 refl (ap (number_named g) c.text ∙ h) in
      ap no_item c.is ∙ rw (a, b) refl
  item-not_closed ws i (kings {k = k} {ws = vs} king r) ts tail e =
      let c = cut ts k (vs ++ tail) e in
      let a = king-no_sign c.first.text 58 refl refl (ap is_king_letter c.text ∙ king) in
      let b = king-no_sign c.first.text 46 refl refl (ap is_king_letter c.text ∙ king) in
      ap no_item c.is ∙ rw (a, b) refl

  items-not_closed : (ws : List (List ℕ)) (is : List Placing) → IsItems g ws is → (ts : List Token) (tail : List (List
      ℕ)) → texts ts ≡ ws ++ tail → no_item ts ≡ false
  items-not_closed ws is (single {i = i} item) ts tail e = item-not_closed ws i item ts tail e
  items-not_closed ws is (more {i = i} front comma vs item sign items) ts tail e = item-not_closed front i item ts
      (comma ∷ (vs ++ tail)) (e ∙ append_assoc front (comma ∷ vs) tail)

  -- a list behind its colour
  pub list_read : (side : Side) (w : List ℕ) (ws : List (List ℕ)) (is : List Placing) → IsList g (w ∷ ws) side is
      → (second : Bool) (p q : Placement) (ts : List Token) (tail : List (List ℕ))
      → texts ts ≡ ws ++ tail → (is ≡ [] → closes tail ≡ true) → no_dash tail ≡ true → Sets g p (all_named side is) q
      → Reads g end (AfterColour (listing side second p)) ts tail (AfterItem (listing side second q))
  list_read side w ws is (bare h) second p q ts tail e closed clear sets = record {
    front = [];
    rest = ts;
    is = refl;
    words = e;
    same = list_nothing g end (listing side second p) ts (first_word-closes ts tail e (closed refl))
        ∙ ap (λ x. read_from g end (AfterItem (listing side second x)) ts) sets;
  }
  list_read side w ws is (full h items) second p q ts tail e closed clear sets =
      let reads = items_read ws is items (listing side second p) q ts tail e clear sets in
      record {
        front = reads.front;
        rest = reads.rest;
        is = reads.is;
        words = reads.words;
        same = list_something g end (listing side second p) ts (items-not_closed ws is items ts tail e) ∙ reads.same;
      }

  -- ---- the text's end
  end_read : (ws : List (List ℕ)) → IsEnd ws → (list : Listing) (ts : List Token) → texts ts ≡ ws
      → read_from g end (AfterItem list) ts ≡ Ok list.placed
  unfolding read_from at_end
  end_read ws nothing list [] e = refl
  end_read ws nothing list (t ∷ ts) e = cc
  end_read ws (stop {w = w} h) list ts e =
      let c = cut ts w [] e in
      let sign : is_sign 46 c.first.text ≡ true = ap (is_sign 46) c.text ∙ h in
      ap (read_from g end (AfterItem list)) c.is
      ∙ (list_ended g end list (c.first ∷ c.rest) true (apart c.first.text 46 44 refl sign)
      (apart c.first.text 46 58 refl sign) (sym sign)
      ∙ none_left c.rest c.others (Ok list.placed) _)

  tail_read : (ws : List (List ℕ)) → IsTail ws → (side : Side) (p : Placement) (ts : List Token) → texts ts ≡ ws
      → read_from g end (AfterItem (listing side true p)) ts ≡ Ok p
  tail_read ws (ends h) side p ts e = end_read ws h (listing side true p) ts e
  tail_read ws (fields {w = w} {ws = vs} h) side p ts e =
      let c = cut ts w vs e in
      ap (read_from g end (AfterItem (listing side true p))) c.is
      ∙ (list_colon g end (listing side true p) (c.first ∷ c.rest) (ap (is_sign 58) c.text ∙ h)
      ∙ lists_read g end p c.rest)

  -- the first list, behind its colon
  first_list : (side : Side) (ws tail : List (List ℕ)) (is : List Placing) → IsList g ws side is
      → (p q : Placement) (ts : List Token) → texts ts ≡ ws ++ tail → closes tail ≡ true
      → Sets g p (all_named side is) q → Reads g end (AfterColon None p) ts tail (AfterItem (listing side false q))
  first_list side ws tail is list p q ts e closed sets =
      let h = list_begins ws is side list in
      let c = cut ts h.0 (h.1 ++ tail) (e ∙ ap (λ l. l ++ tail) h.2) in
      let reads = list_read side h.0 h.1 is h.4 false p q c.rest tail c.others (λ _. closed)
      (closes-no_dash tail closed) sets in
      record {
        front = c.first ∷ reads.front;
        rest = reads.rest;
        is = c.is ∙ ap (λ l. c.first ∷ l) reads.is;
        words = reads.words;
        same = ap (read_from g end (AfterColon None p)) c.is
            ∙ (colour_read g end p (c.first ∷ c.rest) side (ap side_named c.text ∙ h.3) ∙ reads.same);
      }

  second_list : (first side : Side) (ws tail : List (List ℕ)) (is : List Placing) → same_side first side ≡ false
      → IsList g ws side is → (p q : Placement) (ts : List Token) → texts ts ≡ ws ++ tail
      → closes tail ≡ true → Sets g p (all_named side is) q
      → Reads g end (AfterColon (Some first) p) ts tail (AfterItem (listing side true q))
  second_list first side ws tail is other list p q ts e closed sets =
      let h = list_begins ws is side list in
      let c = cut ts h.0 (h.1 ++ tail) (e ∙ ap (λ l. l ++ tail) h.2) in
      let reads = list_read side h.0 h.1 is h.4 true p q c.rest tail c.others (λ _. closed)
      (closes-no_dash tail closed) sets in
      record {
        front = c.first ∷ reads.front;
        rest = reads.rest;
        is = c.is ∙ ap (λ l. c.first ∷ l) reads.is;
        words = reads.words;
        same = ap (read_from g end (AfterColon (Some first) p)) c.is
            ∙ (second_read g end first p (c.first ∷ c.rest) side (ap side_named c.text ∙ h.3) other ∙ reads.same);
      }

  -- the turn and its colon
  turn_then : (turn colon : List ℕ) (ws : List (List ℕ)) (mover : Side) (ts : List Token) → texts ts ≡ turn ∷ colon ∷ ws
      → side_named turn ≡ Some mover → is_sign 58 colon ≡ true
      → Reads g end Start ts ws (AfterColon None (empty mover))
  turn_then turn colon ws mover ts e named sign =
      let c = cut ts turn (colon ∷ ws) e in
      let d = cut c.rest colon ws c.others in
      record {
        front = c.first ∷ d.first ∷ [];
        rest = d.rest;
        is = c.is ∙ ap (λ l. c.first ∷ l) d.is;
        words = d.others;
        same = ap (read_from g end Start) c.is
            ∙ (turn_read g end (c.first ∷ c.rest) mover (ap side_named c.text ∙ named)
            ∙ (ap (read_from g end (AfterTurn mover)) d.is ∙ colon_read g end mover (d.first ∷ d.rest)
            (ap (is_sign 58) d.text ∙ sign)));
      }

  pub names_read : (ws : List (List ℕ)) (p : Placement) → Names g ws p → (ts : List Token) → texts ts ≡ ws
      → read_from g end Start ts ≡ Ok p
  names_read all p (one_list {turn = turn} {c = colon} ws es mover first is named sign list ended sets) ts e =
      let start = turn_then turn colon (ws ++ es) mover ts e named sign in
      let l = first_list first ws es is list (empty mover) p start.rest start.words (end-closes es ended) sets in
      start.same ∙ (l.same ∙ end_read es ended (listing first false p) l.rest l.words)
  names_read all p (two_lists {turn = turn} {c = colon} ws between vs es mover first second is js named sign list
      colon2 others different tail sets) ts e =
      let start = turn_then turn colon (ws ++ between ∷ (vs ++ es)) mover ts e named sign in
      let s = Sets-split g (empty mover) p (all_named first is) (all_named second js) sets in
      let l = first_list first ws (between ∷ (vs ++ es)) is list (empty mover) s.0 start.rest start.words
      (colon-closes between (vs ++ es) colon2) s.1 in
      let c = cut l.rest between (vs ++ es) l.words in
      let m = second_list first second vs es js different others s.0 p c.rest c.others (tail-closes es tail) s.2 in
      start.same ∙ (l.same ∙ (ap (read_from g end (AfterItem (listing first false s.0))) c.is
      ∙ (list_colon g end (listing first false s.0) (c.first ∷ c.rest) (ap (is_sign 58) c.text ∙ colon2)
      ∙ (m.same ∙ tail_read es tail second p m.rest m.words))))
