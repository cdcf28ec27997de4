-- Lemmas on the stages of reading a FEN text, in the steps that the reader takes.
use Rattle.std.proofs.Common.{◌≡◌, ℕ, suc, zero, ◌+◌, ◌-◌, ◌≤◌, ◌<◌, Bool, true, false, ◌||◌, cond, eqb, ltb, List, []}
use Rattle.std.proofs.Common.{◌∷◌, length, Option, Some, None, Result, Ok, Err, refl, sym, ap, ◌∙◌, arith, inl, inr}
use Rattle.std.proofs.Common.{MatchResult}
use Rattle.std.proofs.lemmas.Bool.{eqb-true, or_cases, lt-ltb, le-ltb}
use Rattle.dw_board.specs.Geometry.{Geometry}
use Rattle.dw_board.specs.Placement.{Placement, empty, placed, put_fault, same_side}
use Rattle.dw_board.specs.FenTokens.{Token, is_sign, side_named, is_king_letter, number_named}
use Rattle.dw_board.specs.inner.FenReader.{left_of, behind}
use Rattle.dw_board.specs.FenTokens.{first_is, first_named, place_of, is_empty}
use Rattle.dw_board.specs.inner.FenReading.{listing, read_behind}
use Rattle.dw_board.specs.FenTokens.{no_item}
use Rattle.dw_board.specs.Fen.{fault, ◌>>=◌, Listing, Item, Stage, Start, AfterTurn, AfterColon, AfterColour}
use Rattle.dw_board.specs.Fen.{AfterComma, AfterKing, AfterNumber, AfterDash, AfterItem, AfterStop, AfterLists}
use Rattle.dw_board.specs.Fen.{next_stage, at_end, read_from, with_item, item_ended, list_begun, if_named, then_set}
use Rattle.dw_board.specs.Fen.{set_squares, piece_of}
use Rattle.dw_board.specs.FenFaults.{put_kind}
use Rattle.dw_board.specs.declared.piece.Side.{Side}
use Rattle.dw_board.specs.declared.piece.Piece.{Piece}
use Rattle.dw_board.specs.declared.piece.PutFault.{PutFault}
use Rattle.dw_board.specs.declared.fen.fault.FenFault.{FenFault}
use Rattle.dw_board.specs.declared.fen.fault.FenFaultKind.{FenFaultKind}
use Rattle.dw_board.specs.declared.fen.fault.FenFaultKind.TheVariants.{Turn, Colon, Colour, Number, SameColour, Rest}
use Rattle.dw_board.specs.declared.fen.fault.FenFaultKind.TheVariants.{RangeBackwards}

-- ---- what the tokens say from a stage on, by the first token
module _ (g : Geometry) (end : ℕ) where
  pub turn_read : (ts : List Token) (side : Side) → first_named side_named ts ≡ Some side → read_from g end Start ts
      ≡ read_from g end (AfterTurn side) (behind ts)
  unfolding read_from next_stage
  turn_read [] side h = cc
  turn_read (t ∷ ts) side h = ap (λ o. if_named o Turn t.place (λ side. Ok (AfterTurn side)) >>= λ next. read_from g end
      next ts) h

  pub turn_fault : (ts : List Token) → first_named side_named ts ≡ None → read_from g end Start ts
      ≡ fault Turn (place_of ts end)
  unfolding read_from next_stage at_end
  turn_fault [] h = refl
  turn_fault (t ∷ ts) h = ap (λ o. if_named o Turn t.place (λ side. Ok (AfterTurn side)) >>= λ next. read_from g end
      next ts) h

  pub colon_read : (turn : Side) (ts : List Token) → first_is (is_sign 58) ts ≡ true
      → read_from g end (AfterTurn turn) ts ≡ read_from g end (AfterColon None (empty turn)) (behind ts)
  unfolding read_from next_stage
  colon_read turn [] h = cc
  colon_read turn (t ∷ ts) h = rw h refl

  pub colon_fault : (turn : Side) (ts : List Token) → first_is (is_sign 58) ts ≡ false
      → read_from g end (AfterTurn turn) ts ≡ fault Colon (place_of ts end)
  unfolding read_from next_stage at_end
  colon_fault turn [] h = refl
  colon_fault turn (t ∷ ts) h = rw h refl

  pub colour_fault : (first : Option Side) (p : Placement) (ts : List Token) → first_named side_named ts ≡ None
      → read_from g end (AfterColon first p) ts ≡ fault Colour (place_of ts end)
  unfolding read_from next_stage at_end
  colour_fault first p [] h = refl
  colour_fault first p (t ∷ ts) h = ap (λ o. if_named o Colour t.place (list_begun first p t.place) >>= λ next.
      read_from g end next ts) h

  pub colour_read : (p : Placement) (ts : List Token) (side : Side) → first_named side_named ts ≡ Some side
      → read_from g end (AfterColon None p) ts
      ≡ read_from g end (AfterColour (record { side = side; is_second = false; placed = p })) (behind ts)
  unfolding read_from next_stage
  colour_read p [] side h = cc
  colour_read p (t ∷ ts) side h = ap (λ o. if_named o Colour t.place (list_begun None p t.place) >>= λ next. read_from g
      end next ts) h

  pub second_read : (first : Side) (p : Placement) (ts : List Token) (side : Side) → first_named side_named ts
      ≡ Some side → same_side first side ≡ false
      → read_from g end (AfterColon (Some first) p) ts
      ≡ read_from g end (AfterColour (record { side = side; is_second = true; placed = p })) (behind ts)
  unfolding read_from next_stage
  second_read first p [] side h other = cc
  second_read first p (t ∷ ts) side h other =
      ap (λ o. if_named o Colour t.place (list_begun (Some first) p t.place) >>= λ next. read_from g end next ts) h
      ∙ rw other refl

  pub second_fault : (first : Side) (p : Placement) (ts : List Token) (side : Side) → first_named side_named ts
      ≡ Some side → same_side first side ≡ true
      → read_from g end (AfterColon (Some first) p) ts ≡ fault SameColour (place_of ts end)
  unfolding read_from next_stage
  second_fault first p [] side h same = cc
  second_fault first p (t ∷ ts) side h same =
      ap (λ o. if_named o Colour t.place (list_begun (Some first) p t.place) >>= λ next. read_from g end next ts) h
      ∙ rw same refl

  -- ---- a list
  pub list_empty : (list : Listing) (ts : List Token) → (first_is (is_sign 58) ts || first_is (is_sign 46) ts) ≡ true
      → read_from g end (AfterColour list) ts ≡ read_from g end (AfterItem list) ts
  unfolding read_from next_stage
  list_empty list [] h = cc
  list_empty list (t ∷ ts) h = rw h refl

  pub list_at_end : (list : Listing) (ts : List Token) → is_empty ts ≡ true → read_from g end (AfterColour list) ts
      ≡ read_from g end (AfterItem list) ts
  unfolding read_from at_end
  list_at_end list [] h = refl
  list_at_end list (t ∷ ts) h = cc

  pub list_items : (list : Listing) (ts : List Token) → is_empty ts ≡ false
      → (first_is (is_sign 58) ts || first_is (is_sign 46) ts) ≡ false
      → read_from g end (AfterColour list) ts ≡ read_from g end (AfterComma list) ts
  unfolding read_from next_stage
  list_items list [] some h = cc
  list_items list (t ∷ ts) some h = rw h refl

  pub comma_read : (list : Listing) (ts : List Token) → first_is (is_sign 44) ts ≡ true
      → read_from g end (AfterItem list) ts ≡ read_from g end (AfterComma list) (behind ts)
  unfolding read_from next_stage
  comma_read list [] h = cc
  comma_read list (t ∷ ts) h = rw h refl

  -- ---- an item
  pub king_read : (list : Listing) (ts : List Token) → first_is is_king_letter ts ≡ true
      → read_from g end (AfterComma list) ts ≡ read_from g end (AfterKing list) (behind ts)
  unfolding read_from next_stage
  king_read list [] h = cc
  king_read list (t ∷ ts) h = rw h refl

  pub king_number : (list : Listing) (ts : List Token) (n : ℕ) → first_named (number_named g) ts ≡ Some n
      → read_from g end (AfterKing list) ts
      ≡ read_from g end (AfterNumber list (record { is_king = true; from = n; place = place_of ts end }))
      (behind ts)
  unfolding read_from next_stage
  king_number list [] n h = cc
  king_number list (t ∷ ts) n h =
      ap (λ o. if_named o Number t.place
      (λ n. Ok (AfterNumber list (record { is_king = true; from = n; place = t.place }))) >>= λ next. read_from g
      end next ts) h

  pub king_fault : (list : Listing) (ts : List Token) → first_named (number_named g) ts ≡ None
      → read_from g end (AfterKing list) ts ≡ fault Number (place_of ts end)
  unfolding read_from next_stage at_end
  king_fault list [] h = refl
  king_fault list (t ∷ ts) h =
      ap (λ o. if_named o Number t.place
      (λ n. Ok (AfterNumber list (record { is_king = true; from = n; place = t.place }))) >>= λ next. read_from g
      end next ts) h

  pub man_number : (list : Listing) (ts : List Token) (n : ℕ) → first_is is_king_letter ts ≡ false
      → first_named (number_named g) ts ≡ Some n
      → read_from g end (AfterComma list) ts
      ≡ read_from g end (AfterNumber list (record { is_king = false; from = n; place = place_of ts end }))
      (behind ts)
  unfolding read_from next_stage
  man_number list [] n man h = cc
  man_number list (t ∷ ts) n man h = rw man (ap (λ o. if_named o Number t.place
      (λ n. Ok (AfterNumber list (record { is_king = false; from = n; place = t.place }))) >>= λ next. read_from g
      end next ts) h)

  pub man_fault : (list : Listing) (ts : List Token) → first_is is_king_letter ts ≡ false
      → first_named (number_named g) ts ≡ None
      → read_from g end (AfterComma list) ts ≡ fault Number (place_of ts end)
  unfolding read_from next_stage at_end
  man_fault list [] man h = refl
  man_fault list (t ∷ ts) man h = rw man (ap (λ o. if_named o Number t.place
      (λ n. Ok (AfterNumber list (record { is_king = false; from = n; place = t.place }))) >>= λ next. read_from g
      end next ts) h)

  -- with or without K before it
  pub item_number : (list : Listing) (ts : List Token) (king : Bool) (n : ℕ) → king ≡ first_is is_king_letter ts
      → first_named (number_named g) (left_of king ts) ≡ Some n
      → read_from g end (AfterComma list) ts
      ≡ read_from g end (AfterNumber list (record {
        is_king = king;
        from = n;
        place = place_of (left_of king ts) end;
      })) (behind (left_of king ts))
  item_number list ts true n is h = king_read list ts (sym is) ∙ king_number list (behind ts) n h
  item_number list ts false n is h = man_number list ts n (sym is) h

  pub item_fault : (list : Listing) (ts : List Token) (king : Bool) → king ≡ first_is is_king_letter ts
      → first_named (number_named g) (left_of king ts) ≡ None
      → read_from g end (AfterComma list) ts ≡ fault Number (place_of (left_of king ts) end)
  item_fault list ts true is h = king_read list ts (sym is) ∙ king_fault list (behind ts) h
  item_fault list ts false is h = man_fault list ts (sym is) h

  pub dash_read : (list : Listing) (item : Item) (ts : List Token) → first_is (is_sign 45) ts ≡ true
      → read_from g end (AfterNumber list item) ts ≡ read_from g end (AfterDash list item) (behind ts)
  unfolding read_from next_stage
  dash_read list item [] h = cc
  dash_read list item (t ∷ ts) h = rw h refl

  pub dash_fault : (list : Listing) (item : Item) (ts : List Token) → first_named (number_named g) ts ≡ None
      → read_from g end (AfterDash list item) ts ≡ fault Number (place_of ts end)
  unfolding read_from next_stage at_end
  dash_fault list item [] h = refl
  dash_fault list item (t ∷ ts) h =
      ap (λ o. if_named o Number t.place (λ to. cond (ltb to item.from) (fault RangeBackwards t.place)
      (with_item g list item to >>= λ all. Ok (AfterItem all))) >>= λ next. read_from g end next ts) h

  pub range_backwards : (list : Listing) (item : Item) (ts : List Token) (to : ℕ) → first_named (number_named g) ts
      ≡ Some to → to < item.from
      → read_from g end (AfterDash list item) ts ≡ fault RangeBackwards (place_of ts end)
  unfolding read_from next_stage
  range_backwards list item [] to h low = cc
  range_backwards list item (t ∷ ts) to h low =
      ap (λ o. if_named o Number t.place (λ to. cond (ltb to item.from) (fault RangeBackwards t.place)
      (with_item g list item to >>= λ all. Ok (AfterItem all))) >>= λ next. read_from g end next ts) h
      ∙ (let l : ltb to item.from ≡ true = lt-ltb to item.from low in rw l refl)

  range_set : (r : Result Listing FenFault) (ts : List Token)
      → ((r >>= λ all. Ok (AfterItem all)) >>= λ next. read_from g end next ts)
      ≡ (r >>= λ all. read_from g end (AfterItem all) ts)
  range_set (Ok all) ts = refl
  range_set (Err e) ts = refl

  pub range_read : (list : Listing) (item : Item) (ts : List Token) (to : ℕ) → first_named (number_named g) ts ≡ Some to
      → item.from ≤ to
      → read_from g end (AfterDash list item) ts
      ≡ (with_item g list item to >>= λ all. read_from g end (AfterItem all) (behind ts))
  unfolding read_from next_stage
  range_read list item [] to h high = cc
  range_read list item (t ∷ ts) to h high =
      ap (λ o. if_named o Number t.place (λ to. cond (ltb to item.from) (fault RangeBackwards t.place)
      (with_item g list item to >>= λ all. Ok (AfterItem all))) >>= λ next. read_from g end next ts) h
      ∙ (let l : ltb to item.from ≡ false = le-ltb to item.from high in rw l (range_set (with_item g list item to) ts))

  number_ended : (r : Result Listing FenFault) (t : Token) (ts : List Token)
      → ((r >>= λ all. item_ended all t) >>= λ next. read_from g end next ts)
      ≡ (r >>= λ all. read_from g end (AfterItem all) (t ∷ ts))
  unfolding read_from next_stage
  number_ended (Ok all) t ts = refl
  number_ended (Err e) t ts = refl

  number_at_end : (r : Result Listing FenFault) → (r >>= λ all. Ok all.placed)
      ≡ (r >>= λ all. read_from g end (AfterItem all) [])
  unfolding read_from at_end
  number_at_end (Ok all) = refl
  number_at_end (Err e) = refl

  pub number_read : (list : Listing) (item : Item) (ts : List Token) → first_is (is_sign 45) ts ≡ false
      → read_from g end (AfterNumber list item) ts
      ≡ (with_item g list item item.from >>= λ all. read_from g end (AfterItem all) ts)
  unfolding read_from next_stage at_end
  number_read list item [] h = number_at_end (with_item g list item item.from)
  number_read list item (t ∷ ts) h = rw h (number_ended (with_item g list item item.from) t ts)

  -- ---- behind the lists
  pub lists_read : (p : Placement) (ts : List Token) → read_from g end (AfterLists p) ts ≡ Ok p
  unfolding read_from next_stage at_end
  lists_read p [] = refl
  lists_read p (t ∷ ts) = lists_read p ts

  sign_other : (text : List ℕ) (a b : ℕ) → eqb a b ≡ false → is_sign a text ≡ true → is_sign b text ≡ false
  sign_other [] a b ne h = refl
  sign_other (x ∷ []) a b ne h = ap (λ y. eqb y b) (eqb-true x a h) ∙ ne
  sign_other (x ∷ y ∷ text) a b ne h = refl

  pub list_colon : (list : Listing) (ts : List Token) → first_is (is_sign 58) ts ≡ true
      → read_from g end (AfterItem list) ts
      ≡ read_from g end (cond list.is_second (AfterLists list.placed) (AfterColon (Some list.side) list.placed))
      (behind ts)
  unfolding read_from next_stage
  list_colon list [] h = cc
  list_colon list (t ∷ ts) h = let comma : is_sign 44 t.text ≡ false = sign_other t.text 58 44 refl h in
      rw (comma, h) refl

  stop_read : (p : Placement) (ts : List Token) → read_from g end (AfterStop p) ts
      ≡ cond (is_empty ts) (Ok p) (fault Rest (place_of ts end))
  unfolding read_from next_stage at_end
  stop_read p [] = refl
  stop_read p (t ∷ ts) = refl

  -- where neither a comma nor a colon stands, the text ends, with a stop or without one, or is at fault
  pub list_ended : (list : Listing) (ts : List Token) (stop : Bool) → first_is (is_sign 44) ts ≡ false
      → first_is (is_sign 58) ts ≡ false → stop ≡ first_is (is_sign 46) ts
      → read_from g end (AfterItem list) ts ≡ cond (is_empty (left_of stop ts)) (Ok list.placed)
      (fault Rest (place_of (left_of stop ts) end))
  unfolding read_from next_stage at_end
  list_ended list [] true comma colon is = cc
  list_ended list [] false comma colon is = refl
  list_ended list (t ∷ ts) true comma colon is = rw (comma, colon, ← is) (stop_read list.placed ts)
  list_ended list (t ∷ ts) false comma colon is = rw (comma, colon, ← is) refl

  pub ends_well : (list : Listing) (ts after : List Token) (stop : Bool) (p : Placement) → first_is (is_sign 44) ts
      ≡ false → first_is (is_sign 58) ts ≡ false → stop ≡ first_is (is_sign 46) ts
      → after ≡ left_of stop ts → is_empty after ≡ true → list.placed ≡ p → Ok p ≡ read_from g end (AfterItem list) ts
  ends_well list ts after stop p comma colon is left empty at =
      let here : is_empty (left_of stop ts) ≡ true = ap is_empty (sym left) ∙ empty in
      sym (list_ended list ts stop comma colon is ∙ rw here (ap Ok at))

  pub ends_badly : (list : Listing) (ts after : List Token) (stop : Bool) → first_is (is_sign 44) ts ≡ false
      → first_is (is_sign 58) ts ≡ false → stop ≡ first_is (is_sign 46) ts
      → after ≡ left_of stop ts → is_empty after ≡ false → fault Rest (place_of after end)
      ≡ read_from g end (AfterItem list) ts
  ends_badly list ts after stop comma colon is left more =
      let here : is_empty (left_of stop ts) ≡ false = ap is_empty (sym left) ∙ more in
      sym (list_ended list ts stop comma colon is ∙ rw here (ap (λ s. fault Rest (place_of s end)) (sym left)))

  -- ---- the length falls
  pub length-left : (ts after : List Token) (taken : Bool) → after ≡ left_of taken ts → length after ≤ length ts
  length-left [] after true e = rw e (omega arith)
  length-left (t ∷ ts) after true e = rw e (omega arith)
  length-left ts after false e = rw e (omega arith)

  pub length-named : (name : List ℕ → Option ℕ) (n : ℕ) (ts after : List Token) → first_named name ts ≡ Some n
      → after ≡ behind ts → length after < length ts
  length-named name n [] after h e = cc
  length-named name n (t ∷ ts) after h e = rw e (omega arith)

  -- ---- the squares of an item
  pub set_squares-step : (piece : Piece) (place from n : ℕ) (p : Placement) → 0 < n → set_squares g piece place from n p
      ≡ then_set (put_fault g p from piece) place (set_squares g piece place (from + 1) (n - 1)
      (placed p from (Some piece)))
  set_squares-step piece place from zero p h = absurd (omega arith)
  set_squares-step piece place from (suc n) p h = let e : suc n - 1 ≡ n = omega arith in rw e refl

  pub squares_go : (piece : Piece) (place n count s : ℕ) (p next : Placement) → 0 < count → s ≡ n
      → put_fault g p s piece ≡ None → next ≡ placed p s (Some piece)
      → set_squares g piece place n count p ≡ set_squares g piece place (n + 1) (count - 1) next
  squares_go piece place n count s p next h here none is =
      set_squares-step piece place n count p h
      ∙ (ap (λ o. then_set o place (set_squares g piece place (n + 1) (count - 1) (placed p n (Some piece))))
      (ap (λ k. put_fault g p k piece) (sym here) ∙ none)
      ∙ ap (set_squares g piece place (n + 1) (count - 1)) (sym (is ∙ ap (λ k. placed p k (Some piece)) here)))

  pub squares_stop : (piece : Piece) (place n count s : ℕ) (p : Placement) (why : PutFault) → 0 < count → s ≡ n
      → put_fault g p s piece ≡ Some why
      → set_squares g piece place n count p ≡ fault (put_kind why) place
  squares_stop piece place n count s p why h here some =
      set_squares-step piece place n count p h
      ∙ ap (λ o. then_set o place (set_squares g piece place (n + 1) (count - 1) (placed p n (Some piece))))
      (ap (λ k. put_fault g p k piece) (sym here) ∙ some)

  pub squares_done : (piece : Piece) (place n count : ℕ) (p : Placement) → count ≡ 0
      → set_squares g piece place n count p ≡ Ok p
  squares_done piece place n count p h = rw h refl

  -- the squares of an item are set, or one of them can't be
  pub item_set : (from : Result Placement FenFault) (list : Listing) (item : Item) (piece : Piece) (place first to : ℕ)
      (after : List Token) (new : Placement) (r : Result (Unit {0}) FenFault)
      → from ≡ read_behind g end list item to after → piece ≡ piece_of list item → place ≡ item.place
      → first ≡ item.from
      → MatchResult r (λ _. set_squares g piece place first (to + 1 - first) list.placed
      ≡ Ok new) (λ e. set_squares g piece place first (to + 1 - first) list.placed ≡ Err e)
      → MatchResult r (λ _. from ≡ read_from g end (AfterItem (listing list.side list.is_second new)) after) (λ e. from
      ≡ Err e)
  item_set from list item piece place first to after new (Ok u) is same here begin set =
      is ∙ ap (λ r. (r >>= λ p. Ok (listing list.side list.is_second p)) >>= λ all. read_from g end (AfterItem all)
      after)
      (ap (λ q. set_squares g q item.place item.from (to + 1 - item.from) list.placed) (sym same)
      ∙ (ap (λ q. set_squares g piece q item.from (to + 1 - item.from) list.placed) (sym here)
      ∙ (ap (λ q. set_squares g piece place q (to + 1 - q) list.placed) (sym begin) ∙ set)))
  item_set from list item piece place first to after new (Err e) is same here begin set =
      is ∙ ap (λ r. (r >>= λ p. Ok (listing list.side list.is_second p)) >>= λ all. read_from g end (AfterItem all)
      after)
      (ap (λ q. set_squares g q item.place item.from (to + 1 - item.from) list.placed) (sym same)
      ∙ (ap (λ q. set_squares g piece q item.from (to + 1 - item.from) list.placed) (sym here)
      ∙ (ap (λ q. set_squares g piece place q (to + 1 - q) list.placed) (sym begin) ∙ set)))

  -- ---- a list with or without items
  pub list_nothing : (list : Listing) (ts : List Token) → no_item ts ≡ true → read_from g end (AfterColour list) ts
      ≡ read_from g end (AfterItem list) ts
  list_nothing list [] h = list_at_end list [] refl
  list_nothing list (t ∷ ts) h = list_empty list (t ∷ ts) h

  pub list_something : (list : Listing) (ts : List Token) → no_item ts ≡ false → read_from g end (AfterColour list) ts
      ≡ read_from g end (AfterComma list) ts
  list_something list [] h = cc
  list_something list (t ∷ ts) h = list_items list (t ∷ ts) refl h

  pub nothing-no_comma : (ts : List Token) → no_item ts ≡ true → first_is (is_sign 44) ts ≡ false
  nothing-no_comma [] h = refl
  nothing-no_comma (t ∷ ts) h = elim (or_cases _ _ h) [
    | inl colon ↦ sign_other t.text 58 44 refl colon
    | inr stop ↦ sign_other t.text 46 44 refl stop
  ]

  -- one step before
  pub step_before : {A B : Type 0} (r : Result A B) (old now : Result Placement FenFault) (good : A
      → Result Placement FenFault) (bad : B → Result Placement FenFault)
      → old ≡ now → MatchResult r (λ x. now ≡ good x) (λ e. now ≡ bad e)
      → MatchResult r (λ x. old ≡ good x) (λ e. old ≡ bad e)
  step_before (Ok x) old now good bad is h = is ∙ h
  step_before (Err e) old now good bad is h = is ∙ h

  -- the same tokens of the same text
  pub same_read : (stage : Stage) (e other : ℕ) (ts now : List Token) → e ≡ other → now ≡ ts → read_from g e stage now
      ≡ read_from g other stage ts
  same_read stage e other ts now same is = ap (λ x. read_from g x stage now) same ∙ ap (read_from g other stage) is

  pub fault_here : (f : FenFault) (what : FenFaultKind) (e other : ℕ) (ts now : List Token)
      → f ≡ record { what = what; place = place_of now e } → e ≡ other → now ≡ ts
      → fault {A = Placement} what (place_of ts other) ≡ Err f
  fault_here f what e other ts now is same here =
      sym (ap Err is ∙ (ap (λ x. fault what (place_of now x)) same ∙ ap (λ x. fault what (place_of x other)) here))
