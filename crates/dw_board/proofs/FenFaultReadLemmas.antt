-- A fault that the grammar gives is found.
use Rattle.std.proofs.Common.{◌≡◌, ℕ, suc, zero, ◌+◌, ◌-◌, ◌<◌, Bool, true, false, ◌||◌, List, [], ◌∷◌, ◌++◌, map}
use Rattle.std.proofs.Common.{length, Option, Some, None, Ok, refl, sym, ap, ◌∙◌, subst, arith, append_assoc}
use Rattle.std.proofs.Common.{length-append, ◌≢◌}
use Rattle.std.specs.List.{range_with_len}
use Rattle.std.proofs.lemmas.List.{map-append, length-map}
use Rattle.dw_board.specs.Geometry.{Geometry}
use Rattle.dw_board.specs.Placement.{Placement, placed, put_fault, same_side}
use Rattle.dw_board.specs.FenTokens.{Token, is_sign, side_named, number_named}
use Rattle.dw_board.specs.inner.FenReader.{behind}
use Rattle.dw_board.specs.FenTokens.{first_is, first_named, no_item, place_of}
use Rattle.dw_board.specs.inner.FenReading.{listing}
use Rattle.dw_board.specs.FenGrammar.{texts, Placing, IsRange, IsList, named, all_named, Sets, number, range, bare}
use Rattle.dw_board.specs.FenGrammar.{full, single, more}
use Rattle.dw_board.specs.FenFaults.{put_kind, ListNext, first, second, ListRead, listed, ItemNext, behind_colour}
use Rattle.dw_board.specs.FenFaults.{behind_comma, NumberNext, of_men, of_kings, of_range, RangeNext, whole, FaultAt}
use Rattle.dw_board.specs.FenFaults.{no_turn, no_colon, no_colour, same_colour, no_number, backwards, not_put}
use Rattle.dw_board.specs.FenFaults.{behind_item, behind_stop}
use Rattle.dw_board.specs.Fen.{fault, ◌>>=◌, Listing, Item, Stage, Start, AfterColon, AfterColour, AfterComma}
use Rattle.dw_board.specs.Fen.{AfterNumber, AfterItem, read_from, with_item, then_set, set_squares, piece_of}
use Rattle.dw_board.specs.declared.piece.Side.{Side}
use Rattle.dw_board.specs.declared.piece.Side.TheVariants.{White, Black}
use Rattle.dw_board.specs.declared.piece.Piece.{Piece}
use Rattle.dw_board.specs.declared.piece.PutFault.{PutFault}
use Rattle.dw_board.specs.declared.fen.fault.FenFaultKind.{FenFaultKind}
use Rattle.dw_board.specs.declared.fen.fault.FenFaultKind.TheVariants.{Number, Rest, RangeBackwards}
use Rattle.dw_board.proofs.FenStageLemmas.{turn_read, turn_fault, colon_read, colon_fault, colour_read, colour_fault}
use Rattle.dw_board.proofs.FenStageLemmas.{second_read, second_fault, list_something, comma_read, king_read}
use Rattle.dw_board.proofs.FenStageLemmas.{king_number, king_fault, man_number, man_fault, dash_read, dash_fault}
use Rattle.dw_board.proofs.FenStageLemmas.{range_backwards, range_read, number_read, list_colon, list_ended}
use Rattle.dw_board.proofs.FenCompleteLemmas.{Reads, cut, closes, no_dash, closes-no_dash, comma-no_dash, colon-closes}
use Rattle.dw_board.proofs.FenCompleteLemmas.{stop-closes, apart, sets_item, list_begins, list_read}

true-false : {A : Type 0} → true ≡ false → A
true-false e = cc

or_none : (a b : Bool) → (a || b) ≡ false → (a ≡ false) × (b ≡ false)
or_none true b h = cc
or_none false b h = (refl, h)

same_side-refl : (s : Side) → same_side s s ≡ true
same_side-refl White = refl
same_side-refl Black = refl

other_side : (a b : Side) → Some a ≢ Some b → same_side a b ≡ false
other_side White White ne = absurd (ne refl)
other_side White Black ne = refl
other_side Black White ne = refl
other_side Black Black ne = absurd (ne refl)

-- a list behind an earlier one is the second
abbrev later : Option Side → Bool
later None = false
later (Some one) = true

-- ---- what is left is the same
suffix_same : (xs ys cs ds : List Token) → xs ++ cs ≡ ys ++ ds → length cs ≡ length ds → cs ≡ ds
suffix_same [] [] cs ds e h = e
suffix_same [] (y ∷ ys) cs ds e h =
    let l : length cs ≡ suc (length (ys ++ ds)) = ap length e in
    let k = length-append ys ds in
    absurd (omega arith)
suffix_same (x ∷ xs) [] cs ds e h =
    let l : suc (length (xs ++ cs)) ≡ length ds = ap length e in
    let k = length-append xs cs in
    absurd (omega arith)
suffix_same (x ∷ xs) (y ∷ ys) cs ds e h = let t : xs ++ cs ≡ ys ++ ds = cc in suffix_same xs ys cs ds t h

texts_same-length : (cs ds : List Token) → texts cs ≡ texts ds → length cs ≡ length ds
texts_same-length cs ds e = sym (length-map cs (λ t. t.text)) ∙ (ap length e ∙ length-map ds (λ t. t.text))

none-some : {A B : Type 0} (x : A) → None ≡ Some x → B
none-some x e = cc

some-is : {A : Type 0} (x y : A) → Some y ≡ Some x → x ≡ y
some-is x y e = cc

no_texts : (ts : List Token) → texts ts ≡ [] → ts ≡ []
no_texts [] e = refl
no_texts (t ∷ ts) e = cc

-- ---- pieces that are put
stopped : (g : Geometry) (piece : Piece) (place from n : ℕ) (p q : Placement) (put others : List (ℕ × Piece)) (s : ℕ)
    (x : Piece) (why : PutFault)
    → map (λ k. (k, piece)) (range_with_len from n) ≡ put ++ (s, x) ∷ others → Sets g p put q
    → put_fault g q s x ≡ Some why → set_squares g piece place from n p ≡ fault (put_kind why) place
stopped g piece place from zero p q [] others s x why e sets h = cc
stopped g piece place from zero p q (y ∷ put) others s x why e sets h = cc
stopped g piece place from (suc n) p q [] others s x why e sets h =
    let here : ℕ × Piece = (from, piece) in
    let there : ℕ × Piece = (s, x) in
    let pair : here ≡ there = cc in
    let why_here : put_fault g p from piece ≡ Some why = ap (λ r. put_fault g p r.0 r.1) pair
    ∙ (ap (λ r. put_fault g r s x) sets ∙ h) in
    ap (λ o. then_set o place (set_squares g piece place (from + 1) n (placed p from (Some piece)))) why_here
stopped g piece place from (suc n) p q (y ∷ put) others s x why e sets h =
    let pair : y ≡ (from, piece) = cc in
    let rest : map (λ k. (k, piece)) (range_with_len (from + 1) n) ≡ put ++ (s, x) ∷ others = cc in
    let none : put_fault g p from piece ≡ None = ap (λ r. put_fault g p r.0 r.1) (sym pair) ∙ sets.0 in
    let later : Sets g (placed p from (Some piece)) put q =
    subst (λ r. Sets g (placed p r.0 (Some r.1)) put q) pair sets.1 in
    ap (λ o. then_set o place (set_squares g piece place (from + 1) n (placed p from (Some piece)))) none
    ∙ stopped g piece place (from + 1) n (placed p from (Some piece)) q put others s x why rest later h

abbrev pub item_of : Placing → ℕ → Item
item_of i place = record { is_king = i.is_king; from = i.from; place = place }

bare_alone : {g : Geometry} (ws : List (List ℕ)) (is : List Placing) (side : Side) → IsList g ws side is → is ≡ []
    → (w : List ℕ) × (ws ≡ w ∷ [])
bare_alone ws is side (bare {w = w} h) e = (w, refl)
bare_alone ws is side (full h (single item)) e = cc
bare_alone ws is side (full h (more front comma vs item sign items)) e = cc

module _ (g : Geometry) (end : ℕ) where
  exact : (from to : Stage) (vs after : List Token) → Reads g end from (vs ++ after) (texts after) to
      → read_from g end from (vs ++ after) ≡ read_from g end to after
  exact from to vs after r = r.same ∙ ap (read_from g end to) (suffix_same r.front vs r.rest after (sym r.is)
      (texts_same-length r.rest after r.words))

  -- ---- lists
  -- a list is read up to its colour
  pub record Coloured (before : List Token) (is_second : Bool) (side : Side) (is : List Placing) (p : Placement) :
      Type 0 where
    pub colour : List ℕ
    pub items : List Token
    pub start : Placement
    pub list : IsList g (colour ∷ texts items) side is
    pub sets : Sets g start (all_named side is) p
    pub reads : (after : List Token) → read_from g end Start (before ++ after)
        ≡ read_from g end (AfterColour (listing side is_second start)) (items ++ after)

  list_done : (before : List Token) (is_second : Bool) (side : Side) (is : List Placing) (p : Placement)
      → Coloured before is_second side is p → (after : List Token) → (is ≡ [] → closes (texts after) ≡ true)
      → no_dash (texts after) ≡ true
      → read_from g end Start (before ++ after) ≡ read_from g end (AfterItem (listing side is_second p)) after
  list_done before is_second side is p c after closed clear = c.reads after
      ∙ exact (AfterColour (listing side is_second c.start)) (AfterItem (listing side is_second p)) c.items after
      (list_read g end side c.colour (texts c.items) is c.list is_second c.start p (c.items ++ after) (texts after)
      (map-append (λ t. t.text) c.items after) closed clear c.sets)

  -- the second colon of a text
  second_colon : (before : List Token) (side : Side) (is : List Placing) (p : Placement)
      → Coloured before false side is p → (c : Token) → is_sign 58 c.text ≡ true → (after : List Token)
      → read_from g end Start (before ++ c ∷ after) ≡ read_from g end (AfterColon (Some side) p) after
  second_colon before side is p l c sign after =
      let closed = colon-closes c.text (texts after) sign in
      list_done before false side is p l (c ∷ after) (λ e. closed) (closes-no_dash (texts (c ∷ after)) closed)
      ∙ list_colon g end (listing side false p) (c ∷ after) sign

  colour_then : (earlier : Option Side) (p : Placement) (t : Token) (ts : List Token) (side : Side)
      → side_named t.text ≡ Some side → earlier ≢ Some side
      → read_from g end (AfterColon earlier p) (t ∷ ts)
      ≡ read_from g end (AfterColour (listing side (later earlier) p)) ts
  colour_then None p t ts side named other = colour_read g end p (t ∷ ts) side named
  colour_then (Some one) p t ts side named other =
      second_read g end one p (t ∷ ts) side named (other_side one side other)

  coloured_behind : (before ws : List Token) (earlier : Option Side) (side : Side) (is : List Placing) (p q : Placement)
      → ((after : List Token) → read_from g end Start (before ++ after) ≡ read_from g end (AfterColon earlier p) after)
      → IsList g (texts ws) side is → earlier ≢ Some side → Sets g p (all_named side is) q
      → Coloured (before ++ ws) (later earlier) side is q
  coloured_behind before ws earlier side is p q lead list other sets =
      let h = list_begins (texts ws) is side list in
      let k = cut ws h.0 h.1 h.2 in
      record {
        colour = h.0;
        items = k.rest;
        start = p;
        list = subst (λ l. IsList g (h.0 ∷ l) side is) (sym k.others) h.4;
        sets = sets;
        reads = λ after. ap (read_from g end Start) (append_assoc before ws after)
            ∙ (lead (ws ++ after) ∙ (ap (λ l. read_from g end (AfterColon earlier p) (l ++ after)) k.is
            ∙ colour_then earlier p k.first (k.rest ++ after) side (ap side_named k.text ∙ h.3) other));
      }

  list_next : (before : List Token) (earlier : Option Side) (p : Placement) → ListNext g before earlier p
      → (after : List Token) → read_from g end Start (before ++ after) ≡ read_from g end (AfterColon earlier p) after
  list_next before earlier p (first {turn = turn} {c = c} {mover = mover} turned sign) = λ after.
      turn_read g end (turn ∷ c ∷ after) mover turned ∙ colon_read g end mover (c ∷ after) sign
  list_next before earlier p (second {before = front} ws c {side = side} {is = is} {p = start} next list sets sign) =
      let none : None ≢ Some side = λ e. cc in
      let lead = coloured_behind front ws None side is start p (list_next front None start next) list none sets in
      λ after. ap (read_from g end Start) (append_assoc (front ++ ws) (c ∷ []) after)
      ∙ second_colon (front ++ ws) side is p lead c sign after

  coloured : (before : List Token) (side : Side) (is : List Placing) (p : Placement) → ListRead g before side is p
      → (is_second : Bool) × Coloured before is_second side is p
  coloured before side is p (listed {before = front} ws {earlier = earlier} {p = start} next list other sets) = (
    later earlier,
    coloured_behind front ws earlier side is start p (list_next front earlier start next) list other
        sets,
  )

  -- ---- items
  item_next : (before after : List Token) (side : Side) (p : Placement) → ItemNext g before after side p
      → (is_second : Bool) × (read_from g end Start (before ++ after)
      ≡ read_from g end (AfterComma (listing side is_second p)) after)
  item_next before after side p (behind_colour l some) =
      let h = coloured before side [] p l in
      let c = h.1 in
      let alone = bare_alone (c.colour ∷ texts c.items) [] side c.list refl in
      let nothing : texts c.items ≡ [] = cc in (
        h.0,
        c.reads after
            ∙ (ap (λ l. read_from g end (AfterColour (listing side h.0 c.start)) (l ++ after)) (no_texts c.items
            nothing) ∙ (ap (λ q. read_from g end (AfterColour (listing side h.0 q)) after) c.sets
            ∙ list_something g end (listing side h.0 p) after some)),
      )
  item_next before after side p (behind_comma {before = front} c {i = i} {is = is} l sign) =
      let h = coloured front side (i ∷ is) p l in
      let none : (i ∷ is ≡ []) → closes (texts (c ∷ after)) ≡ true = λ e. cc in (
        h.0,
        ap (read_from g end Start) (append_assoc front (c ∷ []) after)
            ∙ (list_done front h.0 side (i ∷ is) p h.1 (c ∷ after) none (comma-no_dash c.text (texts after) sign)
            ∙ comma_read g end (listing side h.0 p) (c ∷ after) sign),
      )

  pub record NumberRead (before after : List Token) (from : Option ℕ) (is_king : Bool) (side : Side) (p : Placement) :
      Type 0 where
    pub is_second : Bool
    pub found : from ≡ None → (n : ℕ) → first_named (number_named g) after ≡ Some n
        → read_from g end Start (before ++ after)
        ≡ read_from g end (AfterNumber (listing side is_second p)
        (record { is_king = is_king; from = n; place = place_of after end })) (behind after)
    pub missing : first_named (number_named g) after ≡ None → read_from g end Start (before ++ after)
        ≡ fault Number (place_of after end)
    pub low : (m n : ℕ) → from ≡ Some m → first_named (number_named g) after ≡ Some n → n < m
        → read_from g end Start (before ++ after) ≡ fault RangeBackwards (place_of after end)

  number_next : (before after : List Token) (from : Option ℕ) (is_king : Bool) (side : Side) (p : Placement)
      → NumberNext g before after from is_king side p → NumberRead before after from is_king side p
  number_next before after from is_king side p (of_men item man) =
      let h = item_next before after side p item in
      let list = listing side h.0 p in
      record {
        is_second = h.0;
        found = λ first n e. h.1 ∙ man_number g end list after n man e;
        missing = λ e. h.1 ∙ man_fault g end list after man e;
        low = λ m n first. none-some m first;
      }
  number_next before after from is_king side p (of_kings {before = front} {k = k} item king) =
      let h = item_next front (k ∷ after) side p item in
      let list = listing side h.0 p in
      let start = ap (read_from g end Start) (append_assoc front (k ∷ []) after)
      ∙ (h.1 ∙ king_read g end list (k ∷ after) king) in
      record {
        is_second = h.0;
        found = λ first n e. start ∙ king_number g end list after n e;
        missing = λ e. start ∙ king_fault g end list after e;
        low = λ m n first. none-some m first;
      }
  number_next before after from is_king side p (of_range {before = front} {v = v} {d = d} {m = m} next numbered dash) =
      let k = number_next front (v ∷ d ∷ after) None is_king side p next in
      let list : Listing = listing side k.is_second p in
      let item : Item = record { is_king = is_king; from = m; place = v.place } in
      let start = ap (read_from g end Start) (append_assoc front (v ∷ d ∷ []) after)
      ∙ (k.found refl m numbered ∙ dash_read g end list item (d ∷ after) dash) in
      record {
        is_second = k.is_second;
        found = λ first. none-some m (sym first);
        missing = λ e. start ∙ dash_fault g end list item after e;
        low = λ l n is e below. start ∙ range_backwards g end list item after n e (subst (λ x. n < x)
            (some-is l m is) below);
      }

  pub record RangeRead (ts rest : List Token) (m n : ℕ) : Type 0 where
    pub begins : first_named (number_named g) (ts ++ rest) ≡ Some m
    pub reads : (list : Listing) (item : Item) → item.from ≡ m
        → read_from g end (AfterNumber list item) (behind (ts ++ rest))
        ≡ (with_item g list item n >>= λ all. read_from g end (AfterItem all) rest)

  range_here : (ws : List (List ℕ)) (m n : ℕ) → IsRange g ws m n → (ts rest : List Token) → texts ts ≡ ws
      → (length ts ≡ 1 → first_is (is_sign 45) rest ≡ false) → RangeRead ts rest m n
  range_here ws m n (number h) [] rest e clear = cc
  range_here ws m n (number {w = w} h) (t ∷ []) rest e clear =
      let text : t.text ≡ w = cc in
      record {
        begins = ap (number_named g) text ∙ h;
        reads = λ list item is. number_read g end list item rest (clear refl)
            ∙ ap (λ k. with_item g list item k >>= λ all. read_from g end (AfterItem all) rest) is;
      }
  range_here ws m n (number h) (t ∷ u ∷ ts) rest e clear = cc
  range_here ws m n (range h dash k le) [] rest e clear = cc
  range_here ws m n (range h dash k le) (t ∷ []) rest e clear = cc
  range_here ws m n (range h dash k le) (t ∷ d ∷ []) rest e clear = cc
  range_here ws m n (range {v = v} {d = s} {w = w} h dash k le) (t ∷ d ∷ u ∷ []) rest e clear =
      let first : t.text ≡ v = cc in
      let middle : d.text ≡ s = cc in
      let last : u.text ≡ w = cc in
      record {
        begins = ap (number_named g) first ∙ h;
        reads = λ list item is. dash_read g end list item (d ∷ u ∷ rest) (ap (is_sign 45) middle ∙ dash)
            ∙ range_read g end list item (u ∷ rest) n (ap (number_named g) last ∙ k) (omega arith);
      }
  range_here ws m n (range h dash k le) (t ∷ d ∷ u ∷ x ∷ ts) rest e clear = cc

  -- an item that stands next is set, and then what is behind it is read
  pub record ItemRead (before ts rest : List Token) (i : Placing) (side : Side) (p : Placement) : Type 0 where
    pub is_second : Bool
    pub reads : read_from g end Start (before ++ (ts ++ rest))
        ≡ (with_item g (listing side is_second p) (item_of i (place_of (ts ++ rest) end)) i.to >>= λ all.
        read_from g end (AfterItem all) rest)

  item_read : (before ts rest : List Token) (i : Placing) (side : Side) (p : Placement)
      → RangeNext g before ts rest i side p → ItemRead before ts rest i side p
  item_read before ts rest i side p (whole {m = m} {n = n} {kings = is_king} next is clear) =
      let h = number_next before (ts ++ rest) None is_king side p next in
      let r = range_here (texts ts) m n is ts rest refl clear in
      record {
        is_second = h.is_second;
        reads = h.found refl m r.begins ∙ r.reads (listing side h.is_second p)
            (record { is_king = is_king; from = m; place = place_of (ts ++ rest) end }) refl;
      }

  behind_fault : (list : Listing) (rest : List Token) → no_item rest ≡ false → first_is (is_sign 44) rest ≡ false
      → read_from g end (AfterItem list) rest ≡ fault Rest (place_of rest end)
  behind_fault list [] some comma = cc
  behind_fault list (t ∷ ts) some comma =
      let h = or_none _ _ some in
      list_ended g end list (t ∷ ts) false comma h.0 (sym h.1)

  -- ---- faults
  pub fault_read : (before after : List Token) (what : FenFaultKind) → FaultAt g before after what
      → read_from g end Start (before ++ after) ≡ fault what (place_of after end)
  fault_read before after what (no_turn h) = turn_fault g end after h
  fault_read before after what (no_colon {turn = turn} {mover = mover} turned h) =
      turn_read g end (turn ∷ after) mover turned ∙ colon_fault g end mover after h
  fault_read before after what (no_colour {earlier = earlier} {p = p} next h) = list_next before earlier p next after
      ∙ colour_fault g end earlier p after h
  fault_read before after what (same_colour {side = side} {p = p} next h) = list_next before (Some side) p next after
      ∙ second_fault g end side p after side h (same_side-refl side)
  fault_read before after what (no_number {from = from} {kings = kings} {side = side} {p = p} next h) =
      (number_next before after from kings side p next).missing h
  fault_read before after what (backwards {m = m} {n = n} {kings = kings} {side = side} {p = p} next h below) =
      (number_next before after (Some m) kings side p next).low m n refl h below
  fault_read before after what (not_put ts rest {i = i} {side = side} {p = p} q put others s piece {why = why} next
      split sets h) =
      let r = item_read before ts rest i side p next in
      let place = place_of (ts ++ rest) end in
      r.reads
      ∙ ap (λ x. (x >>= λ q. Ok (listing side r.is_second q)) >>= λ all. read_from g end (AfterItem all) rest)
      (stopped g (piece_of (listing side r.is_second p) (item_of i place)) place i.from (i.to + 1 - i.from) p q put
      others s piece why split sets h)
  fault_read before after what (behind_item {before = front} ts {i = i} {side = side} {p = p} q next sets some comma) =
      let r = item_read front ts after i side p next in
      let list = listing side r.is_second p in
      ap (read_from g end Start) (append_assoc front ts after)
      ∙ (r.reads ∙ (ap (λ x. x >>= λ all. read_from g end (AfterItem all) after)
      (sets_item g list (item_of i (place_of (ts ++ after) end)) i.to q sets)
      ∙ behind_fault (listing side r.is_second q) after some comma))
  fault_read before after what (behind_stop {before = front} stop {side = side} {is = is} {p = p} l sign left) =
      let closed = stop-closes stop.text (texts after) sign in
      let h = coloured front side is p l in
      ap (read_from g end Start) (append_assoc front (stop ∷ []) after)
      ∙ (list_done front h.0 side is p h.1 (stop ∷ after) (λ e. closed) (closes-no_dash (texts (stop ∷ after)) closed)
      ∙ (list_ended g end (listing side h.0 p) (stop ∷ after) true (apart stop.text 46 44 refl sign)
      (apart stop.text 46 58 refl sign) (sym sign) ∙ rw left refl))
