-- A fault that is found is one that the grammar gives.
use Rattle.std.proofs.Common.{◌≡◌, ℕ, suc, zero, ◌+◌, ◌-◌, ◌≤◌, Bool, true, false, ◌||◌, cond, ltb, List, [], ◌∷◌, ◌++◌}
use Rattle.std.proofs.Common.{map, Option, Some, None, Result, Ok, Err, refl, sym, ap, ◌∙◌, subst, arith, ◌⊎◌, inl, inr}
use Rattle.std.proofs.Common.{append_assoc, ◌≢◌}
use Rattle.std.specs.List.{range_with_len}
use Rattle.std.proofs.lemmas.Bool.{ltb-true, ltb-false}
use Rattle.std.proofs.lemmas.List.{map-append}
use Rattle.std.proofs.lemmas.Grind.{flat_map-append}
use Rattle.dw_board.specs.Geometry.{Geometry}
use Rattle.dw_board.specs.Placement.{Placement, empty, placed, put_fault, same_side}
use Rattle.dw_board.specs.FenTokens.{Token, is_sign, side_named, is_king_letter, number_named, first_is, is_empty}
use Rattle.dw_board.specs.FenTokens.{no_item, place_of}
use Rattle.dw_board.specs.inner.FenReading.{listing}
use Rattle.dw_board.specs.FenGrammar.{texts, Placing, IsRange, IsItem, IsItems, IsList, named, all_named, Sets, number}
use Rattle.dw_board.specs.FenGrammar.{range, men, kings, single, more, bare, full}
use Rattle.dw_board.specs.FenFaults.{put_kind, ListNext, first, second, ListRead, listed, ItemNext, behind_colour}
use Rattle.dw_board.specs.FenFaults.{behind_comma, NumberNext, of_men, of_kings, of_range, RangeNext, whole, FaultAt}
use Rattle.dw_board.specs.FenFaults.{no_turn, no_colon, no_colour, same_colour, no_number, backwards, not_put}
use Rattle.dw_board.specs.FenFaults.{behind_item, behind_stop}
use Rattle.dw_board.specs.Fen.{fault, Listing, Item, Stage, Start, AfterTurn, AfterColon, AfterColour, AfterComma}
use Rattle.dw_board.specs.Fen.{AfterKing, AfterNumber, AfterDash, AfterItem, AfterStop, AfterLists, next_stage, at_end}
use Rattle.dw_board.specs.Fen.{read_from, with_item, item_ended, item_begun, list_begun, if_named, then_set}
use Rattle.dw_board.specs.Fen.{set_squares, piece_of}
use Rattle.dw_board.specs.declared.piece.Side.{Side}
use Rattle.dw_board.specs.declared.piece.Side.TheVariants.{White, Black}
use Rattle.dw_board.specs.declared.piece.Piece.{Piece}
use Rattle.dw_board.specs.declared.piece.PutFault.{PutFault}
use Rattle.dw_board.specs.declared.fen.fault.FenFault.{FenFault}
use Rattle.dw_board.specs.declared.fen.fault.FenFaultKind.{FenFaultKind}
use Rattle.dw_board.specs.declared.fen.fault.FenFaultKind.TheVariants.{Turn, Colon, Colour, Number, SameColour, Rest}
use Rattle.dw_board.specs.declared.fen.fault.FenFaultKind.TheVariants.{RangeBackwards}
use Rattle.dw_board.proofs.FenSoundLemmas.{bind_ok, chosen, named_ok, same_ok, Sets-append, item_sets, no_comma_here}
use Rattle.dw_board.proofs.FenFaultLemmas.{ok_err, bind_err, item_err}

true-false : {A : Type 0} → true ≡ false → A
true-false e = cc

-- ---- what is at fault
named_fault : {A : Type 0} (o : Option A) (what : FenFaultKind) (place : ℕ) (k : A → Result Stage FenFault)
    (f : FenFault) → if_named o what place k ≡ Err f
    → ((o ≡ None) × (fault {A = Stage} what place ≡ Err f)) ⊎ ((x : A) × (o ≡ Some x) × (k x ≡ Err f))
named_fault None what place k f e = inl (refl, e)
named_fault (Some x) what place k f e = inr (x, refl, e)

then_fault : (o : Option PutFault) (place : ℕ) (r : Result Placement FenFault) (f : FenFault)
    → then_set o place r ≡ Err f → ((o ≡ None) × (r ≡ Err f))
    ⊎ ((why : PutFault) × (o ≡ Some why) × (fault {A = Placement} (put_kind why) place ≡ Err f))
then_fault None place r f e = inl (refl, e)
then_fault (Some why) place r f e = inr (why, refl, e)

same_side-is : (a b : Side) → same_side a b ≡ true → b ≡ a
same_side-is White White e = refl
same_side-is White Black e = cc
same_side-is Black White e = cc
same_side-is Black Black e = refl

same_side-refl : (a : Side) → same_side a a ≡ true
same_side-refl White = refl
same_side-refl Black = refl

not_same : (a b : Side) → same_side a b ≡ false → Some a ≢ Some b
not_same a b h = λ e.
    let same : a ≡ b = cc in
    true-false (sym (same_side-refl a) ∙ (ap (same_side a) same ∙ h))

-- the first piece that can't be put
record Unput (g : Geometry) (pieces : List (ℕ × Piece)) (place : ℕ) (p : Placement) (f : FenFault) : Type 0 where
  pub put : List (ℕ × Piece)
  pub others : List (ℕ × Piece)
  pub s : ℕ
  pub piece : Piece
  pub q : Placement
  pub why : PutFault
  pub split : pieces ≡ put ++ (s, piece) ∷ others
  pub sets : Sets g p put q
  pub not_put : put_fault g q s piece ≡ Some why
  pub is : fault {A = Placement} (put_kind why) place ≡ Err f

unput : (g : Geometry) (piece : Piece) (place from n : ℕ) (p : Placement) (f : FenFault)
    → set_squares g piece place from n p ≡ Err f
    → Unput g (map (λ s. (s, piece)) (range_with_len from n)) place p f
unput g piece place from zero p f e = cc
unput g piece place from (suc n) p f e = elim (then_fault (put_fault g p from piece) place _ f e) [
  | inl later ↦
      let u = unput g piece place (from + 1) n (placed p from (Some piece)) f later.1 in
      record {
        put = (from, piece) ∷ u.put;
        others = u.others;
        s = u.s;
        piece = u.piece;
        q = u.q;
        why = u.why;
        split = ap (λ l. (from, piece) ∷ l) u.split;
        sets = (later.0, u.sets);
        not_put = u.not_put;
        is = u.is;
      }
  | inr here ↦ record {
    put = [];
    others = map (λ s. (s, piece)) (range_with_len (from + 1) n);
    s = from;
    piece = piece;
    q = p;
    why = here.0;
    split = refl;
    sets = refl;
    not_put = here.1;
    is = here.2;
  }
]

item_unput : (g : Geometry) (list : Listing) (item : Item) (to : ℕ) (f : FenFault) → with_item g list item to ≡ Err f
    → Unput g (named list.side (record { is_king = item.is_king; from = item.from; to = to })) item.place list.placed f
item_unput g list item to f e = unput g (piece_of list item) item.place item.from (to + 1 - item.from) list.placed f
    (item_err g list item to f e)

-- ---- a list with one item more
items_grow : {g : Geometry} (ws : List (List ℕ)) (is : List Placing) (c : List ℕ) (vs : List (List ℕ)) (j : Placing)
    → IsItems g ws is → is_sign 44 c ≡ true → IsItem g vs j → IsItems g (ws ++ c ∷ vs) (is ++ j ∷ [])
items_grow ws is c vs j (single item) comma last = more ws c vs item comma (single last)
items_grow {g} ws is c vs j (more {i = i} {is = js} front d us item sign items) comma last =
    subst (λ l. IsItems g l (i ∷ (js ++ j ∷ []))) (sym (append_assoc front (d ∷ us) (c ∷ vs)))
    (more front d (us ++ c ∷ vs) item sign (items_grow us js c vs j items comma last))

none-some : {A B : Type 0} (x : A) → None ≡ Some x → B
none-some x e = cc

has_one : {A : Type 0} {g : Geometry} (ws : List (List ℕ)) (is : List Placing) → IsItems g ws is → is ≡ [] → A
has_one ws is (single item) e = cc
has_one ws is (more front c vs item sign items) e = cc

bare_grow : {g : Geometry} (ws : List (List ℕ)) (side : Side) (is : List Placing) (vs : List (List ℕ)) (j : Placing)
    → IsList g ws side is → is ≡ [] → IsItem g vs j → IsList g (ws ++ vs) side (is ++ j ∷ [])
bare_grow ws side is vs j (bare h) e item = full h (single item)
bare_grow ws side is vs j (full {ws = us} h items) e item = has_one us is items e

full_grow : {g : Geometry} (ws : List (List ℕ)) (side : Side) (i : Placing) (is js : List Placing) (c : List ℕ)
    (vs : List (List ℕ)) (j : Placing)
    → IsList g ws side js → js ≡ i ∷ is → is_sign 44 c ≡ true → IsItem g vs j
    → IsList g (ws ++ c ∷ vs) side (js ++ j ∷ [])
full_grow ws side i is js c vs j (bare h) e comma item = cc
full_grow ws side i is js c vs j (full {ws = us} h items) e comma item = full h (items_grow us js c vs j items comma
    item)

named-grow : (side : Side) (is : List Placing) (j : Placing) → all_named side (is ++ j ∷ []) ≡ all_named side is
    ++ (named side j ++ [])
named-grow side is j = flat_map-append (named side) is (j ∷ [])

module _ (g : Geometry) where
  sets_grow : (side : Side) (is : List Placing) (j : Placing) (p q r : Placement) → Sets g p (all_named side is) q
      → Sets g q (named side j) r → Sets g p (all_named side (is ++ j ∷ [])) r
  sets_grow side is j p q r h k = subst (λ l. Sets g p l r) (sym (named-grow side is j))
      (Sets-append g p q r (all_named side is) (named side j ++ []) h
      (Sets-append g q r r (named side j) [] k refl))

  -- tokens up to and with a list, of which it is known whether it is the second one
  pub record ListOf (before : List Token) (is_second : Bool) (side : Side) (is : List Placing) (q : Placement) :
      Type 0 where
    pub front : List Token
    pub ws : List Token
    pub earlier : Option Side
    pub start : Placement
    pub split : before ≡ front ++ ws
    pub lead : ListNext g front earlier start
    pub list : IsList g (texts ws) side is
    pub other : earlier ≢ Some side
    pub sets : Sets g start (all_named side is) q
    pub is_first : is_second ≡ false → earlier ≡ None

  is_listed : (before : List Token) (is_second : Bool) (side : Side) (is : List Placing) (p : Placement)
      → ListOf before is_second side is p → ListRead g before side is p
  is_listed before is_second side is p l = subst (λ l. ListRead g l side is p) (sym l.split)
      (listed l.ws l.lead l.list l.other l.sets)

  colon_next : (before : List Token) (side : Side) (is : List Placing) (p : Placement) (c : Token)
      → ListOf before false side is p → is_sign 58 c.text ≡ true → ListNext g (before ++ c ∷ []) (Some side) p
  colon_next before side is p c l sign = subst (λ b. ListNext g (b ++ c ∷ []) (Some side) p) (sym l.split)
      (second l.ws c (subst (λ o. ListNext g l.front o l.start) (l.is_first refl) l.lead) l.list l.sets sign)

  list_grow : (before : List Token) (is_second : Bool) (side : Side) (is : List Placing) (p : Placement)
      → ListOf before is_second side is p → (vs : List Token) (j : Placing) (q : Placement)
      → ((ws : List (List ℕ)) → IsList g ws side is → IsList g (ws ++ texts vs) side (is ++ j ∷ []))
      → Sets g p (named side j) q → ListOf (before ++ vs) is_second side (is ++ j ∷ []) q
  list_grow before is_second side is p l vs j q grow put = record {
    front = l.front;
    ws = l.ws ++ vs;
    earlier = l.earlier;
    start = l.start;
    split = ap (λ b. b ++ vs) l.split ∙ append_assoc l.front l.ws vs;
    lead = l.lead;
    list = subst (λ b. IsList g b side (is ++ j ∷ [])) (sym (map-append (λ t. t.text) l.ws vs))
        (grow (texts l.ws) l.list);
    other = l.other;
    sets = sets_grow side is j l.start p q l.sets put;
    is_first = l.is_first;
  }

  -- a list that has items
  HasItems : List Token → Bool → Side → Placement → Type 0
  HasItems before is_second side p = (i : Placing) × (is : List Placing) × ListOf before is_second side (i ∷ is) p

  has_items : (before : List Token) (is_second : Bool) (side : Side) (is : List Placing) (j : Placing) (p : Placement)
      → ListOf before is_second side (is ++ j ∷ []) p → HasItems before is_second side p
  unfolding HasItems
  has_items before is_second side [] j p l = (j, [], l)
  has_items before is_second side (i ∷ is) j p l = (i, is ++ j ∷ [], l)

  -- an item that follows is one of the list
  abbrev TakesItem : List Token → Listing → Type 0
  TakesItem before list = (ws : List Token) (i : Placing) (q : Placement) → IsItem g (texts ws) i
      → Sets g list.placed (named list.side i) q → HasItems (before ++ ws) list.is_second list.side q

  abbrev TakesRange : List Token → Bool → Listing → Type 0
  TakesRange before is_king list = (ws : List Token) (m n : ℕ) (q : Placement) → IsRange g (texts ws) m n
      → Sets g list.placed (named list.side (record { is_king = is_king; from = m; to = n })) q
      → HasItems (before ++ ws) list.is_second list.side q

  colour_takes : (before : List Token) (list : Listing) → ListOf before list.is_second list.side [] list.placed
      → TakesItem before list
  colour_takes before list l = λ ws i q item sets. has_items (before ++ ws) list.is_second list.side [] i q
      (list_grow before list.is_second list.side [] list.placed l ws i q
      (λ us h. bare_grow us list.side [] (texts ws) i h refl item) sets)

  comma_takes : (before : List Token) (c : Token) (list : Listing) (i : Placing) (is : List Placing)
      → ListOf before list.is_second list.side (i ∷ is) list.placed → is_sign 44 c.text ≡ true
      → TakesItem (before ++ c ∷ []) list
  comma_takes before c list i is l comma = λ ws j q item sets.
      subst (λ l. HasItems l list.is_second list.side q) (sym (append_assoc before (c ∷ []) ws))
      (has_items (before ++ c ∷ ws) list.is_second list.side (i ∷ is) j q
      (list_grow before list.is_second list.side (i ∷ is) list.placed l (c ∷ ws) j q
      (λ us h. full_grow us list.side i is (i ∷ is) c.text (texts ws) j h refl comma item) sets))

  -- ---- what was read, stage by stage
  -- the last token is an item's first number
  record Numbered (before : List Token) (list : Listing) (item : Item) : Type 0 where
    pub front : List Token
    pub first : Token
    pub is : before ≡ front ++ first ∷ []
    pub names : number_named g first.text ≡ Some item.from
    pub place : item.place ≡ first.place
    pub next : (after : List Token) → NumberNext g front (first ∷ after) None item.is_king list.side list.placed
    pub takes : TakesRange front item.is_king list

  record Dashed (before : List Token) (list : Listing) (item : Item) : Type 0 where
    pub numbered : List Token
    pub dash : Token
    pub is : before ≡ numbered ++ dash ∷ []
    pub sign : is_sign 45 dash.text ≡ true
    pub number : Numbered numbered list item

  Read : List Token → Stage → Type 0
  Read before Start = before ≡ []
  Read before (AfterTurn turn) = (t : Token) × (before ≡ t ∷ []) × (side_named t.text ≡ Some turn)
  Read before (AfterColon earlier p) = ListNext g before earlier p
  Read before (AfterColour list) = ListOf before list.is_second list.side [] list.placed
  Read before (AfterComma list) = ((after : List Token) → ItemNext g before after list.side list.placed)
      × TakesItem before list
  Read before (AfterKing list) = ((after : List Token) → NumberNext g before after None true list.side list.placed)
      × TakesRange before true list
  Read before (AfterNumber list item) = Numbered before list item
  Read before (AfterDash list item) = Dashed before list item
  Read before (AfterItem list) = HasItems before list.is_second list.side list.placed
      × ((after : List Token) → no_item after ≡ false → first_is (is_sign 44) after ≡ false
      → FaultAt g before after Rest)
  Read before (AfterStop p) = (after : List Token) → is_empty after ≡ false → FaultAt g before after Rest
  Read before (AfterLists p) = Unit {0}

  -- a fault that the grammar gives these tokens
  pub record Found (end : ℕ) (tokens : List Token) (f : FenFault) : Type 0 where
    pub before : List Token
    pub after : List Token
    pub is : tokens ≡ before ++ after
    pub here : FaultAt g before after f.what
    pub place : f.place ≡ place_of after end

  found_at : {A : Type 0} (end : ℕ) (tokens before after : List Token) (what : FenFaultKind) (place : ℕ) (f : FenFault)
      → fault {A = A} what place ≡ Err f → tokens ≡ before ++ after → FaultAt g before after what
      → place ≡ place_of after end → Found end tokens f
  found_at end tokens before after what place f e is here at =
      let same : record { what = what; place = place } ≡ f = cc in
      subst (Found end tokens) same (record { before = before; after = after; is = is; here = here; place = at })

  -- at a stage, this token and what is behind it, or the end
  found_here : {A : Type 0} (end : ℕ) (tokens after : List Token) (what : FenFaultKind) (f : FenFault)
      → fault {A = A} what (place_of after end) ≡ Err f → FaultAt g tokens after what → Found end (tokens ++ after) f
  found_here {A} end tokens after what f e here = found_at {A = A} end (tokens ++ after) tokens after what
      (place_of after end) f e refl here refl

  -- ---- items
  number_split : (tokens : List Token) (list : Listing) (item : Item) (n : Numbered tokens list item)
      (after : List Token) → tokens ++ after ≡ n.front ++ n.first ∷ after
  number_split tokens list item n after = ap (λ l. l ++ after) n.is ∙ append_assoc n.front (n.first ∷ []) after

  dash_split : (tokens : List Token) (list : Listing) (item : Item) (d : Dashed tokens list item) (after : List Token)
      → tokens ++ after ≡ d.number.front ++ d.number.first ∷ d.dash ∷ after
  dash_split tokens list item d after = ap (λ l. l ++ after) d.is
      ∙ (append_assoc d.numbered (d.dash ∷ []) after ∙ number_split d.numbered list item d.number (d.dash ∷ after))

  -- behind a dash the last number of a range has to stand
  last_next : (tokens : List Token) (list : Listing) (item : Item) (d : Dashed tokens list item) (after : List Token)
      → NumberNext g tokens after (Some item.from) item.is_king list.side list.placed
  last_next tokens list item d after =
      let n = d.number in
      let split : tokens ≡ n.front ++ n.first ∷ d.dash ∷ [] = d.is ∙ number_split d.numbered list item n (d.dash ∷ [])
      in subst (λ l. NumberNext g l after (Some item.from) item.is_king list.side list.placed) (sym split)
      (of_range (n.next (d.dash ∷ after)) n.names d.sign)

  -- a range whose pieces can't all be put
  put_found : (end : ℕ) (tokens front ts rest : List Token) (list : Listing) (item : Item) (to : ℕ) (f : FenFault)
      → with_item g list item to ≡ Err f → tokens ≡ front ++ (ts ++ rest) → item.place ≡ place_of (ts ++ rest) end
      → RangeNext g front ts rest (record { is_king = item.is_king; from = item.from; to = to }) list.side list.placed
      → Found end tokens f
  put_found end tokens front ts rest list item to f bad is place next =
      let u = item_unput g list item to f bad in
      found_at {A = Placement} end tokens front (ts ++ rest) (put_kind u.why) item.place f u.is is
      (not_put ts rest u.q u.put u.others u.s u.piece next u.split u.sets u.not_put) place

  -- where no dash follows, a single number is an item
  number_next : (tokens : List Token) (list : Listing) (item : Item) (n : Numbered tokens list item)
      (rest : List Token) → first_is (is_sign 45) rest ≡ false
      → RangeNext g n.front (n.first ∷ []) rest
      (record { is_king = item.is_king; from = item.from; to = item.from }) list.side list.placed
  number_next tokens list item n rest clear = whole (n.next rest) (number n.names) (λ e. clear)

  range_next : (tokens : List Token) (list : Listing) (item : Item) (d : Dashed tokens list item) (t : Token) (to : ℕ)
      (rest : List Token) → number_named g t.text ≡ Some to → item.from ≤ to
      → RangeNext g d.number.front (d.number.first ∷ d.dash ∷ t ∷ []) rest
      (record { is_king = item.is_king; from = item.from; to = to }) list.side list.placed
  range_next tokens list item d t to rest named low =
      let n = d.number in
      whole (n.next (d.dash ∷ t ∷ rest)) (range n.names d.sign named low) (λ e. absurd (omega arith))

  number_unput : (end : ℕ) (tokens : List Token) (list : Listing) (item : Item) (n : Numbered tokens list item)
      (rest : List Token) (f : FenFault) → first_is (is_sign 45) rest ≡ false
      → with_item g list item item.from ≡ Err f → Found end (tokens ++ rest) f
  number_unput end tokens list item n rest f clear bad = put_found end (tokens ++ rest) n.front (n.first ∷ []) rest list
      item item.from f bad (number_split tokens list item n rest) n.place (number_next tokens list item n rest clear)

  -- an item of one number, all set
  number_set : (tokens : List Token) (list : Listing) (item : Item) (n : Numbered tokens list item) (all : Listing)
      → with_item g list item item.from ≡ Ok all
      → HasItems tokens all.is_second all.side all.placed
      × ((rest : List Token) → first_is (is_sign 45) rest ≡ false → no_item rest ≡ false
      → first_is (is_sign 44) rest ≡ false → FaultAt g tokens rest Rest)
  number_set tokens list item n all e =
      let set = item_sets g list item item.from all e in (
        subst (λ l. HasItems tokens l.is_second l.side l.placed) (sym set.1)
            (subst (λ l. HasItems l list.is_second list.side set.0) (sym n.is)
            (n.takes (n.first ∷ []) item.from item.from set.0 (number n.names) set.2)),
        λ rest dash some comma. subst (λ l. FaultAt g l rest Rest) (sym n.is)
            (behind_item (n.first ∷ []) set.0 (number_next tokens list item n rest dash) set.2 some comma),
      )

  range_set : (tokens : List Token) (list : Listing) (item : Item) (d : Dashed tokens list item) (t : Token) (to : ℕ)
      (all : Listing) → number_named g t.text ≡ Some to → item.from ≤ to → with_item g list item to ≡ Ok all
      → Read (tokens ++ t ∷ []) (AfterItem all)
  unfolding Read
  range_set tokens list item d t to all named low e =
      let set = item_sets g list item to all e in
      let n = d.number in
      let ts = n.first ∷ d.dash ∷ t ∷ [] in
      let is = sym (dash_split tokens list item d (t ∷ [])) in (
        subst (λ l. HasItems (tokens ++ t ∷ []) l.is_second l.side l.placed) (sym set.1)
            (subst (λ l. HasItems l list.is_second list.side set.0) is
            (n.takes ts item.from to set.0 (range n.names d.sign named low) set.2)),
        λ rest some comma. subst (λ l. FaultAt g l rest Rest) is
            (behind_item ts set.0 (range_next tokens list item d t to rest named low) set.2 some comma),
      )

  -- ---- one token more
  at_stage : (tokens : List Token) (x s : Stage) (r : Result Stage FenFault) → r ≡ Ok x → r ≡ Ok s → Read tokens x
      → Read tokens s
  at_stage tokens x s r is e read = subst (Read tokens) (sym (same_ok x s r is e)) read

  ended_read : (tokens : List Token) (list : Listing) (is : List Placing) (t : Token) (s : Stage)
      → ListOf tokens list.is_second list.side is list.placed
      → (is_sign 44 t.text ≡ true → HasItems tokens list.is_second list.side list.placed)
      → item_ended list t ≡ Ok s → Read (tokens ++ t ∷ []) s
  unfolding Read HasItems
  ended_read tokens list is t s l items e = elim (chosen (is_sign 44 t.text) _ _ _ e) [
    | inl comma ↦
        let h = items comma.0 in
        at_stage (tokens ++ t ∷ []) (AfterComma list) s _ refl comma.1 (
          λ after. behind_comma t (is_listed tokens list.is_second list.side (h.0 ∷ h.1) list.placed h.2) comma.0,
          comma_takes tokens t list h.0 h.1 h.2 comma.0,
        )
    | inr not_comma ↦ elim (chosen (is_sign 58 t.text) _ _ _ not_comma.1) [
      | inl colon ↦ at_stage (tokens ++ t ∷ []) _ s _ refl colon.1
          (colon_read list.is_second list.side list.placed colon.0 l)
      | inr not_colon ↦ elim (chosen (is_sign 46 t.text) _ _ _ not_colon.1) [
        | inl stopped ↦ at_stage (tokens ++ t ∷ []) (AfterStop list.placed) s _ refl stopped.1
            (λ after some. behind_stop t (is_listed tokens list.is_second list.side is list.placed l) stopped.0 some)
        | inr other ↦ ok_err s _ _ refl (sym other.1)
      ]
    ]
  ] where
    colon_read : (second : Bool) (side : Side) (p : Placement) → is_sign 58 t.text ≡ true
        → ListOf tokens second side is p
        → Read (tokens ++ t ∷ []) (cond second (AfterLists p) (AfterColon (Some side) p))
    colon_read true side p colon l = tt
    colon_read false side p colon l = colon_next tokens side is p t l colon

  items_ended_read : (tokens : List Token) (list : Listing) (t : Token) (s : Stage)
      → HasItems tokens list.is_second list.side list.placed → item_ended list t ≡ Ok s → Read (tokens ++ t ∷ []) s
  unfolding HasItems
  items_ended_read tokens list t s h e = ended_read tokens list (h.0 ∷ h.1) t s h.2 (λ comma. h) e

  ended_found : (end : ℕ) (tokens : List Token) (list : Listing) (t : Token) (ts : List Token) (f : FenFault)
      → (no_item (t ∷ ts) ≡ false → is_sign 44 t.text ≡ false → FaultAt g tokens (t ∷ ts) Rest)
      → item_ended list t ≡ Err f → Found end (tokens ++ t ∷ ts) f
  ended_found end tokens list t ts f here e = elim (chosen (is_sign 44 t.text) _ _ _ e) [
    | inl comma ↦ ok_err _ f _ refl comma.1
    | inr not_comma ↦ elim (chosen (is_sign 58 t.text) _ _ _ not_comma.1) [
      | inl colon ↦ ok_err _ f _ refl colon.1
      | inr not_colon ↦ elim (chosen (is_sign 46 t.text) _ _ _ not_colon.1) [
        | inl stopped ↦ ok_err _ f _ refl stopped.1
        | inr other ↦
            let some : no_item (t ∷ ts) ≡ false = rw (not_colon.0, other.0) refl in
            found_here {A = Stage} end tokens (t ∷ ts) Rest f other.1 (here some not_comma.0)
      ]
    ]
  ]

  number_read : (tokens : List Token) (list : Listing) (king : Bool) (t : Token) (s : Stage)
      → ((after : List Token) → NumberNext g tokens (t ∷ after) None king list.side list.placed)
      → TakesRange tokens king list
      → if_named (number_named g t.text) Number t.place
      (λ n. Ok (AfterNumber list (record { is_king = king; from = n; place = t.place }))) ≡ Ok s
      → Read (tokens ++ t ∷ []) s
  unfolding Read
  number_read tokens list king t s next takes e =
      let h = named_ok (number_named g t.text) Number t.place
      (λ n. Ok (AfterNumber list (record { is_king = king; from = n; place = t.place }))) s e in
      at_stage (tokens ++ t ∷ []) (AfterNumber list (record { is_king = king; from = h.0; place = t.place })) s _ refl
      h.2 (record {
        front = tokens;
        first = t;
        is = refl;
        names = h.1;
        place = refl;
        next = next;
        takes = takes;
      })

  begun_read : (tokens : List Token) (list : Listing) (t : Token) (s : Stage)
      → ((after : List Token) → ItemNext g tokens (t ∷ after) list.side list.placed) → TakesItem tokens list
      → item_begun g list t ≡ Ok s → Read (tokens ++ t ∷ []) s
  unfolding Read
  begun_read tokens list t s next takes e = elim (chosen (is_king_letter t.text) _ _ _ e) [
    | inl king ↦ at_stage (tokens ++ t ∷ []) (AfterKing list) s _ refl king.1 (
      λ after. of_kings (next after) king.0,
      λ ws m n q r sets. subst (λ l. HasItems l list.is_second list.side q) (sym (append_assoc tokens (t ∷ []) ws))
          (takes (t ∷ ws) (record { is_king = true; from = m; to = n }) q (kings king.0 r) sets),
    )
    | inr man ↦ number_read tokens list false t s (λ after. of_men (next after) man.0)
        (λ ws m n q r sets. takes ws (record { is_king = false; from = m; to = n }) q (men r) sets) man.1
  ]

  number_found : (end : ℕ) (tokens : List Token) (list : Listing) (king : Bool) (t : Token) (ts : List Token)
      (f : FenFault) → NumberNext g tokens (t ∷ ts) None king list.side list.placed
      → if_named (number_named g t.text) Number t.place
      (λ n. Ok (AfterNumber list (record { is_king = king; from = n; place = t.place }))) ≡ Err f
      → Found end (tokens ++ t ∷ ts) f
  number_found end tokens list king t ts f next e = elim (named_fault (number_named g t.text) Number t.place _ f e) [
    | inl none ↦ found_here {A = Stage} end tokens (t ∷ ts) Number f none.1 (no_number next none.0)
    | inr h ↦ ok_err _ f _ refl h.2
  ]

  begun_found : (end : ℕ) (tokens : List Token) (list : Listing) (t : Token) (ts : List Token) (f : FenFault)
      → ItemNext g tokens (t ∷ ts) list.side list.placed → item_begun g list t ≡ Err f
      → Found end (tokens ++ t ∷ ts) f
  begun_found end tokens list t ts f next e = elim (chosen (is_king_letter t.text) _ _ _ e) [
    | inl king ↦ ok_err _ f _ refl king.1
    | inr man ↦ number_found end tokens list false t ts f (of_men next man.0) man.1
  ]

  colour_read : (tokens : List Token) (earlier : Option Side) (t : Token) (side : Side) (p : Placement)
      (is_second : Bool) → ListNext g tokens earlier p → side_named t.text ≡ Some side → earlier ≢ Some side
      → (is_second ≡ false → earlier ≡ None) → ListOf (tokens ++ t ∷ []) is_second side [] p
  colour_read tokens earlier t side p is_second lead named other is_first = record {
    front = tokens;
    ws = t ∷ [];
    earlier = earlier;
    start = p;
    split = refl;
    lead = lead;
    list = bare named;
    other = other;
    sets = refl;
    is_first = is_first;
  }

  next_read : (tokens : List Token) (stage : Stage) (t : Token) (s : Stage) → Read tokens stage
      → next_stage g stage t ≡ Ok s → Read (tokens ++ t ∷ []) s
  unfolding Read next_stage
  next_read tokens Start t s r e =
      let h = named_ok (side_named t.text) Turn t.place (λ side. Ok (AfterTurn side)) s e in
      at_stage (tokens ++ t ∷ []) (AfterTurn h.0) s _ refl h.2 (t, ap (λ l. l ++ t ∷ []) r, h.1)
  next_read tokens (AfterTurn turn) t s r e = elim (chosen (is_sign 58 t.text) _ _ _ e) [
    | inl colon ↦ at_stage (tokens ++ t ∷ []) (AfterColon None (empty turn)) s _ refl colon.1
        (subst (λ l. ListNext g l None (empty turn)) (sym (ap (λ l. l ++ t ∷ []) r.1)) (first r.2 colon.0))
    | inr other ↦ ok_err s _ _ refl (sym other.1)
  ]
  next_read tokens (AfterColon None p) t s r e =
      let h = named_ok (side_named t.text) Colour t.place (list_begun None p t.place) s e in
      at_stage (tokens ++ t ∷ []) (AfterColour (listing h.0 false p)) s _ refl h.2
      (colour_read tokens None t h.0 p false r h.1 (λ none. none-some h.0 none) (λ e. refl))
  next_read tokens (AfterColon (Some one) p) t s r e =
      let h = named_ok (side_named t.text) Colour t.place (list_begun (Some one) p t.place) s e in
      elim (chosen (same_side one h.0) _ _ _ h.2) [
        | inl same ↦ ok_err s _ _ refl (sym same.1)
        | inr other ↦ at_stage (tokens ++ t ∷ []) (AfterColour (listing h.0 true p)) s _ refl other.1
            (colour_read tokens (Some one) t h.0 p true r h.1 (not_same one h.0 other.0) (λ e. true-false e))
      ]
  next_read tokens (AfterColour list) t s r e = elim (chosen (is_sign 58 t.text || is_sign 46 t.text) _ _ _ e) [
    | inl closed ↦ ended_read tokens list [] t s r (λ comma. no_comma_here t.text t.text [] []
        closed.0 comma refl) closed.1
    | inr begun ↦ begun_read tokens list t s (λ after. behind_colour (is_listed tokens list.is_second list.side []
        list.placed r) begun.0) (colour_takes tokens list r) begun.1
  ]
  next_read tokens (AfterComma list) t s r e = begun_read tokens list t s (λ after. r.0 (t ∷ after)) r.1 e
  next_read tokens (AfterKing list) t s r e = number_read tokens list true t s (λ after. r.0 (t ∷ after)) r.1 e
  next_read tokens (AfterNumber list item) t s r e = elim (chosen (is_sign 45 t.text) _ _ _ e) [
    | inl dash ↦ at_stage (tokens ++ t ∷ []) (AfterDash list item) s _ refl dash.1 (record {
      numbered = tokens;
      dash = t;
      is = refl;
      sign = dash.0;
      number = r;
    })
    | inr other ↦
        let h = bind_ok (with_item g list item item.from) (λ all. item_ended all t) s other.1 in
        items_ended_read tokens h.0 t s (number_set tokens list item r h.0 h.1).0 h.2
  ]
  next_read tokens (AfterDash list item) t s r e =
      let h = named_ok (number_named g t.text) Number t.place _ s e in
      elim (chosen (ltb h.0 item.from) _ _ _ h.2) [
        | inl low ↦ ok_err s _ _ refl (sym low.1)
        | inr high ↦
            let k = bind_ok (with_item g list item h.0) (λ all. Ok (AfterItem all)) s high.1 in
            at_stage (tokens ++ t ∷ []) (AfterItem k.0) s _ refl k.2
            (range_set tokens list item r t h.0 k.0 h.1 (ltb-false _ _ high.0) k.1)
      ]
  next_read tokens (AfterItem list) t s r e = items_ended_read tokens list t s r.0 e
  next_read tokens (AfterStop p) t s r e = cc
  next_read tokens (AfterLists p) t s r e = at_stage (tokens ++ t ∷ []) (AfterLists p) s _ refl e tt

  colour_found : (end : ℕ) (tokens : List Token) (earlier : Option Side) (p : Placement) (t : Token)
      (ts : List Token) (f : FenFault) (side : Side) → ListNext g tokens earlier p → side_named t.text ≡ Some side
      → list_begun earlier p t.place side ≡ Err f → Found end (tokens ++ t ∷ ts) f
  colour_found end tokens None p t ts f side next named e = cc
  colour_found end tokens (Some one) p t ts f side next named e = elim (chosen (same_side one side) _ _ _ e) [
    | inl same ↦ found_here {A = Stage} end tokens (t ∷ ts) SameColour f same.1
        (same_colour next (named ∙ ap Some (same_side-is one side same.0)))
    | inr other ↦ ok_err _ f _ refl other.1
  ]

  next_found : (end : ℕ) (tokens : List Token) (stage : Stage) (t : Token) (ts : List Token) (f : FenFault)
      → Read tokens stage → next_stage g stage t ≡ Err f → Found end (tokens ++ t ∷ ts) f
  unfolding Read next_stage
  next_found end tokens Start t ts f r e =
      elim (named_fault (side_named t.text) Turn t.place (λ side. Ok (AfterTurn side)) f e) [
        | inl none ↦ found_here {A = Stage} end tokens (t ∷ ts) Turn f none.1
            (subst (λ l. FaultAt g l (t ∷ ts) Turn) (sym r) (no_turn none.0))
        | inr h ↦ ok_err _ f _ refl h.2
      ]
  next_found end tokens (AfterTurn turn) t ts f r e = elim (chosen (is_sign 58 t.text) _ _ _ e) [
    | inl colon ↦ ok_err _ f _ refl colon.1
    | inr other ↦ found_here {A = Stage} end tokens (t ∷ ts) Colon f other.1
        (subst (λ l. FaultAt g l (t ∷ ts) Colon) (sym r.1) (no_colon r.2 other.0))
  ]
  next_found end tokens (AfterColon earlier p) t ts f r e =
      elim (named_fault (side_named t.text) Colour t.place (list_begun earlier p t.place) f e) [
        | inl none ↦ found_here {A = Stage} end tokens (t ∷ ts) Colour f none.1 (no_colour r none.0)
        | inr h ↦ colour_found end tokens earlier p t ts f h.0 r h.1 h.2
      ]
  next_found end tokens (AfterColour list) t ts f r e =
      elim (chosen (is_sign 58 t.text || is_sign 46 t.text) _ _ _ e) [
        | inl closed ↦ ended_found end tokens list t ts f
            (λ some comma. true-false (sym closed.0 ∙ some)) closed.1
        | inr begun ↦ begun_found end tokens list t ts f (behind_colour (is_listed tokens list.is_second list.side []
            list.placed r) begun.0) begun.1
      ]
  next_found end tokens (AfterComma list) t ts f r e = begun_found end tokens list t ts f (r.0 (t ∷ ts)) e
  next_found end tokens (AfterKing list) t ts f r e = number_found end tokens list true t ts f (r.0 (t ∷ ts)) e
  next_found end tokens (AfterNumber list item) t ts f r e = elim (chosen (is_sign 45 t.text) _ _ _ e) [
    | inl dash ↦ ok_err _ f _ refl dash.1
    | inr other ↦ elim (bind_err (with_item g list item item.from) (λ all. item_ended all t) f other.1) [
      | inl bad ↦ number_unput end tokens list item r (t ∷ ts) f other.0 bad
      | inr h ↦ ended_found end tokens h.0 t ts f
          ((number_set tokens list item r h.0 h.1).1 (t ∷ ts) other.0) h.2
    ]
  ]
  next_found end tokens (AfterDash list item) t ts f r e =
      elim (named_fault (number_named g t.text) Number t.place _ f e) [
        | inl none ↦ found_here {A = Stage} end tokens (t ∷ ts) Number f none.1
            (no_number (last_next tokens list item r (t ∷ ts)) none.0)
        | inr h ↦ elim (chosen (ltb h.0 item.from) _ _ _ h.2) [
          | inl low ↦ found_here {A = Stage} end tokens (t ∷ ts) RangeBackwards f low.1
              (backwards (last_next tokens list item r (t ∷ ts)) h.1 (ltb-true _ _ low.0))
          | inr high ↦ elim (bind_err (with_item g list item h.0) (λ all. Ok (AfterItem all)) f high.1) [
            | inl bad ↦ put_found end (tokens ++ t ∷ ts) r.number.front (r.number.first ∷ r.dash ∷ t ∷ []) ts list item
                h.0 f bad (dash_split tokens list item r (t ∷ ts)) r.number.place
                (range_next tokens list item r t h.0 ts h.1 (ltb-false _ _ high.0))
            | inr k ↦ ok_err _ f _ refl k.2
          ]
        ]
      ]
  next_found end tokens (AfterItem list) t ts f r e = ended_found end tokens list t ts f (r.1 (t ∷ ts)) e
  next_found end tokens (AfterStop p) t ts f r e = found_here {A = Stage} end tokens (t ∷ ts) Rest f e (r (t ∷ ts) refl)
  next_found end tokens (AfterLists p) t ts f r e = cc

  -- ---- the text's end
  end_found : (end : ℕ) (tokens : List Token) (stage : Stage) (f : FenFault) → Read tokens stage
      → at_end g end stage ≡ Err f → Found end (tokens ++ []) f
  unfolding Read at_end
  end_found end tokens Start f r e = found_here {A = Placement} end tokens [] Turn f e
      (subst (λ l. FaultAt g l [] Turn) (sym r) (no_turn refl))
  end_found end tokens (AfterTurn turn) f r e = found_here {A = Placement} end tokens [] Colon f e
      (subst (λ l. FaultAt g l [] Colon) (sym r.1) (no_colon r.2 refl))
  end_found end tokens (AfterColon earlier p) f r e = found_here {A = Placement} end tokens [] Colour f e
      (no_colour r refl)
  end_found end tokens (AfterColour list) f r e = cc
  end_found end tokens (AfterComma list) f r e = found_here {A = Placement} end tokens [] Number f e
      (no_number (of_men (r.0 []) refl) refl)
  end_found end tokens (AfterKing list) f r e = found_here {A = Placement} end tokens [] Number f e
      (no_number (r.0 []) refl)
  end_found end tokens (AfterNumber list item) f r e =
      elim (bind_err (with_item g list item item.from) (λ all. Ok all.placed) f e) [
        | inl bad ↦ number_unput end tokens list item r [] f refl bad
        | inr h ↦ ok_err _ f _ refl h.2
      ]
  end_found end tokens (AfterDash list item) f r e = found_here {A = Placement} end tokens [] Number f e
      (no_number (last_next tokens list item r []) refl)
  end_found end tokens (AfterItem list) f r e = cc
  end_found end tokens (AfterStop p) f r e = cc
  end_found end tokens (AfterLists p) f r e = cc

  walk : (end : ℕ) (ts tokens : List Token) (stage : Stage) (f : FenFault) → Read tokens stage
      → read_from g end stage ts ≡ Err f → Found end (tokens ++ ts) f
  unfolding read_from
  walk end [] tokens stage f r e = end_found end tokens stage f r e
  walk end (t ∷ ts) tokens stage f r e = elim (bind_err (next_stage g stage t) (λ s. read_from g end s ts) f e) [
    | inl here ↦ next_found end tokens stage t ts f r here
    | inr on ↦ subst (λ l. Found end l f) (append_assoc tokens (t ∷ []) ts) (walk end ts (tokens ++ t ∷ []) on.0 f
        (next_read tokens stage t on.0 r on.1) on.2)
  ]

  pub fault_found : (end : ℕ) (ts : List Token) (f : FenFault) → read_from g end Start ts ≡ Err f → Found end ts f
  unfolding Read
  fault_found end ts f e = walk end ts [] Start f refl e
