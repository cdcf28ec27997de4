-- What is read is in the grammar.
use Rattle.std.proofs.Common.{◌≡◌, ℕ, suc, zero, ◌+◌, ◌-◌, Bool, true, false, ◌||◌, cond, List, [], ◌∷◌, ◌++◌, map}
use Rattle.std.proofs.Common.{Option, Some, None, Result, Ok, Err, refl, sym, ap, ◌∙◌, subst, ◌⊎◌, inl, inr}
use Rattle.std.proofs.Common.{append_assoc, ltb}
use Rattle.std.specs.List.{range_with_len}
use Rattle.std.proofs.lemmas.Bool.{cases_Bool, ltb-false, eqb-true, eq-eqb, or_cases}
use Rattle.dw_board.specs.Geometry.{Geometry}
use Rattle.dw_board.specs.Placement.{Placement, empty, placed, put_fault, same_side}
use Rattle.dw_board.specs.FenTokens.{Token, is_sign, side_named, is_king_letter, number_named}
use Rattle.dw_board.specs.FenGrammar.{Placing, IsRange, IsItem, IsItems, IsList, IsEnd, IsTail, named, all_named, Sets}
use Rattle.dw_board.specs.FenGrammar.{Names, number, range, men, kings, single, more, bare, full, nothing, stop, ends}
use Rattle.dw_board.specs.FenGrammar.{fields, one_list, two_lists}
use Rattle.dw_board.specs.Fen.{fault, ◌>>=◌, Listing, Item, Stage, Start, AfterTurn, AfterColon, AfterColour}
use Rattle.dw_board.specs.Fen.{AfterComma, AfterKing, AfterNumber, AfterDash, AfterItem, AfterStop, AfterLists}
use Rattle.dw_board.specs.Fen.{next_stage, at_end, read_from, with_item, item_ended, item_begun, list_begun, if_named}
use Rattle.dw_board.specs.Fen.{then_set, set_squares, piece_of}
use Rattle.dw_board.specs.inner.FenReading.{listing}
use Rattle.dw_board.specs.declared.piece.Side.{Side}
use Rattle.dw_board.specs.declared.piece.Piece.{Piece}
use Rattle.dw_board.specs.declared.piece.PutFault.{PutFault}
use Rattle.dw_board.specs.declared.fen.fault.FenFault.{FenFault}
use Rattle.dw_board.specs.declared.fen.fault.FenFaultKind.{FenFaultKind}
use Rattle.dw_board.specs.declared.fen.fault.FenFaultKind.TheVariants.{Turn, Colour, Number}

pub bind_ok : {A B : Type 0} (r : Result A FenFault) (f : A → Result B FenFault) (y : B) → (r >>= f) ≡ Ok y
    → (x : A) × (r ≡ Ok x) × (f x ≡ Ok y)
bind_ok (Ok x) f y e = (x, refl, e)
bind_ok (Err e) f y h = cc

pub chosen : {A : Type 0} (b : Bool) (x y z : A) → cond b x y ≡ z → ((b ≡ true) × (x ≡ z)) ⊎ ((b ≡ false) × (y ≡ z))
chosen true x y z e = inl (refl, e)
chosen false x y z e = inr (refl, e)

pub named_ok : {A : Type 0} (o : Option A) (what : FenFaultKind) (place : ℕ) (k : A → Result Stage FenFault) (s : Stage)
    → if_named o what place k ≡ Ok s → (x : A) × (o ≡ Some x) × (k x ≡ Ok s)
named_ok None what place k s e = cc
named_ok (Some x) what place k s e = (x, refl, e)

pub same_ok : {A : Type 0} (x y : A) (r : Result A FenFault) → r ≡ Ok x → r ≡ Ok y → y ≡ x
same_ok x y r e f = cc

-- ---- pieces that are set
pub Sets-append : (g : Geometry) (p q r : Placement) (xs ys : List (ℕ × Piece)) → Sets g p xs q → Sets g q ys r
    → Sets g p (xs ++ ys) r
Sets-append g p q r [] ys e h = subst (λ x. Sets g x ys r) (sym e) h
Sets-append g p q r (x ∷ xs) ys a h = (a.0, Sets-append g (placed p x.0 (Some x.1)) q r xs ys a.1 h)

set_ok : (o : Option PutFault) (place : ℕ) (r : Result Placement FenFault) (q : Placement) → then_set o place r ≡ Ok q
    → (o ≡ None) × (r ≡ Ok q)
set_ok None place r q e = (refl, e)
set_ok (Some why) place r q e = cc

pub set_squares-Sets : (g : Geometry) (piece : Piece) (place from n : ℕ) (p q : Placement)
    → set_squares g piece place from n p ≡ Ok q → Sets g p (map (λ s. (s, piece)) (range_with_len from n)) q
set_squares-Sets g piece place from zero p q e = cc
set_squares-Sets g piece place from (suc n) p q e =
    let h = set_ok (put_fault g p from piece) place _ q e in
    (h.0, set_squares-Sets g piece place (from + 1) n (placed p from (Some piece)) q h.1)

-- an item's squares are set
pub item_sets : (g : Geometry) (list : Listing) (item : Item) (to : ℕ) (all : Listing) → with_item g list item to
    ≡ Ok all
    → (q : Placement) × (all ≡ listing list.side list.is_second q)
    × Sets g list.placed (named list.side (record { is_king = item.is_king; from = item.from; to = to })) q
item_sets g list item to all e =
    let h = bind_ok (set_squares g (piece_of list item) item.place item.from (to + 1 - item.from) list.placed)
    (λ p. Ok (listing list.side list.is_second p)) all e in (
      h.0,
      same_ok _ _ _ refl h.2,
      set_squares-Sets g (piece_of list item) item.place item.from (to + 1 - item.from) list.placed h.0 h.1,
    )

-- ---- what may follow a list's items, where the text names a position
pub record GoesOn (g : Geometry) (list : Listing) (ws : List (List ℕ)) (p : Placement) : Type 0 where
  pub is_first : list.is_second ≡ false
  pub colon : List ℕ
  pub vs : List (List ℕ)
  pub es : List (List ℕ)
  pub second : Side
  pub js : List Placing
  pub split : ws ≡ colon ∷ (vs ++ es)
  pub sign : is_sign 58 colon ≡ true
  pub items : IsList g vs second js
  pub other : same_side list.side second ≡ false
  pub tail : IsTail es
  pub sets : Sets g list.placed (all_named second js) p

abbrev pub After : Geometry → Listing → List (List ℕ) → Placement → Type 0
After g list ws p = ((list.is_second ≡ false) × IsEnd ws × (p ≡ list.placed))
    ⊎ (((list.is_second ≡ true) × IsTail ws × (p ≡ list.placed)) ⊎ GoesOn g list ws p)

-- items, and what follows them
pub record Items (g : Geometry) (list : Listing) (ws : List (List ℕ)) (p : Placement) : Type 0 where
  pub vs : List (List ℕ)
  pub tail : List (List ℕ)
  pub is : List Placing
  pub q : Placement
  pub split : ws ≡ vs ++ tail
  pub items : IsItems g vs is
  pub sets : Sets g list.placed (all_named list.side is) q
  pub after : After g (listing list.side list.is_second q) tail p

-- a list whose colour this word is, and what follows it
pub record WithList (g : Geometry) (list : Listing) (ws : List (List ℕ)) (p : Placement) : Type 0 where
  pub vs : List (List ℕ)
  pub tail : List (List ℕ)
  pub is : List Placing
  pub q : Placement
  pub split : ws ≡ vs ++ tail
  pub items : IsList g vs list.side is
  pub sets : Sets g list.placed (all_named list.side is) q
  pub after : After g (listing list.side list.is_second q) tail p

abbrev pub ItemsFrom : Geometry → Bool → Listing → List (List ℕ) → Placement → Type 0
ItemsFrom g true list ws p = (k : List ℕ) → is_king_letter k ≡ true → Items g list (k ∷ ws) p
ItemsFrom g false list ws p = Items g list ws p

abbrev pub MoreItems : Geometry → Listing → List (List ℕ) → Placement → Type 0
MoreItems g list ws p = (c : List ℕ) × (vs : List (List ℕ)) × (ws ≡ c ∷ vs) × (is_sign 44 c ≡ true) × Items g list vs p

-- what the words from a stage on are, where the text names a position
abbrev pub Follows : Geometry → Stage → List (List ℕ) → Placement → Type 0
Follows g Start ws p = Names g ws p
Follows g (AfterTurn turn) ws p = (t : List ℕ) → side_named t ≡ Some turn → Names g (t ∷ ws) p
Follows g (AfterColon None q) ws p = (mover : Side) → q ≡ empty mover → (t c : List ℕ) → side_named t ≡ Some mover
    → is_sign 58 c ≡ true → Names g (t ∷ c ∷ ws) p
Follows g (AfterColon (Some first) q) ws p = (d : List ℕ) → is_sign 58 d ≡ true
    → After g (listing first false q) (d ∷ ws) p
Follows g (AfterColour list) ws p = (w : List ℕ) → side_named w ≡ Some list.side → WithList g list (w ∷ ws) p
Follows g (AfterComma list) ws p = Items g list ws p
Follows g (AfterKing list) ws p = (k : List ℕ) → is_king_letter k ≡ true → Items g list (k ∷ ws) p
Follows g (AfterNumber list item) ws p = (v : List ℕ) → number_named g v ≡ Some item.from
    → ItemsFrom g item.is_king list (v ∷ ws) p
Follows g (AfterDash list item) ws p = (v d : List ℕ) → number_named g v ≡ Some item.from → is_sign 45 d ≡ true
    → ItemsFrom g item.is_king list (v ∷ d ∷ ws) p
Follows g (AfterItem list) ws p = After g list ws p ⊎ MoreItems g list ws p
Follows g (AfterStop q) ws p = (ws ≡ []) × (p ≡ q)
Follows g (AfterLists q) ws p = p ≡ q

true-false : {A : Type 0} → true ≡ false → A
true-false e = cc

fault-ok : {A B : Type 0} (what : FenFaultKind) (place : ℕ) (x : B) → fault what place ≡ Ok x → A
fault-ok what place x e = cc

end_after : (g : Geometry) (list : Listing) (ws : List (List ℕ)) (p : Placement) → IsEnd ws → p ≡ list.placed
    → After g list ws p
end_after g list ws p h e = elim (cases_Bool list.is_second) [
  | inl second ↦ inr (inl (second, ends h, e))
  | inr first ↦
      inl (first, h, e)
]

-- an item, and what follows it
item_then : (g : Geometry) (list : Listing) (ws rest : List (List ℕ)) (i : Placing) (q p : Placement) → IsItem g ws i
    → Sets g list.placed (named list.side i) q
    → Follows g (AfterItem (listing list.side list.is_second q)) rest p → Items g list (ws ++ rest) p
item_then g list ws rest i q p item sets (inl after) = record {
  vs = ws;
  tail = rest;
  is = i ∷ [];
  q = q;
  split = refl;
  items = single item;
  sets = Sets-append g list.placed q q (named list.side i) [] sets refl;
  after = after;
}
item_then g list ws rest i q p item sets (inr more_items) =
    let items = more_items.4 in
    record {
      vs = ws ++ more_items.0 ∷ items.vs;
      tail = items.tail;
      is = i ∷ items.is;
      q = items.q;
      split = ap (λ l. ws ++ l) (more_items.2 ∙ ap (λ l. more_items.0 ∷ l) items.split)
          ∙ sym (append_assoc ws (more_items.0 ∷ items.vs) items.tail);
      items = more ws more_items.0 items.vs item more_items.3 items.items;
      sets = Sets-append g list.placed q items.q (named list.side i) (all_named list.side items.is) sets items.sets;
      after = items.after;
    }

range_then : (g : Geometry) (king : Bool) (list : Listing) (ws rest : List (List ℕ)) (m n : ℕ) (q p : Placement)
    → IsRange g ws m n → Sets g list.placed (named list.side (record { is_king = king; from = m; to = n })) q
    → Follows g (AfterItem (listing list.side list.is_second q)) rest p → ItemsFrom g king list (ws ++ rest) p
range_then g true list ws rest m n q p r sets follows = λ k king. item_then g list (k ∷ ws) rest
    (record { is_king = true; from = m; to = n }) q p (kings king r) sets follows
range_then g false list ws rest m n q p r sets follows = item_then g list ws rest
    (record { is_king = false; from = m; to = n }) q p (men r) sets follows

-- ---- one token more
colon_cases : (g : Geometry) (side : Side) (second : Bool) (placed : Placement) (w : List ℕ) (ws : List (List ℕ))
    (p : Placement) → is_sign 58 w ≡ true
    → Follows g (cond second (AfterLists placed) (AfterColon (Some side) placed)) ws p
    → After g (listing side second placed) (w ∷ ws) p
colon_cases g side true placed w ws p colon f = inr (inl (refl, fields colon, f))
colon_cases g side false placed w ws p colon f = f w colon

colon_ended : (g : Geometry) (list : Listing) (t : Token) (s : Stage) (ws : List (List ℕ)) (p : Placement)
    → is_sign 58 t.text ≡ true
    → s ≡ cond list.is_second (AfterLists list.placed) (AfterColon (Some list.side) list.placed) → Follows g s ws p
    → After g list (t.text ∷ ws) p
colon_ended g list t s ws p colon is f = colon_cases g list.side list.is_second list.placed t.text ws p colon
    (subst (λ x. Follows g x ws p) is f)

ended : (g : Geometry) (list : Listing) (t : Token) (s : Stage) (ws : List (List ℕ)) (p : Placement) → item_ended list t
    ≡ Ok s → Follows g s ws p → Follows g (AfterItem list) (t.text ∷ ws) p
ended g list t s ws p e f = elim (chosen (is_sign 44 t.text) _ _ _ e) [
  | inl comma ↦ inr (t.text, ws, refl, comma.0, subst (λ x. Follows g x ws p) (same_ok _ _ _ refl comma.1) f)
  | inr not_comma ↦ elim (chosen (is_sign 58 t.text) _ _ _ not_comma.1) [
    | inl colon ↦ inl (colon_ended g list t s ws p colon.0 (same_ok _ _ _ refl colon.1) f)
    | inr not_colon ↦ elim (chosen (is_sign 46 t.text) _ _ _ not_colon.1) [
      | inl stopped ↦
          let h = subst (λ x. Follows g x ws p) (same_ok _ _ _ refl stopped.1) f in
          inl (end_after g list (t.text ∷ ws) p (subst (λ l. IsEnd (t.text ∷ l)) (sym h.0) (stop stopped.0)) h.1)
      | inr other ↦ fault-ok _ _ s other.1
    ]
  ]
]

begun : (g : Geometry) (list : Listing) (t : Token) (s : Stage) (ws : List (List ℕ)) (p : Placement) → item_begun g list
    t ≡ Ok s → Follows g s ws p → Items g list (t.text ∷ ws) p
begun g list t s ws p e f = elim (chosen (is_king_letter t.text) _ _ _ e) [
  | inl king ↦ subst (λ x. Follows g x ws p) (same_ok _ _ _ refl king.1) f t.text king.0
  | inr man ↦
      let h = named_ok (number_named g t.text) Number t.place
      (λ n. Ok (AfterNumber list (record { is_king = false; from = n; place = t.place }))) s man.1 in
      subst (λ x. Follows g x ws p) (same_ok _ _ _ refl h.2) f t.text h.1
]

-- the first list, and what follows it
first_then : (g : Geometry) (mover first : Side) (q : Placement) (t c : List ℕ) (ws : List (List ℕ)) (p : Placement)
    → q ≡ empty mover → side_named t ≡ Some mover → is_sign 58 c ≡ true
    → WithList g (listing first false q) ws p → Names g (t ∷ c ∷ ws) p
first_then g mover first q t c ws p is turn colon with =
    let sets : Sets g (empty mover) (all_named first with.is) with.q =
    subst (λ x. Sets g x (all_named first with.is) with.q) is with.sets in
    elim with.after [
      | inl end ↦ subst (λ l. Names g (t ∷ c ∷ l) p) (sym with.split)
          (one_list with.vs with.tail mover first with.is turn colon with.items end.1
          (subst (Sets g (empty mover) (all_named first with.is)) (sym end.2) sets))
      | inr later ↦ elim later [
        | inl bad ↦ true-false (sym bad.0)
        | inr on ↦ subst (λ l. Names g (t ∷ c ∷ l) p) (sym (with.split ∙ ap (λ l. with.vs ++ l) on.split))
            (two_lists with.vs on.colon on.vs on.es mover first on.second with.is on.js turn colon with.items on.sign
            on.items on.other on.tail
            (Sets-append g (empty mover) with.q p (all_named first with.is) (all_named on.second on.js) sets on.sets))
      ]
    ]

-- the second list, and what follows it
second_then : (g : Geometry) (first second : Side) (q : Placement) (d : List ℕ) (ws : List (List ℕ)) (p : Placement)
    → is_sign 58 d ≡ true → same_side first second ≡ false
    → WithList g (listing second true q) ws p → After g (listing first false q) (d ∷ ws) p
second_then g first second q d ws p colon other with = elim with.after [
  | inl bad ↦ true-false bad.0
  | inr later ↦ elim later [
    | inl end ↦ inr (inr (record {
      is_first = refl;
      colon = d;
      vs = with.vs;
      es = with.tail;
      second = second;
      js = with.is;
      split = ap (λ l. d ∷ l) with.split;
      sign = colon;
      items = with.items;
      other = other;
      tail = end.1;
      sets = subst (Sets g q (all_named second with.is)) (sym end.2) with.sets;
    }))
    | inr bad ↦ true-false bad.is_first
  ]
]

bare_list : (g : Geometry) (list : Listing) (w : List ℕ) (ws : List (List ℕ)) (p : Placement) → side_named w ≡ Some
    list.side → After g list ws p → WithList g list (w ∷ ws) p
bare_list g list w ws p named after = record {
  vs = w ∷ [];
  tail = ws;
  is = [];
  q = list.placed;
  split = refl;
  items =
      bare named;
  sets = refl;
  after = after;
}

full_list : (g : Geometry) (list : Listing) (w : List ℕ) (ws : List (List ℕ)) (p : Placement) → side_named w ≡ Some
    list.side → Items g list ws p → WithList g list (w ∷ ws) p
full_list g list w ws p named items = record {
  vs = w ∷ items.vs;
  tail = items.tail;
  is = items.is;
  q = items.q;
  split = ap (λ l. w ∷ l) items.split;
  items = full named items.items;
  sets = items.sets;
  after = items.after;
}

two_signs : (w : List ℕ) (a b : ℕ) → is_sign a w ≡ true → is_sign b w ≡ true → a ≡ b
two_signs [] a b h k = cc
two_signs (x ∷ []) a b h k = sym (eqb-true x a h) ∙ eqb-true x b k
two_signs (x ∷ y ∷ w) a b h k = cc

pub no_comma_here : {A : Type 0} (w c : List ℕ) (ws vs : List (List ℕ)) → (is_sign 58 w || is_sign 46 w) ≡ true
    → is_sign 44 c ≡ true → w ∷ ws ≡ c ∷ vs → A
no_comma_here w c ws vs h k e =
    let same : w ≡ c = cc in
    let comma : is_sign 44 w ≡ true = ap (is_sign 44) same ∙ k in
    elim (or_cases _ _ h) [
      | inl colon ↦ true-false (sym (eq-eqb 58 44 (two_signs w 58 44 colon comma)))
      | inr stopped ↦ true-false (sym (eq-eqb 46 44 (two_signs w 46 44 stopped comma)))
    ]

step : (g : Geometry) (stage : Stage) (t : Token) (s : Stage) (ws : List (List ℕ)) (p : Placement) → next_stage g stage
    t ≡ Ok s → Follows g s ws p → Follows g stage (t.text ∷ ws) p
unfolding next_stage
step g Start t s ws p e f =
    let h = named_ok (side_named t.text) Turn t.place (λ side. Ok (AfterTurn side)) s e in
    subst (λ x. Follows g x ws p) (same_ok _ _ _ refl h.2) f t.text h.1
step g (AfterTurn turn) t s ws p e f = λ w named. elim (chosen (is_sign 58 t.text) _ _ _ e) [
  | inl colon ↦ subst (λ x. Follows g x ws p) (same_ok _ _ _ refl colon.1) f turn refl w t.text named colon.0
  | inr other ↦ fault-ok _ _ s other.1
]
step g (AfterColon None q) t s ws p e f = λ mover is w c named colon.
    let h = named_ok (side_named t.text) Colour t.place (list_begun None q t.place) s e in
    first_then g mover h.0 q w c (t.text ∷ ws) p is named colon (subst (λ x. Follows g x ws p) (same_ok _ _ _ refl h.2)
    f t.text h.1)
step g (AfterColon (Some first) q) t s ws p e f = λ d colon.
    let h = named_ok (side_named t.text) Colour t.place (list_begun (Some first) q t.place) s e in
    elim (chosen (same_side first h.0) _ _ _ h.2) [
      | inl same ↦ fault-ok _ _ s same.1
      | inr other ↦ second_then g first h.0 q d (t.text ∷ ws) p colon other.0
          (subst (λ x. Follows g x ws p) (same_ok _ _ _ refl other.1) f t.text h.1)
    ]
step g (AfterColour list) t s ws p e f = λ w named. elim (chosen (is_sign 58 t.text || is_sign 46 t.text) _ _ _ e) [
  | inl none ↦ elim (ended g list t s ws p none.1 f) [
    | inl after ↦ bare_list g list w (t.text ∷ ws) p named after
    | inr items ↦ no_comma_here t.text items.0 ws items.1 none.0 items.3 items.2
  ]
  | inr item ↦ full_list g list w (t.text ∷ ws) p named (begun g list t s ws p item.1 f)
]
step g (AfterComma list) t s ws p e f = begun g list t s ws p e f
step g (AfterKing list) t s ws p e f = λ k king.
    let h = named_ok (number_named g t.text) Number t.place
    (λ n. Ok (AfterNumber list (record { is_king = true; from = n; place = t.place }))) s e in
    subst (λ x. Follows g x ws p) (same_ok _ _ _ refl h.2) f t.text h.1 k king
step g (AfterNumber list item) t s ws p e f = λ v named. elim (chosen (is_sign 45 t.text) _ _ _ e) [
  | inl dash ↦ subst (λ x. Follows g x ws p) (same_ok _ _ _ refl dash.1) f v t.text named dash.0
  | inr other ↦
      let h = bind_ok (with_item g list item item.from) (λ all. item_ended all t) s other.1 in
      let set = item_sets g list item item.from h.0 h.1 in
      range_then g item.is_king list (v ∷ []) (t.text ∷ ws) item.from item.from set.0 p (number named) set.2
      (subst (λ x. Follows g (AfterItem x) (t.text ∷ ws) p) set.1 (ended g h.0 t s ws p h.2 f))
]
step g (AfterDash list item) t s ws p e f = λ v d named dash.
    let h = named_ok (number_named g t.text) Number t.place _ s e in
    elim (chosen (ltb h.0 item.from) _ _ _ h.2) [
      | inl low ↦ fault-ok _ _ s low.1
      | inr high ↦
          let k = bind_ok (with_item g list item h.0) (λ all. Ok (AfterItem all)) s high.1 in
          let set = item_sets g list item h.0 k.0 k.1 in
          range_then g item.is_king list (v ∷ d ∷ t.text ∷ []) ws item.from h.0 set.0 p
          (range named dash h.1 (ltb-false _ _ high.0)) set.2
          (subst (λ x. Follows g (AfterItem x) ws p) set.1 (subst (λ x. Follows g x ws p) (same_ok _ _ _ refl k.2) f))
    ]
step g (AfterItem list) t s ws p e f = ended g list t s ws p e f
step g (AfterStop q) t s ws p e f = fault-ok _ _ s e
step g (AfterLists q) t s ws p e f = subst (λ x. Follows g x ws p) (same_ok _ _ _ refl e) f

-- ---- the text's end
last : (g : Geometry) (end : ℕ) (stage : Stage) (p : Placement) → at_end g end stage ≡ Ok p → Follows g stage [] p
unfolding at_end
last g end Start p e = fault-ok _ _ p e
last g end (AfterTurn turn) p e = fault-ok _ _ p e
last g end (AfterColon first q) p e = fault-ok _ _ p e
last g end (AfterColour list) p e = λ w named. bare_list g list w [] p named
    (end_after g list [] p nothing (same_ok _ _ _ refl e))
last g end (AfterComma list) p e = fault-ok _ _ p e
last g end (AfterKing list) p e = fault-ok _ _ p e
last g end (AfterNumber list item) p e = λ v named.
    let h = bind_ok (with_item g list item item.from) (λ all. Ok all.placed) p e in
    let set = item_sets g list item item.from h.0 h.1 in
    range_then g item.is_king list (v ∷ []) [] item.from item.from set.0 p (number named) set.2
    (inl (end_after g (listing list.side list.is_second set.0) [] p nothing (same_ok _ _ _ refl h.2
    ∙ ap (λ x. x.placed) set.1)))
last g end (AfterDash list item) p e = fault-ok _ _ p e
last g end (AfterItem list) p e = inl (end_after g list [] p nothing (same_ok _ _ _ refl e))
last g end (AfterStop q) p e = (refl, same_ok _ _ _ refl e)
last g end (AfterLists q) p e = same_ok _ _ _ refl e

-- what is read from a stage on is what may follow it
pub read_follows : (g : Geometry) (end : ℕ) (stage : Stage) (ts : List Token) (p : Placement) → read_from g end stage ts
    ≡ Ok p → Follows g stage (map (λ t. t.text) ts) p
unfolding read_from
read_follows g end stage [] p e = last g end stage p e
read_follows g end stage (t ∷ ts) p e =
    let h = bind_ok (next_stage g stage t) (λ s. read_from g end s ts) p e in
    step g stage t h.0 (map (λ t. t.text) ts) p h.1 (read_follows g end h.0 ts p h.2)
