-- Where the earliest fault of a FEN text stands.
use Rattle.std.proofs.Common.{◌≡◌, ℕ, suc, zero, ◌+◌, ◌-◌, ◌≤◌, ◌<◌, Bool, true, false, ◌||◌, cond, ltb, List, [], ◌∷◌}
use Rattle.std.proofs.Common.{◌++◌, map, Option, Some, None, Result, Ok, Err, refl, sym, ap, ◌∙◌, subst, arith, ◌⊎◌}
use Rattle.std.proofs.Common.{inl, inr, append_assoc, append-nil}
use Rattle.std.proofs.lemmas.Bool.{ltb-false, or_right}
use Rattle.std.proofs.lemmas.List.{map-append}
use Rattle.dw_board.specs.Geometry.{Geometry}
use Rattle.dw_board.specs.Placement.{Placement, placed, put_fault, same_side}
use Rattle.dw_board.specs.FenTokens.{Token, is_sign, side_named, is_king_letter, number_named}
use Rattle.dw_board.specs.FenGrammar.{IsRange, range}
use Rattle.dw_board.specs.Fen.{fault, ◌>>=◌, Listing, Item, Stage, Start, AfterTurn, AfterColon, AfterColour}
use Rattle.dw_board.specs.Fen.{AfterComma, AfterKing, AfterNumber, AfterDash, AfterItem, AfterStop, AfterLists}
use Rattle.dw_board.specs.Fen.{next_stage, at_end, read_from, with_item, item_ended, item_begun, list_begun, if_named}
use Rattle.dw_board.specs.Fen.{then_set, set_squares, piece_of}
use Rattle.dw_board.specs.FenFaults.{put_kind}
use Rattle.dw_board.specs.FenLaws.{LeadNowhere, EndsTooSoon, no_token, turn_alone, open_end, asks_more}
use Rattle.dw_board.specs.inner.FenReading.{listing}
use Rattle.dw_board.specs.declared.piece.Side.{Side}
use Rattle.dw_board.specs.declared.piece.Piece.{Piece}
use Rattle.dw_board.specs.declared.piece.PutFault.{PutFault}
use Rattle.dw_board.specs.declared.fen.fault.FenFault.{FenFault}
use Rattle.dw_board.specs.declared.fen.fault.FenFaultKind.{FenFaultKind}
use Rattle.dw_board.specs.declared.fen.fault.FenFaultKind.TheVariants.{Turn, Colon, Colour, Number, SameColour, Rest}
use Rattle.dw_board.specs.declared.fen.fault.FenFaultKind.TheVariants.{RangeBackwards}
use Rattle.dw_board.proofs.FenStageLemmas.{set_squares-step, squares_stop, squares_done}
use Rattle.dw_board.proofs.FenSoundLemmas.{bind_ok, chosen, named_ok, same_ok}
use Rattle.dw_board.proofs.FenCompleteLemmas.{names_read}

abbrev texts : List Token → List (List ℕ)
texts ts = map (λ t. t.text) ts

-- ---- faults
pub ok_err : {A C : Type 0} (x : A) (f : FenFault) (r : Result A FenFault) → r ≡ Ok x → r ≡ Err f → C
ok_err x f r e h = cc

fault_place : {A : Type 0} (what : FenFaultKind) (place : ℕ) (f : FenFault) → fault {A = A} what place ≡ Err f
    → f.place ≡ place
fault_place what place f e = let s : record { what = what; place = place } ≡ f = cc in sym (ap (λ x. x.place) s)

pub bind_err : {A B : Type 0} (r : Result A FenFault) (k : A → Result B FenFault) (f : FenFault) → (r >>= k) ≡ Err f
    → (r ≡ Err f) ⊎ ((x : A) × (r ≡ Ok x) × (k x ≡ Err f))
bind_err (Ok x) k f e = inr (x, refl, e)
bind_err (Err d) k f e = inl (let s : d ≡ f = cc in ap Err s)

named_err : {A : Type 0} (o : Option A) (what : FenFaultKind) (place : ℕ) (k : A → Result Stage FenFault) (f : FenFault)
    → if_named o what place k ≡ Err f
    → (f.place ≡ place) ⊎ ((x : A) × (o ≡ Some x) × (k x ≡ Err f))
named_err None what place k f e = inl (fault_place what place f e)
named_err (Some x) what place k f e = inr (x, refl, e)

then_err : (o : Option PutFault) (place : ℕ) (r : Result Placement FenFault) (f : FenFault) → then_set o place r ≡ Err f
    → (r ≡ Err f) ⊎ ((why : PutFault) × (o ≡ Some why) × (fault {A = Placement} (put_kind why) place ≡ Err f))
then_err None place r f e = inl e
then_err (Some why) place r f e = inr (why, refl, e)

-- ---- the squares of an item
set_place : (g : Geometry) (piece : Piece) (place from n : ℕ) (p : Placement) (f : FenFault)
    → set_squares g piece place from n p ≡ Err f → f.place ≡ place
set_place g piece place from zero p f e = cc
set_place g piece place from (suc n) p f e = elim (then_err (put_fault g p from piece) place _ f e) [
  | inl later ↦ set_place g piece place (from + 1) n (placed p from (Some piece)) f later
  | inr here ↦ fault_place (put_kind here.0) place f here.2
]

abbrev squares_set : Geometry → Listing → Item → ℕ → Result Placement FenFault
squares_set g list item to = set_squares g (piece_of list item) item.place item.from (to + 1 - item.from) list.placed

pub item_err : (g : Geometry) (list : Listing) (item : Item) (to : ℕ) (f : FenFault) → with_item g list item to ≡ Err f
    → squares_set g list item to ≡ Err f
item_err g list item to f e = elim (bind_err (squares_set g list item to) (λ p. Ok (listing list.side list.is_second p))
    f e) [
      | inl h ↦ h
      | inr h ↦ ok_err _ f _ refl h.2
    ]

item_place : (g : Geometry) (list : Listing) (item : Item) (to : ℕ) (f : FenFault) → with_item g list item to ≡ Err f
    → f.place ≡ item.place
item_place g list item to f e = set_place g (piece_of list item) item.place item.from (to + 1 - item.from) list.placed f
    (item_err g list item to f e)

-- an item whose first square can't be set can't be set as a range either
first_square : (g : Geometry) (list : Listing) (item : Item) (to : ℕ) (f : FenFault) → item.from ≤ to
    → with_item g list item item.from ≡ Err f → with_item g list item to ≡ Err f
first_square g list item to f high e =
    let piece = piece_of list item in
    let one : 0 < item.from + 1 - item.from = omega arith in
    let some : 0 < to + 1 - item.from = omega arith in
    let none : item.from + 1 - item.from - 1 ≡ 0 = omega arith in
    let split = sym (set_squares-step g 0 piece item.place item.from (item.from + 1 - item.from) list.placed one)
    ∙ item_err g list item item.from f e in
    elim (then_err (put_fault g list.placed item.from piece) item.place _ f split) [
      | inl later ↦ ok_err _ f _ (squares_done g 0 piece item.place (item.from + 1) (item.from + 1 - item.from - 1)
          (placed list.placed item.from (Some piece)) none) later
      | inr here ↦ ap (λ r. r >>= λ p. Ok (listing list.side list.is_second p))
          (squares_stop g 0 piece item.place item.from (to + 1 - item.from) item.from list.placed here.0 some refl
          here.1 ∙ here.2)
    ]

-- ---- what leads nowhere
bare : List (List ℕ) → List Token
bare ws = map (λ w. record { text = w; place = 0 }) ws

texts-bare : (ws : List (List ℕ)) → texts (bare ws) ≡ ws
unfolding bare
texts-bare [] = refl
texts-bare (w ∷ ws) = ap (λ l. w ∷ l) (texts-bare ws)

nowhere : (g : Geometry) (tokens : List Token) → ((more : List Token) (p : Placement)
    → read_from g 0 Start (tokens ++ more) ≡ Ok p → ⊥) → LeadNowhere g tokens
nowhere g tokens stuck = λ more p names.
    stuck (bare more) p (names_read g 0 (texts tokens ++ more) p names (tokens ++ bare more)
    (map-append (λ t. t.text) tokens (bare more) ∙ ap (λ l. texts tokens ++ l) (texts-bare more)))

number_stuck : (g : Geometry) (list : Listing) (item : Item) (f : FenFault) → with_item g list item item.from ≡ Err f
    → (more : List Token) (p : Placement) → read_from g 0 (AfterNumber list item) more ≡ Ok p → ⊥
unfolding read_from next_stage at_end
number_stuck g list item f bad [] p e =
    let h = bind_ok (with_item g list item item.from) (λ all. Ok all.placed) p e in
    ok_err h.0 f _ h.1 bad
number_stuck g list item f bad (t ∷ ts) p e =
    let h = bind_ok (next_stage g (AfterNumber list item) t) (λ s. read_from g 0 s ts) p e in
    elim (chosen (is_sign 45 t.text) _ _ _ h.1) [
      | inl dash ↦ dash_stuck ts (subst (λ s. read_from g 0 s ts ≡ Ok p) (same_ok _ _ _ refl dash.1) h.2)
      | inr other ↦ let k = bind_ok (with_item g list item item.from) (λ all. item_ended all t) h.0 other.1 in
          ok_err k.0 f _ k.1 bad
    ] where
      dash_stuck : (ts : List Token) → read_from g 0 (AfterDash list item) ts ≡ Ok p → ⊥
      dash_stuck [] e = cc
      dash_stuck (u ∷ us) e =
          let h = bind_ok (next_stage g (AfterDash list item) u) (λ s. read_from g 0 s us) p e in
          let k = named_ok (number_named g u.text) Number u.place _ h.0 h.1 in
          elim (chosen (ltb k.0 item.from) _ _ _ k.2) [
            | inl low ↦ cc
            | inr high ↦
                let l = bind_ok (with_item g list item k.0) (λ all. Ok (AfterItem all)) h.0 high.1 in
                ok_err l.0 f _ l.1 (first_square g list item k.0 f (ltb-false _ _ high.0) bad)
          ]

-- ---- what the last token was
pub record EndsWith (test : List ℕ → Bool) (tokens : List Token) : Type 0 where
  pub front : List Token
  pub last : Token
  pub is : tokens ≡ front ++ last ∷ []
  pub passes : test last.text ≡ true

-- read alone, these tokens have no fault but at their end
abbrev pub Clear : Geometry → List Token → Type 0
Clear g tokens = (end : ℕ) (f : FenFault) → read_from g end Start tokens ≡ Err f → f.place ≡ end

-- the last token is the item's first number
pub record EndsWithNumber (g : Geometry) (item : Item) (tokens : List Token) : Type 0 where
  pub front : List Token
  pub first : Token
  pub is : tokens ≡ front ++ first ∷ []
  pub place : first.place ≡ item.place
  pub names : number_named g first.text ≡ Some item.from
  pub clear : Clear g front

pub record EndsWithDash (g : Geometry) (item : Item) (tokens : List Token) : Type 0 where
  pub numbered : List Token
  pub dash : Token
  pub is : tokens ≡ numbered ++ dash ∷ []
  pub sign : is_sign 45 dash.text ≡ true
  pub number : EndsWithNumber g item numbered

abbrev Last : Geometry → List Token → Stage → Type 0
Last g tokens Start = tokens ≡ []
Last g tokens (AfterTurn turn) = (t : Token) × (tokens ≡ t ∷ []) × (side_named t.text ≡ Some turn)
Last g tokens (AfterColon first p) = EndsWith (is_sign 58) tokens
Last g tokens (AfterColour list) = Unit {0}
Last g tokens (AfterComma list) = EndsWith (is_sign 44) tokens
Last g tokens (AfterKing list) = EndsWith is_king_letter tokens
Last g tokens (AfterNumber list item) = EndsWithNumber g item tokens
Last g tokens (AfterDash list item) = EndsWithDash g item tokens
Last g tokens (AfterItem list) = Unit {0}
Last g tokens (AfterStop p) = Unit {0}
Last g tokens (AfterLists p) = Unit {0}

-- reading comes to a stage
pub record Comes (g : Geometry) (tokens : List Token) (stage : Stage) : Type 0 where
  pub reads : (end : ℕ) (more : List Token) → read_from g end Start (tokens ++ more) ≡ read_from g end stage more
  pub last : Last g tokens stage

ends_with : (test : List ℕ → Bool) (tokens : List Token) (t : Token) → test t.text ≡ true
    → EndsWith test (tokens ++ t ∷ [])
ends_with test tokens t h = record { front = tokens; last = t; is = refl; passes = h }

-- the first square of the item can't be set
abbrev NumberFault : Geometry → Stage → FenFault → Type 0
NumberFault g (AfterNumber list item) f = with_item g list item item.from ≡ Err f
NumberFault g stage f = ⊥

-- a square of the range that ends with this token can't be set
abbrev RangeFault : Geometry → Stage → Token → FenFault → Type 0
RangeFault g (AfterDash list item) t f = (n : ℕ) × (number_named g t.text ≡ Some n) × (item.from ≤ n)
    × (f.place ≡ item.place)
RangeFault g stage t f = ⊥

-- ---- the end
open_with : (tokens : List Token) (test : List ℕ → Bool) → ((w : List ℕ) → test w ≡ true → asks_more w ≡ true)
    → EndsWith test tokens → EndsTooSoon tokens
open_with tokens test asks h = subst EndsTooSoon (sym h.is) (open_end h.front h.last (asks h.last.text h.passes))

colon_asks : (w : List ℕ) → is_sign 58 w ≡ true → asks_more w ≡ true
colon_asks w h = rw h refl

comma_asks : (w : List ℕ) → is_sign 44 w ≡ true → asks_more w ≡ true
comma_asks w h = or_right (is_sign 58 w) _ (rw h refl)

dash_asks : (w : List ℕ) → is_sign 45 w ≡ true → asks_more w ≡ true
dash_asks w h = or_right (is_sign 58 w) _ (or_right (is_sign 44 w) _ (rw h refl))

king_asks : (w : List ℕ) → is_king_letter w ≡ true → asks_more w ≡ true
king_asks w h = or_right (is_sign 58 w) _ (or_right (is_sign 44 w) _ (or_right (is_sign 45 w) _ h))

end_err : (g : Geometry) (tokens : List Token) (stage : Stage) (end : ℕ) (f : FenFault) → Last g tokens stage
    → at_end g end stage ≡ Err f
    → ((f.place ≡ end) × EndsTooSoon tokens) ⊎ NumberFault g stage f
unfolding at_end
end_err g tokens Start end f last e = inl (fault_place _ end f e, subst EndsTooSoon (sym last) no_token)
end_err g tokens (AfterTurn turn) end f last e = inl (
  fault_place _ end f e,
  subst EndsTooSoon (sym last.1) (turn_alone last.0 turn last.2),
)
end_err g tokens (AfterColon first p) end f last e = inl (
  fault_place _ end f e,
  open_with tokens (is_sign 58) colon_asks last,
)
end_err g tokens (AfterColour list) end f last e = cc
end_err g tokens (AfterComma list) end f last e = inl (
  fault_place _ end f e,
  open_with tokens (is_sign 44) comma_asks last,
)
end_err g tokens (AfterKing list) end f last e = inl (
  fault_place _ end f e,
  open_with tokens is_king_letter king_asks last,
)
end_err g tokens (AfterNumber list item) end f last e =
    elim (bind_err (with_item g list item item.from) (λ all. Ok all.placed) f e) [
      | inl h ↦ inr h
      | inr h ↦ ok_err _ f _ refl h.2
    ]
end_err g tokens (AfterDash list item) end f last e =
    inl (
      fault_place _ end f e,
      subst EndsTooSoon (sym last.is) (open_end last.numbered last.dash (dash_asks last.dash.text last.sign)),
    )
end_err g tokens (AfterItem list) end f last e = cc
end_err g tokens (AfterStop p) end f last e = cc
end_err g tokens (AfterLists p) end f last e = cc

-- where the item behind them can be set, the tokens read alone have no fault but at their end
clear_before : (g : Geometry) (tokens : List Token) (stage : Stage) → Comes g tokens stage
    → ((f : FenFault) → NumberFault g stage f → ⊥) → Clear g tokens
unfolding read_from
clear_before g tokens stage come none = λ end f e.
    let here : at_end g end stage ≡ Err f = sym (come.reads end []) ∙ (ap (read_from g end Start) (append-nil tokens)
    ∙ e) in
    elim (end_err g tokens stage end f come.last here) [ inl h ↦ h.0 | inr h ↦ absurd (none f h) ]

-- ---- one token more
at_stage : (g : Geometry) (tokens : List Token) (x s : Stage) (r : Result Stage FenFault) → r ≡ Ok x → r ≡ Ok s
    → Last g tokens x → Last g tokens s
at_stage g tokens x s r is e last = subst (Last g tokens) (sym (same_ok x s r is e)) last

ended_last : (g : Geometry) (tokens : List Token) (list : Listing) (t : Token) (s : Stage) → item_ended list t ≡ Ok s
    → Last g (tokens ++ t ∷ []) s
ended_last g tokens list t s e = elim (chosen (is_sign 44 t.text) _ _ _ e) [
  | inl comma ↦ at_stage g (tokens ++ t ∷ []) _ s _ refl comma.1 (ends_with (is_sign 44) tokens t comma.0)
  | inr not_comma ↦ elim (chosen (is_sign 58 t.text) _ _ _ not_comma.1) [
    | inl colon ↦ at_stage g (tokens ++ t ∷ []) _ s _ refl colon.1 (colon_last list.is_second colon.0)
    | inr not_colon ↦ elim (chosen (is_sign 46 t.text) _ _ _ not_colon.1) [
      | inl stopped ↦ at_stage g (tokens ++ t ∷ []) _ s _ refl stopped.1 tt
      | inr other ↦ ok_err s _ _ refl (sym other.1)
    ]
  ]
] where
  colon_last : (second : Bool) → is_sign 58 t.text ≡ true
      → Last g (tokens ++ t ∷ []) (cond second (AfterLists list.placed) (AfterColon (Some list.side) list.placed))
  colon_last true colon = tt
  colon_last false colon = ends_with (is_sign 58) tokens t colon

number_last : (g : Geometry) (tokens : List Token) (list : Listing) (king : Bool) (t : Token) (s : Stage)
    → Clear g tokens
    → if_named (number_named g t.text) Number t.place
    (λ n. Ok (AfterNumber list (record { is_king = king; from = n; place = t.place }))) ≡ Ok s
    → Last g (tokens ++ t ∷ []) s
number_last g tokens list king t s clear e =
    let h = named_ok (number_named g t.text) Number t.place
    (λ n. Ok (AfterNumber list (record { is_king = king; from = n; place = t.place }))) s e in
    at_stage g (tokens ++ t ∷ []) _ s _ refl h.2 (record {
      front = tokens;
      first = t;
      is = refl;
      place = refl;
      names =
          h.1;
      clear = clear;
    })

begun_last : (g : Geometry) (tokens : List Token) (list : Listing) (t : Token) (s : Stage) → Clear g tokens
    → item_begun g list t ≡ Ok s → Last g (tokens ++ t ∷ []) s
begun_last g tokens list t s clear e = elim (chosen (is_king_letter t.text) _ _ _ e) [
  | inl king ↦ at_stage g (tokens ++ t ∷ []) _ s _ refl king.1 (ends_with is_king_letter tokens t king.0)
  | inr man ↦ number_last g tokens list false t s clear man.1
]

list_last : (g : Geometry) (tokens : List Token) (first : Option Side) (p : Placement) (place : ℕ) (side : Side)
    (s : Stage) → list_begun first p place side ≡ Ok s → Last g tokens s
list_last g tokens None p place side s e = at_stage g tokens _ s _ refl e tt
list_last g tokens (Some first) p place side s e = elim (chosen (same_side first side) _ _ _ e) [
  | inl same ↦ ok_err s _ _ refl (sym same.1)
  | inr other ↦ at_stage g tokens _ s _ refl other.1 tt
]

next_last : (g : Geometry) (tokens : List Token) (stage : Stage) (t : Token) (s : Stage) → Comes g tokens stage
    → next_stage g stage t ≡ Ok s → Last g (tokens ++ t ∷ []) s
unfolding next_stage
next_last g tokens Start t s come e =
    let h = named_ok (side_named t.text) Turn t.place (λ side. Ok (AfterTurn side)) s e in
    at_stage g (tokens ++ t ∷ []) _ s _ refl h.2 (t, ap (λ l. l ++ t ∷ []) come.last, h.1)
next_last g tokens (AfterTurn turn) t s come e = elim (chosen (is_sign 58 t.text) _ _ _ e) [
  | inl colon ↦ at_stage g (tokens ++ t ∷ []) _ s _ refl colon.1 (ends_with (is_sign 58) tokens t colon.0)
  | inr other ↦ ok_err s _ _ refl (sym other.1)
]
next_last g tokens (AfterColon first p) t s come e =
    let h = named_ok (side_named t.text) Colour t.place (list_begun first p t.place) s e in
    list_last g (tokens ++ t ∷ []) first p t.place h.0 s h.2
next_last g tokens (AfterColour list) t s come e = elim (chosen (is_sign 58 t.text || is_sign 46 t.text) _ _ _ e) [
  | inl closed ↦ ended_last g tokens list t s closed.1
  | inr begun ↦ begun_last g tokens list t s (clear_before g tokens (AfterColour list) come (λ f n. n)) begun.1
]
next_last g tokens (AfterComma list) t s come e = begun_last g tokens list t s (clear_before g tokens (AfterComma list)
    come (λ f n. n)) e
next_last g tokens (AfterKing list) t s come e = number_last g tokens list true t s
    (clear_before g tokens (AfterKing list) come (λ f n. n)) e
next_last g tokens (AfterNumber list item) t s come e = elim (chosen (is_sign 45 t.text) _ _ _ e) [
  | inl dash ↦ at_stage g (tokens ++ t ∷ []) _ s _ refl dash.1 (record {
    numbered = tokens;
    dash = t;
    is = refl;
    sign =
        dash.0;
    number = come.last;
  })
  | inr other ↦ let h = bind_ok (with_item g list item item.from) (λ all. item_ended all t) s other.1 in
      ended_last g tokens h.0 t s h.2
]
next_last g tokens (AfterDash list item) t s come e =
    let h = named_ok (number_named g t.text) Number t.place _ s e in
    elim (chosen (ltb h.0 item.from) _ _ _ h.2) [
      | inl low ↦ ok_err s _ _ refl (sym low.1)
      | inr high ↦
          let k = bind_ok (with_item g list item h.0) (λ all. Ok (AfterItem all)) s high.1 in
          at_stage g (tokens ++ t ∷ []) _ s _ refl k.2 tt
    ]
next_last g tokens (AfterItem list) t s come e = ended_last g tokens list t s e
next_last g tokens (AfterStop p) t s come e = cc
next_last g tokens (AfterLists p) t s come e = at_stage g (tokens ++ t ∷ []) _ s _ refl e tt

next_reads : (g : Geometry) (tokens : List Token) (stage : Stage) (t : Token) (r : Result Stage FenFault)
    → Comes g tokens stage → next_stage g stage t ≡ r → (end : ℕ) (more : List Token)
    → read_from g end Start ((tokens ++ t ∷ []) ++ more) ≡ (r >>= λ next. read_from g end next more)
unfolding read_from
next_reads g tokens stage t r come e end more =
    ap (read_from g end Start) (append_assoc tokens (t ∷ []) more)
    ∙ (come.reads end (t ∷ more) ∙ ap (λ x. x >>= λ next. read_from g end next more) e)

comes_next : (g : Geometry) (tokens : List Token) (stage : Stage) (t : Token) (s : Stage) → Comes g tokens stage
    → next_stage g stage t ≡ Ok s → Comes g (tokens ++ t ∷ []) s
comes_next g tokens stage t s come e = record {
  reads = next_reads g tokens stage t (Ok s) come e;
  last =
      next_last g tokens stage t s come e;
}

-- ---- a token at fault
ended_err : (list : Listing) (t : Token) (f : FenFault) → item_ended list t ≡ Err f → f.place ≡ t.place
ended_err list t f e = elim (chosen (is_sign 44 t.text) _ _ _ e) [
  | inl comma ↦ ok_err _ f _ refl comma.1
  | inr not_comma ↦ elim (chosen (is_sign 58 t.text) _ _ _ not_comma.1) [
    | inl colon ↦ ok_err _ f _ refl colon.1
    | inr not_colon ↦ elim (chosen (is_sign 46 t.text) _ _ _ not_colon.1) [
      | inl stopped ↦ ok_err _ f _ refl stopped.1
      | inr other ↦ fault_place Rest t.place f other.1
    ]
  ]
]

number_err : (g : Geometry) (list : Listing) (king : Bool) (t : Token) (f : FenFault)
    → if_named (number_named g t.text) Number t.place
    (λ n. Ok (AfterNumber list (record { is_king = king; from = n; place = t.place }))) ≡ Err f → f.place ≡ t.place
number_err g list king t f e = elim (named_err (number_named g t.text) Number t.place
    (λ n. Ok (AfterNumber list (record { is_king = king; from = n; place = t.place }))) f e) [
      | inl h ↦ h
      | inr h ↦ ok_err _ f _ refl h.2
    ]

begun_err : (g : Geometry) (list : Listing) (t : Token) (f : FenFault) → item_begun g list t ≡ Err f → f.place ≡ t.place
begun_err g list t f e = elim (chosen (is_king_letter t.text) _ _ _ e) [
  | inl king ↦ ok_err _ f _ refl king.1
  | inr man ↦ number_err g list false t f man.1
]

list_err : (first : Option Side) (p : Placement) (place : ℕ) (side : Side) (f : FenFault)
    → list_begun first p place side ≡ Err f → f.place ≡ place
list_err None p place side f e = cc
list_err (Some first) p place side f e = elim (chosen (same_side first side) _ _ _ e) [
  | inl same ↦ fault_place SameColour place f same.1
  | inr other ↦ ok_err _ f _ refl other.1
]

-- a fault that is found at a token is one of it, of the number before it, or of the range that it ends
abbrev TokenFault : Geometry → Stage → Token → FenFault → Type 0
TokenFault g stage t f = ((f.place ≡ t.place) × ((d : FenFault) → NumberFault g stage d → ⊥))
    ⊎ (NumberFault g stage f ⊎ RangeFault g stage t f)

next_err : (g : Geometry) (stage : Stage) (t : Token) (f : FenFault) → next_stage g stage t ≡ Err f
    → TokenFault g stage t f
unfolding next_stage
next_err g Start t f e = inl (
  elim (named_err (side_named t.text) Turn t.place (λ side. Ok (AfterTurn side)) f e)
      [ inl h ↦ h | inr h ↦ ok_err _ f _ refl h.2 ],
  λ d n. n,
)
next_err g (AfterTurn turn) t f e =
    inl (
      elim (chosen (is_sign 58 t.text) _ _ _ e) [
        | inl colon ↦ ok_err _ f _ refl colon.1
        | inr other ↦
            fault_place Colon t.place f other.1
      ],
      λ d n. n,
    )
next_err g (AfterColon first p) t f e =
    inl (
      elim (named_err (side_named t.text) Colour t.place (list_begun first p t.place) f e) [
        | inl h ↦ h
        | inr h ↦
            list_err first p t.place h.0 f h.2
      ],
      λ d n. n,
    )
next_err g (AfterColour list) t f e = inl (
  elim (chosen (is_sign 58 t.text || is_sign 46 t.text) _ _ _ e)
      [ inl closed ↦ ended_err list t f closed.1 | inr begun ↦ begun_err g list t f begun.1 ],
  λ d n. n,
)
next_err g (AfterComma list) t f e = inl (begun_err g list t f e, λ d n. n)
next_err g (AfterKing list) t f e = inl (number_err g list true t f e, λ d n. n)
next_err g (AfterNumber list item) t f e = elim (chosen (is_sign 45 t.text) _ _ _ e) [
  | inl dash ↦ ok_err _ f _ refl dash.1
  | inr other ↦ elim (bind_err (with_item g list item item.from) (λ all. item_ended all t) f other.1) [
    | inl h ↦ inr (inl h)
    | inr h ↦ inl (ended_err h.0 t f h.2, λ d n. ok_err h.0 d _ h.1 n)
  ]
]
next_err g (AfterDash list item) t f e = elim (named_err (number_named g t.text) Number t.place _ f e) [
  | inl h ↦ inl (h, λ d n. n)
  | inr h ↦ elim (chosen (ltb h.0 item.from) _ _ _ h.2) [
    | inl low ↦ inl (fault_place RangeBackwards t.place f low.1, λ d n. n)
    | inr high ↦ elim (bind_err (with_item g list item h.0) (λ all. Ok (AfterItem all)) f high.1) [
      | inl k ↦ inr (inr (h.0, h.1, ltb-false _ _ high.0, item_place g list item h.0 f k))
      | inr k ↦ ok_err _ f _ refl k.2
    ]
  ]
]
next_err g (AfterItem list) t f e = inl (ended_err list t f e, λ d n. n)
next_err g (AfterStop p) t f e = inl (fault_place Rest t.place f e, λ d n. n)
next_err g (AfterLists p) t f e = cc

-- ---- where a fault stands, and what stands before it
pub record RangeBehind (g : Geometry) (before : List Token) (t : Token) (rest : List Token) : Type 0 where
  pub dash : Token
  pub to : Token
  pub others : List Token
  pub m : ℕ
  pub n : ℕ
  pub is : rest ≡ dash ∷ to ∷ others
  pub is_range : IsRange g (t.text ∷ dash.text ∷ to.text ∷ []) m n
  pub leads : LeadNowhere g (before ++ t ∷ dash ∷ to ∷ [])

pub record AtToken (g : Geometry) (tokens : List Token) (place : ℕ) : Type 0 where
  pub before : List Token
  pub t : Token
  pub rest : List Token
  pub is : tokens ≡ before ++ t ∷ rest
  pub here : place ≡ t.place
  pub clear : Clear g before
  pub leads : LeadNowhere g (before ++ t ∷ []) ⊎ RangeBehind g before t rest

abbrev pub Found : Geometry → ℕ → List Token → ℕ → Type 0
Found g end tokens place = ((place ≡ end) × EndsTooSoon tokens) ⊎ AtToken g tokens place

-- a token at fault leads nowhere
token_stuck : (g : Geometry) (tokens : List Token) (stage : Stage) (t : Token) (f : FenFault) → Comes g tokens stage
    → next_stage g stage t ≡ Err f → LeadNowhere g (tokens ++ t ∷ [])
token_stuck g tokens stage t f come e = nowhere g (tokens ++ t ∷ [])
    (λ more p ok. ok_err p f _ ok (next_reads g tokens stage t (Err f) come e 0 more))

number_found : (g : Geometry) (tokens ts : List Token) (stage : Stage) (f : FenFault) → Comes g tokens stage
    → NumberFault g stage f → AtToken g (tokens ++ ts) f.place
number_found g tokens ts (AfterNumber list item) f come bad =
    let last = come.last in
    record {
      before = last.front;
      t = last.first;
      rest = ts;
      is = ap (λ l. l ++ ts) last.is ∙ append_assoc last.front (last.first ∷ []) ts;
      here = item_place g list item item.from f bad ∙ sym last.place;
      clear = last.clear;
      leads = inl (subst (LeadNowhere g) last.is (nowhere g tokens (λ more p ok. number_stuck g list item f bad more p
          (sym (come.reads 0 more) ∙ ok))));
    }
number_found g tokens ts stage f come bad = absurd bad

range_found : (g : Geometry) (tokens ts : List Token) (stage : Stage) (t : Token) (f : FenFault) → Comes g tokens stage
    → next_stage g stage t ≡ Err f → RangeFault g stage t f
    → AtToken g (tokens ++ t ∷ ts) f.place
range_found g tokens ts (AfterDash list item) t f come e bad =
    let last = come.last in
    let number = last.number in
    let split : (more : List Token) → tokens ++ more ≡ number.front ++ (number.first ∷ last.dash ∷ more) = λ more.
    ap (λ l. l ++ more) (last.is ∙ ap (λ l. l ++ last.dash ∷ []) number.is)
    ∙ (append_assoc (number.front ++ number.first ∷ []) (last.dash ∷ []) more
    ∙ append_assoc number.front (number.first ∷ []) (last.dash ∷ more)) in
    record {
      before = number.front;
      t = number.first;
      rest = last.dash ∷ t ∷ ts;
      is = split (t ∷ ts);
      here = bad.3 ∙ sym number.place;
      clear = number.clear;
      leads = inr (record {
        dash = last.dash;
        to = t;
        others = ts;
        m = item.from;
        n = bad.0;
        is = refl;
        is_range = range number.names last.sign bad.1 bad.2;
        leads = subst (LeadNowhere g) (split (t ∷ [])) (token_stuck g tokens (AfterDash list item) t f come e);
      });
    }
range_found g tokens ts stage t f come e bad = absurd bad

pub walk : (g : Geometry) (end : ℕ) (ts tokens : List Token) (stage : Stage) (f : FenFault) → Comes g tokens stage
    → read_from g end stage ts ≡ Err f → Found g end (tokens ++ ts) f.place
unfolding read_from
walk g end [] tokens stage f come e = elim (end_err g tokens stage end f come.last e) [
  | inl soon ↦ inl (soon.0, subst EndsTooSoon (sym (append-nil tokens)) soon.1)
  | inr bad ↦ inr (number_found g tokens [] stage f come bad)
]
walk g end (t ∷ ts) tokens stage f come e = elim (bind_err (next_stage g stage t) (λ s. read_from g end s ts) f e) [
  | inl here ↦ elim (next_err g stage t f here) [
    | inl at ↦ inr (record {
      before = tokens;
      t = t;
      rest = ts;
      is = refl;
      here = at.0;
      clear = clear_before g tokens stage come at.1;
      leads = inl (token_stuck g tokens stage t f come here);
    })
    | inr item ↦ elim item [
      | inl numbered ↦ inr (number_found g tokens (t ∷ ts) stage f come numbered)
      | inr ranged ↦ inr (range_found g tokens ts stage t f come here ranged)
    ]
  ]
  | inr on ↦ subst (λ l. Found g end l f.place) (append_assoc tokens (t ∷ []) ts) (walk g end ts (tokens ++ t ∷ []) on.0
      f (comes_next g tokens stage t on.0 come on.1) on.2)
]

pub found : (g : Geometry) (end : ℕ) (ts : List Token) (f : FenFault) → read_from g end Start ts ≡ Err f
    → Found g end ts f.place
found g end ts f e = walk g end ts [] Start f (record { reads = λ end more. refl; last = refl }) e
