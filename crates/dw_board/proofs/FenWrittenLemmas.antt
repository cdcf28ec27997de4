-- The written text of a position is in the grammar.
use Rattle.std.proofs.Common.{◌≡◌, ℕ, suc, zero, ◌+◌, ◌-◌, ◌*◌, ◌/◌, ◌%◌, ◌≤◌, ◌<◌, Bool, true, false, ◌&&◌, cond, leb}
use Rattle.std.proofs.Common.{List, [], ◌∷◌, ◌++◌, length, map, filter, Option, Some, None, refl, sym, ap, ◌∙◌, subst}
use Rattle.std.proofs.Common.{arith, inl, inr, append_assoc, append-nil, length-append, decimal, codes}
use Rattle.std.specs.List.{range_with_len, join_with_byte}
use Rattle.std.proofs.lemmas.Bool.{cases_lt, le-leb}
use Rattle.std.proofs.lemmas.Bool.Decides.{nat_tests}
use Rattle.std.proofs.lemmas.Fmt.{decimal_digit, decimal_step, length-decimal-le}
use Rattle.dw_board.specs.Geometry.{Geometry, IsBoard, OnBoard, squares}
use Rattle.dw_board.specs.Placement.{Placement, IsPosition, empty, at, is_of, is_man}
use Rattle.dw_board.specs.FenTokens.{Token, tokens_from, with_byte, onto_run, is_blank, is_digit, begins_with_digit}
use Rattle.dw_board.specs.FenTokens.{side_named, number_named, AreDigits}
use Rattle.dw_board.specs.FenGrammar.{texts, Placing, IsItem, IsItems, IsList, named, all_named, Sets, Names, number}
use Rattle.dw_board.specs.FenGrammar.{men, kings, single, more, bare, full, nothing, ends, two_lists}
use Rattle.dw_board.specs.FenText.{squares_held, king_mark, item_text, items_text, side_text, written}
use Rattle.dw_board.specs.declared.piece.Side.{Side}
use Rattle.dw_board.specs.declared.piece.Side.TheVariants.{White, Black}
use Rattle.dw_board.specs.declared.piece.Kind.{Kind}
use Rattle.dw_board.specs.declared.piece.Kind.TheVariants.{Man, King}
use Rattle.dw_board.specs.declared.piece.Piece.{Piece}
use Rattle.dw_board.proofs.FenTokenLemmas.{tokens_from-sign, tokens_from-run}
use Rattle.dw_board.proofs.WrittenLemmas.{held-few}
use Rattle.dw_board.proofs.FenSetAllLemmas.{kind_at, piece_on, pieces_of, sets_all}

-- the words of a text
abbrev words : List ℕ → List (List ℕ)
words text = texts (tokens_from 1 text)

-- ---- the words do not depend on the place
texts-onto_run : (digit a b : ℕ) (xs ys : List Token) → texts xs ≡ texts ys → texts (onto_run digit a xs)
    ≡ texts (onto_run digit b ys)
texts-onto_run digit a b [] [] e = refl
texts-onto_run digit a b [] (y ∷ ys) e = cc
texts-onto_run digit a b (x ∷ xs) [] e = cc
texts-onto_run digit a b (x ∷ xs) (y ∷ ys) e =
    let first : x.text ≡ y.text = cc in
    let others : texts xs ≡ texts ys = cc in
    ap (λ t. (digit ∷ t) ∷ texts xs) first ∙ ap (λ ts. (digit ∷ y.text) ∷ ts) others

texts-with_byte : (byte a b : ℕ) (joins : Bool) (xs ys : List Token) → texts xs ≡ texts ys
    → texts (with_byte byte a joins xs) ≡ texts (with_byte byte b joins ys)
texts-with_byte byte a b joins xs ys e =
    elim (is_blank byte) as (λ v. texts
    (cond v xs (cond (is_digit byte && joins) (onto_run byte a xs) (record { text = byte ∷ []; place = a } ∷ xs)))
    ≡ texts (cond v ys (cond (is_digit byte && joins) (onto_run byte b ys) (record { text = byte ∷ []; place = b }
    ∷ ys)))) [
      | true ↦ e
      | false ↦ elim (is_digit byte && joins) as
          (λ v. texts (cond v (onto_run byte a xs) (record { text = byte ∷ []; place = a } ∷ xs))
          ≡ texts (cond v (onto_run byte b ys) (record { text = byte ∷ []; place = b } ∷ ys))) [
            | true ↦ texts-onto_run byte a b xs ys e
            | false ↦ ap (λ t. (byte ∷ []) ∷ t) e
          ]
    ]

texts-place : (bytes : List ℕ) (a b : ℕ) → texts (tokens_from a bytes) ≡ texts (tokens_from b bytes)
texts-place [] a b = refl
texts-place (byte ∷ bytes) a b = texts-with_byte byte a b (begins_with_digit bytes) (tokens_from (a + 1) bytes)
    (tokens_from (b + 1) bytes) (texts-place bytes (a + 1) (b + 1))

words-sign : (byte : ℕ) (bytes : List ℕ) → is_blank byte ≡ false → is_digit byte ≡ false → words (byte ∷ bytes)
    ≡ (byte ∷ []) ∷ words bytes
words-sign byte bytes h k = ap texts (tokens_from-sign 1 byte bytes h k)
    ∙ ap (λ t. (byte ∷ []) ∷ t) (texts-place bytes (1 + 1) 1)

words-run : (d : ℕ) (ds rest : List ℕ) → AreDigits (d ∷ ds) → begins_with_digit rest ≡ false → words (d ∷ (ds ++ rest))
    ≡ (d ∷ ds) ∷ words rest
words-run d ds rest are none = ap texts (tokens_from-run 1 d ds rest are none)
    ∙ ap (λ t. (d ∷ ds) ∷ t) (texts-place rest (1 + suc (length ds)) 1)

-- ---- the number of a square
two_digits : (n : ℕ) → 10 ≤ n → n < 100 → decimal n ≡ (48 + n / 10) ∷ (48 + n % 10) ∷ []
two_digits n low high = decimal_step n low (omega arith)
    ∙ ap (λ d. d ++ ((48 + n % 10) ∷ [])) (decimal_digit (n / 10) (omega arith))

digit-is : (n : ℕ) → n < 10 → is_digit (48 + n) ≡ true
digit-is n h = grind (arith, nat_tests)

-- the digits of a square's number are one word, which names it
pub record Spells (g : Geometry) (s : ℕ) (bytes : List ℕ) : Type 0 where
  pub d : ℕ
  pub ds : List ℕ
  pub is : bytes ≡ d ∷ ds
  pub digits : AreDigits (d ∷ ds)
  pub name : number_named g (d ∷ ds) ≡ Some s

square_ok : (g : Geometry) (s n : ℕ) (b : Bool) → OnBoard g s → b ≡ true → n ≡ s
    → cond (b && (leb 1 n && leb n (squares g))) (Some n) None ≡ Some s
square_ok g s n b on t e =
    let low : leb 1 n ≡ true = le-leb 1 n (omega arith) in
    let high : leb n (squares g) ≡ true = le-leb n (squares g) (omega (arith, on.1)) in
    rw (t, low, high) (ap Some e)

decimal-spells : (g : Geometry) → IsBoard g → (s : ℕ) → OnBoard g s → Spells g s (decimal s)
decimal-spells g b s on = elim (cases_lt s 10) [
  | inl low ↦ record {
    d = 48 + s;
    ds = [];
    is = decimal_digit s low;
    digits = (digit-is s low, tt);
    name = square_ok g s (48 + s - 48) (is_digit (48 + s)) on (digit-is s low) (omega arith);
  }
  | inr high ↦
      let small : s < 100 = omega (arith, on.1, b.squares_high) in
      let tens : s / 10 < 10 = omega arith in
      let ones : s % 10 < 10 = omega arith in
      record {
        d = 48 + s / 10;
        ds = (48 + s % 10) ∷ [];
        is = two_digits s high small;
        digits = (digit-is (s / 10) tens, (digit-is (s % 10) ones, tt));
        name = square_ok g s (10 * (48 + s / 10 - 48) + (48 + s % 10 - 48)) (is_digit (48 + s / 10) && is_digit
            (48 + s % 10)) on
            (let x = digit-is (s / 10) tens in let y = digit-is (s % 10) ones in rw (x, y) refl) (omega arith);
      }
]

-- ---- an item
abbrev pub is_king : Option Piece → Bool
is_king None = false
is_king (Some piece) = cond (is_man piece.kind) false true

abbrev pub placing : Placement → ℕ → Placing
placing q s = record { is_king = is_king (at q s); from = s; to = s }

-- the words of a text, and then others
pub record Begins (g : Geometry) (bytes rest : List ℕ) (P : List (List ℕ) → Type 0) : Type 0 where
  pub front : List (List ℕ)
  pub split : words (bytes ++ rest) ≡ front ++ words rest
  pub holds : P front

item-begins : (g : Geometry) → IsBoard g → (q : Placement) (s : ℕ) (rest : List ℕ) → OnBoard g s
    → begins_with_digit rest ≡ false → Begins g (item_text q s) rest (λ ws. IsItem g ws (placing q s))
item-begins g b q s rest on none = item_of (at q s) where
  spelled : Spells g s (decimal s)
  spelled = decimal-spells g b s on

  number_words : words (decimal s ++ rest) ≡ (spelled.d ∷ spelled.ds) ∷ words rest
  number_words = ap (λ l. words (l ++ rest)) spelled.is ∙ words-run spelled.d spelled.ds rest spelled.digits none

  man : Begins g (decimal s) rest (λ ws. IsItem g ws (record { is_king = false; from = s; to = s }))
  man = record { front = (spelled.d ∷ spelled.ds) ∷ []; split = number_words; holds = men (number spelled.name) }

  king : Begins g (75 ∷ decimal s) rest (λ ws. IsItem g ws (record { is_king = true; from = s; to = s }))
  king = record {
    front = (75 ∷ []) ∷ (spelled.d ∷ spelled.ds) ∷ [];
    split = words-sign 75 (decimal s ++ rest) refl refl ∙ ap (λ t. (75 ∷ []) ∷ t) number_words;
    holds = kings refl (number spelled.name);
  }

  kind_of : (k : Kind) → Begins g (cond (is_man k) [] (codes "K") ++ decimal s) rest
      (λ ws. IsItem g ws (record { is_king = cond (is_man k) false true; from = s; to = s }))
  kind_of Man = man
  kind_of King = king

  item_of : (o : Option Piece) → Begins g (king_mark o ++ decimal s) rest
      (λ ws. IsItem g ws (record { is_king = is_king o; from = s; to = s }))
  item_of None = man
  item_of (Some piece) = kind_of piece.kind

-- ---- a list
abbrev pub AllOn : Geometry → List ℕ → Type 0
AllOn g [] = Unit {0}
AllOn g (s ∷ ss) = OnBoard g s × AllOn g ss

AllOn-range : (g : Geometry) (n a : ℕ) → 1 ≤ a → a + n ≤ squares g + 1 → AllOn g (range_with_len a n)
AllOn-range g zero a low high = tt
AllOn-range g (suc n) a low high = ((low, omega arith), AllOn-range g n (a + 1) (omega arith) (omega arith))

AllOn-filter : (g : Geometry) (p : ℕ → Bool) (ss : List ℕ) → AllOn g ss → AllOn g (filter p ss)
AllOn-filter g p [] all = tt
AllOn-filter g p (s ∷ ss) all = elim (p s) as (λ v. AllOn g (cond v (s ∷ filter p ss) (filter p ss)))
    [ true ↦ (all.0, AllOn-filter g p ss all.1) | false ↦ AllOn-filter g p ss all.1 ]

abbrev item_list : Placement → List ℕ → List ℕ
item_list q ss = join_with_byte 44 (map (item_text q) ss)

items-begins : (g : Geometry) → IsBoard g → (q : Placement) (s : ℕ) (ss rest : List ℕ) → AllOn g (s ∷ ss)
    → begins_with_digit rest ≡ false
    → Begins g (item_list q (s ∷ ss)) rest (λ ws. IsItems g ws (map (placing q) (s ∷ ss)))
items-begins g b q s [] rest on none =
    let item = item-begins g b q s rest on.0 none in
    record { front = item.front; split = item.split; holds = single item.holds }
items-begins g b q s (x ∷ ss) rest on none =
    let others = items-begins g b q x ss rest on.1 none in
    let behind = 44 ∷ (item_list q (x ∷ ss) ++ rest) in
    let item = item-begins g b q s behind on.0 refl in
    record {
      front = item.front ++ (44 ∷ []) ∷ others.front;
      split = ap words (append_assoc (item_text q s) (44 ∷ item_list q (x ∷ ss)) rest)
          ∙ (item.split
          ∙ (ap (λ t. item.front ++ t) (words-sign 44 (item_list q (x ∷ ss) ++ rest) refl refl
          ∙ ap (λ t. (44 ∷ []) ∷ t) others.split)
          ∙ sym (append_assoc item.front ((44 ∷ []) ∷ others.front) (words rest))));
      holds = more item.front (44 ∷ []) others.front item.holds refl others.holds;
    }

list-begins : (g : Geometry) → IsBoard g → (q : Placement) (letter : ℕ) (side : Side) (ss rest : List ℕ)
    → is_blank letter ≡ false → is_digit letter ≡ false → side_named (letter ∷ []) ≡ Some side
    → AllOn g ss → begins_with_digit rest ≡ false
    → Begins g (letter ∷ item_list q ss) rest (λ ws. IsList g ws side (map (placing q) ss))
list-begins g b q letter side [] rest blank digit named on none = record {
  front = (letter ∷ []) ∷ [];
  split =
      words-sign letter rest blank digit;
  holds = bare named;
}
list-begins g b q letter side (s ∷ ss) rest blank digit named on none =
    let items = items-begins g b q s ss rest on none in
    record {
      front = (letter ∷ []) ∷ items.front;
      split = words-sign letter (item_list q (s ∷ ss) ++ rest) blank digit ∙ ap (λ t. (letter ∷ []) ∷ t) items.split;
      holds = full named items.holds;
    }

-- ---- the pieces that the text names
kind-is : (o : Option Piece) → cond (is_king o) King Man ≡ kind_at o
kind-is None = refl
kind-is (Some piece) = elim piece.kind as (λ k. cond (cond (is_man k) false true) King Man
    ≡ k) [ Man ↦ refl | King ↦ refl ]

named-is : (q : Placement) (side : Side) (s : ℕ) → named side (placing q s) ≡ (s, piece_on side q s) ∷ []
named-is q side s =
    let one : s + 1 - s ≡ 1 = omega arith in
    ap (λ n. map (λ t. (t, record { side = side; kind = cond (is_king (at q s)) King Man })) (range_with_len s n)) one
    ∙ ap (λ k. (s, record { side = side; kind = k }) ∷ []) (kind-is (at q s))

all_named-is : (q : Placement) (side : Side) (ss : List ℕ) → all_named side (map (placing q) ss)
    ≡ map (λ s. (s, piece_on side q s)) ss
all_named-is q side [] = refl
all_named-is q side (s ∷ ss) = ap (λ l. l ++ all_named side (map (placing q) ss)) (named-is q side s)
    ∙ ap (λ l. (s, piece_on side q s) ∷ l) (all_named-is q side ss)

-- ---- the whole text
module _ (g : Geometry) (b : IsBoard g) (q : Placement) (pos : IsPosition g q.cells) where
  whole : (t : ℕ) (turn : Side) → is_blank t ≡ false → is_digit t ≡ false → side_named (t ∷ []) ≡ Some turn
      → q.turn ≡ turn
      → Names g (words (t ∷ 58 ∷ 87 ∷ ((items_text g q White ++ (58 ∷ 66 ∷ [])) ++ items_text g q Black))) q
  whole t turn blank digit mover is =
      let on = λ (side : Side). AllOn-filter g (λ s. is_of side (at q s)) (range_with_len 1 (squares g))
      (AllOn-range g (squares g) 1 (omega arith) (omega arith)) in
      let white = items_text g q White in
      let black = items_text g q Black in
      let behind = 58 ∷ 66 ∷ black in
      let first = list-begins g b q 87 White (squares_held g q White) behind refl refl refl (on White) refl in
      let second = list-begins g b q 66 Black (squares_held g q Black) [] refl refl refl (on Black) refl in
      let joined : (white ++ (58 ∷ 66 ∷ [])) ++ black ≡ white ++ behind = append_assoc white (58 ∷ 66 ∷ []) black in
      let second_words : words (66 ∷ black) ≡ second.front ++ [] = ap words (sym (append-nil (66 ∷ black)))
      ∙ second.split in
      let split : words (t ∷ 58 ∷ 87 ∷ ((white ++ (58 ∷ 66 ∷ [])) ++ black)) ≡ (t ∷ []) ∷ (58 ∷ [])
      ∷ (first.front ++ (58 ∷ []) ∷ (second.front ++ [])) =
      ap (λ l. words (t ∷ 58 ∷ 87 ∷ l)) joined
      ∙ (words-sign t (58 ∷ 87 ∷ (white ++ behind)) blank digit
      ∙ ap (λ l. (t ∷ []) ∷ l) (words-sign 58 (87 ∷ (white ++ behind)) refl refl
      ∙ ap (λ l. (58 ∷ []) ∷ l) (first.split ∙ ap (λ l. first.front ++ l) (words-sign 58 (66 ∷ black) refl refl
      ∙ ap (λ l. (58 ∷ []) ∷ l) second_words)))) in
      let sets : Sets g (empty turn) (all_named White (map (placing q) (squares_held g q White))
      ++ all_named Black (map (placing q) (squares_held g q Black))) q =
      subst (λ l. Sets g (empty turn) (l ++ all_named Black (map (placing q) (squares_held g q Black))) q)
      (sym (all_named-is q White (squares_held g q White)))
      (subst (λ l. Sets g (empty turn) (pieces_of White q (range_with_len 1 (squares g)) ++ l) q)
      (sym (all_named-is q Black (squares_held g q Black)))
      (subst (λ x. Sets g (empty x) (pieces_of White q (range_with_len 1 (squares g))
      ++ pieces_of Black q (range_with_len 1 (squares g))) q) is (sets_all g b q pos))) in
      subst (λ l. Names g l q) (sym split)
      (two_lists first.front (58 ∷ []) second.front [] turn White Black (map (placing q) (squares_held g q White))
      (map (placing q) (squares_held g q Black))
      mover refl first.holds refl second.holds refl (ends nothing) sets)

  by_turn : (turn : Side) → q.turn ≡ turn
      → Names g (words (side_text turn ++ codes ":W" ++ items_text g q White ++ codes ":B" ++ items_text g q Black)) q
  by_turn White is = whole 87 White refl refl refl is
  by_turn Black is = whole 66 Black refl refl refl is

  pub written_names : Names g (words (written g q)) q
  unfolding written
  written_names = by_turn q.turn refl

-- ---- its length
length-item : (q : Placement) (s : ℕ) → s ≤ 50 → length (item_text q s) ≤ 3
length-item q s low = omega (
  arith,
  length-append (king_mark (at q s)) (decimal s),
  mark (at q s),
  length-decimal-le 2 s (omega arith) (omega arith) (omega arith),
) where
  mark : (o : Option Piece) → length (king_mark o) ≤ 1
  mark None = omega arith
  mark (Some piece) = elim piece.kind as (λ k. length (cond (is_man k) [] (codes "K")) ≤ 1) [
    | Man ↦ omega arith
    | King ↦
        omega arith
  ]

length-item_list : (g : Geometry) → IsBoard g → (q : Placement) (ss : List ℕ) → AllOn g ss → length (item_list q ss)
    ≤ 4 * length ss
length-item_list g b q [] on = omega arith
length-item_list g b q (s ∷ []) on = omega (arith, length-item q s (omega (arith, on.0.1, b.squares_high)))
length-item_list g b q (s ∷ x ∷ ss) on =
    omega (
      arith,
      length-append (item_text q s) (44 ∷ item_list q (x ∷ ss)),
      length-item q s (omega (arith, on.0.1, b.squares_high)),
      length-item_list g b q (x ∷ ss) on.1,
    )

length-side_text : (side : Side) → length (side_text side) ≡ 1
length-side_text White = refl
length-side_text Black = refl

pub length-written : (g : Geometry) → IsBoard g → (q : Placement) → IsPosition g q.cells → length (written g q) ≤ 1024
unfolding written
length-written g b q pos =
    let on = λ (side : Side). AllOn-filter g (λ s. is_of side (at q s)) (range_with_len 1 (squares g))
    (AllOn-range g (squares g) 1 (omega arith) (omega arith)) in
    let items = λ (side : Side). length-item_list g b q (squares_held g q side) (on side) in
    let few = λ (side : Side). held-few g b q pos side (squares g) (omega arith) in
    let turn = side_text q.turn in
    let white = items_text g q White in
    let black = items_text g q Black in
    omega (
      arith,
      items White,
      items Black,
      few White,
      few Black,
      length-side_text q.turn,
      length-append turn (codes ":W"),
      length-append (turn ++ codes ":W") white,
      length-append (turn ++ codes ":W" ++ white) (codes ":B"),
      length-append (turn ++ codes ":W" ++ white ++ codes ":B") black,
    )
