-- Lines and the parentheses in them.
use Rattle.std.proofs.Common.{◌≡◌, ℕ, ◌+◌, ◌<◌, ◌≤◌, List, [], ◌∷◌, ◌++◌, length, Option}
use Rattle.std.proofs.Common.{Some, None, refl, sym, ap, subst, ◌∙◌, arith, append_assoc, length-append, zero-add}
use Rattle.std.proofs.Common.{inl, inr}
use Rattle.std.specs.Prelude.{◌==◌, ◌%◌}
use Rattle.std.proofs.Math.Nat.{eq-or-lt_of_le}
use Rattle.std.proofs.lemmas.Bool.{cases_Bool}
use Rattle.dw_board.specs.Geometry.{Geometry}
use Rattle.dw_board.specs.Placement.{Placement}
use Rattle.dw_moves.specs.Moves.{Move}
use Rattle.dw_games.specs.Tokens.{Token}
use Rattle.dw_games.specs.Play.{StandsFor, named, left_out, HasForm, IsMove, IsPassed, IsRefusedAfter, no_such_move}
use Rattle.dw_games.specs.Play.{ambiguous, ambiguous_after_reply, no_reply, too_long}
use Rattle.dw_games.specs.Printed.{Kind, variation, reply, Line, begins, goes_on, Follows, opens_variation, opens_reply}
use Rattle.dw_games.specs.Printed.{alone, by_play, after_reply, left_out_again, one_if_move, count_moves, answer_of}
use Rattle.dw_games.specs.Printed.{IsLine, empty, passed, move, aside}
use Rattle.dw_games.specs.declared.tokens.TokenKind.{TokenKind}
use Rattle.dw_games.specs.declared.tokens.TokenKind.TheVariants.{Written, Opens, Closes}
use Rattle.dw_games.specs.declared.fault.MovetextFaultKind.{MovetextFaultKind}
use Rattle.dw_games.specs.declared.movetext.TheConstants.{MAX_PATH}

-- ---- what a token stands for
module _ (g : Geometry) (p : Placement) where
  pub move_form : (q : Placement) (t : Token) (m : Move) → IsMove g q t m → HasForm g t
  move_form q t m is = record {
    written = is.written;
    no_result = is.no_result;
    named = is.named.named;
    form = is.named.names;
  }

  pub stands_form : {path more : List Move} {t : Token} → StandsFor g p path t more → HasForm g t
  stands_form {t = t} (named {m = m} low is) = move_form _ t m is
  stands_form {t = t} (left_out {m = m} low odd is) = move_form _ t m is.next

  pub refused_form : {path : List Move} {t : Token} {what : MovetextFaultKind} → IsRefusedAfter g p path t what
      → HasForm g t
  refused_form (no_such_move low is none) = is.form
  refused_form (ambiguous low is) = is.form
  refused_form (ambiguous_after_reply r low odd is only several) = is.form
  refused_form (no_reply r low odd is two legal named_) = is.form
  refused_form (too_long high form) = form

  pub stands_some : {path more : List Move} {t : Token} → StandsFor g p path t more → 0 < length more
  stands_some (named low is) = omega arith
  stands_some (left_out low odd is) = omega arith

  pub follows_form : {line : Line} {t : Token} {kind : Kind} {before moves more : List Move}
      → Follows g p line t kind before moves more → HasForm g t
  follows_form {t = t} (opens_variation {m = m} is) = move_form _ t m is
  follows_form (opens_reply none is) = stands_form is
  follows_form (alone is) = stands_form is
  follows_form {t = t} (by_play {m = m} low is) = move_form _ t m is
  follows_form (after_reply none is) = stands_form is
  follows_form {t = t} (left_out_again {m = m} none low odd is) = move_form _ t m is.next

-- ---- no path is too long
below : (n : ℕ) → n < MAX_PATH → n ≤ 38
below n low = omega (arith, low)

even_number : 38 % 2 ≡ 1 → ⊥
even_number h = omega (arith, h)

-- after an odd number of moves there is room for two more, if there is for one
pub odd_room : (n : ℕ) → n < MAX_PATH → n % 2 ≡ 1 → n + 1 < MAX_PATH
odd_room n low odd = elim (eq-or-lt_of_le (below n low)) [
  | inl is ↦ absurd (even_number (subst (λ k. k % 2 ≡ 1) is odd))
  | inr lt ↦ omega (arith, lt)
]

-- the moves of a line, and those of the reply after it, are not too many
abbrev pub IsShort : Line → Type 0
IsShort (begins front last) = length front < MAX_PATH
IsShort (goes_on kind before moves None) = length (before ++ moves) ≤ MAX_PATH
IsShort (goes_on kind before moves (Some answer)) =
    (length (before ++ moves) < MAX_PATH) × (length (before ++ (moves ++ answer)) ≤ MAX_PATH)

pub moves_short : (kind : Kind) (before moves : List Move) (answer : Option (List Move))
    → IsShort (goes_on kind before moves answer) → length (before ++ moves) ≤ MAX_PATH
moves_short kind before moves None h = h
moves_short kind before moves (Some answer) h = omega (arith, h.0)

pub front_short : (before moves : List Move) (last : Move) → length (before ++ (moves ++ last ∷ [])) ≤ MAX_PATH
    → length (before ++ moves) < MAX_PATH
front_short before moves last h =
    omega (
      arith,
      h,
      length-append before (moves ++ last ∷ []),
      length-append before moves,
      length-append moves (last ∷ []),
    )

module _ (g : Geometry) (p : Placement) where
  stands_short : {path more : List Move} {t : Token} → StandsFor g p path t more → length (path ++ more) ≤ MAX_PATH
  stands_short {path = path} (named {m = m} low is) = omega (arith, low, length-append path (m ∷ []))
  stands_short {path = path} (left_out {reply = r} {m = m} low odd is) =
      let room = odd_room (length path) low odd in omega (arith, room, length-append path (r ∷ m ∷ []))

  joined_short : (before moves more : List Move) → length ((before ++ moves) ++ more) ≤ MAX_PATH
      → length (before ++ (moves ++ more)) ≤ MAX_PATH
  joined_short before moves more h =
      subst (λ z. length z ≤ MAX_PATH) (append_assoc before moves more) h

  follows_short : {line : Line} {t : Token} {kind : Kind} {before moves more : List Move}
      → Follows g p line t kind before moves more → IsShort line → length (before ++ (moves ++ more)) ≤ MAX_PATH
  follows_short (opens_variation {front = front} {m = m} is) h = omega (arith, h, length-append front (m ∷ []))
  follows_short (opens_reply none is) h = stands_short is
  follows_short {before = before} {moves = moves} {more = more} (alone is) h =
      joined_short before moves more (stands_short is)
  follows_short {before = before} {moves = moves} (by_play {m = m} low is) h =
      joined_short before moves (m ∷ []) (omega (arith, low, length-append (before ++ moves) (m ∷ [])))
  follows_short {before = before} {moves = moves} {more = more} (after_reply none is) h =
      joined_short before moves more (stands_short is)
  follows_short {t = t} {before = before} {moves = moves} (left_out_again {only = r} {m = m} none low odd is) h =
      joined_short before moves (r ∷ m ∷ []) (stands_short {t = t} (left_out low odd is))

-- ---- a line in parentheses
-- it begins before the move that the parentheses follow, or after it
abbrev pub IsInside : List Move → Move → Line → Type 0
IsInside front last (begins start end) = (start ≡ front) × (end ≡ last)
IsInside front last (goes_on variation before moves answer) = (before ≡ front) × (0 < length moves)
IsInside front last (goes_on reply before moves answer) = (before ≡ front ++ last ∷ []) × (0 < length moves)

inside_longer : (front : List Move) (last : Move) (kind : Kind) (before moves more : List Move)
    (answer other : Option (List Move)) → IsInside front last (goes_on kind before moves answer)
    → IsInside front last (goes_on kind before (moves ++ more) other)
inside_longer front last variation before moves more answer other h =
    (h.0, omega (arith, h.1, length-append moves more))
inside_longer front last reply before moves more answer other h =
    (h.0, omega (arith, h.1, length-append moves more))

inside_again : (front : List Move) (last : Move) (kind : Kind) (before moves : List Move)
    (answer other : Option (List Move)) → IsInside front last (goes_on kind before moves answer)
    → IsInside front last (goes_on kind before moves other)
inside_again front last variation before moves answer other h = h
inside_again front last reply before moves answer other h = h

module _ (g : Geometry) (p : Placement) (front : List Move) (last : Move) where
  inside_follows : {line : Line} {t : Token} {kind : Kind} {before moves more : List Move}
      → Follows g p line t kind before moves more → IsInside front last line
      → IsInside front last (goes_on kind before (moves ++ more) None)
  inside_follows (opens_variation is) h = (h.0, omega arith)
  inside_follows {more = more} (opens_reply {front = start} {last = end} none is) h = (
    ap (λ z. z ++ end ∷ []) h.0 ∙ ap (λ z. front ++ z ∷ []) h.1,
    stands_some g p is,
  )
  inside_follows {kind = kind} {before = before} {moves = moves} {more = more} (alone is) h =
      inside_longer front last kind before moves more None None h
  inside_follows {kind = kind} {before = before} {moves = moves} {more = more} (by_play {answer = a} low is) h =
      inside_longer front last kind before moves more (Some a) None h
  inside_follows {more = more} (after_reply {kind = kind} {before = before} {moves = moves} {answer = a} none is) h =
      inside_longer front last kind before (moves ++ a) more None None
      (inside_longer front last kind before moves a (Some a) None h)
  inside_follows {kind = kind} {before = before} {moves = moves} {more = more} (left_out_again {answer = a} none low odd
      is) h = inside_longer front last kind before moves more (Some a) None h

  pub inside : {room : ℕ} {start line : Line} {ts : List Token} {paths : List (List Move)}
      → IsLine g p room start ts line paths → IsInside front last start → IsInside front last line
  inside empty h = h
  inside (passed t v is) h = inside v h
  inside (move v follows) h = inside_follows follows (inside v h)
  inside (aside {inner = inner} {us = us} {kind = kind} {before = before} {answer = a} moves end opening closing v o w
      c) h =
      inside_again front last kind before (moves ++ end ∷ []) a (answer_of inner (count_moves us) a) (inside v h)

-- ---- the length of a line
answer_short : (kind : Kind) (before moves : List Move) (last : Move) (inner : Line) (many : ℕ)
    (answer : Option (List Move)) → IsShort (goes_on kind before (moves ++ last ∷ []) answer) → IsShort inner
    → IsInside (before ++ moves) last inner
    → IsShort (goes_on kind before (moves ++ last ∷ []) (answer_of inner many answer))
answer_short kind before moves last (begins front end) many answer h k i = h
answer_short kind before moves last (goes_on variation start own a) many answer h k i = h
answer_short kind before moves last (goes_on reply start own a) many answer h k i =
    let now : List Move = moves ++ last ∷ [] in
    let all : start ++ own ≡ before ++ (now ++ own) =
    ap (λ z. z ++ own) (i.0 ∙ append_assoc before moves (last ∷ [])) ∙ append_assoc before now own in
    let low = moves_short reply start own a k in
    elim (cases_Bool (many == 1)) [
      | inl one ↦ rw one (
        omega (
          arith,
          low,
          i.1,
          ap length all,
          length-append before (now ++ own),
          length-append before now,
          length-append now own,
        ),
        subst (λ z. length z ≤ MAX_PATH) all low,
      )
      | inr other ↦ rw other (moves_short kind before now answer h)
    ]

module _ (g : Geometry) (p : Placement) where
  pub short : {room : ℕ} {start line : Line} {ts : List Token} {paths : List (List Move)}
      → IsLine g p room start ts line paths → IsShort start → IsShort line
  short empty h = h
  short (passed t v is) h = short v h
  short (move v follows) h = follows_short g p follows (short v h)
  short (aside {inner = inner} {us = us} {kind = kind} {before = before} {answer = a} moves last opening closing v o w
      c) h =
      let around = short v h in
      let low = front_short before moves last (moves_short kind before (moves ++ last ∷ []) a around) in
      answer_short kind before moves last inner (count_moves us) a around (short w low)
      (inside g p (before ++ moves) last w (refl, refl))

-- ---- how many tokens are moves
pub count_append : (ts us : List Token) → count_moves (ts ++ us) ≡ count_moves ts + count_moves us
count_append [] us = sym (zero-add (count_moves us))
count_append (t ∷ ts) us = omega (arith, count_append ts us)

pub one_written : (what : TokenKind) → what ≡ Written → one_if_move what ≡ 1
one_written what is = ap one_if_move is

pub none_passed : (what : TokenKind) → IsPassed what → one_if_move what ≡ 0
none_passed what (inl is) = ap one_if_move is
none_passed what (inr is) = ap one_if_move is

pub none_opens : (what : TokenKind) → what ≡ Opens → one_if_move what ≡ 0
none_opens what is = ap one_if_move is

pub none_closes : (what : TokenKind) → what ≡ Closes → one_if_move what ≡ 0
none_closes what is = ap one_if_move is

-- a line in parentheses has no move exactly until a token is one
abbrev pub IsCounted : Line → ℕ → Type 0
IsCounted (begins front last) many = many ≡ 0
IsCounted (goes_on kind before moves answer) many = 0 < many

pub counted_more : (ts : List Token) (t : Token) (n : ℕ) → one_if_move t.what ≡ n
    → count_moves (ts ++ t ∷ []) ≡ count_moves ts + n
counted_more ts t n is = omega (arith, count_append ts (t ∷ []), is)

pub counted_aside : (ts us : List Token) (opening closing : Token) → opening.what ≡ Opens → closing.what ≡ Closes
    → count_moves (ts ++ opening ∷ (us ++ closing ∷ [])) ≡ count_moves ts + count_moves us
counted_aside ts us opening closing o c =
    omega (
      arith,
      count_append ts (opening ∷ (us ++ closing ∷ [])),
      count_append us (closing ∷ []),
      none_opens opening.what o,
      none_closes closing.what c,
    )

module _ (g : Geometry) (p : Placement) where
  pub counted : {room : ℕ} {start line : Line} {ts : List Token} {paths : List (List Move)}
      → IsLine g p room start ts line paths → IsCounted start 0 → IsCounted line (count_moves ts)
  counted empty h = h
  counted (passed {line = line} {ts = ts} t v is) h =
      let same : count_moves (ts ++ t ∷ []) ≡ count_moves ts =
      omega (arith, counted_more ts t 0 (none_passed t.what is)) in
      subst (λ n. IsCounted line n) (sym same) (counted v h)
  counted (move {ts = ts} {t = t} v follows) h =
      omega (arith, counted_more ts t 1 (one_written t.what (follows_form g p follows).written))
  counted (aside {ts = ts} {us = us} moves last opening closing v o w c) h =
      let some = counted v h in omega (arith, some, counted_aside ts us opening closing o c)
