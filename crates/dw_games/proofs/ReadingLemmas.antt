-- What a reader holds after each kind of token.
use Rattle.std.proofs.Common.{◌≡◌, ℕ, suc, ◌+◌, ◌<◌, true, false, List, [], ◌∷◌, ◌++◌, length, Option, Some}
use Rattle.std.proofs.Common.{None, inl, inr, refl, sym, ap, subst, ◌∙◌, arith, append_assoc, append-nil, length-append}
use Rattle.std.specs.Prelude.{◌==◌}
use Rattle.std.proofs.lemmas.Bool.{cases_Bool, eqb-true}
use Rattle.dw_board.specs.Geometry.{Geometry}
use Rattle.dw_board.specs.Placement.{Placement}
use Rattle.dw_moves.specs.Moves.{Move, play}
use Rattle.dw_games.specs.Tokens.{Token}
use Rattle.dw_games.specs.Play.{IsPassed, after}
use Rattle.dw_games.specs.Printed.{Kind, variation, reply, Line, begins, goes_on, first_line, IsLine, empty}
use Rattle.dw_games.specs.Printed.{passed, aside, IsPlay, answer_of, count_moves}
use Rattle.dw_games.specs.Movetext.{AreDistinct, again, first}
use Rattle.dw_games.specs.Faults.{IsOpen}
use Rattle.dw_games.specs.Faults as faults
use Rattle.dw_games.specs.Walk.{place_of, beginning_at}
use Rattle.dw_games.specs.inner.Noting.{IsNoted}
use Rattle.dw_games.specs.inner.Reading.{IsCursor, IsBefore, IsAfter, IsBegun, IsGoing, IsOpenLine, line_after}
use Rattle.dw_games.specs.inner.Reading.{answer_after, Opened, outermost, inner}
use Rattle.dw_games.specs.declared.tokens.TokenKind.TheVariants.{Opens, Closes}
use Rattle.dw_games.specs.declared.movetext.TheConstants.{MAX_OPEN}
use Rattle.dw_games.specs.declared.reader.Cursor.{Cursor}
use Rattle.dw_games.specs.declared.reader.OpenLine.{OpenLine}
use Rattle.dw_games.proofs.PlaceLemmas.{got_old, absent}
use Rattle.dw_games.proofs.PathLemmas.{last_same, filled}
use Rattle.dw_games.proofs.PrintedLemmas.{IsShort, moves_short, front_short, short, IsInside, inside, IsCounted}
use Rattle.dw_games.proofs.PrintedLemmas.{counted}
use Rattle.dw_games.proofs.PrintedLemmas.{counted_more, counted_aside, none_passed}

pub after_append : (g : Geometry) (p : Placement) (moves : List Move) (m : Move)
    → after g p (moves ++ m ∷ []) ≡ play g (after g p moves) m
after_append g p [] m = refl
after_append g p (x ∷ moves) m = after_append g (play g p x) moves m

-- ---- numbers of tokens
no_one : {A : Type 0} (a b : ℕ) → 0 < a → 0 < b → (a + b == 1) ≡ true → A
no_one a b low some is = let e = eqb-true (a + b) 1 is in absurd (omega (arith, e, low, some))

more_than_one : (a b : ℕ) → 0 < a → 0 < b → (a + b == 1) ≡ false
more_than_one a b low some = elim (cases_Bool (a + b == 1)) [
  | inl is ↦ absurd (no_one a b low some is)
  | inr other ↦ other
]

module _ {B : Type 0} (g : Geometry) (p : Placement) (tree : List (List Move)) where
  -- the innermost line, by the grammar of faults
  pub opened_open : {room : ℕ} {ts : List Token} {now : OpenLine B} {outer : List (OpenLine B)} {line : Line}
      {paths : List (List Move)} → Opened g p tree room ts now outer line paths → IsOpen g p room ts line
  opened_open (outermost v l) = faults.outermost v
  opened_open (inner moves last opening o e v l s) = faults.inner moves last opening (opened_open o) e v

  pub opened_line : {room : ℕ} {ts : List Token} {now : OpenLine B} {outer : List (OpenLine B)} {line : Line}
      {paths : List (List Move)} → Opened g p tree room ts now outer line paths → IsOpenLine g p tree now line
  opened_line (outermost v l) = l
  opened_line (inner moves last opening o e v l s) = l

  -- as many more may be open as are not
  pub opened_room : {room : ℕ} {ts : List Token} {now : OpenLine B} {outer : List (OpenLine B)} {line : Line}
      {paths : List (List Move)} → Opened g p tree room ts now outer line paths → room + length outer ≡ MAX_OPEN
  opened_room (outermost v l) = refl
  opened_room (inner {around = around} {outer = outer} moves last opening o e v l s) =
      let h = opened_room o in omega (arith, h, length-append outer (around ∷ []))

  -- no path is too long
  pub opened_short : {room : ℕ} {ts : List Token} {now : OpenLine B} {outer : List (OpenLine B)} {line : Line}
      {paths : List (List Move)} → Opened g p tree room ts now outer line paths → IsShort line
  opened_short (outermost v l) = short g p v (omega arith)
  opened_short (inner {kind = kind} {before = before} {answer = a} moves last opening o e v l s) =
      short g p v (front_short before moves last (moves_short kind before (moves ++ last ∷ []) a (opened_short o)))

  -- the innermost line goes on
  pub line_on : {room : ℕ} {ts : List Token} {now : OpenLine B} {outer : List (OpenLine B)} {line : Line}
      {paths : List (List Move)} (next : OpenLine B) (more : List Token) (there : Line) (others : List (List Move))
      → Opened g p tree room ts now outer line paths
      → ((start : Line) (us : List Token) (ps : List (List Move)) → IsLine g p room start us line ps
      → IsLine g p room start (us ++ more) there (ps ++ others))
      → IsOpenLine g p tree next there
      → ((us : List Token) → IsCounted line (count_moves us) → now.is_single ≡ (count_moves us == 1)
      → next.is_single ≡ (count_moves (us ++ more) == 1))
      → Opened g p tree room (ts ++ more) next outer there (paths ++ others)
  line_on next more there others (outermost {ts = ts} {paths = paths} v l) f line single =
      outermost (f first_line ts paths v) line
  line_on next more there others (inner {ts = ts} {us = us} {before = before} {paths = paths} {more = ps} moves last
      opening o e v l s) f line single =
      rw (append_assoc, append_assoc) (inner moves last opening o e (f (begins (before ++ moves) last) us ps v) line
      (single us (counted g p v refl) s))

  -- ---- a thing that is passed over
  pub read_passed : {room : ℕ} {ts : List Token} {now : OpenLine B} {outer : List (OpenLine B)} {line : Line}
      {paths : List (List Move)} (t : Token) → Opened g p tree room ts now outer line paths → IsPassed t.what
      → Opened g p tree room (ts ++ t ∷ []) now outer line paths
  read_passed {room = room} {ts = ts} {now = now} {outer = outer} {line = line} {paths = paths} t o is =
      subst (λ x. Opened g p tree room (ts ++ t ∷ []) now outer line x) (append-nil paths)
      (line_on now (t ∷ []) line [] o
      (λ start us ps v. subst (λ x. IsLine g p room start (us ++ t ∷ []) line x) (sym (append-nil ps)) (passed t v is))
      (opened_line o)
      (λ us many single.
      let same_count : count_moves (us ++ t ∷ []) ≡ count_moves us =
      omega (arith, counted_more us t 0 (none_passed t.what is)) in
      single ∙ ap (λ n. n == 1) (sym same_count)))

  -- ---- where parentheses begin
  abbrev pub parenthesis : Cursor B → OpenLine B → OpenLine B
  parenthesis cursor now = record {
    now = cursor;
    before = None;
    behind = Some now.now;
    answer = None;
    is_reply = false;
    is_single = false;
  }

  begun_none : {A : Type 0} (now : OpenLine B) (front : List Move) (last : Move) (cursor : Cursor B)
      → IsBegun g p tree now front last → now.before ≡ Some cursor → A
  begun_none now front last cursor h e = absent cursor (sym h.none ∙ e)

  pub read_opens : {R : ℕ} {ts : List Token} {now : OpenLine B} {outer : List (OpenLine B)} {paths : List (List Move)}
      (room : ℕ) (line : Line) (t : Token) (cursor : Cursor B) → Opened g p tree R ts now outer line paths
      → R ≡ suc room
      → t.what ≡ Opens → now.before ≡ Some cursor
      → (next : Line) × Opened g p tree room (ts ++ t ∷ []) (parenthesis cursor now) (outer ++ now ∷ []) next paths
  read_opens {now = now} room (begins front last) t cursor o r e is =
      begun_none now front last cursor (opened_line o) is
  read_opens {ts = ts} {now = now} {outer = outer} {paths = paths} room (goes_on kind before moves answer) t cursor o r
      e is =
      let l = opened_line o in
      let early : IsBefore g p tree (Some cursor) before moves =
      subst (λ x. IsBefore g p tree x before moves) is l.earlier in
      let around : Opened g p tree (suc room) ts now outer (goes_on kind before (early.0 ++ early.1 ∷ []) answer) paths
      =
      subst (λ x. Opened g p tree (suc room) ts now outer (goes_on kind before x answer) paths) early.2
      (subst (λ x. Opened g p tree x ts now outer (goes_on kind before moves answer) paths) r o) in
      let whole : before ++ moves ≡ (before ++ early.0) ++ early.1 ∷ [] =
      ap (λ z. before ++ z) early.2 ∙ sym (append_assoc before early.0 (early.1 ∷ [])) in (
        begins (before ++ early.0) early.1,
        subst (λ x. Opened g p tree room (ts ++ t ∷ []) (parenthesis cursor now) (outer ++ now ∷ [])
            (begins (before ++ early.0) early.1) x) (append-nil paths) (inner early.0 early.1 t around e empty (record {
              now = early.3;
              none = refl;
              after = now.now;
              behind = refl;
              there = subst (λ x. IsCursor g p tree now.now x) whole l.now;
            }) refl),
      )

  -- ---- where they end
  after_is : (around now : OpenLine B) (kind own : Kind) (before moves start others : List Move) (last : Move)
      (answer a : Option (List Move)) (many : ℕ)
      → IsGoing g p tree around kind before (moves ++ last ∷ []) answer
      → IsGoing g p tree now own start others a → IsInside (before ++ moves) last (goes_on own start others a)
      → now.is_single ≡ (many == 1)
      → IsAfter g p tree (answer_after around now) before (moves ++ last ∷ [])
      (answer_of (goes_on own start others a) many answer)
  after_is around now kind variation before moves start others last answer a many l k i single = rw k.told l.answered
  after_is around now kind reply before moves start others last answer a many l k i single =
      let own : List Move = moves ++ last ∷ [] in
      let all : start ++ others ≡ before ++ (own ++ others) =
      ap (λ z. z ++ others) (i.0 ∙ append_assoc before moves (last ∷ [])) ∙ append_assoc before own others in
      elim (cases_Bool (many == 1)) [
        | inl one ↦ rw (k.told, single, one) (subst (λ x. IsCursor g p tree now.now x) all k.now)
        | inr other ↦ rw (k.told, single, other) tt
      ]

  line_is : (around now : OpenLine B) (kind : Kind) (before moves : List Move) (last : Move)
      (answer : Option (List Move)) (line : Line) (many : ℕ)
      → IsGoing g p tree around kind before (moves ++ last ∷ []) answer → IsOpenLine g p tree now line
      → IsInside (before ++ moves) last line → now.is_single ≡ (many == 1)
      → IsGoing g p tree (line_after around now) kind before (moves ++ last ∷ []) (answer_of line many answer)
  line_is around now kind before moves last answer (begins front end) many l k i single = rw k.behind l
  line_is around now kind before moves last answer (goes_on own start others a) many l k i single =
      rw k.behind (record {
        now = l.now;
        earlier = l.earlier;
        behind = l.behind;
        answered = after_is around now kind own before moves start others last answer a many l k i single;
        told = l.told;
      })

  single_is : (around now : OpenLine B) (line : Line) (a b : ℕ) → IsOpenLine g p tree now line → IsCounted line b
      → 0 < a → around.is_single ≡ (a == 1) → (line_after around now).is_single ≡ (a + b == 1)
  single_is around now (begins front last) a b k none some single =
      rw k.behind (single ∙ ap (λ n. n == 1) (omega (arith, none)))
  single_is around now (goes_on kind before moves answer) a b k other some single =
      rw k.behind (sym (more_than_one a b some other))

  pub read_closes : {room : ℕ} {ts : List Token} {now : OpenLine B} {outer : List (OpenLine B)} {line : Line}
      {paths : List (List Move)} (t : Token) (lines : List (OpenLine B)) (around : OpenLine B)
      → Opened g p tree room ts now outer line paths → outer ≡ lines ++ around ∷ [] → t.what ≡ Closes
      → (next : Line) × Opened g p tree (suc room) (ts ++ t ∷ []) (line_after around now) lines next paths
  read_closes t lines around (outermost v l) e c = filled lines around e
  read_closes {room = room} {now = now} t lines around (inner {ts = ts} {us = us} {around = last_line} {outer = outer}
      {kind = kind} {before = before} {answer = answer} {line = line} {paths = paths} {more = more} moves last opening o
      is v l s) e c =
      let both = last_same outer lines last_line around e in
      let there : Line = goes_on kind before (moves ++ last ∷ []) (answer_of line (count_moves us) answer) in
      let whole : Opened g p tree (suc room) (ts ++ opening ∷ (us ++ t ∷ [])) (line_after last_line now) outer there
      (paths ++ more) =
      line_on (line_after last_line now) (opening ∷ (us ++ t ∷ [])) there more o
      (λ start vs ps w. aside moves last opening t w is v c)
      (line_is last_line now kind before moves last answer line (count_moves us) (opened_line o) l
      (inside g p (before ++ moves) last v (refl, refl)) s)
      (λ vs many single.
      single_is last_line now line (count_moves vs) (count_moves us) l (counted g p v refl) many single
      ∙ ap (λ n. n == 1) (sym (counted_aside vs us opening t is c))) in
      (there, rw (append_assoc, ← both.0, ← both.1) whole)

  -- no parenthesis is open
  pub none_around : {room : ℕ} {ts : List Token} {now : OpenLine B} {outer : List (OpenLine B)} {line : Line}
      {paths : List (List Move)} → Opened g p tree room ts now outer line paths → outer ≡ [] → IsPlay g p ts paths
  none_around (outermost {line = line} v l) e = (line, v)
  none_around (inner {around = around} {outer = outer} moves last opening o is v l s) e = filled outer around (sym e)

-- ---- moves
-- a path that stands in a tree stands in it when it has grown
pub beginning_kept : (tree more : List (List Move)) (n : Option ℕ) (b : List Move) → beginning_at tree n ≡ Some b
    → beginning_at (tree ++ more) n ≡ Some b
beginning_kept tree more None b e = e
beginning_kept tree more (Some n) b e = got_old tree more b n e

pub noted_kept : (tree now : List (List Move)) (path : List Move) → IsNoted tree path now → (n : Option ℕ)
    (b : List Move) → beginning_at tree n ≡ Some b → beginning_at now n ≡ Some b
noted_kept tree now path (inl h) n b e = subst (λ x. beginning_at x n ≡ Some b) (sym h.1) e
noted_kept tree now path (inr h) n b e =
    subst (λ x. beginning_at x n ≡ Some b) (sym h.1) (beginning_kept tree (path ∷ []) n b e)

module _ {B : Type 0} (g : Geometry) (p : Placement) (tree next : List (List Move))
    (kept : (n : Option ℕ) (b : List Move) → beginning_at tree n ≡ Some b → beginning_at next n ≡ Some b) where
  pub cursor_kept : (cursor : Cursor B) (path : List Move) → IsCursor g p tree cursor path
      → IsCursor g p next cursor path
  cursor_kept cursor path h = record {
    there = kept (place_of cursor.node) path h.there;
    position = h.position;
    many = h.many;
  }

  before_kept : (cursor : Option (Cursor B)) (before moves : List Move) → IsBefore g p tree cursor before moves
      → IsBefore g p next cursor before moves
  before_kept None before moves h = h
  before_kept (Some cursor) before moves h = (h.0, h.1, h.2, cursor_kept cursor (before ++ h.0) h.3)

  after_kept : (cursor : Option (Cursor B)) (before moves : List Move) (answer : Option (List Move))
      → IsAfter g p tree cursor before moves answer → IsAfter g p next cursor before moves answer
  after_kept None before moves None h = h
  after_kept (Some cursor) before moves (Some answer) h = cursor_kept cursor (before ++ (moves ++ answer)) h
  after_kept None before moves (Some answer) h = absurd h
  after_kept (Some cursor) before moves None h = absurd h

  line_kept : (now : OpenLine B) (line : Line) → IsOpenLine g p tree now line → IsOpenLine g p next now line
  line_kept now (begins front last) h = record {
    now = cursor_kept now.now front h.now;
    none = h.none;
    after = h.after;
    behind = h.behind;
    there = cursor_kept h.after (front ++ last ∷ []) h.there;
  }
  line_kept now (goes_on kind before moves answer) h = record {
    now = cursor_kept now.now (before ++ moves) h.now;
    earlier = before_kept now.before before moves h.earlier;
    behind = h.behind;
    answered = after_kept now.answer before moves answer h.answered;
    told = h.told;
  }

  pub opened_kept : {room : ℕ} {ts : List Token} {now : OpenLine B} {outer : List (OpenLine B)} {line : Line}
      {paths : List (List Move)} → Opened g p tree room ts now outer line paths
      → Opened g p next room ts now outer line paths
  opened_kept {now = now} {line = line} (outermost v l) = outermost v (line_kept now line l)
  opened_kept {now = now} {line = line} (inner moves last opening o e v l s) =
      inner moves last opening (opened_kept o) e v (line_kept now line l) s

-- a path is noted
pub distinct_noted : (paths tree now : List (List Move)) (path : List Move) → AreDistinct paths tree
    → IsNoted tree path now → AreDistinct (paths ++ path ∷ []) now
distinct_noted paths tree now path d (inl h) = subst (λ x. AreDistinct (paths ++ path ∷ []) x) (sym h.1) (again path d
    h.0)
distinct_noted paths tree now path d (inr h) = subst (λ x. AreDistinct (paths ++ path ∷ []) x) (sym h.1) (first path d
    h.0)
