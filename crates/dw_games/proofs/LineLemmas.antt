-- Reading a written line: no parenthesis is open, and the tree holds the beginnings of its moves, in turn.
use Rattle.std.proofs.Common.{◌≡◌, ◌≢◌, ◌⊎◌, ℕ, zero, suc, ◌+◌, ◌≤◌, true, List, [], ◌∷◌, ◌++◌, length, Some, None}
use Rattle.std.proofs.Common.{refl, sym, ap, subst, ◌∙◌, arith, append_assoc, append-nil, length-append, inl, inr}
use Rattle.std.proofs.Common.{Result, Ok, Err}
use Rattle.std.specs.List.{slice_get}
use Rattle.std.specs.Prelude.{◌%◌, MatchResult}
use Rattle.dw_board.specs.Geometry.{Geometry}
use Rattle.dw_board.specs.Placement.{Placement}
use Rattle.dw_board.specs.Lists.{Member}
use Rattle.dw_moves.specs.Moves.{Move}
use Rattle.dw_games.specs.Tokens.{Token, AreTokens}
use Rattle.dw_games.specs.Play.{IsResult, beginnings_after}
use Rattle.dw_games.specs.Printed.{Kind, variation, Line, begins, goes_on, first_line, Follows, opens_variation}
use Rattle.dw_games.specs.Printed.{opens_reply, alone, by_play, after_reply, left_out_again, IsLine, empty, passed}
use Rattle.dw_games.specs.Printed.{move, aside, AreComments}
use Rattle.dw_games.specs.Movetext.{AreDistinct, nothing, again, first}
use Rattle.dw_games.specs.Faults.{cut_off, behind_result}
use Rattle.dw_games.specs.Lines.{IsStraight, IsPlainGame, going_on, ended, IsWrittenLine, line_fault_of, other}
use Rattle.dw_games.specs.Lines.{IsFirstLineFault, at_token, no_move, even, IsLineRefusal}
use Rattle.dw_games.specs.inner.Ahead.{AreAhead}
use Rattle.dw_games.specs.inner.Reading.{Opened, outermost, inner, IsFaultOf, ReadOn, IsOdd}
use Rattle.dw_games.specs.inner.LineReading.{NoneOpens, HasReadLine, LineHasEnded, IsNoOddNumber}
use Rattle.dw_games.specs.declared.tokens.Tokens.{Tokens}
use Rattle.dw_games.specs.declared.tokens.TokenKind.TheVariants.{Opens}
use Rattle.dw_games.specs.declared.movetext.TheConstants.{MAX_MOVETEXT, MAX_PATH}
use Rattle.dw_games.specs.declared.fault.MovetextFault.{MovetextFault}
use Rattle.dw_games.specs.declared.fault.MovetextFault.TheVariants.{Refused, Memory}
use Rattle.dw_games.specs.declared.fault.LineFault.{LineFault}
use Rattle.dw_games.specs.declared.fault.LineFaultKind.TheVariants.{Movetext}
use Rattle.dw_games.specs.declared.reader.OpenLine.{OpenLine}
use Rattle.dw_games.specs.declared.reader.Reader.{Reader}
use Rattle.dw_games.proofs.PlaceLemmas.{absent, same}
use Rattle.dw_games.proofs.PathLemmas.{filled, last_same}
use Rattle.dw_games.proofs.PrintedLemmas.{IsShort}
use Rattle.dw_games.proofs.ReadingLemmas.{opened_short}
use Rattle.dw_games.proofs.WholeLemmas.{over, joined}

-- ---- where no token begins a variation
pub none_parts : (ts us : List Token) → NoneOpens (ts ++ us) → NoneOpens ts × NoneOpens us
none_parts [] us h = (tt, h)
none_parts (t ∷ ts) us h = let more = none_parts ts us h.1 in ((h.0, more.0), more.1)

pub none_more : (ts : List Token) (t : Token) → NoneOpens ts → t.what ≢ Opens → NoneOpens (ts ++ t ∷ [])
none_more [] t h differs = (differs, tt)
none_more (u ∷ ts) t h differs = (h.0, none_more ts t h.1 differs)

-- the main line without parentheses
abbrev pub main : List Move → Line
main moves = goes_on variation [] moves None

begins_main : {A : Type 0} (front own : List Move) (last : Move) → begins front last ≡ main own → A
begins_main front own last e = cc

answer_main : {A : Type 0} (kind : Kind) (before moves answer own : List Move)
    → goes_on kind before moves (Some answer) ≡ main own → A
answer_main kind before moves answer own e = cc

kind_main : (kind : Kind) (before moves own : List Move) → goes_on kind before moves None ≡ main own
    → kind ≡ variation
kind_main kind before moves own e = cc

before_main : (kind : Kind) (before moves own : List Move) → goes_on kind before moves None ≡ main own → before ≡ []
before_main kind before moves own e = cc

moves_main : (kind : Kind) (before moves own : List Move) → goes_on kind before moves None ≡ main own → moves ≡ own
moves_main kind before moves own e = cc

module _ (g : Geometry) (p : Placement) where
  pub any_room : {room : ℕ} {start line : Line} {ts : List Token} {paths : List (List Move)}
      → IsLine g p room start ts line paths → NoneOpens ts → IsLine g p zero start ts line paths
  any_room empty h = empty
  any_room (passed {ts = ts} t v is) h = passed t (any_room v (none_parts ts (t ∷ []) h).0) is
  any_room (move {ts = ts} {t = t} v follows) h = move (any_room v (none_parts ts (t ∷ []) h).0) follows
  any_room (aside {ts = ts} {us = us} moves last opening closing v o w c) h =
      let rest = none_parts ts (opening ∷ (us ++ closing ∷ [])) h in absurd (rest.1.0 o)

  -- a token goes on with it
  main_follows : {line : Line} {t : Token} {kind : Kind} {before moves more : List Move} (own : List Move)
      → Follows g p line t kind before moves more → line ≡ main own
      → (kind ≡ variation) × (before ≡ []) × (moves ≡ own)
  main_follows own (opens_variation {front = front} {last = last} is) e = begins_main front own last e
  main_follows own (opens_reply {front = front} {last = last} none is) e = begins_main front own last e
  main_follows own (alone {kind = kind} {before = before} {moves = moves} is) e =
      (kind_main kind before moves own e, before_main kind before moves own e, moves_main kind before moves own e)
  main_follows own (by_play {kind = kind} {before = before} {moves = moves} {answer = a} low is) e =
      answer_main kind before moves a own e
  main_follows own (after_reply {kind = kind} {before = before} {moves = moves} {answer = a} none is) e =
      answer_main kind before moves a own e
  main_follows own (left_out_again {kind = kind} {before = before} {moves = moves} {answer = a} none low odd is) e =
      answer_main kind before moves a own e

-- ---- the beginnings of some moves
beginnings_more : (before moves : List Move) (m : Move)
    → beginnings_after before (moves ++ m ∷ []) ≡ beginnings_after before moves ++ (before ++ (moves ++ m ∷ [])) ∷ []
beginnings_more before [] m = refl
beginnings_more before (x ∷ moves) m =
    ap (λ z. (before ++ x ∷ []) ∷ z) (beginnings_more (before ++ x ∷ []) moves m
    ∙ ap (λ z. beginnings_after (before ++ x ∷ []) moves ++ z ∷ []) (append_assoc before (x ∷ []) (moves ++ m ∷ [])))

length_beginnings : (before moves : List Move) → length (beginnings_after before moves) ≡ length moves
length_beginnings before [] = refl
length_beginnings before (m ∷ moves) = ap suc (length_beginnings (before ++ m ∷ []) moves)

none_longer : (before moves path : List Move) → Member path (beginnings_after before moves)
    → length path ≤ length before + length moves
none_longer before [] path h = absurd h
none_longer before (m ∷ moves) path (inl e) = omega (arith, ap length e, length-append before (m ∷ []))
none_longer before (m ∷ moves) path (inr h) =
    let more = none_longer (before ++ m ∷ []) moves path h in omega (arith, more, length-append before (m ∷ []))

beginnings_append : (before moves more : List Move) → beginnings_after before (moves ++ more)
    ≡ beginnings_after before moves ++ beginnings_after (before ++ moves) more
beginnings_append before [] more = ap (λ z. beginnings_after z more) (sym (append-nil before))
beginnings_append before (m ∷ moves) more =
    ap (λ z. (before ++ m ∷ []) ∷ z) (beginnings_append (before ++ m ∷ []) moves more
    ∙ ap (λ z. beginnings_after (before ++ m ∷ []) moves ++ beginnings_after z more)
    (append_assoc before (m ∷ []) moves))

-- the moves and the paths of play without parentheses
pub main_line : (g : Geometry) (p : Placement) {room : ℕ} {start line : Line} {ts : List Token}
    {paths : List (List Move)} → IsLine g p room start ts line paths → start ≡ first_line → NoneOpens ts
    → (own : List Move) × (line ≡ main own) × (paths ≡ beginnings_after [] own)
main_line g p empty e h = ([], e, refl)
main_line g p (passed {ts = ts} t v is) e h = main_line g p v e (none_parts ts (t ∷ []) h).0
main_line g p (move {ts = ts} {paths = paths} {t = t} {kind = kind} {before = before} {moves = moves} {more = more} v
    follows) e h =
    let old = main_line g p v e (none_parts ts (t ∷ []) h).0 in
    let is = main_follows g p old.0 follows old.1 in (
      old.0 ++ more,
      ap (λ z. goes_on z before (moves ++ more) None) is.0
          ∙ (ap (λ z. goes_on variation z (moves ++ more) None) is.1 ∙ ap (λ z. main (z ++ more)) is.2),
      ap (λ z. z ++ beginnings_after (before ++ moves) more) old.2
          ∙ (ap (λ z. beginnings_after [] old.0 ++ beginnings_after (z ++ moves) more) is.1
          ∙ (ap (λ z. beginnings_after [] old.0 ++ beginnings_after z more) is.2
          ∙ sym (beginnings_append [] old.0 more))),
    )
main_line g p (aside {ts = ts} {us = us} moves last opening closing v o w c) e h =
    let rest = none_parts ts (opening ∷ (us ++ closing ∷ [])) h in absurd (rest.1.0 o)

same_main : (moves own : List Move) → main moves ≡ main own → own ≡ moves
same_main moves own e = cc

pub paths_are : (g : Geometry) (p : Placement) {room : ℕ} {moves : List Move} {ts : List Token}
    {paths : List (List Move)} → IsLine g p room first_line ts (main moves) paths → NoneOpens ts
    → paths ≡ beginnings_after [] moves
paths_are g p {moves = moves} v h =
    let is = main_line g p v refl h in is.2 ∙ ap (beginnings_after []) (same_main moves is.0 is.1)

-- what a reader has read
pub straight_read : {B : Type 0} (g : Geometry) (p : Placement) (tree : List (List Move)) {room : ℕ} {ts : List Token}
    {now : OpenLine B} {outer : List (OpenLine B)} {line : Line} {paths : List (List Move)}
    → Opened g p tree room ts now outer line paths → NoneOpens ts
    → (outer ≡ []) × (own : List Move) × (line ≡ main own) × IsLine g p zero first_line ts (main own) paths
straight_read g p tree (outermost {ts = ts} {line = line} {paths = paths} v l) h =
    let is = main_line g p v refl h in (
      refl,
      is.0,
      is.1,
      subst (λ z. IsLine g p zero first_line ts z paths) is.1 (any_room g p v h),
    )
straight_read g p tree (inner {ts = ts} {us = us} moves last opening o e v l s) h =
    let rest = none_parts ts (opening ∷ us) h in absurd (rest.1.0 e)

parted : (moves : List Move) → (moves ≡ []) ⊎ ((front : List Move) × (last : Move) × (moves ≡ front ++ last ∷ []))
parted [] = inl refl
parted (m ∷ moves) = elim (parted moves) [
  | inl e ↦ inr ([], m, ap (λ z. m ∷ z) e)
  | inr h ↦ inr (m ∷ h.0, h.1, ap (λ z. m ∷ z) h.2)
]

last_beginning : {A : Type 0} (paths : List (List Move)) (path moves : List Move)
    → paths ++ path ∷ [] ≡ beginnings_after [] moves
    → ((front : List Move) → paths ≡ beginnings_after [] front → length path ≡ length front + 1 → A) → A
last_beginning paths path moves e on = elim (parted moves) [
  | inl none ↦ filled paths path (sym (e ∙ ap (beginnings_after []) none))
  | inr h ↦ let both = last_same paths (beginnings_after [] h.0) path (h.0 ++ h.1 ∷ [])
      (e ∙ ap (beginnings_after []) h.2 ∙ beginnings_more [] h.0 h.1) in
      on h.0 both.0 (ap length both.1 ∙ length-append h.0 (h.1 ∷ []))
]

-- they are distinct
tree_is : {paths tree : List (List Move)} → AreDistinct paths tree → (moves : List Move)
    → paths ≡ beginnings_after [] moves → tree ≡ paths
tree_is nothing moves e = refl
tree_is (again {paths = ps} {tree = tree} path d there) moves e = last_beginning ps path moves e (λ front is long.
    let old : tree ≡ ps = tree_is d front is in
    let short = none_longer [] front path (subst (λ z. Member path z) (old ∙ is) there) in
    absurd (omega (arith, short, long)))
tree_is (first {paths = ps} {tree = tree} path d new) moves e =
    last_beginning ps path moves e (λ front is long. ap (λ z. z ++ path ∷ []) (tree_is d front is))

-- ---- the moves, beginning by beginning
next_is : (before moves rest b : List Move) (m : Move)
    → slice_get (beginnings_after before (moves ++ rest)) (length moves) ≡ Some (b ++ m ∷ [])
    → (more : List Move) × (rest ≡ m ∷ more)
next_is before [] [] b m e = absent (b ++ m ∷ []) e
next_is before [] (x ∷ rest) b m e =
    (rest, ap (λ z. z ∷ rest) (last_same before b x m (same (before ++ x ∷ []) (b ++ m ∷ []) e)).1)
next_is before (x ∷ moves) rest b m e = next_is (before ++ x ∷ []) moves rest b m e

none_is : (before moves rest : List Move)
    → slice_get (beginnings_after before (moves ++ rest)) (length moves) ≡ None → rest ≡ []
none_is before [] [] e = refl
none_is before [] (x ∷ rest) e = absent (before ++ x ∷ []) (sym e)
none_is before (x ∷ moves) rest e = none_is (before ++ x ∷ []) moves rest e

module _ (tree : List (List Move)) (n : ℕ) (moves all rest : List Move) (is : tree ≡ beginnings_after [] all)
    (split : all ≡ moves ++ rest) (many : n ≡ length moves) where
  here : {o : _} → slice_get tree n ≡ o → slice_get (beginnings_after [] (moves ++ rest)) (length moves) ≡ o
  here got = ap (λ k. slice_get (beginnings_after [] (moves ++ rest)) k) (sym many)
      ∙ (ap (λ z. slice_get z n) (sym (is ∙ ap (beginnings_after []) split)) ∙ got)

  pub moves_on : (now b : List Move) (m : Move) → slice_get tree n ≡ Some (b ++ m ∷ []) → now ≡ moves ++ m ∷ []
      → (more : List Move) × (all ≡ now ++ more)
  moves_on now b m got added =
      let next = next_is [] moves rest b m (here got) in (
        next.0,
        split ∙ (ap (λ z. moves ++ z) next.1 ∙ (sym (append_assoc moves (m ∷ []) next.0)
            ∙ ap (λ z. z ++ next.0) (sym added))),
      )

  pub moves_over : slice_get tree n ≡ None → moves ≡ all
  moves_over got = sym (split ∙ (ap (λ z. moves ++ z) (none_is [] moves rest (here got)) ∙ append-nil moves))

-- ---- what a reader has read
module _ {B : Type 0} (g : Geometry) (p : Placement) (ts : List Token) (r : Reader B) (h : HasReadLine g p ts r) where
  abbrev pub moves_read : List Move
  moves_read = (straight_read g p r.tree.paths h.read.opened h.none_opens).1

  straight_play : IsLine g p zero first_line ts (main moves_read) h.read.paths
  straight_play = (straight_read g p r.tree.paths h.read.opened h.none_opens).3

  pub none_around_line : r.outer.items ≡ []
  none_around_line = (straight_read g p r.tree.paths h.read.opened h.none_opens).0

  pub is_straight : IsStraight g p ts moves_read
  is_straight = (h.read.paths, straight_play)

  pub tree_read : r.tree.paths ≡ beginnings_after [] moves_read
  tree_read =
      let is : h.read.paths ≡ beginnings_after [] moves_read = paths_are g p straight_play h.none_opens in
      tree_is h.read.distinct moves_read is ∙ is

  pub tree_short : length r.tree.paths ≤ MAX_PATH
  tree_short =
      let short = subst IsShort (straight_read g p r.tree.paths h.read.opened h.none_opens).2
      (opened_short g p r.tree.paths h.read.opened) in
      omega (arith, short, ap length tree_read, length_beginnings [] moves_read)

-- a token is at fault
pub line_stopped : {B : Type 0} (g : Geometry) (p : Placement) (old now : Tokens) (r before : Reader B)
    (ts : List Token) (t : Token) (rest : List ℕ) (why : MovetextFault) → HasReadLine g p ts before
    → AreAhead old (ts ++ t ∷ []) rest → IsFaultOf g p ts t why → LineHasEnded g p old now r (Err why)
line_stopped g p old now r before ts t rest (Refused what place) h ahead fault =
    (ts, t, rest, ahead, other (going_on (is_straight g p ts before h)) fault.0, fault.1)
line_stopped g p old now r before ts t rest Memory h ahead fault = tt

-- ---- answers
module _ (g : Geometry) (p : Placement) (text : List ℕ) (size : length text ≤ MAX_MOVETEXT) (start : Tokens)
    (whole : (ts : List Token) (rest : List ℕ) → AreAhead start ts rest → AreTokens 1 true text ts rest) where
  pub line_stopped_answer : {B : Type 0} (now : Tokens) (r : Reader B) (why : MovetextFault)
      → LineHasEnded g p start now r (Err why) → IsLineRefusal g p text (line_fault_of why)
  line_stopped_answer now r (Refused what place) h =
      subst (λ x. IsFirstLineFault g p text (Movetext what) x) (sym h.5) (at_token h.0 h.1 h.2 size (whole _ _ h.3) h.4)
  line_stopped_answer now r Memory h = tt

  -- behind the result another token is at fault
  pub line_odd_answer : {B : Type 0} (r : Reader B) (now : Tokens) (ts cs : List Token) (t u : Token) (rest : List ℕ)
      (why : MovetextFault) → HasReadLine g p ts r → IsResult t → ReadOn start (ts ++ t ∷ []) now
      → AreComments cs → AreAhead now (cs ++ u ∷ []) rest → IsOdd u why → IsLineRefusal g p text (line_fault_of why)
  line_odd_answer r now ts cs t u rest (Refused what place) h is on comments ahead odd =
      let tokens : AreTokens 1 true text ((ts ++ t ∷ cs) ++ u ∷ []) rest =
      subst (λ x. AreTokens 1 true text x rest) (sym (joined g p text size start whole ts cs t u))
      (whole _ _ (on _ _ ahead)) in
      let game : IsPlainGame g p (ts ++ t ∷ cs) (moves_read g p ts r h) =
      ended cs (is_straight g p ts r h) is comments in
      let end = over g p text size start whole r ts t cs h.read (none_around_line g p ts r h) is comments in
      subst (λ x. IsFirstLineFault g p text (Movetext what) x) (sym odd.1) (elim odd.0 [
        | inl cut ↦ subst (λ x. IsFirstLineFault g p text (Movetext x) u.place) (sym cut.0)
            (at_token (ts ++ t ∷ cs) u rest size tokens (other game (cut_off end cut.1)))
        | inr rest_is ↦ subst (λ x. IsFirstLineFault g p text (Movetext x) u.place) (sym rest_is.0)
            (at_token (ts ++ t ∷ cs) u rest size tokens (other game (behind_result end rest_is.1 rest_is.2)))
      ])
  line_odd_answer r now ts cs t u rest Memory h is on comments ahead odd = absurd odd

  -- the moves, if they are odd in number
  odd_answer : {A : Type 0} (items : A → List Move) (tokens : List Token) (moves : List Move) → AreAhead start tokens []
      → IsPlainGame g p tokens moves → (answer : Result A LineFault)
      → MatchResult answer (λ line. (items line ≡ moves) × (length moves % 2 ≡ 1))
      (λ why. IsNoOddNumber moves (length text) why)
      → MatchResult answer (λ line. IsWrittenLine g p text (items line)) (λ why. IsLineRefusal g p text why)
  odd_answer items tokens moves ahead game (Ok line) h = record {
    size = size;
    tokens = tokens;
    are_tokens = whole tokens [] ahead;
    game = subst (λ x. IsPlainGame g p tokens x) (sym h.0) game;
    odd = ap (λ x. length x % 2) h.0 ∙ h.1;
  }
  odd_answer items tokens moves ahead game (Err why) (inl h) = subst (λ x. IsLineRefusal g p text x) (sym h.1)
      (no_move tokens size (whole tokens [] ahead) (subst (λ x. IsPlainGame g p tokens x) h.0 game))
  odd_answer items tokens moves ahead game (Err why) (inr h) = subst (λ x. IsLineRefusal g p text x) (sym h.2)
      (even tokens moves size (whole tokens [] ahead) game h.0 h.1)

  pub line_with_result : {A B : Type 0} (items : A → List Move) (r : Reader B) (now : Tokens) (ts cs : List Token)
      (t : Token) → (h : HasReadLine g p ts r) → IsResult t → ReadOn start (ts ++ t ∷ []) now → AreComments cs
      → AreAhead now cs [] → (answer : Result A LineFault)
      → MatchResult answer (λ line. (items line ≡ moves_read g p ts r h) × (length (moves_read g p ts r h) % 2 ≡ 1))
      (λ why. IsNoOddNumber (moves_read g p ts r h) (length text) why)
      → MatchResult answer (λ line. IsWrittenLine g p text (items line)) (λ why. IsLineRefusal g p text why)
  line_with_result items r now ts cs t h is on comments ahead answer odd =
      let tokens : AreAhead start (ts ++ t ∷ cs) [] =
      subst (λ x. AreAhead start x []) (append_assoc ts (t ∷ []) cs) (on cs [] ahead) in
      odd_answer items (ts ++ t ∷ cs) (moves_read g p ts r h) tokens (ended cs (is_straight g p ts r h) is comments)
      answer odd

  pub line_without_result : {A B : Type 0} (items : A → List Move) (r : Reader B) (ts : List Token)
      → (h : HasReadLine g p ts r) → AreAhead start ts [] → (answer : Result A LineFault)
      → MatchResult answer (λ line. (items line ≡ moves_read g p ts r h) × (length (moves_read g p ts r h) % 2 ≡ 1))
      (λ why. IsNoOddNumber (moves_read g p ts r h) (length text) why)
      → MatchResult answer (λ line. IsWrittenLine g p text (items line)) (λ why. IsLineRefusal g p text why)
  line_without_result items r ts h ahead answer odd =
      odd_answer items ts (moves_read g p ts r h) ahead (going_on (is_straight g p ts r h)) answer odd
