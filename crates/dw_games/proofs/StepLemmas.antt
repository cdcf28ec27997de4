-- What is open after a row of tokens: each token leads on in one way at most.
use Rattle.std.proofs.Common.{◌≡◌, ℕ, zero, suc, ◌+◌, ◌<◌, Bool, true, false, List, [], ◌∷◌, ◌++◌, length, Result, Ok}
use Rattle.std.proofs.Common.{Err, None, Some, Option, refl, sym, ap, subst, ◌∙◌, arith, append_assoc, append-nil, inl}
use Rattle.std.proofs.Common.{inr, zero-add}
use Rattle.dw_board.specs.Geometry.{Geometry}
use Rattle.dw_board.specs.Placement.{Placement}
use Rattle.dw_moves.specs.Moves.{Legal, Move, play}
use Rattle.dw_notation.specs.MoveReading.{IsRead}
use Rattle.dw_notation.specs.MoveReadingLaws.{HasOneAnswer}
use Rattle.dw_notation.specs.declared.read_move.MoveFault.{MoveFault}
use Rattle.dw_notation.specs.declared.read_move.MoveFault.TheVariants as reading
use Rattle.dw_games.specs.Tokens.{Token}
use Rattle.dw_games.specs.Play.{IsResult, IsMove, IsPassed, plain, after, beginnings_after, IsDefence, IsLeftOut}
use Rattle.dw_games.specs.Play.{IsOnlyMove}
use Rattle.dw_games.specs.Play.{HasForm, HasTwoMoves, IsNamed, NamesNoneBehind, IsRefused, StandsFor, IsRefusedAfter}
use Rattle.dw_games.specs.Play as rule
use Rattle.dw_games.specs.Printed.{Kind, variation, reply as as_reply, Line, begins, goes_on, first_line, NamesNotOne}
use Rattle.dw_games.specs.Printed.{Follows, CannotFollow, count_moves, answer_of, IsLine, empty, passed, move, aside}
use Rattle.dw_games.specs.Printed as way
use Rattle.dw_games.specs.declared.tokens.TokenKind.{TokenKind}
use Rattle.dw_games.specs.declared.tokens.TokenKind.TheVariants.{Comment, Passed, Written, Opens, Closes, CutOff}
use Rattle.dw_games.specs.declared.tokens.TokenKind.TheVariants.{Unknown}
use Rattle.dw_games.specs.declared.movetext.TheConstants.{MAX_PATH, MAX_OPEN}
use Rattle.dw_games.specs.declared.fault.MovetextFaultKind.{MovetextFaultKind}
use Rattle.dw_games.specs.declared.fault.MovetextFaultKind.TheVariants.{Token as NoToken, NoSuchMove, Ambiguous}
use Rattle.dw_games.specs.declared.fault.MovetextFaultKind.TheVariants.{Variation, Unclosed, Rest, TooDeep, TooLong}
use Rattle.dw_games.specs.declared.fault.MovetextFaultKind.TheVariants.{Reply}
use Rattle.dw_games.proofs.PrintedLemmas.{refused_form, follows_form, counted_more, one_written}
use Rattle.dw_games.proofs.PrintedLemmas.{none_passed, counted_aside}

-- ---- states
-- a line around the innermost one, and how many of its tokens are moves
pub record Around : Type 0 where
  pub line : Line
  pub count : ℕ

-- whether the result has been read, how many more parentheses may be open, the innermost line and how many of its
-- tokens are moves, the lines around it, and the paths so far
pub record State : Type 0 where
  pub over : Bool
  pub room : ℕ
  pub line : Line
  pub count : ℕ
  pub outer : List Around
  pub paths : List (List Move)

abbrev pub within : ℕ → Line → ℕ → List Around → List (List Move) → State
within room line count outer paths = record {
  over = false;
  room = room;
  line = line;
  count = count;
  outer = outer;
  paths = paths;
}

abbrev pub start : State
start = within MAX_OPEN first_line 0 [] []

abbrev pub Next : Type 0
Next = Result State MovetextFaultKind

-- all but the last one, and that one
abbrev pub front : List Move → List Move
front [] = []
front (m ∷ []) = []
front (m ∷ n ∷ moves) = m ∷ front (n ∷ moves)

abbrev pub final : Move → List Move → Move
final m [] = m
final m (n ∷ moves) = final n moves

-- what a parenthesis leads to where it begins and where it ends, and a result, and a move
abbrev pub begun : State → ℕ → Line → Next
begun s room (begins before last) = Err Variation
begun s room (goes_on kind before [] answer) = Err Variation
begun s zero (goes_on kind before (m ∷ moves) answer) = Err TooDeep
begun s (suc room) (goes_on kind before (m ∷ moves) answer) =
    Ok (within room (begins (before ++ front (m ∷ moves)) (final m moves)) 0
    ((record { line = s.line; count = s.count }) ∷ s.outer) s.paths)

abbrev pub resumed : Line → Line → ℕ → Line
resumed (begins before last) inner count = begins before last
resumed (goes_on kind before moves answer) inner count = goes_on kind before moves (answer_of inner count answer)

abbrev pub closed : State → List Around → Next
closed s [] = Err Variation
closed s (a ∷ outer) =
    Ok (within (suc s.room) (resumed a.line s.line s.count) (a.count + s.count) outer s.paths)

abbrev pub ended : State → List Around → Next
ended s [] = Ok (record {
  over = true;
  room = s.room;
  line = s.line;
  count = s.count;
  outer = [];
  paths = s.paths;
})
ended s (a ∷ outer) = Err Unclosed

-- how a token goes on with a line
pub record Way : Type 0 where
  pub kind : Kind
  pub before : List Move
  pub moves : List Move
  pub more : List Move

abbrev pub along : Kind → List Move → List Move → List Move → Way
along kind before moves more = record { kind = kind; before = before; moves = moves; more = more }

abbrev pub with_move : State → Way → State
with_move s w =
    within s.room (goes_on w.kind w.before (w.moves ++ w.more) None) (s.count + 1) s.outer
    (s.paths ++ beginnings_after (w.before ++ w.moves) w.more)

abbrev pub moved : State → Result Way MovetextFaultKind → Next
moved s (Ok w) = Ok (with_move s w)
moved s (Err what) = Err what

-- what a token leads to behind the result
abbrev behind_result : TokenKind → State → Next
behind_result Comment s = Ok s
behind_result CutOff s = Err NoToken
behind_result what s = Err Rest

-- what a token stands for after a path, or its fault
abbrev pub Outcome : Type 0
Outcome = Result (List Move) MovetextFaultKind

abbrev pub Judged : Geometry → Placement → List Move → Token → Outcome → Type 0
Judged g p path t (Ok more) = StandsFor g p path t more
Judged g p path t (Err what) = IsRefusedAfter g p path t what

-- how a token goes on with a line, or its fault
abbrev pub Goes : Geometry → Placement → Line → Token → Result Way MovetextFaultKind → Type 0
Goes g p line t (Ok w) = Follows g p line t w.kind w.before w.moves w.more
Goes g p line t (Err what) = CannotFollow g p line t what

-- what something written leads to
pub data IsWritten (g : Geometry) (p : Placement) (s : State) (t : Token) (r : Next) : Type 0 where
  result : IsResult t → r ≡ ended s s.outer → IsWritten g p s t r
  neither : (IsResult t → ⊥) → (HasForm g t → ⊥) → r ≡ Err NoToken → IsWritten g p s t r
  goes : (o : Result Way MovetextFaultKind) → Goes g p s.line t o → r ≡ moved s o → IsWritten g p s t r

-- what a token leads to, by whether the result has been read, and by its kind
abbrev pub IsNext : Geometry → Placement → Bool → TokenKind → State → Token → Next → Type 0
IsNext g p true what s t r = r ≡ behind_result what s
IsNext g p false Comment s t r = r ≡ Ok s
IsNext g p false Passed s t r = r ≡ Ok s
IsNext g p false Written s t r = IsWritten g p s t r
IsNext g p false Opens s t r = r ≡ begun s s.room s.line
IsNext g p false Closes s t r = r ≡ closed s s.outer
IsNext g p false CutOff s t r = r ≡ Err NoToken
IsNext g p false Unknown s t r = r ≡ Err NoToken

-- a row of tokens leads from one state to another
abbrev pub Leads : Geometry → Placement → State → List Token → State → Type 0
Leads g p a [] b = a ≡ b
Leads g p a (t ∷ ts) b = (s : State) × IsNext g p a.over t.what a t (Ok s) × Leads g p s ts b

-- ---- a token leads on in one way at most
-- answers that differ
no_such_memory : ◌≡◌ {A = Result Move MoveFault} (Err reading.NoSuchMove) (Err reading.Memory) → ⊥
no_such_memory e = cc

no_memory_of : (m : Move) → ◌≡◌ {A = Result Move MoveFault} (Ok m) (Err reading.Memory) → ⊥
no_memory_of m e = cc

no_miss_of : (m : Move) → ◌≡◌ {A = Result Move MoveFault} (Ok m) (Err reading.NoSuchMove) → ⊥
no_miss_of m e = cc

ambiguous_memory : ◌≡◌ {A = Result Move MoveFault} (Err reading.Ambiguous) (Err reading.Memory) → ⊥
ambiguous_memory e = cc

pub ambiguous_miss : ◌≡◌ {A = Result Move MoveFault} (Err reading.Ambiguous) (Err reading.NoSuchMove) → ⊥
ambiguous_miss e = cc

one_several : (m : Move) → ◌≡◌ {A = Result Move MoveFault} (Ok m) (Err reading.Ambiguous) → ⊥
one_several m e = cc

same_move : (m n : Move) → ◌≡◌ {A = Result Move MoveFault} (Ok m) (Ok n) → m ≡ n
same_move m n e = cc

one_move : HasOneAnswer → (g : Geometry) (q : Placement) (text : List ℕ) (m n : Move) → IsRead g q text (Ok m)
    → IsRead g q text (Ok n) → m ≡ n
one_move one g q text m n is too = elim (one g q text (Ok m) (Ok n) is too) [
  | inl same ↦ same_move m n same
  | inr (inl memory) ↦ absurd (no_memory_of m memory)
  | inr (inr memory) ↦ absurd (no_memory_of n memory)
]

pub not_several : HasOneAnswer → {A : Type 0} (g : Geometry) (q : Placement) (text : List ℕ) (m : Move)
    → IsRead g q text (Ok m) → IsRead g q text (Err reading.Ambiguous) → A
not_several one g q text m is too = elim (one g q text (Ok m) (Err reading.Ambiguous) is too) [
  | inl same ↦ absurd (one_several m same)
  | inr (inl memory) ↦ absurd (no_memory_of m memory)
  | inr (inr memory) ↦ absurd (ambiguous_memory memory)
]

-- a text that names no move does not name one, nor several
not_both : HasOneAnswer → {A : Type 0} (g : Geometry) (q : Placement) (text : List ℕ) (answer : Result Move MoveFault)
    → IsRead g q text (Err reading.NoSuchMove) → IsRead g q text answer → (answer ≡ Err reading.Memory → ⊥)
    → (answer ≡ Err reading.NoSuchMove → ⊥) → A
not_both one g q text answer none is kept other = elim (one g q text (Err reading.NoSuchMove) answer none is) [
  | inl same ↦ absurd (other (sym same))
  | inr (inl memory) ↦ absurd (no_such_memory memory)
  | inr (inr memory) ↦ absurd (kept memory)
]

pub not_named : HasOneAnswer → {A : Type 0} (g : Geometry) (q : Placement) (text : List ℕ)
    → IsRead g q text (Err reading.NoSuchMove) → IsNamed g q text → A
not_named one g q text none (inl is) = not_both one g q text (Ok is.0) none is.1 (no_memory_of is.0) (no_miss_of is.0)
not_named one g q text none (inr is) =
    not_both one g q text (Err reading.Ambiguous) none is ambiguous_memory ambiguous_miss

pub not_two : {A : Type 0} (g : Geometry) (q : Placement) (m : Move) → IsOnlyMove g q m → HasTwoMoves g q → A
not_two g q m only two =
    absurd (two.differ (only.alone two.first two.legal ∙ sym (only.alone two.second two.legal_too)))

-- what a token stands for that names no legal move after a path
data IsMissed (g : Geometry) (p : Placement) (path : List Move) (t : Token) (r : Outcome) : Type 0 where
  nothing : (IsDefence path → NamesNoneBehind g (after g p path) (plain t.text)) → r ≡ Err NoSuchMove
      → IsMissed g p path t r
  two_moves : (answer m : Move) → IsDefence path → IsOnlyMove g (after g p path) answer
      → IsRead g (play g (after g p path) answer) (plain t.text) (Ok m) → r ≡ Ok (answer ∷ m ∷ [])
      → IsMissed g p path t r
  several : (answer : Move) → IsDefence path → IsOnlyMove g (after g p path) answer
      → IsRead g (play g (after g p path) answer) (plain t.text) (Err reading.Ambiguous) → r ≡ Err Ambiguous
      → IsMissed g p path t r
  unforced : (answer : Move) → IsDefence path → HasTwoMoves g (after g p path)
      → Legal g (after g p path) answer → IsNamed g (play g (after g p path) answer) (plain t.text)
      → r ≡ Err Reply → IsMissed g p path t r

abbrev told : Result Move MoveFault → Outcome
told (Ok m) = Ok (m ∷ [])
told (Err reading.NoSuchMove) = Err NoSuchMove
told (Err reading.Ambiguous) = Err Ambiguous
told (Err reading.Syntax) = Err NoToken
told (Err reading.Memory) = Err NoToken

data IsTold (g : Geometry) (p : Placement) (path : List Move) (t : Token) (r : Outcome) : Type 0 where
  read : (answer : Result Move MoveFault) → length path < MAX_PATH → IsRead g (after g p path) (plain t.text) answer
      → (answer ≡ Err reading.Memory → ⊥) → (answer ≡ Err reading.NoSuchMove → ⊥) → r ≡ told answer
      → IsTold g p path t r
  missed : length path < MAX_PATH → IsRead g (after g p path) (plain t.text) (Err reading.NoSuchMove)
      → IsMissed g p path t r → IsTold g p path t r
  long : length path ≡ MAX_PATH → r ≡ Err TooLong → IsTold g p path t r

module _ (g : Geometry) (p : Placement) where
  told_stands : {path more : List Move} {t : Token} → StandsFor g p path t more → IsTold g p path t (Ok more)
  told_stands (rule.named {m = m} low is) = read (Ok m) low is.named (no_memory_of m) (no_miss_of m) refl
  told_stands (rule.left_out {reply = r} {m = m} low odd is) =
      missed low is.none (two_moves r m odd is.only is.next.named refl)

  told_refused : {path : List Move} {t : Token} {what : MovetextFaultKind} → IsRefusedAfter g p path t what
      → IsTold g p path t (Err what)
  told_refused (rule.no_such_move low is missing) = missed low is.refused (nothing missing refl)
  told_refused (rule.ambiguous low is) =
      read (Err reading.Ambiguous) low is.refused ambiguous_memory ambiguous_miss refl
  told_refused (rule.ambiguous_after_reply r low odd is only many) =
      missed low is.refused (several r odd only many refl)
  told_refused (rule.no_reply r low odd is two legal named) =
      missed low is.refused (unforced r odd two legal named refl)
  told_refused (rule.too_long high form) = long high refl

  judged_told : {path : List Move} {t : Token} (r : Outcome) → Judged g p path t r → IsTold g p path t r
  judged_told (Ok more) is = told_stands is
  judged_told (Err what) is = told_refused is

module _ (one : HasOneAnswer) (g : Geometry) (p : Placement) (path : List Move) (t : Token) where
  missed_one : (q r : Outcome) → IsMissed g p path t q → IsMissed g p path t r → q ≡ r
  missed_one q r (nothing missing e) (nothing other f) = e ∙ sym f
  missed_one q r (nothing missing e) (two_moves reply m odd only is f) =
      not_named one g _ (plain t.text) (missing odd reply only.legal) (inl (m, is))
  missed_one q r (nothing missing e) (several reply odd only is f) =
      not_named one g _ (plain t.text) (missing odd reply only.legal) (inr is)
  missed_one q r (nothing missing e) (unforced reply odd two legal is f) =
      not_named one g _ (plain t.text) (missing odd reply legal) is
  missed_one q r (two_moves reply m odd only is f) (nothing missing e) =
      not_named one g _ (plain t.text) (missing odd reply only.legal) (inl (m, is))
  missed_one q r (two_moves reply m odd only is e) (two_moves other n too alone are f) =
      let same : other ≡ reply = only.alone other alone.legal in
      let there : IsRead g (play g (after g p path) reply) (plain t.text) (Ok n) =
      subst (λ x. IsRead g (play g (after g p path) x) (plain t.text) (Ok n)) same are in
      let moves : m ≡ n = one_move one g _ (plain t.text) m n is there in
      e ∙ (ap (λ x. Ok (reply ∷ x ∷ [])) moves
      ∙ (ap (λ x. Ok (x ∷ n ∷ [])) (sym same) ∙ sym f))
  missed_one q r (two_moves reply m odd only is e) (several other too alone are f) =
      let same : other ≡ reply = only.alone other alone.legal in
      let there : IsRead g (play g (after g p path) reply) (plain t.text) (Err reading.Ambiguous) =
      subst (λ x. IsRead g (play g (after g p path) x) (plain t.text) (Err reading.Ambiguous)) same are in
      not_several one g _ (plain t.text) m is there
  missed_one q r (two_moves reply m odd only is e) (unforced other too two legal are f) = not_two g _ reply only two
  missed_one q r (several reply odd only is f) (nothing missing e) =
      not_named one g _ (plain t.text) (missing odd reply only.legal) (inr is)
  missed_one q r (several other too alone are e) (two_moves reply m odd only is f) =
      let same : other ≡ reply = only.alone other alone.legal in
      let there : IsRead g (play g (after g p path) reply) (plain t.text) (Err reading.Ambiguous) =
      subst (λ x. IsRead g (play g (after g p path) x) (plain t.text) (Err reading.Ambiguous)) same are in
      not_several one g _ (plain t.text) m is there
  missed_one q r (several reply odd only is e) (several other too alone are f) = e ∙ sym f
  missed_one q r (several reply odd only is e) (unforced other too two legal are f) = not_two g _ reply only two
  missed_one q r (unforced reply odd two legal is f) (nothing missing e) =
      not_named one g _ (plain t.text) (missing odd reply legal) is
  missed_one q r (unforced reply odd two legal is f) (two_moves other m too only are e) = not_two g _ other only two
  missed_one q r (unforced reply odd two legal is f) (several other too only are e) = not_two g _ other only two
  missed_one q r (unforced reply odd two legal is e) (unforced other too both legal_too are f) = e ∙ sym f

  told_one : (q r : Outcome) → IsTold g p path t q → IsTold g p path t r → q ≡ r
  told_one q r (read x low is kept found e) (read y short too safe known f) =
      elim (one g (after g p path) (plain t.text) x y is too) [
        | inl same ↦ e ∙ (ap told same ∙ sym f)
        | inr memory ↦ elim memory [ inl m ↦ absurd (kept m) | inr m ↦ absurd (safe m) ]
      ]
  told_one q r (read x low is kept found e) (missed short none f) =
      not_both one g (after g p path) (plain t.text) x none is kept found
  told_one q r (read x low is kept found e) (long high f) = absurd (omega (arith, low, high))
  told_one q r (missed low none e) (read x short is kept found f) =
      not_both one g (after g p path) (plain t.text) x none is kept found
  told_one q r (missed low none e) (missed short too f) = missed_one q r e f
  told_one q r (missed low none e) (long high f) = absurd (omega (arith, low, high))
  told_one q r (long high e) (read x low is kept found f) = absurd (omega (arith, low, high))
  told_one q r (long high e) (missed low none f) = absurd (omega (arith, low, high))
  told_one q r (long high e) (long too f) = e ∙ sym f

  judged_one : (q r : Outcome) → Judged g p path t q → Judged g p path t r → q ≡ r
  judged_one q r a b = told_one q r (judged_told g p q a) (judged_told g p r b)

no_outcome : {A : Type 0} (more : List Move) (what : MovetextFaultKind) → ◌≡◌ {A = Outcome} (Ok more) (Err what) → A
no_outcome more what e = cc

same_more : (more other : List Move) → ◌≡◌ {A = Outcome} (Ok more) (Ok other) → more ≡ other
same_more more other e = cc

same_what : (what other : MovetextFaultKind) → ◌≡◌ {A = Outcome} (Err what) (Err other) → what ≡ other
same_what what other e = cc

-- ---- a line
abbrev WayOr : Type 0
WayOr = Result Way MovetextFaultKind

-- the first move token in parentheses
data IsFirst (g : Geometry) (p : Placement) (before : List Move) (last : Move) (t : Token) (r : WayOr) : Type 0 where
  named : (m : Move) → IsMove g (after g p before) t m → r ≡ Ok (along variation before [] (m ∷ []))
      → IsFirst g p before last t r
  several : IsRefused g (after g p before) t reading.Ambiguous → r ≡ Err Ambiguous → IsFirst g p before last t r
  behind : IsRead g (after g p before) (plain t.text) (Err reading.NoSuchMove) → (more : List Move)
      → StandsFor g p (before ++ last ∷ []) t more → r ≡ Ok (along as_reply (before ++ last ∷ []) [] more)
      → IsFirst g p before last t r
  nowhere : IsRead g (after g p before) (plain t.text) (Err reading.NoSuchMove) → (what : MovetextFaultKind)
      → IsRefusedAfter g p (before ++ last ∷ []) t what → r ≡ Err what → IsFirst g p before last t r

-- a token with no reply before it
data IsAlone (g : Geometry) (p : Placement) (kind : Kind) (before moves : List Move) (t : Token) (r : WayOr)
    : Type 0 where
  stands : (more : List Move) → StandsFor g p (before ++ moves) t more → r ≡ Ok (along kind before moves more)
      → IsAlone g p kind before moves t r
  refused : (what : MovetextFaultKind) → IsRefusedAfter g p (before ++ moves) t what → r ≡ Err what
      → IsAlone g p kind before moves t r

-- a token behind a reply
data IsBehind (g : Geometry) (p : Placement) (kind : Kind) (before moves answer : List Move) (t : Token) (r : WayOr)
    : Type 0 where
  by_play : (m : Move) → length (before ++ moves) < MAX_PATH → IsMove g (after g p (before ++ moves)) t m
      → r ≡ Ok (along kind before moves (m ∷ [])) → IsBehind g p kind before moves answer t r
  after_reply : (more : List Move) → NamesNotOne g (after g p (before ++ moves)) (plain t.text)
      → StandsFor g p (before ++ (moves ++ answer)) t more → r ≡ Ok (along kind before (moves ++ answer) more)
      → IsBehind g p kind before moves answer t r
  again : (only m : Move) (what : MovetextFaultKind) → IsRefusedAfter g p (before ++ (moves ++ answer)) t what
      → length (before ++ moves) < MAX_PATH → IsDefence (before ++ moves)
      → IsLeftOut g (after g p (before ++ moves)) t only m → r ≡ Ok (along kind before moves (only ∷ m ∷ []))
      → IsBehind g p kind before moves answer t r
  nowhere : (what other : MovetextFaultKind) → IsRefusedAfter g p (before ++ moves) t other
      → IsRefusedAfter g p (before ++ (moves ++ answer)) t what → r ≡ Err what
      → IsBehind g p kind before moves answer t r

abbrev ByLine : Geometry → Placement → Line → Token → WayOr → Type 0
ByLine g p (begins before last) t r = IsFirst g p before last t r
ByLine g p (goes_on kind before moves None) t r = IsAlone g p kind before moves t r
ByLine g p (goes_on kind before moves (Some answer)) t r = IsBehind g p kind before moves answer t r

module _ (g : Geometry) (p : Placement) where
  line_follows : {line : Line} {t : Token} {kind : Kind} {before moves more : List Move}
      → Follows g p line t kind before moves more → ByLine g p line t (Ok (along kind before moves more))
  line_follows (way.opens_variation {m = m} is) = named m is refl
  line_follows {more = more} (way.opens_reply none is) = behind none more is refl
  line_follows {more = more} (way.alone is) = stands more is refl
  line_follows (way.by_play {m = m} low is) = by_play m low is refl
  line_follows {more = more} (way.after_reply none is) = after_reply more none is refl
  line_follows (way.left_out_again {only = r} {m = m} {what = what} none low odd is) =
      again r m what none low odd is refl

  line_stops : {line : Line} {t : Token} {what : MovetextFaultKind} → CannotFollow g p line t what
      → ByLine g p line t (Err what)
  line_stops (way.several is) = several is refl
  line_stops {what = what} (way.neither none is) = nowhere none what is refl
  line_stops {what = what} (way.not_alone is) = refused what is refl
  line_stops {what = what} (way.not_behind {other = other} is too) = nowhere what other is too refl

  goes_line : (line : Line) (t : Token) (r : WayOr) → Goes g p line t r → ByLine g p line t r
  goes_line line t (Ok w) is = line_follows is
  goes_line line t (Err what) is = line_stops is

  pub goes_form : (line : Line) (t : Token) (r : WayOr) → Goes g p line t r → HasForm g t
  goes_form line t (Ok w) is = follows_form g p is
  goes_form line t (Err what) (way.several is) = is.form
  goes_form line t (Err what) (way.neither none is) = refused_form g p is
  goes_form line t (Err what) (way.not_alone is) = refused_form g p is
  goes_form line t (Err what) (way.not_behind is too) = refused_form g p is

module _ (one : HasOneAnswer) (g : Geometry) (p : Placement) (t : Token) where
  no_move_of : {A : Type 0} (q : Placement) (m : Move) → IsMove g q t m
      → IsRead g q (plain t.text) (Err reading.NoSuchMove) → A
  no_move_of q m is none = not_named one g q (plain t.text) none (inl (m, is.named))

  not_one_of : {A : Type 0} (q : Placement) (m : Move) → IsMove g q t m → NamesNotOne g q (plain t.text) → A
  not_one_of q m is (inl none) = no_move_of q m is none
  not_one_of q m is (inr many) = not_several one g q (plain t.text) m is.named many

  never_both : {A : Type 0} (path more : List Move) (what : MovetextFaultKind) → StandsFor g p path t more
      → IsRefusedAfter g p path t what → A
  never_both path more what is none = no_outcome more what (judged_one one g p path t (Ok more) (Err what) is none)

  stands_one : (path more other : List Move) → StandsFor g p path t more → StandsFor g p path t other → more ≡ other
  stands_one path more other is too = same_more more other (judged_one one g p path t (Ok more) (Ok other) is too)

  refused_one : (path : List Move) (what other : MovetextFaultKind) → IsRefusedAfter g p path t what
      → IsRefusedAfter g p path t other → what ≡ other
  refused_one path what other is too =
      same_what what other (judged_one one g p path t (Err what) (Err other) is too)

  named_one : (q : Placement) (m n : Move) → IsMove g q t m → IsMove g q t n → m ≡ n
  named_one q m n is too = one_move one g q (plain t.text) m n is.named too.named

  module _ (before : List Move) (last : Move) where
    first_one : (q r : WayOr) → IsFirst g p before last t q → IsFirst g p before last t r → q ≡ r
    first_one q r (named m is e) (named n too f) =
        e ∙ (ap (λ x. Ok (along variation before [] (x ∷ []))) (named_one _ m n is too) ∙ sym f)
    first_one q r (named m is e) (several too f) = not_several one g _ (plain t.text) m is.named too.refused
    first_one q r (named m is e) (behind none more too f) = no_move_of _ m is none
    first_one q r (named m is e) (nowhere none what too f) = no_move_of _ m is none
    first_one q r (several is e) (named n too f) = not_several one g _ (plain t.text) n too.named is.refused
    first_one q r (several is e) (several too f) = e ∙ sym f
    first_one q r (several is e) (behind none more too f) = not_named one g _ (plain t.text) none (inr is.refused)
    first_one q r (several is e) (nowhere none what too f) = not_named one g _ (plain t.text) none (inr is.refused)
    first_one q r (behind none more is e) (named n too f) = no_move_of _ n too none
    first_one q r (behind none more is e) (several too f) = not_named one g _ (plain t.text) none (inr too.refused)
    first_one q r (behind none more is e) (behind absent other too f) =
        e ∙ (ap (λ x. Ok (along as_reply (before ++ last ∷ []) [] x)) (stands_one _ more other is too) ∙ sym f)
    first_one q r (behind none more is e) (nowhere absent what too f) = never_both _ more what is too
    first_one q r (nowhere none what is e) (named n too f) = no_move_of _ n too none
    first_one q r (nowhere none what is e) (several too f) = not_named one g _ (plain t.text) none (inr too.refused)
    first_one q r (nowhere none what is e) (behind absent more too f) = never_both _ more what too is
    first_one q r (nowhere none what is e) (nowhere absent other too f) =
        e ∙ (ap (λ x. Err x) (refused_one _ what other is too) ∙ sym f)

  module _ (kind : Kind) (before moves : List Move) where
    alone_one : (q r : WayOr) → IsAlone g p kind before moves t q → IsAlone g p kind before moves t r → q ≡ r
    alone_one q r (stands more is e) (stands other too f) =
        e ∙ (ap (λ x. Ok (along kind before moves x)) (stands_one _ more other is too) ∙ sym f)
    alone_one q r (stands more is e) (refused what too f) = never_both _ more what is too
    alone_one q r (refused what is e) (stands more too f) = never_both _ more what too is
    alone_one q r (refused what is e) (refused other too f) =
        e ∙ (ap (λ x. Err x) (refused_one _ what other is too) ∙ sym f)

    module _ (answer : List Move) where
      named_refused : {A : Type 0} (m : Move) (what : MovetextFaultKind) → length (before ++ moves) < MAX_PATH
          → IsMove g (after g p (before ++ moves)) t m → IsRefusedAfter g p (before ++ moves) t what → A
      named_refused m what low is none = never_both _ (m ∷ []) what (rule.named low is) none

      left_refused : {A : Type 0} (only m : Move) (what : MovetextFaultKind) → length (before ++ moves) < MAX_PATH
          → IsDefence (before ++ moves) → IsLeftOut g (after g p (before ++ moves)) t only m
          → IsRefusedAfter g p (before ++ moves) t what → A
      left_refused only m what low odd is none = never_both _ (only ∷ m ∷ []) what (rule.left_out low odd is) none

      behind_one : (q r : WayOr) → IsBehind g p kind before moves answer t q → IsBehind g p kind before moves answer t r
          → q ≡ r
      behind_one q r (by_play m low is e) (by_play n short too f) =
          e ∙ (ap (λ x. Ok (along kind before moves (x ∷ []))) (named_one _ m n is too) ∙ sym f)
      behind_one q r (by_play m low is e) (after_reply more none too f) = not_one_of _ m is none
      behind_one q r (by_play m low is e) (again only n what none short odd too f) = no_move_of _ m is too.none
      behind_one q r (by_play m low is e) (nowhere what other none too f) = named_refused m other low is none
      behind_one q r (after_reply more none is e) (by_play n low too f) = not_one_of _ n too none
      behind_one q r (after_reply more none is e) (after_reply other absent too f) =
          e ∙ (ap (λ x. Ok (along kind before (moves ++ answer) x)) (stands_one _ more other is too) ∙ sym f)
      behind_one q r (after_reply more none is e) (again only n what absent low odd too f) =
          never_both _ more what is absent
      behind_one q r (after_reply more none is e) (nowhere what other absent too f) = never_both _ more what is too
      behind_one q r (again only m what none low odd is e) (by_play n short too f) = no_move_of _ n too is.none
      behind_one q r (again only m what none low odd is e) (after_reply more absent too f) =
          never_both _ more what too none
      behind_one q r (again only m what none low odd is e) (again other n that absent short even too f) =
          e ∙ (ap (λ x. Ok (along kind before moves x)) (stands_one _ (only ∷ m ∷ []) (other ∷ n ∷ [])
          (rule.left_out low odd is) (rule.left_out short even too)) ∙ sym f)
      behind_one q r (again only m what none low odd is e) (nowhere that other absent too f) =
          left_refused only m other low odd is absent
      behind_one q r (nowhere what other none is e) (by_play n low too f) = named_refused n other low too none
      behind_one q r (nowhere what other none is e) (after_reply more absent too f) = never_both _ more what too is
      behind_one q r (nowhere what other none is e) (again only n that absent low odd too f) =
          left_refused only n other low odd too none
      behind_one q r (nowhere what other none is e) (nowhere that also absent too f) =
          e ∙ (ap (λ x. Err x) (refused_one _ what that is too) ∙ sym f)

  line_one : (line : Line) (q r : WayOr) → ByLine g p line t q → ByLine g p line t r → q ≡ r
  line_one (begins before last) q r a b = first_one before last q r a b
  line_one (goes_on kind before moves None) q r a b = alone_one kind before moves q r a b
  line_one (goes_on kind before moves (Some answer)) q r a b = behind_one kind before moves answer q r a b

  pub goes_one : (line : Line) (q r : WayOr) → Goes g p line t q → Goes g p line t r → q ≡ r
  goes_one line q r a b = line_one line q r (goes_line g p line t q a) (goes_line g p line t r b)

written_one : HasOneAnswer → (g : Geometry) (p : Placement) (s : State) (t : Token) (q r : Next)
    → IsWritten g p s t q → IsWritten g p s t r → q ≡ r
written_one one g p s t q r (result a e) (result b f) = e ∙ sym f
written_one one g p s t q r (result a e) (neither b formless f) = absurd (b a)
written_one one g p s t q r (result a e) (goes o is f) = absurd ((goes_form g p s.line t o is).no_result a)
written_one one g p s t q r (neither a formless e) (result b f) = absurd (a b)
written_one one g p s t q r (neither a formless e) (neither b other f) = e ∙ sym f
written_one one g p s t q r (neither a formless e) (goes o is f) = absurd (formless (goes_form g p s.line t o is))
written_one one g p s t q r (goes o is e) (result b f) = absurd ((goes_form g p s.line t o is).no_result b)
written_one one g p s t q r (goes o is e) (neither b formless f) = absurd (formless (goes_form g p s.line t o is))
written_one one g p s t q r (goes o is e) (goes k too f) =
    e ∙ (ap (moved s) (goes_one one g p t s.line o k is too) ∙ sym f)

pub next_one : HasOneAnswer → (g : Geometry) (p : Placement) (over : Bool) (what : TokenKind) (s : State) (t : Token)
    (q r : Next) → IsNext g p over what s t q → IsNext g p over what s t r → q ≡ r
next_one one g p false Written s t q r a b = written_one one g p s t q r a b
next_one one g p true what s t q r a b = a ∙ sym b
next_one one g p false Comment s t q r a b = a ∙ sym b
next_one one g p false Passed s t q r a b = a ∙ sym b
next_one one g p false Opens s t q r a b = a ∙ sym b
next_one one g p false Closes s t q r a b = a ∙ sym b
next_one one g p false CutOff s t q r a b = a ∙ sym b
next_one one g p false Unknown s t q r a b = a ∙ sym b

same_ok : (a b : State) → ◌≡◌ {A = Next} (Ok a) (Ok b) → a ≡ b
same_ok a b e = cc

pub ok_err : {A : Type 0} (a : State) (what : MovetextFaultKind) → ◌≡◌ {A = Next} (Ok a) (Err what) → A
ok_err a what e = cc

pub same_err : (what other : MovetextFaultKind) → ◌≡◌ {A = Next} (Err what) (Err other) → what ≡ other
same_err what other e = cc

module _ (one : HasOneAnswer) (g : Geometry) (p : Placement) where
  pub leads_one : (ts : List Token) (s a b : State) → Leads g p s ts a → Leads g p s ts b → a ≡ b
  leads_one [] s a b h k = sym h ∙ k
  leads_one (t ∷ ts) s a b h k =
      let same : k.0 ≡ h.0 = same_ok k.0 h.0 (next_one one g p s.over t.what s t (Ok k.0) (Ok h.0) k.1 h.1) in
      leads_one ts h.0 a b h.2 (subst (λ x. Leads g p x ts b) same k.2)

  -- a token at fault does not lead on
  pub stopped : {A : Type 0} (ts : List Token) (t : Token) (more : List Token) (s a b : State) (what :
      MovetextFaultKind)
      → Leads g p s (ts ++ t ∷ more) a → Leads g p s ts b → IsNext g p b.over t.what b t (Err what) → A
  stopped [] t more s a b what h k fault =
      let here : IsNext g p s.over t.what s t (Err what) =
      subst (λ x. IsNext g p x.over t.what x t (Err what)) (sym k) fault in
      ok_err h.0 what (next_one one g p s.over t.what s t (Ok h.0) (Err what) h.1 here)
  stopped (u ∷ ts) t more s a b what h k fault =
      let same : k.0 ≡ h.0 = same_ok k.0 h.0 (next_one one g p s.over u.what s u (Ok k.0) (Ok h.0) k.1 h.1) in
      stopped ts t more h.0 a b what h.2 (subst (λ x. Leads g p x ts b) same k.2) fault

  -- two first faults of one row are the same
  pub fault_one : (ts us : List Token) (t u : Token) (more others : List Token) (s a b : State)
      (what other : MovetextFaultKind) → ts ++ t ∷ more ≡ us ++ u ∷ others → Leads g p s ts a
      → IsNext g p a.over t.what a t (Err what) → Leads g p s us b → IsNext g p b.over u.what b u (Err other)
      → (what ≡ other) × (t ≡ u)
  fault_one [] [] t u more others s a b what other e h x k y =
      let same : t ≡ u = cc in
      let here : IsNext g p s.over u.what s u (Err what) =
      subst (λ z. IsNext g p s.over z.what s z (Err what)) same
      (subst (λ z. IsNext g p z.over t.what z t (Err what)) (sym h) x) in
      let there : IsNext g p s.over u.what s u (Err other) =
      subst (λ z. IsNext g p z.over u.what z u (Err other)) (sym k) y in
      (same_err what other (next_one one g p s.over u.what s u (Err what) (Err other) here there), same)
  fault_one [] (v ∷ us) t u more others s a b what other e h x k y =
      let same : t ≡ v = cc in
      let here : IsNext g p s.over v.what s v (Err what) =
      subst (λ z. IsNext g p s.over z.what s z (Err what)) same
      (subst (λ z. IsNext g p z.over t.what z t (Err what)) (sym h) x) in
      ok_err k.0 what (next_one one g p s.over v.what s v (Ok k.0) (Err what) k.1 here)
  fault_one (w ∷ ts) [] t u more others s a b what other e h x k y =
      let same : u ≡ w = cc in
      let there : IsNext g p s.over w.what s w (Err other) =
      subst (λ z. IsNext g p s.over z.what s z (Err other)) same
      (subst (λ z. IsNext g p z.over u.what z u (Err other)) (sym k) y) in
      ok_err h.0 other (next_one one g p s.over w.what s w (Ok h.0) (Err other) h.1 there)
  fault_one (w ∷ ts) (v ∷ us) t u more others s a b what other e h x k y =
      let same : v ≡ w = cc in
      let rest : ts ++ t ∷ more ≡ us ++ u ∷ others = cc in
      let there : IsNext g p s.over w.what s w (Ok k.0) = subst (λ z. IsNext g p s.over z.what s z (Ok k.0)) same k.1 in
      let state : k.0 ≡ h.0 = same_ok k.0 h.0 (next_one one g p s.over w.what s w (Ok k.0) (Ok h.0) there h.1) in
      fault_one ts us t u more others h.0 a b what other rest h.2 x (subst (λ z. Leads g p z us b) state k.2) y

-- ---- the grammar leads on
front_last : (moves : List Move) (last : Move) → front (moves ++ last ∷ []) ≡ moves
front_last [] last = refl
front_last (m ∷ []) last = refl
front_last (m ∷ n ∷ moves) last = ap (λ x. m ∷ x) (front_last (n ∷ moves) last)

final_last : (m : Move) (moves : List Move) (last : Move) → final m (moves ++ last ∷ []) ≡ last
final_last m [] last = refl
final_last m (n ∷ moves) last = final_last n moves last

abbrev inside : State → ℕ → List Move → Move → Next
inside s room before last =
    Ok (within room (begins before last) 0 ((record { line = s.line; count = s.count }) ∷ s.outer) s.paths)

begun_on : (s : State) (room : ℕ) (kind : Kind) (before moves : List Move) (last : Move) (answer : Option (List Move))
    → begun s (suc room) (goes_on kind before (moves ++ last ∷ []) answer) ≡ inside s room (before ++ moves) last
begun_on s room kind before [] last answer = refl
begun_on s room kind before (m ∷ moves) last answer =
    ap (λ x. inside s room (before ++ x) (final m (moves ++ last ∷ []))) (front_last (m ∷ moves) last)
    ∙ ap (λ x. inside s room (before ++ (m ∷ moves)) x) (final_last m moves last)

pub begun_deep : (s : State) (kind : Kind) (before moves : List Move) (last : Move) (answer : Option (List Move))
    → begun s zero (goes_on kind before (moves ++ last ∷ []) answer) ≡ Err TooDeep
begun_deep s kind before [] last answer = refl
begun_deep s kind before (m ∷ moves) last answer = refl

module _ (g : Geometry) (p : Placement) where
  -- by the kind of the token
  pub as_kind : (over : Bool) (what : TokenKind) (s : State) (t : Token) (r : Next) → t.what ≡ what
      → IsNext g p over what s t r → IsNext g p over t.what s t r
  as_kind over what s t r e h = subst (λ x. IsNext g p over x s t r) (sym e) h

  pub leads_on : (ts us : List Token) (a b c : State) → Leads g p a ts b → Leads g p b us c → Leads g p a (ts ++ us) c
  leads_on [] us a b c h k = subst (λ x. Leads g p x us c) (sym h) k
  leads_on (t ∷ ts) us a b c h k = (h.0, h.1, leads_on ts us h.0 b c h.2 k)

  passed_on : (s : State) (t : Token) → s.over ≡ false → IsPassed t.what → IsNext g p s.over t.what s t (Ok s)
  passed_on s t e (inl is) = subst (λ x. IsNext g p x t.what s t (Ok s)) (sym e) (as_kind false Comment s t (Ok s) is
      refl)
  passed_on s t e (inr is) = subst (λ x. IsNext g p x t.what s t (Ok s)) (sym e) (as_kind false Passed s t (Ok s) is
      refl)

  -- by the line of a state
  pub went : (s : State) (t : Token) (o : Result Way MovetextFaultKind) → Goes g p s.line t o
      → IsNext g p false t.what s t (moved s o)
  went s t o is = as_kind false Written s t (moved s o) (goes_form g p s.line t o is).written (goes o is refl)

  pub begun_next : (room : ℕ) (kind : Kind) (before moves : List Move) (last : Move) (answer : Option (List Move))
      (count : ℕ) (outer : List Around) (paths : List (List Move)) (t : Token) → t.what ≡ Opens
      → IsNext g p false t.what
      (within (suc room) (goes_on kind before (moves ++ last ∷ []) answer) count outer paths) t
      (Ok (within room (begins (before ++ moves) last) 0
      ((record { line = goes_on kind before (moves ++ last ∷ []) answer; count = count }) ∷ outer) paths))
  begun_next room kind before moves last answer count outer paths t is =
      let s : State = within (suc room) (goes_on kind before (moves ++ last ∷ []) answer) count outer paths in
      as_kind false Opens s t (inside s room (before ++ moves) last) is
      (sym (begun_on s room kind before moves last answer))

  closed_next : (room : ℕ) (kind : Kind) (before moves : List Move) (answer : Option (List Move)) (inner : Line)
      (count many : ℕ) (outer : List Around) (paths : List (List Move)) (t : Token) → t.what ≡ Closes
      → IsNext g p false t.what (within room inner many
      ((record { line = goes_on kind before moves answer; count = count }) ∷ outer) paths) t
      (Ok (within (suc room) (goes_on kind before moves (answer_of inner many answer)) (count + many) outer paths))
  closed_next room kind before moves answer inner count many outer paths t is =
      as_kind false Closes (within room inner many
      ((record { line = goes_on kind before moves answer; count = count }) ∷ outer) paths) t
      (Ok (within (suc room) (goes_on kind before moves (answer_of inner many answer)) (count + many) outer paths)) is
      refl

  same_count : (room : ℕ) (line : Line) (count many : ℕ) (outer : List Around) (paths : List (List Move)) → count ≡ many
      → within room line count outer paths ≡ within room line many outer paths
  same_count room line count many outer paths e = ap (λ n. within room line n outer paths) e

  pub varied : {room : ℕ} {begin line : Line} {ts : List Token} {paths : List (List Move)}
      → IsLine g p room begin ts line paths → (count : ℕ) (outer : List Around) (old : List (List Move))
      → Leads g p (within room begin count outer old) ts
      (within room line (count + count_moves ts) outer (old ++ paths))
  varied {room = room} {begin = begin} empty count outer old =
      same_count room begin count (count + 0) outer old (omega arith)
      ∙ ap (within room begin (count + 0) outer) (sym (append-nil old))
  varied {room = room} {begin = begin} (passed {line = line} {ts = ts} {paths = paths} t v is) count outer old =
      let s : State = within room line (count + count_moves ts) outer (old ++ paths) in
      let same : s ≡ within room line (count + count_moves (ts ++ t ∷ [])) outer (old ++ paths) =
      same_count room line _ _ outer (old ++ paths) (omega (arith, counted_more ts t 0 (none_passed t.what is))) in
      leads_on ts (t ∷ []) (within room begin count outer old) s _ (varied v count outer old)
      (s, passed_on s t refl is, same)
  varied {room = room} {begin = begin} (move {line = line} {ts = ts} {paths = paths} {t = t} {kind = kind}
      {before = before} {moves = moves} {more = more} v follows) count outer old =
      let s : State = within room line (count + count_moves ts) outer (old ++ paths) in
      let w : Way = along kind before moves more in
      let new : List (List Move) = beginnings_after (before ++ moves) more in
      let same : with_move s w
      ≡ within room (goes_on kind before (moves ++ more) None) (count + count_moves (ts ++ t ∷ [])) outer
      (old ++ (paths ++ new)) =
      same_count room (goes_on kind before (moves ++ more) None) _ (count + count_moves (ts ++ t ∷ [])) outer
      ((old ++ paths) ++ new)
      (omega (arith, counted_more ts t 1 (one_written t.what (follows_form g p follows).written)))
      ∙ ap (within room (goes_on kind before (moves ++ more) None) (count + count_moves (ts ++ t ∷ [])) outer)
      (append_assoc old paths new) in
      leads_on ts (t ∷ []) (within room begin count outer old) s _ (varied v count outer old)
      (with_move s w, went s t (Ok w) follows, same)
  varied {begin = begin} (aside {room = room} {inner = inner} {ts = ts} {us = us} {paths = paths} {others = more}
      {kind = kind} {before = before} {answer = answer} moves last opening closing v o w c) count outer old =
      let many : ℕ = count + count_moves ts in
      let line : Line = goes_on kind before (moves ++ last ∷ []) answer in
      let there : Line = goes_on kind before (moves ++ last ∷ []) (answer_of inner (count_moves us) answer) in
      let around : List Around = (record { line = line; count = many }) ∷ outer in
      let s : State = within (suc room) line many outer (old ++ paths) in
      let begun_here : State = within room (begins (before ++ moves) last) 0 around (old ++ paths) in
      let behind_it : State = within room inner (count_moves us) around ((old ++ paths) ++ more) in
      let next : State = within (suc room) there (many + count_moves us) outer ((old ++ paths) ++ more) in
      let same : next
      ≡ within (suc room) there (count + count_moves (ts ++ opening ∷ (us ++ closing ∷ []))) outer
      (old ++ (paths ++ more)) =
      same_count (suc room) there _ (count + count_moves (ts ++ opening ∷ (us ++ closing ∷ []))) outer
      ((old ++ paths) ++ more) (omega (arith, counted_aside ts us opening closing o c))
      ∙ ap (within (suc room) there (count + count_moves (ts ++ opening ∷ (us ++ closing ∷ []))) outer)
      (append_assoc old paths more) in
      let within_it : Leads g p begun_here us behind_it =
      subst (λ n. Leads g p begun_here us (within room inner n around ((old ++ paths) ++ more)))
      (zero-add (count_moves us)) (varied w 0 around (old ++ paths)) in
      leads_on ts (opening ∷ (us ++ closing ∷ [])) (within (suc room) begin count outer old) s _
      (varied v count outer old) (
        begun_here,
        begun_next room kind before moves last answer many outer (old ++ paths) opening o,
        leads_on us (closing ∷ []) begun_here behind_it _ within_it (
          next,
          closed_next room kind before (moves ++ last ∷ []) answer inner many (count_moves us) outer
              ((old ++ paths) ++ more) closing c,
          same,
        ),
      )
