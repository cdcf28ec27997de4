-- What a reader makes of a token.
use Rattle.std.proofs.Common.{◌≡◌, ◌⊎◌, ℕ, zero, suc, ◌+◌, ◌<◌, ◌≤◌, Bool, true, false, List, [], ◌∷◌, ◌++◌, length}
use Rattle.std.proofs.Common.{Some, None, refl, sym, ap, subst, ◌∙◌, arith, append_assoc, append-nil, length-append}
use Rattle.std.proofs.Common.{inl}
use Rattle.std.proofs.Common.{inr, Ok, Err, Result}
use Rattle.std.specs.Prelude.{◌==◌, ◌%◌}
use Rattle.std.proofs.Math.Nat.{eq-or-lt_of_le}
use Rattle.std.proofs.lemmas.Bool.{cases_Bool, eqb-true, eq-eqb, true≢false}
use Rattle.dw_board.specs.Geometry.{Geometry}
use Rattle.dw_board.specs.Placement.{Placement}
use Rattle.dw_moves.specs.Moves.{Move, play, Legal, LegalAt, IsPathOf}
use Rattle.dw_notation.specs.MoveReading.{IsRead, IsAnswered, Named, QuietMove, Capture, Fits, FitsSquares}
use Rattle.dw_notation.specs.declared.read_move.MoveFault.{MoveFault}
use Rattle.dw_notation.specs.declared.read_move.MoveFault.TheVariants as reading
use Rattle.dw_games.specs.Tokens.{Token}
use Rattle.dw_games.specs.Play.{IsResult, IsMove, IsDefence, IsLeftOut, IsPassed, plain, after, beginnings_after}
use Rattle.dw_games.specs.Play.{StandsFor}
use Rattle.dw_games.specs.Play.{named, left_out, HasForm, IsRefused, no_such_move, ambiguous}
use Rattle.dw_games.specs.Play.{ambiguous_after_reply, no_reply, too_long}
use Rattle.dw_games.specs.Printed.{Kind, variation, reply as as_reply, Line, begins, goes_on, first_line}
use Rattle.dw_games.specs.Printed.{opens_variation, opens_reply, alone, by_play, after_reply, left_out_again}
use Rattle.dw_games.specs.Printed.{several, neither, not_alone, not_behind, empty, move, count_moves}
use Rattle.dw_games.specs.Movetext.{AreDistinct, nothing}
use Rattle.dw_games.specs.Faults.{IsOpen, FaultAt, IsUnreadable, HasNoMove, unreadable, refused}
use Rattle.dw_games.specs.Faults.{no_move_before, none_open, within, too_deep}
use Rattle.dw_games.specs.Walk.{PlayedTree, beginning_at, place_of, CanFollow}
use Rattle.dw_games.specs.inner.Noting.{IsNoted}
use Rattle.dw_games.specs.inner.Reading.{IsAfter}
use Rattle.dw_games.specs.inner.Reading.{IsCursor, IsBefore, IsOpenLine, is_reply, line_after}
use Rattle.dw_games.specs.inner.Reading.{outermost, HasRead, IsFaultOf, IsForcedOr, IsAt, moves_of, IsNoStep, IsStepAt}
use Rattle.dw_games.specs.inner.Reading.{IsMissedAt, IsFound, IsFoundOr, CanNote, CanNoteStep, HasNoted, HasNotedStep}
use Rattle.dw_games.specs.inner.Refusals.{refusal_of}
use Rattle.dw_games.specs.declared.tokens.TokenKind.TheVariants.{Written, Opens, Closes}
use Rattle.dw_games.specs.declared.movetext.TheConstants.{MAX_OPEN, MAX_PATH}
use Rattle.dw_games.specs.declared.fault.MovetextFaultKind.{MovetextFaultKind}
use Rattle.dw_games.specs.declared.fault.MovetextFaultKind.TheVariants.{Token as NoToken, Variation, Unclosed, TooDeep}
use Rattle.dw_games.specs.declared.fault.MovetextFaultKind.TheVariants.{TooLong, NoSuchMove, Ambiguous, Reply, Rest}
use Rattle.dw_games.specs.declared.fault.MovetextFaultKind.TheVariants.{TooLarge, Empty}
use Rattle.dw_games.specs.declared.fault.MovetextFault.{MovetextFault}
use Rattle.dw_games.specs.declared.fault.MovetextFault.TheVariants.{Refused, Memory}
use Rattle.dw_games.specs.declared.reader.Cursor.{Cursor}
use Rattle.dw_games.specs.declared.reader.Found.{Found}
use Rattle.dw_games.specs.declared.reader.Step.{Step}
use Rattle.dw_games.specs.declared.reader.Step.TheVariants.{Played, Forced}
use Rattle.dw_games.specs.declared.reader.OpenLine.{OpenLine}
use Rattle.dw_games.specs.declared.reader.Reader.{Reader}
use Rattle.dw_games.proofs.PlaceLemmas.{absent, same}
use Rattle.dw_games.proofs.PrintedLemmas.{stands_form, refused_form, odd_room, follows_form, counted_more}
use Rattle.dw_games.proofs.PrintedLemmas.{one_written, IsCounted, IsShort}
use Rattle.dw_games.proofs.ReadingLemmas.{opened_open, opened_line, opened_room, opened_short, read_passed, read_opens}
use Rattle.dw_games.proofs.ReadingLemmas.{read_closes, none_around, line_on, opened_kept, cursor_kept, noted_kept}
use Rattle.dw_games.proofs.ReadingLemmas.{distinct_noted, after_append, parenthesis}

one_less : (n : ℕ) → 0 < n → (m : ℕ) × (n ≡ suc m)
one_less zero h = absurd (omega (arith, h))
one_less (suc n) h = (n, refl)

-- ---- more than one
no_two : {A : Type 0} (n : ℕ) → 1 < n → (n == 1) ≡ true → A
no_two n low is = let e = eqb-true n 1 is in absurd (omega (arith, e, low))

not_one : (n : ℕ) → 1 < n → (n == 1) ≡ false
not_one n low = elim (cases_Bool (n == 1)) [ inl is ↦ no_two n low is | inr other ↦ other ]

-- a line whose last move is not known has none
no_move : {B : Type 0} (g : Geometry) (p : Placement) (tree : List (List Move)) (now : OpenLine B) (line : Line)
    → IsOpenLine g p tree now line → now.before ≡ None → HasNoMove line
no_move g p tree now (begins front last) h e = tt
no_move g p tree now (goes_on kind before moves answer) h e =
    subst (λ x. IsBefore g p tree x before moves) e h.earlier

-- at most 40 parentheses are open
deep : {B : Type 0} (g : Geometry) (p : Placement) (tree : List (List Move)) (room : ℕ) (ts : List Token)
    (now : OpenLine B) (line : Line) (cursor : Cursor B) (t : Token) → IsOpen g p room ts line → room ≡ zero
    → IsOpenLine g p tree now line → now.before ≡ Some cursor → t.what ≡ Opens → FaultAt g p ts t TooDeep
deep g p tree room ts now (begins front last) cursor t o none h e is = absent cursor (sym h.none ∙ e)
deep g p tree room ts now (goes_on kind before moves answer) cursor t o none h e is =
    let early : IsBefore g p tree (Some cursor) before moves =
    subst (λ x. IsBefore g p tree x before moves) e h.earlier in
    too_deep early.0 early.1 (subst (λ x. IsOpen g p zero ts (goes_on kind before x answer)) early.2
    (subst (λ x. IsOpen g p x ts (goes_on kind before moves answer)) none o)) is

module _ {B : Type 0} (g : Geometry) (p : Placement) (ts : List Token) (r : Reader B) (h : HasRead g p ts r)
    (t : Token) where
  abbrev opened_now : IsOpen g p h.room ts h.line
  opened_now = opened_open g p r.tree.paths h.opened

  pub taken_passed : IsPassed t.what → HasRead g p (ts ++ t ∷ []) r
  taken_passed is = record {
    room = h.room;
    line = h.line;
    paths = h.paths;
    start = h.start;
    opened = read_passed g p r.tree.paths t h.opened is;
    distinct = h.distinct;
  }

  pub fault_unreadable : IsUnreadable g t → FaultAt g p ts t NoToken
  fault_unreadable is = unreadable opened_now is

  pub fault_within : IsResult t → 0 < length r.outer.items → FaultAt g p ts t Unclosed
  fault_within is some =
      let room = opened_room g p r.tree.paths h.opened in within opened_now (omega (arith, room, some)) is

  -- ---- parentheses
  pub fault_no_move : r.line.before ≡ None → t.what ≡ Opens → FaultAt g p ts t Variation
  fault_no_move none is =
      no_move_before opened_now (no_move g p r.tree.paths r.line h.line (opened_line g p r.tree.paths h.opened) none) is

  pub fault_deep : (cursor : Cursor B) → r.line.before ≡ Some cursor → MAX_OPEN ≤ length r.outer.items → t.what ≡ Opens
      → FaultAt g p ts t TooDeep
  fault_deep cursor e full is =
      let room = opened_room g p r.tree.paths h.opened in
      deep g p r.tree.paths h.room ts r.line h.line cursor t opened_now (omega (arith, room, full))
      (opened_line g p r.tree.paths h.opened) e is

  pub taken_opens : (next : Reader B) (cursor : Cursor B) → r.line.before ≡ Some cursor → length r.outer.items <
      MAX_OPEN → t.what ≡ Opens → next.tree ≡ r.tree → next.line ≡ parenthesis g p r.tree.paths cursor r.line
      → next.outer.items ≡ r.outer.items ++ r.line ∷ [] → HasRead g p (ts ++ t ∷ []) next
  taken_opens next cursor e fits is tree line outer =
      let room = opened_room g p r.tree.paths h.opened in
      let left = one_less h.room (omega (arith, room, fits)) in
      let opened = read_opens g p r.tree.paths left.0 h.line t cursor h.opened left.1 is e in
      record {
        room = left.0;
        line = opened.0;
        paths = h.paths;
        start = rw tree h.start;
        opened = rw (tree, line, outer) opened.1;
        distinct = rw tree h.distinct;
      }

  pub fault_none_open : r.outer.items ≡ [] → t.what ≡ Closes → FaultAt g p ts t Variation
  fault_none_open none is = none_open (none_around g p r.tree.paths h.opened none) is

  pub taken_closes : (next : Reader B) (around : OpenLine B) → r.outer.items ≡ next.outer.items ++ around ∷ []
      → t.what ≡ Closes → next.tree ≡ r.tree → next.line ≡ line_after around r.line → HasRead g p (ts ++ t ∷ []) next
  taken_closes next around outer is tree line =
      let opened = read_closes g p r.tree.paths t next.outer.items around h.opened outer is in
      record {
        room = suc h.room;
        line = opened.0;
        paths = h.paths;
        start = rw tree h.start;
        opened = rw (tree, line) opened.1;
        distinct = rw tree h.distinct;
      }

  -- ---- moves
  pub fault_found : (why : MovetextFault) → IsFoundOr {B = B} g p r.tree.paths h.line t (Err why)
      → IsFaultOf g p ts t why
  fault_found (Refused what place) (inl is, there) =
      (subst (λ x. FaultAt g p ts t x) (sym is.0) (fault_unreadable (inr (inr is.1))), there)
  fault_found (Refused what place) (inr is, there) = (refused opened_now is, there)
  fault_found Memory is = tt

  single_now : (now : OpenLine B) (line : Line) (is_begun : Bool) (us : List Token)
      → IsOpenLine g p r.tree.paths now line
      → ((after : Cursor B) → now.behind ≡ Some after → is_begun ≡ true) → (now.behind ≡ None → is_begun ≡ false)
      → t.what ≡ Written → IsCounted line (count_moves us) → is_begun ≡ (count_moves (us ++ t ∷ []) == 1)
  single_now now (begins front last) is_begun us k some none is many =
      some k.after k.behind ∙ sym (eq-eqb (count_moves (us ++ t ∷ [])) 1
      (omega (arith, many, counted_more us t 1 (one_written t.what is))))
  single_now now (goes_on kind before moves answer) is_begun us k some none is many =
      none k.behind ∙ sym (not_one (count_moves (us ++ t ∷ []))
      (omega (arith, many, counted_more us t 1 (one_written t.what is))))

  pub taken_move : (next : Reader B) (found : Found B) (before now : Cursor B) (is_begun : Bool)
      → (f : IsFound g p r.tree.paths h.line t found)
      → HasNotedStep g r.tree next.tree (f.before ++ f.moves) (moves_of found.step) before now
      → ((after : Cursor B) → r.line.behind ≡ Some after → is_begun ≡ true)
      → (r.line.behind ≡ None → is_begun ≡ false)
      → next.line ≡ record {
        now = now;
        before = Some before;
        behind = None;
        answer = None;
        is_reply = found.is_reply;
        is_single = is_begun;
      } → next.outer.items ≡ r.outer.items → HasRead g p (ts ++ t ∷ []) next
  taken_move next found before now is_begun f n some none line outer =
      let more : List Move = moves_of found.step in
      let there : Line = goes_on f.kind f.before (f.moves ++ more) None in
      let start : next.tree.start ≡ p = n.start ∙ h.start in
      let at_now : IsCursor g p next.tree.paths now ((f.before ++ f.moves) ++ more) =
      subst (λ q. IsCursor g q next.tree.paths now ((f.before ++ f.moves) ++ more)) h.start n.now in
      let at_before : IsCursor g p next.tree.paths before ((f.before ++ f.moves) ++ n.front) =
      subst (λ q. IsCursor g q next.tree.paths before ((f.before ++ f.moves) ++ n.front)) h.start n.before in
      record {
        room = h.room;
        line = there;
        paths = h.paths ++ beginnings_after (f.before ++ f.moves) more;
        start = start;
        opened =
            rw (line, outer) (line_on g p next.tree.paths _ (t ∷ []) there
            (beginnings_after (f.before ++ f.moves) more) (opened_kept g p r.tree.paths next.tree.paths n.kept h.opened)
            (λ begin us ps v. move v f.follows) (record {
              now = subst (λ z. IsCursor g p next.tree.paths now z) (append_assoc f.before f.moves more) at_now;
              earlier = (
                f.moves ++ n.front,
                n.last,
                ap (λ z. f.moves ++ z) n.is ∙ sym (append_assoc f.moves n.front (n.last ∷ [])),
                subst (λ z. IsCursor g p next.tree.paths before z) (append_assoc f.before f.moves n.front) at_before,
              );
              behind = refl;
              answered = tt;
              told = f.is_reply;
            }) (λ us many single.
            single_now r.line h.line is_begun us (opened_line g p r.tree.paths h.opened) some none
            (follows_form g p f.follows).written many));
        distinct = n.distinct h.paths h.distinct;
      }

-- ---- noting moves
-- a legal move can be noted in the tree of a reader
pub note_ready : {B : Type 0} (g : Geometry) (tree : PlayedTree) (from : Cursor B) (m : Move) (then : Placement)
    → CanNote g tree from m → then ≡ play g from.position m
    → (b : List Move) × (beginning_at tree.paths (place_of from.node) ≡ Some b) × CanFollow g tree.start b m
    × (then ≡ play g (after g tree.start b) m)
note_ready g tree from m then c played = (
  c.path,
  c.cursor.there,
  record {
    legal = subst (λ x. Legal g x m) c.cursor.position c.legal;
    short = omega (arith, c.short, c.cursor.many);
  },
  played ∙ ap (λ x. play g x m) c.cursor.position,
)

pub noted_there : {B : Type 0} (g : Geometry) (old new : PlayedTree) (from to : Cursor B) (path : List Move) (m : Move)
    → IsCursor g old.start old.paths from path → new.start ≡ old.start
    → IsNoted old.paths (path ++ m ∷ []) new.paths
    → beginning_at new.paths (place_of to.node) ≡ Some (path ++ m ∷ [])
    → to.position ≡ play g from.position m → to.moves ≡ from.moves + 1 → HasNoted g old new path m to
noted_there g old new from to path m c start noted there position many = record {
  start = start;
  noted = noted;
  there = record {
    there = there;
    position =
        position ∙ (ap (λ x. play g x m) c.position ∙ sym (after_append g old.start path m));
    many = many ∙ (ap (λ n. n + 1) c.many ∙ sym (length-append path (m ∷ [])));
  };
}

-- after one move
pub noted_one : {B : Type 0} (g : Geometry) (old new : PlayedTree) (from to : Cursor B) (path : List Move) (m : Move)
    → IsCursor g old.start old.paths from path → HasNoted g old new path m to
    → HasNotedStep g old new path (m ∷ []) from to
noted_one g old new from to path m c n =
    let keeps = noted_kept old.paths new.paths (path ++ m ∷ []) n.noted in
    record {
      start = n.start;
      distinct = λ paths d. distinct_noted paths old.paths new.paths (path ++ m ∷ []) d n.noted;
      kept = keeps;
      now = n.there;
      front = [];
      last = m;
      is = refl;
      before =
          subst (λ z. IsCursor g old.start new.paths from z) (sym (append-nil path))
          (cursor_kept g old.start old.paths new.paths keeps from path c);
    }

-- and after another one
pub noted_two : {B : Type 0} (g : Geometry) (old mid new : PlayedTree) (from middle to : Cursor B) (path : List Move)
    (answer m : Move) → HasNoted g old mid path answer middle → HasNoted g mid new (path ++ answer ∷ []) m to
    → HasNotedStep g old new path (answer ∷ m ∷ []) middle to
noted_two g old mid new from middle to path answer m n k =
    let one : List Move = path ++ answer ∷ [] in
    let keeps = noted_kept old.paths mid.paths one n.noted in
    let keeps_on = noted_kept mid.paths new.paths (one ++ m ∷ []) k.noted in
    let whole : one ++ m ∷ [] ≡ path ++ (answer ∷ m ∷ []) = append_assoc path (answer ∷ []) (m ∷ []) in
    record {
      start = k.start ∙ n.start;
      distinct = λ paths d.
          subst (λ z. AreDistinct z new.paths) (append_assoc paths (one ∷ []) ((one ++ m ∷ []) ∷ []))
          (distinct_noted (paths ++ one ∷ []) mid.paths new.paths (one ++ m ∷ [])
          (distinct_noted paths old.paths mid.paths one d n.noted) k.noted);
      kept = λ node b e. keeps_on node b (keeps node b e);
      now =
          subst (λ z. IsCursor g old.start new.paths to z) whole
          (subst (λ q. IsCursor g q new.paths to (one ++ m ∷ [])) n.start k.there);
      front = answer ∷ [];
      last = m;
      is = refl;
      before = cursor_kept g old.start mid.paths new.paths keeps_on middle one n.there;
    }

-- the second move can be noted after the first
pub next_ready : {B : Type 0} (g : Geometry) (old mid : PlayedTree) (from middle : Cursor B) (path : List Move)
    (answer m : Move) → IsCursor g old.start old.paths from path → HasNoted g old mid path answer middle
    → Legal g (play g from.position answer) m → from.moves + 1 < MAX_PATH → CanNote g mid middle m
next_ready g old mid from middle path answer m c n legal low = record {
  path = path ++ answer ∷ [];
  cursor = subst (λ q. IsCursor g q mid.paths middle (path ++ answer ∷ [])) (sym n.start) n.there;
  legal =
      subst (λ z. Legal g z m) (ap (λ z. play g z answer) c.position
      ∙ (sym (after_append g old.start path answer) ∙ sym n.there.position)) legal;
  short = omega (arith, low, c.many, n.there.many, length-append path (answer ∷ []));
}

-- ---- what fits a text is a legal move
legal_at : (g : Geometry) (p : Placement) (m : Move) (k : ℕ) → 0 < k → (landings : List ℕ) → IsPathOf g p m k landings
    → LegalAt g p k m
legal_at g p m zero some landings h = absurd (omega (arith, some))
legal_at g p m (suc k) some landings h = (landings, h)

squares_legal : (g : Geometry) (p : Placement) (squares : List ℕ) (m : Move) → FitsSquares g p squares m → Legal g p m
squares_legal g p [] m h = absurd h
squares_legal g p (s ∷ []) m h = absurd h
squares_legal g p (s ∷ u ∷ []) m h = h.0
squares_legal g p (s ∷ u ∷ v ∷ squares) m h = (h.most, h.best, legal_at g p m h.most h.some h.landings h.leads)

pub fits_legal : (g : Geometry) (p : Placement) (named : Named) (m : Move) → Fits g p named m → Legal g p m
fits_legal g p (QuietMove from to) m h = h.0
fits_legal g p (Capture squares) m h = squares_legal g p squares m h

pub read_legal : (g : Geometry) (p : Placement) (text : List ℕ) (m : Move) → IsRead g p text (Ok m) → Legal g p m
read_legal g p text m h = fits_legal g p h.named m h.answers.fits

-- ---- what a token stands for
abbrev Named-case : Geometry → Placement → List Move → Token → List Move → Type 0
Named-case g p path t more = (m : Move) × (more ≡ m ∷ []) × (length path < MAX_PATH) × IsMove g (after g p path) t m

abbrev Left-case : Geometry → Placement → List Move → Token → List Move → Type 0
Left-case g p path t more = (answer m : Move) × (more ≡ answer ∷ m ∷ []) × (length path < MAX_PATH) × IsDefence path
    × IsLeftOut g (after g p path) t answer m

stands_case : (g : Geometry) (p : Placement) {path more : List Move} {t : Token} → StandsFor g p path t more
    → Named-case g p path t more ⊎ Left-case g p path t more
stands_case g p (named {m = m} low is) = inl (m, refl, low, is)
stands_case g p (left_out {reply = r} {m = m} low odd is) = inr (r, m, refl, low, odd, is)

one_is : (m n : Move) → ◌≡◌ {A = List Move} (m ∷ []) (n ∷ []) → n ≡ m
one_is m n e = cc

first_is : (a m b n : Move) → ◌≡◌ {A = List Move} (a ∷ m ∷ []) (b ∷ n ∷ []) → b ≡ a
first_is a m b n e = cc

second_is : (a m b n : Move) → ◌≡◌ {A = List Move} (a ∷ m ∷ []) (b ∷ n ∷ []) → n ≡ m
second_is a m b n e = cc

one_two : {A : Type 0} (m b n : Move) → ◌≡◌ {A = List Move} (m ∷ []) (b ∷ n ∷ []) → A
one_two m b n e = cc

two_one : {A : Type 0} (a m n : Move) → ◌≡◌ {A = List Move} (a ∷ m ∷ []) (n ∷ []) → A
two_one a m n e = cc

module _ {B : Type 0} (g : Geometry) (p : Placement) (tree : PlayedTree) (start : tree.start ≡ p) (t : Token) where
  can_first : (from : Cursor B) (path : List Move) (m : Move) → IsCursor g p tree.paths from path
      → Legal g (after g p path) m → length path < MAX_PATH → CanNote g tree from m
  can_first from path m c legal low = record {
    path = path;
    cursor = subst (λ q. IsCursor g q tree.paths from path) (sym start) c;
    legal = subst (λ z. Legal g z m) (sym c.position) legal;
    short = omega (arith, low, c.many);
  }

  can_step : (from : Cursor B) (step : Step B) (path : List Move) → IsCursor g p tree.paths from path
      → StandsFor g p path t (moves_of step) → CanNoteStep g tree from step
  can_step from (Played m) path c stands = elim (stands_case g p stands) [
    | inl is ↦
        let same : is.0 ≡ m = one_is m is.0 is.1 in
        can_first from path m c (subst (λ z. Legal g (after g p path) z) same (read_legal g (after g p path)
        (plain t.text) is.0 is.3.named)) is.2
    | inr is ↦ one_two m is.0 is.1 is.2
  ]
  can_step from (Forced answer m) path c stands = elim (stands_case g p stands) [
    | inl is ↦ two_one answer m is.0 is.1
    | inr is ↦
        let a : is.0 ≡ answer = first_is answer m is.0 is.1 is.2 in
        let b : is.1 ≡ m = second_is answer m is.0 is.1 is.2 in
        let legal : Legal g (play g (after g p path) is.0) is.1 =
        read_legal g (play g (after g p path) is.0) (plain t.text) is.1 is.5.next.named in
        let room = odd_room (length path) is.3 is.4 in (
          can_first from path answer c (subst (λ z. Legal g (after g p path) z) a is.5.only.legal) is.3,
          subst (λ z. Legal g (play g from.position answer) z) b
              (subst (λ z. Legal g (play g z answer) is.1) (sym c.position)
              (subst (λ z. Legal g (play g (after g p path) z) is.1) a legal)),
          omega (arith, room, c.many),
        )
  ]

  pub can_note : {line : Line} (found : Found B) → IsFound g p tree.paths line t found
      → CanNoteStep g tree found.from found.step
  can_note found f = can_step found.from found.step (f.before ++ f.moves) f.from f.stands

-- ---- at a place
module _ {B : Type 0} (g : Geometry) (p : Placement) (path : List Move) (t : Token) (place : Cursor B)
    (h : IsAt g p place path) (written : t.what ≡ Written) (no_result : IsResult t → ⊥) where
  here : (answer : Result Move MoveFault) → IsRead g place.position (plain t.text) answer
      → IsRead g (after g p path) (plain t.text) answer
  here answer read = subst (λ x. IsRead g x (plain t.text) answer) h.position read

  form_of : {answer : Result Move MoveFault} (q : Placement) → IsAnswered g q (plain t.text) answer → HasForm g t
  form_of q a = record {
    written = written;
    no_result = no_result;
    named = a.named;
    form = a.names;
  }

  pub step_named : (m : Move) → IsRead g place.position (plain t.text) (Ok m) → place.moves < MAX_PATH
      → StandsFor g p path t (m ∷ [])
  step_named m read low = named (omega (arith, low, h.many)) (record {
    written = written;
    no_result = no_result;
    named = here (Ok m) read;
  })

  pub named_move : (m : Move) → IsRead g place.position (plain t.text) (Ok m) → IsMove g (after g p path) t m
  named_move m read = record { written = written; no_result = no_result; named = here (Ok m) read }

  form_long : HasForm g t → place.moves ≤ MAX_PATH → MAX_PATH ≤ place.moves → IsNoStep g p path t TooLong
  form_long form room long = inr (too_long (omega (arith, room, long, h.many)) form)

  pub step_long : (m : Move) → IsRead g place.position (plain t.text) (Ok m) → place.moves ≤ MAX_PATH
      → MAX_PATH ≤ place.moves → IsNoStep g p path t TooLong
  step_long m read room long = form_long (form_of place.position read) room long

  pub missed_refused : (why : MoveFault) (full : Bool) → IsRead g place.position (plain t.text) (Err why)
      → place.moves ≤ MAX_PATH → (full ≡ true → MAX_PATH ≤ place.moves) → (full ≡ false → place.moves < MAX_PATH)
      → ((why ≡ reading.NoSuchMove) × (full ≡ false) × (place.moves % 2 ≡ 1) → ⊥)
      → IsMissedAt {B = B} g p path t (Err (refusal_of t.place full why))
  missed_refused reading.Syntax full read room long low left = (
    inl (
      refl,
      record {
        written = written;
        no_result = no_result;
        no_form = λ f. read f.named f.form;
      },
    ),
    refl,
  )
  missed_refused reading.NoSuchMove true read room long low left =
      (form_long (form_of place.position read) room (long refl), refl)
  missed_refused reading.NoSuchMove false read room long low left = (
    inr (no_such_move (omega (arith, low refl, h.many)) (record {
      form = form_of place.position read;
      refused = here (Err reading.NoSuchMove) read;
    }) (λ odd. absurd (left (refl, refl, ap (λ n. n % 2) h.many ∙ odd)))),
    refl,
  )
  missed_refused reading.Ambiguous true read room long low left =
      (form_long (form_of place.position read) room (long refl), refl)
  missed_refused reading.Ambiguous false read room long low left = (
    inr (ambiguous (omega (arith, low refl, h.many)) (record {
      form = form_of place.position read;
      refused = here (Err reading.Ambiguous) read;
    })),
    refl,
  )
  missed_refused reading.Memory full read room long low left = tt

  -- the fault of a token of the defender's turn
  forced_fault : (why : MovetextFault) → IsRefused g (after g p path) t reading.NoSuchMove → length path < MAX_PATH
      → IsDefence path → IsForcedOr {B = B} g (after g p path) t (Err why) → IsMissedAt {B = B} g p path t (Err why)
  forced_fault (Refused NoSuchMove there) none low odd is = (inr (no_such_move low none (λ _. is.0)), is.1)
  forced_fault (Refused Ambiguous there) none low odd is =
      (inr (ambiguous_after_reply is.0 low odd none is.1 is.2), is.3)
  forced_fault (Refused Reply there) none low odd is = (inr (no_reply is.0 low odd none is.1 is.2 is.3), is.4)
  forced_fault Memory none low odd is = tt
  forced_fault (Refused NoToken there) none low odd is = absurd is
  forced_fault (Refused Variation there) none low odd is = absurd is
  forced_fault (Refused Unclosed there) none low odd is = absurd is
  forced_fault (Refused Rest there) none low odd is = absurd is
  forced_fault (Refused TooDeep there) none low odd is = absurd is
  forced_fault (Refused TooLong there) none low odd is = absurd is
  forced_fault (Refused TooLarge there) none low odd is = absurd is
  forced_fault (Refused Empty there) none low odd is = absurd is

  pub missed_forced : IsRead g place.position (plain t.text) (Err reading.NoSuchMove) → place.moves < MAX_PATH
      → place.moves % 2 ≡ 1 → (result : Result (Step B) MovetextFault) → IsForcedOr g place.position t result
      → IsMissedAt g p path t result
  missed_forced read low odd (Ok (Played m)) is = absurd is
  missed_forced read low odd (Ok (Forced x m)) is =
      let q : Placement = after g p path in
      let there : IsForcedOr {B = B} g q t (Ok (Forced x m)) =
      subst (λ z. IsForcedOr {B = B} g z t (Ok (Forced x m))) h.position is in (
        omega (arith, low, h.many),
        ap (λ n. n % 2) (sym h.many) ∙ odd,
        record {
          none = here (Err reading.NoSuchMove) read;
          only = there.0;
          next = record { written = written; no_result = no_result; named = there.1 };
        },
      )
  missed_forced read low odd (Err why) is =
      forced_fault why (record {
        form = form_of place.position read;
        refused = here (Err reading.NoSuchMove) read;
      }) (omega (arith, low, h.many)) (ap (λ n. n % 2) (sym h.many) ∙ odd)
      (subst (λ z. IsForcedOr {B = B} g z t (Err why)) h.position is)

pub missed_step : {B : Type 0} (g : Geometry) (p : Placement) (path : List Move) (t : Token)
    (result : Result (Step B) MovetextFault) → IsMissedAt g p path t result → IsStepAt g p path t result
missed_step g p path t (Ok (Played m)) is = absurd is
missed_step g p path t (Ok (Forced answer m)) is = left_out is.0 is.1 is.2
missed_step g p path t (Err (Refused what place)) is = is
missed_step g p path t (Err Memory) is = tt

-- ---- where a token goes on
pub at_cursor : {B : Type 0} {g : Geometry} {p : Placement} {tree : List (List Move)} {cursor : Cursor B}
    {path : List Move} → IsCursor g p tree cursor path → IsAt g p cursor path
at_cursor c = record { position = c.position; many = c.many }

named_none : {A : Type 0} (g : Geometry) (q : Placement) (t : Token) (why : MoveFault) → HasForm g t
    → IsRead g q (plain t.text) (Err why) → (why ≡ reading.Memory → ⊥)
    → (IsRead g q (plain t.text) (Err reading.NoSuchMove) ⊎ IsRead g q (plain t.text) (Err reading.Ambiguous) → A) → A
named_none g q t reading.Syntax form read kept on = absurd (read form.named form.form)
named_none g q t reading.NoSuchMove form read kept on = on (inl read)
named_none g q t reading.Ambiguous form read kept on = on (inr read)
named_none g q t reading.Memory form read kept on = absurd (kept refl)

module _ (B : Type 0) (g : Geometry) (p : Placement) (tree : List (List Move)) (t : Token) where
  -- the line goes on with no reply before it
  pub found_alone : (from : Cursor B) (step : Step B) (told : Bool) (kind : Kind) (before moves : List Move)
      → IsCursor g p tree from (before ++ moves) → told ≡ is_reply kind
      → StandsFor g p (before ++ moves) t (moves_of step)
      → IsFound g p tree (goes_on kind before moves None) t (record { from = from; step = step; is_reply = told })
  found_alone from step told kind before moves c same stands = record {
    kind = kind;
    before = before;
    moves = moves;
    follows = alone stands;
    stands = stands;
    from = c;
    is_reply = same;
  }

  pub fault_alone : (kind : Kind) (before moves : List Move) (why : MovetextFault)
      → IsStepAt {B = B} g p (before ++ moves) t (Err why)
      → IsFoundOr {B = B} g p tree (goes_on kind before moves None) t (Err why)
  fault_alone kind before moves (Refused what place) is = (
    elim is.0 [ inl none ↦ inl none | inr bad ↦ inr (not_alone bad) ],
    is.1,
  )
  fault_alone kind before moves Memory is = tt

  -- the first move token in parentheses
  pub found_variation : (from : Cursor B) (m : Move) (front : List Move) (last : Move)
      → IsCursor g p tree from front → StandsFor g p front t (m ∷ []) → IsMove g (after g p front) t m
      → IsFound g p tree (begins front last) t (record { from = from; step = Played m; is_reply = false })
  found_variation from m front last c stands is = record {
    kind = variation;
    before = front;
    moves = [];
    follows = opens_variation is;
    stands = subst (λ z. StandsFor g p z t (m ∷ [])) (sym (append-nil front)) stands;
    from = subst (λ z. IsCursor g p tree from z) (sym (append-nil front)) c;
    is_reply = refl;
  }

  pub found_reply : (from : Cursor B) (step : Step B) (front : List Move) (last : Move)
      → IsCursor g p tree from (front ++ last ∷ []) → IsRead g (after g p front) (plain t.text) (Err reading.NoSuchMove)
      → StandsFor g p (front ++ last ∷ []) t (moves_of step)
      → IsFound g p tree (begins front last) t (record { from = from; step = step; is_reply = true })
  found_reply from step front last c none stands = record {
    kind = as_reply;
    before = front ++ last ∷ [];
    moves = [];
    follows = opens_reply none stands;
    stands =
        subst (λ z. StandsFor g p z t (moves_of step)) (sym (append-nil (front ++ last ∷ []))) stands;
    from = subst (λ z. IsCursor g p tree from z) (sym (append-nil (front ++ last ∷ []))) c;
    is_reply = refl;
  }

  pub fault_reply : (front : List Move) (last : Move) (why : MovetextFault)
      → IsRead g (after g p front) (plain t.text) (Err reading.NoSuchMove)
      → IsStepAt {B = B} g p (front ++ last ∷ []) t (Err why)
      → IsFoundOr {B = B} g p tree (begins front last) t (Err why)
  fault_reply front last (Refused what place) none is = (
    elim is.0 [ inl bad ↦ inl bad | inr bad ↦ inr (neither none bad) ],
    is.1,
  )
  fault_reply front last Memory none is = tt

  -- a token without the form of a move, or of several moves
  pub fault_formless : (line : Line) (q : Placement) → t.what ≡ Written → (IsResult t → ⊥)
      → IsRead g q (plain t.text) (Err reading.Syntax)
      → IsFoundOr {B = B} g p tree line t (Err (Refused NoToken t.place))
  fault_formless line q written no_result read = (
    inl (
      refl,
      record {
        written = written;
        no_result = no_result;
        no_form = λ f. read f.named f.form;
      },
    ),
    refl,
  )

  pub fault_several : (front : List Move) (last : Move) → t.what ≡ Written → (IsResult t → ⊥)
      → IsRead g (after g p front) (plain t.text) (Err reading.Ambiguous)
      → IsFoundOr {B = B} g p tree (begins front last) t (Err (Refused Ambiguous t.place))
  fault_several front last written no_result read = (
    inr (several (record {
      form = record { written = written; no_result = no_result; named = read.named; form = read.names };
      refused = read;
    })),
    refl,
  )

  -- a reply is before it
  module _ (kind : Kind) (before moves answers : List Move) where
    pub found_by_play : (from : Cursor B) (m : Move) (told : Bool) → IsCursor g p tree from (before ++ moves)
        → told ≡ is_reply kind → length (before ++ moves) < MAX_PATH → IsMove g (after g p (before ++ moves)) t m
        → IsFound g p tree (goes_on kind before moves (Some answers)) t (record {
          from = from;
          step = Played m;
          is_reply = told;
        })
    found_by_play from m told c same low is = record {
      kind = kind;
      before = before;
      moves = moves;
      follows = by_play low is;
      stands = named low is;
      from = c;
      is_reply = same;
    }

    pub found_after : (from : Cursor B) (step : Step B) (told : Bool) (why : MoveFault)
        → IsCursor g p tree from (before ++ (moves ++ answers)) → told ≡ is_reply kind
        → IsRead g (after g p (before ++ moves)) (plain t.text) (Err why) → (why ≡ reading.Memory → ⊥)
        → StandsFor g p (before ++ (moves ++ answers)) t (moves_of step)
        → IsFound g p tree (goes_on kind before moves (Some answers)) t (record {
          from = from;
          step = step;
          is_reply = told;
        })
    found_after from step told why c same read kept stands =
        named_none g (after g p (before ++ moves)) t why (stands_form g p stands) read kept (λ none. record {
          kind = kind;
          before = before;
          moves = moves ++ answers;
          follows = after_reply none stands;
          stands = stands;
          from = c;
          is_reply = same;
        })

    pub found_again : (from : Cursor B) (step : Step B) (told : Bool) (what : MovetextFaultKind) (place : ℕ)
        → IsCursor g p tree from (before ++ moves) → told ≡ is_reply kind
        → IsStepAt {B = B} g p (before ++ (moves ++ answers)) t (Err (Refused what place))
        → IsMissedAt g p (before ++ moves) t (Ok step)
        → IsFound g p tree (goes_on kind before moves (Some answers)) t (record {
          from = from;
          step = step;
          is_reply = told;
        })
    found_again from (Played m) told what place c same bad is = absurd is
    found_again from (Forced answer m) told what place c same bad is =
        let stands : StandsFor g p (before ++ moves) t (answer ∷ m ∷ []) = left_out is.0 is.1 is.2 in
        elim bad.0 [
          | inl none ↦ absurd (none.1.no_form (stands_form g p stands))
          | inr refused_ ↦ record {
            kind = kind;
            before = before;
            moves = moves;
            follows = left_out_again refused_ is.0 is.1 is.2;
            stands = stands;
            from = c;
            is_reply = same;
          }
        ]

    pub fault_behind : (what other : MovetextFaultKind) (place there : ℕ)
        → IsStepAt {B = B} g p (before ++ (moves ++ answers)) t (Err (Refused what place))
        → IsMissedAt {B = B} g p (before ++ moves) t (Err (Refused other there))
        → IsFoundOr {B = B} g p tree (goes_on kind before moves (Some answers)) t (Err (Refused what place))
    fault_behind what other place there bad is = (
      elim bad.0 [
        | inl none ↦ inl none
        | inr behind ↦ elim is.0 [
          | inl none ↦ absurd (none.1.no_form (refused_form g p behind))
          | inr here_too ↦ inr (not_behind here_too behind)
        ]
      ],
      bad.1,
    )

-- ---- how many may be open
pub full_length : (n : ℕ) → true ≡ (n == 40) → 40 ≤ n
full_length n e = let is = eqb-true n 40 (sym e) in omega (arith, is)

pub not_full : (n : ℕ) → false ≡ (n == 40) → n ≤ 40 → n < 40
not_full n e le = elim (eq-or-lt_of_le le) [ inl is ↦ absurd (true≢false (sym (eq-eqb n 40 is) ∙ sym e)) | inr lt ↦ lt ]

pub none_left : {A : Type 0} (xs : List A) → (0 < length xs → false ≡ true) → xs ≡ []
none_left [] h = refl
none_left (x ∷ xs) h = absurd (true≢false (sym (h (omega arith))))

-- a reader that has read nothing
pub read_nothing : {B : Type 0} (g : Geometry) (p : Placement) (r : Reader B)
    → r.tree ≡ record { start = p; paths = [] } → r.outer.items ≡ []
    → r.line ≡ record {
      now = record { node = None; position = p; moves = 0 };
      before = None;
      behind = None;
      answer = None;
      is_reply = false;
      is_single = false;
    } → HasRead g p [] r
read_nothing g p r tree outer line = record {
  room = MAX_OPEN;
  line = first_line;
  paths = [];
  start = rw tree refl;
  opened =
      rw (tree, outer, line) (outermost empty (record {
        now = record { there = refl; position = refl; many = refl };
        earlier = refl;
        behind = refl;
        answered = tt;
        told = refl;
      }));
  distinct = rw tree nothing;
}

pub low_cursor : {B : Type 0} {g : Geometry} {p : Placement} {tree : List (List Move)} {cursor : Cursor B}
    {path : List Move} → IsCursor g p tree cursor path → cursor.moves < MAX_PATH → length path < MAX_PATH
low_cursor c low = omega (arith, low, c.many)

-- ---- the innermost line of a reader
module _ {B : Type 0} (g : Geometry) (p : Placement) (tree : List (List Move)) (now : OpenLine B) where
  begun_case : (line : Line) (after : Cursor B) → IsOpenLine g p tree now line → now.behind ≡ Some after
      → (front : List Move) × (last : Move) × (line ≡ begins front last) × IsCursor g p tree now.now front
      × IsCursor g p tree after (front ++ last ∷ [])
  begun_case (begins front last) after k e = (
    front,
    last,
    refl,
    k.now,
    subst (λ x. IsCursor g p tree x (front ++ last ∷ [])) (same k.after after (sym k.behind ∙ e)) k.there,
  )
  begun_case (goes_on kind before moves answer) after k e = absent after (sym k.behind ∙ e)

  answer_case : (line : Line) (answer : Cursor B) → IsOpenLine g p tree now line → now.behind ≡ None
      → now.answer ≡ Some answer → (kind : Kind) × (before moves answers : List Move)
      × (line ≡ goes_on kind before moves (Some answers)) × IsCursor g p tree now.now (before ++ moves)
      × IsCursor g p tree answer (before ++ (moves ++ answers)) × (now.is_reply ≡ is_reply kind)
  answer_case (begins front last) answer k none e = absent k.after (sym none ∙ k.behind)
  answer_case (goes_on kind before moves None) answer k none e =
      let there : IsAfter g p tree (Some answer) before moves None =
      subst (λ x. IsAfter g p tree x before moves None) e k.answered in absurd there
  answer_case (goes_on kind before moves (Some answers)) answer k none e =
      let there : IsAfter g p tree (Some answer) before moves (Some answers) =
      subst (λ x. IsAfter g p tree x before moves (Some answers)) e k.answered in
      (kind, before, moves, answers, refl, k.now, there, k.told)

  alone_case : (line : Line) → IsOpenLine g p tree now line → now.behind ≡ None → now.answer ≡ None
      → (kind : Kind) × (before moves : List Move) × (line ≡ goes_on kind before moves None)
      × IsCursor g p tree now.now (before ++ moves) × (now.is_reply ≡ is_reply kind)
  alone_case (begins front last) k none e = absent k.after (sym none ∙ k.behind)
  alone_case (goes_on kind before moves None) k none e = (kind, before, moves, refl, k.now, k.told)
  alone_case (goes_on kind before moves (Some answers)) k none e =
      let there : IsAfter {B = B} g p tree None before moves (Some answers) =
      subst (λ x. IsAfter {B = B} g p tree x before moves (Some answers)) e k.answered in absurd there

module _ {B : Type 0} (g : Geometry) (p : Placement) (ts : List Token) (r : Reader B) (h : HasRead g p ts r)
    (t : Token) where
  line_now : IsOpenLine g p r.tree.paths r.line h.line
  line_now = opened_line g p r.tree.paths h.opened

  short_now : (line : Line) → h.line ≡ line → IsShort line
  short_now line e = subst IsShort e (opened_short g p r.tree.paths h.opened)

  pub begun_low : (after : Cursor B) → r.line.behind ≡ Some after → r.line.now.moves < MAX_PATH
  begun_low after e =
      let k = begun_case g p r.tree.paths r.line h.line after line_now e in
      let low = short_now (begins k.0 k.1) k.2 in omega (arith, low, k.3.many)

  pub behind_low : (after : Cursor B) → r.line.behind ≡ Some after → after.moves ≤ MAX_PATH
  behind_low after e =
      let k = begun_case g p r.tree.paths r.line h.line after line_now e in
      let low = short_now (begins k.0 k.1) k.2 in omega (arith, low, k.4.many, length-append k.0 (k.1 ∷ []))

  pub found_first : (after : Cursor B) (result : Result (Found B) MovetextFault) → r.line.behind ≡ Some after
      → ((q : Placement) (tree : List (List Move)) (front : List Move) (last : Move)
      → IsCursor g q tree r.line.now front
      → IsCursor g q tree after (front ++ last ∷ []) → IsFoundOr g q tree (begins front last) t result)
      → IsFoundOr g p r.tree.paths h.line t result
  found_first after result e f =
      let k = begun_case g p r.tree.paths r.line h.line after line_now e in
      subst (λ z. IsFoundOr g p r.tree.paths z t result) (sym k.2) (f p r.tree.paths k.0 k.1 k.3 k.4)

  pub now_low : (answer : Cursor B) → r.line.behind ≡ None → r.line.answer ≡ Some answer → r.line.now.moves < MAX_PATH
  now_low answer none e =
      let k = answer_case g p r.tree.paths r.line h.line answer line_now none e in
      let low = short_now (goes_on k.0 k.1 k.2 (Some k.3)) k.4 in omega (arith, low.0, k.5.many)

  pub answer_low : (answer : Cursor B) → r.line.behind ≡ None → r.line.answer ≡ Some answer → answer.moves ≤ MAX_PATH
  answer_low answer none e =
      let k = answer_case g p r.tree.paths r.line h.line answer line_now none e in
      let low = short_now (goes_on k.0 k.1 k.2 (Some k.3)) k.4 in omega (arith, low.1, k.6.many)

  pub found_behind : (answer : Cursor B) (result : Result (Found B) MovetextFault) → r.line.behind ≡ None
      → r.line.answer ≡ Some answer
      → ((q : Placement) (tree : List (List Move)) (kind : Kind) (before moves answers : List Move)
      → IsCursor g q tree r.line.now (before ++ moves) → IsCursor g q tree answer (before ++ (moves ++ answers))
      → r.line.is_reply ≡ is_reply kind → IsFoundOr g q tree (goes_on kind before moves (Some answers)) t result)
      → IsFoundOr g p r.tree.paths h.line t result
  found_behind answer result none e f =
      let k = answer_case g p r.tree.paths r.line h.line answer line_now none e in
      subst (λ z. IsFoundOr g p r.tree.paths z t result) (sym k.4) (f p r.tree.paths k.0 k.1 k.2 k.3 k.5 k.6 k.7)

  pub alone_low : r.line.behind ≡ None → r.line.answer ≡ None → r.line.now.moves ≤ MAX_PATH
  alone_low none e =
      let k = alone_case g p r.tree.paths r.line h.line line_now none e in
      let low = short_now (goes_on k.0 k.1 k.2 None) k.3 in omega (arith, low, k.4.many)

  pub alone_found : (step : Step B) → r.line.behind ≡ None → r.line.answer ≡ None
      → ((path : List Move) → IsAt g p r.line.now path → StandsFor g p path t (moves_of step))
      → IsFound g p r.tree.paths h.line t (record { from = r.line.now; step = step; is_reply = r.line.is_reply })
  alone_found step none e f =
      let k = alone_case g p r.tree.paths r.line h.line line_now none e in
      subst (λ z. IsFound g p r.tree.paths z t (record { from = r.line.now; step = step; is_reply = r.line.is_reply }))
      (sym k.3) (found_alone B g p r.tree.paths t r.line.now step r.line.is_reply k.0 k.1 k.2 k.4 k.5
      (f (k.1 ++ k.2) (at_cursor k.4)))

  pub alone_fault : (why : MovetextFault) → r.line.behind ≡ None → r.line.answer ≡ None
      → ((path : List Move) → IsAt g p r.line.now path → IsStepAt {B = B} g p path t (Err why))
      → IsFoundOr {B = B} g p r.tree.paths h.line t (Err why)
  alone_fault why none e f =
      let k = alone_case g p r.tree.paths r.line h.line line_now none e in
      subst (λ z. IsFoundOr {B = B} g p r.tree.paths z t (Err why)) (sym k.3)
      (fault_alone B g p r.tree.paths t k.0 k.1 k.2 why (f (k.1 ++ k.2) (at_cursor k.4)))
