-- Lemmas on lists of lines that are written row by row.
use Rattle.std.proofs.Common.{◌≡◌, ℕ, zero, suc, ◌+◌, ◌<◌, ◌≤◌, ◌-◌, ◌%◌, List, [], ◌∷◌, ◌++◌, length, reverse, refl}
use Rattle.std.proofs.Common.{sym, ap, ◌∙◌, subst, inl, inr, arith, append_assoc, append-nil, length-append, Option}
use Rattle.std.proofs.Common.{Some, None, codes, decimal, Result, Ok, Err, OnOk, OnErr, IfOk, IsTrue, ◌↔◌, Bool, true}
use Rattle.std.proofs.Common.{false}
use Rattle.std.proofs.lemmas.Bool.{cond-true, cond-false}
use Rattle.dw_notation.specs.Streams.{Appends}
use Rattle.dw_notation.specs.inner.StreamLemmas.{Appends-trans, Appends-nil}
use Rattle.dw_board.specs.Geometry.{Geometry, IsBoard}
use Rattle.dw_board.specs.Placement.{Placement}
use Rattle.dw_moves.specs.Moves.{Move, play}
use Rattle.dw_board.specs.Lists.{Member}
use Rattle.dw_moves.specs.inner.MemberLemmas.{mem_left, mem_right}
use Rattle.dw_notation.specs.Text.{IsLineText, ArePlayable}
use Rattle.dw_notation.specs.TextLaws.{LinesHaveTexts}
use Rattle.dw_notation.specs.Writes.{StopsShort}
use Rattle.dw_notation.specs.inner.Writes.{Writes, WritesShort}
use Rattle.dw_solve.specs.Lines.{Line, Lines}
use Rattle.dw_list.specs.Places.{After}
use Rattle.dw_list.specs.LineStack.{LineStack, AreToCome}
use Rattle.dw_list.specs.StackWalk.{Gives, GivesFirst, GivesNone, SameToCome}
use Rattle.dw_list.specs.inner.StackWalk.{GivesNext}
use Rattle.dw_list.specs.Tokens.{token_of}
use Rattle.dw_list.specs.Laws.{LinesInTurn}
use Rattle.dw_report.specs.ListedText.{AreLineTexts, IsListing, IsListedText, more_after}
use Rattle.dw_report.specs.inner.Rows.{has_tokens, IsRow, HasLines, RowsOf, EndsWith, TakesRows}
use Rattle.dw_report.specs.Running.{AreLinesOf, IsNoLine}
use Rattle.dw_report.specs.inner.Running.{AreWholeLines}
use Rattle.dw_report.specs.inner.Running.{TextEnds}
use Rattle.dw_report.proofs.JudgedTextLemmas.{line_playable}
use Rattle.dw_report.proofs.WritingLemmas.{stops_within, at_stop, at_sink, fault_stays}
use Rattle.dw_report.specs.declared.problem.TextFault.{TextFault}
use Rattle.dw_report.specs.declared.problem.TextFault.TheVariants.{Stopped, Sink}

-- LINES

-- the moves of a line are an odd number
pub line_odd : (g : Geometry) (p : Placement) (n : ℕ) (l : List Move) → Line g p n l → length l % 2 ≡ 1
line_odd g p zero l h = absurd h
line_odd g p (suc n) [] h = absurd h
line_odd g p (suc n) (m ∷ []) h = refl
line_odd g p (suc n) (m ∷ r ∷ l) h = let rest = line_odd g (play g (play g p m) r) n l h.3 in two_more (length l) rest
  where
    two_more : (k : ℕ) → k % 2 ≡ 1 → suc (suc k) % 2 ≡ 1
    two_more k h = omega (arith, h)

-- each of these lines has a text
abbrev pub HaveTexts : Geometry → Placement → List (List Move) → Type 0
HaveTexts g p lines = (l : List Move) → Member l lines → (text : List ℕ) × IsLineText g p l text

pub lines_text : LinesHaveTexts → (g : Geometry) → IsBoard g → (s : LineStack) (p : Placement) (lines : List (List
    Move)) → s.position ≡ p → AreToCome g s lines → HaveTexts g p lines
lines_text laws g b s p lines e h = λ l m. laws.some g b p l
    (subst (λ z. ArePlayable g z l) e (line_playable g s.position s.moves l ((h.exactly l).0 m).0))

-- the last one of some
split_last : {X : Type 0} (x : X) (xs : List X) → (earlier : List X) × (last : X) × (x ∷ xs ≡ earlier ++ last ∷ [])
split_last x [] = ([], x, refl)
split_last x (y ∷ ys) = let r = split_last y ys in (x ∷ r.0, r.1, ap (λ z. x ∷ z) r.2)

pub last_of : {X : Type 0} (xs : List X) → 1 ≤ length xs → (earlier : List X) × (last : X) × (xs ≡ earlier ++ last ∷ [])
last_of [] h = absurd (omega (arith, h))
last_of (x ∷ xs) h = split_last x xs

-- ROWS

-- one more row
pub rows_more : (g : Geometry) (p : Placement) (lines : List (List Move)) (l : List Move) (texts row : List ℕ)
    → AreLineTexts g p lines texts → IsRow g p l row → AreLineTexts g p (lines ++ l ∷ []) (texts ++ row)
rows_more g p [] l texts row h r = (
  r.0,
  [],
  r.1,
  refl,
  ap (λ z. z ++ row) h ∙ (r.2 ∙ sym (append-nil (r.0 ++ codes "\n"))),
)
rows_more g p (k ∷ lines) l texts row h r = (
  h.0,
  h.1 ++ row,
  h.2,
  rows_more g p lines l h.1 row h.3 r,
  ap (λ z. z ++ row) h.4 ∙ append_assoc (h.0 ++ codes "\n") h.1 row,
)

-- rows are whole lines
pub rows_whole : (g : Geometry) (p : Placement) (lines : List (List Move)) (texts : List ℕ)
    → AreLineTexts g p lines texts → AreWholeLines texts
rows_whole g p [] texts h = inl h
rows_whole g p (l ∷ lines) texts h = elim (rows_whole g p lines h.1 h.3) [
  | inl none ↦ inr (h.0, h.4 ∙ (ap (λ z. (h.0 ++ codes "\n") ++ z) none ∙ append-nil (h.0 ++ codes "\n")))
  | inr some ↦ inr (
    (h.0 ++ codes "\n") ++ some.0,
    h.4 ∙ (ap (λ z. (h.0 ++ codes "\n") ++ z) some.1 ∙ sym (append_assoc (h.0 ++ codes "\n") some.0 (10 ∷ []))),
  )
]

-- HOW A LISTING ENDS

abbrev pub complete_line : ℕ → List ℕ
complete_line count = codes "complete " ++ decimal count ++ codes "\n"

pub tells_after : (g : Geometry) (last : List Move) → has_tokens g ≡ true
    → codes "more after " ++ token_of g last ++ codes "\n" ≡ more_after g last
unfolding more_after
tells_after g last h = sym (cond-true (has_tokens g) (codes "more after " ++ token_of g last ++ codes "\n")
    (codes "more\n") h)

pub tells_none : (g : Geometry) (last : List Move) → has_tokens g ≡ false → codes "more\n" ≡ more_after g last
unfolding more_after
tells_none g last h = sym (cond-false (has_tokens g) (codes "more after " ++ token_of g last ++ codes "\n")
    (codes "more\n") h)

piece : (a x b c : List ℕ) → a ++ ((x ++ b) ++ c) ≡ ((a ++ x) ++ b) ++ c
piece a x b c = simp append_assoc

pub is_complete : (g : Geometry) (p : Placement) (most : ℕ) (lines : List (List Move)) (texts : List ℕ)
    → AreLineTexts g p lines texts → length lines ≤ most
    → IsListing g p most lines (texts ++ complete_line (length lines))
is_complete g p most lines texts are few =
    inl (record {
      few = few;
      texts = texts;
      are = are;
      is = piece texts (codes "complete ") (decimal (length lines)) (codes "\n");
    })

pub is_cut : (g : Geometry) (p : Placement) (most : ℕ) (earlier left : List (List Move)) (last : List Move)
    (texts : List ℕ) → AreLineTexts g p (earlier ++ last ∷ []) texts → length (earlier ++ last ∷ []) ≡ most
    → 1 ≤ length left → IsListing g p most ((earlier ++ last ∷ []) ++ left) (texts ++ more_after g last)
is_cut g p most earlier left last texts are many more = inr (record {
  earlier = earlier;
  last = last;
  left = left;
  split = refl;
  many = many;
  more = more;
  texts = texts;
  are = are;
  is = refl;
})

-- with the rows of the first lines a listing begins
pub listing_from : (g : Geometry) (p : Placement) (most room : ℕ) → 1 ≤ most
    → (lines left : List (List Move)) (texts : List ℕ) → AreLineTexts g p lines texts → HaveTexts g p left
    → length lines + room ≡ most → (rest : List ℕ) × IsListing g p most (lines ++ left) (texts ++ rest)
listing_from g p most room some lines [] texts are have few = (
  complete_line (length lines),
  subst (λ z. IsListing g p most z (texts ++ complete_line (length lines)))
      (sym (append-nil lines)) (is_complete g p most lines texts are (omega (arith, few))),
)
listing_from g p most zero some lines (l ∷ left) texts are have few =
    let all : length lines ≡ most = omega (arith, few) in
    let s = last_of lines (omega (arith, all, some)) in (
      more_after g s.1,
      subst (λ z. IsListing g p most (z ++ l ∷ left) (texts ++ more_after g s.1)) (sym s.2)
          (is_cut g p most s.0 (l ∷ left) s.1 texts (subst (λ z. AreLineTexts g p z texts) s.2 are) (ap length (sym s.2)
          ∙ all) (omega arith)),
    )
listing_from g p most (suc room) some lines (l ∷ left) texts are have few =
    let one = have l (inl refl) in
    let row = one.0 ++ codes "\n" in
    let longer : length (lines ++ l ∷ []) + room ≡ most = omega (arith, few, length-append lines (l ∷ [])) in
    let r = listing_from g p most room some (lines ++ l ∷ []) left (texts ++ row) (rows_more g p lines l texts row are
    (one.0, one.1, refl)) (λ k m. have k (inr m)) longer in (
      row ++ r.0,
      subst (λ z. IsListing g p most z (texts ++ (row ++ r.0))) (append_assoc lines (l ∷ []) left)
          (subst (IsListing g p most ((lines ++ l ∷ []) ++ left)) (append_assoc texts row r.0) r.1),
    )

-- ROWS SO FAR

-- they were written
pub record RowsSoFar (g : Geometry) (p : Placement) (start now : LineStack) (count : ℕ) (old new : List ℕ) :
    Type 0 where
  pub texts : List ℕ
  pub rows : RowsOf g p start now count texts
  pub wrote : Appends old new texts

pub none_given : LinesInTurn → (g : Geometry) (p : Placement) (s : LineStack) → RowsOf g p s s 0 []
none_given turn g p s = record { given = []; gives = turn.nothing g s; many = refl; are = refl }

pub no_rows : LinesInTurn → (g : Geometry) (p : Placement) (s : LineStack) (old : List ℕ) → RowsSoFar g p s s 0
    old old
no_rows turn g p s old = record { texts = []; rows = none_given turn g p s; wrote = Appends-nil old }

-- a row more, and its line is the last one
pub row_taken : LinesInTurn → (g : Geometry) (p : Placement) (start a b : LineStack) (count : ℕ)
    (texts row new : List ℕ) (last : List Move) → RowsOf g p start a count texts → GivesFirst g a b
    → IsRow g p last row → last ≡ reverse b.line → new ≡ texts ++ row
    → (k : RowsOf g p start b (count + 1) new) × EndsWith k.given last
row_taken turn g p start a b count texts row new last h first r is text_is = (
  record {
    given = h.given ++ reverse b.line ∷ [];
    gives = turn.then g start a b h.given (reverse b.line ∷ []) h.gives first;
    many = length-append h.given (reverse b.line ∷ []) ∙ ap (λ z. z + 1) h.many;
    are = subst (AreLineTexts g p (h.given ++ reverse b.line ∷ [])) (sym text_is)
        (rows_more g p h.given (reverse b.line) texts row h.are (subst (λ z. IsRow g p z row) is r));
  },
  (h.given, ap (λ z. h.given ++ z ∷ []) (sym is)),
)

-- the same rows, if the same lines are still to come
rows_kept : LinesInTurn → (g : Geometry) (p : Placement) (start a b : LineStack) (count : ℕ) (texts : List ℕ)
    → (h : RowsOf g p start a count texts) → SameToCome g a b → RowsOf g p start b count texts
rows_kept turn g p start a b count texts h same = record {
  given = h.given;
  gives = subst (Gives g start b) (append-nil h.given) (turn.then g start a b h.given [] h.gives same);
  many = h.many;
  are = h.are;
}

none_of_none : {X : Type 0} (xs : List X) → length xs ≡ 0 → xs ≡ []
none_of_none [] e = refl
none_of_none (x ∷ xs) e = absurd (omega (arith, e))

-- what a page has when no line is left, when the lister was stopped, and when it is full
pub takes_last : LinesInTurn → (g : Geometry) (p : Placement) (start a b : LineStack) (room count : ℕ)
    (last : List Move) (texts : List ℕ) → (h : RowsOf g p start a count texts) → (1 ≤ count → EndsWith h.given last)
    → count ≤ room → GivesNone g a b → TakesRows g p start b room count last texts
unfolding rows_kept
takes_last turn g p start a b room count last texts h ends few none = record {
  few = few;
  rows = rows_kept turn g p start a b count texts h none.same;
  ends = ends;
  none = λ e.
      let nothing : h.given ≡ [] = none_of_none h.given (h.many ∙ e) in
      let before : SameToCome g start a = subst (Gives g start a) nothing h.gives in
      record {
        same = turn.then g start a b [] [] before none.same;
        none = (before.rest []).1 none.none;
      };
}

pub takes_stopped : LinesInTurn → (g : Geometry) (p : Placement) (start a b : LineStack) (room count : ℕ)
    (last : List Move) (texts : List ℕ) → (h : RowsOf g p start a count texts) → (1 ≤ count → EndsWith h.given last)
    → count ≤ room → 1 ≤ count → SameToCome g a b → TakesRows g p start b room count last texts
unfolding rows_kept
takes_stopped turn g p start a b room count last texts h ends few some same = record {
  few = few;
  rows = rows_kept turn g p start a b count texts h same;
  ends = ends;
  none = λ e. absurd (omega (arith, e, some));
}

pub takes_full : (g : Geometry) (p : Placement) (start a : LineStack) (room count : ℕ) (last : List Move)
    (texts : List ℕ) → (h : RowsOf g p start a count texts) → (1 ≤ count → EndsWith h.given last) → count ≤ room
    → 1 ≤ count → TakesRows g p start a room count last texts
takes_full g p start a room count last texts h ends few some = record {
  few = few;
  rows = h;
  ends = ends;
  none = λ e. absurd (omega (arith, e, some));
}

pub some_taken : (count : ℕ) → (count ≡ 0 → ⊥) → 1 ≤ count
some_taken zero none = absurd (none refl)
some_taken (suc k) none = omega arith

-- without rows there is no text
pub text_of_none : (g : Geometry) (p : Placement) (start a : LineStack) (count : ℕ) (texts : List ℕ)
    → RowsOf g p start a count texts → count ≡ 0 → texts ≡ []
text_of_none g p start a count texts h e = subst (λ z. AreLineTexts g p z texts) (none_of_none h.given (h.many ∙ e))
    h.are

texts_joined : (g : Geometry) (p : Placement) (xs ys : List (List Move)) (t u : List ℕ) → AreLineTexts g p xs t
    → AreLineTexts g p ys u → AreLineTexts g p (xs ++ ys) (t ++ u)
texts_joined g p [] ys t u h k = subst (λ z. AreLineTexts g p ys (z ++ u)) (sym h) k
texts_joined g p (x ∷ xs) ys t u h k = (
  h.0,
  h.1 ++ u,
  h.2,
  texts_joined g p xs ys h.1 u h.3 k,
  ap (λ z. z ++ u) h.4 ∙ append_assoc (h.0 ++ codes "\n") h.1 u,
)

-- rows, and the rows of lines that came after them
pub rows_joined : LinesInTurn → (g : Geometry) (p : Placement) (start a b : LineStack) (count more : ℕ)
    (texts others : List ℕ) → RowsOf g p start a count texts → RowsOf g p a b more others
    → RowsOf g p start b (count + more) (texts ++ others)
rows_joined turn g p start a b count more texts others h k = record {
  given = h.given ++ k.given;
  gives = turn.then g start a b h.given k.given h.gives k.gives;
  many = length-append h.given k.given ∙ (ap (λ z. z + length k.given) h.many ∙ ap (λ z. count + z) k.many);
  are = texts_joined g p h.given k.given texts others h.are k.are;
}

pub rows_written : LinesInTurn → (g : Geometry) (p : Placement) (start a b : LineStack) (count more : ℕ)
    (old mid new others : List ℕ) → RowsSoFar g p start a count old mid → RowsOf g p a b more others
    → Appends mid new others → RowsSoFar g p start b (count + more) old new
rows_written turn g p start a b count more old mid new others h k wrote = record {
  texts = h.texts ++ others;
  rows = rows_joined turn g p start a b count more h.texts others h.rows k;
  wrote = Appends-trans old mid new h.texts others h.wrote wrote;
}

-- a page was written after those rows, and its last line is the last one
pub page_written : LinesInTurn → (g : Geometry) (p : Placement) (start a b : LineStack) (room count more : ℕ)
    (old mid new others : List ℕ) (last : List Move) → RowsSoFar g p start a count old mid
    → TakesRows g p a b room more last others → 1 ≤ more → Appends mid new others
    → (k : RowsSoFar g p start b (count + more) old new) × EndsWith k.rows.given last
page_written turn g p start a b room count more old mid new others last h t some wrote =
    let k = t.rows in
    let ends = t.ends some in (
      record {
        texts = h.texts ++ others;
        rows = record {
          given = h.rows.given ++ k.given;
          gives = turn.then g start a b h.rows.given k.given h.rows.gives k.gives;
          many = length-append h.rows.given k.given ∙ (ap (λ z. z + length k.given) h.rows.many
              ∙ ap (λ z. count + z) k.many);
          are = texts_joined g p h.rows.given k.given h.texts others h.rows.are k.are;
        };
        wrote = Appends-trans old mid new h.texts others h.wrote wrote;
      },
      (h.rows.given ++ ends.0, ap (λ z. h.rows.given ++ z) ends.1 ∙ sym (append_assoc h.rows.given ends.0 (last ∷ []))),
    )

-- an empty page was written after those rows
pub nothing_written : (g : Geometry) (p : Placement) (start a : LineStack) (count : ℕ) (old mid new others : List ℕ)
    → RowsSoFar g p start a count old mid → others ≡ [] → Appends mid new others → RowsSoFar g p start a count old new
nothing_written g p start a count old mid new others h none wrote = record {
  texts = h.texts;
  rows = h.rows;
  wrote = subst (Appends old new) (ap (λ z. h.texts ++ z) none ∙ append-nil h.texts)
      (Appends-trans old mid new h.texts others h.wrote wrote);
}

-- lines are still to come after those that were given
pub lines_left : (g : Geometry) (p : Placement) (start now : LineStack) (count : ℕ) (texts : List ℕ)
    → RowsOf g p start now count texts → HasLines g p start → HasLines g p now
lines_left g p start now count texts h has =
    let left = h.gives.first has.lines has.to_come in
    record {
      position = h.gives.position ∙ has.position;
      lines = left.0;
      to_come = (h.gives.rest left.0).0 (subst (AreToCome g start) left.1 has.to_come);
    }

-- the line that is given is a line
pub line_walk : (g : Geometry) (p : Placement) (start a b : LineStack) (count : ℕ) (texts : List ℕ)
    → RowsOf g p start a count texts → GivesFirst g a b → (lines : List (List Move)) → AreToCome g start lines
    → Line g start.position start.moves (reverse b.line)
line_walk g p start a b count texts h first lines all =
    let left = h.gives.first lines all in
    let to_come = (h.gives.rest left.0).0 (subst (AreToCome g start) left.1 all) in
    let one = first.first left.0 to_come in
    let here : Member (reverse b.line) lines = subst (Member (reverse b.line)) (sym left.1)
    (mem_right (reverse b.line) h.given left.0 (subst (Member (reverse b.line)) (sym one.1) (inl refl))) in
    ((all.exactly (reverse b.line)).0 here).0

-- the last one that was given is a line
pub last_line : (g : Geometry) (p : Placement) (start now : LineStack) (count : ℕ) (texts : List ℕ) (last : List Move)
    → (h : RowsOf g p start now count texts) → EndsWith h.given last → (lines : List (List Move))
    → AreToCome g start lines → Line g start.position start.moves last
last_line g p start now count texts last h l lines all =
    let left = h.gives.first lines all in
    let there : Member last h.given = subst (Member last) (sym l.1) (mem_right last l.0 (last ∷ []) (inl refl)) in
    let here : Member last lines = subst (Member last) (sym left.1) (mem_left last h.given left.0 there) in
    ((all.exactly last).0 here).0

-- whether a line was given
pub line_next : (g : Geometry) (more : Bool) (a b : LineStack) → GivesNext g more a b → more ≡ true → GivesFirst g a b
line_next g more a b h e = subst (λ z. GivesNext g z a b) e h

pub none_next : (g : Geometry) (more : Bool) (a b : LineStack) → GivesNext g more a b → more ≡ false → GivesNone g a b
none_next g more a b h e = subst (λ z. GivesNext g z a b) e h

no_more : (g : Geometry) (a : LineStack) (left : List (List Move)) → AreToCome g a left → AreToCome g a [] → left ≡ []
no_more g a [] h none = refl
no_more g a (x ∷ left) h none = absurd ((none.exactly x).1 ((h.exactly x).0 (inl refl)))

-- HOW A WHOLE LISTING ENDS

module _ (g : Geometry) (p : Placement) (most : ℕ) (some : 1 ≤ most) (start : LineStack) (lines : List (List Move))
    (all : AreToCome g start lines) (have : HaveTexts g p lines) where
  -- a listing begins with these rows
  begun_by : (now : LineStack) (count : ℕ) (texts : List ℕ) → RowsOf g p start now count texts → count ≤ most
      → (rest : List ℕ) × IsListing g p most lines (texts ++ rest)
  begun_by now count texts h few =
      let left = h.gives.first lines all in
      let have' : HaveTexts g p left.0 = λ l m. have l (subst (Member l) (sym left.1) (mem_right l h.given left.0 m)) in
      let r = listing_from g p most (most - count) some h.given left.0 texts h.are have' (omega (arith, h.many, few)) in
      (r.0, subst (λ z. IsListing g p most z (texts ++ r.0)) (sym left.1) r.1)

  pub rows_stop : (now : LineStack) (count : ℕ) (old new : List ℕ) → RowsSoFar g p start now count old new
      → count ≤ most → Writes (AreLinesOf (IsListing g p most lines)) old new
  rows_stop now count old new h few =
      let r = begun_by now count h.texts h.rows few in
      record {
        text = h.texts;
        is = record {
          text = h.texts ++ r.0;
          is = r.1;
          front = record { back = r.0; joined = refl };
          whole =
              rows_whole g p h.rows.given h.texts h.rows.are;
        };
        wrote = h.wrote;
      }

  -- further rows were written, but no more
  pub rows_stop_later : LinesInTurn → (a b : LineStack) (count more : ℕ) (old mid new others : List ℕ)
      → RowsSoFar g p start a count old mid → RowsOf g p a b more others → count + more ≤ most → Appends mid new others
      → Writes (AreLinesOf (IsListing g p most lines)) old new
  rows_stop_later turn a b count more old mid new others h k few wrote = rows_stop b (count + more) old new
      (rows_written turn g p start a b count more old mid new others h k wrote) few

  -- further rows were not written to their end
  pub rows_short : LinesInTurn → (a b : LineStack) (count more : ℕ) (old mid new others : List ℕ)
      → RowsSoFar g p start a count old mid → RowsOf g p a b more others → count + more ≤ most
      → StopsShort mid new others → WritesShort (IsListing g p most lines) old new
  rows_short turn a b count more old mid new others h k few stops =
      let r = begun_by b (count + more) (h.texts ++ others) (rows_joined turn g p start a b count more h.texts others
      h.rows k) few in
      record {
        text = (h.texts ++ others) ++ r.0;
        is = r.1;
        stops = stops_within old mid new h.texts others r.0 ((h.texts ++ others) ++ r.0) refl h.wrote stops;
      }

  all_given : (a b : LineStack) (count : ℕ) (texts : List ℕ) → RowsOf g p start a count texts → GivesNone g a b
      → count ≤ most → IsListing g p most lines (texts ++ complete_line count)
  all_given a b count texts h none few =
      let left = h.gives.first lines all in
      let to_come = (h.gives.rest left.0).0 (subst (AreToCome g start) left.1 all) in
      let same : lines ≡ h.given = left.1 ∙ (ap (λ z. h.given ++ z) (no_more g a left.0 to_come none.none)
      ∙ append-nil h.given) in
      subst (λ z. IsListing g p most z (texts ++ complete_line count)) (sym same)
      (subst (λ k. IsListing g p most h.given (texts ++ complete_line k)) h.many (is_complete g p most h.given texts
      h.are (omega (arith, h.many, few))))

  more_left : (a b : LineStack) (count : ℕ) (texts : List ℕ) (last : List Move) (h : RowsOf g p start a count texts)
      → EndsWith h.given last → GivesFirst g a b → count ≡ most → IsListing g p most lines (texts ++ more_after g last)
  more_left a b count texts last h ends first full =
      let left = h.gives.first lines all in
      let to_come = (h.gives.rest left.0).0 (subst (AreToCome g start) left.1 all) in
      let one = first.first left.0 to_come in
      let enough : 1 ≤ length left.0 = omega (arith, ap length one.1) in
      let split : lines ≡ (ends.0 ++ last ∷ []) ++ left.0 = left.1 ∙ ap (λ z. z ++ left.0) ends.1 in
      let many : length (ends.0 ++ last ∷ []) ≡ most = ap length (sym ends.1) ∙ (h.many ∙ full) in
      subst (λ z. IsListing g p most z (texts ++ more_after g last)) (sym split)
      (is_cut g p most ends.0 left.0 last texts (subst (λ z. AreLineTexts g p z texts) ends.1 h.are)
      many enough)

  end_written : (now : LineStack) (count : ℕ) (old mid new : List ℕ) (end : List ℕ)
      (h : RowsSoFar g p start now count old mid) → IsListing g p most lines (h.texts ++ end) → Appends mid new end
      → Writes (IsListing g p most lines) old new
  end_written now count old mid new end h is wrote = record {
    text = h.texts ++ end;
    is = is;
    wrote = Appends-trans old mid new h.texts end h.wrote wrote;
  }

  end_short : (now : LineStack) (count : ℕ) (old mid new : List ℕ) (end : List ℕ)
      (h : RowsSoFar g p start now count old mid) → IsListing g p most lines (h.texts ++ end) → StopsShort mid new end
      → WritesShort (IsListing g p most lines) old new
  end_short now count old mid new end h is stops = record {
    text = h.texts ++ end;
    is = is;
    stops = stops_within old mid new h.texts end [] (h.texts ++ end) (sym (append-nil (h.texts ++ end))) h.wrote stops;
  }

  pub complete_written : (a b : LineStack) (count : ℕ) (old mid new : List ℕ)
      → RowsSoFar g p start a count old mid → GivesNone g a b → count ≤ most → Appends mid new (complete_line count)
      → Writes (IsListing g p most lines) old new
  complete_written a b count old mid new h none few wrote = end_written a count old mid new (complete_line count) h
      (all_given a b count h.texts h.rows none few) wrote

  pub complete_short : (a b : LineStack) (count : ℕ) (old mid new : List ℕ)
      → RowsSoFar g p start a count old mid → GivesNone g a b → count ≤ most → StopsShort mid new (complete_line count)
      → WritesShort (IsListing g p most lines) old new
  complete_short a b count old mid new h none few stops = end_short a count old mid new (complete_line count) h
      (all_given a b count h.texts h.rows none few) stops

  pub more_written : (a b : LineStack) (count : ℕ) (old mid new : List ℕ) (last : List Move)
      (h : RowsSoFar g p start a count old mid) → EndsWith h.rows.given last → GivesFirst g a b → count ≡ most
      → Appends mid new (more_after g last) → Writes (IsListing g p most lines) old new
  more_written a b count old mid new last h ends first full wrote =
      end_written a count old mid new (more_after g last) h (more_left a b count h.texts last h.rows ends first full)
      wrote

  pub more_short : (a b : LineStack) (count : ℕ) (old mid new : List ℕ) (last : List Move)
      (h : RowsSoFar g p start a count old mid) → EndsWith h.rows.given last → GivesFirst g a b → count ≡ most
      → StopsShort mid new (more_after g last) → WritesShort (IsListing g p most lines) old new
  more_short a b count old mid new last h ends first full stops =
      end_short a count old mid new (more_after g last) h (more_left a b count h.texts last h.rows ends first full)
      stops

-- THREE PIECES

pub first_short : (old new : List ℕ) (x y z : List ℕ) → StopsShort old new x → StopsShort old new (x ++ y ++ z)
first_short old new x y z h = stops_within old old new [] x (y ++ z) (x ++ y ++ z) (append_assoc x y z)
    (Appends-nil old) h

pub second_short : (old a new : List ℕ) (x y z : List ℕ) → Appends old a x → StopsShort a new y
    → StopsShort old new (x ++ y ++ z)
second_short old a new x y z h k = stops_within old a new x y z (x ++ y ++ z) refl h k

pub last_written : {X E : Type 0} (old a b new : List ℕ) (x y z : List ℕ) (r : Result X E) → Appends old a x
    → Appends a b y → OnOk r (Appends b new z) → OnOk r (Appends old new (x ++ y ++ z))
last_written old a b new x y z (Ok _) h k l = Appends-trans old b new (x ++ y) z (Appends-trans old a b x y h k) l
last_written old a b new x y z (Err _) h k l = tt

pub last_short : {X E : Type 0} (old a b new : List ℕ) (x y z : List ℕ) (r : Result X E) → Appends old a x
    → Appends a b y → OnErr r (StopsShort b new z) → OnErr r (StopsShort old new (x ++ y ++ z))
last_short old a b new x y z (Ok _) h k l = tt
last_short old a b new x y z (Err _) h k l = stops_within old b new (x ++ y) z [] (x ++ y ++ z)
    (sym (append-nil (x ++ y ++ z))) (Appends-trans old a b x y h k) l

-- THE LINES THAT ARE ASKED FOR

abbrev pub EndsListed : {X : Type 0} → Geometry → Placement → ℕ → ℕ → Option (List Move) → List ℕ
    → List ℕ → Result X TextFault → Type 0
EndsListed g p n most after old new r = TextEnds (IsListedText g p n most after)
    (AreLinesOf (IsListedText g p n most after)) old new r

-- a listing that is part of what is asked for
module _ (g : Geometry) (p : Placement) (n most : ℕ) (after : Option (List Move)) (lines : List (List Move))
    (to : (text : List ℕ) → IsListing g p most lines text → IsListedText g p n most after text)
    (old new : List ℕ) where
  pub listed_written : Writes (IsListing g p most lines) old new → Writes (IsListedText g p n most after) old new
  listed_written h = record { text = h.text; is = to h.text h.is; wrote = h.wrote }

  pub listed_fault : {X Y : Type 0} (r : Result X TextFault) (s : Result Y TextFault) (fault other : TextFault)
      → r ≡ Err fault → s ≡ Err other → fault ≡ other
      → TextEnds (IsListing g p most lines) (AreLinesOf (IsListing g p most lines)) old new r
      → EndsListed g p n most after old new s
  listed_fault r s fault other was is same h =
      fault_stays (IsListing g p most lines) (IsListedText g p n most after) (AreLinesOf (IsListing g p most lines))
      (AreLinesOf (IsListedText g p n most after)) old new r s fault other was is same to
      (λ text k. record { text = k.text; is = to k.text k.is; front = k.front; whole = k.whole }) h

-- the lines of a position
pub listed_all : (g : Geometry) (p : Placement) (n most : ℕ) (lines : List (List Move)) → Lines g p n lines
    → (text : List ℕ) → IsListing g p most lines text → IsListedText g p n most None text
listed_all g p n most lines h text k = (lines, h, k)

-- those after one of them
pub listed_after : (g : Geometry) (p : Placement) (n most : ℕ) (l : List Move) (lines rest : List (List Move))
    → Lines g p n lines → After lines l rest → (text : List ℕ) → IsListing g p most rest text
    → IsListedText g p n most (Some l) text
listed_after g p n most l lines rest h after text k = inl (lines, rest, h, after, k)

-- the same, asked for otherwise
pub refused_as : {E : Type 0} (g : Geometry) (p : Placement) (n k : ℕ) (after other : Option (List Move))
    (r : Result Bool E) → k ≡ n → other ≡ after → IfOk r (λ refused. IsTrue refused ↔ IsNoLine g p k other)
    → IfOk r (λ refused. IsTrue refused ↔ IsNoLine g p n after)
refused_as g p n k after other r e f h = subst (λ z. IfOk r (λ refused. IsTrue refused ↔ IsNoLine g p n z)) f
    (subst (λ z. IfOk r (λ refused. IsTrue refused ↔ IsNoLine g p z other)) e h)
