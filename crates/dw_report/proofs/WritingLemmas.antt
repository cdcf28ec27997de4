-- Lemmas on texts that are written piece by piece.
use Rattle.std.proofs.Common.{◌≡◌, ℕ, List, [], ◌∷◌, ◌++◌, refl, sym, ap, ◌∙◌, subst, inl, append_assoc, append-nil}
use Rattle.std.proofs.Common.{Option, Result, Ok, Err, true, false, IfOk, IsOkAnd, if◌then◌else◌}
use Rattle.dw_notation.specs.Streams.{Appends}
use Rattle.dw_notation.specs.inner.StreamLemmas.{Appends-trans, Appends-nil}
use Rattle.dw_board.specs.Geometry.{Geometry}
use Rattle.dw_board.specs.Placement.{Placement}
use Rattle.dw_board.specs.Diagram.{diagram_text}
use Rattle.dw_notation.specs.TextLines.{Found}
use Rattle.dw_notation.specs.Problems.{Numbered}
use Rattle.dw_notation.specs.declared.problems.ProblemFault.{ProblemFault}
use Rattle.dw_notation.specs.Writes.{IsBeginning, StopsShort}
use Rattle.dw_notation.specs.inner.Writes.{Writes, WritesShort}
use Rattle.dw_report.specs.JsonRows.{refused_row}
use Rattle.dw_report.specs.Request.{number_is_chosen, writes_rows, Request}
use Rattle.dw_report.specs.Report.{IsSaid, IsFurther, IsProblemText, AreTexts, IsReportOn, chosen, heading}
use Rattle.dw_report.specs.inner.Rows.{refused_text}
use Rattle.dw_report.specs.declared.settings.Command.{Command}
use Rattle.dw_report.specs.declared.settings.Command.TheVariants.{Show, ShowRow, Moves, MovesRow, Judge, List as Lists}
use Rattle.dw_report.specs.Running.{AreLinesOf, IsPartOn}
use Rattle.dw_report.specs.inner.Running.{IsProblemPart, at_once, IsSaidThen, IsRest, SearchesFor, TextEnds}
use Rattle.dw_solve.specs.Solving.{Solving}
use Rattle.dw_solve.specs.declared.stop.Stop.{Stop}
use Rattle.dw_report.specs.declared.problem.TextFault.{TextFault}
use Rattle.dw_report.specs.declared.problem.TextFault.TheVariants.{Stopped, Sink}

pub at_stop : {X : Type 0} (P Part : List ℕ → Type 0) (old new : List ℕ) (result : Result X TextFault)
    (why : Stop) → result ≡ Err (Stopped why) → Writes Part old new → TextEnds P Part old new result
at_stop P Part old new result why e h = subst (TextEnds P Part old new) (sym e) h

pub at_sink : {X : Type 0} (P Part : List ℕ → Type 0) (old new : List ℕ) (result : Result X TextFault)
    → result ≡ Err Sink → WritesShort P old new → TextEnds P Part old new result
at_sink P Part old new result e h = subst (TextEnds P Part old new) (sym e) h

-- nothing is whole lines at the front of any text
pub no_lines : (P : List ℕ → Type 0) → (text : List ℕ) × P text → (old : List ℕ)
    → Writes (AreLinesOf P) old old
no_lines P some old = record {
  text = [];
  is = record { text = some.0; is = some.1; front = record { back = some.0; joined = refl }; whole = inl refl };
  wrote = Appends-nil old;
}

-- and so is what is empty
pub nothing_lines : (P : List ℕ → Type 0) → (text : List ℕ) × P text → (out : List ℕ) → out ≡ [] → AreLinesOf P out
nothing_lines P some out e = subst (AreLinesOf P) (sym e)
    (record { text = some.0; is = some.1; front = record { back = some.0; joined = refl }; whole = inl refl })

-- a text that is of one kind is of another
pub text_as : {X : Type 0} (P Q Part Piece : List ℕ → Type 0) (old new : List ℕ) (r : Result X TextFault)
    → ((text : List ℕ) → P text → Q text) → ((text : List ℕ) → Part text → Piece text) → TextEnds P Part old new r
    → TextEnds Q Piece old new r
text_as P Q Part Piece old new (Ok x) to part h = record { text = h.text; is = to h.text h.is; wrote = h.wrote }
text_as P Q Part Piece old new (Err (Stopped why)) to part h =
    record { text = h.text; is = part h.text h.is; wrote = h.wrote }
text_as P Q Part Piece old new (Err Sink) to part h = record { text = h.text; is = to h.text h.is; stops = h.stops }

-- what holds of a row that was made holds of its text
pub row_made : {S E : Type 0} (bytes : S → List ℕ) (P : List ℕ → Type 0) (row : Result S E)
    → IfOk row (λ line. P (bytes line)) → (text : List ℕ) → IsOkAnd row (λ line. text ≡ bytes line) → P text
row_made bytes P (Ok line) h text is = subst P (sym is) h
row_made bytes P (Err e) h text is = absurd is

-- a beginning of a piece inside a text
pub begins_within : (before out piece after : List ℕ) → IsBeginning out piece
    → IsBeginning (before ++ out) ((before ++ piece) ++ after)
begins_within before out piece after h = record {
  back = h.back ++ after;
  joined =
      append_assoc before out (h.back ++ after)
      ∙ (ap (λ z. before ++ z) (sym (append_assoc out h.back after) ∙ ap (λ z. z ++ after) h.joined)
      ∙ sym (append_assoc before piece after));
}

-- a piece inside a text was cut short
pub stops_within : (old mid new : List ℕ) (before piece after whole : List ℕ)
    → whole ≡ (before ++ piece) ++ after → Appends old mid before → StopsShort mid new piece → StopsShort old new whole
stops_within old mid new before piece after whole split wrote stop = record {
  out = before ++ stop.out;
  taken = Appends-trans old mid new before stop.out wrote stop.taken;
  front = subst (IsBeginning (before ++ stop.out)) (sym split) (begins_within before stop.out piece after stop.front);
}

-- what is known at once is the front of what follows a heading
known_front : (g : Geometry) (request : Request) (number : ℕ) (found : Found) (command : Command) (text : List ℕ)
    → request.command ≡ command → IsFurther g request number found text
    → (back : List ℕ) × (text ≡ at_once g found command ++ back)
known_front g request number (Err fault) command text e h = (text, refl)
known_front g request number (Ok p) Show text e h = (
  [],
  subst (λ (c : Command). IsSaid g c request number p text) e h ∙ sym (append-nil (diagram_text g p)),
)
known_front g request number (Ok p) ShowRow text e h = (text, refl)
known_front g request number (Ok p) Moves text e h = (text, refl)
known_front g request number (Ok p) MovesRow text e h = (text, refl)
known_front g request number (Ok p) Judge text e h = (text, refl)
known_front g request number (Ok p) Lists text e h = (text, refl)

-- what is known at once was cut short
pub known_short : (g : Geometry) (request : Request) (problem : Numbered) (old new : List ℕ) → (text : List ℕ)
    × AreTexts g request (problem ∷ []) text
    → StopsShort old new (heading g request.command problem ++ at_once g problem.found request.command)
    → WritesShort (IsProblemText g request problem) old new
known_short g request problem old new some stop =
    let one = some.1.0 in
    let is = some.1.2 in
    let line = heading g request.command problem in
    let known = at_once g problem.found request.command in
    let front = known_front g request problem.number problem.found request.command is.further refl is.follows in
    let whole : one ≡ (line ++ known) ++ front.0 = is.is
    ∙ (ap (λ z. line ++ z) front.1 ∙ sym (append_assoc line known front.0)) in
    record {
      text = one;
      is = is;
      stops = stops_within old old new [] (line ++ known) front.0 one whole (Appends-nil old) stop;
    }

-- what is known at once, and what is said behind that
said_all : (g : Geometry) (request : Request) (number : ℕ) (p : Placement) (command : Command) (text : List ℕ)
    → IsSaidThen g command request number p text
    → IsSaid g command request number p (at_once g (Ok p) command ++ text)
said_all g request number p Show text h = ap (λ z. diagram_text g p ++ z) h ∙ append-nil (diagram_text g p)
said_all g request number p ShowRow text h = h
said_all g request number p Moves text h = h
said_all g request number p MovesRow text h = h
said_all g request number p Judge text h = h
said_all g request number p Lists text h = h

part_all : (g : Geometry) (request : Request) (number : ℕ) (p : Placement) (command : Command) (lines : List ℕ)
    → (command ≡ Show → ⊥) → AreLinesOf (IsSaidThen g command request number p) lines
    → AreLinesOf (IsSaid g command request number p) (at_once g (Ok p) command ++ lines)
part_all g request number p Show lines other h = absurd (other refl)
part_all g request number p ShowRow lines other h = h
part_all g request number p Moves lines other h = h
part_all g request number p MovesRow lines other h = h
part_all g request number p Judge lines other h = h
part_all g request number p Lists lines other h = h

-- behind what is known at once the rest is written
rest_behind : {X : Type 0} (g : Geometry) (request : Request) (problem : Numbered) (p : Placement)
    (old mid new : List ℕ) (result : Result X TextFault) → problem.found ≡ Ok p
    → Appends old mid (heading g request.command problem ++ at_once g (Ok p) request.command)
    → (request.command ≡ Show → (why : Stop) → result ≡ Err (Stopped why) → ⊥)
    → TextEnds (IsRest g request problem.number p) (AreLinesOf (IsRest g request problem.number p)) mid new result
    → TextEnds (IsProblemText g request problem) (IsProblemPart g request problem) old new result
rest_behind g request problem p old mid new (Ok x) found first goes h =
    let line = heading g request.command problem in
    let known = at_once g (Ok p) request.command in
    record {
      text = (line ++ known) ++ h.text;
      is = record {
        further = known ++ h.text;
        follows = subst (λ f. IsFurther g request problem.number f (known ++ h.text))
            (sym found) (said_all g request problem.number p request.command h.text h.is);
        is = append_assoc line known h.text;
      };
      wrote = Appends-trans old mid new (line ++ known) h.text first h.wrote;
    }
rest_behind g request problem p old mid new (Err (Stopped why)) found first goes h =
    let line = heading g request.command problem in
    let known = at_once g (Ok p) request.command in
    record {
      text = (line ++ known) ++ h.text;
      is = record {
        lines = known ++ h.text;
        are = subst (λ f. AreLinesOf (IsFurther g request problem.number f) (known ++ h.text))
            (sym found) (part_all g request problem.number p request.command h.text (λ e. goes e why refl) h.is);
        is = append_assoc line known h.text;
      };
      wrote = Appends-trans old mid new (line ++ known) h.text first h.wrote;
    }
rest_behind g request problem p old mid new (Err Sink) found first goes h =
    let line = heading g request.command problem in
    let known = at_once g (Ok p) request.command in
    record {
      text = (line ++ known) ++ h.text;
      is = record {
        further = known ++ h.text;
        follows = subst (λ f. IsFurther g request problem.number f (known ++ h.text))
            (sym found) (said_all g request problem.number p request.command h.text h.is);
        is = append_assoc line known h.text;
      };
      stops = stops_within old mid new (line ++ known) h.text [] ((line ++ known) ++ h.text)
          (sym (append-nil ((line ++ known) ++ h.text))) first h.stops;
    }

-- the same of the command that is asked for, which does not stop where positions are shown
pub problem_ends : {M X : Type 0} (g : Geometry) (request : Request) (problem : Numbered) (p : Placement)
    (old mid new : List ℕ) (was now : Solving M) (result : Result X TextFault) → problem.found ≡ Ok p
    → Appends old mid (heading g request.command problem ++ at_once g problem.found request.command)
    → SearchesFor request.command was now result
    → TextEnds (IsRest g request problem.number p) (AreLinesOf (IsRest g request problem.number p)) mid new result
    → TextEnds (IsProblemText g request problem) (IsProblemPart g request problem) old new result
problem_ends {M = M} {X = X} g request problem p old mid new was now result found first searches h =
    rest_behind g request problem p old mid new result found
    (subst (λ f. Appends old mid (heading g request.command problem ++ at_once g f request.command)) found first)
    (λ e. (subst (λ (c : Command). SearchesFor {M = M} {X = X} c was now result) e searches).1) h

-- behind the heading of a refused problem its row is written, or nothing
pub refusal_behind : {X : Type 0} (g : Geometry) (request : Request) (problem : Numbered) (fault : ProblemFault)
    (old mid new : List ℕ) (result : Result X TextFault) → problem.found ≡ Err fault
    → Appends old mid (heading g request.command problem ++ at_once g problem.found request.command)
    → TextEnds (λ text. text ≡ refused_text request.command problem.number fault) (λ out. out ≡ []) mid new result
    → TextEnds (IsProblemText g request problem) (IsProblemPart g request problem) old new result
refusal_behind {X} g request problem fault old mid new result found first h = at result h
  where
    line : List ℕ
    line = heading g request.command problem

    wrote : Appends old mid line
    wrote = subst (Appends old mid) (append-nil line)
        (subst (λ f. Appends old mid (line ++ at_once g f request.command)) found first)

    text_is : (text : List ℕ) → text ≡ refused_text request.command problem.number fault
        → IsProblemText g request problem (line ++ text)
    text_is text is = record {
      further = text;
      follows = subst (λ f. IsFurther g request problem.number f text) (sym found) is;
      is = refl;
    }

    at : (result : Result X TextFault)
        → TextEnds (λ text. text ≡ refused_text request.command problem.number fault) (λ out. out ≡ []) mid new result
        → TextEnds (IsProblemText g request problem) (IsProblemPart g request problem) old new result
    at (Ok x) h = record {
      text = line ++ h.text;
      is = text_is h.text h.is;
      wrote = Appends-trans old mid new line h.text wrote h.wrote;
    }
    at (Err (Stopped why)) h = record {
      text = line ++ h.text;
      is = record {
        lines = h.text;
        are = nothing_lines (IsFurther g request problem.number problem.found) (
          refused_text request.command problem.number fault,
          subst (λ f. IsFurther g request problem.number f (refused_text request.command problem.number fault))
              (sym found) refl,
        ) h.text h.is;
        is = refl;
      };
      wrote = Appends-trans old mid new line h.text wrote h.wrote;
    }
    at (Err Sink) h = record {
      text = line ++ h.text;
      is = text_is h.text h.is;
      stops = stops_within old mid new line h.text [] (line ++ h.text) (sym (append-nil (line ++ h.text))) wrote
          h.stops;
    }

-- a fault handed on says the same of a text that this one makes up
pub fault_stays : {X Y : Type 0} (P Q Part Piece : List ℕ → Type 0) (old new : List ℕ) (r : Result X TextFault)
    (s : Result Y TextFault) (fault other : TextFault) → r ≡ Err fault → s ≡ Err other → fault ≡ other
    → ((text : List ℕ) → P text → Q text) → ((text : List ℕ) → Part text → Piece text) → TextEnds P Part old new r
    → TextEnds Q Piece old new s
fault_stays {X = X} P Q Part Piece old new r s fault other was is same to part h = at_fault fault (is
    ∙ ap Err (sym same)) (subst (TextEnds P Part old new) was h) where
      at_fault : (fault : TextFault) → s ≡ Err fault → TextEnds {X = X} P Part old new (Err fault)
          → TextEnds Q Piece old new s
      at_fault (Stopped why) e h = at_stop Q Piece old new s why e (record {
        text = h.text;
        is = part h.text h.is;
        wrote =
            h.wrote;
      })
      at_fault Sink e h = at_sink Q Piece old new s e (record { text = h.text; is = to h.text h.is; stops = h.stops })

-- the problem is chosen
pub chosen_one : (only : Option ℕ) (problem : Numbered) → number_is_chosen only problem.number ≡ true
    → chosen only (problem ∷ []) ≡ problem ∷ []
chosen_one only problem e = rw e refl

pub chosen_none : (only : Option ℕ) (problem : Numbered) → number_is_chosen only problem.number ≡ false
    → chosen only (problem ∷ []) ≡ []
chosen_none only problem e = rw e refl

pub one_report_on : (g : Geometry) (request : Request) (problem : Numbered)
    → number_is_chosen request.only problem.number ≡ true → (text : List ℕ) → IsProblemText g request problem text
    → IsReportOn g request (problem ∷ []) text
one_report_on g request problem e text h = subst (λ l. AreTexts g request l text)
    (sym (chosen_one request.only problem e)) (text, [], h, refl, sym (append-nil text))

pub one_part_on : (g : Geometry) (request : Request) (problem : Numbered) → number_is_chosen request.only problem.number
    ≡ true → (text : List ℕ) → IsProblemPart g request problem text → IsPartOn g request problem.number (problem ∷ [])
    text
one_part_on g request problem e text h = record {
  before = [];
  problem = problem;
  behind = [];
  are =
      chosen_one request.only problem e;
  here = refl;
  texts = [];
  whole = refl;
  lines = h.lines;
  further = h.are;
  is = h.is;
}

pub no_report_on : (g : Geometry) (request : Request) (problem : Numbered) (old : List ℕ)
    → number_is_chosen request.only problem.number ≡ false → Writes (IsReportOn g request (problem ∷ [])) old old
no_report_on g request problem old e = record {
  text = [];
  is = subst (λ l. AreTexts g request l []) (sym (chosen_none request.only problem e)) refl;
  wrote = Appends-nil old;
}

pub chosen_report_on : (g : Geometry) (request : Request) (problem : Numbered) (old new : List ℕ)
    → number_is_chosen request.only problem.number ≡ true → Writes (IsProblemText g request problem) old new
    → Writes (IsReportOn g request (problem ∷ [])) old new
chosen_report_on g request problem old new e h = record {
  text = h.text;
  is = one_report_on g request problem e h.text h.is;
  wrote = h.wrote;
}

-- a row that was made is the rest of the text of a problem
pub row_ends : {S E X : Type 0} (bytes : S → List ℕ) (g : Geometry) (request : Request) (number : ℕ) (p : Placement)
    (command : Command) (old new : List ℕ) (row : Result S E) (result : Result X TextFault)
    → request.command ≡ command
    → ((problems : List Numbered) → (text : List ℕ) × AreTexts g request problems text)
    → IfOk row (λ line. IsSaid g command request number p (bytes line))
    → (IsSaidThen g command request number p ≡ IsSaid g command request number p)
    → TextEnds (λ text. IsOkAnd row (λ line. text ≡ bytes line)) (λ out. out ≡ []) old new result
    → TextEnds (IsRest g request number p) (AreLinesOf (IsRest g request number p)) old new result
row_ends {X = X} bytes g request number p command old new row result e texts made same wrote =
    let said = IsSaid g command request number p in
    let one : Numbered = record { number = number; found = Ok p } in
    let text = texts (one ∷ []) in
    let some : (text : List ℕ) × said text =
    (text.1.2.further, subst (λ c. IsSaid g c request number p text.1.2.further) e text.1.2.follows) in
    subst (λ c. TextEnds {X = X} (IsSaidThen g c request number p) (AreLinesOf (IsSaidThen g c request number p)) old
    new result) (sym e) (subst (λ (z : List ℕ → Type 0). TextEnds {X = X} z (AreLinesOf z) old new result) (sym same)
    (text_as (λ text. IsOkAnd row (λ line. text ≡ bytes line)) said (λ out. out ≡ []) (AreLinesOf said) old new result
    (row_made bytes said row made) (nothing_lines said some) wrote))

-- behind the heading of a refused problem its row is written
pub refused_row_behind : {S E X : Type 0} (bytes : S → List ℕ) (g : Geometry) (request : Request) (problem : Numbered)
    (fault : ProblemFault) (old mid new : List ℕ) (row : Result S E) (result : Result X TextFault)
    → problem.found ≡ Err fault → writes_rows request.command ≡ true
    → IfOk row (λ line. bytes line ≡ refused_row problem.number fault)
    → Appends old mid (heading g request.command problem ++ at_once g problem.found request.command)
    → TextEnds (λ text. IsOkAnd row (λ line. text ≡ bytes line)) (λ out. out ≡ []) mid new result
    → TextEnds (IsProblemText g request problem) (IsProblemPart g request problem) old new result
refused_row_behind bytes g request problem fault old mid new row result found rows made first wrote =
    let refusal = refused_text request.command problem.number fault in
    let is_refusal : IfOk row (λ line. bytes line ≡ refusal) =
    subst (λ b. IfOk row (λ line. bytes line ≡ (if b then refused_row problem.number fault else []))) (sym rows) made in
    refusal_behind g request problem fault old mid new result found first
    (text_as (λ text. IsOkAnd row (λ line. text ≡ bytes line)) (λ text. text ≡ refusal) (λ out. out ≡ [])
    (λ out. out ≡ []) mid new result (row_made bytes (λ text. text ≡ refusal) row is_refusal) (λ out e. e) wrote)
