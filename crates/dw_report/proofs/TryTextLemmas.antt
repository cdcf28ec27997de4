-- The lines of tries, written move by move.
use Rattle.std.proofs.Common.{◌≡◌, ℕ, ◌+◌, ◌-◌, ◌<◌, ◌≤◌, suc, List, [], ◌∷◌, ◌++◌, length, map, take, drop, get_or}
use Rattle.std.proofs.Common.{refl, sym, ap, ◌∙◌, subst, inl, inr, arith, append_assoc, append-nil, codes, Option, Some}
use Rattle.std.proofs.Common.{None, Result, Err}
use Rattle.dw_notation.specs.Streams.{Appends}
use Rattle.dw_notation.specs.inner.StreamLemmas.{Appends-trans, Appends-nil}
use Rattle.std.proofs.lemmas.List.{take_all, take_more}
use Rattle.dw_board.specs.Geometry.{Geometry, IsBoard}
use Rattle.dw_board.specs.Placement.{Placement}
use Rattle.dw_moves.specs.Moves.{Move, Legal, play}
use Rattle.dw_moves.specs.Order.{Precedes, IsAscending, IsListOf}
use Rattle.dw_moves.specs.inner.MemberLemmas.{mem_right}
use Rattle.dw_moves.specs.Laws.{MovesInOrder, MovesHaveKeys}
use Rattle.dw_notation.specs.TextLaws.{MovesHaveTexts}
use Rattle.dw_notation.specs.Writes.{StopsShort}
use Rattle.dw_notation.specs.inner.Writes.{Writes, WritesShort}
use Rattle.dw_solve.specs.declared.stop.Stop.{Stop}
use Rattle.dw_solve.specs.Laws.{WinsAreDecided}
use Rattle.dw_solve.specs.inner.ListLemmas.{at_item}
use Rattle.dw_verdict.specs.Verdict.{Verdict, IsVerdict, IsRefutation, IsTry, Tries, FindsRefutation}
use Rattle.dw_report.specs.JudgedText.{IsVerdictText, IsTryLine, AreTryLines, IsJudgedText}
use Rattle.dw_report.specs.inner.JudgedText.{AreTriesListed, IsTryText}
use Rattle.dw_report.specs.Running.{AreLinesOf}
use Rattle.dw_report.specs.inner.Running.{AreWholeLines}
use Rattle.dw_report.specs.inner.Running.{TextEnds}
use Rattle.dw_report.specs.declared.problem.TextFault.{TextFault}
use Rattle.dw_report.specs.declared.problem.TextFault.TheVariants.{Stopped, Sink}
use Rattle.dw_verdict.specs.inner.GatheredLemmas.{AreGathered, gathered_none, gathered_more, gathered_same}
use Rattle.dw_report.proofs.JoiningLemmas.{one_of_them}
use Rattle.dw_verdict.specs.inner.WinningLemmas.{refutation_some, tries_listed}
use Rattle.dw_report.proofs.WritingLemmas.{stops_within}

-- a stop before anything was written
pub nothing_written : {X : Type 0} (P : List ℕ → Type 0) (old : List ℕ) (r : Result X TextFault)
    (fault : TextFault) (why : Stop) → r ≡ Err fault → fault ≡ Stopped why → TextEnds P (λ out. out ≡ []) old old r
nothing_written {X} P old r fault why is same = subst (TextEnds {X = X} P (λ out. out ≡ []) old old)
    (sym (is ∙ ap Err same)) (record { text = []; is = refl; wrote = Appends-nil old })

-- ONE MOVE

pub try_written : (g : Geometry) (p : Placement) (n : ℕ) (m r : Move) (line : List ℕ) (old new : List ℕ)
    → IsRefutation g (play g p m) (n - 1) r → IsTryLine g p (m, r) line → Appends old new line
    → Writes (IsTryText g p n m) old new
try_written g p n m r line old new found is wrote = record { text = line; is = inl (r, found, is); wrote = wrote }

pub try_short : (g : Geometry) (p : Placement) (n : ℕ) (m r : Move) (line : List ℕ) (old new : List ℕ)
    → IsRefutation g (play g p m) (n - 1) r → IsTryLine g p (m, r) line → StopsShort old new line
    → WritesShort (IsTryText g p n m) old new
try_short g p n m r line old new found is stops = record { text = line; is = inl (r, found, is); stops = stops }

pub no_try_written : (g : Geometry) (p : Placement) (n : ℕ) (m : Move) (old : List ℕ)
    → ((r : Move) → IsRefutation g (play g p m) (n - 1) r → ⊥) → Writes (IsTryText g p n m) old old
no_try_written g p n m old none = record { text = []; is = inr (none, refl); wrote = Appends-nil old }

-- each legal move has such a text
try_text_some : WinsAreDecided → MovesInOrder → MovesHaveKeys → MovesHaveTexts → (g : Geometry) → IsBoard g
    → (p : Placement) (n : ℕ) (m : Move) → Legal g p m → (text : List ℕ) × IsTryText g p n m text
try_text_some decided order keys texts g board p n m legal = text_of (refutation_some decided order keys g board
    (play g p m) (n - 1)) where
      text_of : (o : Option Move) × FindsRefutation g (play g p m) (n - 1) o → (text : List ℕ) × IsTryText g p n m text
      text_of (None, none) = ([], inr (none, refl))
      text_of (Some r, found) =
          let move = texts.some g board p m legal in
          let reply = texts.some g board (play g p m) r found.refutes.0 in (
            codes "try " ++ move.0 ++ codes " refuted by " ++ reply.0 ++ codes "\n",
            inl (r, found, (move.0, reply.0, move.1, reply.1, refl)),
          )

-- MOVE BY MOVE

abbrev pub AreTried : Geometry → Placement → ℕ → List Move → List (Move × Move) → Type 0
AreTried g p n moves tries = AreGathered (Precedes g p) (λ (t : Move × Move). t.0) (λ (t : Move × Move). IsRefutation g
    (play g p t.0) (n - 1) t.1) moves tries

-- the lines of the tries among some moves
pub record TriedTo (g : Geometry) (p : Placement) (n : ℕ) (moves : List Move) (text : List ℕ) : Type 0 where
  pub tries : List (Move × Move)
  pub are : AreTried g p n moves tries
  pub lines : AreTryLines g p tries text

pub tried_none : (g : Geometry) (p : Placement) (n : ℕ) → TriedTo g p n [] []
tried_none g p n = record {
  tries = [];
  are = gathered_none (Precedes g p) (λ (t : Move × Move). t.0)
      (λ (t : Move × Move). IsRefutation g (play g p t.0) (n - 1) t.1);
  lines = refl;
}

try_lines_more : (g : Geometry) (p : Placement) (tries : List (Move × Move)) (t : Move × Move) (text line : List ℕ)
    → AreTryLines g p tries text → IsTryLine g p t line → AreTryLines g p (tries ++ t ∷ []) (text ++ line)
try_lines_more g p [] t text line none is = (line, [], is, refl, ap (λ z. z ++ line) none ∙ sym (append-nil line))
try_lines_more g p (s ∷ tries) t text line (one, rest, here, are, e) is = (
  one,
  rest ++ line,
  here,
  try_lines_more g p tries t rest line are is,
  ap (λ z. z ++ line) e ∙ append_assoc one rest line,
)

-- a try that stands in the list of all
pub try_among : (g : Geometry) (p : Placement) (n : ℕ) (tries : List (Move × Move)) (i : ℕ) (t : Move × Move)
    → Tries g p n tries → i < length tries → t ≡ get_or tries i t → IsTry g p n t
try_among g p n tries i t all low is = (all.exactly t).0 (one_of_them tries i t low is)

-- the line of a verdict, and the lines of the first so many tries
pub record TextTo (g : Geometry) (p : Placement) (n : ℕ) (verdict : Verdict) (tries : List (Move × Move)) (i : ℕ)
    (text : List ℕ) : Type 0 where
  pub line : List ℕ
  pub lines : List ℕ
  pub said : IsVerdictText g p n verdict line
  pub are : AreTryLines g p (take i tries) lines
  pub joined : text ≡ line ++ lines

pub text_next : (g : Geometry) (p : Placement) (n : ℕ) (verdict : Verdict) (tries : List (Move × Move)) (i : ℕ)
    (t : Move × Move) (text one : List ℕ) → TextTo g p n verdict tries i text → i < length tries
    → t ≡ get_or tries i t → IsTryLine g p t one → TextTo g p n verdict tries (i + 1) (text ++ one)
text_next g p n verdict tries i t text one h low is line = record {
  line = h.line;
  lines = h.lines ++ one;
  said = h.said;
  are = subst (λ z. AreTryLines g p z (h.lines ++ one)) (ap (λ z. take i tries ++ z ∷ []) is
      ∙ sym (take_more tries i t low)) (try_lines_more g p (take i tries) t h.lines one h.are line);
  joined = ap (λ z. z ++ one) h.joined ∙ append_assoc h.line h.lines one;
}

pub text_whole : (g : Geometry) (p : Placement) (n : ℕ) (verdict : Verdict) (tries : List (Move × Move)) (i : ℕ)
    (text : List ℕ) → IsVerdict g p n verdict → Tries g p n tries → TextTo g p n verdict tries i text
    → length tries ≤ i → IsJudgedText g p n text
text_whole g p n verdict tries i text judged all h end = (
  h.line,
  h.lines,
  (verdict, judged, h.said),
  (tries, all, subst (λ z. AreTryLines g p z h.lines) (take_all i tries end) h.are),
  h.joined,
)

-- one move more
tried_more : (g : Geometry) (p : Placement) (n : ℕ) (before after : List Move) (m : Move) (text one : List ℕ)
    → IsAscending (Precedes g p) (before ++ m ∷ after) → TriedTo g p n before text → IsTryText g p n m one
    → TriedTo g p n (before ++ m ∷ []) (text ++ one)
tried_more g p n before after m text one order h (inl found) = record {
  tries = h.tries ++ (m, found.0) ∷ [];
  are = gathered_more (Precedes g p) (λ (t : Move × Move). t.0) (λ (t : Move × Move). IsRefutation g (play g p t.0)
      (n - 1) t.1) before after m h.tries (m, found.0) order refl found.1
      (λ z e k. let reply : z.1 ≡ found.0 = found.1.only z.1 (subst (λ q. IsRefutation g (play g p q) (n - 1) z.1) e
      k).refutes in (λ i. (e i, reply i))) h.are;
  lines = try_lines_more g p h.tries (m, found.0) text one h.lines found.2;
}
tried_more g p n before after m text one order h (inr none) = record {
  tries = h.tries;
  are = gathered_same (Precedes g p) (λ (t : Move × Move). t.0) (λ (t : Move × Move). IsRefutation g (play g p t.0)
      (n - 1) t.1) before m h.tries (λ z e k. none.0 z.1 (subst (λ q. IsRefutation g (play g p q) (n - 1) z.1) e k))
      h.are;
  lines = subst (AreTryLines g p h.tries) (sym (ap (λ z. text ++ z) none.1 ∙ append-nil text)) h.lines;
}

tried_all : (g : Geometry) (p : Placement) (n : ℕ) (moves : List Move) (text : List ℕ)
    → IsListOf (Precedes g p) (Legal g p) moves → TriedTo g p n moves text → AreTriesListed g p n text
tried_all g p n moves text legal h = (h.tries, tries_listed g p n moves h.tries legal h.are, h.lines)

-- what is still to come
tried_rest : WinsAreDecided → MovesInOrder → MovesHaveKeys → MovesHaveTexts → (g : Geometry) → IsBoard g
    → (p : Placement) (n : ℕ) (before after : List Move) (text : List ℕ)
    → IsListOf (Precedes g p) (Legal g p) (before ++ after) → TriedTo g p n before text → (more : List ℕ)
    × AreTriesListed g p n (text ++ more)
tried_rest decided order keys texts g board p n before [] text all h = (
  [],
  subst (AreTriesListed g p n) (sym (append-nil text))
      (tried_all g p n before text (subst (IsListOf (Precedes g p) (Legal g p)) (append-nil before) all) h),
)
tried_rest decided order keys texts g board p n before (m ∷ after) text all h =
    let here : Legal g p m = (all.exactly m).0 (mem_right m before (m ∷ after) (inl refl)) in
    let one = try_text_some decided order keys texts g board p n m here in
    let parts : before ++ m ∷ after ≡ (before ++ m ∷ []) ++ after = sym (append_assoc before (m ∷ []) after) in
    let rest = tried_rest decided order keys texts g board p n (before ++ m ∷ []) after (text ++ one.0)
    (subst (IsListOf (Precedes g p) (Legal g p)) parts all) (tried_more g p n before after m text one.0
    all.ascending h one.1) in
    (one.0 ++ rest.0, subst (AreTriesListed g p n) (append_assoc text one.0 rest.0) rest.1)

-- LINES

try_line_ends : (g : Geometry) (p : Placement) (t : Move × Move) (line : List ℕ) → IsTryLine g p t line
    → (front : List ℕ) × (line ≡ front ++ 10 ∷ [])
try_line_ends g p t line (move, reply, a, b, e) = (codes "try " ++ move ++ codes " refuted by " ++ reply, e)

whole_behind : (front rest : List ℕ) → AreWholeLines rest → AreWholeLines ((front ++ 10 ∷ []) ++ rest)
whole_behind front rest (inl none) = inr (front, ap (λ z. (front ++ 10 ∷ []) ++ z) none ∙ append-nil (front ++ 10 ∷ []))
whole_behind front rest (inr some) = inr (
  (front ++ 10 ∷ []) ++ some.0,
  ap (λ z. (front ++ 10 ∷ []) ++ z) some.1 ∙ sym (append_assoc (front ++ 10 ∷ []) some.0 (10 ∷ [])),
)

-- whole lines behind a whole line
pub lines_behind : (line rest : List ℕ) → (front : List ℕ) × (line ≡ front ++ 10 ∷ []) → AreWholeLines rest
    → AreWholeLines (line ++ rest)
lines_behind line rest ends h = subst (λ z. AreWholeLines (z ++ rest)) (sym ends.1) (whole_behind ends.0 rest h)

try_lines_whole : (g : Geometry) (p : Placement) (tries : List (Move × Move)) (text : List ℕ)
    → AreTryLines g p tries text → AreWholeLines text
try_lines_whole g p [] text none = inl none
try_lines_whole g p (t ∷ tries) text (line, rest, is, are, e) = subst AreWholeLines (sym e)
    (lines_behind line rest (try_line_ends g p t line is) (try_lines_whole g p tries rest are))

-- WRITING

-- the lines of the tries among some moves were written
pub record WroteTo (g : Geometry) (p : Placement) (n : ℕ) (moves : List Move) (old new : List ℕ) : Type 0 where
  pub text : List ℕ
  pub tried : TriedTo g p n moves text
  pub wrote : Appends old new text

wrote_more : (g : Geometry) (p : Placement) (n : ℕ) (before after : List Move) (m : Move)
    (old mid new : List ℕ) → IsAscending (Precedes g p) (before ++ m ∷ after) → WroteTo g p n before old mid
    → Writes (IsTryText g p n m) mid new → WroteTo g p n (before ++ m ∷ []) old new
wrote_more g p n before after m old mid new order h one = record {
  text = h.text ++ one.text;
  tried = tried_more g p n before after m h.text one.text order h.tried one.is;
  wrote = Appends-trans old mid new h.text one.text h.wrote one.wrote;
}

module _ (decided : WinsAreDecided) (order : MovesInOrder) (keys : MovesHaveKeys) (texts : MovesHaveTexts)
    (g : Geometry) (board : IsBoard g) (p : Placement) (n : ℕ) where
  -- a stop: the lines that were written are whole lines of all
  wrote_lines : (before after : List Move) (old new : List ℕ)
      → IsListOf (Precedes g p) (Legal g p) (before ++ after) → WroteTo g p n before old new
      → Writes (AreLinesOf (AreTriesListed g p n)) old new
  wrote_lines before after old new all h =
      let rest = tried_rest decided order keys texts g board p n before after h.text all h.tried in
      record {
        text = h.text;
        is = record {
          text = h.text ++ rest.0;
          is = rest.1;
          front = record { back = rest.0; joined = refl };
          whole =
              try_lines_whole g p h.tried.tries h.text h.tried.lines;
        };
        wrote = h.wrote;
      }

  still_wrote : (before after : List Move) (old mid new : List ℕ)
      → IsListOf (Precedes g p) (Legal g p) (before ++ after) → WroteTo g p n before old mid
      → Writes (λ out. out ≡ []) mid new → Writes (AreLinesOf (AreTriesListed g p n)) old new
  still_wrote before after old mid new all h none =
      let whole : Appends old new h.text = subst (Appends old new) (ap (λ z. h.text ++ z) none.is ∙ append-nil h.text)
      (Appends-trans old mid new h.text none.text h.wrote none.wrote) in
      wrote_lines before after old new all (record { text = h.text; tried = h.tried; wrote = whole })

  -- a fault of the sink: some beginning of all
  cut_short : (before after : List Move) (m : Move) (old mid new : List ℕ)
      → IsListOf (Precedes g p) (Legal g p) (before ++ m ∷ after) → WroteTo g p n before old mid
      → WritesShort (IsTryText g p n m) mid new → WritesShort (AreTriesListed g p n) old new
  cut_short before after m old mid new all h one =
      let parts : before ++ m ∷ after ≡ (before ++ m ∷ []) ++ after = sym (append_assoc before (m ∷ []) after) in
      let rest = tried_rest decided order keys texts g board p n (before ++ m ∷ []) after (h.text ++ one.text)
      (subst (IsListOf (Precedes g p) (Legal g p)) parts all) (tried_more g p n before after m h.text one.text
      all.ascending h.tried one.is) in
      record {
        text = (h.text ++ one.text) ++ rest.0;
        is = rest.1;
        stops = stops_within old mid new h.text one.text rest.0 ((h.text ++ one.text) ++ rest.0) refl h.wrote one.stops;
      }

  fault_at : (X Y : Type 0) (before after : List Move) (m : Move) (old mid new : List ℕ) (fault : TextFault)
      → IsListOf (Precedes g p) (Legal g p) (before ++ m ∷ after) → WroteTo g p n before old mid
      → TextEnds {X = X} (IsTryText g p n m) (λ out. out ≡ []) mid new (Err fault)
      → TextEnds {X = Y} (AreTriesListed g p n) (AreLinesOf (AreTriesListed g p n)) old new (Err fault)
  fault_at X Y before after m old mid new (Stopped why) all h one = still_wrote before (m ∷ after) old mid new all h one
  fault_at X Y before after m old mid new Sink all h one = cut_short before after m old mid new all h one

  -- a stop before anything was written
  pub none_written : {X : Type 0} (old : List ℕ) (r : Result X TextFault) (fault : TextFault) (why : Stop)
      → r ≡ Err fault → fault ≡ Stopped why → TextEnds (AreTriesListed g p n) (AreLinesOf (AreTriesListed g p n)) old
      old r
  none_written {X} old r fault why is same =
      let all = order.some g board p in
      subst (TextEnds {X = X} (AreTriesListed g p n) (AreLinesOf (AreTriesListed g p n)) old old)
      (sym (is ∙ ap Err same))
      (wrote_lines [] all.0 old old all.1 (record { text = []; tried = tried_none g p n; wrote = Appends-nil old }))

  -- BY PLACES IN THE LIST

  pub at_first : {V : Type 0} (step : V → Move) (xs : List V) (old : List ℕ)
      → WroteTo g p n (map step (take 0 xs)) old old
  at_first step xs old = record { text = []; tried = tried_none g p n; wrote = Appends-nil old }

  pub at_next : {V : Type 0} (step : V → Move) (xs : List V) (i : ℕ) (x : V) (old mid new : List ℕ)
      → IsListOf (Precedes g p) (Legal g p) (map step xs) → i < length xs → x ≡ get_or xs i x
      → WroteTo g p n (map step (take i xs)) old mid
      → Writes (IsTryText g p n (step x)) mid new → WroteTo g p n (map step (take (i + 1) xs)) old new
  at_next step xs i x old mid new all low at h one =
      let parts = at_item step xs i x low at in
      let same : i + 1 ≡ suc i = omega arith in
      subst (λ z. WroteTo g p n (map step (take z xs)) old new) (sym same)
      (subst (λ (z : List Move). WroteTo g p n z old new) (sym parts.1)
      (wrote_more g p n (map step (take i xs)) (map step (drop (suc i) xs)) (step x) old mid new
      (subst (IsAscending (Precedes g p)) parts.0 all.ascending) h one))

  pub at_fault : {X Y V : Type 0} (step : V → Move) (xs : List V) (i : ℕ) (x : V) (old mid new : List ℕ)
      (r : Result X TextFault) (s : Result Y TextFault) (fault other : TextFault)
      → IsListOf (Precedes g p) (Legal g p) (map step xs) → i < length xs → x ≡ get_or xs i x
      → WroteTo g p n (map step (take i xs)) old mid → r ≡ Err fault → s ≡ Err other → fault ≡ other
      → TextEnds (IsTryText g p n (step x)) (λ out. out ≡ []) mid new r
      → TextEnds (AreTriesListed g p n) (AreLinesOf (AreTriesListed g p n)) old new s
  at_fault {X} {Y} step xs i x old mid new r s fault other all low at h was is same one =
      let parts = at_item step xs i x low at in
      let ended : TextEnds {X = X} (IsTryText g p n (step x)) (λ out. out ≡ []) mid new (Err fault) =
      subst (TextEnds (IsTryText g p n (step x)) (λ out. out ≡ []) mid new) was one in
      subst (TextEnds {X = Y} (AreTriesListed g p n) (AreLinesOf (AreTriesListed g p n)) old new)
      (sym (is ∙ ap Err (sym same)))
      (fault_at X Y (map step (take i xs)) (map step (drop (suc i) xs)) (step x) old mid new fault
      (subst (IsListOf (Precedes g p) (Legal g p)) parts.0 all) h ended)

  pub at_end : {V : Type 0} (step : V → Move) (xs : List V) (i : ℕ) (old new : List ℕ)
      → IsListOf (Precedes g p) (Legal g p) (map step xs) → length xs ≤ i → WroteTo g p n (map step (take i xs)) old new
      → Writes (AreTriesListed g p n) old new
  at_end step xs i old new all end h = record {
    text = h.text;
    is = tried_all g p n (map step xs) h.text all (subst (λ z. TriedTo g p n (map step z) h.text) (take_all i xs end)
        h.tried);
    wrote = h.wrote;
  }
