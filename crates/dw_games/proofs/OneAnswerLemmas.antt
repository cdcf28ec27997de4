-- A text has at most one tree and at most one first fault, and never both.
use Rattle.std.proofs.Common.{◌≡◌, ◌⊎◌, ℕ, zero, suc, ◌+◌, ◌<◌, true, false, List, [], ◌∷◌, ◌++◌, length, Ok, Err, refl}
use Rattle.std.proofs.Common.{sym, ap, subst, ◌∙◌, arith, append_assoc, zero-add, inl, inr}
use Rattle.dw_board.specs.Geometry.{Geometry}
use Rattle.dw_board.specs.Placement.{Placement}
use Rattle.dw_board.specs.Lists.{Member}
use Rattle.dw_moves.specs.Moves.{Move}
use Rattle.dw_notation.specs.MoveReadingLaws as reading
use Rattle.dw_games.specs.Tokens.{Token, AreTokens}
use Rattle.dw_games.specs.Printed.{Line, begins, goes_on, first_line, count_moves, IsLine, IsOver, AreComments}
use Rattle.dw_games.specs.Movetext.{IsGame, AreDistinct, nothing, again, first, IsTree}
use Rattle.dw_games.specs.Faults.{IsOpen, IsUnreadable, HasNoMove, FaultAt, FaultAtEnd, IsFirstFault}
use Rattle.dw_games.specs.Faults.{outermost, inner, unreadable, refused, no_move_before, none_open}
use Rattle.dw_games.specs.Faults.{within, behind_result, cut_off, too_deep, too_large, at_token, at_end}
use Rattle.dw_games.specs.Faults.{no_move}
use Rattle.dw_games.specs.Faults as faults
use Rattle.dw_games.specs.Laws.{OneAnswer}
use Rattle.dw_games.specs.declared.tokens.TokenKind.{TokenKind}
use Rattle.dw_games.specs.declared.tokens.TokenKind.TheVariants.{Comment, Written, Opens, Closes, CutOff, Unknown}
use Rattle.dw_games.specs.declared.movetext.TheConstants.{MAX_OPEN}
use Rattle.dw_games.specs.declared.fault.MovetextFaultKind.{MovetextFaultKind}
use Rattle.dw_games.specs.declared.fault.MovetextFaultKind.TheVariants.{Token as NoToken}
use Rattle.dw_games.specs.declared.fault.MovetextFaultKind.TheVariants.{Variation, Unclosed, Rest, TooDeep, Empty}
use Rattle.dw_games.proofs.PathLemmas.{filled, last_same}
use Rattle.dw_games.proofs.TokenRowLemmas.{one_row, row_first}
use Rattle.dw_games.proofs.StepLemmas.{State, Around, start, Next, IsNext, Leads, ended, begun, result, neither, went}
use Rattle.dw_games.proofs.StepLemmas.{begun_deep, as_kind, leads_on, varied, begun_next, leads_one, stopped, fault_one}
use Rattle.dw_games.proofs.StepLemmas as step

-- ---- a list without its repeats is one
distinct_one : {paths same tree other : List (List Move)} → AreDistinct paths tree → AreDistinct same other
    → paths ≡ same → tree ≡ other
distinct_one nothing nothing e = refl
distinct_one nothing (again {paths = ps} x d is) e = filled ps x e
distinct_one nothing (first {paths = ps} x d none) e = filled ps x e
distinct_one (again {paths = ps} x d is) nothing e = filled ps x (sym e)
distinct_one (again {paths = ps} x d is) (again {paths = qs} y f too) e = distinct_one d f (last_same ps qs x y e).0
distinct_one (again {paths = ps} {tree = tree} x d is) (first {paths = qs} {tree = other} y f none) e =
    let both = last_same ps qs x y e in
    absurd (none (subst (λ z. Member z other) both.1 (subst (λ z. Member x z) (distinct_one d f both.0) is)))
distinct_one (first {paths = ps} x d none) nothing e = filled ps x (sym e)
distinct_one (first {paths = ps} {tree = tree} x d none) (again {paths = qs} {tree = other} y f is) e =
    let both = last_same ps qs x y e in
    absurd (none (subst (λ z. Member z tree) (sym both.1) (subst (λ z. Member y z) (sym (distinct_one d f both.0)) is)))
distinct_one (first {paths = ps} {tree = tree} x d none) (first {paths = qs} {tree = other} y f other_none) e =
    let both = last_same ps qs x y e in
    ap (λ z. z ++ x ∷ []) (distinct_one d f both.0) ∙ ap (λ z. other ++ z ∷ []) both.1

-- ---- where a text stands
-- the innermost line that is open, and those around it
record Stands (g : Geometry) (p : Placement) (room : ℕ) (ts : List Token) (line : Line) : Type 0 where
  count : ℕ
  outer : List Around
  paths : List (List Move)
  leads : Leads g p start ts (step.within room line count outer paths)
  many : room + length outer ≡ MAX_OPEN

-- no parenthesis is open
pub record Whole (g : Geometry) (p : Placement) (ts : List Token) (paths : List (List Move)) : Type 0 where
  pub state : State
  pub leads : Leads g p start ts state
  pub none : state.outer ≡ []
  pub same : state.paths ≡ paths

-- the result has been read
record Over (g : Geometry) (p : Placement) (ts : List Token) (paths : List (List Move)) : Type 0 where
  state : State
  leads : Leads g p start ts state
  over : state.over ≡ true
  none : state.outer ≡ []
  same : state.paths ≡ paths

-- a token is at fault
pub record Fails (g : Geometry) (p : Placement) (ts : List Token) (t : Token) (what : MovetextFaultKind) : Type 0 where
  pub state : State
  pub leads : Leads g p start ts state
  pub fails : IsNext g p state.over t.what state t (Err what)

-- what is missing behind all tokens
abbrev Lacks : State → MovetextFaultKind → Type 0
Lacks s what = ((0 < length s.outer) × (what ≡ Unclosed)) ⊎ ((s.outer ≡ []) × (s.paths ≡ []) × (what ≡ Empty))

record Ends (g : Geometry) (p : Placement) (ts : List Token) (what : MovetextFaultKind) : Type 0 where
  state : State
  leads : Leads g p start ts state
  lacks : Lacks state what

module _ (g : Geometry) (p : Placement) where
  pub from_start : {ts : List Token} {line : Line} {paths : List (List Move)}
      → IsLine g p MAX_OPEN first_line ts line paths
      → Leads g p start ts (step.within MAX_OPEN line (count_moves ts) [] paths)
  from_start {ts = ts} {line = line} {paths = paths} v =
      subst (λ n. Leads g p start ts (step.within MAX_OPEN line n [] paths)) (zero-add (count_moves ts))
      (varied g p v 0 [] [])

  stands : {room : ℕ} {ts : List Token} {line : Line} → IsOpen g p room ts line → Stands g p room ts line
  stands (outermost {ts = ts} {paths = paths} v) = record {
    count = count_moves ts;
    outer = [];
    paths = paths;
    leads = from_start v;
    many = refl;
  }
  stands (inner {room = room} {ts = ts} {us = us} {kind = kind} {before = before} {answer = answer} {line = line}
      {paths = more} moves last opening o is v) =
      let h = stands o in
      let now : Line = goes_on kind before (moves ++ last ∷ []) answer in
      let around : List Around = (record { line = now; count = h.count }) ∷ h.outer in
      let s : State = step.within (suc room) now h.count h.outer h.paths in
      let inside : State = step.within room (begins (before ++ moves) last) 0 around h.paths in
      let next : State = step.within room line (0 + count_moves us) around (h.paths ++ more) in
      let many : room + length around ≡ MAX_OPEN = omega (arith, h.many) in record {
        count = 0 + count_moves us;
        outer = around;
        paths = h.paths ++ more;
        leads =
            leads_on g p ts (opening ∷ us) start s next h.leads (
              inside,
              begun_next g p room kind before moves last answer h.count h.outer h.paths opening is,
              varied g p v 0 around h.paths,
            );
        many = many;
      }

  comments_on : (cs : List Token) (s : State) → s.over ≡ true → AreComments cs → Leads g p s cs s
  comments_on [] s e h = refl
  comments_on (c ∷ cs) s e h = (
    s,
    subst (λ x. IsNext g p x c.what s c (Ok s)) (sym e) (as_kind g p true Comment s c (Ok s) h.0 refl),
    comments_on cs s e h.1,
  )

  over_all : {ts : List Token} {paths : List (List Move)} → IsOver g p ts paths → Over g p ts paths
  over_all {ts = ts} {paths = paths} h =
      let s : State = step.within MAX_OPEN h.played.0 (count_moves h.front) [] paths in
      let t : Token = h.result in
      let end : State = record {
        over = true;
        room = MAX_OPEN;
        line = h.played.0;
        count = count_moves h.front;
        outer = [];
        paths = paths;
      } in
      let on : IsNext g p false t.what s t (Ok end) =
      as_kind g p false Written s t (Ok end) h.is_result.written (result h.is_result refl) in
      let all : Leads g p start (h.front ++ t ∷ h.comments) end =
      leads_on g p h.front (t ∷ h.comments) start s end (from_start h.played.1)
      (end, on, comments_on h.comments end refl h.are_comments) in
      record {
        state = end;
        leads = subst (λ x. Leads g p start x end) (sym h.joined) all;
        over = refl;
        none = refl;
        same = refl;
      }

  pub whole : {ts : List Token} {paths : List (List Move)} → IsGame g p ts paths → Whole g p ts paths
  whole {ts = ts} {paths = paths} (inl play) = record {
    state = step.within MAX_OPEN play.0 (count_moves ts) [] paths;
    leads = from_start play.1;
    none = refl;
    same = refl;
  }
  whole (inr over) =
      let h = over_all over in record { state = h.state; leads = h.leads; none = h.none; same = h.same }

  -- ---- faults
  failing : {room : ℕ} {ts : List Token} {line : Line} (t : Token) (what : MovetextFaultKind)
      → IsOpen g p room ts line
      → ((count : ℕ) (outer : List Around) (paths : List (List Move)) → room + length outer ≡ MAX_OPEN
      → IsNext g p false t.what (step.within room line count outer paths) t (Err what))
      → Fails g p ts t what
  failing {room = room} {line = line} t what o f =
      let h = stands o in record {
        state = step.within room line h.count h.outer h.paths;
        leads = h.leads;
        fails = f h.count h.outer h.paths h.many;
      }

  unreadable_next : (s : State) (t : Token) → IsUnreadable g t → IsNext g p false t.what s t (Err NoToken)
  unreadable_next s t (inl is) = as_kind g p false Unknown s t (Err NoToken) is refl
  unreadable_next s t (inr (inl is)) = as_kind g p false CutOff s t (Err NoToken) is refl
  unreadable_next s t (inr (inr is)) =
      as_kind g p false Written s t (Err NoToken) is.written (neither is.no_result is.no_form refl)

  begun_not : (s : State) (line : Line) → HasNoMove line → Err Variation ≡ begun s s.room line
  begun_not s (begins front last) none = refl
  begun_not s (goes_on kind before moves answer) none =
      sym (ap (λ x. begun s s.room (goes_on kind before x answer)) none)

  ended_inside : (s : State) (outer : List Around) → 0 < length outer → Err Unclosed ≡ ended s outer
  ended_inside s [] some = absurd (omega (arith, some))
  ended_inside s (a ∷ outer) some = refl

  rest_next : (what : TokenKind) (s : State) (t : Token) → (what ≡ Comment → ⊥) → (what ≡ CutOff → ⊥)
      → IsNext g p true what s t (Err Rest)
  rest_next Comment s t none other = absurd (none refl)
  rest_next CutOff s t none other = absurd (other refl)
  rest_next what s t none other = refl

  over_fails : {ts : List Token} {paths : List (List Move)} (t : Token) (what : MovetextFaultKind) → IsOver g p ts paths
      → ((s : State) → IsNext g p true t.what s t (Err what)) → Fails g p ts t what
  over_fails t what over f =
      let h = over_all over in record {
        state = h.state;
        leads = h.leads;
        fails = subst (λ x. IsNext g p x t.what h.state t (Err what)) (sym h.over) (f h.state);
      }

  pub fails : {ts : List Token} {t : Token} {what : MovetextFaultKind} → FaultAt g p ts t what → Fails g p ts t what
  fails (unreadable {room = room} {line = line} {t = t} o is) =
      failing t NoToken o (λ count outer paths many. unreadable_next (step.within room line count outer paths) t is)
  fails (refused {room = room} {line = line} {t = t} {what = what} o is) =
      failing t what o (λ count outer paths many. went g p (step.within room line count outer paths) t (Err what) is)
  fails (no_move_before {room = room} {line = line} {t = t} o none is) =
      failing t Variation o (λ count outer paths many.
      let s : State = step.within room line count outer paths in
      as_kind g p false Opens s t (Err Variation) is (begun_not s line none))
  fails (none_open {ts = ts} {paths = paths} {t = t} play is) =
      let s : State = step.within MAX_OPEN play.0 (count_moves ts) [] paths in
      record {
        state = s;
        leads = from_start play.1;
        fails = as_kind g p false Closes s t (Err Variation) is refl;
      }
  fails (within {room = room} {line = line} {t = t} o low is) =
      failing t Unclosed o (λ count outer paths many.
      let s : State = step.within room line count outer paths in
      as_kind g p false Written s t (Err Unclosed) is.written
      (result is (ended_inside s outer (omega (arith, low, many)))))
  fails (behind_result {t = t} over none other) = over_fails t Rest over (λ s. rest_next t.what s t none other)
  fails (cut_off {t = t} over is) = over_fails t NoToken over (λ s. as_kind g p true CutOff s t (Err NoToken) is refl)
  fails (too_deep {kind = kind} {before = before} {answer = answer} {t = t} moves last o is) =
      failing t TooDeep o (λ count outer paths many.
      let s : State = step.within zero (goes_on kind before (moves ++ last ∷ []) answer) count outer paths in
      as_kind g p false Opens s t (Err TooDeep) is (sym (begun_deep s kind before moves last answer)))

  ends : {ts : List Token} {what : MovetextFaultKind} → FaultAtEnd g p ts what → Ends g p ts what
  ends (faults.unclosed {room = room} {line = line} o low) =
      let h = stands o in record {
        state = step.within room line h.count h.outer h.paths;
        leads = h.leads;
        lacks = inl (omega (arith, low, h.many), refl);
      }
  ends (no_move game) = let h = whole game in record {
    state = h.state;
    leads = h.leads;
    lacks = inr (h.none, h.same, refl);
  }

-- ---- one answer
lacks_one : (s : State) (what other : MovetextFaultKind) → Lacks s what → Lacks s other → what ≡ other
lacks_one s what other (inl a) (inl b) = a.1 ∙ sym b.1
lacks_one s what other (inl a) (inr b) = absurd (omega (arith, a.0, ap length b.0))
lacks_one s what other (inr a) (inl b) = absurd (omega (arith, b.0, ap length a.0))
lacks_one s what other (inr a) (inr b) = a.2 ∙ sym b.2

module _ (one : reading.HasOneAnswer) (g : Geometry) (p : Placement) (text : List ℕ) where
  -- all tokens of the text
  all_same : (ts us : List Token) → AreTokens 1 true text ts [] → AreTokens 1 true text us [] → ts ≡ us
  all_same ts us a b = let row = one_row text in row.one ts a ∙ sym (row.one us b)

  pub state_same : (ts us : List Token) (a b : State) → AreTokens 1 true text ts [] → AreTokens 1 true text us []
      → Leads g p start ts a → Leads g p start us b → a ≡ b
  state_same ts us a b x y h k =
      leads_one one g p ts start a b h (subst (λ z. Leads g p start z b) (all_same us ts y x) k)

  -- the tokens up to one, and those behind it
  pub up_to : (before : List Token) (t : Token) (rest : List ℕ) (ts : List Token) → AreTokens 1 true text (before ++ t ∷
      []) rest → AreTokens 1 true text ts [] → (more : List Token) × (ts ≡ before ++ t ∷ more)
  up_to before t rest ts a b =
      let h = row_first a b refl refl refl in (h.0, h.1 ∙ append_assoc before (t ∷ []) h.0)

  -- what leads on through all tokens has no token at fault
  pub no_fault : {A : Type 0} (ts : List Token) (s : State) (before : List Token) (t : Token) (rest : List ℕ)
      (what : MovetextFaultKind) → AreTokens 1 true text ts [] → Leads g p start ts s
      → AreTokens 1 true text (before ++ t ∷ []) rest → FaultAt g p before t what → A
  no_fault ts s before t rest what are leads row fault =
      let h = up_to before t rest ts row are in
      let f = fails g p fault in
      stopped one g p before t h.0 start s f.state what (subst (λ x. Leads g p start x s) h.1 leads) f.leads f.fails

  one_tree : (tree other : List (List Move)) → IsTree g p text tree → IsTree g p text other → tree ≡ other
  one_tree tree other t u =
      let a = whole g p t.game in
      let b = whole g p u.game in
      let same : a.state ≡ b.state = state_same t.tokens u.tokens a.state b.state t.are_tokens u.are_tokens a.leads
      b.leads in
      distinct_one t.distinct u.distinct (sym a.same ∙ (ap (λ s. s.paths) same ∙ b.same))

  never_both : (tree : List (List Move)) (what : MovetextFaultKind) (place : ℕ) → IsTree g p text tree
      → IsFirstFault g p text what place → ⊥
  never_both tree what place t (too_large big) = omega (arith, big, t.size)
  never_both tree what place t (at_token before u rest {what = k} size row fault) =
      let a = whole g p t.game in no_fault t.tokens a.state before u rest k t.are_tokens a.leads row fault
  never_both tree what place t (at_end tokens {what = k} size row fault) =
      let a = whole g p t.game in
      let b = ends g p fault in
      let same : a.state ≡ b.state = state_same t.tokens tokens a.state b.state t.are_tokens row a.leads b.leads in
      let lacks : Lacks a.state k = subst (λ s. Lacks s k) (sym same) b.lacks in
      elim lacks [
        | inl h ↦ omega (arith, h.0, ap length a.none)
        | inr h ↦ let none : [] ≡ tree = distinct_one nothing t.distinct (sym h.1 ∙ a.same) in
            omega (arith, t.some, ap length none)
      ]

  one_fault : (what other : MovetextFaultKind) (place there : ℕ) → IsFirstFault g p text what place
      → IsFirstFault g p text other there → (what ≡ other) × (place ≡ there)
  one_fault what other place there (too_large big) (too_large too) = (refl, refl)
  one_fault what other place there (too_large big) (at_token before t rest size row fault) =
      absurd (omega (arith, big, size))
  one_fault what other place there (too_large big) (at_end tokens size row fault) = absurd (omega (arith, big, size))
  one_fault what other place there (at_token before t rest size row fault) (too_large big) =
      absurd (omega (arith, big, size))
  one_fault what other place there (at_token before t rest {what = k} size row fault)
      (at_token front u end {what = l} small others wrong) =
      let whole_row = one_row text in
      let a = up_to before t rest whole_row.tokens row whole_row.are in
      let b = up_to front u end whole_row.tokens others whole_row.are in
      let f = fails g p fault in
      let h = fails g p wrong in
      let same = fault_one one g p before front t u a.0 b.0 start f.state h.state k l (sym a.1 ∙ b.1) f.leads f.fails
      h.leads h.fails in
      (same.0, ap (λ x. x.place) same.1)
  one_fault what other place there (at_token before t rest {what = k} size row fault) (at_end tokens small others wrong)
      =
      let b = ends g p wrong in no_fault tokens b.state before t rest k others b.leads row fault
  one_fault what other place there (at_end tokens size row fault) (too_large big) = absurd (omega (arith, big, size))
  one_fault what other place there (at_end tokens size row fault) (at_token before t rest {what = k} small others wrong)
      =
      let a = ends g p fault in no_fault tokens a.state before t rest k row a.leads others wrong
  one_fault what other place there (at_end tokens {what = k} size row fault) (at_end us {what = l} small others wrong) =
      let a = ends g p fault in
      let b = ends g p wrong in
      let same : a.state ≡ b.state = state_same tokens us a.state b.state row others a.leads b.leads in
      (lacks_one a.state k l a.lacks (subst (λ s. Lacks s l) (sym same) b.lacks), refl)

pub one_answer : reading.HasOneAnswer → OneAnswer
one_answer one g p text = record {
  one_tree = one_tree one g p text;
  one_fault = one_fault one g p text;
  never_both = never_both one g p text;
}
