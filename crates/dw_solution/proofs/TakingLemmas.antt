-- The lines of a lister, taken one by one.
use Rattle.std.proofs.Common.{◌≡◌, ℕ, ◌+◌, ◌<◌, ◌≤◌, zero, suc, List, [], ◌∷◌, ◌++◌, length, take, reverse, refl, sym}
use Rattle.std.proofs.Common.{ap, subst, ◌∙◌, inl, inr, append_assoc, append-nil, length-append}
use Rattle.std.proofs.Common.{arith, Bool, true, false}
use Rattle.std.proofs.lemmas.List.{take_at, take_all}
use Rattle.std.proofs.lemmas.Bool.{true≢false, cases_lt, le-ltb, lt-ltb}
use Rattle.std.specs.Prelude.{◌↔◌, IsTrue, nat_lt}
use Rattle.dw_board.specs.Geometry.{Geometry}
use Rattle.dw_board.specs.Placement.{Placement}
use Rattle.dw_board.specs.Lists.{Member}
use Rattle.dw_moves.specs.Laws.{MovesHaveKeys}
use Rattle.dw_moves.specs.Moves.{Move, play}
use Rattle.dw_moves.specs.Order.{IsAscending, Precedes}
use Rattle.dw_moves.specs.inner.MemberLemmas.{mem_right}
use Rattle.dw_notation.specs.Text.{ArePlayable}
use Rattle.dw_list.specs.Laws.{NoneBegins, LinesExist}
use Rattle.dw_solve.specs.Lines.{Line, Lines, Before}
use Rattle.dw_list.specs.LineStack.{LineStack, AreToCome}
use Rattle.dw_list.specs.StackWalk.{GivesFirst, GivesNone}
use Rattle.dw_solve.specs.inner.LineOrderLemmas.{precedes_asym}
use Rattle.dw_solution.specs.FirstLines.{LinesFrom}
use Rattle.dw_solution.specs.inner.Steps.{AreAllPlayable, last_line, Parts, MayFollow}
use Rattle.dw_solution.specs.inner.Taking.{AreTaken, Takes, GoesOn}

-- ---- a line parts from the one before it
parts_more : (m : Move) (a b : List Move) → Parts a b → Parts (m ∷ a) (m ∷ b)
parts_more m a b h = record {
  common = m ∷ h.common;
  move = h.move;
  instead = h.instead;
  rest = h.rest;
  others = h.others;
  line = ap (λ z. m ∷ z) h.line;
  other = ap (λ z. m ∷ z) h.other;
  differ = h.differ;
}

before_parts : MovesHaveKeys → (g : Geometry) (p : Placement) (a b : List Move) → Before g p a b
    → ((m : Move) (rest : List Move) → b ≡ a ++ m ∷ rest → ⊥) → Parts a b
before_parts keys g p [] [] h whole = absurd h
before_parts keys g p [] (n ∷ b) h whole = absurd (whole n b refl)
before_parts keys g p (m ∷ a) [] h whole = absurd h
before_parts keys g p (m ∷ a) (n ∷ b) (inl less) whole = record {
  common = [];
  move = m;
  instead = n;
  rest = a;
  others = b;
  line = refl;
  other = refl;
  differ = λ e. let here = subst (λ z. Precedes g p z n) e less in precedes_asym keys g p n n here here;
}
before_parts keys g p (m ∷ a) (n ∷ b) (inr later) whole =
    let inner = before_parts keys g (play g p m) a b later.1
    (λ k rest e. whole k rest (ap (λ z. z ∷ b) (sym later.0) ∙ ap (λ z. m ∷ z) e)) in
    subst (λ z. Parts (m ∷ a) (z ∷ b)) later.0 (parts_more m a b inner)

-- the last of some lines, and those before it
split_last : (l : List Move) (lines : List (List Move)) → (front : List (List Move))
    × (l ∷ lines ≡ front ++ last_line (l ∷ lines) ∷ [])
split_last l [] = ([], refl)
split_last l (k ∷ lines) = let rest = split_last k lines in (l ∷ rest.0, ap (λ z. l ∷ z) rest.1)

ascending_next : (g : Geometry) (p : Placement) (front : List (List Move)) (a b : List Move) (rest : List (List Move))
    → IsAscending (Before g p) (front ++ a ∷ b ∷ rest) → Before g p a b
ascending_next g p [] a b rest h = h.0 b (inl refl)
ascending_next g p (l ∷ front) a b rest h = ascending_next g p front a b rest h.1

line_starts : (g : Geometry) (p : Placement) (n : ℕ) (l : List Move) → Line g p n l
    → (m : Move) × (rest : List Move) × (l ≡ m ∷ rest)
line_starts g p zero l h = absurd h
line_starts g p (suc n) [] h = absurd h
line_starts g p (suc n) (m ∷ l) h = (m, l, refl)

pub may_follow : MovesHaveKeys → NoneBegins → (g : Geometry) (p : Placement) (n : ℕ) (taken : List (List Move))
    (line : List Move) (rest : List (List Move)) → Lines g p n (taken ++ line ∷ rest) → MayFollow taken line
may_follow keys none g p n [] line rest all = line_starts g p n line ((all.exactly line).0 (inl refl))
may_follow keys none g p n (l ∷ lines) line rest all =
    let split = split_last l lines in
    let last : List Move = last_line (l ∷ lines) in
    let whole : (l ∷ lines) ++ line ∷ rest ≡ split.0 ++ last ∷ line ∷ rest =
    ap (λ z. z ++ line ∷ rest) split.1 ∙ append_assoc split.0 (last ∷ []) (line ∷ rest) in
    let here = subst (λ z. Lines g p n z) whole all in
    let one = (here.exactly last).0 (mem_right last split.0 (last ∷ line ∷ rest) (inl refl)) in
    let two = (here.exactly line).0 (mem_right line split.0 (last ∷ line ∷ rest) (inr (inl refl))) in
    before_parts keys g p last line (ascending_next g p split.0 last line rest here.ascending)
    (λ m more e. none g p n last m more one (subst (λ z. Line g p n z) e two))

-- ---- what is taken
pub taken_none : (g : Geometry) (p : Placement) (n : ℕ) (s : LineStack) (lines : List (List Move)) → Lines g p n lines
    → AreToCome g s lines → AreTaken g p n s []
taken_none g p n s lines all come = record { rest = lines; all = all; to_come = come }

-- a line given is the next one
pub given_first : (g : Geometry) (p : Placement) (n : ℕ) (a b : LineStack) (taken : List (List Move)) (line : List Move)
    → line ≡ reverse b.line → GivesFirst g a b → (h : AreTaken g p n a taken)
    → (rest : List (List Move)) × Lines g p n (taken ++ line ∷ rest) × AreToCome g b rest
given_first g p n a b taken line is gives h =
    let first = gives.first h.rest h.to_come in
    let e : h.rest ≡ line ∷ first.0 = first.1 ∙ ap (λ z. z ∷ first.0) (sym is) in (
      first.0,
      subst (λ z. Lines g p n (taken ++ z)) e h.all,
      (gives.rest first.0).0 (subst (AreToCome g a) first.1 h.to_come),
    )

pub taken_more : (g : Geometry) (p : Placement) (n : ℕ) (a b : LineStack) (old new : List (List Move))
    (line : List Move)
    → line ≡ reverse b.line → GivesFirst g a b → AreTaken g p n a old → new ≡ old ++ line ∷ []
    → Takes g p n true b old new
taken_more g p n a b old new line is gives h e =
    let next = given_first g p n a b old line is gives h in
    let all : Lines g p n (new ++ next.0) =
    subst (λ z. Lines g p n z) (sym (ap (λ z. z ++ next.0) e ∙ append_assoc old (line ∷ []) next.0)) next.1 in
    (record { rest = next.0; all = all; to_come = next.2 }, (line, e))

no_members : {X : Type 0} → (xs : List X) → ((x : X) → Member x xs → ⊥) → xs ≡ []
no_members [] h = refl
no_members (x ∷ xs) h = absurd (h x (inl refl))

-- no line given: all are taken
pub taken_all : (g : Geometry) (p : Placement) (n : ℕ) (a b : LineStack) (taken : List (List Move)) → GivesNone g a b
    → AreTaken g p n a taken → Lines g p n taken
taken_all g p n a b taken gives h =
    let none : h.rest ≡ [] = no_members h.rest (λ x m. (gives.none.exactly x).1 ((h.to_come.exactly x).0 m)) in
    subst (λ z. Lines g p n z) (ap (λ z. taken ++ z) none ∙ append-nil taken) h.all

-- ---- at the end
pub first_some : LinesExist → (g : Geometry) (p : Placement) (n most : ℕ) (lines taken rest : List (List Move))
    → Lines g p n lines → Lines g p n (taken ++ rest) → length taken ≡ most → taken ≡ take most lines
first_some exist g p n most lines taken rest all here many =
    sym (ap (take most) (exist.only g p n lines (taken ++ rest) all here) ∙ take_at taken rest most many)

pub more_some : LinesExist → (g : Geometry) (p : Placement) (n most : ℕ) (lines taken : List (List Move))
    (line : List Move)
    (rest : List (List Move)) → Lines g p n lines → Lines g p n (taken ++ line ∷ rest) → length taken ≡ most
    → most < length lines
more_some exist g p n most lines taken line rest all here many =
    let e = exist.only g p n lines (taken ++ line ∷ rest) all here in
    omega (arith, ap length e, length-append taken (line ∷ rest), many)

pub first_all : LinesExist → (g : Geometry) (p : Placement) (n most : ℕ) (lines taken : List (List Move))
    → Lines g p n lines → Lines g p n taken → length taken ≤ most
    → (taken ≡ take most lines) × (most < length lines → ⊥)
first_all exist g p n most lines taken all here few =
    let e : lines ≡ taken = exist.only g p n lines taken all here in (
      sym (ap (take most) e ∙ take_all most taken few),
      λ low. omega (arith, low, ap length e, few),
    )

line_playable : (g : Geometry) (p : Placement) (n : ℕ) (l : List Move) → Line g p n l → ArePlayable g p l
line_playable g p zero l h = absurd h
line_playable g p (suc n) [] h = absurd h
line_playable g p (suc n) (m ∷ []) h = (h.0, tt)
line_playable g p (suc n) (m ∷ r ∷ l) h = (h.0, (h.2, line_playable g (play g (play g p m) r) n l h.3))

pub in_take : {X : Type 0} → (x : X) (n : ℕ) (xs : List X) → Member x (take n xs) → Member x xs
in_take x zero xs h = absurd h
in_take x (suc n) [] h = absurd h
in_take x (suc n) (y ∷ xs) (inl e) = inl e
in_take x (suc n) (y ∷ xs) (inr h) = inr (in_take x n xs h)

-- the first lines can be played
pub first_playable : (g : Geometry) (p : Placement) (n most : ℕ) (lines first : List (List Move)) → Lines g p n lines
    → first ≡ take most lines → AreAllPlayable g p first
first_playable g p n most lines first all e l here =
    line_playable g p n l ((all.exactly l).0 (in_take l most lines (subst (Member l) e here)))

-- an answer is the test that it answers
test_is : (more : Bool) (a b : ℕ) → IsTrue more ↔ (a < b) → more ≡ nat_lt a b
test_is true a b h = sym (lt-ltb a b (h.0 refl))
test_is false a b h = elim (cases_lt a b) [
  | inl less ↦ absurd (true≢false (sym (h.1 less)))
  | inr most ↦ sym (le-ltb a b most)
]

abbrev the_lines : Placement → List (List Move) → Bool → LinesFrom
the_lines p lines more = record { start = p; lines = lines; more = more }

-- the first lines, and whether there are more
pub lines_of_taken : (p : Placement) (lines taken : List (List Move)) (more : Bool) (most : ℕ)
    → taken ≡ take most lines → IsTrue more ↔ (most < length lines)
    → the_lines p taken more ≡ the_lines p (take most lines) (nat_lt most (length lines))
lines_of_taken p lines taken more most are tells = λ i. the_lines p (are i) (test_is more most (length lines) tells i)

-- ---- the answers
pub took_none : (g : Geometry) (p : Placement) (n : ℕ) (some : Bool) (s : LineStack) (old new : List (List Move))
    → Takes g p n some s old new → some ≡ false → Lines g p n old × (new ≡ old)
took_none g p n true s old new h e = absurd (true≢false e)
took_none g p n false s old new h e = h

pub took_one : (g : Geometry) (p : Placement) (n : ℕ) (some : Bool) (s : LineStack) (old new : List (List Move))
    → Takes g p n some s old new → some ≡ true → AreTaken g p n s new × (length new ≡ length old + 1)
took_one g p n true s old new h e = (h.0, ap length h.1.1 ∙ length-append old (h.1.0 ∷ []))
took_one g p n false s old new h e = absurd (true≢false (sym e))

pub ended : LinesExist → (g : Geometry) (p : Placement) (n most : ℕ) (some : Bool) (s : LineStack)
    (lines old new : List (List Move)) → Takes g p n some s old new → some ≡ false → length old ≤ most
    → Lines g p n lines → (new ≡ take most lines) × (IsTrue false ↔ (most < length lines))
ended exist g p n most some s lines old new takes e few all =
    let h = took_none g p n some s old new takes e in
    let whole = first_all exist g p n most lines old all h.0 few in
    (h.1 ∙ whole.0, ((λ t. absurd (true≢false (sym t))), (λ low. absurd (whole.1 low))))

pub stopped : LinesExist → (g : Geometry) (p : Placement) (n most : ℕ) (more : Bool) (lines taken : List (List Move))
    → GoesOn g p n more taken → length taken ≡ most → Lines g p n lines
    → (taken ≡ take most lines) × (IsTrue more ↔ (most < length lines))
stopped exist g p n most true lines taken h many all = (
  first_some exist g p n most lines taken (h.0 ∷ h.1) all h.2 many,
  ((λ t. more_some exist g p n most lines taken h.0 h.1 all h.2 many), (λ low. refl)),
)
stopped exist g p n most false lines taken h many all =
    let whole = first_all exist g p n most lines taken all h (omega (arith, many)) in
    (whole.0, ((λ t. absurd (true≢false (sym t))), (λ low. absurd (whole.1 low))))
