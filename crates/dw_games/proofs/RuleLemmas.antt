-- No token fits two rules: the pieces of the two sides stand on different squares.
use Rattle.std.proofs.Common.{◌≡◌, ◌⊎◌, ℕ, zero, suc, ◌+◌, ◌-◌, List, [], ◌∷◌}
use Rattle.std.proofs.Common.{Some, None, Err, refl, sym, ap, subst, ◌∙◌, arith, inl, inr, set, get_or}
use Rattle.std.proofs.lemmas.List.{get_or_past}
use Rattle.std.proofs.lemmas.List.FromFn.{get_or-map-range_with_len}
use Rattle.std.proofs.lemmas.Bool.{cases_Bool, cases_lt}
use Rattle.std.specs.FinSet as fin
use Rattle.dw_board.specs.Geometry.{Geometry, Squares}
use Rattle.dw_board.specs.Placement.{Placement, at, left, without, landed, other}
use Rattle.dw_board.specs.declared.piece.Piece.{Piece}
use Rattle.dw_board.specs.declared.piece.Side.{Side}
use Rattle.dw_board.specs.declared.piece.Side.TheVariants.{White, Black}
use Rattle.dw_moves.specs.Moves.{Move, play, Legal, LegalAt, Stands}
use Rattle.dw_notation.specs.MoveReading.{IsRead, Named, QuietMove, Capture, Names, Fits as FitsText}
use Rattle.dw_notation.specs.MoveReadingLaws.{HasOneAnswer, NamesOneThing}
use Rattle.dw_notation.specs.declared.read_move.MoveFault.TheVariants as reading
use Rattle.dw_games.specs.Tokens.{Token}
use Rattle.dw_games.specs.Play.{IsMove, IsNamed, IsOnlyMove, plain}
use Rattle.dw_games.specs.Rules.{NamesOneSide, Rule, names, leaves_out, refuses, Fits, named, left_out, ambiguous}
use Rattle.dw_games.specs.Rules.{ambiguous_behind, not_forced, nowhere, FitsOneRule}
use Rattle.dw_games.proofs.PlaceLemmas.{absent, same}
use Rattle.dw_games.proofs.StepLemmas.{not_named, not_several, not_two}
use Rattle.dw_games.proofs.TakenLemmas.{fits_legal}

-- ---- the pieces after a move
set_cases : {A : Type 0} (xs : List A) (i : ℕ) (a d : A) (j : ℕ)
    → (get_or (set xs i a) j d ≡ a) ⊎ (get_or (set xs i a) j d ≡ get_or xs j d)
set_cases [] i a d j = inr refl
set_cases (x ∷ xs) zero a d zero = inl refl
set_cases (x ∷ xs) zero a d (suc j) = inr refl
set_cases (x ∷ xs) (suc i) a d zero = inr refl
set_cases (x ∷ xs) (suc i) a d (suc j) = set_cases xs i a d j

left_cases : (p : Placement) (ss : Squares) (s : ℕ) → (left p ss s ≡ None) ⊎ (left p ss s ≡ at p s)
left_cases p ss s = elim (cases_Bool (fin.contains ss s)) [ inl e ↦ inl (rw e refl) | inr e ↦ inr (rw e refl) ]

without_cases : (p : Placement) (ss : Squares) (s : ℕ)
    → (get_or (without p ss).cells (s - 1) None ≡ None) ⊎ (get_or (without p ss).cells (s - 1) None ≡ at p s)
without_cases p ss s = elim (cases_lt (s - 1) 50) [
  | inl low ↦
      let e : get_or (without p ss).cells (s - 1) None ≡ left p ss (s - 1 + 1) =
      get_or-map-range_with_len (left p ss) 1 50 (s - 1) (s - 1 + 1) None low (omega arith) in
      elim (left_cases p ss (s - 1 + 1)) [
        | inl h ↦ inl (e ∙ h)
        | inr h ↦
            let same_place : s - 1 + 1 - 1 ≡ s - 1 = omega arith in
            inr (e ∙ h ∙ ap (λ k. get_or p.cells k None) same_place)
      ]
  | inr high ↦ inl (get_or_past (without p ss).cells (s - 1) None high)
]

-- a square is empty, or the piece that moved stands there, or the piece that stood there before
play_cases : (g : Geometry) (p : Placement) (m : Move) (s : ℕ) → (at (play g p m) s ≡ None)
    ⊎ ((at (play g p m) s ≡ landed g m.to (at p m.from)) ⊎ (at (play g p m) s ≡ at p s))
play_cases g p m s =
    let cells = (without p (fin.insert m.taken m.from)).cells in
    elim (set_cases cells (m.to - 1) (landed g m.to (at p m.from)) None (s - 1)) [
      | inl moved ↦ inr (inl moved)
      | inr as_before ↦ elim (without_cases p (fin.insert m.taken m.from) s) [
        | inl gone ↦ inl (as_before ∙ gone)
        | inr stays ↦ inr (inr (as_before ∙ stays))
      ]
    ]

-- a legal move starts from a piece of its side
legal_at : (g : Geometry) (p : Placement) (k : ℕ) (m : Move) → LegalAt g p k m
    → (piece : Piece) × Stands g p m.from piece
legal_at g p zero m is = (is.0.piece, is.0.stands)
legal_at g p (suc k) m is = (is.1.path.piece, is.1.path.stands)

own_piece : (g : Geometry) (p : Placement) (m : Move) → Legal g p m → (piece : Piece) × Stands g p m.from piece
own_piece g p m is = legal_at g p is.0 m is.2

not_other : {A : Type 0} (side : Side) → side ≡ other side → A
not_other White e = cc
not_other Black e = cc

-- the two sides do not move from the same square
two_sides : {A : Type 0} (g : Geometry) (p : Placement) (m one two : Move) → Legal g p m → Legal g p one
    → Legal g (play g p m) two → one.from ≡ two.from → A
two_sides g p m one two legal here there e =
    let moved = own_piece g p m legal in
    let a = own_piece g p one here in
    let b = own_piece g (play g p m) two there in
    let stands : at (play g p m) two.from ≡ Some b.0 = b.1.there in
    elim (play_cases g p m two.from) [
      | inl gone ↦ absent b.0 (sym gone ∙ stands)
      | inr (inl landed_here) ↦
          let is : Some (b.0) ≡ landed g m.to (Some moved.0) =
          sym stands ∙ (landed_here ∙ ap (landed g m.to) moved.1.there) in
          let side : b.0.side ≡ moved.0.side = ap (λ x. x.side) (same b.0 _ is) in
          not_other p.turn (sym moved.1.own ∙ (sym side ∙ b.1.own))
      | inr (inr stayed) ↦
          let is : Some a.0 ≡ Some b.0 =
          sym a.1.there ∙ (ap (at p) e ∙ (sym stayed ∙ stands)) in
          not_other p.turn (sym a.1.own ∙ (ap (λ x. x.side) (same a.0 b.0 is) ∙ b.1.own))
    ]

-- ---- the square that a text names first
abbrev start_of : Named → ℕ
start_of (QuietMove from to) = from
start_of (Capture []) = 0
start_of (Capture (s ∷ squares)) = s

first_square : (s : ℕ) (squares : List ℕ) (t : ℕ) (more : List ℕ) → ◌≡◌ {A = List ℕ} (s ∷ squares) (t ∷ more) → t ≡ s
first_square s squares t more e = cc

fits_from : (g : Geometry) (p : Placement) (named_ : Named) (m : Move) → FitsText g p named_ m
    → m.from ≡ start_of named_
fits_from g p (QuietMove from to) m h = h.1.0
fits_from g p (Capture []) m h = absurd h
fits_from g p (Capture (s ∷ [])) m h = absurd h
fits_from g p (Capture (s ∷ u ∷ [])) m h = h.1.0
fits_from g p (Capture (s ∷ u ∷ v ∷ squares)) m h = first_square s (u ∷ v ∷ squares) m.from h.landings h.are

-- a text that names moves, by one of them
record IsMeant (g : Geometry) (p : Placement) (text : List ℕ) : Type 0 where
  thing : Named
  form : Names g text thing
  m : Move
  fits : FitsText g p thing m

meant : (g : Geometry) (p : Placement) (text : List ℕ) → IsNamed g p text → IsMeant g p text
meant g p text (inl is) = record {
  thing = is.1.named;
  form = is.1.names;
  m = is.0;
  fits = is.1.answers.fits;
}
meant g p text (inr is) = record {
  thing = is.named;
  form = is.names;
  m = is.answers.first;
  fits = is.answers.fits;
}

pub one_side : NamesOneThing → NamesOneSide
one_side only g p m text legal here there =
    let a = meant g p text here in
    let b = meant g (play g p m) text there in
    let thing : a.thing ≡ b.thing = only g text a.thing b.thing a.form b.form in
    two_sides g p m a.m b.m legal (fits_legal g p a.thing a.m a.fits) (fits_legal g (play g p m) b.thing b.m b.fits)
    (fits_from g p a.thing a.m a.fits ∙ (ap start_of thing ∙ sym (fits_from g (play g p m) b.thing b.m b.fits)))

-- ---- one rule
module _ (thing : NamesOneThing) (one : HasOneAnswer) (g : Geometry) (p : Placement) (t : Token) where
  apart : {A : Type 0} (m : Move) → Legal g p m → IsNamed g p (plain t.text) → IsNamed g (play g p m) (plain t.text) → A
  apart m legal here there = absurd (one_side thing g p m (plain t.text) legal here there)

  here_one : (m : Move) → IsMove g p t m → IsNamed g p (plain t.text)
  here_one m is = inl (m, is.named)

  as_named : (rule : Rule) → Fits g p t rule → rule ≡ names → (m : Move) × IsMove g p t m
  as_named rule (named m is) e = (m, is)
  as_named rule (left_out reply m only is) e = cc
  as_named rule (ambiguous many) e = cc
  as_named rule (ambiguous_behind reply only many) e = cc
  as_named rule (not_forced reply two legal behind) e = cc
  as_named rule (nowhere none behind) e = cc

  as_out : (rule : Rule) → Fits g p t rule → rule ≡ leaves_out
      → (reply m : Move) × IsOnlyMove g p reply × IsMove g (play g p reply) t m
  as_out rule (named m is) e = cc
  as_out rule (left_out reply m only is) e = (reply, m, only, is)
  as_out rule (ambiguous many) e = cc
  as_out rule (ambiguous_behind reply only many) e = cc
  as_out rule (not_forced reply two legal behind) e = cc
  as_out rule (nowhere none behind) e = cc

  refuted : {A : Type 0} (m : Move) → IsMove g p t m → (rule : Rule) → Fits g p t rule → rule ≡ refuses → A
  refuted m is rule (named n too) e = cc
  refuted m is rule (left_out reply n only too) e = cc
  refuted m is rule (ambiguous many) e = not_several one g p (plain t.text) m is.named many
  refuted m is rule (ambiguous_behind reply only many) e = apart reply only.legal (here_one m is) (inr many)
  refuted m is rule (not_forced reply two legal behind) e = apart reply legal (here_one m is) behind
  refuted m is rule (nowhere none behind) e = not_named one g p (plain t.text) none (here_one m is)

  out_refuted : {A : Type 0} (reply m : Move) → IsOnlyMove g p reply → IsMove g (play g p reply) t m → (rule : Rule)
      → Fits g p t rule → rule ≡ refuses → A
  out_refuted reply m only is rule (named n too) e = cc
  out_refuted reply m only is rule (left_out other n also too) e = cc
  out_refuted reply m only is rule (ambiguous many) e = apart reply only.legal (inr many) (inl (m, is.named))
  out_refuted reply m only is rule (ambiguous_behind other also many) e =
      let equal : other ≡ reply = only.alone other also.legal in
      not_several one g (play g p reply) (plain t.text) m is.named
      (subst (λ x. IsRead g (play g p x) (plain t.text) (Err reading.Ambiguous)) equal many)
  out_refuted reply m only is rule (not_forced other two legal behind) e = not_two g p reply only two
  out_refuted reply m only is rule (nowhere none behind) e =
      not_named one g (play g p reply) (plain t.text) (behind reply only.legal) (inl (m, is.named))

  named_out : {A : Type 0} → Fits g p t names → Fits g p t leaves_out → A
  named_out a b =
      let n = as_named names a refl in
      let o = as_out leaves_out b refl in
      apart o.0 o.2.legal (here_one n.0 n.1) (inl (o.1, o.3.named))

  named_refused : {A : Type 0} → Fits g p t names → Fits g p t refuses → A
  named_refused a b = let n = as_named names a refl in refuted n.0 n.1 refuses b refl

  out_refused : {A : Type 0} → Fits g p t leaves_out → Fits g p t refuses → A
  out_refused a b = let o = as_out leaves_out a refl in out_refuted o.0 o.1 o.2 o.3 refuses b refl

  rules_one : (rule other : Rule) → Fits g p t rule → Fits g p t other → rule ≡ other
  rules_one names names a b = refl
  rules_one leaves_out leaves_out a b = refl
  rules_one refuses refuses a b = refl
  rules_one names leaves_out a b = named_out a b
  rules_one leaves_out names a b = named_out b a
  rules_one names refuses a b = named_refused a b
  rules_one refuses names a b = named_refused b a
  rules_one leaves_out refuses a b = out_refused a b
  rules_one refuses leaves_out a b = out_refused b a

pub fits_one_rule : NamesOneThing → HasOneAnswer → FitsOneRule
fits_one_rule thing one g p t rule other a b = rules_one thing one g p t rule other a b
