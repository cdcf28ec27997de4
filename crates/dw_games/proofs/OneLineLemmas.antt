-- A text is at most one line and has at most one first fault as a line, and never both.
use Rattle.std.proofs.Common.{◌≡◌, ◌≢◌, ◌⊎◌, ℕ, zero, List, [], ◌∷◌, ◌++◌, length, Err, true, false, refl, sym, ap}
use Rattle.std.proofs.Common.{subst, ◌∙◌, arith, inl, inr}
use Rattle.dw_board.specs.Geometry.{Geometry}
use Rattle.dw_board.specs.Placement.{Placement}
use Rattle.dw_moves.specs.Moves.{Move}
use Rattle.dw_notation.specs.MoveReadingLaws as reading
use Rattle.dw_games.specs.Tokens.{Token, AreTokens}
use Rattle.dw_games.specs.Play.{IsPassed}
use Rattle.dw_games.specs.Printed.{Line, first_line, IsLine, empty, passed, move, aside, AreComments, IsPlay}
use Rattle.dw_games.specs.Printed.{count_moves}
use Rattle.dw_games.specs.Movetext.{IsGame}
use Rattle.dw_games.specs.Faults.{FaultAt}
use Rattle.dw_games.specs.Lines.{IsStraight, IsPlainGame, going_on, ended, IsWrittenLine, LineFaultAt, begins_variation}
use Rattle.dw_games.specs.Lines.{other, IsFirstLineFault, too_large, at_token, no_move, even}
use Rattle.dw_games.specs.Laws.{OneLine}
use Rattle.dw_games.specs.inner.LineReading.{NoneOpens}
use Rattle.dw_games.specs.Play.{beginnings_after}
use Rattle.dw_games.specs.declared.tokens.TokenKind.{TokenKind}
use Rattle.dw_games.specs.declared.tokens.TokenKind.TheVariants.{Comment, Passed, Written, Opens}
use Rattle.dw_games.specs.declared.movetext.TheConstants.{MAX_OPEN}
use Rattle.dw_games.specs.declared.fault.MovetextFaultKind.{MovetextFaultKind}
use Rattle.dw_games.specs.declared.fault.MovetextFaultKind.TheVariants.{Variation}
use Rattle.dw_games.specs.declared.fault.LineFaultKind.{LineFaultKind}
use Rattle.dw_games.specs.declared.fault.LineFaultKind.TheVariants.{Movetext}
use Rattle.dw_games.proofs.PathLemmas.{last_same}
use Rattle.dw_games.proofs.TokenRowLemmas.{one_row}
use Rattle.dw_games.proofs.StepLemmas.{State, start, Next, IsNext, Leads, leads_one, stopped, fault_one, begun}
use Rattle.dw_games.proofs.StepLemmas.{as_kind, ok_err, same_err}
use Rattle.dw_games.proofs.StepLemmas as step
use Rattle.dw_games.proofs.OneAnswerLemmas.{from_start, whole, fails, state_same, up_to, no_fault}
use Rattle.dw_games.proofs.LineLemmas.{main, none_parts, none_more, paths_are}
use Rattle.dw_games.proofs.PrintedLemmas.{follows_form}

-- ---- no token of a line begins a variation
no_opening : (what kind : TokenKind) → what ≡ kind → (kind ≡ Opens → ⊥) → what ≢ Opens
no_opening what kind is differs e = differs (sym is ∙ e)

passed_no_opening : (what : TokenKind) → IsPassed what → what ≢ Opens
passed_no_opening what (inl is) = no_opening what Comment is (λ e. cc)
passed_no_opening what (inr is) = no_opening what Passed is (λ e. cc)

none_join : (ts us : List Token) → NoneOpens ts → NoneOpens us → NoneOpens (ts ++ us)
none_join [] us h k = k
none_join (t ∷ ts) us h k = (h.0, none_join ts us h.1 k)

comments_open_none : (cs : List Token) → AreComments cs → NoneOpens cs
comments_open_none [] h = tt
comments_open_none (c ∷ cs) h = (no_opening c.what Comment h.0 (λ e. cc), comments_open_none cs h.1)

module _ (g : Geometry) (p : Placement) where
  play_opens_none : {room : ℕ} {start line : Line} {ts : List Token} {paths : List (List Move)}
      → IsLine g p room start ts line paths → room ≡ zero → NoneOpens ts
  play_opens_none empty e = tt
  play_opens_none (passed {ts = ts} t v is) e = none_more ts t (play_opens_none v e) (passed_no_opening t.what is)
  play_opens_none (move {ts = ts} {t = t} v follows) e =
      none_more ts t (play_opens_none v e) (no_opening t.what Written (follows_form g p follows).written (λ e. cc))
  play_opens_none (aside moves last opening closing v o w c) e = absurd (omega (arith, e))

  opens_none : {ts : List Token} {moves : List Move} → IsPlainGame g p ts moves → NoneOpens ts
  opens_none (going_on v) = play_opens_none v.1 refl
  opens_none (ended {ts = ts} {result = t} cs v is comments) = none_join ts (t ∷ cs) (play_opens_none v.1 refl)
      (no_opening t.what Written is.written (λ e. cc), comments_open_none cs comments)

  roomier : {room wanted : ℕ} {start line : Line} {ts : List Token} {paths : List (List Move)}
      → IsLine g p room start ts line paths → room ≡ zero → IsLine g p wanted start ts line paths
  roomier empty e = empty
  roomier (passed t v is) e = passed t (roomier v e) is
  roomier (move v follows) e = move (roomier v e) follows
  roomier (aside moves last opening closing v o w c) e = absurd (omega (arith, e))

  more_room : {room : ℕ} {start line : Line} {ts : List Token} {paths : List (List Move)}
      → IsLine g p zero start ts line paths → IsLine g p room start ts line paths
  more_room v = roomier v refl

  -- such play is that of a movetext
  play_of : {ts : List Token} {moves : List Move} → IsStraight g p ts moves → IsPlay g p ts (beginnings_after [] moves)
  play_of {ts = ts} {moves = moves} v = (
    main moves,
    subst (λ x. IsLine g p MAX_OPEN first_line ts (main moves) x) (paths_are g p v.1 (play_opens_none v.1 refl))
        (more_room v.1),
  )

  game_of : {ts : List Token} {moves : List Move} → IsPlainGame g p ts moves → IsGame g p ts (beginnings_after [] moves)
  game_of (going_on v) = inl (play_of v)
  game_of (ended {ts = ts} {result = t} cs v is comments) = inr (record {
    front = ts;
    result = t;
    comments = cs;
    played = play_of v;
    is_result = is;
    are_comments = comments;
    joined = refl;
  })

beginnings_one : (before moves others : List Move) → beginnings_after before moves ≡ beginnings_after before others
    → moves ≡ others
beginnings_one before [] [] e = refl
beginnings_one before [] (n ∷ others) e = cc
beginnings_one before (m ∷ moves) [] e = cc
beginnings_one before (m ∷ moves) (n ∷ others) e =
    let head : before ++ m ∷ [] ≡ before ++ n ∷ [] = cc in
    let rest : beginnings_after (before ++ m ∷ []) moves ≡ beginnings_after (before ++ n ∷ []) others = cc in
    let same : m ≡ n = (last_same before before m n head).1 in
    let more : moves ≡ others = beginnings_one (before ++ m ∷ []) moves others
    (rest ∙ ap (λ z. beginnings_after z others) (sym head)) in
    cc

-- where a token begins a variation and another row has none before its last token
meets : (before front more others : List Token) (t u : Token) → before ++ t ∷ more ≡ front ++ u ∷ others → t.what ≡
    Opens → NoneOpens front → ((before ≡ front) × (t ≡ u)) ⊎ ((rest : List Token) × (before ≡ front ++ u ∷ rest))
meets [] [] more others t u e is none = inl (refl, cc)
meets [] (v ∷ front) more others t u e is none =
    let same : t ≡ v = cc in absurd (none.0 (subst (λ x. x.what ≡ Opens) same is))
meets (w ∷ before) [] more others t u e is none = let same : w ≡ u = cc in inr (before, ap (λ x. x ∷ before) same)
meets (w ∷ before) (v ∷ front) more others t u e is none =
    let same : w ≡ v = cc in
    let rest : before ++ t ∷ more ≡ front ++ u ∷ others = cc in
    elim (meets before front more others t u rest is none.1) [
      | inl h ↦ let tail : before ≡ front = h.0 in inl (cc, h.1)
      | inr h ↦ let tail : before ≡ front ++ u ∷ h.0 = h.1 in inr (h.0, cc)
    ]

-- ---- one answer
variation_is : (s : State) (moves : List Move) (kind : MovetextFaultKind)
    → ◌≡◌ {A = Next} (Err kind) (begun s MAX_OPEN (main moves)) → Variation ≡ kind
variation_is s [] kind e = same_err Variation kind (sym e)
variation_is s (m ∷ moves) kind e = ok_err _ kind (sym e)

module _ (one : reading.HasOneAnswer) (g : Geometry) (p : Placement) where
  -- a variation begins no later than another fault
  opening_first : (before front more others : List Token) (t u : Token) (kind : MovetextFaultKind) (moves : List Move)
      → before ++ t ∷ more ≡ front ++ u ∷ others → IsStraight g p before moves → t.what ≡ Opens → NoneOpens front
      → FaultAt g p front u kind → (Variation ≡ kind) × (t ≡ u)
  opening_first before front more others t u kind moves e v is none fault =
      let f = fails g p fault in
      let s : State = step.within MAX_OPEN (main moves) (count_moves before) [] v.0 in
      let leads : Leads g p start before s = from_start g p (more_room g p v.1) in
      elim (meets before front more others t u e is none) [
        | inl h ↦
            let state : f.state ≡ s =
            leads_one one g p front start f.state s f.leads (subst (λ x. Leads g p start x s) h.0 leads) in
            let next : IsNext g p false u.what s u (Err kind) =
            subst (λ x. IsNext g p x.over u.what x u (Err kind)) state f.fails in
            let opens : u.what ≡ Opens = subst (λ x. x.what ≡ Opens) h.1 is in
            (variation_is s moves kind (subst (λ x. IsNext g p false x s u (Err kind)) opens next), h.1)
        | inr h ↦ stopped one g p front u h.0 start s f.state kind (subst (λ x. Leads g p start x s) h.1 leads) f.leads
            f.fails
      ]

  fault_same : (before front more others : List Token) (t u : Token) (what kind : MovetextFaultKind)
      → before ++ t ∷ more ≡ front ++ u ∷ others → LineFaultAt g p before t what → LineFaultAt g p front u kind
      → (what ≡ kind) × (t ≡ u)
  fault_same before front more others t u what kind e (begins_variation v is) (begins_variation w opens) =
      elim (meets before front more others t u e is (play_opens_none g p w.1 refl)) [
        | inl h ↦ (refl, h.1)
        | inr h ↦
            let none = none_parts front (u ∷ h.0) (subst NoneOpens h.1 (play_opens_none g p v.1 refl)) in
            absurd (none.1.0 opens)
      ]
  fault_same before front more others t u what kind e (begins_variation {moves = moves} v is) (other game fault) =
      opening_first before front more others t u kind moves e v is (opens_none g p game) fault
  fault_same before front more others t u what kind e (other game fault) (begins_variation {moves = moves} v is) =
      let h = opening_first front before others more u t what moves (sym e) v is (opens_none g p game) fault in
      (sym h.0, sym h.1)
  fault_same before front more others t u what kind e (other game fault) (other next wrong) =
      let f = fails g p fault in
      let h = fails g p wrong in
      fault_one one g p before front t u more others start f.state h.state what kind e f.leads f.fails h.leads h.fails

module _ (one : reading.HasOneAnswer) (g : Geometry) (p : Placement) (text : List ℕ) where
  moves_same : (ts us : List Token) (moves others : List Move) → AreTokens 1 true text ts [] → AreTokens 1 true text us
      [] → IsPlainGame g p ts moves → IsPlainGame g p us others → moves ≡ others
  moves_same ts us moves others x y a b =
      let v = whole g p (game_of g p a) in
      let w = whole g p (game_of g p b) in
      let same : v.state ≡ w.state = state_same one g p text ts us v.state w.state x y v.leads w.leads in
      beginnings_one [] moves others (sym v.same ∙ (ap (λ s. s.paths) same ∙ w.same))

  -- such play has no token at fault
  no_line_fault : {A : Type 0} (ts : List Token) (moves : List Move) (before : List Token) (t : Token) (rest : List ℕ)
      (what : MovetextFaultKind) → AreTokens 1 true text ts [] → IsPlainGame g p ts moves
      → AreTokens 1 true text (before ++ t ∷ []) rest → LineFaultAt g p before t what → A
  no_line_fault ts moves before t rest what are game row (begins_variation v is) =
      let h = up_to one g p text before t rest ts row are in
      let none = none_parts before (t ∷ h.0) (subst NoneOpens h.1 (opens_none g p game)) in absurd (none.1.0 is)
  no_line_fault ts moves before t rest what are game row (other so_far fault) =
      let v = whole g p (game_of g p game) in
      no_fault one g p text ts v.state before t rest what are v.leads row fault

  never_both : (moves : List Move) (what : LineFaultKind) (place : ℕ) → IsWrittenLine g p text moves
      → IsFirstLineFault g p text what place → ⊥
  never_both moves what place a (too_large big) = omega (arith, big, a.size)
  never_both moves what place a (at_token before t rest {what = k} size row fault) =
      no_line_fault a.tokens moves before t rest k a.are_tokens a.game row fault
  never_both moves what place a (no_move tokens size row game) =
      let none : moves ≡ [] = moves_same a.tokens tokens moves [] a.are_tokens row a.game game in
      omega (arith, a.odd, ap length none)
  never_both moves what place a (even tokens others size row game some is) =
      let same : moves ≡ others = moves_same a.tokens tokens moves others a.are_tokens row a.game game in
      omega (arith, a.odd, is, ap length same)

  one_fault : (what kind : LineFaultKind) (place there : ℕ) → IsFirstLineFault g p text what place
      → IsFirstLineFault g p text kind there → (what ≡ kind) × (place ≡ there)
  one_fault what kind place there (too_large big) (too_large too) = (refl, refl)
  one_fault what kind place there (too_large big) (at_token before t rest size row fault) = absurd (omega (
    arith,
    big,
    size,
  ))
  one_fault what kind place there (too_large big) (no_move tokens size row game) = absurd (omega (arith, big, size))
  one_fault what kind place there (too_large big) (even tokens moves size row game some is) =
      absurd (omega (arith, big, size))
  one_fault what kind place there (at_token before t rest size row fault) (too_large big) = absurd (omega (
    arith,
    big,
    size,
  ))
  one_fault what kind place there (at_token before t rest {what = k} size row fault)
      (at_token front u end {what = l} small others wrong) =
      let all = one_row text in
      let a = up_to one g p text before t rest all.tokens row all.are in
      let b = up_to one g p text front u end all.tokens others all.are in
      let same = fault_same one g p before front a.0 b.0 t u k l (sym a.1 ∙ b.1) fault wrong in
      (ap Movetext same.0, ap (λ x. x.place) same.1)
  one_fault what kind place there (at_token before t rest {what = k} size row fault) (no_move tokens small others game)
      =
      no_line_fault tokens [] before t rest k others game row fault
  one_fault what kind place there (at_token before t rest {what = k} size row fault)
      (even tokens moves small others game some is) = no_line_fault tokens moves before t rest k others game row fault
  one_fault what kind place there (no_move tokens size row game) (too_large big) = absurd (omega (arith, big, size))
  one_fault what kind place there (no_move tokens size row game) (at_token before t rest {what = k} small others fault)
      =
      no_line_fault tokens [] before t rest k row game others fault
  one_fault what kind place there (no_move tokens size row game) (no_move us small others next) = (refl, refl)
  one_fault what kind place there (no_move tokens size row game) (even us moves small others next some is) =
      absurd (omega (arith, some, ap length (moves_same tokens us [] moves row others game next)))
  one_fault what kind place there (even tokens moves size row game some is) (too_large big) =
      absurd (omega (arith, big, size))
  one_fault what kind place there (even tokens moves size row game some is)
      (at_token before t rest {what = k} small others fault) =
      no_line_fault tokens moves before t rest k row game others fault
  one_fault what kind place there (even tokens moves size row game some is) (no_move us small others next) =
      absurd (omega (arith, some, ap length (moves_same tokens us moves [] row others game next)))
  one_fault what kind place there (even tokens moves size row game some is) (even us ns small others next few too) =
      (refl, refl)

pub one_line : reading.HasOneAnswer → OneLine
one_line one g p text = record {
  one_line = λ moves others a b. moves_same one g p text a.tokens b.tokens moves others a.are_tokens b.are_tokens a.game
      b.game;
  one_fault = one_fault one g p text;
  never_both = never_both one g p text;
}
