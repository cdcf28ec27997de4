-- The answer to a whole text, from what was read of its tokens.
use Rattle.std.proofs.Common.{◌≡◌, ℕ, ◌+◌, ◌<◌, ◌≤◌, true, List, [], ◌∷◌, ◌++◌, length, Ok, Err, refl, sym, ap, subst}
use Rattle.std.proofs.Common.{◌∙◌}
use Rattle.std.proofs.Common.{arith, append_assoc, append-nil, inl, inr, Result}
use Rattle.std.specs.Prelude.{MatchResult}
use Rattle.dw_board.specs.Geometry.{Geometry}
use Rattle.dw_board.specs.Placement.{Placement}
use Rattle.dw_board.specs.Lists.{Member}
use Rattle.dw_moves.specs.Moves.{Move}
use Rattle.dw_games.specs.Walk.{PlayedTree}
use Rattle.dw_games.specs.Tokens as of
use Rattle.dw_games.specs.Tokens.{Token, AreTokens}
use Rattle.dw_games.specs.Play.{IsResult}
use Rattle.dw_games.specs.Printed.{IsOver, AreComments}
use Rattle.dw_games.specs.Movetext.{IsGame, AreDistinct, nothing, again, first}
use Rattle.dw_games.specs.Faults.{IsFirstFault, IsAnswer, at_token, at_end, unclosed, no_move, cut_off, behind_result}
use Rattle.dw_games.specs.inner.Ahead.{AreAhead, bytes_ahead}
use Rattle.dw_games.specs.inner.Reading.{HasRead, IsFaultOf, ReadOn, IsStopped, IsOdd}
use Rattle.dw_games.specs.declared.tokens.Tokens.{Tokens}
use Rattle.dw_games.specs.declared.tokens.TokenKind.TheVariants.{Comment}
use Rattle.dw_games.specs.declared.movetext.TheConstants.{MAX_MOVETEXT}
use Rattle.dw_games.specs.declared.fault.MovetextFault.{MovetextFault}
use Rattle.dw_games.specs.declared.fault.MovetextFault.TheVariants.{Refused, Memory}
use Rattle.dw_games.specs.declared.fault.MovetextFaultKind.TheVariants.{Unclosed, Empty}
use Rattle.dw_games.specs.declared.reader.Reader.{Reader}
use Rattle.dw_games.proofs.PathLemmas.{filled}
use Rattle.dw_games.proofs.ReadingLemmas.{opened_open, opened_room, none_around}

-- ---- tokens one after another
pub read_more : (old now next : Tokens) (ts : List Token) (t : Token) → ReadOn old ts now
    → ((more : List Token) (rest : List ℕ) → AreAhead next more rest → AreAhead now (t ∷ more) rest)
    → ReadOn old (ts ++ t ∷ []) next
read_more old now next ts t on step = λ more rest ahead.
    rw (append_assoc ts (t ∷ []) more) (on (t ∷ more) rest (step more rest ahead))

-- the tokens that were read stand before the bytes that are ahead
pub ahead_all : (old now : Tokens) (ts : List Token) → ReadOn old ts now → AreAhead old ts (bytes_ahead now)
ahead_all old now ts on =
    subst (λ x. AreAhead old x (bytes_ahead now)) (append-nil ts) (on [] (bytes_ahead now) of.nothing)

pub ahead_end : (old now : Tokens) (ts : List Token) → ReadOn old ts now → AreAhead now [] [] → AreAhead old ts []
ahead_end old now ts on end = subst (λ x. AreAhead old x []) (append-nil ts) (on [] [] end)

pub comments_more : (cs : List Token) (t : Token) → AreComments cs → t.what ≡ Comment → AreComments (cs ++ t ∷ [])
comments_more [] t h e = (e, tt)
comments_more (c ∷ cs) t h e = (h.0, comments_more cs t h.1 e)

pub stopped : (g : Geometry) (p : Placement) (old : Tokens) (ts : List Token) (t : Token) (rest : List ℕ)
    (why : MovetextFault) → AreAhead old (ts ++ t ∷ []) rest → IsFaultOf g p ts t why → IsStopped g p old why
stopped g p old ts t rest (Refused what place) ahead h = (ts, t, rest, ahead, h.0, h.1)
stopped g p old ts t rest Memory ahead h = tt

-- ---- answers
module _ (g : Geometry) (p : Placement) (text : List ℕ) (size : length text ≤ MAX_MOVETEXT) (start : Tokens)
    (whole : (ts : List Token) (rest : List ℕ) → AreAhead start ts rest → AreTokens 1 true text ts rest) where
  pub stopped_answer : (why : MovetextFault) → IsStopped g p start why → IsAnswer g p text (Err why)
  stopped_answer (Refused what place) h =
      subst (λ x. IsFirstFault g p text what x) (sym h.5) (at_token h.0 h.1 h.2 size (whole _ _ h.3) h.4)
  stopped_answer Memory h = tt

  pub over : {B : Type 0} (r : Reader B) (ts : List Token) (t : Token) (cs : List Token) → (h : HasRead g p ts r)
      → r.outer.items ≡ [] → IsResult t → AreComments cs → IsOver g p (ts ++ t ∷ cs) h.paths
  over r ts t cs h none is comments = record {
    front = ts;
    result = t;
    comments = cs;
    played = none_around g p r.tree.paths h.opened none;
    is_result = is;
    are_comments = comments;
    joined = refl;
  }

  pub joined : (ts cs : List Token) (t u : Token) → (ts ++ t ∷ cs) ++ u ∷ [] ≡ (ts ++ t ∷ []) ++ (cs ++ u ∷ [])
  joined ts cs t u = append_assoc ts (t ∷ cs) (u ∷ []) ∙ sym (append_assoc ts (t ∷ []) (cs ++ u ∷ []))

  -- behind the result another token is at fault
  pub odd_answer : {B : Type 0} (r : Reader B) (now : Tokens) (ts cs : List Token) (t u : Token) (rest : List ℕ)
      (why : MovetextFault) → HasRead g p ts r → r.outer.items ≡ [] → IsResult t → ReadOn start (ts ++ t ∷ []) now
      → AreComments cs → AreAhead now (cs ++ u ∷ []) rest → IsOdd u why → IsAnswer g p text (Err why)
  odd_answer r now ts cs t u rest (Refused what place) h none is on comments ahead odd =
      let tokens : AreTokens 1 true text ((ts ++ t ∷ cs) ++ u ∷ []) rest =
      subst (λ x. AreTokens 1 true text x rest) (sym (joined ts cs t u)) (whole _ _ (on _ _ ahead)) in
      let end = over r ts t cs h none is comments in
      subst (λ x. IsFirstFault g p text what x) (sym odd.1) (elim odd.0 [
        | inl cut ↦ subst (λ x. IsFirstFault g p text x u.place) (sym cut.0)
            (at_token (ts ++ t ∷ cs) u rest size tokens (cut_off end cut.1))
        | inr other ↦ subst (λ x. IsFirstFault g p text x u.place) (sym other.0)
            (at_token (ts ++ t ∷ cs) u rest size tokens (behind_result end other.1 other.2))
      ])
  odd_answer r now ts cs t u rest Memory h none is on comments ahead odd = absurd odd

  pub unclosed_answer : {B : Type 0} (r : Reader B) (ts : List Token) → HasRead g p ts r → AreAhead start ts []
      → 0 < length r.outer.items → IsAnswer g p text (Err (Refused Unclosed (length text + 1)))
  unclosed_answer r ts h ahead some =
      let room = opened_room g p r.tree.paths h.opened in
      at_end ts size (whole ts [] ahead) (unclosed (opened_open g p r.tree.paths h.opened) (omega (arith, room, some)))

  none_distinct : (paths tree : List (List Move)) → AreDistinct paths tree → tree ≡ [] → paths ≡ []
  none_distinct paths tree nothing e = refl
  none_distinct paths tree (again {paths = front} path d there) e =
      absurd (subst (λ x. Member path x) e there)
  none_distinct paths tree (first {tree = front} path d there) e = filled front path (sym e)

  -- the tree, if it has a move
  pub tree_answer : (tree : PlayedTree) (tokens : List Token) (paths : List (List Move)) → tree.start ≡ p
      → AreAhead start tokens [] → IsGame g p tokens paths → AreDistinct paths tree.paths
      → (answer : Result PlayedTree MovetextFault)
      → MatchResult answer (λ t. (t ≡ tree) × (0 < length t.paths))
      (λ why. (why ≡ Refused Empty (length text + 1)) × (tree.paths ≡ []))
      → IsAnswer g p text answer
  tree_answer tree tokens paths from ahead game distinct (Ok t) h = (
    ap (λ x. x.start) h.0 ∙ from,
    record {
      size = size;
      tokens = tokens;
      are_tokens = whole tokens [] ahead;
      paths = paths;
      game = game;
      distinct = subst (λ x. AreDistinct paths x.paths) (sym h.0) distinct;
      some = h.1;
    },
  )
  tree_answer tree tokens paths from ahead game distinct (Err why) h =
      let none : paths ≡ [] = none_distinct paths tree.paths distinct h.1 in
      subst (λ x. IsAnswer g p text (Err x)) (sym h.0)
      (at_end tokens size (whole tokens [] ahead) (no_move (subst (λ x. IsGame g p tokens x) none game)))

  pub with_result : {B : Type 0} (r : Reader B) (now : Tokens) (ts cs : List Token) (t : Token) → (h : HasRead g p ts r)
      → r.outer.items ≡ [] → IsResult t → ReadOn start (ts ++ t ∷ []) now → AreComments cs → AreAhead now cs []
      → (answer : Result PlayedTree MovetextFault)
      → MatchResult answer (λ x. (x ≡ r.tree) × (0 < length x.paths))
      (λ why. (why ≡ Refused Empty (length text + 1)) × (r.tree.paths ≡ []))
      → IsAnswer g p text answer
  with_result r now ts cs t h none is on comments ahead answer match =
      let tokens : AreAhead start (ts ++ t ∷ cs) [] =
      subst (λ x. AreAhead start x []) (append_assoc ts (t ∷ []) cs) (on cs [] ahead) in
      tree_answer r.tree (ts ++ t ∷ cs) h.paths h.start tokens (inr (over r ts t cs h none is comments)) h.distinct
      answer match

  pub without_result : {B : Type 0} (r : Reader B) (ts : List Token) → (h : HasRead g p ts r) → r.outer.items ≡ []
      → AreAhead start ts [] → (answer : Result PlayedTree MovetextFault)
      → MatchResult answer (λ x. (x ≡ r.tree) × (0 < length x.paths))
      (λ why. (why ≡ Refused Empty (length text + 1)) × (r.tree.paths ≡ []))
      → IsAnswer g p text answer
  without_result r ts h none ahead answer match =
      tree_answer r.tree ts h.paths h.start ahead (inl (none_around g p r.tree.paths h.opened none)) h.distinct answer
      match
