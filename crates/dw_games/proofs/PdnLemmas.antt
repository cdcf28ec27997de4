-- Play of PDN is play as it is printed.
use Rattle.std.proofs.Common.{◌≡◌, ◌⊎◌, ℕ, suc, List, [], ◌∷◌, ◌++◌, None, refl, sym, ap, subst, ◌∙◌, inl, inr}
use Rattle.std.proofs.Common.{append-nil, append_assoc}
use Rattle.dw_board.specs.Geometry.{Geometry}
use Rattle.dw_board.specs.Placement.{Placement}
use Rattle.dw_moves.specs.Moves.{Move}
use Rattle.dw_games.specs.Tokens.{Token}
use Rattle.dw_games.specs.Play.{IsMove, after, named}
use Rattle.dw_games.specs.Printed.{variation as as_variation, Line, begins, goes_on, first_line, answer_of, count_moves}
use Rattle.dw_games.specs.Printed.{Follows, alone, opens_variation, IsLine, aside}
use Rattle.dw_games.specs.Printed as printed
use Rattle.dw_games.specs.Pdn.{IsVariation, empty, passed, move, variation, PdnIsRead}

-- a line that begins after some moves, as a variation
abbrev Begins : List Move → Line → Type 0
Begins before start = (start ≡ goes_on as_variation before [] None) ⊎ ((last : Move) × (start ≡ begins before last))

-- and the line after moves of its own
abbrev line_at : Line → (before moves : List Move) → Line
line_at start before [] = start
line_at start before (m ∷ moves) = goes_on as_variation before (m ∷ moves) None

line_more : (start : Line) (before moves : List Move) (m : Move)
    → goes_on as_variation before (moves ++ m ∷ []) None ≡ line_at start before (moves ++ m ∷ [])
line_more start before [] m = refl
line_more start before (n ∷ moves) m = refl

-- after it no reply counts
none_counts : (front : List Move) (last : Move) (before others : List Move) (many : ℕ)
    → answer_of (line_at (begins front last) before others) many None ≡ None
none_counts front last before [] many = refl
none_counts front last before (m ∷ others) many = refl

module _ (g : Geometry) (p : Placement) where
  goes : (start : Line) (before moves : List Move) (t : Token) (m : Move) → Begins before start
      → IsMove g (after g p (before ++ moves)) t m
      → (Follows g p (goes_on as_variation before moves None) t as_variation before moves (m ∷ []))
      → Follows g p (line_at start before moves) t as_variation before moves (m ∷ [])
  goes start before (n ∷ moves) t m from is on = on
  goes start before [] t m (inl e) is on =
      subst (λ z. Follows g p z t as_variation before [] (m ∷ [])) (sym e) on
  goes start before [] t m (inr from) is on =
      subst (λ z. Follows g p z t as_variation before [] (m ∷ [])) (sym from.1)
      (opens_variation (subst (λ z. IsMove g (after g p z) t m) (append-nil before) is))

  as_line : {room : ℕ} {before moves : List Move} {ts : List Token} {paths : List (List Move)} (start : Line)
      → Begins before start → IsVariation g p room before ts moves paths
      → IsLine g p room start ts (line_at start before moves) paths
  as_line start from empty = printed.empty
  as_line start from (passed t v is) = printed.passed t (as_line start from v) is
  as_line {room = room} start from (move {before = before} {moves = moves} {ts = ts} {paths = paths} {t = t} {m = m} v
      low is) =
      let follows = goes start before moves t m from is (alone (named low is)) in
      subst (λ z. IsLine g p room start (ts ++ t ∷ []) z (paths ++ (before ++ (moves ++ m ∷ [])) ∷ []))
      (line_more start before moves m)
      (subst (λ z. IsLine g p room start (ts ++ t ∷ []) (goes_on as_variation before (moves ++ m ∷ []) None)
      (paths ++ z ∷ [])) (append_assoc before moves (m ∷ [])) (printed.move (as_line start from v) follows))
  as_line {room = R} start from (variation {room = room} {before = before} {others = others} {ts = ts} {us = us}
      {paths = paths} {more = more} moves last opening closing v o w c) =
      let now : Line = goes_on as_variation before (moves ++ last ∷ []) None in
      let outer : IsLine g p (suc room) start ts now paths =
      subst (λ z. IsLine g p (suc room) start ts z paths) (sym (line_more start before moves last))
      (as_line start from v) in
      let inner = as_line (begins (before ++ moves) last) (inr (last, refl)) w in
      subst (λ z. IsLine g p (suc room) start (ts ++ opening ∷ (us ++ closing ∷ [])) z (paths ++ more))
      (ap (goes_on as_variation before (moves ++ last ∷ []))
      (none_counts (before ++ moves) last (before ++ moves) others (count_moves us))
      ∙ line_more start before moves last)
      (aside moves last opening closing outer o inner c)

pub pdn_is_read : PdnIsRead
pdn_is_read g p ts moves paths v = (line_at first_line [] moves, as_line g p first_line (inl refl) v)
