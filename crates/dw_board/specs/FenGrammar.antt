-- The grammar of FEN texts, on the words of their tokens.
use Rattle.std.specs.Prelude.{◌≡◌, ℕ, ◌+◌, ◌-◌, ◌≤◌, Bool, true, false, if◌then◌else◌, Some, None, List, [], ◌∷◌, ◌++◌}
use Rattle.std.specs.Prelude.{length, map}
use Rattle.std.specs.List.{range_with_len, flat_map}
use Rattle.dw_board.specs.Geometry.{Geometry}
use Rattle.dw_board.specs.Placement.{Placement, empty, placed, put_fault, same_side}
use Rattle.dw_board.specs.FenTokens.{Token, tokens_from, colon, comma, dash, full_stop, is_sign, side_named}
use Rattle.dw_board.specs.FenTokens.{is_king_letter, number_named}
use Rattle.dw_board.specs.declared.piece.Side.{Side}
use Rattle.dw_board.specs.declared.piece.Kind.TheVariants.{Man, King}
use Rattle.dw_board.specs.declared.piece.Piece.{Piece}

-- the words of tokens, without their places
abbrev pub texts : List Token → List (List ℕ)
texts tokens = map (λ t. t.text) tokens

-- pieces of one kind on the squares from one to another
pub record Placing : Type 0 where
  pub is_king : Bool
  pub from : ℕ
  pub to : ℕ

-- a number, or two with a dash between, the second not below the first
pub data IsRange : Geometry → List (List ℕ) → ℕ → ℕ → Type 0 where
  number : {g : Geometry} {w : List ℕ} {n : ℕ} → number_named g w ≡ Some n → IsRange g (w ∷ []) n n
  range : {g : Geometry} {v d w : List ℕ} {m n : ℕ} → number_named g v ≡ Some m → is_sign dash d ≡ true
      → number_named g w ≡ Some n → m ≤ n → IsRange g (v ∷ d ∷ w ∷ []) m n

-- an item is a range of men, or K and a range of kings
pub data IsItem : Geometry → List (List ℕ) → Placing → Type 0 where
  men : {g : Geometry} {ws : List (List ℕ)} {m n : ℕ} → IsRange g ws m n
      → IsItem g ws (record { is_king = false; from = m; to = n })
  kings : {g : Geometry} {k : List ℕ} {ws : List (List ℕ)} {m n : ℕ} → is_king_letter k ≡ true → IsRange g ws m n
      → IsItem g (k ∷ ws) (record { is_king = true; from = m; to = n })

-- items are joined by commas
pub data IsItems : Geometry → List (List ℕ) → List Placing → Type 0 where
  single : {g : Geometry} {ws : List (List ℕ)} {i : Placing} → IsItem g ws i → IsItems g ws (i ∷ [])
  more : {g : Geometry} {i : Placing} {is : List Placing} (ws : List (List ℕ)) (c : List ℕ) (vs : List (List ℕ))
      → IsItem g ws i → is_sign comma c ≡ true → IsItems g vs is → IsItems g (ws ++ c ∷ vs) (i ∷ is)

-- a list is a colour, and nothing or items
pub data IsList : Geometry → List (List ℕ) → Side → List Placing → Type 0 where
  bare : {g : Geometry} {w : List ℕ} {side : Side} → side_named w ≡ Some side → IsList g (w ∷ []) side []
  full : {g : Geometry} {w : List ℕ} {ws : List (List ℕ)} {side : Side} {is : List Placing} → side_named w ≡ Some side
      → IsItems g ws is → IsList g (w ∷ ws) side is

-- a text ends with nothing or a stop
pub data IsEnd : List (List ℕ) → Type 0 where
  nothing : IsEnd []
  stop : {w : List ℕ} → is_sign full_stop w ≡ true → IsEnd (w ∷ [])

-- the rest after a second list: the end of the text, or a colon and any further fields, which are passed over
pub data IsTail : List (List ℕ) → Type 0 where
  ends : {ws : List (List ℕ)} → IsEnd ws → IsTail ws
  fields : {w : List ℕ} {ws : List (List ℕ)} → is_sign colon w ≡ true → IsTail (w ∷ ws)

-- the pieces that an item names, each with its square, ascending
abbrev pub named : Side → Placing → List (ℕ × Piece)
named side i = map (λ s. (s, record { side = side; kind = if i.is_king then King else Man }))
    (range_with_len i.from (i.to + 1 - i.from))

-- the pieces that items name, item after item
abbrev pub all_named : Side → List Placing → List (ℕ × Piece)
all_named side is = flat_map (named side) is

-- p becomes q by putting each piece in turn on an empty square: no man on its last row, and no piece too many
abbrev pub Sets : Geometry → Placement → List (ℕ × Piece) → Placement → Type 0
Sets g p [] q = p ≡ q
Sets g p (first ∷ others) q = (put_fault g p first.0 first.1 ≡ None) × Sets g (placed p first.0 (Some first.1)) others q

-- the words of a text that names a position: turn, `:`, a list, and nothing or `:` and a list of the other colour
pub data Names : Geometry → List (List ℕ) → Placement → Type 0 where
  one_list : {g : Geometry} {turn c : List ℕ} {p : Placement} (ws es : List (List ℕ)) (mover first : Side)
      (is : List Placing)
      → side_named turn ≡ Some mover → is_sign colon c ≡ true → IsList g ws first is → IsEnd es
      → Sets g (empty mover) (all_named first is) p → Names g (turn ∷ c ∷ (ws ++ es)) p
  two_lists : {g : Geometry} {turn c : List ℕ} {p : Placement} (ws : List (List ℕ)) (between : List ℕ)
      (vs es : List (List ℕ)) (mover first second : Side) (is js : List Placing)
      → side_named turn ≡ Some mover → is_sign colon c ≡ true → IsList g ws first is
      → is_sign colon between ≡ true → IsList g vs second js → same_side first second ≡ false → IsTail es
      → Sets g (empty mover) (all_named first is ++ all_named second js) p
      → Names g (turn ∷ c ∷ (ws ++ between ∷ (vs ++ es))) p

-- a FEN text of at most 1,024 bytes names a position
abbrev pub Fen : Geometry → List ℕ → Placement → Type 0
Fen g text p = (length text ≤ 1024) × Names g (texts (tokens_from 1 text)) p
