-- Reading bytes: what was read so far, and the faults.
use Rattle.std.proofs.Common.{◌≡◌, ℕ, suc, zero, ◌+◌, ◌*◌, ◌^◌, ◌%◌, ◌≤◌, ◌<◌, true, false, Option, Some, None, List}
use Rattle.std.proofs.Common.{[], ◌∷◌, ◌++◌, length, take, drop, slice_index, refl, sym, ap, ◌∙◌, subst, arith, inl}
use Rattle.std.proofs.Common.{inr, ◌⊎◌, append_assoc, append-nil, length-append, length-drop, eqb, Result, Ok, Err}
use Rattle.std.specs.Prelude.{nat_lt, MatchResult}
use Rattle.arrayvec.specs.ArrayVec.{ArrayVec}
use Rattle.std.specs.Int.{w64, from_be_bytes}
use Rattle.std.proofs.lemmas.Bool.{cases_Bool, le-leb, lt-leb, eqb-true, and_parts, or_cases}
use Rattle.dw_board.specs.Geometry.{Geometry, squares}
use Rattle.dw_board.specs.inner.SquareSetLemmas.{is_square-true}
use Rattle.dw_moves.specs.Moves.{Move}
use Rattle.dw_list.specs.declared.tokens.TokenFault.{TokenFault}
use Rattle.dw_list.specs.declared.tokens.TokenFault.TheVariants.{Version, Length, Board}
use Rattle.dw_list.specs.Tokens.{number_in, IsMove, AreMoves, IsCounted, IsVersion1, IsVersion2, first_of, move_fault}
use Rattle.dw_list.specs.Tokens.{moves_fault, counted_fault, board_fault, bytes_fault, are_moves, names_board}
use Rattle.dw_list.proofs.TokenBitLemmas.{IsNumberOf-small}

-- ---- a move
pub eight_bytes : (bytes : List ℕ) → length bytes ≡ 10
    → from_be_bytes w64 (slice_index bytes 2 ∷ slice_index bytes 3 ∷ slice_index bytes 4 ∷ slice_index bytes 5
    ∷ slice_index bytes 6 ∷ slice_index bytes 7 ∷ slice_index bytes 8 ∷ slice_index bytes 9 ∷ []) ≡ number_in bytes
unfolding number_in
eight_bytes [] e = absurd (omega arith)
eight_bytes (a ∷ []) e = absurd (omega arith)
eight_bytes (a ∷ b ∷ rest) e = refl

pub less_not : (a b : ℕ) → b ≤ a → nat_lt a b ≡ false
less_not a b h = lt-leb (suc a) b (omega arith)

pub less_is : (a b : ℕ) → a < b → nat_lt a b ≡ true
less_is a b h = le-leb (suc a) b (omega arith)

pub no_move_fault : (g : Geometry) (step : Move) (bytes : List ℕ) → IsMove g step bytes → move_fault g bytes ≡ None
no_move_fault g step bytes is = rw (
  is.from,
  is.to,
  is_square-true g step.from is.from_on,
  is_square-true g step.to is.to_on,
  less_is (number_in bytes) (2 ^ squares g) (IsNumberOf-small g step.taken (number_in bytes) is.taken),
) refl

-- ---- moves: of so many, this line was read up to a place, and the rest is to be read
pub record IsReadTo (g : Geometry) (count : ℕ) (bytes : List ℕ) (line : List Move) (place : ℕ) (rest : List ℕ) :
    Type 0 where
  pub left : ℕ
  pub sum : place + left ≡ count
  pub whole : length rest ≡ 10 * left
  pub number : length line ≡ place
  pub fault : moves_fault g count bytes ≡ moves_fault g left rest
  pub more : (tail : List Move) → AreMoves g tail rest → AreMoves g (line ++ tail) bytes

fault_here : (g : Geometry) (left : ℕ) (rest : List ℕ) (fault : Option TokenFault) → move_fault g (take 10 rest) ≡ fault
    → moves_fault g (suc left) rest ≡ first_of fault (moves_fault g left (drop 10 rest))
unfolding moves_fault
fault_here g left rest fault e = ap (λ f. first_of f (moves_fault g left (drop 10 rest))) e

more_of : (g : Geometry) (count : ℕ) (bytes : List ℕ) (line : List Move) (place : ℕ) (rest : List ℕ) (step : Move)
    (left : ℕ)
    → place < count → place + left ≡ count → length rest ≡ 10 * left → length line ≡ place → moves_fault g count bytes
    ≡ moves_fault g left rest
    → ((tail : List Move) → AreMoves g tail rest → AreMoves g (line ++ tail) bytes) → IsMove g step (take 10 rest)
    → IsReadTo g count bytes (line ++ step ∷ []) (place + 1) (drop 10 rest)
more_of g count bytes line place rest step zero lt sum whole number fault more is = absurd (omega arith)
more_of g count bytes line place rest step (suc left) lt sum whole number fault more is = record {
  left = left;
  sum = omega arith;
  whole = omega (arith, length-drop 10 rest);
  number = omega (arith, length-append line (step ∷ []));
  fault = fault ∙ fault_here g left rest None (no_move_fault g step (take 10 rest) is);
  more = λ tail are. rw append_assoc (more (step ∷ tail) (is, are));
}

pub read_more : (g : Geometry) (count : ℕ) (bytes : List ℕ) (line : List Move) (place : ℕ) (rest : List ℕ) (step : Move)
    → place < count → IsReadTo g count bytes line place rest → IsMove g step (take 10 rest)
    → IsReadTo g count bytes (line ++ step ∷ []) (place + 1) (drop 10 rest)
read_more g count bytes line place rest step lt h is = more_of g count bytes line place rest step h.left lt h.sum
    h.whole h.number h.fault h.more is

fault_of : (g : Geometry) (count left place : ℕ) (bytes rest : List ℕ) (fault : TokenFault) → place < count
    → place + left ≡ count
    → moves_fault g count bytes ≡ moves_fault g left rest → move_fault g (take 10 rest) ≡ Some fault
    → moves_fault g count bytes ≡ Some fault
fault_of g count zero place bytes rest fault lt sum same e = absurd (omega arith)
fault_of g count (suc left) place bytes rest fault lt sum same e = same ∙ fault_here g left rest (Some fault) e

pub read_fault : (g : Geometry) (count : ℕ) (bytes : List ℕ) (line : List Move) (place : ℕ) (rest : List ℕ)
    (fault : TokenFault)
    → place < count → IsReadTo g count bytes line place rest → move_fault g (take 10 rest) ≡ Some fault
    → moves_fault g count bytes ≡ Some fault
read_fault g count bytes line place rest fault lt h e = fault_of g count h.left place bytes rest fault lt h.sum h.fault
    e

pub nothing : (rest : List ℕ) → length rest ≡ 0 → rest ≡ []
nothing [] e = refl
nothing (x ∷ rest) e = absurd (omega arith)

pub read_end : (g : Geometry) (count : ℕ) (bytes : List ℕ) (line : List Move) (rest : List ℕ) → count % 2 ≡ 1
    → count ≤ 39 → IsReadTo g count bytes line count rest → IsCounted g line (count ∷ bytes)
read_end g count bytes line rest odd most h = record {
  moves = bytes;
  is = ap (λ n. n ∷ bytes) (sym h.number);
  odd = rw h.number odd;
  most = rw h.number most;
  are = rw append-nil at (h.more [] (nothing rest (let s = h.sum in let w = h.whole in omega arith)));
}

pub counted_moves : (g : Geometry) (n : ℕ) (moves : List ℕ) → are_moves n (length moves) ≡ true
    → counted_fault g (n ∷ moves) ≡ moves_fault g n moves
unfolding counted_fault
counted_moves g n moves e = rw e refl

pub counted_wrong : (g : Geometry) (n : ℕ) (moves : List ℕ) → are_moves n (length moves) ≡ false
    → counted_fault g (n ∷ moves) ≡ Some Length
unfolding counted_fault
counted_wrong g n moves e = rw e refl

pub counted_none : (g : Geometry) → counted_fault g [] ≡ Some Length
unfolding counted_fault
counted_none g = refl

-- ---- boards
pub parts_of_board : (g : Geometry) (rows : ℕ) → names_board g rows ≡ true → ((rows ≡ 10) ⊎ (rows ≡ 8))
    × (rows ≡ g.rows)
parts_of_board g rows e =
    let p = and_parts _ _ e in
    let either : (rows ≡ 10) ⊎ (rows ≡ 8) = elim (or_cases _ _ p.0) [
      | inl ten ↦ inl (eqb-true _ _ ten)
      | inr eight ↦
          inr (eqb-true _ _ eight)
    ] in
    (either, eqb-true _ _ p.1)

pub board_named : (g : Geometry) (rows : ℕ) (counted : List ℕ) → names_board g rows ≡ true
    → board_fault g (rows ∷ counted) ≡ counted_fault g counted
unfolding board_fault
board_named g rows counted e = rw e refl

pub board_other : (g : Geometry) (rows : ℕ) (counted : List ℕ) → names_board g rows ≡ false
    → board_fault g (rows ∷ counted) ≡ Some Board
unfolding board_fault
board_other g rows counted e = rw e refl

pub board_none : (g : Geometry) → board_fault g [] ≡ Some Board
unfolding board_fault
board_none g = refl

pub version_2-is : (g : Geometry) (line : List Move) (rows : ℕ) (counted : List ℕ) → names_board g rows ≡ true
    → IsCounted g line counted → IsVersion2 g line (2 ∷ rows ∷ counted)
version_2-is g line rows counted e are =
    let p = parts_of_board g rows e in
    let both : (g.rows ≡ 10) ⊎ (g.rows ≡ 8) = elim p.0 [
      | inl ten ↦ inl (sym p.1 ∙ ten)
      | inr eight ↦ inr (sym p.1 ∙ eight)
    ] in
    record { rows = both; counted = counted; is = ap (λ r. 2 ∷ r ∷ counted) p.1; are = are }

-- ---- versions
not_same : (a b : ℕ) → (a ≡ b → ⊥) → eqb a b ≡ false
not_same a b never = elim (cases_Bool (eqb a b)) [ inl here ↦ absurd (never (eqb-true a b here)) | inr other ↦ other ]

pub bytes_none : (g : Geometry) → bytes_fault g [] ≡ Some Length
unfolding bytes_fault
bytes_none g = refl

pub bytes_first : (g : Geometry) (rest : List ℕ) → g.rows ≡ 10 → bytes_fault g (1 ∷ rest) ≡ counted_fault g rest
unfolding bytes_fault
bytes_first g rest e = rw e refl

pub bytes_first_elsewhere : (g : Geometry) (rest : List ℕ) → (g.rows ≡ 10 → ⊥) → bytes_fault g (1 ∷ rest) ≡ Some Board
unfolding bytes_fault
bytes_first_elsewhere g rest never = elim (cases_Bool (eqb g.rows 10)) [
  | inl here ↦ absurd (never (eqb-true _ _ here))
  | inr other ↦ rw other refl
]

pub bytes_second : (g : Geometry) (rest : List ℕ) → bytes_fault g (2 ∷ rest) ≡ board_fault g rest
unfolding bytes_fault
bytes_second g rest = refl

bytes_test : (g : Geometry) (version : ℕ) (rest : List ℕ) → eqb version 1 ≡ false → eqb version 2 ≡ false
    → bytes_fault g (version ∷ rest) ≡ Some Version
unfolding bytes_fault
bytes_test g version rest a b = rw (a, b) refl

pub bytes_other : (g : Geometry) (version : ℕ) (rest : List ℕ) → (version ≡ 1 → ⊥) → (version ≡ 2 → ⊥)
    → bytes_fault g (version ∷ rest) ≡ Some Version
bytes_other g version rest a b = bytes_test g version rest (not_same version 1 a) (not_same version 2 b)

-- ---- results
pub counted_read : (g : Geometry) (bytes moves : List ℕ) (count : ℕ) (r : Result (ArrayVec Move) TokenFault)
    → bytes ≡ count ∷ moves → are_moves count (length moves) ≡ true
    → MatchResult r (λ line. IsCounted g line.items (count ∷ moves)) (λ fault. moves_fault g count moves ≡ Some fault)
    → MatchResult r (λ line. IsCounted g line.items bytes) (λ fault. counted_fault g bytes ≡ Some fault)
counted_read g bytes moves count (Ok line) e t h = subst (IsCounted g line.items) (sym e) h
counted_read g bytes moves count (Err fault) e t h = ap (counted_fault g) e ∙ (counted_moves g count moves t ∙ h)

pub version_2_read : (g : Geometry) (bytes rest : List ℕ) (rows : ℕ) (r : Result (ArrayVec Move) TokenFault)
    → bytes ≡ rows ∷ rest → names_board g rows ≡ true
    → MatchResult r (λ line. IsCounted g line.items rest) (λ fault. counted_fault g rest ≡ Some fault)
    → MatchResult r (λ line. IsVersion2 g line.items (2 ∷ bytes)) (λ fault. board_fault g bytes ≡ Some fault)
version_2_read g bytes rest rows (Ok line) e t h = subst (λ b. IsVersion2 g line.items (2 ∷ b)) (sym e)
    (version_2-is g line.items rows rest t h)
version_2_read g bytes rest rows (Err fault) e t h = ap (board_fault g) e ∙ (board_named g rows rest t ∙ h)

pub bytes_read_1 : (g : Geometry) (bytes rest : List ℕ) (version : ℕ) (r : Result (ArrayVec Move) TokenFault)
    → bytes ≡ version ∷ rest → version ≡ 1 → g.rows ≡ 10
    → MatchResult r (λ line. IsCounted g line.items rest) (λ fault. counted_fault g rest ≡ Some fault)
    → MatchResult r (λ line. IsVersion1 g line.items bytes ⊎ IsVersion2 g line.items bytes)
    (λ fault. bytes_fault g bytes ≡ Some fault)
bytes_read_1 g bytes rest version (Ok line) e one ten h = inl (record {
  rows = ten;
  counted = rest;
  is = e ∙ ap (λ x. x ∷ rest) one;
  are = h;
})
bytes_read_1 g bytes rest version (Err fault) e one ten h = ap (bytes_fault g) (e ∙ ap (λ x. x ∷ rest) one)
    ∙ (bytes_first g rest ten ∙ h)

pub bytes_read_2 : (g : Geometry) (bytes rest : List ℕ) (version : ℕ) (r : Result (ArrayVec Move) TokenFault)
    → bytes ≡ version ∷ rest → version ≡ 2
    → MatchResult r (λ line. IsVersion2 g line.items (2 ∷ rest)) (λ fault. board_fault g rest ≡ Some fault)
    → MatchResult r (λ line. IsVersion1 g line.items bytes ⊎ IsVersion2 g line.items bytes)
    (λ fault. bytes_fault g bytes ≡ Some fault)
bytes_read_2 g bytes rest version (Ok line) e two h =
    inr (subst (IsVersion2 g line.items) (sym (e ∙ ap (λ x. x ∷ rest) two)) h)
bytes_read_2 g bytes rest version (Err fault) e two h = ap (bytes_fault g) (e ∙ ap (λ x. x ∷ rest) two)
    ∙ (bytes_second g rest ∙ h)

pub bytes_fault_1 : (g : Geometry) (bytes rest : List ℕ) (version : ℕ) → bytes ≡ version ∷ rest → version ≡ 1
    → (g.rows ≡ 10 → ⊥) → bytes_fault g bytes ≡ Some Board
bytes_fault_1 g bytes rest version e one other = ap (bytes_fault g) (e ∙ ap (λ x. x ∷ rest) one)
    ∙ bytes_first_elsewhere g rest other

pub bytes_fault_other : (g : Geometry) (bytes rest : List ℕ) (version : ℕ) → bytes ≡ version ∷ rest → (version ≡ 1 → ⊥)
    → (version ≡ 2 → ⊥) → bytes_fault g bytes ≡ Some Version
bytes_fault_other g bytes rest version e one two = ap (bytes_fault g) e ∙ bytes_other g version rest one two
