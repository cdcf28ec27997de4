-- The laws of tokens.
use Rattle.std.proofs.Common.{◌≡◌, ℕ, suc, zero, ◌/◌, ◌^◌, ◌≤◌, ◌<◌, ◌⊎◌, inl, inr, List, [], ◌∷◌, ◌++◌, length, refl}
use Rattle.std.proofs.Common.{sym, ap, ◌∙◌, subst, arith}
use Rattle.std.specs.Int.{w64, to_be_bytes, bytes_high_first, byte_at}
use Rattle.std.proofs.lemmas.Nat.{from_be_bytes-to_be_bytes_8, pow_below, mod_below}
use Rattle.hex.specs.Hex.{IsBytes}
use Rattle.hex.proofs.HexLemmas.{decode_of-encode_lower, decode_of-same}
use Rattle.dw_board.specs.Geometry.{Geometry, IsBoard, squares, OnBoard}
use Rattle.dw_moves.specs.Moves.{Move}
use Rattle.dw_board.specs.Lists.{Member}
use Rattle.dw_list.specs.Tokens.{number_in, IsMove, AreMoves, IsCounted, IsVersion1, IsVersion2, number_of, move_bytes}
use Rattle.dw_list.specs.Tokens.{moves_bytes, line_bytes}
use Rattle.dw_list.specs.TokenLaws.{IsOnBoard, WrittenIsToken, OneLine, TokensHaveNoFault, Version1Keeps}
use Rattle.dw_list.proofs.TokenBitLemmas.{number_of-is, number_of-small}
use Rattle.dw_list.proofs.TokenTextLemmas.{version_one, version_clean, token_length, bytes_token_fault, same_behind}
use Rattle.dw_list.proofs.TokenTextLemmas.{one_or_two}

-- ---- one line
pub one_line : OneLine
one_line g text line other a b =
    version_one g line other a.bytes a.version (subst (λ x. IsVersion1 g other x ⊎ IsVersion2 g other x)
    (decode_of-same text b.bytes a.bytes b.digits a.digits) b.version)

pub tokens_have_no_fault : TokensHaveNoFault
tokens_have_no_fault g text line t = bytes_token_fault g text t.bytes (token_length g text line t) t.digits
    ∙ version_clean g line t.bytes t.version

-- ---- the bytes of a line
bytes_none : IsBytes []
bytes_none i = omega arith

bytes_cons : (b : ℕ) (rest : List ℕ) → b < 256 → IsBytes rest → IsBytes (b ∷ rest)
bytes_cons b rest h hs zero = h
bytes_cons b rest h hs (suc i) = hs i

bytes_append : (xs ys : List ℕ) → IsBytes xs → IsBytes ys → IsBytes (xs ++ ys)
bytes_append [] ys h k = k
bytes_append (x ∷ xs) ys h k = bytes_cons x (xs ++ ys) (h 0) (bytes_append xs ys (λ i. h (suc i)) k)

byte_small : (k n : ℕ) → byte_at k n < 256
byte_small zero n = mod_below n 256 (omega arith)
byte_small (suc k) n = mod_below (n / 256 ^ suc k) 256 (omega arith)

high_first : (k n : ℕ) → IsBytes (bytes_high_first k n)
high_first zero n = bytes_none
high_first (suc k) n = bytes_cons (byte_at k n) (bytes_high_first k n) (byte_small k n) (high_first k n)

eight_bytes : (n : ℕ) → IsBytes (to_be_bytes w64 n)
eight_bytes n = high_first 8 n

on_byte : (g : Geometry) → IsBoard g → (s : ℕ) → OnBoard g s → s < 256
on_byte g b s on = let h = b.squares_high in let k = on.1 in omega arith

move_is_bytes : (g : Geometry) → IsBoard g → (step : Move) → IsOnBoard g step → IsBytes (move_bytes g step)
unfolding move_bytes
move_is_bytes g b step on =
    let eight = to_be_bytes w64 (number_of g step.taken) in
    bytes_cons step.from (step.to ∷ eight) (on_byte g b step.from on.from)
    (bytes_cons step.to eight (on_byte g b step.to on.to) (eight_bytes (number_of g step.taken)))

moves_are_bytes : (g : Geometry) → IsBoard g → (line : List Move) → ((step : Move) → Member step line
    → IsOnBoard g step) → IsBytes (moves_bytes g line)
unfolding moves_bytes
moves_are_bytes g b [] on = bytes_none
moves_are_bytes g b (step ∷ line) on = bytes_append (move_bytes g step) (moves_bytes g line)
    (move_is_bytes g b step (on step (inl refl))) (moves_are_bytes g b line (λ m in_line. on m (inr in_line)))

number_back : (g : Geometry) → IsBoard g → (step : Move) → number_in (move_bytes g step) ≡ number_of g step.taken
unfolding number_in move_bytes
number_back g b step =
    let few : squares g < 64 = let h = b.squares_high in omega arith in
    let fits : number_of g step.taken < 2 ^ 64 = let h = number_of-small g step.taken in let k = pow_below (squares g)
    64 few in omega arith in
    from_be_bytes-to_be_bytes_8 (number_of g step.taken) fits

move_is : (g : Geometry) → IsBoard g → (step : Move) → IsOnBoard g step → IsMove g step (move_bytes g step)
unfolding move_bytes
move_is g b step on = record {
  ten = refl;
  from = refl;
  to = refl;
  from_on = on.from;
  to_on = on.to;
  taken = rw (number_back g b step) (number_of-is g step.taken on.taken);
}

moves_are : (g : Geometry) → IsBoard g → (line : List Move) → ((step : Move) → Member step line → IsOnBoard g step)
    → AreMoves g line (moves_bytes g line)
unfolding moves_bytes move_bytes
moves_are g b [] on = refl
moves_are g b (step ∷ line) on = (
  move_is g b step (on step (inl refl)),
  moves_are g b line (λ m in_line. on m (inr in_line)),
)

rows_byte : (g : Geometry) → (g.rows ≡ 10) ⊎ (g.rows ≡ 8) → g.rows < 256
rows_byte g (inl ten) = omega arith
rows_byte g (inr eight) = omega arith

line_is_bytes : (g : Geometry) → IsBoard g → (g.rows ≡ 10) ⊎ (g.rows ≡ 8) → (line : List Move) → length line ≤ 39
    → ((step : Move) → Member step line → IsOnBoard g step) → IsBytes (line_bytes g line)
line_is_bytes g b rows line most on =
    let moves = moves_bytes g line in
    let count : length line < 256 = omega arith in
    bytes_cons 2 (g.rows ∷ length line ∷ moves) (omega arith) (bytes_cons g.rows (length line ∷ moves)
    (rows_byte g rows) (bytes_cons (length line) moves count (moves_are_bytes g b line on)))

pub written_is_token : WrittenIsToken
written_is_token g b rows line odd most on = record {
  bytes = line_bytes g line;
  digits = decode_of-encode_lower (line_bytes g line) (line_is_bytes g b rows line most on);
  version = inr (record {
    rows = rows;
    counted = length line ∷ moves_bytes g line;
    is = refl;
    are = record { moves = moves_bytes g line; is = refl; odd = odd; most = most; are = moves_are g b line on };
  });
}

-- ---- versions
to_2 : (g : Geometry) (line : List Move) (counted bytes : List ℕ) → g.rows ≡ 10 → bytes ≡ 1 ∷ counted
    → IsVersion1 g line bytes ⊎ IsVersion2 g line bytes → IsVersion2 g line (2 ∷ 10 ∷ counted)
to_2 g line counted bytes ten e (inl a) = record {
  rows = inl ten;
  counted = counted;
  is = ap (λ r. 2 ∷ r ∷ counted) (sym ten);
  are = subst (IsCounted g line) (same_behind (sym a.is ∙ e)) a.are;
}
to_2 g line counted bytes ten e (inr a) = absurd (one_or_two 1 2 counted (g.rows ∷ a.counted) (sym e ∙ a.is) refl refl)

to_1 : (g : Geometry) (line : List Move) (counted bytes : List ℕ) → g.rows ≡ 10 → bytes ≡ 2 ∷ 10 ∷ counted
    → IsVersion1 g line bytes ⊎ IsVersion2 g line bytes → IsVersion1 g line (1 ∷ counted)
to_1 g line counted bytes ten e (inl a) = absurd (one_or_two 1 2 a.counted (10 ∷ counted) (sym a.is ∙ e) refl refl)
to_1 g line counted bytes ten e (inr a) = record {
  rows = ten;
  counted = counted;
  is = refl;
  are =
      subst (IsCounted g line) (same_behind (same_behind (sym a.is ∙ e))) a.are;
}

pub version_1_keeps : Version1Keeps
version_1_keeps g ten old new counted one two line = (
  λ t. record {
    bytes = 2 ∷ 10 ∷ counted;
    digits = two;
    version =
        inr (to_2 g line counted t.bytes ten (decode_of-same old t.bytes (1 ∷ counted) t.digits one) t.version);
  },
  λ t. record {
    bytes = 1 ∷ counted;
    digits = one;
    version =
        inl (to_1 g line counted t.bytes ten (decode_of-same new t.bytes (2 ∷ 10 ∷ counted) t.digits two) t.version);
  },
)
