-- A text is a token of one line or has a fault, and never both.
use Rattle.std.proofs.Common.{◌≡◌, ℕ, ◌*◌, ◌%◌, ◌/◌, ◌≤◌, ◌<◌, true, ◌⊎◌, inl, inr, Some, None, Result, Ok, Err, List}
use Rattle.std.proofs.Common.{[], ◌∷◌, length, take, drop, refl, sym, ap, ◌∙◌, subst, arith, length-drop, eqb}
use Rattle.std.specs.Prelude.{MatchResult, IfErr, IsOk, IsErr}
use Rattle.std.proofs.lemmas.Bool.{cases_eq, le-leb, eq-eqb, and_from, or_left, or_right}
use Rattle.std.proofs.lemmas.List.{length-take}
use Rattle.arrayvec.specs.ArrayVec.{ArrayVec}
use Rattle.hex.specs.Hex.{decode_of, decode_sized}
use Rattle.hex.specs.declared.error.FromHexError.{FromHexError}
use Rattle.hex.specs.declared.error.FromHexError.TheVariants.{OddLength}
use Rattle.hex.proofs.HexLemmas.{decode_of-ok, decode_of-same, decode_of-odd, decode_sized-ok, decode_sized-twice}
use Rattle.dw_board.specs.Geometry.{Geometry, Squares}
use Rattle.dw_moves.specs.Moves.{Move}
use Rattle.dw_list.specs.declared.tokens.TokenFault.{TokenFault}
use Rattle.dw_list.specs.declared.tokens.TokenFault.TheVariants.{NotHex, Length}
use Rattle.dw_list.specs.Tokens.{number_in, IsMove, AreMoves, IsCounted, IsVersion1, IsVersion2, IsToken, first_of}
use Rattle.dw_list.specs.Tokens.{moves_fault, counted_fault, bytes_fault, decoded_fault, token_fault, are_moves}
use Rattle.dw_list.specs.Tokens.{names_board}
use Rattle.dw_list.proofs.TokenBitLemmas.{IsNumberOf-one}
use Rattle.dw_list.proofs.TokenReadingLemmas.{no_move_fault, counted_moves, board_named, bytes_first, bytes_second}
use Rattle.dw_list.proofs.TokenReadingLemmas.{less_is, less_not}

-- ---- one line only
abbrev the_move : ℕ → ℕ → Squares → Move
the_move from to taken = record { from = from; to = to; taken = taken }

same_move : (m n : Move) → m.from ≡ n.from → m.to ≡ n.to → m.taken ≡ n.taken → m ≡ n
same_move m n f t v = ap (λ x. the_move x m.to m.taken) f ∙ (ap (λ x. the_move n.from x m.taken) t
    ∙ ap (λ x. the_move n.from n.to x) v)

move_one : (g : Geometry) (m n : Move) (bytes : List ℕ) → IsMove g m bytes → IsMove g n bytes → m ≡ n
move_one g m n bytes a b = same_move m n (sym a.from ∙ b.from) (sym a.to ∙ b.to)
    (IsNumberOf-one g m.taken n.taken (number_in bytes) a.taken b.taken)

no_move_in : (g : Geometry) (m : Move) (bytes : List ℕ) → IsMove g m (take 10 bytes) → bytes ≡ [] → ⊥
no_move_in g m bytes a e = let k = a.ten in omega (arith, ap length e, length-take 10 bytes)

moves_one : (g : Geometry) (line other : List Move) (bytes : List ℕ) → AreMoves g line bytes → AreMoves g other bytes
    → line ≡ other
moves_one g [] [] bytes a b = refl
moves_one g [] (n ∷ other) bytes a b = absurd (no_move_in g n bytes b.0 a)
moves_one g (m ∷ line) [] bytes a b = absurd (no_move_in g m bytes a.0 b)
moves_one g (m ∷ line) (n ∷ other) bytes a b = ap (λ x. x ∷ line) (move_one g m n (take 10 bytes) a.0 b.0)
    ∙ ap (λ l. n ∷ l) (moves_one g line other (drop 10 bytes) a.1 b.1)

pub same_behind : {x y : ℕ} {xs ys : List ℕ} → x ∷ xs ≡ y ∷ ys → xs ≡ ys
same_behind e = cc

same_front : {x y : ℕ} {xs ys : List ℕ} → x ∷ xs ≡ y ∷ ys → x ≡ y
same_front e = cc

counted_one : (g : Geometry) (line other : List Move) (bytes : List ℕ) → IsCounted g line bytes
    → IsCounted g other bytes → line ≡ other
counted_one g line other bytes a b = moves_one g line other a.moves a.are
    (subst (AreMoves g other) (same_behind (sym b.is ∙ a.is)) b.are)

pub one_or_two : (x y : ℕ) (xs ys : List ℕ) → x ∷ xs ≡ y ∷ ys → x ≡ 1 → y ≡ 2 → ⊥
one_or_two x y xs ys e one two = let k : x ≡ y = same_front e in omega arith

never_both : (g : Geometry) (line other : List Move) (bytes : List ℕ) → IsVersion1 g line bytes
    → IsVersion2 g other bytes → ⊥
never_both g line other bytes a b = one_or_two 1 2 a.counted (g.rows ∷ b.counted) (sym a.is ∙ b.is) refl refl

pub version_one : (g : Geometry) (line other : List Move) (bytes : List ℕ) → IsVersion1 g line bytes
    ⊎ IsVersion2 g line bytes → IsVersion1 g other bytes ⊎ IsVersion2 g other bytes → line ≡ other
version_one g line other bytes (inl a) (inl b) = counted_one g line other a.counted a.are
    (subst (IsCounted g other) (same_behind (sym b.is ∙ a.is)) b.are)
version_one g line other bytes (inl a) (inr b) = absurd (never_both g line other bytes a b)
version_one g line other bytes (inr a) (inl b) = absurd (never_both g other line bytes b a)
version_one g line other bytes (inr a) (inr b) = counted_one g line other a.counted a.are
    (subst (IsCounted g other) (same_behind (same_behind (sym b.is ∙ a.is))) b.are)

-- ---- no fault
pub moves_length : (g : Geometry) (line : List Move) (bytes : List ℕ) → AreMoves g line bytes
    → length bytes ≡ 10 * length line
moves_length g [] bytes a = ap length a
moves_length g (m ∷ line) bytes a =
    let k = a.0.ten in
    let behind = moves_length g line (drop 10 bytes) a.1 in
    omega (arith, k, behind, length-take 10 bytes, length-drop 10 bytes)

moves_clean : (g : Geometry) (line : List Move) (bytes : List ℕ) → AreMoves g line bytes
    → moves_fault g (length line) bytes ≡ None
unfolding moves_fault
moves_clean g [] bytes a = refl
moves_clean g (m ∷ line) bytes a = ap (λ f. first_of f (moves_fault g (length line) (drop 10 bytes)))
    (no_move_fault g m (take 10 bytes) a.0) ∙ moves_clean g line (drop 10 bytes) a.1

counts : (n bytes : ℕ) → n % 2 ≡ 1 → n ≤ 39 → bytes ≡ 10 * n → are_moves n bytes ≡ true
counts n bytes odd most whole = and_from _ _ (and_from _ _ (eq-eqb _ _ odd) (le-leb _ _ most)) (eq-eqb _ _ whole)

counted_clean : (g : Geometry) (line : List Move) (bytes : List ℕ) → IsCounted g line bytes → counted_fault g bytes
    ≡ None
counted_clean g line bytes a =
    ap (counted_fault g) a.is
    ∙ (counted_moves g (length line) a.moves (counts (length line) (length a.moves) a.odd a.most
    (moves_length g line a.moves a.are)) ∙ moves_clean g line a.moves a.are)

boards : (g : Geometry) → (g.rows ≡ 10) ⊎ (g.rows ≡ 8) → names_board g g.rows ≡ true
boards g (inl ten) = and_from _ _ (or_left (eqb g.rows 10) (eqb g.rows 8) (eq-eqb g.rows 10 ten))
    (eq-eqb g.rows g.rows refl)
boards g (inr eight) = and_from _ _ (or_right (eqb g.rows 10) (eqb g.rows 8) (eq-eqb g.rows 8 eight))
    (eq-eqb g.rows g.rows refl)

pub version_clean : (g : Geometry) (line : List Move) (bytes : List ℕ) → IsVersion1 g line bytes
    ⊎ IsVersion2 g line bytes → bytes_fault g bytes ≡ None
version_clean g line bytes (inl a) = ap (bytes_fault g) a.is
    ∙ (bytes_first g a.counted a.rows ∙ counted_clean g line a.counted a.are)
version_clean g line bytes (inr a) = ap (bytes_fault g) a.is ∙ (bytes_second g (g.rows ∷ a.counted)
    ∙ (board_named g g.rows a.counted (boards g a.rows) ∙ counted_clean g line a.counted a.are))

-- ---- lengths
counted_length : (g : Geometry) (line : List Move) (bytes : List ℕ) → IsCounted g line bytes → length bytes ≤ 391
counted_length g line bytes a = let k = a.most in omega (arith, k, ap length a.is, moves_length g line a.moves a.are)

version_length : (g : Geometry) (line : List Move) (bytes : List ℕ) → IsVersion1 g line bytes ⊎ IsVersion2 g line bytes
    → length bytes ≤ 393
version_length g line bytes (inl a) = omega (arith, ap length a.is, counted_length g line a.counted a.are)
version_length g line bytes (inr a) = omega (arith, ap length a.is, counted_length g line a.counted a.are)

pub token_length : (g : Geometry) (text : List ℕ) (line : List Move) → IsToken g text line → length text ≤ 786
token_length g text line t = let k = (decode_of-ok text t.bytes t.digits).2 in
    omega (arith, k, version_length g line t.bytes t.version)

pub too_long : (g : Geometry) (text : List ℕ) → 786 < length text → (line : List Move) → (IsToken g text line → ⊥)
    × (⊥ → IsToken g text line)
too_long g text long line = (λ t. let k = token_length g text line t in omega arith, λ never. absurd never)

pub long_fault : (g : Geometry) (text : List ℕ) → 786 < length text → token_fault g text ≡ Some Length
unfolding token_fault
long_fault g text long = rw (less_is 786 (length text) long) refl

short_fault : (g : Geometry) (text : List ℕ) (r : Result (List ℕ) FromHexError) → length text ≤ 786 → decode_of text ≡ r
    → token_fault g text ≡ decoded_fault g r
unfolding token_fault
short_fault g text r short e = rw (less_not 786 (length text) short) (ap (decoded_fault g) e)

not_hex : (g : Geometry) (text : List ℕ) (r : Result (List ℕ) FromHexError) (e : FromHexError) → length text ≤ 786
    → decode_of text ≡ r → r ≡ Err e → token_fault g text ≡ Some NotHex
unfolding decoded_fault
not_hex g text r e short is bad = short_fault g text r short is ∙ ap (decoded_fault g) bad

pub bytes_token_fault : (g : Geometry) (text bytes : List ℕ) → length text ≤ 786 → decode_of text ≡ Ok bytes
    → token_fault g text ≡ bytes_fault g bytes
unfolding decoded_fault
bytes_token_fault g text bytes short is = short_fault g text (Ok bytes) short is

never_some : (fault : TokenFault) → None ≡ Some fault → ⊥
never_some fault e = cc

-- ---- results
pub token_read : (g : Geometry) (text bytes : List ℕ) (r : Result (ArrayVec Move) TokenFault)
    → decode_of text ≡ Ok bytes
    → MatchResult r (λ line. IsVersion1 g line.items bytes ⊎ IsVersion2 g line.items bytes)
    (λ fault. bytes_fault g bytes ≡ Some fault)
    → (line : List Move) → (IsToken g text line → MatchResult r (λ read. read.items ≡ line) (λ _. ⊥))
    × (MatchResult r (λ read. read.items ≡ line) (λ _. ⊥) → IsToken g text line)
token_read g text bytes (Ok read) is h line = (
  λ t. version_one g read.items line bytes h (subst (λ b. IsVersion1 g line b ⊎ IsVersion2 g line b)
      (decode_of-same text t.bytes bytes t.digits is) t.version),
  λ e. record { bytes = bytes; digits = is; version = subst (λ l. IsVersion1 g l bytes ⊎ IsVersion2 g l bytes) e h },
)
token_read g text bytes (Err fault) is h line = (
  λ t. never_some fault (sym (version_clean g line bytes (subst (λ b. IsVersion1 g line b ⊎ IsVersion2 g line b)
      (decode_of-same text t.bytes bytes t.digits is) t.version)) ∙ h),
  λ never. absurd never,
)

pub fault_read : (g : Geometry) (text bytes : List ℕ) (r : Result (ArrayVec Move) TokenFault) → length text ≤ 786
    → decode_of text ≡ Ok bytes
    → MatchResult r (λ line. IsVersion1 g line.items bytes ⊎ IsVersion2 g line.items bytes)
    (λ fault. bytes_fault g bytes ≡ Some fault)
    → IfErr r (λ fault. token_fault g text ≡ Some fault)
fault_read g text bytes (Ok read) short is h = tt
fault_read g text bytes (Err fault) short is h = bytes_token_fault g text bytes short is ∙ h

-- ---- what decoding into room says
ok_sized : (d : Result (List ℕ) FromHexError) (r : Result Unit FromHexError) (out : List ℕ)
    → MatchResult d (λ bytes. (r ≡ Ok tt) × (out ≡ bytes)) (λ e. r ≡ Err e) → IsOk r → d ≡ Ok out
ok_sized (Ok bytes) r out h ok = ap Ok (sym h.1)
ok_sized (Err e) r out h ok = let k = rw h at ok in cc k

err_sized : (d : Result (List ℕ) FromHexError) (r : Result Unit FromHexError) (out : List ℕ)
    → MatchResult d (λ bytes. (r ≡ Ok tt) × (out ≡ bytes)) (λ e. r ≡ Err e) → IsErr r → (e : FromHexError) × (d ≡ Err e)
err_sized (Ok bytes) r out h bad = let k = rw h.0 at bad in cc k
err_sized (Err e) r out h bad = (e, refl)

pub sized_ok : (text out : List ℕ) (n : ℕ) (r : Result Unit FromHexError)
    → MatchResult (decode_sized text n) (λ bytes. (r ≡ Ok tt) × (out ≡ bytes)) (λ e. r ≡ Err e) → IsOk r
    → decode_of text ≡ Ok out
sized_ok text out n r h ok =
    let d = ok_sized (decode_sized text n) r out h ok in
    sym (decode_sized-twice text n (decode_sized-ok text n out d)) ∙ d

pub sized_err : (g : Geometry) (text out : List ℕ) (n : ℕ) (r : Result Unit FromHexError)
    → MatchResult (decode_sized text n) (λ bytes. (r ≡ Ok tt) × (out ≡ bytes)) (λ e. r ≡ Err e) → n ≡ length text / 2
    → IsErr r → length text ≤ 786
    → token_fault g text ≡ Some NotHex
sized_err g text out n r h half bad short =
    let d = err_sized (decode_sized text n) r out h bad in
    elim (cases_eq (length text % 2) 1) [
      | inl odd ↦ not_hex g text (Err OddLength) OddLength short (decode_of-odd text odd) refl
      | inr even ↦ not_hex g text (Err d.0) d.0 short (sym (decode_sized-twice text n (omega arith)) ∙ d.1) refl
    ]
