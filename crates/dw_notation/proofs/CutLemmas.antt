-- Lemmas on what a line begun and the bytes behind it say.
use Rattle.std.proofs.Common.{◌≡◌, ℕ, ◌==◌, ◌+◌, ◌-◌, ◌<◌, ◌≤◌, List, [], ◌∷◌, ◌++◌, length, take, drop, Bool, true}
use Rattle.std.proofs.Common.{false, not, cond, nat_lt, Some, None, unwrap_or, option_to_list, refl, sym, ap, ◌∙◌}
use Rattle.std.proofs.Common.{subst, arith, append_assoc, append-nil}
use Rattle.std.proofs.lemmas.Bool.{eqb-true, ltb-false}
use Rattle.std.proofs.lemmas.List.{length-take, take-append-drop, drop-take, drop-drop, drop_more, take_all}
use Rattle.std.proofs.lemmas.List.Quantifiers.{position-Some}
use Rattle.std.proofs.lemmas.List.Sums.{position_or_len_is, prefix_len-le-length, take_while-cons}
use Rattle.std.specs.List.{slice_range, position, position_or_len, before_first}
use Rattle.dw_board.specs.Geometry.{Geometry}
use Rattle.dw_notation.specs.inner.TextLines.{line_found}
use Rattle.dw_notation.specs.TextLines.{NoLineFeed}
use Rattle.dw_notation.specs.inner.TextLines.{line_of, SaysSame, is_line_feed}
use Rattle.dw_notation.specs.inner.Ahead.{found_from}

pub NoLineFeed-push : (bytes : List ℕ) (byte : ℕ) → NoLineFeed bytes → (byte == 10) ≡ false
    → NoLineFeed (bytes ++ byte ∷ [])
NoLineFeed-push [] byte none h = (h, tt)
NoLineFeed-push (b ∷ bytes) byte none h = (none.0, NoLineFeed-push bytes byte none.1 h)

-- the place of the first byte that passes a test, or the length
pub first_or_all : (p : ℕ → Bool) (bytes : List ℕ) → unwrap_or (position p bytes) (length bytes) ≡ position_or_len p
    bytes
first_or_all p bytes =
    let n = position_or_len p bytes in
    let within = prefix_len-le-length (λ byte. not (p byte)) bytes in
    elim (nat_lt n (length bytes)) as (λ v. nat_lt n (length bytes) ≡ v
    → unwrap_or (cond v (Some n) None) (length bytes) ≡ n) [
      | true ↦ λ _. refl
      | false ↦ λ e. let past = ltb-false n (length bytes) e in omega (arith, within, past)
    ] refl

NoLineFeed-before : (bytes : List ℕ) → NoLineFeed (before_first is_line_feed bytes)
NoLineFeed-before [] = tt
NoLineFeed-before (b ∷ bytes) = subst NoLineFeed (sym (take_while-cons (λ byte. not (byte == 10)) b bytes))
    (elim (b == 10) as (λ v. (b == 10) ≡ v → NoLineFeed (cond (not v) (b ∷ before_first is_line_feed bytes) [])) [
      | true ↦ λ _. tt
      | false ↦ λ e. (e, NoLineFeed-before bytes)
    ] refl)

-- the first line feed, before which no other stands
pub first_feed : (bytes : List ℕ) (k : ℕ) → position is_line_feed bytes ≡ Some k
    → (k < length bytes) × NoLineFeed (take k bytes) × (drop k bytes ≡ 10 ∷ drop (k + 1) bytes)
first_feed bytes k is =
    let at = position-Some is_line_feed bytes k 0 is in
    let first = position_or_len_is is_line_feed bytes k 0 (omega (arith, at.0)) at.2 (λ _. at.1) in (
      at.0,
      subst (λ n. NoLineFeed (take n bytes)) first (NoLineFeed-before bytes),
      drop_more bytes k 0 at.0 ∙ ap (λ b. b ∷ drop (k + 1) bytes) (eqb-true _ _ at.1),
    )

pub no_feed : (bytes : List ℕ) → position is_line_feed bytes ≡ None → NoLineFeed bytes
no_feed bytes none =
    let n = position_or_len is_line_feed bytes in
    let all : length bytes ≡ n = ap (λ o. unwrap_or o (length bytes)) (sym none) ∙ first_or_all is_line_feed bytes in
    subst NoLineFeed (take_all n bytes (omega (arith, all))) (NoLineFeed-before bytes)

pub found_from-piece : (at_end : Bool) (g : Geometry) (first : Bool) (line piece more : List ℕ) → NoLineFeed piece
    → found_from at_end g first line (piece ++ more) ≡ found_from at_end g first (line ++ piece) more
found_from-piece at_end g first line [] more none = rw append-nil refl
found_from-piece at_end g first line (b ∷ piece) more none = rw none.0 (found_from-piece at_end g first (line ++ b ∷ [])
    piece more none.1 ∙ rw append_assoc refl)

line_found-same : (g : Geometry) (first : Bool) (line other : List ℕ) → SaysSame first line other
    → line_found g (line_of first line) ≡ line_found g (line_of first other)
line_found-same g first line other same = ap (λ l. line_found g (line_of first l)) (sym (append-nil line)) ∙ same g []
    ∙ ap (λ l. line_found g (line_of first l)) (append-nil other)

SaysSame-push : (first : Bool) (line other : List ℕ) (byte : ℕ) → SaysSame first line other
    → SaysSame first (line ++ byte ∷ []) (other ++ byte ∷ [])
SaysSame-push first line other byte same g more =
    ap (λ l. line_found g (line_of first l)) (append_assoc line (byte ∷ []) more) ∙ same g (byte ∷ more)
    ∙ ap (λ l. line_found g (line_of first l)) (sym (append_assoc other (byte ∷ []) more))

found_from-same : (at_end : Bool) (g : Geometry) (first : Bool) (line other more : List ℕ) → SaysSame first line other
    → found_from at_end g first line more ≡ found_from at_end g first other more
found_from-same at_end g first line other [] same = ap (λ x. cond at_end (option_to_list x) [])
    (line_found-same g first line other same)
found_from-same at_end g first line other (b ∷ more) same =
    let behind = found_from at_end g false [] more in
    ap (λ x. cond (b == 10) (option_to_list x ++ behind) (found_from at_end g first (line ++ b ∷ []) more))
    (line_found-same g first line other same)
    ∙ ap (λ l. cond (b == 10) (option_to_list (line_found g (line_of first other)) ++ behind) l)
    (found_from-same at_end g first (line ++ b ∷ []) (other ++ b ∷ []) more (SaysSame-push first line other b same))

-- a piece with no line feed is put onto the line
pub found_from-push : (at_end : Bool) (g : Geometry) (first : Bool) (line piece held more : List ℕ) → NoLineFeed piece
    → SaysSame first (line ++ piece) held
    → found_from at_end g first line (piece ++ more) ≡ found_from at_end g first held more
found_from-push at_end g first line piece held more none same = found_from-piece at_end g first line piece more none
    ∙ found_from-same at_end g first (line ++ piece) held more same

-- the line feed stands at a place in the bytes
pub found_from-at : (at_end : Bool) (g : Geometry) (first : Bool) (line bytes held more : List ℕ) (place : ℕ)
    → NoLineFeed (take place bytes) → drop place bytes ≡ 10 ∷ drop (place + 1) bytes
    → SaysSame first (line ++ take place bytes) held
    → found_from at_end g first line (bytes ++ more) ≡ option_to_list (line_found g (line_of first held))
    ++ found_from at_end g false [] (drop (place + 1) bytes ++ more)
found_from-at at_end g first line bytes held more place none here same =
    let whole : bytes ≡ take place bytes ++ 10 ∷ drop (place + 1) bytes = sym (take-append-drop place bytes)
    ∙ ap (λ l. take place bytes ++ l) here in
    let joined : bytes ++ more ≡ take place bytes ++ 10 ∷ (drop (place + 1) bytes ++ more) =
    ap (λ l. l ++ more) whole ∙ append_assoc (take place bytes) (10 ∷ drop (place + 1) bytes) more in
    ap (found_from at_end g first line) joined
    ∙ found_from-push at_end g first line (take place bytes) held (10 ∷ (drop (place + 1) bytes ++ more)) none same

pub line_found-nil : (g : Geometry) → line_found g [] ≡ None
unfolding line_found
line_found-nil g = refl

pub slice_range-drop : (xs : List ℕ) (i j k : ℕ) → i + k ≤ j → slice_range xs (i + k) j ≡ drop k (slice_range xs i j)
slice_range-drop xs i j k h =
    let e : j - i ≡ k + (j - (i + k)) = omega arith in
    rw (e, drop-take) (rw drop-drop refl)

pub length-slice_range-le : (xs : List ℕ) (i j : ℕ) → length (slice_range xs i j) ≤ j - i
length-slice_range-le xs i j = omega (arith, length-take (j - i) (drop i xs))
