-- Lemmas on the texts of moves.
use Rattle.std.proofs.Common.{◌≡◌, ◌≤◌, ◌<◌, ◌+◌, ◌*◌, ◌/◌, ◌%◌, ℕ, List, [], ◌∷◌, ◌++◌, length, length-append}
use Rattle.std.proofs.Common.{append_assoc, append-nil, get_or, drop, sym, ap, ◌∙◌, arith, decimal}
use Rattle.std.proofs.lemmas.Fmt.{decimal_digit, decimal_step, length-decimal-le}
use Rattle.std.proofs.lemmas.List.{drop_more, drop_all}
use Rattle.dw_notation.specs.Text.{squares_text}

-- a number of two digits
pub two_digits : (n : ℕ) → n ≤ 50 → length (decimal n) ≤ 2
two_digits n small = length-decimal-le 2 n (omega arith) (omega (arith, small)) (omega (arith, small))

-- a number of one digit, and one of two digits, was written
pub one_written : (n : ℕ) (a c : List ℕ) → n < 10 → c ≡ a ++ (48 + n % 10) ∷ [] → c ≡ a ++ decimal n
one_written n a c low e =
    let same : n % 10 ≡ n = omega (arith, low) in
    e ∙ ap (λ z. a ++ z) (ap (λ z. (48 + z) ∷ []) same ∙ sym (decimal_digit n low))

pub two_written : (n : ℕ) (a b c : List ℕ) → 10 ≤ n → n < 100 → b ≡ a ++ (48 + n / 10) ∷ []
    → c ≡ b ++ (48 + n % 10) ∷ [] → c ≡ a ++ decimal n
two_written n a b c low high first last =
    let tens : decimal n ≡ (48 + n / 10) ∷ (48 + n % 10) ∷ [] = decimal_step n low (omega (arith, high))
    ∙ ap (λ z. z ++ (48 + n % 10) ∷ []) (decimal_digit (n / 10) (omega (arith, high))) in
    last ∙ (ap (λ z. z ++ (48 + n % 10) ∷ []) first ∙ (append_assoc a ((48 + n / 10) ∷ []) ((48 + n % 10) ∷ [])
    ∙ ap (λ z. a ++ z) (sym tens)))

-- each of these squares with the mark before it
abbrev pub behind : ℕ → List ℕ → List ℕ
behind mark [] = []
behind mark (s ∷ squares) = mark ∷ (decimal s ++ behind mark squares)

pub first_and_behind : (mark s : ℕ) (squares : List ℕ) → squares_text mark (s ∷ squares)
    ≡ decimal s ++ behind mark squares
first_and_behind mark s [] = sym (append-nil (decimal s))
first_and_behind mark s (t ∷ squares) = ap (λ l. decimal s ++ (mark ∷ l)) (first_and_behind mark t squares)

-- the text so far: what is missing are the squares from index i on
pub record WrittenTo (mark : ℕ) (squares rest : List ℕ) (i : ℕ) (text : List ℕ) : Type 0 where
  pub whole : text ++ behind mark (drop i rest) ≡ squares_text mark squares
  pub short : length text ≤ 2 + 3 * i

pub written_first : (mark first : ℕ) (squares rest text : List ℕ) → squares ≡ first ∷ rest → text ≡ decimal first
    → length (decimal first) ≤ 2 → WrittenTo mark squares rest 0 text
written_first mark first squares rest text split is low = record {
  whole = ap (λ t. t ++ behind mark rest) is ∙ (sym (first_and_behind mark first rest)
      ∙ ap (squares_text mark) (sym split));
  short = omega (arith, ap length is, low);
}

pub written_more : (mark : ℕ) (squares rest : List ℕ) (i s : ℕ) (text new : List ℕ) → WrittenTo mark squares rest i text
    → i < length rest → s ≡ get_or rest i s → length (decimal s) ≤ 2
    → new ≡ (text ++ mark ∷ []) ++ decimal s → WrittenTo mark squares rest (i + 1) new
written_more mark squares rest i s text new h low is small e = record {
  whole =
      ap (λ t. t ++ behind mark (drop (i + 1) rest)) e
      ∙ (append_assoc (text ++ mark ∷ []) (decimal s) (behind mark (drop (i + 1) rest))
      ∙ (append_assoc text (mark ∷ []) (decimal s ++ behind mark (drop (i + 1) rest))
      ∙ (ap (λ l. text ++ behind mark l) (ap (λ z. z ∷ drop (i + 1) rest) is ∙ sym (drop_more rest i s low))
      ∙ h.whole)));
  short = let long = ap length e in let a = length-append (text ++ mark ∷ []) (decimal s) in let b = length-append text
      (mark ∷ []) in omega (arith, long, a, b, h.short, small);
}
