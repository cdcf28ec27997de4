use Rattle.std.proofs.Common.{◌≡◌, ◌≤◌, ◌<◌, ◌+◌, ◌/◌, ◌%◌, ◌++◌, ◌∷◌, [], ◌∙◌, ℕ, ap, sym, arith, append_assoc}
use Rattle.std.proofs.Common.{decimal}
use Rattle.std.proofs.lemmas.Fmt.{decimal_digit, decimal_step}
use Rattle.dw_board.proofs.fen.write.push_number.Goals as goal
use Rattle.dw_board.proofs.fen.write.push_number.Goals.{then-number-ge10, else-number-ge10}

two_digits : (n : ℕ) → 10 ≤ n → n < 100 → decimal n ≡ ((48 + n / 10) ∷ []) ++ ((48 + n % 10) ∷ [])
two_digits n low high = decimal_step n low (omega arith)
    ∙ ap (λ d. d ++ ((48 + n % 10) ∷ [])) (decimal_digit (n / 10) (omega arith))

one_digit : (n : ℕ) → n < 10 → decimal n ≡ (48 + n % 10) ∷ []
one_digit n low = let e : n ≡ n % 10 = omega arith in decimal_digit n low ∙ ap (λ d. (48 + d) ∷ []) e

pub returns-clause-bytes : goal.returns-clause-bytes
returns-clause-bytes c = c.push_digit-2.ensures ∙ (elim c.if-number-ge10.branch [
  | then-number-ge10 w ↦ ap (λ t. t.bytes ++ ((48 + c.args.number % 10) ∷ [])) w.text-is
      ∙ (ap (λ t. t ++ ((48 + c.args.number % 10) ∷ [])) w.push_digit.ensures ∙ (append_assoc c.args.text.now.bytes _ _
      ∙ ap (λ t. c.args.text.now.bytes ++ t) (sym (two_digits c.args.number w.if-number-ge10.true c.requires.small))))
  | else-number-ge10 w ↦ ap (λ t. t.bytes ++ ((48 + c.args.number % 10) ∷ [])) w.text-is
      ∙ ap (λ t. c.args.text.now.bytes ++ t) (sym (one_digit c.args.number w.if-number-ge10.false))
])
