-- Lemmas on what is held of a line: a line that is not held whole is too long, whatever follows.
use Rattle.std.proofs.Common.{◌≡◌, ℕ, ◌==◌, ◌+◌, ◌-◌, ◌≤◌, inl, inr, List, ◌++◌, length, take, Bool, true, false, cond}
use Rattle.std.proofs.Common.{min, slice_index, Some, Err, refl, sym, ap, ◌∙◌, arith, length-append}
use Rattle.std.proofs.lemmas.List.{length-take-le, take_all}
use Rattle.std.proofs.lemmas.Bool.{lt-ltb, cases_lt}
use Rattle.dw_board.specs.Geometry.{Geometry}
use Rattle.dw_notation.specs.TextLines.{without_return}
use Rattle.dw_notation.specs.inner.TextLines.{line_of, line_found, SaysSame}
use Rattle.dw_notation.specs.declared.problems.ProblemFault.TheVariants.{LineTooLong}
use Rattle.dw_notation.proofs.MarkLemmas.{length-line_of}

-- a carriage return is one byte
length-without_return : (line : List ℕ) → length line ≤ length (without_return line) + 1
length-without_return line = elim (slice_index line (length line - 1) == 13) as (λ v. length line
    ≤ length (cond v (take (length line - 1) line) line) + 1) [
      | true ↦
          let cut = length-take-le (length line - 1) line (omega arith) in
          omega (arith, cut)
      | false ↦ omega arith
    ]

-- a line of so many bytes is too long, with a mark and a carriage return too
found-long : (g : Geometry) (first : Bool) (line : List ℕ) → 4101 ≤ length line
    → line_found g (line_of first line) ≡ Some (Err LineTooLong)
unfolding line_found
found-long g first line long =
    let marked = length-line_of first line in
    let cut = length-without_return (line_of first line) in
    rw (lt-ltb 4096 (length (without_return (line_of first line))) (omega (arith, long, marked, cut))) refl

-- so much of a line is held that it says the same
pub SaysSame-held : (first : Bool) (line piece : List ℕ) (count : ℕ) → length line ≤ 4101
    → count ≡ min (length piece) (4101 - length line)
    → SaysSame first (line ++ piece) (line ++ take count piece)
SaysSame-held first line piece count room is g more = elim (cases_lt (length piece) (4102 - length line)) [
  | inl short ↦ ap (λ l. line_found g (line_of first ((line ++ l) ++ more))) (sym (take_all count piece (omega (
    arith,
    is,
  ))))
  | inr long ↦
      let all = length-append (line ++ piece) more in
      let whole = length-append line piece in
      let front = length-append line (take count piece) in
      let cut = length-take-le count piece (omega (arith, is)) in
      let held = length-append (line ++ take count piece) more in
      found-long g first ((line ++ piece) ++ more) (omega (arith, all, whole, long, room))
      ∙ sym (found-long g first ((line ++ take count piece) ++ more) (omega (arith, held, front, cut, is, long, room)))
]
