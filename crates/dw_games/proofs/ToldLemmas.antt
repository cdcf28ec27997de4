-- What is told of a movetext has the answers of the whole.
use Rattle.std.proofs.Common.{◌<◌, ◌≤◌, ℕ, List, length, take, Result, Ok, Err, inl, inr, subst, arith}
use Rattle.std.proofs.lemmas.List.{take_all, length-take}
use Rattle.std.proofs.lemmas.Bool.{cases_lt}
use Rattle.dw_board.specs.Geometry.{Geometry}
use Rattle.dw_board.specs.Placement.{Placement}
use Rattle.dw_games.specs.Faults.{IsFirstFault, IsAnswer}
use Rattle.dw_games.specs.Faults.IsFirstFault.{too_large, at_token, at_end}
use Rattle.dw_games.specs.Walk.{PlayedTree}
use Rattle.dw_games.specs.GameLaws.{PrefixIsEnough}
use Rattle.dw_games.specs.declared.fault.MovetextFault.{MovetextFault}
use Rattle.dw_games.specs.declared.fault.MovetextFault.TheVariants.{Refused, Memory}
use Rattle.dw_games.specs.declared.fault.MovetextFaultKind.{MovetextFaultKind}

too_long : (m n : ℕ) → n < m → m ≤ n → ⊥
too_long m n less more = omega arith

both_large : (g : Geometry) (p : Placement) (text : List ℕ) {part : List ℕ} {what : MovetextFaultKind} {place : ℕ}
    → IsFirstFault g p part what place → 1048576 < length part → 1048576 < length text → IsFirstFault g p text what
    place
both_large g p text (too_large large) long whole = too_large whole
both_large g p text (at_token before t rest size tokens fault) long whole = absurd (too_long _ _ long size)
both_large g p text (at_end tokens size are fault) long whole = absurd (too_long _ _ long size)

answer_large : (g : Geometry) (p : Placement) (text part : List ℕ) (answer : Result PlayedTree MovetextFault)
    → 1048576 < length part → 1048576 < length text → IsAnswer g p part answer → IsAnswer g p text answer
answer_large g p text part (Ok tree) long whole is = absurd (too_long _ _ long is.1.size)
answer_large g p text part (Err (Refused what place)) long whole is = both_large g p text is long whole
answer_large g p text part (Err Memory) long whole is = tt

pub prefix_is_enough : PrefixIsEnough
prefix_is_enough g p movetext answer is = elim (cases_lt 1048577 (length movetext)) [
  | inr few ↦ subst (λ l. IsAnswer g p l answer) (take_all 1048577 movetext few) is
  | inl many ↦
      let part = length-take 1048577 movetext in
      answer_large g p movetext (take 1048577 movetext) answer (omega (arith, part, many)) (omega (arith, many)) is
]
