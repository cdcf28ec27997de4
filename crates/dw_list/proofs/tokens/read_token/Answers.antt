use Rattle.std.proofs.Common.{arith, rules}
use Rattle.std.specs.Prelude.{IsOk, IsErr}
use Rattle.std.proofs.lemmas.Grind.{common_steps}
use Rattle.dw_list.proofs.TokenTextLemmas.{too_long, long_fault, token_read, fault_read, sized_ok, sized_err}
use Rattle.dw_list.proofs.tokens.read_token.Goals as goal

pub returns-then-text-gt-MAX_DIGITS-clause-token : goal.returns-then-text-gt-MAX_DIGITS-clause-token
returns-then-text-gt-MAX_DIGITS-clause-token g c = too_long g.B.Board.geometry c.args.text.now
    c.if-text-gt-MAX_DIGITS.true

pub returns-then-text-gt-MAX_DIGITS-clause-fault : goal.returns-then-text-gt-MAX_DIGITS-clause-fault
returns-then-text-gt-MAX_DIGITS-clause-fault g c = long_fault g.B.Board.geometry c.args.text.now
    c.if-text-gt-MAX_DIGITS.true

pub returns-then-is_err-clause-fault : goal.returns-then-is_err-clause-fault
returns-then-is_err-clause-fault g c =
    let bad : IsErr c.decode_to_slice.result = search rules in
    let h = c.decode_to_slice.ensures.value in
    sized_err g.B.Board.geometry c.args.text.now c.decode_to_slice.new.out _ c.decode_to_slice.result h
    (grind (arith, common_steps)) bad c.if-text-gt-MAX_DIGITS.false

pub returns-clause-token : goal.returns-clause-token
returns-clause-token g c =
    let ok : IsOk c.decode_to_slice.result = search rules in
    let h = c.decode_to_slice.ensures.value in
    token_read g.B.Board.geometry c.args.text.now c.decode_to_slice.new.out c.read_bytes.result
    (sized_ok c.args.text.now c.decode_to_slice.new.out _ c.decode_to_slice.result h ok) c.read_bytes.ensures

pub returns-clause-fault : goal.returns-clause-fault
returns-clause-fault g c =
    let ok : IsOk c.decode_to_slice.result = search rules in
    let h = c.decode_to_slice.ensures.value in
    fault_read g.B.Board.geometry c.args.text.now c.decode_to_slice.new.out c.read_bytes.result
    c.if-text-gt-MAX_DIGITS.false (sized_ok c.args.text.now c.decode_to_slice.new.out _ c.decode_to_slice.result h
    ok) c.read_bytes.ensures
