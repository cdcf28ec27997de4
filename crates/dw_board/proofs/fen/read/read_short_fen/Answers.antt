use Rattle.std.proofs.Common.{◌≡◌, ◌+◌, false, true, Some, None, is_some, length, sym, ◌∙◌, ap}
use Rattle.dw_board.specs.Placement.{empty}
use Rattle.dw_board.specs.FenTokens.{side_named, is_sign, tokens_from}
use Rattle.dw_board.specs.inner.FenReader.{tokens_of, end_of, behind, left_of}
use Rattle.dw_board.specs.FenTokens.{first_named, first_is}
use Rattle.dw_board.specs.Fen.{short_fen, read_from, AfterColon}
use Rattle.dw_board.specs.declared.fen.fault.FenFaultKind.TheVariants.{Turn, Colon}
use Rattle.dw_board.proofs.FenStageLemmas.{turn_read, turn_fault, colon_read, colon_fault, same_read, fault_here}
use Rattle.dw_board.proofs.fen.read.read_short_fen.Goals as goal

pub returns-in_default : goal.returns-in_default
unfolding short_fen
returns-in_default g c =
    let b = g.B.Board.geometry in
    let ts = tokens_from 1 c.args.text.now in
    let end = length c.args.text.now + 1 in
    let none : first_named side_named ts ≡ None = ap (first_named side_named) (sym c.new-tokens.ensures.tokens)
    ∙ (sym c.take_side.ensures.taken ∙ c.in_default.is) in
    let same : tokens_of c.take_side.new.self ≡ ts = c.take_side.ensures.left
    ∙ (ap (λ o. left_of (is_some o) (tokens_of c.new-tokens.result)) c.in_default.is
    ∙ c.new-tokens.ensures.tokens) in
    sym (turn_fault b end ts none ∙ fault_here b 0 c.fault.result Turn (end_of c.take_side.new.self) end ts
    (tokens_of c.take_side.new.self) c.fault.ensures (c.take_side.ensures.end ∙ c.new-tokens.ensures.end) same)

pub returns-then-not-take : goal.returns-then-not-take
unfolding short_fen
returns-then-not-take g c =
    let b = g.B.Board.geometry in
    let ts = tokens_from 1 c.args.text.now in
    let end = length c.args.text.now + 1 in
    let named : first_named side_named ts ≡ Some c.in-Some.turn = ap (first_named side_named)
    (sym c.new-tokens.ensures.tokens) ∙ (sym c.take_side.ensures.taken ∙ c.in-Some.is) in
    let rest : tokens_of c.take_side.new.self ≡ behind ts = c.take_side.ensures.left
    ∙ (ap (λ o. left_of (is_some o) (tokens_of c.new-tokens.result)) c.in-Some.is
    ∙ ap behind c.new-tokens.ensures.tokens) in
    let no_colon : first_is (is_sign 58) (behind ts) ≡ false = ap (first_is (is_sign 58)) (sym rest)
    ∙ (sym c.take.ensures.taken ∙ c.if-not-take.true) in
    let same : tokens_of c.take.new.self ≡ behind ts = c.take.ensures.left
    ∙ (ap (λ t. left_of t (tokens_of c.take_side.new.self)) c.if-not-take.true ∙ rest) in
    sym (turn_read b end ts c.in-Some.turn named ∙ (colon_fault b end c.in-Some.turn (behind ts) no_colon
    ∙ fault_here b 0 c.fault-then-not-take.result Colon (end_of c.take.new.self) end (behind ts)
    (tokens_of c.take.new.self) c.fault-then-not-take.ensures
    (c.take.ensures.end ∙ (c.take_side.ensures.end ∙ c.new-tokens.ensures.end)) same))

pub returns : goal.returns
unfolding short_fen
returns g c =
    let b = g.B.Board.geometry in
    let ts = tokens_from 1 c.args.text.now in
    let end = length c.args.text.now + 1 in
    let named : first_named side_named ts ≡ Some c.in-Some.turn = ap (first_named side_named)
    (sym c.new-tokens.ensures.tokens) ∙ (sym c.take_side.ensures.taken ∙ c.in-Some.is) in
    let rest : tokens_of c.take_side.new.self ≡ behind ts = c.take_side.ensures.left
    ∙ (ap (λ o. left_of (is_some o) (tokens_of c.new-tokens.result)) c.in-Some.is
    ∙ ap behind c.new-tokens.ensures.tokens) in
    let colon : first_is (is_sign 58) (behind ts) ≡ true = ap (first_is (is_sign 58)) (sym rest)
    ∙ (sym c.take.ensures.taken ∙ c.if-not-take.false) in
    let left : tokens_of c.take.new.self ≡ behind (behind ts) = c.take.ensures.left
    ∙ (ap (λ t. left_of t (tokens_of c.take_side.new.self)) c.if-not-take.false ∙ ap behind rest) in
    c.read_first.ensures ∙ (ap (λ p. read_from b (end_of c.take.new.self) (AfterColon None p)
    (tokens_of c.take.new.self)) c.empty.ensures
    ∙ sym (turn_read b end ts c.in-Some.turn named ∙ (colon_read b end c.in-Some.turn (behind ts) colon
    ∙ sym (same_read b 0 (AfterColon None (empty c.in-Some.turn)) (end_of c.take.new.self) end (behind (behind ts))
    (tokens_of c.take.new.self) (c.take.ensures.end ∙ (c.take_side.ensures.end ∙ c.new-tokens.ensures.end)) left))))
