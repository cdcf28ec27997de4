use Rattle.std.proofs.Common.{◌≡◌, ◌<◌, ◌≤◌, Err, Some, None, is_some, sym, ◌∙◌, ap, arith}
use Rattle.dw_board.specs.FenTokens.{number_named}
use Rattle.dw_board.specs.inner.FenReader.{tokens_of, end_of, behind, left_of}
use Rattle.dw_board.specs.FenTokens.{place_of, first_named}
use Rattle.dw_board.specs.Fen.{fault}
use Rattle.dw_board.specs.inner.FenReading.{read_behind}
use Rattle.dw_board.specs.declared.fen.fault.FenFaultKind.TheVariants.{Number, RangeBackwards}
use Rattle.dw_board.proofs.FenStageLemmas.{dash_read, dash_fault, range_backwards, range_read, number_read, length-left}
use Rattle.dw_board.proofs.fen.read.read_range_end.Goals as goal

pub returns-then-not-take-clause-range : goal.returns-then-not-take-clause-range
returns-then-not-take-clause-range g c = λ list item is.
    let ts = tokens_of c.args.tokens.now in
    let end = end_of c.args.tokens.now in
    let left : tokens_of c.take.new.self ≡ ts = c.take.ensures.left ∙ ap (λ b. left_of b ts) c.if-not-take.true in
    number_read g.B.Board.geometry end list item ts (sym c.take.ensures.taken ∙ c.if-not-take.true)
    ∙ (ap (λ n. read_behind g.B.Board.geometry end list item n ts) is
    ∙ ap (read_behind g.B.Board.geometry end list item c.args.from) (sym left))

pub returns-in_default-clause-range : goal.returns-in_default-clause-range
returns-in_default-clause-range g c = λ list item is.
    let ts = tokens_of c.args.tokens.now in
    let end = end_of c.args.tokens.now in
    let left : tokens_of c.take.new.self ≡ behind ts = c.take.ensures.left
    ∙ ap (λ b. left_of b ts) c.if-not-take.false in
    let none : first_named (number_named g.B.Board.geometry) (behind ts)
    ≡ None = ap (first_named (number_named g.B.Board.geometry)) (sym left) ∙ (sym c.take_square.ensures.taken
    ∙ c.in_default.is) in
    let same : tokens_of c.take_square.new.self ≡ behind ts = c.take_square.ensures.left
    ∙ (ap (λ o. left_of (is_some o) (tokens_of c.take.new.self)) c.in_default.is ∙ left) in
    dash_read g.B.Board.geometry end list item ts (sym c.take.ensures.taken ∙ c.if-not-take.false)
    ∙ (dash_fault g.B.Board.geometry end list item (behind ts) none
    ∙ sym (ap Err c.fault.ensures ∙ (ap (λ e. fault Number (place_of (tokens_of c.take_square.new.self) e))
    (c.take_square.ensures.end ∙ c.take.ensures.end)
    ∙ ap (λ s. fault Number (place_of s end)) same)))

pub returns-in_default-clause-not_longer : goal.returns-in_default-clause-not_longer
returns-in_default-clause-not_longer g c =
    omega (
      arith,
      length-left g.B.Board.geometry 0 (tokens_of c.args.tokens.now) _ _ c.take.ensures.left,
      length-left g.B.Board.geometry 0 (tokens_of c.take.new.self) (tokens_of c.take_square.new.self) _
          c.take_square.ensures.left,
    )

pub returns-then-number-clause-not_longer : goal.returns-then-number-clause-not_longer
returns-then-number-clause-not_longer g c =
    omega (
      arith,
      length-left g.B.Board.geometry 0 (tokens_of c.args.tokens.now) _ _ c.take.ensures.left,
      length-left g.B.Board.geometry 0 (tokens_of c.take.new.self) (tokens_of c.take_square.new.self) _
          c.take_square.ensures.left,
    )

pub returns-clause-not_longer : goal.returns-clause-not_longer
returns-clause-not_longer g c =
    omega (
      arith,
      length-left g.B.Board.geometry 0 (tokens_of c.args.tokens.now) _ _ c.take.ensures.left,
      length-left g.B.Board.geometry 0 (tokens_of c.take.new.self) (tokens_of c.take_square.new.self) _
          c.take_square.ensures.left,
    )

pub returns-then-number-clause-range : goal.returns-then-number-clause-range
returns-then-number-clause-range g c = λ list item is.
    let ts = tokens_of c.args.tokens.now in
    let end = end_of c.args.tokens.now in
    let left : tokens_of c.take.new.self ≡ behind ts = c.take.ensures.left
    ∙ ap (λ b. left_of b ts) c.if-not-take.false in
    let named : first_named (number_named g.B.Board.geometry) (behind ts)
    ≡ Some c.in-Some.to = ap (first_named (number_named g.B.Board.geometry)) (sym left)
    ∙ (sym c.take_square.ensures.taken ∙ c.in-Some.is) in
    let low : c.in-Some.to < item.from = omega (
      arith,
      c.if-number.true,
      c.number.ensures.value,
      c.number-2.ensures.value,
    ) in
    dash_read g.B.Board.geometry end list item ts (sym c.take.ensures.taken ∙ c.if-not-take.false)
    ∙ (range_backwards g.B.Board.geometry end list item (behind ts) c.in-Some.to named low
    ∙ sym (ap Err c.fault-backwards.ensures ∙ (ap (λ e. fault RangeBackwards (place_of (tokens_of c.take.new.self) e))
    c.take.ensures.end
    ∙ ap (λ s. fault RangeBackwards (place_of s end)) left)))

pub returns-clause-range : goal.returns-clause-range
returns-clause-range g c = λ list item is.
    let ts = tokens_of c.args.tokens.now in
    let end = end_of c.args.tokens.now in
    let left : tokens_of c.take.new.self ≡ behind ts = c.take.ensures.left
    ∙ ap (λ b. left_of b ts) c.if-not-take.false in
    let named : first_named (number_named g.B.Board.geometry) (behind ts)
    ≡ Some c.in-Some.to = ap (first_named (number_named g.B.Board.geometry)) (sym left)
    ∙ (sym c.take_square.ensures.taken ∙ c.in-Some.is) in
    let high : item.from ≤ c.in-Some.to = omega (
      arith,
      c.if-number.false,
      c.number.ensures.value,
      c.number-2.ensures.value,
    ) in
    let rest : tokens_of c.take_square.new.self ≡ behind (behind ts) = c.take_square.ensures.left
    ∙ (ap (λ o. left_of (is_some o) (tokens_of c.take.new.self)) c.in-Some.is ∙ ap behind left) in
    dash_read g.B.Board.geometry end list item ts (sym c.take.ensures.taken ∙ c.if-not-take.false)
    ∙ (range_read g.B.Board.geometry end list item (behind ts) c.in-Some.to named high
    ∙ ap (read_behind g.B.Board.geometry end list item c.in-Some.to) (sym rest))
