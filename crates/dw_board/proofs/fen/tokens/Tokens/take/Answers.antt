use Rattle.std.proofs.Common.{◌+◌, drop, length-drop, sym, ◌∙◌, ap, arith}
use Rattle.std.proofs.lemmas.List.{drop-drop}
use Rattle.dw_board.specs.FenTokens.{tokens_from, is_sign}
use Rattle.dw_board.specs.inner.FenReader.{left_of, tokens_of}
use Rattle.dw_board.proofs.FenTokenLemmas.{behind-sign, first_is-room}
use Rattle.dw_board.proofs.fen.tokens.Tokens.take.Goals as goal

pub returns-then-stands-clause-left : goal.returns-then-stands-clause-left
returns-then-stands-clause-left c =
    let first = sym c.stands-stands.ensures ∙ c.if-stands.true in
    let onward = behind-sign c.args.sign (c.args.self.now.at + 1) (drop c.args.self.now.at c.args.self.now.text.now)
    c.requires c.args.self.now.at_token first in
    c.pass.ensures.tokens ∙ (ap (tokens_from (c.args.self.now.at + 1 + 1))
    (sym (drop-drop 1 c.args.self.now.at c.args.self.now.text.now))
    ∙ (sym onward ∙ ap (λ b. left_of b (tokens_of c.args.self.now)) (sym c.if-stands.true)))

pub pass-requires : goal.pass-requires
pass-requires c =
    let first = sym c.stands-stands.ensures ∙ c.if-stands.true in
    omega (
      arith,
      first_is-room (is_sign c.args.sign) (c.args.self.now.at + 1)
          (drop c.args.self.now.at c.args.self.now.text.now) first,
      length-drop c.args.self.now.at c.args.self.now.text.now,
    )
