use Rattle.std.proofs.Common.{◌≡◌, ◌+◌, length, drop, length-drop, arith, sym, ◌∙◌, ap}
use Rattle.dw_board.specs.FenTokens.{tokens_from, place_of}
use Rattle.dw_board.proofs.FenTokenLemmas.{place_of-here}
use Rattle.dw_board.proofs.fen.tokens.Tokens.place.Goals as goal

pub returns : goal.returns
returns c =
    let rest = length-drop c.args.self.now.at c.args.self.now.text.now in
    let sum : c.args.self.now.at + 1 + length (drop c.args.self.now.at c.args.self.now.text.now)
    ≡ length c.args.self.now.text.now + 1 = omega (arith, c.args.self.now.inside) in
    sym (place_of-here (c.args.self.now.at + 1) (drop c.args.self.now.at c.args.self.now.text.now)
    c.args.self.now.at_token)
    ∙ ap (place_of (tokens_from (c.args.self.now.at + 1) (drop c.args.self.now.at c.args.self.now.text.now))) sum
