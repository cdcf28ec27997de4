use Rattle.std.proofs.Common.{◌+◌, Some, eqb, sym, ◌∙◌, ap}
use Rattle.std.specs.Option.{option_eq}
use Rattle.dw_board.proofs.FenTokenLemmas.{first_is-sign, slice_get-begins}
use Rattle.dw_board.proofs.fen.tokens.Tokens.stands.Goals as goal

pub returns : goal.returns
returns c =
    c.eq.ensures ∙ (ap (λ o. option_eq eqb o (Some c.args.sign)) c.byte.ensures
    ∙ (slice_get-begins c.args.sign c.args.self.now.at c.args.self.now.text.now
    ∙ sym (first_is-sign c.args.sign (c.args.self.now.at + 1) _ c.requires.0 c.requires.1 c.args.self.now.at_token)))
