use Rattle.std.proofs.Common.{[], sym, ◌∙◌}
use Rattle.std.proofs.lemmas.List.{nil_from_length}
use Rattle.dw_games.proofs.TokenLemmas.{none_ahead, first_ahead}
use Rattle.dw_games.proofs.tokens.Tokens.next.Goals as goal

pub returns-in_err-first-clause-token : goal.returns-in_err-first-clause-token
returns-in_err-first-clause-token c =
    rw c.from_residual.ensures (c.pass_blanks.ensures.tokens [] [] (none_ahead _ _ _
    (sym c.split_at.ensures.back ∙ nil_from_length c.split_at.result.1.now c.in_err-first.ensures.cases)))

pub returns-clause-token : goal.returns-clause-token
returns-clause-token c = λ tokens left are. c.pass_blanks.ensures.tokens _ left (first_ahead
    c.pass_blanks.new.self.text.now
    c.split_at.result.1.now c.in_ok-first.behind.now c.split_at-2.result.0.now c.pass_blanks.new.self.at
    c.token_of-what.result.1 c.pass_blanks.new.self.fresh c.token_of-what.result.0 c.in_ok-first.first.now tokens left
    c.split_at.ensures.back c.in_ok-first.ensures.cases.0 c.split_at-2.ensures.front c.token_of-what.ensures.within
    c.token_of-what.ensures.token are)
