use Rattle.std.proofs.Common.{◌∙◌, sym}
use Rattle.dw_games.proofs.HandLemmas.{over_given, open_given}
use Rattle.dw_games.proofs.games.Games.next.Goals as goal

pub returns-then-is_over-clause-given : goal.returns-then-is_over-clause-given
returns-then-is_over-clause-given g c = over_given c.texts_of_tags_say.ensures g.B.Board.geometry g.S.Source.supply
    c.args.self.now (sym c.is_over.ensures ∙ c.if-is_over.true)

pub returns-in-Open-clause-given : goal.returns-in-Open-clause-given
returns-in-Open-clause-given g c =
    let given = c.hand_out_open.ensures in
    open_given g.B.Board.geometry g.S.Source.supply _ c.hand_out_open.new.self c.hand_out_open.result c.in-Open.is
    given.input given.stage given.given
