use Rattle.std.proofs.Common.{arith}
use Rattle.dw_games.specs.Play.{plain}
use Rattle.dw_games.proofs.LongLemmas.{names_nothing}
use Rattle.dw_games.proofs.reader.move_named.Goals as goal

pub returns-in-None : goal.returns-in-None
returns-in-None g c = λ named h.
    names_nothing g.B.Board.geometry (plain c.args.text.now) named (omega (arith, c.in-None.ensures)) h
