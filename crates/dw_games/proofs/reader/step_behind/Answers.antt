use Rattle.dw_games.specs.inner.Ahead.{token_value}
use Rattle.dw_games.proofs.TakenLemmas.{at_cursor, named_move, found_by_play, low_cursor}
use Rattle.dw_games.proofs.reader.step_behind.Goals as goal

pub returns-in-Ok : goal.returns-in-Ok
returns-in-Ok g c = λ p tree kind before moves answers now answer told.
    found_by_play g.row.B.Denot g.B.Board.geometry p tree (token_value c.args.token) kind before moves answers
    c.args.line.now.now c.in-Ok.mv c.args.line.now.is_reply now told (low_cursor now c.requires.short)
    (named_move g.B.Board.geometry p _ (token_value c.args.token) c.args.line.now.now (at_cursor now)
    c.requires.written c.requires.no_result c.in-Ok.mv c.in-Ok.ensures)
