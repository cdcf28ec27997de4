use Rattle.dw_games.specs.inner.GameReaders.{reading_of}
use Rattle.dw_games.proofs.HandLemmas.{fresh, fresh_some}
use Rattle.dw_games.proofs.games.Games.new.Goals as goal
use Rattle.dw_notation.specs.Buffering.{input_of}
use Rattle.dw_notation.specs.Numbering.{handed_out}

pub returns-clause-ahead : goal.returns-clause-ahead
unfolding reading_of
returns-clause-ahead g c = λ bytes games ahead. fresh g.B.Board.geometry (input_of c.args.source.now c.new.result)
    (handed_out c.new-2.result) bytes games c.new.ensures.unread c.new-2.ensures ahead

pub returns-clause-some : goal.returns-clause-some
unfolding reading_of
returns-clause-some g c = λ bytes.
    let geo = g.B.Board.geometry in
    let input = input_of c.args.source.now c.new.result in
    let handed = handed_out c.new-2.result in
    fresh_some c.texts_of_tags_say.ensures geo input handed bytes c.new.ensures.met_end
