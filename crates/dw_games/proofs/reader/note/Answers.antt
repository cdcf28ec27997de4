use Rattle.std.proofs.Common.{refl, subst, sym}
use Rattle.dw_games.specs.inner.Reading.{IsCursor}
use Rattle.dw_games.proofs.TakenLemmas.{note_ready, noted_there}
use Rattle.dw_games.proofs.reader.note.Goals as goal

pub note-requires : goal.note-requires
note-requires g c =
    note_ready g.B.Board.geometry c.args.tree.now c.args.from.now c.args.mv.now c.play-position.result c.requires
    c.play-position.ensures

pub returns : goal.returns
returns g c = λ p path start from.
    noted_there g.B.Board.geometry c.args.tree.now c.note.new.self c.args.from.now _ path c.args.mv.now
    (subst (λ q. IsCursor g.B.Board.geometry q c.args.tree.now.paths c.args.from.now path) (sym start) from)
    c.in_ok-node.ensures.start (c.in_ok-node.ensures.noted path from.there) (c.in_ok-node.ensures.node path from.there)
    c.play-position.ensures refl
