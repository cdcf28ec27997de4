use Rattle.std.proofs.Common.{refl, subst, sym, ◌++◌, ◌∷◌, []}
use Rattle.dw_games.specs.inner.Reading.{IsCursor}
use Rattle.dw_games.proofs.TakenLemmas.{next_ready, noted_one, noted_two}
use Rattle.dw_games.proofs.reader.note_step.Goals as goal

pub returns-in_ok-note-in-Played : goal.returns-in_ok-note-in-Played
returns-in_ok-note-in-Played g c = λ p path start from.
    rw c.in-Played.is (noted_one g.B.Board.geometry c.args.tree.now c.note.new.tree c.args.from.now
    c.in_ok-note-in-Played.field-0 path c.in-Played.mv
    (subst (λ q. IsCursor g.B.Board.geometry q c.args.tree.now.paths c.args.from.now path) (sym start) from)
    (c.in_ok-note-in-Played.ensures p path start from))

pub note-requires-in-Forced-2 : goal.note-requires-in-Forced-2
note-requires-in-Forced-2 g c =
    let r = rw c.in-Forced.is at c.requires in
    next_ready g.B.Board.geometry c.args.tree.now c.note-in-Forced.new.tree c.args.from.now
    c.in_ok-middle-in-Forced.middle r.0.path c.in-Forced.reply c.in-Forced.mv r.0.cursor
    (c.in_ok-middle-in-Forced.ensures _ r.0.path refl r.0.cursor) r.1 r.2

pub returns-in_ok-now-in-Forced : goal.returns-in_ok-now-in-Forced
returns-in_ok-now-in-Forced g c = λ p path start from.
    let one = c.in_ok-middle-in-Forced.ensures p path start from in
    rw c.in-Forced.is (noted_two g.B.Board.geometry c.args.tree.now c.note-in-Forced.new.tree
    c.note-in-Forced-2.new.tree c.args.from.now c.in_ok-middle-in-Forced.middle c.in_ok-now-in-Forced.now path
    c.in-Forced.reply c.in-Forced.mv one
    (c.in_ok-now-in-Forced.ensures c.note-in-Forced.new.tree.start (path ++ c.in-Forced.reply ∷ []) refl
    (subst (λ q. IsCursor g.B.Board.geometry q c.note-in-Forced.new.tree.paths c.in_ok-middle-in-Forced.middle
    (path ++ c.in-Forced.reply ∷ []))
    (sym one.start) one.there)))
