use Rattle.std.proofs.Common.{refl}
use Rattle.dw_solve.proofs.WorkLemmas.{noted_by}
use Rattle.dw_solve.proofs.MemoLemmas.{noted_true}
use Rattle.dw_solve.proofs.search.note.Goals as goal

pub returns-clause-right : goal.returns-clause-right
returns-clause-right g c = noted_true g.B.Board.geometry _ _ _ c.args.position.now _ _ c.args.moves c.args.won _ _ _
    c.requires.right c.bounds_now-bounds.ensures.same c.bounds_now-bounds.ensures.bounds c.joined.ensures
    c.note.ensures.note c.requires.answer

pub returns-clause-noted : goal.returns-clause-noted
returns-clause-noted g c = noted_by c.args.position.now c.args.moves c.args.won _ _
    (g.M.Memo.content c.bounds_now-bounds.new.memo) c.bounds_now-bounds.result c.joined.result c.note.result _
    c.bounds_now-bounds.ensures.map c.bounds_now-bounds.ensures.bounds c.bounds_now-bounds.ensures.same
    c.bounds_now-bounds.ensures.dropped c.joined.ensures c.note.ensures.note refl
