use Rattle.std.proofs.Common.{◌≡◌, length, subst, arith}
use Rattle.dw_list.proofs.TokenWritingLemmas.{IsWrittenTo, written_more, written_end}
use Rattle.dw_list.proofs.tokens.bytes_of.Goals as goal

pub line-preserved : goal.line-preserved
line-preserved g c =
    written_more g.B.Board.geometry c.args.line.now c.line.bytes.items c.push_move.new.bytes.items c.line.mv-index
    c.mv-item.result c.line-test.true c.mv-item.is c.push_move.ensures.items c.line.invariant

pub returns : goal.returns
returns g c =
    let end : c.line.mv-index ≡ length c.args.line.now = omega (arith, c.line.auto.mv-index-end, c.line-test.false) in
    written_end g.B.Board.geometry c.args.line.now c.line.bytes.items
    (subst (IsWrittenTo g.B.Board.geometry c.args.line.now c.line.bytes.items) end c.line.invariant)
