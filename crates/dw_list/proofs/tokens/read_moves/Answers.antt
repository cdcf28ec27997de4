use Rattle.std.proofs.Common.{◌≡◌, sym, ap, ◌∙◌, subst, arith}
use Rattle.dw_list.specs.Tokens.{IsMove, move_fault}
use Rattle.dw_list.proofs.TokenReadingLemmas.{IsReadTo, read_more, read_fault, read_end}
use Rattle.dw_list.proofs.tokens.read_moves.Goals as goal

pub returns-in-Err : goal.returns-in-Err
returns-in-Err g c =
    let here = ap (move_fault g.B.Board.geometry) (sym c.split_at.ensures.front) ∙ c.in-Err.ensures in
    read_fault g.B.Board.geometry c.args.count c.args.bytes.now c.moves.line.items c.moves._place c.moves.rest.now
    c.in-Err.fault c.moves-test.true c.moves.invariant here

pub moves-preserved : goal.moves-preserved
moves-preserved g c =
    let here = subst (IsMove g.B.Board.geometry c.in-Ok.mv) c.split_at.ensures.front c.in-Ok.ensures in
    rw (c.push.ensures.items, c.split_at.ensures.back) (read_more g.B.Board.geometry c.args.count c.args.bytes.now
    c.moves.line.items c.moves._place c.moves.rest.now c.in-Ok.mv c.moves-test.true c.moves.invariant here)

pub returns : goal.returns
returns g c =
    let end : c.moves._place ≡ c.args.count = omega (arith, c.moves.auto._place-end, c.moves-test.false) in
    read_end g.B.Board.geometry c.args.count c.args.bytes.now c.moves.line.items c.moves.rest.now c.requires.odd
    c.requires.most
    (subst (λ k. IsReadTo g.B.Board.geometry c.args.count c.args.bytes.now c.moves.line.items k c.moves.rest.now) end
    c.moves.invariant)
