use Rattle.std.proofs.Common.{ap, length, arith}
use Rattle.dw_notation.proofs.MoveNameLemmas.{capture_parts, names_nothing}
use Rattle.dw_notation.proofs.read_move.read_move.Goals as goal

pub returns-in_default-capture_named : goal.returns-in_default-capture_named
returns-in_default-capture_named g c =
    names_nothing g.B.Board.geometry c.args.text.now c.in_default.ensures c.in_default-capture_named.ensures

pub capture-requires : goal.capture-requires
capture-requires g c =
    let parts = capture_parts g.B.Board.geometry c.args.text.now c.in-Some-capture_named.squares.items
    c.in-Some-capture_named.ensures in
    omega (arith, parts.1, ap length c.as_slice.ensures.value)
