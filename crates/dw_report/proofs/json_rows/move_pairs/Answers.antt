use Rattle.std.proofs.Common.{◌∙◌, ap, map}
use Rattle.std.specs.String.{string_bytes}
use Rattle.std.proofs.lemmas.List.{take_all}
use Rattle.dw_report.specs.inner.Rows.{move_pair}
use Rattle.dw_report.proofs.MoveLineLemmas.{no_move, pairs_more}
use Rattle.dw_report.proofs.json_rows.move_pairs.Goals as goal

pub moves-preserved : goal.moves-preserved
moves-preserved g c =
    let list = c.args.list.now in
    let i = c.moves.place in
    pairs_more string_bytes (move_pair g.B.Board.geometry c.args.position.now list) list i no_move c.moves.pairs.items
    c.push.new.self.items c.in_ok-move_words.field-0 c.moves.invariant c.moves-test.true c.in_ok-push.ensures.items
    (c.in_ok-move_words.ensures no_move)

pub returns : goal.returns
returns g c =
    let list = c.args.list.now in
    c.moves.invariant
    ∙ ap (map (move_pair g.B.Board.geometry c.args.position.now list)) (take_all _ list c.moves-test.false)
