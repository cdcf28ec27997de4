use Rattle.std.proofs.Common.{◌≡◌, ◌++◌, rules}
use Rattle.dw_list.proofs.TokenWritingLemmas.{move_pushed}
use Rattle.dw_list.proofs.tokens.push_move.Goals as goal

pub returns-clause-items : goal.returns-clause-items
returns-clause-items g c =
    let added : c.try_extend_from_slice.new.self.items ≡ c.push-2.new.self.items ++ c.to_be_bytes-number.result =
    search rules in
    move_pushed g.B.Board.geometry c.args.mv.now c.args.bytes.now.items c.push.new.self.items c.push-2.new.self.items
    c.try_extend_from_slice.new.self.items c.to_be_bytes-number.result c.number.result c.number-2.result
    c.number_of.result
    c.push.ensures.items c.push-2.ensures.items added (search rules) (search rules) c.to_be_bytes-number.ensures
    (search rules)
