use Rattle.std.proofs.Common.{ap, length, length-append, arith, ◌∙◌}
use Rattle.std.proofs.lemmas.Str.{encode_ascii}
use Rattle.dw_board.proofs.fen.write.fen_text.Goals as goal

pub push-requires : goal.push-requires
push-requires g c =
    let empty = ap length c.new-text.ensures in
    let one = ap length (encode_ascii c.letter.result c.letter.ensures.ascii) in
    (omega arith, omega (arith, empty, one))

pub push_str-requires-2 : goal.push_str-requires-2
push_str-requires-2 g c =
    let empty = ap length c.new-text.ensures in
    let turn = ap length (c.push.ensures.ascii c.letter.ensures.ascii) ∙ length-append c.new-text.result.bytes _ in
    let few = c.push_items.ensures.few in
    (omega arith, omega (arith, empty, turn, c.push_str.ensures.len, few))
