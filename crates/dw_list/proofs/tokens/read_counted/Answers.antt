use Rattle.std.proofs.Common.{◌≡◌, ◌∷◌, sym, ap, ◌∙◌, length, rules}
use Rattle.dw_list.specs.Tokens.{counted_fault}
use Rattle.dw_list.proofs.TokenReadingLemmas.{nothing, counted_none, counted_wrong, counted_read}
use Rattle.dw_list.proofs.tokens.read_counted.Goals as goal

pub returns-in_default : goal.returns-in_default
returns-in_default g c =
    let none : length c.args.bytes.now ≡ 0 = search rules in
    ap (counted_fault g.B.Board.geometry) (nothing c.args.bytes.now none) ∙ counted_none g.B.Board.geometry

pub returns-then-are_moves : goal.returns-then-are_moves
returns-then-are_moves g c =
    let is : c.args.bytes.now ≡ c.in-Some.count.now ∷ c.in-Some.moves.now = search rules in
    counted_read g.B.Board.geometry c.args.bytes.now c.in-Some.moves.now c.in-Some.count.now c.read_moves.result is
    (sym c.are_moves.ensures ∙ c.if-are_moves.true) c.read_moves.ensures

pub returns-else-are_moves : goal.returns-else-are_moves
returns-else-are_moves g c =
    let is : c.args.bytes.now ≡ c.in-Some.count.now ∷ c.in-Some.moves.now = search rules in
    ap (counted_fault g.B.Board.geometry) is ∙ counted_wrong g.B.Board.geometry c.in-Some.count.now c.in-Some.moves.now
    (sym c.are_moves.ensures ∙ c.if-are_moves.false)
