use Rattle.std.proofs.Common.{◌≡◌, ◌∷◌, sym, ap, ◌∙◌, length, rules}
use Rattle.dw_list.specs.Tokens.{board_fault}
use Rattle.dw_list.proofs.TokenReadingLemmas.{nothing, board_none, board_other, version_2_read}
use Rattle.dw_list.proofs.tokens.read_version_2.Goals as goal

pub returns-in_default : goal.returns-in_default
returns-in_default g c =
    let none : length c.args.bytes.now ≡ 0 = search rules in
    ap (board_fault g.B.Board.geometry) (nothing c.args.bytes.now none) ∙ board_none g.B.Board.geometry

pub returns-then-names_board : goal.returns-then-names_board
returns-then-names_board g c =
    let is : c.args.bytes.now ≡ c.in-Some.rows.now ∷ c.in-Some.rest.now = search rules in
    version_2_read g.B.Board.geometry c.args.bytes.now c.in-Some.rest.now c.in-Some.rows.now c.read_counted.result is
    (sym c.names_board.ensures ∙ c.if-names_board.true) c.read_counted.ensures

pub returns-else-names_board : goal.returns-else-names_board
returns-else-names_board g c =
    let is : c.args.bytes.now ≡ c.in-Some.rows.now ∷ c.in-Some.rest.now = search rules in
    ap (board_fault g.B.Board.geometry) is ∙ board_other g.B.Board.geometry c.in-Some.rows.now c.in-Some.rest.now
    (sym c.names_board.ensures ∙ c.if-names_board.false)
