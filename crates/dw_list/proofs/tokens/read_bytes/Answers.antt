use Rattle.std.proofs.Common.{◌≡◌, ◌∷◌, sym, ap, ◌∙◌, length, rules, arith}
use Rattle.dw_list.specs.Tokens.{bytes_fault}
use Rattle.dw_list.proofs.TokenReadingLemmas.{nothing, bytes_none, bytes_read_1, bytes_read_2, bytes_fault_1}
use Rattle.dw_list.proofs.TokenReadingLemmas.{bytes_fault_other}
use Rattle.dw_list.proofs.tokens.read_bytes.Goals as goal

pub returns-in_default : goal.returns-in_default
returns-in_default g c =
    let none : length c.args.bytes.now ≡ 0 = search rules in
    ap (bytes_fault g.B.Board.geometry) (nothing c.args.bytes.now none) ∙ bytes_none g.B.Board.geometry

pub returns-in-1 : goal.returns-in-1
returns-in-1 g c =
    let is : c.args.bytes.now ≡ c.in-Some.version.now ∷ c.in-Some.rest.now = search rules in
    let rows = c.ROWS.ensures ∙ g.met.B.Board.rows_is in
    bytes_read_1 g.B.Board.geometry c.args.bytes.now c.in-Some.rest.now c.in-Some.version.now c.read_counted.result is
    c.in-1.is (sym rows ∙ c.if-ROWS-eq10.true) c.read_counted.ensures

pub returns-in-1-2 : goal.returns-in-1-2
returns-in-1-2 g c =
    let is : c.args.bytes.now ≡ c.in-Some.version.now ∷ c.in-Some.rest.now = search rules in
    let rows = c.ROWS.ensures ∙ g.met.B.Board.rows_is in
    bytes_fault_1 g.B.Board.geometry c.args.bytes.now c.in-Some.rest.now c.in-Some.version.now is (omega arith)
    (λ e. c.if-ROWS-eq10.false (rows ∙ e))

pub returns-in-2 : goal.returns-in-2
returns-in-2 g c =
    let is : c.args.bytes.now ≡ c.in-Some.version.now ∷ c.in-Some.rest.now = search rules in
    bytes_read_2 g.B.Board.geometry c.args.bytes.now c.in-Some.rest.now c.in-Some.version.now c.read_version_2.result is
    c.in-2.is c.read_version_2.ensures

pub returns-in_default-version : goal.returns-in_default-version
returns-in_default-version g c =
    let is : c.args.bytes.now ≡ c.in-Some.version.now ∷ c.in-Some.rest.now = search rules in
    bytes_fault_other g.B.Board.geometry c.args.bytes.now c.in-Some.rest.now c.in-Some.version.now is (λ e. omega arith)
    (λ e. omega arith)
