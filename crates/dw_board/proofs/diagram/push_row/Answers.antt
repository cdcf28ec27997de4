use Rattle.std.proofs.Common.{◌++◌, ◌∷◌, [], ◌∙◌, ap, sym, arith, append_assoc, length-append, zero-add, length, map}
use Rattle.std.proofs.lemmas.List.FromFn.{map-range_with_len_more}
use Rattle.std.specs.List.{range_with_len}
use Rattle.std.proofs.lemmas.Str.{encode_ascii}
use Rattle.dw_board.specs.Diagram.{sign_at}
use Rattle.dw_board.proofs.SignLemmas.{row_drawn}
use Rattle.dw_board.proofs.diagram.push_row.Goals as goal

pub push-requires : goal.push-requires
push-requires g c =
    let bar = ap length (encode_ascii 124 (omega arith)) in
    (omega arith, omega (arith, c.requires.room, bar))

pub push-requires-in-columns : goal.push-requires-in-columns
push-requires-in-columns g c =
    let b = g.met.B.Board.numbers in
    let rows = c.ROWS-column-end.ensures ∙ g.met.B.Board.rows_is in
    let one = ap length (encode_ascii c.sign_at.result c.sign_at.ensures.ascii) in
    let bar = ap length (c.push.ensures.ascii (omega arith)) ∙ length-append c.args.text.now.bytes _ in (
      omega arith,
      omega (arith, c.requires.room, c.columns.invariant.few, c.columns-test.true, rows, b.even, b.high, one, bar),
    )

pub push_str-requires : goal.push_str-requires
push_str-requires g c =
    let b = g.met.B.Board.numbers in
    let rows = c.ROWS-column-end.ensures ∙ g.met.B.Board.rows_is in
    let bar = ap length (c.push.ensures.ascii (omega arith)) ∙ length-append c.args.text.now.bytes _ in
    let end = c.columns.auto.column-end in
    (omega arith, omega (arith, c.requires.room, c.columns.invariant.few, end, rows, b.even, b.high, bar))

pub columns-preserved : goal.columns-preserved
columns-preserved g c =
    let pushed = c.push-in-columns.ensures.ascii c.sign_at.ensures.ascii in
    record {
      text = λ p are.
          let signs = sign_at g.B.Board.geometry p c.args.row in
          let so_far = map signs (range_with_len 0 c.columns.column) in
          let more = map-range_with_len_more signs 0 c.columns.column c.columns.column (zero-add c.columns.column) in
          pushed ∙ (ap (λ t. t ++ (c.sign_at.result ∷ [])) (c.columns.invariant.text p are)
          ∙ (append_assoc c.push.new.self.bytes so_far (c.sign_at.result ∷ [])
          ∙ ap (λ t. c.push.new.self.bytes ++ t)
          (ap (λ s. so_far ++ s ∷ []) (c.sign_at.ensures.value p are) ∙ sym more)));
      few =
          let e = ap length pushed ∙ length-append c.columns.text.bytes (c.sign_at.result ∷ []) in
          let f = c.columns.invariant.few in
          omega arith;
    }

pub returns-clause-bytes : goal.returns-clause-bytes
returns-clause-bytes g c = λ p are.
    let rows = c.ROWS-column-end.ensures ∙ g.met.B.Board.rows_is in
    row_drawn g.B.Board.geometry p c.args.row c.columns.column c.args.text.now.bytes c.push.new.self.bytes
    c.columns.text.bytes c.push_str.new.self.bytes (c.push.ensures.ascii (omega arith))
    (c.columns.invariant.text p are) (omega (arith, rows, c.columns.auto.column-end, c.columns-test.false))
    c.push_str.ensures.bytes

pub returns-clause-few : goal.returns-clause-few
returns-clause-few g c =
    let b = g.met.B.Board.numbers in
    let rows = c.ROWS-column-end.ensures ∙ g.met.B.Board.rows_is in
    let bar = ap length (c.push.ensures.ascii (omega arith)) ∙ length-append c.args.text.now.bytes _ in
    let end = c.columns.auto.column-end in
    omega (arith, c.columns.invariant.few, end, rows, b.even, b.high, bar, c.push_str.ensures.len)
