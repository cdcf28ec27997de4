use Rattle.std.proofs.Common.{◌+◌, ◌++◌, ◌∙◌, option_to_list, ap, sym, drop, length, arith}
use Rattle.std.proofs.lemmas.List.{drop_all}
use Rattle.dw_notation.specs.Buffering.{unread_in}
use Rattle.dw_notation.specs.inner.Pieces.{pieces_ahead, pieces_behind, pieces_cut}
use Rattle.dw_notation.proofs.problems.reader.Problems.cut.Goals as goal

pub returns-in-Some-clause-found : goal.returns-in-Some-clause-found
returns-in-Some-clause-found g c = λ _ board at_end more.
    ap (λ l. pieces_ahead at_end board c.args.self.now.pieces (l ++ more)) (sym c.unread-bytes.ensures)
    ∙ c.in-Some.ensures.some.1 board at_end more
    ∙ ap (λ l. option_to_list (pieces_cut board c.cut.new.self) ++ pieces_behind at_end board c.cut.new.self (l ++
    more)) (ap (drop (c.in-Some.place + 1)) c.unread-bytes.ensures ∙ sym c.consume.ensures.unread)

pub returns-in-None-clause-same : goal.returns-in-None-clause-same
returns-in-None-clause-same g c = λ _ board at_end more.
    ap (λ l. pieces_ahead at_end board c.args.self.now.pieces (l ++ more)) (sym c.unread-bytes.ensures)
    ∙ c.in-None.ensures.none board at_end more
    ∙ ap (λ l. pieces_ahead at_end board c.cut.new.self (l ++ more)) (sym (c.consume-in-None.ensures.unread
    ∙ drop_all (length c.unread-bytes.result.now) (unread_in c.args.self.now.buffer)
    (omega (arith, ap length c.unread-bytes.ensures))))
