use Rattle.std.proofs.Common.{sym, ◌∙◌, Err}
use Rattle.dw_board.specs.inner.FenReader.{tokens_of, end_of}
use Rattle.dw_board.specs.Fen.{read_from, AfterItem}
use Rattle.dw_board.specs.inner.FenReading.{listing}
use Rattle.dw_board.proofs.FenStageLemmas.{list_nothing, list_something, nothing-no_comma, step_before}
use Rattle.dw_board.proofs.fen.read.read_list.Goals as goal

pub returns-then-ends_list-clause-list : goal.returns-then-ends_list-clause-list
returns-then-ends_list-clause-list g c = λ second.
    list_nothing g.B.Board.geometry (end_of c.args.tokens.now) (listing c.args.side second c.args.position.now)
    (tokens_of c.args.tokens.now) (sym c.ends_list.ensures ∙ c.if-ends_list.true)

pub returns-then-ends_list-clause-no_comma : goal.returns-then-ends_list-clause-no_comma
returns-then-ends_list-clause-no_comma g c = nothing-no_comma g.B.Board.geometry 0 (tokens_of c.args.tokens.now)
    (sym c.ends_list.ensures ∙ c.if-ends_list.true)

pub returns-clause-list : goal.returns-clause-list
returns-clause-list g c = λ second.
    step_before g.B.Board.geometry 0 c.read_items.result _ _
    (λ _. read_from g.B.Board.geometry (end_of c.args.tokens.now)
    (AfterItem (listing c.args.side second c.read_items.new.position)) (tokens_of c.read_items.new.tokens)) Err
    (list_something g.B.Board.geometry (end_of c.args.tokens.now) (listing c.args.side second c.args.position.now)
    (tokens_of c.args.tokens.now) (sym c.ends_list.ensures ∙ c.if-ends_list.false))
    (c.read_items.ensures.items second)
