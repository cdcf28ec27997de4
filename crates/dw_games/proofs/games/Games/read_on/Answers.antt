use Rattle.std.proofs.Common.{refl}
use Rattle.std.proofs.lemmas.Result.{err_from_is_err_and}
use Rattle.dw_notation.specs.Buffering.{input_of}
use Rattle.dw_games.proofs.HandLemmas.{ReadsGame-fault, ReadsGame-front, ReadsGame-open, ReadsGame-end}
use Rattle.dw_games.proofs.games.Games.read_on.Goals as goal

pub returns-in_err-scan_to_section-clause-reads : goal.returns-in_err-scan_to_section-clause-reads
returns-in_err-scan_to_section-clause-reads g c =
    let s = g.S.Source in
    let e = err_from_is_err_and c.from_residual.result c.from_residual.ensures.1 in
    rw (e.1, e.2) (ReadsGame-fault g.B.Board.geometry s.supply s.is_failed s.pulls_left _ _
    c.in_err-scan_to_section.ensures.passed c.in_err-scan_to_section.field-0.0 c.in_err-scan_to_section.ensures.passes)

pub returns-in-Section-clause-reads : goal.returns-in-Section-clause-reads
returns-in-Section-clause-reads g c =
    let s = g.S.Source in
    ReadsGame-front g.B.Board.geometry s.supply s.is_failed s.pulls_left _ _ c.read_game.new.self
    c.new-front.result c.scan_to_section.new.kept c.read_game.result (rw c.in-Section.is at
    c.in_ok-scan_to_section.ensures) refl c.read_game.ensures.reads

pub returns-in-Open-clause-reads : goal.returns-in-Open-clause-reads
returns-in-Open-clause-reads g c =
    let s = g.S.Source in
    ReadsGame-open g.B.Board.geometry s.supply s.is_failed s.pulls_left c.texts_of_tags_say.ensures _
    c.hand_out_open.new.self (input_of c.scan_to_section.new.source c.scan_to_section.new.buffer) c.new-front.result
    c.scan_to_section.new.kept c.hand_out_open.result
    (rw c.in-Open.is at c.in_ok-scan_to_section.ensures) c.hand_out_open.ensures.input c.hand_out_open.ensures.stage
    c.hand_out_open.ensures.given

pub returns-clause-reads : goal.returns-clause-reads
returns-clause-reads g c =
    let s = g.S.Source in
    ReadsGame-end g.B.Board.geometry s.supply s.is_failed s.pulls_left _ _ c.new-front.result
    c.scan_to_section.new.kept (rw c.in-Text.is at c.in_ok-scan_to_section.ensures) refl
