use Rattle.std.proofs.Common.{◌++◌, ◌∙◌}
use Rattle.std.proofs.lemmas.Result.{err_from_is_err_and}
use Rattle.dw_notation.specs.Buffering.{input_of}
use Rattle.dw_games.proofs.InputLemmas.{Passes-trans}
use Rattle.dw_games.proofs.HandLemmas.{ReadsGame-fault, ReadsGame-section}
use Rattle.dw_games.proofs.games.Games.read_game.Goals as goal

pub returns-in_err-found-clause-reads : goal.returns-in_err-found-clause-reads
returns-in_err-found-clause-reads g c =
    let s = g.S.Source in
    let e = err_from_is_err_and c.from_residual.result c.from_residual.ensures.1 in
    rw (e.1, e.2) (ReadsGame-fault g.B.Board.geometry s.supply s.is_failed s.pulls_left _ _
    c.in_err-found.ensures.passed c.in_err-found.field-0.0 c.in_err-found.ensures.passes)

pub returns-in_err-scan_to_section-clause-reads : goal.returns-in_err-scan_to_section-clause-reads
returns-in_err-scan_to_section-clause-reads g c =
    let s = g.S.Source in
    let section = rw c.in-Some.is at c.in_ok-found.ensures in
    let e = err_from_is_err_and c.from_residual-in_err-scan_to_section.result
    c.from_residual-in_err-scan_to_section.ensures.1 in
    rw (e.1, e.2) (ReadsGame-fault g.B.Board.geometry s.supply s.is_failed s.pulls_left _ _
    (section.passed ++ c.in_err-scan_to_section.ensures.passed) c.in_err-scan_to_section.field-0.0
    (Passes-trans s.supply s.is_failed s.pulls_left _ (input_of c.read_section.new.source
    c.read_section.new.buffer) _ section.passed
    c.in_err-scan_to_section.ensures.passed _ section.passes c.in_err-scan_to_section.ensures.passes))

pub returns-clause-reads : goal.returns-clause-reads
returns-clause-reads g c =
    let s = g.S.Source in
    let section = rw c.in-Some.is at c.in_ok-found.ensures in
    let number = c.hand_out-problem.ensures in
    ReadsGame-section g.B.Board.geometry s.supply s.is_failed s.pulls_left c.texts_of_tags_say.ensures _
    _ (input_of c.read_section.new.source c.read_section.new.buffer) c.new-row.result c.read_section.new.row
    c.new-spaces.result
    c.read_section.new.spaces c.movetext_if_valid-movetext.result c.scan_to_section.new.kept c.in-Some.found
    c.in_ok-scan_to_section.field-0
    (record { problem = c.hand_out-problem.result; tags = c.tags_if_valid-tags.result; movetext = c.into_bytes.result })
    section c.in_ok-scan_to_section.ensures c.new-row.ensures c.tags_if_valid-tags.ensures c.new-spaces.ensures
    c.movetext_if_valid-movetext.ensures c.into_bytes.ensures c.stage_behind-self.ensures c.requires.room
    (number.more c.requires.room) (number.number ∙ number.more c.requires.room) number.found
