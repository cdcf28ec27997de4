use Rattle.std.proofs.Common.{◌≡◌, ◌++◌, option_to_list, Some, sym, ◌∙◌, ap}
use Rattle.dw_notation.specs.Numbering.{handed_out}
use Rattle.dw_notation.specs.Problems.{number_from}
use Rattle.dw_notation.specs.inner.Pieces.{pieces_cut}
use Rattle.dw_notation.proofs.NumberLemmas.{number_from-problem}
use Rattle.dw_notation.proofs.problems.reader.Problems.hand_out.Goals as goal

pub returns-clause-given : goal.returns-clause-given
returns-clause-given g c = λ found.
    let handed = handed_out c.args.self.now.numbers in
    let more = c.hand_out.ensures.more c.requires in
    let said : Some c.in_ok-found.field-0 ≡ pieces_cut g.B.Board.geometry c.args.self.now.pieces = c.in_ok-found.ensures
    in ap (λ x. number_from handed (option_to_list x ++ found)) (sym said)
    ∙ number_from-problem handed (handed_out c.hand_out.new.self) c.in_ok-found.field-0 c.hand_out.result found
    c.requires (c.hand_out.ensures.number ∙ more) c.hand_out.ensures.found more
