use Rattle.std.proofs.Common.{◌∙◌}
use Rattle.dw_notation.specs.Numbering.{handed_out}
use Rattle.dw_games.proofs.HandLemmas.{open_numbers}
use Rattle.dw_games.proofs.games.Games.hand_out_open.Goals as goal

pub returns-clause-given : goal.returns-clause-given
returns-clause-given g c =
    let number = c.hand_out.ensures in
    open_numbers (handed_out c.args.self.now.numbers)
    (record { problem = c.hand_out.result; tags = c.new.result; movetext = c.new-2.result }) c.requires (number.number ∙
    number.more c.requires) number.found c.new.ensures.items c.new-2.ensures.items
