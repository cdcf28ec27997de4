use Rattle.dw_desk_commands.proofs.chosen.Text.new.Goals as goal

pub returns-in-Pdn-clause-some : goal.returns-in-Pdn-clause-some
returns-in-Pdn-clause-some g c = c.new-in-Pdn.ensures.some
