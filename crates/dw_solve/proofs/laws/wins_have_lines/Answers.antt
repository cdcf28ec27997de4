use Rattle.dw_solve.specs.inner.LineLemmas.{win_line, line_wins}
use Rattle.dw_solve.proofs.laws.wins_have_lines.Goals as goal

pub returns : goal.returns
returns c = λ g p n. ((λ w. win_line c.moves_listed.ensures g n p w), (λ h. line_wins g p n h.0 h.1))
