use Rattle.dw_list.proofs.PassingLemmas.{pass_level}
use Rattle.dw_list.proofs.frame.Frame.pass.Goals as goal
use Rattle.dw_list.proofs.frame.Frame.pass.Goals.{in-None, in-Some}

pub returns-then-self-count : goal.returns-then-self-count
returns-then-self-count g c = pass_level (λ l. l.step) (λ list. list.items) c.args.self.now _ _ _
    c.match-self.self-inside.moves c.match-self.self-inside.passed
    (elim c.match-self.branch [
      | in-None w ↦ rw w.self-inside-is c.self.view_is
      | in-Some w ↦ rw w.self-inside-is c.self.view_is
    ])
