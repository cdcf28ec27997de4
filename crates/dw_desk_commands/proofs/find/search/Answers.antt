use Rattle.std.proofs.Common.{◌≡◌, ◌∙◌, ap}
use Rattle.dw_desk_commands.proofs.FindLemmas.{used_up}
use Rattle.dw_desk_commands.proofs.find.search.Goals.{then-is_some, else-is_some}
use Rattle.dw_desk_commands.proofs.find.search.Goals as goal

pub returns-clause-found : goal.returns-clause-found
returns-clause-found g c =
    let began : c.begin.new.self.solver.expanded ≡ c.args.desk.now.solver.expanded = c.begin.ensures
    ∙ elim c.if-is_some.branch [
      | then-is_some w ↦ ap (λ d. d.solver.expanded) w.desk-is ∙ w.clear_memo.ensures.expanded
      | else-is_some w ↦ ap (λ d. d.solver.expanded) w.desk-is
    ] in (
      c.in_ok-finding.ensures.finding,
      used_up c.args.query.now.each c.args.desk.now.solver.expanded c.begin.new.self.solver.expanded
          c.find.new.solver.expanded c.in_ok-finding.finding began c.in_ok-finding.ensures.stays.undecided,
    )

pub returns-clause-bounded : goal.returns-clause-bounded
returns-clause-bounded g c = record {
  start = c.begin.new.self.solver;
  began = c.begin.ensures ∙ elim c.if-is_some.branch [
    | then-is_some w ↦ ap (λ d. d.solver.expanded) w.desk-is ∙ w.clear_memo.ensures.expanded
    | else-is_some w ↦ ap (λ d. d.solver.expanded) w.desk-is
  ];
  stays = c.in_ok-finding.ensures.stays;
  known = c.in_ok-finding.ensures.known;
}
