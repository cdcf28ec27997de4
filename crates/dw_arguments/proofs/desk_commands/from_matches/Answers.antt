use Rattle.std.proofs.Common.{refl}
use Rattle.dw_arguments.specs.DeskCommands.{IsCheck, IsFind, IsPage, IsSolution}
use Rattle.dw_arguments.specs.declared.desk.Task.TheVariants.{Check, Find, Page, Solution}
use Rattle.dw_arguments.specs.Options.{options_of}
use Rattle.dw_arguments.proofs.CommandLemmas.{with_task}
use Rattle.dw_arguments.proofs.desk_commands.from_matches.Goals as goal

pub returns-in-find : goal.returns-in-find
returns-in-find c = rw c.in-find.is (with_task (options_of c.args.matches.now) IsFind (Find c.new.result)
    c.for_portion.result c.for_portion.ensures (c.new.result, refl, c.new.ensures))

pub returns-in-check : goal.returns-in-check
returns-in-check c = rw c.in-check.is (with_task (options_of c.args.matches.now) IsCheck (Check c.new-in-check.result)
    c.for_portion-in-check.result c.for_portion-in-check.ensures (c.new-in-check.result, refl, c.new-in-check.ensures))

pub returns-in-solution : goal.returns-in-solution
returns-in-solution c = rw c.in-solution.is
    (with_task (options_of c.args.matches.now) IsSolution (Solution c.new-in-solution.result)
    c.for_portion-in-solution.result c.for_portion-in-solution.ensures
    (c.new-in-solution.result, refl, c.new-in-solution.ensures))

pub returns-in-page : goal.returns-in-page
returns-in-page c = rw c.in-page.is (with_task (options_of c.args.matches.now) IsPage (Page c.new-in-page.result)
    c.for_portion-in-page.result c.for_portion-in-page.ensures (c.new-in-page.result, refl, c.new-in-page.ensures))

pub returns-in-certify : goal.returns-in-certify
returns-in-certify c = rw c.in-certify.is (
  c.for_one.ensures.searches,
  c.for_one.ensures.one,
  (c.new-in-certify.result, c.for_one.ensures.task, c.new-in-certify.ensures),
)
