use Rattle.dw_arguments.proofs.report.ReportArgs.listed_by.Goals as goal

pub invariant_of-args-clause-some_number : goal.invariant_of-args-clause-some_number
invariant_of-args-clause-some_number c = c.problem_or_first-args.ensures.some
