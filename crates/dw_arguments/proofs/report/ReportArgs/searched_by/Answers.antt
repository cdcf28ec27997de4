use Rattle.dw_arguments.proofs.report.ReportArgs.searched_by.Goals as goal

pub invariant_of-args-clause-some_number : goal.invariant_of-args-clause-some_number
invariant_of-args-clause-some_number c = c.read_by-args.result.some_number
