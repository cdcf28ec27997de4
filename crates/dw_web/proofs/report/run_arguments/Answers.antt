-- The words that were read say what is asked for, and the run does that.
use Rattle.std.proofs.Common.{inr}
use Rattle.dw_web.proofs.report.run_arguments.Goals as goal

pub returns-in-Ok-parse-clause-answers : goal.returns-in-Ok-parse-clause-answers
returns-in-Ok-parse-clause-answers g c =
    let read = c.in-Ok-parse.ensures
    in (c.run.result, inr (read.0, c.in-Ok-parse.args, read.1, c.run.ensures), c.tell.ensures.told)
