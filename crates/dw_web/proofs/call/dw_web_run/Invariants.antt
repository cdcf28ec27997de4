-- The limit is the length of the slice that the call is given.
use Rattle.std.specs.Prelude.{length}
use Rattle.dw_web.proofs.call.dw_web_run.Given as goal

abbrev pub ghosts-run_within : goal.ghosts-run_within
ghosts-run_within a = record { limit = length a.report.now }
