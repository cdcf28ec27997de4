use Rattle.std.proofs.Common.{ℕ, List, inl, refl, subst, sym}
use Rattle.std.specs.Borrow.{Bor}
use Rattle.dw_desk_commands.specs.Commands.{FailsAt}
use Rattle.dw_desk_commands.specs.inner.Choosing.{source_of}
use Rattle.dw_desk_commands.proofs.CommandLemmas.{fails_at, fails_at_once}
use Rattle.dw_report.specs.declared.settings.RunFault.TheVariants.{Stopped}
use Rattle.dw_solve.specs.declared.stop.Stop.TheVariants.{Memory}
use Rattle.dw_desk_commands.proofs.desk.run_chosen.Goals as goal

pub returns-in_default-clause-obeys : goal.returns-in_default-clause-obeys
returns-in_default-clause-obeys g c = inl (
  Stopped Memory 0,
  c.no_memory.ensures,
  fails_at_once (Bor (List ℕ)) g.B.Board.geometry g.S.Source.supply c.args.args.now c.args.chosen.now
      (g.K.Sink.accepted c.args.sink.now) c.requires.fresh,
)

pub returns-clause-obeys : goal.returns-clause-obeys
returns-clause-obeys g c =
    let geo = g.B.Board.geometry in
    let supply = g.S.Source.supply in
    let args = c.args.args.now in
    let start = g.K.Sink.accepted c.args.sink.now in
    let new = g.K.Sink.accepted c.dispatch-done.new.sink in
    let after = c.dispatch-done.new.chosen in
    inl (
      c.in_run.result,
      refl,
      subst (FailsAt (Bor (List ℕ)) geo args (supply (source_of c.args.chosen.now.text)) (supply (source_of after.text))
          start new) (sym c.in_run.ensures)
          (fails_at (Bor (List ℕ)) geo supply args c.args.chosen.now after start new c.in-Err.fault c.expanded.result
          c.requires.fresh c.dispatch-done.ensures.on c.in-Err.ensures.stands),
    )
