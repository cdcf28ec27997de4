-- A solution that was compared with all wins, as the code keeps it.
use Rattle.std.specs.Prelude.{[], IsTrue, ◌↔◌}
use Rattle.dw_board.specs.Geometry.{Geometry}
use Rattle.dw_desk_commands.specs.declared.check.Solution.{Solution}
use Rattle.dw_solve.specs.Wins.{Win}
use Rattle.dw_study.specs.Remarks.{AreRemarks}
use Rattle.dw_study.specs.Telling.{Say}

-- it is known whether there is a win, and the remarks are those on the tree
pub record IsCompared {B : Type 0} (g : Geometry) (s : Solution B) : Type 0 where
  pub wins : IsTrue s.checked.now.wins ↔ Win g s.tree.now.start s.n
  pub remarks : Say s.tree.now.paths s.checked.now.remarks.items
      (AreRemarks g s.tree.now.paths s.n s.tree.now.start [])
