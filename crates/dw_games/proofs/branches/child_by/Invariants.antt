use Rattle.std.proofs.Common.{◌-◌, length}
use Rattle.dw_games.specs.Walk.{place_of}
use Rattle.dw_games.specs.inner.Branches.{steps_of, behind, IsChildOrNone, IsFirstChild, IsUnseen}
use Rattle.dw_games.proofs.branches.child_by.Given as goal

abbrev pub invariant-siblings : goal.invariant-siblings
invariant-siblings g l = record {
  last : IsChildOrNone (steps_of l.branches) (place_of l.fn.parent) (place_of l.last);
  next : IsFirstChild (steps_of l.branches) (place_of l.fn.parent) (behind (place_of l.last)) (place_of l.next);
  unseen : IsUnseen (steps_of l.branches) (place_of l.fn.parent) l.mv (behind (place_of l.last));
}

abbrev pub decreases-siblings : goal.decreases-siblings
decreases-siblings g l = length l.branches - behind (place_of l.last)
