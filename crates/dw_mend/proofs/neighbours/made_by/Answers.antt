use Rattle.std.proofs.Common.{◌+◌, ◌∙◌, sym, ap, subst, map, take}
use Rattle.std.proofs.lemmas.List.{map_push}
use Rattle.dw_mend.specs.Changes.{AreMade}
use Rattle.dw_mend.specs.Telling.{told, told_by}
use Rattle.dw_mend.proofs.MakingLemmas.{made_next, none_next}
use Rattle.dw_mend.proofs.neighbours.made_by.Goals as goal
use Rattle.dw_mend.proofs.neighbours.made_by.Goals.{in-Some+in_ok-push, in_default}

pub changes-preserved : goal.changes-preserved
changes-preserved g c =
    let geo = g.B.Board.geometry in
    let p = c.args.position.now in
    let i = c.changes.change-index in
    elim c.match-changed.branch [
      | in-Some+in_ok-push w ↦ made_next told geo p c.args.changes.now (map told_by c.changes.all.items)
          (map told_by c.match-changed.all.items) i c.change-item.result w.in-Some.made
          c.changes-test.true c.change-item.is c.changes.invariant w.in-Some.ensures
          (ap (λ v. map told_by v.items) w.all-is ∙ (ap (map told_by) w.in_ok-push.ensures.items ∙ map_push told_by _
          _))
      | in_default w ↦ subst (λ v. AreMade geo p (map told (take (i + 1) c.args.changes.now)) (map told_by v.items))
          (sym w.all-is) (none_next told geo p c.args.changes.now (map told_by c.changes.all.items) i
          c.change-item.result c.changes-test.true c.change-item.is c.changes.invariant w.in_default.ensures)
    ]
