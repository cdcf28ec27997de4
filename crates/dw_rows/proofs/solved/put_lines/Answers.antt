use Rattle.std.proofs.Common.{◌∙◌, ◌∷◌, [], ap, map, subst}
use Rattle.std.specs.Prelude.{codes}
use Rattle.json.specs.Json.{boolean}
use Rattle.dw_board.specs.Lists.{Member as Has}
use Rattle.dw_json.specs.Rows.{AreObjects, Member, objects}
use Rattle.dw_json.specs.inner.Composing.{both, objects_told, then_ok}
use Rattle.dw_rows.specs.SolutionRow.{IsPlacedObject}
use Rattle.dw_solution.specs.Telling.{placed_by}
use Rattle.dw_rows.proofs.solved.put_lines.Goals as goal

pub put_objects-requires : goal.put_objects-requires
put_objects-requires g c = λ one member.
    c.in_ok-moves.ensures.legal one (subst (Has one) c.as_slice.ensures.value member)

pub returns : goal.returns
returns g c =
    let geo = g.B.Board.geometry in
    let tree = c.in_ok-moves.ensures.moves in
    let more : Member = (codes "more", boolean c.is_cut.result) in
    then_ok c.put_objects.result c.put_objects.ensures (λ last. (
      more ∷ (codes "moves", objects last.0) ∷ [],
      (
        tree.0,
        last.0,
        tree.1,
        subst (λ z. AreObjects (IsPlacedObject geo) z last.0) (ap (map placed_by) c.as_slice.ensures.value ∙ tree.2)
            (objects_told (IsPlacedObject geo) placed_by c.as_slice.result.now last.0 last.1),
        ap (λ z. (codes "more", boolean z) ∷ (codes "moves", objects last.0) ∷ []) c.is_cut.ensures,
      ),
      both (more ∷ []) ((codes "moves", objects last.0) ∷ []) _ _ _ c.in_ok-put_flag.ensures last.2,
    ))
