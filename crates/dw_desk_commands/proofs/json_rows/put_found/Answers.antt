use Rattle.std.proofs.Common.{◌∷◌, [], List, refl, sym, subst}
use Rattle.std.specs.Prelude.{codes}
use Rattle.json.specs.Json.{string}
use Rattle.dw_study.specs.Telling.{told_by}
use Rattle.dw_desk_commands.specs.FindJson.{AreFound}
use Rattle.dw_json.specs.Rows.{Member, count}
use Rattle.dw_json.specs.inner.Composing.{then_ok}
use Rattle.dw_desk_commands.proofs.json_rows.put_found.Goals as goal

pub returns-in-Undecided : goal.returns-in-Undecided
returns-in-Undecided g c =
    let members : List Member = (codes "verdict", string (codes "undecided"))
    ∷ (codes "no_win_in", count c.in-Undecided.no_win_in) ∷ [] in
    then_ok c.put_undecided.result c.put_undecided.ensures (λ goes. (
      members,
      subst (λ f. AreFound g.B.Board.geometry c.args.position.now (told_by f) members) (sym c.in-Undecided.is) refl,
      goes,
    ))
