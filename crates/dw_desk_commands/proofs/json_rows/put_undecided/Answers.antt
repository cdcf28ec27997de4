use Rattle.std.proofs.Common.{◌∷◌, [], subst}
use Rattle.std.specs.Prelude.{codes}
use Rattle.json.specs.Json.{string}
use Rattle.dw_json.specs.Rows.{Member, count}
use Rattle.dw_json.specs.Writing.{WritesMembers}
use Rattle.dw_json.specs.inner.Composing.{both, then_ok}
use Rattle.dw_desk_commands.proofs.json_rows.put_undecided.Goals as goal

pub returns : goal.returns
returns c =
    let verdict : Member = (codes "verdict", string (codes "undecided")) in
    then_ok c.put_number.result c.put_number.ensures (λ more.
    subst (λ z. WritesMembers (verdict ∷ (codes "no_win_in", count z) ∷ []) c.args.row.now c.put_number.new.row)
    c.into.ensures
    (both (verdict ∷ []) ((codes "no_win_in", count c.into.result) ∷ []) c.args.row.now c.put_text.new.row
    c.put_number.new.row c.in_ok-put_text.ensures more))
