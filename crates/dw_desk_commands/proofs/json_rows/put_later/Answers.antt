use Rattle.std.proofs.Common.{ℕ, ◌∷◌, [], List, String, Global, map, sym, subst}
use Rattle.std.specs.Prelude.{codes, OnOk}
use Rattle.std.specs.String.{string_bytes}
use Rattle.dw_desk_commands.specs.FindLater.{member_of}
use Rattle.dw_desk_commands.specs.inner.LaterTold.{later_told}
use Rattle.dw_json.specs.Rows.{counts}
use Rattle.dw_json.specs.Writing.{WritesMembers}
use Rattle.dw_desk_commands.proofs.json_rows.put_later.Goals as goal

pub returns-in-Some : goal.returns-in-Some
returns-in-Some c =
    let told : String Global × ℕ → List ℕ × ℕ = λ pair. (string_bytes pair.0, pair.1) in
    let old = c.args.row.now in
    let new = c.put_counts.new.row in
    subst (λ z. OnOk c.put_counts.result (WritesMembers (member_of (later_told z)) old new)) (sym c.in-Some.is)
    (subst (λ z. OnOk c.put_counts.result (WritesMembers ((codes "later", counts (map told z)) ∷ []) old new))
    c.as_slice.ensures.value c.put_counts.ensures)
