use Rattle.std.proofs.Common.{◌∷◌, [], ◌∙◌, ap, subst, sym}
use Rattle.std.specs.Prelude.{codes}
use Rattle.dw_json.specs.Rows.{count}
use Rattle.dw_json.specs.Writing.{WritesMembers}
use Rattle.dw_json.specs.inner.Composing.{none, then_ok}
use Rattle.dw_rows.specs.CheckRow.{wins_in_members}
use Rattle.dw_rows.proofs.checked.put_wins_in.Goals as goal

pub returns-in-Some : goal.returns-in-Some
returns-in-Some c = then_ok c.put_number.result c.put_number.ensures (λ more.
    subst (λ z. WritesMembers z c.args.row.now c.put_number.new.row)
    (ap (λ z. (codes "wins_in", count z) ∷ []) c.into.ensures ∙ sym (ap wins_in_members c.in-Some.is)) more)

pub returns-in-None : goal.returns-in-None
returns-in-None c =
    subst (λ z. WritesMembers z c.args.row.now c.args.row.now) (sym (ap wins_in_members c.in-None.is))
    (none c.args.row.now)
