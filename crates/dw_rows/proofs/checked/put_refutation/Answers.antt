use Rattle.std.proofs.Common.{◌∷◌, [], ◌∙◌, ap, subst, sym}
use Rattle.std.specs.Prelude.{codes, option_map}
use Rattle.std.specs.String.{string_bytes}
use Rattle.json.specs.Json.{string}
use Rattle.dw_json.specs.Writing.{WritesMembers}
use Rattle.dw_json.specs.inner.Composing.{none, then_ok}
use Rattle.dw_rows.specs.CheckRow.{refutation_members}
use Rattle.dw_rows.proofs.checked.put_refutation.Goals as goal

pub returns-in-Some : goal.returns-in-Some
returns-in-Some c = then_ok c.put_text.result c.put_text.ensures (λ more.
    subst (λ z. WritesMembers z c.args.row.now c.put_text.new.row)
    (ap (λ z. (codes "refutation", string z) ∷ []) c.as_str.ensures.value
    ∙ sym (ap (λ z. refutation_members (option_map string_bytes z)) c.in-Some.is)) more)

pub returns-in-None : goal.returns-in-None
returns-in-None c =
    subst (λ z. WritesMembers z c.args.row.now c.args.row.now)
    (sym (ap (λ z. refutation_members (option_map string_bytes z)) c.in-None.is)) (none c.args.row.now)
