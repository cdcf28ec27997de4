use Rattle.std.proofs.Common.{◌≡◌, map, take}
use Rattle.std.specs.String.{string_bytes}
use Rattle.dw_desk_commands.specs.Page.{try_row}
use Rattle.dw_desk_commands.proofs.page_rows.rows_of.Given as goal

abbrev pub invariant-tries : goal.invariant-tries
invariant-tries l =
    let texts = map (λ t. (string_bytes t.0, string_bytes t.1)) (take l.mv-index l.texts) in
    map string_bytes l.rows.items ≡ map try_row texts
