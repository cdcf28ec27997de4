use Rattle.std.specs.String.{string_bytes}
use Rattle.dw_json.proofs.RowLemmas.{ended}
use Rattle.dw_json.proofs.row.end_row.Goals as goal

pub returns : goal.returns
returns c members begun = ended members c.args.row c.end_object.new.self (string_bytes c.in_ok-line.line)
    (string_bytes c.push_str.new.self) begun c.end_object.ensures.room.0 c.in_ok-end_object.ensures.ok
    c.in_ok-line.ensures
    c.in_ok-push_str.ensures.bytes
