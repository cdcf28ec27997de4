use Rattle.std.proofs.Common.{◌∙◌}
use Rattle.indexmap.proofs.CallerLemmas.{insert_entry-new}
use Rattle.dw_board.specs.inner.PlacementLemmas.{same}
use Rattle.dw_certificate.proofs.certificate.push_row.Goals as goal

pub returns : goal.returns
returns g c = c.in_ok-insert.ensures.entries
    ∙ insert_entry-new same c.args.rows.now c.args.position.now c.args.bound c.requires
