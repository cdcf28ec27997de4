use Rattle.std.proofs.Common.{◌≡◌, false}
use Rattle.dw_certificate.specs.inner.Rows.{IsSupportedTo}
use Rattle.dw_certificate.proofs.certificate.Certificate.support_no_win.Given as goal

abbrev pub invariant-moves : goal.invariant-moves
invariant-moves g l = record {
  same : l.self.win ≡ false;
  supported : IsSupportedTo g.B.Board.geometry l.position l.mv-items l.mv-index l.left l.initial.self.rows.entries
      l.self.rows.entries;
}
