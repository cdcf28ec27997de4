use Rattle.std.proofs.Common.{◌-◌, ◌^◌}
use Rattle.dw_certificate.specs.Certificate.{AreRows, claims}
use Rattle.dw_certificate.specs.inner.Rows.{AreFollowed, Knows}
use Rattle.dw_certificate.proofs.certificate.certify.Given as goal

abbrev pub invariant-rows : goal.invariant-rows
invariant-rows g l = record {
  are : AreRows l.fn.moves.value l.certificate.rows.entries;
  known : Knows l.certificate.win (claims l.certificate.win l.certificate.rows.entries) l.position l.fn.moves.value;
  followed : AreFollowed g.B.Board.geometry l.position l.certificate.win l.certificate.rows.entries l.index;
}

abbrev pub decreases-rows : goal.decreases-rows
decreases-rows g l = 2 ^ 64 - l.index
