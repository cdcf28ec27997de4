use Rattle.dw_certificate.proofs.ClosedLemmas.{certificates_right}
use Rattle.dw_certificate.proofs.laws.certificates_are_right.Goals as goal

pub returns : goal.returns
returns c = certificates_right c.closed_is_true.ensures
