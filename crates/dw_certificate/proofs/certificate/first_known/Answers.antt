use Rattle.dw_certificate.proofs.PositionLemmas.{member_at}
use Rattle.dw_certificate.proofs.certificate.first_known.Goals as goal

pub returns-then-is_some : goal.returns-then-is_some
returns-then-is_some g c = member_at c.args.nexts.now c.nexts.next-index c.next-item.result c.nexts-test.true
    c.next-item.is
