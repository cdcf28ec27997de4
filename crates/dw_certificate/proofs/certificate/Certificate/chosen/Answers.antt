use Rattle.dw_certificate.proofs.PositionLemmas.{member_at}
use Rattle.dw_certificate.proofs.certificate.Certificate.chosen.Goals as goal

pub returns-then-left-eq0 : goal.returns-then-left-eq0
returns-then-left-eq0 g c = member_at c.args.nexts.now c.nexts.next-index c.next-item.result c.nexts-test.true
    c.next-item.is
