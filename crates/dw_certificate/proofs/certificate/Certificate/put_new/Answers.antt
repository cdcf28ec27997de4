use Rattle.dw_certificate.proofs.RowLemmas.{grown_by, knows_pushed}
use Rattle.dw_certificate.proofs.certificate.Certificate.put_new.Goals as goal

pub returns-clause-grown : goal.returns-clause-grown
returns-clause-grown g c = grown_by c.args.moves c.args.self.now.rows.entries c.push_row.new.rows.entries
    c.args.position.now c.in-Some.bound c.requires c.in-Some.ensures.some c.in-Some.ensures.few
    c.in_ok-push_row.ensures

pub returns-clause-known : goal.returns-clause-known
returns-clause-known g c = knows_pushed c.args.self.now.win c.args.self.now.rows.entries c.push_row.new.rows.entries
    c.args.position.now c.in-Some.bound c.args.moves c.in_ok-push_row.ensures c.in-Some.ensures.enough
