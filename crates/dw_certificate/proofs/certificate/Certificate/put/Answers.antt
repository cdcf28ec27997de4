use Rattle.std.proofs.Common.{◌∙◌, sym, ap}
use Rattle.std.specs.Option.{option_copied}
use Rattle.dw_certificate.proofs.RowLemmas.{found, knows_held}
use Rattle.dw_certificate.proofs.certificate.Certificate.put.Goals as goal

pub returns-in-Some-clause-known : goal.returns-in-Some-clause-known
returns-in-Some-clause-known g c = knows_held c.args.self.now.win c.args.self.now.rows.entries c.args.position.now
    c.in-Some.bound.now c.args.moves
    (found c.args.position.now c.args.self.now.rows.entries c.in-Some.bound.now
    (sym c.get.ensures.value ∙ ap option_copied c.in-Some.is))
    (c.suffices.ensures.0 c.if-suffices.true)
