use Rattle.std.proofs.Common.{inr}
use Rattle.dw_board.specs.Lists.{Member}
use Rattle.dw_board.specs.Placement.{Placement}
use Rattle.std.proofs.Common.{◌≡◌, ◌⊎◌}
use Rattle.dw_certificate.specs.Certificate.{claims}
use Rattle.dw_certificate.specs.inner.Rows.{IsGrown, Knows}
use Rattle.dw_certificate.proofs.SupportLemmas.{on_ok_both}
use Rattle.dw_certificate.proofs.certificate.Certificate.put_one.Goals as goal

pub returns-in-Some-2-clause-put : goal.returns-in-Some-2-clause-put
returns-in-Some-2-clause-put g c =
    let q = c.in-Some.field-0 in
    let left = c.args.left in
    let old = c.args.self.now.rows.entries in
    let new = c.put.new.self.rows.entries in
    let win = c.put.new.self.win in
    on_ok_both c.put.result (IsGrown (λ z. z ≡ q) left old new) (Knows win (claims win new) q left)
    ((z : Placement) × Member z c.args.nexts.now × IsGrown (λ y. y ≡ z) left old new
    × ((left ≡ 0) ⊎ Knows win (claims win new) z left))
    (λ grown known. (q, c.in-Some.ensures, grown, inr known))
    c.put.ensures.grown c.put.ensures.known
