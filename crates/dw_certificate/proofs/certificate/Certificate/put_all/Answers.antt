use Rattle.std.proofs.Common.{◌≡◌, ◌∙◌, sym, subst}
use Rattle.dw_board.specs.Lists.{Member}
use Rattle.dw_certificate.specs.Certificate.{claims}
use Rattle.dw_certificate.specs.inner.Rows.{Knows}
use Rattle.dw_certificate.proofs.PositionLemmas.{member_at, first_cases}
use Rattle.dw_certificate.proofs.RowLemmas.{grown_then, grown_wider, knows_grown}
use Rattle.dw_certificate.proofs.certificate.Certificate.put_all.Goals as goal

pub nexts-preserved : goal.nexts-preserved
nexts-preserved g c =
    let list = c.args.nexts.now in
    let old = c.nexts.self.rows.entries in
    let new = c.put.new.self.rows.entries in
    let there = member_at list c.nexts.next-index c.next-item.result c.nexts-test.true c.next-item.is in
    record {
      same = c.put.ensures.same ∙ c.nexts.invariant.same;
      grown = grown_then (λ q. Member q list) c.args.left c.args.self.now.rows.entries old new c.nexts.invariant.grown
          (grown_wider (λ q. q ≡ c.next-item.result) (λ q. Member q list) c.args.left old new
          (λ q e. subst (λ z. Member z list) (sym e) there) c.in_ok-put.ensures.grown);
      known = λ q m. first_cases list c.nexts.next-index c.next-item.result q c.nexts-test.true c.next-item.is
          (λ z. Knows c.put.new.self.win (claims c.put.new.self.win new) z c.args.left)
          (λ z mz. subst (λ w. Knows w (claims w new) z c.args.left) (sym c.put.ensures.same)
          (knows_grown c.nexts.self.win (λ q. q ≡ c.next-item.result) c.args.left old new z c.args.left
          c.in_ok-put.ensures.grown (c.nexts.invariant.known z mz)))
          c.in_ok-put.ensures.known m;
    }
