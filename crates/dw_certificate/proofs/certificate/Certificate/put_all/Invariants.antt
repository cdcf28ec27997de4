use Rattle.std.proofs.Common.{◌≡◌, take}
use Rattle.dw_board.specs.Lists.{Member}
use Rattle.dw_board.specs.Placement.{Placement}
use Rattle.dw_certificate.specs.Certificate.{claims}
use Rattle.dw_certificate.specs.inner.Rows.{IsGrown, Knows}
use Rattle.dw_certificate.proofs.certificate.Certificate.put_all.Given as goal

abbrev pub invariant-nexts : goal.invariant-nexts
invariant-nexts g l = record {
  same : l.self.win ≡ l.initial.self.win;
  grown : IsGrown (λ q. Member q l.nexts) l.left l.initial.self.rows.entries l.self.rows.entries;
  known : (q : Placement) → Member q (take l.next-index l.nexts)
      → Knows l.self.win (claims l.self.win l.self.rows.entries) q l.left;
}
