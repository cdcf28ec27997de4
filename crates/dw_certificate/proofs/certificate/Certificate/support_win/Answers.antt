use Rattle.std.proofs.Common.{◌≡◌, true, ◌∙◌, sym, ap, subst}
use Rattle.dw_board.specs.Lists.{Member}
use Rattle.dw_board.specs.Placement.{Placement}
use Rattle.dw_certificate.specs.Certificate.{claims}
use Rattle.dw_certificate.specs.inner.Rows.{Knows, AreAfter, IsGrown, IsSupported}
use Rattle.dw_certificate.proofs.PositionLemmas.{member_at}
use Rattle.dw_certificate.proofs.SupportLemmas.{on_ok_both, win_supported}
use Rattle.dw_certificate.proofs.certificate.Certificate.support_win.Goals as goal

pub returns-then-has_all-clause-supported : goal.returns-then-has_all-clause-supported
returns-then-has_all-clause-supported g c =
    let geo = g.B.Board.geometry in
    let p = c.args.position.now in
    let left = c.args.left in
    let a = c.after-item.result in
    let nexts = c.as_slice-then-has_all.result.now in
    let old = c.args.self.now.rows.entries in
    let now = c.moves.self.rows.entries in
    let new = c.put_all.new.self.rows.entries in
    let win = c.put_all.new.self.win in
    let afters = subst (AreAfter geo p) (sym c.as_slice-after-items.ensures.value) c.in_ok-afters.ensures in
    let is_after = afters.only a (member_at c.as_slice-after-items.result.now c.moves.after-index a c.moves-test.true
    c.after-item.is) in
    let replies = subst (AreAfter geo a) (sym c.as_slice-then-has_all.ensures.value) c.in_ok-nexts.ensures in
    let same : win ≡ true = c.put_all.ensures.same ∙ (ap (λ s. s.win) c.moves.invariant ∙ c.requires) in
    on_ok_both c.put_all.result
    (IsGrown (λ q. Member q nexts) left now new)
    ((q : Placement) → Member q nexts → Knows win (claims win new) q left)
    (IsSupported geo true p left old new)
    (λ grown known. subst (λ z. IsSupported geo true p left z new) (ap (λ s. s.rows.entries) c.moves.invariant)
    (win_supported geo p a nexts left now new is_after replies grown
    (λ q m. subst (λ w. Knows w (claims w new) q left) same (known q m))))
    c.put_all.ensures.grown c.put_all.ensures.known
