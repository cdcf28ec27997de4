use Rattle.std.proofs.Common.{◌-◌, ◌∙◌, sym, subst}
use Rattle.std.proofs.lemmas.Result.{on_ok_weaker}
use Rattle.dw_certificate.specs.inner.Rows.{IsSupported}
use Rattle.dw_certificate.proofs.certificate.Certificate.support.Goals as goal

pub returns-then-self-clause-supported : goal.returns-then-self-clause-supported
returns-then-self-clause-supported g c =
    on_ok_weaker c.support_win.result
    (λ s. subst (λ w. IsSupported g.B.Board.geometry w c.args.position.now (c.args.bound - 1)
    c.args.self.now.rows.entries c.support_win.new.self.rows.entries)
    (sym (c.support_win.ensures.same ∙ c.if-self.true)) s)
    c.support_win.ensures.supported

pub returns-else-self-clause-supported : goal.returns-else-self-clause-supported
returns-else-self-clause-supported g c =
    on_ok_weaker c.support_no_win.result
    (λ s. subst (λ w. IsSupported g.B.Board.geometry w c.args.position.now (c.args.bound - 1)
    c.args.self.now.rows.entries c.support_no_win.new.self.rows.entries)
    (sym (c.support_no_win.ensures.same ∙ c.if-self.false)) s)
    c.support_no_win.ensures.supported
