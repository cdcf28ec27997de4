use Rattle.std.proofs.Common.{◌≡◌, ◌+◌, ◌-◌, ◌∙◌, sym, subst, arith}
use Rattle.dw_certificate.specs.Certificate.{claims}
use Rattle.dw_certificate.specs.inner.Rows.{AreFollowed, IsSupported, Knows, LeadsTo}
use Rattle.dw_certificate.proofs.RowLemmas.{knows_grown}
use Rattle.dw_certificate.proofs.ClosedLemmas.{rows_first, rows_grown, some_at, followed_none, followed_more, none_at}
use Rattle.dw_certificate.proofs.ClosedLemmas.{certificate_of}
use Rattle.dw_certificate.proofs.certificate.certify.Goals as goal

pub rows-init : goal.rows-init
rows-init g c = record {
  are = rows_first c.args.position.now c.args.moves.value c.new.result.entries c.put.new.self.rows.entries
      c.new.ensures.empty c.in_ok-put.ensures.grown;
  known = c.in_ok-put.ensures.known;
  followed = followed_none g.B.Board.geometry c.args.position.now c.args.moves.value c.put.new.self.win
      c.new.result.entries c.put.new.self.rows.entries c.new.ensures.empty c.in_ok-put.ensures.grown;
}

pub support-requires : goal.support-requires
support-requires g c = some_at c.args.moves.value c.rows.certificate.rows.entries c.rows.index c.in-Some-row_at.row.0
    c.in-Some-row_at.row.1 c.rows.invariant.are (sym c.row_at.ensures.row ∙ c.in-Some-row_at.is)

pub rows-preserved : goal.rows-preserved
rows-preserved g c =
    let geo = g.B.Board.geometry in
    let p = c.args.position.now in
    let n = c.args.moves.value in
    let win = c.rows.certificate.win in
    let old = c.rows.certificate.rows.entries in
    let new = c.support.new.self.rows.entries in
    let place = c.in-Some-row_at.row.0 in
    let bound = c.in-Some-row_at.row.1 in
    let at = sym c.row_at.ensures.row ∙ c.in-Some-row_at.is in
    let some = some_at n old c.rows.index place bound c.rows.invariant.are at in
    let same = c.in_ok-support.ensures.same in
    let here : IsSupported geo win place (bound - 1) old new =
    subst (λ w. IsSupported geo w place (bound - 1) old new) same c.in_ok-support.ensures.supported in
    record {
      are = rows_grown (LeadsTo geo place here.steps) n old new c.rows.index place bound c.rows.invariant.are at
          here.grown;
      known = subst (λ w. Knows w (claims w new) p n) (sym same)
          (knows_grown win (LeadsTo geo place here.steps) (bound - 1) old new p n here.grown c.rows.invariant.known);
      followed = subst (λ w. AreFollowed geo p w new (c.rows.index + 1)) (sym same)
          (followed_more geo p win old new c.rows.index place bound (bound - 1) (omega (arith, some))
          c.rows.invariant.followed at here);
    }

pub returns : goal.returns
returns g c = certificate_of g.B.Board.geometry c.args.position.now c.args.moves.value c.rows.certificate.win
    c.rows.certificate.rows.entries c.rows.index c.rows.invariant.are c.rows.invariant.followed
    (none_at c.rows.certificate.rows.entries c.rows.index (sym c.row_at.ensures.row ∙ c.in_default-row_at.is))
    c.rows.invariant.known
