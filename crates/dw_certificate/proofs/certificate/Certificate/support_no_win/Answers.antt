use Rattle.std.proofs.Common.{false, inl, inr, ◌∙◌, sym, subst, arith}
use Rattle.dw_moves.specs.Moves.{AreLegal, play}
use Rattle.dw_moves.specs.inner.MoveLemmas.{listed_is_legal}
use Rattle.dw_certificate.specs.Certificate.{IsAfterReply, claims}
use Rattle.dw_certificate.specs.inner.Rows.{AreAfter, IsAfter, Knows}
use Rattle.dw_certificate.proofs.SupportLemmas.{supported_none, supported_more, supported_all}
use Rattle.dw_certificate.proofs.certificate.Certificate.support_no_win.Goals as goal

pub moves-init : goal.moves-init
moves-init g c = record {
  same = c.requires;
  supported = supported_none g.B.Board.geometry c.args.position.now c.as_slice-mv-items.result.now c.args.left
      c.args.self.now.rows.entries;
}

pub play-after-requires : goal.play-after-requires
play-after-requires g c =
    listed_is_legal g.B.Board.geometry c.args.position.now c.as_slice-mv-items.result.now c.moves.mv-index
    c.mv-item.result
    (subst (AreLegal g.B.Board.geometry c.args.position.now) (sym c.as_slice-mv-items.ensures.value)
    c.in_ok-moves.ensures) c.moves-test.true c.mv-item.is

pub moves-preserved : goal.moves-preserved
moves-preserved g c =
    let geo = g.B.Board.geometry in
    let p = c.args.position.now in
    let m = c.mv-item.result in
    let new = c.put_one.new.self.rows.entries in
    let same = c.in_ok-put_one.ensures.same ∙ c.moves.invariant.same in
    let replies = subst (AreAfter geo c.play-after.result) (sym c.as_slice.ensures.value) c.in_ok-nexts.ensures in
    let put = c.in_ok-put_one.ensures.put in
    let reply : IsAfterReply geo p m put.0 =
    subst (λ z. IsAfter geo z put.0) c.play-after.ensures (replies.only put.0 put.1) in
    record {
      same = same;
      supported = supported_more geo p c.as_slice-mv-items.result.now c.moves.mv-index c.args.left
          c.args.self.now.rows.entries c.moves.self.rows.entries new m put.0
          (subst (AreLegal geo p) (sym c.as_slice-mv-items.ensures.value) c.in_ok-moves.ensures) c.moves-test.true
          c.mv-item.is reply c.moves.invariant.supported put.2
          (elim put.3 [
            | inl e ↦ inl e
            | inr k ↦ inr (subst (λ w. Knows w (claims w new) put.0 c.args.left) same k)
          ]);
    }

pub returns-clause-supported : goal.returns-clause-supported
returns-clause-supported g c =
    supported_all g.B.Board.geometry c.args.position.now c.as_slice-mv-items.result.now c.moves.mv-index c.args.left
    c.args.self.now.rows.entries c.moves.self.rows.entries
    (subst (AreLegal g.B.Board.geometry c.args.position.now) (sym c.as_slice-mv-items.ensures.value)
    c.in_ok-moves.ensures) (omega (arith, c.moves-test.false)) c.moves.invariant.supported
