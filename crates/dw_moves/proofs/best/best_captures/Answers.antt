use Rattle.std.proofs.Common.{[]}
use Rattle.dw_moves.specs.inner.Walks.{Captures, EndsKept, Held}
use Rattle.dw_moves.proofs.FilledLemmas.{best_of, best_small, ends_legal}
use Rattle.dw_moves.proofs.KeeperLemmas.{ends_alike, ends_bare, held_none, held_same}
use Rattle.dw_moves.proofs.best.best_captures.Goals as goal

pub returns : goal.returns
returns g c =
    let geo = g.B.Board.geometry in
    let p = c.args.position.now in
    let f = c.walk_captures.new.keeper in
    let o = c.in-Ok.ensures.kept in
    let h : Held (Captures geo p) f.pieces (EndsKept (Captures geo p) f.pieces f.ends) = held_same
    (o.held (record { pieces = 0; ends = c.none.result }) [] (held_none (ends_bare c.none.ensures))) o.exactly
    ends_alike in
    let best = best_of geo p f.pieces h.most in
    record {
      pieces = best;
      small = best_small geo g.met.B.Board.numbers p f.pieces c.walk_captures.ensures.position best;
      ends = ends_legal geo p f.pieces f.ends h;
    }
