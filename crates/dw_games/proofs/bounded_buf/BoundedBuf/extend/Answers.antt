use Rattle.std.proofs.Common.{◌≡◌, ◌-◌, ap, ◌∙◌, length, min, arith}
use Rattle.dw_games.proofs.InputLemmas.{extended, take-extend}
use Rattle.dw_games.proofs.bounded_buf.BoundedBuf.extend.Goals as goal

pub returns : goal.returns
returns c = λ limit text is.
    let old = c.args.self.now in
    let piece = c.args.piece.now in
    let room = ap length is.bytes in
    let count : c.min-count.result ≡ min (length piece) (limit - length old.bytes.items) = omega (arith, is.most) in
    extended c.extend_from_slice.result _ _ _ c.extend_from_slice.ensures.items (λ items. record {
      most = is.most;
      bytes = items ∙ take-extend limit text piece old.bytes.items c.min-count.result is.bytes count;
    })
