use Rattle.std.proofs.Common.{◌≡◌, ◌∙◌, ap, min, length, drop, arith}
use Rattle.std.proofs.lemmas.List.{drop_min}
use Rattle.dw_notation.specs.Buffering.{unread_in}
use Rattle.dw_notation.proofs.CutLemmas.{slice_range-drop, length-slice_range-le}
use Rattle.dw_notation.proofs.streams.buffer.Buffer.consume.Goals as goal

pub returns-clause-unread : goal.returns-clause-unread
returns-clause-unread c =
    let old = c.args.self.now in
    let bound = length-slice_range-le old.bytes old.start old.end in
    let unread = ap length c.unread.ensures in
    let least : c.min.result ≡ min c.args.count (length (unread_in old)) = omega (arith, unread) in
    slice_range-drop old.bytes old.start old.end c.min.result (omega (arith, bound, least, old.ordered))
    ∙ ap (λ n. drop n (unread_in old)) least ∙ drop_min c.args.count (unread_in old)
