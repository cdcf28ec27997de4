use Rattle.std.proofs.Common.{◌≡◌, true, []}
use Rattle.dw_notation.specs.Buffering.{unread_in, met_end_in, EndIsKnown, weight}
use Rattle.dw_notation.specs.Streams.{Supply}
use Rattle.dw_notation.specs.Numbering.{handed_out}
use Rattle.dw_notation.specs.inner.Cutting.{IsStarved, HandsOut, progress_of}
use Rattle.dw_notation.proofs.problems.reader.Problems.next.Given as goal

abbrev pub invariant-pieces : goal.invariant-pieces
invariant-pieces g l =
    let source = g.S.Source in
    let old = l.initial.self.source.now in
    let now = l.self.source.now in
    record {
      lender : l.self.source.ghost_name ≡ l.initial.self.source.ghost_name;
      nothing : HandsOut g.B.Board.geometry (source.supply old) (source.supply now) (progress_of l.initial.self)
          (progress_of l.self) [];
      end : (began : Supply) → EndIsKnown began (source.supply old) (met_end_in l.initial.self.buffer)
          → EndIsKnown began (source.supply now) (met_end_in l.self.buffer);
      handed : handed_out l.self.numbers ≡ handed_out l.initial.self.numbers;
      stays : met_end_in l.initial.self.buffer ≡ true → met_end_in l.self.buffer ≡ true;
      failed : source.is_failed now ≡ source.is_failed old;
      again : source.is_failed old ≡ true → IsStarved (progress_of l.initial.self) → IsStarved (progress_of l.self);
    }

abbrev pub decreases-pieces : goal.decreases-pieces
decreases-pieces g l = weight (g.S.Source.pulls_left l.self.source.now) (unread_in l.self.buffer)
