use Rattle.std.proofs.Common.{arith, ap, ◌∙◌}
use Rattle.dw_notation.specs.Numbering.{handed_out}
use Rattle.dw_notation.specs.inner.Cutting.{progress_of, progress_at}
use Rattle.dw_notation.proofs.CarryLemmas.{CarriesOn-cut, CarriesOn-filled, TakesPiece-cut, not_err, or-not_err}
use Rattle.dw_notation.proofs.problems.reader.Problems.next_piece.Goals as goal

pub returns-then-cut-clause-piece : goal.returns-then-cut-clause-piece
returns-then-cut-clause-piece g c =
    let s = g.S.Source in
    let now = c.reads.self in
    let fill = c.in_ok-fill.ensures in
    let carried = CarriesOn-filled s.supply s.is_failed s.pulls_left _ (progress_of c.args.self.now)
    now.pieces
    (handed_out now.numbers) now.source.now c.fill.new.source now.buffer c.fill.new.self _ c.reads.invariant.carried
    fill.passes fill.need fill.few in
    rw c.cut.ensures.source (TakesPiece-cut _ _ (progress_of c.args.self.now)
    (progress_at c.fill.new.self now.pieces (handed_out now.numbers)) (progress_of c.cut.new.self) carried
    (c.cut.ensures.found c.if-cut.true) c.cut.ensures.met_end)

pub returns-in_err-fill-clause-end : goal.returns-in_err-fill-clause-end
returns-in_err-fill-clause-end g c = λ began known.
    c.fill.ensures.passes.end began (c.reads.invariant.end began known)

pub returns-then-is_empty-clause-end : goal.returns-then-is_empty-clause-end
returns-then-is_empty-clause-end g c = λ began known.
    c.fill.ensures.passes.end began (c.reads.invariant.end began known)

pub returns-then-cut-clause-end : goal.returns-then-cut-clause-end
returns-then-cut-clause-end g c = λ began known.
    let cut = c.cut.ensures in
    rw (cut.source, cut.met_end) (c.fill.ensures.passes.end began (c.reads.invariant.end began known))

pub reads-preserved : goal.reads-preserved
reads-preserved g c =
    let s = g.S.Source in
    let now = c.reads.self in
    let so_far = c.reads.invariant in
    let fill = c.in_ok-fill.ensures in
    let cut = c.cut.ensures in
    let carried = CarriesOn-filled s.supply s.is_failed s.pulls_left _ (progress_of c.args.self.now)
    now.pieces
    (handed_out now.numbers) now.source.now c.fill.new.source now.buffer c.fill.new.self _ so_far.carried fill.passes
    fill.need fill.few in
    let lighter = fill.passes.lighter in
    record {
      lender = ap (λ r. r.ghost_name) cut.source ∙ so_far.lender;
      carried = rw cut.source (CarriesOn-cut _ _ (progress_of c.args.self.now)
          (progress_at c.fill.new.self now.pieces (handed_out now.numbers)) (progress_of c.cut.new.self) carried
          (cut.same c.if-cut.false) cut.met_end);
      numbers = cut.numbers ∙ so_far.numbers;
      stays = λ was. cut.met_end ∙ (fill.passes.stays (so_far.stays was)).1;
      end = λ began known. rw (cut.source, cut.met_end) (fill.passes.end began (so_far.end began known));
      failed = ap (λ r. s.is_failed r.now) cut.source ∙ c.fill.ensures.passes.failed ∙ or-not_err _ c.in_ok-fill.was ∙
          so_far.failed;
      again = λ failed starved.
          let stands = so_far.again failed starved in
          absurd (not_err c.in_ok-fill.was (c.fill.ensures.again (so_far.failed ∙ failed) stands.0 stands.1));
      lighter = rw (cut.source, cut.none c.if-cut.false) (omega (arith, lighter, so_far.lighter));
    }
