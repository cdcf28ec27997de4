use Rattle.std.proofs.Common.{◌∙◌, arith, add-zero, ap, refl}
use Rattle.dw_notation.specs.Numbering.{handed_out}
use Rattle.dw_notation.specs.inner.Cutting.{progress_of, progress_at}
use Rattle.dw_notation.specs.inner.Readers.{reader_of}
use Rattle.dw_notation.proofs.HandingLemmas.{NextGives-over, NextGives-err, NextGives-some, NextGives-end}
use Rattle.dw_notation.proofs.HandingLemmas.{HandsOut-blank}
use Rattle.dw_notation.proofs.CarryLemmas.{not_err, or-not_err}
use Rattle.dw_notation.proofs.problems.reader.Problems.next.Goals as goal

pub returns-then-is_over-clause-given : goal.returns-then-is_over-clause-given
unfolding reader_of
returns-then-is_over-clause-given g c = NextGives-over _ _ _ _ (progress_of c.pieces.self) c.pieces.invariant.nothing
    c.if-is_over.ensures

pub returns-in-Err-clause-given : goal.returns-in-Err-clause-given
unfolding reader_of
returns-in-Err-clause-given g c =
    let piece = c.in-Err.ensures.piece in
    let so_far = c.pieces.invariant in
    NextGives-err _ _ _ _ _ (progress_of c.pieces.self) (progress_of c.next_piece.new.self) c.in-Err.fault
    (omega (arith, c.if-is_over.ensures, c.pieces.invariant.handed)) so_far.nothing piece.0 piece.1 (ap handed_out
    c.next_piece.ensures.numbers)

pub returns-in-Some-clause-given : goal.returns-in-Some-clause-given
unfolding reader_of
returns-in-Some-clause-given g c =
    let handed = c.hand_out.ensures in
    let new = progress_at c.next_piece.new.self.buffer c.hand_out.new.self.pieces (handed_out
    c.hand_out.new.self.numbers) in
    rw (handed.source, handed.buffer) (NextGives-some _ _ _ _ _ (progress_of c.pieces.self) (progress_of
    c.next_piece.new.self) new
    c.in-Some.problem c.in-Ok.is_whole (omega (arith, c.if-is_over.ensures, c.pieces.invariant.handed))
    c.pieces.invariant.nothing c.in-Ok.ensures.piece (ap handed_out c.next_piece.ensures.numbers)
    (record { ahead = handed.ahead _; rest = refl; end = refl; given = c.in-Some.ensures.given }))

pub returns-then-not-is_whole-clause-given : goal.returns-then-not-is_whole-clause-given
unfolding reader_of
returns-then-not-is_whole-clause-given g c =
    let handed = c.hand_out.ensures in
    let new = progress_at c.next_piece.new.self.buffer c.hand_out.new.self.pieces (handed_out
    c.hand_out.new.self.numbers) in
    rw (handed.source, handed.buffer) (NextGives-end _ _ _ _ _ (progress_of c.pieces.self) (progress_of
    c.next_piece.new.self) new
    c.in-Ok.is_whole c.if-not-is_whole.true (omega (arith, c.if-is_over.ensures, c.pieces.invariant.handed))
    c.pieces.invariant.nothing c.in-Ok.ensures.piece (ap handed_out c.next_piece.ensures.numbers)
    (record { ahead = handed.ahead _; rest = refl; end = refl; given = c.in_default.ensures.given }))

pub returns-in-Err-clause-end : goal.returns-in-Err-clause-end
unfolding reader_of
returns-in-Err-clause-end g c = λ began known. c.next_piece.ensures.end began (c.pieces.invariant.end began known)

pub returns-in-Some-clause-end : goal.returns-in-Some-clause-end
unfolding reader_of
returns-in-Some-clause-end g c = λ began known.
    let handed = c.hand_out.ensures in
    rw (handed.source, handed.buffer) (c.next_piece.ensures.end began (c.pieces.invariant.end began known))

pub returns-then-not-is_whole-clause-end : goal.returns-then-not-is_whole-clause-end
unfolding reader_of
returns-then-not-is_whole-clause-end g c = λ began known.
    let handed = c.hand_out.ensures in
    rw (handed.source, handed.buffer) (c.next_piece.ensures.end began (c.pieces.invariant.end began known))

pub pieces-preserved : goal.pieces-preserved
pieces-preserved g c =
    let so_far = c.pieces.invariant in
    let handed = c.hand_out.ensures in
    let next = c.in-Ok.ensures in
    let new = progress_at c.next_piece.new.self.buffer c.hand_out.new.self.pieces (handed_out
    c.hand_out.new.self.numbers) in
    let number = ap handed_out next.numbers in
    rw (handed.source, handed.buffer) (record {
      lender = next.lender ∙ so_far.lender;
      nothing = HandsOut-blank _ _ _ _ _ (progress_of c.pieces.self) (progress_of c.next_piece.new.self) new
          c.in-Ok.is_whole
          c.if-not-is_whole.false (omega (arith, c.if-is_over.ensures, so_far.handed)) so_far.nothing next.piece number
          (record { ahead = handed.ahead _; rest = refl; end = refl; given = c.in_default.ensures.given });
      end = λ began known. next.end began (so_far.end began known);
      handed = c.in_default.ensures.handed ∙ add-zero _ ∙ number ∙ so_far.handed;
      stays = λ met. next.stays (so_far.stays met);
      failed = c.next_piece.ensures.failed ∙ or-not_err _ c.in-Ok.is ∙ so_far.failed;
      again = λ failed starved. absurd
          (not_err c.in-Ok.is (c.next_piece.ensures.again (so_far.failed ∙ failed) (so_far.again failed starved)));
    })
