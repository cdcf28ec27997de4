use Rattle.std.proofs.Common.{◌<◌, [], take, drop, arith, sym, ◌∙◌, subst, append-nil, length-drop}
use Rattle.std.proofs.Math.Seq.{take-add}
use Rattle.std.proofs.lemmas.List.{take_rest, take-append-drop}
use Rattle.dw_notation.specs.Streams.{Appends}
use Rattle.dw_notation.specs.inner.StreamLemmas.{Appends-trans, Appends-kept}
use Rattle.dw_notation.proofs.writes.write_all.Goals as goal

pub pieces-preserved : goal.pieces-preserved
pieces-preserved g c =
    let so_far = c.pieces.invariant in
    let bytes = rw take_rest at c.in-Some.ensures.bytes in
    let some : 0 < c.in-Some.count = omega (arith, c.in-Some.count-test.1) in
    record {
      inside = omega (arith, bytes.0, length-drop c.pieces.at c.args.piece.now);
      taken = subst (Appends _ _) (sym (take-add c.pieces.at c.in-Some.count c.args.piece.now))
          (Appends-trans _ _ _ _ _ so_far.taken bytes.1);
      failed = c.in-Some.ensures.failed.0 some ∙ so_far.failed;
    }

pub returns-in-None-clause-err : goal.returns-in-None-clause-err
returns-in-None-clause-err g c = record {
  out = take c.pieces.at c.args.piece.now;
  taken = Appends-kept _ _ _ _ c.pieces.invariant.taken c.in-None.ensures.bytes;
  front = record { back = drop c.pieces.at c.args.piece.now; joined = take-append-drop _ _ };
}

pub returns-in-Some-eq0-clause-err : goal.returns-in-Some-eq0-clause-err
returns-in-Some-eq0-clause-err g c = record {
  out = take c.pieces.at c.args.piece.now;
  taken = subst (Appends _ _) (append-nil _) (Appends-trans _ _ _ _ [] c.pieces.invariant.taken
      (rw c.in-Some-eq0.field-0-test at c.in-Some-eq0.ensures.bytes.1));
  front = record { back = drop c.pieces.at c.args.piece.now; joined = take-append-drop _ _ };
}
