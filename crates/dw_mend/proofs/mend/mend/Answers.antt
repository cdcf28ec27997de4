use Rattle.std.proofs.Common.{◌∙◌, ◌-◌, [], ◌++◌, Err, inl, inr, length, map, refl, sym, ap, subst}
use Rattle.std.proofs.lemmas.List.{length-map}
use Rattle.dw_notation.specs.Streams.{Appends}
use Rattle.dw_notation.specs.Writes.{StopsShort}
use Rattle.dw_notation.specs.inner.StreamLemmas.{Appends-nil, Appends-trans}
use Rattle.dw_mend.specs.Mending.{AreBounded, AreMended, IsMendStop}
use Rattle.dw_mend.specs.MendText.{last_line}
use Rattle.dw_mend.specs.Telling.{told_by}
use Rattle.dw_mend.specs.declared.mend.MendFault.TheVariants as because
use Rattle.dw_parts.specs.Parts.{part_of}
use Rattle.dw_mend.proofs.MendLemmas.{part_told, same_fault, short_after, stop_at_end, stop_at_once}
use Rattle.dw_mend.proofs.mend.mend.Goals as goal

pub returns-in_err-all-clause-stopped : goal.returns-in_err-all-clause-stopped
returns-in_err-all-clause-stopped g c = λ stop e. (
  [],
  λ all are. stop_at_once c.args.bounds.wording g.B.Board.geometry c.args.bounds.moves.value c.args.bounds.each _,
  Appends-nil (g.K.Sink.accepted
      c.args.sink.now),
)

pub returns-in_err-some-clause-stopped : goal.returns-in_err-some-clause-stopped
returns-in_err-some-clause-stopped g c = λ stop e. (
  [],
  λ all are. stop_at_once c.args.bounds.wording g.B.Board.geometry c.args.bounds.moves.value c.args.bounds.each _,
  Appends-nil (g.K.Sink.accepted
      c.args.sink.now),
)

pub returns-in_err-mended-clause-stopped : goal.returns-in_err-mended-clause-stopped
returns-in_err-mended-clause-stopped g c = λ stop e.
    let geo = g.B.Board.geometry in
    let n = c.args.bounds.moves.value in
    let i = c.args.bounds.part.number in
    let m = c.args.bounds.part.parts in
    let s = c.in_err-mended.ensures.stopped stop
    (ap (λ z. Err z) (same_fault c.from_residual-in_err-mended.result c.in_err-mended.field-0.0 (because.Stopped stop)
    c.from_residual-in_err-mended.ensures.1 e)) in (
      s.0,
      λ all are. subst (λ z. IsMendStop c.args.bounds.wording geo n c.args.bounds.each z s.0)
          (part_told told_by geo c.args.position.now i m c.in_ok-all.all.items c.as_slice-2.result.now all
          c.in_ok-all.ensures are
          (c.as_slice-2.ensures.value ∙ (c.in_ok-some.ensures ∙ ap (part_of i m) c.as_slice.ensures.value))) s.1,
      s.2,
    )

pub returns-in_err-mended-clause-short : goal.returns-in_err-mended-clause-short
returns-in_err-mended-clause-short g c = λ e.
    let geo = g.B.Board.geometry in
    let n = c.args.bounds.moves.value in
    let i = c.args.bounds.part.number in
    let m = c.args.bounds.part.parts in
    let s = c.in_err-mended.ensures.short
    (ap (λ z. Err z) (same_fault c.from_residual-in_err-mended.result c.in_err-mended.field-0.0 because.Write
    c.from_residual-in_err-mended.ensures.1 e)) in (
      s.0,
      s.1,
      inl (λ all are. subst (λ z. IsMendStop c.args.bounds.wording geo n c.args.bounds.each z s.0)
          (part_told told_by geo c.args.position.now i m c.in_ok-all.all.items c.as_slice-2.result.now all
          c.in_ok-all.ensures are
          (c.as_slice-2.ensures.value ∙ (c.in_ok-some.ensures ∙ ap (part_of i m) c.as_slice.ensures.value))) s.2),
    )

pub returns-in_err-line-clause-stopped : goal.returns-in_err-line-clause-stopped
returns-in_err-line-clause-stopped g c = λ stop e.
    let geo = g.B.Board.geometry in
    let n = c.args.bounds.moves.value in
    let i = c.args.bounds.part.number in
    let m = c.args.bounds.part.parts in
    let t = c.in_ok-mended.ensures.text in (
      t.0,
      λ all are. subst (λ z. IsMendStop c.args.bounds.wording geo n c.args.bounds.each z t.0)
          (part_told told_by geo c.args.position.now i m c.in_ok-all.all.items c.as_slice-2.result.now all
          c.in_ok-all.ensures are
          (c.as_slice-2.ensures.value ∙ (c.in_ok-some.ensures ∙ ap (part_of i m) c.as_slice.ensures.value)))
          (stop_at_end c.args.bounds.wording geo n c.args.bounds.each (map told_by c.as_slice-2.result.now) t.0 _ t.1),
      t.2,
    )

pub returns-clause-text : goal.returns-clause-text
returns-clause-text g c =
    let geo = g.B.Board.geometry in
    let n = c.args.bounds.moves.value in
    let i = c.args.bounds.part.number in
    let m = c.args.bounds.part.parts in
    let items = c.in_ok-all.all.items in
    let some = c.as_slice-2.result.now in
    let counts = c.in_ok-mended.mended in
    let told = part_told told_by geo c.args.position.now i m items some (map told_by items) c.in_ok-all.ensures
    c.in_ok-all.ensures
    (c.as_slice-2.ensures.value ∙ (c.in_ok-some.ensures ∙ ap (part_of i m) c.as_slice.ensures.value)) in
    let t = c.in_ok-mended.ensures.text in
    let line = last_line c.args.bounds.wording counts.all counts.sound counts.undecided in (
      t.0 ++ line,
      record {
        neighbours = map told_by items;
        are = c.in_ok-all.ensures;
        lines = t.0;
        mended = subst (λ solver. AreMended c.args.bounds.wording geo n c.args.bounds.each
            (part_of i m (map told_by items)) t.0 (record {
              sound = counts.sound;
              undecided = counts.undecided;
              expanded = solver.expanded - c.args.solver.now.expanded;
            })) (sym c.make_way.ensures) (subst (λ z. AreMended c.args.bounds.wording geo n c.args.bounds.each z t.0
            (record {
              sound = counts.sound;
              undecided = counts.undecided;
              expanded = c.mend_these.new.solver.expanded - c.args.solver.now.expanded;
            })) told t.1);
        count = c.in_ok-mended.ensures.all ∙ (sym (length-map some told_by) ∙ ap length told);
        is = refl;
      },
      Appends-trans (g.K.Sink.accepted c.args.sink.now) (g.K.Sink.accepted c.mend_these.new.sink)
          (g.K.Sink.accepted c.write_all.new.sink) t.0 line t.2
          (subst (Appends (g.K.Sink.accepted c.mend_these.new.sink) (g.K.Sink.accepted c.write_all.new.sink))
          (c.as_bytes.ensures.value ∙ (c.as_str.ensures.value ∙ c.in_ok-line.ensures))
          c.in_ok-write_all.ensures.ok),
    )

pub returns-in_err-write_all-clause-short : goal.returns-in_err-write_all-clause-short
returns-in_err-write_all-clause-short g c = λ e.
    let geo = g.B.Board.geometry in
    let n = c.args.bounds.moves.value in
    let i = c.args.bounds.part.number in
    let m = c.args.bounds.part.parts in
    let items = c.in_ok-all.all.items in
    let some = c.as_slice-2.result.now in
    let counts = c.in_ok-mended.mended in
    let told = part_told told_by geo c.args.position.now i m items some (map told_by items) c.in_ok-all.ensures
    c.in_ok-all.ensures
    (c.as_slice-2.ensures.value ∙ (c.in_ok-some.ensures ∙ ap (part_of i m) c.as_slice.ensures.value)) in
    let t = c.in_ok-mended.ensures.text in
    let line = last_line c.args.bounds.wording counts.all counts.sound counts.undecided in
    let taken = g.K.Sink.accepted in (
      t.0 ++ line,
      short_after (taken c.args.sink.now) (taken c.mend_these.new.sink) (taken c.write_all.new.sink) t.0 line t.2
          (subst (StopsShort (taken c.mend_these.new.sink) (taken c.write_all.new.sink))
          (c.as_bytes.ensures.value ∙ (c.as_str.ensures.value ∙ c.in_ok-line.ensures))
          c.in_err-write_all.ensures.err),
      inr (
        counts.all,
        counts.sound,
        counts.undecided,
        record {
          neighbours = map told_by items;
          are = c.in_ok-all.ensures;
          lines = t.0;
          mended = subst (λ solver. AreMended c.args.bounds.wording geo n c.args.bounds.each
              (part_of i m (map told_by items)) t.0 (record {
                sound = counts.sound;
                undecided = counts.undecided;
                expanded = solver.expanded - c.args.solver.now.expanded;
              })) (sym c.make_way.ensures) (subst (λ z. AreMended c.args.bounds.wording geo n c.args.bounds.each z t.0
              (record {
                sound = counts.sound;
                undecided = counts.undecided;
                expanded = c.mend_these.new.solver.expanded - c.args.solver.now.expanded;
              })) told t.1);
          count = c.in_ok-mended.ensures.all ∙ (sym (length-map some told_by) ∙ ap length told);
          is = refl;
        },
        subst (λ solver. AreBounded c.args.bounds.each counts.all counts.undecided c.args.solver.now.expanded
            solver.expanded) (sym c.make_way.ensures) c.in_ok-mended.ensures.bounded,
      ),
    )
