use Rattle.std.proofs.Common.{◌≡◌, ◌∙◌, ◌+◌, ◌-◌, ◌++◌, sym, ap, subst, add-zero, arith, Err}
use Rattle.dw_notation.specs.Streams.{Appends}
use Rattle.dw_notation.specs.inner.StreamLemmas.{Appends-trans}
use Rattle.dw_mend.specs.Telling.{told_by}
use Rattle.dw_mend.specs.declared.mend.MendFault.TheVariants as because
use Rattle.dw_mend.specs.inner.Mending.{IsUndecided}
use Rattle.dw_mend.proofs.MendLemmas.{counted_on, mended_next, adds_sound, adds_unsound, adds_undecided, bounded_more}
use Rattle.dw_mend.proofs.MendLemmas.{all_spent, bounded_open, few_spent, short_after, stop_at, stop_behind}
use Rattle.dw_mend.proofs.MendLemmas.{same_fault}
use Rattle.dw_mend.specs.Mending.{Counts}
use Rattle.dw_mend.proofs.mend.mend_these.Goals as goal
use Rattle.dw_mend.proofs.mend.mend_these.Goals.{in-Sound, in-Unsound, in-Undecided}

pub returns-in_err-write_found-clause-stopped : goal.returns-in_err-write_found-clause-stopped
returns-in_err-write_found-clause-stopped g c = λ stop e.
    let t = c.neighbours.invariant.text in (
      t.0,
      stop_at told_by c.args.bounds.wording g.B.Board.geometry c.args.bounds.moves.value c.args.bounds.each
          c.args.some.now c.neighbours.neighbour-index _ t.0 t.1,
      subst (λ z. Appends (g.K.Sink.accepted c.args.sink.now) z t.0) (sym (c.in_err-write_found.ensures.stopped stop
          (ap (λ z. Err z) (same_fault c.from_residual.result c.in_err-write_found.field-0.0 (because.Stopped stop)
          c.from_residual.ensures.1 e)))) t.2,
    )

pub returns-in_err-write_found-clause-short : goal.returns-in_err-write_found-clause-short
returns-in_err-write_found-clause-short g c = λ e.
    let t = c.neighbours.invariant.text in
    let taken = g.K.Sink.accepted in
    let s = c.in_err-write_found.ensures.short
    (ap (λ z. Err z) (same_fault c.from_residual.result c.in_err-write_found.field-0.0 because.Write
    c.from_residual.ensures.1 e)) in (
      t.0 ++ s.1,
      short_after (taken c.args.sink.now) (taken c.neighbours.sink) (taken c.write_found.new.sink) t.0 s.1 t.2 s.4,
      stop_behind told_by c.args.bounds.wording g.B.Board.geometry c.args.bounds.moves.value c.args.bounds.each
          c.args.some.now c.neighbours.neighbour-index c.neighbour-item.result t.0 s.1 _ s.0 c.neighbours-test.true
          c.neighbour-item.is t.1 s.2 s.3,
    )

pub neighbours-preserved : goal.neighbours-preserved
neighbours-preserved g c =
    let geo = g.B.Board.geometry in
    let n = c.args.bounds.moves.value in
    let t = c.neighbours.invariant.text in
    let new = c.in_ok-write_found.ensures.text in
    let x = c.neighbour-item.result in
    let found = c.in_ok-write_found.field-0 in
    let was = c.neighbours.mended in
    let now = c.match-branch-2.mended in
    let base = c.args.solver.now.expanded in
    let each = c.args.bounds.each in
    let before = c.neighbours.solver.expanded in
    let after = c.write_found.new.solver.expanded in
    let so_far = c.neighbours.invariant.bounded in
    let goes = c.in_ok-write_found.ensures.goes in
    let few = c.neighbours.invariant.few in
    let rises = c.in_ok-write_found.ensures.goes.count.rises in
    let risen = c.neighbours.invariant.count.rises in
    let so_many : Counts = record { sound = was.sound; undecided = was.undecided; expanded = before - base } in
    let spent = few_spent each before after goes.few in
    let more : after - base ≡ (before - base) + (after - before) = omega (arith, rises, risen) in
    record {
      text = (
        t.0 ++ new.0,
        elim c.match-branch-2.branch [
          | in-Sound w ↦ mended_next told_by c.args.bounds.wording geo n each c.args.some.now
              c.neighbours.neighbour-index x t.0 new.0 so_many
              (record { sound = 1; undecided = 0; expanded = after - before }) now.sound now.undecided (after - base)
              c.neighbours-test.true c.neighbour-item.is t.1
              (adds_sound c.args.bounds.wording geo n each (told_by x) found _ new.0 (after - before) spent
              w.in-Sound.is new.1) (ap (λ z. z.sound) w.mended-is)
              (ap (λ z. z.undecided) w.mended-is ∙ sym (add-zero was.undecided)) more
          | in-Unsound w ↦ mended_next told_by c.args.bounds.wording geo n each c.args.some.now
              c.neighbours.neighbour-index x t.0 new.0 so_many
              (record { sound = 0; undecided = 0; expanded = after - before }) now.sound now.undecided (after - base)
              c.neighbours-test.true c.neighbour-item.is t.1
              (adds_unsound c.args.bounds.wording geo n each (told_by x) found new.0 (after - before) spent
              w.in-Unsound.is new.1) (ap (λ z. z.sound) w.mended-is ∙ sym (add-zero was.sound))
              (ap (λ z. z.undecided) w.mended-is ∙ sym (add-zero was.undecided)) more
          | in-Undecided w ↦ mended_next told_by c.args.bounds.wording geo n each c.args.some.now
              c.neighbours.neighbour-index x t.0 new.0 so_many
              (record { sound = 0; undecided = 1; expanded = after - before }) now.sound now.undecided (after - base)
              c.neighbours-test.true c.neighbour-item.is t.1
              (adds_undecided c.args.bounds.wording geo n each (told_by x) found new.0 (after - before) spent
              (all_spent each before after (goes.spent (subst IsUndecided (sym w.in-Undecided.is) tt)))
              w.in-Undecided.is new.1) (ap (λ z. z.sound) w.mended-is ∙ sym (add-zero was.sound))
              (ap (λ z. z.undecided) w.mended-is) more
        ],
        Appends-trans (g.K.Sink.accepted c.args.sink.now) (g.K.Sink.accepted c.neighbours.sink)
            (g.K.Sink.accepted c.write_found.new.sink) t.0 new.0 t.2 new.2,
      );
      all = elim c.match-branch-2.branch [
        | in-Sound w ↦ ap (λ z. z.all) w.mended-is ∙ c.neighbours.invariant.all
        | in-Unsound w ↦ ap (λ z. z.all) w.mended-is ∙ c.neighbours.invariant.all
        | in-Undecided w ↦ ap (λ z. z.all) w.mended-is ∙ c.neighbours.invariant.all
      ];
      few = elim c.match-branch-2.branch [
        | in-Sound w ↦ let s = ap (λ z. z.sound) w.mended-is in let u = ap (λ z. z.undecided) w.mended-is in omega
            (arith, few, s, u)
        | in-Unsound w ↦ let s = ap (λ z. z.sound) w.mended-is in let u = ap (λ z. z.undecided) w.mended-is in omega
            (arith, few, s, u)
        | in-Undecided w ↦ let s = ap (λ z. z.sound) w.mended-is in let u = ap (λ z. z.undecided) w.mended-is in omega
            (arith, few, s, u)
      ];
      bounded = elim c.match-branch-2.branch [
        | in-Sound w ↦ bounded_more each c.neighbours.neighbour-index was.undecided now.undecided base before after
            (ap (λ z. z.undecided) w.mended-is) rises goes.few so_far
        | in-Unsound w ↦ bounded_more each c.neighbours.neighbour-index was.undecided now.undecided base before after
            (ap (λ z. z.undecided) w.mended-is) rises goes.few so_far
        | in-Undecided w ↦ bounded_open each c.neighbours.neighbour-index was.undecided now.undecided base before after
            (ap (λ z. z.undecided) w.mended-is) (goes.spent (subst IsUndecided (sym w.in-Undecided.is) tt)) so_far
      ];
      count = counted_on _ _ _ _ _ _ c.neighbours.invariant.count c.in_ok-write_found.ensures.goes.count;
      right = c.in_ok-write_found.ensures.right;
      map = c.in_ok-write_found.ensures.map;
      works = c.in_ok-write_found.ensures.sink;
    }
