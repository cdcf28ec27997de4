use Rattle.std.proofs.Common.{◌≡◌, ◌∙◌, ◌+◌, ◌≤◌, ◌<◌, refl, sym, ap, subst, length, reverse, arith, lit<, List}
use Rattle.dw_moves.specs.Moves.{Move}
use Rattle.dw_notation.specs.Text.{ArePlayable}
use Rattle.dw_list.specs.Listing.{stack_of, solver_of}
use Rattle.dw_report.specs.inner.Rows.{IsRow, EndsWith}
use Rattle.dw_report.proofs.JudgedTextLemmas.{line_playable}
use Rattle.dw_report.proofs.LineRowLemmas.{line_next, line_walk, none_next, row_taken, takes_last, takes_stopped}
use Rattle.dw_report.proofs.LineRowLemmas.{takes_full, text_of_none, some_taken}
use Rattle.dw_report.proofs.listing.fill_page.Goals as goal

pub returns-in-Ok-false-clause-taken : goal.returns-in-Ok-false-clause-taken
returns-in-Ok-false-clause-taken g c =
    let geo = g.B.Board.geometry in
    let inv = c.rows.invariant in
    let none = none_next geo c.in-Ok-false.field-0 (stack_of c.rows.lister) (stack_of c.take_line_until.new.lister)
    c.in-Ok-false.ensures.next c.in-Ok-false.field-0-test in
    let same = ap (λ z. z.items) (c.in-Ok-false.ensures.none c.in-Ok-false.field-0-test) in
    takes_last c.lines_in_turn.ensures geo c.args.page.now.text.start (stack_of c.args.lister.now)
    (stack_of c.rows.lister) (stack_of c.take_line_until.new.lister) c.args.room c.rows.taken
    c.take_line_until.new.line.items c.rows.page.rows.bytes inv.rows
    (λ some. subst (EndsWith inv.rows.given) (sym same) (inv.ends some)) inv.few none

pub returns-else-taken-eq0-clause-taken : goal.returns-else-taken-eq0-clause-taken
returns-else-taken-eq0-clause-taken g c =
    let inv = c.rows.invariant in
    let same = ap (λ z. z.items) c.in-Err.ensures.kept in
    takes_stopped c.lines_in_turn.ensures g.B.Board.geometry c.args.page.now.text.start (stack_of c.args.lister.now)
    (stack_of c.rows.lister) (stack_of c.take_line_until.new.lister) c.args.room c.rows.taken
    c.take_line_until.new.line.items c.rows.page.rows.bytes inv.rows
    (λ some. subst (EndsWith inv.rows.given) (sym same) (inv.ends some)) inv.few
    (omega (arith, c.if-taken-eq0.false)) c.in-Err.ensures.same

pub push_row-requires : goal.push_row-requires
push_row-requires g c =
    let geo = g.B.Board.geometry in
    let p = c.args.page.now.text.start in
    let start = stack_of c.args.lister.now in
    let inv = c.rows.invariant in
    let first = line_next geo c.in-Ok-true.field-0 (stack_of c.rows.lister) (stack_of c.take_line_until.new.lister)
    c.in-Ok-true.ensures.next c.in-Ok-true.field-0-test in
    let line = line_walk geo p start (stack_of c.rows.lister) (stack_of c.take_line_until.new.lister) c.rows.taken
    c.rows.page.rows.bytes inv.rows first c.requires.ahead.lines c.requires.ahead.to_come in
    let playable = subst (λ z. ArePlayable geo z (reverse (stack_of c.take_line_until.new.lister).line))
    c.requires.ahead.position
    (line_playable geo start.position start.moves (reverse (stack_of c.take_line_until.new.lister).line) line) in
    let copy = c.as_slice.ensures.value ∙ c.in-Ok-true.ensures.line c.in-Ok-true.field-0-test in
    let legal = subst (λ z. ArePlayable geo z c.as_slice.result.now) (sym inv.start)
    (subst (ArePlayable geo p) (sym copy) playable) in (
      lit< tt,
      (
        c.as_slice.ensures.fits,
        (
          legal,
          omega (
            arith,
            c.remaining_capacity.ensures,
            c.if-remaining_capacity-ge-ROW_ROOM.true,
          ),
        ),
      ),
    )

pub rows-preserved : goal.rows-preserved
rows-preserved g c =
    let geo = g.B.Board.geometry in
    let p = c.args.page.now.text.start in
    let inv = c.rows.invariant in
    let took = c.take_line_until.ensures in
    let first = line_next geo c.in-Ok-true.field-0 (stack_of c.rows.lister) (stack_of c.take_line_until.new.lister)
    c.in-Ok-true.ensures.next c.in-Ok-true.field-0-test in
    let row = c.in_ok-push_row.ensures.row in
    let here = subst (λ z. IsRow geo p z row.0) c.as_slice.ensures.value
    (subst (λ z. IsRow geo z c.as_slice.result.now row.0) inv.start row.1) in
    let more = row_taken c.lines_in_turn.ensures geo p (stack_of c.args.lister.now) (stack_of c.rows.lister)
    (stack_of c.take_line_until.new.lister) c.rows.taken c.rows.page.rows.bytes row.0 c.push_row.new.rows.bytes
    c.take_line_until.new.line.items inv.rows first here (c.in-Ok-true.ensures.line c.in-Ok-true.field-0-test) row.2 in
    record {
      lender = took.lender ∙ inv.lender;
      start = c.push_row.ensures.start ∙ inv.start;
      rows = more.0;
      ends = λ some. more.1;
      few = omega (arith, c.rows-test.true);
      rises = omega (arith, took.count.rises, inv.rises);
      limit = took.count.same ∙ inv.limit;
      bound = omega (arith, took.count.within, took.count.same);
      within = omega (arith, c.bound_after-until.ensures.within, c.expanded.ensures);
      some = λ low. c.bound_after-until.ensures.some (solver_of c.take_line_until.new.lister).limit
          (λ less. inv.some (subst (λ z. c.rows.until < z) took.count.same less)) low;
      first = λ none. absurd (omega (arith, none));
    }

pub returns-else-remaining_capacity-ge-ROW_ROOM-clause-taken :
    goal.returns-else-remaining_capacity-ge-ROW_ROOM-clause-taken
returns-else-remaining_capacity-ge-ROW_ROOM-clause-taken g c =
    let geo = g.B.Board.geometry in
    let inv = c.rows.invariant in
    takes_full geo c.args.page.now.text.start (stack_of c.args.lister.now) (stack_of c.rows.lister) c.args.room
    c.rows.taken c.rows.page.last.items c.rows.page.rows.bytes inv.rows inv.ends inv.few
    (some_taken c.rows.taken (λ none.
    let empty = ap length (text_of_none geo c.args.page.now.text.start (stack_of c.args.lister.now)
    (stack_of c.rows.lister) c.rows.taken c.rows.page.rows.bytes inv.rows none) in
    omega (arith, c.remaining_capacity.ensures, c.if-remaining_capacity-ge-ROW_ROOM.false, empty)))

pub returns-after-rows-clause-taken : goal.returns-after-rows-clause-taken
returns-after-rows-clause-taken g c =
    let inv = c.rows.invariant in
    takes_full g.B.Board.geometry c.args.page.now.text.start (stack_of c.args.lister.now) (stack_of c.rows.lister)
    c.args.room c.rows.taken c.rows.page.last.items c.rows.page.rows.bytes inv.rows inv.ends inv.few
    (omega (arith, c.rows-test.false, c.requires.some))
