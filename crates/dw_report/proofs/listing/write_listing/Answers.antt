use Rattle.std.proofs.Common.{◌≡◌, ◌∙◌, ◌+◌, ◌-◌, ◌≤◌, ◌%◌, refl, sym, ap, subst, length, arith, lit<, Err, List}
use Rattle.std.proofs.lemmas.Result.{err_from_is_err_and}
use Rattle.dw_moves.specs.Moves.{Move}
use Rattle.dw_notation.specs.Streams.{Appends}
use Rattle.dw_notation.specs.Writes.{StopsShort}
use Rattle.dw_list.specs.Listing.{stack_of, solver_of}
use Rattle.dw_report.specs.ListedText.{IsListing, more_after}
use Rattle.dw_report.specs.inner.Rows.{HasLines, SomeRows, TakesRows}
use Rattle.dw_report.specs.Running.{AreLinesOf}
use Rattle.dw_report.proofs.LineRowLemmas.{line_odd, lines_text, lines_left, no_rows, last_line, line_next, none_next}
use Rattle.dw_report.proofs.LineRowLemmas.{rows_stop, rows_stop_later, rows_short, page_written, nothing_written}
use Rattle.dw_report.proofs.LineRowLemmas.{complete_written, complete_short, more_written, more_short, text_of_none}
use Rattle.dw_report.proofs.LineRowLemmas.{some_taken}
use Rattle.dw_report.proofs.WritingLemmas.{at_stop, at_sink}
use Rattle.dw_report.proofs.listing.write_listing.Goals as goal

pub pages-init : goal.pages-init
pages-init g c = record {
  lender = refl;
  rows = no_rows c.lines_in_turn.ensures g.B.Board.geometry c.args.position.now (stack_of c.args.lister.now)
      (g.K.Sink.accepted c.args.sink.now);
  start = c.new-page.ensures.start;
  ends = λ some. absurd (omega (arith, some));
  few = omega arith;
  sink = refl;
  rises = omega arith;
  limit = refl;
}

pub fill_page-taken-requires : goal.fill_page-taken-requires
fill_page-taken-requires g c =
    let geo = g.B.Board.geometry in
    let inv = c.pages.invariant in
    let left = lines_left geo c.args.position.now (stack_of c.args.lister.now) (stack_of c.pages.lister)
    c.pages.written inv.rows.texts inv.rows.rows c.requires.ahead in (
      lit< tt,
      (
        lit< tt,
        (
          omega (arith, c.pages-test.true),
          subst (λ z. HasLines geo z (stack_of c.pages.lister))
              (sym inv.start) left,
        ),
      ),
    )

pub returns-in_err-write_all-clause-text : goal.returns-in_err-write_all-clause-text
returns-in_err-write_all-clause-text g c =
    let geo = g.B.Board.geometry in
    let p = c.args.position.now in
    let most = c.args.most in
    let start = stack_of c.args.lister.now in
    let inv = c.pages.invariant in
    let why = err_from_is_err_and c.from_residual.result c.from_residual.ensures.1 in
    let bytes = c.as_bytes.ensures.value ∙ c.as_str.ensures.value in
    let page = subst (λ z. SomeRows geo z (stack_of c.pages.lister) (most - c.pages.written)
    c.fill_page-taken.new.page.rows.bytes) inv.start c.fill_page-taken.ensures.rows in
    λ lines all. at_sink (IsListing geo p most lines) (AreLinesOf (IsListing geo p most lines)) _ _
    c.from_residual.result (why.1 ∙ ap Err why.2)
    (rows_short geo p most c.requires.some start lines all (lines_text c.lines_have_texts.ensures geo
    g.met.B.Board.numbers start p lines c.requires.ahead.position all) c.lines_in_turn.ensures
    (stack_of c.pages.lister) page.now c.pages.written page.count _ _ _ _ inv.rows page.rows
    (omega (arith, page.few, c.pages-test.true)) (subst (StopsShort _ _) bytes c.in_err-write_all.ensures.err))

pub returns-in_err-count-clause-text : goal.returns-in_err-count-clause-text
returns-in_err-count-clause-text g c =
    let geo = g.B.Board.geometry in
    let p = c.args.position.now in
    let most = c.args.most in
    let start = stack_of c.args.lister.now in
    let inv = c.pages.invariant in
    let why = err_from_is_err_and c.from_residual-in_err-count.result c.from_residual-in_err-count.ensures.1 in
    let bytes = c.as_bytes.ensures.value ∙ c.as_str.ensures.value in
    let page = subst (λ z. SomeRows geo z (stack_of c.pages.lister) (most - c.pages.written)
    c.fill_page-taken.new.page.rows.bytes) inv.start c.fill_page-taken.ensures.rows in
    λ lines all. at_stop (IsListing geo p most lines) (AreLinesOf (IsListing geo p most lines)) _ _
    c.from_residual-in_err-count.result c.in_err-count.field-0.0 (why.1 ∙ ap Err why.2)
    (rows_stop_later geo p most c.requires.some start lines all (lines_text c.lines_have_texts.ensures geo
    g.met.B.Board.numbers start p lines c.requires.ahead.position all) c.lines_in_turn.ensures
    (stack_of c.pages.lister) page.now c.pages.written page.count _ _ _ _ inv.rows page.rows
    (omega (arith, page.few, c.pages-test.true)) (subst (Appends _ _) bytes c.in_ok-write_all.ensures.ok))

pub returns-in_err-write_all-2-clause-text : goal.returns-in_err-write_all-2-clause-text
returns-in_err-write_all-2-clause-text g c =
    let geo = g.B.Board.geometry in
    let p = c.args.position.now in
    let most = c.args.most in
    let start = stack_of c.args.lister.now in
    let inv = c.pages.invariant in
    let why = err_from_is_err_and c.from_residual-in_err-write_all-2.result
    c.from_residual-in_err-write_all-2.ensures.1 in
    let bytes = c.as_bytes.ensures.value ∙ c.as_str.ensures.value in
    let row = c.as_bytes-then-count-eq0.ensures.value ∙ (c.as_str-then-count-eq0.ensures.value
    ∙ c.complete_row.ensures) in
    let page = c.in_ok-count.ensures.taken in
    let empty = text_of_none geo c.pages.page.text.start (stack_of c.pages.lister)
    (stack_of c.fill_page-taken.new.lister) c.in_ok-count.count _ page.rows c.if-count-eq0.true in
    λ lines all. at_sink (IsListing geo p most lines) (AreLinesOf (IsListing geo p most lines)) _ _
    c.from_residual-in_err-write_all-2.result (why.1 ∙ ap Err why.2)
    (complete_short geo p most c.requires.some start lines all (lines_text c.lines_have_texts.ensures geo
    g.met.B.Board.numbers start p lines c.requires.ahead.position all) (stack_of c.pages.lister)
    (stack_of c.fill_page-taken.new.lister) c.pages.written _ _ _
    (nothing_written geo p start (stack_of c.pages.lister) c.pages.written _ _ _ _ inv.rows empty
    (subst (Appends _ _) bytes c.in_ok-write_all.ensures.ok)) (page.none c.if-count-eq0.true) inv.few
    (subst (StopsShort _ _) row c.in_err-write_all-2.ensures.err))

pub returns-then-count-eq0-clause-text : goal.returns-then-count-eq0-clause-text
returns-then-count-eq0-clause-text g c =
    let geo = g.B.Board.geometry in
    let p = c.args.position.now in
    let most = c.args.most in
    let start = stack_of c.args.lister.now in
    let inv = c.pages.invariant in
    let bytes = c.as_bytes.ensures.value ∙ c.as_str.ensures.value in
    let row = c.as_bytes-then-count-eq0.ensures.value ∙ (c.as_str-then-count-eq0.ensures.value
    ∙ c.complete_row.ensures) in
    let page = c.in_ok-count.ensures.taken in
    let empty = text_of_none geo c.pages.page.text.start (stack_of c.pages.lister)
    (stack_of c.fill_page-taken.new.lister) c.in_ok-count.count _ page.rows c.if-count-eq0.true in
    λ lines all. complete_written geo p most c.requires.some start lines all
    (lines_text c.lines_have_texts.ensures geo g.met.B.Board.numbers start p lines c.requires.ahead.position all)
    (stack_of c.pages.lister) (stack_of c.fill_page-taken.new.lister) c.pages.written _ _ _
    (nothing_written geo p start (stack_of c.pages.lister) c.pages.written _ _ _ _ inv.rows empty
    (subst (Appends _ _) bytes c.in_ok-write_all.ensures.ok)) (page.none c.if-count-eq0.true) inv.few
    (subst (Appends _ _) row c.in_ok-write_all-2.ensures.ok)

pub pages-preserved : goal.pages-preserved
pages-preserved g c =
    let geo = g.B.Board.geometry in
    let p = c.args.position.now in
    let inv = c.pages.invariant in
    let fill = c.fill_page-taken.ensures in
    let bytes = c.as_bytes.ensures.value ∙ c.as_str.ensures.value in
    let page = subst (λ z. TakesRows geo z (stack_of c.pages.lister) (stack_of c.fill_page-taken.new.lister)
    (c.args.most - c.pages.written) c.in_ok-count.count c.fill_page-taken.new.page.last.items
    c.fill_page-taken.new.page.rows.bytes) inv.start c.in_ok-count.ensures.taken in
    let more = page_written c.lines_in_turn.ensures geo p (stack_of c.args.lister.now) (stack_of c.pages.lister)
    (stack_of c.fill_page-taken.new.lister) (c.args.most - c.pages.written) c.pages.written c.in_ok-count.count _ _ _ _
    c.fill_page-taken.new.page.last.items inv.rows page (omega (arith, c.if-count-eq0.false))
    (subst (Appends _ _) bytes c.in_ok-write_all.ensures.ok) in
    record {
      lender = fill.lender ∙ inv.lender;
      rows = more.0;
      start = fill.start ∙ inv.start;
      ends = λ some. more.1;
      few = omega (arith, page.few, c.pages-test.true);
      sink = c.in_ok-write_all.ensures.kept ∙ inv.sink;
      rises = omega (arith, fill.count.rises, inv.rises);
      limit = fill.count.same ∙ inv.limit;
    }

pub returns-in_err-has_more-clause-text : goal.returns-in_err-has_more-clause-text
returns-in_err-has_more-clause-text g c =
    let geo = g.B.Board.geometry in
    let p = c.args.position.now in
    let most = c.args.most in
    let start = stack_of c.args.lister.now in
    let why = err_from_is_err_and c.from_residual-in_err-has_more.result c.from_residual-in_err-has_more.ensures.1 in
    λ lines all. at_stop (IsListing geo p most lines) (AreLinesOf (IsListing geo p most lines)) _ _
    c.from_residual-in_err-has_more.result c.in_err-has_more.field-0.0 (why.1 ∙ ap Err why.2)
    (rows_stop geo p most c.requires.some start lines all (lines_text c.lines_have_texts.ensures geo
    g.met.B.Board.numbers start p lines c.requires.ahead.position all) (stack_of c.pages.lister) c.pages.written _ _
    c.pages.invariant.rows c.pages.invariant.few)

pub write_more-requires-clause-odd : goal.write_more-requires-clause-odd
write_more-requires-clause-odd g c =
    let geo = g.B.Board.geometry in
    let p = c.args.position.now in
    let start = stack_of c.args.lister.now in
    let inv = c.pages.invariant in
    let some : 1 ≤ c.pages.written = omega (arith, c.requires.some, c.pages-test.false) in
    let line = last_line geo p start (stack_of c.pages.lister) c.pages.written inv.rows.texts c.pages.page.last.items
    inv.rows.rows (inv.ends some) c.requires.ahead.lines c.requires.ahead.to_come in
    subst (λ (z : List Move). length z % 2 ≡ 1) (sym c.as_slice.ensures.value) (line_odd geo start.position start.moves
    c.pages.page.last.items line)

pub returns-in_err-write_more-clause-text : goal.returns-in_err-write_more-clause-text
returns-in_err-write_more-clause-text g c =
    let geo = g.B.Board.geometry in
    let p = c.args.position.now in
    let most = c.args.most in
    let start = stack_of c.args.lister.now in
    let inv = c.pages.invariant in
    let why = err_from_is_err_and c.from_residual-in_err-write_more.result
    c.from_residual-in_err-write_more.ensures.1 in
    let first = line_next geo c.in_ok-has_more.field-0 (stack_of c.pages.lister) (stack_of c.has_more.new.lister)
    c.in_ok-has_more.ensures.next c.if-branch.true in
    let full : c.pages.written ≡ most = omega (arith, inv.few, c.pages-test.false) in
    let some : 1 ≤ c.pages.written = omega (arith, c.requires.some, c.pages-test.false) in
    λ lines all. at_sink (IsListing geo p most lines) (AreLinesOf (IsListing geo p most lines)) _ _
    c.from_residual-in_err-write_more.result (why.1 ∙ ap Err why.2)
    (more_short geo p most c.requires.some start lines all (lines_text c.lines_have_texts.ensures geo
    g.met.B.Board.numbers start p lines c.requires.ahead.position all) (stack_of c.pages.lister)
    (stack_of c.has_more.new.lister) c.pages.written _ _ _ c.pages.page.last.items inv.rows (inv.ends some) first full
    (subst (λ z. StopsShort (g.K.Sink.accepted c.pages.sink) (g.K.Sink.accepted c.write_more.new.sink)
    (more_after geo z)) c.as_slice.ensures.value c.in_err-write_more.ensures.err))

pub returns-in_err-write_all-3-clause-text : goal.returns-in_err-write_all-3-clause-text
returns-in_err-write_all-3-clause-text g c =
    let geo = g.B.Board.geometry in
    let p = c.args.position.now in
    let most = c.args.most in
    let start = stack_of c.args.lister.now in
    let why = err_from_is_err_and c.from_residual-in_err-write_all-3.result
    c.from_residual-in_err-write_all-3.ensures.1 in
    let none = none_next geo c.in_ok-has_more.field-0 (stack_of c.pages.lister) (stack_of c.has_more.new.lister)
    c.in_ok-has_more.ensures.next c.if-branch.false in
    let row = c.as_bytes-else-branch.ensures.value ∙ (c.as_str-else-branch.ensures.value
    ∙ c.complete_row-else-branch.ensures) in
    λ lines all. at_sink (IsListing geo p most lines) (AreLinesOf (IsListing geo p most lines)) _ _
    c.from_residual-in_err-write_all-3.result (why.1 ∙ ap Err why.2)
    (complete_short geo p most c.requires.some start lines all (lines_text c.lines_have_texts.ensures geo
    g.met.B.Board.numbers start p lines c.requires.ahead.position all) (stack_of c.pages.lister)
    (stack_of c.has_more.new.lister) c.pages.written _ _ _ c.pages.invariant.rows none c.pages.invariant.few
    (subst (StopsShort _ _) row c.in_err-write_all-3.ensures.err))

pub returns-in_ok-write_more-clause-text : goal.returns-in_ok-write_more-clause-text
returns-in_ok-write_more-clause-text g c =
    let geo = g.B.Board.geometry in
    let p = c.args.position.now in
    let most = c.args.most in
    let start = stack_of c.args.lister.now in
    let inv = c.pages.invariant in
    let first = line_next geo c.in_ok-has_more.field-0 (stack_of c.pages.lister) (stack_of c.has_more.new.lister)
    c.in_ok-has_more.ensures.next c.if-branch.true in
    let full : c.pages.written ≡ most = omega (arith, inv.few, c.pages-test.false) in
    let some : 1 ≤ c.pages.written = omega (arith, c.requires.some, c.pages-test.false) in
    λ lines all. more_written geo p most c.requires.some start lines all (lines_text c.lines_have_texts.ensures geo
    g.met.B.Board.numbers start p lines c.requires.ahead.position all) (stack_of c.pages.lister)
    (stack_of c.has_more.new.lister) c.pages.written _ _ _ c.pages.page.last.items inv.rows (inv.ends some) first full
    (subst (λ z. Appends (g.K.Sink.accepted c.pages.sink) (g.K.Sink.accepted c.write_more.new.sink) (more_after geo z))
    c.as_slice.ensures.value c.in_ok-write_more.ensures.ok)

pub returns-in_ok-write_all-3-clause-text : goal.returns-in_ok-write_all-3-clause-text
returns-in_ok-write_all-3-clause-text g c =
    let geo = g.B.Board.geometry in
    let p = c.args.position.now in
    let most = c.args.most in
    let start = stack_of c.args.lister.now in
    let none = none_next geo c.in_ok-has_more.field-0 (stack_of c.pages.lister) (stack_of c.has_more.new.lister)
    c.in_ok-has_more.ensures.next c.if-branch.false in
    let row = c.as_bytes-else-branch.ensures.value ∙ (c.as_str-else-branch.ensures.value
    ∙ c.complete_row-else-branch.ensures) in
    λ lines all. complete_written geo p most c.requires.some start lines all
    (lines_text c.lines_have_texts.ensures geo g.met.B.Board.numbers start p lines c.requires.ahead.position all)
    (stack_of c.pages.lister) (stack_of c.has_more.new.lister) c.pages.written _ _ _ c.pages.invariant.rows none
    c.pages.invariant.few (subst (Appends _ _) row c.in_ok-write_all-3.ensures.ok)
