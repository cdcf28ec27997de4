use Rattle.std.proofs.Common.{arith, sym, ◌∙◌}
use Rattle.std.proofs.lemmas.Bool.{true≢false}
use Rattle.dw_solve.specs.inner.QuestionLemmas.{asked_none, asked_wider, asked_ok, asked_stop, asked_memory, asked_for}
use Rattle.dw_list.proofs.StepLemmas.{candidate_few}
use Rattle.dw_list.proofs.FollowLemmas.{follow_barred, follow_moves, follow_lost}
use Rattle.dw_list.proofs.line_walk.descend.Goals as goal

pub returns-in_default-clause-barred : goal.returns-in_default-clause-barred
returns-in_default-clause-barred g c _ on =
    follow_barred g.B.Board.geometry c.args.stack.now c.list.new.self c.in_ok-list.field-0
    c.in_ok-list.ensures.listed c.args.mv.now c.in_default.ensures.none on

pub keeps-requires : goal.keeps-requires
keeps-requires g c =
    let few = candidate_few g.B.Board.geometry c.seek.new.stack c.keeps_its_levels.ensures.levels
    c.keeps_its_levels.ensures.fits c.in-Some.candidate c.in-Some.ensures.found.0 in
    omega (arith, few, c.keeps_its_levels.ensures.few)

pub returns-in_err-kept-clause-asked : goal.returns-in_err-kept-clause-asked
returns-in_err-kept-clause-asked g c =
    let geo = g.B.Board.geometry in
    let few = candidate_few geo c.seek.new.stack c.keeps_its_levels.ensures.levels c.keeps_its_levels.ensures.fits
    c.in-Some.candidate c.in-Some.ensures.found.0 in
    let same = follow_moves geo c.args.stack.now c.list.new.self c.in_ok-list.field-0
    c.in_ok-list.ensures.listed c.seek.new.stack c.in-Some.ensures.passed in
    asked_for geo g.M.Memo.content g.M.Memo.dropped _ c.args.stack.now.moves _ _ _ same
    (asked_wider geo g.M.Memo.content g.M.Memo.dropped c.searches_add_up.ensures c.in-Some.candidate.left
    c.seek.new.stack.moves _ _ _ few
    (asked_stop geo g.M.Memo.content g.M.Memo.dropped c.in-Some.candidate.left _ _ c.in_err-kept.field-0.0 _
    c.from_residual-in_err-kept.ensures.1 c.in_err-kept.ensures.asked))

pub returns-then-kept-clause-asked : goal.returns-then-kept-clause-asked
returns-then-kept-clause-asked g c =
    let geo = g.B.Board.geometry in
    let few = candidate_few geo c.seek.new.stack c.keeps_its_levels.ensures.levels c.keeps_its_levels.ensures.fits
    c.in-Some.candidate c.in-Some.ensures.found.0 in
    let same = follow_moves geo c.args.stack.now c.list.new.self c.in_ok-list.field-0
    c.in_ok-list.ensures.listed c.seek.new.stack c.in-Some.ensures.passed in
    asked_for geo g.M.Memo.content g.M.Memo.dropped _ c.args.stack.now.moves _ _ _ same
    (asked_wider geo g.M.Memo.content g.M.Memo.dropped c.searches_add_up.ensures c.in-Some.candidate.left
    c.seek.new.stack.moves _ _ _ few c.in_ok-kept.ensures.asked)

pub returns-else-kept-clause-barred : goal.returns-else-kept-clause-barred
returns-else-kept-clause-barred g c _ on =
    follow_lost g.B.Board.geometry c.args.stack.now c.list.new.self c.in_ok-list.field-0
    c.in_ok-list.ensures.listed c.seek.new.stack c.in-Some.candidate c.args.mv.now c.in-Some.ensures.passed
    c.in-Some.ensures.found.0 c.in-Some.ensures.found.1 (λ keeps. let yes = c.in_ok-kept.ensures.answer.1 keeps in
    let not_so = c.if-kept.false in cc) on

pub returns-else-kept-clause-asked : goal.returns-else-kept-clause-asked
returns-else-kept-clause-asked g c =
    let geo = g.B.Board.geometry in
    let few = candidate_few geo c.seek.new.stack c.keeps_its_levels.ensures.levels c.keeps_its_levels.ensures.fits
    c.in-Some.candidate c.in-Some.ensures.found.0 in
    let same = follow_moves geo c.args.stack.now c.list.new.self c.in_ok-list.field-0
    c.in_ok-list.ensures.listed c.seek.new.stack c.in-Some.ensures.passed in
    asked_for geo g.M.Memo.content g.M.Memo.dropped _ c.args.stack.now.moves _ _ _ same
    (asked_wider geo g.M.Memo.content g.M.Memo.dropped c.searches_add_up.ensures c.in-Some.candidate.left
    c.seek.new.stack.moves _ _ _ few c.in_ok-kept.ensures.asked)

pub returns-in_default-clause-asked : goal.returns-in_default-clause-asked
returns-in_default-clause-asked g c =
    let geo = g.B.Board.geometry in
    let n = c.args.stack.now.moves in
    asked_ok geo g.M.Memo.content g.M.Memo.dropped n _ _ 0 _
    (asked_none geo g.M.Memo.content g.M.Memo.dropped c.searches_add_up.ensures n _ c.keeps_its_limit.ensures)

pub returns-in_err-list-clause-asked : goal.returns-in_err-list-clause-asked
returns-in_err-list-clause-asked g c =
    let geo = g.B.Board.geometry in
    let n = c.args.stack.now.moves in
    asked_memory geo g.M.Memo.content g.M.Memo.dropped n _ _ _ c.from_residual.ensures.1
    (asked_none geo g.M.Memo.content g.M.Memo.dropped c.searches_add_up.ensures n _ c.keeps_its_limit.ensures)

pub returns-else-kept-clause-went : goal.returns-else-kept-clause-went
returns-else-kept-clause-went g c kept = absurd (true≢false (sym kept ∙ c.if-kept.false))

pub returns-else-kept-clause-next : goal.returns-else-kept-clause-next
returns-else-kept-clause-next g c kept = absurd (true≢false (sym kept ∙ c.if-kept.false))

pub returns-then-kept-clause-barred : goal.returns-then-kept-clause-barred
returns-then-kept-clause-barred g c barred on = barred c.if-kept.true

pub returns-in_default-clause-went : goal.returns-in_default-clause-went
returns-in_default-clause-went g c kept = absurd (true≢false (sym kept))

pub returns-in_default-clause-next : goal.returns-in_default-clause-next
returns-in_default-clause-next g c kept = absurd (true≢false (sym kept))

pub enter-requires : goal.enter-requires
enter-requires g c =
    (omega arith, (c.in-Some.ensures.found.0, c.in_ok-kept.ensures.answer.0 c.if-kept.true))
