use Rattle.std.proofs.Common.{arith, refl}
use Rattle.dw_solve.specs.inner.QuestionLemmas.{asked_none, asked_wider, asked_ok, asked_stop, asked_memory}
use Rattle.dw_list.proofs.StepLemmas.{candidate_few, walk_met, walk_listed, walk_given, walk_back, walk_passed}
use Rattle.dw_list.proofs.StepLemmas.{walk_entered}
use Rattle.dw_list.proofs.walk.take_step.Goals as goal

pub keeps-requires : goal.keeps-requires
keeps-requires g c =
    let few = candidate_few g.B.Board.geometry c.args.stack.now c.keeps_its_levels.ensures.levels
    c.keeps_its_levels.ensures.fits c.in-Try.candidate c.in-Try.ensures in
    omega (arith, few, c.keeps_its_levels.ensures.few)

pub returns-in_err-kept-in-Try-clause-asked : goal.returns-in_err-kept-in-Try-clause-asked
returns-in_err-kept-in-Try-clause-asked g c =
    let geo = g.B.Board.geometry in
    let few = candidate_few geo c.args.stack.now c.keeps_its_levels.ensures.levels c.keeps_its_levels.ensures.fits
    c.in-Try.candidate c.in-Try.ensures in
    asked_wider geo g.M.Memo.content g.M.Memo.dropped c.searches_add_up.ensures c.in-Try.candidate.left
    c.args.stack.now.moves _ _ _ few
    (asked_stop geo g.M.Memo.content g.M.Memo.dropped c.in-Try.candidate.left _ _ c.in_err-kept-in-Try.field-0.0 _
    c.from_residual-in_err-kept-in-Try.ensures.1 c.in_err-kept-in-Try.ensures.asked)

pub returns-in_ok-is_end-in-Unlisted-clause-stepped : goal.returns-in_ok-is_end-in-Unlisted-clause-stepped
returns-in_ok-is_end-in-Unlisted-clause-stepped g c =
    let geo = g.B.Board.geometry in
    let task = c.in-Unlisted.ensures in
    let s = c.args.stack.now in
    walk_met geo s c.list.new.self c.in_ok-is_end-in-Unlisted.is_end c.listed_step.result c.listed_step.ensures
    (λ e. walk_given geo s c.keeps_its_levels.ensures.levels c.keeps_its_levels.ensures.fits c.list.new.self
    c.in_ok-is_end-in-Unlisted.is_end c.in_ok-is_end-in-Unlisted.ensures.listed task.0 task.1 task.2 task.3 e)
    (λ e. walk_listed geo s c.keeps_its_levels.ensures.levels c.keeps_its_levels.ensures.fits c.list.new.self
    c.in_ok-is_end-in-Unlisted.is_end c.in_ok-is_end-in-Unlisted.ensures.listed task.0 task.1 task.2 task.3 e)

pub returns-then-kept-clause-stepped : goal.returns-then-kept-clause-stepped
returns-then-kept-clause-stepped g c =
    walk_entered g.B.Board.geometry c.args.stack.now c.keeps_its_levels.ensures.levels c.keeps_its_levels.ensures.fits
    c.enter.new.self c.in-Try.candidate c.in-Try.ensures c.enter.ensures

pub returns-then-kept-clause-asked : goal.returns-then-kept-clause-asked
returns-then-kept-clause-asked g c =
    let geo = g.B.Board.geometry in
    let few = candidate_few geo c.args.stack.now c.keeps_its_levels.ensures.levels c.keeps_its_levels.ensures.fits
    c.in-Try.candidate c.in-Try.ensures in
    asked_wider geo g.M.Memo.content g.M.Memo.dropped c.searches_add_up.ensures c.in-Try.candidate.left
    c.args.stack.now.moves _ _ _ few
    (asked_ok geo g.M.Memo.content g.M.Memo.dropped c.in-Try.candidate.left _ _ _ _ c.in_ok-kept-in-Try.ensures.asked)

pub returns-else-kept-clause-stepped : goal.returns-else-kept-clause-stepped
returns-else-kept-clause-stepped g c =
    walk_passed g.B.Board.geometry c.args.stack.now c.keeps_its_levels.ensures.levels c.keeps_its_levels.ensures.fits
    c.pass.new.self c.in-Try.candidate c.in-Try.ensures
    (λ keeps. let yes = c.in_ok-kept-in-Try.ensures.answer.1 keeps in let not_so = c.if-kept.false in cc) c.pass.ensures

pub returns-else-kept-clause-asked : goal.returns-else-kept-clause-asked
returns-else-kept-clause-asked g c =
    let geo = g.B.Board.geometry in
    let few = candidate_few geo c.args.stack.now c.keeps_its_levels.ensures.levels c.keeps_its_levels.ensures.fits
    c.in-Try.candidate c.in-Try.ensures in
    asked_wider geo g.M.Memo.content g.M.Memo.dropped c.searches_add_up.ensures c.in-Try.candidate.left
    c.args.stack.now.moves _ _ _ few
    (asked_ok geo g.M.Memo.content g.M.Memo.dropped c.in-Try.candidate.left _ _ _ _ c.in_ok-kept-in-Try.ensures.asked)

pub returns-in-Passed-clause-stepped : goal.returns-in-Passed-clause-stepped
returns-in-Passed-clause-stepped g c =
    let task = c.in-Passed.ensures in
    walk_back g.B.Board.geometry c.args.stack.now c.keeps_its_levels.ensures.levels c.keeps_its_levels.ensures.fits
    c.back.new.self task.0 task.1 task.2 task.3 c.back.ensures

pub returns-in-Over-clause-asked : goal.returns-in-Over-clause-asked
returns-in-Over-clause-asked g c =
    let geo = g.B.Board.geometry in
    let n = c.args.stack.now.moves in
    asked_ok geo g.M.Memo.content g.M.Memo.dropped n _ _ 0 _
    (asked_none geo g.M.Memo.content g.M.Memo.dropped c.searches_add_up.ensures n _ c.keeps_its_limit.ensures)

pub returns-in-Passed-clause-asked : goal.returns-in-Passed-clause-asked
returns-in-Passed-clause-asked g c =
    let geo = g.B.Board.geometry in
    let n = c.args.stack.now.moves in
    asked_ok geo g.M.Memo.content g.M.Memo.dropped n _ _ 0 _
    (asked_none geo g.M.Memo.content g.M.Memo.dropped c.searches_add_up.ensures n _ c.keeps_its_limit.ensures)

pub returns-in_ok-is_end-in-Unlisted-clause-asked : goal.returns-in_ok-is_end-in-Unlisted-clause-asked
returns-in_ok-is_end-in-Unlisted-clause-asked g c =
    let geo = g.B.Board.geometry in
    let n = c.args.stack.now.moves in
    asked_ok geo g.M.Memo.content g.M.Memo.dropped n _ _ 0 _
    (asked_none geo g.M.Memo.content g.M.Memo.dropped c.searches_add_up.ensures n _ c.keeps_its_limit.ensures)

pub returns-in_err-is_end-in-Unlisted-clause-asked : goal.returns-in_err-is_end-in-Unlisted-clause-asked
returns-in_err-is_end-in-Unlisted-clause-asked g c =
    let geo = g.B.Board.geometry in
    let n = c.args.stack.now.moves in
    asked_memory geo g.M.Memo.content g.M.Memo.dropped n _ _ _ c.from_residual.ensures.1
    (asked_none geo g.M.Memo.content g.M.Memo.dropped c.searches_add_up.ensures n _ c.keeps_its_limit.ensures)

pub enter-requires : goal.enter-requires
enter-requires g c =
    (omega arith, (c.in-Try.ensures, c.in_ok-kept-in-Try.ensures.answer.0 c.if-kept.true))

pub returns-in-Over-clause-stepped : goal.returns-in-Over-clause-stepped
returns-in-Over-clause-stepped g c = (c.in-Over.ensures, refl)
