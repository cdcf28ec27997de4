use Rattle.std.proofs.Common.{◌∷◌, ◌++◌, [], sym, subst, arith}
use Rattle.dw_study.proofs.SeenLemmas.{SaidTo, said_none, said_more, said_all, child_kept, kept_some, after_there}
use Rattle.dw_study.proofs.SeenLemmas.{after_kept, after_less, after_falls, after_says}
use Rattle.dw_solve.specs.inner.QuestionLemmas.{answered, asked_ok, asked_stop, asked_memory}
use Rattle.dw_study.proofs.AskedLemmas.{asked_on}
use Rattle.dw_study.proofs.check.+remarks_from.Goals as goal

pub followed-init : goal.followed-init
followed-init g t c =
    let geo = g.B.Board.geometry in
    let tree = c.args.tree.now.paths in
    let spot = c.args.spot.now in
    let seen = c.in_ok-remarks.field-0 in
    record {
      said = λ b there. subst (λ z. SaidTo geo tree spot.attacks spot.left spot.position b z 0 seen.remarks.items)
          (sym c.as_slice-child-items.ensures.value)
          (said_none geo tree spot.attacks spot.left spot.position b seen (c.in_ok-remarks.ensures.seen b there));
      asked = asked_ok geo g.M.Memo.content g.M.Memo.dropped spot.left
          c.args.solver.now c.seen.new.solver seen 0 c.in_ok-remarks.ensures.asked;
    }

pub after-requires : goal.after-requires
after-requires g t c =
    let spot = c.args.spot.now in
    let seen = c.in_ok-remarks.field-0 in
    let there = c.requires.there in
    (child_kept g.B.Board.geometry c.args.tree.now.paths spot.attacks spot.left spot.position there.0 seen
    c.as_slice-child-items.result.now c.followed.child-index c.child-item.result
    (c.in_ok-remarks.ensures.seen there.0 there.1) c.as_slice-child-items.ensures.value c.followed-test.true
    c.child-item.is).2.position

pub remarks_from-requires : goal.remarks_from-requires
remarks_from-requires g t c κs within =
    let geo = g.B.Board.geometry in
    let tree = c.args.tree.now.paths in
    let spot = c.args.spot.now in
    let after = c.after.result in
    let item = c.child-item.result in
    let there = c.requires.there in
    let kept = child_kept geo tree spot.attacks spot.left spot.position there.0 c.in_ok-remarks.field-0
    c.as_slice-child-items.result.now c.followed.child-index item (c.in_ok-remarks.ensures.seen there.0 there.1)
    c.as_slice-child-items.ensures.value c.followed-test.true c.child-item.is in
    let fall = after_falls geo spot after item c.after.ensures c.requires.kept in
    let less = after_less geo spot after item c.after.ensures in
    let f = c.decreases in (
      omega (arith, f, fall),
      (
        within.0,
        (
          within.1.0,
          (
            within.1.1,
            (
              (
                there.0 ++ item.mv ∷ [],
                after_there geo c.args.tree.now spot after item there.0 there.1 c.after.ensures kept.2.there,
              ),
              (after_kept geo spot after item c.after.ensures kept.1, omega (arith, less, c.requires.few)),
            ),
          ),
        ),
      ),
    )

pub returns-in_err-behind-clause-asked : goal.returns-in_err-behind-clause-asked
returns-in_err-behind-clause-asked g t c =
    let geo = g.B.Board.geometry in
    let content = g.M.Memo.content in
    let lost = g.M.Memo.dropped in
    let less = after_less geo c.args.spot.now c.after.result c.child-item.result c.after.ensures in
    asked_on c.searches_add_up.ensures geo content lost c.after.result.left c.args.spot.now.left c.args.solver.now
    c.followed.solver c.remarks_from.new.solver c.from_residual-in_err-behind.result less c.followed.invariant.asked
    (asked_stop geo content lost c.after.result.left c.followed.solver
    c.remarks_from.new.solver c.in_err-behind.field-0.0 c.from_residual-in_err-behind.result
    c.from_residual-in_err-behind.ensures.1 c.in_err-behind.ensures.asked)

pub returns-in_err-append-clause-asked : goal.returns-in_err-append-clause-asked
returns-in_err-append-clause-asked g t c =
    let geo = g.B.Board.geometry in
    let content = g.M.Memo.content in
    let lost = g.M.Memo.dropped in
    let less = after_less geo c.args.spot.now c.after.result c.child-item.result c.after.ensures in
    asked_memory geo content lost c.args.spot.now.left c.args.solver.now
    c.remarks_from.new.solver c.from_residual-in_err-append.result c.from_residual-in_err-append.ensures.1
    (asked_on c.searches_add_up.ensures geo content lost c.after.result.left c.args.spot.now.left c.args.solver.now
    c.followed.solver c.remarks_from.new.solver answered less c.followed.invariant.asked
    (asked_ok geo content lost c.after.result.left c.followed.solver
    c.remarks_from.new.solver c.in_ok-behind.behind 0 c.in_ok-behind.ensures.asked))

pub followed-preserved : goal.followed-preserved
followed-preserved g t c =
    let geo = g.B.Board.geometry in
    let content = g.M.Memo.content in
    let lost = g.M.Memo.dropped in
    let tree = c.args.tree.now.paths in
    let spot = c.args.spot.now in
    let after = c.after.result in
    let item = c.child-item.result in
    let items = c.as_slice-child-items.result.now in
    let less = after_less geo spot after item c.after.ensures in
    record {
      said = λ b there.
          let kept = child_kept geo tree spot.attacks spot.left spot.position b c.in_ok-remarks.field-0 items
          c.followed.child-index item (c.in_ok-remarks.ensures.seen b there) c.as_slice-child-items.ensures.value
          c.followed-test.true c.child-item.is in
          said_more geo tree spot.attacks spot.left spot.position b items c.followed.child-index item
          c.followed.remarks.items c.in_ok-behind.behind.items c.append.new.self.items c.followed-test.true
          c.child-item.is (c.followed.invariant.said b there)
          (after_says geo tree spot after item b c.in_ok-behind.behind.items c.after.ensures
          (c.in_ok-behind.ensures.remarks (b ++ item.mv ∷ [])
          (after_there geo c.args.tree.now spot after item b there c.after.ensures kept.2.there)))
          c.in_ok-append.ensures.items;
      asked = asked_on c.searches_add_up.ensures geo content lost after.left spot.left c.args.solver.now
          c.followed.solver c.remarks_from.new.solver answered less c.followed.invariant.asked
          (asked_ok geo content lost after.left c.followed.solver
          c.remarks_from.new.solver c.in_ok-behind.behind 0 c.in_ok-behind.ensures.asked);
    }

pub returns-clause-remarks : goal.returns-clause-remarks
returns-clause-remarks g t c = λ b there.
    let spot = c.args.spot.now in
    said_all g.B.Board.geometry c.args.tree.now.paths spot.attacks spot.left spot.position b
    c.as_slice-child-items.result.now c.followed.child-index c.followed.remarks.items
    (omega (arith, c.followed-test.false))
    (kept_some g.B.Board.geometry spot.attacks spot.left spot.position c.requires.kept)
    (c.followed.invariant.said b there)
