use Rattle.std.proofs.Common.{◌≤◌, sym, subst, arith, map, true, refl}
use Rattle.dw_board.specs.Lists.{Member}
use Rattle.dw_study.specs.inner.Checking.{IsSeen, AreChildren, AreOthers}
use Rattle.dw_study.proofs.ChildLemmas.{none_there, some_there}
use Rattle.dw_study.proofs.SeenLemmas.{ends_seen, attacker_seen, attacker_misses, others_of, sorted_of}
use Rattle.dw_solve.specs.inner.QuestionLemmas.{answered, asked_memory, asked_ok, asked_stop}
use Rattle.dw_study.proofs.AskedLemmas.{asked_on}
use Rattle.dw_study.proofs.remarks.seen_by_attacker.Goals.{then-not-is_empty+in_ok-push, else-not-is_empty}
use Rattle.dw_study.proofs.remarks.seen_by_attacker.Goals as goal

pub returns-then-is_empty-clause-seen : goal.returns-then-is_empty-clause-seen
returns-then-is_empty-clause-seen g c = λ b there.
    ends_seen g.B.Board.geometry c.args.spot.now.position c.args.spot.now.left c.args.tree.now.paths b
    c.args.spot.now.node there.there c.in_ok-children.children.items (c.in_ok-children.ensures b there) true
    c.in_ok-wins_in.wins_in c.in_ok-end.field-0
    (none_there c.in_ok-children.children _ c.is_empty.ensures c.if-is_empty.true) c.in_ok-wins_in.ensures.answer
    c.in_ok-end.ensures.remarks c.in_ok-end.ensures.followed

pub returns-in_err-wins_in-clause-asked : goal.returns-in_err-wins_in-clause-asked
returns-in_err-wins_in-clause-asked g c =
    asked_stop g.B.Board.geometry g.M.Memo.content g.M.Memo.dropped c.args.spot.now.left c.args.solver.now
    c.least.new.self c.in_err-wins_in.field-0.0 c.from_residual-in_err-wins_in.result
    c.from_residual-in_err-wins_in.ensures.1 c.in_err-wins_in.ensures.asked

pub returns-in_err-end-clause-asked : goal.returns-in_err-end-clause-asked
returns-in_err-end-clause-asked g c =
    asked_memory g.B.Board.geometry g.M.Memo.content g.M.Memo.dropped c.args.spot.now.left c.args.solver.now
    c.least.new.self c.from_residual-in_err-end.result c.from_residual-in_err-end.ensures.1
    (asked_ok g.B.Board.geometry g.M.Memo.content g.M.Memo.dropped c.args.spot.now.left c.args.solver.now
    c.least.new.self c.in_ok-wins_in.wins_in 0 c.in_ok-wins_in.ensures.asked)

pub returns-then-is_empty-clause-asked : goal.returns-then-is_empty-clause-asked
returns-then-is_empty-clause-asked g c =
    asked_ok g.B.Board.geometry g.M.Memo.content g.M.Memo.dropped c.args.spot.now.left c.args.solver.now
    c.least.new.self c.in_ok-wins_in.wins_in _ c.in_ok-wins_in.ensures.asked

pub sorted-requires-clause-legal : goal.sorted-requires-clause-legal
sorted-requires-clause-legal g c = λ m member.
    let all = c.in_ok-children.ensures c.requires.there.0 c.requires.there.1 in
    ((all.in_order.exactly m).0 (subst (λ z. Member m (map (λ d. d.mv) z)) c.as_slice.ensures.value member)).0

pub sorted-requires-clause-reached : goal.sorted-requires-clause-reached
sorted-requires-clause-reached g c = λ d member.
    let all = c.in_ok-children.ensures c.requires.there.0 c.requires.there.1 in
    (all.each d (subst (Member d) c.as_slice.ensures.value member)).position

pub returns-in_err-others-clause-asked : goal.returns-in_err-others-clause-asked
returns-in_err-others-clause-asked g c =
    asked_memory g.B.Board.geometry g.M.Memo.content g.M.Memo.dropped c.args.spot.now.left c.args.solver.now
    c.sorted.new.solver c.from_residual-in_err-others.result c.from_residual-in_err-others.ensures.1
    (asked_ok g.B.Board.geometry g.M.Memo.content g.M.Memo.dropped c.args.spot.now.left c.args.solver.now
    c.sorted.new.solver c.in_ok-seen.seen 0 c.in_ok-seen.ensures.asked)

pub winning-requires-clause-legal : goal.winning-requires-clause-legal
winning-requires-clause-legal g c = λ m member.
    ((c.in_ok-others.ensures.exactly m).0 (subst (Member m) c.as_slice-3.ensures.value member)).0

pub returns-in_err-keys-clause-asked : goal.returns-in_err-keys-clause-asked
returns-in_err-keys-clause-asked g c =
    let geo = g.B.Board.geometry in
    let content = g.M.Memo.content in
    let lost = g.M.Memo.dropped in
    let n = c.args.spot.now.left in
    let less : n ≤ n = omega arith in
    asked_on c.searches_add_up.ensures geo content lost n n c.args.solver.now c.sorted.new.solver c.winning.new.solver
    c.from_residual-in_err-keys.result less
    (asked_ok geo content lost n c.args.solver.now c.sorted.new.solver c.in_ok-seen.seen 0 c.in_ok-seen.ensures.asked)
    (asked_stop geo content lost n c.sorted.new.solver c.winning.new.solver c.in_err-keys.field-0.0
    c.from_residual-in_err-keys.result c.from_residual-in_err-keys.ensures.1 c.in_err-keys.ensures.asked)

pub returns-in_err-push-clause-asked : goal.returns-in_err-push-clause-asked
returns-in_err-push-clause-asked g c =
    let geo = g.B.Board.geometry in
    let content = g.M.Memo.content in
    let lost = g.M.Memo.dropped in
    let n = c.args.spot.now.left in
    let less : n ≤ n = omega arith in
    asked_memory geo content lost n c.args.solver.now c.winning.new.solver
    c.from_residual-in_err-push.result c.from_residual-in_err-push.ensures.1
    (asked_on c.searches_add_up.ensures geo content lost n n c.args.solver.now
    c.sorted.new.solver c.winning.new.solver answered less
    (asked_ok geo content lost n c.args.solver.now c.sorted.new.solver
    c.in_ok-seen.seen 0 c.in_ok-seen.ensures.asked)
    (asked_ok geo content lost n c.sorted.new.solver c.winning.new.solver
    c.in_ok-keys.keys 0 c.in_ok-keys.ensures.asked))

pub returns-clause-asked : goal.returns-clause-asked
returns-clause-asked g c =
    let geo = g.B.Board.geometry in
    let content = g.M.Memo.content in
    let lost = g.M.Memo.dropped in
    let n = c.args.spot.now.left in
    let less : n ≤ n = omega arith in
    asked_on c.searches_add_up.ensures geo content lost n n c.args.solver.now
    c.sorted.new.solver c.winning.new.solver _ less
    (asked_ok geo content lost n c.args.solver.now c.sorted.new.solver
    c.in_ok-seen.seen 0 c.in_ok-seen.ensures.asked)
    (asked_ok geo content lost n c.sorted.new.solver c.winning.new.solver
    c.in_ok-keys.keys _ c.in_ok-keys.ensures.asked)

pub returns-clause-seen : goal.returns-clause-seen
returns-clause-seen g c = λ b there.
    let geo = g.B.Board.geometry in
    let p = c.args.spot.now.position in
    let n = c.args.spot.now.left in
    let tree = c.args.tree.now.paths in
    let node = c.args.spot.now.node in
    let children = c.in_ok-children.children.items in
    let all = c.in_ok-children.ensures b there in
    let seen = c.in_ok-seen.seen in
    let sorted = sorted_of geo p n tree b node c.as_slice.result.now children seen c.as_slice.ensures.value
    (c.in_ok-seen.ensures.sorted tree b (subst (AreChildren geo p tree b) (sym c.as_slice.ensures.value) all)) in
    let others = others_of geo p c.as_slice-2.result.now children c.in_ok-others.others.items
    c.as_slice-2.ensures.value c.in_ok-others.ensures in
    let keys = c.in_ok-keys.ensures.keys (map (λ d. d.mv) children) (subst (AreOthers geo p (map (λ d. d.mv) children))
    (sym c.as_slice-3.ensures.value) others) in
    let some = some_there c.in_ok-children.children _ c.is_empty.ensures c.if-is_empty.false in
    elim c.if-not-is_empty.branch [
      | then-not-is_empty+in_ok-push w ↦
          subst (IsSeen geo tree true n p b) (sym w.seen-is)
          (attacker_misses geo p n tree b node there.there children all seen _ c.in_ok-keys.keys sorted some keys
          (some_there c.in_ok-keys.keys _ c.is_empty-2.ensures w.if-not-is_empty.true) w.in_ok-push.ensures refl)
      | else-not-is_empty w ↦
          subst (IsSeen geo tree true n p b) (sym w.seen-is)
          (attacker_seen geo p n tree b node there.there children all seen c.in_ok-keys.keys.items sorted some keys
          (none_there c.in_ok-keys.keys _ c.is_empty-2.ensures w.if-not-is_empty.false))
    ]
