use Rattle.std.proofs.Common.{◌+◌, ◌-◌, ◌≤◌, sym, ap, ◌∙◌, subst, arith, map-id, refl}
use Rattle.dw_moves.specs.Order.{Precedes, IsAscending}
use Rattle.dw_verdict.specs.Verdict.{IsWinning}
use Rattle.dw_verdict.specs.inner.GatheredLemmas.{GatheredTo, to_none, to_more, to_same}
use Rattle.dw_study.proofs.SeenLemmas.{winning_all, item_member, wins_lost, fails_kept}
use Rattle.dw_solve.specs.inner.QuestionLemmas.{answered, asked_none, asked_ok, asked_stop, asked_memory}
use Rattle.dw_study.proofs.AskedLemmas.{asked_on}
use Rattle.dw_study.proofs.remarks.winning.Goals.{then-branch+in_ok-push, else-branch}
use Rattle.dw_study.proofs.remarks.winning.Goals as goal

pub moves-init : goal.moves-init
moves-init g c =
    let geo = g.B.Board.geometry in
    let p = c.args.spot.now.position in
    record {
      keys = λ ascending. to_none (λ m. m) (Precedes geo p) (λ m. m) (IsWinning geo p c.args.spot.now.left)
          c.args.moves.now c.new-keys.result.items c.new-keys.ensures.items;
      asked = asked_none geo g.M.Memo.content g.M.Memo.dropped c.searches_add_up.ensures c.args.spot.now.left
          c.args.solver.now c.keeps_its_limit.ensures;
    }

pub play-after-requires : goal.play-after-requires
play-after-requires g c =
    c.requires.legal c.mv-item.result (item_member c.args.moves.now c.moves.mv-index c.mv-item.result c.moves-test.true
    c.mv-item.is)

pub returns-in_err-loses-clause-asked : goal.returns-in_err-loses-clause-asked
returns-in_err-loses-clause-asked g c =
    let geo = g.B.Board.geometry in
    let content = g.M.Memo.content in
    let lost = g.M.Memo.dropped in
    let n = c.args.spot.now.left in
    let less : n - 1 ≤ n = omega arith in
    asked_on c.searches_add_up.ensures geo content lost (n - 1) n c.args.solver.now
    c.moves.solver c.loses.new.self c.from_residual.result less c.moves.invariant.asked
    (asked_stop geo content lost (n - 1) c.moves.solver c.loses.new.self
    c.in_err-loses.field-0.0 c.from_residual.result c.from_residual.ensures.1 c.in_err-loses.ensures.asked)

pub returns-in_err-push-clause-asked : goal.returns-in_err-push-clause-asked
returns-in_err-push-clause-asked g c =
    let geo = g.B.Board.geometry in
    let content = g.M.Memo.content in
    let lost = g.M.Memo.dropped in
    let n = c.args.spot.now.left in
    let less : n - 1 ≤ n = omega arith in
    asked_memory geo content lost n c.args.solver.now c.loses.new.self
    c.from_residual-in_err-push.result c.from_residual-in_err-push.ensures.1
    (asked_on c.searches_add_up.ensures geo content lost (n - 1) n c.args.solver.now
    c.moves.solver c.loses.new.self answered less c.moves.invariant.asked
    (asked_ok geo content lost (n - 1) c.moves.solver c.loses.new.self
    c.in_ok-loses.field-0 0 c.in_ok-loses.ensures.asked))

pub moves-preserved : goal.moves-preserved
moves-preserved g c =
    let geo = g.B.Board.geometry in
    let content = g.M.Memo.content in
    let lost = g.M.Memo.dropped in
    let p = c.args.spot.now.position in
    let n = c.args.spot.now.left in
    let moves = c.args.moves.now in
    let i = c.moves.mv-index in
    let item = c.mv-item.result in
    let less : n - 1 ≤ n = omega arith in
    let legal = c.requires.legal item (item_member moves i item c.moves-test.true c.mv-item.is) in
    record {
      keys = λ ascending. elim c.if-branch.branch [
        | then-branch+in_ok-push w ↦
            subst (GatheredTo (λ m. m) (Precedes geo p) (λ m. m) (IsWinning geo p n) moves (i + 1))
            (sym (ap (λ v. v.items) w.keys-is ∙ w.in_ok-push.ensures))
            (to_more (λ m. m) (Precedes geo p) (λ m. m) (IsWinning geo p n) moves i item c.moves.keys.items item
            (subst (IsAscending (Precedes geo p)) (sym (map-id moves)) ascending) c.moves-test.true c.mv-item.is refl
            (wins_lost geo p c.play-after.result n item c.in_ok-loses.field-0 c.requires.some legal c.play-after.ensures
            c.in_ok-loses.ensures.answer w.if-branch.true)
            (λ z e k. e) (c.moves.invariant.keys ascending))
        | else-branch w ↦
            subst (GatheredTo (λ m. m) (Precedes geo p) (λ m. m) (IsWinning geo p n) moves (i + 1))
            (sym (ap (λ v. v.items) w.keys-is))
            (to_same (λ m. m) (Precedes geo p) (λ m. m) (IsWinning geo p n) moves i item c.moves.keys.items
            c.moves-test.true c.mv-item.is
            (λ z e k. fails_kept geo p c.play-after.result n item c.in_ok-loses.field-0 c.play-after.ensures
            c.in_ok-loses.ensures.answer w.if-branch.false (subst (IsWinning geo p n) e k)) (c.moves.invariant.keys
            ascending))
      ];
      asked = asked_on c.searches_add_up.ensures geo content lost (n - 1) n
          c.args.solver.now c.moves.solver c.loses.new.self answered less c.moves.invariant.asked
          (asked_ok geo content lost (n - 1) c.moves.solver
          c.loses.new.self c.in_ok-loses.field-0 0 c.in_ok-loses.ensures.asked);
    }

pub returns-clause-keys : goal.returns-clause-keys
returns-clause-keys g c = λ given others.
    winning_all g.B.Board.geometry c.args.spot.now.position c.args.spot.now.left given c.args.moves.now
    c.moves.keys.items c.moves.mv-index others (omega (arith, c.moves-test.false))
    (c.moves.invariant.keys others.ascending)

pub returns-clause-asked : goal.returns-clause-asked
returns-clause-asked g c =
    asked_ok g.B.Board.geometry g.M.Memo.content g.M.Memo.dropped c.args.spot.now.left
    c.args.solver.now c.moves.solver 0 _ c.moves.invariant.asked
