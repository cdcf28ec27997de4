use Rattle.std.proofs.Common.{◌≡◌, ℕ, ◌+◌, ◌-◌, ◌≤◌, ◌∙◌, sym, subst, ap, arith, below_more, Err}
use Rattle.std.proofs.lemmas.Bool.{true≢false}
use Rattle.dw_solve.specs.inner.CountLemmas.{counted_then}
use Rattle.dw_solve.specs.Questions.{moment_of}
use Rattle.dw_solve.specs.Work.{Searched}
use Rattle.dw_study.proofs.LookingLemmas.{idle_on, known_below, loss_then, says_more, searched_then}
use Rattle.dw_study.proofs.least.number.Goals as goal

one_more : (n : ℕ) → n ≡ n + 1 - 1
one_more n = omega arith

one_less : (n : ℕ) → 1 ≤ n → n ≡ n - 1 + 1
one_less n some = omega (arith, some)

fewer : (n : ℕ) → n - 1 ≤ n
fewer n = omega arith

pub moves-preserved : goal.moves-preserved
moves-preserved g c =
    let geo = g.B.Board.geometry in
    let content = g.M.Memo.content in
    let lost = g.M.Memo.dropped in
    let now = c.moves.invariant in
    let here = c.in-Ok-false.ensures in
    let before = moment_of content lost c.args.solver.now in
    let after = moment_of content lost c.wins.new.self in
    record {
      none = below_more _ _ now.none (λ win. true≢false (sym (here.answer.1 win) ∙ c.in-Ok-false.field-0-test));
      idle = λ j says within. (idle_on content c.args.position.now c.moves.moves j c.args.solver.now
          c.moves.solver c.wins.new.self says c.moves.auto.moves (omega (arith, within))
          (now.idle j says (omega (arith, within))) here.known).1;
      count = counted_then _ _ _ _ _ _ now.count here.asked.count;
      searched = subst (λ n. Searched geo n 0 before after) (one_more c.moves.moves)
          (searched_then c.searches_add_up.ensures geo (c.moves.moves - 1) c.moves.moves 0 before
          (moment_of content lost c.moves.solver) after (fewer c.moves.moves) now.searched here.asked.searched);
      lost = loss_then _ _ _ now.lost here.asked.searched.counted;
      says = λ kept k low high. says_more geo content lost c.searches_add_up.ensures c.args.position.now c.moves.moves 0
          c.args.solver.now c.moves.solver c.wins.new.self c.in-Ok-false.field-0 c.moves.auto.moves now.lost
          here.asked.searched now.says here.says kept k low (omega (arith, high));
    }

pub returns-in-Ok-true-clause-says : goal.returns-in-Ok-true-clause-says
returns-in-Ok-true-clause-says g c =
    let now = c.moves.invariant in
    let here = c.in-Ok-true.ensures in
    says_more g.B.Board.geometry g.M.Memo.content g.M.Memo.dropped c.searches_add_up.ensures c.args.position.now
    c.moves.moves 0 c.args.solver.now c.moves.solver c.wins.new.self c.in-Ok-true.field-0 c.moves.auto.moves
    now.lost here.asked.searched now.says here.says

pub returns-clause-says : goal.returns-clause-says
returns-clause-says g c = λ kept k low high.
    c.moves.invariant.says kept k low (omega (arith, high, c.moves-test.false))

pub returns-in-Ok-true-clause-looks : goal.returns-in-Ok-true-clause-looks
returns-in-Ok-true-clause-looks g c =
    let content = g.M.Memo.content in
    let lost = g.M.Memo.dropped in
    let now = c.moves.invariant in
    let here = c.in-Ok-true.ensures.asked in
    let count = counted_then _ _ _ _ _ _ now.count here.count in
    record {
      count = count;
      few = count.within;
      stop = tt;
      searched = searched_then c.searches_add_up.ensures g.B.Board.geometry (c.moves.moves - 1) c.moves.moves 0
          (moment_of content lost c.args.solver.now) (moment_of content lost c.moves.solver)
          (moment_of content lost c.wins.new.self) (fewer c.moves.moves) now.searched here.searched;
    }

pub returns-in-Err-clause-looks : goal.returns-in-Err-clause-looks
returns-in-Err-clause-looks g c =
    let geo = g.B.Board.geometry in
    let content = g.M.Memo.content in
    let lost = g.M.Memo.dropped in
    let now = c.moves.invariant in
    let here = c.in-Err.ensures.asked in
    let count = counted_then _ _ _ _ _ _ now.count here.count in
    let before = moment_of content lost c.args.solver.now in
    let after = moment_of content lost c.wins.new.self in
    record {
      count = count;
      few = count.within;
      stop = λ e. here.stop (ap (λ z. Err z) e) ∙ here.count.same ∙ now.count.same;
      searched = subst (λ n. Searched geo n n before after) (one_less c.moves.moves c.moves.auto.moves)
          (searched_then c.searches_add_up.ensures geo (c.moves.moves - 1) c.moves.moves c.moves.moves before
          (moment_of content lost c.moves.solver) after (fewer c.moves.moves) now.searched here.searched);
    }

pub returns-clause-looks : goal.returns-clause-looks
returns-clause-looks g c =
    let content = g.M.Memo.content in
    let lost = g.M.Memo.dropped in
    let now = c.moves.invariant in
    let end = c.moves.auto.moves-end (omega arith) in
    record {
      count = now.count;
      few = now.count.within;
      stop = tt;
      searched = c.searches_add_up.ensures.wider g.B.Board.geometry (c.moves.moves - 1) c.args.most.value 0
          (moment_of content lost c.args.solver.now) (moment_of content lost c.moves.solver) (omega (arith, end))
          now.searched;
    }

pub returns-in-Err-clause-known : goal.returns-in-Err-clause-known
returns-in-Err-clause-known g c j says =
    known_below c.moves.moves j c.moves.auto.moves
    (λ within. true≢false (sym (idle_on g.M.Memo.content c.args.position.now c.moves.moves j c.args.solver.now
    c.moves.solver c.wins.new.self says c.moves.auto.moves within
    (c.moves.invariant.idle j says (omega (arith, within))) c.in-Err.ensures.known).0))
