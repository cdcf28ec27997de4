use Rattle.std.proofs.Common.{ap, ◌∙◌, refl, ◌++◌, ◌∷◌, [], Some, false}
use Rattle.dw_study.specs.declared.remark.Remark.TheVariants.{Open}
use Rattle.dw_study.proofs.ChildLemmas.{none_there, some_there}
use Rattle.dw_study.proofs.SeenLemmas.{defender_seen, defender_misses, ends_seen, one_lacks, others_of}
use Rattle.dw_solve.specs.inner.QuestionLemmas.{asked_memory, asked_ok, asked_stop}
use Rattle.dw_study.proofs.remarks.seen_by_defender.Goals as goal

pub returns-then-is_empty-clause-seen : goal.returns-then-is_empty-clause-seen
returns-then-is_empty-clause-seen g c = λ b there.
    defender_seen g.B.Board.geometry c.args.spot.now.position c.args.spot.now.left c.args.tree.now.paths b
    c.args.spot.now.node there.there c.in_ok-followed.followed.items (c.in_ok-followed.ensures b there)
    (record { remarks = c.new.result; followed = c.in_ok-followed.followed }) c.in_ok-replies.replies.items
    (others_of g.B.Board.geometry c.args.spot.now.position c.as_slice.result.now c.in_ok-followed.followed.items
    c.in_ok-replies.replies.items c.as_slice.ensures.value c.in_ok-replies.ensures)
    (none_there c.in_ok-replies.replies _ c.is_empty.ensures c.if-is_empty.true) c.requires.lost c.new.ensures.items
    refl

pub returns-then-is_empty-2-clause-seen : goal.returns-then-is_empty-2-clause-seen
returns-then-is_empty-2-clause-seen g c = λ b there.
    let geo = g.B.Board.geometry in
    let spot = c.args.spot.now in
    let tree = c.args.tree.now.paths in
    let followed = c.in_ok-followed.followed.items in
    let all = c.in_ok-followed.ensures b there in
    let replies = c.in_ok-replies.replies in
    let others = others_of geo spot.position c.as_slice.result.now followed replies.items c.as_slice.ensures.value
    c.in_ok-replies.ensures in
    ends_seen geo spot.position spot.left tree b spot.node there.there followed all false
    (Some c.in_ok-lost_in.lost_in) c.in_ok-end.field-0
    (none_there c.in_ok-followed.followed _ c.is_empty-2.ensures c.if-is_empty-2.true) (
      c.in_ok-lost_in.lost_in,
      refl,
      c.in_ok-lost_in.ensures.least,
      one_lacks geo spot.position spot.left tree b spot.node there.there followed all replies.items others
          (some_there replies _ c.is_empty.ensures c.if-is_empty.false),
    ) c.in_ok-end.ensures.remarks c.in_ok-end.ensures.followed

pub returns-in_err-lost_in-clause-asked : goal.returns-in_err-lost_in-clause-asked
returns-in_err-lost_in-clause-asked g c =
    asked_stop g.B.Board.geometry g.M.Memo.content g.M.Memo.dropped c.args.spot.now.left c.args.solver.now
    c.least_loss.new.solver c.in_err-lost_in.field-0.0 c.from_residual-in_err-lost_in.result
    c.from_residual-in_err-lost_in.ensures.1 c.in_err-lost_in.ensures.asked

pub returns-in_err-end-clause-asked : goal.returns-in_err-end-clause-asked
returns-in_err-end-clause-asked g c =
    asked_memory g.B.Board.geometry g.M.Memo.content g.M.Memo.dropped c.args.spot.now.left c.args.solver.now
    c.least_loss.new.solver c.from_residual-in_err-end.result c.from_residual-in_err-end.ensures.1
    (asked_ok g.B.Board.geometry g.M.Memo.content g.M.Memo.dropped c.args.spot.now.left c.args.solver.now
    c.least_loss.new.solver c.in_ok-lost_in.lost_in 0 c.in_ok-lost_in.ensures.asked)

pub returns-then-is_empty-2-clause-asked : goal.returns-then-is_empty-2-clause-asked
returns-then-is_empty-2-clause-asked g c =
    asked_ok g.B.Board.geometry g.M.Memo.content g.M.Memo.dropped c.args.spot.now.left c.args.solver.now
    c.least_loss.new.solver c.in_ok-lost_in.lost_in _ c.in_ok-lost_in.ensures.asked

pub returns-clause-seen : goal.returns-clause-seen
returns-clause-seen g c = λ b there.
    defender_misses g.B.Board.geometry c.args.spot.now.position c.args.spot.now.left c.args.tree.now.paths b
    c.args.spot.now.node there.there c.in_ok-followed.followed.items (c.in_ok-followed.ensures b there)
    (record { remarks = c.push.new.list; followed = c.in_ok-followed.followed }) c.in_ok-replies.replies
    (others_of g.B.Board.geometry c.args.spot.now.position c.as_slice.result.now c.in_ok-followed.followed.items
    c.in_ok-replies.replies.items c.as_slice.ensures.value c.in_ok-replies.ensures)
    (some_there c.in_ok-replies.replies _ c.is_empty.ensures c.if-is_empty.false) (some_there c.in_ok-followed.followed
    _ c.is_empty-2.ensures c.if-is_empty-2.false) c.requires.lost
    (c.in_ok-push.ensures ∙ ap (λ z. z ++ Open c.args.spot.now.node c.in_ok-replies.replies ∷ [])
    c.new-remarks.ensures.items) refl
