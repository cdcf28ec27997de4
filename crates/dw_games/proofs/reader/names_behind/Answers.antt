use Rattle.std.proofs.Common.{subst, sym, add-one}
use Rattle.std.proofs.lemmas.List.{take_all}
use Rattle.dw_board.specs.Lists.{Member}
use Rattle.dw_games.specs.Play.{plain}
use Rattle.dw_games.proofs.ForcedLemmas.{got_member, named_more, none_more}
use Rattle.dw_games.proofs.reader.names_behind.Goals as goal

pub names_after-requires-clause-legal : goal.names_after-requires-clause-legal
names_after-requires-clause-legal g c =
    c.requires.legal c.reply-item.result (got_member g.B.Board.geometry c.args.position.now c.args.replies.now
    c.replies.reply-index c.reply-item.result c.replies-test.true c.reply-item.is)

pub returns-then-branch : goal.returns-then-branch
returns-then-branch g c =
    named_more g.B.Board.geometry c.args.position.now (plain c.args.text.now) c.args.replies.now c.replies.reply-index
    c.reply-item.result c.replies-test.true c.reply-item.is
    (rw c.if-branch.true at c.in_ok-names_after.ensures)

pub replies-preserved : goal.replies-preserved
replies-preserved g c =
    rw add-one (none_more g.B.Board.geometry c.args.position.now (plain c.args.text.now) c.args.replies.now
    c.replies.reply-index c.reply-item.result c.replies-test.true c.reply-item.is c.replies.invariant
    (rw c.if-branch.false at c.in_ok-names_after.ensures))

pub returns : goal.returns
returns g c = λ reply there.
    c.replies.invariant reply (subst (Member reply) (sym (take_all c.replies.reply-index c.args.replies.now
    c.replies-test.false)) there)
