use Rattle.std.proofs.Common.{◌∙◌, sym}
use Rattle.dw_memo.proofs.PairLemmas.{own_first, own_second, new_first, new_second, own_first_choice, own_second_choice}
use Rattle.dw_memo.proofs.pair.Pair.place.Goals as goal

pub returns-then-holds-clause-note : goal.returns-then-holds-clause-note
returns-then-holds-clause-note g c = own_first c.args.self.now.first c.args.self.now.second c.enter_again.new.place
    c.args.position.now c.args.bounds c.enter_again.result.noted c.enter_again.result.lost c.requires
    (sym c.holds.ensures ∙ c.if-holds.true) c.enter_again.ensures.note

pub returns-then-holds-clause-choice : goal.returns-then-holds-clause-choice
returns-then-holds-clause-choice g c = own_first_choice c.args.self.now.first c.args.self.now.second
    c.enter_again.new.place c.args.position.now c.args.bounds c.enter_again.result.noted c.enter_again.ensures.kept
    (sym c.holds.ensures ∙ c.if-holds.true)

pub returns-then-holds-2-clause-note : goal.returns-then-holds-2-clause-note
returns-then-holds-2-clause-note g c = own_second c.args.self.now.first c.args.self.now.second
    c.enter_again-then-holds-2.new.place c.args.position.now c.args.bounds c.enter_again-then-holds-2.result.noted
    c.enter_again-then-holds-2.result.lost c.requires (sym c.holds.ensures ∙ c.if-holds.false)
    c.enter_again-then-holds-2.ensures.note

pub returns-then-holds-2-clause-choice : goal.returns-then-holds-2-clause-choice
returns-then-holds-2-clause-choice g c = own_second_choice c.args.self.now.first c.args.self.now.second
    c.enter_again-then-holds-2.new.place c.args.position.now c.args.bounds c.enter_again-then-holds-2.result.noted
    c.enter_again-then-holds-2.ensures.kept (sym c.holds-else-holds.ensures ∙ c.if-holds-2.true)

pub returns-then-worth-clause-note : goal.returns-then-worth-clause-note
returns-then-worth-clause-note g c = new_second c.args.self.now.first c.args.self.now.second c.contend.new.lesser
    c.contend.new.other c.args.position.now c.args.bounds c.contend.result.noted c.contend.result.lost c.requires
    (sym c.holds.ensures ∙ c.if-holds.false) c.contend.ensures.other c.contend.ensures.note

pub returns-else-worth-clause-note : goal.returns-else-worth-clause-note
returns-else-worth-clause-note g c = new_first c.args.self.now.first c.args.self.now.second
    c.contend-else-worth.new.lesser c.contend-else-worth.new.other c.args.position.now c.args.bounds
    c.contend-else-worth.result.noted c.contend-else-worth.result.lost c.requires
    (sym c.holds-else-holds.ensures ∙ c.if-holds-2.false) c.contend-else-worth.ensures.other
    c.contend-else-worth.ensures.note
