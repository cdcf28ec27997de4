use Rattle.std.proofs.Common.{rules, ◌≡◌, ◌↔◌, true}
use Rattle.std.specs.Ordering.{is_lt}
use Rattle.std.proofs.lemmas.List.Sorted.{answers_always}
use Rattle.std.proofs.lemmas.Result.{on_ok_weaker}
use Rattle.dw_moves.specs.Order.{LexLess}
use Rattle.dw_moves.specs.inner.Walks.{sorted_by}
use Rattle.dw_moves.proofs.ListingLemmas.{comes_first, first_order, first_is, sorted_all}
use Rattle.dw_moves.proofs.listed.listed_into.Goals as goal

pub returns-else-is_err-clause-all : goal.returns-else-is_err-clause-all
returns-else-is_err-clause-all g c =
    on_ok_weaker c.push_listed-pushed.result (λ h. sorted_all g.B.Board.geometry g.met.B.Board.numbers
    c.args.position.now c.push_listed-pushed.new.list.items c.sort_unstable_by.new.self.items h
    c.sort_unstable_by.ensures.permutation
    (c.sort_unstable_by.ensures.sorted comes_first first_order (answers_always _ _ _ (λ f a r f' called.
    let says : (is_lt r ≡ true) ↔ LexLess (sorted_by a.0.now) (sorted_by a.1.0.now) = search rules in
    first_is (is_lt r) a.0.now a.1.0.now says)))) c.push_listed-pushed.ensures
