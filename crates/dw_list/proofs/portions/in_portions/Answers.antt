use Rattle.std.proofs.Common.{◌≡◌, ◌∙◌, refl, sym, ap, subst, take, get_or, length, arith}
use Rattle.std.proofs.lemmas.List.{take_more}
use Rattle.dw_list.specs.Listing.{stack_of, solver_of, LimitIsLast}
use Rattle.dw_list.proofs.PortionLemmas.{taken_none_yet, limit_push}
use Rattle.dw_list.proofs.FollowLemmas.{take_whole}
use Rattle.dw_list.proofs.portions.in_portions.Goals as goal

pub limits-init : goal.limits-init
limits-init g c = record {
  lender = refl;
  lines = taken_none_yet g.B.Board.geometry (stack_of c.args.lister.now) _ c.new.result.items c.new.ensures.items;
  turns = let none = ap length c.new.ensures.items in omega (arith, none);
  end = λ some. absurd (omega arith);
  count = omega arith;
  limit = refl;
}

pub limits-preserved : goal.limits-preserved
limits-preserved g c = record {
  lender = c.take_turn.ensures.lender ∙ c.limits.invariant.lender;
  lines = c.take_turn.ensures.lines (stack_of c.args.lister.now) c.limits.invariant.lines;
  turns = let one = c.take_turn.ensures.turns in let before = c.limits.invariant.turns in omega arith;
  end = c.take_turn.ensures.end c.limits.invariant.end;
  count = let rises = c.take_turn.ensures.count in let before = c.limits.invariant.count in omega arith;
  limit = subst (λ z. LimitIsLast z (solver_of c.args.lister.now) (solver_of c.take_turn.new.lister))
      (sym (take_more c.args.limits.now c.limits.limit-index 0 c.limits-test.true))
      (limit_push (take c.limits.limit-index c.args.limits.now) (get_or c.args.limits.now c.limits.limit-index 0)
      (solver_of c.args.lister.now) (solver_of c.limits.lister) (solver_of c.take_turn.new.lister)
      c.limits.invariant.count c.take_turn.ensures.count c.take_turn.ensures.limit);
}

pub returns-clause-limit : goal.returns-clause-limit
returns-clause-limit g c =
    let end : c.limits.limit-index ≡ length c.args.limits.now = omega (
      arith,
      c.limits-test.false,
      c.limits.auto.limit-index-end,
    ) in
    subst (λ z. LimitIsLast z (solver_of c.args.lister.now) (solver_of c.limits.lister))
    (ap (λ i. take i c.args.limits.now) end ∙ take_whole c.args.limits.now) c.limits.invariant.limit
