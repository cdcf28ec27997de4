use Rattle.std.proofs.Common.{sym, ap, ◌∙◌, subst, take, length, reverse, arith, lit<}
use Rattle.std.proofs.lemmas.List.{length-reverse, length-take-le}
use Rattle.std.proofs.lemmas.Result.{IfOk-weaker}
use Rattle.dw_list.specs.LineStack.{LineStack}
use Rattle.dw_list.specs.inner.Levels.{AreLevels}
use Rattle.dw_list.proofs.StackLemmas.{none_left}
use Rattle.dw_list.proofs.StackViewLemmas.{end_first, with_levels}
use Rattle.dw_list.proofs.stack.Stack.list.Goals as goal

pub returns-clause-listed : goal.returns-clause-listed
returns-clause-listed g c =
    IfOk-weaker c.list_last.result _ _ (λ is_end r. record {
      last = r.last;
      outer = reverse r.outer;
      are = ap (λ (s : LineStack). s.levels) (sym c.self.view_is) ∙ end_first _ _ _ r.was;
      listed = r.listed;
      listing = r.listing;
      is = with_levels c.args.self.now _ _ _ _ _ _ c.self.view_is (end_first _ _ _ r.is);
      end = r.end;
    }) c.list_last.ensures.listed

pub list_last-requires : goal.list_last-requires
list_last-requires g c =
    let s = c.self.inside in
    let inv = c.self.invariant in
    let items = s.frames.items in
    let long = ap (λ (z : LineStack). length z.levels) c.self.view_is in (
      lit< tt,
      (
        omega (arith, long, c.requires, length-reverse (take s.depth items), length-take-le s.depth items inv.1),
        (
          inv.1,
          λ outer f was. none_left g.B.Board.geometry s.position s.moves (reverse outer) (reverse s.line.items) f
              (subst (λ z. AreLevels g.B.Board.geometry s.position s.moves z (reverse s.line.items))
              (end_first (take s.depth items) outer f was) inv.0).0,
        ),
      ),
    )
