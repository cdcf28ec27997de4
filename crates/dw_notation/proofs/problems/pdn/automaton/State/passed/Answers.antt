use Rattle.std.proofs.Common.{◌≡◌, ap, sym, subst, true, ◌∙◌, length, take, unwrap_or}
use Rattle.std.specs.List.{list_all}
use Rattle.dw_notation.specs.inner.Tags.{opens, closes, passes}
use Rattle.dw_notation.proofs.PassingLemmas.{none_before}
use Rattle.dw_notation.proofs.problems.pdn.automaton.State.passed.Goals as goal

pub returns-in-Outside-clause-within : goal.returns-in-Outside-clause-within
returns-in-Outside-clause-within c = (none_before opens c.args.bytes.now _ (c.unwrap_or.ensures
    ∙ ap (λ o. unwrap_or o (length c.args.bytes.now)) c.opening_at.ensures)).0

pub returns-in-Outside-clause-passed : goal.returns-in-Outside-clause-passed
returns-in-Outside-clause-passed c =
    subst (λ s. list_all (passes s) (take c.unwrap_or.result c.args.bytes.now) ≡ true) (sym c.in-Outside.is)
    (none_before opens c.args.bytes.now _ (c.unwrap_or.ensures
    ∙ ap (λ o. unwrap_or o (length c.args.bytes.now)) c.opening_at.ensures)).1

pub returns-in-Comment-clause-within : goal.returns-in-Comment-clause-within
returns-in-Comment-clause-within c = (none_before closes c.args.bytes.now _ (c.unwrap_or-in-Comment.ensures
    ∙ ap (λ o. unwrap_or o (length c.args.bytes.now)) c.closing_at.ensures)).0

pub returns-in-Comment-clause-passed : goal.returns-in-Comment-clause-passed
returns-in-Comment-clause-passed c =
    subst (λ s. list_all (passes s) (take c.unwrap_or-in-Comment.result c.args.bytes.now) ≡ true) (sym c.in-Comment.is)
    (none_before closes c.args.bytes.now _ (c.unwrap_or-in-Comment.ensures
    ∙ ap (λ o. unwrap_or o (length c.args.bytes.now)) c.closing_at.ensures)).1
