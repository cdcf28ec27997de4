use Rattle.std.proofs.Common.{◌&&◌, ◌∙◌, ap, sym}
use Rattle.dw_study.specs.Telling.{remark_in}
use Rattle.dw_desk_commands.specs.Check.{is_none}
use Rattle.dw_desk_commands.proofs.CheckLemmas.{none_is}
use Rattle.dw_desk_commands.proofs.check.is_left_out.Goals as goal

pub returns-then-query : goal.returns-then-query
returns-then-query g c = λ said same.
    none_is (remark_in c.args.solution.now.tree.now.paths) c.args.solution.now.checked.now.remarks said
    c.is_empty.result same c.is_empty.ensures ∙ ap (λ z. z && is_none said) (sym c.if-query.true)

pub returns-else-query : goal.returns-else-query
returns-else-query g c = λ said same. c.if-query.false ∙ ap (λ z. z && is_none said) (sym c.if-query.false)
