use Rattle.std.proofs.Common.{◌-◌, refl, subst, sym}
use Rattle.std.specs.String.{string_bytes}
use Rattle.dw_study.specs.Telling.{told_by}
use Rattle.dw_desk_commands.specs.Find.{SaysFound}
use Rattle.dw_desk_commands.specs.ProblemText.{IsFurther}
use Rattle.dw_desk_commands.specs.inner.LaterTold.{later_told}
use Rattle.dw_desk_commands.proofs.FindLemmas.{still_used_up}
use Rattle.dw_desk_commands.proofs.find.words_of.Goals as goal

pub returns-clause-text : goal.returns-clause-text
returns-clause-text g c =
    let before = c.args.desk.now.solver.expanded in
    let mid = c.search.new.desk.solver.expanded in
    let after = c.later_of.new.desk.solver.expanded in
    let finding = told_by c.in_ok-finding.finding in
    let found = c.in_ok-finding.ensures.found in
    let text = string_bytes c.in_ok-with_later.field-0 in
    record {
      further = text;
      follows = subst (λ z. IsFurther (SaysFound g.B.Board.geometry c.args.query.now (after - before)) z
          c.is_undecided.result text) (sym c.in-Ok.is) (
            finding,
            string_bytes c.in_ok-text.text,
            later_told c.in_ok-later.later,
            (found.0, still_used_up c.args.query.now.each before mid after finding found.1 c.later_of.ensures.same),
            c.is_undecided.ensures,
            c.in_ok-text.ensures,
            c.in_ok-later.ensures.later,
            c.in_ok-with_later.ensures,
          );
      is = refl;
    }
