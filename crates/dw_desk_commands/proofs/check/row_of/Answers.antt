use Rattle.std.proofs.Common.{◌∙◌, map, refl, ap, subst}
use Rattle.std.specs.String.{string_bytes}
use Rattle.dw_rows.specs.CheckRow.{IsCheckedRow}
use Rattle.dw_study.specs.Telling.{remark_in}
use Rattle.dw_desk_commands.specs.inner.Tallies.{tallied}
use Rattle.dw_desk_commands.specs.Check.{counted}
use Rattle.dw_desk_commands.proofs.CheckLemmas.{is_some, numbers_same, of_some}
use Rattle.dw_desk_commands.proofs.check.row_of.Goals as goal

pub returns-in-Some : goal.returns-in-Some
returns-in-Some g c said is =
    let s = c.args.solution.now in (
      s.checked.now.wins,
      c.requires.compared.wins,
      subst (λ z. IsCheckedRow g.B.Board.geometry s.problem.now.number s.tree.now.start s.n z said
          (string_bytes c.in-Some.line)) (numbers_same s.checked.now.wins c.holds.result (tallied c.args.tally)
          (counted said) c.holds.ensures (c.requires.tally said is) _ refl)
          (of_some _ c.in_ok-made.made c.in-Some.line c.in-Some.is
          (c.in_ok-made.ensures.row said (ap (map (remark_in s.tree.now.paths)) c.as_slice.ensures.value ∙ is))),
    )

pub returns-in-None : goal.returns-in-None
returns-in-None g c =
    let s = c.args.solution.now in
    let said = c.requires.compared.remarks in
    is_some c.in_ok-made.made c.in-None.is (c.in_ok-made.ensures.some said.0
    (ap (map (remark_in s.tree.now.paths)) c.as_slice.ensures.value ∙ said.1) (c.remarks_have_texts.ensures
    g.B.Board.geometry s.tree.now.start s.tree.now.paths s.n said.0 said.2))
