use Rattle.std.proofs.Common.{append_assoc, ◌++◌, map, refl}
use Rattle.std.specs.String.{string_bytes}
use Rattle.dw_page.specs.Pages.{moves_row, solution_begin, tries_row, verdict_row}
use Rattle.dw_page.proofs.page.push_solution.Goals as goal

pub returns : goal.returns
returns g c =
    let s = c.args.solution.now in
    let language = c.args.look.now.language in
    let row = c.in_ok-push_moves_row.ensures in (
      solution_begin c.args.number c.args.is_apart ++ (verdict_row s.verdict.now
          ++ (tries_row language (map string_bytes s.tries.now) ++ moves_row language row.0)),
      record { shown = row.0; are_moves = row.1; is = refl },
      rw (row.2, c.in_ok-push_tries.ensures, c.in_ok-push_verdict.ensures, c.in_ok-push_solution_begin.ensures)
          (simp append_assoc),
    )
