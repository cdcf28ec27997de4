use Rattle.std.proofs.Common.{ℕ, ap}
use Rattle.dw_verdict.specs.Judging.{said_by}
use Rattle.dw_solution.specs.declared.heading.Heading.{Heading}
use Rattle.dw_solution.specs.declared.heading.VerdictKind.{VerdictKind}
use Rattle.dw_desk_commands.proofs.solution.solved_within.Goals as goal

abbrev headed : VerdictKind → ℕ → Heading
headed kind moves = record { kind = kind; moves = moves }

pub returns-clause-solved : goal.returns-clause-solved
returns-clause-solved g c =
    let n = c.args.moves.value in
    record {
      verdict = said_by c.args.verdict.now;
      is_verdict = c.requires.verdict;
      heads = ap (λ z. headed z n) c.kind_of.ensures;
      are_first = c.in_ok-first.ensures.lines;
      is = c.in_ok-movetext.ensures;
    }
