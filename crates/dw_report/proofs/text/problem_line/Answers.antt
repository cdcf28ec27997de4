use Rattle.std.proofs.Common.{ap, length, arith}
use Rattle.dw_report.proofs.text.problem_line.Goals.{in-Ok, in-Err}
use Rattle.dw_report.proofs.text.problem_line.Goals as goal

pub push_str-requires-in-Ok : goal.push_str-requires-in-Ok
push_str-requires-in-Ok g c = (
  omega arith,
  omega (
    arith,
    c.push_str-3.ensures.len,
    c.push_str-2.ensures.len,
    c.push_str.ensures.len,
    ap length c.new-line.ensures,
    c.format.ensures.short,
    c.as_str.ensures.fits,
  ),
)

pub push_str-requires-in-Err : goal.push_str-requires-in-Err
push_str-requires-in-Err g c = (
  omega arith,
  omega (
    arith,
    c.push_str-3.ensures.len,
    c.push_str-2.ensures.len,
    c.push_str.ensures.len,
    ap length c.new-line.ensures,
    c.format.ensures.short,
    c.as_str-in-Err.ensures.fits,
  ),
)

pub push_str-requires-4 : goal.push_str-requires-4
push_str-requires-4 g c =
    elim c.match-problem.branch [
      | in-Ok w ↦ (
        omega arith,
        omega (
          arith,
          ap (λ t. length t.bytes) w.line-is,
          w.push_str-in-Ok.ensures.len,
          c.push_str-3.ensures.len,
          c.push_str-2.ensures.len,
          c.push_str.ensures.len,
          ap length c.new-line.ensures,
          c.format.ensures.short,
          w.as_str.ensures.fits,
        ),
      )
      | in-Err w ↦ (
        omega arith,
        omega (
          arith,
          ap (λ t. length t.bytes) w.line-is,
          w.push_str-in-Err.ensures.len,
          c.push_str-3.ensures.len,
          c.push_str-2.ensures.len,
          c.push_str.ensures.len,
          ap length c.new-line.ensures,
          c.format.ensures.short,
          w.as_str-in-Err.ensures.fits,
        ),
      )
    ]
