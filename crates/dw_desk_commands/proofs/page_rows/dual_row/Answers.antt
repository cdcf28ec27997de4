use Rattle.std.proofs.Common.{◌≡◌, ◌+◌, ◌/◌, ◌∙◌, ap, append-nil, arith, length, map, refl}
use Rattle.std.specs.Prelude.{codes}
use Rattle.std.specs.List.{join_by}
use Rattle.std.specs.String.{string_bytes}
use Rattle.dw_report.specs.inner.JoinedLemmas.{join_texts}
use Rattle.dw_desk_commands.proofs.page_rows.dual_row.Goals as goal

pub returns : goal.returns
returns g c = λ n.
    let d = c.requires.dual.1.1 in
    let texts = c.in_ok-line.texts.items in
    let half : length c.args.at.now / 2 + 1 ≡ d.turns + 1 = omega (arith, d.even) in
    let choices = c.as_str-2.ensures.value
    ∙ (c.in_ok-choices.ensures.ok ∙ (ap (join_by string_bytes (codes " / ")) c.as_slice.ensures.value
    ∙ join_texts string_bytes (codes " / ") texts)) in (
      d.turns,
      string_bytes c.in_ok-line.line,
      map string_bytes texts,
      d.even,
      c.in_ok-line.ensures,
      rw (
        c.in_ok-row.ensures.ok,
        c.phrase.ensures,
        c.as_str.ensures.value,
        c.format.ensures.text,
        half,
        choices,
        append-nil,
      ) refl,
    )
