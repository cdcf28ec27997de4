use Rattle.std.proofs.Common.{ap, map, ◌∙◌}
use Rattle.std.specs.List.{join_by}
use Rattle.std.specs.String.{string_bytes}
use Rattle.dw_report.specs.inner.JoinedLemmas.{join_texts}
use Rattle.dw_report.proofs.move_texts.joined_text.Goals as goal

pub returns : goal.returns
returns g c =
    let texts = c.in_ok-texts.texts.items in (
      map string_bytes texts,
      c.in_ok-texts.ensures,
      c.in_ok-text.ensures.ok ∙ (ap (join_by string_bytes c.args.mark.now) c.as_slice.ensures.value
          ∙ join_texts string_bytes c.args.mark.now texts),
    )
