use Rattle.dw_report.proofs.TextLemmas.{Laws, texts_some, report_some, report_only}
use Rattle.dw_report.proofs.laws.one_report.Goals as goal

pub returns : goal.returns
returns c =
    let laws : Laws = record {
      order = c.moves_in_order.ensures;
      keys = c.moves_have_keys.ensures;
      best = c.one_best.ensures;
      verdicts = c.one_verdict.ensures;
      tries = c.tries_are_listed.ensures;
      exist = c.lines_exist.ensures;
      place = c.line_or_place.ensures;
      moves = c.moves_have_texts.ensures;
      lines = c.lines_have_texts.ensures;
    } in
    let problems = c.texts_have_problems.ensures in
    record {
      texts = texts_some laws;
      some = report_some laws problems;
      only = report_only laws problems;
    }
