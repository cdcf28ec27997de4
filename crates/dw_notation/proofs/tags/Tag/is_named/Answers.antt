use Rattle.dw_notation.proofs.NameLemmas.{same_name-test}
use Rattle.dw_notation.proofs.tags.Tag.is_named.Goals as goal

pub returns : goal.returns
returns c = same_name-test _ _ _ c.eq_ignore_ascii_case.ensures.test
