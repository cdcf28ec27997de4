use Rattle.dw_notation.proofs.TagFrontLemmas.{one_tag_at_front}
use Rattle.dw_notation.proofs.laws.one_tag_at_front.Goals as goal

pub returns : goal.returns
returns c = one_tag_at_front
