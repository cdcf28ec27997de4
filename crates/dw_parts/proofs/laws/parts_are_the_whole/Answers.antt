use Rattle.dw_parts.proofs.PartLemmas.{whole}
use Rattle.dw_parts.proofs.laws.parts_are_the_whole.Goals as goal

pub returns : goal.returns
returns g c = whole _
