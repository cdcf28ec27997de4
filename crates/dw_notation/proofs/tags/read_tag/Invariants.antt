use Rattle.dw_notation.specs.inner.TagReading.{ReadsTag}
use Rattle.dw_notation.proofs.tags.read_tag.Given as goal

abbrev pub invariant-bytes : goal.invariant-bytes
invariant-bytes l = ReadsTag l.inside l.i l.state l.named l.value.items
