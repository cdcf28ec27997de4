-- The content and the losses of a cache whose kind is chosen: those of the chosen cache.
use Rattle.std.specs.Prelude.{ℕ, []}
use Rattle.dw_memo.specs.Content.{Content}
use Rattle.dw_memo.specs.declared.any_memo.AnyMemo.{AnyMemo}
use Rattle.dw_memo.specs.declared.any_memo.AnyMemo.TheVariants.{None, Lru, Slots, Deep}

abbrev pub content_of : {B : Type 0} → AnyMemo B → Content
content_of (None memo) = []
content_of (Lru memo) = memo.content
content_of (Slots memo) = memo.content
content_of (Deep memo) = memo.content

abbrev pub dropped_of : {B : Type 0} → AnyMemo B → ℕ
dropped_of (None memo) = memo
dropped_of (Lru memo) = memo.dropped
dropped_of (Slots memo) = memo.dropped
dropped_of (Deep memo) = memo.dropped
