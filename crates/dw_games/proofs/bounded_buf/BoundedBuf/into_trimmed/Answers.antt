use Rattle.std.proofs.Common.{length, take, List, ℕ, subst, ap, ◌∙◌}
use Rattle.std.specs.Str.{IsTrimAsciiEnd}
use Rattle.dw_games.proofs.TrimLemmas.{cut_to_trimmed}
use Rattle.dw_games.proofs.bounded_buf.BoundedBuf.into_trimmed.Goals as goal

pub returns : goal.returns
returns c =
    let trimmed = c.trim_ascii_end-size.result.now in
    cut_to_trimmed c.args.self.bytes.items trimmed c.truncate.new.self.items
    (subst (λ (l : List ℕ). IsTrimAsciiEnd l trimmed) (c.as_slice.ensures.value ∙ c.into_bytes-bytes.ensures)
    c.trim_ascii_end-size.ensures.value)
    (c.truncate.ensures.items ∙ ap (take (length trimmed)) c.into_bytes-bytes.ensures)
