-- The problems and the parts that texts name.
use Rattle.std.specs.Prelude.{ℕ, ◌+◌, ◌==◌, nat_le, if◌then◌else◌, Option, Some, None, option_map, option_and_then}
use Rattle.std.specs.Prelude.{List, take, drop}
use Rattle.std.specs.List.{position}
use Rattle.dw_arguments.specs.Options.{number_within}

-- the bytes before the first of these marks, and the bytes after it
abbrev pub parts_at : (mark : ℕ) → List ℕ → Option (List ℕ × List ℕ)
parts_at mark text = option_map (λ i. (take i text, drop (i + 1) text)) (position (λ b. b == mark) text)

-- the number of a problem that a text writes
abbrev pub problem_in : List ℕ → Option ℕ
problem_in text = number_within 1 1000000 text

-- the numbers of a portion from the first to the last, if both are there and the last is not less
abbrev pub from_to : Option ℕ → Option ℕ → Option (ℕ × Option ℕ)
from_to (Some first) (Some last) = if nat_le first last then Some (first, Some last) else None
from_to (Some first) None = None
from_to None last = None

-- the first and the last number of `I-J`, or of a text without a dash, which is the number of both
abbrev pub numbers_in : List ℕ → Option (List ℕ × List ℕ) → Option (ℕ × Option ℕ)
numbers_in text (Some parts) = from_to (problem_in parts.0) (problem_in parts.1)
numbers_in text None = from_to (problem_in text) (problem_in text)

-- the first and the last problem that a text names; all from the first on if there is no text
abbrev pub portion_named : Option (List ℕ) → Option (ℕ × Option ℕ)
portion_named (Some text) = numbers_in text (parts_at 45 text)
portion_named None = Some (1, None)

-- the part and how many there are, of `I/M`
abbrev pub part_in : List ℕ × List ℕ → Option (ℕ × ℕ)
part_in parts = option_and_then (λ most. option_map (λ part. (part, most)) (number_within 1 most parts.0))
    (number_within 1 1000000 parts.1)

-- the part that a text names; the only one if there is no text
abbrev pub part_named : Option (List ℕ) → Option (ℕ × ℕ)
part_named (Some text) = option_and_then part_in (parts_at 47 text)
part_named None = Some (1, 1)
