-- Arguments that are separated by line feeds.
use Rattle.std.specs.Prelude.{ℕ, ◌==◌, if◌then◌else◌, List, Option, Some, None, codes, take}
use Rattle.std.specs.List.{position}
use Rattle.std.specs.Option.{option_map_or}
use Rattle.std.specs.Str.{bytes_eq}
use Rattle.dw_web.specs.declared.words.Program.{Program}
use Rattle.dw_web.specs.declared.words.Program.TheVariants.{Report, Desk}

-- the bytes up to the first line feed
abbrev pub first_word : List ℕ → List ℕ
first_word arguments = option_map_or (λ end. take end arguments) (position (λ byte. byte == 10) arguments) arguments

-- the program of this name
abbrev pub program_named : List ℕ → Option Program
program_named name =
    if bytes_eq name (codes "dw") then Some Report
    else if bytes_eq name (codes "dw-desk") then Some Desk
    else None

-- the program that the first word names
abbrev pub program_in : List ℕ → Option Program
program_in arguments = program_named (first_word arguments)
