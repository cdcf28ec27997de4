-- The meaning of the words that users name: boards, memos, languages, and where solutions stand.
use Rattle.std.specs.Prelude.{ℕ, if◌then◌else◌, Option, Some, None, List, codes}
use Rattle.std.specs.Str.{bytes_eq}
use Rattle.dw_arguments.specs.declared.choices.BoardSize.{BoardSize}
use Rattle.dw_arguments.specs.declared.choices.BoardSize.TheVariants.{Ten, Eight}
use Rattle.dw_arguments.specs.declared.choices.MemoKind.{MemoKind}
use Rattle.dw_arguments.specs.declared.choices.MemoKind.TheVariants as kinds
use Rattle.dw_arguments.specs.declared.choices.PageLanguage.{PageLanguage}
use Rattle.dw_arguments.specs.declared.choices.PageLanguage.TheVariants.{English, Dutch, French, Russian}
use Rattle.dw_arguments.specs.declared.choices.PageTries.{PageTries}
use Rattle.dw_arguments.specs.declared.choices.PageTries.TheVariants as tries
use Rattle.dw_arguments.specs.declared.choices.Placing.{Placing}
use Rattle.dw_arguments.specs.declared.choices.Placing.TheVariants as places

-- the board of this number of rows: 8 rows if they are named, or else 10
abbrev pub board_named : (rows : Option (List ℕ)) → BoardSize
board_named (Some rows) = if bytes_eq rows (codes "8") then Eight else Ten
board_named None = Ten

-- the memo of a name, the one of the positions used last if it is none of the others
abbrev pub memo_named : (kind : Option (List ℕ)) → MemoKind
memo_named (Some kind) = if bytes_eq kind (codes "none") then kinds.None else if bytes_eq kind (codes "slots")
    then kinds.Slots else if bytes_eq kind (codes "deep") then kinds.Deep else kinds.Lru
memo_named None = kinds.Lru

-- the language of a name, English if it is none of the others
abbrev pub language_named : (name : Option (List ℕ)) → PageLanguage
language_named (Some name) = if bytes_eq name (codes "nl") then Dutch else if bytes_eq name (codes "fr") then French
    else if bytes_eq name (codes "ru") then Russian else English
language_named None = English

-- the place of a name, after each problem if it is none of the others
abbrev pub placing_named : (name : Option (List ℕ)) → Placing
placing_named (Some name) = if bytes_eq name (codes "end") then places.End else if bytes_eq name (codes "none")
    then places.None else places.After
placing_named None = places.After

-- the tries of a name: none for `none`, else all
abbrev pub tries_named : (name : Option (List ℕ)) → PageTries
tries_named (Some name) = if bytes_eq name (codes "none") then tries.None else tries.All
tries_named None = tries.All
