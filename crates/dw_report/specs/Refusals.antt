-- The reasons for the refusal of a problem.
use Rattle.std.specs.Prelude.{ℕ, List, ◌++◌, codes, decimal}
use Rattle.dw_board.specs.declared.fen.fault.FenFaultKind.{FenFaultKind}
use Rattle.dw_board.specs.declared.fen.fault.FenFaultKind.TheVariants.{Turn, Colon, Colour, Number, Twice, SameColour}
use Rattle.dw_board.specs.declared.fen.fault.FenFaultKind.TheVariants.{LastRow, TooMany, Rest, TooLong, RangeBackwards}
use Rattle.dw_notation.specs.declared.problems.ProblemFault.{ProblemFault}
use Rattle.dw_notation.specs.declared.problems.ProblemFault.TheVariants.{Fen, NoFen, TwoFens, WrongGame, LineTooLong}
use Rattle.dw_notation.specs.declared.problems.ProblemFault.TheVariants.{SectionTooLong, UnclosedTag, UnclosedComment}
use Rattle.dw_notation.specs.declared.problems.ProblemFault.TheVariants.{TooManyProblems}

-- the number and the name of a fault of a FEN text
abbrev pub fen_fault_text : FenFaultKind → List ℕ
fen_fault_text Turn = codes "1 turn"
fen_fault_text Colon = codes "2 colon"
fen_fault_text Colour = codes "3 colour"
fen_fault_text Number = codes "4 number"
fen_fault_text Twice = codes "5 twice"
fen_fault_text SameColour = codes "6 same colour"
fen_fault_text LastRow = codes "7 last row"
fen_fault_text TooMany = codes "8 too many"
fen_fault_text Rest = codes "9 rest"
fen_fault_text TooLong = codes "10 too long"
fen_fault_text RangeBackwards = codes "11 range backwards"

-- the reason for a refusal: the number and the name of its fault, and its place in a FEN text
abbrev pub refusal_text : ProblemFault → List ℕ
refusal_text (Fen fault) = codes "1 fen: " ++ fen_fault_text fault.what ++ codes " at " ++ decimal fault.place
refusal_text NoFen = codes "2 no fen"
refusal_text TwoFens = codes "3 two fens"
refusal_text WrongGame = codes "4 wrong game"
refusal_text LineTooLong = codes "5 line too long"
refusal_text SectionTooLong = codes "6 section too long"
refusal_text UnclosedTag = codes "7 unclosed tag"
refusal_text UnclosedComment = codes "8 unclosed comment"
refusal_text TooManyProblems = codes "9 too many problems"
