-- How the code reads a FEN text.
use Rattle.std.specs.Prelude.{ℕ, Bool, Result, List}
use Rattle.dw_board.specs.Geometry.{Geometry}
use Rattle.dw_board.specs.Placement.{Placement}
use Rattle.dw_board.specs.FenTokens.{Token}
use Rattle.dw_board.specs.declared.piece.Side.{Side}
use Rattle.dw_board.specs.declared.fen.fault.FenFault.{FenFault}
use Rattle.dw_board.specs.Fen.{◌>>=◌, Listing, Item, with_item, read_from, AfterItem}

abbrev pub listing : Side → Bool → Placement → Listing
listing side second p = record { side = side; is_second = second; placed = p }

-- the result of reading on after an item that ends with this square
abbrev pub read_behind : Geometry → ℕ → Listing → Item → ℕ → List Token → Result Placement FenFault
read_behind g end list item to tokens = with_item g list item to >>= λ all. read_from g end (AfterItem all) tokens
