-- What holds in one of the four directions.
use Rattle.std.proofs.Common.{◌⊎◌, inl, inr}
use Rattle.dw_board.specs.declared.board.Dir.{Dir}
use Rattle.dw_board.specs.declared.board.Dir.TheVariants.{UpLeft, UpRight, DownLeft, DownRight}

-- in one of these four, one after another
abbrev pub OneOf : (Dir → Type 0) → Dir → Dir → Dir → Dir → Type 0
OneOf P a b c d = ((P a ⊎ P b) ⊎ P c) ⊎ P d

pub which : (P : Dir → Type 0) (a b c d : Dir) → OneOf P a b c d → (e : Dir) × P e
which P a b c d (inl (inl (inl h))) = (a, h)
which P a b c d (inl (inl (inr h))) = (b, h)
which P a b c d (inl (inr h)) = (c, h)
which P a b c d (inr h) = (d, h)

pub from_above : (P : Dir → Type 0) (e : Dir) → P e → OneOf P UpLeft UpRight DownLeft DownRight
from_above P UpLeft h = inl (inl (inl h))
from_above P UpRight h = inl (inl (inr h))
from_above P DownLeft h = inl (inr h)
from_above P DownRight h = inr h

pub from_below : (P : Dir → Type 0) (e : Dir) → P e → OneOf P DownLeft DownRight UpLeft UpRight
from_below P DownLeft h = inl (inl (inl h))
from_below P DownRight h = inl (inl (inr h))
from_below P UpLeft h = inl (inr h)
from_below P UpRight h = inr h
