-- Problems that stand in a text for the second time.
use Rattle.std.specs.Prelude.{◌≡◌, ◌++◌, ◌∷◌, ℕ, List, Option, None, Some}
use Rattle.dw_board.specs.Geometry.{Geometry}
use Rattle.dw_board.specs.Lists.{Member}
use Rattle.dw_board.specs.Placement.{Placement}
use Rattle.dw_same.specs.Turning.{AreSame, turned}
use Rattle.dw_same.specs.declared.index.Repeat.{Repeat}
use Rattle.dw_same.specs.declared.index.Repeat.TheVariants.{Same, Turned}

-- a problem: its number, and its position
pub record Noted : Type 0 where
  pub number : ℕ
  pub position : Placement

-- a position repeats a problem: it is that problem's position, or that position turned
abbrev pub IsRepeatOf : Geometry → Placement → Repeat → Noted → Type 0
IsRepeatOf g p (Same number) problem = (number ≡ problem.number) × (p ≡ problem.position)
IsRepeatOf g p (Turned number) problem = (number ≡ problem.number) × (p ≡ turned g problem.position)

-- no problem has this position, and none has it turned
abbrev pub IsNew : Geometry → List Noted → Placement → Type 0
IsNew g problems p = (problem : Noted) → Member problem problems → AreSame g p problem.position → ⊥

-- a position repeats a problem, and none of those before it
pub record IsFirst (g : Geometry) (problems : List Noted) (p : Placement) (repeat : Repeat) : Type 0 where
  pub before : List Noted
  pub first : Noted
  pub behind : List Noted
  pub are : problems ≡ before ++ first ∷ behind
  pub repeats : IsRepeatOf g p repeat first
  pub new : IsNew g before p

-- how a position repeats the first problem that is the same, if there is one
abbrev pub IsFirstSame : Geometry → List Noted → Placement → Option Repeat → Type 0
IsFirstSame g problems p None = IsNew g problems p
IsFirstSame g problems p (Some repeat) = IsFirst g problems p repeat
