-- The work of a run that judges problems.
use Rattle.std.specs.Prelude.{◌≡◌, ℕ, Option, Some}
use Rattle.dw_board.specs.Geometry.{Geometry}
use Rattle.dw_memo.specs.Content.{MayForget}
use Rattle.dw_solve.specs.Work.{Moment, Searched}

-- Searches for wins within n moves, after the memo was told to forget: it may have given up all of its entries, unless
-- it keeps them.
pub record SearchedAfresh (g : Geometry) (keeps : Type 0) (n cut : ℕ) (before after : Moment) : Type 0 where
  pub then : Moment
  pub forgot : MayForget before.content then.content
  pub kept : keeps → Searched g 0 0 before then
  pub lost : then.lost ≡ before.lost
  pub expanded : then.expanded ≡ before.expanded
  pub searched : Searched g n cut then after

-- The work of a run: all of its searches are one, if the memo keeps its entries. With any memo this holds from where it
-- forgot, if one problem alone is reported.
pub record Works (g : Geometry) (keeps : Type 0) (only : Option ℕ) (n cut : ℕ) (before after : Moment) : Type 0 where
  pub all : keeps → Searched g n cut before after
  pub one : (number : ℕ) → only ≡ Some number → SearchedAfresh g keeps n cut before after
