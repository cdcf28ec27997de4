-- Laws of forced wins, for every board.
use Rattle.std.specs.Prelude.{◌≡◌, ℕ, ◌+◌, ◌≤◌, ◌⊎◌, ◌↔◌, List, length}
use Rattle.dw_board.specs.Geometry.{Geometry, IsBoard}
use Rattle.dw_board.specs.Placement.{Placement}
use Rattle.dw_moves.specs.Moves.{Move}
use Rattle.dw_moves.specs.Replies.{HasSureReply, AlwaysReply}
use Rattle.dw_memo.specs.Content.{Content, IsMap}
use Rattle.dw_board.specs.Lists.{Member, NoRepeat}
use Rattle.dw_solve.specs.Wins.{Win, Lost}
use Rattle.dw_solve.specs.Lines.{Line}
use Rattle.dw_solve.specs.Facts.{IsClosed, AreTrue, IsDecided}
use Rattle.dw_solve.specs.Work.{Moment, decided_at, LossIsCounted, NothingLost, Searched}

-- a win within m moves is one within any n that is no smaller, and so is a loss
pub record WinsStay : Type 0 where
  pub win : (g : Geometry) (p : Placement) (m n : ℕ) → m ≤ n → Win g p m → Win g p n
  pub lost : (g : Geometry) (q : Placement) (m n : ℕ) → m ≤ n → Lost g q m → Lost g q n

-- there is a win or there is none
abbrev pub WinsAreDecided : Type 0
WinsAreDecided = (g : Geometry) (p : Placement) (n : ℕ) → Win g p n ⊎ (Win g p n → ⊥)

-- there is a line exactly if there is a win
abbrev pub WinsHaveLines : Type 0
WinsHaveLines = (g : Geometry) (p : Placement) (n : ℕ) → Win g p n ↔ ((l : List Move) × Line g p n l)

-- there is no win in one move if the other side always has a reply; so there is none if it has a sure one
pub record NoWinInOne : Type 0 where
  pub replied : (g : Geometry) (p : Placement) → AlwaysReply g p → Win g p 1 → ⊥
  pub sure : (g : Geometry) → IsBoard g → (p : Placement) → HasSureReply g p → Win g p 1 → ⊥

-- a closed content is true
abbrev pub ClosedIsTrue : Type 0
ClosedIsTrue = (g : Geometry) (c : Content) → IsClosed g c → AreTrue g c

-- for a content that is a map, `decided_at` is the number of positions that it decides at n
abbrev pub DecidedAreCounted : Type 0
DecidedAreCounted = (c : Content) (n : ℕ) → IsMap c →
    (ps : List Placement) × NoRepeat ps × ((p : Placement) → Member p ps ↔ IsDecided c p n)
    × (length ps ≡ decided_at c n)

-- searches one after another are one search; if it lost nothing, none of them did
pub record SearchesAddUp : Type 0 where
  pub none : (g : Geometry) (n : ℕ) (a : Moment) → Searched g n 0 a a
  pub next : (g : Geometry) (n s t : ℕ) (a b c : Moment) → Searched g n s a b → Searched g n t b c
      → Searched g n (s + t) a c
  pub wider : (g : Geometry) (n k s : ℕ) (a b : Moment) → n ≤ k → Searched g n s a b → Searched g k s a b
  pub parts : (a b c : Moment) → LossIsCounted a.lost b.lost → LossIsCounted b.lost c.lost → NothingLost a c
      → NothingLost a b × NothingLost b c
