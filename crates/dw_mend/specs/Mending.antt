-- The sound neighbours of a position.
use Rattle.std.specs.Prelude.{◌≡◌, ℕ, ◌+◌, ◌*◌, ◌≤◌, ◌⊎◌, Option, Some, None, List, [], ◌∷◌}
use Rattle.std.specs.Prelude.{◌++◌, length, take, IfSome}
use Rattle.dw_board.specs.Geometry.{Geometry}
use Rattle.dw_board.specs.Placement.{Placement}
use Rattle.dw_moves.specs.Moves.{Move}
use Rattle.dw_verdict.specs.Verdict.{IsVerdict, sound}
use Rattle.dw_mend.specs.Changes.{Change, AreNeighbours}
use Rattle.dw_mend.specs.MendText.{IsLineOf, last_line}
use Rattle.dw_mend.specs.declared.rows.Wording.{Wording}
use Rattle.dw_parts.specs.Parts.{part_of}

-- how many neighbours are sound, how many are undecided, and how many positions were expanded for them
pub record Counts : Type 0 where
  pub sound : ℕ
  pub undecided : ℕ
  pub expanded : ℕ

-- The lines and the counts of neighbours: each sound one has its line, in their order; one that is not, or that is
-- undecided, has none. A bound on the positions for each holds, and an undecided one has used it up.
abbrev pub AreMended : Wording → Geometry → (n : ℕ) → (each : Option ℕ) → List (Change × Placement) → List ℕ → Counts
    → Type 0
AreMended w g n each [] text counts =
    (text ≡ []) × (counts.sound ≡ 0) × (counts.undecided ≡ 0) × (counts.expanded ≡ 0)
AreMended w g n each (x ∷ xs) text counts = (rest : List ℕ) × (others : Counts) × (spent : ℕ)
    × AreMended w g n each xs rest others × (counts.expanded ≡ spent + others.expanded)
    × IfSome each (λ bound. spent ≤ bound)
    × (((key : Move) × (line : List ℕ) × IsVerdict g x.1 n (sound key) × IsLineOf w g n x key line
    × (text ≡ line ++ rest) × (counts.sound ≡ others.sound + 1) × (counts.undecided ≡ others.undecided))
    ⊎ ((((key : Move) → IsVerdict g x.1 n (sound key) → ⊥) × (text ≡ rest) × (counts.sound ≡ others.sound)
    × (counts.undecided ≡ others.undecided))
    ⊎ ((text ≡ rest) × (counts.sound ≡ others.sound) × (counts.undecided ≡ others.undecided + 1)
    × (each ≡ Some spent))))

-- With a bound on the positions for each neighbour, that many were expanded for each undecided one, and no more for
-- any. Without a bound none is undecided.
abbrev pub AreBounded : (each : Option ℕ) → (all undecided before after : ℕ) → Type 0
AreBounded None all undecided before after = undecided ≡ 0
AreBounded (Some bound) all undecided before after =
    (before + undecided * bound ≤ after) × (after ≤ before + all * bound)

-- The text for a position after a number of expansions: the lines of its sound neighbours in the part i of m, and the
-- line that counts them.
pub record IsMendText (w : Wording) (g : Geometry) (p : Placement) (n : ℕ) (each : Option ℕ)
    (i m all sound undecided expanded : ℕ) (text : List ℕ) : Type 0 where
  pub neighbours : List (Change × Placement)
  pub are : AreNeighbours g p neighbours
  pub lines : List ℕ
  pub mended : AreMended w g n each (part_of i m neighbours) lines
      (record { sound = sound; undecided = undecided; expanded = expanded })
  pub count : all ≡ length (part_of i m neighbours)
  pub is : text ≡ lines ++ last_line w all sound undecided

-- the output after a stop: the lines of the sound ones among some first neighbours
pub record IsMendStop (w : Wording) (g : Geometry) (n : ℕ) (each : Option ℕ) (neighbours : List (Change × Placement))
    (text : List ℕ) : Type 0 where
  pub some : ℕ
  pub counts : Counts
  pub mended : AreMended w g n each (take some neighbours) text counts
