-- A position as sets of squares, and what its pieces meet and reach there.
use Rattle.std.specs.Prelude.{◌≡◌, ℕ, ◌⊎◌, ◌↔◌, Some, None, IsTrue, is_some}
use Rattle.dw_board.specs.declared.board.Dir.{Dir}
use Rattle.dw_board.specs.declared.piece.Side.{Side}
use Rattle.dw_board.specs.declared.piece.Kind.{Kind}
use Rattle.dw_board.specs.declared.piece.Kind.TheVariants.{Man, King}
use Rattle.dw_board.specs.declared.piece.Piece.{Piece}
use Rattle.dw_board.specs.Geometry.{Geometry, step, OnBoard, Squares}
use Rattle.dw_board.specs.Slides.{SlidesTo}
use Rattle.dw_board.specs.Placement.{Placement, at, placed, other}
use Rattle.dw_board.specs.Lists.{Member}
use Rattle.dw_moves.specs.Moves.{IsForward, Quiet, Stands, play, In, ray, Jump}
use Rattle.dw_moves.specs.inner.Plain.{quiet_to, takes_for}
use Rattle.dw_moves.specs.Replies.{HasSureReply}

-- the squares on which a side's pieces stand
abbrev pub AreOf : Geometry → Placement → Side → Squares → Type 0
AreOf g p side v = (s : ℕ) → In s v ↔ (OnBoard g s × ((k : Kind) × (at p s ≡ Some (record { side = side; kind = k }))))

-- the mover's men and kings, the pieces of the other side, and all pieces
pub record AreSets (g : Geometry) (p : Placement) (men kings enemies occupied : Squares) : Type 0 where
  pub of_men : (s : ℕ) → In s men ↔ (OnBoard g s × (at p s ≡ Some (record { side = p.turn; kind = Man })))
  pub of_kings : (s : ℕ) → In s kings ↔ (OnBoard g s × (at p s ≡ Some (record { side = p.turn; kind = King })))
  pub of_enemies : AreOf g p (other p.turn) enemies
  pub of_all : (s : ℕ) → In s occupied ↔ (OnBoard g s × ((q : Piece) × (at p s ≡ Some q)))

-- the squares on which a piece stands
abbrev pub IsOccupied : Geometry → Placement → Squares → Type 0
IsOccupied g p occupied = (s : ℕ) → In s occupied ↔ (OnBoard g s × IsTrue (is_some (at p s)))

-- the pieces of the other side than this one, and all pieces
pub record IsGround (g : Geometry) (p : Placement) (side : Side) (enemies occupied : Squares) : Type 0 where
  pub of_enemies : AreOf g p (other side) enemies
  pub of_all : IsOccupied g p occupied

-- after n steps over empty squares the next square is c, and an enemy stands there
abbrev pub MeetsBehind : Geometry → Squares → Squares → Squares → Dir → ℕ → ℕ → Type 0
MeetsBehind g from enemies occupied d n c =
    (s : ℕ) × SlidesTo g from occupied d n s × (step g s d ≡ Some c) × In c enemies

-- a man meets an enemy on the next square
abbrev pub MenMeet : Geometry → Squares → Squares → Squares → Dir → ℕ → Type 0
MenMeet g men enemies occupied d c = MeetsBehind g men enemies occupied d 0 c

-- a king meets an enemy on the first square that is not empty
abbrev pub KingsMeet : Geometry → Squares → Squares → Squares → Dir → ℕ → Type 0
KingsMeet g kings enemies occupied d c = (n : ℕ) × MeetsBehind g kings enemies occupied d n c

-- a jump in this direction
abbrev pub JumpsTowards : Geometry → Placement → Piece → (from over to : ℕ) → Dir → Type 0
JumpsTowards g p piece s c t d = (j : Jump g p piece s c t) × (j.dir ≡ d)

-- a man meets an enemy in this direction, and the next square after it, t, is empty
abbrev pub MenTake : Geometry → Squares → Squares → Squares → Dir → ℕ → Type 0
MenTake g men enemies occupied d t =
    (c : ℕ) × MenMeet g men enemies occupied d c × (step g c d ≡ Some t) × (In t occupied → ⊥)

-- a king meets an enemy in this direction, and the next square after it, t, is empty
abbrev pub KingsTake : Geometry → Squares → Squares → Squares → Dir → ℕ → Type 0
KingsTake g kings enemies occupied d t =
    (c : ℕ) × KingsMeet g kings enemies occupied d c × (step g c d ≡ Some t) × (In t occupied → ⊥)

-- in this direction an enemy is met, and the square after it is empty
abbrev pub Takes : Geometry → Squares → Squares → Squares → Squares → Dir → Type 0
Takes g men kings enemies occupied d =
    (c : ℕ) × (t : ℕ) × (MenMeet g men enemies occupied d c ⊎ KingsMeet g kings enemies occupied d c)
    × (step g c d ≡ Some t) × (In t occupied → ⊥)

-- in this direction the next square of a king is empty, or of a man that goes forward
abbrev pub Steps : Geometry → Side → Squares → Squares → Squares → Dir → Type 0
Steps g side men kings occupied d = (s : ℕ) × (t : ℕ) × ((In s men × IsForward side d) ⊎ In s kings)
    × (step g s d ≡ Some t) × (In t occupied → ⊥)

-- such a step leads from s to t
abbrev pub StepsFrom : Geometry → Side → Squares → Squares → Squares → Dir → ℕ → ℕ → Type 0
StepsFrom g side men kings occupied d s t =
    ((In s men × IsForward side d) ⊎ In s kings) × (step g s d ≡ Some t) × (In t occupied → ⊥)

-- such a step leads to t
abbrev pub StepsOn : Geometry → Side → Squares → Squares → Squares → Dir → ℕ → Type 0
StepsOn g side men kings occupied d t =
    (s : ℕ) × ((In s men × IsForward side d) ⊎ In s kings) × (step g s d ≡ Some t) × (In t occupied → ⊥)

-- a set has two members at least
abbrev pub HasTwo : Squares → Type 0
HasTwo v = (s : ℕ) × (t : ℕ) × In s v × In t v × (s ≡ t → ⊥)

-- there is a quiet move
abbrev pub CanStep : Geometry → Placement → Type 0
CanStep g p = (from : ℕ) × (to : ℕ) × Quiet g p from to

-- a capture begins on this square in this direction
abbrev pub CanTakeTowards : Geometry → Placement → Dir → ℕ → Type 0
CanTakeTowards g p d s = (c : ℕ) × (t : ℕ) × (piece : Piece) × Stands g p s piece
    × Member (c, t) (takes_for piece.kind (placed p s None) piece.side (ray g s d))

-- no step in this direction, except those onto the squares `but`, is followed by a sure reply
abbrev pub NoneSure : Geometry → Placement → Squares → Squares → Squares → Dir → Squares → Type 0
NoneSure g p men kings occupied d but =
    (s t : ℕ) → StepsFrom g p.turn men kings occupied d s t → (In t but → ⊥)
    → HasSureReply g (play g p (quiet_to s t)) → ⊥
