-- Three sets tell of the same as the sets of each side and kind.
use Rattle.std.proofs.Common.{◌≡◌, ◌∙◌, ◌-◌, ℕ, Bool, true, false, ◌&&◌, ◌||◌, not, leb, List, Option, Some, None}
use Rattle.std.proofs.Common.{get_or, refl, sym, subst}
use Rattle.std.specs.FinSet as set
use Rattle.std.specs.Cmp.{nat_cmp_total}
use Rattle.dw_board.specs.declared.piece.Side.{Side}
use Rattle.dw_board.specs.declared.piece.Side.TheVariants.{White, Black}
use Rattle.dw_board.specs.declared.piece.Kind.{Kind}
use Rattle.dw_board.specs.declared.piece.Kind.TheVariants.{Man, King}
use Rattle.dw_board.specs.declared.piece.Piece.{Piece}
use Rattle.dw_board.specs.Geometry.{Geometry, Squares}
use Rattle.dw_board.specs.PieceSets.{is_that, standing, IsKept}
use Rattle.dw_board.specs.inner.PieceSetLemmas.{contains-standing}
use Rattle.dw_board.specs.Packing.{parted, packed_cells, all_standing, kings_standing, IsPacked}
use Rattle.dw_board.proofs.PieceSetLemmas.{cells_again}

abbrev Cells : Type 0
Cells = List (Option Piece)

-- ---- one square
-- whether a square is in the set of a side and a kind, by whether it is in the three
abbrev told_by : Bool → Bool → Bool → Side → Kind → Bool
told_by white black king White Man = white && not king
told_by white black king White King = white && king
told_by white black king Black Man = black && not king
told_by white black king Black King = black && king

contains-parted : (white black kings : Squares) (side : Side) (kind : Kind) (q : ℕ)
    → set.contains (parted white black kings side kind) q
    ≡ told_by (set.contains white q) (set.contains black q) (set.contains kings q) side kind
contains-parted white black kings White Man q = set.contains-difference nat_cmp_total white kings q
contains-parted white black kings White King q = set.contains-intersection nat_cmp_total white kings q
contains-parted white black kings Black Man q = set.contains-difference nat_cmp_total black kings q
contains-parted white black kings Black King q = set.contains-intersection nat_cmp_total black kings q

-- whether a piece of one of two sorts stands on a square
abbrev either : Bool → Option Piece → Side → Kind → Side → Kind → Bool
either on o side kind other sort = (on && is_that side kind o) || (on && is_that other sort o)

abbrev told_of : Bool → Option Piece → Side → Kind → Bool
told_of on o = told_by (either on o White Man White King) (either on o Black Man Black King)
    (either on o White King Black King)

told_off : (o : Option Piece) (side : Side) (kind : Kind) → told_of false o side kind ≡ false
told_off o White Man = refl
told_off o White King = refl
told_off o Black Man = refl
told_off o Black King = refl

told_none : (side : Side) (kind : Kind) → told_of true None side kind ≡ false
told_none White Man = refl
told_none White King = refl
told_none Black Man = refl
told_none Black King = refl

told_some : (s : Side) (k : Kind) (side : Side) (kind : Kind)
    → (let o : Option Piece = Some (record { side = s; kind = k }) in told_of true o side kind ≡ is_that side kind o)
told_some White Man White Man = refl
told_some White Man White King = refl
told_some White Man Black Man = refl
told_some White Man Black King = refl
told_some White King White Man = refl
told_some White King White King = refl
told_some White King Black Man = refl
told_some White King Black King = refl
told_some Black Man White Man = refl
told_some Black Man White King = refl
told_some Black Man Black Man = refl
told_some Black Man Black King = refl
told_some Black King White Man = refl
told_some Black King White King = refl
told_some Black King Black Man = refl
told_some Black King Black King = refl

told : (on : Bool) (o : Option Piece) (side : Side) (kind : Kind) → told_of on o side kind ≡ (on && is_that side kind o)
told false o side kind = told_off o side kind
told true None side kind = told_none side kind
told true (Some p) side kind = told_some p.side p.kind side kind

-- ---- all squares
contains-either : (cells : Cells) (side : Side) (kind : Kind) (other : Side) (sort : Kind) (q : ℕ)
    → set.contains (set.union (standing cells side kind) (standing cells other sort)) q
    ≡ either (leb 1 q && leb q 50) (get_or cells (q - 1) None) side kind other sort
contains-either cells side kind other sort q = set.contains-union nat_cmp_total (standing cells side kind)
    (standing cells other sort) q
    ∙ rw (contains-standing cells side kind q, contains-standing cells other sort q) refl

-- the three sets of cells give back the sets of each side and kind
pub parted_standing : (cells : Cells) (side : Side) (kind : Kind)
    → parted (all_standing cells White) (all_standing cells Black) (kings_standing cells) side kind
    ≡ standing cells side kind
parted_standing cells side kind = set.same_set nat_cmp_total set.nat_cmp-IsAntisymmetric _ _ (λ q.
    contains-parted (all_standing cells White) (all_standing cells Black) (kings_standing cells) side kind q
    ∙ (rw (
      contains-either cells White Man White King q,
      contains-either cells Black Man Black King q,
      contains-either cells White King Black King q,
    )
    (told (leb 1 q && leb q 50) (get_or cells (q - 1) None) side kind)
    ∙ sym (contains-standing cells side kind q)))

-- ---- from four sets to three
module _ (g : Geometry) (cells : Cells) (sets : Side → Kind → Squares) (white black kings : Squares)
    (is : IsKept g cells sets)
    (white_is : white ≡ set.union (sets White Man) (sets White King)) (black_is : black
    ≡ set.union (sets Black Man) (sets Black King))
    (kings_are : kings ≡ set.union (sets White King) (sets Black King)) where
  pub packed : IsPacked g cells white black kings
  packed = record {
    position = is.position;
    white_is = (λ i. set.union (is.standing_is White Man i) (is.standing_is White King i)) ∙ sym white_is;
    black_is = (λ i. set.union (is.standing_is Black Man i) (is.standing_is Black King i)) ∙ sym black_is;
    kings_are = (λ i. set.union (is.standing_is White King i) (is.standing_is Black King i)) ∙ sym kings_are;
  }

-- ---- from three sets to four
pub parted_kept : (g : Geometry) (cells : Cells) (sets : Side → Kind → Squares) (white black kings : Squares)
    → IsPacked g cells white black kings
    → ((side : Side) (kind : Kind) → sets side kind ≡ parted white black kings side kind) → IsKept g cells sets
parted_kept g cells sets white black kings is are = record {
  position = is.position;
  standing_is = λ side kind. sym (parted_standing cells side kind)
      ∙ ((λ i. parted (is.white_is i) (is.black_is i) (is.kings_are i) side kind) ∙ sym (are side kind));
}

-- packed cells are again those that they were packed from
pub packed_again : (g : Geometry) (cells : Cells) (white black kings : Squares) → IsPacked g cells white black kings
    → packed_cells white black kings ≡ cells
packed_again g cells white black kings is =
    cells_again g cells (parted white black kings) (parted_kept g cells (parted white black kings) white black kings is
    (λ side kind. refl))

pub packed-again : (g : Geometry) (cells : Cells) (white black kings : Squares) → IsPacked g cells white black kings
    → IsPacked g (packed_cells white black kings) white black kings
packed-again g cells white black kings is =
    subst (λ c. IsPacked g c white black kings) (sym (packed_again g cells white black kings is)) is
