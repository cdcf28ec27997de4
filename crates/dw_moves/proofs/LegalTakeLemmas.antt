-- What a legal move takes, and where its paths land.
use Rattle.std.proofs.Common.{ℕ, ◌≤◌, zero, suc, List, [], ◌∷◌, sym, ap, ◌∙◌, subst, inl, inr, arith, None}
use Rattle.dw_board.specs.declared.piece.Piece.{Piece}
use Rattle.dw_board.specs.Geometry.{Geometry, IsBoard, OnBoard}
use Rattle.dw_board.specs.Placement.{Placement, IsPosition, placed}
use Rattle.std.specs.FinSet as fin
use Rattle.std.specs.Ordering.{nat_cmp}
use Rattle.dw_moves.specs.Laws.{LegalMovesTake}
use Rattle.dw_moves.specs.inner.MemberLemmas.{mem_at}
use Rattle.dw_moves.specs.Moves.{Jumps, Move, Legal, LegalAt}
use Rattle.dw_board.specs.Lists.{Member}
use Rattle.dw_board.specs.Placement.{other}
use Rattle.dw_moves.proofs.CaptureBoundLemmas.{path_bound}
use Rattle.dw_moves.proofs.FilledLemmas.{legal_count}
use Rattle.dw_moves.proofs.SquareSetLemmas.{len_list}
use Rattle.dw_moves.proofs.GroundLemmas.{side_fits}
use Rattle.dw_moves.proofs.MoveKeyLemmas.{jumps_long}
use Rattle.dw_moves.proofs.RayLemmas.{ray_of_on, landing_on_ray}

jumps_land : (g : Geometry) → IsBoard g → (p : Placement) (piece : Piece) (s : ℕ) (ts cs : List ℕ) → OnBoard g s
    → Jumps g p piece s ts cs → (x : ℕ) → Member x ts → OnBoard g x
jumps_land g b p piece s [] cs on jumps x m = absurd m
jumps_land g b p piece s (t ∷ ts) [] on jumps x m = absurd jumps
jumps_land g b p piece s (t ∷ ts) (c ∷ cs) on jumps x m =
    let next : OnBoard g t = ray_of_on g b g.rows s jumps.0.dir t on (landing_on_ray g p piece s c t jumps.0) in
    elim m [
      | inl e ↦ subst (OnBoard g) (sym e) next
      | inr later ↦ jumps_land g b p piece t ts cs next jumps.1 x later
    ]

-- a legal move takes at most twenty pieces
legal_small : (g : Geometry) → IsBoard g → (p : Placement) (m : Move) → IsPosition g p.cells → Legal g p m
    → fin.len m.taken ≤ 20
legal_small g board p m pos legal = at_k legal.0 legal.2 where
  at_k : (k : ℕ) → LegalAt g p k m → fin.len m.taken ≤ 20
  at_k zero h = omega (arith, ap fin.len h.1, fin.len-empty nat_cmp)
  at_k (suc k) h = omega (
    arith,
    ap fin.len h.1.takes,
    len_list h.1.over h.1.path.once,
    path_bound g p m.from h.0 h.1.over h.1.path,
    side_fits g p (other p.turn) pos,
    board.side_high,
  )

pub legal_moves_take : LegalMovesTake
legal_moves_take = record {
  taken = legal_count;
  few = legal_small;
  long = λ g p m k landings h. jumps_long g (placed p m.from None) h.path.piece m.from landings h.over h.path.jumps
      ∙ h.count;
  lands = λ g b p m k landings h. jumps_land g b (placed p m.from None) h.path.piece m.from landings h.over
      h.path.stands.on_board h.path.jumps;
  goes = λ g b p from to q. ray_of_on g b g.rows from q.dir to q.stands.on_board
      (subst (Member to) (sym q.on_ray) (mem_at to q.between q.beyond));
}
