-- A step of one square goes on where its piece is not taken and no piece comes to where it leads.
use Rattle.std.proofs.Common.{◌≡◌, ℕ, ◌||◌, zero, suc, [], false, refl, sym, ap, ◌∙◌, inl, inr, arith, cond, None}
use Rattle.std.proofs.lemmas.Bool.{cases_eq, ne_eqb}
use Rattle.std.specs.FinSet as fin
use Rattle.std.specs.Ordering.{nat_cmp}
use Rattle.dw_board.specs.declared.piece.Piece.{Piece}
use Rattle.dw_board.specs.Geometry.{Geometry, IsBoard, OnBoard}
use Rattle.dw_board.specs.Placement.{Placement, at}
use Rattle.dw_moves.specs.Moves.{Move, Quiet, Stands, Legal, LegalAt, IsBest, play, ray}
use Rattle.dw_moves.specs.Replies.{passed, OneStep, TwoSteps, IsLoose, AlwaysReply}
use Rattle.dw_moves.specs.Laws.{StepsAreQuiet}
use Rattle.dw_moves.proofs.StepLemmas.{none_some, some_inj, step_is}
use Rattle.dw_moves.proofs.GroundLemmas.{apart_sides}
use Rattle.dw_moves.proofs.RayLemmas.{ray_some}
use Rattle.dw_moves.proofs.HasMoveLemmas.{step_moves}
use Rattle.dw_moves.proofs.SquareSetLemmas.{contains-insert}
use Rattle.dw_moves.proofs.PlayStaysLemmas.{emptied, play_at, past_none, legal_ends}

pub step_quiet : StepsAreQuiet
step_quiet g b p s t h = record {
  piece = h.piece;
  stands = h.stands;
  dir = h.dir;
  between = [];
  beyond = ray g t h.dir;
  on_ray = ray_some g b s t h.dir h.stands.on_board h.leads;
  clear = tt;
  free = h.free;
  man = λ q. (refl, h.man q);
}

module _ (g : Geometry) (b : IsBoard g) (p : Placement) where
  -- the other side's piece stands neither where the move begins nor where it ends
  begins_apart : (from s : ℕ) (piece : Piece) → Stands g p from piece → (q : Piece) → Stands g (passed p) s q → s ≡ from
      → ⊥
  begins_apart from s piece own q theirs e =
      let same : piece ≡ q = some_inj (sym own.there ∙ (ap (at p) (sym e) ∙ theirs.there)) in
      apart_sides p.turn (sym own.own ∙ (ap (λ z. z.side) same ∙ theirs.own))

  -- a square that a move does not empty and where it does not end
  stays_at : (m : Move) → OnBoard g m.to → (s : ℕ) → OnBoard g s → (s ≡ m.to → ⊥) → (s ≡ m.from → ⊥)
      → fin.contains m.taken s ≡ false → at (play g p m) s ≡ at p s
  stays_at m to s on ne ne_from out =
      let same : fin.contains (emptied m) s ≡ false = contains-insert m.taken m.from s
      ∙ (ap (λ z. z || fin.contains m.taken s) (ne_eqb s m.from ne_from) ∙ out) in
      play_at g p m s on.0 (omega (arith, on.1, b.squares_high)) ne to.0 ∙ ap (λ z. cond z None (at p s)) same

  pub step_stays : (m : Move) (piece : Piece) → Stands g p m.from piece → OnBoard g m.to → (s t : ℕ)
      → OneStep g (passed p) s t → (s ≡ m.to → ⊥) → (t ≡ m.to → ⊥) → fin.contains m.taken s ≡ false
      → OneStep g (play g p m) s t
  step_stays m piece own to s t h s_apart t_apart out =
      let on : OnBoard g s = h.stands.on_board in
      let t_on : OnBoard g t = (step_is g b s t h.dir on h.leads).on in
      let from_apart : s ≡ m.from → ⊥ = begins_apart m.from s piece own h.piece h.stands in
      record {
        piece = h.piece;
        stands = record {
          on_board = on;
          there = stays_at m to s on s_apart from_apart out ∙ h.stands.there;
          own =
              h.stands.own;
        };
        dir = h.dir;
        leads = h.leads;
        free = play_at g p m t t_on.0 (omega (arith, t_on.1, b.squares_high)) t_apart to.0
            ∙ past_none p (emptied m) t h.free;
        man = h.man;
      }

  -- after a quiet move that does not end there
  reply_there : (m : Move) → Legal g p m → Quiet g p m.from m.to → m.taken ≡ fin.empty → (s t : ℕ)
      → OneStep g (passed p) s t → (t ≡ m.to → ⊥) → (r : Move) × Legal g (play g p m) r
  reply_there m legal q none s t h apart =
      let s_apart : s ≡ m.to → ⊥ = λ e. none_some h.piece (sym q.free ∙ (ap (at p) (sym e) ∙ h.stands.there)) in
      let out : fin.contains m.taken s ≡ false = ap (λ z. fin.contains z s) none ∙ fin.contains-empty nat_cmp s in
      let after : OneStep g (play g p m) s t = step_stays m q.piece q.stands (legal_ends g b p m legal) s t h s_apart
      apart out in
      step_moves g (play g p m) (s, t, step_quiet g b (play g p m) s t after)

  two_reply : (m : Move) → Legal g p m → Quiet g p m.from m.to → m.taken ≡ fin.empty → TwoSteps g (passed p)
      → (r : Move) × Legal g (play g p m) r
  two_reply m legal q none h = elim (cases_eq h.to m.to) [
    | inr ne ↦ reply_there m legal q none h.from h.to h.one ne
    | inl e ↦ reply_there m legal q none h.from_too h.to_too h.two (λ f. h.apart (e ∙ sym f))
  ]

  pub loose_reply : IsLoose g p → AlwaysReply g p
  loose_reply h m legal = at_k legal.0 legal.1 legal.2 where
    at_k : (k : ℕ) → IsBest g p k → LegalAt g p k m → (r : Move) × Legal g (play g p m) r
    at_k zero is l = two_reply m legal l.0 l.1 h.1
    at_k (suc k) is l = let r = is.reached (omega arith) in absurd (h.0 (r.0, r.1, r.2, r.3, omega (arith, r.4)))
