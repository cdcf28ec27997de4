-- What is taken was exposed, so a step by a piece that is not exposed goes on after every move.
use Rattle.std.proofs.Common.{◌≡◌, ℕ, zero, suc, List, [], ◌∷◌, ◌++◌, true, false, Some, None, refl, sym, ap, ◌∙◌}
use Rattle.std.proofs.Common.{subst, ◌⊎◌, inl, inr}
use Rattle.std.specs.Prelude.{IsTrue}
use Rattle.std.proofs.lemmas.Bool.{true≢false, cases_Bool, cases_eq}
use Rattle.std.specs.FinSet as fin
use Rattle.std.specs.Ordering.{nat_cmp}
use Rattle.dw_board.specs.declared.board.Dir.{Dir}
use Rattle.dw_board.specs.declared.piece.Side.{Side}
use Rattle.dw_board.specs.declared.piece.Side.TheVariants.{White, Black}
use Rattle.dw_board.specs.declared.piece.Piece.{Piece}
use Rattle.dw_board.specs.Geometry.{Geometry, IsBoard, OnBoard, step}
use Rattle.dw_board.specs.Placement.{Placement, at, is_of, placed, other, same_side}
use Rattle.dw_board.specs.Lists.{Member}
use Rattle.dw_moves.specs.Moves.{Jump, Jumps, Move, Stands, Legal, LegalAt, play, ray, last_of}
use Rattle.dw_moves.specs.Replies.{passed, OneStep, IsExposed, SafeStep}
use Rattle.dw_moves.specs.Laws.{SureReplies}
use Rattle.dw_moves.proofs.ExactLemmas.{option_cases, same_side_refl}
use Rattle.dw_moves.proofs.StepLemmas.{step_is}
use Rattle.dw_moves.proofs.StepBackLemmas.{step_back}
use Rattle.dw_moves.proofs.RayLemmas.{ray_some, ray_none, ray_of_on, landing_on_ray}
use Rattle.dw_moves.proofs.FirstJumpLemmas.{empty_member, head_free, other_at}
use Rattle.dw_moves.proofs.SquareSetLemmas.{in_list}
use Rattle.dw_moves.proofs.PlayStaysLemmas.{legal_ends, legal_stands}
use Rattle.dw_moves.proofs.HasMoveLemmas.{step_moves}
use Rattle.dw_moves.proofs.ReplyLemmas.{step_quiet, step_stays, loose_reply}

-- the square before one on a ray, and the ray from there on
record Met (g : Geometry) (d : Dir) (s c : ℕ) (before rest : List ℕ) : Type 0 where
  square : ℕ
  on : OnBoard g square
  is : (square ≡ s) ⊎ Member square before
  leads : step g square d ≡ Some c
  behind : ray g c d ≡ rest

head_is : (x y : ℕ) (xs ys : List ℕ) → x ∷ xs ≡ y ∷ ys → (x ≡ y) × (xs ≡ ys)
head_is x y xs ys e = ((cc), (cc))

met : (g : Geometry) → IsBoard g → (d : Dir) (s c : ℕ) (before rest : List ℕ) → OnBoard g s
    → ray g s d ≡ before ++ c ∷ rest → Met g d s c before rest
met g b d s c [] rest on e = elim (option_cases (step g s d)) [
  | inl none ↦ let n : [] ≡ c ∷ rest = sym (ray_none g s d none) ∙ e in absurd (cc)
  | inr some ↦
      let h = head_is some.0 c (ray g some.0 d) rest (sym (ray_some g b s some.0 d on some.1) ∙ e) in
      record {
        square = s;
        on = on;
        is = inl refl;
        leads = some.1 ∙ ap Some h.0;
        behind = ap (λ x. ray g x d) (sym h.0) ∙ h.1;
      }
]
met g b d s c (x ∷ before) rest on e = elim (option_cases (step g s d)) [
  | inl none ↦ let n : [] ≡ x ∷ (before ++ c ∷ rest) = sym (ray_none g s d none) ∙ e in absurd (cc)
  | inr some ↦
      let h = head_is some.0 x (ray g some.0 d) (before ++ c ∷ rest) (sym (ray_some g b s some.0 d on some.1) ∙ e) in
      let next : OnBoard g x = subst (OnBoard g) h.0 (step_is g b s some.0 d on some.1).on in
      let m = met g b d x c before rest next (ap (λ z. ray g z d) (sym h.0) ∙ h.1) in
      record {
        square = m.square;
        on = m.on;
        is = elim m.is [ inl q ↦ inr (inl q) | inr q ↦ inr (inr q) ];
        leads = m.leads;
        behind = m.behind;
      }
]

other_side : (a : Side) → same_side a (other a) ≡ true → ⊥
other_side White e = cc
other_side Black e = cc

module _ (g : Geometry) (b : IsBoard g) (p : Placement) (from : ℕ) (piece : Piece) (own : Stands g p from piece) where
  abbrev lifted : Placement
  lifted = placed p from None

  -- the capturing piece began there, or nothing stands there while it is under way
  abbrev IsPassed : ℕ → Type 0
  IsPassed s = (s ≡ from) ⊎ (at lifted s ≡ None)

  -- so no enemy does
  abbrev NoEnemy : ℕ → Type 0
  NoEnemy s = IsTrue (is_of (other p.turn) (at p s)) → ⊥

  own_there : NoEnemy from
  own_there e =
      let is : same_side piece.side (other p.turn) ≡ true = ap (is_of (other p.turn)) (sym own.there) ∙ e in
      other_side p.turn (ap (λ z. same_side z (other p.turn)) (sym own.own) ∙ is)

  no_enemy : (s : ℕ) → OnBoard g s → IsPassed s → NoEnemy s
  no_enemy s on (inl is) e = own_there (ap (λ z. is_of (other p.turn) (at p z)) (sym is) ∙ e)
  no_enemy s on (inr none) e = elim (cases_eq s from) [
    | inl is ↦ own_there (ap (λ z. is_of (other p.turn) (at p z)) (sym is) ∙ e)
    | inr ne ↦ true≢false (sym e ∙ ap (is_of (other p.turn)) (sym (other_at p from s own.on_board.0 on.0 ne) ∙ none))
  ]

  -- over a piece that is jumped, both squares next to it are open
  jump_exposes : (s c t : ℕ) → OnBoard g s → IsPassed s → Jump g lifted piece s c t → IsExposed g p (other p.turn) c
  jump_exposes s c t on passed_s j =
      let m = met g b j.dir s c j.before (j.behind ++ t ∷ j.beyond) on j.on_ray in
      let before : IsPassed m.square = elim m.is [
        | inl q ↦ elim passed_s [ inl r ↦ inl (q ∙ r) | inr r ↦ inr (ap (at lifted) q ∙ r) ]
        | inr i ↦ inr (empty_member lifted j.before m.square j.clear i)
      ] in
      let c_on : OnBoard g c = (step_is g b m.square c j.dir m.on m.leads).on in
      let next = head_free lifted j.behind t j.beyond j.clear_behind j.free in
      let n = met g b j.dir c next.0 [] next.1 c_on (m.behind ∙ next.2) in
      let leads : step g c j.dir ≡ Some next.0 = (elim n.is [
        | inl q ↦ ap (λ z. step g z j.dir) (sym q) ∙ n.leads
        | inr i ↦ absurd i
      ]) in
      let next_on : OnBoard g next.0 = (step_is g b c next.0 j.dir c_on leads).on in (
        j.dir,
        (next.0, leads, no_enemy next.0 next_on (inr next.3)),
        (m.square, step_back g b m.square c j.dir m.on m.leads, no_enemy m.square m.on before),
      )

  landing_on : (s c t : ℕ) → OnBoard g s → (j : Jump g lifted piece s c t) → OnBoard g t
  landing_on s c t on j = ray_of_on g b g.rows s j.dir t on (landing_on_ray g lifted piece s c t j)

  jumps_expose : (s : ℕ) (ts cs : List ℕ) → OnBoard g s → IsPassed s → Jumps g lifted piece s ts cs → (c : ℕ)
      → Member c cs → IsExposed g p (other p.turn) c
  jumps_expose s [] [] on h jumps c m = absurd m
  jumps_expose s [] (x ∷ cs) on h jumps c m = absurd jumps
  jumps_expose s (t ∷ ts) [] on h jumps c m = absurd jumps
  jumps_expose s (t ∷ ts) (x ∷ cs) on h jumps c (inl q) = subst (IsExposed g p (other p.turn)) (sym q)
      (jump_exposes s x t on h jumps.0)
  jumps_expose s (t ∷ ts) (x ∷ cs) on h jumps c (inr m) =
      jumps_expose t ts cs (landing_on s x t on jumps.0) (inr jumps.0.free) jumps.1 c m

  -- and where they end no enemy stands
  end_passed : (s : ℕ) (ts cs : List ℕ) → IsPassed s → Jumps g lifted piece s ts cs → IsPassed (last_of s ts)
  end_passed s [] [] h jumps = h
  end_passed s [] (x ∷ cs) h jumps = absurd jumps
  end_passed s (t ∷ ts) [] h jumps = absurd jumps
  end_passed s (t ∷ ts) (x ∷ cs) h jumps = end_passed t ts cs (inr jumps.0.free) jumps.1

module _ (g : Geometry) (b : IsBoard g) (p : Placement) (m : Move) (legal : Legal g p m) where
  none_taken : m.taken ≡ fin.empty → (s : ℕ) → fin.contains m.taken s ≡ true → ⊥
  none_taken none s e = true≢false (sym e ∙ (ap (λ z. fin.contains z s) none ∙ fin.contains-empty nat_cmp s))

  -- what a legal move takes was exposed
  pub taken_exposed : (s : ℕ) → fin.contains m.taken s ≡ true → IsExposed g p (other p.turn) s
  taken_exposed s e = at_k legal.0 legal.2 where
    at_k : (k : ℕ) → LegalAt g p k m → IsExposed g p (other p.turn) s
    at_k zero h = absurd (none_taken h.1 s e)
    at_k (suc k) h =
        let path = h.1.path in
        jumps_expose g b p m.from path.piece path.stands m.from h.0 h.1.over path.stands.on_board (inl refl) path.jumps
        s
        (in_list h.1.over s (ap (λ z. fin.contains z s) (sym h.1.takes) ∙ e))

  -- and it does not end where a piece of the other side stands
  ends_apart : IsTrue (is_of (other p.turn) (at p m.to)) → ⊥
  ends_apart e = at_k legal.0 legal.2 where
    at_k : (k : ℕ) → LegalAt g p k m → ⊥
    at_k zero h = true≢false (sym e ∙ ap (is_of (other p.turn)) h.0.free)
    at_k (suc k) h =
        let path = h.1.path in
        no_enemy g b p m.from path.piece path.stands m.to (legal_ends g b p m legal)
        (subst (λ z. IsPassed g b p m.from path.piece path.stands z) h.1.ends (end_passed g b p m.from path.piece
        path.stands m.from h.0 h.1.over (inl refl) path.jumps)) e

  enemy_there : (s t : ℕ) → OneStep g (passed p) s t → IsTrue (is_of (other p.turn) (at p s))
  enemy_there s t h = ap (is_of (other p.turn)) h.stands.there ∙ (ap (λ z. same_side z (other p.turn)) h.stands.own
      ∙ same_side_refl (other p.turn))

  -- such a step goes on, if the move does not end where it leads
  safe_reply : (s t : ℕ) → SafeStep g p s t → (t ≡ m.to → ⊥) → (r : Move) × Legal g (play g p m) r
  safe_reply s t h apart =
      let s_apart : s ≡ m.to → ⊥ = λ e. ends_apart (ap (λ z. is_of (other p.turn) (at p z)) (sym e)
      ∙ enemy_there s t h.0) in
      let out : fin.contains m.taken s ≡ false = elim (cases_Bool (fin.contains m.taken s))
      [ inl e ↦ absurd (h.1 (taken_exposed s e)) | inr e ↦ e ] in
      let mover = legal_stands g p m legal in
      let after = step_stays g b p m mover.0 mover.1 (legal_ends g b p m legal) s t h.0 s_apart apart out in
      step_moves g (play g p m) (s, t, step_quiet g b (play g p m) s t after)

pub sure_reply : SureReplies
sure_reply g b p (inl loose) m legal = loose_reply g b p loose m legal
sure_reply g b p (inr two) m legal = elim (cases_eq two.to m.to) [
  | inr ne ↦ safe_reply g b p m legal two.from two.to two.one ne
  | inl e ↦ safe_reply g b p m legal two.from_too two.to_too two.two (λ f. two.apart (e ∙ sym f))
]
