-- The captures of a position, by the direction of their first jump and square by square.
use Rattle.std.proofs.Common.{◌≡◌, ℕ, List, [], ◌∷◌, length, refl, sym, ap, ◌∙◌, subst, inl, inr, arith, false, Some}
use Rattle.std.proofs.Common.{None}
use Rattle.std.proofs.lemmas.Bool.{true≢false}
use Rattle.std.specs.FinSet as fin
use Rattle.std.specs.Ordering.{nat_cmp}
use Rattle.dw_board.specs.declared.board.Dir.{Dir}
use Rattle.dw_board.specs.declared.board.Dir.TheVariants.{UpLeft, UpRight, DownLeft, DownRight}
use Rattle.dw_board.specs.declared.piece.Kind.{Kind}
use Rattle.dw_board.specs.declared.piece.Piece.{Piece}
use Rattle.dw_board.specs.declared.piece.Side.{Side}
use Rattle.dw_board.specs.Geometry.{Geometry, OnBoard, Squares}
use Rattle.dw_board.specs.Placement.{Placement, at, placed}
use Rattle.dw_moves.specs.Moves.{In, Path, Stands, last_of}
use Rattle.dw_moves.specs.Order.{Listed}
use Rattle.dw_moves.specs.inner.Glance.{AreSets, CanTakeTowards, IsGround}
use Rattle.dw_moves.specs.inner.Walks.{Captures, Begins, BeginsTowards, GoesOn, GoesTowards, Offers, Stays, number}
use Rattle.dw_moves.specs.inner.Walks.{so_far}
use Rattle.dw_moves.proofs.DirLemmas.{from_below}
use Rattle.dw_moves.proofs.GlanceSetLemmas.{own_in}
use Rattle.dw_moves.proofs.GroundLemmas.{ground_behind}
use Rattle.dw_moves.proofs.OfferLemmas.{offers_same, offers_none, offers_then, offers_four, offers_late}
use Rattle.dw_moves.proofs.SquareSetLemmas.{len_list, not_removed, out_of_rest, past_rest, union_of_none}
use Rattle.dw_moves.proofs.StepLemmas.{some_inj}
use Rattle.dw_moves.proofs.WalkLemmas.{goes_some, towards_goes}

-- a capture that has not jumped yet
abbrev start : ℕ → Listed
start from = so_far from from fin.empty (from ∷ [])

-- a capture begins with a jump in some direction, and what begins so is a capture
begins_captures : (g : Geometry) (p : Placement) (d : Dir) (from : ℕ) (l : Listed) → Begins g p d from l
    → Captures g p l
begins_captures g p d from l h =
    let on : GoesOn g (placed p from None) h.piece (start from) l = towards_goes h.goes in
    let takes : l.step.taken ≡ fin.from_list on.over = on.taken ∙ union_of_none (fin.from_list on.over) in
    let count : length on.over ≡ number l = sym (ap fin.len takes ∙ len_list on.over on.chain.once) in
    record {
      landings = on.landings;
      some = omega (arith, count);
      leads = record {
        over = on.over;
        path = subst (λ z. Path g p z on.landings on.over) (sym on.from) (record {
          piece = h.piece;
          stands = h.stands;
          jumps = on.chain.jumps;
          once = on.chain.once;
        });
        count = count;
        ends = ap (λ z. last_of z on.landings) on.from ∙ sym on.to;
        takes = takes;
      };
      path = on.path ∙ ap (λ z. z ∷ on.landings) (sym on.from);
    }

captures_begin : (g : Geometry) (p : Placement) (l : Listed) → Captures g p l → (d : Dir) × BeginsTowards g p d l
captures_begin g p l h =
    let from : ℕ = l.step.from in
    let path = h.leads.path in
    let on : GoesOn g (placed p from None) path.piece (start from) l = record {
      landings = h.landings;
      over = h.leads.over;
      chain = record { jumps = path.jumps; once = path.once; fresh = λ c m. fin.contains-empty nat_cmp c };
      from = refl;
      to = sym h.leads.ends;
      taken = h.leads.takes ∙ sym (union_of_none (fin.from_list h.leads.over));
      path = h.path;
    } in
    elim (goes_some on) [
      | inl f ↦ (f.0, (from, record { piece = path.piece; stands = path.stands; goes = f.1 }))
      | inr e ↦ absurd (omega (arith, h.some, ap number e, fin.len-empty nat_cmp))
    ]

-- captures that begin on none of the squares still to come
abbrev pub Past : Geometry → Placement → Dir → Squares → Listed → Type 0
Past g p d left l = (from : ℕ) × (fin.contains left from ≡ false) × Begins g p d from l

module _ {K : Type 0} {holds : K → List Listed → K → Type 0} {g : Geometry} {p : Placement} where
  -- a piece was walked in a direction
  pub begins_of : {d : Dir} {from s a : ℕ} {men kings enemies occupied v behind rest : Squares} {k k1 k2 : K}
      (kind_of : Kind) → AreSets g p men kings enemies occupied
      → OnBoard g from × (at p from ≡ Some (record { side = p.turn; kind = kind_of }))
      → s ≡ from → a ≡ from → v ≡ fin.empty → behind ≡ enemies → rest ≡ fin.remove occupied from → Stays holds k k1
      → ((q : Placement) (side : Side) → IsGround g q side behind rest
      → Offers holds (GoesTowards g q (record { side = side; kind = kind_of }) (so_far s a v (from ∷ [])) d) k1 k2)
      → Offers holds (Begins g p d from) k k2
  begins_of {d} {from} {k1 = k1} {k2 = k2} kind_of sets there s_is a_is v_is behind_is rest_is none kept =
      let piece : Piece = record { side = p.turn; kind = kind_of } in
      let stands : Stands g p from piece = record { on_board = there.0; there = there.1; own = refl } in
      let walked : Offers holds (GoesTowards g (placed p from None) piece (start from) d) k1 k2 =
      subst (λ z. Offers holds (GoesTowards g (placed p from None) piece z d) k1 k2)
      (λ i. so_far (s_is i) (a_is i) (v_is i) (from ∷ []))
      (kept (placed p from None) p.turn (ground_behind sets stands behind_is rest_is)) in
      offers_late none (offers_same walked
      (λ l f. record { piece = piece; stands = stands; goes = f })
      (λ l f. subst (λ z. GoesTowards g (placed p from None) z (start from) d l)
      (some_inj (sym f.stands.there ∙ stands.there)) f.goes))

  -- no piece of the side to move stands there
  pub begins_nowhere : {d : Dir} {from : ℕ} {men kings enemies occupied : Squares} {k k1 : K}
      → AreSets g p men kings enemies occupied → fin.contains men from ≡ false
      → fin.contains kings from ≡ false → Stays holds k k1 → Offers holds (Begins g p d from) k k1
  begins_nowhere {d} {from} sets no_man no_king none = offers_none {E = Begins g p d from} none (λ l f.
      elim (own_in sets f.stands) [
        | inl man ↦ true≢false (sym man.1 ∙ no_man)
        | inr king ↦ true≢false (sym king.1 ∙ no_king)
      ])

  -- each begins on one of those on which one may begin
  pub past_none : {d : Dir} (left : Squares) {k : K} → ((s : ℕ) → CanTakeTowards g p d s → In s left)
      → Offers holds (Past g p d left) k k
  past_none left all = offers_none (λ first xs h. h) (λ l f.
      let h = f.2 in
      true≢false (sym (all f.0 (h.goes.c, h.goes.t, h.piece, h.stands, h.goes.jump)) ∙ f.1))

  pub past_more : {d : Dir} (left : Squares) {rest : Squares} {from : ℕ} {k now new : K} → rest ≡ fin.remove left from
      → Offers holds (Past g p d left) k now → Offers holds (Begins g p d from) now new
      → Offers holds (Past g p d rest) k new
  past_more {d} left {rest} {from} {k} {now} {new} is h next =
      subst (λ v. Offers holds (Past g p d v) k new) (sym is) (offers_same (offers_then h next)
      (λ l x. elim x [
        | inl old ↦ (old.0, out_of_rest left from old.0 old.1, old.2)
        | inr here ↦ (from, not_removed left from, here)
      ])
      (λ l f. elim (past_rest left from f.0 f.1) [
        | inl last ↦ inr (subst (λ z. Begins g p d z l) last f.2)
        | inr before ↦ inl (f.0, before, f.2)
      ]))

  pub past_all : {d : Dir} {left : Squares} {k now : K} → left ≡ fin.empty → Offers holds (Past g p d left) k now
      → Offers holds (BeginsTowards g p d) k now
  past_all none h = offers_same h (λ l f. (f.0, f.2))
      (λ l f. (f.0, ap (λ v. fin.contains v f.0) none ∙ fin.contains-empty nat_cmp f.0, f.1))

  pub all_directions : {k k1 k2 k3 new : K} → Offers holds (BeginsTowards g p DownLeft) k k1
      → Offers holds (BeginsTowards g p DownRight) k1 k2 → Offers holds (BeginsTowards g p UpLeft) k2 k3
      → Offers holds (BeginsTowards g p UpRight) k3 new → Offers holds (Captures g p) k new
  all_directions h1 h2 h3 h = offers_same (offers_four (λ d. BeginsTowards g p d) DownLeft DownRight UpLeft UpRight
      h1 h2 h3 h (λ l. from_below (λ d. BeginsTowards g p d l)))
      (λ l f. begins_captures g p f.0 f.1.0 l f.1.1) (captures_begin g p)
