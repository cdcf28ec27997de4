-- How chains of jumps are walked, jump by jump, and offered to a keeper.
use Rattle.std.proofs.Common.{◌≡◌, ℕ, List, [], ◌∷◌, ◌++◌, refl, sym, ap, ◌∙◌, subst, ◌⊎◌, inl, inr, true, false, None}
use Rattle.std.proofs.Common.{append_assoc, append-nil}
use Rattle.std.proofs.lemmas.Bool.{true≢false}
use Rattle.std.specs.FinSet as fin
use Rattle.dw_board.specs.declared.board.Dir.{Dir}
use Rattle.dw_board.specs.declared.board.Dir.TheVariants.{UpLeft, UpRight, DownLeft, DownRight}
use Rattle.dw_board.specs.declared.piece.Kind.TheVariants.{Man, King}
use Rattle.dw_board.specs.declared.piece.Piece.{Piece}
use Rattle.dw_board.specs.Geometry.{Geometry, IsBoard, OnBoard, Squares}
use Rattle.dw_board.specs.Placement.{Placement}
use Rattle.dw_board.specs.Lists.{Member}
use Rattle.dw_moves.specs.Moves.{Jump, last_of, ray}
use Rattle.dw_moves.specs.Order.{Listed}
use Rattle.dw_moves.specs.inner.MemberLemmas.{mem_left, mem_right, mem_cases, mem_map, mem_map_back, mem_flat_back}
use Rattle.dw_moves.specs.inner.MoveLemmas.{same_move}
use Rattle.dw_moves.specs.inner.Plain.{TakesOver, dirs, takes_for, landings_for, free_step, no_jumps}
use Rattle.dw_moves.specs.inner.Walks.{Chain, GoesOn, GoesTowards, Offers, onward, so_far}
use Rattle.dw_moves.proofs.ChainLemmas.{chain_none, chain_more, chain_tail, over_of, landing_of}
use Rattle.dw_moves.proofs.DirLemmas.{from_above}
use Rattle.dw_moves.proofs.ExactLemmas.{jump_along, jump_in}
use Rattle.dw_moves.proofs.OfferLemmas.{offers_same, offers_none, offers_then, offers_four}
use Rattle.dw_moves.proofs.RunLemmas.{Freed, man_run, king_run, run_stop}
use Rattle.dw_moves.proofs.SquareSetLemmas.{union_more, union_none}

-- moves with the same steps and paths are the same
pub same_listed_parts : (l r : Listed) → l.step ≡ r.step → l.path ≡ r.path → l ≡ r
same_listed_parts l r s e = λ i. record { step = s i; path = e i }

-- captures that go on over c, onto one of these squares
pub record Onto (g : Geometry) (p : Placement) (piece : Piece) (b : Listed) (c : ℕ) (ts : List ℕ) (l : Listed) :
    Type 0 where
  pub t : ℕ
  pub lands : Member t ts
  pub rest : GoesOn g p piece (onward b c t) l

-- the squares behind c up to this one were walked, and the others come next
pub record Landed {K : Type 0} (holds : K → List Listed → K → Type 0) (g : Geometry) (p : Placement) (piece : Piece)
    (b : Listed) (c : ℕ) (d : Dir) (at : ℕ) (k now : K) : Type 0 where
  pub passed : List ℕ
  pub all : passed ++ landings_for piece.kind p (ray g at d) ≡ landings_for piece.kind p (ray g c d)
  pub walked : Offers holds (Onto g p piece b c passed) k now

-- the same capture so far after one jump more
pub goes_same : {K : Type 0} {holds : K → List Listed → K → Type 0} {g : Geometry} {p : Placement} {piece : Piece}
    {from s at to : ℕ} {v w : Squares} (path : List ℕ) {k new : K} → s ≡ from → at ≡ to → v ≡ w
    → Offers holds (GoesOn g p piece (so_far s at v (path ++ at ∷ []))) k new
    → Offers holds (GoesOn g p piece (so_far from to w (path ++ to ∷ []))) k new
goes_same {holds = holds} {g = g} {p = p} {piece = piece} path {k = k} {new = new} s_is at_is v_is h =
    subst (λ z. Offers holds (GoesOn g p piece z) k new)
    (λ i. so_far (s_is i) (at_is i) (v_is i) (path ++ at_is i ∷ [])) h

module _ {g : Geometry} {p : Placement} {piece : Piece} {b : Listed} where
  -- a chain that ends where it begins
  ends_here : (l : Listed) → l ≡ b → GoesOn g p piece b l
  ends_here l e = record {
    landings = [];
    over = [];
    chain = chain_none g p piece b.step.to b.step.taken;
    from = ap (λ (z : Listed). z.step.from) e;
    to = ap (λ (z : Listed). z.step.to) e;
    taken = ap (λ (z : Listed). z.step.taken) e ∙ sym (union_none b.step.taken);
    path = ap (λ (z : Listed). z.path) e ∙ sym (append-nil b.path);
  }

  abbrev pub towards_goes : {d : Dir} {l : Listed} → GoesTowards g p piece b d l → GoesOn g p piece b l
  towards_goes {d} h = record {
    landings = h.t ∷ h.rest.landings;
    over = h.c ∷ h.rest.over;
    chain = chain_more g p piece b.step.to h.c h.t b.step.taken h.rest.landings h.rest.over
        (jump_along g p piece b.step.to h.c h.t d h.jump).0 h.fresh h.rest.chain;
    from = h.rest.from;
    to = h.rest.to;
    taken = h.rest.taken ∙ sym (union_more b.step.taken h.c h.rest.over);
    path = h.rest.path ∙ append_assoc b.path (h.t ∷ []) h.rest.landings;
  }

  -- a chain goes on in a direction, or ends where it begins
  pub goes_some : {l : Listed} → GoesOn g p piece b l → ((d : Dir) × GoesTowards g p piece b d l) ⊎ (l ≡ b)
  goes_some {l} h = by_chain h.landings h.over h.chain h.to h.taken h.path where
    by_chain : (ts cs : List ℕ) → Chain g p piece b.step.to b.step.taken ts cs → l.step.to ≡ last_of b.step.to ts
        → l.step.taken ≡ fin.union b.step.taken (fin.from_list cs) → l.path ≡ b.path ++ ts
        → ((d : Dir) × GoesTowards g p piece b d l) ⊎ (l ≡ b)
    by_chain [] [] chain to taken path =
        inr (same_listed_parts l b (same_move l.step b.step h.from to (taken ∙ union_none b.step.taken))
        (path ∙ append-nil b.path))
    by_chain [] (c ∷ cs) chain to taken path = absurd chain.jumps
    by_chain (t ∷ ts) [] chain to taken path = absurd chain.jumps
    by_chain (t ∷ ts) (c ∷ cs) chain to taken path =
        let f = mem_flat_back (λ d. takes_for piece.kind p piece.side (ray g b.step.to d)) (c, t) dirs
        (jump_in g p piece b.step.to c t chain.jumps.0) in
        inl (
          f.0,
          record {
            c = c;
            t = t;
            jump = f.2;
            fresh = chain.fresh c (inl refl);
            rest = record {
              landings = ts;
              over = cs;
              chain = chain_tail g p piece b.step.to c t b.step.taken ts cs chain;
              from = h.from;
              to = to;
              taken = taken ∙ union_more b.step.taken c cs;
              path = path ∙ sym (append_assoc b.path (t ∷ []) ts);
            };
          },
        )

  module _ {K : Type 0} {holds : K → List Listed → K → Type 0} where
    -- all directions were walked, and what ends here was offered
    pub walked_all : {k0 k1 k2 k3 k4 k : K} → Offers holds (GoesTowards g p piece b UpLeft) k0 k1
        → Offers holds (GoesTowards g p piece b UpRight) k1 k2
        → Offers holds (GoesTowards g p piece b DownLeft) k2 k3
        → Offers holds (GoesTowards g p piece b DownRight) k3 k4
        → Offers holds (λ l. l ≡ b) k4 k → Offers holds (GoesOn g p piece b) k0 k
    walked_all h1 h2 h3 h4 h = offers_same (offers_then (offers_four (λ d. GoesTowards g p piece b d) UpLeft UpRight
        DownLeft DownRight h1 h2 h3 h4 (λ l. from_above (λ d. GoesTowards g p piece b d l))) h)
        (λ l x. elim x [ inl f ↦ towards_goes f.1 | inr e ↦ ends_here l e ]) (λ l. goes_some)

    -- what can not jump on ends here
    pub ends_there : {k k' : K} → ((c t : ℕ) → fin.contains b.step.taken c ≡ false → Jump g p piece b.step.to c t → ⊥)
        → Offers holds (λ l. l ≡ b) k k' → Offers holds (GoesOn g p piece b) k k'
    ends_there none h = offers_same h ends_here (λ l f. elim (goes_some f) [
      | inl j ↦ absurd (none j.1.c j.1.t j.1.fresh (jump_along g p piece b.step.to j.1.c j.1.t j.0 j.1.jump).0)
      | inr e ↦ e
    ])

    pub landed_none : {c : ℕ} {d : Dir} {k : K} → Landed holds g p piece b c d c k k
    landed_none = record {
      passed = [];
      all = refl;
      walked = offers_none (λ first xs h. h) (λ l h. h.lands);
    }

    -- one square more
    onto_more : {c : ℕ} {passed : List ℕ} (t : ℕ) {k now new : K} → Offers holds (Onto g p piece b c passed) k now
        → Offers holds (GoesOn g p piece (onward b c t)) now new
        → Offers holds (Onto g p piece b c (passed ++ t ∷ [])) k new
    onto_more {c} {passed} t h rest = offers_same (offers_then h rest)
        (λ l x. elim x [
          | inl old ↦ record { t = old.t; lands = mem_left old.t passed (t ∷ []) old.lands; rest = old.rest }
          | inr new ↦ record { t = t; lands = mem_right t passed (t ∷ []) (inl refl); rest = new }
        ])
        (λ l f. elim (mem_cases f.t passed (t ∷ []) f.lands) [
          | inl old ↦ inl (record { t = f.t; lands = old; rest = f.rest })
          | inr (inl e) ↦ inr (subst (λ z. GoesOn g p piece (onward b c z) l) e f.rest)
          | inr (inr none) ↦ absurd none
        ])

    -- a king goes on from there
    pub landed_more : {c : ℕ} {d : Dir} {at t : ℕ} {k now new : K} → piece.kind ≡ King
        → Landed holds g p piece b c d at k now → Freed g p at d t
        → Offers holds (GoesOn g p piece (onward b c t)) now new → Landed holds g p piece b c d t k new
    landed_more {d = d} {at = at} {t = t} king h f rest =
        let one : landings_for piece.kind p (ray g at d) ≡ t ∷ landings_for piece.kind p (ray g t d) =
        subst (λ z. landings_for z p (ray g at d) ≡ t ∷ landings_for z p (ray g t d)) (sym king) (king_run f) in
        record {
          passed = h.passed ++ t ∷ [];
          all = append_assoc h.passed (t ∷ []) (landings_for piece.kind p (ray g t d))
              ∙ (ap (λ z. h.passed ++ z) (sym one) ∙ h.all);
          walked = onto_more t h.walked rest;
        }

    -- a man lands on one square only
    pub landed_last : {c : ℕ} {d : Dir} {at t : ℕ} {k now new : K} → piece.kind ≡ Man
        → Landed holds g p piece b c d at k now → Freed g p at d t
        → Offers holds (GoesOn g p piece (onward b c t)) now new
        → Offers holds (Onto g p piece b c (landings_for piece.kind p (ray g c d))) k new
    landed_last {c} {d} {at} {t} {k} {now} {new} man h f rest =
        let one : landings_for piece.kind p (ray g at d) ≡ t ∷ [] =
        subst (λ z. landings_for z p (ray g at d) ≡ t ∷ []) (sym man) (man_run f) in
        subst (λ z. Offers holds (Onto g p piece b c z) k new) (ap (λ z. h.passed ++ z) (sym one) ∙ h.all)
        (onto_more t h.walked rest)

    -- no square comes next
    pub landed_stop : IsBoard g → {c : ℕ} {d : Dir} {at : ℕ} {k now : K} → OnBoard g at
        → Landed holds g p piece b c d at k now → free_step g p at d ≡ None
        → Offers holds (Onto g p piece b c (landings_for piece.kind p (ray g c d))) k now
    landed_stop board {c} {d} {at} {k} {now} on h stop =
        subst (λ z. Offers holds (Onto g p piece b c z) k now) (sym (append-nil h.passed)
        ∙ (ap (λ z. h.passed ++ z) (sym (run_stop g board piece.kind p at d on stop)) ∙ h.all)) h.walked

    -- all landings were walked
    pub onto_towards : {c : ℕ} {d : Dir} {k new : K} → TakesOver piece.kind g p piece.side b.step.to d c
        → fin.contains b.step.taken c ≡ false
        → Offers holds (Onto g p piece b c (landings_for piece.kind p (ray g c d))) k new
        → Offers holds (GoesTowards g p piece b d) k new
    onto_towards {c} {d} takes fresh h =
        let ts : List ℕ = landings_for piece.kind p (ray g c d) in
        offers_same h
        (λ l o. record {
          c = c;
          t = o.t;
          jump = subst (Member (c, o.t)) (sym takes) (mem_map (λ t. (c, t)) o.t ts o.lands);
          fresh = fresh;
          rest = o.rest;
        })
        (λ l f.
        let r = mem_map_back (λ t. (c, t)) (f.c, f.t) ts (subst (Member (f.c, f.t)) takes f.jump) in
        let over : GoesOn g p piece (onward b c f.t) l = subst (λ z. GoesOn g p piece (onward b z f.t) l)
        (ap over_of r.2) f.rest in
        record {
          t = r.0;
          lands = r.1;
          rest = subst (λ z. GoesOn g p piece (onward b c z) l) (ap landing_of r.2) over;
        })

    -- nothing is taken in this direction, or what was taken before
    pub towards_none : {d : Dir} {k : K} → takes_for piece.kind p piece.side (ray g b.step.to d) ≡ no_jumps
        → Offers holds (GoesTowards g p piece b d) k k
    towards_none none = offers_none (λ first xs h. h) (λ l f. subst (Member (f.c, f.t)) none f.jump)

    pub towards_taken : (c : ℕ) {d : Dir} {k : K} → TakesOver piece.kind g p piece.side b.step.to d c
        → fin.contains b.step.taken c ≡ true → Offers holds (GoesTowards g p piece b d) k k
    towards_taken c {d} takes there = offers_none (λ first xs h. h) (λ l f.
        let r = mem_map_back (λ t. (c, t)) (f.c, f.t) (landings_for piece.kind p (ray g c d))
        (subst (Member (f.c, f.t)) takes f.jump) in
        true≢false (sym there ∙ (ap (fin.contains b.step.taken) (sym (ap over_of r.2)) ∙ f.fresh)))
