-- Captures that were offered one after another, for any keeper.
use Rattle.std.proofs.Common.{◌≡◌, List, [], ◌∷◌, ◌++◌, sym, subst, ◌⊎◌, inl, inr, append_assoc, append-nil}
use Rattle.dw_board.specs.declared.board.Dir.{Dir}
use Rattle.dw_moves.specs.Order.{Listed}
use Rattle.dw_moves.specs.inner.MemberLemmas.{mem_left, mem_right, mem_cases}
use Rattle.dw_moves.specs.inner.Walks.{Gains, Offers, Stays}
use Rattle.dw_moves.proofs.DirLemmas.{OneOf, which}

module _ {K : Type 0} {holds : K → List Listed → K → Type 0} where
  -- the same captures
  pub offers_same : {E F : Listed → Type 0} {a b : K} → Offers holds E a b → ((l : Listed) → E l → F l)
      → ((l : Listed) → F l → E l) → Offers holds F a b
  offers_same h up down = record {
    captures = h.captures;
    exactly = λ l. ((λ m. up l ((h.exactly l).0 m)), (λ f. (h.exactly l).1 (down l f)));
    held = h.held;
  }

  -- there is none
  pub offers_none : {E : Listed → Type 0} {a b : K} → Stays holds a b → ((l : Listed) → E l → ⊥) → Offers holds E a b
  offers_none {E} {a} {b} stays never = record {
    captures = [];
    exactly = λ l. ((λ m. absurd m), (λ e. absurd (never l e)));
    held = λ first xs h. subst (λ z. holds first z b) (sym (append-nil xs)) (stays first xs h);
  }

  -- there is one
  pub offers_one : (this : Listed) {a b : K} → Gains holds (this ∷ []) a b → Offers holds (λ l. l ≡ this) a b
  offers_one this h = record {
    captures = this ∷ [];
    exactly = λ l. ((λ m. elim m [ inl e ↦ e | inr none ↦ absurd none ]), (λ e. inl e));
    held = h;
  }

  -- some, and then others
  pub offers_then : {E F : Listed → Type 0} {a b c : K} → Offers holds E a b → Offers holds F b c
      → Offers holds (λ l. E l ⊎ F l) a c
  offers_then {c = c} h k = record {
    captures = h.captures ++ k.captures;
    exactly = λ l. (
      (λ m. elim (mem_cases l h.captures k.captures m) [
        | inl x ↦ inl ((h.exactly l).0 x)
        | inr y ↦ inr ((k.exactly l).0 y)
      ]),
      (λ e. elim e [
        | inl x ↦ mem_left l h.captures k.captures ((h.exactly l).1 x)
        | inr y ↦ mem_right l h.captures k.captures ((k.exactly l).1 y)
      ]),
    );
    held = λ first xs s. subst (λ z. holds first z c) (append_assoc xs h.captures k.captures)
        (k.held first (xs ++ h.captures) (h.held first xs s));
  }

  -- in four directions, one after another
  pub offers_four : (E : Dir → Listed → Type 0) (d0 d1 d2 d3 : Dir) {a b c d e : K} → Offers holds (E d0) a b
      → Offers holds (E d1) b c → Offers holds (E d2) c d → Offers holds (E d3) d e
      → ((l : Listed) (d : Dir) → E d l → OneOf (λ q. E q l) d0 d1 d2 d3)
      → Offers holds (λ l. (d : Dir) × E d l) a e
  offers_four E d0 d1 d2 d3 h0 h1 h2 h3 all = offers_same (offers_then (offers_then (offers_then h0 h1) h2) h3)
      (λ l. which (λ q. E q l) d0 d1 d2 d3) (λ l f. all l f.0 f.1)

  -- some, and then none; none, and then some
  pub offers_still : {E : Listed → Type 0} {a b c : K} → Offers holds E a b → Stays holds b c → Offers holds E a c
  offers_still h k = record {
    captures = h.captures;
    exactly = h.exactly;
    held = λ first xs s. k first (xs ++ h.captures) (h.held first xs s);
  }

  pub offers_late : {E : Listed → Type 0} {a b c : K} → Stays holds a b → Offers holds E b c → Offers holds E a c
  offers_late k h = record {
    captures = h.captures;
    exactly = h.exactly;
    held = λ first xs s. h.held first xs (k first xs s);
  }
