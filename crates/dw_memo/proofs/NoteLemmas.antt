-- What a note loses.
use Rattle.std.proofs.Common.{◌≡◌, ◌≢◌, ℕ, ◌+◌, ◌-◌, ◌^◌, ◌⊎◌, [], ◌∷◌, refl, sym, subst, inl, inr, arith}
use Rattle.std.specs.Prelude.{min}
use Rattle.dw_board.specs.Placement.{Placement}
use Rattle.dw_memo.specs.declared.bounds.Bounds.{Bounds}
use Rattle.dw_memo.specs.declared.memo.Noted.{Noted}
use Rattle.dw_memo.specs.declared.memo.Noted.TheVariants.{Kept, NotKept}
use Rattle.dw_memo.specs.Content.{Entry, entry, Content, IsMap}
use Rattle.dw_board.specs.Lists.{Member}
use Rattle.dw_memo.specs.Noting.{IsPutIn, AreMissing, IsNote}

-- none is missing
pub none_missing : (old : Content) (p : Placement) (b : Bounds) (new : Content)
    → Member (entry p b) new
    → ((e : Entry) → Member e old → (e.position ≡ p) ⊎ Member e new)
    → AreMissing old p b new []
none_missing old p b new given others = record {
  each_once = tt;
  only = λ e m. absurd m;
  given = inl given;
  others = λ e m. elim (others e m) [ inl q ↦ inl q | inr h ↦ inr (inl h) ];
}

-- one is missing
pub one_missing : (old : Content) (p : Placement) (b : Bounds) (new : Content) (gone : Entry)
    → IsPutIn old p b gone
    → (Member gone new → ⊥)
    → (Member (entry p b) new ⊎ (entry p b ≡ gone))
    → ((e : Entry) → Member e old → (e.position ≡ p) ⊎ (Member e new ⊎ (e ≡ gone)))
    → AreMissing old p b new (gone ∷ [])
one_missing old p b new gone put out given others = record {
  each_once = (λ m. m, tt);
  only = λ e m. elim m [
    | inl q ↦ (subst (IsPutIn old p b) (sym q) put, λ h. out (subst (λ x. Member x new) q h))
    | inr n ↦ absurd n
  ];
  given = elim given [ inl h ↦ inl h | inr q ↦ inr (inl q) ];
  others = λ e m. elim (others e m) [ inl q ↦ inl q | inr (inl h) ↦ inr (inl h) | inr (inr q) ↦ inr (inr (inl q)) ];
}

not_kept : (A : Type 0) → NotKept ≡ Kept → A
not_kept A q = cc

-- a memo to which nothing came: the given entry is lost
pub unchanged : (old : Content) (p : Placement) (b : Bounds) → IsMap old → ((e : Entry) → Member e old → e.position ≢ p)
    → IsNote old p b NotKept old 0 1
unchanged old p b map apart = record {
  map_before = map;
  map = map;
  only = λ e m. inr (m, apart e m);
  kept = not_kept (Member (entry p b) old);
  missing = entry p b ∷ [];
  are_missing = one_missing old p b old (entry p b) (inl refl) (λ m. apart (entry p b) m refl) (inr refl)
      (λ e m. inr (inl m));
  count = refl;
}

-- the count goes on from a number
pub counted_on : (old : Content) (p : Placement) (b : Bounds) (answer : Noted) (new : Content) (lost before after : ℕ)
    → IsNote old p b answer new 0 lost → after ≡ min (before + lost) (2 ^ 64 - 1)
    → IsNote old p b answer new before after
counted_on old p b answer new lost before after n e = record {
  map_before = n.map_before;
  map = n.map;
  only = n.only;
  kept = n.kept;
  missing = n.missing;
  are_missing = n.are_missing;
  count = omega (arith, n.count, e);
}
