-- What a place holds, and what a note to it loses.
use Rattle.std.proofs.Common.{◌≡◌, ◌≢◌, ℕ, ◌⊎◌, Bool, true, false, not, cond, [], ◌∷◌, Some, None, refl, sym, ap, ◌∙◌}
use Rattle.std.proofs.Common.{subst, inl, inr}
use Rattle.std.specs.Int.{from_bool}
use Rattle.dw_board.specs.Geometry.{Geometry}
use Rattle.dw_board.specs.Lists.{Member}
use Rattle.dw_board.specs.Placement.{Placement}
use Rattle.dw_board.specs.inner.PlacementLemmas.{same, same-is}
use Rattle.dw_memo.specs.declared.bounds.Bounds.{Bounds}
use Rattle.dw_memo.specs.declared.fact.Fact.{Fact}
use Rattle.dw_memo.specs.declared.memo.Noted.TheVariants.{Kept}
use Rattle.dw_memo.specs.inner.Buckets.{bucket_of}
use Rattle.dw_memo.specs.Content.{Entry, entry, IsMap, IsFound}
use Rattle.dw_memo.specs.Noting.{IsPutIn, IsNote}
use Rattle.dw_memo.specs.inner.Slots.{Place, standing}
use Rattle.dw_memo.specs.inner.Keeping.{bounds_in, lost}
use Rattle.dw_memo.proofs.NoteLemmas.{none_missing, one_missing}

abbrev Pair : Type 0
Pair = Placement × Fact

pub place_map : (x : Place) → IsMap (standing x)
place_map None = tt
place_map (Some e) = (λ m. m, tt)

-- ---- a look-up
found_some : (e : Pair) (p : Placement) (o : Bool) → same e.0 p ≡ o
    → IsFound (standing (Some e)) p (cond o (Some e.1.bounds) None)
found_some e p true h = inl (λ i. entry (sym ((same-is e.0 p).0 h) i) e.1.bounds)
found_some e p false h = λ m. elim m [ inl q ↦ let s = (same-is e.0 p).1 (sym q) in absurd (cc) | inr n ↦ absurd n ]

pub found : (x : Place) (p : Placement) → IsFound (standing x) p (bounds_in x p)
found None p = λ m. m
found (Some e) p = found_some e p (same e.0 p) refl

-- ---- a note
module _ (p : Placement) (f : Fact) where
  only : (x : Place) (e : Entry) → Member e (standing (Some (p, f))) → IsPutIn (standing x) p f.bounds e
  only x e m = elim m [ inl q ↦ inl q | inr n ↦ absurd n ]

  others : (x : Place) → ((e : Pair) → x ≡ Some e → e.0 ≡ p) → (d : Entry) → Member d (standing x)
      → (d.position ≡ p) ⊎ Member d (standing (Some (p, f)))
  others None own d m = absurd m
  others (Some e) own d (inl q) = inl (ap (λ (y : Entry). y.position) q ∙ own e refl)
  others (Some e) own d (inr n) = absurd n

  none_lost : (x : Place) → ((e : Pair) → x ≡ Some e → e.0 ≡ p)
      → IsNote (standing x) p f.bounds Kept (standing (Some (p, f))) 0 0
  none_lost x own = record {
    map_before = place_map x;
    map = place_map (Some (p, f));
    only = only x;
    kept = λ q. inl refl;
    missing = [];
    are_missing = none_missing (standing x) p f.bounds (standing (Some (p, f))) (inl refl) (others x own);
    count = refl;
  }

  one_lost : (e : Pair) → (e.0 ≢ p) → IsNote (standing (Some e)) p f.bounds Kept (standing (Some (p, f))) 0 1
  one_lost e other = record {
    map_before = place_map (Some e);
    map = place_map (Some (p, f));
    only = only (Some e);
    kept = λ q. inl refl;
    missing = entry e.0 e.1.bounds ∷ [];
    are_missing = one_missing (standing (Some e)) p f.bounds (standing (Some (p, f))) (entry e.0 e.1.bounds)
        (inr (inl refl, other))
        (λ m. elim m [ inl q ↦ other (ap (λ (y : Entry). y.position) q) | inr n ↦ n ])
        (inl (inl refl)) (λ d m. elim m [ inl q ↦ inr (inr q) | inr n ↦ absurd n ]);
    count = refl;
  }

  some_lost : (e : Pair) (o : Bool) → same e.0 p ≡ o
      → IsNote (standing (Some e)) p f.bounds Kept (standing (Some (p, f))) 0 (from_bool (not o))
  some_lost e true h = none_lost (Some e) (λ d q. let s : e ≡ d = cc in subst (λ (x : Pair). x.0
      ≡ p) s ((same-is e.0 p).0 h))
  some_lost e false h = one_lost e (λ q. let s = (same-is e.0 p).1 q in absurd (cc))

  pub noted : (x : Place) → IsNote (standing x) p f.bounds Kept (standing (Some (p, f))) 0 (lost x p)
  noted None = none_lost None (λ d q. absurd (cc))
  noted (Some e) = some_lost e (same e.0 p) refl

away : (g : Geometry) (n k : ℕ) (x : Place) → ((e : Pair) → x ≡ Some e → bucket_of g e.0 n ≢ k) → (d : Entry)
    → Member d (standing x) → bucket_of g d.position n ≢ k
away g n k None own d m = absurd m
away g n k (Some e) own d (inl q) = λ r. own e refl (ap (λ (y : Entry). bucket_of g y.position n) (sym q) ∙ r)
away g n k (Some e) own d (inr m) = absurd m

-- a note as the program makes it
pub noted_as : (old new : Place) (p : Placement) (b : Bounds) (f : Fact) (l : ℕ)
    → f ≡ record { bounds = b; age = 0 } → new ≡ Some (p, f) → l ≡ lost old p
    → IsNote (standing old) p b Kept (standing new) 0 l
noted_as old new p b f l fact is loss =
    subst (λ (n : ℕ). IsNote (standing old) p b Kept (standing new) 0 n) (sym loss)
    (subst (λ (x : Place). IsNote (standing old) p b Kept (standing x) 0 (lost old p)) (sym is)
    (subst (λ (c : Bounds). IsNote (standing old) p c Kept (standing (Some (p, f))) 0 (lost old p))
    (ap (λ (x : Fact). x.bounds) fact) (noted p f old)))
