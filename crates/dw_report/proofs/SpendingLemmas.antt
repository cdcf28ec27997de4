-- What is spent on a text, part by part.
use Rattle.std.proofs.Common.{◌≡◌, ◌≤◌, refl, subst, ◌∙◌, arith}
use Rattle.dw_solve.specs.Searching.{IsCounted}
use Rattle.dw_solve.specs.Solving.{Solving}

-- the expansions between two times
abbrev pub Counted : {M : Type 0} → Solving M → Solving M → Type 0
Counted old new = IsCounted old.expanded old.limit new.expanded new.limit

-- nothing is done
pub counted_none : {M : Type 0} (s : Solving M) → s.expanded ≤ s.limit → Counted s s
counted_none s within = record { rises = omega arith; within = within; same = refl }

-- one after another
pub counted_then : {M : Type 0} (a b c : Solving M) → Counted a b → Counted b c → Counted a c
counted_then a b c h k = record {
  rises = omega (arith, h.rises, k.rises);
  within = subst (λ z. c.expanded ≤ z) h.same k.within;
  same = k.same ∙ h.same;
}
