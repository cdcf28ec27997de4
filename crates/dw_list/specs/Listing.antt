-- A lister, as its caller sees it.
use Rattle.std.specs.Prelude.{◌≡◌, ℕ, ◌≤◌, max, List, [], ◌∷◌}
use Rattle.std.specs.Borrow.{GName}
use Rattle.dw_solve.specs.Solving.{Solving}
use Rattle.dw_list.specs.declared.lister.Lister.{Lister}
use Rattle.dw_list.specs.LineStack.{LineStack}

-- the name of the reference to the solver that the lister holds
abbrev pub lender : {B M G : Type 0} → Lister B M G → GName
lender lister = lister.solver.ghost_name

-- the solver as it stands now
abbrev pub solver_of : {B M G : Type 0} → Lister B M G → Solving M
solver_of lister = lister.solver.now

-- the stack at which the lister stands
abbrev pub stack_of : {B M G : Type 0} → Lister B M G → LineStack
stack_of lister = lister.stack

-- the last of some numbers
abbrev pub last_of : ℕ → List ℕ → ℕ
last_of first [] = first
last_of first (next ∷ more) = last_of next more

-- After turns under these limits the last limit stays, raised to 1 and to the number of positions expanded by then.
-- Without a turn the limit is the same.
abbrev pub LimitIsLast : {M : Type 0} → List ℕ → Solving M → Solving M → Type 0
LimitIsLast [] old new = new.limit ≡ old.limit
LimitIsLast (first ∷ limits) old new =
    (spent : ℕ) × (old.expanded ≤ spent) × (spent ≤ new.expanded)
    × (new.limit ≡ max (max (last_of first limits) 1) spent)
