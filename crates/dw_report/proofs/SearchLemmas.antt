-- Lemmas on what was searched for a text.
use Rattle.std.proofs.Common.{◌≡◌, ℕ, ◌≤◌, refl, arith, Result, Err, ap, ◌∙◌, sym, subst, false}
use Rattle.std.proofs.lemmas.Bool.{true≢false}
use Rattle.dw_solve.specs.Solving.{Solving}
use Rattle.dw_solve.specs.declared.stop.Stop.{Stop}
use Rattle.dw_solve.specs.declared.stop.Stop.TheVariants as stops
use Rattle.dw_report.specs.inner.Running.{StopsSearch}
use Rattle.dw_report.specs.Running.{MayStop, StopsRightly, TellsExpanded}
use Rattle.dw_report.specs.inner.Running.{IsStill, SearchesFor, Spends, ended_by, searches}
use Rattle.dw_report.proofs.SpendingLemmas.{Counted, counted_then}
use Rattle.dw_report.specs.declared.problem.TextFault.{TextFault}
use Rattle.dw_report.specs.declared.problem.TextFault.TheVariants.{Stopped, Sink}
use Rattle.dw_report.specs.declared.settings.RunFault.{RunFault}
use Rattle.dw_report.specs.declared.settings.RunFault.TheVariants as ends
use Rattle.dw_report.specs.declared.settings.Summary.{Summary}
use Rattle.dw_report.specs.declared.settings.Command.{Command}
use Rattle.dw_report.specs.declared.settings.Command.TheVariants.{Show, ShowRow, Moves, MovesRow, Judge, List as Lists}

-- nothing was searched, and nothing stopped it
pub searches_none : {M X : Type 0} (command : Command) (old new : Solving M) (r : Result X TextFault) → new ≡ old
    → old.expanded ≤ old.limit → ((why : Stop) → r ≡ Err (Stopped why) → ⊥) → SearchesFor command old new r
searches_none {M} {X} command old new r same within none = subst (λ (z : Solving M). SearchesFor {M = M} {X = X} command
    old z r) (sym same) (at command) where
      still : IsStill {M = M} {X = X} old old r
      still = record { same = refl; memory = λ why e. absurd (none why e) }

      at : (command : Command) → SearchesFor {M = M} {X = X} command old old r
      at Show = (refl, none)
      at ShowRow = still
      at Moves = still
      at MovesRow = still
      at Judge = record {
        count = record { rises = omega arith; within = within; same = refl };
        limit =
            λ e. absurd (none stops.Limit e);
      }
      at Lists = record {
        count = record { rises = omega arith; within = within; same = refl };
        limit =
            λ e. absurd (none stops.Limit e);
      }

pub sink_not_stopped : {X : Type 0} (r : Result X TextFault) → r ≡ Err Sink → (why : Stop) → r ≡ Err (Stopped why) → ⊥
sink_not_stopped r e why f = cc

still_as : {M X Y : Type 0} (old new : Solving M) (r : Result X TextFault) (s : Result Y TextFault)
    → ((why : Stop) → s ≡ Err (Stopped why) → r ≡ Err (Stopped why)) → IsStill old new r → IsStill old new s
still_as old new r s to h = record { same = h.same; memory = λ why e. h.memory why (to why e) }

-- what ends in the same way, or without a stop, was searched in the same way
pub searches_as : {M X Y : Type 0} (command : Command) (old new : Solving M) (r : Result X TextFault)
    (s : Result Y TextFault) → ((why : Stop) → s ≡ Err (Stopped why) → r ≡ Err (Stopped why))
    → SearchesFor command old new r → SearchesFor command old new s
searches_as Show old new r s to h = (h.0, λ why e. h.1 why (to why e))
searches_as ShowRow old new r s to h = still_as old new r s to h
searches_as Moves old new r s to h = still_as old new r s to h
searches_as MovesRow old new r s to h = still_as old new r s to h
searches_as Judge old new r s to h = record { count = h.count; limit = λ e. h.limit (to stops.Limit e) }
searches_as Lists old new r s to h = record { count = h.count; limit = λ e. h.limit (to stops.Limit e) }

-- a fault that is handed on
pub same_fault : {X Y : Type 0} (r : Result X TextFault) (s : Result Y TextFault) (fault other : TextFault)
    → r ≡ Err fault → s ≡ Err other → fault ≡ other → (why : Stop) → s ≡ Err (Stopped why) → r ≡ Err (Stopped why)
same_fault r s fault other was is same why e = let stopped : other ≡ Stopped why = cc in was
    ∙ (ap Err same ∙ ap Err stopped)

keeps_all : {M X : Type 0} (old new : Solving M) → new ≡ old
    → (new.limit ≡ old.limit) × (X → new.expanded ≡ old.expanded)
keeps_all {M} old new e = (ap (λ (s : Solving M). s.limit) e, λ x. ap (λ (s : Solving M). s.expanded) e)

-- the limit stays, and if nothing is searched the count does
pub searches_keep : {M X : Type 0} (command : Command) (old new : Solving M) (r : Result X TextFault)
    → SearchesFor command old new r
    → (new.limit ≡ old.limit) × (searches command ≡ false → new.expanded ≡ old.expanded)
searches_keep Show old new r h = keeps_all old new h.0
searches_keep ShowRow old new r h = keeps_all old new h.same
searches_keep Moves old new r h = keeps_all old new h.same
searches_keep MovesRow old new r h = keeps_all old new h.same
searches_keep Judge old new r h = (h.count.same, λ e. absurd (true≢false e))
searches_keep Lists old new r h = (h.count.same, λ e. absurd (true≢false e))

stops_search : {M X : Type 0} (old new : Solving M) (r : Result X TextFault) (why : Stop) → r ≡ Err (Stopped why)
    → Spends old new r → StopsSearch old.limit why new.expanded
stops_search old new r stops.Limit e h = h.limit e ∙ h.count.same
stops_search old new r stops.Memory e h = h.count.within

still_stops : {M X : Type 0} (old new : Solving M) (r : Result X TextFault) (why : Stop) → r ≡ Err (Stopped why)
    → IsStill old new r → (before : ℕ) → old.expanded ≡ before → (why ≡ stops.Memory) × (new.expanded ≡ before)
still_stops {M} old new r why e h before still = (h.memory why e, ap (λ (s : Solving M). s.expanded) h.same ∙ still)

may_stop : {M X : Type 0} (command : Command) (before : ℕ) (old new : Solving M) (r : Result X TextFault) (why : Stop)
    → r ≡ Err (Stopped why) → SearchesFor command old new r → (searches command ≡ false → old.expanded ≡ before)
    → MayStop command before old.limit why new.expanded
may_stop Show before old new r why e h still = h.1 why e
may_stop ShowRow before old new r why e h still = still_stops old new r why e h before (still refl)
may_stop Moves before old new r why e h still = still_stops old new r why e h before (still refl)
may_stop MovesRow before old new r why e h still = still_stops old new r why e h before (still refl)
may_stop Judge before old new r stops.Limit e h still = stops_search old new r stops.Limit e h
may_stop Judge before old new r stops.Memory e h still = stops_search old new r stops.Memory e h
may_stop Lists before old new r stops.Limit e h still = stops_search old new r stops.Limit e h
may_stop Lists before old new r stops.Memory e h still = stops_search old new r stops.Memory e h

ends_apart : (r : Result Summary RunFault) (why : Stop) (n : ℕ) → r ≡ Err ends.Write → r ≡ Err (ends.Stopped why n) → ⊥
ends_apart r why n e f = cc

ends_same : (r : Result Summary RunFault) (w why : Stop) (n expanded : ℕ) → r ≡ Err (ends.Stopped w n)
    → r ≡ Err (ends.Stopped why expanded) → (w ≡ why) × (n ≡ expanded)
ends_same r w why n expanded e f = let one : w ≡ why = cc in let two : n ≡ expanded = cc in (one, two)

-- a run that ends with a fault stops rightly
pub stops_rightly : {M X : Type 0} (command : Command) (before limit : ℕ) (old new : Solving M) (r : Result X TextFault)
    (fault : TextFault) → r ≡ Err fault → SearchesFor command old new r → old.limit ≡ limit
    → (searches command ≡ false → old.expanded ≡ before)
    → StopsRightly command before limit (Err (ended_by fault new.expanded))
stops_rightly command before limit old new r Sink e h same still = λ why expanded bad. absurd
    (ends_apart (Err ends.Write) why expanded refl bad)
stops_rightly command before limit old new r (Stopped w) e h same still = λ why expanded is.
    let parts = ends_same (Err (ends.Stopped w new.expanded)) w why new.expanded expanded refl is in
    let may = subst (λ z. MayStop command before z w new.expanded) same (may_stop command before old new r w e h still)
    in subst (λ z. MayStop command before limit z expanded) parts.0
    (subst (λ z. MayStop command before limit w z) parts.1 may)

-- and tells what was expanded
pub tells_expanded : (fault : TextFault) (expanded : ℕ) → TellsExpanded expanded (Err (ended_by fault expanded))
tells_expanded Sink expanded = λ why told bad. absurd (ends_apart (Err ends.Write) why told refl bad)
tells_expanded (Stopped w) expanded = λ why told is.
    sym (ends_same (Err (ends.Stopped w expanded)) w why expanded told refl is).1

counted_same : {M : Type 0} (first old new : Solving M) → Counted first old → new ≡ old → Counted first new
counted_same {M} first old new so_far same = subst (λ (s : Solving M). Counted first s) (sym same) so_far

-- what was counted before a text, and for it
pub searches_counted : {M X : Type 0} (command : Command) (first old new : Solving M) (r : Result X TextFault)
    → Counted first old → SearchesFor command old new r → Counted first new
searches_counted Show first old new r so_far h = counted_same first old new so_far h.0
searches_counted ShowRow first old new r so_far h = counted_same first old new so_far h.same
searches_counted Moves first old new r so_far h = counted_same first old new so_far h.same
searches_counted MovesRow first old new r so_far h = counted_same first old new so_far h.same
searches_counted Judge first old new r so_far h = counted_then first old new so_far h.count
searches_counted Lists first old new r so_far h = counted_then first old new so_far h.count
