-- Lemmas on faults that are handed on, and on results without one.
use Rattle.std.proofs.Common.{◌≡◌, ◌∙◌, ℕ, List, refl, sym, ap, subst, Bool, true, false, Result, Ok, Err}
use Rattle.std.proofs.Common.{IsErrOf, arith, IfOk, IsTrue, ◌↔◌}
use Rattle.dw_solve.specs.Solving.{Solving}
use Rattle.dw_solve.specs.declared.stop.Stop.{Stop}
use Rattle.dw_solve.specs.declared.stop.Stop.TheVariants as stops
use Rattle.std.proofs.lemmas.Bool.{true≢false}
use Rattle.dw_report.specs.Request.{writes_rows}
use Rattle.dw_report.specs.inner.Running.{TextEnds, SinkEnds, SearchesFor, Spends}
use Rattle.dw_report.specs.declared.problem.TextFault.{TextFault}
use Rattle.dw_report.specs.declared.problem.TextFault.TheVariants.{Stopped, Sink}
use Rattle.dw_report.specs.declared.settings.Command.{Command}
use Rattle.dw_report.specs.declared.settings.Command.TheVariants.{Show, ShowRow, Moves, MovesRow, Judge, List as Lists}
use Rattle.dw_report.proofs.SearchLemmas.{same_fault, sink_not_stopped}
use Rattle.dw_report.proofs.SpendingLemmas.{Counted, counted_then}
use Rattle.dw_report.proofs.WritingLemmas.{fault_stays}

-- a fault handed on says the same of the text
pub fault_same : {X Y : Type 0} (P Part : List ℕ → Type 0) (old new : List ℕ) (r : Result X TextFault)
    (s : Result Y TextFault) (fault other : TextFault) → r ≡ Err fault → s ≡ Err other → fault ≡ other
    → TextEnds P Part old new r → TextEnds P Part old new s
fault_same P Part old new r s fault other was is same h = fault_stays P P Part Part old new r s fault other was is same
    (λ text k. k) (λ text k. k) h

-- and of the sink
pub sink_same : {X Y : Type 0} (old new : Bool) (r : Result X TextFault) (s : Result Y TextFault)
    (fault other : TextFault) → r ≡ Err fault → s ≡ Err other → fault ≡ other → SinkEnds old new r → SinkEnds old new s
sink_same {X} {Y} old new r s fault other was is same h = subst (SinkEnds {X = Y} old new) (sym is)
    (subst (λ (f : TextFault). SinkEnds {X = Y} old new (Err f)) same
    (at fault (subst (SinkEnds {X = X} old new) was h))) where
      at : (fault : TextFault) → SinkEnds {X = X} old new (Err fault) → SinkEnds {X = Y} old new (Err fault)
      at (Stopped why) h = h
      at Sink h = h

-- and of what was spent
pub spends_same : {M X Y : Type 0} (old new : Solving M) (r : Result X TextFault) (s : Result Y TextFault)
    (fault other : TextFault) → r ≡ Err fault → s ≡ Err other → fault ≡ other → Spends old new r → Spends old new s
spends_same old new r s fault other was is same h = record {
  count = h.count;
  limit = λ e. h.limit (same_fault r s fault other was is same stops.Limit e);
}

-- a result is no stop
pub ok_not_stopped : {X : Type 0} (x : X) (why : Stop) → Ok x ≡ Err (Stopped why) → ⊥
ok_not_stopped x why e = cc

-- what was spent is spent if another result comes of it
pub spends_ok : {M X Y : Type 0} (old new : Solving M) (r : Result X TextFault) (y : Y) → Spends old new r
    → Spends {M = M} {X = Y} old new (Ok y)
spends_ok old new r y h = record { count = h.count; limit = λ e. absurd (ok_not_stopped y stops.Limit e) }

-- what was spent after the count and the limit were the same
pub spends_after : {M X : Type 0} (old mid new : Solving M) (r : Result X TextFault) → mid.expanded ≡ old.expanded
    → mid.limit ≡ old.limit → Spends mid new r → Spends old new r
spends_after old mid new r count limit h = record {
  count = record {
    rises = omega (arith, count, h.count.rises);
    within = omega (arith, limit, h.count.within);
    same = h.count.same ∙ limit;
  };
  limit = h.limit;
}

-- what is told of a command is told of the one asked for, if it is the same
pub searches_for : {M X : Type 0} (command told : Command) (old new : Solving M) (r : Result X TextFault)
    → command ≡ told → SearchesFor told old new r → SearchesFor command old new r
searches_for {M} {X} command told old new r e h = subst (λ (c : Command). SearchesFor {M = M} {X = X} c old new r)
    (sym e) h

-- where moves are listed nothing is searched
pub searches_moves : {M X : Type 0} (command : Command) (old : Solving M) (r : Result X TextFault) → command ≡ Moves
    → ((why : Stop) → r ≡ Err (Stopped why) → why ≡ stops.Memory) → SearchesFor command old old r
searches_moves command old r e h = searches_for command Moves old old r e (record { same = refl; memory = h })

-- a row is written without a search, and only lack of memory stops it
pub searches_row : {M X : Type 0} (command : Command) (old : Solving M) (r : Result X TextFault)
    → writes_rows command ≡ true → ((why : Stop) → r ≡ Err (Stopped why) → why ≡ stops.Memory)
    → SearchesFor command old old r
searches_row Show old r e h = absurd (true≢false (sym e))
searches_row ShowRow old r e h = record { same = refl; memory = h }
searches_row Moves old r e h = absurd (true≢false (sym e))
searches_row MovesRow old r e h = record { same = refl; memory = h }
searches_row Judge old r e h = absurd (true≢false (sym e))
searches_row Lists old r e h = absurd (true≢false (sym e))

-- a stop is no fault of the sink
pub sink_stopped : {X : Type 0} (old new : Bool) (s : Result X TextFault) (why : Stop) → s ≡ Err (Stopped why)
    → new ≡ old → SinkEnds old new s
sink_stopped {X} old new s why e h = subst (SinkEnds {X = X} old new) (sym e) h

-- and a fault of the sink is one
pub sink_failed : {X : Type 0} (old new : Bool) (s : Result X TextFault) → s ≡ Err Sink → new ≡ true
    → SinkEnds old new s
sink_failed {X} old new s e h = subst (SinkEnds {X = X} old new) (sym e) h

-- a result was counted for
pub spends_done : {M X : Type 0} (old new : Solving M) (y : X) → Counted old new
    → Spends {M = M} {X = X} old new (Ok y)
spends_done old new y h = record { count = h; limit = λ e. absurd (ok_not_stopped y stops.Limit e) }

-- and a fault that only lack of memory or the sink makes
pub spends_memory : {M X : Type 0} (old new : Solving M) (s : Result X TextFault)
    → ((why : Stop) → s ≡ Err (Stopped why) → why ≡ stops.Memory) → Counted old new → Spends old new s
spends_memory old new s only h = record {
  count = h;
  limit = λ e. absurd (let bad : stops.Limit ≡ stops.Memory = only stops.Limit e in cc);
}

-- at a fault of the sink
pub spends_sink : {M X : Type 0} (old new : Solving M) (s : Result X TextFault) → s ≡ Err Sink → Counted old new
    → Spends old new s
spends_sink old new s e h = record { count = h; limit = λ f. absurd (sink_not_stopped s e stops.Limit f) }

same_stop : {X : Type 0} (s : Result X TextFault) (stop why : Stop) → s ≡ Err (Stopped stop) → s ≡ Err (Stopped why)
    → stop ≡ why
same_stop s stop why e f = cc

-- a search was stopped at the limit if it says so
pub spends_stopped : {M X A : Type 0} (old new : Solving M) (r : Result A Stop) (s : Result X TextFault) (stop : Stop)
    → r ≡ Err stop → s ≡ Err (Stopped stop) → (IsErrOf r stops.Limit → new.expanded ≡ new.limit) → Counted old new
    → Spends old new s
spends_stopped old new r s stop was is limit h = record {
  count = h;
  limit = λ e. limit (was ∙ ap Err (same_stop s stop stops.Limit is e));
}

-- nothing but lack of memory stopped
pub only_memory : {X : Type 0} (s : Result X TextFault) (fault : TextFault) → s ≡ Err fault
    → fault ≡ Stopped stops.Memory → (why : Stop) → s ≡ Err (Stopped why) → why ≡ stops.Memory
only_memory s fault is same why e = sym (same_stop s stops.Memory why (is ∙ ap Err same) e)

pub not_stopped : {X : Type 0} (s : Result X TextFault) → s ≡ Err Sink → (why : Stop) → s ≡ Err (Stopped why)
    → why ≡ stops.Memory
not_stopped s e why f = absurd (sink_not_stopped s e why f)

-- lack of memory is not the limit
pub spends_no_memory : {M X : Type 0} (old new : Solving M) (s : Result X TextFault) (fault : TextFault)
    → s ≡ Err fault → fault ≡ Stopped stops.Memory → Counted old new → Spends old new s
spends_no_memory old new s fault is same h = spends_memory old new s (only_memory s fault is same) h

-- what was spent after what went before
pub spends_further : {M X : Type 0} (a b c : Solving M) (r : Result X TextFault) → Counted a b → Spends b c r
    → Spends a c r
spends_further a b c r h spent = record { count = counted_then a b c h spent.count; limit = spent.limit }

-- only where lines are listed can one be refused
pub refused_none : {X : Type 0} (command : Command) → (command ≡ Lists → ⊥)
    → IsTrue false ↔ ((command ≡ Lists) × X)
refused_none command other = (λ t. let bad : false ≡ true = t in cc, λ h. absurd (other h.0))

pub refused_lists : (X : Type 0) (command : Command) (r : Result Bool TextFault) → command ≡ Lists
    → IfOk r (λ b. IsTrue b ↔ X) → IfOk r (λ b. IsTrue b ↔ ((command ≡ Lists) × X))
refused_lists X command (Ok b) e h = (λ t. (e, h.0 t), λ k. h.1 k.1)
refused_lists X command (Err fault) e h = h

-- a row of a position is no refusal
pub refused_row : (X : Type 0) (command : Command) (r : Result Bool TextFault) → (command ≡ Lists → ⊥)
    → IfOk r (λ b. b ≡ false) → IfOk r (λ b. IsTrue b ↔ ((command ≡ Lists) × X))
refused_row X command (Ok b) other h = (λ t. let bad : false ≡ true = sym h ∙ t in cc, λ k. absurd (other k.0))
refused_row X command (Err fault) other h = h

-- a problem that is refused is refused
pub refused_all : (r : Result Bool TextFault) → IfOk r (λ b. b ≡ true) → IfOk r (λ b. IsTrue b ↔ Unit {0})
refused_all (Ok b) h = (λ t. tt, λ k. h)
refused_all (Err fault) h = h
