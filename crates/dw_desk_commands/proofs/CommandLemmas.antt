-- What a command does with the chosen games.
use Rattle.std.proofs.Common.{◌≡◌, ℕ, Bool, List, [], ◌∷◌, Option, Some, None, inl, inr, refl, sym, subst, ap}
use Rattle.dw_board.specs.Geometry.{Geometry}
use Rattle.dw_desk_commands.specs.Commands.{FailsAt, IsDone, IsLeft, Leaves, RunsCommand, StandsAfter, Tells}
use Rattle.dw_desk_commands.specs.Commands.{form_for}
use Rattle.dw_desk_commands.specs.Ending.{ending_after}
use Rattle.dw_desk_commands.specs.Page.{IsPageOf, IsPageStop}
use Rattle.dw_desk_commands.specs.Same.{IsSameOf, IsSamePart, none_compared}
use Rattle.dw_arguments.specs.declared.page.PageArgs.{PageArgs}
use Rattle.dw_arguments.specs.declared.same.SameArgs.{SameArgs}
use Rattle.dw_desk_commands.specs.ProblemText.{IsPartOfFirst, IsPartOfReport, IsReport, IsReportOnAll, IsReportOnOne}
use Rattle.dw_desk_commands.specs.ProblemText.{nothing}
use Rattle.dw_desk_commands.specs.declared.chosen.Chosen.{Chosen}
use Rattle.dw_desk_commands.specs.declared.desk.Counts.{Counts}
use Rattle.dw_desk_commands.specs.declared.desk.DeskFault.{DeskFault}
use Rattle.dw_desk_commands.specs.declared.desk.DeskFault.TheVariants as because
use Rattle.dw_desk_commands.specs.inner.Faults.{run_fault}
use Rattle.dw_desk_commands.specs.inner.Standing.{IsAfter, StandsOf}
use Rattle.dw_desk_commands.specs.inner.Choosing.{AreToCome, GoesOn, IsFresh, MayBe, source_of}
use Rattle.dw_desk_commands.specs.inner.NextGame.{IsNext, as_list}
use Rattle.dw_desk_commands.proofs.ChosenLemmas.{GoesOn-refl, holds_ahead}
use Rattle.dw_desk_commands.proofs.StandingLemmas.{no_part, stands_so}
use Rattle.dw_commands.specs.declared.ending.Ending.{Ending}
use Rattle.dw_arguments.specs.declared.desk.DeskArgs.{DeskArgs}
use Rattle.dw_arguments.specs.declared.desk.Task.{Task}
use Rattle.dw_arguments.specs.declared.desk.Task.TheVariants as tasks
use Rattle.dw_arguments.specs.declared.portion.Portion.{Portion}
use Rattle.dw_games.specs.Games.{NumberedGame}
use Rattle.dw_notation.specs.Streams.{Supply, Appends}
use Rattle.dw_notation.specs.inner.StreamLemmas.{Appends-nil}
use Rattle.dw_report.specs.declared.settings.RunFault.TheVariants as running
use Rattle.dw_solve.specs.declared.stop.Stop.TheVariants as stops

-- a text was written that is right, whatever the whole text is
pub does_it : {B S T : Type 0} (g : Geometry) (supply : S → Supply) (args : DeskArgs) (expanded : ℕ)
    (old after : Chosen B S) (accepted new : List ℕ) (ending : Ending T) (text : List ℕ)
    → IsFresh g supply (form_for args.task args.form) args.portion old → GoesOn supply old.text after.text
    → Appends accepted new text
    → ((whole : List ℕ) → MayBe supply after whole → (games : List NumberedGame) × AreToCome g supply old whole games
    × Tells g args.portion args.task expanded games ending text)
    → RunsCommand g args expanded (supply (source_of old.text)) (supply (source_of after.text)) accepted new ending
does_it g supply args expanded old after accepted new ending text fresh on wrote told = record {
  read = on.read;
  took = on.took;
  text = text;
  wrote = wrote;
  done = holds_ahead supply (λ bytes. IsDone g args expanded bytes ending text) old after on fresh.end (λ whole may.
      let all = told whole may in
      let chosen = fresh.all whole all.0 all.1 in
      (chosen.0, chosen.1, record { games = all.0; are = chosen.2; told = all.2 }));
}

-- a report on all of them
pub does_all : {B S T : Type 0} (g : Geometry) (supply : S → Supply) (args : DeskArgs) (expanded : ℕ)
    (old after : Chosen B S) (accepted new : List ℕ) (One : ℕ → NumberedGame → Bool → List ℕ → Type 0)
    (counts : Counts) (ending : Ending T)
    → IsFresh g supply (form_for args.task args.form) args.portion old → GoesOn supply old.text after.text
    → ((games : List NumberedGame) × (text : List ℕ)
    × ((whole : List ℕ) → MayBe supply after whole → AreToCome g supply old whole games)
    × IsReport One expanded games counts text × Appends accepted new text)
    → ending ≡ ending_after counts.shown counts.refused args.portion
    → ((games : List NumberedGame) (text : List ℕ) → IsReportOnAll One expanded args.portion games ending text
    → Tells g args.portion args.task expanded games ending text)
    → RunsCommand g args expanded (supply (source_of old.text)) (supply (source_of after.text)) accepted new ending
does_all g supply args expanded old after accepted new One counts ending fresh on report ends tells =
    does_it g supply args expanded old after accepted new ending report.1 fresh on report.4
    (λ whole may. (report.0, report.2 whole may, tells report.0 report.1 (counts, report.3, ends)))

-- the games of which the first was reported alone
first_of_all : {B S T : Type 0} (g : Geometry) (supply : S → Supply) (old after : Chosen B S)
    (One : NumberedGame → Ending T → List ℕ → Type 0) (next : Option NumberedGame) (number : ℕ) (ending : Ending T)
    (text whole : List ℕ) → IsNext g supply old after next → IsReportOnOne One number (as_list next) ending text
    → MayBe supply after whole → (games : List NumberedGame) × AreToCome g supply old whole games
    × IsReportOnOne One number games ending text
first_of_all g supply old after One None number ending text whole is report may = ([], is.0 whole may, report)
first_of_all g supply old after One (Some game) number ending text whole is report may =
    let rest = is.1 whole may in (game ∷ rest.0, is.0 whole rest.0 rest.1, report)

-- a report on the first of them
pub does_one : {B S T : Type 0} (g : Geometry) (supply : S → Supply) (args : DeskArgs) (expanded : ℕ)
    (old after : Chosen B S) (accepted new : List ℕ) (One : NumberedGame → Ending T → List ℕ → Type 0)
    (ending : Ending T) → IsFresh g supply (form_for args.task args.form) args.portion old
    → ((next : Option NumberedGame) × (text : List ℕ) × IsNext g supply old after next
    × IsReportOnOne One old.portion.first (as_list next) ending text × Appends accepted new text)
    → ((games : List NumberedGame) (text : List ℕ) → IsReportOnOne One args.portion.first games ending text
    → Tells g args.portion args.task expanded games ending text)
    → RunsCommand g args expanded (supply (source_of old.text)) (supply (source_of after.text)) accepted new ending
does_one g supply args expanded old after accepted new One ending fresh report tells =
    does_it g supply args expanded old after accepted new ending report.1 fresh report.2.2 report.4 (λ whole may.
    let all = first_of_all g supply old after One report.0 old.portion.first ending report.1 whole report.2 report.3 may
    in (
      all.0,
      all.1,
      tells all.0 report.1 (subst (λ z. IsReportOnOne One z all.0 ending report.1) (ap (λ z. z.first) fresh.portion)
          all.2),
    ))

-- ---- what is left after a fault

-- the output of a command that ran to its end
abbrev pub IsAll : (T : Type 0) → Geometry → Portion → Task → List NumberedGame → List ℕ → Type 0
IsAll T g portion task games text =
    (ending : Ending T) × (expanded : ℕ) × Tells g portion task expanded games ending text

-- of a report on all games
pub all_left : (T : Type 0) (g : Geometry) (portion : Portion) (task other : Task) (MayBe : List ℕ → Type 0)
    (Coming : List ℕ → List NumberedGame → Type 0) (old new : List ℕ) (fault : DeskFault)
    (Left : List NumberedGame → List ℕ → Type 0) → task ≡ other
    → ((games : List NumberedGame) (text : List ℕ) → Left games text → Leaves g other games text)
    → StandsOf Left (λ games text. ⊥) MayBe Coming old new fault
    → StandsOf (Leaves g task) (IsAll T g portion task) MayBe Coming old new fault
all_left T g portion task other MayBe Coming old new fault Left is left stands =
    subst (λ t. StandsOf (Leaves g t) (IsAll T g portion t) MayBe Coming old new fault) (sym is)
    (stands_so Left (λ games text. ⊥) (Leaves g other) (IsAll T g portion other) MayBe Coming old new fault left
    (λ games text none. absurd none) stands)

-- of a page
pub page_left : (T : Type 0) (g : Geometry) (portion other : Portion) (task : Task) (query : PageArgs)
    (MayBe : List ℕ → Type 0) (Coming : List ℕ → List NumberedGame → Type 0) (old new : List ℕ) (fault : DeskFault)
    → task ≡ tasks.Page query → other ≡ portion
    → StandsOf (IsPageStop g query) (λ games text. (counts : Counts) × IsPageOf g query other games counts text) MayBe
    Coming old new fault
    → StandsOf (Leaves g task) (IsAll T g portion task) MayBe Coming old new fault
page_left T g portion other task query MayBe Coming old new fault is same stands =
    subst (λ t. StandsOf (Leaves g t) (IsAll T g portion t) MayBe Coming old new fault) (sym is)
    (stands_so (IsPageStop g query) (λ games text. (counts : Counts) × IsPageOf g query other games counts text)
    (IsPageStop g query) (IsAll T g portion (tasks.Page query)) MayBe Coming old new fault (λ games text left. left)
    (λ games text page. (
      ending_after page.0.shown page.0.refused portion,
      0,
      (page.0, subst (λ z. IsPageOf g query z games page.0 text) same page.1, refl),
    )) stands)

-- of the problems that repeat an earlier one
pub same_left : (T : Type 0) (g : Geometry) (portion other : Portion) (task : Task) (query : SameArgs)
    (MayBe : List ℕ → Type 0) (Coming : List ℕ → List NumberedGame → Type 0) (old new : List ℕ) (fault : DeskFault)
    → task ≡ tasks.Same query → other ≡ portion
    → StandsOf (IsSamePart g query) (λ games text. (counts : Counts) × IsSameOf g query other games counts text) MayBe
    Coming old new fault
    → StandsOf (Leaves g task) (IsAll T g portion task) MayBe Coming old new fault
same_left T g portion other task query MayBe Coming old new fault is same stands =
    subst (λ t. StandsOf (Leaves g t) (IsAll T g portion t) MayBe Coming old new fault) (sym is)
    (stands_so (IsSamePart g query) (λ games text. (counts : Counts) × IsSameOf g query other games counts text)
    (IsSamePart g query) (IsAll T g portion (tasks.Same query)) MayBe Coming old new fault (λ games text left. left)
    (λ games text all. (
      ending_after all.0.shown all.0.refused portion,
      0,
      (all.0, subst (λ z. IsSameOf g query z games all.0 text) same all.1, refl),
    )) stands)

-- nothing is left of a game
pub nothing_left : (games : List NumberedGame) (text : List ℕ)
    → IsPartOfFirst (λ (game : NumberedGame) (one : List ℕ). one ≡ []) games text → text ≡ []
nothing_left [] text none = none
nothing_left (game ∷ games) text (inl none) = none
nothing_left (game ∷ games) text (inr none) = none

-- of a report on one game
pub one_left : (T : Type 0) (g : Geometry) (portion : Portion) (task other : Task) (MayBe : List ℕ → Type 0)
    (Coming : List ℕ → List NumberedGame → Type 0) (old new : List ℕ) (fault : DeskFault)
    (Left : List NumberedGame → List ℕ → Type 0) (One : ℕ → NumberedGame → Ending T → List ℕ → Type 0)
    (number : ℕ) → task ≡ other → number ≡ portion.first
    → ((games : List NumberedGame) (text : List ℕ) → Left games text → Leaves g other games text)
    → ((games : List NumberedGame) (text : List ℕ) (expanded : ℕ) (ending : Ending T)
    → IsReportOnOne (One expanded) portion.first games ending text → Tells g portion other expanded games ending text)
    → StandsOf Left (λ games text. (expanded : ℕ) × (ending : Ending T)
    × IsReportOnOne (One expanded) number games ending text) MayBe Coming old new fault
    → StandsOf (Leaves g task) (IsAll T g portion task) MayBe Coming old new fault
one_left T g portion task other MayBe Coming old new fault Left One number is first left tells stands =
    subst (λ t. StandsOf (Leaves g t) (IsAll T g portion t) MayBe Coming old new fault) (sym is)
    (stands_so Left (λ games text. (expanded : ℕ) × (ending : Ending T)
    × IsReportOnOne (One expanded) number games ending text) (Leaves g other) (IsAll T g portion other) MayBe Coming old
    new fault left (λ games text one. (
      one.1,
      one.0,
      tells games text one.0 one.1
          (subst (λ z. IsReportOnOne (One one.0) z games one.1 text) first one.2),
    )) stands)

stands_after : (T : Type 0) (g : Geometry) (portion : Portion) (task : Task) (fault : DeskFault) (expanded : ℕ)
    (games : List NumberedGame) (text : List ℕ)
    → IsAfter (Leaves g task games) (IsAll T g portion task games) fault text
    → StandsAfter T g portion task (run_fault fault expanded) games text
stands_after T g portion task (because.Stopped stop) expanded games text after = after
stands_after T g portion task because.Read expanded games text after = after
stands_after T g portion task because.Write expanded games text after = after

-- what is left is left of the output for the bytes that were read, whatever bytes follow
pub fails_at : {B S : Type 0} (T : Type 0) (g : Geometry) (supply : S → Supply) (args : DeskArgs)
    (old after : Chosen B S)
    (accepted new : List ℕ) (fault : DeskFault) (expanded : ℕ)
    → IsFresh g supply (form_for args.task args.form) args.portion old → GoesOn supply old.text after.text
    → StandsOf (Leaves g args.task) (IsAll T g args.portion args.task) (MayBe supply after) (AreToCome g supply old)
    accepted new fault
    → FailsAt T g args (supply (source_of old.text)) (supply (source_of after.text)) accepted new
    (run_fault fault expanded)
fails_at T g supply args old after accepted new fault expanded fresh on stands = record {
  read = on.read;
  took = on.took;
  text = stands.text;
  wrote = stands.wrote;
  left = holds_ahead supply (λ bytes. IsLeft T g args bytes (run_fault fault expanded) stands.text) old after on
      fresh.end (λ whole may.
      let all = stands.after whole may in
      let chosen = fresh.all whole all.0 all.1 in (
        chosen.0,
        chosen.1,
        record {
          games = all.0;
          are = chosen.2;
          stands = stands_after T g args.portion args.task fault expanded all.0 stands.text all.2;
        },
      ));
}

nothing_of_all : {One : ℕ → NumberedGame → Bool → List ℕ → Type 0} {Part : NumberedGame → List ℕ → Type 0}
    (games : List NumberedGame) → IsPartOfReport One Part games []
nothing_of_all {One} {Part} games = record {
  before = [];
  behind = games;
  are = refl;
  texts = [];
  whole = nothing;
  part = [];
  further = no_part Part games;
  is = refl;
}

-- nothing is left of a command at first
leaves_nothing : (g : Geometry) (task : Task) (games : List NumberedGame) → Leaves g task games []
leaves_nothing g (tasks.Find query) games = nothing_of_all games
leaves_nothing g (tasks.Check query) games = nothing_of_all games
leaves_nothing g (tasks.Solution query) games = nothing_of_all games
leaves_nothing g (tasks.Page query) games = inl refl
leaves_nothing g (tasks.Same query) games = record {
  problems = [];
  behind = games;
  are = refl;
  each = none_compared;
}
leaves_nothing g (tasks.Certify query) games = refl
leaves_nothing g (tasks.Moves query) games = no_part _ games
leaves_nothing g (tasks.Mend query) games = no_part _ games
leaves_nothing g (tasks.Token line) games = refl

-- memory was refused before anything was read
pub fails_at_once : {B S : Type 0} (T : Type 0) (g : Geometry) (supply : S
    → Supply) (args : DeskArgs) (old : Chosen B S)
    (accepted : List ℕ) → IsFresh g supply (form_for args.task args.form) args.portion old
    → FailsAt T g args (supply (source_of old.text)) (supply (source_of old.text)) accepted accepted
    (running.Stopped stops.Memory 0)
fails_at_once T g supply args old accepted fresh =
    fails_at T g supply args old old accepted accepted (because.Stopped stops.Memory) 0 fresh
    (GoesOn-refl supply old.text) (record {
      text = [];
      wrote = Appends-nil accepted;
      after = λ whole may. let some = fresh.some whole may in (some.0, some.1, leaves_nothing g args.task some.0);
    })
