-- What stands written of neighbours after a fault.
use Rattle.std.proofs.Common.{◌≡◌, ◌⊎◌, ◌-◌, ◌++◌, ◌==◌, ℕ, cond, not, List, [], Ok, inl, inr, refl}
use Rattle.std.proofs.Common.{sym}
use Rattle.std.proofs.Common.{subst}
use Rattle.dw_arguments.specs.declared.mend.MendArgs.{MendArgs}
use Rattle.dw_board.specs.Geometry.{Geometry}
use Rattle.dw_board.specs.Placement.{Placement}
use Rattle.dw_commands.specs.declared.ending.Ending.{Ending}
use Rattle.dw_commands.specs.declared.ending.Ending.TheVariants.{Done, Refused}
use Rattle.dw_desk_commands.specs.Mend.{IsMendOf, IsMendPart, IsMended, wording_for}
use Rattle.dw_desk_commands.specs.ProblemText.{heading}
use Rattle.dw_desk_commands.specs.inner.Faults.{of_mend}
use Rattle.dw_desk_commands.specs.inner.Standing.{MayLeave, Stands}
use Rattle.dw_desk_commands.proofs.ProblemLemmas.{bounded_from}
use Rattle.dw_desk_commands.proofs.StandingLemmas.{second_begins}
use Rattle.dw_mend.specs.Changes.{AreNeighbours, Change}
use Rattle.dw_mend.specs.Mending.{AreBounded, IsMendStop, IsMendText}
use Rattle.dw_mend.specs.declared.mend.MendFault.{MendFault}
use Rattle.dw_mend.specs.declared.mend.MendFault.TheVariants as mending
use Rattle.dw_notation.specs.Problems.{Numbered}
use Rattle.dw_notation.specs.Streams.{Appends}
use Rattle.dw_notation.specs.Writes.{StopsShort}
use Rattle.dw_notation.specs.inner.StreamLemmas.{Appends-trans}
use Rattle.dw_parts.specs.Parts.{part_of}
use Rattle.dw_solve.specs.declared.stop.Stop.{Stop}

-- the lines of some first neighbours
abbrev pub AreLines : Geometry → MendArgs → Placement → List ℕ → Type 0
AreLines g query p lines = (all : List (Change × Placement)) → AreNeighbours g p all
    → IsMendStop (wording_for query.json) g query.n.value query.each (part_of query.part query.parts all) lines

-- the lines of all neighbours, and their number
pub record AreAll (g : Geometry) (query : MendArgs) (p : Placement) (lines : List ℕ) : Type 0 where
  pub all : ℕ
  pub sound : ℕ
  pub undecided : ℕ
  pub before : ℕ
  pub after : ℕ
  pub text : IsMendText (wording_for query.json) g p query.n.value query.each query.part query.parts all sound undecided
      (after - before) lines
  pub bounded : AreBounded query.each all undecided before after

pub no_lines : (g : Geometry) (query : MendArgs) (p : Placement) → AreLines g query p []
no_lines g query p = λ all are. record {
  some = 0;
  counts = record { sound = 0; undecided = 0; expanded = 0 };
  mended = (refl, refl, refl, refl);
}

-- a first line and lines are a part of the output
pub lines_left : (g : Geometry) (query : MendArgs) (problem : Numbered) (p : Placement) (lines : List ℕ)
    → problem.found ≡ Ok p → AreLines g query p lines
    → IsMendPart g query problem (heading g (not query.json) problem ++ lines)
lines_left g query problem p lines is are = (p, is, lines, are, refl)

-- a first line and all lines are the output
pub all_told : (T : Type 0) (g : Geometry) (query : MendArgs) (problem : Numbered) (p : Placement) (lines : List ℕ)
    → problem.found ≡ Ok p → AreAll g query p lines
    → (expanded : ℕ) × (ending : Ending T)
    × IsMendOf g query expanded problem ending (heading g (not query.json) problem ++ lines)
all_told T g query problem p lines is all =
    let refused = not (all.undecided == 0) in
    let text = heading g (not query.json) problem ++ lines in (
      all.after - all.before,
      cond refused Refused Done,
      (
        refused,
        subst (λ z. IsMended g query (all.after - all.before) problem z refused text) (sym is) (
          lines,
          (
            all.all,
            all.sound,
            all.undecided,
            all.text,
            bounded_from query.each all.all all.undecided all.before all.before all.after refl all.bounded,
            refl,
          ),
          refl,
        ),
        refl,
      ),
    )

-- the first line was written, and then a fault came
pub mend_stands : (g : Geometry) (query : MendArgs) (problem : Numbered) (p : Placement) (Whole : List ℕ → Type 0)
    (start mid new : List ℕ) (fault : MendFault) → problem.found ≡ Ok p
    → Appends start mid (heading g (not query.json) problem)
    → ((stop : Stop) → fault ≡ mending.Stopped stop → (text : List ℕ) × AreLines g query p text × Appends mid new text)
    → (fault ≡ mending.Write
    → (text : List ℕ) × StopsShort mid new text × (AreLines g query p text ⊎ AreAll g query p text))
    → ((text : List ℕ) → AreAll g query p text → Whole (heading g (not query.json) problem ++ text))
    → Stands (MayLeave (IsMendPart g query problem)) Whole start new (of_mend fault)
mend_stands g query problem p Whole start mid new (mending.Stopped stop) is front stopped short all =
    let s = stopped stop refl in
    let first = heading g (not query.json) problem in
    record {
      text = first ++ s.0;
      wrote = Appends-trans start mid new first s.0 front s.2;
      after = inr (lines_left g query problem p s.0 is s.1);
    }
mend_stands g query problem p Whole start mid new mending.Write is front stopped short all =
    let s = short refl in
    let first = heading g (not query.json) problem in
    record {
      text = first ++ s.1.out;
      wrote = Appends-trans start mid new first s.1.out front s.1.taken;
      after = (
        first ++ s.0,
        second_begins first s.1.out s.0 s.1.front,
        elim s.2 [
          | inl lines ↦ inl (inr (lines_left g query problem p s.0 is lines))
          | inr told ↦ inr (all s.0 told)
        ],
      );
    }
