-- A verdict and then its tries are written.
use Rattle.std.proofs.Common.{◌≡◌, ℕ, List, [], ◌∷◌, ◌++◌, refl, sym, ap, ◌∙◌, subst, inl, append_assoc, append-nil}
use Rattle.std.proofs.Common.{codes, decimal, Result, Ok, Err}
use Rattle.dw_notation.specs.Streams.{Appends}
use Rattle.dw_notation.specs.inner.StreamLemmas.{Appends-trans, Appends-nil}
use Rattle.dw_board.specs.Geometry.{Geometry, IsBoard}
use Rattle.dw_board.specs.Placement.{Placement}
use Rattle.dw_notation.specs.TextLaws.{MovesHaveTexts, LinesHaveTexts}
use Rattle.dw_notation.specs.inner.Writes.{Writes}
use Rattle.dw_verdict.specs.Verdict.{Verdict, unsolvable, cooked, dual, sound}
use Rattle.dw_verdict.specs.VerdictLaws.{OneVerdict, TriesAreListed}
use Rattle.dw_report.specs.JudgedText.{next_number, IsVerdictText, IsJudgedText}
use Rattle.dw_report.specs.inner.JudgedText.{IsVerdictLine, AreTriesListed}
use Rattle.dw_report.specs.Running.{AreLinesOf}
use Rattle.dw_report.specs.inner.Running.{TextEnds}
use Rattle.dw_report.specs.declared.problem.TextFault.{TextFault}
use Rattle.dw_report.specs.declared.problem.TextFault.TheVariants.{Stopped, Sink}
use Rattle.dw_report.proofs.JudgedTextLemmas.{judged_some, tries_listed_some}
use Rattle.dw_report.proofs.TryTextLemmas.{lines_behind}
use Rattle.dw_report.proofs.WritingLemmas.{stops_within}

verdict_ends : (g : Geometry) (p : Placement) (n : ℕ) (v : Verdict) (line : List ℕ) → IsVerdictText g p n v line
    → (front : List ℕ) × (line ≡ front ++ 10 ∷ [])
verdict_ends g p n unsolvable line e = (codes "unsolvable in " ++ decimal n, e)
verdict_ends g p n (cooked shortest keys) line (moves, are, e) = (
  codes "cooked in " ++ decimal n ++ codes ", shortest " ++ decimal shortest ++ codes ": " ++ moves,
  e,
)
verdict_ends g p n (dual beginning choices) line (first, moves, is, are, e) = (
  codes "dual in " ++ decimal n
      ++ codes ": " ++ first ++ codes " " ++ decimal (next_number beginning) ++ codes ". " ++ moves,
  e,
)
verdict_ends g p n (sound key) line (move, is, e) = (codes "sound in " ++ decimal n ++ codes ": " ++ move, e)

-- whatever follows the verdict
behind_verdict : (X : Type 0) (g : Geometry) (p : Placement) (n : ℕ) (old mid new : List ℕ)
    (r : Result X TextFault) → Writes (IsVerdictLine g p n) old mid
    → TextEnds (AreTriesListed g p n) (AreLinesOf (AreTriesListed g p n)) mid new r
    → TextEnds (IsJudgedText g p n) (AreLinesOf (IsJudgedText g p n)) old new r
behind_verdict X g p n old mid new (Ok x) v h = record {
  text = v.text ++ h.text;
  is = (v.text, h.text, v.is, h.is, refl);
  wrote = Appends-trans old mid new v.text h.text v.wrote h.wrote;
}
behind_verdict X g p n old mid new (Err (Stopped why)) v h = record {
  text = v.text ++ h.text;
  is = record {
    text = v.text ++ h.is.text;
    is = (v.text, h.is.text, v.is, h.is.is, refl);
    front = record {
      back = h.is.front.back;
      joined = append_assoc v.text h.text h.is.front.back ∙ ap (λ z. v.text ++ z) h.is.front.joined;
    };
    whole = lines_behind v.text h.text (verdict_ends g p n v.is.0 v.text v.is.2) h.is.whole;
  };
  wrote = Appends-trans old mid new v.text h.text v.wrote h.wrote;
}
behind_verdict X g p n old mid new (Err Sink) v h = record {
  text = v.text ++ h.text;
  is = (v.text, h.text, v.is, h.is, refl);
  stops = stops_within old mid new v.text h.text [] (v.text ++ h.text) (sym (append-nil (v.text ++ h.text))) v.wrote
      h.stops;
}

pub judged_ends : {X : Type 0} (g : Geometry) (p : Placement) (n : ℕ) (old mid new : List ℕ)
    (r : Result X TextFault) → Writes (IsVerdictLine g p n) old mid
    → TextEnds (AreTriesListed g p n) (AreLinesOf (AreTriesListed g p n)) mid new r
    → TextEnds (IsJudgedText g p n) (AreLinesOf (IsJudgedText g p n)) old new r
judged_ends {X} g p n old mid new r v h = behind_verdict X g p n old mid new r v h

fault_before : (X Y : Type 0) → OneVerdict → TriesAreListed → MovesHaveTexts → LinesHaveTexts → (g : Geometry)
    → IsBoard g → (p : Placement) (n : ℕ) (old new : List ℕ) (fault : TextFault)
    → TextEnds {X = X} (IsVerdictLine g p n) (λ out. out ≡ []) old new (Err fault)
    → TextEnds {X = Y} (IsJudgedText g p n) (AreLinesOf (IsJudgedText g p n)) old new (Err fault)
fault_before X Y verdicts tries moves lines g board p n old new (Stopped why) h =
    let all = judged_some verdicts tries moves lines g board p n in
    record {
      text = [];
      is = record { text = all.0; is = all.1; front = record { back = all.0; joined = refl }; whole = inl refl };
      wrote = subst (Appends old new) h.is h.wrote;
    }
fault_before X Y verdicts tries moves lines g board p n old new Sink h =
    let rest = tries_listed_some tries moves g board p n in
    record {
      text = h.text ++ rest.0;
      is = (h.text, rest.0, h.is, rest.1, refl);
      stops = stops_within old old new [] h.text rest.0 (h.text ++ rest.0) refl (Appends-nil old) h.stops;
    }

-- the verdict was not written to its end
pub verdict_fault : {X Y : Type 0} → OneVerdict → TriesAreListed → MovesHaveTexts → LinesHaveTexts → (g : Geometry)
    → IsBoard g → (p : Placement) (n : ℕ) (old new : List ℕ) (r : Result X TextFault) (s : Result Y TextFault)
    (fault other : TextFault)
    → r ≡ Err fault → s ≡ Err other → fault ≡ other → TextEnds (IsVerdictLine g p n) (λ out. out ≡ []) old new r
    → TextEnds (IsJudgedText g p n) (AreLinesOf (IsJudgedText g p n)) old new s
verdict_fault {X} {Y} verdicts tries moves lines g board p n old new r s fault other was is same h =
    let ended : TextEnds {X = X} (IsVerdictLine g p n) (λ out. out ≡ []) old new (Err fault) =
    subst (TextEnds (IsVerdictLine g p n) (λ out. out ≡ []) old new) was h in
    subst (TextEnds {X = Y} (IsJudgedText g p n) (AreLinesOf (IsJudgedText g p n)) old new)
    (sym (is ∙ ap Err (sym same)))
    (fault_before X Y verdicts tries moves lines g board p n old new fault ended)
