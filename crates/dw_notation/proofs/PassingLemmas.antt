-- Bytes outside sections that are passed over at once.
use Rattle.std.proofs.Common.{◌≡◌, ℕ, ◌≤◌, ◌==◌, List, [], ◌∷◌, ◌++◌, length, take, Bool, true, false, not, cond, refl}
use Rattle.std.proofs.Common.{sym, ap, ◌∙◌, subst, arith, unwrap_or}
use Rattle.std.proofs.lemmas.Bool.{and_parts, and_from, not-true, or_parts}
use Rattle.std.proofs.lemmas.List.Sums.{prefix_len-le-length, take_while-cons}
use Rattle.std.specs.List.{list_all, position, take_while}
use Rattle.dw_board.specs.Geometry.{Geometry}
use Rattle.dw_notation.specs.inner.Sections.{transition, at, found_by}
use Rattle.dw_notation.specs.inner.HeldSection.{Held, held_after, held_found, held_from}
use Rattle.dw_notation.specs.inner.Tags.{passes}
use Rattle.dw_notation.proofs.CutLemmas.{first_or_all}
use Rattle.dw_notation.specs.declared.problems.pdn.automaton.State.{State}
use Rattle.dw_notation.specs.declared.problems.pdn.automaton.State.TheVariants.{Outside, Comment, Between, BeforeName}
use Rattle.dw_notation.specs.declared.problems.pdn.automaton.State.TheVariants.{InName, BehindName, InValue, Escaped}
use Rattle.dw_notation.specs.declared.problems.pdn.automaton.State.TheVariants.{BehindValue, Rest}
use Rattle.dw_notation.specs.declared.problems.pdn.automaton.Action.TheVariants.{Keep}

-- a byte that changes nothing
pub passes_keeps : (state : State) (byte : ℕ) → passes state byte ≡ true → transition state byte ≡ at state Keep
passes_keeps Outside byte h = let parts = or_parts (byte == 91) (byte == 123) (not-true _ h) in
    rw (parts.0, parts.1) refl
passes_keeps Comment byte h = rw (not-true (byte == 125) h) refl
passes_keeps Between byte h = cc
passes_keeps BeforeName byte h = cc
passes_keeps InName byte h = cc
passes_keeps BehindName byte h = cc
passes_keeps InValue byte h = cc
passes_keeps Escaped byte h = cc
passes_keeps BehindValue byte h = cc
passes_keeps Rest byte h = cc

-- bytes that change nothing
pub pass_all : (at_end : Bool) (g : Geometry) (state : State) (h : Held) (text more : List ℕ)
    → list_all (passes state) text ≡ true
    → held_from at_end g state h (text ++ more) ≡ held_from at_end g state h more
pass_all at_end g state h [] more all = refl
pass_all at_end g state h (byte ∷ text) more all =
    let both = and_parts (passes state byte) (list_all (passes state) text) all in
    ap (λ t. found_by t.action (held_found g h) ++ held_from at_end g t.state (held_after t.action h) (text ++ more))
    (passes_keeps state byte both.0)
    ∙ pass_all at_end g state h text more both.1

all_before : (p : ℕ → Bool) (bytes : List ℕ) → list_all p (take_while p bytes) ≡ true
all_before p [] = refl
all_before p (b ∷ bytes) = ap (list_all p) (take_while-cons p b bytes)
    ∙ elim (p b) as (λ v. p b ≡ v → list_all p (cond v (b ∷ take_while p bytes) []) ≡ true) [
      | true ↦ λ e. and_from _ _ e (all_before p bytes)
      | false ↦ λ _. refl
    ] refl

-- the place of the first byte that passes a test, or the length: no byte before it does
pub none_before : (p : ℕ → Bool) (bytes : List ℕ) (n : ℕ) → n ≡ unwrap_or (position p bytes) (length bytes)
    → (n ≤ length bytes) × (list_all (λ byte. not (p byte)) (take n bytes) ≡ true)
none_before p bytes n is =
    let low = prefix_len-le-length (λ byte. not (p byte)) bytes in
    let first = is ∙ first_or_all p bytes in (
      omega (arith, first, low),
      subst (λ k. list_all (λ byte. not (p byte)) (take k bytes) ≡ true) (sym first)
          (all_before (λ byte. not (p byte)) bytes),
    )
