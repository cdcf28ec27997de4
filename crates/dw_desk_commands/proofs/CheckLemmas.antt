-- Remarks that the code holds, and what they say, place by place.
use Rattle.std.proofs.Common.{Vec, Global, vec_len, ◌==◌, ◌<◌, arith, length}
use Rattle.std.proofs.lemmas.Bool.{eq-eqb, ne_eqb}
use Rattle.dw_rows.specs.declared.checked.CheckNumbers.{CheckNumbers}
use Rattle.dw_desk_commands.specs.Check.{is_none, numbers_of, holds}
use Rattle.std.proofs.Common.{◌≡◌, ℕ, ◌+◌, ◌<◌, List, [], ◌∷◌, ◌++◌, length, map, Option}
use Rattle.std.proofs.Common.{IfSome, IsSome, None, Some, Bool, true, false, cond, refl}
use Rattle.std.proofs.Common.{ap, ◌∙◌, subst, add-zero, arith}
use Rattle.std.proofs.Common.{Ok, inl}
use Rattle.std.specs.List.{count_by}
use Rattle.std.proofs.lemmas.List.Sums.{sum_by_push}
use Rattle.dw_board.specs.Geometry.{Geometry}
use Rattle.dw_board.specs.Placement.{Placement}
use Rattle.dw_notation.specs.Problems.{Numbered}
use Rattle.dw_notation.specs.TextLines.{Found}
use Rattle.dw_games.specs.Faults.{IsAnswer}
use Rattle.dw_games.specs.Walk.{PlayedTree}
use Rattle.dw_arguments.specs.declared.check.CheckArgs.{CheckArgs}
use Rattle.dw_study.specs.Remarks.{Remark, fails, also, leaves_open, ends, AreRemarks}
use Rattle.dw_desk_commands.specs.Check.{Counted, counted, is_fail, is_end, is_open, is_also}
use Rattle.dw_desk_commands.specs.Check.{IsChecked, IsCheckedAt, IsCheckFor}
use Rattle.dw_desk_commands.specs.inner.Tallies.{one_more}

-- a value that is there
pub of_some : {X : Type 0} (P : X → Type 0) (made : Option X) (x : X) → made ≡ Some x → IfSome made P → P x
of_some P made x is there = subst (λ z. IfSome z P) is there

-- none is there, though one is
pub is_some : {X Q : Type 0} (made : Option X) → made ≡ None → IsSome made → Q
is_some None is some = let bad = some in cc
is_some (Some x) is some = let bad = is in cc

abbrev numbers : (a b c d : ℕ) → Counted
numbers a b c d = record { that_fail = a; that_end = b; left_open = c; left_out = d }

same_numbers : (a b c d e f h i : ℕ) → a ≡ e → b ≡ f → c ≡ h → d ≡ i → numbers a b c d ≡ numbers e f h i
same_numbers a b c d e f h i first second third fourth = rw (first, second, third, fourth) refl

yes : (p : Remark → Bool) (remarks : List Remark) (r : Remark) → p r ≡ true
    → count_by p (remarks ++ r ∷ []) ≡ count_by p remarks + 1
yes p remarks r is = sum_by_push (λ x. cond (p x) 1 0) remarks r ∙ ap (λ z. count_by p remarks + cond z 1 0) is

no : (p : Remark → Bool) (remarks : List Remark) (r : Remark) → p r ≡ false
    → count_by p (remarks ++ r ∷ []) ≡ count_by p remarks
no p remarks r is = sum_by_push (λ x. cond (p x) 1 0) remarks r
    ∙ (ap (λ z. count_by p remarks + cond z 1 0) is ∙ add-zero (count_by p remarks))

-- one remark more is counted
pub counted_next : (remarks : List Remark) (r : Remark) → counted (remarks ++ r ∷ []) ≡ one_more r (counted remarks)
counted_next remarks (fails b m reply) = let r = fails b m reply in same_numbers _ _ _ _ _ _ _ _
    (yes is_fail remarks r refl) (no is_end remarks r refl) (no is_open remarks r refl) (no is_also remarks r refl)
counted_next remarks (ends b wins_in) = let r = ends b wins_in in same_numbers _ _ _ _ _ _ _ _
    (no is_fail remarks r refl) (yes is_end remarks r refl) (no is_open remarks r refl) (no is_also remarks r refl)
counted_next remarks (leaves_open b replies) = let r = leaves_open b replies in same_numbers _ _ _ _ _ _ _ _
    (no is_fail remarks r refl) (no is_end remarks r refl) (yes is_open remarks r refl) (no is_also remarks r refl)
counted_next remarks (also b keys) = let r = also b keys in same_numbers _ _ _ _ _ _ _ _
    (no is_fail remarks r refl) (no is_end remarks r refl) (no is_open remarks r refl) (yes is_also remarks r refl)

-- what is counted of a solution is the same by its tally
pub numbers_same : (wins b : Bool) (t c : Counted) → b ≡ holds t → t ≡ c → (numbers : CheckNumbers)
    → numbers ≡ record {
      wins = wins;
      holds = b;
      fail = t.that_fail;
      end = t.that_end;
      «open» = t.left_open;
      also = t.left_out;
    } → numbers ≡ numbers_of wins c
numbers_same wins b t c one two numbers is = is ∙ ((λ i. record {
  wins = wins;
  holds = one i;
  fail = t.that_fail;
  end = t.that_end;
  «open» = t.left_open;
  also = t.left_out;
}) ∙ ap (numbers_of wins) two)

length_map_of : {B : Type 0} (f : B → Option Remark) (xs : List B) → map f xs ≡ [] → length xs ≡ 0
length_map_of f [] same = refl
length_map_of f (x ∷ xs) same = let bad = same in cc

length_map_some : {B : Type 0} (f : B → Option Remark) (xs : List B) (r : Remark) (said : List Remark)
    → map f xs ≡ Some r ∷ map (λ z. Some z) said → 0 < length xs
length_map_some f [] r said same = let bad = same in cc
length_map_some f (x ∷ xs) r said same = omega arith

-- no remark is none, and some remarks are not
pub none_is : {B : Type 0} (f : B → Option Remark) (v : Vec B Global) (said : List Remark) (b : Bool)
    → map f v.items ≡ map (λ r. Some r) said → b ≡ (vec_len v == 0) → b ≡ is_none said
none_is f v [] b same is =
    let none : vec_len v ≡ 0 = (let ok = v.ok.0 in let empty = length_map_of f v.items same in omega (arith, ok, empty))
    in is ∙ eq-eqb _ _ none
none_is f v (r ∷ said) b same is = is ∙ ne_eqb _ _ (λ none. (let ok = v.ok.0 in
    let some = length_map_some f v.items r said same in omega (arith, ok, none, some)))

-- a solution that was checked is that of its problem
pub check_for : (g : Geometry) (query : CheckArgs) (problem : Numbered) (movetext : List ℕ) (found : Found)
    (p : Placement) (tree : PlayedTree) (n : ℕ) (remarks : List Remark) (refused : Bool) (text : List ℕ) → found ≡ Ok p
    → IsAnswer g p movetext (Ok tree) → IsCheckedAt g tree.start query.moves query.is_least tree.paths n
    → AreRemarks g tree.paths n tree.start [] remarks → IsChecked g query problem tree.start n remarks refused text
    → IsCheckFor g query problem movetext found refused text
check_for g query problem movetext found p tree n remarks refused text is answer number are checked =
    rw is (inl (
      tree.paths,
      n,
      remarks,
      answer.1,
      subst (λ z. IsCheckedAt g z query.moves query.is_least tree.paths n) answer.0 number,
      subst (λ z. AreRemarks g tree.paths n z [] remarks) answer.0 are,
      subst (λ z. IsChecked g query problem z n remarks refused text) answer.0 checked,
    ))
