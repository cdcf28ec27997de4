-- Rows, member by member.
use Rattle.std.proofs.Common.{◌≡◌, ℕ, ◌+◌, List, [], ◌∷◌, ◌++◌, map, take, refl, sym, ◌∙◌, ap, subst}
use Rattle.std.proofs.Common.{append_assoc, append-nil}
use Rattle.std.specs.Prelude.{codes}
use Rattle.std.proofs.lemmas.List.{map_push}
use Rattle.dw_board.specs.Geometry.{Geometry}
use Rattle.dw_board.specs.Lists.{Member as Has}
use Rattle.dw_board.specs.Placement.{Placement}
use Rattle.dw_first_moves.specs.FirstMoves.{Effect, HasEffect, HaveEffects}
use Rattle.json.specs.Json.{string}
use Rattle.json.specs.Written.{Written}
use Rattle.dw_json.specs.Rows.{AreObjects, Member, texts}
use Rattle.dw_json.specs.Writing.{WritesMembers}
use Rattle.dw_json.specs.inner.Composing.{both}
use Rattle.dw_moves.specs.Moves.{Move}
use Rattle.dw_moves.specs.inner.MemberLemmas.{mem_map}
use Rattle.dw_rows.specs.CheckRow.{refutation_members, wins_in_members, word_members}
use Rattle.dw_study.specs.RemarkFields.{Words}

pub effect_of_one : {V : Type 0} (told : V → Move × Effect) (g : Geometry) (p start : Placement)
    (effects : List (Move × Effect)) (done : List V) (have : HaveEffects g start effects) → map told done ≡ effects
    → p ≡ start → (one : V) → Has one done → HasEffect g p have.0 (told one).0 (told one).1
effect_of_one told g p start effects done have same there one member =
    subst (λ z. HasEffect g z have.0 (told one).0 (told one).1) (sym there)
    (have.1 (told one) (subst (Has (told one)) same (mem_map told one done member)))

-- objects, and one more
one_more : {X : Type 0} (One : X → List Member → Type 0) (xs : List X) (x : X) (each : List (List Member))
    (members : List Member) → AreObjects One xs each → One x members
    → AreObjects One (xs ++ x ∷ []) (each ++ members ∷ [])
one_more One [] x each members none here =
    (members, [], here, refl, ap (λ z. z ++ members ∷ []) none)
one_more One (y ∷ xs) x each members h here = (
  h.0,
  h.1 ++ members ∷ [],
  h.2,
  one_more One xs x h.1 members h.3 here,
  ap (λ z. z ++ members ∷ []) h.4,
)

pub told_next : {X V : Type 0} (One : X → List Member → Type 0) (told : V → List Member) (said : List X)
    (items now : List V) (i : ℕ) (y : X) (one : V) → take (i + 1) said ≡ take i said ++ y ∷ []
    → AreObjects One (take i said) (map told items) → One y (told one) → now ≡ items ++ one ∷ []
    → AreObjects One (take (i + 1) said) (map told now)
told_next One told said items now i y one next before here is =
    subst (λ z. AreObjects One z (map told now)) (sym next)
    (subst (λ z. AreObjects One (take i said ++ y ∷ []) (map told z)) (sym is)
    (subst (AreObjects One (take i said ++ y ∷ [])) (sym (map_push told items one))
    (one_more One (take i said) y (map told items) (told one) before here)))

-- objects whose members are known
pub all_told : {X : Type 0} (told : X → List Member) (xs : List X) (each : List (List Member))
    → AreObjects (λ x members. members ≡ told x) xs each → each ≡ map told xs
all_told told [] each none = none
all_told told (x ∷ xs) each h = h.4 ∙ (λ i. h.2 i ∷ all_told told xs h.1 h.3 i)

-- the members of a remark: its kind, its line and its moves, and then the others
pub two_parts : (kind : List ℕ) (words : Words) (one line : List ℕ) (moves : List (List ℕ)) (more : List Member)
    (a b c d e : Written) → line ≡ words.line → moves ≡ words.moves
    → more ≡ refutation_members words.refutation ++ wins_in_members words.wins_in
    → WritesMembers ((codes "kind", string kind) ∷ []) a b → WritesMembers ((codes "line", string line) ∷ []) b c
    → WritesMembers ((codes "moves", texts moves) ∷ []) c d → WritesMembers more d e
    → WritesMembers (word_members kind words) a e
two_parts kind words one line moves more a b c d e l m r first second third last =
    subst (λ z. WritesMembers z a e)
    (λ i. (codes "kind", string kind) ∷ (codes "line", string (l i)) ∷ (codes "moves", texts (m i)) ∷ r i)
    (both ((codes "kind", string kind) ∷ (codes "line", string line) ∷ (codes "moves", texts moves) ∷ []) more a d e
    (both ((codes "kind", string kind) ∷ (codes "line", string line) ∷ []) ((codes "moves", texts moves) ∷ []) a c d
    (both ((codes "kind", string kind) ∷ []) ((codes "line", string line) ∷ []) a b c first second) third) last)

pub joined_5 : (a b c d e : List ℕ) → a ++ (b ++ (c ++ (d ++ (e ++ [])))) ≡ a ++ b ++ c ++ d ++ e
joined_5 a b c d e = simp (append_assoc, append-nil)
