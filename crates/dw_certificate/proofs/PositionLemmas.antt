-- The positions after all moves.
use Rattle.std.proofs.Common.{◌≡◌, ℕ, zero, suc, ◌+◌, ◌≤◌, ◌<◌, List, [], ◌∷◌, ◌++◌, length, map, add-one, get_or, take}
use Rattle.std.proofs.Common.{sym, ap, ◌∙◌, subst, arith, inl, inr}
use Rattle.std.proofs.lemmas.List.{map-append, take_all}
use Rattle.std.proofs.Math.Seq.{take-suc}
use Rattle.dw_board.specs.Geometry.{Geometry}
use Rattle.dw_board.specs.Lists.{Member}
use Rattle.dw_board.specs.Placement.{Placement}
use Rattle.dw_moves.specs.Moves.{Move, AreLegal, play}
use Rattle.dw_moves.specs.inner.MemberLemmas.{mem_map, mem_map_back, mem_cases}
use Rattle.dw_certificate.specs.inner.Rows.{AreAfter}

-- one move more
pub after_more : (g : Geometry) (p : Placement) (moves : List Move) (list : List Placement) (i : ℕ) (m : Move)
    (q : Placement) → list ≡ map (λ m. play g p m) (take i moves) → i < length moves → m ≡ get_or moves i m
    → q ≡ play g p m → list ++ q ∷ [] ≡ map (λ m. play g p m) (take (i + 1) moves)
after_more g p moves list i m q h low is at =
    ap (λ z. list ++ z ∷ []) at
    ∙ (ap (λ z. z ++ play g p m ∷ []) h
    ∙ (sym (map-append (λ m. play g p m) (take i moves) (m ∷ []))
    ∙ (ap (λ z. map (λ m. play g p m) (take i moves ++ z ∷ [])) is
    ∙ ap (map (λ m. play g p m)) (sym (take-suc moves i m low) ∙ ap (λ n. take n moves) (sym (add-one i))))))

-- all moves
pub after_all : (g : Geometry) (p : Placement) (moves : List Move) (list : List Placement) (i : ℕ)
    → AreLegal g p moves → list ≡ map (λ m. play g p m) (take i moves) → length moves ≤ i → AreAfter g p list
after_all g p moves list i legal h end = record {
  all = λ m l. subst (Member (play g p m)) (sym is) (mem_map (λ z. play g p z) m moves ((legal.exactly m).1 l));
  only = λ q there.
      let f = mem_map_back (λ m. play g p m) q moves (subst (Member q) is there) in
      (f.0, (legal.exactly f.0).0 f.1, f.2);
} where
  is : list ≡ map (λ m. play g p m) moves
  is = h ∙ ap (map (λ m. play g p m)) (take_all i moves end)

pub take_next : {X : Type 0} (list : List X) (i : ℕ) (x : X) → i < length list → x ≡ get_or list i x
    → take (i + 1) list ≡ take i list ++ x ∷ []
take_next list i x low is =
    ap (λ n. take n list) (add-one i) ∙ (take-suc list i x low ∙ ap (λ z. take i list ++ z ∷ []) (sym is))

-- the first of a list are those before the last of them, and that one
pub first_cases : {X : Type 0} (list : List X) (i : ℕ) (x q : X) → i < length list → x ≡ get_or list i x
    → (P : X → Type 0) → ((z : X) → Member z (take i list) → P z) → P x → Member q (take (i + 1) list) → P q
first_cases list i x q low is P before here m =
    elim (mem_cases q (take i list) (x ∷ []) (subst (Member q) (take_next list i x low is) m)) [
      | inl l ↦ before q l
      | inr n ↦ elim n [ inl s ↦ subst P (sym s) here | inr z ↦ absurd z ]
    ]

pub first_all : {X : Type 0} (list : List X) (i : ℕ) (q : X) → length list ≤ i → Member q list
    → Member q (take i list)
first_all list i q end m = subst (Member q) (sym (take_all i list end)) m

pub member_at : {X : Type 0} (list : List X) (i : ℕ) (q : X) → i < length list → q ≡ get_or list i q
    → Member q list
member_at [] i q low is = absurd (omega arith)
member_at (x ∷ list) zero q low is = inl is
member_at (x ∷ list) (suc i) q low is = inr (member_at list i q (omega arith) is)
