-- The plain lists hold exactly what the definitions say: whole captures, and legal moves.
use Rattle.std.proofs.Common.{◌≡◌, ℕ, ◌≤◌, zero, suc, List, [], ◌∷◌, length, map, refl, sym, ap, subst, inl, inr, arith}
use Rattle.std.proofs.Common.{true, false, ◌==◌}
use Rattle.std.proofs.lemmas.Bool.{eqb-true, eq-eqb, or_cases, or_left, or_right, cases_Bool}
use Rattle.dw_board.specs.declared.piece.Piece.{Piece}
use Rattle.dw_board.specs.Geometry.{Geometry}
use Rattle.dw_board.specs.Placement.{Placement}
use Rattle.dw_moves.specs.Moves.{Jumps}
use Rattle.dw_board.specs.Lists.{Member, NoRepeat}
use Rattle.dw_moves.proofs.PlainLemmas.{captures, is_in}
use Rattle.dw_moves.specs.inner.Plain.{jump_list}
use Rattle.dw_moves.specs.inner.MemberLemmas.{mem_map, mem_map_back, mem_flat, mem_flat_back}
use Rattle.dw_moves.proofs.ExactLemmas.{jump_from, jump_in}

pub in_member : (xs : List ℕ) (s : ℕ) → is_in xs s ≡ true → Member s xs
in_member [] s e = cc
in_member (x ∷ xs) s e = elim (or_cases (x == s) (is_in xs s) e) [
  | inl l ↦ inl (sym (eqb-true x s l))
  | inr r ↦ inr (in_member xs s r)
]

pub member_in : (xs : List ℕ) (s : ℕ) → Member s xs → is_in xs s ≡ true
member_in [] s m = absurd m
member_in (x ∷ xs) s (inl e) = or_left (x == s) (is_in xs s) (eq-eqb x s (sym e))
member_in (x ∷ xs) s (inr m) = or_right (x == s) (is_in xs s) (member_in xs s m)

-- captures of at most fuel pieces, none of them in used
pub record Fits (g : Geometry) (cells : Placement) (piece : Piece) (fuel s : ℕ) (used : List ℕ) (ts cs : List ℕ) :
    Type 0 where
  pub jumps : Jumps g cells piece s ts cs
  pub once : NoRepeat cs
  pub apart : (x : ℕ) → Member x cs → Member x used → ⊥
  pub short : length cs ≤ fuel

none_fit : (g : Geometry) (cells : Placement) (piece : Piece) (fuel s : ℕ) (used : List ℕ) (q : List ℕ × List ℕ)
    → q ≡ ([], []) → Fits g cells piece fuel s used q.0 q.1
none_fit g cells piece fuel s used q e =
    let e0 : q.0 ≡ [] = ap (λ (w : List ℕ × List ℕ). w.0) e in
    let e1 : q.1 ≡ [] = ap (λ (w : List ℕ × List ℕ). w.1) e in
    rw (e0, e1) (record { jumps = tt; once = tt; apart = λ x m. absurd m; short = omega arith })

pub captures_from : (g : Geometry) (cells : Placement) (piece : Piece) (fuel s : ℕ) (used : List ℕ) (q : List ℕ
    × List ℕ) → Member q (captures g cells piece fuel s used) → Fits g cells piece fuel s used q.0 q.1
captures_from g cells piece zero s used q (inl e) = none_fit g cells piece zero s used q e
captures_from g cells piece zero s used q (inr m) = absurd m
captures_from g cells piece (suc fuel) s used q (inl e) = none_fit g cells piece (suc fuel) s used q e
captures_from g cells piece (suc fuel) s used q (inr m) =
    let after : ℕ × ℕ → List (List ℕ × List ℕ) = λ j. elim (is_in used j.0) [
      | true ↦ []
      | false ↦
          map (λ q. (j.1 ∷ q.0, j.0 ∷ q.1)) (captures g cells piece fuel j.1 (j.0 ∷ used))
    ] in
    let f = mem_flat_back after q (jump_list g cells piece s) m in
    let j : ℕ × ℕ = f.0 in
    let jump = jump_from g cells piece s j f.1 in
    elim (cases_Bool (is_in used j.0)) [
      | inl e ↦ absurd (rw e at f.2)
      | inr e ↦
          let w = mem_map_back (λ (q : List ℕ × List ℕ). (j.1 ∷ q.0, j.0 ∷ q.1)) q
          (captures g cells piece fuel j.1 (j.0 ∷ used)) (rw e at f.2) in
          let h = captures_from g cells piece fuel j.1 (j.0 ∷ used) w.0 w.1 in
          subst (λ (w : List ℕ × List ℕ). Fits g cells piece (suc fuel) s used w.0 w.1) (sym w.2) (record {
            jumps = (jump, h.jumps);
            once = (λ m'. h.apart j.0 m' (inl refl), h.once);
            apart = λ x m' u. elim m' [
              | inl x_is ↦ let u' = rw x_is at u in let yes = member_in used j.0 u' in absurd (cc)
              | inr m'' ↦ h.apart x m'' (inr u)
            ];
            short = omega (arith, h.short);
          })
    ]

pub captures_in : (g : Geometry) (cells : Placement) (piece : Piece) (fuel s : ℕ) (used ts cs : List ℕ)
    → Jumps g cells piece s ts cs → NoRepeat cs → ((x : ℕ) → Member x cs → Member x used → ⊥) → length cs ≤ fuel
    → Member (ts, cs) (captures g cells piece fuel s used)
captures_in g cells piece zero s used [] [] jumps once apart short = inl refl
captures_in g cells piece (suc fuel) s used [] [] jumps once apart short = inl refl
captures_in g cells piece fuel s used (t ∷ ts) [] jumps once apart short = absurd jumps
captures_in g cells piece fuel s used [] (c ∷ cs) jumps once apart short = absurd jumps
captures_in g cells piece zero s used (t ∷ ts) (c ∷ cs) jumps once apart short = absurd (omega arith)
captures_in g cells piece (suc fuel) s used (t ∷ ts) (c ∷ cs) jumps once apart short =
    let after : ℕ × ℕ → List (List ℕ × List ℕ) = λ j. elim (is_in used j.0) [
      | true ↦ []
      | false ↦
          map (λ q. (j.1 ∷ q.0, j.0 ∷ q.1)) (captures g cells piece fuel j.1 (j.0 ∷ used))
    ] in
    let rest : Member (ts, cs) (captures g cells piece fuel t (c ∷ used)) =
    captures_in g cells piece fuel t (c ∷ used) ts cs jumps.1 once.1
    (λ x m u. elim u [ inl e ↦ once.0 (subst (λ w. Member w cs) e m) | inr u' ↦ apart x (inr m) u' ])
    (omega arith) in
    let fresh : is_in used c ≡ false = elim (cases_Bool (is_in used c))
    [ inl e ↦ absurd (apart c (inl refl) (in_member used c e)) | inr e ↦ e ] in
    let here : Member (t ∷ ts, c ∷ cs) (after (c, t)) =
    rw fresh (mem_map (λ (q : List ℕ × List ℕ). (t ∷ q.0, c ∷ q.1)) (ts, cs) (captures g cells piece fuel t (c ∷ used))
    rest) in
    inr (mem_flat after (c, t) (t ∷ ts, c ∷ cs) (jump_list g cells piece s) (jump_in g cells piece s c t jumps.0) here)
