-- How a path joins a list of paths.
use Rattle.std.proofs.Common.{◌≡◌, ℕ, zero, suc, ◌<◌, ◌++◌, length, get_or, set, arith, List, [], ◌∷◌, refl, sym, ap}
use Rattle.std.proofs.Common.{◌∙◌, subst, inl, inr}
use Rattle.std.proofs.lemmas.List.{map-append}
use Rattle.dw_board.specs.Lists.{Member, NoRepeat}
use Rattle.dw_moves.specs.inner.MemberLemmas.{mem_left, mem_right, mem_cases, mem_map_back}
use Rattle.dw_moves.specs.Order.{LexLess, Listed}
use Rattle.dw_moves.specs.inner.Walks.{steps_of, Covered, TakenIn}
use Rattle.dw_moves.specs.inner.LexLemmas.{lex_asym}
use Rattle.dw_moves.proofs.KeeperLemmas.{covers_itself}
use Rattle.dw_moves.proofs.QuietOnceLemmas.{once_append}

-- no path of the move is kept
pub taken_new : (list : List Listed) (l : Listed) → ((x : Listed) → Member x list → x.step ≡ l.step → ⊥)
    → TakenIn l list (list ++ l ∷ [])
taken_new list l others = record {
  from = λ x h. elim (mem_cases x list (l ∷ []) h) [
    | inl old ↦ inr old
    | inr (inl e) ↦ inl e
    | inr (inr none) ↦ absurd none
  ];
  least = λ x h. covers_itself x (list ++ l ∷ []) (elim h [
    | inl e ↦ mem_right x list (l ∷ []) (inl e)
    | inr old ↦ mem_left x list (l ∷ []) old
  ]);
  once = λ n. subst NoRepeat (sym (map-append (λ (x : Listed). x.step) list (l ∷ []))) (once_append (steps_of list)
      (l.step ∷ []) n ((λ h. h), tt) (λ m old last. elim last [
        | inl e ↦ let f = mem_map_back (λ (x : Listed). x.step) m list old in others f.0 f.1 (sym f.2 ∙ e)
        | inr none ↦ none
      ]));
}

-- a greater path of the move is kept
taken_at : (front back : List Listed) (k l : Listed) → k.step ≡ l.step → LexLess l.path k.path
    → TakenIn l (front ++ k ∷ back) (front ++ l ∷ back)
taken_at front back k l same less = record {
  from = λ x h. elim (mem_cases x front (l ∷ back) h) [
    | inl old ↦ inr (mem_left x front (k ∷ back) old)
    | inr (inl e) ↦ inl e
    | inr (inr old) ↦ inr (mem_right x front (k ∷ back) (inr old))
  ];
  least = λ x h.
      let here = mem_right l front (l ∷ back) (inl refl) in
      elim h [
        | inl e ↦ subst (λ z. Covered z (front ++ l ∷ back)) (sym e) (covers_itself l (front ++ l ∷ back) here)
        | inr old ↦ elim (mem_cases x front (k ∷ back) old) [
          | inl old ↦ covers_itself x (front ++ l ∷ back) (mem_left x front (l ∷ back) old)
          | inr (inl e) ↦ subst (λ z. Covered z (front ++ l ∷ back)) (sym e) (
            l,
            here,
            sym same,
            λ w. lex_asym k.path
                l.path w less,
          )
          | inr (inr old) ↦ covers_itself x (front ++ l ∷ back) (mem_right x front (l ∷ back) (inr old))
        ]
      ];
  once = subst NoRepeat (map-append (λ (x : Listed). x.step) front (k ∷ back) ∙ (ap (λ s. steps_of front ++ s
      ∷ steps_of back) same ∙ sym (map-append (λ (x : Listed). x.step) front (l ∷ back))));
}

-- what stands before and behind a place, where another is put
split : (list : List Listed) (i : ℕ) (k l : Listed) → i < length list → k ≡ get_or list i k → (front : List Listed)
    × (back : List Listed) × (list ≡ front ++ k ∷ back) × (set list i l ≡ front ++ l ∷ back)
split [] i k l low at = absurd (omega (arith, low))
split (x ∷ xs) zero k l low at = ([], xs, ap (λ z. z ∷ xs) (sym at), refl)
split (x ∷ xs) (suc i) k l low at =
    let r = split xs i k l (omega (arith, low)) at in
    (x ∷ r.0, r.1, ap (λ z. x ∷ z) r.2, ap (λ z. x ∷ z) r.3)

pub taken_less : (list : List Listed) (i : ℕ) (k l : Listed) → i < length list → k ≡ get_or list i k
    → k.step ≡ l.step → LexLess l.path k.path → TakenIn l list (set list i l)
taken_less list i k l low at same less =
    let r = split list i k l low at in
    subst (λ z. TakenIn l z (set list i l)) (sym r.2)
    (subst (TakenIn l (r.0 ++ k ∷ r.1)) (sym r.3) (taken_at r.0 r.1 k l same less))

-- the kept path is no greater
pub taken_left : (list : List Listed) (i : ℕ) (k l : Listed) → i < length list → k ≡ get_or list i k
    → k.step ≡ l.step → (LexLess l.path k.path → ⊥) → TakenIn l list list
taken_left list i k l low at same above =
    let r = split list i k l low at in
    let there = subst (Member k) (sym r.2) (mem_right k r.0 (k ∷ r.1) (inl refl)) in
    record {
      from = λ x h. inr h;
      least = λ x h. elim h [
        | inl e ↦ subst (λ z. Covered z list) (sym e) (k, there, same, above)
        | inr old ↦ covers_itself x list old
      ];
      once = λ n. n;
    }
