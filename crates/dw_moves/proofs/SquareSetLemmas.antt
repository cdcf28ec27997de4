-- Members of sets of squares.
use Rattle.std.proofs.Common.{◌≡◌, ◌≢◌, ℕ, ◌+◌, ◌<◌, ◌≤◌, List, [], ◌∷◌, length, ◌-◌, refl, sym, ap, ◌∙◌, ◌⊎◌, inl, inr}
use Rattle.std.proofs.Common.{◌↔◌, true, false, ◌||◌, ◌&&◌, not, Bool, eqb, cond, arith}
use Rattle.std.proofs.lemmas.Bool.{true≢false, or_cases, or_left, or_right, and_parts, and_from, cases_Bool}
use Rattle.std.proofs.lemmas.Bool.{not_from_true, not_from_false, eq-eqb, eqb-true, ne_eqb, cases_eq}
use Rattle.std.specs.Prelude.{IsTrue}
use Rattle.std.specs.List.{list_any}
use Rattle.std.specs.FinSet as fin
use Rattle.std.specs.Cmp.{nat_cmp_total, unsigned_tied}
use Rattle.std.specs.Ordering.{nat_cmp, eq_by_cmp}
use Rattle.dw_board.specs.Geometry.{Squares}
use Rattle.dw_board.specs.Lists.{Member, NoRepeat}
use Rattle.dw_moves.specs.Moves.{In}

pub not_both : (b : Bool) → (b ≡ true → ⊥) → b ≡ false
not_both true h = absurd (h refl)
not_both false h = refl

pub in_none : (v : Squares) (s : ℕ) → v ≡ fin.empty → In s v → ⊥
in_none v s e h = true≢false (sym h ∙ (ap (λ z. fin.contains z s) e ∙ fin.contains-empty nat_cmp s))

pub in_or : (a b v : Squares) (s : ℕ) → v ≡ fin.union a b → In s v ↔ (In s a ⊎ In s b)
in_or a b v s e =
    let is : fin.contains v s ≡ (fin.contains a s || fin.contains b s) = ap (λ z. fin.contains z s) e
    ∙ fin.contains-union nat_cmp_total a b s in (
      (λ h. or_cases (fin.contains a s) (fin.contains b s) (sym is ∙ h)),
      (λ h. elim h [
        | inl l ↦ is ∙ or_left (fin.contains a s) (fin.contains b s) l
        | inr r ↦ is ∙ or_right (fin.contains a s) (fin.contains b s) r
      ]),
    )

pub in_and : (a b v : Squares) (s : ℕ) → v ≡ fin.intersection a b → In s v ↔ (In s a × In s b)
in_and a b v s e =
    let is : fin.contains v s ≡ (fin.contains a s && fin.contains b s) = ap (λ z. fin.contains z s) e
    ∙ fin.contains-intersection nat_cmp_total a b s in (
      (λ h. and_parts (fin.contains a s) (fin.contains b s) (sym is ∙ h)),
      (λ h. is ∙ and_from (fin.contains a s) (fin.contains b s) h.0 h.1),
    )

pub in_minus : (a b v : Squares) (s : ℕ) → v ≡ fin.difference a b → In s v ↔ (In s a × (In s b → ⊥))
in_minus a b v s e =
    let is : fin.contains v s ≡ (fin.contains a s && not (fin.contains b s)) = ap (λ z. fin.contains z s) e
    ∙ fin.contains-difference nat_cmp_total a b s in (
      (λ h. let parts = and_parts (fin.contains a s) (not (fin.contains b s)) (sym is ∙ h) in
          (parts.0, λ t. true≢false (sym parts.1 ∙ not_from_true (fin.contains b s) t))),
      (λ h. is ∙ and_from (fin.contains a s) (not (fin.contains b s)) h.0 (not_from_false (fin.contains b s)
          (not_both (fin.contains b s) h.1))),
    )

-- a set that is not empty has a square
pub some_in : (v : Squares) → (v ≡ fin.empty → ⊥) → (s : ℕ) × In s v
some_in v not_empty = first (fin.items v) refl where
  first : (xs : List ℕ) → fin.items v ≡ xs → (s : ℕ) × In s v
  first [] e = absurd (not_empty (fin.same_set nat_cmp_total fin.nat_cmp-IsAntisymmetric v fin.empty
      (λ q. fin.contains-items v q ∙ (ap (list_any (eq_by_cmp nat_cmp q)) e ∙ sym (fin.contains-empty nat_cmp q)))))
  first (x ∷ xs) e =
      let same : eq_by_cmp nat_cmp x x ≡ true = unsigned_tied x x ∙ eq-eqb x x refl in (
        x,
        fin.contains-items v x ∙ (ap (list_any (eq_by_cmp nat_cmp x)) e
            ∙ or_left (eq_by_cmp nat_cmp x x) (list_any (eq_by_cmp nat_cmp x) xs) same),
      )

-- it is not the empty set
pub any_is : (v : Squares) (r e : Bool) → r ≡ not e → IsTrue e ↔ (v ≡ fin.empty) → IsTrue r ↔ ((s : ℕ) × In s v)
any_is v r e is none = (
  (λ yes. some_in v (λ h. true≢false (sym yes ∙ (is ∙ not_from_true e (none.1 h))))),
  (λ h. elim (cases_Bool e) [
    | inl t ↦ absurd (in_none v h.0 (none.0 t) h.1)
    | inr f ↦ is ∙ not_from_false e f
  ]),
)

pub contains-insert : (v : Squares) (k q : ℕ) → fin.contains (fin.insert v k) q ≡ (eqb q k || fin.contains v q)
contains-insert v k q = fin.contains-insert nat_cmp_total v k q ∙ ap (λ b. b || fin.contains v q) (unsigned_tied q k)

pub not_in : (v : Squares) (k q : ℕ) → fin.contains (fin.insert v k) q ≡ false → (q ≢ k) × (fin.contains v q ≡ false)
not_in v k q e =
    let is : (eqb q k || fin.contains v q) ≡ false = sym (contains-insert v k q) ∙ e in (
      (λ same. true≢false (sym (or_left (eqb q k) (fin.contains v q) (eq-eqb q k same)) ∙ is)),
      elim (cases_Bool (fin.contains v q)) [
        | inl t ↦ absurd (true≢false (sym (or_right (eqb q k) (fin.contains v q) t) ∙ is))
        | inr f ↦ f
      ],
    )

pub in_insert : (v : Squares) (k q : ℕ) → In q (fin.insert v k) ↔ ((k ≡ q) ⊎ In q v)
in_insert v k q = (
  (λ h. elim (or_cases (eqb q k) (fin.contains v q) (sym (contains-insert v k q) ∙ h)) [
    | inl e ↦ inl (sym (eqb-true q k e))
    | inr o ↦ inr o
  ]),
  (λ h. contains-insert v k q ∙ elim h [
    | inl e ↦ or_left (eqb q k) (fin.contains v q) (eq-eqb q k (sym e))
    | inr o ↦ or_right (eqb q k) (fin.contains v q) o
  ]),
)

pub out_of : (v : Squares) (k q : ℕ) → q ≢ k → fin.contains v q ≡ false → fin.contains (fin.insert v k) q ≡ false
out_of v k q ne e = elim (cases_Bool (fin.contains (fin.insert v k) q)) [
  | inl t ↦ elim (or_cases (eqb q k) (fin.contains v q) (sym (contains-insert v k q) ∙ t)) [
    | inl same ↦ absurd (ne (eqb-true q k same))
    | inr there ↦ absurd (true≢false (sym there ∙ e))
  ]
  | inr f ↦ f
]

pub in_list : (cs : List ℕ) (q : ℕ) → fin.contains (fin.from_list {R = nat_cmp} cs) q ≡ true → Member q cs
in_list [] q e = absurd (true≢false (sym e ∙ fin.contains-empty nat_cmp q))
in_list (c ∷ cs) q e = elim (or_cases (eqb q c) (fin.contains (fin.from_list {R = nat_cmp} cs) q)
    (sym (contains-insert (fin.from_list cs) c q) ∙ e)) [
      | inl same ↦ inl (eqb-true q c same)
      | inr there ↦ inr (in_list cs q there)
    ]

pub contains-remove : (v : Squares) (k q : ℕ) → fin.contains (fin.remove v k) q ≡ (not (eqb q k) && fin.contains v q)
contains-remove v k q = fin.contains-remove nat_cmp_total v k q
    ∙ ap (λ b. not b && fin.contains v q) (unsigned_tied q k)

-- a set without a member, and with it again
pub put_back : (v : Squares) (c : ℕ) → fin.contains v c ≡ true → fin.insert (fin.remove v c) c ≡ v
put_back v c there = fin.same_set nat_cmp_total fin.nat_cmp-IsAntisymmetric _ _ (λ q.
    contains-insert (fin.remove v c) c q ∙ (ap (λ b. eqb q c || b) (contains-remove v c q)
    ∙ elim (cases_Bool (eqb q c)) [
      | inl same ↦ let at : fin.contains v q ≡ true = ap (fin.contains v) (eqb-true q c same)
          ∙ there in ap (λ b. b || (not b && fin.contains v q)) same ∙ sym at
      | inr apart ↦ ap (λ b. b || (not b && fin.contains v q)) apart
    ]))

-- a set without one square
pub in_rest : (v : Squares) (c : ℕ) (rest : Squares) (t : ℕ) → rest ≡ fin.remove v c → In t rest ↔ (In t v × (t ≢ c))
in_rest v c rest t e =
    let is : fin.contains rest t ≡ (not (eqb t c) && fin.contains v t) = ap (λ z. fin.contains z t) e
    ∙ contains-remove v c t in (
      (λ h. let parts = and_parts _ _ (sym is ∙ h) in
          (parts.1, λ same. true≢false (sym parts.0 ∙ not_from_true (eqb t c) (eq-eqb t c same)))),
      (λ h. is ∙ and_from _ _ (not_from_false (eqb t c) (ne_eqb t c h.1)) h.0),
    )

-- what is in a set without c is not c
pub not_removed : (v : Squares) (c : ℕ) → fin.contains (fin.remove v c) c ≡ false
not_removed v c = contains-remove v c c ∙ ap (λ b. not b && fin.contains v c) (eq-eqb c c refl)

-- a square less
pub one_fewer : (v : Squares) (c : ℕ) → fin.contains v c ≡ true → fin.len v ≡ fin.len (fin.remove v c) + 1
one_fewer v c there =
    ap fin.len (sym (put_back v c there)) ∙ (fin.len-insert nat_cmp_total (fin.remove v c) c
    ∙ ap (λ b. cond b (fin.len (fin.remove v c)) (fin.len (fin.remove v c) + 1)) (not_removed v c))

pub fewer_left : (v : Squares) {rest : Squares} (c : ℕ) → rest ≡ fin.remove v c → In c v → fin.len rest < fin.len v
fewer_left v c rest_is there = omega (arith, one_fewer v c there, ap fin.len rest_is)

-- as many as the list has, where nothing stands twice in it
pub len_list : (cs : List ℕ) → NoRepeat cs → fin.len (fin.from_list {R = nat_cmp} cs) ≡ length cs
len_list [] n = fin.len-empty nat_cmp
len_list (c ∷ cs) n =
    let fresh : fin.contains (fin.from_list {R = nat_cmp} cs) c
    ≡ false = not_both (fin.contains (fin.from_list {R = nat_cmp} cs) c) (λ e. n.0 (in_list cs c e)) in
    let more : fin.len (fin.insert (fin.from_list {R = nat_cmp} cs) c) ≡ fin.len (fin.from_list {R = nat_cmp} cs) + 1 =
    fin.len-insert nat_cmp_total (fin.from_list cs) c
    ∙ ap (λ b. cond b (fin.len (fin.from_list {R = nat_cmp} cs)) (fin.len (fin.from_list {R = nat_cmp} cs) + 1))
    fresh in
    omega (arith, more, len_list cs n.1)

or_assoc : (a b c : Bool) → (a || (b || c)) ≡ ((b || a) || c)
or_assoc true true c = refl
or_assoc true false c = refl
or_assoc false true c = refl
or_assoc false false c = refl

or_none : (a : Bool) → (a || false) ≡ a
or_none true = refl
or_none false = refl

-- a set and a list's squares, the first of which joins the set
pub union_more : (v : Squares) (c : ℕ) (cs : List ℕ) → fin.union v (fin.from_list (c ∷ cs))
    ≡ fin.union (fin.insert v c) (fin.from_list cs)
union_more v c cs = fin.same_set nat_cmp_total fin.nat_cmp-IsAntisymmetric _ _ (λ q.
    fin.contains-union nat_cmp_total v (fin.from_list (c ∷ cs)) q
    ∙ (ap (λ b. fin.contains v q || b) (fin.contains-insert nat_cmp_total (fin.from_list cs) c q)
    ∙ (or_assoc (fin.contains v q) (eq_by_cmp nat_cmp q c) (fin.contains (fin.from_list {R = nat_cmp} cs) q)
    ∙ sym (fin.contains-union nat_cmp_total (fin.insert v c) (fin.from_list cs) q
    ∙ ap (λ b. b || fin.contains (fin.from_list {R = nat_cmp} cs) q) (fin.contains-insert nat_cmp_total v c q)))))

pub union_none : (v : Squares) → fin.union v (fin.from_list []) ≡ v
union_none v = fin.same_set nat_cmp_total fin.nat_cmp-IsAntisymmetric _ _ (λ q.
    fin.contains-union nat_cmp_total v (fin.from_list []) q
    ∙ (ap (λ b. fin.contains v q || b) (fin.contains-empty nat_cmp q) ∙ or_none (fin.contains v q)))

pub union_of_none : (w : Squares) → fin.union fin.empty w ≡ w
union_of_none w = fin.same_set nat_cmp_total fin.nat_cmp-IsAntisymmetric _ _ (λ q.
    fin.contains-union nat_cmp_total fin.empty w q ∙ ap (λ b. b || fin.contains w q) (fin.contains-empty nat_cmp q))

pub out_of_rest : (left : Squares) (s t : ℕ) → fin.contains left t ≡ false → fin.contains (fin.remove left s) t ≡ false
out_of_rest left s t e = contains-remove left s t ∙ (ap (λ b. not (eqb t s) && b) e ∙ none_of (not (eqb t s))) where
  none_of : (b : Bool) → (b && false) ≡ false
  none_of true = refl
  none_of false = refl

pub past_rest : (left : Squares) (s t : ℕ) → fin.contains (fin.remove left s) t ≡ false → (t ≡ s)
    ⊎ (fin.contains left t ≡ false)
past_rest left s t e = elim (cases_eq t s) [
  | inl same ↦ inl same
  | inr apart ↦ inr (sym (contains-remove left s t ∙ ap (λ b. not b && fin.contains left t) (ne_eqb t s apart))
      ∙ e)
]

-- a set whose squares stand in a list has no more of them
pub len_within : (xs : List ℕ) (v : Squares) → ((s : ℕ) → In s v → Member s xs) → fin.len v ≤ length xs
len_within [] v all =
    let none : v ≡ fin.empty = fin.same_set nat_cmp_total fin.nat_cmp-IsAntisymmetric v fin.empty
    (λ q. not_both (fin.contains v q) (λ e. all q e) ∙ sym (fin.contains-empty nat_cmp q)) in
    omega (arith, ap fin.len none, fin.len-empty nat_cmp)
len_within (x ∷ xs) v all =
    let rest : (s : ℕ) → In s (fin.remove v x) → Member s xs = λ s h.
    let parts = and_parts (not (eqb s x)) (fin.contains v s) (sym (contains-remove v x s) ∙ h) in
    elim (all s parts.1) [
      | inl e ↦ absurd (true≢false (sym parts.0 ∙ not_from_true (eqb s x) (eq-eqb s x e)))
      | inr m ↦ m
    ] in
    let fewer : fin.len v ≤ fin.len (fin.remove v x) + 1 = elim (cases_Bool (fin.contains v x)) [
      | inl there ↦ omega (arith, one_fewer v x there)
      | inr gone ↦ omega (
        arith,
        fin.len-remove nat_cmp_total v x
            ∙ ap (λ b. cond b (fin.len v - 1) (fin.len v)) gone,
      )
    ] in
    omega (arith, len_within xs (fin.remove v x) rest)

-- what is left of a set without one square more
pub difference_less : (v w : Squares) (c : ℕ) → In c v → fin.contains w c ≡ false
    → fin.len (fin.difference v w) ≡ fin.len (fin.difference v (fin.insert w c)) + 1
difference_less v w c there fresh =
    let in_left : fin.contains (fin.difference v w) c ≡ true = (in_minus v w (fin.difference v w) c refl).1
    (there, λ h. true≢false (sym h ∙ fresh)) in
    let same : fin.remove (fin.difference v w) c ≡ fin.difference v (fin.insert w c) =
    fin.same_set nat_cmp_total fin.nat_cmp-IsAntisymmetric _ _ (λ q.
    contains-remove (fin.difference v w) c q
    ∙ (ap (λ b. not (eqb q c) && b) (fin.contains-difference nat_cmp_total v w q)
    ∙ (by_parts (eqb q c) (fin.contains v q) (fin.contains w q)
    ∙ (ap (λ b. fin.contains v q && not b) (sym (contains-insert w c q))
    ∙ sym (fin.contains-difference nat_cmp_total v (fin.insert w c) q))))) in
    one_fewer (fin.difference v w) c in_left ∙ ap (λ z. fin.len z + 1) same where
      by_parts : (a b c : Bool) → (not a && (b && not c)) ≡ (b && not (a || c))
      by_parts true true c = refl
      by_parts true false c = refl
      by_parts false b c = refl

-- nothing is taken out of a set
difference_none : (v w : Squares) → w ≡ fin.empty → fin.difference v w ≡ v
difference_none v w none = fin.same_set nat_cmp_total fin.nat_cmp-IsAntisymmetric _ _ (λ q.
    fin.contains-difference nat_cmp_total v w q
    ∙ (ap (λ b. fin.contains v q && not b) (ap (λ z. fin.contains z q) none ∙ fin.contains-empty nat_cmp q)
    ∙ and_true (fin.contains v q))) where
      and_true : (b : Bool) → (b && true) ≡ b
      and_true true = refl
      and_true false = refl

-- as before a capture has taken anything
pub all_left : {v w u : Squares} → w ≡ fin.empty → v ≡ u → fin.len (fin.difference v w) ≡ fin.len u
all_left {v} {w} none same = ap fin.len (difference_none v w none ∙ same)

pub none_counted : {n : ℕ} {v : Squares} → n ≡ 0 → v ≡ fin.empty → n ≡ fin.len v
none_counted is none = is ∙ sym (ap fin.len none ∙ fin.len-empty nat_cmp)

-- one more in a set
pub len_more : (v : Squares) (c : ℕ) → fin.contains v c ≡ false → fin.len (fin.insert v c) ≡ fin.len v + 1
len_more v c fresh = fin.len-insert nat_cmp_total v c ∙ ap (λ b. cond b (fin.len v) (fin.len v + 1)) fresh
