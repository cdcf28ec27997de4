-- What each keeper makes of one capture more.
use Rattle.std.proofs.Common.{◌≡◌, ℕ, ◌<◌, ◌≤◌, List, [], ◌∷◌, ◌++◌, refl, sym, ap, ◌∙◌, subst, ◌⊎◌, ◌↔◌, inl, inr}
use Rattle.std.proofs.Common.{arith, true, false, Bool, Option, Some, None}
use Rattle.std.specs.Prelude.{IsTrue}
use Rattle.std.specs.List.{list_any}
use Rattle.std.proofs.lemmas.Bool.{true≢false, or_cases, or_left, or_right}
use Rattle.dw_board.specs.Lists.{Member, NoRepeat}
use Rattle.std.specs.FinSet as fin
use Rattle.dw_board.specs.Geometry.{Squares}
use Rattle.dw_moves.specs.Moves.{In, Move}
use Rattle.dw_moves.specs.Order.{Listed}
use Rattle.dw_moves.specs.inner.LexLemmas.{lex_irrefl, not_less}
use Rattle.dw_moves.specs.inner.MemberLemmas.{mem_left, mem_right, mem_cases}
use Rattle.dw_moves.specs.inner.MoveLemmas.{same_moves, same_moves-is}
use Rattle.dw_moves.specs.inner.Walks.{Covered, EndsKept, EndsOn, Held, Is, IsMost, Longest, Makes, MovesKept, OneKept}
use Rattle.dw_moves.specs.inner.Walks.{PathsKept, TakenIn, These, number}
use Rattle.dw_moves.proofs.QuietOnceLemmas.{once_append}
use Rattle.dw_moves.proofs.SquareSetLemmas.{in_insert, in_none}
use Rattle.dw_moves.proofs.StepLemmas.{none_some, some_inj}

-- ---- the greatest number
pub most_none : IsMost (These []) 0
most_none = record { reached = inl refl; most = λ l m. absurd m }

pub most_same : {E F : Listed → Type 0} {k : ℕ} → IsMost E k → ((l : Listed) → E l ↔ F l) → IsMost F k
most_same h same = record {
  reached = elim h.reached [ inl e ↦ inl e | inr r ↦ inr (r.0, (same r.0).0 r.1, r.2) ];
  most = λ l f. h.most l ((same l).1 f);
}

in_more : (xs : List Listed) (this l : Listed) → Member l (xs ++ this ∷ []) → Member l xs ⊎ (this ≡ l)
in_more xs this l m = elim (mem_cases l xs (this ∷ []) m) [
  | inl x ↦ inl x
  | inr (inl e) ↦ inr (sym e)
  | inr (inr none) ↦ absurd none
]

-- one capture more takes n pieces, and the greatest number was k
module _ (xs : List Listed) (this : Listed) (k n : ℕ) (is : n ≡ number this) where
  -- it takes at least as many
  most_to : k ≤ n → IsMost (These xs) k → IsMost (These (xs ++ this ∷ [])) n
  most_to low h = record {
    reached = inr (this, mem_right this xs (this ∷ []) (inl refl), sym is);
    most = λ l m. elim (in_more xs this l m) [
      | inl x ↦ omega (arith, h.most l x)
      | inr e ↦ omega (arith, ap number e)
    ];
  }

  -- it takes fewer
  most_past : n ≤ k → IsMost (These xs) k → IsMost (These (xs ++ this ∷ [])) k
  most_past few h = record {
    reached = elim h.reached [ inl e ↦ inl e | inr r ↦ inr (r.0, mem_left r.0 xs (this ∷ []) r.1, r.2) ];
    most = λ l m. elim (in_more xs this l m) [ inl x ↦ h.most l x | inr e ↦ omega (arith, ap number e) ];
  }

-- ---- the captures that take k pieces: there are none; they are the same; they are those and one more
pub record Bare (E : Listed → Type 0) (k : ℕ) : Type 0 where
  pub none : (l : Listed) → E l → number l ≡ k → ⊥

pub record Alike (E F : Listed → Type 0) (k : ℕ) : Type 0 where
  pub both : (l : Listed) → number l ≡ k → E l ↔ F l

pub record Joined (E F : Listed → Type 0) (k : ℕ) (this : Listed) : Type 0 where
  pub old : (l : Listed) → E l → F l
  pub back : (l : Listed) → F l → E l ⊎ (this ≡ l)
  pub here : F this
  pub count : number this ≡ k

none_longest : {E : Listed → Type 0} {k : ℕ} → Bare E k → (C : Listed → Type 0) → Longest E k C → ⊥
none_longest b C h = b.none h.0 h.1 h.2

longest_alike : {E F : Listed → Type 0} {k : ℕ} → Alike E F k → (C : Listed → Type 0) → Longest E k C ↔ Longest F k C
longest_alike a C = (
  (λ h. (h.0, (a.both h.0 h.2).0 h.1, h.2, h.3)),
  (λ h. (h.0, (a.both h.0 h.2).1 h.1, h.2, h.3)),
)

longest_joined : {E F : Listed → Type 0} {k : ℕ} {this : Listed} → Joined E F k this → (C : Listed → Type 0)
    → Longest F k C ↔ (Longest E k C ⊎ C this)
longest_joined {this = this} j C = (
  (λ x. elim (j.back x.0 x.1) [ inl old ↦ inl (x.0, old, x.2, x.3) | inr e ↦ inr (subst C (sym e) x.3) ]),
  (λ x. elim x [ inl old ↦ (old.0, j.old old.0 old.1, old.2, old.3) | inr c ↦ (this, j.here, j.count, c) ]),
)

-- ---- what is held of them
pub held_none : {A : Type 0} → (Bare (These []) 0 → A) → Held (These []) 0 A
held_none bare = record { most = most_none; kept = bare (record { none = λ l m e. m }) }

pub held_same : {E F : Listed → Type 0} {k : ℕ} {A B : Type 0} → Held E k A → ((l : Listed) → E l ↔ F l)
    → (Alike E F k → A → B) → Held F k B
held_same h same alike = record {
  most = most_same h.most same;
  kept = alike (record { both = λ l _. same l }) h.kept;
}

-- what is left of what was kept where a capture takes n pieces, and the greatest number was k and is now: nothing
-- where it takes more, else all of it
abbrev pub Left : {X : Type 0} → ℕ → ℕ → ℕ → X → X → X → Type 0
Left k n now none old left = ((k < n) × (now ≡ n) × (left ≡ none)) ⊎ ((n ≤ k) × (now ≡ k) × (left ≡ old))

module _ (xs : List Listed) (this : Listed) (k n : ℕ) (is : n ≡ number this) where
  pub held_past : {A B : Type 0} → n < k → Held (These xs) k A
      → (Alike (These xs) (These (xs ++ this ∷ [])) k → A → B) → Held (These (xs ++ this ∷ [])) k B
  held_past few h alike = record {
    most = most_past xs this k n is (omega (arith, few)) h.most;
    kept = alike (record {
      both = λ l count. (
        mem_left l xs (this ∷ []),
        (λ m. elim (in_more xs this l m) [
          | inl x ↦ x
          | inr e ↦ absurd (omega (arith, few, count, ap number e))
        ]),
      );
    }) h.kept;
  }

  pub held_more : {X A : Type 0} {now : ℕ} {none old left : X} (Kept : ℕ → X → Type 0) → k ≤ n
      → Left k n now none old left → Held (These xs) k (Kept k old) → (Bare (These xs) now → Kept now none)
      → (Joined (These xs) (These (xs ++ this ∷ [])) now this → Kept now left → A)
      → Held (These (xs ++ this ∷ [])) now A
  held_more {X} {A} {now} {none} {old} {left} Kept low l h bare join = record {
    most = subst (IsMost (These (xs ++ this ∷ []))) (sym same) (most_to xs this k n is low h.most);
    kept = join (record {
      old = λ l. mem_left l xs (this ∷ []);
      back = in_more xs this;
      here = mem_right this xs (this ∷ []) (inl refl);
      count = sym is ∙ sym same;
    }) (elim l [
      | inl a ↦ subst (Kept now) (sym a.2)
          (bare (record { none = λ l m e. omega (arith, h.most.most l m, a.0, a.1, e) }))
      | inr a ↦ subst (Kept now) (sym a.2) (subst (λ z. Kept z old) (sym a.1) h.kept)
    ]);
  } where
    same : now ≡ n
    same = elim l [ inl a ↦ a.1 | inr a ↦ omega (arith, low, a.0, a.1) ]

-- ---- the squares on which they end
pub ends_bare : {E : Listed → Type 0} {k : ℕ} {none : Squares} → none ≡ fin.empty → Bare E k → EndsKept E k none
ends_bare {none = none} e b = record {
  exactly = λ s. ((λ x. absurd (in_none none s e x)), (λ h. absurd (none_longest b (EndsOn s) h)));
}

pub ends_alike : {E F : Listed → Type 0} {k : ℕ} {ends : Squares} → Alike E F k → EndsKept E k ends → EndsKept F k ends
ends_alike a h = record {
  exactly = λ s. let both = longest_alike a (EndsOn s) in
      ((λ x. both.0 ((h.exactly s).0 x)), (λ x. (h.exactly s).1 (both.1 x)));
}

-- one more is added to those that are left
pub ends_join : {E F : Listed → Type 0} {k : ℕ} {this : Listed} {left new : Squares} → Joined E F k this
    → new ≡ fin.insert left this.step.to → EndsKept E k left → EndsKept F k new
ends_join {this = this} {left = left} j new_is h = record {
  exactly = λ s. (
    (λ x. (longest_joined j (EndsOn s)).1 (elim ((in_insert left this.step.to s).0 (subst (In s) new_is x)) [
      | inl e ↦ inr e
      | inr old ↦ inl ((h.exactly s).0 old)
    ])),
    (λ x. subst (In s) (sym new_is) ((in_insert left this.step.to s).1 (elim ((longest_joined j (EndsOn s)).0 x) [
      | inl old ↦ inr ((h.exactly s).1 old)
      | inr e ↦ inl e
    ]))),
  );
}

-- ---- the moves
pub moves_bare : {E : Listed → Type 0} {k : ℕ} → Bare E k → MovesKept E k []
moves_bare b = record {
  exactly = λ m. ((λ h. absurd h), (λ h. absurd (none_longest b (Makes m) h)));
  once = tt;
}

pub moves_alike : {E F : Listed → Type 0} {k : ℕ} {moves : List Move} → Alike E F k → MovesKept E k moves
    → MovesKept F k moves
moves_alike a h = record {
  exactly = λ m. let both = longest_alike a (Makes m) in
      ((λ x. both.0 ((h.exactly m).0 x)), (λ x. (h.exactly m).1 (both.1 x)));
  once = h.once;
}

any_member : (s : Move) (ms : List Move) → list_any (λ y. same_moves y s) ms ≡ true → Member s ms
any_member s [] e = absurd (true≢false (sym e))
any_member s (m ∷ ms) e = elim (or_cases (same_moves m s) (list_any (λ y. same_moves y s) ms) e) [
  | inl l ↦ inl (sym ((same_moves-is m s).0 l))
  | inr r ↦ inr (any_member s ms r)
]

member_any : (s : Move) (ms : List Move) → Member s ms → list_any (λ y. same_moves y s) ms ≡ true
member_any s [] h = absurd h
member_any s (m ∷ ms) (inl e) = or_left (same_moves m s) (list_any (λ y. same_moves y s) ms)
    ((same_moves-is m s).1 (sym e))
member_any s (m ∷ ms) (inr h) = or_right (same_moves m s) (list_any (λ y. same_moves y s) ms) (member_any s ms h)

-- it is not there yet, and is added
pub moves_new : {E F : Listed → Type 0} {k : ℕ} {this : Listed} {left new : List Move} → Joined E F k this
    → list_any (λ y. same_moves y this.step) left ≡ false → new ≡ left ++ this.step ∷ [] → MovesKept E k left
    → MovesKept F k new
moves_new {this = this} {left = left} j out new_is h = record {
  exactly = λ m. (
    (λ x. (longest_joined j (Makes m)).1 (elim (mem_cases m left (this.step ∷ []) (subst (Member m) new_is x)) [
      | inl old ↦ inl ((h.exactly m).0 old)
      | inr (inl e) ↦ inr (sym e)
      | inr (inr none) ↦ absurd none
    ])),
    (λ x. subst (Member m) (sym new_is) (elim ((longest_joined j (Makes m)).0 x) [
      | inl old ↦ mem_left m left (this.step ∷ []) ((h.exactly m).1 old)
      | inr e ↦ mem_right m left (this.step ∷ []) (inl (sym e))
    ])),
  );
  once = subst NoRepeat (sym new_is) (once_append left (this.step ∷ []) h.once ((λ h. h), tt) (λ x old last. elim last [
    | inl e ↦ true≢false (sym (member_any this.step left (subst (λ z. Member z left) e old)) ∙ out)
    | inr none ↦ none
  ]));
}

-- it is there already
pub moves_old : {E F : Listed → Type 0} {k : ℕ} {this : Listed} {left : List Move} → Joined E F k this
    → list_any (λ y. same_moves y this.step) left ≡ true → MovesKept E k left → MovesKept F k left
moves_old {this = this} {left = left} j there h = record {
  exactly = λ m. (
    (λ x. (longest_joined j (Makes m)).1 (inl ((h.exactly m).0 x))),
    (λ x. elim ((longest_joined j (Makes m)).0 x) [
      | inl old ↦ (h.exactly m).1 old
      | inr e ↦ subst (λ z. Member z left) e (any_member this.step left there)
    ]),
  );
  once = h.once;
}

-- ---- the least paths
-- a move in the list covers itself
pub covers_itself : (l : Listed) (list : List Listed) → Member l list → Covered l list
covers_itself l list m = (l, m, refl, lex_irrefl l.path)

-- what covers a move that covers another covers it
covered_then : (l : Listed) (one two : List Listed) → ((r : Listed) → Member r one → Covered r two) → Covered l one
    → Covered l two
covered_then l one two all h =
    let r = all h.0 h.1 in (r.0, r.1, r.2 ∙ h.2, not_less l.path h.0.path r.0.path h.3 r.3)

pub paths_bare : {E : Listed → Type 0} {k : ℕ} → Bare E k → PathsKept E k []
paths_bare b = record {
  from = λ l m. absurd m;
  least = λ l h. absurd (none_longest b (Is l) h);
  once = tt;
}

pub paths_alike : {E F : Listed → Type 0} {k : ℕ} {list : List Listed} → Alike E F k → PathsKept E k list
    → PathsKept F k list
paths_alike a h = record {
  from = λ l m. (longest_alike a (Is l)).0 (h.from l m);
  least = λ l x. h.least l ((longest_alike a (Is l)).1 x);
  once = h.once;
}

-- its path joins what is left
pub paths_join : {E F : Listed → Type 0} {k : ℕ} {this : Listed} {left new : List Listed} → Joined E F k this
    → TakenIn this left new → PathsKept E k left → PathsKept F k new
paths_join {left = left} {new = new} j joined h = record {
  from = λ x m. (longest_joined j (Is x)).1 (elim (joined.from x m) [
    | inl e ↦ inr (sym e)
    | inr old ↦ inl (h.from x old)
  ]);
  least = λ x y. elim ((longest_joined j (Is x)).0 y) [
    | inl old ↦ covered_then x left new (λ r m. joined.least r (inr m)) (h.least x old)
    | inr e ↦ joined.least x (inl (sym e))
  ];
  once = joined.once h.once;
}

-- ---- one that is sought
pub one_bare : {E C : Listed → Type 0} {k : ℕ} → Bare E k → OneKept E C k None
one_bare {C = C} b = record { is = λ m e. absurd (none_some m e); some = λ h. absurd (none_longest b C h) }

pub one_alike : {E F C : Listed → Type 0} {k : ℕ} {found : Option Move} → Alike E F k → OneKept E C k found
    → OneKept F C k found
one_alike {C = C} a h = record {
  is = λ m e. (longest_alike a (λ l. Makes m l × C l)).0 (h.is m e);
  some = λ x. h.some ((longest_alike a C).1 x);
}

-- it is met here, or not
pub one_here : {E F C : Listed → Type 0} {k : ℕ} {this : Listed} → Joined E F k this → C this
    → OneKept F C k (Some this.step)
one_here {C = C} j met = record {
  is = λ m e. (longest_joined j (λ l. Makes m l × C l)).1 (inr (some_inj e, met));
  some = λ x. refl;
}

pub one_other : {E F C : Listed → Type 0} {k : ℕ} {this : Listed} {found : Option Move} → Joined E F k this
    → (C this → ⊥) → OneKept E C k found → OneKept F C k found
one_other {C = C} j apart h = record {
  is = λ m e. (longest_joined j (λ l. Makes m l × C l)).1 (inl (h.is m e));
  some = λ x. elim ((longest_joined j C).0 x) [ inl o ↦ h.some o | inr e ↦ absurd (apart e) ];
}

-- a test of a capture, where the aim and the path are the same
pub same_aim : {A : Type 0} (meets : A → Listed → Type 0) {still aim : A} (m : Move) {seen path : List ℕ} (r : Bool)
    → still ≡ aim → seen ≡ path → IsTrue r ↔ meets still (record { step = m; path = seen })
    → IsTrue r ↔ meets aim (record { step = m; path = path })
same_aim meets {aim = aim} m {seen = seen} r aim_is path_is h =
    subst (λ z. IsTrue r ↔ meets aim (record { step = m; path = z })) path_is
    (subst (λ a. IsTrue r ↔ meets a (record { step = m; path = seen })) aim_is h)
