-- What a row needs, out of positions after moves and replies.
use Rattle.std.proofs.Common.{◌≡◌, ℕ, zero, suc, ◌+◌, ◌-◌, ◌<◌, ◌≤◌, ◌⊎◌, true, false, List, [], ◌∷◌, ◌++◌, map, take}
use Rattle.std.proofs.Common.{Bool, Result, Ok, Err, OnOk, length, get_or, refl, sym, ap, ◌∙◌, subst, inl, inr, arith}
use Rattle.dw_board.specs.Geometry.{Geometry}
use Rattle.dw_board.specs.Lists.{Member, NoRepeat}
use Rattle.dw_board.specs.Placement.{Placement}
use Rattle.dw_moves.specs.Moves.{Move, AreLegal, Legal, play}
use Rattle.dw_moves.specs.inner.MemberLemmas.{mem_left, mem_right, mem_cases, mem_map, mem_map_back}
use Rattle.dw_solve.specs.Facts.{KnownWin, KnownFail}
use Rattle.dw_certificate.specs.Certificate.{Row, Step, AreSteps, IsAfterReply, claims}
use Rattle.dw_certificate.specs.inner.Rows.{IsAfter, AreAfter, IsGrown, IsSupported, IsSupportedTo, LeadsTo, Follows}
use Rattle.dw_certificate.proofs.PositionLemmas.{first_cases, first_all, member_at, take_next}
use Rattle.dw_certificate.proofs.RowLemmas.{grown_none, grown_then, grown_wider, knows_grown}

one_less : (left : ℕ) → left ≡ left + 1 - 1
one_less left = omega arith

-- a win is supported by a move after whose every reply there is one
pub win_supported : (g : Geometry) (p a : Placement) (nexts : List Placement) (left : ℕ) (old new : List Row)
    → IsAfter g p a → AreAfter g a nexts → IsGrown (λ q. Member q nexts) left old new
    → ((q : Placement) → Member q nexts → KnownWin (claims true new) q left) → IsSupported g true p left old new
win_supported g p a nexts left old new m after grown known = record {
  steps = steps;
  grown = grown_wider (λ q. Member q nexts) (LeadsTo g p steps) left old new
      (λ q there. (m.0, m.1, mem_map step q nexts there)) grown;
  are = (m.0, m.1, chosen, λ q r. subst (λ n. KnownWin (claims true new) q n) (one_less left) (known q (met q r)));
} where
  step : Placement → Step
  step q = (m.0, q)

  steps : List Step
  steps = map step nexts

  chosen : (s : Step) → Member s steps → (s.0 ≡ m.0) × IsAfterReply g p m.0 s.1
  chosen s there =
      let f = mem_map_back step s nexts there in
      let reply : IsAfterReply g p m.0 f.0 = subst (λ z. IsAfter g z f.0) m.2 (after.only f.0 f.1) in
      (ap (λ z. z.0) f.2, subst (IsAfterReply g p m.0) (sym (ap (λ z. z.1) f.2)) reply)

  met : (q : Placement) → IsAfterReply g p m.0 q → Member q nexts
  met q r =
      let reply : IsAfter g a q = subst (λ z. IsAfter g z q) (sym m.2) r in
      subst (λ z. Member z nexts) (sym reply.2) (after.all reply.0 reply.1)

-- in a list without repeats nothing stands before itself
not_before : {X : Type 0} (xs : List X) (i : ℕ) (x : X) → NoRepeat xs → i < length xs → x ≡ get_or xs i x
    → Member x (take i xs) → ⊥
not_before [] i x once low is m = absurd (omega arith)
not_before (y ∷ xs) zero x once low is m = m
not_before (y ∷ xs) (suc i) x once low is (inl e) =
    once.0 (subst (λ z. Member z xs) e (member_at xs i x (omega arith) is))
not_before (y ∷ xs) (suc i) x once low is (inr m) = not_before xs i x once.1 (omega arith) is m

pub supported_none : (g : Geometry) (p : Placement) (moves : List Move) (left : ℕ) (rows : List Row)
    → IsSupportedTo g p moves 0 left rows rows
supported_none g p moves left rows = record {
  steps = [];
  first = λ s there. absurd there;
  grown = grown_none (LeadsTo g p []) left rows;
  replies = λ m there. absurd there;
}

-- one move more, to which a reply is put in
module _ (g : Geometry) (p : Placement) (moves : List Move) (i left : ℕ) (old mid new : List Row) (m : Move)
    (q : Placement) (legal : AreLegal g p moves) (low : i < length moves) (is : m ≡ get_or moves i m)
    (reply : IsAfterReply g p m q) (before : IsSupportedTo g p moves i left old mid)
    (put : IsGrown (λ z. z ≡ q) left mid new) (known : (left ≡ 0) ⊎ KnownFail (claims false new) q left) where
  abbrev all_steps : List Step
  all_steps = before.steps ++ (m, q) ∷ []

  leads : (z : Placement) → LeadsTo g p before.steps z → LeadsTo g p all_steps z
  leads z l = (l.0, l.1, mem_left (l.0, z) before.steps ((m, q) ∷ []) l.2)

  leads_here : (z : Placement) → z ≡ q → LeadsTo g p all_steps z
  leads_here z e = (
    m,
    (legal.exactly m).0 (member_at moves i m low is),
    mem_right (m, z) before.steps ((m, q) ∷ []) (inl (ap (λ y. (m, y)) e)),
  )

  apart : Member m (take i moves) → ⊥
  apart there = not_before moves i m legal.once low is there

  next : take (i + 1) moves ≡ take i moves ++ m ∷ []
  next = take_next moves i m low is

  take_one : (k : Move) → Member k (take i moves) → Member k (take (i + 1) moves)
  take_one k there = subst (Member k) (sym next) (mem_left k (take i moves) (m ∷ []) there)

  here_taken : Member m (take (i + 1) moves)
  here_taken = subst (Member m) (sym next) (mem_right m (take i moves) (m ∷ []) (inl refl))

  first_of : (s : Step) → Member s all_steps → Member s.0 (take (i + 1) moves)
  first_of s there = elim (mem_cases s before.steps ((m, q) ∷ []) there) [
    | inl l ↦ take_one s.0 (before.first s l)
    | inr n ↦ elim n [
      | inl e ↦ subst (λ z. Member z (take (i + 1) moves)) (sym (ap (λ z. z.0) e)) here_taken
      | inr z ↦ absurd z
    ]
  ]

  abbrev Replied : Move → Type 0
  Replied k = (z : Placement) × IsAfterReply g p k z × ((s : Step) → Member s all_steps → s.0 ≡ k → s.1 ≡ z)
      × ((left ≡ 0) ⊎ KnownFail (claims false new) z left)

  replied_before : (k : Move) → Member k (take i moves) → Replied k
  replied_before k there =
      let r = before.replies k there in (
        r.0,
        r.1,
        λ s mem e. elim (mem_cases s before.steps ((m, q) ∷ []) mem) [
          | inl l ↦ r.2 s l e
          | inr n ↦ elim n [
            | inl same ↦ absurd (apart (subst (λ z. Member z (take i moves)) (sym e ∙ ap (λ z. z.0) same) there))
            | inr z ↦ absurd z
          ]
        ],
        elim r.3 [
          | inl e ↦ inl e
          | inr k' ↦ inr (knows_grown false (λ z. z ≡ q) left mid new r.0 left put k')
        ],
      )

  replied_here : Replied m
  replied_here = (
    q,
    reply,
    λ s mem e. elim (mem_cases s before.steps ((m, q) ∷ []) mem) [
      | inl l ↦ absurd (apart (subst (λ z. Member z (take i moves)) e (before.first s l)))
      | inr n ↦ elim n [ inl same ↦ ap (λ z. z.1) same | inr z ↦ absurd z ]
    ],
    known,
  )

  pub supported_more : IsSupportedTo g p moves (i + 1) left old new
  supported_more = record {
    steps = all_steps;
    first = first_of;
    grown = grown_then (LeadsTo g p all_steps) left old mid new
        (grown_wider (LeadsTo g p before.steps) (LeadsTo g p all_steps) left old mid leads before.grown)
        (grown_wider (λ z. z ≡ q) (LeadsTo g p all_steps) left mid new leads_here put);
    replies = λ k there. first_cases moves i m k low is Replied replied_before replied_here there;
  }

-- all moves
pub supported_all : (g : Geometry) (p : Placement) (moves : List Move) (i left : ℕ) (old new : List Row)
    → AreLegal g p moves → length moves ≤ i → IsSupportedTo g p moves i left old new
    → IsSupported g false p left old new
supported_all g p moves i left old new legal end to = record {
  steps = to.steps;
  grown = to.grown;
  are = λ m l.
      let r = to.replies m (first_all moves i m end ((legal.exactly m).1 l)) in (
        r.0,
        r.1,
        r.2,
        elim r.3 [
          | inl e ↦ inl (sym (one_less left) ∙ e)
          | inr k ↦ inr (subst (λ n. KnownFail (claims false new) r.0 n) (one_less left) k)
        ],
      );
}

pub on_ok_both : {T E : Type 0} (r : Result T E) (P Q R : Type 0) → (P → Q → R) → OnOk r P → OnOk r Q → OnOk r R
on_ok_both (Ok x) P Q R so p q = so p q
on_ok_both (Err e) P Q R so p q = p

-- what a row says follows if it takes steps
pub steps_follow : (g : Geometry) (win : Bool) (rows : List Row) (r : Row) (steps : List Step)
    → AreSteps g win (claims win rows) r steps → Follows g win (claims win rows) r.0 r.1
steps_follow g true rows r steps f = (f.0, f.1, λ k l. f.3 (play g (play g r.0 f.0) k) (k, l, refl))
steps_follow g false rows r steps f = λ m l.
    let t = f m l in (
      t.1.0,
      t.1.1,
      elim t.3 [
        | inl e ↦ inl e
        | inr k ↦ inr (subst (λ z. KnownFail (claims false rows) z (r.1 - 1)) t.1.2 k)
      ],
    )

-- they are steps still if more rows stand
pub steps_grown : (g : Geometry) (win : Bool) (Of : Placement → Type 0) (moves : ℕ) (old new : List Row) (r : Row)
    (steps : List Step) → IsGrown Of moves old new → AreSteps g win (claims win old) r steps
    → AreSteps g win (claims win new) r steps
steps_grown g true Of moves old new r steps grown f =
    (f.0, f.1, f.2, λ q k. knows_grown true Of moves old new q (r.1 - 1) grown (f.3 q k))
steps_grown g false Of moves old new r steps grown f = λ m l.
    let t = f m l in (
      t.0,
      t.1,
      t.2,
      elim t.3 [
        | inl e ↦ inl e
        | inr k ↦ inr (knows_grown false Of moves old new t.0 (r.1 - 1) grown k)
      ],
    )
