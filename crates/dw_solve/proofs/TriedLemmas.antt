-- Moves that were tried one after another, and what the memo says of them.
use Rattle.std.proofs.Common.{◌≡◌, ℕ, ◌+◌, ◌≤◌, ◌<◌, List, length, get_or, refl, sym, ◌∙◌, subst, ◌⊎◌, inl, inr, arith}
use Rattle.std.proofs.Common.{Bool, true, false}
use Rattle.std.proofs.lemmas.Bool.{cases_lt, true≢false}
use Rattle.dw_board.specs.Geometry.{Geometry}
use Rattle.dw_board.specs.Placement.{Placement}
use Rattle.dw_moves.specs.Moves.{Move, Legal, play}
use Rattle.dw_memo.specs.Content.{Content}
use Rattle.dw_solve.specs.Facts.{KnownWin, KnownFail, IsDecided}
use Rattle.dw_solve.specs.Ranking.{AreRanked}
use Rattle.dw_solve.specs.Work.{Moment, Stronger, NothingLost, Searched}
use Rattle.dw_solve.specs.Certificates.{SaysWin, SaysLeast, SaysLost}
use Rattle.dw_solve.specs.inner.Searching.{SaysMove}
use Rattle.dw_solve.proofs.RankLemmas.{Below, below_none, below_more, below_all}
use Rattle.dw_solve.proofs.WorkLemmas.{first_kept, second_kept, searched_none, searched_then, searched_wider}

-- the memo says of a move that some reply to it leads to no win; of a reply, that it leads to a win
abbrev pub Refuted : Geometry → Placement → ℕ → Content → Move → Type 0
Refuted g p n c m = (r : Move) × Legal g (play g p m) r × ((n ≡ 0) ⊎ KnownFail c (play g (play g p m) r) n)

abbrev pub Answered : Geometry → Placement → ℕ → Content → Move → Type 0
Answered g q n c r = KnownWin c (play g q r) n

refuted_stays : (g : Geometry) (p : Placement) (n : ℕ) (c d : Content) → Stronger c d → (m : Move) → Refuted g p n c m
    → Refuted g p n d m
refuted_stays g p n c d s m h =
    (h.0, h.1, elim h.2 [ inl z ↦ inl z | inr k ↦ inr (s.fails (play g (play g p m) h.0) n k) ])

answered_stays : (g : Geometry) (q : Placement) (n : ℕ) (c d : Content) → Stronger c d → (r : Move) → Answered g q n c r
    → Answered g q n d r
answered_stays g q n c d s r h = s.wins (play g q r) n h

-- a search, and after it the memo says so of each move at an index below i
abbrev pub Tried : Geometry → ℕ → (Content → Move → Type 0) → List (ℕ × Move) → ℕ → Moment → Moment → Type 0
Tried g n P ranked i a c = Searched g n 0 a c × (NothingLost a c → Below (P c.content) ranked i)

pub tried_none : (g : Geometry) (n : ℕ) (P : Content → Move → Type 0) (ranked : List (ℕ × Move)) (a : Moment)
    → Tried g n P ranked 0 a a
tried_none g n P ranked a = (searched_none g n 0 a, λ kept. below_none (P a.content) ranked)

pub searched_after : (g : Geometry) (n cut : ℕ) (a b c : Moment) → Searched g n 0 a b → Searched g n cut b c
    → Searched g n cut a c
searched_after g n cut a b c v w = let e : 0 + cut ≡ cut = omega arith in subst (λ z. Searched g n z a c) e
    (searched_then g n 0 cut a b c v w)

tried_more : (g : Geometry) (n : ℕ) (P : Content → Move → Type 0) → ((c d : Content) → Stronger c d → (m : Move) → P c m
    → P d m) → (ranked : List (ℕ × Move)) (i : ℕ) (x : ℕ × Move) (a b c : Moment) → Tried g n P ranked i a b
    → i < length ranked → x ≡ get_or ranked i x → Searched g n 0 b c → (NothingLost b c → P c.content x.1)
    → Tried g n P ranked (i + 1) a c
tried_more g n P stays ranked i x a b c h low is w here = (
  searched_after g n 0 a b c h.0 w,
  λ kept.
      let first = first_kept a b c h.0.counted w.counted kept in
      let second = second_kept a b c h.0.counted w.counted kept in
      let s = (w.worked second).stronger in
      below_more (P c.content) ranked i x (λ k y l e. stays b.content c.content s y.1 (h.1 first k y l e)) low is
      (here second),
)

-- a move was tried that loses, and a reply that wins
pub refuted_more : (g : Geometry) (n : ℕ) (p : Placement) (ranked : List (ℕ × Move)) (i : ℕ) (x : ℕ
    × Move) (q : Placement) (answer : Bool) (a b c : Moment) → Tried g n (Refuted g p n) ranked i a b
    → i < length ranked → x ≡ get_or ranked i x → q ≡ play g p x.1 → answer ≡ false → Searched g n 0 b c
    → (NothingLost b c → SaysLost g c.content q n answer) → Tried g n (Refuted g p n) ranked (i + 1) a c
refuted_more g n p ranked i x q answer a b c h low is at answered w says =
    tried_more g n (Refuted g p n) (refuted_stays g p n) ranked i x a b c h low is w
    (λ kept. subst (λ z. (r : Move) × Legal g z r × ((n ≡ 0) ⊎ KnownFail c.content (play g z r) n)) at
    ((says kept).unless (λ t. true≢false (sym t ∙ answered))))

pub answered_more : (g : Geometry) (n : ℕ) (q : Placement) (ranked : List (ℕ × Move)) (i : ℕ) (x : ℕ
    × Move) (p : Placement) (answer : Bool) (a b c : Moment) → Tried g n (Answered g q n) ranked i a b
    → i < length ranked → x ≡ get_or ranked i x → p ≡ play g q x.1 → answer ≡ true → Searched g n 0 b c
    → (NothingLost b c → SaysWin c.content p n answer) → Tried g n (Answered g q n) ranked (i + 1) a c
answered_more g n q ranked i x p answer a b c h low is at answered w says =
    tried_more g n (Answered g q n) (answered_stays g q n) ranked i x a b c h low is w
    (λ kept. subst (λ z. KnownWin c.content z n) at ((says kept).when answered))

-- what is said then: by one move that wins, or by all that were tried
pub says_winning : (g : Geometry) (n : ℕ) (p : Placement) (m : Move) (q : Placement) (answer : Bool) (a b c : Moment)
    → Searched g n 0 a b → Searched g n 0 b c → Legal g p m → q ≡ play g p m → answer ≡ true
    → (NothingLost b c → SaysLost g c.content q n answer) → NothingLost a c → SaysMove g c.content p n true
says_winning g n p m q answer a b c v w legal at answered says kept = record {
  when = λ _. (
    m,
    legal,
    subst (λ z. (r : Move) → Legal g z r → KnownWin c.content (play g z r) n) at
        ((says (second_kept a b c v.counted w.counted kept)).when answered),
  );
  unless = λ t. absurd (t refl);
}

pub says_none : (g : Geometry) (n : ℕ) (p : Placement) (ranked : List (ℕ × Move)) (i : ℕ) (a c : Moment)
    → AreRanked g p ranked → length ranked ≤ i → Tried g n (Refuted g p n) ranked i a c → NothingLost a c
    → SaysMove g c.content p n false
says_none g n p ranked i a c all end h kept = record {
  when = λ t. absurd (true≢false (sym t));
  unless = λ _ m legal. below_all g p (Refuted g p n c.content) ranked i all end (h.1 kept) m legal;
}

pub says_refuted : (g : Geometry) (n : ℕ) (q : Placement) (r : Move) (p : Placement) (answer : Bool) (a b c : Moment)
    → Searched g n 0 a b → Searched g n 0 b c → Legal g q r → p ≡ play g q r → answer ≡ false
    → (NothingLost b c → SaysWin c.content p n answer) → NothingLost a c → SaysLost g c.content q n false
says_refuted g n q r p answer a b c v w legal at answered says kept = record {
  when = λ t. absurd (true≢false (sym t));
  unless = λ _. (
    r,
    legal,
    subst (λ z. (n ≡ 0) ⊎ KnownFail c.content z n) at
        ((says (second_kept a b c v.counted w.counted kept)).unless (λ t. true≢false (sym t ∙ answered))),
  );
}

-- numbers of moves that were tried one after another: the memo decides those below i
abbrev pub AllDecided : Geometry → ℕ → Placement → ℕ → Moment → Moment → Type 0
AllDecided g most p i a c = Searched g most 0 a c × (NothingLost a c → (k : ℕ) → 1 ≤ k → k < i
    → IsDecided c.content p k)

pub decided_none : (g : Geometry) (most : ℕ) (p : Placement) (a : Moment) → AllDecided g most p 1 a a
decided_none g most p a = (searched_none g most 0 a, λ kept k some low. absurd (omega (arith, some, low)))

decided_stays : (c d : Content) (p : Placement) (k : ℕ) → Stronger c d → IsDecided c p k → IsDecided d p k
decided_stays c d p k s (inl h) = inl (s.wins p k h)
decided_stays c d p k s (inr h) = inr (s.fails p k h)

split : (k i : ℕ) → k < i + 1 → (k ≡ i) ⊎ (k < i)
split k i low = grind arith

pub decided_more : (g : Geometry) (most : ℕ) (p : Placement) (i : ℕ) (answer : Bool) (a b c : Moment) → 1 ≤ i → i ≤ most
    → answer ≡ false → AllDecided g most p i a b → Searched g i 0 b c → (NothingLost b c → SaysWin c.content p i answer)
    → AllDecided g most p (i + 1) a c
decided_more g most p i answer a b c some within is h w says =
    let w' = searched_wider g i most 0 b c within w in (
      searched_after g most 0 a b c h.0 w',
      λ kept k one low.
          let first = first_kept a b c h.0.counted w.counted kept in
          let second = second_kept a b c h.0.counted w.counted kept in
          elim (split k i low) [
            | inl e ↦ elim ((says second).unless (λ t. true≢false (sym t ∙ is))) [
              | inl z ↦ absurd (omega (arith, z, some))
              | inr f ↦ subst (IsDecided c.content p) (sym e) (inr f)
            ]
            | inr less ↦ decided_stays b.content c.content p k (w.worked second).stronger (h.1 first k one less)
          ],
    )

-- where there is a win within i moves, the others are decided by it
pub decided_by_win : (g : Geometry) (most : ℕ) (p : Placement) (i : ℕ) (answer : Bool) (a b c : Moment) → answer ≡ true
    → AllDecided g most p i a b → Searched g i 0 b c → (NothingLost b c → SaysWin c.content p i answer)
    → NothingLost a c → SaysLeast c.content p most
decided_by_win g most p i answer a b c is h w says kept k one within =
    let first = first_kept a b c h.0.counted w.counted kept in
    let second = second_kept a b c h.0.counted w.counted kept in
    elim (cases_lt k i) [
      | inl less ↦ decided_stays b.content c.content p k (w.worked second).stronger (h.1 first k one less)
      | inr most ↦
          let known = (says second).when is in
          inl (record {
            entry = known.entry;
            held = known.held;
            about = known.about;
            bound = known.bound;
            is = known.is;
            enough = omega (arith, known.enough, most);
          })
    ]

pub decided_all : (g : Geometry) (most : ℕ) (p : Placement) (i : ℕ) (a c : Moment) → most < i
    → AllDecided g most p i a c → NothingLost a c → SaysLeast c.content p most
decided_all g most p i a c above h kept k one within = h.1 kept k one (omega (arith, above, within))
