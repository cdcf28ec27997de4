-- Which answer is right, by what was found among the legal moves.
use Rattle.std.proofs.Common.{◌≡◌, ℕ, ◌+◌, ◌<◌, zero, suc, true, false, List, [], ◌∷◌, ◌++◌, length, take, get_or}
use Rattle.std.proofs.Common.{Option, Some, None, is_some, Result, Ok, Err, refl, sym, ap, ◌∙◌, subst, ◌⊎◌, inl, inr}
use Rattle.std.proofs.Common.{arith, ◌≤◌, ◌↔◌, ok_or}
use Rattle.std.proofs.lemmas.Bool.{true≢false}
use Rattle.std.proofs.lemmas.List.{take_more}
use Rattle.dw_board.specs.Geometry.{Geometry}
use Rattle.dw_board.specs.Placement.{Placement}
use Rattle.dw_moves.specs.Moves.{Move, AreLegal}
use Rattle.dw_moves.specs.Order.{IsPathFor}
use Rattle.dw_board.specs.Lists.{Member, NoRepeat}
use Rattle.dw_moves.specs.inner.MemberLemmas.{mem_left, mem_right, mem_cases}
use Rattle.dw_notation.specs.MoveReading.{Named, Capture, IsAnswer, Names, IsAnswered, IsRead}
use Rattle.dw_notation.proofs.MoveNameLemmas.{names_one}
use Rattle.dw_notation.specs.inner.MoveReader.{Takes, IsOneOf, IsOnlyOne, AreTwo, IsOnly}
use Rattle.dw_notation.specs.declared.read_move.MoveFault.{MoveFault}
use Rattle.dw_notation.specs.declared.read_move.MoveFault.TheVariants.{Syntax, NoSuchMove, Ambiguous, Memory}

-- ---- the captures between two squares
-- the one found among some moves, where there is one
abbrev pub FoundIn : List Move → ℕ → ℕ → Option Move → Type 0
FoundIn moves from to None = (m : Move) → IsOneOf moves from to m → ⊥
FoundIn moves from to (Some m) = IsOnlyOne moves from to m

-- one more move, which is none
found_past : (moves : List Move) (x : Move) (from to : ℕ) (found : Option Move) → FoundIn moves from to found
    → (Takes from to x → ⊥) → FoundIn (moves ++ x ∷ []) from to found
found_past moves x from to None h other = λ m k. elim (mem_cases m moves (x ∷ []) k.0) [
  | inl before ↦ h m (before, k.1)
  | inr (inl last) ↦ other (subst (Takes from to) last k.1)
  | inr (inr nowhere) ↦ absurd nowhere
]
found_past moves x from to (Some n) h other = record {
  one = (mem_left n moves (x ∷ []) h.one.0, h.one.1);
  alone = λ m k. elim (mem_cases m moves (x ∷ []) k.0) [
    | inl before ↦ h.alone m (before, k.1)
    | inr (inl last) ↦ absurd (other (subst (Takes from to) last k.1))
    | inr (inr nowhere) ↦ absurd nowhere
  ];
}

-- one more move, which is the first
found_now : (moves : List Move) (x : Move) (from to : ℕ) → FoundIn moves from to None → Takes from to x
    → FoundIn (moves ++ x ∷ []) from to (Some x)
found_now moves x from to h takes = record {
  one = (mem_right x moves (x ∷ []) (inl refl), takes);
  alone = λ m k. elim (mem_cases m moves (x ∷ []) k.0) [
    | inl before ↦ absurd (h m (before, k.1))
    | inr (inl last) ↦ last
    | inr (inr nowhere) ↦ absurd nowhere
  ];
}

member_at : (moves : List Move) (i : ℕ) (x : Move) → i < length moves → x ≡ get_or moves i x → Member x moves
member_at [] i x low e = absurd (omega arith)
member_at (y ∷ moves) zero x low e = inl e
member_at (y ∷ moves) (suc i) x low e = inr (member_at moves i x (omega arith) e)

member_taken : (moves : List Move) (i : ℕ) (x : Move) → Member x (take i moves) → Member x moves
member_taken [] zero x h = h
member_taken [] (suc i) x h = h
member_taken (y ∷ moves) zero x h = absurd h
member_taken (y ∷ moves) (suc i) x (inl e) = inl e
member_taken (y ∷ moves) (suc i) x (inr h) = inr (member_taken moves i x h)

-- what stands once is not before itself
not_before : (moves : List Move) (i : ℕ) (x : Move) → NoRepeat moves → i < length moves → x ≡ get_or moves i x
    → Member x (take i moves) → ⊥
not_before [] i x once low e h = omega arith
not_before (y ∷ moves) zero x once low e h = h
not_before (y ∷ moves) (suc i) x once low e (inl same) =
    once.0 (subst (λ z. Member z moves) same (member_at moves i x (omega arith) e))
not_before (y ∷ moves) (suc i) x once low e (inr h) = not_before moves i x once.1 (omega arith) e h

module _ (moves : List Move) (from to i : ℕ) (x : Move) (low : i < length moves) (is : x ≡ get_or moves i x) where
  one_more : take (i + 1) moves ≡ take i moves ++ x ∷ []
  one_more = take_more moves i x low ∙ ap (λ z. take i moves ++ z ∷ []) (sym is)

  pub passed : (found : Option Move) → FoundIn (take i moves) from to found → (Takes from to x → ⊥)
      → FoundIn (take (i + 1) moves) from to found
  passed found h other = subst (λ z. FoundIn z from to found) (sym one_more) (found_past (take i moves) x from to found
      h other)

  pub met : (found : Option Move) → is_some found ≡ false → FoundIn (take i moves) from to found → Takes from to x
      → FoundIn (take (i + 1) moves) from to (Some x)
  met None none h takes = subst (λ z. FoundIn z from to (Some x)) (sym one_more) (found_now (take i moves) x from to h
      takes)
  met (Some m) none h takes = absurd (true≢false none)

  pub met_again : (found : Option Move) → is_some found ≡ true → NoRepeat moves → FoundIn (take i moves) from to found
      → Takes from to x → AreTwo moves from to
  met_again None some once h takes = absurd (true≢false (sym some))
  met_again (Some m) some once h takes = record {
    first = m;
    second = x;
    one = (member_taken moves i m h.one.0, h.one.1);
    another = (member_at moves i x low is, takes);
    differ = λ e. not_before moves i x once low is (subst (λ z. Member z (take i moves)) e h.one.0);
  }

-- among all legal moves
pub only_answers : (g : Geometry) (p : Placement) (moves : List Move) (from to : ℕ) (answer : Result Move MoveFault)
    → AreLegal g p moves → IsOnly moves from to answer → IsAnswer g p (Capture (from ∷ to ∷ [])) answer
only_answers g p moves from to (Ok m) h k = record {
  fits = ((h.exactly m).0 k.one.0, k.one.1.0, k.one.1.1);
  alone = λ other f. k.alone other ((h.exactly other).1 f.0, (f.1, f.2));
}
only_answers g p moves from to (Err Syntax) h k = k
only_answers g p moves from to (Err NoSuchMove) h k = λ m f. k m ((h.exactly m).1 f.0, (f.1, f.2))
only_answers g p moves from to (Err Ambiguous) h k = record {
  first = k.first;
  second = k.second;
  fits = ((h.exactly k.first).0 k.one.0, k.one.1.0, k.one.1.1);
  fits_too = ((h.exactly k.second).0 k.another.0, k.another.1.0, k.another.1.1);
  differ = k.differ;
}
only_answers g p moves from to (Err Memory) h k = absurd k

-- a list of two is its first element and its second
two_are : (squares : List ℕ) (a b : ℕ) → 2 ≤ length squares → length squares < 3 → a ≡ get_or squares 0 a
    → b ≡ get_or squares 1 b → a ∷ b ∷ [] ≡ squares
two_are [] a b low high first second = absurd (omega (arith, low))
two_are (x ∷ []) a b low high first second = absurd (omega (arith, low))
two_are (x ∷ y ∷ []) a b low high first second = ap (λ z. z ∷ b ∷ []) first ∙ ap (λ z. x ∷ z ∷ []) second
two_are (x ∷ y ∷ z ∷ squares) a b low high first second = absurd (omega (arith, high))

-- a capture by two squares is answered as the one between them
pub between_answers : (g : Geometry) (p : Placement) (squares : List ℕ) (from to : ℕ) (answer : Result Move MoveFault)
    → 2 ≤ length squares → length squares < 3 → from ≡ get_or squares 0 from → to ≡ get_or squares 1 to
    → IsAnswer g p (Capture (from ∷ to ∷ [])) answer → IsAnswer g p (Capture squares) answer
between_answers g p squares from to answer low high first second h =
    subst (λ s. IsAnswer g p (Capture s) answer) (two_are squares from to low high first second) h

none_is : (m : Move) → None ≡ Some m → ⊥
none_is m e = cc

same_one : (m other : Move) → Some m ≡ Some other → other ≡ m
same_one m other e = cc

path_answers : (g : Geometry) (p : Placement) (squares : List ℕ) (found : Option Move) → 3 ≤ length squares
    → ((m : Move) → (found ≡ Some m) ↔ IsPathFor g p m squares)
    → IsAnswer g p (Capture squares) (ok_or found NoSuchMove)
path_answers g p [] found long path = absurd (omega (arith, long))
path_answers g p (s ∷ []) found long path = absurd (omega (arith, long))
path_answers g p (s ∷ t ∷ []) found long path = absurd (omega (arith, long))
path_answers g p (s ∷ t ∷ u ∷ squares) None long path = λ m fits. none_is m ((path m).1 fits)
path_answers g p (s ∷ t ∷ u ∷ squares) (Some m) long path = record {
  fits = (path m).0 refl;
  alone = λ other fits. same_one m other ((path other).1 fits);
}

-- a capture by three squares or more is the one that was found to have this path
pub followed_answers : (g : Geometry) (p : Placement) (squares : List ℕ) (found : Option Move)
    (answer : Result Move MoveFault) → answer ≡ ok_or found NoSuchMove → 3 ≤ length squares
    → ((m : Move) → (found ≡ Some m) ↔ IsPathFor g p m squares) → IsAnswer g p (Capture squares) answer
followed_answers g p squares found answer is long path =
    subst (IsAnswer g p (Capture squares)) (sym is) (path_answers g p squares found long path)

-- ---- one answer
-- two answers are the same, or memory was refused
abbrev Agree : Result Move MoveFault → Result Move MoveFault → Type 0
Agree answer other = (answer ≡ other) ⊎ ((answer ≡ Err Memory) ⊎ (other ≡ Err Memory))

answers_agree : (g : Geometry) (p : Placement) (named : Named) (answer other : Result Move MoveFault)
    → IsAnswer g p named answer → IsAnswer g p named other → Agree answer other
answers_agree g p named (Ok m) (Ok n) h k = inl (ap Ok (k.alone m h.fits))
answers_agree g p named (Ok m) (Err Syntax) h k = absurd k
answers_agree g p named (Ok m) (Err NoSuchMove) h k = absurd (k m h.fits)
answers_agree g p named (Ok m) (Err Ambiguous) h k =
    absurd (k.differ (h.alone k.first k.fits ∙ sym (h.alone k.second k.fits_too)))
answers_agree g p named (Ok m) (Err Memory) h k = inr (inr refl)
answers_agree g p named (Err Syntax) other h k = absurd h
answers_agree g p named (Err NoSuchMove) (Ok n) h k = absurd (h n k.fits)
answers_agree g p named (Err NoSuchMove) (Err Syntax) h k = absurd k
answers_agree g p named (Err NoSuchMove) (Err NoSuchMove) h k = inl refl
answers_agree g p named (Err NoSuchMove) (Err Ambiguous) h k = absurd (h k.first k.fits)
answers_agree g p named (Err NoSuchMove) (Err Memory) h k = inr (inr refl)
answers_agree g p named (Err Ambiguous) (Ok n) h k =
    absurd (h.differ (k.alone h.first h.fits ∙ sym (k.alone h.second h.fits_too)))
answers_agree g p named (Err Ambiguous) (Err Syntax) h k = absurd k
answers_agree g p named (Err Ambiguous) (Err NoSuchMove) h k = absurd (k h.first h.fits)
answers_agree g p named (Err Ambiguous) (Err Ambiguous) h k = inl refl
answers_agree g p named (Err Ambiguous) (Err Memory) h k = inr (inr refl)
answers_agree g p named (Err Memory) other h k = inr (inl refl)

-- a text names nothing, or is answered by what it names
abbrev NamesNothing : Geometry → List ℕ → Result Move MoveFault → Type 0
NamesNothing g text answer = (answer ≡ Err Syntax) × ((named : Named) → Names g text named → ⊥)

read_cases : (g : Geometry) (p : Placement) (text : List ℕ) (answer : Result Move MoveFault) → IsRead g p text answer
    → NamesNothing g text answer ⊎ IsAnswered g p text answer
read_cases g p text (Ok m) h = inr h
read_cases g p text (Err Syntax) h = inl (refl, h)
read_cases g p text (Err NoSuchMove) h = inr h
read_cases g p text (Err Ambiguous) h = inr h
read_cases g p text (Err Memory) h = inr h

pub one_answer : (g : Geometry) (p : Placement) (text : List ℕ) (answer other : Result Move MoveFault)
    → IsRead g p text answer → IsRead g p text other → Agree answer other
one_answer g p text answer other h k = elim (read_cases g p text answer h) [
  | inl a ↦ elim (read_cases g p text other k) [
    | inl b ↦ inl (a.0 ∙ sym b.0)
    | inr b ↦ absurd (a.1 b.named b.names)
  ]
  | inr a ↦ elim (read_cases g p text other k) [
    | inl b ↦ absurd (b.1 a.named a.names)
    | inr b ↦ answers_agree g p a.named answer other a.answers (subst (λ z. IsAnswer g p z other)
        (names_one g text b.named a.named b.names a.names) b.answers)
  ]
]
