-- Lemmas on the text of a line that goes on move by move, and back.
use Rattle.std.proofs.Common.{◌≡◌, ◌≤◌, ◌<◌, ◌+◌, ◌-◌, ◌%◌, ◌/◌, ◌*◌, ◌==◌, ◌⊎◌, ℕ, zero, suc, List, [], ◌∷◌, ◌++◌}
use Rattle.std.proofs.Common.{length, length-append, append_assoc, append-nil, get_or, take, take-add, drop, map, refl}
use Rattle.std.proofs.Common.{add-one, sym, ap, ◌∙◌, subst, arith, inl, inr, decimal, codes, cond, Bool, true, false}
use Rattle.std.proofs.Common.{min}
use Rattle.std.proofs.lemmas.List.{take_more, take_all, drop_more, take-append-drop, length-drop, length-take-le}
use Rattle.std.proofs.lemmas.Bool.{cases_order}
use Rattle.std.specs.String.Boundary.{IsSplitPoint}
use Rattle.dw_board.specs.Geometry.{Geometry}
use Rattle.dw_board.specs.Placement.{Placement}
use Rattle.dw_moves.specs.Moves.{Move, Legal, play}
use Rattle.dw_notation.specs.Text.{IsMoveText, IsLineText, AreWords, ArePlayable, numbered}
use Rattle.dw_notation.specs.inner.LineWords.{spaced, onto}
use Rattle.dw_notation.specs.inner.WrittenMoves.{AreWritten, end_from, len_to, after_moves}
use Rattle.dw_notation.specs.declared.line_text.WrittenMove.{WrittenMove}
use Rattle.dw_notation.proofs.LineTextLemmas.{numbered_onto, numbered_short, onto_later, onto_none}

abbrev pub added : ℕ → List ℕ → List ℕ
added ply word = onto ply (numbered ply (word ∷ []))

-- the text begins with what stands before the words
written_begins : {B : Type 0} (g : Geometry) (p : Placement) (ply : ℕ) (before : List ℕ) (plies : List (WrittenMove B))
    (text : List ℕ) → AreWritten g p ply before plies text → (rest : List ℕ) × (text ≡ before ++ rest)
written_begins g p ply before [] text h = ([], h ∙ sym (append-nil before))
written_begins g p ply before (x ∷ plies) text h =
    let r = written_begins g x.after (ply + 1) (before ++ added ply h.0) plies text h.5 in
    (added ply h.0 ++ r.0, r.1 ∙ append_assoc before (added ply h.0) r.0)

blank_first : (number word : List ℕ) (attacks : Bool) → (rest : List ℕ)
    × (spaced (cond attacks (number ∷ (word ∷ [])) (word ∷ [])) ≡ 32 ∷ rest)
blank_first number word true = (number ++ spaced (word ∷ []), refl)
blank_first number word false = (word ++ spaced [], refl)

-- what stands behind it begins with a blank
written_blank : {B : Type 0} (g : Geometry) (p : Placement) (ply : ℕ) (before : List ℕ) (plies : List (WrittenMove B))
    (text : List ℕ) → 0 < ply → AreWritten g p ply before plies text → (text ≡ before)
    ⊎ ((rest : List ℕ) × (text ≡ before ++ (32 ∷ rest)))
written_blank g p ply before [] text later h = inl h
written_blank g p ply before (x ∷ plies) text later h =
    let r = written_begins g x.after (ply + 1) (before ++ added ply h.0) plies text h.5 in
    let b = blank_first (decimal (ply / 2 + 1) ++ codes ".") h.0 (ply % 2 == 0) in
    let blank : added ply h.0 ≡ 32 ∷ b.0 = onto_later ply (numbered ply (h.0 ∷ [])) later ∙ b.1 in
    inr (b.0 ++ r.0, r.1 ∙ (append_assoc before (added ply h.0) r.0 ∙ ap (λ z. before ++ (z ++ r.0)) blank))

index_behind : (before rest : List ℕ) (c : ℕ) → get_or (before ++ (c ∷ rest)) (length before) 0 ≡ c
index_behind [] rest c = refl
index_behind (b ∷ before) rest c = index_behind before rest c

take_front : (before rest : List ℕ) → take (length before) (before ++ rest) ≡ before
take_front [] rest = refl
take_front (b ∷ before) rest = ap (λ z. b ∷ z) (take_front before rest)

-- the text up to the end of some moves
kept_none : {B : Type 0} (g : Geometry) (p : Placement) (ply base : ℕ) (before : List ℕ) (plies : List (WrittenMove B))
    (text : List ℕ) → base ≡ length before → AreWritten g p ply before plies text → take base text ≡ before
kept_none g p ply base before plies text e h =
    let r = written_begins g p ply before plies text h in
    ap (λ k. take k text) e ∙ (ap (take (length before)) r.1 ∙ take_front before r.0)

pub written_keep : {B : Type 0} (g : Geometry) (p : Placement) (ply base k : ℕ) (before : List ℕ) (plies : List
    (WrittenMove B)) (text : List ℕ) → base ≡ length before → AreWritten g p ply before plies text
    → AreWritten g p ply before (take k plies) (take (len_to base k plies) text)
written_keep {B} g p ply base zero before [] text e h = kept_none {B = B} g p ply base before [] text e h
written_keep {B} g p ply base zero before (x ∷ plies) text e h = kept_none {B = B} g p ply base before (x ∷ plies) text
    e h
written_keep {B} g p ply base (suc k) before [] text e h = kept_none {B = B} g p ply base before [] text e h
written_keep {B} g p ply base (suc k) before (x ∷ plies) text e h =
    (h.0, h.1, h.2, h.3, h.4, written_keep g x.after (ply + 1) x.len k (before ++ added ply h.0) plies text h.4 h.5)

-- it may be cut there
split_here : {B : Type 0} (g : Geometry) (p : Placement) (ply base : ℕ) (before : List ℕ) (plies : List (WrittenMove B))
    (text : List ℕ) → base ≡ length before → (0 < base → 0 < ply) → AreWritten g p ply before plies text
    → IsSplitPoint text base
split_here g p ply base before plies text e later h =
    let r = written_begins g p ply before plies text h in (
      omega (arith, e, ap length r.1, length-append before r.0),
      (λ some low high. elim (written_blank g p ply before plies text (later some) h) [
        | inl all ↦ absurd (omega (arith, e, low, ap length all))
        | inr more ↦
            let at : get_or text base 0 ≡ 32 = ap (λ z. get_or z base 0) more.1
            ∙ (ap (λ k. get_or (before ++ (32 ∷ more.0)) k 0) e ∙ index_behind before more.0 32) in
            absurd (omega (arith, at, high))
      ]),
    )

pub written_split : {B : Type 0} (g : Geometry) (p : Placement) (ply base k : ℕ) (before : List ℕ)
    (plies : List (WrittenMove B)) (text : List ℕ) → base ≡ length before → (0 < base → 0 < ply)
    → AreWritten g p ply before plies text → IsSplitPoint text (len_to base k plies)
written_split {B} g p ply base zero before [] text e later h = split_here {B = B} g p ply base before [] text e later h
written_split {B} g p ply base zero before (x ∷ plies) text e later h = split_here {B = B} g p ply base before
    (x ∷ plies) text e later h
written_split {B} g p ply base (suc k) before [] text e later h = split_here {B = B} g p ply base before [] text e later
    h
written_split {B} g p ply base (suc k) before (x ∷ plies) text e later h = written_split g x.after (ply + 1) x.len k
    (before ++ added ply h.0) plies text h.4 (λ some. omega arith) h.5

-- it is the text of the line
pub written_words : {B : Type 0} (g : Geometry) (p : Placement) (ply : ℕ) (before : List ℕ) (plies : List (WrittenMove
    B)) (text : List ℕ) → AreWritten g p ply before plies text
    → (words : List (List ℕ)) × AreWords g p ply (map (λ (x : WrittenMove B). x.mv) plies) words
    × (text ≡ before ++ onto ply words)
written_words g p ply before [] text h = (
  [],
  refl,
  h ∙ (sym (append-nil before) ∙ ap (λ z. before ++ z) (sym (onto_none ply))),
)
written_words {B} g p ply before (x ∷ plies) text h =
    let r = written_words g x.after (ply + 1) (before ++ added ply h.0) plies text h.5 in
    let words : AreWords g (play g p x.mv) (ply + 1) (map (λ (y : WrittenMove B). y.mv) plies) r.0 =
    subst (λ z. AreWords g z (ply + 1) (map (λ (y : WrittenMove B). y.mv) plies) r.0) h.3 r.1 in
    let joined : (before ++ added ply h.0) ++ onto (ply + 1) r.0 ≡ before ++ onto ply (numbered ply (h.0 ∷ r.0)) =
    append_assoc before (added ply h.0) (onto (ply + 1) r.0)
    ∙ ap (λ z. before ++ z) (ap (λ z. added ply h.0 ++ z) (onto_later (ply + 1) r.0 (omega arith))
    ∙ sym (numbered_onto ply h.0 r.0)) in
    (numbered ply (h.0 ∷ r.0), (h.0, r.0, h.1, words, refl), r.2 ∙ joined)

pub written_line : {B : Type 0} (g : Geometry) (p : Placement) (plies : List (WrittenMove B)) (text : List ℕ)
    → AreWritten g p 0 [] plies text → IsLineText g p (map (λ (x : WrittenMove B). x.mv) plies) text
written_line g p plies text h = let r = written_words g p 0 [] plies text h in (r.0, r.1, r.2)

-- one move more
pub written_push : {B : Type 0} (g : Geometry) (p q : Placement) (ply k : ℕ) (before : List ℕ) (plies : List
    (WrittenMove B))
    (text new word : List ℕ) (x : WrittenMove B) → AreWritten g p ply before plies text → q ≡ end_from p plies
    → k ≡ ply + length plies
    → IsMoveText g q x.mv word → length word ≤ 62 → x.after ≡ play g q x.mv → new ≡ text ++ added k word
    → x.len ≡ length new → AreWritten g p ply before (plies ++ x ∷ []) new
written_push g p q ply k before [] text new word x h end count is short after e len =
    let same : k ≡ ply = omega (arith, count) in
    let made : new ≡ before ++ added ply word = e
    ∙ (ap (λ z. z ++ added k word) h ∙ ap (λ z. before ++ added z word) same) in (
      word,
      subst (λ z. IsMoveText g z x.mv word) end is,
      short,
      after ∙ ap (λ z. play g z x.mv) end,
      len ∙ ap length made,
      made,
    )
written_push g p q ply k before (y ∷ plies) text new word x h end count is short after e len = (
  h.0,
  h.1,
  h.2,
  h.3,
  h.4,
  written_push g y.after q (ply + 1) k (before ++ added ply h.0) plies text new word x h.5
      end (omega (arith, count)) is short after e len,
)

pub written_pushed : {B : Type 0} (g : Geometry) (p q after : Placement) (k len : ℕ) (plies now : List (WrittenMove B))
    (text new word : List ℕ) (m : Move) → AreWritten g p 0 [] plies text → q ≡ end_from p plies → k ≡ 0 + length plies
    → IsMoveText g q m word → length word ≤ 62 → after ≡ play g q m → new ≡ text ++ added k word → len ≡ length new
    → now ≡ plies ++ record { mv = m; after = after; len = len } ∷ [] → AreWritten g p 0 [] now new
written_pushed g p q after k len plies now text new word m h end count is short played e long made =
    subst (λ z. AreWritten g p 0 [] z new) (sym made) (written_push g p q 0 k [] plies text new word
    (record { mv = m; after = after; len = len }) h end count is short played e long)

-- it is short
pub written_room : {B : Type 0} (g : Geometry) (p : Placement) (ply k : ℕ) (before : List ℕ) (plies : List (WrittenMove
    B)) (text : List ℕ) → AreWritten g p ply before plies text → k ≡ ply + length plies → k ≤ 39
    → length before ≤ 65 * ply + 2 * (ply % 2) → length text ≤ 65 * k + 2 * (k % 2)
written_room g p ply k before [] text h count few room =
    let same : ply ≡ k = omega (arith, count) in
    subst (λ z. length text ≤ 65 * z + 2 * (z % 2)) same (subst (λ z. length z ≤ 65 * ply + 2 * (ply % 2)) (sym h) room)
written_room g p ply k before (x ∷ plies) text h count few room =
    written_room g x.after (ply + 1) k (before ++ added ply h.0) plies text h.5 (omega (arith, count)) few
    (omega (arith, length-append before (added ply h.0), numbered_short ply h.0 (omega (arith, count, few)) h.2, room))

-- WHAT STANDS AT A MOVE

pub end_at : {B : Type 0} (p : Placement) (plies : List (WrittenMove B)) (i : ℕ) (d : WrittenMove B) → i + 1 ≡ length
    plies → end_from p plies ≡ (get_or plies i d).after
end_at p [] i d e = absurd (omega (arith, e))
end_at p (x ∷ []) zero d e = refl
end_at p (x ∷ []) (suc i) d e = absurd (omega (arith, e))
end_at p (x ∷ y ∷ plies) zero d e = absurd (omega (arith, e))
end_at p (x ∷ y ∷ plies) (suc i) d e = end_at x.after (y ∷ plies) i d (omega (arith, e))

pub len_at : {B : Type 0} (base : ℕ) (plies : List (WrittenMove B)) (i : ℕ) (d : WrittenMove B) → i < length plies
    → len_to base (suc i) plies ≡ (get_or plies i d).len
len_at base [] i d low = absurd (omega (arith, low))
len_at base (x ∷ []) zero d low = refl
len_at base (x ∷ y ∷ plies) zero d low = refl
len_at base (x ∷ plies) (suc i) d low = len_at x.len plies i d (omega (arith, low))

pub len_all : {B : Type 0} (base : ℕ) (plies : List (WrittenMove B)) (k : ℕ) → length plies ≤ k → len_to base k plies
    ≡ len_to base (length plies) plies
len_all base [] zero all = refl
len_all base [] (suc k) all = refl
len_all base (x ∷ plies) zero all = absurd (omega (arith, all))
len_all base (x ∷ plies) (suc k) all = len_all x.len plies k (omega (arith, all))

-- where none of the moves is taken, the text is as long as before
pub len_none : {B : Type 0} (base : ℕ) (plies : List (WrittenMove B)) (k : ℕ) → min k (length plies) ≡ 0
    → base ≡ len_to base k plies
len_none base [] zero none = refl
len_none base [] (suc k) none = refl
len_none base (x ∷ plies) zero none = refl
len_none base (x ∷ plies) (suc k) none = absurd (omega (arith, none))

-- the length at the last move that is kept
pub len_found : {B : Type 0} (base : ℕ) (plies : List (WrittenMove B)) (k i : ℕ) (x : WrittenMove B) → i < length plies
    → i + 1 ≤ k → (i + 1 < k → i + 1 ≡ length plies) → x ≡ get_or plies i x → x.len ≡ len_to base k plies
len_found {B} base plies k i x low within end is = ap (λ (z : WrittenMove B). z.len) is ∙ (sym (len_at base plies i x
    low) ∙ elim (cases_order k (suc i)) [
      | inl e ↦ ap (λ z. len_to base z plies) (sym e)
      | inr other ↦ elim other [
        | inl less ↦ absurd (omega (arith, less, within))
        | inr more ↦
            let all : length plies ≡ suc i = sym (end (omega (arith, more))) ∙ add-one i in
            ap (λ z. len_to base z plies) (sym all) ∙ sym (len_all base plies k (omega (arith, all, more)))
      ]
    ])

-- A LINE SO FAR

pub next_legal : (g : Geometry) (p : Placement) (moves : List Move) (i : ℕ) (m : Move) → ArePlayable g p (drop i moves)
    → i < length moves → m ≡ get_or moves i m → Legal g p m × ArePlayable g (play g p m) (drop (i + 1) moves)
next_legal g p moves i m h low is = subst (ArePlayable g p) (drop_more moves i m low
    ∙ ap (λ z. z ∷ drop (i + 1) moves) (sym is)) h

-- before its last move, less of a line is played than all of it
pub played_short : (line front taken : List Move) (shared i : ℕ)
    → (let rest = take (length line - shared) (drop shared line) in
    shared ≤ length line → front ≡ take shared line → taken ≡ front ++ take i rest → i < length rest
    → length taken < length line)
played_short line front taken shared i fits kept played more =
    let rest = take (length line - shared) (drop shared line) in
    let all = length-take-le (length line - shared) (drop shared line) (omega (arith, length-drop shared line)) in
    let so_far = ap length played ∙ length-append front (take i rest) in
    let now = length-take-le i rest (omega (arith, more)) in
    let before = ap length kept ∙ length-take-le shared line fits in
    omega (arith, all, so_far, now, before, more, fits)

pub moves_more : (front rest taken new : List Move) (i : ℕ) (m : Move) → i < length rest → m ≡ get_or rest i m
    → taken ≡ front ++ take i rest → new ≡ taken ++ m ∷ [] → new ≡ front ++ take (i + 1) rest
moves_more front rest taken new i m low is h e = e
    ∙ (ap (λ z. z ++ m ∷ []) h ∙ (append_assoc front (take i rest) (m ∷ [])
    ∙ ap (λ z. front ++ z) (ap (λ z. take i rest ++ z ∷ []) is ∙ sym (take_more rest i m low))))

-- the position after the plies is that after their moves
pub end_is : {B : Type 0} (g : Geometry) (p : Placement) (ply : ℕ) (before : List ℕ) (plies : List (WrittenMove B))
    (text : List ℕ) → AreWritten g p ply before plies text
    → end_from p plies ≡ after_moves g p (map (λ (x : WrittenMove B). x.mv) plies)
end_is g p ply before [] text h = refl
end_is {B} g p ply before (x ∷ plies) text h =
    end_is g x.after (ply + 1) (before ++ added ply h.0) plies text h.5
    ∙ ap (λ z. after_moves g z (map (λ (y : WrittenMove B). y.mv) plies)) h.3

pub after_push : (g : Geometry) (p : Placement) (moves : List Move) (m : Move)
    → after_moves g p (moves ++ m ∷ []) ≡ play g (after_moves g p moves) m
after_push g p [] m = refl
after_push g p (n ∷ moves) m = after_push g (play g p n) moves m

-- behind the first moves the rest can be played
playable_behind : (g : Geometry) (p : Placement) (front rest : List Move) → ArePlayable g p (front ++ rest)
    → ArePlayable g (after_moves g p front) rest
playable_behind g p [] rest h = h
playable_behind g p (m ∷ front) rest h = playable_behind g (play g p m) front rest h.1

pub playable_from : (g : Geometry) (p : Placement) (moves line : List Move) (shared : ℕ) → moves ≡ take shared line
    → ArePlayable g p line → ArePlayable g (after_moves g p moves) (drop shared line)
playable_from g p moves line shared same h =
    playable_behind g p moves (drop shared line)
    (subst (ArePlayable g p) (sym (take-append-drop shared line) ∙ ap (λ z. z ++ drop shared line) (sym same)) h)

pub rest_is : (line : List Move) (shared : ℕ) → take (length line - shared) (drop shared line) ≡ drop shared line
rest_is line shared = take_all (length line - shared) (drop shared line) (omega (arith, length-drop shared line))

-- a line's first moves, and some more of them, are first moves of it
pub begins_line : (line front taken : List Move) (shared i : ℕ) → front ≡ take shared line
    → taken ≡ front ++ take i (take (length line - shared) (drop shared line)) → taken ≡ take (shared + i) line
begins_line line front taken shared i kept played =
    let rest = take (length line - shared) (drop shared line) in
    played ∙ (ap (λ z. z ++ take i rest) kept ∙ (ap (λ z. take shared line ++ take i z) (rest_is line shared)
    ∙ sym (take-add shared i line)))
