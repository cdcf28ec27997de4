-- Words put into lines, byte by byte.
use Rattle.std.proofs.Common.{◌≡◌, ℕ, ◌+◌, ◌-◌, ◌<◌, ◌≤◌, List, [], ◌∷◌, ◌++◌, length, drop, refl, sym, ap, ◌∙◌}
use Rattle.std.proofs.Common.{append_assoc, append-nil, leb, arith, set, get_or, length-append, take}
use Rattle.std.specs.Prelude.{not, ◌==◌}
use Rattle.std.proofs.lemmas.Bool.{cond-true, cond-false, le-leb, lt-leb, true≢false, and_parts, not_from_true, eq-eqb}
use Rattle.std.proofs.lemmas.List.{drop_more, drop_all, set_at, drop_at, take_at}
use Rattle.dw_solution.specs.Movetext.{filled}
use Rattle.dw_solution.specs.inner.Feeds.{feeding, IsUnbroken, AreUnbroken, IsFilledTo, IsWordFrom}

heads : {m n : ℕ} {l k : List ℕ} → m ∷ l ≡ n ∷ k → m ≡ n
heads e = cc

tails : {m n : ℕ} {l k : List ℕ} → m ∷ l ≡ n ∷ k → l ≡ k
tails e = cc

no_rest : (rest more : List ℕ) → [] ≡ rest ++ more → rest ≡ []
no_rest [] more e = refl
no_rest (b ∷ rest) more e = cc

feed_breaks : (byte : ℕ) (rest : List ℕ) → IsUnbroken (byte ∷ rest) → byte ≡ 10 → ⊥
feed_breaks byte rest whole e =
    true≢false (sym (and_parts (not (byte == 10)) _ whole).0 ∙ not_from_true (byte == 10) (eq-eqb byte 10 e))

fed_rest : (rest more behind : List ℕ) → IsUnbroken rest → 10 ∷ behind ≡ rest ++ more → rest ≡ []
fed_rest [] more behind whole e = refl
fed_rest (b ∷ rest) more behind whole e = absurd (feed_breaks b rest whole (sym (heads e)))

-- ---- the next line feed
none_feeding : (byte : ℕ) (rest : List ℕ) (words : List (List ℕ)) → (byte ≡ 10 → ⊥) → byte ∷ rest ≡ feeding words → ⊥
none_feeding byte rest [] ne e = cc
none_feeding byte rest (w ∷ words) ne e = ne (heads e)

word_past : (text : List ℕ) (from place byte : ℕ) (w : List ℕ) (words : List (List ℕ)) → (byte ≡ 10 → ⊥)
    → (rest : List ℕ) → IsUnbroken rest → byte ∷ drop (place + 1) text ≡ rest ++ feeding words
    → place + length rest ≡ from + length w → IsWordFrom text from (place + 1) w words
word_past text from place byte w words ne [] whole e same = absurd (none_feeding byte _ words ne e)
word_past text from place byte w words ne (b ∷ rest) whole e same = record {
  rest = rest;
  unbroken = (and_parts (not (b == 10)) _ whole).1;
  ahead = tails e;
  same = omega (arith, same);
}

-- past a byte that is none
pub word_on : (text : List ℕ) (from place : ℕ) (w : List ℕ) (words : List (List ℕ)) → place < length text
    → (get_or text place 0 ≡ 10 → ⊥) → IsWordFrom text from place w words → IsWordFrom text from (place + 1) w words
word_on text from place w words low ne h =
    word_past text from place (get_or text place 0) w words ne h.rest h.unbroken
    (sym (drop_more text place 0 low) ∙ h.ahead) h.same

-- at the end, or at one
pub word_end : (text : List ℕ) (from place : ℕ) (w : List ℕ) (words : List (List ℕ)) → length text ≤ place
    → IsWordFrom text from place w words → place ≡ from + length w
word_end text from place w words high h =
    let none : h.rest ≡ [] = no_rest h.rest (feeding words) (sym (drop_all place text high) ∙ h.ahead) in
    omega (arith, h.same, ap length none)

pub word_fed : (text : List ℕ) (from place : ℕ) (w : List ℕ) (words : List (List ℕ)) → place < length text
    → get_or text place 0 ≡ 10 → IsWordFrom text from place w words → place ≡ from + length w
word_fed text from place w words low feed h =
    let here : drop place text ≡ 10 ∷ drop (place + 1) text =
    drop_more text place 0 low ∙ ap (λ z. z ∷ drop (place + 1) text) feed in
    let none : h.rest ≡ [] = fed_rest h.rest (feeding words) (drop (place + 1) text) h.unbroken (sym here ∙ h.ahead) in
    omega (arith, h.same, ap length none)

-- ---- the next word
next_word : (text whole : List ℕ) (line feed : ℕ) (done : List ℕ) (words : List (List ℕ)) → AreUnbroken words
    → text ≡ done ++ feeding words → feed ≡ length done → line ≤ feed → whole ≡ done ++ filled (feed - line) words
    → feed < length text
    → (w : List ℕ) × (rest : List (List ℕ)) × (before : List ℕ) × IsUnbroken w × AreUnbroken rest
    × (text ≡ before ++ 10 ∷ (w ++ feeding rest)) × (feed ≡ length before) × (line ≤ feed)
    × (whole ≡ before ++ filled (feed - line) (w ∷ rest))
next_word text whole line feed done [] unbroken e at begun ahead low =
    absurd (omega (arith, low, at, ap length (e ∙ append-nil done)))
next_word text whole line feed done (w ∷ words) unbroken e at begun ahead low =
    (w, words, done, unbroken.0, unbroken.1, e, at, begun, ahead)

all_words : (text whole : List ℕ) (line feed : ℕ) (done : List ℕ) (words : List (List ℕ))
    → text ≡ done ++ feeding words → feed ≡ length done → whole ≡ done ++ filled (feed - line) words
    → length text ≤ feed → text ≡ whole
all_words text whole line feed done [] e at ahead high = e ∙ sym ahead
all_words text whole line feed done (w ∷ words) e at ahead high =
    absurd (omega (arith, high, at, ap length e, length-append done (10 ∷ (w ++ feeding words))))

-- the word behind a line feed
pub filled_next : (text whole : List ℕ) (line feed : ℕ) → IsFilledTo text whole line feed → feed < length text
    → (w : List ℕ) × (words : List (List ℕ)) × (done : List ℕ) × IsUnbroken w × AreUnbroken words
    × (text ≡ done ++ 10 ∷ (w ++ feeding words)) × (feed ≡ length done) × (line ≤ feed)
    × (whole ≡ done ++ filled (feed - line) (w ∷ words))
filled_next text whole line feed h low =
    next_word text whole line feed h.done h.words h.unbroken h.now h.at h.begun h.ahead low

pub ahead_word : (text : List ℕ) (done w : List ℕ) (words : List (List ℕ)) (feed : ℕ)
    → text ≡ done ++ 10 ∷ (w ++ feeding words) → feed ≡ length done → drop (feed + 1) text ≡ w ++ feeding words
ahead_word text done w words feed e at =
    ap (drop (feed + 1)) (e ∙ sym (append_assoc done (10 ∷ []) (w ++ feeding words)))
    ∙ drop_at (done ++ 10 ∷ []) (w ++ feeding words) (feed + 1)
    (omega (arith, at, length-append done (10 ∷ [])))

-- on the same line
pub filled_on : (text new whole done w : List ℕ) (words : List (List ℕ)) (line feed end : ℕ) → AreUnbroken words
    → text ≡ done ++ 10 ∷ (w ++ feeding words) → feed ≡ length done → line ≤ feed
    → whole ≡ done ++ filled (feed - line) (w ∷ words) → new ≡ set text feed 32 → end ≡ feed + 1 + length w
    → end - line ≤ 79 → IsFilledTo new whole line end
filled_on text new whole done w words line feed end unbroken e at begun ahead is place short = record {
  done = done ++ 32 ∷ w;
  words = words;
  unbroken = unbroken;
  now = is ∙ (ap (λ z. set z feed 32) e ∙ (set_at done 10 (w ++ feeding words) 32 feed (sym at)
      ∙ sym (append_assoc done (32 ∷ w) (feeding words))));
  at = omega (arith, place, at, length-append done (32 ∷ w));
  begun = omega (arith, place, begun);
  ahead =
      let column : feed - line + 1 + length w ≡ end - line = omega (arith, place, begun) in
      ahead ∙ (ap (λ z. done ++ z) (cond-true (leb (feed - line + 1 + length w) 79) _ _
      (le-leb _ 79 (omega (arith, column, short))))
      ∙ (ap (λ z. done ++ 32 ∷ (w ++ filled z words)) column
      ∙ sym (append_assoc done (32 ∷ w) (filled (end - line) words))));
}

-- on a line of its own
pub filled_apart : (text whole done w : List ℕ) (words : List (List ℕ)) (line feed end : ℕ) → AreUnbroken words
    → text ≡ done ++ 10 ∷ (w ++ feeding words) → feed ≡ length done → line ≤ feed
    → whole ≡ done ++ filled (feed - line) (w ∷ words) → end ≡ feed + 1 + length w
    → 79 < end - line → IsFilledTo text whole (feed + 1) end
filled_apart text whole done w words line feed end unbroken e at begun ahead place long = record {
  done = done ++ 10 ∷ w;
  words = words;
  unbroken = unbroken;
  now = e ∙ sym (append_assoc done (10 ∷ w) (feeding words));
  at = omega (arith, place, at, length-append done (10 ∷ w));
  begun = omega (arith, place);
  ahead =
      let column : length w ≡ end - (feed + 1) = omega (arith, place) in
      ahead ∙ (ap (λ z. done ++ z) (cond-false (leb (feed - line + 1 + length w) 79) _ _
      (lt-leb _ 79 (omega (arith, place, begun, long))))
      ∙ (ap (λ z. done ++ 10 ∷ (w ++ filled z words)) column
      ∙ sym (append_assoc done (10 ∷ w) (filled (end - (feed + 1)) words))));
}

pub filled_all : (text whole : List ℕ) (line feed : ℕ) → IsFilledTo text whole line feed → length text ≤ feed
    → text ≡ whole
filled_all text whole line feed h high =
    all_words text whole line feed h.done h.words h.now h.at h.ahead high

pub written_back : (n : ℕ) (text items : List ℕ) → n ≡ length items → length text ≡ length items
    → take n (text ++ drop (length text) items) ≡ text
written_back n text items many same = take_at text (drop (length text) items) n (omega (arith, many, same))
