-- A text that is cut off where a token begins has the tokens before that one.
use Rattle.std.proofs.Common.{◌≡◌, ℕ, suc, zero, ◌+◌, ◌-◌, ◌≤◌, ◌<◌, Bool, true, false, ◌&&◌, List, [], ◌∷◌, ◌++◌}
use Rattle.std.proofs.Common.{length, take, refl, sym, ap, ◌∙◌, arith, inl, inr}
use Rattle.std.proofs.lemmas.Bool.{cases_Bool}
use Rattle.dw_board.specs.FenTokens.{Token, tokens_from, onto_run, is_blank, is_digit, begins_with_digit}
use Rattle.dw_board.proofs.FenTokenLemmas.{tokens_from-blank}

pub record CutAt (place : ℕ) (text : List ℕ) (before : List Token) (t : Token) : Type 0 where
  pub low : place ≤ t.place
  pub high : t.place < place + length text
  pub cut : tokens_from place (take (t.place - place) text) ≡ before

tokens_from-onto : (place byte : ℕ) (bytes : List ℕ) → is_blank byte ≡ false
    → (is_digit byte && begins_with_digit bytes) ≡ true
    → tokens_from place (byte ∷ bytes) ≡ onto_run byte place (tokens_from (place + 1) bytes)
tokens_from-onto place byte bytes h k = rw (h, k) refl

tokens_from-apart : (place byte : ℕ) (bytes : List ℕ) → is_blank byte ≡ false
    → (is_digit byte && begins_with_digit bytes) ≡ false
    → tokens_from place (byte ∷ bytes) ≡ record { text = byte ∷ []; place = place } ∷ tokens_from (place + 1) bytes
tokens_from-apart place byte bytes h k = rw (h, k) refl

apart_cut : (d : Bool) (k : ℕ) (bytes : List ℕ) → (d && begins_with_digit bytes) ≡ false
    → (d && begins_with_digit (take k bytes)) ≡ false
apart_cut false k bytes h = refl
apart_cut true zero bytes h = refl
apart_cut true (suc k) [] h = refl
apart_cut true (suc k) (b ∷ bytes) h = h

joined_cut : (d : Bool) (place k : ℕ) (bytes : List ℕ) (run : Token) (others : List Token)
    → (d && begins_with_digit bytes) ≡ true → tokens_from place (take k bytes) ≡ run ∷ others
    → (d && begins_with_digit (take k bytes)) ≡ true
joined_cut d place zero bytes run others h e = cc
joined_cut d place (suc k) [] run others h e = cc
joined_cut d place (suc k) (b ∷ bytes) run others h e = h

-- the first token is the one at which the text is cut off
cut_first : (place byte : ℕ) (bytes : List ℕ) (t : Token) → t.place ≡ place → CutAt place (byte ∷ bytes) [] t
cut_first place byte bytes t e =
    let none : t.place - place ≡ 0 = omega arith in
    record { low = omega arith; high = omega arith; cut = ap (λ k. tokens_from place (take k (byte ∷ bytes))) none }

-- one byte more is left
cut_more : (place byte : ℕ) (bytes : List ℕ) (old before : List Token) (t : Token) → CutAt (place + 1) bytes old t
    → tokens_from place (byte ∷ take (t.place - (place + 1)) bytes) ≡ before → CutAt place (byte ∷ bytes) before t
cut_more place byte bytes old before t h e =
    let low : place + 1 ≤ t.place = h.low in
    let high : t.place < place + 1 + length bytes = h.high in
    let more : t.place - place ≡ suc (t.place - (place + 1)) = omega arith in
    record { low = omega arith; high = omega arith; cut = ap (λ k. tokens_from place (take k (byte ∷ bytes))) more ∙ e }

-- one byte more in front of bytes that are cut off there
cut_byte : (place byte : ℕ) (bytes : List ℕ) (t : Token) (rest : List Token)
    → ((front : List Token) → tokens_from (place + 1) bytes ≡ front ++ t ∷ rest → CutAt (place + 1) bytes front t)
    → (before : List Token) → tokens_from place (byte ∷ bytes) ≡ before ++ t ∷ rest
    → CutAt place (byte ∷ bytes) before t
cut_byte place byte bytes t rest again before e = elim (cases_Bool (is_blank byte)) [
  | inl blank ↦
      let h = again before (sym (tokens_from-blank place byte bytes blank) ∙ e) in
      cut_more place byte bytes before before t h (tokens_from-blank place byte (take (t.place - (place + 1)) bytes)
      blank ∙ h.cut)
  | inr token ↦ elim (cases_Bool (is_digit byte && begins_with_digit bytes)) [
    | inl joins ↦ onto token joins (tokens_from (place + 1) bytes) refl before
        (sym (tokens_from-onto place byte bytes token joins) ∙ e)
    | inr apart ↦ alone token apart before (sym (tokens_from-apart place byte bytes token apart) ∙ e)
  ]
] where
  onto : is_blank byte ≡ false → (is_digit byte && begins_with_digit bytes) ≡ true → (ts : List Token)
      → tokens_from (place + 1) bytes ≡ ts → (before : List Token) → onto_run byte place ts ≡ before ++ t ∷ rest
      → CutAt place (byte ∷ bytes) before t
  onto token joins [] is [] e = cc
  onto token joins [] is (b ∷ before) e = cc
  onto token joins (run ∷ others) is [] e = cut_first place byte bytes t
      (let s : record { text = byte ∷ run.text; place = place } ≡ t = cc in sym (ap (λ x. x.place) s))
  onto token joins (run ∷ others) is (b ∷ before) e =
      let left : others ≡ before ++ t ∷ rest = cc in
      let first : record { text = byte ∷ run.text; place = place } ≡ b = cc in
      let h = again (run ∷ before) (is ∙ ap (λ l. run ∷ l) left) in
      let k : ℕ = t.place - (place + 1) in
      cut_more place byte bytes (run ∷ before) (b ∷ before) t h
      (tokens_from-onto place byte (take k bytes) token (joined_cut (is_digit byte) (place + 1) k bytes run before joins
      h.cut)
      ∙ (ap (onto_run byte place) h.cut ∙ ap (λ x. x ∷ before) first))

  alone : is_blank byte ≡ false → (is_digit byte && begins_with_digit bytes) ≡ false → (before : List Token)
      → record { text = byte ∷ []; place = place } ∷ tokens_from (place + 1) bytes ≡ before ++ t ∷ rest
      → CutAt place (byte ∷ bytes) before t
  alone token apart [] e = cut_first place byte bytes t (let s : record { text = byte ∷ []; place = place }
      ≡ t = cc in sym (ap (λ x. x.place) s))
  alone token apart (b ∷ before) e =
      let left : tokens_from (place + 1) bytes ≡ before ++ t ∷ rest = cc in
      let first : record { text = byte ∷ []; place = place } ≡ b = cc in
      let h = again before left in
      let k : ℕ = t.place - (place + 1) in
      cut_more place byte bytes before (b ∷ before) t h
      (tokens_from-apart place byte (take k bytes) token (apart_cut (is_digit byte) k bytes apart)
      ∙ (ap (λ l. record { text = byte ∷ []; place = place } ∷ l) h.cut ∙ ap (λ x. x ∷ before) first))

pub cut_at : (place : ℕ) (text : List ℕ) (before : List Token) (t : Token) (rest : List Token) → tokens_from place text
    ≡ before ++ t ∷ rest → CutAt place text before t
cut_at place [] [] t rest e = cc
cut_at place [] (b ∷ before) t rest e = cc
cut_at place (byte ∷ bytes) before t rest e = cut_byte place byte bytes t rest (λ front same. cut_at (place + 1) bytes
    front t rest same) before e
