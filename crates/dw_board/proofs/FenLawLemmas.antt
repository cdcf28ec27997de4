-- The laws of FEN texts.
use Rattle.std.proofs.Common.{◌≡◌, ℕ, ◌+◌, ◌-◌, ◌≤◌, ◌<◌, true, false, ltb, List, [], ◌∷◌, ◌++◌, length, take, Result}
use Rattle.std.proofs.Common.{Ok, Err, refl, sym, ap, ◌∙◌, subst, arith, ◌⊎◌, inl, inr, ◌↔◌}
use Rattle.std.proofs.lemmas.Bool.{cases_lt, lt-ltb, le-ltb}
use Rattle.std.proofs.lemmas.List.{take_all, length-take-le}
use Rattle.dw_board.specs.Geometry.{Geometry, IsBoard}
use Rattle.dw_board.specs.Placement.{Placement, IsPosition}
use Rattle.dw_board.specs.FenTokens.{Token, tokens_from}
use Rattle.dw_board.specs.Fen.{fen, short_fen, Start, read_from, fault}
use Rattle.dw_board.specs.FenGrammar.{texts, Fen}
use Rattle.dw_board.specs.FenText.{written}
use Rattle.dw_board.specs.FenFaults.{IsFirstFault, too_long, fault_at}
use Rattle.dw_board.specs.FenTokens.{place_of}
use Rattle.dw_board.specs.FenLaws.{IsFen, IsFaulty, LeadNowhere, StandsAt, at_text_end, at_token, at_range}
use Rattle.dw_board.specs.declared.fen.fault.FenFault.{FenFault}
use Rattle.dw_board.specs.declared.fen.fault.FenFaultKind.TheVariants.{TooLong}
use Rattle.dw_board.proofs.FenSoundLemmas.{read_follows}
use Rattle.dw_board.proofs.FenCompleteLemmas.{names_read}
use Rattle.dw_board.proofs.FenCutLemmas.{cut_at}
use Rattle.dw_board.proofs.FenFaultLemmas.{Found, RangeBehind, found}
use Rattle.dw_board.proofs.FenWrittenLemmas.{written_names, length-written}
use Rattle.dw_board.proofs.FenFaultReadLemmas.{fault_read}
use Rattle.dw_board.proofs.FenFaultFoundLemmas.{fault_found}

fen-long : (g : Geometry) (text : List ℕ) → 1024 < length text → fen g text ≡ fault TooLong 1025
fen-long g text h = let l : ltb 1024 (length text) ≡ true = lt-ltb 1024 (length text) h in rw l refl

fen-short : (g : Geometry) (text : List ℕ) → length text ≤ 1024
    → fen g text ≡ read_from g (length text + 1) Start (tokens_from 1 text)
unfolding short_fen
fen-short g text h = let l : ltb 1024 (length text) ≡ false = le-ltb 1024 (length text) h in rw l refl

is_fen : (g : Geometry) (text : List ℕ) (p : Placement) → fen g text ≡ Ok p → Fen g text p
is_fen g text p e = elim (cases_lt 1024 (length text)) [
  | inl long ↦ let bad : fault TooLong 1025 ≡ Ok p = sym (fen-long g text long) ∙ e in cc
  | inr short ↦ (
    short,
    read_follows g (length text + 1) Start (tokens_from 1 text) p (sym (fen-short g text short) ∙ e),
  )
]

is_read : (g : Geometry) (text : List ℕ) (p : Placement) → Fen g text p → fen g text ≡ Ok p
is_read g text p h = fen-short g text h.0 ∙ names_read g (length text + 1) (texts (tokens_from 1 text)) p h.1
    (tokens_from 1 text) refl

-- ---- the earliest fault
err_read : (g : Geometry) (text : List ℕ) (f : FenFault) → length text ≤ 1024 → fen g text ≡ Err f
    → read_from g (length text + 1) Start (tokens_from 1 text) ≡ Err f
err_read g text f short e = sym (fen-short g text short) ∙ e

is_fault : (g : Geometry) (text : List ℕ) (f : FenFault) → fen g text ≡ Err f → IsFirstFault g text f
is_fault g text f e = elim (cases_lt 1024 (length text)) [
  | inl long ↦
      let is : fault {A = Placement} TooLong 1025 ≡ Err f = sym (fen-long g text long) ∙ e in
      let same : record { what = TooLong; place = 1025 } ≡ f = cc in
      subst (IsFirstFault g text) same (too_long long)
  | inr short ↦
      let h = fault_found g (length text + 1) (tokens_from 1 text) f (err_read g text f short e) in
      let same : record { what = f.what; place = place_of h.after (length text + 1) } ≡ f =
      ap (λ p. record { what = f.what; place = p }) (sym h.place) in
      subst (IsFirstFault g text) same (fault_at h.before h.after short h.is h.here)
]

is_faulty : (g : Geometry) (text : List ℕ) (f : FenFault) → IsFirstFault g text f → fen g text ≡ Err f
is_faulty g text f (too_long long) = fen-long g text long
is_faulty g text f (fault_at before after {what = what} short split here) = fen-short g text short
    ∙ (ap (read_from g (length text + 1) Start) split ∙ fault_read g (length text + 1) before after what here)

pub fault_is_grammar : (g : Geometry) (text : List ℕ) (f : FenFault) → (fen g text ≡ Err f) ↔ IsFirstFault g text f
fault_is_grammar g text f = (is_fault g text f, is_faulty g text f)

pub reading_is_grammar : (g : Geometry) (text : List ℕ) (p : Placement) → (fen g text ≡ Ok p) ↔ Fen g text p
reading_is_grammar g text p = (is_fen g text p, is_read g text p)

pub written_is_fen : (g : Geometry) → IsBoard g → (p : Placement) → IsPosition g p.cells → Fen g (written g p) p
written_is_fen g b p pos = (length-written g b p pos, written_names g b p pos)

pub written_is_read : (g : Geometry) → IsBoard g → (p : Placement) → IsPosition g p.cells → fen g (written g p) ≡ Ok p
written_is_read g b p pos = is_read g (written g p) p (written_is_fen g b p pos)

same_ok : (p q : Placement) (r : Result Placement FenFault) → r ≡ Ok p → r ≡ Ok q → p ≡ q
same_ok p q r e f = cc

pub names_one : (g : Geometry) (text : List ℕ) (p q : Placement) → Fen g text p → Fen g text q → p ≡ q
names_one g text p q h k = same_ok p q (fen g text) (is_read g text p h) (is_read g text q k)

not_both : (r : Result Placement FenFault) (p : Placement) (f : FenFault) → r ≡ Ok p → r ≡ Err f → ⊥
not_both r p f e h = cc

answer : (g : Geometry) (text : List ℕ) (r : Result Placement FenFault) → fen g text ≡ r → IsFen g text
    ⊎ IsFaulty g text
answer g text (Ok p) e = inl (record {
  position = p;
  names = is_fen g text p e;
  no_fault = λ f h. not_both (fen g text) p f e (is_faulty g text f h);
})
answer g text (Err f) e = inr (record {
  fault = f;
  first = is_fault g text f e;
  names_none = λ p h. not_both (fen g text) p f (is_read g text p h) e;
})

pub either_fen_or_faulty : (g : Geometry) (text : List ℕ) → IsFen g text ⊎ IsFaulty g text
either_fen_or_faulty g text = answer g text (fen g text) refl

fen-is_short : (g : Geometry) (text : List ℕ) → length text ≤ 1024 → fen g text ≡ short_fen g text
fen-is_short g text h = let l : ltb 1024 (length text) ≡ false = le-ltb 1024 (length text) h in rw l refl

-- what a short text is read as is what the grammar gives it
pub short_is_grammar : (g : Geometry) (text : List ℕ) (r : Result Placement FenFault) → length text ≤ 1024
    → r ≡ short_fen g text → (p : Placement) → (r ≡ Ok p) ↔ Fen g text p
short_is_grammar g text r short is p =
    let same : r ≡ fen g text = is ∙ sym (fen-is_short g text short) in
    ((λ e. is_fen g text p (sym same ∙ e)), (λ h. same ∙ is_read g text p h))

-- what a short text is refused for is its earliest fault
pub short_fault_is_grammar : (g : Geometry) (text : List ℕ) (r : Result Placement FenFault) → length text ≤ 1024
    → r ≡ short_fen g text → (f : FenFault) → (r ≡ Err f) ↔ IsFirstFault g text f
short_fault_is_grammar g text r short is f =
    let same : r ≡ fen g text = is ∙ sym (fen-is_short g text short) in
    ((λ e. is_fault g text f (sym same ∙ e)), (λ h. same ∙ is_faulty g text f h))

-- and so is what a text that is too long is refused for
pub long_fault_is_grammar : (g : Geometry) (text : List ℕ) → 1024 < length text → (f : FenFault)
    → (fault {A = Placement} TooLong 1025 ≡ Err f) ↔ IsFirstFault g text f
long_fault_is_grammar g text long f =
    let same : fault TooLong 1025 ≡ fen g text = sym (fen-long g text long) in
    ((λ e. is_fault g text f (sym same ∙ e)), (λ h. same ∙ is_faulty g text f h))

-- ---- where the earliest fault stands
stands_at : (g : Geometry) (end : ℕ) (tokens : List Token) (place : ℕ) → Found g end tokens place
    → StandsAt g tokens end place
stands_at g end tokens place (inl soon) = subst (StandsAt g tokens end) (sym soon.0) (at_text_end soon.1)
stands_at g end tokens place (inr at) =
    subst (λ l. StandsAt g l end place) (sym at.is) (subst (StandsAt g (at.before ++ at.t ∷ at.rest) end) (sym at.here)
    (there at.leads)) where
      there : LeadNowhere g (at.before ++ at.t ∷ []) ⊎ RangeBehind g at.before at.t at.rest
          → StandsAt g (at.before ++ at.t ∷ at.rest) end at.t.place
      there (inl leads) = at_token at.before at.t at.rest leads
      there (inr r) = subst (λ l. StandsAt g (at.before ++ at.t ∷ l) end at.t.place) (sym r.is)
          (at_range at.before at.t r.dash r.to r.others r.is_range r.leads)

pub none_goes_on : (g : Geometry) (text : List ℕ) (f : FenFault) → length text ≤ 1024 → IsFirstFault g text f
    → StandsAt g (tokens_from 1 text) (length text + 1) f.place
none_goes_on g text f short first = stands_at g (length text + 1) (tokens_from 1 text) f.place
    (found g (length text + 1) (tokens_from 1 text) f (err_read g text f short (is_faulty g text f first)))

same_err : (f h : FenFault) (r : Result Placement FenFault) → r ≡ Err f → r ≡ Err h → h ≡ f
same_err f h r e k = cc

before_same : (g : Geometry) (text : List ℕ) (f earlier : FenFault) → length text ≤ 1024 → fen g text ≡ Err f
    → fen g (take (f.place - 1) text) ≡ Err earlier → earlier.place ≡ f.place
before_same g text f earlier short e h = elim (found g (length text + 1) (tokens_from 1 text) f
    (err_read g text f short e)) [
      | inl soon ↦
          let place : f.place ≡ length text + 1 = soon.0 in
          let same : take (f.place - 1) text ≡ text = take_all (f.place - 1) text (omega arith) in
          ap (λ x. x.place) (same_err f earlier (fen g text) e (ap (fen g) (sym same) ∙ h))
      | inr at ↦
          let cut = cut_at 1 text at.before at.t at.rest at.is in
          let place : f.place ≡ at.t.place = at.here in
          let low : 1 ≤ at.t.place = cut.low in
          let high : at.t.place < 1 + length text = cut.high in
          let front : List ℕ = take (f.place - 1) text in
          let size : length front ≡ f.place - 1 = length-take-le (f.place - 1) text (omega arith) in
          let tokens : tokens_from 1 front ≡ at.before = ap (λ k. tokens_from 1 (take (k - 1) text)) place ∙ cut.cut in
          let read : read_from g (length front + 1) Start at.before
          ≡ Err earlier = ap (read_from g (length front + 1) Start) (sym tokens)
          ∙ err_read g front earlier (omega arith) h in
          let end : earlier.place ≡ length front + 1 = at.clear (length front + 1) earlier read in
          omega arith
    ]

pub none_before : (g : Geometry) (text : List ℕ) (f earlier : FenFault) → length text ≤ 1024 → IsFirstFault g text f
    → IsFirstFault g (take (f.place - 1) text) earlier → earlier.place ≡ f.place
none_before g text f earlier short first h = before_same g text f earlier short (is_faulty g text f first)
    (is_faulty g (take (f.place - 1) text) earlier h)
