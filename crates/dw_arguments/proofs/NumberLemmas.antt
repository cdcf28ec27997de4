-- That what `parse` reads is the number that the text writes.
use Rattle.std.proofs.Common.{◌≡◌, ◌<◌, ◌≤◌, ◌^◌, ℕ, Bool, true, false, List, length, arith, refl, sym}
use Rattle.std.specs.Prelude.{Option, Some, None, Result, Ok, Err, option_and_then}
use Rattle.std.specs.Str.{all_ascii_digits}
use Rattle.std.specs.Str.Parse.{IsNumeral, without_leading_plus, digits_value, ParsesUnsigned, ExplainsUnsignedError}
use Rattle.std.specs.Str.Parse.{HasUnsignedDigitsIfOk}
use Rattle.std.specs.declared.num.ParseIntError.{ParseIntError}
use Rattle.std.proofs.lemmas.Str.Parse.{IsNumeralModel, numerals_by_value, tells_all_ascii_digits}
use Rattle.std.proofs.lemmas.Bool.Decides.{nat_tests}
use Rattle.clap.specs.Words.{ReadsOne, one_text}
use Rattle.clap.specs.declared.parser.matches.Found.{Found}
use Rattle.clap.specs.Words.{rows_of}
use Rattle.clap.proofs.WalkLemmas.{one_text-rows}
use Rattle.std.specs.Result.{result_ok}
use Rattle.std.specs.Prelude.{codes, unwrap_or}
use Rattle.std.specs.Str.{bytes_eq}
use Rattle.std.specs.Option.{option_map_or}
use Rattle.std.specs.Str.Parse.{ParsesBool}
use Rattle.std.specs.declared.str.ParseBoolError.{ParseBoolError}
use Rattle.std.proofs.lemmas.Slice.Eq.{bytes_eq-Decides}
use Rattle.std.proofs.lemmas.Bool.{false_from_ne_true}
use Rattle.dw_arguments.specs.Options.{is_numeral, if_within, number_within, number_option, flag_option}

ours : IsNumeralModel (λ ds. all_ascii_digits ds ≡ true) (digits_value 10)
ours = numerals_by_value _ tells_all_ascii_digits

numeral_told : (ds : List ℕ) → IsNumeral 10 ds → is_numeral ds ≡ true
numeral_told ds h =
    let digits : all_ascii_digits ds ≡ true = ours.from ds h.1 in
    rw digits (grind (arith, nat_tests, h.0))

told_numeral : (ds : List ℕ) → is_numeral ds ≡ true → IsNumeral 10 ds
told_numeral ds h =
    let digits : all_ascii_digits ds ≡ true = grind (arith, nat_tests, h) in
    let some : 0 < length ds = grind (arith, nat_tests, h) in
    (some, ours.to ds digits)

pub past_bounds : (least most n : ℕ) → most < n → if_within least most n ≡ None
past_bounds least most n high = grind (arith, nat_tests, high)

-- a text that was read is of the number, if that is in bounds
abbrev pub IsRead : {E : Type 0} → (least most : ℕ) → (text : List ℕ) → Result ℕ E → Type 0
IsRead least most text (Ok n) = number_within least most text ≡ if_within least most n
IsRead least most text (Err e) = number_within least most text ≡ None

pub read_number : {E : Type 0} (k least most : ℕ) (text : List ℕ) (r : Result ℕ E) → most < 2 ^ k
    → ParsesUnsigned k 10 text r
    → IsRead least most text r
read_number k least most text (Ok n) small h = rw (numeral_told _ h.0.0, ← h.1) refl
read_number k least most text (Err e) small h = go (is_numeral (without_leading_plus text)) refl
  where
    too_large : is_numeral (without_leading_plus text) ≡ true → 2 ^ k ≤ digits_value 10 (without_leading_plus text)
    too_large is = let digits : IsNumeral 10 (without_leading_plus text) = told_numeral _ is in grind (arith, h, digits)

    go : (b : Bool) → is_numeral (without_leading_plus text) ≡ b → number_within least most text ≡ None
    go true is =
        let large : 2 ^ k ≤ digits_value 10 (without_leading_plus text) = too_large is in
        rw is (past_bounds least most _ (omega arith))
    go false is = rw is refl

-- what `parse` gives of a text
abbrev pub Parses : (k : ℕ) → List ℕ → Result ℕ ParseIntError → Type 0
Parses k text r = ParsesUnsigned k 10 text r × ExplainsUnsignedError 10 text r × HasUnsignedDigitsIfOk text r

-- what `get_one` reads, if that is in bounds, is the number that is given
pub option_number : (k least most : ℕ) (f : Found) (name : List ℕ) (r : Option ℕ) → most < 2 ^ k
    → (one_text f name ≡ None → r ≡ None)
    → ((text : List ℕ) → one_text f name ≡ Some text → ReadsOne (Parses k) text r)
    → option_and_then (if_within least most) r ≡ number_option least most (rows_of f) name
option_number k least most f name r small none value =
    rw (← (one_text-rows f name)) (go (one_text f name) refl)
  where
    read : (text : List ℕ) (r : Option ℕ) → ReadsOne (Parses k) text r
        → option_and_then (if_within least most) r ≡ number_within least most text
    read text (Some n) h = sym (read_number {E = ParseIntError} k least most text (Ok n) small h.0)
    read text None h = sym (read_number {E = ParseIntError} k least most text (Err h.0) small h.1.0)

    go : (o : Option (List ℕ)) → one_text f name ≡ o
        → option_and_then (if_within least most) r ≡ option_and_then (number_within least most) o
    go None is = rw (none is) refl
    go (Some text) is = read text r (value text is)

-- what `get_one` reads as a `bool` is whether the flag is given
pub option_flag : (f : Found) (name : List ℕ) (r : Option Bool)
    → (one_text f name ≡ None → r ≡ None)
    → ((text : List ℕ) → one_text f name ≡ Some text → ReadsOne {T = Bool} {E = ParseBoolError} ParsesBool text r)
    → unwrap_or r false ≡ flag_option (rows_of f) name
option_flag f name r none value =
    rw (← (one_text-rows f name)) (go (one_text f name) refl)
  where
    read : (text : List ℕ) (r : Option Bool) → ReadsOne {T = Bool} {E = ParseBoolError} ParsesBool text r
        → unwrap_or r false ≡ bytes_eq text (codes "true")
    read text (Some true) h = rw h refl
    read text (Some false) h = rw h refl
    read text None h = sym (false_from_ne_true _ (λ same. h.1.0 ((bytes_eq-Decides text (codes "true")).0 same)))

    go : (o : Option (List ℕ)) → one_text f name ≡ o
        → unwrap_or r false ≡ option_map_or (λ text. bytes_eq text (codes "true")) o false
    go None is = rw (none is) refl
    go (Some text) is = read text r (value text is)

-- what `parse` reads, if that is in bounds, is the number that the text writes
pub read_text : (k least most : ℕ) (text : List ℕ) (r : Result ℕ ParseIntError) → most < 2 ^ k → Parses k text r
    → option_and_then (if_within least most) (result_ok r) ≡ number_within least most text
read_text k least most text (Ok n) small h = sym (read_number {E = ParseIntError} k least most text (Ok n) small h.0)
read_text k least most text (Err e) small h = sym (read_number {E = ParseIntError} k least most text (Err e) small h.0)
