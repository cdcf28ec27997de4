-- The text of first lines, put together.
use Rattle.std.proofs.Common.{◌≡◌, ℕ, ◌+◌, ◌-◌, ◌<◌, ◌≤◌, suc, List, [], ◌∷◌, ◌++◌, length, refl, sym, ap, subst, ◌∙◌}
use Rattle.std.proofs.Common.{Bool, true, false, leb, cond, length-append, arith, decimal, codes}
use Rattle.std.proofs.lemmas.Fmt.{length-decimal-le}
use Rattle.dw_board.specs.Geometry.{Geometry, IsBoard}
use Rattle.dw_board.specs.Placement.{Placement, IsPosition}
use Rattle.dw_board.specs.declared.piece.Side.{Side}
use Rattle.dw_board.specs.declared.piece.Side.TheVariants.{White, Black}
use Rattle.dw_moves.specs.Laws.{PlayStays}
use Rattle.dw_moves.specs.Moves.{Move}
use Rattle.dw_notation.specs.MoveReadingLaws.{WrittenMoveIsNamed}
use Rattle.dw_solution.specs.FirstLines.{LinesFrom, is_cut}
use Rattle.dw_solution.specs.Tree.{Tree, over, branch, lines_of}
use Rattle.dw_solution.specs.Words.{AreWords}
use Rattle.dw_solution.specs.Movetext.{AreWordsOfFirst, IsMovetext, IsTextOfFirst, filled, first_half, in_lines}
use Rattle.dw_solution.specs.Movetext.{in_movetext, last_words, result_of, verdict_comment, verdict_word}
use Rattle.dw_solution.specs.inner.Feeds.{feeding, IsUnbroken, AreUnbroken}
use Rattle.dw_solution.specs.declared.heading.Heading.{Heading}
use Rattle.dw_solution.specs.declared.heading.VerdictKind.{VerdictKind}
use Rattle.dw_solution.specs.declared.heading.VerdictKind.TheVariants.{Unsolvable, Cooked, Dual, Sound}
use Rattle.dw_solution.proofs.TreeLemmas.{lines_some}
use Rattle.dw_solution.proofs.WordLemmas.{is_no_feed, all_append, decimal_unbroken, unbroken_append, words_unbroken}

-- ---- no word has a line feed
verdict_unbroken : (kind : VerdictKind) → IsUnbroken (verdict_word kind)
verdict_unbroken Unsolvable = refl
verdict_unbroken Cooked = refl
verdict_unbroken Dual = refl
verdict_unbroken Sound = refl

pub comment_unbroken : (heading : Heading) → IsUnbroken (verdict_comment heading)
comment_unbroken heading =
    let number : List ℕ = decimal heading.moves ++ codes "}" in
    let kind : List ℕ = verdict_word heading.kind in
    all_append is_no_feed (codes "{") (kind ++ (codes " in " ++ number)) refl
    (all_append is_no_feed kind (codes " in " ++ number) (verdict_unbroken heading.kind)
    (all_append is_no_feed (codes " in ") number refl
    (all_append is_no_feed (decimal heading.moves) (codes "}") (decimal_unbroken heading.moves) refl)))

result_unbroken : (side : Side) (lines : List (List Move)) → IsUnbroken (result_of side lines)
result_unbroken side [] = refl
result_unbroken White (l ∷ lines) = refl
result_unbroken Black (l ∷ lines) = refl

last_unbroken : (more : Bool) (result : List ℕ) → IsUnbroken result → AreUnbroken (last_words in_movetext more result)
last_unbroken true result h = (refl, (h, tt))
last_unbroken false result h = (h, tt)

pub all_unbroken : WrittenMoveIsNamed → PlayStays → (g : Geometry) → IsBoard g → (first : LinesFrom) (many : ℕ)
    (words : List (List ℕ)) → IsPosition g first.start.cells → AreWordsOfFirst in_movetext g first many words
    → AreUnbroken words
all_unbroken named stays g board first many words pos (tree, played, whole, are, e) =
    let p : Placement = first.start in
    let last : List ℕ = result_of p.turn first.lines in
    subst AreUnbroken (sym e) (unbroken_append played (last_words in_movetext (is_cut first many) last)
    (words_unbroken named stays g board p pos (first_half p.turn) true tree played are)
    (last_unbroken (is_cut first many) last (result_unbroken p.turn first.lines)))

-- ---- the text without a line is short
length_filled : (column : ℕ) (words : List (List ℕ)) → length (filled column words) ≡ length (feeding words)
length_filled column [] = refl
length_filled column (w ∷ words) =
    elim (leb (column + 1 + length w) 79) as (λ b. length (cond b
    (32 ∷ (w ++ filled (column + 1 + length w) words)) (10 ∷ (w ++ filled (length w) words)))
    ≡ suc (length (w ++ feeding words))) [
      | true ↦ ap suc (length-append w (filled (column + 1 + length w) words)
          ∙ (ap (λ z. length w + z) (length_filled (column + 1 + length w) words)
          ∙ sym (length-append w (feeding words))))
      | false ↦ ap suc (length-append w (filled (length w) words)
          ∙ (ap (λ z. length w + z) (length_filled (length w) words) ∙ sym (length-append w (feeding words))))
    ]

verdict_short : (kind : VerdictKind) → length (verdict_word kind) ≤ 10
verdict_short Unsolvable = omega arith
verdict_short Cooked = omega arith
verdict_short Dual = omega arith
verdict_short Sound = omega arith

comment_short : (heading : Heading) → heading.moves < 256 → length (verdict_comment heading) ≤ 30
comment_short heading low =
    let digits = length-decimal-le 3 heading.moves (omega arith) (omega (arith, low)) (omega (arith, low)) in
    let one = length-append (decimal heading.moves) (codes "}") in
    let two = length-append (verdict_word heading.kind) (codes " in " ++ (decimal heading.moves ++ codes "}")) in
    let three = verdict_short heading.kind in
    omega (arith, digits, one, two, three)

last_short : (more : Bool) (side : Side) (lines : List (List Move))
    → length (feeding (last_words in_movetext more (result_of side lines))) ≤ 20
last_short true side [] = omega arith
last_short true White (l ∷ lines) = omega arith
last_short true Black (l ∷ lines) = omega arith
last_short false side [] = omega arith
last_short false White (l ∷ lines) = omega arith
last_short false Black (l ∷ lines) = omega arith

filled_list : {X : Type 0} {x : X} {xs : List X} → x ∷ xs ≡ [] → ⊥
filled_list e = cc

no_words : (g : Geometry) (p : Placement) (half : ℕ) (due : Bool) (tree : Tree) (words : List (List ℕ))
    → lines_of tree ≡ [] → AreWords in_movetext g p half due tree words → words ≡ []
no_words g p half due over words e h = h
no_words g p half due (branch m b o) words e h = let some = lines_some m b o in absurd (filled_list (sym some.2 ∙ e))

pub none_is_short : (g : Geometry) (heading : Heading) (first : LinesFrom) (text : List ℕ) → heading.moves < 256
    → IsTextOfFirst g heading first 0 text → length text ≤ 1000000
none_is_short g heading first text low (words, (tree, played, whole, are, joined), e) =
    let p : Placement = first.start in
    let flag : Bool = is_cut first 0 in
    let last : List (List ℕ) = last_words in_movetext flag (result_of p.turn first.lines) in
    let none : words ≡ last =
    joined ∙ ap (λ z. z ++ last) (no_words g p (first_half p.turn) true tree played whole.lines are) in
    let is : text ≡ verdict_comment heading ++ filled (length (verdict_comment heading)) last =
    e ∙ ap (λ z. in_lines (verdict_comment heading ∷ z)) none in
    let long = ap length is ∙ length-append (verdict_comment heading)
    (filled (length (verdict_comment heading)) last) in
    omega (
      arith,
      long,
      length_filled (length (verdict_comment heading)) last,
      comment_short heading low,
      last_short flag p.turn first.lines,
    )

-- ---- the movetext
pub movetext_cut : (g : Geometry) (heading : Heading) (first : LinesFrom) (many too_many : ℕ) (text longer : List ℕ)
    → many < too_many → too_many ≤ length first.lines → too_many - many ≤ 1
    → IsTextOfFirst g heading first many text → length text ≤ 1000000
    → IsTextOfFirst g heading first too_many longer → 1000000 < length longer
    → IsMovetext g heading first many text
movetext_cut g heading first many too_many text longer low within next is short passes long =
    let e : too_many ≡ suc many = omega (arith, low, next) in
    record {
      within = omega (arith, low, within);
      is = is;
      short = short;
      greatest = λ more_lines. (
        longer,
        subst (λ z. IsTextOfFirst g heading first z longer) e passes,
        long,
      );
    }

some_lines : (g : Geometry) (heading : Heading) (p : Placement) (lines : List (List Move)) (more : Bool)
    (text : List ℕ) → heading.moves < 256
    → IsTextOfFirst g heading (record { start = p; lines = lines; more = more }) (length lines) text
    → 1000000 < length text → 0 < length lines
some_lines g heading p [] more text low is long =
    let short = none_is_short g heading (record { start = p; lines = []; more = more }) text low is in
    absurd (omega (arith, short, long))
some_lines g heading p (l ∷ lines) more text low is long = omega arith

-- where the text of all lines is too large, there is a line
pub passed_some : (g : Geometry) (heading : Heading) (first : LinesFrom) (text : List ℕ) → heading.moves < 256
    → IsTextOfFirst g heading first (length first.lines) text → 1000000 < length text → 0 < length first.lines
passed_some g heading first text low is long =
    some_lines g heading first.start first.lines first.more text low is long
