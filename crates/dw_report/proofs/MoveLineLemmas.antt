-- Lemmas on the lines of moves.
use Rattle.std.proofs.Common.{◌≡◌, ℕ, zero, suc, ◌<◌, ◌≤◌, ◌+◌, List, [], ◌∷◌, ◌++◌, length, get_or, take, drop, map}
use Rattle.std.proofs.Common.{refl, sym, ap, ◌∙◌, subst, inl, inr, arith, append_assoc, append-nil}
use Rattle.std.specs.FinSet as set
use Rattle.std.specs.List.{flat_map}
use Rattle.dw_notation.specs.Streams.{Appends}
use Rattle.dw_notation.specs.inner.StreamLemmas.{Appends-trans}
use Rattle.std.proofs.lemmas.List.{map_push, take_more, take_all, take-append-drop}
use Rattle.std.proofs.lemmas.Grind.{flat_map-append}
use Rattle.dw_board.specs.Geometry.{Geometry}
use Rattle.dw_board.specs.Placement.{Placement}
use Rattle.dw_moves.specs.Moves.{Legal, IsBest, play}
use Rattle.dw_board.specs.Lists.{Member}
use Rattle.dw_moves.specs.Order.{Listed, AreListed}
use Rattle.dw_board.specs.FenText.{written}
use Rattle.dw_notation.specs.Text.{text_among}
use Rattle.dw_notation.specs.Writes.{StopsShort}
use Rattle.dw_notation.specs.inner.Writes.{Writes, WritesShort}
use Rattle.dw_report.specs.Report.{move_line, IsMovesText}
use Rattle.dw_report.specs.inner.Rows.{count_line}
use Rattle.dw_report.proofs.WritingLemmas.{stops_within}

-- a move that stands for none
abbrev pub no_move : Listed
no_move = record { step = record { from = 0; to = 0; taken = set.empty }; path = [] }

step_at : (list : List Listed) (i : ℕ) (l : Listed) → i < length list → l ≡ get_or list i l
    → Member l.step (map (λ (l : Listed). l.step) list)
step_at [] i l low is = absurd (omega (arith, low))
step_at (x ∷ list) zero l low is = inl (ap (λ (z : Listed). z.step) is)
step_at (x ∷ list) (suc i) l low is = inr (step_at list i l (omega (arith, low)) is)

-- the move at an index is legal
pub item_is_legal : (g : Geometry) (p : Placement) (list : List Listed) (i : ℕ) (l : Listed) → AreListed g p list
    → i < length list → l ≡ get_or list i l → Legal g p l.step
item_is_legal g p list i l all low is = (all.in_order.exactly l.step).0 (step_at list i l low is)

-- the lines written so far
abbrev pub LinesTo : Geometry → Placement → List Listed → ℕ → List ℕ → List ℕ → Type 0
LinesTo g p list i old new = Appends old new (flat_map (move_line g p list) (take i list))

pub lines_more : (g : Geometry) (p : Placement) (list : List Listed) (i : ℕ) (d : Listed)
    (old mid new : List ℕ) (line : List ℕ) → LinesTo g p list i old mid → i < length list
    → Appends mid new line → line ≡ move_line g p list (get_or list i d) → LinesTo g p list (i + 1) old new
lines_more g p list i d old mid new line h low wrote same =
    let f = flat_map (move_line g p list) in
    let one : line ≡ f (get_or list i d ∷ []) = same ∙ sym (append-nil (move_line g p list (get_or list i d))) in
    subst (Appends old new) (ap (λ z. f (take i list) ++ z) one
    ∙ (sym (flat_map-append (move_line g p list) (take i list) (get_or list i d ∷ []))
    ∙ ap f (sym (take_more list i d low))))
    (Appends-trans old mid new (f (take i list)) line h wrote)

-- all of them, and the count
pub lines_all : (g : Geometry) (p : Placement) (list : List Listed) (i k : ℕ) (old mid new : List ℕ)
    (line : List ℕ) → AreListed g p list → IsBest g p k → LinesTo g p list i old mid → length list ≤ i
    → Appends mid new line → line ≡ count_line (length list) k → Writes (IsMovesText g p) old new
lines_all g p list i k old mid new line all best h end wrote same = record {
  text = flat_map (move_line g p list) list ++ count_line (length list) k;
  is = record { list = list; all = all; most = k; best = best; is = refl };
  wrote = subst (Appends old new) (ap (λ z. flat_map (move_line g p list) z ++ line) (take_all i list end)
      ∙ ap (λ z. flat_map (move_line g p list) list ++ z) same)
      (Appends-trans old mid new (flat_map (move_line g p list) (take i list)) line h wrote);
}

-- a line put together out of its text, a blank, the position, and a line feed
pub line_made : (g : Geometry) (p after : Placement) (list : List Listed) (l : Listed) (text fen one two three four :
    List ℕ) → text ≡ text_among list l → after ≡ play g p l.step → fen ≡ written g after
    → one ≡ text → two ≡ one ++ (32 ∷ []) → three ≡ two ++ fen → four ≡ three ++ (10 ∷ []) → four ≡ move_line g p list l
line_made g p after list l text fen one two three four text_is played fen_is a b c d =
    d ∙ (ap (λ z. z ++ (10 ∷ [])) (c ∙ ap (λ z. z ++ fen) (b ∙ ap (λ z. z ++ (32 ∷ [])) a))
    ∙ (ap (λ z. ((z ++ (32 ∷ [])) ++ fen) ++ (10 ∷ [])) text_is ∙ ap (λ z. ((text_among list l ++ (32 ∷ [])) ++ z)
    ++ (10 ∷ [])) (fen_is ∙ ap (written g) played)))

-- with a list of all legal moves there is a text of them
pub moves_some : (g : Geometry) (p : Placement) (k : ℕ) → (list : List Listed) × AreListed g p list → IsBest g p k
    → (text : List ℕ) × IsMovesText g p text
moves_some g p k all best = (
  flat_map (move_line g p all.0) all.0 ++ count_line (length all.0) k,
  record { list = all.0; all = all.1; most = k; best = best; is = refl },
)

-- the line of a move was cut short
pub line_short : (g : Geometry) (p : Placement) (list : List Listed) (i k : ℕ) (d : Listed)
    (old mid new : List ℕ) (line : List ℕ) → AreListed g p list → IsBest g p k → LinesTo g p list i old mid
    → i < length list
    → StopsShort mid new line → line ≡ move_line g p list (get_or list i d) → WritesShort (IsMovesText g p) old new
line_short g p list i k d old mid new line all best h low stop same =
    let f = flat_map (move_line g p list) in
    let one : line ≡ f (get_or list i d ∷ []) = same ∙ sym (append-nil (move_line g p list (get_or list i d))) in
    let front : f (take (i + 1) list) ≡ f (take i list) ++ line = ap f (take_more list i d low)
    ∙ (flat_map-append (move_line g p list) (take i list) (get_or list i d ∷ [])
    ∙ ap (λ z. f (take i list) ++ z) (sym one)) in
    let split : f list ≡ (f (take i list) ++ line) ++ f (drop (i + 1) list) = ap f (sym (take-append-drop (i + 1) list))
    ∙ (flat_map-append (move_line g p list) (take (i + 1) list) (drop (i + 1) list)
    ∙ ap (λ z. z ++ f (drop (i + 1) list)) front) in
    record {
      text = f list ++ count_line (length list) k;
      is = record { list = list; all = all; most = k; best = best; is = refl };
      stops = stops_within old mid new (f (take i list)) line (f (drop (i + 1) list) ++ count_line (length list) k)
          (f list ++ count_line (length list) k)
          (ap (λ z. z ++ count_line (length list) k) split ∙ append_assoc (f (take i list) ++ line)
          (f (drop (i + 1) list)) (count_line (length list) k)) h stop;
    }

-- the last line was cut short
pub count_short : (g : Geometry) (p : Placement) (list : List Listed) (i k : ℕ) (old mid new : List ℕ)
    (line : List ℕ) → AreListed g p list → IsBest g p k → LinesTo g p list i old mid → length list ≤ i
    → StopsShort mid new line → line ≡ count_line (length list) k → WritesShort (IsMovesText g p) old new
count_short g p list i k old mid new line all best h end stop same =
    let f = flat_map (move_line g p list) in
    record {
      text = f list ++ count_line (length list) k;
      is = record { list = list; all = all; most = k; best = best; is = refl };
      stops = stops_within old mid new (f (take i list)) line [] (f list ++ count_line (length list) k)
          (ap (λ z. f list ++ z) (sym same) ∙ (ap (λ z. f z ++ line) (sym (take_all i list end))
          ∙ sym (append-nil (f (take i list) ++ line)))) h stop;
    }

-- one more pair of texts
pub pairs_more : {S : Type 0} (bytes : S → List ℕ) (pair : Listed → List ℕ × List ℕ) (list : List Listed) (i : ℕ)
    (d : Listed) (old new : List (S × S)) (words : S × S)
    → map (λ (w : S × S). (bytes w.0, bytes w.1)) old ≡ map pair (take i list) → i < length list
    → new ≡ old ++ words ∷ [] → (bytes words.0, bytes words.1) ≡ pair (get_or list i d)
    → map (λ (w : S × S). (bytes w.0, bytes w.1)) new ≡ map pair (take (i + 1) list)
pairs_more {S} bytes pair list i d old new words are low push one =
    let both : S × S → List ℕ × List ℕ = λ w. (bytes w.0, bytes w.1) in
    ap (map both) push ∙ (map_push both old words ∙ (ap (λ z. z ++ both words ∷ []) are
    ∙ (ap (λ z. map pair (take i list) ++ z ∷ []) one
    ∙ (sym (map_push pair (take i list) (get_or list i d)) ∙ ap (map pair) (sym (take_more list i d low))))))
