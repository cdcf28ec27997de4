-- The text of a certificate, row by row.
use Rattle.std.proofs.Common.{◌≡◌, ℕ, ◌+◌, Bool, List, [], ◌∷◌, ◌++◌, map, take, slice_get, Some, refl, sym, ap, ◌∙◌}
use Rattle.std.proofs.Common.{append_assoc, append-nil}
use Rattle.dw_board.specs.Geometry.{Geometry}
use Rattle.dw_board.specs.Placement.{Placement}
use Rattle.dw_memo.specs.Content.{entry}
use Rattle.std.specs.Prelude.{codes, decimal, if◌then◌else◌}
use Rattle.std.proofs.Common.{None, true, false}
use Rattle.dw_board.specs.FenText.{written}
use Rattle.dw_memo.specs.declared.bounds.Bounds.{Bounds}
use Rattle.dw_certificate.proofs.ClosedLemmas.{none_at}
use Rattle.dw_certificate.specs.Certificate.{Row, bounds_of, claims}
use Rattle.dw_certificate.specs.CertificateText.{entry_text, lines_text, head_lines, certificate_text}
use Rattle.std.proofs.lemmas.List.{take_all, take_more, map-append}
use Rattle.std.proofs.lemmas.Option.{slice_get_within, get_or_from_slice_get}

-- the lines of rows
abbrev pub rows_text : Geometry → (win : Bool) → List Row → List ℕ
rows_text g win rows = lines_text (map (entry_text g) (claims win rows))

lines_append : (xs ys : List (List ℕ)) → lines_text (xs ++ ys) ≡ lines_text xs ++ lines_text ys
lines_append [] ys = refl
lines_append (x ∷ xs) ys = ap (λ z. (x ++ 10 ∷ []) ++ z) (lines_append xs ys)
    ∙ sym (append_assoc (x ++ 10 ∷ []) (lines_text xs) (lines_text ys))

lines_one : (x : List ℕ) → lines_text (x ∷ []) ≡ x ++ 10 ∷ []
lines_one x = append-nil (x ++ 10 ∷ [])

rows_push : (g : Geometry) (win : Bool) (rows : List Row) (q : Placement) (b : ℕ)
    → rows_text g win (rows ++ (q, b) ∷ [])
    ≡ rows_text g win rows ++ (entry_text g (entry q (bounds_of win b)) ++ 10 ∷ [])
rows_push g win rows q b =
    ap (λ z. lines_text (map (entry_text g) z))
    (map-append (λ (r : Row). entry r.0 (bounds_of win r.1)) rows ((q, b) ∷ []))
    ∙ (ap lines_text (map-append (entry_text g) (claims win rows) (entry q (bounds_of win b) ∷ []))
    ∙ (lines_append (map (entry_text g) (claims win rows)) (entry_text g (entry q (bounds_of win b)) ∷ [])
    ∙ ap (λ z. rows_text g win rows ++ z) (lines_one (entry_text g (entry q (bounds_of win b))))))

-- one row more
pub rows_more : (g : Geometry) (win : Bool) (rows : List Row) (i : ℕ) (q : Placement) (b : ℕ)
    → slice_get rows i ≡ Some (q, b) → rows_text g win (take (i + 1) rows)
    ≡ rows_text g win (take i rows) ++ (entry_text g (entry q (bounds_of win b)) ++ 10 ∷ [])
rows_more g win rows i q b h =
    ap (rows_text g win) (take_more rows i (q, b) (slice_get_within rows i (q, b) h)
    ∙ ap (λ z. take i rows ++ z ∷ []) (get_or_from_slice_get rows i (q, b) (q, b) h))
    ∙ rows_push g win (take i rows) q b

pub whole_text : (g : Geometry) (p : Placement) (n : ℕ) (win : Bool) (rows : List Row)
    → certificate_text g p n win (claims win rows) ≡ lines_text (head_lines g p n win) ++ rows_text g win rows
whole_text g p n win rows = lines_append (head_lines g p n win) (map (entry_text g) (claims win rows))

pub text_more : (g : Geometry) (win : Bool) (rows : List Row) (i : ℕ) (q : Placement) (b : ℕ) (bounds : Bounds)
    (head old new bytes : List ℕ) → slice_get rows i ≡ Some (q, b) → old ≡ head ++ rows_text g win (take i rows)
    → new ≡ old ++ bytes → bytes ≡ entry_text g (entry q bounds) ++ 10 ∷ [] → bounds ≡ bounds_of win b
    → new ≡ head ++ rows_text g win (take (i + 1) rows)
text_more g win rows i q b bounds head old new bytes at is grown text same =
    grown
    ∙ (ap (λ z. z ++ bytes) is
    ∙ (ap (λ z. (head ++ rows_text g win (take i rows)) ++ z)
    (text ∙ ap (λ z. entry_text g (entry q z) ++ 10 ∷ []) same)
    ∙ (append_assoc head (rows_text g win (take i rows)) (entry_text g (entry q (bounds_of win b)) ++ 10 ∷ [])
    ∙ ap (λ z. head ++ z) (sym (rows_more g win rows i q b at)))))

pub text_whole : (g : Geometry) (p : Placement) (n : ℕ) (win : Bool) (rows : List Row) (i : ℕ) (items : List ℕ)
    → slice_get rows i ≡ None → items ≡ lines_text (head_lines g p n win) ++ rows_text g win (take i rows)
    → items ≡ certificate_text g p n win (claims win rows)
text_whole g p n win rows i items end is =
    is
    ∙ (ap (λ z. lines_text (head_lines g p n win) ++ rows_text g win z) (take_all i rows (none_at rows i end))
    ∙ sym (whole_text g p n win rows))

joined : (r f a d : List ℕ) → r ++ 10 ∷ (f ++ 10 ∷ (a ++ (d ++ 10 ∷ [])))
    ≡ (r ++ 10 ∷ []) ++ ((f ++ 10 ∷ []) ++ (((a ++ d) ++ 10 ∷ []) ++ []))
joined r f a d = simp (append_assoc, append-nil)

-- the lines before the rows, piece by piece
pub head_is : (g : Geometry) (p : Placement) (n : ℕ) (win : Bool) (r f a d : List ℕ) → r ≡ decimal g.rows
    → f ≡ written g p → a ≡ (if win then codes "win in " else codes "no win in ") → d ≡ decimal n
    → codes "certificate 1\nboard " ++ (r ++ 10 ∷ (f ++ 10 ∷ (a ++ (d ++ 10 ∷ [])))) ≡ lines_text (head_lines g p n win)
head_is g p n win r f a d hr hf ha hd =
    ap (λ z. codes "certificate 1\nboard " ++ z)
    (joined r f a d
    ∙ (λ i. (hr i ++ 10 ∷ []) ++ ((hf i ++ 10 ∷ []) ++ (((ha i ++ hd i) ++ 10 ∷ []) ++ []))))
    ∙ answered win
  where
    answered : (win : Bool) → codes "certificate 1\nboard " ++ ((decimal g.rows ++ 10 ∷ []) ++ ((written g p ++ 10 ∷ [])
        ++ ((((if win then codes "win in " else codes "no win in ") ++ decimal n) ++ 10 ∷ []) ++ [])))
        ≡ lines_text (head_lines g p n win)
    answered true = refl
    answered false = refl
