-- Rows of texts.
use Rattle.std.proofs.Common.{◌≡◌, ◌==◌, ◌++◌, ◌∷◌, ◌∙◌, ◌+◌, ◌<◌, ap, sym, refl, ℕ, List, [], Bool, true, false, map}
use Rattle.std.proofs.Common.{Option, Some, None, append_assoc, append-nil, take, length, get_or, arith}
use Rattle.std.specs.Prelude.{codes}
use Rattle.std.specs.List.{cons_option, filter_map, join_by}
use Rattle.std.proofs.lemmas.Bool.{eqb-true}
use Rattle.std.proofs.lemmas.List.{map-append, take_more}
use Rattle.std.proofs.lemmas.List.Elements.{filter_map-append}
use Rattle.dw_page.specs.Pages.{tries_row, try_shown}
use Rattle.dw_page.specs.Words.{phrase}
use Rattle.dw_page.specs.declared.words.Language.{Language}
use Rattle.dw_page.specs.declared.words.Phrase.TheVariants.{Tries}
use Rattle.dw_page.proofs.JoinLemmas.{before_next, join_more}

-- no tries
pub no_tries : {X : Type 0} (f : X → List ℕ) (language : Language) (xs : List X) (page : List ℕ)
    → true ≡ (length xs == 0) → page ≡ page ++ tries_row language (map f xs)
unfolding tries_row
no_tries f language [] page e = sym (append-nil page)
no_tries f language (x ∷ xs) page e = absurd (omega (arith, eqb-true (length (x ∷ xs)) 0 (sym e)))

-- some tries
pub some_tries : {X : Type 0} (f : X → List ℕ) (language : Language) (xs : List X) → false ≡ (length xs == 0)
    → tries_row language (map f xs) ≡ codes "<p class=\"tries\">" ++ (phrase language Tries ++ (codes ": "
    ++ (join_by try_shown (codes "; ") (map f xs) ++ codes "</p>\n")))
unfolding tries_row
some_tries f language [] e = cc
some_tries f language (x ∷ xs) e = refl

-- one more text
pub texts_more : {X : Type 0} (f : X → List ℕ) (xs : List X) (i : ℕ) (x : X) → i < length xs → x ≡ get_or xs i x
    → map f (take (i + 1) xs) ≡ map f (take i xs) ++ f x ∷ []
texts_more f xs i x lt is =
    ap (map f) (take_more xs i x lt ∙ ap (λ y. take i xs ++ y ∷ []) (sym is)) ∙ map-append f (take i xs) (x ∷ [])

-- one more value, which gives a text or none
pub one_more : {X Y : Type 0} (h : X → Option Y) (xs : List X) (i : ℕ) (d : X) (y : Y) → i < length xs
    → h (get_or xs i d) ≡ Some y → filter_map h (take (i + 1) xs) ≡ filter_map h (take i xs) ++ y ∷ []
one_more h xs i d y lt is =
    ap (filter_map h) (take_more xs i d lt)
    ∙ (filter_map-append h (take i xs) (get_or xs i d ∷ []) ∙ ap (λ o. filter_map h (take i xs) ++ cons_option o []) is)

pub none_more : {X Y : Type 0} (h : X → Option Y) (xs : List X) (i : ℕ) (d : X) → i < length xs
    → h (get_or xs i d) ≡ None → filter_map h (take (i + 1) xs) ≡ filter_map h (take i xs)
none_more h xs i d lt is =
    ap (filter_map h) (take_more xs i d lt)
    ∙ (filter_map-append h (take i xs) (get_or xs i d ∷ [])
    ∙ (ap (λ o. filter_map h (take i xs) ++ cons_option o []) is ∙ append-nil (filter_map h (take i xs))))

-- one more text behind its mark
pub join_step : {X : Type 0} (f : X → List ℕ) (sep : List ℕ) (xs : List X) (y : X) (page p q r mark : List ℕ)
    → p ≡ page ++ join_by f sep xs → mark ≡ before_next sep xs → q ≡ p ++ mark → r ≡ q ++ f y
    → r ≡ page ++ join_by f sep (xs ++ y ∷ [])
join_step f sep xs y page p q r mark so_far before marked last =
    last ∙ (ap (λ t. t ++ f y) (marked ∙ (ap (λ t. t ++ mark) so_far ∙ ap (λ t. (page ++ join_by f sep xs)
    ++ t) before))
    ∙ (append_assoc (page ++ join_by f sep xs) (before_next sep xs) (f y)
    ∙ (append_assoc page (join_by f sep xs) (before_next sep xs ++ f y)
    ∙ ap (λ t. page ++ t) (sym (join_more f sep xs y)))))
