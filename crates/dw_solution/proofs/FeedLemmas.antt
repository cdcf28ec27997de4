-- Words with gaps before them.
use Rattle.std.proofs.Common.{◌≡◌, ℕ, ◌+◌, List, [], ◌∷◌, ◌++◌, refl, sym, ap, subst, ◌∙◌, append_assoc, append-nil}
use Rattle.std.proofs.Common.{Bool, true, false, take}
use Rattle.std.specs.Prelude.{Result, Ok, Err, OnOk}
use Rattle.dw_board.specs.Geometry.{Geometry}
use Rattle.dw_board.specs.Placement.{Placement}
use Rattle.dw_moves.specs.Moves.{Move, play}
use Rattle.dw_solution.specs.FirstLines.{LinesFrom, is_cut}
use Rattle.dw_solution.specs.Movetext.{AreWordsOfFirst, first_half, last_words, result_of}
use Rattle.dw_solution.specs.Tree.{Tree, IsTreeOf, branch}
use Rattle.dw_solution.specs.declared.style.Mark.TheVariants.{Gap, Opening, Closing}
use Rattle.dw_solution.specs.Words.{AreWords, AreVariations, Style, closed, has_move, in_parentheses, mark, move_text}
use Rattle.dw_solution.specs.Words.{move_words, number_word, number_words, spaced}
use Rattle.dw_solution.specs.inner.Feeds.{IsAdded, IsMoveAdded}

module _ (shown : Style) where
  pub spaced_append : (words more : List (List ℕ))
      → spaced shown (words ++ more) ≡ spaced shown words ++ spaced shown more
  spaced_append [] more = refl
  spaced_append (w ∷ words) more =
      let front : List ℕ = shown (mark Gap) in
      let here : List ℕ = spaced shown words in
      let next : List ℕ = spaced shown more in
      ap (λ z. front ++ (w ++ z)) (spaced_append words more)
      ∙ (ap (λ z. front ++ z) (sym (append_assoc w here next)) ∙ sym (append_assoc front (w ++ here) next))

  -- a parenthesis that closes stands behind all words
  spaced_closed : (w : List ℕ) (words : List (List ℕ))
      → spaced shown (closed shown (w ∷ words)) ≡ spaced shown (w ∷ words) ++ shown (mark Closing)
  spaced_closed w [] =
      let front : List ℕ = shown (mark Gap) in
      let end : List ℕ = shown (mark Closing) in
      ap (λ z. front ++ z) (append-nil (w ++ end))
      ∙ (sym (append_assoc front w end) ∙ ap (λ z. (front ++ z) ++ end) (sym (append-nil w)))
  spaced_closed w (v ∷ words) =
      let front : List ℕ = shown (mark Gap) in
      let rest : List ℕ = spaced shown (v ∷ words) in
      let end : List ℕ = shown (mark Closing) in
      ap (λ z. front ++ (w ++ z)) (spaced_closed v words)
      ∙ (ap (λ z. front ++ z) (sym (append_assoc w rest end)) ∙ sym (append_assoc front (w ++ rest) end))

  -- a move, the others in its place, and what goes on behind it
  pub play_added : (g : Geometry) (p : Placement) (half : ℕ) (due some : Bool) (m : Move) (tree behind others : Tree)
      (a b c d e : List ℕ) → tree ≡ branch m behind others → some ≡ has_move others
      → b ≡ a ++ spaced shown (number_words shown half due) → IsMoveAdded shown g p m b c
      → IsAdded shown (AreVariations shown g p half others) c d
      → IsAdded shown (AreWords shown g (play g p m) (half + 1) some behind) d e
      → IsAdded shown (AreWords shown g p half due tree) a e
  play_added g p half due some m tree behind others a b c d e is branches number move variations rest =
      let word : List ℕ = shown (move_text move.text (play g p m)) in
      let n : List (List ℕ) = number_words shown half due in
      let words : List (List ℕ) = move_words shown half due word ++ (variations.words ++ rest.words) in
      let written : AreWords shown g p half due (branch m behind others) words = (
        move.text,
        variations.words,
        rest.words,
        move.is,
        variations.are,
        subst (λ z. AreWords shown g (play g p m) (half + 1) z behind rest.words) branches rest.are,
        refl,
      ) in
      let all : e ≡ a ++ spaced shown words =
      rw (
        spaced_append (n ++ word ∷ []) (variations.words ++ rest.words),
        spaced_append n (word ∷ []),
        spaced_append variations.words rest.words,
        rest.added,
        variations.added,
        move.added,
        number,
      ) (simp (append_assoc, append-nil)) in
      subst (λ z. IsAdded shown (AreWords shown g p half due z) a e) (sym is)
      (record { words = words; are = written; added = all })

  -- one variation, and what is written behind it
  pub variation_added : (g : Geometry) (p : Placement) (half : ℕ) (m : Move) (tree behind others : Tree)
      (a b c d e f : List ℕ) → tree ≡ branch m behind others
      → b ≡ a ++ (shown (mark Gap) ++ (shown (mark Opening) ++ number_word shown half)) → IsMoveAdded shown g p m b c
      → IsAdded shown (AreWords shown g (play g p m) (half + 1) false behind) c d → e ≡ d ++ shown (mark Closing)
      → IsAdded shown (AreVariations shown g p half others) e f
      → IsAdded shown (AreVariations shown g p half tree) a f
  variation_added g p half m tree behind others a b c d e f is opened move rest closes more =
      let word : List ℕ = shown (move_text move.text (play g p m)) in
      let front : List ℕ = shown (mark Opening) ++ number_word shown half in
      let inner : List (List ℕ) = move_words shown half true word ++ rest.words in
      let words : List (List ℕ) = in_parentheses shown inner ++ more.words in
      let written : AreVariations shown g p half (branch m behind others) words =
      (move.text, rest.words, more.words, move.is, rest.are, more.are, refl) in
      let all : f ≡ a ++ spaced shown words =
      rw (
        spaced_append (in_parentheses shown inner) more.words,
        spaced_closed front (word ∷ rest.words),
        more.added,
        closes,
        rest.added,
        move.added,
        opened,
      ) (simp append_assoc) in
      subst (λ z. IsAdded shown (AreVariations shown g p half z) a f) (sym is)
      (record { words = words; are = written; added = all })

  -- the words of first lines, with the last words behind those of their tree
  pub words_added : (g : Geometry) (first : LinesFrom) (many : ℕ) (p : Placement) (half : ℕ) (tree : Tree)
      (a b c : List ℕ) → p ≡ first.start → half ≡ first_half p.turn → IsTreeOf (take many first.lines) tree
      → IsAdded shown (AreWords shown g p half true tree) a b
      → c ≡ b ++ spaced shown (last_words shown (is_cut first many) (result_of first.start.turn first.lines))
      → (words : List (List ℕ)) × AreWordsOfFirst shown g first many words × (c ≡ a ++ spaced shown words)
  words_added g first many p half tree a b c here begun whole play end =
      let last : List (List ℕ) = last_words shown (is_cut first many) (result_of first.start.turn first.lines) in
      let are : AreWords shown g first.start (first_half first.start.turn) true tree play.words =
      subst (λ z. AreWords shown g z (first_half z.turn) true tree play.words) here
      (subst (λ z. AreWords shown g p z true tree play.words) begun play.are) in (
        play.words ++ last,
        (tree, play.words, whole, are, refl),
        rw (spaced_append play.words last, end, play.added) (simp append_assoc),
      )

pub on_ok_map : {A E : Type 0} → (r : Result A E) (P Q : Type 0) → (P → Q) → OnOk r P → OnOk r Q
on_ok_map (Ok x) P Q f h = f h
on_ok_map (Err e) P Q f h = tt
