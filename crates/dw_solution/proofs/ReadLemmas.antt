-- A movetext is read as the tree of the lines that are written in it.
use Rattle.std.proofs.Common.{◌≡◌, ℕ, ◌<◌, ◌≤◌, List, [], ◌∷◌, ◌++◌, length, map, take, refl, sym, ap}
use Rattle.std.proofs.Common.{subst, ◌∙◌, inl, inr, append_assoc, arith, Bool, true, false}
use Rattle.std.proofs.Common.{codes, decimal}
use Rattle.std.specs.List.{list_all}
use Rattle.std.proofs.lemmas.List.{length-take-le}
use Rattle.dw_board.specs.Geometry.{Geometry, IsBoard}
use Rattle.dw_board.specs.Lists.{Member}
use Rattle.dw_board.specs.Placement.{Placement, IsPosition}
use Rattle.dw_board.specs.declared.piece.Side.{Side}
use Rattle.dw_board.specs.declared.piece.Side.TheVariants.{White, Black}
use Rattle.dw_moves.specs.Laws.{PlayStays, LegalMovesTake}
use Rattle.dw_moves.specs.Moves.{Move}
use Rattle.dw_notation.specs.MoveReadingLaws.{WrittenMoveIsNamed}
use Rattle.dw_games.specs.Pdn.{IsVariation, PdnIsRead, empty, passed}
use Rattle.dw_games.specs.Play.{plain, results, IsResult}
use Rattle.dw_games.specs.Printed.{IsOver}
use Rattle.dw_games.specs.Tokens.{Token, AreTokens, is_inside}
use Rattle.dw_games.specs.declared.tokens.TokenKind.{TokenKind}
use Rattle.dw_games.specs.declared.tokens.TokenKind.TheVariants.{Comment, Written}
use Rattle.dw_solution.specs.FirstLines.{LinesFrom, is_cut}
use Rattle.dw_solution.specs.Laws.{IsBeginning, IsReadAs}
use Rattle.dw_solution.specs.Movetext.{IsMovetext, first_half, in_lines, in_movetext, last_words, result_of}
use Rattle.dw_solution.specs.Movetext.{verdict_comment, verdict_word}
use Rattle.dw_solution.specs.Tree.{Tree, over, branch, lines_of}
use Rattle.dw_solution.specs.declared.heading.Heading.{Heading}
use Rattle.dw_solution.specs.declared.heading.VerdictKind.{VerdictKind}
use Rattle.dw_solution.specs.declared.heading.VerdictKind.TheVariants.{Unsolvable, Cooked, Dual, Sound}
use Rattle.dw_solution.proofs.MarkLemmas.{mark_of, IsSpelled, AreSpelled, spelled_one, spelled_append, lines_read}
use Rattle.dw_solution.proofs.MarkLemmas.{comment_spelled, win_spelled, star_spelled}
use Rattle.dw_solution.proofs.PathLemmas.{begin_first, distinct_some, in_tree, in_paths}
use Rattle.dw_solution.proofs.PlayLemmas.{map_none, map_cons, map_split, Fits, fits_lines, play_words}
use Rattle.dw_solution.proofs.ResultLemmas.{digits_inside, results_plain}
use Rattle.dw_solution.proofs.TakingLemmas.{in_take}
use Rattle.dw_solution.proofs.WordLemmas.{all_append, decimal_digits}

-- ---- the comments and the result
verdict_inside : (kind : VerdictKind) → list_all is_inside (verdict_word kind) ≡ true
verdict_inside Unsolvable = refl
verdict_inside Cooked = refl
verdict_inside Dual = refl
verdict_inside Sound = refl

verdict_spelled : (heading : Heading)
    → IsSpelled (verdict_comment heading) ((Comment, verdict_comment heading) ∷ [])
verdict_spelled heading =
    let kind : List ℕ = verdict_word heading.kind in
    let number : List ℕ = decimal heading.moves in
    let inside : List ℕ = kind ++ (codes " in " ++ number) in
    let all : list_all is_inside inside ≡ true =
    all_append is_inside kind (codes " in " ++ number) (verdict_inside heading.kind)
    (all_append is_inside (codes " in ") number refl (digits_inside number (decimal_digits heading.moves))) in
    let whole : inside ++ 125 ∷ [] ≡ kind ++ (codes " in " ++ (number ++ codes "}")) =
    append_assoc kind (codes " in " ++ number) (125 ∷ []) in
    subst (λ z. IsSpelled (123 ∷ z) ((Comment, 123 ∷ z) ∷ [])) whole (comment_spelled inside all)

result_spelled : (side : Side) (lines : List (List Move))
    → IsSpelled (result_of side lines) ((Written, result_of side lines) ∷ [])
result_spelled side [] = star_spelled
result_spelled White (l ∷ lines) = win_spelled 50 (codes "-0") refl refl refl
result_spelled Black (l ∷ lines) = win_spelled 48 (codes "-2") refl refl refl

result_member : (side : Side) (lines : List (List Move)) → Member (result_of side lines) results
result_member side [] = inr (inr (inr (inr (inr (inr (inr (inl refl)))))))
result_member White (l ∷ lines) = inl refl
result_member Black (l ∷ lines) = inr (inl refl)

-- the marks of the words behind the play
abbrev last_marks : Bool → List ℕ → List (TokenKind × List ℕ)
last_marks true result = (Comment, codes "{more}") ∷ (Written, result) ∷ []
last_marks false result = (Written, result) ∷ []

last_spelled : (more : Bool) (result : List ℕ) → IsSpelled result ((Written, result) ∷ [])
    → AreSpelled (last_words in_movetext more result) (last_marks more result)
last_spelled true result h = (
  (Comment, codes "{more}") ∷ [],
  (Written, result) ∷ [],
  comment_spelled (codes "more") refl,
  spelled_one result ((Written, result) ∷ []) h,
  refl,
)
last_spelled false result h = spelled_one result ((Written, result) ∷ []) h

-- ---- the game
result_token : (t : Token) (result : List ℕ) → mark_of t ≡ (Written, result) → Member result results → IsResult t
result_token t result e here = record {
  written = ap (λ z. z.0) e;
  result = subst (λ z. Member (plain z) results) (sym (ap (λ z. z.1) e)) (results_plain result here);
}

-- play that ends with the words behind it
over_with : PdnIsRead → (g : Geometry) (p : Placement) (more : Bool) (result : List ℕ) (ts us : List Token)
    (moves : List Move) (paths : List (List Move)) → IsVariation g p 40 [] ts moves paths → Member result results
    → map mark_of us ≡ last_marks more result → IsOver g p (ts ++ us) paths
over_with read g p true result ts us moves paths h here e =
    let c = map_cons us (Comment, codes "{more}") ((Written, result) ∷ []) e in
    let d = map_cons c.1 (Written, result) [] c.4 in
    let whole : us ≡ c.0 ∷ d.0 ∷ [] =
    c.2 ∙ (ap (λ z. c.0 ∷ z) d.2 ∙ ap (λ z. c.0 ∷ d.0 ∷ z) (map_none d.1 d.4)) in
    record {
      front = ts ++ c.0 ∷ [];
      result = d.0;
      comments = [];
      played = read g p (ts ++ c.0 ∷ []) moves paths (passed c.0 h (inl (ap (λ z. z.0) c.3)));
      is_result = result_token d.0 result d.3 here;
      are_comments = tt;
      joined = ap (λ z. ts ++ z) whole ∙ sym (append_assoc ts (c.0 ∷ []) (d.0 ∷ []));
    }
over_with read g p false result ts us moves paths h here e =
    let c = map_cons us (Written, result) [] e in
    let whole : us ≡ c.0 ∷ [] = c.2 ∙ ap (λ z. c.0 ∷ z) (map_none c.1 c.4) in
    record {
      front = ts;
      result = c.0;
      comments = [];
      played = read g p ts moves paths h;
      is_result = result_token c.0 result c.3 here;
      are_comments = tt;
      joined = ap (λ z. ts ++ z) whole;
    }

no_member : (paths : List (List Move)) (x : List Move) → Member x paths → 0 < length paths
no_member [] x h = absurd h
no_member (y ∷ paths) x h = omega arith

some_path : (t : Tree) (lines : List (List Move)) → lines_of t ≡ lines → 0 < length lines
    → (path : List Move) × IsBeginning lines path
some_path over lines e some = absurd (omega (arith, some, ap length e))
some_path (branch m b o) lines e some = (m ∷ [], subst (λ z. IsBeginning z (m ∷ [])) e (begin_first m b o))

pub read_back : PdnIsRead → WrittenMoveIsNamed → PlayStays → LegalMovesTake → (g : Geometry) → IsBoard g
    → (heading : Heading) (first : LinesFrom) (many : ℕ) (text : List ℕ) → IsPosition g first.start.cells
    → ((l : List Move) → Member l first.lines → length l ≤ 39) → (written : IsMovetext g heading first many text)
    → 0 < many → IsReadAs g first.start text (take many first.lines)
read_back read_pdn named stays takes g board heading begun many text pos few written some =
    let p : Placement = begun.start in
    let lines : List (List Move) = begun.lines in
    let all = written.is.1 in
    let tree : Tree = all.0 in
    let words : List (List ℕ) = all.1 in
    let whole = all.2 in
    let flag : Bool = is_cut begun many in
    let result : List ℕ = result_of p.turn lines in
    let comment : List ℕ = verdict_comment heading in
    let play = play_words named stays takes g board p tree p pos (first_half p.turn) true words all.3 in
    let last : List (List ℕ) = last_words in_movetext flag result in
    let behind : List (TokenKind × List ℕ) = last_marks flag result in
    let spelled : AreSpelled (comment ∷ (words ++ last)) ((Comment, comment) ∷ (play.0 ++ behind)) = (
      (Comment, comment) ∷ [],
      play.0 ++ behind,
      verdict_spelled heading,
      spelled_append words last play.0 behind play.1 (last_spelled flag result (result_spelled p.turn lines)),
      refl,
    ) in
    let read = lines_read comment (words ++ last) ((Comment, comment) ∷ (play.0 ++ behind)) spelled in
    let front = map_cons read.0 (Comment, comment) (play.0 ++ behind) read.2 in
    let split = map_split front.1 play.0 behind front.4 in
    let opened : IsVariation g p 40 [] (front.0 ∷ []) [] [] = passed front.0 empty (inl (ap (λ z. z.0) front.3)) in
    let fits : Fits 0 tree = fits_lines 0 tree (λ l here. let short = few l (in_take l many lines
    (subst (Member l) whole.lines here)) in omega (arith, short)) in
    let played = play.2 39 [] [] (front.0 ∷ []) split.0 [] [] refl refl (omega arith) fits opened split.3 in
    let ended = over_with read_pdn g p flag result (front.0 ∷ split.0) split.1 played.0 played.1 played.2
    (result_member p.turn lines) split.4 in
    let tokens : front.0 ∷ (split.0 ++ split.1) ≡ read.0 = ap (λ z. front.0 ∷ z) (sym split.2) ∙ sym front.2 in
    let once = distinct_some played.1 in
    let first = some_path tree (take many lines) whole.lines
    (omega (arith, length-take-le many lines written.within, some)) in
    let found : Member first.0 played.1 =
    (played.3 first.0).1 (first.0, refl, subst (λ z. IsBeginning z first.0) (sym whole.lines) first.1) in
    record {
      tree = once.0;
      is = record {
        size = omega (arith, written.short);
        tokens = read.0;
        are_tokens = subst (λ z. AreTokens 1 true z read.0 [])
            (sym (written.is.2 ∙ ap (λ z. in_lines (comment ∷ z)) all.4)) read.1;
        paths = played.1;
        game = inr (subst (λ z. IsOver g p z played.1) tokens ended);
        distinct = once.1;
        some = no_member once.0 first.0 (in_tree first.0 once.1 found);
      };
      paths = λ path. (
        (λ member. let back = (played.3 path).0 (in_paths path once.1 member) in
            subst (λ z. IsBeginning z path) whole.lines (subst (IsBeginning (lines_of tree)) (sym back.1) back.2)),
        (λ begins. in_tree path once.1
            ((played.3 path).1 (path, refl, subst (λ z. IsBeginning z path) (sym whole.lines) begins))),
      );
    }
