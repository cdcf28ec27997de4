-- The play that is read of the words of a tree.
use Rattle.std.proofs.Common.{◌≡◌, ℕ, ◌+◌, ◌-◌, ◌<◌, ◌≤◌, suc, List, [], ◌∷◌, ◌++◌, length, map, refl, sym, ap}
use Rattle.std.proofs.Common.{subst, ◌∙◌, inl, inr, append_assoc, append-nil, length-append, arith}
use Rattle.std.proofs.Common.{Bool, true, false, cond}
use Rattle.std.proofs.Common.{codes, decimal}
use Rattle.std.specs.List.{list_all}
use Rattle.std.specs.Prelude.{◌==◌, ◌||◌, ◌%◌, ◌/◌, Ok}
use Rattle.dw_board.specs.Geometry.{Geometry, IsBoard}
use Rattle.dw_board.specs.Lists.{Member}
use Rattle.dw_board.specs.Placement.{Placement, IsPosition}
use Rattle.dw_moves.specs.Laws.{PlayStays, LegalMovesTake}
use Rattle.dw_moves.specs.Moves.{Move, play}
use Rattle.dw_moves.specs.inner.MemberLemmas.{mem_left, mem_right, mem_cases, mem_map}
use Rattle.dw_notation.specs.MoveReading.{IsRead}
use Rattle.dw_notation.specs.MoveReadingLaws.{WrittenMoveIsNamed}
use Rattle.dw_notation.specs.Text.{IsMoveText}
use Rattle.dw_games.specs.Pdn.{IsVariation, empty, passed, move, variation}
use Rattle.dw_games.specs.Play.{results, plain, after, IsMove}
use Rattle.dw_games.specs.Tokens.{Token, is_dot}
use Rattle.dw_games.specs.declared.tokens.TokenKind.{TokenKind}
use Rattle.dw_games.specs.declared.tokens.TokenKind.TheVariants.{Passed, Written}
use Rattle.dw_solution.specs.Tree.{Tree, over, branch, or_ended, lines_of}
use Rattle.dw_solution.specs.Movetext.{in_movetext}
use Rattle.dw_solution.specs.Words.{AreWords, AreVariations, dots, has_move, in_parentheses, move_words, number_word}
use Rattle.dw_solution.proofs.TreeLemmas.{ended_some}
use Rattle.dw_solution.proofs.WordLemmas.{decimal_digits, text_legal}
use Rattle.dw_solution.proofs.ResultLemmas.{names_mixed, names_plain, names_written, not_result}
use Rattle.dw_solution.proofs.MarkLemmas.{mark_of, opening, closing, IsSpelled, AreSpelled, spelled_one, spelled_append}
use Rattle.dw_solution.proofs.MarkLemmas.{spelled_within, number_spelled, move_spelled}
use Rattle.dw_solution.proofs.PathLemmas.{ArePathsOf, paths_over, paths_branch}

abbrev Mark : Type 0
Mark = TokenKind × List ℕ

abbrev marks_of_move : ℕ → (due : Bool) → List ℕ → List Mark
marks_of_move half due text =
    cond (due || (half % 2 == 0)) ((Passed, number_word in_movetext half) ∷ (Written, text) ∷ []) ((Written, text) ∷ [])

dotted : (half : ℕ) → (0 < length (dots half)) × (list_all is_dot (dots half) ≡ true)
dotted half =
    elim (half % 2 == 0) as (λ b. (0 < length (cond b (codes ".") (codes "...")))
    × (list_all is_dot (cond b (codes ".") (codes "...")) ≡ true)) [
      | true ↦ (omega arith, refl)
      | false ↦ (omega arith, refl)
    ]

spelled_move : (half : ℕ) (due : Bool) (text : List ℕ) → IsSpelled text ((Written, text) ∷ [])
    → AreSpelled (move_words in_movetext half due text) (marks_of_move half due text)
spelled_move half due text h =
    let word : List ℕ = number_word in_movetext half in
    let last : AreSpelled (text ∷ []) ((Written, text) ∷ []) = spelled_one text ((Written, text) ∷ []) h in
    let number : IsSpelled word ((Passed, word) ∷ []) =
    number_spelled (decimal (half / 2 + 1)) (dots half) (decimal_digits (half / 2 + 1)) (dotted half).0
    (dotted half).1 in
    elim (due || (half % 2 == 0)) as (λ b. AreSpelled (cond b (word ∷ []) [] ++ text ∷ [])
    (cond b ((Passed, word) ∷ (Written, text) ∷ []) ((Written, text) ∷ []))) [
      | true ↦ ((Passed, word) ∷ [], (Written, text) ∷ [], number, last, refl)
      | false ↦ last
    ]

-- ---- lists that are mapped to others
head_same : {X : Type 0} {x y : X} {xs ys : List X} → x ∷ xs ≡ y ∷ ys → x ≡ y
head_same e = cc

tail_same : {X : Type 0} {x y : X} {xs ys : List X} → x ∷ xs ≡ y ∷ ys → xs ≡ ys
tail_same e = cc

no_list : {X : Type 0} {x : X} {xs : List X} → [] ≡ x ∷ xs → ⊥
no_list e = cc

pub map_none : (us : List Token) → map mark_of us ≡ [] → us ≡ []
map_none [] e = refl
map_none (u ∷ us) e = absurd (no_list (sym e))

pub map_cons : (us : List Token) (x : Mark) (xs : List Mark) → map mark_of us ≡ x ∷ xs
    → (u : Token) × (vs : List Token) × (us ≡ u ∷ vs) × (mark_of u ≡ x) × (map mark_of vs ≡ xs)
map_cons [] x xs e = absurd (no_list e)
map_cons (u ∷ us) x xs e = (u, us, refl, head_same e, tail_same e)

pub map_split : (us : List Token) (xs ys : List Mark) → map mark_of us ≡ xs ++ ys
    → (a : List Token) × (b : List Token) × (us ≡ a ++ b) × (map mark_of a ≡ xs) × (map mark_of b ≡ ys)
map_split us [] ys e = ([], us, refl, refl, e)
map_split us (x ∷ xs) ys e =
    let c = map_cons us x (xs ++ ys) e in
    let rest = map_split c.1 xs ys c.4 in (
      c.0 ∷ rest.0,
      rest.1,
      c.2 ∙ ap (λ z. c.0 ∷ z) rest.2,
      ap (λ z. mark_of c.0 ∷ z) rest.3 ∙ ap (λ z. z ∷ xs) c.3,
      rest.4,
    )

-- ---- no path is too long
abbrev pub Fits : ℕ → Tree → Type 0
Fits n over = Unit {0}
Fits n (branch m b o) = (n < 39) × Fits (n + 1) b × Fits n o

ended_member : (l : List Move) (lines : List (List Move)) → Member l lines → Member l (or_ended lines)
ended_member l [] h = absurd h
ended_member l (k ∷ lines) h = h

pub fits_lines : (n : ℕ) (t : Tree) → ((l : List Move) → Member l (lines_of t) → n + length l ≤ 39) → Fits n t
fits_lines n over h = tt
fits_lines n (branch m b o) h =
    let f : List Move → List Move = λ l. m ∷ l in
    let some = ended_some (lines_of b) in
    let one : n + length (m ∷ some.0) ≤ 39 =
    h (m ∷ some.0) (mem_left (m ∷ some.0) (map f (or_ended (lines_of b))) (lines_of o)
    (mem_map f some.0 (or_ended (lines_of b)) (subst (Member some.0) (sym some.2) (inl refl)))) in (
      omega (arith, one),
      fits_lines (n + 1) b (λ l here. let long : n + length (m ∷ l) ≤ 39 =
          h (m ∷ l) (mem_left (m ∷ l) (map f (or_ended (lines_of b))) (lines_of o)
          (mem_map f l (or_ended (lines_of b)) (ended_member l (lines_of b) here))) in omega (arith, long)),
      fits_lines n o (λ l here. h l (mem_right l (map f (or_ended (lines_of b))) (lines_of o) here)),
    )

after_more : (g : Geometry) (p : Placement) (path : List Move) (m : Move)
    → after g p (path ++ m ∷ []) ≡ play g (after g p path) m
after_more g p [] m = refl
after_more g p (n ∷ path) m = after_more g (play g p n) path m

move_token : (g : Geometry) (q : Placement) (m : Move) (text : List ℕ) (t : Token) → mark_of t ≡ (Written, text)
    → IsRead g q text (Ok m) → plain text ≡ text → (Member text results → ⊥) → IsMove g q t m
move_token g q m text t e read same none =
    let is : t.text ≡ text = ap (λ z. z.1) e in
    record {
      written = ap (λ z. z.0) e;
      no_result = λ r. none (subst (λ z. Member z results) (ap plain is ∙ same) r.result);
      named = subst (λ z. IsRead g q (plain z) (Ok m)) (sym is) (subst (λ z. IsRead g q z (Ok m)) (sym same) read);
    }

module _ (named : WrittenMoveIsNamed) (stays : PlayStays) (takes : LegalMovesTake) (g : Geometry) (board : IsBoard g)
    (p : Placement) where
  -- a move is played that is read of its words
  play_one : (room : ℕ) (before moves : List Move) (ts : List Token) (paths : List (List Move)) (path : List Move)
      (q : Placement) (m : Move) (text : List ℕ) (t : Token) → q ≡ after g p path → before ++ moves ≡ path
      → length path < 39 → IsPosition g q.cells → IsMoveText g q m text → IsVariation g p room before ts moves paths
      → mark_of t ≡ (Written, text)
      → IsVariation g p room before (ts ++ t ∷ []) (moves ++ m ∷ []) (paths ++ (path ++ m ∷ []) ∷ [])
  play_one room before moves ts paths path q m text t here join short pos is h e =
      let at : after g p (before ++ moves) ≡ q = ap (after g p) join ∙ sym here in
      let read = named g board q pos m text is in
      let token : IsMove g q t m =
      move_token g q m text t e read (names_plain read.names)
      (not_result takes g q m text (names_written read.names) read) in
      let joined : before ++ (moves ++ m ∷ []) ≡ path ++ m ∷ [] =
      sym (append_assoc before moves (m ∷ [])) ∙ ap (λ z. z ++ m ∷ []) join in
      subst (λ z. IsVariation g p room before (ts ++ t ∷ []) (moves ++ m ∷ []) (paths ++ z ∷ [])) joined
      (move h (subst (λ z. length z < 39) (sym join) short) (subst (λ z. IsMove g z t m) (sym at) token))

  play_step : (room : ℕ) (before moves : List Move) (ts us : List Token) (paths : List (List Move)) (path : List Move)
      (q : Placement) (m : Move) (half : ℕ) (due : Bool) (text : List ℕ) → q ≡ after g p path → before ++ moves ≡ path
      → length path < 39 → IsPosition g q.cells → IsMoveText g q m text → IsVariation g p room before ts moves paths
      → map mark_of us ≡ marks_of_move half due text
      → IsVariation g p room before (ts ++ us) (moves ++ m ∷ []) (paths ++ (path ++ m ∷ []) ∷ [])
  play_step room before moves ts us paths path q m half due text here join short pos is h e =
      let Goal : List Token → Type 0 = λ z. IsVariation g p room before z (moves ++ m ∷ [])
      (paths ++ (path ++ m ∷ []) ∷ []) in
      let plain : map mark_of us ≡ (Written, text) ∷ [] → Goal (ts ++ us) = λ same.
      let c = map_cons us (Written, text) [] same in
      let whole : us ≡ c.0 ∷ [] = c.2 ∙ ap (λ z. c.0 ∷ z) (map_none c.1 c.4) in
      subst (λ z. Goal (ts ++ z)) (sym whole)
      (play_one room before moves ts paths path q m text c.0 here join short pos is h c.3) in
      let n : List ℕ = number_word in_movetext half in
      let numbered : map mark_of us ≡ (Passed, n) ∷ (Written, text) ∷ [] → Goal (ts ++ us) = λ same.
      let c = map_cons us (Passed, n) ((Written, text) ∷ []) same in
      let d = map_cons c.1 (Written, text) [] c.4 in
      let whole : us ≡ c.0 ∷ d.0 ∷ [] =
      c.2 ∙ (ap (λ z. c.0 ∷ z) d.2 ∙ ap (λ z. c.0 ∷ d.0 ∷ z) (map_none d.1 d.4)) in
      subst (λ z. Goal (ts ++ z)) (sym whole) (subst Goal (append_assoc ts (c.0 ∷ []) (d.0 ∷ []))
      (play_one room before moves (ts ++ c.0 ∷ []) paths path q m text d.0 here join short pos is
      (passed c.0 h (inr (ap (λ z. z.0) c.3))) d.3)) in
      let go : (b : Bool) → map mark_of us ≡ cond b ((Passed, n) ∷ (Written, text) ∷ []) ((Written, text) ∷ [])
      → Goal (ts ++ us) = elim [
        | true ↦ λ same. numbered same
        | false ↦ λ same. plain same
      ] in
      go (due || (half % 2 == 0)) e

  -- what words that are read as these marks say of a tree: play that goes on, or variations
  abbrev pub Plays : Tree → Placement → List Mark → Type 0
  Plays t q ks = (room : ℕ) (before moves : List Move) (ts us : List Token) (paths : List (List Move))
      (path : List Move)
      → q ≡ after g p path → before ++ moves ≡ path → 40 ≤ suc room + length path → Fits (length path) t
      → IsVariation g p (suc room) before ts moves paths → map mark_of us ≡ ks
      → (more : List Move) × (new : List (List Move))
      × IsVariation g p (suc room) before (ts ++ us) (moves ++ more) (paths ++ new) × ArePathsOf t path new

  abbrev Varies : Tree → Placement → List Mark → Type 0
  Varies t q ks = (room : ℕ) (before moves : List Move) (last : Move) (ts us : List Token) (paths : List (List Move))
      (path : List Move)
      → q ≡ after g p path → before ++ moves ≡ path → 40 ≤ suc room + length path → Fits (length path) t
      → IsVariation g p (suc room) before ts (moves ++ last ∷ []) paths → map mark_of us ≡ ks
      → (new : List (List Move))
      × IsVariation g p (suc room) before (ts ++ us) (moves ++ last ∷ []) (paths ++ new) × ArePathsOf t path new

  plays_over : (q : Placement) → Plays over q []
  plays_over q room before moves ts us paths path here join deep fits h e = (
    [],
    [],
    subst (λ z. IsVariation g p (suc room) before z (moves ++ []) (paths ++ []))
        (sym (append-nil ts) ∙ ap (λ z. ts ++ z) (sym (map_none us e)))
        (subst (λ z. IsVariation g p (suc room) before ts z (paths ++ [])) (sym (append-nil moves))
        (subst (λ z. IsVariation g p (suc room) before ts moves z) (sym (append-nil paths)) h)),
    paths_over path,
  )

  varies_over : (q : Placement) → Varies over q []
  varies_over q room before moves last ts us paths path here join deep fits h e = (
    [],
    subst (λ z. IsVariation g p (suc room) before z (moves ++ last ∷ []) (paths ++ []))
        (sym (append-nil ts) ∙ ap (λ z. ts ++ z) (sym (map_none us e)))
        (subst (λ z. IsVariation g p (suc room) before ts (moves ++ last ∷ []) z) (sym (append-nil paths)) h),
    paths_over path,
  )

  fits_behind : (path : List Move) (m : Move) (b : Tree) → Fits (length path + 1) b
      → Fits (length (path ++ m ∷ [])) b
  fits_behind path m b h = subst (λ z. Fits z b) (sym (length-append path (m ∷ []))) h

  plays_branch : (m : Move) (b o : Tree) (q : Placement) (half : ℕ) (due : Bool) (text : List ℕ)
      (kv kr : List Mark) → IsPosition g q.cells → IsMoveText g q m text → Varies o q kv
      → Plays b (play g q m) kr → Plays (branch m b o) q (marks_of_move half due text ++ (kv ++ kr))
  plays_branch m b o q half due text kv kr pos is varies plays room before moves ts us paths path here join deep fits h
      e =
      let one = map_split us (marks_of_move half due text) (kv ++ kr) e in
      let two = map_split one.1 kv kr one.4 in
      let x : List Move = path ++ m ∷ [] in
      let long : length x ≡ length path + 1 = length-append path (m ∷ []) in
      let first = play_step (suc room) before moves ts one.0 paths path q m half due text here join fits.0 pos is h
      one.3 in
      let beside = varies room before moves m (ts ++ one.0) two.0 (paths ++ x ∷ []) path here join deep fits.2 first
      two.3 in
      let behind = plays room before (moves ++ m ∷ []) ((ts ++ one.0) ++ two.0) two.1 ((paths ++ x ∷ []) ++ beside.0) x
      (ap (λ z. play g z m) here ∙ sym (after_more g p path m))
      (sym (append_assoc before moves (m ∷ [])) ∙ ap (λ z. z ++ m ∷ []) join) (omega (arith, deep, long))
      (fits_behind path m b fits.1) beside.1 two.4 in
      let new : List (List Move) = x ∷ (beside.0 ++ behind.1) in
      let tokens : ((ts ++ one.0) ++ two.0) ++ two.1 ≡ ts ++ us =
      append_assoc (ts ++ one.0) two.0 two.1 ∙ (append_assoc ts one.0 (two.0 ++ two.1)
      ∙ ap (λ z. ts ++ z) (ap (λ z. one.0 ++ z) (sym two.2) ∙ sym one.2)) in
      let gone : (moves ++ m ∷ []) ++ behind.0 ≡ moves ++ m ∷ behind.0 = append_assoc moves (m ∷ []) behind.0 in
      let all : ((paths ++ x ∷ []) ++ beside.0) ++ behind.1 ≡ paths ++ new =
      append_assoc (paths ++ x ∷ []) beside.0 behind.1
      ∙ append_assoc paths (x ∷ []) (beside.0 ++ behind.1) in (
        m ∷ behind.0,
        new,
        subst (λ z. IsVariation g p (suc room) before z (moves ++ m ∷ behind.0) (paths ++ new)) tokens
            (subst (λ z. IsVariation g p (suc room) before (((ts ++ one.0) ++ two.0) ++ two.1) z (paths ++ new)) gone
            (subst (λ z. IsVariation g p (suc room) before (((ts ++ one.0) ++ two.0) ++ two.1)
            ((moves ++ m ∷ []) ++ behind.0) z) all behind.2)),
        paths_branch m b o path new beside.0 behind.1
            (λ y there. elim there [ inl is ↦ inl is | inr more ↦ inr (mem_cases y beside.0 behind.1 more) ])
            (λ y there. elim there [
              | inl is ↦ inl is
              | inr (inl left) ↦ inr (mem_left y beside.0 behind.1 left)
              | inr (inr right) ↦ inr (mem_right y beside.0 behind.1 right)
            ]) beside.2 behind.3,
      )

  varies_branch : (m : Move) (b o : Tree) (q : Placement) (half : ℕ) (text : List ℕ)
      (kr ko : List Mark) → IsPosition g q.cells → IsMoveText g q m text → Plays b (play g q m) kr
      → Varies o q ko
      → Varies (branch m b o) q ((opening ∷ ((marks_of_move half true text ++ kr) ++ closing ∷ [])) ++ ko)
  varies_branch m b o q half text kr ko pos is plays varies room before moves last ts us paths path
      here join deep fits h
      e =
      let x : List Move = path ++ m ∷ [] in
      let long : length x ≡ length path + 1 = length-append path (m ∷ []) in
      let marks : List Mark = marks_of_move half true text in
      let outer = map_split us (opening ∷ ((marks ++ kr) ++ closing ∷ [])) ko e in
      let opened = map_cons outer.0 opening ((marks ++ kr) ++ closing ∷ []) outer.3 in
      let inside = map_split opened.1 (marks ++ kr) (closing ∷ []) opened.4 in
      let closed_up = map_cons inside.1 closing [] inside.4 in
      let words = map_split inside.0 marks kr inside.3 in
      let r : ℕ = room - 1 in
      let room_is : suc r ≡ room = omega (arith, deep, fits.0) in
      let first = play_step (suc r) path [] [] words.0 [] path q m half true text here (append-nil path) fits.0 pos is
      empty words.3 in
      let behind = plays r path (m ∷ []) words.0 words.1 (x ∷ []) x
      (ap (λ z. play g z m) here ∙ sym (after_more g p path m)) refl (omega (arith, deep, long, room_is))
      (fits_behind path m b fits.1) first words.4 in
      let others : List Move = m ∷ behind.0 in
      let new : List (List Move) = x ∷ behind.1 in
      let inner : IsVariation g p room (before ++ moves) inside.0 others new =
      subst (λ z. IsVariation g p room z inside.0 others new) (sym join)
      (subst (λ z. IsVariation g p room path z others new) (sym words.2)
      (subst (λ z. IsVariation g p z path (words.0 ++ words.1) others new) room_is behind.2)) in
      let tokens : opened.0 ∷ (inside.0 ++ closed_up.0 ∷ []) ≡ outer.0 =
      ap (λ z. opened.0 ∷ z) (ap (λ z. inside.0 ++ z) (ap (λ z. closed_up.0 ∷ z)
      (sym (map_none closed_up.1 closed_up.4))
      ∙ sym closed_up.2) ∙ sym inside.2) ∙ sym opened.2 in
      let one : IsVariation g p (suc room) before (ts ++ outer.0) (moves ++ last ∷ []) (paths ++ new) =
      subst (λ z. IsVariation g p (suc room) before (ts ++ z) (moves ++ last ∷ []) (paths ++ new)) tokens
      (variation moves last opened.0 closed_up.0 h (ap (λ z. z.0) opened.3) inner (ap (λ z. z.0) closed_up.3)) in
      let beside = varies room before moves last (ts ++ outer.0) outer.1 (paths ++ new) path here join deep fits.2 one
      outer.4 in
      let all : List (List Move) = new ++ beside.0 in (
        all,
        subst (λ z. IsVariation g p (suc room) before z (moves ++ last ∷ []) (paths ++ all))
            (append_assoc ts outer.0 outer.1 ∙ ap (λ z. ts ++ z) (sym outer.2))
            (subst (λ z. IsVariation g p (suc room) before ((ts ++ outer.0) ++ outer.1) (moves ++ last ∷ []) z)
            (append_assoc paths new beside.0) beside.1),
        paths_branch m b o path all beside.0 behind.1
            (λ y there. elim there [
              | inl is ↦ inl is
              | inr more ↦ elim (mem_cases y behind.1 beside.0 more) [
                | inl left ↦ inr (inr left)
                | inr right ↦ inr (inl right)
              ]
            ])
            (λ y there. elim there [
              | inl is ↦ inl is
              | inr (inl left) ↦ inr (mem_right y behind.1 beside.0 left)
              | inr (inr right) ↦ inr (mem_left y behind.1 beside.0 right)
            ]) beside.2 behind.3,
      )

  text_spelled : (q : Placement) → IsPosition g q.cells → (m : Move) (text : List ℕ) → IsMoveText g q m text
      → IsSpelled text ((Written, text) ∷ [])
  text_spelled q pos m text is =
      let names = (named g board q pos m text is).names in move_spelled text (names_written names) (names_mixed names)

  mutual
    pub play_words : (t : Tree) (q : Placement) → IsPosition g q.cells → (half : ℕ) (due : Bool)
        (words : List (List ℕ)) → AreWords in_movetext g q half due t words
        → (ks : List Mark) × AreSpelled words ks × Plays t q ks
    play_words over q pos half due words h = ([], subst (λ z. AreSpelled z []) (sym h) refl, plays_over q)
    play_words (branch m b o) q pos half due words (text, variations, rest, is, beside, next, e) =
        let after_move = stays g board q m pos (text_legal g q m text is) in
        let v = variation_words o q pos half variations beside in
        let r = play_words b (play g q m) after_move (half + 1) (has_move o) rest next in
        let marks : List Mark = marks_of_move half due text in (
          marks ++ (v.0 ++ r.0),
          subst (λ z. AreSpelled z (marks ++ (v.0 ++ r.0))) (sym e)
              (spelled_append (move_words in_movetext half due text) (variations ++ rest) marks (v.0 ++ r.0)
              (spelled_move half due text (text_spelled q pos m text is))
              (spelled_append variations rest v.0 r.0 v.1 r.1)),
          plays_branch m b o q half due text v.0 r.0 pos is v.2 r.2,
        )

    variation_words : (t : Tree) (q : Placement) → IsPosition g q.cells → (half : ℕ) (words : List (List ℕ))
        → AreVariations in_movetext g q half t words → (ks : List Mark) × AreSpelled words ks × Varies t q ks
    variation_words over q pos half words h = ([], subst (λ z. AreSpelled z []) (sym h) refl, varies_over q)
    variation_words (branch m b o) q pos half words (text, rest, more, is, next, beside, e) =
        let after_move = stays g board q m pos (text_legal g q m text is) in
        let r = play_words b (play g q m) after_move (half + 1) false rest next in
        let v = variation_words o q pos half more beside in
        let marks : List Mark = marks_of_move half true text in
        let inner : List (List ℕ) = move_words in_movetext half true text ++ rest in
        let around : List Mark = opening ∷ ((marks ++ r.0) ++ closing ∷ []) in
        let spelled : AreSpelled inner (marks ++ r.0) =
        spelled_append (move_words in_movetext half true text) rest marks r.0
        (spelled_move half true text (text_spelled q pos m text is)) r.1 in
        let within : AreSpelled (in_parentheses in_movetext inner) around =
        spelled_within (number_word in_movetext half) (text ∷ rest) (marks ++ r.0) spelled in (
          around ++ v.0,
          subst (λ z. AreSpelled z (around ++ v.0)) (sym e)
              (spelled_append (in_parentheses in_movetext inner) more around v.0 within v.1),
          varies_branch m b o q half text r.0 v.0 pos is r.2 v.2,
        )
