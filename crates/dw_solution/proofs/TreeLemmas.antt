-- A line put behind the lines of a tree.
use Rattle.std.proofs.Common.{◌≡◌, List, [], ◌∷◌, ◌++◌, map, refl, sym, ap, ◌∙◌}
use Rattle.std.proofs.Common.{append-nil, append_assoc}
use Rattle.std.proofs.lemmas.List.{map-append}
use Rattle.dw_moves.specs.Moves.{Move}
use Rattle.dw_solution.specs.Tree.{Tree, over, branch, or_ended, lines_of, IsNotFirst, AreApart}
use Rattle.dw_solution.specs.inner.Steps.{last_line}

-- the tree of one line
abbrev pub straight : List Move → Tree
straight [] = over
straight (m ∷ moves) = branch m (straight moves) over

pub lines_straight : (m : Move) (moves : List Move) → lines_of (straight (m ∷ moves)) ≡ (m ∷ moves) ∷ []
lines_straight m [] = refl
lines_straight m (n ∷ moves) = ap (λ z. map (λ l. m ∷ l) (or_ended z) ++ []) (lines_straight n moves)

apart_straight : (moves : List Move) → AreApart (straight moves)
apart_straight [] = tt
apart_straight (m ∷ moves) = (tt, apart_straight moves, tt)

pub no_branch : (m : Move) (b o : Tree) → branch m b o ≡ over → ⊥
no_branch m b o e = cc

-- ways to go on, or the one that ends, are never none
pub ended_some : (lines : List (List Move)) → (l : List Move) × (rest : List (List Move)) × (or_ended lines ≡ l ∷ rest)
ended_some [] = ([], [], refl)
ended_some (l ∷ lines) = (l, lines, refl)

pub lines_some : (m : Move) (b o : Tree) → (l : List Move) × (rest : List (List Move))
    × (lines_of (branch m b o) ≡ l ∷ rest)
lines_some m b o =
    let some = ended_some (lines_of b) in
    (m ∷ some.0, map (λ l. m ∷ l) some.1 ++ lines_of o, ap (λ z. map (λ l. m ∷ l) z ++ lines_of o) some.2)

-- ---- the last line
pub last_append : (lines : List (List Move)) (l : List Move) (more : List (List Move))
    → last_line (lines ++ l ∷ more) ≡ last_line (l ∷ more)
last_append [] l more = refl
last_append (k ∷ []) l more = refl
last_append (k ∷ j ∷ lines) l more = last_append (j ∷ lines) l more

last_map : (m : Move) (l : List Move) (lines : List (List Move)) → last_line (map (λ k. m ∷ k) (l ∷ lines))
    ≡ m ∷ last_line (l ∷ lines)
last_map m l [] = refl
last_map m l (k ∷ lines) = last_map m k lines

-- that of a tree where no other moves stand beside the first
pub last_alone : (m : Move) (b : Tree) → last_line (lines_of (branch m b over)) ≡ m ∷ last_line (or_ended (lines_of b))
last_alone m b =
    let some = ended_some (lines_of b) in
    ap (λ z. last_line (map (λ l. m ∷ l) z ++ [])) some.2
    ∙ (ap last_line (append-nil (map (λ l. m ∷ l) (some.0 ∷ some.1)))
    ∙ (last_map m some.0 some.1 ∙ ap (λ z. m ∷ last_line z) (sym some.2)))

-- that of a tree where some do
pub last_beside : (m n : Move) (b c o : Tree) → last_line (lines_of (branch m b (branch n c o)))
    ≡ last_line (lines_of (branch n c o))
last_beside m n b c o =
    let some = lines_some n c o in
    let front : List (List Move) = map (λ l. m ∷ l) (or_ended (lines_of b)) in
    ap (λ z. last_line (front ++ z)) some.2 ∙ (last_append front some.0 some.1 ∙ ap last_line (sym some.2))

-- ---- one more line
-- a tree has one more line than another, behind all others; m is the move by which it leaves them
pub record Grown (old new : Tree) (m : Move) (line : List Move) : Type 0 where
  pub lines : lines_of new ≡ lines_of old ++ line ∷ []
  pub apart : AreApart old → AreApart new
  pub first : (n : Move) → IsNotFirst n old → (old ≡ over → n ≡ m → ⊥) → IsNotFirst n new

pub grown_new : (m : Move) (moves : List Move) → Grown over (straight (m ∷ moves)) m (m ∷ moves)
grown_new m moves = record {
  lines = lines_straight m moves;
  apart = λ h. apart_straight (m ∷ moves);
  first = λ n h differ. differ refl;
}

-- behind the first move
pub grown_behind : (n p : Move) (b c : Tree) (m : Move) (line l : List Move) (rest : List (List Move))
    → lines_of b ≡ l ∷ rest → Grown b c m line → Grown (branch n b over) (branch n c over) p (n ∷ line)
grown_behind n p b c m line l rest some h =
    let f : List Move → List Move = λ k. n ∷ k in
    let all : lines_of c ≡ l ∷ (rest ++ line ∷ []) = h.lines ∙ ap (λ z. z ++ line ∷ []) some in
    let new : map f (or_ended (lines_of c)) ++ [] ≡ map f (l ∷ (rest ++ line ∷ [])) =
    ap (λ z. map f (or_ended z) ++ []) all ∙ append-nil (map f (l ∷ (rest ++ line ∷ []))) in
    let old : map f (or_ended (lines_of b)) ++ [] ≡ map f (l ∷ rest) =
    ap (λ z. map f (or_ended z) ++ []) some ∙ append-nil (map f (l ∷ rest)) in
    record {
      lines = new ∙ (map-append f (l ∷ rest) (line ∷ []) ∙ ap (λ z. z ++ (n ∷ line) ∷ []) (sym old));
      apart = λ a. (tt, h.apart a.1, tt);
      first = λ j ne differ. ne;
    }

-- in place of it, where no other move stands beside it
pub grown_beside : (n : Move) (b : Tree) (m : Move) (moves : List Move) → (n ≡ m → ⊥)
    → Grown (branch n b over) (branch n b (straight (m ∷ moves))) m (m ∷ moves)
grown_beside n b m moves ne =
    let front : List (List Move) = map (λ l. n ∷ l) (or_ended (lines_of b)) in
    record {
      lines = ap (λ z. front ++ z) (lines_straight m moves) ∙ ap (λ z. z ++ (m ∷ moves) ∷ []) (sym (append-nil front));
      apart = λ a. (ne, a.1, apart_straight (m ∷ moves));
      first = λ j h differ. h;
    }

-- and where others do
pub grown_later : (n k : Move) (b c o other : Tree) (m : Move) (line : List Move)
    → Grown (branch k c o) other m line → Grown (branch n b (branch k c o)) (branch n b other) m line
grown_later n k b c o other m line h =
    let front : List (List Move) = map (λ l. n ∷ l) (or_ended (lines_of b)) in
    record {
      lines = ap (λ z. front ++ z) h.lines ∙ sym (append_assoc front (lines_of (branch k c o)) (line ∷ []));
      apart = λ a. (h.first n a.0 (λ e. absurd (no_branch k c o e)), a.1, h.apart a.2);
      first = λ j ne differ. ne;
    }
