-- The beginnings of a tree are played: each is a shorter one, or none, with a legal move behind it.
use Rattle.std.proofs.Common.{◌≡◌, ◌⊎◌, ℕ, List, [], ◌∷◌, ◌++◌, refl, sym, subst, ◌∙◌, inl, inr, append-nil}
use Rattle.std.proofs.Common.{append_assoc, Option, Some, None}
use Rattle.std.specs.Prelude.{◌==◌}
use Rattle.std.proofs.lemmas.Bool.{cases_Bool}
use Rattle.dw_board.specs.Geometry.{Geometry}
use Rattle.dw_board.specs.Placement.{Placement}
use Rattle.dw_board.specs.Lists.{Member}
use Rattle.dw_moves.specs.Moves.{Move, Legal, play}
use Rattle.dw_moves.specs.inner.MemberLemmas.{mem_left, mem_right, mem_cases}
use Rattle.dw_games.specs.Tokens.{Token}
use Rattle.dw_games.specs.Play.{after, beginnings_after, StandsFor, named, left_out}
use Rattle.dw_games.specs.Printed.{Kind, variation, reply, Line, begins, goes_on, Follows, opens_variation, opens_reply}
use Rattle.dw_games.specs.Printed.{alone, by_play, after_reply, left_out_again, IsLine, empty, passed, move, aside}
use Rattle.dw_games.specs.Printed.{IsPlay, answer_of, count_moves}
use Rattle.dw_games.specs.Movetext.{AreDistinct, nothing, again, first, IsGame, IsTree}
use Rattle.dw_games.specs.Laws.{IsPlayed}
use Rattle.dw_games.proofs.PrintedLemmas.{IsInside, inside}
use Rattle.dw_games.proofs.ReadingLemmas.{after_append}
use Rattle.dw_games.proofs.TakenLemmas.{read_legal}

-- ---- beginnings that are known, or stand among some paths
abbrev Known : (List Move → Type 0) → List (List Move) → List Move → Type 0
Known K paths path = K path ⊎ Member path paths

-- some moves after others, and each beginning of them
abbrev AllKnown : (List Move → Type 0) → List (List Move) → (before moves : List Move) → Type 0
AllKnown K paths before [] = Known K paths before
AllKnown K paths before (m ∷ moves) = Known K paths before × AllKnown K paths (before ++ m ∷ []) moves

abbrev LineKnown : (List Move → Type 0) → List (List Move) → Line → Type 0
LineKnown K paths (begins front last) = Known K paths front × Known K paths (front ++ last ∷ [])
LineKnown K paths (goes_on kind before moves None) = AllKnown K paths before moves × Unit {0}
LineKnown K paths (goes_on kind before moves (Some answer)) =
    AllKnown K paths before moves × AllKnown K paths before (moves ++ answer)

-- a path is played after one of these
record PlayedFrom (g : Geometry) (p : Placement) (K : List Move → Type 0) (paths : List (List Move)) (path : List Move)
    : Type 0 where
  front : List Move
  last : Move
  is : path ≡ front ++ last ∷ []
  legal : Legal g (after g p front) last
  there : Known K paths front

record Played (g : Geometry) (p : Placement) (K : List Move → Type 0) (line : Line) (paths : List (List Move))
    : Type 0 where
  known : LineKnown K paths line
  each : (path : List Move) → Member path paths → PlayedFrom g p K paths path

module _ (K : List Move → Type 0) where
  known_left : (paths more : List (List Move)) (path : List Move) → Known K paths path → Known K (paths ++ more) path
  known_left paths more path (inl k) = inl k
  known_left paths more path (inr m) = inr (mem_left path paths more m)

  all_left : (paths more : List (List Move)) (before moves : List Move) → AllKnown K paths before moves
      → AllKnown K (paths ++ more) before moves
  all_left paths more before [] h = known_left paths more before h
  all_left paths more before (m ∷ moves) h =
      (known_left paths more before h.0, all_left paths more (before ++ m ∷ []) moves h.1)

  all_append : (paths : List (List Move)) (before moves more : List Move) → AllKnown K paths before moves
      → AllKnown K paths (before ++ moves) more → AllKnown K paths before (moves ++ more)
  all_append paths before [] more h k = subst (λ z. AllKnown K paths z more) (append-nil before) k
  all_append paths before (m ∷ moves) more h k = (
    h.0,
    all_append paths (before ++ m ∷ []) moves more h.1 (subst (λ z. AllKnown K paths z more)
        (sym (append_assoc before (m ∷ []) moves)) k),
  )

  all_whole : (paths : List (List Move)) (before moves : List Move) → AllKnown K paths before moves
      → Known K paths (before ++ moves)
  all_whole paths before [] h = subst (Known K paths) (sym (append-nil before)) h
  all_whole paths before (m ∷ moves) h =
      subst (Known K paths) (append_assoc before (m ∷ []) moves) (all_whole paths (before ++ m ∷ []) moves h.1)

  all_front : (paths : List (List Move)) (before moves : List Move) (last : Move)
      → AllKnown K paths before (moves ++ last ∷ []) → Known K paths (before ++ moves)
  all_front paths before [] last h = subst (Known K paths) (sym (append-nil before)) h.0
  all_front paths before (m ∷ moves) last h =
      subst (Known K paths) (append_assoc before (m ∷ []) moves) (all_front paths (before ++ m ∷ []) moves last h.1)

  line_moves : (paths : List (List Move)) (kind : Kind) (before moves : List Move) (answer : Option (List Move))
      → LineKnown K paths (goes_on kind before moves answer) → AllKnown K paths before moves
  line_moves paths kind before moves None h = h.0
  line_moves paths kind before moves (Some answer) h = h.0

  line_left : (paths more : List (List Move)) (line : Line) → LineKnown K paths line → LineKnown K (paths ++ more) line
  line_left paths more (begins front last) h =
      (known_left paths more front h.0, known_left paths more (front ++ last ∷ []) h.1)
  line_left paths more (goes_on kind before moves None) h = (all_left paths more before moves h.0, tt)
  line_left paths more (goes_on kind before moves (Some answer)) h =
      (all_left paths more before moves h.0, all_left paths more before (moves ++ answer) h.1)

  -- after moves that are added in turn
  all_new : (paths : List (List Move)) (path more : List Move) → Known K paths path
      → AllKnown K (paths ++ beginnings_after path more) path more
  all_new paths path [] k = known_left paths [] path k
  all_new paths path (m ∷ more) k =
      let one : List Move = path ++ m ∷ [] in
      let rest = all_new (paths ++ one ∷ []) one more (inr (mem_right one paths (one ∷ []) (inl refl))) in (
        known_left paths (beginnings_after path (m ∷ more)) path k,
        subst (λ z. AllKnown K z one more) (append_assoc paths (one ∷ []) (beginnings_after one more)) rest,
      )

-- what is known within parentheses is known around them
module _ (K : List Move → Type 0) (paths more : List (List Move)) where
  outward : (path : List Move) → Known (Known K paths) more path → Known K (paths ++ more) path
  outward path (inl known) = known_left K paths more path known
  outward path (inr m) = inr (mem_right path paths more m)

  all_outward : (before moves : List Move) → AllKnown (Known K paths) more before moves
      → AllKnown K (paths ++ more) before moves
  all_outward before [] h = outward before h
  all_outward before (m ∷ moves) h = (outward before h.0, all_outward (before ++ m ∷ []) moves h.1)

-- ---- legal moves, one after another
abbrev AllLegal : Geometry → Placement → (path moves : List Move) → Type 0
AllLegal g p path [] = Unit {0}
AllLegal g p path (m ∷ moves) = Legal g (after g p path) m × AllLegal g p (path ++ m ∷ []) moves

module _ (g : Geometry) (p : Placement) where
  stands_legal : {path more : List Move} {t : Token} → StandsFor g p path t more → AllLegal g p path more
  stands_legal {path = path} (named {m = m} low is) = (read_legal g (after g p path) _ m is.named, tt)
  stands_legal {path = path} (left_out {reply = r} {m = m} low odd is) = (
    is.only.legal,
    (subst (λ z. Legal g z m) (sym (after_append g p path r)) (read_legal g _ _ m is.next.named), tt),
  )

  follows_legal : {line : Line} {t : Token} {kind : Kind} {before moves more : List Move}
      → Follows g p line t kind before moves more → AllLegal g p (before ++ moves) more
  follows_legal (opens_variation {front = front} {m = m} is) =
      subst (λ z. AllLegal g p z (m ∷ [])) (sym (append-nil front)) (read_legal g (after g p front) _ m is.named, tt)
  follows_legal {before = before} {more = more} (opens_reply none is) =
      subst (λ z. AllLegal g p z more) (sym (append-nil before)) (stands_legal is)
  follows_legal (alone is) = stands_legal is
  follows_legal {before = before} {moves = moves} (by_play {m = m} low is) =
      (read_legal g (after g p (before ++ moves)) _ m is.named, tt)
  follows_legal (after_reply none is) = stands_legal is
  follows_legal {t = t} (left_out_again none low odd is) = stands_legal {t = t} (left_out low odd is)

  module _ (K : List Move → Type 0) where
    follows_known : {line : Line} {t : Token} {kind : Kind} {before moves more : List Move} (paths : List (List Move))
        → Follows g p line t kind before moves more → LineKnown K paths line → AllKnown K paths before moves
    follows_known paths (opens_variation is) h = h.0
    follows_known paths (opens_reply none is) h = h.1
    follows_known paths (alone is) h = h.0
    follows_known paths (by_play low is) h = h.0
    follows_known paths (after_reply none is) h = h.1
    follows_known paths (left_out_again none low odd is) h = h.0

    played_left : (paths more : List (List Move)) (path : List Move) → PlayedFrom g p K paths path
        → PlayedFrom g p K (paths ++ more) path
    played_left paths more path h = record {
      front = h.front;
      last = h.last;
      is = h.is;
      legal = h.legal;
      there = known_left K paths more h.front h.there;
    }

    played_new : (paths : List (List Move)) (path more : List Move) → Known K paths path → AllLegal g p path more
        → (each : List Move) → Member each (beginnings_after path more)
        → PlayedFrom g p K (paths ++ beginnings_after path more) each
    played_new paths path [] k legal each there = absurd there
    played_new paths path (m ∷ more) k legal each (inl e) = record {
      front = path;
      last = m;
      is = e;
      legal = legal.0;
      there = known_left K paths (beginnings_after path (m ∷ more)) path k;
    }
    played_new paths path (m ∷ more) k legal each (inr there) =
        let one : List Move = path ++ m ∷ [] in
        subst (λ z. PlayedFrom g p K z each) (append_assoc paths (one ∷ []) (beginnings_after one more))
        (played_new (paths ++ one ∷ []) one more (inr (mem_right one paths (one ∷ []) (inl refl))) legal.1 each there)

    -- a line after parentheses
    after_known : (paths more : List (List Move)) (kind : Kind) (before moves : List Move) (last : Move)
        (answer : Option (List Move)) (inner : Line) (many : ℕ)
        → LineKnown K paths (goes_on kind before (moves ++ last ∷ []) answer)
        → LineKnown (Known K paths) more inner → IsInside (before ++ moves) last inner
        → LineKnown K (paths ++ more) (goes_on kind before (moves ++ last ∷ []) (answer_of inner many answer))
    after_known paths more kind before moves last answer (begins front end) many h k i =
        line_left K paths more (goes_on kind before (moves ++ last ∷ []) answer) h
    after_known paths more kind before moves last answer (goes_on variation start own a) many h k i =
        line_left K paths more (goes_on kind before (moves ++ last ∷ []) answer) h
    after_known paths more kind before moves last answer (goes_on reply start own a) many h k i =
        let now : List Move = moves ++ last ∷ [] in
        let all : AllKnown K (paths ++ more) before now =
        all_left K paths more before now (line_moves K paths kind before now answer h) in
        let begin : start ≡ before ++ now = i.0 ∙ append_assoc before moves (last ∷ []) in
        let others : AllKnown K (paths ++ more) (before ++ now) own =
        subst (λ z. AllKnown K (paths ++ more) z own) begin
        (all_outward K paths more start own (line_moves (Known K paths) more reply start own a k)) in
        elim (cases_Bool (many == 1)) [
          | inl one ↦ rw one (all, all_append K (paths ++ more) before now own all others)
          | inr other ↦ rw other (all, tt)
        ]

played : (g : Geometry) (p : Placement) (K : List Move → Type 0) {room : ℕ} {start line : Line} {ts : List Token}
    {paths : List (List Move)} → IsLine g p room start ts line paths → LineKnown K [] start → Played g p K line paths
played g p K empty h = record { known = h; each = λ path there. absurd there }
played g p K (passed t v is) h = played g p K v h
played g p K (move {line = line} {paths = paths} {before = before} {moves = moves} {more = more} v follows) h =
    let old = played g p K v h in
    let path : List Move = before ++ moves in
    let new : List (List Move) = beginnings_after path more in
    let all = follows_known g p K paths follows old.known in
    let here = all_whole K paths before moves all in
    record {
      known = (
        all_append K (paths ++ new) before moves more (all_left K paths new before moves all)
            (all_new K paths path more here),
        tt,
      );
      each = λ each there. elim (mem_cases each paths new there) [
        | inl early ↦ played_left g p K paths new each (old.each each early)
        | inr late ↦ played_new g p K paths path more here (follows_legal g p follows) each late
      ];
    }
played g p K (aside {inner = inner} {us = us} {paths = paths} {others = more} {kind = kind} {before = before}
    {answer = answer} moves last opening closing v o w c) h =
    let now : List Move = moves ++ last ∷ [] in
    let outer = played g p K v h in
    let all = line_moves K paths kind before now answer outer.known in
    let front = all_front K paths before moves last all in
    let whole = subst (Known K paths) (sym (append_assoc before moves (last ∷ [])))
    (all_whole K paths before now all) in
    let own = played g p (Known K paths) w (inl front, inl whole) in
    record {
      known = after_known g p K paths more kind before moves last answer inner (count_moves us) outer.known own.known
          (inside g p (before ++ moves) last w (refl, refl));
      each = λ path there. elim (mem_cases path paths more there) [
        | inl early ↦ played_left g p K paths more path (outer.each path early)
        | inr late ↦
            let k = own.each path late in
            record {
              front = k.front;
              last = k.last;
              is = k.is;
              legal = k.legal;
              there = outward K paths more k.front k.there;
            }
      ];
    }

-- ---- the tree
in_tree : {paths tree : List (List Move)} (path : List Move) → AreDistinct paths tree → Member path paths
    → Member path tree
in_tree path nothing m = m
in_tree path (again {paths = paths} {tree = tree} other h there) m = elim (mem_cases path paths (other ∷ []) m) [
  | inl old ↦ in_tree path h old
  | inr (inl e) ↦ subst (λ z. Member z tree) (sym e) there
  | inr (inr gone) ↦ absurd gone
]
in_tree path (first {paths = paths} {tree = tree} other h new) m = elim (mem_cases path paths (other ∷ []) m) [
  | inl old ↦ mem_left path tree (other ∷ []) (in_tree path h old)
  | inr last ↦ mem_right path tree (other ∷ []) last
]

in_paths : {paths tree : List (List Move)} (path : List Move) → AreDistinct paths tree → Member path tree
    → Member path paths
in_paths path nothing m = m
in_paths path (again {paths = paths} other h there) m = mem_left path paths (other ∷ []) (in_paths path h m)
in_paths path (first {paths = paths} {tree = tree} other h new) m = elim (mem_cases path tree (other ∷ []) m) [
  | inl old ↦ mem_left path paths (other ∷ []) (in_paths path h old)
  | inr last ↦ mem_right path paths (other ∷ []) last
]

play_of : (g : Geometry) (p : Placement) (ts : List Token) (paths : List (List Move)) → IsGame g p ts paths
    → (us : List Token) × IsPlay g p us paths
play_of g p ts paths (inl play) = (ts, play)
play_of g p ts paths (inr over) = (over.front, over.played)

pub tree_played : (g : Geometry) (p : Placement) (text : List ℕ) (tree : List (List Move)) → IsTree g p text tree
    → (path : List Move) → Member path tree → IsPlayed g p tree path
tree_played g p text tree is path member =
    let play = (play_of g p is.tokens is.paths is.game).1 in
    let h = (played g p (λ z. z ≡ []) play.1 (inl refl, tt)).each path (in_paths path is.distinct member) in
    record {
      front = h.front;
      last = h.last;
      is = h.is;
      legal = h.legal;
      there = elim h.there [ inl e ↦ inl e | inr m ↦ inr (in_tree h.front is.distinct m) ];
    }
