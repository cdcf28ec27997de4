-- What stands written when a report failed.
use Rattle.std.proofs.Common.{◌≡◌, ◌⊎◌, ◌∙◌, ◌++◌, inl, inr, ℕ, List, [], ◌∷◌, refl, sym, ap, subst, append_assoc}
use Rattle.std.proofs.Common.{append-nil}
use Rattle.dw_desk_commands.specs.ProblemText.{IsPartOfFirst}
use Rattle.dw_desk_commands.specs.declared.desk.DeskFault.{DeskFault}
use Rattle.dw_desk_commands.specs.declared.desk.DeskFault.TheVariants as because
use Rattle.dw_desk_commands.specs.inner.Standing.{IsAfter, Stands, StandsOf}
use Rattle.dw_games.specs.Games.{NumberedGame}
use Rattle.dw_notation.specs.Streams.{Appends}
use Rattle.dw_notation.specs.Writes.{IsBeginning, StopsShort}
use Rattle.dw_notation.specs.inner.StreamLemmas.{Appends-trans}

-- what is left stands after any fault
pub left_stands : (Leaves Whole : List ℕ → Type 0) (fault : DeskFault) (text : List ℕ) → Leaves text
    → IsAfter Leaves Whole fault text
left_stands Leaves Whole because.Write text left = (text, record { back = []; joined = append-nil text }, inl left)
left_stands Leaves Whole (because.Stopped stop) text left = left
left_stands Leaves Whole because.Read text left = left

-- a beginning of a text was written
pub short_stands : (Leaves Whole : List ℕ → Type 0) (old new text : List ℕ) (fault : DeskFault)
    → fault ≡ because.Write → StopsShort old new text → Leaves text ⊎ Whole text → Stands Leaves Whole old new fault
short_stands Leaves Whole old new text fault is short whole = record {
  text = short.out;
  wrote = short.taken;
  after = subst (λ z. IsAfter Leaves Whole z short.out) (sym is) (text, short.front, whole);
}

-- a beginning of the second of two texts
pub second_begins : (before text whole : List ℕ) → IsBeginning text whole
    → IsBeginning (before ++ text) (before ++ whole)
second_begins before text whole is = record {
  back = is.back;
  joined = append_assoc before text is.back ∙ ap (λ z. before ++ z) is.joined;
}

after_part : (Leaves Whole Part Piece : List ℕ → Type 0) (before : List ℕ) (fault : DeskFault) (text : List ℕ)
    → IsAfter Part Piece fault text → ((text : List ℕ) → Part text → Leaves (before ++ text))
    → ((text : List ℕ) → Piece text → Leaves (before ++ text) ⊎ Whole (before ++ text))
    → IsAfter Leaves Whole fault (before ++ text)
after_part Leaves Whole Part Piece before because.Write text (whole, is, inl left) part piece =
    (before ++ whole, second_begins before text whole is, inl (part whole left))
after_part Leaves Whole Part Piece before because.Write text (whole, is, inr all) part piece =
    (before ++ whole, second_begins before text whole is, piece whole all)
after_part Leaves Whole Part Piece before (because.Stopped stop) text left part piece = part text left
after_part Leaves Whole Part Piece before because.Read text left part piece = part text left

-- a text was written whole, and then nothing, or a beginning of the rest
pub then_stands : (Leaves Whole Part Piece : List ℕ → Type 0) (old mid new before : List ℕ) (fault : DeskFault)
    → Appends old mid before → Stands Part Piece mid new fault
    → ((text : List ℕ) → Part text → Leaves (before ++ text))
    → ((text : List ℕ) → Piece text → Leaves (before ++ text) ⊎ Whole (before ++ text))
    → Stands Leaves Whole old new fault
then_stands Leaves Whole Part Piece old mid new before fault wrote stands part piece = record {
  text = before ++ stands.text;
  wrote = Appends-trans old mid new before stands.text wrote stands.wrote;
  after = after_part Leaves Whole Part Piece before fault stands.text stands.after part piece;
}

-- the same of what is left, whatever the whole text of the source is
pub left_after : (Leaves Whole : List NumberedGame → List ℕ → Type 0) (Part Piece : List ℕ → Type 0)
    (MayBe : List ℕ → Type 0) (Coming : List ℕ → List NumberedGame → Type 0) (old mid new before : List ℕ)
    (fault : DeskFault) → Appends old mid before → Stands Part Piece mid new fault
    → ((whole : List ℕ) → MayBe whole → (games : List NumberedGame) × Coming whole games
    × ((text : List ℕ) → Part text → Leaves games (before ++ text))
    × ((text : List ℕ) → Piece text → Leaves games (before ++ text) ⊎ Whole games (before ++ text)))
    → StandsOf Leaves Whole MayBe Coming old new fault
left_after Leaves Whole Part Piece MayBe Coming old mid new before fault wrote stands so = record {
  text = before ++ stands.text;
  wrote = Appends-trans old mid new before stands.text wrote stands.wrote;
  after = λ whole may. let s = so whole may in (
    s.0,
    s.1,
    after_part (Leaves s.0) (Whole s.0) Part Piece before fault stands.text stands.after s.2 s.3,
  );
}

-- nothing more was written
pub left_so_far : (Leaves Whole : List NumberedGame → List ℕ → Type 0) (MayBe : List ℕ → Type 0)
    (Coming : List ℕ → List NumberedGame → Type 0) (old new text : List ℕ) (fault : DeskFault) → Appends old new text
    → ((whole : List ℕ) → MayBe whole → (games : List NumberedGame) × Coming whole games × Leaves games text)
    → StandsOf Leaves Whole MayBe Coming old new fault
left_so_far Leaves Whole MayBe Coming old new text fault wrote so = record {
  text = text;
  wrote = wrote;
  after = λ whole may. let s = so whole may in (s.0, s.1, left_stands (Leaves s.0) (Whole s.0) fault text s.2);
}

pub after_so : (Leaves Whole Left All : List ℕ → Type 0) (fault : DeskFault) (text : List ℕ)
    → ((text : List ℕ) → Leaves text → Left text) → ((text : List ℕ) → Whole text → All text)
    → IsAfter Leaves Whole fault text → IsAfter Left All fault text
after_so Leaves Whole Left All because.Write text left all (whole, is, inl part) = (whole, is, inl (left whole part))
after_so Leaves Whole Left All because.Write text left all (whole, is, inr one) = (whole, is, inr (all whole one))
after_so Leaves Whole Left All (because.Stopped stop) text left all part = left text part
after_so Leaves Whole Left All because.Read text left all part = left text part

-- of what stands another thing can be said
pub stands_so : (Leaves Whole Left All : List NumberedGame → List ℕ → Type 0) (MayBe : List ℕ → Type 0)
    (Coming : List ℕ → List NumberedGame → Type 0) (old new : List ℕ) (fault : DeskFault)
    → ((games : List NumberedGame) (text : List ℕ) → Leaves games text → Left games text)
    → ((games : List NumberedGame) (text : List ℕ) → Whole games text → All games text)
    → StandsOf Leaves Whole MayBe Coming old new fault → StandsOf Left All MayBe Coming old new fault
stands_so Leaves Whole Left All MayBe Coming old new fault left all s = record {
  text = s.text;
  wrote = s.wrote;
  after = λ whole may. let a = s.after whole may in
      (a.0, a.1, after_so (Leaves a.0) (Whole a.0) (Left a.0) (All a.0) fault s.text (left a.0) (all a.0) a.2);
}

-- nothing is left of the first of some games
pub no_part : (Part : NumberedGame → List ℕ → Type 0) (games : List NumberedGame) → IsPartOfFirst Part games []
no_part Part [] = refl
no_part Part (game ∷ games) = inl refl
