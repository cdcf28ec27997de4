-- What is held of a section says what the section does.
use Rattle.std.proofs.Common.{◌≡◌, ℕ, ◌+◌, ◌-◌, ◌*◌, ◌<◌, ◌≤◌, ◌==◌, ◌&&◌, ◌||◌, inl, inr, List, [], ◌∷◌, ◌++◌, length}
use Rattle.std.proofs.Common.{take, Bool, true, false, not, cond, min, refl, sym, ap, ◌∙◌, subst, arith, append_assoc}
use Rattle.std.proofs.Common.{append-nil, length-append, ltb, eqb}
use Rattle.std.proofs.lemmas.Bool.{cases_lt, lt-ltb, le-ltb, ne_eqb}
use Rattle.std.proofs.lemmas.List.{take_all, length-take-le, take-append-le}
use Rattle.std.specs.List.{list_any}
use Rattle.std.specs.Char.{is_ascii_digit}
use Rattle.dw_board.specs.Geometry.{Geometry}
use Rattle.dw_board.specs.Fen.{fen}
use Rattle.dw_board.specs.FenTokens.{is_blank}
use Rattle.dw_notation.specs.inner.TextLines.{fen_found}
use Rattle.dw_notation.specs.inner.Sections.{transition, Section, bare, kind_of, with_tag, after}
use Rattle.dw_notation.specs.Tags.{number_on, game_of, is_wrong}
use Rattle.dw_notation.specs.inner.Sections.{fens_found, section_found, found_by, found_at_end, sections_found}
use Rattle.dw_notation.specs.inner.HeldSection.{Held, held_bare, counted, with_byte, game_on, number_held, counted_in}
use Rattle.dw_notation.specs.inner.HeldSection.{value_on, tag_on, held_after, is_wrong_held, fens_held, held_found}
use Rattle.dw_notation.specs.inner.HeldSection.{held_from}
use Rattle.dw_notation.specs.declared.problems.pdn.automaton.State.{State}
use Rattle.dw_notation.specs.declared.problems.pdn.automaton.Action.{Action}
use Rattle.dw_notation.specs.declared.problems.pdn.automaton.Action.TheVariants.{Keep, Open, Count, AddName, OpenValue}
use Rattle.dw_notation.specs.declared.problems.pdn.automaton.Action.TheVariants.{AddValue, AddBoth, Close, Break}
use Rattle.dw_notation.specs.declared.problems.pdn.automaton.Action.TheVariants.{EndLine, NextTag, End}
use Rattle.dw_notation.specs.declared.problems.pdn.section.TagKind.{TagKind}
use Rattle.dw_notation.specs.declared.problems.pdn.section.TagKind.TheVariants.{FenTag, GameTag, OtherTag}
use Rattle.dw_notation.specs.declared.problems.pdn.section.Game.{Game}
use Rattle.dw_notation.specs.declared.problems.pdn.section.Game.TheVariants.{Before, Within, Behind}
use Rattle.dw_notation.proofs.NameLemmas.{kind_of-take}

-- ---- bytes that are counted, and bytes that are kept
counted-min : (most n : ℕ) → counted most (min n most) ≡ min (n + 1) most
counted-min most n = elim (cases_lt n most) [
  | inl below ↦
      let e : min n most ≡ n = omega arith in
      let e' : min (n + 1) most ≡ n + 1 = omega arith in
      rw (e, e', lt-ltb n most below) refl
  | inr over ↦
      let e : min n most ≡ most = omega arith in
      let e' : min (n + 1) most ≡ most = omega arith in
      rw (e, e', le-ltb most most (omega arith)) refl
]

with_byte-take : (most : ℕ) (text : List ℕ) (byte : ℕ) → with_byte most (take most text) byte ≡ take most (text ++ byte
    ∷ [])
with_byte-take most text byte = elim (cases_lt (length text) most) [
  | inl short ↦
      let sum : length (text ++ byte ∷ []) ≡ length text + 1 = length-append text (byte ∷ []) in
      rw (
        take_all most text (omega arith),
        take_all most (text ++ byte ∷ []) (omega arith),
        lt-ltb (length text) most short,
      ) refl
  | inr long ↦
      rw (length-take-le most text long, le-ltb most most (omega arith))
      (sym (take-append-le most text (byte ∷ []) long))
]

over-min-above : (most n : ℕ) → most < n → ltb most (min n (most + 1)) ≡ ltb most n
over-min-above most n h =
    let e : min n (most + 1) ≡ most + 1 = omega arith in
    rw (e, lt-ltb most (most + 1) (omega arith), lt-ltb most n h) refl

over-min-below : (most n : ℕ) → n ≤ most → ltb most (min n (most + 1)) ≡ ltb most n
over-min-below most n h = let e : min n (most + 1) ≡ n = omega arith in rw e refl

over-min : (most n : ℕ) → ltb most (min n (most + 1)) ≡ ltb most n
over-min most n = elim (cases_lt most n) [
  | inl above ↦ over-min-above most n above
  | inr below ↦ over-min-below most n below
]

fen-take : (g : Geometry) (text : List ℕ) → fen g (take 1025 text) ≡ fen g text
fen-take g text = elim (cases_lt 1024 (length text)) [
  | inl long ↦
      let size : length (take 1025 text) ≡ 1025 = length-take-le 1025 text (omega arith) in
      rw (lt-ltb 1024 (length text) long, lt-ltb 1024 (length (take 1025 text)) (omega arith)) refl
  | inr short ↦ ap (fen g) (take_all 1025 text (omega arith))
]

-- ---- the game
number_on-over : (a b : ℕ) (text : List ℕ) → 20 < a → 20 < b → eqb (number_on a text) 20 ≡ eqb (number_on b text) 20
number_on-over a b [] over other = ne_eqb a 20 (λ e. omega arith) ∙ sym (ne_eqb b 20 (λ e. omega arith))
number_on-over a b (byte ∷ text) over other =
    let rest = number_on-over (a * 10 + (byte - 48)) (b * 10 + (byte - 48)) text (omega arith) (omega arith) in
    let here = ne_eqb a 20 (λ e. omega arith) ∙ sym (ne_eqb b 20 (λ e. omega arith)) in
    elim (is_ascii_digit byte) as (λ v. eqb (cond v (number_on (a * 10 + (byte - 48)) text) a) 20
    ≡ eqb (cond v (number_on (b * 10 + (byte - 48)) text) b) 20)
    [ true ↦ rest | false ↦ here ]

number_on-min : (n : ℕ) (text : List ℕ) → eqb (number_on (min n 21) text) 20 ≡ eqb (number_on n text) 20
number_on-min n text = elim (cases_lt 20 n) [
  | inl over ↦ number_on-over (min n 21) n text (omega arith) over
  | inr fine ↦ let e : min n 21 ≡ n = omega arith in rw e refl
]

-- the number where the value goes on
abbrev number_then : Game → List ℕ → ℕ
number_then Before more = game_of more
number_then (Within n) more = number_on n more
number_then (Behind n) more = n

number_then-on : (game : Game) (byte : ℕ) (more : List ℕ) → eqb (number_then (game_on game byte) more) 20
    ≡ eqb (number_then game (byte ∷ more)) 20
number_then-on Before byte more =
    elim (is_blank byte) as (λ v. eqb
    (number_then (cond v Before (cond (is_ascii_digit byte) (Within (byte - 48)) (Behind 20))) more) 20
    ≡ eqb (cond v (game_of more) (cond (is_ascii_digit byte) (number_on (byte - 48) more) 20)) 20) [
      | true ↦ refl
      | false ↦ elim (is_ascii_digit byte) as (λ v. eqb (number_then (cond v (Within (byte - 48)) (Behind 20)) more) 20
          ≡ eqb (cond v (number_on (byte - 48) more) 20) 20)
          [ true ↦ refl | false ↦ refl ]
    ]
number_then-on (Within n) byte more =
    let m = n * 10 + (byte - 48) in
    elim (is_ascii_digit byte) as (λ v. eqb (number_then (cond v (Within (min m 21)) (Behind n)) more) 20
    ≡ eqb (cond v (number_on m more) n) 20)
    [ true ↦ number_on-min m more | false ↦ refl ]
number_then-on (Behind n) byte more = refl

number_held-then : (game : Game) → number_held game ≡ number_then game []
number_held-then Before = refl
number_held-then (Within n) = refl
number_held-then (Behind n) = refl

-- whatever follows, the game held is game 20 where the value's is
abbrev GameHeld : Game → List ℕ → Type 0
GameHeld game value = (more : List ℕ) → eqb (number_then game more) 20 ≡ eqb (game_of (value ++ more)) 20

GameHeld-on : (game : Game) (value : List ℕ) (byte : ℕ) → GameHeld game value
    → GameHeld (game_on game byte) (value ++ byte ∷ [])
GameHeld-on game value byte held more = number_then-on game byte more ∙ held (byte ∷ more)
    ∙ ap (λ l. eqb (game_of l) 20) (sym (append_assoc value (byte ∷ []) more))

GameHeld-end : (game : Game) (value : List ℕ) → GameHeld game value → eqb (number_held game) 20 ≡ eqb (game_of value) 20
GameHeld-end game value held = ap (λ n. eqb n 20) (number_held-then game) ∙ held []
    ∙ ap (λ l. eqb (game_of l) 20) (append-nil value)

-- ---- the FEN tags
abbrev FensHeld : List (List ℕ) → TagKind → List ℕ → ℕ → List ℕ → Type 0
FensHeld [] kind value n text = (n ≡ 0) × (kind ≡ FenTag → text ≡ take 1025 value)
FensHeld (fen_text ∷ []) kind value n text = (n ≡ 1) × (text ≡ take 1025 fen_text)
FensHeld (fen_text ∷ other ∷ fens) kind value n text = n ≡ 2

FensHeld-value : (fens : List (List ℕ)) (value : List ℕ) (n : ℕ) (text : List ℕ) (byte : ℕ)
    → FensHeld fens FenTag value n text
    → FensHeld fens FenTag (value ++ byte ∷ []) n (cond (n == 0) (with_byte 1025 text byte) text)
FensHeld-value [] value n text byte held = (
  held.0,
  λ is. rw held.0 (ap (λ l. with_byte 1025 l byte) (held.1 is) ∙ with_byte-take 1025 value byte),
)
FensHeld-value (f ∷ []) value n text byte held = (held.0, rw held.0 held.1)
FensHeld-value (f ∷ other ∷ fens) value n text byte held = held

FensHeld-open : (fens : List (List ℕ)) (kind new : TagKind) (value : List ℕ) (n : ℕ) (text : List ℕ)
    → FensHeld fens kind value n text → FensHeld fens new [] n (cond (n == 0) [] text)
FensHeld-open [] kind new value n text held = (held.0, λ is. rw held.0 refl)
FensHeld-open (f ∷ []) kind new value n text held = (held.0, rw held.0 held.1)
FensHeld-open (f ∷ other ∷ fens) kind new value n text held = held

FensHeld-other : (fens : List (List ℕ)) (kind : TagKind) (value other : List ℕ) (n : ℕ) (text : List ℕ)
    → (kind ≡ FenTag → ⊥) → FensHeld fens kind value n text → FensHeld fens kind other n text
FensHeld-other [] kind value other n text none held = (held.0, λ is. absurd (none is))
FensHeld-other (f ∷ []) kind value other n text none held = held
FensHeld-other (f ∷ g ∷ fens) kind value other n text none held = held

FensHeld-tag : (fens : List (List ℕ)) (kind : TagKind) (value : List ℕ) (n : ℕ) (text : List ℕ) → (kind ≡ FenTag)
    → FensHeld fens kind value n text
    → FensHeld (value ∷ fens) kind value (counted 2 n) text
FensHeld-tag [] kind value n text is held = (rw held.0 refl, held.1 is)
FensHeld-tag (f ∷ []) kind value n text is held = rw held.0 refl
FensHeld-tag (f ∷ other ∷ fens) kind value n text is held = rw held refl

fens_held-found : (g : Geometry) (fens : List (List ℕ)) (kind : TagKind) (value : List ℕ) (n : ℕ) (text : List ℕ)
    → FensHeld fens kind value n text → fens_held g n text ≡ fens_found g fens
fens_held-found g [] kind value n text held = rw held.0 refl
fens_held-found g (f ∷ []) kind value n text held = rw held.0 (ap (λ l. fen_found (fen g l)) held.1
    ∙ ap fen_found (fen-take g f))
fens_held-found g (f ∷ other ∷ fens) kind value n text held = rw held refl

-- ---- a section, and what is held of it
pub record Holds (s : Section) (h : Held) : Type 0 where
  pub read : h.read ≡ min s.read 65537
  pub size : h.size ≡ min s.size 65537
  pub unclosed : h.is_unclosed ≡ s.is_unclosed
  pub name : h.name ≡ take 9 s.name
  pub kind : h.kind ≡ s.kind
  pub fens : FensHeld s.fens s.kind s.value h.fens h.fen_text
  pub game : s.kind ≡ GameTag → GameHeld h.game s.value
  pub has_game : h.has_game ≡ list_any (λ n. true) s.games
  pub wrong : h.is_wrong ≡ list_any (λ n. not (n == 20)) s.games

Holds-bare : Holds bare held_bare
Holds-bare = record {
  read = refl;
  size = refl;
  unclosed = refl;
  name = refl;
  kind = refl;
  fens = (refl, λ is. refl);
  game = λ is more. refl;
  has_game = refl;
  wrong = refl;
}

Holds-open : Holds (record bare { read = 1 }) (record held_bare { read = 1 })
Holds-open = record {
  read = refl;
  size = refl;
  unclosed = refl;
  name = refl;
  kind = refl;
  fens = (refl, λ is. refl);
  game = λ is more. refl;
  has_game = refl;
  wrong = refl;
}

Holds-count : (s : Section) (h : Held) → Holds s h → Holds (record s { read = s.read + 1 }) (counted_in h)
Holds-count s h r = record {
  read = ap (counted 65537) r.read ∙ counted-min 65537 s.read;
  size = r.size;
  unclosed = r.unclosed;
  name = r.name;
  kind = r.kind;
  fens = r.fens;
  game = r.game;
  has_game = r.has_game;
  wrong = r.wrong;
}

Holds-name : (s : Section) (h : Held) (byte : ℕ) → Holds s h
    → Holds (record s { name = s.name ++ byte ∷ [] }) (record h { name = with_byte 9 h.name byte })
Holds-name s h byte r = record {
  name = ap (λ l. with_byte 9 l byte) r.name ∙ with_byte-take 9 s.name byte;
  read = r.read;
  size = r.size;
  unclosed = r.unclosed;
  kind = r.kind;
  fens = r.fens;
  game = r.game;
  has_game = r.has_game;
  wrong = r.wrong;
}

Holds-no_name : (s : Section) (h : Held) → Holds s h → Holds (record s { name = [] }) (record h { name = [] })
Holds-no_name s h r = record {
  name = refl;
  read = r.read;
  size = r.size;
  unclosed = r.unclosed;
  kind = r.kind;
  fens = r.fens;
  game = r.game;
  has_game = r.has_game;
  wrong = r.wrong;
}

Holds-open_value : (s : Section) (h : Held) → Holds s h → Holds (record s { kind = kind_of s.name; value = [] })
    (record h { kind = kind_of h.name; game = Before; fen_text = cond (h.fens == 0) [] h.fen_text })
Holds-open_value s h r = record {
  kind = ap kind_of r.name ∙ kind_of-take s.name;
  fens = FensHeld-open s.fens s.kind (kind_of s.name) s.value h.fens h.fen_text r.fens;
  game = λ is more. refl;
  read = r.read;
  size = r.size;
  unclosed = r.unclosed;
  name = r.name;
  has_game = r.has_game;
  wrong = r.wrong;
}

Holds-value_of : (kind : TagKind) (s : Section) (h : Held) (byte : ℕ) → s.kind ≡ kind → Holds s h
    → Holds (record s { value = s.value ++ byte ∷ [] }) (value_on kind h byte)
Holds-value_of FenTag s h byte is r =
    let held : FensHeld s.fens FenTag s.value h.fens h.fen_text =
    subst (λ k. FensHeld s.fens k s.value h.fens h.fen_text) is r.fens in
    record {
      fens = subst (λ k. FensHeld s.fens k (s.value ++ byte ∷ []) h.fens (cond (h.fens == 0) (with_byte 1025 h.fen_text
          byte) h.fen_text)) (sym is)
          (FensHeld-value s.fens s.value h.fens h.fen_text byte held);
      game = λ other. absurd (let bad : FenTag ≡ GameTag = sym is ∙ other in cc);
      read = r.read;
      size = r.size;
      unclosed = r.unclosed;
      name = r.name;
      kind = r.kind;
      has_game = r.has_game;
      wrong = r.wrong;
    }
Holds-value_of GameTag s h byte is r = record {
  fens = FensHeld-other s.fens s.kind s.value (s.value ++ byte ∷ []) h.fens h.fen_text (λ other. let bad : GameTag
      ≡ FenTag = sym is ∙ other in cc) r.fens;
  game = λ same. GameHeld-on h.game s.value byte (r.game same);
  read = r.read;
  size = r.size;
  unclosed = r.unclosed;
  name = r.name;
  kind = r.kind;
  has_game = r.has_game;
  wrong = r.wrong;
}
Holds-value_of OtherTag s h byte is r = record {
  fens = FensHeld-other s.fens s.kind s.value (s.value ++ byte ∷ []) h.fens h.fen_text (λ other. let bad : OtherTag
      ≡ FenTag = sym is ∙ other in cc) r.fens;
  game = λ other. absurd (let bad : OtherTag ≡ GameTag = sym is ∙ other in cc);
  read = r.read;
  size = r.size;
  unclosed = r.unclosed;
  name = r.name;
  kind = r.kind;
  has_game = r.has_game;
  wrong = r.wrong;
}

Holds-value : (s : Section) (h : Held) (byte : ℕ) → Holds s h
    → Holds (record s { value = s.value ++ byte ∷ [] }) (value_on h.kind h byte)
Holds-value s h byte r = Holds-value_of h.kind s h byte (sym r.kind) r

Holds-tag_of : (kind : TagKind) (s : Section) (h : Held) → s.kind ≡ kind → Holds s h
    → Holds (with_tag kind s) (tag_on kind h)
Holds-tag_of FenTag s h is r = record {
  fens = FensHeld-tag s.fens s.kind s.value h.fens h.fen_text is r.fens;
  read = r.read;
  size = r.size;
  unclosed = r.unclosed;
  name = r.name;
  kind = r.kind;
  game = r.game;
  has_game = r.has_game;
  wrong = r.wrong;
}
Holds-tag_of GameTag s h is r =
    let number = GameHeld-end h.game s.value (r.game is) in
    record {
      has_game = refl;
      wrong = ap (λ v. not v || h.is_wrong) number ∙ ap (λ v. not (eqb (game_of s.value) 20) || v) r.wrong;
      read = r.read;
      size = r.size;
      unclosed = r.unclosed;
      name = r.name;
      kind = r.kind;
      fens = r.fens;
      game = r.game;
    }
Holds-tag_of OtherTag s h is r = r

Holds-tag : (s : Section) (h : Held) → Holds s h → Holds (with_tag s.kind s) (tag_on h.kind h)
Holds-tag s h r = subst (λ k. Holds (with_tag s.kind s) (tag_on k h)) (sym r.kind) (Holds-tag_of s.kind s h refl r)

Holds-size : (s : Section) (h : Held) (n m : ℕ) → m ≡ min n 65537 → Holds s h
    → Holds (record s { size = n }) (record h { size = m })
Holds-size s h n m e r = record {
  size = e;
  read = r.read;
  unclosed = r.unclosed;
  name = r.name;
  kind = r.kind;
  fens = r.fens;
  game = r.game;
  has_game = r.has_game;
  wrong = r.wrong;
}

Holds-unclosed : (s : Section) (h : Held) → Holds s h
    → Holds (record s { is_unclosed = true }) (record h { is_unclosed = true })
Holds-unclosed s h r = record {
  unclosed = refl;
  read = r.read;
  size = r.size;
  name = r.name;
  kind = r.kind;
  fens = r.fens;
  game = r.game;
  has_game = r.has_game;
  wrong = r.wrong;
}

Holds-after : (action : Action) (s : Section) (h : Held) → Holds s h → Holds (after action s) (held_after action h)
Holds-after Keep s h r = r
Holds-after Open s h r = Holds-open
Holds-after Count s h r = Holds-count s h r
Holds-after (AddName byte) s h r = Holds-name _ _ byte (Holds-count s h r)
Holds-after OpenValue s h r = Holds-open_value _ _ (Holds-count s h r)
Holds-after (AddValue byte) s h r = Holds-value (record s { read = s.read + 1 }) (counted_in h) byte (Holds-count s h r)
Holds-after (AddBoth byte) s h r =
    let counting = Holds-count s h r in
    let counted_s : Section = record s { read = s.read + 1 } in
    let first = Holds-value_of h.kind counted_s (counted_in h) 92 (sym r.kind) counting in
    Holds-value_of h.kind (record counted_s { value = s.value ++ 92 ∷ [] }) (value_on h.kind (counted_in h) 92) byte
    (sym r.kind) first
Holds-after Close s h r =
    let counting = Holds-count s h r in
    Holds-tag (record s { read = s.read + 1; size = s.read + 1 })
    (record (counted_in h) { size = counted 65537 h.read })
    (Holds-size (record s { read = s.read + 1 }) (counted_in h) (s.read + 1) (counted 65537 h.read) counting.read
    counting)
Holds-after Break s h r = Holds-unclosed _ _ (Holds-count s h r)
Holds-after EndLine s h r = Holds-unclosed _ _ (Holds-size _ _ s.read h.read r.read (Holds-count s h r))
Holds-after NextTag s h r = Holds-no_name _ _ (Holds-count s h r)
Holds-after End s h r = r

-- ---- what they say
is_wrong-held : (g : Geometry) (s : Section) (h : Held) → Holds s h → is_wrong_held g h ≡ is_wrong g s.games
is_wrong-held g s h r =
    elim (g.rows == 10) as (λ v. cond v h.is_wrong h.has_game ≡ list_any (λ game. not (v && (game == 20))) s.games)
    [ true ↦ r.wrong | false ↦ r.has_game ]

Holds-found : (g : Geometry) (s : Section) (h : Held) → Holds s h → held_found g h ≡ section_found g s
Holds-found g s h r = rw (
  r.size,
  over-min 65536 s.size,
  r.unclosed,
  is_wrong-held g s h r,
  fens_held-found g s.fens s.kind s.value h.fens h.fen_text r.fens,
) refl

Holds-from : (at_end : Bool) (g : Geometry) (state : State) (s : Section) (h : Held) (bytes : List ℕ) → Holds s h
    → held_from at_end g state h bytes ≡ sections_found at_end g state s bytes
Holds-from at_end g state s h [] r =
    ap (λ f. cond at_end (found_at_end state f (held_found g (held_after EndLine h))) []) (Holds-found g s h r)
    ∙ ap (λ f. cond at_end (found_at_end state (section_found g s) f) [])
    (Holds-found g (after EndLine s) (held_after EndLine h) (Holds-after EndLine s h r))
Holds-from at_end g state s h (byte ∷ bytes) r =
    let action = (transition state byte).action in
    let next = (transition state byte).state in
    ap (λ f. found_by action f ++ held_from at_end g next (held_after action h) bytes) (Holds-found g s h r)
    ∙ ap (λ l. found_by action (section_found g s) ++ l) (Holds-from at_end g next (after action s) (held_after action
    h) bytes (Holds-after action s h r))

pub held_from-bare : (at_end : Bool) (g : Geometry) (state : State) (bytes : List ℕ)
    → held_from at_end g state held_bare bytes ≡ sections_found at_end g state bare bytes
held_from-bare at_end g state bytes = Holds-from at_end g state bare held_bare bytes Holds-bare
