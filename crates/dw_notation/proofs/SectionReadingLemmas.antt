-- How sections are read.
use Rattle.std.proofs.Common.{◌≡◌, ℕ, ◌+◌, ◌==◌, inl, inr, List, [], ◌∷◌, ◌++◌, length, Bool, true, false, not, cond}
use Rattle.std.proofs.Common.{refl, sym, ap, ◌∙◌, subst, arith, append_assoc, append-nil, length-append}
use Rattle.std.proofs.lemmas.Bool.{or_parts, and_parts, not-true}
use Rattle.std.specs.List.{list_all}
use Rattle.dw_board.specs.Geometry.{Geometry}
use Rattle.dw_notation.specs.TextLines.{Found}
use Rattle.dw_notation.specs.inner.Sections.{transition, at, Section, bare, kind_of, with_tag, after, section_found}
use Rattle.dw_notation.specs.Tags.{game_of}
use Rattle.dw_notation.specs.inner.Sections.{found_by, sections_found}
use Rattle.dw_notation.specs.Tags.{Tag, IsTag, IsUnclosed, is_space, IsGap, IsSection}
use Rattle.dw_notation.specs.inner.Tags.{with_fen, with_game, fens_of, games_of, tags_found, closes, SectionsAreFound}
use Rattle.dw_notation.specs.inner.Tags.{LastSectionIsFound, CommentsSayNothing, OpenCommentIsFound, OthersSayNothing}
use Rattle.dw_notation.specs.inner.Tags.{OpenCommentGivesNothing, OpenSectionGivesNothing}
use Rattle.dw_notation.specs.Tags.IsSection.{single, broken, longer, longer_broken}
use Rattle.dw_notation.specs.declared.problems.pdn.automaton.State.{State}
use Rattle.dw_notation.specs.declared.problems.pdn.automaton.State.TheVariants.{Outside, Comment, Between, BeforeName}
use Rattle.dw_notation.specs.declared.problems.pdn.automaton.Transition.{Transition}
use Rattle.dw_notation.specs.declared.problems.pdn.automaton.Action.TheVariants.{Keep, Open, Close, EndLine, NextTag}
use Rattle.dw_notation.specs.declared.problems.pdn.automaton.Action.TheVariants.{End}
use Rattle.dw_notation.specs.declared.problems.pdn.section.TagKind.{TagKind}
use Rattle.dw_notation.specs.declared.problems.pdn.section.TagKind.TheVariants.{FenTag, GameTag, OtherTag}
use Rattle.dw_notation.proofs.TagReadingLemmas.{Reads, join_reads, reads_found, outside, run_reads, between, tag_reads}
use Rattle.dw_notation.proofs.TagReadingLemmas.{tag_body}
use Rattle.dw_notation.proofs.TagReadingLemmas.Path.{here, step}
use Rattle.dw_notation.proofs.TagBreakingLemmas.{SoFar, unclosed_reads, line_ends, text_ends}

-- where the reading stands behind these tags, which have so many bytes
pub record StandsBehind (tags : List Tag) (some last : Bool) (n : ℕ) (state : State) (s : Section) : Type 0 where
  pub read : s.read ≡ n
  pub fens : s.fens ≡ fens_of tags
  pub games : s.games ≡ games_of tags
  pub whole : last ≡ false → (state ≡ Between) × (s.size ≡ n) × (s.is_unclosed ≡ some)
  pub line : last ≡ true → (some ≡ true) × ((text : List ℕ) × SoFar state text)

-- what was read of the section, of which the tags have so many bytes
record Holds (tags : List Tag) (some : Bool) (n m : ℕ) (s : Section) : Type 0 where
  pub read : s.read ≡ m
  pub size : s.size ≡ n
  pub unclosed : s.is_unclosed ≡ some
  pub fens : s.fens ≡ fens_of tags
  pub games : s.games ≡ games_of tags

Holds-found : (g : Geometry) (tags : List Tag) (some : Bool) (size read : ℕ) (s : Section) → Holds tags some size read s
    → section_found g s ≡ tags_found g size some tags
Holds-found g tags some size read s h = rw (h.size, h.unclosed, h.fens, h.games) refl

-- a bracket is read, with which a tag begins
pub record Begins (state : State) (s : Section) (tags : List Tag) (some : Bool) (n : ℕ) (t : Section) : Type 0 where
  pub reads : Reads state s (91 ∷ []) BeforeName t
  pub name : t.name ≡ []
  pub read : t.read ≡ n + 1
  pub unclosed : t.is_unclosed ≡ some
  pub fens : t.fens ≡ fens_of tags
  pub games : t.games ≡ games_of tags

pub begins_outside : Begins Outside bare [] false 0 (record bare { read = 1 })
begins_outside = record {
  reads = step 91 Open refl (λ f. refl) here;
  name = refl;
  read = refl;
  unclosed = refl;
  fens = refl;
  games =
      refl;
}

begins_between : (tags : List Tag) (some : Bool) (size n : ℕ) (s : Section) → Holds tags some size n s
    → Begins Between s tags some n (record s { read = s.read + 1; name = [] })
begins_between tags some size n s h = record {
  reads = step 91 NextTag refl (λ f. refl) here;
  name = refl;
  read =
      ap (λ k. k + 1) h.read;
  unclosed = h.unclosed;
  fens = h.fens;
  games = h.games;
}

tag_length : (text : List ℕ) (tag : Tag) → (t : IsTag text tag)
    → length text ≡ length t.first + length tag.name + length t.middle + length t.spelling + length t.last + 4
tag_length text tag t =
    let l5 = length-append t.last (93 ∷ []) in
    let l4 = length-append t.spelling (34 ∷ (t.last ++ 93 ∷ [])) in
    let l3 = length-append t.middle (34 ∷ (t.spelling ++ 34 ∷ (t.last ++ 93 ∷ []))) in
    let l2 = length-append tag.name (t.middle ++ 34 ∷ (t.spelling ++ 34 ∷ (t.last ++ 93 ∷ []))) in
    let l1 = length-append t.first (tag.name ++ (t.middle ++ 34 ∷ (t.spelling ++ 34 ∷ (t.last ++ 93 ∷ [])))) in
    let all = ap length t.joined in
    omega (arith, l1, l2, l3, l4, l5, all)

with_tag_stands : (kind : TagKind) (tags : List Tag) (some : Bool) (tag : Tag) (n : ℕ) (s : Section) → kind_of tag.name
    ≡ kind → s.is_unclosed ≡ some → s.fens ≡ fens_of tags → s.games ≡ games_of tags
    → StandsBehind (tag ∷ tags) some false n Between
    (with_tag kind (record s { read = n; size = n; name = tag.name; kind = kind_of tag.name; value = tag.value }))
with_tag_stands FenTag tags some tag n s is unclosed fens games = record {
  read = refl;
  fens = ap (λ l. tag.value ∷ l) fens ∙ ap (λ k. with_fen k tag.value (fens_of tags)) (sym is);
  games = games ∙ ap (λ k. with_game k tag.value (games_of tags)) (sym is);
  whole = λ e. (refl, refl, unclosed);
  line = λ e. absurd (let bad : false ≡ true = e in cc);
}
with_tag_stands GameTag tags some tag n s is unclosed fens games = record {
  read = refl;
  fens = fens ∙ ap (λ k. with_fen k tag.value (fens_of tags)) (sym is);
  games = ap (λ l. game_of tag.value ∷ l) games ∙ ap (λ k. with_game k tag.value (games_of tags)) (sym is);
  whole = λ e. (refl, refl, unclosed);
  line = λ e. absurd (let bad : false ≡ true = e in cc);
}
with_tag_stands OtherTag tags some tag n s is unclosed fens games = record {
  read = refl;
  fens = fens ∙ ap (λ k. with_fen k tag.value (fens_of tags)) (sym is);
  games = games ∙ ap (λ k. with_game k tag.value (games_of tags)) (sym is);
  whole = λ e. (refl, refl, unclosed);
  line = λ e. absurd (let bad : false ≡ true = e in cc);
}

-- reading on from a place, up to behind these tags
pub record ReadsOn (state : State) (s : Section) (text : List ℕ) (tags : List Tag) (some last : Bool) (n : ℕ) :
    Type 0 where
  pub next : State
  pub behind : Section
  pub reads : Reads state s text next behind
  pub stands : StandsBehind tags some last n next behind

-- a whole tag
pub tag_on : (state : State) (s t : Section) (tags : List Tag) (some : Bool) (text : List ℕ) (tag : Tag) (n m : ℕ)
    → Begins state s tags some n t → m ≡ n + length text → IsTag text tag
    → ReadsOn state s text (tag ∷ tags) some false m
tag_on state s t tags some text tag n m begins size is =
    let length_is = tag_length text tag is in
    let read = begins.read in
    let body = is.first ++ (tag.name ++ (is.middle ++ 34 ∷ (is.spelling ++ 34 ∷ is.last))) in
    let k = t.read + length is.first + length tag.name + length is.middle + length is.spelling + length is.last + 2 in
    let u : ℕ → Section = λ r. with_tag (kind_of tag.name) (record t {
      read = r;
      size = r;
      name = tag.name;
      kind = kind_of tag.name;
      value = tag.value;
    }) in
    let closed : Reads BeforeName t (body ++ 93 ∷ []) Between (u (k + 1)) =
    join_reads (outside (tag_reads t tag is.first is.middle is.last is.spelling k begins.name is.blank_first
    is.blank_middle is.blank_last is.some is.named is.spells refl)) (step 93 Close refl (λ f. refl) here) in
    let whole : k + 1 ≡ m = omega (arith, length_is, read, size) in
    record {
      next = Between;
      behind = u m;
      reads = subst (λ l. Reads state s l Between (u m)) (sym (is.joined ∙ ap (λ l. 91 ∷ l)
          (sym (tag_body is.first tag.name is.middle is.spelling is.last (93 ∷ [])))))
          (join_reads begins.reads (subst (λ r. Reads BeforeName t (body ++ 93 ∷ []) Between (u r)) whole closed));
      stands = with_tag_stands (kind_of tag.name) tags some tag m t refl begins.unclosed begins.fens begins.games;
    }

-- an unclosed one
unclosed_on : (state : State) (s t : Section) (tags : List Tag) (some : Bool) (text : List ℕ) (n m : ℕ)
    → Begins state s tags some n t → m ≡ n + length text → IsUnclosed text
    → ReadsOn state s text tags true true m
unclosed_on state s t tags some text n m begins size is =
    let line = unclosed_reads text is t in
    let length_is = ap length is.joined in
    let read = begins.read in
    let line_read = line.read in
    record {
      next = line.next;
      behind = line.last;
      reads = subst (λ l. Reads state s l line.next line.last) (sym is.joined) (join_reads begins.reads line.reads);
      stands = record {
        read = omega arith;
        fens = line.fens ∙ begins.fens;
        games = line.games ∙ begins.games;
        whole = λ e. absurd (let bad : true ≡ false = e in cc);
        line = λ e. (refl, ((91 ∷ []) ++ is.line, line.so_far));
      };
    }

-- the spaces behind the tags
record ReadsGap (state : State) (s : Section) (gap : List ℕ) (tags : List Tag) (some : Bool) (n : ℕ) : Type 0 where
  pub behind : Section
  pub reads : Reads state s gap Between behind
  pub holds : Holds tags some n (n + length gap) behind

gap_on : (last : Bool) (gap : List ℕ) (tags : List Tag) (some : Bool) (n : ℕ) (state : State) (s : Section)
    → StandsBehind tags some last n state s → IsGap last gap → ReadsGap state s gap tags some n
gap_on false gap tags some n state s stands spaces =
    let at_place = stands.whole refl in
    record {
      behind = record s { read = n + length gap };
      reads = subst (λ p. Reads p s gap Between (record s { read = n + length gap })) (sym at_place.0)
          (outside (run_reads is_space Between between gap spaces s (n + length gap)
          (ap (λ k. k + length gap) (sym stands.read))));
      holds = record {
        read = refl;
        size = at_place.1;
        unclosed = at_place.2;
        fens = stands.fens;
        games =
            stands.games;
      };
    }
gap_on true [] tags some n state s stands gap = absurd gap
gap_on true (byte ∷ gap) tags some n state s stands spaces =
    let in_line = stands.line refl in
    let ends = line_ends byte spaces.0 in_line.1.1 in
    let size = stands.read in
    let t : Section = after EndLine s in
    record {
      behind = record t { read = n + length (byte ∷ gap) };
      reads = step byte EndLine ends (λ f. refl)
          (outside (run_reads is_space Between between gap spaces.1 t (n + length (byte ∷ gap)) (omega arith)));
      holds = record {
        read = refl;
        size = stands.read;
        unclosed = sym in_line.0;
        fens = stands.fens;
        games =
            stands.games;
      };
    }

-- one more tag behind a gap
join_on : (s mid : Section) (state : State) (text gap next : List ℕ) (tags more_tags : List Tag) (some more_some last :
    Bool) (m : ℕ) → Reads Outside bare text state mid
    → (read : ReadsGap state mid gap tags some (length text))
    → ReadsOn Between read.behind next more_tags more_some last m
    → ReadsOn Outside bare (text ++ (gap ++ next)) more_tags more_some last m
join_on s mid state text gap next tags more_tags some more_some last m one two three = record {
  next = three.next;
  behind = three.behind;
  reads = join_reads one (join_reads two.reads three.reads);
  stands = three.stands;
}

joined_length : (text gap next : List ℕ) → length (text ++ (gap ++ next)) ≡ length text + length gap + length next
joined_length text gap next =
    let one = length-append text (gap ++ next) in
    let two = length-append gap next in
    omega (arith, one, two)

section_reads : {text : List ℕ} {tags : List Tag} {some last : Bool} → IsSection text tags some last
    → ReadsOn Outside bare text tags some last (length text)
section_reads (single {text} {tag} is) = tag_on Outside bare (record bare { read = 1 }) [] false text tag 0
    (length text) begins_outside (omega arith) is
section_reads (broken {text} is) = unclosed_on Outside bare (record bare { read = 1 }) [] false text 0 (length text)
    begins_outside (omega arith) is
section_reads (longer text gap next {tags} {tag} {some} {last} is spaces is_tag) =
    let one = section_reads is in
    let two = gap_on last gap tags some (length text) one.next one.behind one.stands spaces in
    let t = two.behind in
    join_on bare one.behind one.next text gap next tags (tag ∷ tags) some some false (length (text ++ (gap ++ next)))
    one.reads two
    (tag_on Between t (record t { read = t.read + 1; name = [] }) tags some next tag (length text + length gap)
    (length (text ++ (gap ++ next)))
    (begins_between tags some (length text) (length text + length gap) t two.holds) (joined_length text gap next)
    is_tag)
section_reads (longer_broken text gap next {tags} {some} {last} is spaces is_unclosed) =
    let one = section_reads is in
    let two = gap_on last gap tags some (length text) one.next one.behind one.stands spaces in
    let t = two.behind in
    join_on bare one.behind one.next text gap next tags tags some true true (length (text ++ (gap ++ next))) one.reads
    two
    (unclosed_on Between t (record t { read = t.read + 1; name = [] }) tags some next (length text + length gap)
    (length (text ++ (gap ++ next)))
    (begins_between tags some (length text) (length text + length gap) t two.holds) (joined_length text gap next)
    is_unclosed)

-- behind the spaces that follow it, too
whole_reads : (text gap : List ℕ) (tags : List Tag) (some last : Bool) → IsSection text tags some last → IsGap last gap
    → (s : Section) × Reads Outside bare (text ++ gap) Between s
    × ((g : Geometry) → section_found g s ≡ tags_found g (length text) some tags)
whole_reads text gap tags some last is spaces =
    let one = section_reads is in
    let two = gap_on last gap tags some (length text) one.next one.behind one.stands spaces in (
      two.behind,
      join_reads one.reads two.reads,
      λ g. Holds-found g tags some (length text) (length text + length gap) two.behind two.holds,
    )

-- ---- outside a section what was read of one does not count
any_section : (at_end : Bool) (g : Geometry) (s t : Section) (bytes : List ℕ)
    → (sections_found at_end g Outside s bytes ≡ sections_found at_end g Outside t bytes)
    × (sections_found at_end g Comment s bytes ≡ sections_found at_end g Comment t bytes)
any_section at_end g s t [] = (refl, refl)
any_section at_end g s t (byte ∷ bytes) =
    let rest = any_section at_end g s t bytes in
    let from : Section → Transition → List Found = λ u x. found_by x.action (section_found g u)
    ++ sections_found at_end g x.state (after x.action u) bytes in (
      elim (byte == 91) as (λ v. from s
          (cond v (at BeforeName Open) (cond (byte == 123) (at Comment Keep) (at Outside Keep)))
          ≡ from t (cond v (at BeforeName Open) (cond (byte == 123) (at Comment Keep) (at Outside Keep)))) [
            | true ↦ refl
            | false ↦ elim (byte == 123) as (λ v. from s (cond v (at Comment Keep) (at Outside Keep))
                ≡ from t (cond v (at Comment Keep) (at Outside Keep))) [ true ↦ rest.1 | false ↦ rest.0 ]
          ],
      elim (byte == 125) as (λ v. from s (cond v (at Outside Keep) (at Comment Keep))
          ≡ from t (cond v (at Outside Keep) (at Comment Keep))) [ true ↦ rest.0 | false ↦ rest.1 ],
    )

pub sections_are_found : SectionsAreFound
sections_are_found at_end g text gap more tags some last byte is spaces ends =
    let whole = whole_reads text gap tags some last is spaces in
    let s = whole.0 in
    let said = tags_found g (length text) some tags in
    let parts = or_parts (byte == 91) (is_space byte) (not-true _ ends) in
    let from : Section → Transition → List Found = λ u x. found_by x.action (section_found g u)
    ++ sections_found at_end g x.state (after x.action u) more in
    let ending : transition Between byte ≡ cond (byte == 123) (at Comment End) (at Outside End) = rw (parts.0, parts.1)
    refl in
    let outside : transition Outside byte ≡ cond (byte == 123) (at Comment Keep) (at Outside Keep) = rw parts.0 refl in
    let rest = any_section at_end g s bare more in
    let found = whole.2 g in
    let ended : from s (cond (byte == 123) (at Comment End) (at Outside End))
    ≡ said ∷ from bare (cond (byte == 123) (at Comment Keep) (at Outside Keep)) =
    elim (byte == 123) as (λ v. from s (cond v (at Comment End) (at Outside End))
    ≡ said ∷ from bare (cond v (at Comment Keep) (at Outside Keep))) [
      | true ↦ ap (λ f. f ∷ sections_found at_end g Comment s more) found ∙ ap (λ l. said ∷ l) rest.1
      | false ↦ ap (λ f. f ∷ sections_found at_end g Outside s more) found ∙ ap (λ l. said ∷ l) rest.0
    ] in
    ap (sections_found at_end g Outside bare) (sym (append_assoc text gap (byte ∷ more)))
    ∙ reads_found at_end g (byte ∷ more) whole.1
    ∙ ap (from s) ending
    ∙ ended
    ∙ ap (λ x. said ∷ from bare x) (sym outside)

last_with_gap : (g : Geometry) (text gap : List ℕ) (tags : List Tag) (some last : Bool) → IsSection text tags some last
    → IsGap last gap
    → sections_found true g Outside bare (text ++ gap) ≡ tags_found g (length text) some tags ∷ []
last_with_gap g text gap tags some last is spaces =
    let whole = whole_reads text gap tags some last is spaces in
    ap (sections_found true g Outside bare) (sym (append-nil (text ++ gap))) ∙ reads_found true g [] whole.1
    ∙ ap (λ f. f ∷ []) (whole.2 g)

last_alone : (g : Geometry) (text : List ℕ) (tags : List Tag) (some last : Bool) → IsSection text tags some last
    → sections_found true g Outside bare (text ++ []) ≡ tags_found g (length text) some tags ∷ []
last_alone g text tags some false is = last_with_gap g text [] tags some false is refl
last_alone g text tags some true is =
    let one = section_reads is in
    let in_line = one.stands.line refl in
    let s = one.behind in
    let held : Holds tags some (length text) (s.read + 1) (after EndLine s) =
    record {
      read = refl;
      size = one.stands.read;
      unclosed = sym in_line.0;
      fens = one.stands.fens;
      games =
          one.stands.games;
    } in
    reads_found true g [] one.reads
    ∙ text_ends (section_found g s) (section_found g (after EndLine s)) in_line.1.1
    ∙ ap (λ f. f ∷ []) (Holds-found g tags some (length text) (s.read + 1) (after EndLine s) held)

pub last_section_is_found : LastSectionIsFound
last_section_is_found g text gap tags some last is (inl spaces) = last_with_gap g text gap tags some last is spaces
last_section_is_found g text gap tags some last is (inr none) =
    ap (λ l. sections_found true g Outside bare (text ++ l)) none ∙ last_alone g text tags some last is

-- ---- comments
comment_reads : (text : List ℕ) → list_all (λ byte. not (closes byte)) text ≡ true → (s : Section)
    → Reads Comment s text Comment s
comment_reads [] all s = here
comment_reads (byte ∷ text) all s =
    let both = and_parts (not (closes byte)) (list_all (λ b. not (closes b)) text) all in
    step byte Keep (rw (not-true (closes byte) both.0) refl) (λ f. refl) (comment_reads text both.1 s)

pub comments_say_nothing : CommentsSayNothing
comments_say_nothing at_end g text more all = reads_found at_end g (125 ∷ more) (comment_reads text all bare)

pub open_comment_is_found : OpenCommentIsFound
open_comment_is_found g text all = ap (sections_found true g Comment bare) (sym (append-nil text))
    ∙ reads_found true g [] (comment_reads text all bare)

pub others_say_nothing : OthersSayNothing
others_say_nothing at_end g byte more h =
    let parts = or_parts (byte == 91) (byte == 123) h in
    let stays : transition Outside byte ≡ at Outside Keep = rw (parts.0, parts.1) refl in
    ap (λ x. found_by x.action (section_found g bare) ++ sections_found at_end g x.state (after x.action bare) more)
    stays

-- ---- what is unfinished has given nothing
pub open_comment_gives_nothing : OpenCommentGivesNothing
open_comment_gives_nothing g text all = ap (sections_found false g Comment bare) (sym (append-nil text))
    ∙ reads_found false g [] (comment_reads text all bare)

pub open_section_gives_nothing : OpenSectionGivesNothing
open_section_gives_nothing g text gap tags some last is (inl spaces) =
    ap (sections_found false g Outside bare) (sym (append-nil (text ++ gap)))
    ∙ reads_found false g [] (whole_reads text gap tags some last is spaces).1
open_section_gives_nothing g text gap tags some last is (inr none) =
    ap (λ l. sections_found false g Outside bare (text ++ l)) none ∙ reads_found false g [] (section_reads is).reads
