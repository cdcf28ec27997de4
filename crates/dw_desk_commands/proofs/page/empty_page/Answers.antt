use Rattle.std.proofs.Common.{◌≡◌, ◌∙◌, ◌++◌, ℕ, List, [], ap, append-nil, arith, false, inl, inr, refl, subst}
use Rattle.std.proofs.lemmas.Result.{err_from_is_err_and}
use Rattle.dw_notation.specs.Streams.{Appends}
use Rattle.dw_notation.specs.inner.StreamLemmas.{Appends-nil, Appends-trans}
use Rattle.dw_desk_commands.specs.Page.{IsPage, IsPageStop, language_for, heading_of}
use Rattle.dw_desk_commands.specs.declared.desk.Counts.{Counts}
use Rattle.dw_desk_commands.specs.inner.Standing.{Stands}
use Rattle.dw_desk_commands.proofs.PageLemmas.{head_left}
use Rattle.dw_desk_commands.proofs.ProblemLemmas.{is_err}
use Rattle.dw_desk_commands.proofs.StandingLemmas.{then_stands}
use Rattle.dw_page.specs.Pages.{end, head}
use Rattle.dw_desk_commands.proofs.page.empty_page.Goals as goal

pub returns-then-must_exist-clause-page : goal.returns-then-must_exist-clause-page
returns-then-must_exist-clause-page g c = (
  [],
  inr (c.if-must_exist.true, c.default.ensures.0, c.default.ensures.1, refl),
  Appends-nil (g.K.Sink.accepted c.args.sink.now),
)

pub returns-clause-page : goal.returns-clause-page
returns-clause-page g c =
    let query = c.args.query.now in
    let front = head g.B.Board.geometry (language_for query.language) query.title.now in
    let heading = heading_of query.solutions (language_for query.language) in
    let taken = g.K.Sink.accepted in (
      front ++ (heading ++ end),
      inl (
        (record {
          games_shown = [];
          are = refl;
          each = λ k d lt. absurd (omega (arith, lt));
          shown = λ few. c.default-2.ensures.0;
          refused = λ few. c.default-2.ensures.1;
          is = refl;
        }),
        c.if-must_exist.false,
      ),
      Appends-trans (taken c.args.sink.now) (taken c.begin_page.new.sink) (taken c.end_page.new.sink) front
          (heading ++ end) c.in_ok-later.ensures.head
          (subst (λ t. Appends (taken c.begin_page.new.sink) (taken c.end_page.new.sink) (t ++ end))
          c.in_ok-later.ensures.later c.in_ok-end_page.ensures.text),
    )

pub returns-in_err-later-clause-stands : goal.returns-in_err-later-clause-stands
returns-in_err-later-clause-stands g c =
    let geo = g.B.Board.geometry in
    let query = c.args.query.now in
    let start = g.K.Sink.accepted c.args.sink.now in
    let new = g.K.Sink.accepted c.begin_page.new.sink in
    let front = head geo (language_for query.language) query.title.now in
    let Left = IsPageStop geo query [] in
    let Whole = λ (text : List ℕ). (c.args.must_exist ≡ false) × (counts : Counts) × IsPage geo query [] counts text in
    let why = err_from_is_err_and c.from_residual.result c.from_residual.ensures.1 in
    is_err (Stands Left Whole start new) c.from_residual.result why.0 c.in_err-later.field-0.0 why.1 why.2
    (then_stands Left Whole (λ text. text ≡ []) (λ text. text ≡ front) start start new [] c.in_err-later.field-0.0
    (Appends-nil start) c.in_err-later.ensures.stands (λ text none. inl none)
    (λ text is. inl (head_left geo query [] text is)))

pub returns-in_err-end_page-clause-stands : goal.returns-in_err-end_page-clause-stands
returns-in_err-end_page-clause-stands g c =
    let geo = g.B.Board.geometry in
    let query = c.args.query.now in
    let start = g.K.Sink.accepted c.args.sink.now in
    let mid = g.K.Sink.accepted c.begin_page.new.sink in
    let new = g.K.Sink.accepted c.end_page.new.sink in
    let front = head geo (language_for query.language) query.title.now in
    let later = c.in_ok-later.later.items in
    let none : Counts = record { shown = 0; refused = 0 } in
    let Left = IsPageStop geo query [] in
    let Whole = λ (text : List ℕ). (c.args.must_exist ≡ false) × (counts : Counts) × IsPage geo query [] counts text in
    let why = err_from_is_err_and c.from_residual-in_err-end_page.result c.from_residual-in_err-end_page.ensures.1 in
    is_err (Stands Left Whole start new) c.from_residual-in_err-end_page.result why.0 c.in_err-end_page.field-0.0 why.1
    why.2
    (then_stands Left Whole (λ text. text ≡ []) (λ text. text ≡ later ++ end) start mid new front
    c.in_err-end_page.field-0.0 c.in_ok-later.ensures.head c.in_err-end_page.ensures.stands
    (λ text nothing. head_left geo query [] (front ++ text) (ap (λ z. front ++ z) nothing ∙ append-nil front))
    (λ text is. inr (
      c.if-must_exist.false,
      none,
      record {
        games_shown = [];
        are = refl;
        each = λ k d lt. absurd (omega (arith, lt));
        shown = λ few. refl;
        refused = λ few. refl;
        is = ap (λ z. front ++ z) (is ∙ ap (λ z. z ++ end) c.in_ok-later.ensures.later);
      },
    )))
