use Rattle.std.proofs.Common.{arith, inl, refl, subst, sym}
use Rattle.std.proofs.lemmas.Bool.{true≢false}
use Rattle.dw_solve.specs.Wins.{Win}
use Rattle.dw_solve.proofs.MemoLemmas.{same_true, unheld_open}
use Rattle.dw_solve.proofs.SearchLemmas.{answer_no, decided_same, looked_up}
use Rattle.dw_solve.proofs.WorkLemmas.{searched_none, searched_same}
use Rattle.dw_solve.proofs.search.known.Goals as goal

pub returns-then-moves-eq0-clause-looked : goal.returns-then-moves-eq0-clause-looked
returns-then-moves-eq0-clause-looked g c = record {
  right = c.requires;
  count = refl;
  limit = refl;
  same = λ e. ((λ m. m), (λ m. m));
  work = searched_none g.B.Board.geometry 0 0 _;
}

pub returns-then-moves-eq0-clause-answer : goal.returns-then-moves-eq0-clause-answer
returns-then-moves-eq0-clause-answer g c = record {
  answer = answer_no (Win g.B.Board.geometry c.args.position.now c.args.moves) (λ win.
      subst (Win g.B.Board.geometry c.args.position.now) c.if-moves-eq0.true win);
  sure = inl c.if-moves-eq0.true;
  says = record {
    when = λ won. absurd (true≢false (sym won));
    unless = λ lost. inl c.if-moves-eq0.true;
  };
}

pub returns-in-Some-clause-looked : goal.returns-in-Some-clause-looked
returns-in-Some-clause-looked g c = record {
  right = same_true g.B.Board.geometry (g.M.Memo.content c.args.search.now.memo)
      (g.M.Memo.content c.look.new.self) c.requires c.look.ensures.same;
  count = refl;
  limit = refl;
  same = c.look.ensures.same;
  work = searched_same g.B.Board.geometry 0 0 _ _ c.look.ensures.map c.look.ensures.same (sym c.look.ensures.dropped)
      refl;
}

pub returns-in-Some-clause-answer : goal.returns-in-Some-clause-answer
returns-in-Some-clause-answer g c = looked_up g.B.Board.geometry (g.M.Memo.content c.args.search.now.memo)
    (g.M.Memo.content c.look.new.self) c.args.position.now c.in-Some.bounds c.args.moves c.decide.result c.requires
    c.look.ensures.map_after c.look.ensures.same c.in-Some.ensures.found c.decide.ensures.value
    (omega (arith, c.if-moves-eq0.false))

pub returns-in-None-clause-looked : goal.returns-in-None-clause-looked
returns-in-None-clause-looked g c = record {
  right = same_true g.B.Board.geometry (g.M.Memo.content c.args.search.now.memo)
      (g.M.Memo.content c.look.new.self) c.requires c.look.ensures.same;
  count = refl;
  limit = refl;
  same = c.look.ensures.same;
  work = searched_same g.B.Board.geometry 0 0 _ _ c.look.ensures.map c.look.ensures.same (sym c.look.ensures.dropped)
      refl;
}

pub returns-in-None-clause-answer : goal.returns-in-None-clause-answer
returns-in-None-clause-answer g c =
    let old = g.M.Memo.content c.args.search.now.memo in
    let now = g.M.Memo.content c.look.new.self in
    record {
      some = omega (arith, c.if-moves-eq0.false);
      undecided = λ known. unheld_open old c.args.position.now c.args.moves c.in-None.ensures.found
          (decided_same now old c.args.position.now c.args.moves
          (λ e. ((c.look.ensures.same e).1, (c.look.ensures.same e).0)) known);
      map = c.look.ensures.map_after;
    }
