use Rattle.std.proofs.Common.{◌≡◌, ◌∙◌, nat_eq, Some, None, sym, ap, subst}
use Rattle.std.specs.Cmp.Lexicographic.{pointwise}
use Rattle.std.specs.Map.{lookup}
use Rattle.std.specs.Option.{option_copied}
use Rattle.indexmap.proofs.CallerLemmas.{insert_entry-new}
use Rattle.dw_same.specs.inner.Keys.{AreAdded, key}
use Rattle.dw_same.proofs.IndexLemmas.{Answers, found_again, found_none, new_pushed, on_err, repeat_added}
use Rattle.dw_same.proofs.index.ProblemIndex.add.Goals as goal

pub returns-in-Some-clause-repeat : goal.returns-in-Some-clause-repeat
unfolding AreAdded
returns-in-Some-clause-repeat g c problems all =
    let geo = g.B.Board.geometry in
    let p = c.args.position.now in
    let entries = c.args.self.now.firsts.entries in
    let there : lookup (pointwise nat_eq (key geo p)) entries ≡ Some c.in-Some.first.now =
    ap (λ k. lookup (pointwise nat_eq k) entries) (sym c.key_of-key.ensures)
    ∙ (sym c.get.ensures.value ∙ ap option_copied c.in-Some.is) in
    found_again geo problems entries p c.in-Some.first.now c.turn-turn.result c.repeat_of.result
    c.turn-turn.ensures.value c.repeat_of.ensures (all p c.turn-turn.ensures.position) there

pub returns-in-Some-clause-added : goal.returns-in-Some-clause-added
unfolding AreAdded
returns-in-Some-clause-added g c problems all =
    let geo = g.B.Board.geometry in
    let p = c.args.position.now in
    let entries = c.args.self.now.firsts.entries in
    let there : lookup (pointwise nat_eq (key geo p)) entries ≡ Some c.in-Some.first.now =
    ap (λ k. lookup (pointwise nat_eq k) entries) (sym c.key_of-key.ensures)
    ∙ (sym c.get.ensures.value ∙ ap option_copied c.in-Some.is) in
    repeat_added geo g.met.B.Board.numbers problems entries (record { number = c.args.number; position = p })
    c.in-Some.first.now c.turn-turn.ensures.position there all

pub returns-in_err-insert-clause-refused : goal.returns-in_err-insert-clause-refused
unfolding AreAdded
returns-in_err-insert-clause-refused g c = on_err c.from_residual.result (λ problems all.
    subst (λ z. Answers g.B.Board.geometry problems z) (sym c.in_err-insert.ensures.err) all)

pub returns-clause-repeat : goal.returns-clause-repeat
unfolding AreAdded
returns-clause-repeat g c problems all =
    let geo = g.B.Board.geometry in
    let p = c.args.position.now in
    let entries = c.args.self.now.firsts.entries in
    let absent : lookup (pointwise nat_eq (key geo p)) entries ≡ None =
    ap (λ k. lookup (pointwise nat_eq k) entries) (sym c.key_of-key.ensures)
    ∙ (sym c.get.ensures.value ∙ ap option_copied c.in_default.is) in
    found_none geo problems entries p (all p c.turn-turn.ensures.position) absent

pub returns-clause-added : goal.returns-clause-added
unfolding AreAdded
returns-clause-added g c problems all =
    let geo = g.B.Board.geometry in
    let p = c.args.position.now in
    let map = c.args.self.now.firsts in
    let absent = sym c.get.ensures.value ∙ ap option_copied c.in_default.is in
    new_pushed geo g.met.B.Board.numbers problems map.entries c.insert.new.self.entries
    (record { number = c.args.number; position = p }) c.key_of-key.result c.turn-turn.result
    c.turn-turn.ensures.position c.key_of-key.ensures c.turn-turn.ensures.value absent
    (c.in_ok-insert.ensures.entries ∙ insert_entry-new (pointwise nat_eq) map c.key_of-key.result
    (record { number = c.args.number; turn = c.turn-turn.result }) absent) all
