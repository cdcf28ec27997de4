use Rattle.std.proofs.Common.{length, sym, ap, ◌∙◌, subst, ◌<◌}
use Rattle.dw_games.specs.Walk.{place_of}
use Rattle.dw_study.proofs.ChildLemmas.{HaveMet, ahead, met_none, nearer, met_child, met_some, met_all}
use Rattle.dw_study.proofs.branch.children.Goals.{in-Some-child_at+in_ok-push, in_default-child_at}
use Rattle.dw_study.proofs.branch.children.Goals as goal

pub children-init : goal.children-init
children-init g c =
    met_none g.B.Board.geometry c.args.tree.now c.args.spot.now c.first_child-next.result c.new-children.result.items
    c.requires c.first_child-next.ensures c.new-children.ensures.items

pub children-smaller : goal.children-smaller
children-smaller g c =
    subst (λ z. ahead (length c.args.tree.now.paths) (place_of c.next_sibling-next.result)
    < ahead (length c.args.tree.now.paths) (place_of z)) (sym c.in-Some.is)
    (nearer g.B.Board.geometry c.args.tree.now c.args.spot.now c.children.next c.in-Some.node
    c.children.children.items c.in-Some.is c.children.invariant c.next_sibling-next.result
    c.next_sibling-next.ensures.next)

pub children-preserved : goal.children-preserved
children-preserved g c =
    let geo = g.B.Board.geometry in
    let tree = c.args.tree.now in
    let spot = c.args.spot.now in
    elim c.match-child_at.branch [
      | in-Some-child_at+in_ok-push w ↦
          subst (HaveMet geo tree spot c.next_sibling-next.result)
          (sym (ap (λ v. v.items) w.children-is ∙ w.in_ok-push.ensures))
          (met_child geo tree spot c.children.next c.in-Some.node c.children.children.items c.in-Some.is
          c.children.invariant c.next_sibling-next.result w.in-Some-child_at.child w.in-Some-child_at.ensures
          c.next_sibling-next.ensures.next)
      | in_default-child_at w ↦
          met_some geo tree spot c.children.next c.in-Some.node c.children.children.items c.in-Some.is
          c.children.invariant w.in_default-child_at.ensures
    ]

pub returns : goal.returns
returns g c = λ b here.
    met_all g.B.Board.geometry c.args.tree.now c.args.spot.now c.children.next c.children.children.items b
    c.in_default.is c.children.invariant here
