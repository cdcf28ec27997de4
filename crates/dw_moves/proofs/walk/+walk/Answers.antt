use Rattle.std.proofs.Common.{◌≡◌, ◌+◌, ◌++◌, ◌∷◌, [], ℕ, List, false, sym, ap, ◌∙◌, subst, refl, arith}
use Rattle.std.proofs.lemmas.Bool.{true≢false}
use Rattle.std.specs.FinSet as fin
use Rattle.std.proofs.lemmas.List.{length-append}
use Rattle.std.proofs.lemmas.Result.{on_ok_weaker}
use Rattle.dw_board.specs.declared.piece.Piece.{Piece}
use Rattle.dw_moves.specs.Order.{Listed}
use Rattle.dw_board.specs.Geometry.{OnBoard}
use Rattle.dw_moves.specs.Moves.{Jump, ray}
use Rattle.dw_moves.specs.inner.Plain.{landings_for}
use Rattle.dw_moves.specs.inner.Walks.{GoesOn, Offers, onward, so_far}
use Rattle.dw_moves.proofs.OfferLemmas.{offers_one, offers_late, offers_still}
use Rattle.dw_moves.proofs.WalkLemmas.{walked_all, ends_there, landed_none, landed_more, landed_last, landed_stop}
use Rattle.dw_moves.proofs.RunLemmas.{freed, ray_shorter}
use Rattle.dw_moves.proofs.ManJumpLemmas.{not_in}
use Rattle.dw_moves.proofs.SquareSetLemmas.{difference_less, len_more}
use Rattle.dw_moves.proofs.StepLemmas.{step_is}
use Rattle.dw_moves.proofs.WalkLemmas.{Onto, onto_towards, towards_none, towards_taken, same_listed_parts, goes_same}
use Rattle.dw_moves.proofs.walk.+walk.Goals as goal
use Rattle.dw_moves.proofs.walk.+walk.Goals.{walk_onto-then-goes_on+in_ok-walk, walk_onto-else-goes_on+in_ok-offer}
use Rattle.dw_moves.proofs.walk.+walk.Goals.{walk_towards-in-Some-free_step+in_ok-walk_onto+in-Man}
use Rattle.dw_moves.proofs.walk.+walk.Goals.{walk_towards-in_default-free_step}

pub walk-returns-clause-kept : goal.walk-returns-clause-kept
walk-returns-clause-kept g t c =
    let holds = g.K.Keeper.holds in
    let b0 = c.args.chain.now in
    on_ok_weaker c.offer.result (λ kept p side path ground on.
    let b : Listed = so_far b0.from b0.at b0.taken path in
    let on1 = c.in_ok-walk_towards.ensures.on path on in
    let on2 = c.in_ok-walk_towards-2.ensures.on path on1 in
    let on3 = c.in_ok-walk_towards-3.ensures.on path on2 in
    let on4 = c.in_ok-walk_towards-4.ensures.on path on3 in
    let this : Listed = record { step = c.ended.result; path = path } in
    let last : Offers holds (λ l. l ≡ b) c.walk_towards-4.new.keeper c.offer.new.self =
    subst (λ z. Offers holds (λ l. l ≡ z) c.walk_towards-4.new.keeper c.offer.new.self)
    (same_listed_parts this b c.ended.ensures refl) (offers_one this (kept path on4)) in
    walked_all (c.in_ok-walk_towards.ensures.kept p side path ground on)
    (c.in_ok-walk_towards-2.ensures.kept p side path ground on1)
    (c.in_ok-walk_towards-3.ensures.kept p side path ground on2)
    (c.in_ok-walk_towards-4.ensures.kept p side path ground on3) last) c.offer.ensures.kept

pub walk_onto-returns-clause-kept : goal.walk_onto-returns-clause-kept
walk_onto-returns-clause-kept g t c = λ p side path ground on.
    let holds = g.K.Keeper.holds in
    let b0 = c.args.chain.now in
    let here : List ℕ = path ++ b0.at ∷ [] in
    let b : Listed = so_far b0.from b0.at b0.taken here in
    let E : Listed → Type 0 = GoesOn g.B.Board.geometry p (record { side = side; kind = g.M.Mover.as_kind }) b in
    let on1 = c.enter.ensures.on path on in
    let done : Offers holds E c.enter.new.self c.if-goes_on.keeper = elim c.if-goes_on.branch [
      | walk_onto-then-goes_on+in_ok-walk w ↦ subst (λ z. Offers holds E c.enter.new.self z) (sym w.keeper-is)
          (w.in_ok-walk.ensures.kept p side here ground on1)
      | walk_onto-else-goes_on+in_ok-offer w ↦
          let this : Listed = record { step = w.ended.result; path = here } in
          let last : Offers holds (λ l. l ≡ b) c.enter.new.self w.offer.new.self =
          subst (λ z. Offers holds (λ l. l ≡ z) c.enter.new.self w.offer.new.self)
          (same_listed_parts this b w.ended.ensures refl) (offers_one this (w.in_ok-offer.ensures.kept here on1)) in
          subst (λ z. Offers holds E c.enter.new.self z) (sym w.keeper-is) (ends_there (λ x u fresh jump.
          c.requires.ends w.if-goes_on.false p side x u ground fresh jump) last)
    ] in
    offers_still (offers_late c.enter.ensures.same done) c.leave.ensures.same

pub walk_towards-returns-in_default-clause-kept : goal.walk_towards-returns-in_default-clause-kept
walk_towards-returns-in_default-clause-kept g t c = λ p side path ground on.
    towards_none (c.met.ensures.none c.in_default.is p side ground)

pub walk_towards-returns-then-has-clause-kept : goal.walk_towards-returns-then-has-clause-kept
walk_towards-returns-then-has-clause-kept g t c = λ p side path ground on.
    towards_taken c.in-Some.over (c.in-Some.ensures.some p side ground) (sym c.has.ensures ∙ c.if-has.true)

pub walk_towards-landings-init : goal.walk_towards-landings-init
walk_towards-landings-init g t c = record {
  on = c.in-Some.ensures.on_board;
  path = λ path on. on;
  walked = λ p side path ground on. landed_none;
}

pub walk_towards-onto-requires : goal.walk_towards-onto-requires
walk_towards-onto-requires g t c =
    let less = difference_less c.args.field.now.enemies c.args.chain.now.taken c.in-Some.over c.in-Some.ensures.enemy
    (sym c.has.ensures ∙ c.if-has.false) in
    omega (arith, less, c.requires.few)

pub walk_towards-walk_onto-requires : goal.walk_towards-walk_onto-requires
walk_towards-walk_onto-requires g t c κs within =
    let geo = g.B.Board.geometry in
    let enemies = c.args.field.now.enemies in
    let fresh : fin.contains c.args.chain.now.taken c.in-Some.over ≡ false = sym c.has.ensures ∙ c.if-has.false in
    let less = difference_less enemies c.args.chain.now.taken c.in-Some.over c.in-Some.ensures.enemy fresh in
    let left : fin.len (fin.difference enemies c.onto.result.taken)
    ≡ fin.len (fin.difference enemies (fin.insert c.args.chain.now.taken c.in-Some.over)) =
    ap (λ v. fin.len (fin.difference enemies v)) c.onto.ensures.taken in
    let more : fin.len c.onto.result.taken ≡ fin.len c.args.chain.now.taken + 1 = ap fin.len c.onto.ensures.taken
    ∙ len_more c.args.chain.now.taken c.in-Some.over fresh in
    let on : OnBoard geo c.in-Some-free_step.landing = (step_is geo g.met.B.Board.numbers c.landings.at
    c.in-Some-free_step.landing c.args.direction c.landings.invariant.on c.in-Some-free_step.ensures.steps).on in
    let count = c.onto.ensures.count in
    let few = c.requires.few in
    let counted = c.requires.counted in
    let falls = c.decreases in
    let path = c.requires.path in (
      omega (arith, less, left, falls),
      (
        within.0,
        (
          within.1.0,
          (
            within.1.1.0,
            (
              within.1.1.1,
              (
                subst (OnBoard geo) (sym c.onto.ensures.at) on,
                (
                  omega (arith, less, left, count, few),
                  (
                    omega (arith, more, count, counted),
                    (
                      (path.0, (c.landings.invariant.path path.0 path.1.0, path.1.1 ∙ sym count)),
                      λ no p side x u ground fresh jump.
                          let free = (freed geo g.met.B.Board.numbers p c.landings.at c.args.direction
                          c.in-Some-free_step.landing c.landings.invariant.on
                          (sym (c.free_step.ensures.free p ground.of_all) ∙ c.in-Some-free_step.is)).free in
                          let starts = c.jump_starts-starts.ensures p side c.in-Some-free_step.landing x u ground on
                          (not_in geo p c.args.field.now.occupied c.in-Some-free_step.landing ground.of_all free)
                          (ap (λ v. fin.contains v x) (c.with.ensures ∙ sym c.onto.ensures.taken) ∙ fresh)
                          (subst (λ z. Jump geo p (record { side = side; kind = g.M.Mover.as_kind }) z x u)
                          c.onto.ensures.at jump) in
                          true≢false (sym starts ∙ (sym c.has-in-Some-free_step.ensures ∙ no)),
                    ),
                  ),
                ),
              ),
            ),
          ),
        ),
      ),
    )

pub walk_towards-landings-smaller : goal.walk_towards-landings-smaller
walk_towards-landings-smaller g t c = ray_shorter g.B.Board.geometry g.met.B.Board.numbers c.landings.at
    c.args.direction c.in-Some-free_step.landing c.landings.invariant.on c.in-Some-free_step.ensures.steps

pub walk_towards-landings-preserved : goal.walk_towards-landings-preserved
walk_towards-landings-preserved g t c =
    let geo = g.B.Board.geometry in
    let b0 = c.args.chain.now in
    let landing = c.in-Some-free_step.landing in
    let inv = c.landings.invariant in
    record {
      on = (step_is geo g.met.B.Board.numbers c.landings.at landing c.args.direction inv.on
          c.in-Some-free_step.ensures.steps).on;
      path = λ path on. c.in_ok-walk_onto.ensures.on path (inv.path path on);
      walked = λ p side path ground on.
          let b : Listed = so_far b0.from b0.at b0.taken path in
          let rest : Offers g.K.Keeper.holds (GoesOn geo p (record { side = side; kind = g.M.Mover.as_kind })
          (onward b c.in-Some.over landing)) c.landings.keeper c.walk_onto.new.keeper =
          goes_same path c.onto.ensures.from c.onto.ensures.at c.onto.ensures.taken
          (c.in_ok-walk_onto.ensures.kept p side path ground (inv.path path on)) in
          landed_more (sym c.kind.ensures ∙ c.in-King.is) (inv.walked p side path ground on)
          (freed geo g.met.B.Board.numbers p c.landings.at c.args.direction landing inv.on
          (sym (c.free_step.ensures.free p ground.of_all) ∙ c.in-Some-free_step.is)) rest;
    }

pub walk_towards-returns-clause-kept : goal.walk_towards-returns-clause-kept
walk_towards-returns-clause-kept g t c = λ p side path ground on.
    let geo = g.B.Board.geometry in
    let holds = g.K.Keeper.holds in
    let b0 = c.args.chain.now in
    let piece : Piece = record { side = side; kind = g.M.Mover.as_kind } in
    let b : Listed = so_far b0.from b0.at b0.taken path in
    let inv = c.landings.invariant in
    let E : Listed → Type 0 = Onto geo p piece b c.in-Some.over (landings_for piece.kind p
    (ray geo c.in-Some.over c.args.direction)) in
    let done : Offers holds E c.args.keeper.now c.match-free_step.keeper = elim c.match-free_step.branch [
      | walk_towards-in-Some-free_step+in_ok-walk_onto+in-Man w ↦
          let landing = w.in-Some-free_step.landing in
          let rest : Offers holds (GoesOn geo p piece (onward b c.in-Some.over landing)) c.landings.keeper
          w.walk_onto.new.keeper = goes_same path w.onto.ensures.from w.onto.ensures.at w.onto.ensures.taken
          (w.in_ok-walk_onto.ensures.kept p side path ground (inv.path path on)) in
          subst (λ z. Offers holds E c.args.keeper.now z) (sym w.keeper-is)
          (landed_last (sym w.kind.ensures ∙ w.in-Man.is) (inv.walked p side path ground on)
          (freed geo g.met.B.Board.numbers p c.landings.at c.args.direction landing inv.on
          (sym (c.free_step.ensures.free p ground.of_all) ∙ w.in-Some-free_step.is)) rest)
      | walk_towards-in_default-free_step w ↦ subst (λ z. Offers holds E c.args.keeper.now z) (sym w.keeper-is)
          (landed_stop g.met.B.Board.numbers inv.on (inv.walked p side path ground on)
          (sym (c.free_step.ensures.free p ground.of_all) ∙ w.in_default-free_step.is))
    ] in
    onto_towards (c.in-Some.ensures.some p side ground) (sym c.has.ensures ∙ c.if-has.false) done

pub walk-walk_towards-requires : goal.walk-walk_towards-requires
walk-walk_towards-requires g t c κs w =
    let r = c.requires in
    let p = r.path in
    let less = c.decreases in
    (omega (arith, less), (w.0, (w.1.0, (w.1.1.0, (w.1.1.1, (r.on_board, (r.few, (r.counted, p))))))))

pub walk-walk_towards-requires-2 : goal.walk-walk_towards-requires-2
walk-walk_towards-requires-2 g t c κs w =
    let r = c.requires in
    let p = r.path in
    let less = c.decreases in
    let on1 = c.in_ok-walk_towards.ensures.on p.0 p.1.0 in
    (omega (arith, less), (w.0, (w.1.0, (w.1.1.0, (w.1.1.1, (r.on_board, (r.few, (r.counted, (p.0, (on1, p.1.1))))))))))

pub walk-walk_towards-requires-3 : goal.walk-walk_towards-requires-3
walk-walk_towards-requires-3 g t c κs w =
    let r = c.requires in
    let p = r.path in
    let less = c.decreases in
    let on1 = c.in_ok-walk_towards.ensures.on p.0 p.1.0 in
    let on2 = c.in_ok-walk_towards-2.ensures.on p.0 on1 in
    (omega (arith, less), (w.0, (w.1.0, (w.1.1.0, (w.1.1.1, (r.on_board, (r.few, (r.counted, (p.0, (on2, p.1.1))))))))))

pub walk-walk_towards-requires-4 : goal.walk-walk_towards-requires-4
walk-walk_towards-requires-4 g t c κs w =
    let r = c.requires in
    let p = r.path in
    let less = c.decreases in
    let on1 = c.in_ok-walk_towards.ensures.on p.0 p.1.0 in
    let on2 = c.in_ok-walk_towards-2.ensures.on p.0 on1 in
    let on3 = c.in_ok-walk_towards-3.ensures.on p.0 on2 in
    (omega (arith, less), (w.0, (w.1.0, (w.1.1.0, (w.1.1.1, (r.on_board, (r.few, (r.counted, (p.0, (on3, p.1.1))))))))))

pub walk-returns-clause-on : goal.walk-returns-clause-on
walk-returns-clause-on g t c = on_ok_weaker c.offer.result (λ on4 path on.
    let on1 = c.in_ok-walk_towards.ensures.on path on in
    let on2 = c.in_ok-walk_towards-2.ensures.on path on1 in
    let on3 = c.in_ok-walk_towards-3.ensures.on path on2 in
    on4 path (c.in_ok-walk_towards-4.ensures.on path on3)) c.offer.ensures.on

pub walk_onto-walk-requires : goal.walk_onto-walk-requires
walk_onto-walk-requires g t c κs w =
    let r = c.requires in
    let p = r.path in
    let less = c.decreases in
    let here = p.0 ++ c.args.chain.now.at ∷ [] in
    let on = c.enter.ensures.on p.0 p.1.0 in
    let long = length-append p.0 (c.args.chain.now.at ∷ []) ∙ ap (λ n. n + 1) p.1.1 in
    (omega (arith, less), (w.0, (w.1.0, (w.1.1.0, (w.1.1.1, (r.on_board, (r.few, (r.counted, (here, (on, long))))))))))

pub walk_onto-returns-clause-on : goal.walk_onto-returns-clause-on
walk_onto-returns-clause-on g t c = λ path on.
    let is_on = g.K.Keeper.is_on in
    let here : List ℕ = path ++ c.args.chain.now.at ∷ [] in
    let on1 = c.enter.ensures.on path on in
    let there : is_on c.if-goes_on.keeper here = elim c.if-goes_on.branch [
      | walk_onto-then-goes_on+in_ok-walk w ↦ subst (λ z. is_on z here) (sym w.keeper-is)
          (w.in_ok-walk.ensures.on here on1)
      | walk_onto-else-goes_on+in_ok-offer w ↦ subst (λ z. is_on z here) (sym w.keeper-is)
          (w.in_ok-offer.ensures.on here on1)
    ] in
    c.leave.ensures.on path c.args.chain.now.at there

pub walk_towards-returns-clause-on : goal.walk_towards-returns-clause-on
walk_towards-returns-clause-on g t c = λ path on.
    let is_on = g.K.Keeper.is_on in
    let on1 = c.landings.invariant.path path on in
    elim c.match-free_step.branch [
      | walk_towards-in-Some-free_step+in_ok-walk_onto+in-Man w ↦ subst (λ z. is_on z path) (sym w.keeper-is)
          (w.in_ok-walk_onto.ensures.on path on1)
      | walk_towards-in_default-free_step w ↦ subst (λ z. is_on z path) (sym w.keeper-is) on1
    ]
