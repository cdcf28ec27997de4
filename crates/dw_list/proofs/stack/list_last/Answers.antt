use Rattle.std.proofs.Common.{◌≡◌, false, ◌-◌, ◌∙◌, ap, take, get_or, subst, sym, arith}
use Rattle.std.proofs.lemmas.Grind.{common_steps}
use Rattle.dw_moves.specs.Moves.{NoMove}
use Rattle.dw_list.specs.inner.Steps.{IsListing}
use Rattle.dw_list.proofs.StackViewLemmas.{last_taken, listing_ends}
use Rattle.dw_list.proofs.stack.list_last.Goals as goal

pub returns-clause-listed : goal.returns-clause-listed
returns-clause-listed g c =
    let geo = g.B.Board.geometry in
    let place = c.args.depth - 1 in
    let frame = c.index-frames-depth.result in
    let listing = subst (λ z. IsListing geo z c.list.new.self) (sym c.index-frames-depth.is) c.in_ok-list.ensures.ok in
    record {
      outer = take place c.args.frames.now.items;
      last = frame;
      listed = c.list.new.self;
      was = last_taken c.args.frames.now.items c.args.depth place frame c.requires.within (omega arith)
          (c.index-frames-depth.is ∙ ap (λ z. get_or z place frame) c.as_mut_slice-frames.ensures.value);
      is = grind (arith, common_steps);
      listing = listing;
      end = listing_ends geo frame c.list.new.self c.ends_line.result listing c.ends_line.ensures;
    }

pub list-requires : goal.list-requires
list-requires g c =
    let frame = c.index-frames-depth.result in
    subst (λ z. z.attacks ≡ false → z.left ≡ 0 → NoMove g.B.Board.geometry z.position) c.index-frames-depth.is
    (c.requires.over (take (c.args.depth - 1) c.args.frames.now.items) frame
    (last_taken c.args.frames.now.items c.args.depth (c.args.depth - 1) frame c.requires.within (omega arith)
    (c.index-frames-depth.is ∙ ap (λ z. get_or z (c.args.depth - 1) frame) c.as_mut_slice-frames.ensures.value)))
