use Rattle.std.proofs.Common.{◌<◌, refl, sym, subst}
use Rattle.std.specs.FinSet as set
use Rattle.dw_board.proofs.ItemLemmas.{fewer_left, all_left, room_left, one_written, all_written, few_written}
use Rattle.dw_board.proofs.fen.write.push_items.Goals as goal

pub squares-init : goal.squares-init
squares-init g c =
    all_left g.B.Board.geometry c.args.position.now c.args.side c.all_of-left.result c.args.text.now.bytes
    c.all_of-left.ensures

pub push_item-requires : goal.push_item-requires
push_item-requires g c = record {
  room = room_left g.B.Board.geometry g.met.B.Board.numbers c.args.position.now c.requires.position c.args.side
      c.squares.left c.args.text.now.bytes c.squares.text.bytes c.squares.is_first
      c.squares.invariant _ c.in-Some.ensures.member c.in-Some.ensures.least c.requires.room;
}

pub squares-smaller : goal.squares-smaller
squares-smaller g c =
    subst (λ v. set.len v < set.len c.squares.left) (sym c.in-Some.ensures.rest)
    (fewer_left c.squares.left _ c.in-Some.ensures.member)

pub squares-preserved : goal.squares-preserved
squares-preserved g c =
    one_written g.B.Board.geometry c.args.position.now c.args.side c.squares.left _ c.squares-kings.result
    c.args.text.now.bytes c.squares.text.bytes c.push_item.new.text.bytes
    c.squares.is_first _ c.has.result _ c.squares-kings.ensures c.squares.invariant
    c.in-Some.ensures.member c.in-Some.ensures.least c.in-Some.ensures.rest c.has.ensures
    c.push_item.ensures.bytes c.push_item.ensures.few refl

pub returns-clause-bytes : goal.returns-clause-bytes
returns-clause-bytes g c =
    all_written g.B.Board.geometry c.args.position.now c.args.side c.squares.left
    c.args.text.now.bytes c.squares.text.bytes c.squares.is_first c.squares.invariant (c.in_default.ensures.none.0 refl)

pub returns-clause-few : goal.returns-clause-few
returns-clause-few g c =
    few_written g.B.Board.geometry g.met.B.Board.numbers c.args.position.now c.requires.position c.args.side
    c.squares.left c.args.text.now.bytes c.squares.text.bytes c.squares.is_first c.squares.invariant
