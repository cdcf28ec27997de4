use Rattle.dw_json.specs.inner.Composing.{then_ok}
use Rattle.dw_json.proofs.RowLemmas.{whole_object}
use Rattle.dw_json.proofs.objects.put_object.Goals as goal

pub returns : goal.returns
returns g c = then_ok c.end_object.result c.end_object.ensures.ok (λ written. (
  c.in_ok-put.ensures.0,
  c.in_ok-put.ensures.1,
  whole_object c.in_ok-put.ensures.0 c.args.row.now c.begin_object.new.self c.put.new.row c.end_object.new.self
      c.begin_object.ensures.room.0 c.in_ok-begin_object.ensures.ok c.in_ok-put.ensures.2
      c.end_object.ensures.room.0 written,
))
