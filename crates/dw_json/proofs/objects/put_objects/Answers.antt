use Rattle.std.proofs.Common.{◌∙◌, ◌++◌, ◌∷◌, [], refl, sym, ap, subst, append-nil, map}
use Rattle.std.proofs.lemmas.List.{take_all}
use Rattle.dw_json.specs.Rows.{AreObjects}
use Rattle.dw_json.specs.inner.Composing.{then_ok}
use Rattle.dw_json.proofs.RowLemmas.{all_tokens, array_member, item_member, more_objects}
use Rattle.dw_json.proofs.RowLemmas.{object_value, objects_next, one_value}
use Rattle.dw_json.proofs.objects.put_objects.Goals as goal

pub items-init : goal.items-init
items-init g c = record {
  before = refl;
  tokens = ([], refl, sym (append-nil c.begin_array.new.self.tokens));
}

pub put_object-requires : goal.put_object-requires
put_object-requires g c = c.requires c.item-item.result
    (item_member c.args.all.now c.items.item-index c.item-item.result c.items-test.true c.item-item.is)

pub items-preserved : goal.items-preserved
items-preserved g c =
    let so_far = c.items.invariant.tokens in
    let one = c.in_ok-put_object.ensures in
    record {
      before = one.2.before ∙ c.items.invariant.before;
      tokens = (
        so_far.0 ++ one.0 ∷ [],
        objects_next (g.P.PutObject.says c.args.put.now) c.args.all.now c.items.item-index c.item-item.result so_far.0
            one.0 c.items-test.true c.item-item.is so_far.1 one.1,
        one_value (map object_value so_far.0) (object_value one.0) c.begin_array.new.self.tokens c.items.row.tokens
            c.put_object.new.row.tokens so_far.2 one.2.tokens
            ∙ ap (λ z. c.begin_array.new.self.tokens ++ all_tokens z) (sym (more_objects so_far.0 one.0)),
      );
    }

pub returns : goal.returns
returns g c =
    let all = c.items.invariant.tokens in
    then_ok c.end_array.result c.end_array.ensures.ok (λ written. (
      all.0,
      subst (λ z. AreObjects (g.P.PutObject.says c.args.put.now) z all.0)
          (take_all c.items.item-index c.args.all.now c.items-test.false) all.1,
      array_member c.args.name.now (map object_value all.0) c.args.row.now c.key.new.self c.begin_array.new.self
          c.items.row c.end_array.new.self c.key.ensures.room.0 c.in_ok-key.ensures.ok c.begin_array.ensures.room.0
          c.in_ok-begin_array.ensures.ok c.items.invariant.before all.2 c.end_array.ensures.room.0 written,
    ))
