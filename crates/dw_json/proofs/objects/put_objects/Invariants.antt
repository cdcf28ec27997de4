use Rattle.std.proofs.Common.{◌≡◌, ◌++◌, List, map, take}
use Rattle.dw_json.specs.Rows.{AreObjects, Member}
use Rattle.dw_json.proofs.RowLemmas.{all_tokens, object_value}
use Rattle.dw_json.proofs.objects.put_objects.Given as goal

abbrev pub invariant-items : goal.invariant-items
invariant-items g l = record {
  before : l.row.before ≡ l.initial.row.before;
  tokens : (each : List (List Member)) × AreObjects (g.P.PutObject.says l.put) (take l.item-index l.all) each
      × (l.row.tokens ≡ l.initial.row.tokens ++ all_tokens (map object_value each));
}
