-- Members that are written one after another.
use Rattle.std.proofs.Common.{◌≡◌, List, [], ◌∷◌, ◌++◌, map, refl, sym, ◌∙◌, ap, append_assoc, append-nil}
use Rattle.std.specs.Prelude.{Result, Ok, Err, IfOk, OnOk}
use Rattle.json.specs.Token.{Token}
use Rattle.json.specs.Tree.{json_tokens}
use Rattle.json.specs.Written.{Written}
use Rattle.dw_json.specs.Rows.{AreObjects, Member}
use Rattle.dw_json.specs.Writing.{IsBegun, WritesMembers, member_tokens}

-- from an `Ok` with P, and Q from P, follows an `Ok` with Q
pub if_ok : {T E : Type 0} {P Q : T → Type 0} (r : Result T E) → IfOk r P → ((x : T) → P x → Q x) → IfOk r Q
if_ok (Ok x) p f = f x p
if_ok (Err e) p f = p

-- if `Ok` gives P, and Q follows from P, then `Ok` gives Q
pub then_ok : {T E P Q : Type 0} (r : Result T E) → OnOk r P → (P → Q) → OnOk r Q
then_ok (Ok x) p f = f p
then_ok (Err e) p f = p

member_tokens-append : (a b : List Member) → member_tokens (a ++ b) ≡ member_tokens a ++ member_tokens b
member_tokens-append [] b = refl
member_tokens-append (m ∷ a) b =
    ap (λ rest. Token.key m.0 ∷ rest) (ap (λ rest. json_tokens m.1 ++ rest) (member_tokens-append a b)
    ∙ sym (append_assoc (json_tokens m.1) (member_tokens a) (member_tokens b)))

-- no member
pub none : (w : Written) → WritesMembers [] w w
none w = record { before = refl; tokens = sym (append-nil w.tokens) }

-- members, and then others
pub both : (a b : List Member) (first mid last : Written) → WritesMembers a first mid → WritesMembers b mid last
    → WritesMembers (a ++ b) first last
both a b first mid last one two = record {
  before = two.before ∙ one.before;
  tokens = two.tokens ∙ (ap (λ z. z ++ member_tokens b) one.tokens
      ∙ (append_assoc first.tokens (member_tokens a) (member_tokens b)
      ∙ ap (λ z. first.tokens ++ z) (sym (member_tokens-append a b))));
}

-- a row that has begun goes on
pub begun_more : (a b : List Member) (old new : Written) → IsBegun a old → WritesMembers b old new
    → IsBegun (a ++ b) new
begun_more a b old new begun more = record {
  before = more.before ∙ begun.before;
  tokens = more.tokens ∙ (ap (λ z. z ++ member_tokens b) begun.tokens
      ∙ ap (λ z. Token.begin_object ∷ z) (sym (member_tokens-append a b)));
}

-- objects for things that stand for others
pub objects_told : {X Y : Type 0} (One : Y → List Member → Type 0) (told : X → Y) (xs : List X)
    (each : List (List Member)) → AreObjects (λ x. One (told x)) xs each → AreObjects One (map told xs) each
objects_told One told [] each none = none
objects_told One told (x ∷ xs) each h = (h.0, h.1, h.2, objects_told One told xs h.1 h.3, h.4)
