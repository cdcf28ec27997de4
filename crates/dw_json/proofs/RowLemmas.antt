-- How the tokens of a row come together.
use Rattle.std.proofs.Common.{◌≡◌, ℕ, zero, suc, ◌+◌, List, [], ◌∷◌, ◌++◌, map, take, length, refl, sym, ◌∙◌, ap, subst}
use Rattle.std.proofs.Common.{append_assoc, ◌<◌, ◌≤◌, get_or, inl, inr, arith}
use Rattle.std.specs.Prelude.{codes}
use Rattle.std.proofs.lemmas.List.{append-nil, map-append, take_all, take_more}
use Rattle.dw_board.specs.Lists.{Member as Has}
use Rattle.json.specs.Json.{Json, array, object}
use Rattle.json.specs.Print.{print}
use Rattle.json.specs.Token.{Token}
use Rattle.json.specs.Tree.{json_tokens, items_tokens, members_tokens}
use Rattle.json.specs.Written.{Written}
use Rattle.dw_json.specs.Rows.{AreObjects, Member, items_of, members_of, row}
use Rattle.dw_json.specs.Writing.{IsBegun, Writes, WritesMembers, member_tokens}

-- the tokens of values
abbrev pub all_tokens : List Json → List Token
all_tokens [] = []
all_tokens (value ∷ values) = json_tokens value ++ all_tokens values

-- the tokens of an array
array-all : (values : List Json) → items_tokens (items_of values) ≡ all_tokens values ++ Token.end_array ∷ []
array-all [] = refl
array-all (v ∷ vs) = ap (λ rest. json_tokens v ++ rest) (array-all vs)
    ∙ sym (append_assoc (json_tokens v) (all_tokens vs) (Token.end_array ∷ []))

all_tokens-append : (a b : List Json) → all_tokens (a ++ b) ≡ all_tokens a ++ all_tokens b
all_tokens-append [] b = refl
all_tokens-append (v ∷ a) b = ap (λ rest. json_tokens v ++ rest) (all_tokens-append a b)
    ∙ sym (append_assoc (json_tokens v) (all_tokens a) (all_tokens b))

-- one value more
pub one_value : (values : List Json) (value : Json) (begun old new : List Token) → old ≡ begun ++ all_tokens values
    → new ≡ old ++ json_tokens value → new ≡ begun ++ all_tokens (values ++ value ∷ [])
one_value values value begun old new so_far more =
    more ∙ (ap (λ z. z ++ json_tokens value) so_far
    ∙ (append_assoc begun (all_tokens values) (json_tokens value)
    ∙ ap (λ z. begun ++ z) (ap (λ z. all_tokens values ++ z) (sym (append-nil (json_tokens value)))
    ∙ sym (all_tokens-append values (value ∷ [])))))

-- one value more, of the next of some things
pub next_value : {A : Type 0} (f : A → Json) (xs : List A) (i : ℕ) (x : A) (begun old new : List Token) → i < length xs
    → x ≡ get_or xs i x → old ≡ begun ++ all_tokens (map f (take i xs)) → new ≡ old ++ json_tokens (f x)
    → new ≡ begun ++ all_tokens (map f (take (i + 1) xs))
next_value f xs i x begun old new low is so_far more =
    one_value (map f (take i xs)) (f x) begun old new so_far more
    ∙ ap (λ z. begun ++ all_tokens z) (sym (ap (map f) (take_more xs i x low ∙ ap (λ z. take i xs ++ z ∷ []) (sym is))
    ∙ map-append f (take i xs) (x ∷ [])))

map-map : {A B C : Type 0} (f : B → C) (g : A → B) (xs : List A) → map (λ x. f (g x)) xs ≡ map f (map g xs)
map-map f g [] = refl
map-map f g (x ∷ xs) = ap (λ rest. f (g x) ∷ rest) (map-map f g xs)

-- all values of some things
pub all_values : {A B : Type 0} (f : B → Json) (told : A → B) (xs : List A) (i : ℕ) (begun last : List Token)
    → length xs ≤ i → last ≡ begun ++ all_tokens (map (λ x. f (told x)) (take i xs))
    → last ≡ begun ++ all_tokens (map f (map told xs))
all_values f told xs i begun last end all =
    all ∙ ap (λ z. begun ++ all_tokens z) (ap (map (λ x. f (told x))) (take_all i xs end) ∙ map-map f told xs)

-- a member whose value is an array
pub array_member : (name : List ℕ) (values : List Json) (first key begun last end : Written)
    → key.before ≡ first.before → key.tokens ≡ first.tokens ++ Token.key name ∷ []
    → begun.before ≡ key.before → begun.tokens ≡ key.tokens ++ Token.begin_array ∷ []
    → last.before ≡ begun.before → last.tokens ≡ begun.tokens ++ all_tokens values
    → end.before ≡ last.before → end.tokens ≡ last.tokens ++ Token.end_array ∷ []
    → WritesMembers ((name, array (items_of values)) ∷ []) first end
array_member name values first key begun last end b0 t0 b1 t1 b2 t2 b3 t3 = record {
  before = b3 ∙ (b2 ∙ (b1 ∙ b0));
  tokens = t3 ∙ (ap (λ z. z ++ Token.end_array ∷ []) (t2 ∙ ap (λ z. z ++ all_tokens values)
      (t1 ∙ ap (λ z. z ++ Token.begin_array ∷ []) t0)) ∙ joined);
}
  where
    joined : (((first.tokens ++ Token.key name ∷ []) ++ Token.begin_array ∷ []) ++ all_tokens values)
        ++ Token.end_array ∷ [] ≡ first.tokens ++ member_tokens ((name, array (items_of values)) ∷ [])
    joined = append_assoc ((first.tokens ++ Token.key name ∷ []) ++ Token.begin_array ∷ []) (all_tokens values)
        (Token.end_array ∷ [])
        ∙ (append_assoc (first.tokens ++ Token.key name ∷ []) (Token.begin_array ∷ [])
        (all_tokens values ++ Token.end_array ∷ [])
        ∙ (append_assoc first.tokens (Token.key name ∷ [])
        (Token.begin_array ∷ (all_tokens values ++ Token.end_array ∷ []))
        ∙ ap (λ z. first.tokens ++ Token.key name ∷ z) (ap (λ z. Token.begin_array ∷ z) (sym (array-all values))
        ∙ sym (append-nil (Token.begin_array ∷ items_tokens (items_of values))))))

members-tokens : (members : List Member) → members_tokens (members_of members)
    ≡ member_tokens members ++ Token.end_object ∷ []
members-tokens [] = refl
members-tokens (m ∷ members) = ap (λ rest. Token.key m.0 ∷ rest) (ap (λ rest. json_tokens m.1 ++ rest)
    (members-tokens members)
    ∙ sym (append_assoc (json_tokens m.1) (member_tokens members) (Token.end_object ∷ [])))

-- an object
pub whole_object : (members : List Member) (first begun last end : Written) → begun.before ≡ first.before
    → begun.tokens ≡ first.tokens ++ Token.begin_object ∷ [] → WritesMembers members begun last
    → end.before ≡ last.before → end.tokens ≡ last.tokens ++ Token.end_object ∷ []
    → Writes (json_tokens (object (members_of members))) first end
whole_object members first begun last end b0 t0 written b1 t1 = record {
  before = b1 ∙ (written.before ∙ b0);
  tokens = t1 ∙ (ap (λ z. z ++ Token.end_object ∷ []) (written.tokens ∙ ap (λ z. z ++ member_tokens members) t0)
      ∙ (append_assoc (first.tokens ++ Token.begin_object ∷ []) (member_tokens members) (Token.end_object ∷ [])
      ∙ (append_assoc first.tokens (Token.begin_object ∷ []) (member_tokens members ++ Token.end_object ∷ [])
      ∙ ap (λ z. first.tokens ++ Token.begin_object ∷ z) (sym (members-tokens members)))));
}

-- the line of a row
pub ended : (members : List Member) (begun end : Written) (text line : List ℕ) → IsBegun members begun
    → end.before ≡ begun.before → end.tokens ≡ begun.tokens ++ Token.end_object ∷ []
    → text ≡ end.before ++ print end.tokens → line ≡ text ++ codes "\n" → line ≡ row members
ended members begun end text line is before tokens printed line_is =
    line_is ∙ ap (λ z. z ++ codes "\n") (printed ∙ (ap (λ z. z ++ print end.tokens) (before ∙ is.before)
    ∙ ap print (tokens ∙ (ap (λ z. z ++ Token.end_object ∷ []) is.tokens
    ∙ ap (λ z. Token.begin_object ∷ z) (sym (members-tokens members))))))

-- ---- objects, one for each of some things
objects_more : {X : Type 0} (One : X → List Member → Type 0) (xs : List X) (x : X) (each : List (List Member))
    (members : List Member) → AreObjects One xs each → One x members
    → AreObjects One (xs ++ x ∷ []) (each ++ members ∷ [])
objects_more One [] x each members none here = (members, [], here, refl, ap (λ z. z ++ members ∷ []) none)
objects_more One (y ∷ xs) x each members h here =
    (h.0, h.1 ++ members ∷ [], h.2, objects_more One xs x h.1 members h.3 here, ap (λ z. z ++ members ∷ []) h.4)

pub objects_next : {X : Type 0} (One : X → List Member → Type 0) (xs : List X) (i : ℕ) (x : X)
    (each : List (List Member)) (members : List Member) → i < length xs → x ≡ get_or xs i x
    → AreObjects One (take i xs) each → One x members → AreObjects One (take (i + 1) xs) (each ++ members ∷ [])
objects_next One xs i x each members low is h here =
    subst (λ z. AreObjects One z (each ++ members ∷ []))
    (sym (take_more xs i x low ∙ ap (λ z. take i xs ++ z ∷ []) (sym is)))
    (objects_more One (take i xs) x each members h here)

abbrev pub object_value : List Member → Json
object_value members = object (members_of members)

pub more_objects : (each : List (List Member)) (members : List Member)
    → map object_value (each ++ members ∷ []) ≡ map object_value each ++ object_value members ∷ []
more_objects each members = map-append object_value each (members ∷ [])

pub item_member : {A : Type 0} (xs : List A) (i : ℕ) (x : A) → i < length xs → x ≡ get_or xs i x → Has x xs
item_member [] i x low at = absurd (omega (arith, low))
item_member (y ∷ xs) zero x low at = inl at
item_member (y ∷ xs) (suc i) x low at = inr (item_member xs i x (omega (arith, low)) at)
