-- How rows are written: token by token.
use Rattle.std.specs.Prelude.{◌≡◌, List, [], ◌∷◌, ◌++◌}
use Rattle.json.specs.Token.{Token}
use Rattle.json.specs.Tree.{json_tokens}
use Rattle.json.specs.Written.{Written}
use Rattle.dw_json.specs.Rows.{Member}

-- more tokens were written after the old ones
pub record Writes (more : List Token) (old new : Written) : Type 0 where
  pub before : new.before ≡ old.before
  pub tokens : new.tokens ≡ old.tokens ++ more

-- the tokens of members
abbrev pub member_tokens : List Member → List Token
member_tokens [] = []
member_tokens (one ∷ members) = Token.key one.0 ∷ (json_tokens one.1 ++ member_tokens members)

-- these members were written after the old tokens
abbrev pub WritesMembers : List Member → Written → Written → Type 0
WritesMembers members old new = Writes (member_tokens members) old new

-- an object has begun, and has these members so far
pub record IsBegun (members : List Member) (written : Written) : Type 0 where
  pub before : written.before ≡ []
  pub tokens : written.tokens ≡ Token.begin_object ∷ member_tokens members
