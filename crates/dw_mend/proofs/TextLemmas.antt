-- The lines of neighbours, put together.
use Rattle.std.proofs.Common.{◌≡◌, ◌∙◌, ℕ, List, [], ◌++◌, append_assoc, append-nil, ap, sym, codes, decimal}
use Rattle.std.specs.Prelude.{if◌then◌else◌, Result, Ok, Err, IfOk}
use Rattle.std.proofs.lemmas.Bool.{ne_eqb}
use Rattle.dw_board.specs.Geometry.{Geometry}
use Rattle.dw_board.specs.Placement.{Placement}
use Rattle.dw_board.specs.FenText.{written}
use Rattle.dw_moves.specs.Moves.{Move}
use Rattle.dw_notation.specs.Text.{IsMoveText}
use Rattle.dw_mend.specs.Changes.{Change}
use Rattle.dw_mend.specs.MendText.{change_text, count_line, IsSoundLine}

joined_8 : (a b c d e f g h : List ℕ) → a ++ (b ++ (c ++ (d ++ (e ++ (f ++ (g ++ (h ++ [])))))))
    ≡ a ++ b ++ c ++ d ++ e ++ f ++ g ++ h
joined_8 a b c d e f g h = simp (append_assoc, append-nil)

pub line_made : (g : Geometry) (x : Change × Placement) (n : ℕ) (key : Move) (move change fen digits one line : List ℕ)
    → IsMoveText g x.1 key move → change ≡ change_text x.0 → fen ≡ written g x.1 → digits ≡ decimal n → one ≡ move
    → line ≡ change ++ (codes ": " ++ (fen ++ (codes ", sound in " ++ (digits ++ (codes ": " ++ (one ++ (codes "\n"
    ++ []))))))) → IsSoundLine g n x key line
line_made g x n key move change fen digits one line is c f d o e = (
  move,
  is,
  e ∙ (joined_8 change (codes ": ") fen (codes ", sound in ") digits (codes ": ") one (codes "\n")
      ∙ (λ i. c i ++ codes ": " ++ f i ++ codes ", sound in " ++ d i ++ codes ": " ++ o i ++ codes "\n")),
)

joined_inside : (a b c d e f g h : List ℕ) → a ++ (b ++ (c ++ (d ++ (e ++ (f ++ ((g ++ h) ++ []))))))
    ≡ a ++ b ++ c ++ d ++ (e ++ f ++ g) ++ h
joined_inside a b c d e f g h = simp (append_assoc, append-nil)

-- some are undecided
pub counted : (all sound undecided : ℕ) (one two three line : List ℕ) → (undecided ≡ 0 → ⊥) → one ≡ decimal sound
    → two ≡ decimal all → three ≡ decimal undecided
    → line ≡ codes "sound " ++ (one ++ (codes " of " ++ (two ++ (codes ", " ++ (three ++ (codes " undecided\n" ++
    [])))))) → line ≡ count_line all sound undecided
counted all sound undecided one two three line some s a u e =
    e ∙ (joined_inside (codes "sound ") one (codes " of ") two (codes ", ") three (codes " undecided") (codes "\n")
    ∙ ((λ i. codes "sound " ++ s i ++ codes " of " ++ a i ++ (codes ", " ++ u i ++ codes " undecided") ++ codes "\n")
    ∙ ap (λ b. codes "sound " ++ decimal sound ++ codes " of " ++ decimal all
    ++ (if b then [] else codes ", " ++ decimal undecided ++ codes " undecided") ++ codes "\n")
    (sym (ne_eqb undecided 0 some))))

pub ok_so : {T E : Type 0} (P Q : T → Type 0) (r : Result T E) → ((x : T) → P x → Q x) → IfOk r P → IfOk r Q
ok_so P Q (Ok x) so h = so x h
ok_so P Q (Err e) so h = tt
