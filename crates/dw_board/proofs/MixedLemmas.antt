-- The number of a position for hashes, word by word.
use Rattle.std.proofs.Common.{◌≡◌, ◌∙◌, ℕ, ◌+◌, ◌*◌, ◌%◌, ◌^◌, ap}
use Rattle.std.proofs.Math.Nat.{mod-add-mod, zero-add}
use Rattle.dw_board.specs.declared.piece.Side.TheVariants.{White, Black}
use Rattle.dw_board.specs.declared.piece.Kind.TheVariants.{Man, King}
use Rattle.dw_board.specs.declared.position.TheConstants.{TURN_FACTOR, WHITE_MEN_FACTOR, WHITE_KINGS_FACTOR}
use Rattle.dw_board.specs.declared.position.TheConstants.{BLACK_MEN_FACTOR, BLACK_KINGS_FACTOR}
use Rattle.dw_board.specs.Geometry.{Geometry}
use Rattle.dw_board.specs.Placement.{Placement, side_code}
use Rattle.dw_board.specs.inner.Mixing.{standing_word, mixed_word}

-- a sum goes on by one word
more : (sum before after w word factor : ℕ) → before ≡ sum % 2 ^ 64 → w ≡ word → after
    ≡ (before + w * factor) % 2 ^ 64 → after ≡ (sum + word * factor) % 2 ^ 64
more sum before after w word factor e f is = is ∙ ap (λ x. (before + x * factor) % 2 ^ 64) f
    ∙ ap (λ x. (x + word * factor) % 2 ^ 64) e ∙ mod-add-mod sum (2 ^ 64) (word * factor)

pub mixed-is : (g : Geometry) (p : Placement) (a b c d e turn wm wk bm bk : ℕ) → turn ≡ side_code p.turn
    → a ≡ (0 + turn * TURN_FACTOR) % 2 ^ 64
    → wm ≡ standing_word g p White Man → b ≡ (a + wm * WHITE_MEN_FACTOR) % 2 ^ 64
    → wk ≡ standing_word g p White King → c ≡ (b + wk * WHITE_KINGS_FACTOR) % 2 ^ 64
    → bm ≡ standing_word g p Black Man → d ≡ (c + bm * BLACK_MEN_FACTOR) % 2 ^ 64
    → bk ≡ standing_word g p Black King → e ≡ (d + bk * BLACK_KINGS_FACTOR) % 2 ^ 64 → e ≡ mixed_word g p
unfolding mixed_word
mixed-is g p a b c d e turn wm wk bm bk t a_is wm_is b_is wk_is c_is bm_is d_is bk_is e_is =
    let one : a ≡ side_code p.turn * TURN_FACTOR % 2 ^ 64 =
    a_is ∙ ap (λ x. x % 2 ^ 64) (zero-add (turn * TURN_FACTOR) ∙ ap (λ x. x * TURN_FACTOR) t) in
    let two = more _ a b wm _ WHITE_MEN_FACTOR one wm_is b_is in
    let three = more _ b c wk _ WHITE_KINGS_FACTOR two wk_is c_is in
    let four = more _ c d bm _ BLACK_MEN_FACTOR three bm_is d_is in
    more _ d e bk _ BLACK_KINGS_FACTOR four bk_is e_is
