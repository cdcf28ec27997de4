use Rattle.std.proofs.Common.{◌≡◌, ◌≤◌, ◌+◌, ◌++◌, ◌∷◌, [], ◌∙◌, ℕ, List, ap, length, length-append, arith}
use Rattle.std.proofs.lemmas.Str.{encode_ascii}
use Rattle.dw_board.proofs.fen.write.push_item.Goals as goal
use Rattle.dw_board.proofs.fen.write.push_item.Goals.{then-not-is_first, else-not-is_first, then-is_king, else-is_king}

one_more : (old now : List ℕ) (byte : ℕ) → now ≡ old ++ byte ∷ [] → length now ≤ length old + 1
one_more old now byte e = let long = ap length e ∙ length-append old (byte ∷ []) in omega (arith, long)

no_more : (old now : List ℕ) → now ≡ old → length now ≤ length old + 1
no_more old now e = let long = ap length e in omega (arith, long)

pub push-requires : goal.push-requires
push-requires g c =
    let comma = ap length (encode_ascii 44 (omega arith)) in
    (omega arith, omega (arith, c.requires.room, comma))

pub push-requires-then-is_king : goal.push-requires-then-is_king
push-requires-then-is_king g c =
    let few : length c.if-not-is_first.text.bytes ≤ length c.args.text.now.bytes + 1 = elim c.if-not-is_first.branch [
      | then-not-is_first w ↦ one_more _ _ 44 (ap (λ t. t.bytes) w.text-is ∙ w.push.ensures.ascii (omega arith))
      | else-not-is_first w ↦ no_more _ _ (ap (λ t. t.bytes) w.text-is)
    ] in
    let king = ap length (encode_ascii 75 (omega arith)) in
    (omega arith, omega (arith, c.requires.room, few, king))

pub push_number-requires-clause-room : goal.push_number-requires-clause-room
push_number-requires-clause-room g c =
    let few : length c.if-not-is_first.text.bytes ≤ length c.args.text.now.bytes + 1 = elim c.if-not-is_first.branch [
      | then-not-is_first w ↦ one_more _ _ 44 (ap (λ t. t.bytes) w.text-is ∙ w.push.ensures.ascii (omega arith))
      | else-not-is_first w ↦ no_more _ _ (ap (λ t. t.bytes) w.text-is)
    ] in
    let more : length c.if-is_king.text.bytes ≤ length c.if-not-is_first.text.bytes + 1 = elim c.if-is_king.branch [
      | then-is_king w ↦ one_more _ _ 75 (ap (λ t. t.bytes) w.text-is ∙ w.push-then-is_king.ensures.ascii (omega arith))
      | else-is_king w ↦ no_more _ _ (ap (λ t. t.bytes) w.text-is)
    ] in
    omega (arith, c.requires.room, few, more)

pub returns-clause-few : goal.returns-clause-few
returns-clause-few g c =
    let few : length c.if-not-is_first.text.bytes ≤ length c.args.text.now.bytes + 1 = elim c.if-not-is_first.branch [
      | then-not-is_first w ↦ one_more _ _ 44 (ap (λ t. t.bytes) w.text-is ∙ w.push.ensures.ascii (omega arith))
      | else-not-is_first w ↦ no_more _ _ (ap (λ t. t.bytes) w.text-is)
    ] in
    let more : length c.if-is_king.text.bytes ≤ length c.if-not-is_first.text.bytes + 1 = elim c.if-is_king.branch [
      | then-is_king w ↦ one_more _ _ 75 (ap (λ t. t.bytes) w.text-is ∙ w.push-then-is_king.ensures.ascii (omega arith))
      | else-is_king w ↦ no_more _ _ (ap (λ t. t.bytes) w.text-is)
    ] in
    omega (arith, few, more, c.push_number.ensures.few)
