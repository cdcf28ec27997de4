-- Rows that grow, and what they say.
use Rattle.std.proofs.Common.{◌≡◌, ℕ, ◌-◌, ◌≤◌, ◌⊎◌, inl, inr, Bool, true, false, List, [], ◌∷◌, ◌++◌, map, Some, None}
use Rattle.std.proofs.Common.{refl, sym, ap, ◌∙◌, subst}
use Rattle.std.specs.Map.{lookup}
use Rattle.dw_board.specs.Geometry.{Geometry}
use Rattle.dw_board.specs.Lists.{Member, NoRepeat}
use Rattle.dw_board.specs.Placement.{Placement}
use Rattle.dw_board.specs.inner.PlacementLemmas.{same, same-is}
use Rattle.dw_moves.specs.Moves.{play}
use Rattle.dw_moves.specs.inner.MemberLemmas as laws
use Rattle.dw_memo.specs.Content.{entry}
use Rattle.dw_solve.specs.Facts.{KnownWin, KnownFail}
use Rattle.dw_certificate.specs.Certificate.{Row, positions_of, bounds_of, claims}
use Rattle.dw_certificate.specs.inner.Rows.{Suffices, Knows, IsGrown}

-- ---- WHAT ROWS SAY

map_left : {X Y : Type 0} (f : X → Y) (y : Y) (xs ys : List X) → Member y (map f xs) → Member y (map f (xs ++ ys))
map_left f y [] ys m = absurd m
map_left f y (x ∷ xs) ys (inl e) = inl e
map_left f y (x ∷ xs) ys (inr m) = inr (map_left f y xs ys m)

map_cases : {X Y : Type 0} (f : X → Y) (y : Y) (xs ys : List X) → Member y (map f (xs ++ ys))
    → Member y (map f xs) ⊎ Member y (map f ys)
map_cases f y [] ys m = inr m
map_cases f y (x ∷ xs) ys (inl e) = inl (inl e)
map_cases f y (x ∷ xs) ys (inr m) = elim (map_cases f y xs ys m) [ inl l ↦ inl (inr l) | inr r ↦ inr r ]

win_more : (win : Bool) (old more : List Row) (q : Placement) (n : ℕ) → KnownWin (claims win old) q n
    → KnownWin (claims win (old ++ more)) q n
win_more win old more q n k = record {
  entry = k.entry;
  held = map_left (λ r. entry r.0 (bounds_of win r.1)) k.entry old more k.held;
  about = k.about;
  bound = k.bound;
  is = k.is;
  enough = k.enough;
}

fail_more : (win : Bool) (old more : List Row) (q : Placement) (n : ℕ) → KnownFail (claims win old) q n
    → KnownFail (claims win (old ++ more)) q n
fail_more win old more q n k = record {
  entry = k.entry;
  held = map_left (λ r. entry r.0 (bounds_of win r.1)) k.entry old more k.held;
  about = k.about;
  bound = k.bound;
  is = k.is;
  enough = k.enough;
}

-- what rows say they go on saying
knows_more : (win : Bool) (old more : List Row) (q : Placement) (n : ℕ) → Knows win (claims win old) q n
    → Knows win (claims win (old ++ more)) q n
knows_more true old more q n k = win_more true old more q n k
knows_more false old more q n k = fail_more false old more q n k

pub knows_grown : (win : Bool) (Of : Placement → Type 0) (moves : ℕ) (old new : List Row) (q : Placement) (n : ℕ)
    → IsGrown Of moves old new → Knows win (claims win old) q n → Knows win (claims win new) q n
knows_grown win Of moves old new q n grown k =
    subst (λ z. Knows win (claims win z) q n) (sym grown.is) (knows_more win old grown.more q n k)

-- a row that is there says what its bound is enough for
pub knows_held : (win : Bool) (rows : List Row) (q : Placement) (b n : ℕ) → Member (q, b) rows → Suffices win b n
    → Knows win (claims win rows) q n
knows_held true rows q b n m e = record {
  entry = entry q (bounds_of true b);
  held = laws.mem_map (λ (r : Row). entry r.0 (bounds_of true r.1)) (q, b) rows m;
  about = refl;
  bound = b;
  is = refl;
  enough = e;
}
knows_held false rows q b n m e = record {
  entry = entry q (bounds_of false b);
  held = laws.mem_map (λ (r : Row). entry r.0 (bounds_of false r.1)) (q, b) rows m;
  about = refl;
  bound = b;
  is = refl;
  enough = e;
}

-- ---- ONE POSITION'S ROW

pub found : (k : Placement) (rows : List Row) (b : ℕ) → lookup (same k) rows ≡ Some b → Member (k, b) rows
found k [] b h = cc
found k (r ∷ rows) b h = (elim (same k r.0) as (λ y. same k r.0 ≡ y → Member (k, b) (r ∷ rows)) [
  | true ↦ λ t. let h' = rw t at h in let v : r.1 ≡ b = cc in
      inl (λ i. ((same-is k r.0).0 t i, sym v i))
  | false ↦ λ t. inr (found k rows b (rw t at h))
]) refl

pub absent : (k : Placement) (rows : List Row) → lookup (same k) rows ≡ None → Member k (positions_of rows) → ⊥
absent k [] h m = m
absent k (r ∷ rows) h m = (elim (same k r.0) as (λ y. same k r.0 ≡ y → ⊥) [
  | true ↦ λ t. let h' = rw t at h in cc
  | false ↦ λ t. elim m [ inl q ↦ let s = (same-is k r.0).1 q in cc | inr n ↦ absent k rows (rw t at h) n ]
]) refl

once_pushed : (rows : List Row) (k : Placement) (b : ℕ) → (Member k (positions_of rows) → ⊥)
    → NoRepeat (positions_of rows) → NoRepeat (positions_of (rows ++ (k, b) ∷ []))
once_pushed [] k b none once = (λ m. m, tt)
once_pushed (r ∷ rows) k b none once = (
  λ m. elim (map_cases (λ (x : Row). x.0) r.0 rows ((k, b) ∷ []) m) [
    | inl l ↦ once.0 l
    | inr n ↦ elim n [ inl e ↦ none (inl (sym e)) | inr z ↦ z ]
  ],
  once_pushed rows k b (λ m. none (inr m)) once.1,
)

pub knows_pushed : (win : Bool) (old new : List Row) (k : Placement) (b n : ℕ) → new ≡ old ++ (k, b) ∷ []
    → Suffices win b n → Knows win (claims win new) k n
knows_pushed win old new k b n is enough =
    knows_held win new k b n (subst (Member (k, b)) (sym is) (laws.mem_at (k, b) old [])) enough

-- ---- GROWING

pub grown_none : (Of : Placement → Type 0) (moves : ℕ) (rows : List Row) → IsGrown Of moves rows rows
grown_none Of moves rows = record {
  more = [];
  is = append_none rows;
  once = λ h. h;
  positions = λ r m. absurd m;
  some = λ r m. absurd m;
  few = λ r m. absurd m;
}
  where
    append_none : (rows : List Row) → rows ≡ rows ++ []
    append_none [] = refl
    append_none (r ∷ rest) = ap (λ z. r ∷ z) (append_none rest)

pub grown_by : (moves : ℕ) (old new : List Row) (k : Placement) (b : ℕ) → lookup (same k) old ≡ None → 1 ≤ b
    → b ≤ moves → new ≡ old ++ (k, b) ∷ [] → IsGrown (λ q. q ≡ k) moves old new
grown_by moves old new k b none some few is = record {
  more = (k, b) ∷ [];
  is = is;
  once = λ h. subst (λ z. NoRepeat (positions_of z)) (sym is) (once_pushed old k b (absent k old none) h);
  positions = λ r m. elim m [ inl e ↦ ap (λ (x : Row). x.0) e | inr z ↦ absurd z ];
  some = λ r m. elim m [ inl e ↦ subst (λ z. 1 ≤ z) (sym (ap (λ (x : Row). x.1) e)) some | inr z ↦ absurd z ];
  few = λ r m. elim m [ inl e ↦ subst (λ z. z ≤ moves) (sym (ap (λ (x : Row). x.1) e)) few | inr z ↦ absurd z ];
}

append_assoc_is : (a b c : List Row) → (a ++ b) ++ c ≡ a ++ (b ++ c)
append_assoc_is [] b c = refl
append_assoc_is (x ∷ a) b c = ap (λ z. x ∷ z) (append_assoc_is a b c)

pub grown_then : (Of : Placement → Type 0) (moves : ℕ) (a b c : List Row) → IsGrown Of moves a b
    → IsGrown Of moves b c → IsGrown Of moves a c
grown_then Of moves a b c f h = record {
  more = f.more ++ h.more;
  is = h.is ∙ ap (λ z. z ++ h.more) f.is ∙ append_assoc_is a f.more h.more;
  once = λ o. h.once (f.once o);
  positions = λ r m. elim (laws.mem_cases r f.more h.more m) [ inl l ↦ f.positions r l | inr n ↦ h.positions r n ];
  some = λ r m. elim (laws.mem_cases r f.more h.more m) [ inl l ↦ f.some r l | inr n ↦ h.some r n ];
  few = λ r m. elim (laws.mem_cases r f.more h.more m) [ inl l ↦ f.few r l | inr n ↦ h.few r n ];
}

pub grown_wider : (Of To : Placement → Type 0) (moves : ℕ) (a b : List Row)
    → ((q : Placement) → Of q → To q) → IsGrown Of moves a b → IsGrown To moves a b
grown_wider Of To moves a b wider f = record {
  more = f.more;
  is = f.is;
  once = f.once;
  positions = λ r m. wider r.0 (f.positions r m);
  some = f.some;
  few = f.few;
}
