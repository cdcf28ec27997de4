-- Each legal move has a key, different ones have different keys, and the legal moves can be put in order.
use Rattle.std.proofs.Common.{◌≡◌, ℕ, ◌<◌, zero, suc, List, [], ◌∷◌, length, map, refl, sym, ap, ◌∙◌, subst, ◌⊎◌, inl}
use Rattle.std.proofs.Common.{inr, arith, Bool, true, None, ◌==◌, ◌&&◌}
use Rattle.std.specs.Prelude.{filter}
use Rattle.std.specs.FinSet as set
use Rattle.std.proofs.lemmas.Bool.{eqb-true, eq-eqb, and_parts, and_from}
use Rattle.dw_board.specs.declared.piece.Piece.{Piece}
use Rattle.dw_board.specs.Geometry.{Geometry, IsBoard}
use Rattle.dw_board.specs.Placement.{Placement, placed}
use Rattle.dw_moves.specs.Moves.{Move, Jumps, IsPathOf, Path, Legal, LegalAt, last_of}
use Rattle.dw_board.specs.Lists.{Member}
use Rattle.dw_moves.specs.inner.MoveLemmas.{same_move, same_moves, same_moves-is}
use Rattle.dw_moves.specs.Order.{LexLess, LandsAt, front, IsKey, IsLeastPath, Precedes, IsListOf, Listed, HasLeastPath}
use Rattle.dw_moves.specs.Order.{AreListed}
use Rattle.dw_moves.proofs.PlainLemmas.{Capture, path_list, best, legal_list, move_of}
use Rattle.dw_moves.specs.inner.MemberLemmas.{mem_map, mem_map_back, mem_filter, mem_filter_back}
use Rattle.dw_moves.proofs.LegalMoveLemmas.{path_from, path_in, is_best, best_only, legal_best, legal_from, legal_in}
use Rattle.dw_moves.proofs.PathTellsLemmas.{path_tells}
use Rattle.dw_moves.specs.inner.LexLemmas.{lex_irrefl, lex_asym, lex_cases, not_less}
use Rattle.dw_moves.specs.inner.OneListLemmas.{list_only}
use Rattle.dw_moves.proofs.AscendingLemmas.{ByKey, arranged, arranged_ascending, arranged_from, arranged_has}
use Rattle.dw_moves.proofs.AscendingLemmas.{ascending_by}

-- a capture is a path of this move, with so many taken
abbrev pub leads : Move → ℕ → Capture → Bool
leads m k w = same_moves (move_of w) m && (length w.over == k)

abbrev pub landings_at : Geometry → Placement → Move → ℕ → List (List ℕ)
landings_at g p m zero = (m.to ∷ []) ∷ []
landings_at g p m (suc k) = map (λ (w : Capture). w.landings) (filter (leads m (suc k)) (path_list g p))

lands_in_list : (g : Geometry) (p : Placement) (m : Move) (k : ℕ) (ts : List ℕ) → LandsAt g p m k ts
    → Member ts (landings_at g p m k)
lands_in_list g p m zero ts h = inl h.2
lands_in_list g p m (suc k) ts h =
    let w : Capture = record { start = m.from; landings = ts; over = h.over } in
    let same : same_moves (move_of w) m ≡ true = (same_moves-is (move_of w) m).1
    (same_move (move_of w) m refl h.ends (sym h.takes)) in
    let passes : leads m (suc k) w ≡ true = and_from (same_moves (move_of w) m) (length h.over == suc k) same
    (eq-eqb (length h.over) (suc k) h.count) in
    mem_map (λ (w : Capture). w.landings) w (filter (leads m (suc k)) (path_list g p))
    (mem_filter (leads m (suc k)) w (path_list g p) (path_in g p m.from ts h.over h.path) passes)

lands_from_list : (g : Geometry) (p : Placement) (m : Move) (k : ℕ) (ts : List ℕ) → LegalAt g p k m
    → Member ts (landings_at g p m k) → LandsAt g p m k ts
lands_from_list g p m zero ts legal (inl e) = (legal.0, legal.1, e)
lands_from_list g p m zero ts legal (inr h) = absurd h
lands_from_list g p m (suc k) ts legal h =
    let f = mem_map_back (λ (w : Capture). w.landings) ts (filter (leads m (suc k)) (path_list g p)) h in
    let w : Capture = f.0 in
    let kept = mem_filter_back (leads m (suc k)) w (path_list g p) f.1 in
    let a = and_parts (same_moves (move_of w) m) (length w.over == suc k) kept.1 in
    let same : move_of w ≡ m = (same_moves-is (move_of w) m).0 a.0 in
    subst (λ z. IsPathOf g p z (suc k) ts) same (subst (IsPathOf g p (move_of w) (suc k)) (sym f.2) (record {
      over = w.over;
      path = path_from g p w kept.0;
      count = eqb-true (length w.over) (suc k) a.1;
      ends = refl;
      takes = refl;
    }))

-- the least list
abbrev pub lesser : List ℕ → List ℕ → List ℕ
lesser xs ys = elim (lex_cases xs ys) [ inl e ↦ xs | inr (inl l) ↦ xs | inr (inr g) ↦ ys ]

abbrev pub least_of : List ℕ → List (List ℕ) → List ℕ
least_of x [] = x
least_of x (y ∷ ys) = least_of (lesser x y) ys

record Lesser (xs ys zs : List ℕ) : Type 0 where
  one : (zs ≡ xs) ⊎ (zs ≡ ys)
  left : LexLess xs zs → ⊥
  right : LexLess ys zs → ⊥

lesser_is : (xs ys : List ℕ) → Lesser xs ys (lesser xs ys)
lesser_is xs ys = elim (lex_cases xs ys) as
    (λ c. Lesser xs ys (elim c [ inl e ↦ xs | inr (inl l) ↦ xs | inr (inr g) ↦ ys ])) [
      | inl e ↦ record {
        one = inl refl;
        left = lex_irrefl xs;
        right = λ h. lex_irrefl xs (subst (λ z. LexLess z xs) (sym e) h);
      }
      | inr (inl l) ↦ record { one = inl refl; left = lex_irrefl xs; right = λ h. lex_asym xs ys l h }
      | inr (inr g) ↦ record { one = inr refl; left = λ h. lex_asym xs ys h g; right = lex_irrefl ys }
    ]

least_is : (x : List ℕ) (xs : List (List ℕ)) → Member (least_of x xs) (x ∷ xs) × ((y : List ℕ) → Member y (x ∷ xs)
    → LexLess y (least_of x xs) → ⊥)
least_is x [] = (
  inl refl,
  λ y m. elim m [
    | inl e ↦ λ l. lex_irrefl x (subst (λ w. LexLess w x) e l)
    | inr n ↦
        absurd n
  ],
)
least_is x (y ∷ ys) =
    let c = lesser_is x y in
    let h = least_is (lesser x y) ys in
    let below : LexLess (lesser x y) (least_of (lesser x y) ys) → ⊥ = h.1 (lesser x y) (inl refl) in (
      elim h.0 [
        | inl e ↦ elim c.one [ inl q ↦ inl (e ∙ q) | inr q ↦ inr (inl (e ∙ q)) ]
        | inr m ↦ inr (inr m)
      ],
      λ z m. elim m [
        | inl e ↦ λ l. not_less x (lesser x y) (least_of (lesser x y) ys) c.left below
            (subst (λ w. LexLess w (least_of (lesser x y) ys)) e l)
        | inr (inl e) ↦ λ l. not_less y (lesser x y) (least_of (lesser x y) ys) c.right below
            (subst (λ w. LexLess w (least_of (lesser x y) ys)) e l)
        | inr (inr n) ↦ h.1 z (inr n)
      ],
    )

abbrev pub least_in : List (List ℕ) → List ℕ
least_in [] = []
least_in (x ∷ xs) = least_of x xs

least_in_is : (xs : List (List ℕ)) (some : List ℕ) → Member some xs → Member (least_in xs) xs
    × ((y : List ℕ) → Member y xs → LexLess y (least_in xs) → ⊥)
least_in_is [] some m = absurd m
least_in_is (x ∷ xs) some m = least_is x xs

abbrev pub key_of : Geometry → Placement → Move → List ℕ
key_of g p m = m.from ∷ m.to ∷ front (least_in (landings_at g p m (best g p)))

lands_somewhere : (g : Geometry) (p : Placement) (m : Move) (k : ℕ) → LegalAt g p k m → (ts : List ℕ)
    × LandsAt g p m k ts
lands_somewhere g p m zero legal = (m.to ∷ [], (legal.0, legal.1, refl))
lands_somewhere g p m (suc k) legal = legal

-- the least of its landings
abbrev pub least_landings : Geometry → Placement → Move → List ℕ
least_landings g p m = least_in (landings_at g p m (best g p))

least_path_is : (g : Geometry) (p : Placement) (m : Move) → Legal g p m → IsLeastPath g p m (least_landings g p m)
least_path_is g p m legal =
    let k = best g p in
    let at_best : LegalAt g p k m = legal_best g p k m (is_best g p) legal in
    let some = lands_somewhere g p m k at_best in
    let h = least_in_is (landings_at g p m k) some.0 (lands_in_list g p m k some.0 some.1) in
    record {
      leads = (k, is_best g p, lands_from_list g p m k (least_in (landings_at g p m k)) at_best h.0);
      least = λ others o. h.1 others
          (lands_in_list g p m k others (subst (λ k. LandsAt g p m k others) (best_only g p o.0 k o.1 (is_best g p))
          o.2));
    }

pub key_is : (g : Geometry) (p : Placement) (m : Move) → Legal g p m → IsKey g p m (key_of g p m)
key_is g p m legal = (least_landings g p m, least_path_is g p m legal, refl)

one_least : (g : Geometry) (p : Placement) (m : Move) (ts us : List ℕ) → IsLeastPath g p m ts → IsLeastPath g p m us
    → ts ≡ us
one_least g p m ts us h f = elim (lex_cases ts us) [
  | inl e ↦ e
  | inr (inl less) ↦ absurd (f.least ts h.leads less)
  | inr (inr more) ↦ absurd (h.least us f.leads more)
]

pub one_key : (g : Geometry) (p : Placement) (m : Move) (k l : List ℕ) → IsKey g p m k → IsKey g p m l → k ≡ l
one_key g p m k l h f = h.2 ∙ ap (λ z. m.from ∷ m.to ∷ front z) (one_least g p m h.0 f.0 h.1 f.1) ∙ sym f.2

front_last : (s t u : ℕ) (ts us : List ℕ) → front (t ∷ ts) ≡ front (u ∷ us) → last_of s (t ∷ ts) ≡ last_of s (u ∷ us)
    → t ∷ ts ≡ u ∷ us
front_last s t u [] [] f l = ap (λ z. z ∷ []) l
front_last s t u [] (v ∷ us) f l = cc
front_last s t u (v ∷ ts) [] f l = cc
front_last s t u (v ∷ ts) (w ∷ us) f l =
    let rest : v ∷ ts ≡ w ∷ us = front_last t v w ts us (cc) l in
    let heads : t ≡ u = cc in cc

pub jumps_long : (g : Geometry) (cells : Placement) (piece : Piece) (s : ℕ) (ts cs : List ℕ)
    → Jumps g cells piece s ts cs → length ts ≡ length cs
jumps_long g cells piece s [] [] h = refl
jumps_long g cells piece s [] (c ∷ cs) h = absurd h
jumps_long g cells piece s (t ∷ ts) [] h = absurd h
jumps_long g cells piece s (t ∷ ts) (c ∷ cs) h = omega (arith, jumps_long g cells piece t ts cs h.1)

same_landings : (s : ℕ) (ts us : List ℕ) → 0 < length ts → 0 < length us → front ts ≡ front us
    → last_of s ts ≡ last_of s us → ts ≡ us
same_landings s [] us a c f l = absurd (omega arith)
same_landings s (t ∷ ts) [] a c f l = absurd (omega arith)
same_landings s (t ∷ ts) (u ∷ us) a c f l = front_last s t u ts us f l

same_takes : (g : Geometry) → IsBoard g → (p : Placement) (m n : Move) (k : ℕ) (ts us : List ℕ) → m.from ≡ n.from
    → m.to ≡ n.to → front ts ≡ front us → LandsAt g p m k ts → LandsAt g p n k us → m.taken ≡ n.taken
same_takes g b p m n zero ts us from to fronts h f = h.1 ∙ sym f.1
same_takes g b p m n (suc k) ts us from to fronts h f =
    let long_h = jumps_long g (placed p m.from None) h.path.piece m.from ts h.over h.path.jumps in
    let long_f = jumps_long g (placed p n.from None) f.path.piece n.from us f.over f.path.jumps in
    let ends : last_of m.from ts ≡ last_of m.from us = h.ends ∙ to ∙ sym f.ends ∙ ap (λ z. last_of z us) (sym from) in
    let same : ts ≡ us = same_landings m.from ts us (omega (arith, h.count, long_h)) (omega (arith, f.count, long_f))
    fronts ends in
    let path : Path g p m.from ts f.over = subst (λ z. Path g p m.from z f.over) (sym same)
    (subst (λ z. Path g p z us f.over) (sym from) f.path) in
    h.takes ∙ ap set.from_list (path_tells g b p m.from ts h.over f.over h.path path) ∙ sym f.takes

-- DIFFERENT MOVES HAVE DIFFERENT KEYS
pub keys_differ : (g : Geometry) → IsBoard g → (p : Placement) (m n : Move) (k : List ℕ) → IsKey g p m k → IsKey g p n k
    → m ≡ n
keys_differ g b p m n k h f =
    let same : m.from ∷ m.to ∷ front h.0 ≡ n.from ∷ n.to ∷ front f.0 = sym h.2 ∙ f.2 in
    let from : m.from ≡ n.from = cc in
    let to : m.to ≡ n.to = cc in
    let fronts : front h.0 ≡ front f.0 = cc in
    let k_is = best_only g p f.1.leads.0 h.1.leads.0 f.1.leads.1 h.1.leads.1 in
    same_move m n from to (same_takes g b p m n h.1.leads.0 h.0 f.0 from to fronts h.1.leads.2
    (subst (λ z. LandsAt g p n z f.0) k_is f.1.leads.2))

pub precedes_asym : (g : Geometry) (p : Placement) (m n : Move) → Precedes g p m n → Precedes g p n m → ⊥
precedes_asym g p m n h f =
    let one : h.0 ≡ f.1 = one_key g p m h.0 f.1 h.2 f.3 in
    let two : h.1 ≡ f.0 = one_key g p n h.1 f.0 h.3 f.2 in
    lex_asym h.0 h.1 h.4 (subst (λ z. LexLess z h.0) (sym two) (subst (λ z. LexLess f.0 z) (sym one) f.4))

-- the legal moves in order
abbrev pub ordered : Geometry → Placement → List Move
ordered g p = arranged (key_of g p) (legal_list g p)

pub in_order : (g : Geometry) → IsBoard g → (p : Placement) → IsListOf (Precedes g p) (Legal g p) (ordered g p)
in_order g b p = record {
  ascending = ascending_by (ByKey (key_of g p)) (Precedes g p) (ordered g p) (λ m n h f l. (
    key_of g p m,
    key_of g p n,
    key_is g p m (legal_from g p m (arranged_from (key_of g p) (legal_list g p) m h)),
    key_is g p n (legal_from g p n (arranged_from (key_of g p) (legal_list g p) n f)),
    l,
  ))
      (arranged_ascending (key_of g p) (legal_list g p));
  exactly = λ m. (
    (λ h. legal_from g p m (arranged_from (key_of g p) (legal_list g p) m h)),
    (λ legal.
        let f = arranged_has (key_of g p) (legal_list g p) m (legal_in g p m legal) in
        let legal_f = legal_from g p f.0 (arranged_from (key_of g p) (legal_list g p) f.0 f.1) in
        let key_f : IsKey g p f.0 (key_of g p m) = subst (IsKey g p f.0) f.2 (key_is g p f.0 legal_f) in
        subst (λ z. Member z (ordered g p)) (keys_differ g b p f.0 m (key_of g p m) key_f (key_is g p m legal)) f.1),
  );
}

-- a move with its least path
abbrev pub listing_of : Geometry → Placement → Move → Listed
listing_of g p m = record { step = m; path = m.from ∷ least_landings g p m }

abbrev pub listing : Geometry → Placement → List Listed
listing g p = map (listing_of g p) (ordered g p)

listing_steps : (g : Geometry) (p : Placement) (moves : List Move)
    → map (λ (l : Listed). l.step) (map (listing_of g p) moves) ≡ moves
listing_steps g p [] = refl
listing_steps g p (m ∷ moves) = ap (λ z. m ∷ z) (listing_steps g p moves)

pub listed_in_order : (g : Geometry) → IsBoard g → (p : Placement) → AreListed g p (listing g p)
listed_in_order g b p =
    let order = in_order g b p in
    record {
      in_order = subst (IsListOf (Precedes g p) (Legal g p)) (sym (listing_steps g p (ordered g p))) order;
      paths = λ l m.
          let f = mem_map_back (listing_of g p) l (ordered g p) m in
          subst (HasLeastPath g p) (sym f.2) (
            least_landings g p f.0,
            least_path_is g p f.0 ((order.exactly f.0).0 f.1),
            refl,
          );
    }

-- a move has one least path
one_path : (g : Geometry) (p : Placement) (l k : Listed) → l.step ≡ k.step → HasLeastPath g p l → HasLeastPath g p k
    → l ≡ k
one_path g p l k same h f =
    let landings : h.0 ≡ f.0 = one_least g p l.step h.0 f.0 h.1
    (subst (λ z. IsLeastPath g p z f.0) (sym same) f.1) in
    let paths : l.path ≡ k.path = h.2 ∙ (ap (λ z. l.step.from ∷ z) landings ∙ (ap (λ (m : Move). m.from ∷ f.0) same
    ∙ sym f.2)) in
    λ i. record { step = same i; path = paths i }

one_listing : (g : Geometry) (p : Placement) (list others : List Listed) → map (λ (l : Listed). l.step) list
    ≡ map (λ (l : Listed). l.step) others → ((l : Listed) → Member l list → HasLeastPath g p l)
    → ((l : Listed) → Member l others → HasLeastPath g p l) → list ≡ others
one_listing g p [] [] e h f = refl
one_listing g p [] (k ∷ others) e h f = cc
one_listing g p (l ∷ list) [] e h f = cc
one_listing g p (l ∷ list) (k ∷ others) e h f =
    let heads : l.step ≡ k.step = cc in
    let tails : map (λ (l : Listed). l.step) list ≡ map (λ (l : Listed). l.step) others = cc in
    let one = one_path g p l k heads (h l (inl refl)) (f k (inl refl)) in
    let rest = one_listing g p list others tails (λ z m. h z (inr m)) (λ z m. f z (inr m)) in
    λ i. one i ∷ rest i

-- only one list has them in order
pub one_order : (g : Geometry) (p : Placement) (moves others : List Move) → IsListOf (Precedes g p) (Legal g p) moves
    → IsListOf (Precedes g p) (Legal g p) others → moves ≡ others
one_order g p = list_only (Precedes g p) (Legal g p) (precedes_asym g p)

-- and with their least paths
pub one_list : (g : Geometry) (p : Placement) (list others : List Listed) → AreListed g p list → AreListed g p others
    → list ≡ others
one_list g p list others h k = one_listing g p list others (one_order g p (map (λ (l : Listed). l.step) list)
    (map (λ (l : Listed). l.step) others) h.in_order k.in_order) h.paths k.paths
