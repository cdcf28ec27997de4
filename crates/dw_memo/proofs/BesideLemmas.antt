-- Entries beside others: a note that comes to some of them is one to all.
use Rattle.std.proofs.Common.{◌≢◌, ℕ, ◌⊎◌, [], ◌∷◌, ◌++◌, refl, sym, ap, ◌∙◌, subst, inl, inr}
use Rattle.dw_board.specs.Lists.{Member}
use Rattle.dw_board.specs.Placement.{Placement}
use Rattle.dw_memo.specs.declared.bounds.Bounds.{Bounds}
use Rattle.dw_memo.specs.declared.memo.Noted.{Noted}
use Rattle.dw_memo.specs.Content.{Entry, entry, Content, positions, IsMap}
use Rattle.dw_memo.specs.Noting.{IsPutIn, IsNote}
use Rattle.dw_memo.proofs.EntryLemmas.{position_held, bounds_held}

-- these entries, and those
pub record InBoth (all c d : Content) : Type 0 where
  pub each : (e : Entry) → Member e all → Member e c ⊎ Member e d
  pub first : (e : Entry) → Member e c → Member e all
  pub second : (e : Entry) → Member e d → Member e all

in_either : (c d : Content) (e : Entry) → Member e (c ++ d) → Member e c ⊎ Member e d
in_either [] d e m = inr m
in_either (x ∷ c) d e (inl q) = inl (inl q)
in_either (x ∷ c) d e (inr m) = elim (in_either c d e m) [ inl n ↦ inl (inr n) | inr n ↦ inr n ]

in_first : (c d : Content) (e : Entry) → Member e c → Member e (c ++ d)
in_first [] d e m = absurd m
in_first (x ∷ c) d e (inl q) = inl q
in_first (x ∷ c) d e (inr m) = inr (in_first c d e m)

in_second : (c d : Content) (e : Entry) → Member e d → Member e (c ++ d)
in_second [] d e m = m
in_second (x ∷ c) d e m = inr (in_second c d e m)

pub appended : (c d : Content) → InBoth (c ++ d) c d
appended c d = record { each = in_either c d; first = in_first c d; second = in_second c d }

turned : (c d : Content) → InBoth (d ++ c) c d
turned c d = record {
  each = λ e m. elim (in_either d c e m) [ inl n ↦ inr n | inr n ↦ inl n ];
  first = in_second d c;
  second = in_first d c;
}

-- no position stands in both
abbrev pub AreApart : Content → Content → Type 0
AreApart c d = (e f : Entry) → Member e c → Member f d → e.position ≢ f.position

pub map_joined : (c d : Content) → IsMap c → IsMap d → AreApart c d → IsMap (c ++ d)
map_joined [] d a b apart = b
map_joined (x ∷ c) d a b apart = (
  λ m. let h = bounds_held x.position (c ++ d) m in
      elim (in_either c d (entry x.position h.0) h.1) [
        | inl n ↦ a.0 (position_held (entry x.position h.0) c n)
        | inr n ↦ apart x (entry x.position h.0) (inl refl) n refl
      ],
  map_joined c d a.1 b (λ e f m n. apart e f (inr m) n),
)

pub map_first : (c d : Content) → IsMap (c ++ d) → IsMap c
map_first [] d m = tt
map_first (x ∷ c) d m = (
  λ n. let h = bounds_held x.position c n in
      m.0 (position_held (entry x.position h.0) (c ++ d) (in_first c d (entry x.position h.0) h.1)),
  map_first c d m.1,
)

pub map_second : (c d : Content) → IsMap (c ++ d) → IsMap d
map_second [] d m = m
map_second (x ∷ c) d m = map_second c d m.1

pub map_apart : (c d : Content) → IsMap (c ++ d) → AreApart c d
map_apart [] d m e f a b q = absurd a
map_apart (x ∷ c) d m e f (inl r) b q =
    m.0 (subst (λ p. Member p (positions (c ++ d))) (sym q ∙ ap (λ (y : Entry). y.position) r)
    (position_held f (c ++ d) (in_second c d f b)))
map_apart (x ∷ c) d m e f (inr n) b q = map_apart c d m.1 e f n b q

module _ (c new d : Content) (p : Placement) (b : Bounds) (answer : Noted) (lost : ℕ) (n : IsNote c p b answer new 0
    lost) (apart : AreApart c d) (elsewhere : Member p (positions d) → ⊥) where
  other : (e : Entry) → Member e d → e.position ≢ p
  other e m q = elsewhere (subst (λ x. Member x (positions d)) q (position_held e d m))

  still_apart : AreApart new d
  still_apart e f m k q = elim (n.only e m) [
    | inl r ↦ other f k (sym q ∙ ap (λ (y : Entry). y.position) r)
    | inr h ↦ apart e f h.0 k q
  ]

  module _ (all after : Content) (was : InBoth all c d) (is : InBoth after new d) where
    put : (e : Entry) → IsPutIn c p b e → IsPutIn all p b e
    put e (inl q) = inl q
    put e (inr m) = inr (was.first e m.0, m.1)

    beside : IsMap all → IsMap after → IsNote all p b answer after 0 lost
    beside map map_after = record {
      map_before = map;
      map = map_after;
      only = λ e m. elim (is.each e m) [
        | inl h ↦ put e (n.only e h)
        | inr h ↦ inr (was.second e h, other e h)
      ];
      kept = λ q. is.first (entry p b) (n.kept q);
      missing = n.missing;
      are_missing = record {
        each_once = n.are_missing.each_once;
        only = λ e m. (
          put e (n.are_missing.only e m).0,
          λ h. elim (is.each e h) [
            | inl k ↦ (n.are_missing.only e m).1 k
            | inr k ↦ elim ((n.are_missing.only e m).0) [
              | inl q ↦ other e k (ap (λ (y : Entry). y.position) q)
              | inr o ↦ apart e e o.0 k refl
            ]
          ],
        );
        given = elim n.are_missing.given [ inl h ↦ inl (is.first (entry p b) h) | inr h ↦ inr h ];
        others = λ e m. elim (was.each e m) [
          | inl h ↦ elim (n.are_missing.others e h) [
            | inl q ↦ inl q
            | inr (inl k) ↦ inr (inl (is.first e k))
            | inr (inr k) ↦ inr (inr k)
          ]
          | inr h ↦ inr (inl (is.second e h))
        ];
      };
      count = n.count;
    }

-- a note to what stands before other entries, or behind them
pub noted_before : (c new d : Content) (p : Placement) (b : Bounds) (answer : Noted) (lost : ℕ) → IsMap (c ++ d)
    → (Member p (positions d) → ⊥) → IsNote c p b answer new 0 lost → IsNote (c ++ d) p b answer (new ++ d) 0 lost
noted_before c new d p b answer lost map elsewhere n =
    let apart = map_apart c d map in
    beside c new d p b answer lost n apart elsewhere (c ++ d) (new ++ d) (appended c d) (appended new d) map
    (map_joined new d n.map (map_second c d map) (still_apart c new d p b answer lost n apart elsewhere))

pub noted_behind : (c new d : Content) (p : Placement) (b : Bounds) (answer : Noted) (lost : ℕ) → IsMap (d ++ c)
    → (Member p (positions d) → ⊥) → IsNote c p b answer new 0 lost → IsNote (d ++ c) p b answer (d ++ new) 0 lost
noted_behind c new d p b answer lost map elsewhere n =
    let apart : AreApart c d = λ e f m k q. map_apart d c map f e k m (sym q) in
    beside c new d p b answer lost n apart elsewhere (d ++ c) (d ++ new) (turned c d) (turned new d) map
    (map_joined d new (map_first d c map) n.map
    (λ e f m k q. still_apart c new d p b answer lost n apart elsewhere f e k m (sym q)))
