-- Lists of pairs that hold just those of which a relation holds.
use Rattle.std.proofs.Common.{◌≡◌, ℕ, List, [], ◌++◌, ◌⊎◌, inl, inr, ◌↔◌}
use Rattle.std.specs.List.{flat_map}
use Rattle.dw_board.specs.declared.board.Dir.{Dir}
use Rattle.dw_board.specs.declared.board.Dir.TheVariants.{UpLeft, UpRight, DownLeft, DownRight}
use Rattle.dw_moves.specs.inner.MemberLemmas.{mem_left, mem_right, mem_cases, mem_flat, mem_flat_back}
use Rattle.dw_moves.specs.inner.Plain.{AreThose, dirs}
use Rattle.dw_moves.proofs.ExactLemmas.{all_dirs}
use Rattle.dw_moves.proofs.QuietOnceLemmas.{dirs_once, once_append, once_flat}

pub none_are : {P : ℕ → ℕ → Type 0} → ((s t : ℕ) → P s t → ⊥) → AreThose P []
none_are never = record { exactly = λ s t. ((λ m. absurd m), (λ h. absurd (never s t h))); once = tt }

pub those_same : {P Q : ℕ → ℕ → Type 0} {pairs : List (ℕ × ℕ)} → AreThose P pairs → ((s t : ℕ) → P s t ↔ Q s t)
    → AreThose Q pairs
those_same h same = record {
  exactly = λ s t. ((λ m. (same s t).0 ((h.exactly s t).0 m)), (λ q. (h.exactly s t).1 ((same s t).1 q)));
  once = h.once;
}

pub those_then : {P Q : ℕ → ℕ → Type 0} {ps qs : List (ℕ × ℕ)} → AreThose P ps → AreThose Q qs
    → ((s t : ℕ) → P s t → Q s t → ⊥) → AreThose (λ s t. P s t ⊎ Q s t) (ps ++ qs)
those_then {ps = ps} {qs = qs} a b apart = record {
  exactly = λ s t. (
    (λ m. elim (mem_cases (s, t) ps qs m) [ inl l ↦ inl ((a.exactly s t).0 l) | inr r ↦ inr ((b.exactly s t).0 r) ]),
    (λ h. elim h [
      | inl l ↦ mem_left (s, t) ps qs ((a.exactly s t).1 l)
      | inr r ↦ mem_right (s, t) ps qs ((b.exactly s t).1 r)
    ]),
  );
  once = once_append ps qs a.once b.once (λ q l r. apart q.0 q.1 ((a.exactly q.0 q.1).0 l) ((b.exactly q.0 q.1).0 r));
}

-- in the four directions, where a pair tells its direction
those_all : (P : Dir → ℕ → ℕ → Type 0) → ((d e : Dir) (s t : ℕ) → P d s t → P e s t → d ≡ e)
    → (f : Dir → List (ℕ × ℕ)) → ((d : Dir) → AreThose (P d) (f d))
    → AreThose (λ s t. (d : Dir) × P d s t) (flat_map f dirs)
those_all P tell f each = record {
  exactly = λ s t. (
    (λ m. let r = mem_flat_back f (s, t) dirs m in (r.0, ((each r.0).exactly s t).0 r.2)),
    (λ h. mem_flat f h.0 (s, t) dirs (all_dirs h.0) (((each h.0).exactly s t).1 h.1)),
  );
  once = once_flat f dirs dirs_once (λ d m. (each d).once) (λ d e q md me hd he.
      tell d e q.0 q.1 (((each d).exactly q.0 q.1).0 hd) (((each e).exactly q.0 q.1).0 he));
}

pub those_four : (P : Dir → ℕ → ℕ → Type 0) → ((d e : Dir) (s t : ℕ) → P d s t → P e s t → d ≡ e)
    → {ps qs rs us : List (ℕ × ℕ)} → AreThose (P UpLeft) ps → AreThose (P UpRight) qs → AreThose (P DownLeft) rs
    → AreThose (P DownRight) us → AreThose (λ s t. (d : Dir) × P d s t) (ps ++ (qs ++ (rs ++ (us ++ []))))
those_four P tell {ps} {qs} {rs} {us} a b c d = those_all P tell list each where
  list : Dir → List (ℕ × ℕ)
  list UpLeft = ps
  list UpRight = qs
  list DownLeft = rs
  list DownRight = us

  each : (d : Dir) → AreThose (P d) (list d)
  each UpLeft = a
  each UpRight = b
  each DownLeft = c
  each DownRight = d
