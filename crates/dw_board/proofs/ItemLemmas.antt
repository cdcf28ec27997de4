-- The pieces of a side, least square first, as they are taken out of a set.
use Rattle.std.proofs.Common.{◌≡◌, ◌∙◌, ℕ, suc, zero, ◌+◌, ◌-◌, ◌≤◌, ◌<◌, ◌≢◌, ◌↔◌, Bool, true, false, not, cond}
use Rattle.std.proofs.Common.{Option, Some, List, [], ◌++◌, length, map, if◌then◌else◌, codes, decimal, add-zero, sym}
use Rattle.std.proofs.Common.{ap, subst, arith, inl, inr}
use Rattle.std.specs.FinSet as set
use Rattle.std.specs.Ordering.{nat_cmp}
use Rattle.std.specs.Cmp.{nat_cmp_total}
use Rattle.std.specs.List.{join_with_byte}
use Rattle.std.proofs.lemmas.Bool.{cases_Bool, cases_lt, eq-eqb, ne_eqb, and_parts, and_from, true≢false}
use Rattle.dw_board.specs.declared.piece.Side.{Side}
use Rattle.dw_board.specs.declared.piece.Kind.{Kind}
use Rattle.dw_board.specs.declared.piece.Kind.TheVariants.{Man, King}
use Rattle.dw_board.specs.declared.piece.Piece.{Piece}
use Rattle.dw_board.specs.Geometry.{Geometry, IsBoard, squares, OnBoard, Squares}
use Rattle.dw_board.specs.Placement.{Placement, IsPosition, at, is_of}
use Rattle.dw_board.specs.FenText.{king_mark, item_text, items_text}
use Rattle.dw_board.proofs.SetLemmas.{contains-remove}
use Rattle.dw_board.proofs.SideLemmas.{piece_of}
use Rattle.dw_board.proofs.WrittenLemmas.{held, is_nil, held-past, held-few, room_for, IsWrittenTo, IsWrittenTo-none}
use Rattle.dw_board.proofs.WrittenLemmas.{IsWrittenTo-with}

-- ---- a set that gets smaller
none_missing : (v : Squares) (s : ℕ) → set.contains v s ≡ true → set.len v ≡ 0 → ⊥
none_missing v s there e =
    true≢false (sym there ∙ (ap (λ u. set.contains u s) (set.empty_of_len v e) ∙ set.contains-empty nat_cmp s))

pub fewer_left : (v : Squares) (s : ℕ) → set.contains v s ≡ true → set.len (set.remove v s) < set.len v
fewer_left v s there =
    let less = set.len-remove nat_cmp_total v s ∙ ap (λ b. cond b (set.len v - 1) (set.len v)) there in
    elim (cases_lt 0 (set.len v)) [
      | inl some ↦ omega (arith, less)
      | inr none ↦ absurd (none_missing v s there (omega arith))
    ]

-- ---- squares with no piece of the side add nothing
held-still : (p : Placement) (side : Side) (n k : ℕ)
    → ((s : ℕ) → n < s → s ≤ n + k → is_of side (at p s) ≡ false) → held p side (n + k) ≡ held p side n
held-still p side n zero off = ap (held p side) (add-zero n)
held-still p side n (suc k) off =
    let e : n + suc k ≡ n + k + 1 = omega arith in
    let here = held-past p side (n + k) (off (n + k + 1) (omega arith) (omega arith)) in
    ap (held p side) e ∙ (here ∙ held-still p side n k (λ s low high. off s low (omega arith)))

held-upto : (p : Placement) (side : Side) (n m : ℕ) → n ≤ m
    → ((s : ℕ) → n < s → s ≤ m → is_of side (at p s) ≡ false) → held p side m ≡ held p side n
held-upto p side n m h off =
    let e : m ≡ n + (m - n) = omega arith in
    ap (held p side) e ∙ held-still p side n (m - n) (λ s low high. off s low (omega arith))

-- ---- the mark of a king, by the set of the kings
mark_of : (side : Side) (k : Kind) (o : Option Piece) (king : Bool)
    → o ≡ Some (record { side = side; kind = k }) → ((king ≡ true) ↔ (o ≡ Some (record { side = side; kind = King })))
    → (if king then codes "K" else []) ≡ king_mark o
mark_of side Man o king e is = elim (cases_Bool king) [
  | inl marked ↦ absurd (let clash : [] ≡ codes "K" = ap king_mark (sym e ∙ is.0 marked) in cc)
  | inr plain ↦ ap (λ b. if b then codes "K" else []) plain ∙ sym (ap king_mark e)
]
mark_of side King o king e is = ap (λ b. if b then codes "K" else []) (is.1 e) ∙ sym (ap king_mark e)

-- the squares on which a side's kings stand
abbrev pub AreKings : Geometry → Placement → Side → Squares → Type 0
AreKings g p side kings = (s : ℕ)
    → (set.contains kings s ≡ true) ↔ (OnBoard g s × (at p s ≡ Some (record { side = side; kind = King })))

mark-is : (g : Geometry) (p : Placement) (side : Side) (kings : Squares) → AreKings g p side kings
    → (s : ℕ) → OnBoard g s → is_of side (at p s) ≡ true
    → (king : Bool) → king ≡ set.contains kings s → (if king then codes "K" else []) ≡ king_mark (at p s)
mark-is g p side kings are s on there king is =
    let piece = piece_of side (at p s) there in
    mark_of side piece.0 (at p s) king piece.1 (λ e. ((are s).0 (sym is ∙ e)).1, λ e. is ∙ (are s).1 (on, e))

-- s is the least square of a set
abbrev pub IsLeast : Squares → ℕ → Type 0
IsLeast left s = (t : ℕ) → set.contains left t ≡ true → s ≤ t

-- no square up to n is in a set
abbrev ArePast : Squares → ℕ → Type 0
ArePast left n = (t : ℕ) → set.contains left t ≡ true → n < t

-- ---- a text that holds the items of all squares but those that are left, which come after them
pub record IsLeft (g : Geometry) (p : Placement) (side : Side) (left : Squares) (start text : List ℕ) (first : Bool) :
    Type 0 where
  pub upto : ℕ
  pub within : upto ≤ squares g
  pub written : IsWrittenTo p side upto start text first
  pub left_is : (s : ℕ) → (set.contains left s ≡ true) ↔ ((upto < s) × (OnBoard g s × (is_of side (at p s) ≡ true)))

pub all_left : (g : Geometry) (p : Placement) (side : Side) (all : Squares) (start : List ℕ)
    → ((s : ℕ) → (set.contains all s ≡ true) ↔ (OnBoard g s × (is_of side (at p s) ≡ true)))
    → IsLeft g p side all start start true
all_left g p side all start is = record {
  upto = 0;
  within = omega arith;
  written = IsWrittenTo-none p side start;
  left_is = λ s. (λ e. let h = (is s).0 e in let low = h.0.0 in (omega arith, h), λ h. (is s).1 h.1);
}

-- no piece of the side stands between the last square that is written and the least that is left
none_between : (g : Geometry) (p : Placement) (side : Side) (left : Squares) (start text : List ℕ) (first : Bool)
    (h : IsLeft g p side left start text first)
    → (n : ℕ) → n ≤ squares g → ArePast left n → (t : ℕ) → h.upto < t → t ≤ n → is_of side (at p t) ≡ false
none_between g p side left start text first h n within least t low high = elim (cases_Bool (is_of side (at p t))) [
  | inl e ↦ absurd (let past = least t ((h.left_is t).1 (low, ((omega arith, omega arith), e))) in omega arith)
  | inr e ↦ e
]

written_upto : (g : Geometry) (p : Placement) (side : Side) (left : Squares) (start text : List ℕ) (first : Bool)
    (h : IsLeft g p side left start text first)
    → (n : ℕ) → n ≤ squares g → h.upto ≤ n → ArePast left n → IsWrittenTo p side n start text first
written_upto g p side left start text first h n within low least =
    let e = held-upto p side h.upto n low (none_between g p side left start text first h n within least) in
    record {
      text_is = h.written.text_is ∙ ap (λ t. start ++ join_with_byte 44 (map (item_text p) t)) (sym e);
      first_is = h.written.first_is ∙ ap is_nil (sym e);
      few = let k = ap length e in let m = h.written.few in omega arith;
    }

-- all is written up to the square before the least that is left
written_before : (g : Geometry) (p : Placement) (side : Side) (left : Squares) (start text : List ℕ) (first : Bool)
    → IsLeft g p side left start text first → (s : ℕ) → set.contains left s ≡ true → IsLeast left s
    → IsWrittenTo p side (s - 1) start text first
written_before g p side left start text first h s there least =
    let is = (h.left_is s).0 there in
    let low = is.0 in
    let high = is.1.0.1 in
    written_upto g p side left start text first h (s - 1) (omega arith) (omega arith)
    (λ t e. let past = least t e in omega arith)

pub room_left : (g : Geometry) → IsBoard g → (p : Placement) → IsPosition g p.cells
    → (side : Side) (left : Squares) (start text : List ℕ) (first : Bool)
    → IsLeft g p side left start text first → (s : ℕ) → set.contains left s ≡ true → IsLeast left s
    → length start + 80 ≤ 192 → length text + 4 ≤ 192
room_left g b p pos side left start text first h s there least room =
    let is = (h.left_is s).0 there in
    let low = is.0 in
    let high = is.1.0.1 in
    let e : s - 1 + 1 ≡ s = omega arith in
    let before = written_before g p side left start text first h s there least in
    let stands = ap (λ t. is_of side (at p t)) e ∙ is.1.1 in
    room_for g b p pos side (s - 1) start text first before (omega arith) stands room

-- the least square's item is added, and the others are left
pub one_written : (g : Geometry) (p : Placement) (side : Side) (left rest kings : Squares)
    (start old text : List ℕ) (was first king : Bool) (s : ℕ)
    → AreKings g p side kings → IsLeft g p side left start old was → set.contains left s ≡ true → IsLeast left s
    → rest ≡ set.remove left s → king ≡ set.contains kings s
    → text ≡ old ++ (if was then [] else codes ",") ++ (if king then codes "K" else []) ++ decimal s
    → length text ≤ length old + 4 → first ≡ false
    → IsLeft g p side rest start text first
one_written g p side left rest kings start old text was first king s are h there least rest_is king_is more small now =
    let is = (h.left_is s).0 there in
    let low = is.0 in
    let e : s - 1 + 1 ≡ s = omega arith in
    let mark = mark-is g p side kings are s is.1.0 is.1.1 king king_is in
    let comma = if was then [] else codes "," in
    let item : text ≡ old ++ comma ++ king_mark (at p (s - 1 + 1)) ++ decimal (s - 1 + 1) =
    more ∙ (ap (λ m. old ++ comma ++ m ++ decimal s) mark
    ∙ ap (λ t. old ++ comma ++ king_mark (at p t) ++ decimal t) (sym e)) in
    let before = written_before g p side left start old was h s there least in
    let stands = ap (λ t. is_of side (at p t)) e ∙ is.1.1 in
    let upto = IsWrittenTo-with p side (s - 1) start old text was first before stands in
    record {
      upto = s;
      within = is.1.0.1;
      written = subst (λ n. IsWrittenTo p side n start text first) e (upto item small now);
      left_is = λ t. (
        (λ has.
            let old_has = ap (λ v. set.contains v t) (sym rest_is) ∙ has in
            let both = and_parts _ _ (sym (contains-remove left s t) ∙ old_has) in
            let past = least t both.1 in
            let ne : t ≢ s = (λ same. true≢false (sym both.0 ∙ ap not (eq-eqb t s same))) in
            (omega arith, ((h.left_is t).0 both.1).1)),
        (λ k.
            let past = k.0 in
            let ne : t ≢ s = omega arith in
            let both = and_from _ _ (ap not (ne_eqb t s ne)) ((h.left_is t).1 (omega arith, k.1)) in
            ap (λ v. set.contains v t) rest_is ∙ (contains-remove left s t ∙ both)),
      );
    }

-- ---- nothing is left
pub all_written : (g : Geometry) (p : Placement) (side : Side) (left : Squares) (start text : List ℕ) (first : Bool)
    → IsLeft g p side left start text first
    → left ≡ set.empty → text ≡ start ++ items_text g p side
all_written g p side left start text first h none =
    (written_upto g p side left start text first h (squares g) (omega arith) h.within
    (λ t e. absurd (true≢false (sym e ∙ (ap (λ v. set.contains v t) none ∙ set.contains-empty nat_cmp t))))).text_is

pub few_written : (g : Geometry) → IsBoard g → (p : Placement) → IsPosition g p.cells
    → (side : Side) (left : Squares) (start text : List ℕ) (first : Bool)
    → IsLeft g p side left start text first → length text ≤ length start + 80
few_written g b p pos side left start text first h =
    let few = h.written.few in
    let most = held-few g b p pos side h.upto h.within in
    omega arith
