-- A path tells the squares that it takes.
use Rattle.std.proofs.Common.{◌≡◌, ℕ, List, [], ◌∷◌, ◌++◌, refl, sym, ap, ◌∙◌, subst, Some, None}
use Rattle.dw_board.specs.declared.piece.Piece.{Piece}
use Rattle.dw_board.specs.Geometry.{Geometry, IsBoard, OnBoard}
use Rattle.dw_board.specs.Placement.{Placement, at, placed}
use Rattle.dw_moves.specs.Moves.{AllEmpty, Jump, Jumps, ray}
use Rattle.dw_board.specs.Placement.{other}
use Rattle.dw_moves.specs.Laws.{PathTells}
use Rattle.dw_moves.proofs.RayLemmas.{ray_toward, ray_of_on, one_dir, landing_on_ray}

-- the first occupied square of a list
first_occupied : (cells : Placement) (l m r q : List ℕ) (c d : ℕ) (x y : Piece) → l ++ c ∷ r ≡ m ++ d ∷ q
    → AllEmpty cells l → AllEmpty cells m → at cells c ≡ Some x → at cells d ≡ Some y → c ≡ d
first_occupied cells [] [] r q c d x y e hl hm hc hd = cc
first_occupied cells (s ∷ l) [] r q c d x y e hl hm hc hd =
    let same : s ≡ d = cc in let empty : at cells d ≡ None = subst (λ z. at cells z ≡ None) same hl.0 in absurd (cc)
first_occupied cells [] (s ∷ m) r q c d x y e hl hm hc hd =
    let same : s ≡ c = cc in let empty : at cells c ≡ None = subst (λ z. at cells z ≡ None) same hm.0 in absurd (cc)
first_occupied cells (s ∷ l) (t ∷ m) r q c d x y e hl hm hc hd = first_occupied cells l m r q c d x y (cc) hl.1 hm.1 hc
    hd

-- a jump between two squares takes one piece
pub one_taken : (g : Geometry) → IsBoard g → (cells : Placement) (piece : Piece) (s t c d : ℕ) → OnBoard g s
    → Jump g cells piece s c t → Jump g cells piece s d t → c ≡ d
one_taken g b cells piece s t c d on h k =
    let same : h.dir ≡ k.dir = one_dir g s t h.dir k.dir
    (ray_toward g b h.dir s t on (landing_on_ray g cells piece s c t h))
    (ray_toward g b k.dir s t on (landing_on_ray g cells piece s d t k)) in
    first_occupied cells h.before k.before (h.behind ++ t ∷ h.beyond) (k.behind ++ t ∷ k.beyond) c d
    (record { side = other piece.side; kind = h.enemy.0 }) (record { side = other piece.side; kind = k.enemy.0 })
    (sym h.on_ray ∙ ap (ray g s) same ∙ k.on_ray) h.clear k.clear h.enemy.1 k.enemy.1

jumps_tell : (g : Geometry) → IsBoard g → (cells : Placement) (piece : Piece) (s : ℕ) (ts cs ds : List ℕ) → OnBoard g s
    → Jumps g cells piece s ts cs → Jumps g cells piece s ts ds → cs ≡ ds
jumps_tell g b cells piece s [] [] [] on h k = refl
jumps_tell g b cells piece s [] (c ∷ cs) ds on h k = absurd h
jumps_tell g b cells piece s [] [] (d ∷ ds) on h k = absurd k
jumps_tell g b cells piece s (t ∷ ts) [] ds on h k = absurd h
jumps_tell g b cells piece s (t ∷ ts) (c ∷ cs) [] on h k = absurd k
jumps_tell g b cells piece s (t ∷ ts) (c ∷ cs) (d ∷ ds) on h k =
    let one : c ≡ d = one_taken g b cells piece s t c d on h.0 k.0 in
    let next : OnBoard g t = ray_of_on g b g.rows s h.0.dir t on (landing_on_ray g cells piece s c t h.0) in
    let rest : cs ≡ ds = jumps_tell g b cells piece t ts cs ds next h.1 k.1 in
    λ i. one i ∷ rest i

pub path_tells : PathTells
path_tells g b p from ts cs ds h k =
    let same : Some h.piece ≡ Some k.piece = sym h.stands.there ∙ k.stands.there in
    let piece_is : h.piece ≡ k.piece = cc in
    jumps_tell g b (placed p from None) h.piece from ts cs ds h.stands.on_board h.jumps
    (subst (λ q. Jumps g (placed p from None) q from ts ds) (sym piece_is) k.jumps)
