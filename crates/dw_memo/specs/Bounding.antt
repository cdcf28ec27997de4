-- The answers of bounds for a number of moves.
use Rattle.std.specs.Prelude.{ℕ, Bool, true, false, cond, ◌||◌, nat_le, min, max, Option, Some, None}
use Rattle.dw_memo.specs.declared.bounds.Bounds.{Bounds}

-- a win in w moves is one in n moves if w is at most n
abbrev pub wins_decide : Option ℕ → ℕ → Bool
wins_decide None n = false
wins_decide (Some w) n = nat_le w n

-- no win in f moves is none in n moves if n is at most f
abbrev pub fails_decide : Option ℕ → ℕ → Bool
fails_decide None n = false
fails_decide (Some f) n = nat_le n f

-- whether bounds say that there is a win in n moves, or that there is none
abbrev pub decides : Bounds → ℕ → Bool
decides b n = wins_decide b.wins n || fails_decide b.fails n

-- the answer of bounds: a win, no win, or nothing
abbrev pub decided : Bounds → ℕ → Option Bool
decided b n = cond (wins_decide b.wins n) (Some true) (cond (fails_decide b.fails n) (Some false) None)

-- the greater number: no win in it says more
abbrev pub at_least : Option ℕ → ℕ → Option ℕ
at_least None n = Some n
at_least (Some f) n = Some (max f n)

-- the smaller number: a win in it says more
abbrev pub at_most : Option ℕ → ℕ → Option ℕ
at_most None n = Some n
at_most (Some w) n = Some (min w n)

-- the bounds, and that there is no win in n moves
abbrev pub with_fail : Bounds → ℕ → Bounds
with_fail b n = record { fails = at_least b.fails n; wins = b.wins }

-- the bounds, and that there is a win in n moves
abbrev pub with_win : Bounds → ℕ → Bounds
with_win b n = record { fails = b.fails; wins = at_most b.wins n }
