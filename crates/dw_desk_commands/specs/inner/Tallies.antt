-- Numbers of remarks, as the code keeps them.
use Rattle.std.specs.Prelude.{ℕ, ◌+◌}
use Rattle.dw_study.specs.Remarks.{Remark, fails, also, leaves_open, ends}
use Rattle.dw_desk_commands.specs.Check.{Counted}
use Rattle.dw_desk_commands.specs.declared.check.Tally.{Tally}

-- the value of a tally
abbrev pub tallied : Tally → Counted
tallied t = record { that_fail = t.fails; that_end = t.ends; left_open = t.open; left_out = t.also }

-- the number of all remarks of a tally
abbrev pub total : Tally → ℕ
total t = t.fails + t.ends + t.open + t.also

-- one remark more
abbrev pub one_more : Remark → Counted → Counted
one_more (fails b m r) c = record c { that_fail = c.that_fail + 1 }
one_more (ends b wins_in) c = record c { that_end = c.that_end + 1 }
one_more (leaves_open b replies) c = record c { left_open = c.left_open + 1 }
one_more (also b keys) c = record c { left_out = c.left_out + 1 }
