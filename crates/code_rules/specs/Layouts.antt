-- Where the variables of a body stand: its names in the first slots, in the order of the scope, and behind them the variables of the loops
-- that are open, the outermost first. The scope has an open loop's variable in front of all others.
use Rattle.std.specs.Prelude.{ℕ, zero, suc, ◌+◌, cond, length, nat_lt}
use Rattle.type_rules.specs.Scopes.{Scope}

-- how many names the body has, how many loops are open, and how many may be open at once
pub record Layout : Type 0 where
  pub names : ℕ
  pub depth : ℕ
  pub spare : ℕ

-- how many slots the body has, and one that it hasn't
abbrev pub top : Layout → ℕ
top l = l.names + l.spare

-- the slot of the next loop's variable
abbrev pub free : Layout → ℕ
free l = l.names + l.depth

-- the slot of the k-th name of the scope, and of a name that the scope hasn't one that the body hasn't
abbrev pub spot_in : ℕ → ℕ → ℕ → ℕ → ℕ
spot_in names zero beyond k = cond (nat_lt k names) k beyond
spot_in names (suc depth) beyond zero = names + depth
spot_in names (suc depth) beyond (suc k) = spot_in names depth beyond k

abbrev pub spot : Layout → ℕ → ℕ
spot l k = spot_in l.names l.depth (top l) k

-- in a loop
abbrev pub inside : Layout → Layout
inside l = record l { depth = suc l.depth }

-- a body with room for so many loops
abbrev pub layout_of : Scope → ℕ → Layout
layout_of v spare = record { names = length v.locals; depth = 0; spare = spare }
