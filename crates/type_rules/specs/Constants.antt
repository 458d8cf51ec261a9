-- The values of constants and of array bounds (docs/LANGUAGE.md, Typing).
use Rattle.std.specs.Prelude.{ℕ, zero, suc, ℤ, neg_ℤ, List, length, if◌then◌else◌, slice_get, Option, Some, None}
use Rattle.orca_tree.specs.declared.tree.Name.{Name}
use Rattle.orca_tree.specs.declared.tree.Bound.{Bound}
use Rattle.orca_tree.specs.declared.tree.Bound.TheVariants as bounds
use Rattle.link_rules.specs.Units.{Source}
pub use Rattle.type_rules.specs.declared.names.Chain.{Chain}
pub use Rattle.type_rules.specs.declared.names.Chain.TheVariants.{EndsAt, GoesRound, Fails}
use Rattle.type_rules.specs.TopLevel as top
use Rattle.type_rules.specs.TopLevel.{What, TopName, Predeclared, StandsFor, stands_for, top_names}
use Rattle.type_rules.specs.Rules.{Found, found, unless, breaks, is_among}

-- where a phrase stands: in which program and module, and among which names of a body
pub record View : Type 0 where
  pub program : List Source
  pub home : List ℕ
  pub names : List (List ℕ)

-- what a name stands for there
pub data Sense : Type 0 where
  OfBody : Sense
  OfAll : StandsFor → Sense

abbrev pub sense : View → Name → Sense
sense v n = if is_among v.names n.text then OfBody else OfAll (stands_for v.program v.home n.text)

-- ---- chains of constants

-- a constant is a number, or another constant; so a chain of constants ends at a number, or goes round for ever, or at what is no
-- constant
abbrev pub chain_of_what : (ℕ → Chain) → ℕ → What → Chain
chain_of_what chain i (top.Constant b) = chain i
chain_of_what chain i _ = Fails

abbrev pub chain_of : (ℕ → Chain) → StandsFor → Chain
chain_of chain (top.Top i t) = chain_of_what chain i t.what
chain_of chain _ = Fails

-- the chain that begins at a constant's value, in the module of the constant
abbrev pub bound_chain : (ℕ → Chain) → List Source → List ℕ → Bound → Chain
bound_chain chain us m (bounds.Number at value) = EndsAt value
bound_chain chain us m (bounds.Negative at value) = EndsAt (neg_ℤ value)
bound_chain chain us m (bounds.Named n) = chain_of chain (stands_for us m n.text)

abbrev pub value_chain : (ℕ → Chain) → List Source → TopName → What → Chain
value_chain chain us t (top.Constant b) = bound_chain chain us t.defined.by b
value_chain chain us t _ = Fails

abbrev pub numbered_chain : (ℕ → Chain) → List Source → Option TopName → Chain
numbered_chain chain us None = Fails
numbered_chain chain us (Some t) = value_chain chain us t t.what

-- the chain from a constant, within so many constants; none has more than there are names
abbrev pub chain_within : List Source → ℕ → ℕ → Chain
chain_within us zero i = GoesRound
chain_within us (suc k) i = numbered_chain (chain_within us k) us (slice_get (top_names us) i)

abbrev pub chain_from : List Source → ℕ → Chain
chain_from us i = chain_within us (length (top_names us)) i

-- ---- bounds

-- 9. Array bounds and the values of constants are numbers, or integer constants without a cycle.
abbrev pub ends_well : Name → Chain → Found ℤ
ends_well n (EndsAt value) = found (Some value)
ends_well n GoesRound = unless (breaks 9 n.at) None
ends_well n Fails = found None

-- 5. A name in the place of a value is a variable, parameter, loop variable, field, constant or enumeration name. Of these a bound may be
-- a constant alone.
abbrev pub top_bound : List Source → Name → ℕ → What → Found ℤ
top_bound us n i (top.Constant b) = ends_well n (chain_from us i)
top_bound us n i (top.Value of number) = unless (breaks 9 n.at) None
top_bound us n i _ = unless (breaks 5 n.at) None

abbrev pub predeclared_bound : Name → Predeclared → Found ℤ
predeclared_bound n top.GraphBound = unless (breaks 9 n.at) None
predeclared_bound n top.Nil = unless (breaks 9 n.at) None
predeclared_bound n _ = unless (breaks 5 n.at) None

-- 2. A used name is declared and visible.
abbrev pub named_bound : List Source → Name → Sense → Found ℤ
named_bound us n OfBody = unless (breaks 9 n.at) None
named_bound us n (OfAll top.Nothing) = unless (breaks 2 n.at) None
named_bound us n (OfAll (top.Top i t)) = top_bound us n i t.what
named_bound us n (OfAll (top.Everywhere p)) = predeclared_bound n p

abbrev pub bound : View → Bound → Found ℤ
bound v (bounds.Number at value) = found (Some value)
bound v (bounds.Negative at value) = found (Some (neg_ℤ value))
bound v (bounds.Named n) = named_bound v.program n (sense v n)
