-- The values of constants, as they become known one by one.
use Rattle.std.specs.Prelude.{◌≡◌, ℕ, ◌<◌, ◌≤◌, ◌+◌, List, [], ◌∷◌, length, slice_get, is_some, if◌then◌else◌, Option, Some, None}
use Rattle.link_rules.specs.Units.{Source}
use Rattle.type_rules.specs.declared.names.Chain.{Chain}
use Rattle.type_rules.specs.declared.names.Chain.TheVariants.{EndsAt, GoesRound, Fails}
use Rattle.type_rules.specs.TopLevel.{top_names}
use Rattle.type_rules.specs.Constants.{chain_from, chain_within, numbered_chain}
use Rattle.type_forms.specs.declared.chains.Link.{Link}
use Rattle.type_forms.specs.declared.chains.Link.TheVariants as link

-- where a constant leads: to a number, to another name, or to what is no constant
abbrev pub follow : (ℕ → Chain) → Link → Chain
follow chain (link.Ends value) = EndsAt value
follow chain (link.Next i) = chain i
follow chain link.Nowhere = Fails

abbrev pub IsNextInside : List Source → Link → Type 0
IsNextInside us (link.Next i) = i < length (top_names us)
IsNextInside us _ = Unit {0}

-- this is the link of the name with this number
pub record IsLinkOf (us : List Source) (i : ℕ) (l : Link) : Type 0 where
  pub follows : (chain : ℕ → Chain) → numbered_chain chain us (slice_get (top_names us) i) ≡ follow chain l
  pub inside : IsNextInside us l

-- what is known of a name
abbrev pub known_in : Option (Option Chain) → Option Chain
known_in None = None
known_in (Some c) = c

abbrev pub known : List (Option Chain) → ℕ → Option Chain
known memo i = known_in (slice_get memo i)

abbrev pub known_of : List (Option Chain) → Link → Option Chain
known_of memo (link.Ends value) = Some (EndsAt value)
known_of memo (link.Next i) = known memo i
known_of memo link.Nowhere = Some Fails

abbrev pub unknown_count : List (Option Chain) → ℕ
unknown_count [] = 0
unknown_count (x ∷ memo) = (if is_some x then 0 else 1) + unknown_count memo

-- what is known is right: no chain is longer than there are names known
pub record AreRight (us : List Source) (memo : List (Option Chain)) : Type 0 where
  pub long : length memo ≡ length (top_names us)
  pub right : (i k : ℕ) (c : Chain) → known memo i ≡ Some c → length memo ≤ k + unknown_count memo → chain_within us k i ≡ c

-- a name of which nothing is known leads to another such
abbrev pub IsStuck : List Source → List (Option Chain) → ℕ → Type 0
IsStuck us memo i = known memo i ≡ None → (l : Link) × IsLinkOf us i l × (known_of memo l ≡ None)

-- what is unknown in the end goes round
abbrev pub or_round : Option Chain → Chain
or_round None = GoesRound
or_round (Some c) = c

-- these are the chains of all names, by their numbers
pub record AreChains (us : List Source) (chains : List Chain) : Type 0 where
  pub long : length chains ≡ length (top_names us)
  pub each : (i : ℕ) → i < length chains → slice_get chains i ≡ Some (chain_from us i)
