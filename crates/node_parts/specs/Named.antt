-- Laws of names: all machines under one name are one.
use Rattle.std.specs.Prelude.{◌≡◌, Option, Some}
use Rattle.std.proofs.Common.{ap, subst, sym}
use Rattle.node_parts.specs.Names.{IfNamed}

-- what is so of this machine is so of the one that is named
pub to_named : {M : Type 0} (named : Option M) (m : M) → named ≡ Some m → (P : M → Type 0) → P m → IfNamed named P
to_named named m is P so = subst (λ o. IfNamed o P) (sym is) so

-- and the other way round
pub of_named : {M : Type 0} (named : Option M) (m : M) → named ≡ Some m → (P : M → Type 0) → IfNamed named P → P m
of_named named m is P so = subst (λ o. IfNamed o P) is so

-- so it is the same for any two
pub alike : {M : Type 0} (named : Option M) (m n : M) → named ≡ Some m → named ≡ Some n → (P : M → Type 0) → P m → P n
alike named m n is too P so = of_named named n too P (to_named named m is P so)

-- a function of the machine that is named is that of this one
pub named_is : {M A : Type 0} (f : Option M → A) (named : Option M) (m : M) → named ≡ Some m → f (Some m) ≡ f named
named_is f named m is = ap f (sym is)
