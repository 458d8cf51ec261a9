-- A bound without a breach is a number: each constant's chain ends at a number, or goes round.
use Rattle.std.proofs.Common.{refl, sym, ap, subst}
use Rattle.std.specs.Prelude.{◌≡◌, ℕ, zero, suc, neg_ℤ, Bool, true, false, if◌then◌else◌, List, [], length, slice_get, Option, Some}
use Rattle.std.specs.List.{AllByRecursion}
use Rattle.orca_tree.specs.declared.tree.Name.{Name}
use Rattle.orca_tree.specs.declared.tree.Bound.{Bound}
use Rattle.orca_tree.specs.declared.tree.Bound.TheVariants as bounds
use Rattle.link_rules.specs.Units.{Source}
use Rattle.type_rules.specs.declared.names.Chain.{Chain}
use Rattle.type_rules.specs.declared.names.Chain.TheVariants.{EndsAt, GoesRound, Fails}
use Rattle.type_rules.specs.declared.names.Predeclared.{Predeclared}
use Rattle.type_rules.specs.declared.names.Predeclared.TheVariants as predeclared
use Rattle.type_rules.specs.TopLevel as top
use Rattle.type_rules.specs.TopLevel.{What, TopName, StandsFor, stands_for, top_names}
use Rattle.type_rules.specs.Rules.{is_among}
use Rattle.type_rules.specs.Constants.{View, Sense, OfBody, OfAll, bound, bound_chain, chain_from, chain_of, chain_of_what, chain_within, ends_well, named_bound, numbered_chain, predeclared_bound, sense, top_bound, value_chain}
use Rattle.type_rules.specs.Scopes.{view_of}
use Rattle.meaning_rules.proofs.Called.{top_at}
use Rattle.meaning_rules.proofs.Judged.{all_at}
use Rattle.accepted_law.proofs.Tops.{IsFine, IsFineTop}

abbrev pub Known : {X : Type 0} → Option X → Type 0
Known {X = X} o = (x : X) × (o ≡ Some x)

-- a chain that comes to what is no constant
abbrev GoesOn : Chain → Type 0
GoesOn Fails = ⊥
GoesOn (EndsAt z) = Unit {0}
GoesOn GoesRound = Unit {0}

-- what a name stands for, where nothing in a body hides it
in_all : Sense → StandsFor
in_all OfBody = top.Nothing
in_all (OfAll s) = s

pub sense_top : (v : View) (n : Name) (i : ℕ) (t : TopName) → sense v n ≡ OfAll (top.Top i t) → stands_for v.program v.home n.text ≡ top.Top i t
unfolding in_all
sense_top v n i t is = by (is_among v.names n.text) is
  where
    by : (b : Bool) → (if b then OfBody else OfAll (stands_for v.program v.home n.text)) ≡ OfAll (top.Top i t) → stands_for v.program v.home n.text ≡ top.Top i t
    by true e = absurd cc
    by false e = ap in_all e

predeclared_breaks : (n : Name) (p : Predeclared) → (predeclared_bound n p).breaches ≡ [] → ⊥
predeclared_breaks n predeclared.GraphBound is = absurd cc
predeclared_breaks n predeclared.NodeNameType is = absurd cc
predeclared_breaks n predeclared.Nil is = absurd cc
predeclared_breaks n predeclared.AddNode is = absurd cc
predeclared_breaks n predeclared.DeleteNode is = absurd cc

module _ (us : List Source) (fine : AllByRecursion (IsFineTop us) (top_names us)) where
  abbrev AreGoing : (ℕ → Chain) → Type 0
  AreGoing chain = (i : ℕ) (t : TopName) (b : Bound) → slice_get (top_names us) i ≡ Some t → t.what ≡ top.Constant b → GoesOn (chain i)

  -- a constant's chain
  what_goes : (chain : ℕ → Chain) → AreGoing chain → (m : List ℕ) (n : Name) (i : ℕ) (t : TopName) → stands_for us m n.text ≡ top.Top i t → (w : What) → t.what ≡ w → (top_bound us n i w).breaches ≡ [] →
      GoesOn (chain_of_what chain i t.what)
  what_goes chain rest m n i t is (top.Constant b) e none = subst (λ w. GoesOn (chain_of_what chain i w)) (sym e) (rest i t b (top_at us m n.text i t is) e)
  what_goes chain rest m n i t is (top.TypeName of) e none = absurd cc
  what_goes chain rest m n i t is (top.Value of number) e none = absurd cc
  what_goes chain rest m n i t is (top.Specified hs) e none = absurd cc
  what_goes chain rest m n i t is (top.Implemented os) e none = absurd cc
  what_goes chain rest m n i t is (top.Function ps r b) e none = absurd cc
  what_goes chain rest m n i t is (top.Process ps b) e none = absurd cc

  value_goes : (chain : ℕ → Chain) → AreGoing chain → (m : List ℕ) (b : Bound) → (bound (view_of us m []) b).breaches ≡ [] → GoesOn (bound_chain chain us m b)
  value_goes chain rest m (bounds.Number at value) none = tt
  value_goes chain rest m (bounds.Negative at value) none = tt
  value_goes chain rest m (bounds.Named n) none = by (stands_for us m n.text) refl none
    where
      by : (s : StandsFor) → stands_for us m n.text ≡ s → (named_bound us n (OfAll s)).breaches ≡ [] → GoesOn (chain_of chain s)
      by top.Nothing is clean = absurd cc
      by (top.Everywhere p) is clean = absurd (predeclared_breaks n p clean)
      by (top.Top i t) is clean = what_goes chain rest m n i t is t.what refl clean

  constants_go : (k : ℕ) → AreGoing (chain_within us k)
  constants_go zero i t b at what = tt
  constants_go (suc k) i t b at what =
      let none = (subst (IsFine us t.defined.by t.defined.name) what (all_at (IsFineTop us) (top_names us) i t fine at)).1 in
      subst (λ o. GoesOn (numbered_chain (chain_within us k) us o)) (sym at)
      (subst (λ w. GoesOn (value_chain (chain_within us k) us t w)) (sym what) (value_goes (chain_within us k) (constants_go k) t.defined.by b none))

  -- ---- bounds

  ends : (n : Name) (c : Chain) → GoesOn c → (ends_well n c).breaches ≡ [] → Known (ends_well n c).is
  ends n (EndsAt z) goes none = (z, refl)
  ends n GoesRound goes none = absurd cc
  ends n Fails goes none = absurd goes

  top_known : (m : List ℕ) (n : Name) (i : ℕ) (t : TopName) → stands_for us m n.text ≡ top.Top i t → (w : What) → t.what ≡ w → (top_bound us n i w).breaches ≡ [] → Known (top_bound us n i w).is
  top_known m n i t is (top.Constant b) e none = ends n (chain_from us i) (constants_go (length (top_names us)) i t b (top_at us m n.text i t is) e) none
  top_known m n i t is (top.TypeName of) e none = absurd cc
  top_known m n i t is (top.Value of number) e none = absurd cc
  top_known m n i t is (top.Specified hs) e none = absurd cc
  top_known m n i t is (top.Implemented os) e none = absurd cc
  top_known m n i t is (top.Function ps r b) e none = absurd cc
  top_known m n i t is (top.Process ps b) e none = absurd cc

  pub bound_known : (m : List ℕ) (hidden : List (List ℕ)) (b : Bound) → (bound (record { program = us; home = m; names = hidden }) b).breaches ≡ [] →
      Known (bound (record { program = us; home = m; names = hidden }) b).is
  bound_known m hidden (bounds.Number at value) none = (value, refl)
  bound_known m hidden (bounds.Negative at value) none = (neg_ℤ value, refl)
  bound_known m hidden (bounds.Named n) none = by (sense v n) refl none
    where
      v : View
      v = record { program = us; home = m; names = hidden }

      by : (s : Sense) → sense v n ≡ s → (named_bound us n s).breaches ≡ [] → Known (named_bound us n s).is
      by OfBody is clean = absurd cc
      by (OfAll top.Nothing) is clean = absurd cc
      by (OfAll (top.Everywhere p)) is clean = absurd (predeclared_breaks n p clean)
      by (OfAll (top.Top i t)) is clean = top_known m n i t (sense_top v n i t is) t.what refl clean
