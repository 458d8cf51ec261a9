-- The names of an operation, entered and left again.
use Rattle.std.proofs.Common.{◌≡◌, ℕ, Bool, true, false, cond, ◌&&◌, ◌||◌, List, [], ◌∷◌, ◌++◌, find, Option, None, Some, refl, sym, ap, ◌∙◌}
use Rattle.std.specs.Prelude.{bytes_eq, is_some, option_map}
use Rattle.std.specs.Borrow.{Bor}
use Rattle.std.specs.BTreeMap.{BTreeMap}
use Rattle.std.proofs.lemmas.Slice.Eq.{bytes_eq-Decides}
use Rattle.orca_tree.specs.declared.tree.Name.{Name}
use Rattle.type_rules.specs.declared.types.DataType.{DataType}
use Rattle.type_rules.specs.declared.names.LocalRole.{LocalRole}
use Rattle.type_rules.specs.Rules.{is_among}
use Rattle.type_rules.specs.Scopes.{Local, texts}
use Rattle.type_forms.specs.Seen.{has}
use Rattle.type_forms.proofs.Loops.{bytes_turned}
use Rattle.type_tables.specs.Entries.{entry}
use Rattle.type_exprs.specs.declared.scope as code
use Rattle.type_exprs.specs.Scoped.{local_as}
use Rattle.type_decls.specs.Bodies.{AreLocals, AreNames}
use Rattle.type_decls.proofs.FieldsLast.{called}

abbrev NameSet : Type 0
NameSet = BTreeMap (Bor (List ℕ)) (Unit {0})

abbrev Named : Type 0
Named = BTreeMap (Bor (List ℕ)) code.Local.Local

or_again : (a b c : Bool) → ((a || b) || c) ≡ (a || (b || c))
or_again true b c = refl
or_again false b c = refl

-- a name is among two lists
among_both : (ks bs : List Name) (n : List ℕ) → is_among (texts (ks ++ bs)) n ≡ (is_among (texts ks) n || is_among (texts bs) n)
among_both [] bs n = refl
among_both (a ∷ ks) bs n =
    ap (λ (b : Bool). bytes_eq n a.text || b) (among_both ks bs n) ∙ sym (or_again (bytes_eq n a.text) (is_among (texts ks) n) (is_among (texts bs) n))

or_swapped : (a b : Bool) → (a || b) ≡ (b || a)
or_swapped true true = refl
or_swapped true false = refl
or_swapped false true = refl
or_swapped false false = refl

-- a set of fields, the operation's names in it
pub entered : (old new : NameSet) (own fs : List Name) → ((n : List ℕ) → has new n ≡ (has old n || is_among (texts own) n)) → AreNames old (texts fs) →
    AreNames new (texts (own ++ fs))
entered old new own fs is h n =
    is n ∙ ap (λ (b : Bool). b || is_among (texts own) n) (h n) ∙ or_swapped (is_among (texts fs) n) (is_among (texts own) n) ∙ sym (among_both own fs n)

back : (own f : Bool) → cond own (f && (own || f)) (own || f) ≡ f
back true true = refl
back true false = refl
back false true = refl
back false false = refl

-- and out of it again
pub left_names : (old new fields : NameSet) (own fs : List Name) →
    ((n : List ℕ) → has new n ≡ cond (is_among (texts own) n) (has fields n && has old n) (has old n)) → AreNames old (texts (own ++ fs)) →
    AreNames fields (texts fs) → AreNames new (texts fs)
left_names old new fields own fs is h f n =
    is n
    ∙ ap (λ (b : Bool). cond (is_among (texts own) n) (has fields n && b) b) (h n ∙ among_both own fs n)
    ∙ ap (λ (b : Bool). cond (is_among (texts own) n) (b && (is_among (texts own) n || is_among (texts fs) n)) (is_among (texts own) n || is_among (texts fs) n)) (f n)
    ∙ back (is_among (texts own) n) (is_among (texts fs) n)

-- ---- what they are

neither : (a b : Bool) → (a || b) ≡ false → (a ≡ false) × (b ≡ false)
neither true b h = absurd (cc h)
neither false b h = (refl, h)

-- a name that isn't among the first is found among the others
past : (ls ms : List Local) (n : List ℕ) → is_among (called ls) n ≡ false → find (λ l. bytes_eq l.name n) (ls ++ ms) ≡ find (λ l. bytes_eq l.name n) ms
past [] ms n h = refl
past (l ∷ ls) ms n h =
    let apart = neither (bytes_eq n l.name) (is_among (called ls) n) h in
    ap (λ (b : Bool). cond b (Some l) (find (λ l. bytes_eq l.name n) (ls ++ ms))) (bytes_turned l.name n ∙ apart.0) ∙ past ls ms n apart.1

pub left_locals : (old new fields : Named) (own : List (List ℕ)) (ls ms : List Local) →
    ((n : List ℕ) → entry new n ≡ cond (is_among own n) (entry fields n) (entry old n)) → called ls ≡ own → AreLocals old (ls ++ ms) → AreLocals fields ms →
    AreLocals new ms
left_locals old new fields own ls ms is same h f n = ap (option_map (local_as n)) (is n) ∙ by_test (is_among own n) refl
  where
    by_test : (b : Bool) → is_among own n ≡ b → option_map (local_as n) (cond b (entry fields n) (entry old n)) ≡ find (λ l. bytes_eq l.name n) ms
    by_test true e = f n
    by_test false e = h n ∙ past ls ms n (ap (λ (ns : List (List ℕ)). is_among ns n) same ∙ e)

-- ---- one name more that is left

-- a name that no field has is taken out
pub taken_out : {X : Type 0} (same f : Bool) (old new : Option X) → new ≡ cond same None old → (same ≡ true → f ≡ false) →
    is_some new ≡ cond same (f && is_some old) (is_some old)
taken_out {X} true f old new is out = ap is_some is ∙ sym (ap (λ (b : Bool). b && is_some old) (out refl))
taken_out {X} false f old new is out = ap is_some is

abbrev pub local_of : LocalRole → Option DataType → code.Local.Local
local_of role kind = record { role = role; kind = kind }

-- what a name is of the fields is given back
pub given_back : {X : Type 0} (name n : List ℕ) (fields : List ℕ → Option X) (old new own : Option X) → new ≡ cond (bytes_eq name n) own old →
    fields name ≡ own → new ≡ cond (bytes_eq name n) (fields n) old
given_back {X} name n fields old new own is e = is ∙ by_test (bytes_eq name n) refl
  where
    by_test : (b : Bool) → bytes_eq name n ≡ b → cond b own old ≡ cond b (fields n) old
    by_test true same = sym e ∙ ap fields ((bytes_eq-Decides name n).0 same)
    by_test false same = refl

pub leave_step : (same left f o : Bool) → cond left (f && cond same (f && o) o) (cond same (f && o) o) ≡ cond (same || left) (f && o) o
leave_step true true true o = refl
leave_step true true false o = refl
leave_step true false f o = refl
leave_step false left f o = refl

pub back_step : {X : Type 0} (same left : Bool) (f o : X) → cond left f (cond same f o) ≡ cond (same || left) f o
back_step {X} true true f o = refl
back_step {X} true false f o = refl
back_step {X} false left f o = refl
