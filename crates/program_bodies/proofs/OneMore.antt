-- One name more behind those of a body, and several.
use Rattle.std.proofs.Common.{◌≡◌, ℕ, ◌<◌, ◌+◌, Bool, true, false, cond, List, [], ◌∷◌, ◌++◌, length, get_or, take, map, find, Option, Some, None, refl, sym, ap, subst, ◌∙◌, append_assoc}
use Rattle.std.specs.Prelude.{bytes_eq, flat_map, option_map, position}
use Rattle.std.proofs.lemmas.Grind.{flat_map-append}
use Rattle.std.proofs.lemmas.List.{append-nil, length-map, map-append}
use Rattle.std.proofs.lemmas.Slice.Eq.{bytes_eq-Decides}
use Rattle.type_rules.specs.declared.types.DataType.{DataType}
use Rattle.type_rules.specs.declared.names.LocalRole.{LocalRole}
use Rattle.type_rules.specs.Scopes.{Local}
use Rattle.type_tables.specs.Entries.{entry, or_other}
use Rattle.type_exprs.specs.declared.scope.Local as tree
use Rattle.type_exprs.specs.Scoped.{local_as}
use Rattle.program_tables.proofs.Listing.{placed_more}
use Rattle.program_bodies.specs.declared.bodies.BodyNames.{BodyNames}
use Rattle.program_bodies.specs.Bodies.{HasLocals, bears}
use Rattle.program_bodies.proofs.FirstGiven.{find_push, other_mapped}
use Rattle.program_bodies.proofs.Matched.{seen_more}

abbrev pub called : List ℕ → LocalRole → Option DataType → Local
called n role kind = record { name = n; role = role; type = kind }

pub same_local : (m n : List ℕ) (role : LocalRole) (k l : Option DataType) → m ≡ n → k ≡ l → called m role k ≡ called n role l
same_local m n role k l e f = ap (λ (v : List ℕ). called v role k) e ∙ ap (called n role) f

-- what the table has for a name, where it is this one
noted_local : (name n : List ℕ) (role : LocalRole) (own kind : Option DataType) (v : tree.Local) → v ≡ record { role = role; kind = own } → own ≡ kind →
    option_map (local_as n) (cond (bytes_eq name n) (Some v) None) ≡ cond (bytes_eq name n) (Some (called name role kind)) None
noted_local name n role own kind v is e = by_test (bytes_eq name n) refl
  where
    by_test : (b : Bool) → bytes_eq name n ≡ b → option_map (local_as n) (cond b (Some v) None) ≡ cond b (Some (called name role kind)) None
    by_test true same =
        ap (λ (l : tree.Local). Some (local_as n l)) is
        ∙ ap (λ (l : Local). Some l) (same_local n name role own kind (sym ((bytes_eq-Decides name n).0 same)) e)
    by_test false same = refl

pub one_more : (old new : BodyNames) (name : List ℕ) (role : LocalRole) (own kind : Option DataType) (v : tree.Local) (k : ℕ) (ls : List Local) →
    v ≡ record { role = role; kind = own } → own ≡ kind → k ≡ length old.types.items →
    ((n : List ℕ) → entry new.places n ≡ or_other (entry old.places n) (cond (bytes_eq name n) (Some k) None)) →
    ((n : List ℕ) → entry new.locals n ≡ or_other (entry old.locals n) (cond (bytes_eq name n) (Some v) None)) →
    new.types.items ≡ old.types.items ++ kind ∷ [] → HasLocals old ls → HasLocals new (ls ++ called name role kind ∷ [])
one_more old new name role own kind v k ls is e counted places locals types has =
    let l = called name role kind in
    record {
      locals = λ n. ap (option_map (local_as n)) (locals n)
          ∙ other_mapped (local_as n) (entry old.locals n) (cond (bytes_eq name n) (Some v) None)
          ∙ ap (λ (o : Option Local). or_other o (option_map (local_as n) (cond (bytes_eq name n) (Some v) None))) (has.locals n)
          ∙ ap (or_other (find (bears n) ls)) (noted_local name n role own kind v is e)
          ∙ sym (find_push (bears n) ls l);
      places = λ n. places n
          ∙ ap (λ (o : Option ℕ). or_other o (cond (bytes_eq name n) (Some k) None)) (has.places n)
          ∙ ap (λ (j : ℕ). or_other (position (bears n) ls) (cond (bytes_eq name n) (Some j) None))
          (counted ∙ ap (λ (ts : List (Option DataType)). length ts) has.types ∙ length-map ls (λ (x : Local). x.type))
          ∙ sym (placed_more (bears n) ls l);
      types = types ∙ ap (λ (ts : List (Option DataType)). ts ++ kind ∷ []) has.types ∙ sym (map-append (λ (x : Local). x.type) ls (l ∷ []));
    }

-- ---- several

pub grown : (new : BodyNames) (ls before own after : List Local) → after ≡ before ++ own → HasLocals new ((ls ++ before) ++ own) → HasLocals new (ls ++ after)
grown new ls before own after e h =
    subst (λ (l : List Local). HasLocals new l) (append_assoc ls before own ∙ ap (λ (l : List Local). ls ++ l) (sym e)) h

pub shown_more : {A B C : Type 0} (shown : A → B) (f : B → C) (xs : List A) (i : ℕ) (x : A) → i < length xs → x ≡ get_or xs i x →
    map f (map shown (take (i + 1) xs)) ≡ map f (map shown (take i xs)) ++ f (shown x) ∷ []
shown_more shown f xs i x lt is = ap (map f) (seen_more shown xs i x lt is) ∙ map-append f (map shown (take i xs)) (shown x ∷ [])

pub group_more : {A B C : Type 0} (shown : A → B) (f : B → List C) (xs : List A) (i : ℕ) (x : A) → i < length xs → x ≡ get_or xs i x →
    flat_map f (map shown (take (i + 1) xs)) ≡ flat_map f (map shown (take i xs)) ++ f (shown x)
group_more {A} {B} {C} shown f xs i x lt is =
    ap (flat_map f) (seen_more shown xs i x lt is)
    ∙ flat_map-append f (map shown (take i xs)) (shown x ∷ [])
    ∙ ap (λ (l : List C). flat_map f (map shown (take i xs)) ++ l) (append-nil (f (shown x)))
