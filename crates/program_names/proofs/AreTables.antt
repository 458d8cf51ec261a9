-- The names of a program are tables: words, each at one place, and no more than 2^16.
use Rattle.std.proofs.Common.{◌≤◌, ◌<◌, refl, sym, ap, ◌∙◌, subst, arith, cond}
use Rattle.std.specs.Prelude.{◌≡◌, ◌||◌, ◌^◌, not, ℕ, zero, suc, Bool, true, false, List, [], ◌∷◌, bytes_eq, codes, filter, length, map, position, slice_get, take, unwrap_or, Option, Some, None, option_and_then, option_map}
use Rattle.std.specs.List.{AllByRecursion, list_all, list_any}
use Rattle.std.proofs.lemmas.Bool.{true≢false}
use Rattle.std.proofs.lemmas.List.{length-map, take_all}
use Rattle.std.proofs.lemmas.Option.{slice_get-map}
use Rattle.std.proofs.lemmas.Slice.Eq.{bytes_eq-Decides}
use Rattle.orca_tree.specs.declared.tree.Name.{Name}
use Rattle.orca_syntax.specs.Sound.{IsSoundHead, IsSoundName}
use Rattle.orca_syntax.specs.Syntax.{Head}
use Rattle.link_rules.specs.Linked.{IsLinked, may_share}
use Rattle.link_rules.specs.Rules.{Links, is_role}
use Rattle.link_rules.specs.Units.{Source}
use Rattle.link_rules.specs.declared.role.Role.{Role}
use Rattle.link_rules.specs.declared.role.Role.TheVariants.{Specification, Other}
use Rattle.link_rules.proofs.Breaches.{no_breach, role_is}
use Rattle.type_rules.specs.Breaches.{IsWellTyped}
use Rattle.type_rules.specs.Rules.{are_new, asks, each_new, is_among}
use Rattle.type_rules.specs.Scopes.{heads_in, specification_of}
use Rattle.type_rules.specs.TopLevel as top
use Rattle.type_rules.specs.TopLevel.{What, TopName, bears, top_names}
use Rattle.meaning_rules.specs.Accepted.{AreTexts}
use Rattle.meaning_rules.specs.Programs.{is_process, is_specification, op_in, process_texts, specifications}
use Rattle.meaning_rules.proofs.Judged.{all_at, asked, left_none, right_none}
use Rattle.accepted_law.specs.Numbers.{AreNumbers}
use Rattle.accepted_law.proofs.Lists.{same_some}
use Rattle.accepted_law.proofs.Names.{one_place}
use Rattle.accepted_law.proofs.Tops.{HasRole, IsFine, IsFineTop, role_of, tops_fine, top_roles}
use Rattle.history_text.specs.Sound.{AreTables, IsTable, is_name_byte}
use Rattle.history_text.specs.Spelling.{operation_names, operations_in}
use Rattle.history_text.specs.declared.names.Names.{Names}
use Rattle.history_text.specs.declared.names.Operations.{Operations}
use Rattle.program_names.specs.Naming.{AreNamesOf, head_names, name_text, operation_texts}
use Rattle.program_names.proofs.Lists.{Apart, IsKept, few_apart, kept_at, mapped_at}
use Rattle.program_names.proofs.Words.{IsSoundTop, IsSoundWhat, not_output, tops_sound, word_bytes}

-- ---- names of which each is new

-- it isn't among those in front
new_fresh : (before : List (List ℕ)) (ns : List Name) → each_new 3 before ns ≡ [] → (k : ℕ) (x : List ℕ) → slice_get (map (λ n. n.text) ns) k ≡ Some x → is_among before x ≡ false
new_fresh before [] none k x at = absurd cc
new_fresh before (n ∷ ns) none zero x at =
    subst (λ y. is_among before y ≡ false) (same_some n.text x at) (not_of (is_among before n.text) (asked 3 n.at (not (is_among before n.text)) (left_none (asks 3 n.at (not (is_among before n.text))) _ none)))
  where
    not_of : (b : Bool) → not b ≡ true → b ≡ false
    not_of true e = absurd cc
    not_of false e = refl
new_fresh before (n ∷ ns) none (suc k) x at =
    second (bytes_eq x n.text) (list_any (bytes_eq x) before) (new_fresh (n.text ∷ before) ns (right_none (asks 3 n.at (not (is_among before n.text))) _ none) k x at)
  where
    second : (p q : Bool) → (p || q) ≡ false → q ≡ false
    second true q e = absurd cc
    second false q e = e

first_differs : (before : List (List ℕ)) (n : Name) (ns : List Name) → each_new 3 before (n ∷ ns) ≡ [] → (k : ℕ) → slice_get (map (λ m. m.text) ns) k ≡ Some n.text → ⊥
first_differs before n ns none k at =
    let fresh = new_fresh (n.text ∷ before) ns (right_none (asks 3 n.at (not (is_among before n.text))) _ none) k n.text at in
    true≢false (sym (ap (λ b. b || list_any (bytes_eq n.text) before) ((bytes_eq-Decides n.text n.text).1 refl)) ∙ fresh)

new_apart : (before : List (List ℕ)) (ns : List Name) → each_new 3 before ns ≡ [] → Apart (map (λ n. n.text) ns)
new_apart before [] none one two x at_one at_two = absurd cc
new_apart before (n ∷ ns) none zero zero x at_one at_two = refl
new_apart before (n ∷ ns) none zero (suc two) x at_one at_two = absurd (first_differs before n ns none two (at_two ∙ sym at_one))
new_apart before (n ∷ ns) none (suc one) zero x at_one at_two = absurd (first_differs before n ns none one (at_one ∙ sym at_two))
new_apart before (n ∷ ns) none (suc one) (suc two) x at_one at_two =
    ap suc (new_apart (n.text ∷ before) ns (right_none (asks 3 n.at (not (is_among before n.text))) _ none) one two x at_one at_two)

-- ---- one table

table_of : (names : List (List ℕ)) → AllByRecursion (λ n. list_all is_name_byte n ≡ true) names → Apart names → length names ≤ 2 ^ 16 → IsTable names
table_of names bytes apart few = record { named = λ k n at. all_at (λ m. list_all is_name_byte m ≡ true) names k n bytes at; apart = apart; few = few }

no_names : IsTable []
no_names = table_of [] tt (λ one two x at_one at_two. absurd cc) (omega arith)

one_name : (n : List ℕ) → list_all is_name_byte n ≡ true → IsTable (n ∷ [])
one_name n bytes = table_of (n ∷ []) (bytes, tt) apart (omega arith)
  where
    apart : Apart (n ∷ [])
    apart zero zero x at_one at_two = refl
    apart zero (suc two) x at_one at_two = absurd cc
    apart (suc one) two x at_one at_two = absurd cc

mapped_all : {X : Type 0} (P : X → Type 0) (f : X → List ℕ) → ((x : X) → P x → list_all is_name_byte (f x) ≡ true) → (xs : List X) → AllByRecursion P xs →
    AllByRecursion (λ n. list_all is_name_byte n ≡ true) (map f xs)
mapped_all P f each [] all = tt
mapped_all P f each (x ∷ xs) all = (each x all.0, mapped_all P f each xs all.1)

filtered_all : {X : Type 0} (P : X → Type 0) (p : X → Bool) (xs : List X) → AllByRecursion P xs → AllByRecursion (λ x. P x × (p x ≡ true)) (filter p xs)
filtered_all P p [] all = tt
filtered_all P p (x ∷ xs) all = by (p x) refl (filtered_all P p xs all.1)
  where
    by : (b : Bool) → p x ≡ b → AllByRecursion (λ y. P y × (p y ≡ true)) (filter p xs) → AllByRecursion (λ y. P y × (p y ≡ true)) (cond b (x ∷ filter p xs) (filter p xs))
    by true is rest = ((all.0, is), rest)
    by false is rest = rest

module _ (us : List Source) (linked : IsLinked us) (fine : AllByRecursion (IsFineTop us) (top_names us)) (texts : AreTexts us) (numbers : AreNumbers us) where
  -- names of the top level that pass a test, and are declared as this, have one place each
  kept_apart : (p : TopName → Bool) (r : Role) → may_share r r ≡ false → ((i : ℕ) (t : TopName) → slice_get (top_names us) i ≡ Some t → p t ≡ true → t.defined.role ≡ r) →
      Apart (map name_text (filter p (top_names us)))
  kept_apart p r alone role one two name at_one at_two =
      let x = mapped_at name_text (filter p (top_names us)) one name at_one in
      let y = mapped_at name_text (filter p (top_names us)) two name at_two in
      let k = kept_at p (top_names us) one x.0 x.1 in
      let l = kept_at p (top_names us) two y.0 y.1 in
      let share : may_share x.0.defined.role y.0.defined.role ≡ false =
      ap (λ s. may_share s y.0.defined.role) (role k.place x.0 k.at k.passes) ∙ (ap (may_share r) (role l.place y.0 l.at l.passes) ∙ alone) in
      let same : k.place ≡ l.place = one_place us linked k.place l.place x.0 y.0 k.at l.at (x.2 ∙ sym y.2) share in
      k.before ∙ (ap (λ i. length (filter p (take i (top_names us)))) same ∙ sym l.before)

  has_role : (i : ℕ) (t : TopName) → slice_get (top_names us) i ≡ Some t → t.defined.role ≡ role_of t.what
  has_role i t at = all_at HasRole (top_names us) i t (top_roles us) at

  -- ---- object types

  is_specified : (t : TopName) → HasRole t → is_specification t ≡ true → (w : What) → t.what ≡ w → is_role Specification (role_of w) ≡ true
  is_specified t role is w what = sym (ap (is_role Specification) (role ∙ ap role_of what)) ∙ is

  all_sound : AllByRecursion (λ t. IsSoundTop t × HasRole t) (top_names us)
  all_sound = both (top_names us) (tops_sound us texts) (top_roles us)
    where
      both : (ts : List TopName) → AllByRecursion IsSoundTop ts → AllByRecursion HasRole ts → AllByRecursion (λ t. IsSoundTop t × HasRole t) ts
      both [] a b = tt
      both (t ∷ ts) a b = ((a.0, b.0), both ts a.1 b.1)

  specified_sound : (t : TopName) → (IsSoundTop t × HasRole t) × (is_specification t ≡ true) → IsSoundName t.defined.name
  specified_sound t h = by t.what refl h.0.0
    where
      by : (w : What) → t.what ≡ w → IsSoundWhat t.defined.name w → IsSoundName t.defined.name
      by (top.Specified hs) what sound = sound.0
      by (top.Process ps b) what sound = sound
      by (top.Constant b) what sound = absurd (true≢false (sym (is_specified t h.0.1 h.1 (top.Constant b) what)))
      by (top.TypeName of) what sound = absurd (true≢false (sym (is_specified t h.0.1 h.1 (top.TypeName of) what)))
      by (top.Value of number) what sound = absurd (true≢false (sym (is_specified t h.0.1 h.1 (top.Value of number) what)))
      by (top.Implemented os) what sound = absurd (true≢false (sym (is_specified t h.0.1 h.1 (top.Implemented os) what)))
      by (top.Function ps r b) what sound = absurd (true≢false (sym (is_specified t h.0.1 h.1 (top.Function ps r b) what)))

  specifications_sound : AllByRecursion (λ t. (IsSoundTop t × HasRole t) × (is_specification t ≡ true)) (specifications us)
  specifications_sound = filtered_all (λ t. IsSoundTop t × HasRole t) is_specification (top_names us) all_sound

  kinds_apart : Apart (map name_text (specifications us))
  kinds_apart = kept_apart is_specification Specification refl (λ i t at is. role_is Specification t.defined.role is)

  kinds_table : IsTable (codes "Output" ∷ map name_text (specifications us))
  kinds_table =
      table_of (codes "Output" ∷ map name_text (specifications us))
      (refl, mapped_all (λ t. (IsSoundTop t × HasRole t) × (is_specification t ≡ true)) name_text (λ t h. word_bytes (name_text t) (specified_sound t h).0) (specifications us) specifications_sound)
      apart few
    where
      no_output : (k : ℕ) → slice_get (map name_text (specifications us)) k ≡ Some (codes "Output") → ⊥
      no_output k at =
          let t = mapped_at name_text (specifications us) k (codes "Output") at in
          not_output t.0.defined.name
          (specified_sound t.0 (all_at (λ x. (IsSoundTop x × HasRole x) × (is_specification x ≡ true)) (specifications us) k t.0 specifications_sound t.1)) t.2

      apart : Apart (codes "Output" ∷ map name_text (specifications us))
      apart zero zero x at_one at_two = refl
      apart zero (suc two) x at_one at_two = absurd (no_output two (at_two ∙ sym at_one))
      apart (suc one) zero x at_one at_two = absurd (no_output one (at_one ∙ sym at_two))
      apart (suc one) (suc two) x at_one at_two = ap suc (kinds_apart one two x at_one at_two)

      few : suc (length (map name_text (specifications us))) ≤ 2 ^ 16
      few =
          let all : length (filter is_specification (take (length (top_names us)) (top_names us))) ≡ length (specifications us) =
          ap (λ ts. length (filter is_specification ts)) (take_all (length (top_names us)) (top_names us) (omega arith)) in
          let many = length-map (specifications us) name_text in
          let below : suc (length (filter is_specification (take (length (top_names us)) (top_names us)))) < 2 ^ 16 = numbers.kinds (length (top_names us)) in
          omega (arith, all, many, below)

  -- ---- operations

  heads_table : (i : ℕ) (t : TopName) (hs : List Head) → slice_get (top_names us) i ≡ Some t → t.what ≡ top.Specified hs → AllByRecursion IsSoundHead hs →
      IsTable (map (λ h. h.name.text) hs)
  heads_table i t hs at what sound =
      table_of (map (λ h. h.name.text) hs) (mapped_all IsSoundHead (λ h. h.name.text) (λ h s. word_bytes h.name.text s.0.0) hs sound) apart few
    where
      new : are_new (map (λ h. h.name) hs) ≡ []
      new = left_none (are_new (map (λ h. h.name) hs)) _ (subst (IsFine us t.defined.by t.defined.name) what (all_at (IsFineTop us) (top_names us) i t fine at)).1

      twice : (gs : List Head) → map (λ n. n.text) (map (λ h. h.name) gs) ≡ map (λ h. h.name.text) gs
      twice [] = refl
      twice (g ∷ gs) = ap (λ ns. g.name.text ∷ ns) (twice gs)

      apart : Apart (map (λ h. h.name.text) hs)
      apart = subst Apart (twice hs) (new_apart [] (map (λ h. h.name) hs) new)

      number : (n : List ℕ) → unwrap_or (position (λ h. bytes_eq h.name.text n) hs) 0 < 2 ^ 16
      number n = subst (λ o. unwrap_or (option_and_then (op_in n) o) 0 < 2 ^ 16) (ap specification_of at ∙ ap (heads_in t) what) (numbers.ops i n)

      few : length (map (λ h. h.name.text) hs) ≤ 2 ^ 16
      few = let many = length-map hs (λ h. h.name.text) in let all = few_apart (λ h. h.name.text) hs (2 ^ 16) apart number in omega (arith, many, all)

  operations_table : (k : ℕ) (t : TopName) → slice_get (specifications us) k ≡ Some t → IsTable (operation_texts t)
  operations_table k t at = by t.what refl (all_at IsSoundTop (top_names us) kept.place t (tops_sound us texts) kept.at)
    where
      kept : IsKept is_specification (top_names us) k t
      kept = kept_at is_specification (top_names us) k t at

      by : (w : What) → t.what ≡ w → IsSoundWhat t.defined.name w → IsTable (head_names w)
      by (top.Specified hs) what sound = heads_table kept.place t hs kept.at what sound.1
      by (top.Process ps b) what sound = no_names
      by (top.Constant b) what sound = no_names
      by (top.TypeName of) what sound = no_names
      by (top.Value of number) what sound = no_names
      by (top.Implemented os) what sound = no_names
      by (top.Function ps r b) what sound = no_names

  -- ---- texts

  text_role : (w : What) → is_process w ≡ true → role_of w ≡ Other
  text_role (top.Process qs c) is = refl
  text_role (top.Constant c) is = absurd (true≢false (sym is))
  text_role (top.TypeName of) is = absurd (true≢false (sym is))
  text_role (top.Value of number) is = absurd (true≢false (sym is))
  text_role (top.Specified hs) is = absurd (true≢false (sym is))
  text_role (top.Implemented os) is = absurd (true≢false (sym is))
  text_role (top.Function qs r c) is = absurd (true≢false (sym is))

  text_sound : (t : TopName) → IsSoundTop t × (is_process t.what ≡ true) → list_all is_name_byte (name_text t) ≡ true
  text_sound t h = by t.what h.0 h.1
    where
      by : (w : What) → IsSoundWhat t.defined.name w → is_process w ≡ true → list_all is_name_byte (name_text t) ≡ true
      by (top.Process ps b) sound is = word_bytes (name_text t) sound.0
      by (top.Specified hs) sound is = word_bytes (name_text t) sound.0.0
      by (top.Constant b) sound is = absurd (true≢false (sym is))
      by (top.TypeName of) sound is = absurd (true≢false (sym is))
      by (top.Value of number) sound is = absurd (true≢false (sym is))
      by (top.Implemented os) sound is = absurd (true≢false (sym is))
      by (top.Function ps r b) sound is = absurd (true≢false (sym is))

  texts_table : IsTable (map name_text (process_texts us))
  texts_table =
      table_of (map name_text (process_texts us))
      (mapped_all (λ t. IsSoundTop t × (is_process t.what ≡ true)) name_text text_sound (process_texts us) (filtered_all IsSoundTop (λ t. is_process t.what) (top_names us) (tops_sound us texts)))
      apart few
    where
      apart : Apart (map name_text (process_texts us))
      apart = kept_apart (λ t. is_process t.what) Other refl (λ i t at is. has_role i t at ∙ text_role t.what is)

      few : length (map name_text (process_texts us)) ≤ 2 ^ 16
      few = let many = length-map (process_texts us) name_text in let all = few_apart name_text (process_texts us) (2 ^ 16) apart numbers.texts in omega (arith, many, all)

-- ---- all tables

-- the names of a type's operations, in the list of those of all types
abbrev pub listed : Option (List (List ℕ)) → List (List ℕ)
listed None = []
listed (Some names) = names

pub operations_listed : (names : Names) (all : List (List (List ℕ))) → map (λ o. o.names.items) names.operations.items ≡ all → (kind : ℕ) → operation_names names kind ≡ listed (slice_get all kind)
operations_listed names all are kind =
    by (slice_get names.operations.items kind)
    ∙ (ap listed (sym (slice_get-map (λ o. o.names.items) names.operations.items kind)) ∙ ap (λ ns. listed (slice_get ns kind)) are)
  where
    by : (o : Option Operations) → operations_in o ≡ listed (option_map (λ x. x.names.items) o)
    by None = refl
    by (Some o) = refl

pub are_tables : (us : List Source) (names : Names) → Links us → IsWellTyped us → AreTexts us → AreNumbers us → AreNamesOf us names → AreTables names
are_tables us names links typed texts numbers are = record {
  kinds = subst IsTable (sym are.kinds) (kinds_table us linked fine texts numbers);
  operations = λ kind. subst IsTable (sym (operations_listed names _ are.operations kind)) (operation kind);
  texts = subst IsTable (sym are.texts) (texts_table us linked fine texts numbers);
}
  where
    linked : IsLinked us
    linked = (no_breach us).0 links

    fine : AllByRecursion (IsFineTop us) (top_names us)
    fine = tops_fine us typed texts

    specified : (k : ℕ) (o : Option TopName) → slice_get (specifications us) k ≡ o → IsTable (listed (option_map operation_texts o))
    specified k None at = no_names
    specified k (Some t) at = operations_table us linked fine texts numbers k t at

    operation : (kind : ℕ) → IsTable (listed (slice_get ((codes "WriteLine" ∷ []) ∷ map operation_texts (specifications us)) kind))
    operation zero = one_name (codes "WriteLine") refl
    operation (suc k) = subst (λ o. IsTable (listed o)) (sym (slice_get-map operation_texts (specifications us) k)) (specified k (slice_get (specifications us) k) refl)
