-- A program's code is no longer than its texts: a body is that of a declaration, and an implementation is the code of one object type at
-- most, since no two specifications of a program that links have one name.
use Rattle.std.proofs.Common.{◌≡◌, ◌≤◌, ◌<◌, ℕ, zero, suc, ◌+◌, Bool, true, false, cond, ◌&&◌, List, [], ◌∷◌, length, get_or, map, Option, Some, None, refl, sym, ap, ◌∙◌, subst, arith}
use Rattle.std.specs.Prelude.{bytes_eq, filter_map, flat_map, if◌then◌else◌, option_map, slice_get}
use Rattle.std.specs.List.{AllPairs, cons_option, sum_by}
use Rattle.std.specs.Option.{option_map_or}
use Rattle.std.proofs.lemmas.Bool.{true≢false}
use Rattle.std.proofs.lemmas.List.Kept.{AllPairs-filter}
use Rattle.std.proofs.lemmas.List.Sums.{sum_by-append, sum_by-cons}
use Rattle.std.proofs.lemmas.Slice.Eq.{bytes_eq-Decides}
use Rattle.orca_tree.specs.declared.tree.Name.{Name}
use Rattle.orca_syntax.specs.Syntax as syn
use Rattle.orca_syntax.specs.Syntax.{Decl}
use Rattle.link_rules.specs.declared.role.Role.{Role}
use Rattle.link_rules.specs.declared.role.Role.TheVariants.{Specification, Other}
use Rattle.link_rules.specs.Declarations.{Declared, declarations, declarations_of}
use Rattle.link_rules.specs.Linked.{IsLinked, may_share}
use Rattle.link_rules.specs.Rules.{Links, is_role}
use Rattle.link_rules.specs.Units.{Source, Defined, definitions, module_name}
use Rattle.link_rules.proofs.Breaches.{no_breach, role_is}
use Rattle.link_rules.proofs.Truth.{and_first, and_second, not_true}
use Rattle.type_rules.specs.TopLevel as top
use Rattle.type_rules.specs.TopLevel.{TopName, name_in, names_in, role_in, top_at, top_names, unit_names, values_at, values_in, what_in}
use Rattle.meaning_rules.specs.Programs.{ObjectType, implements, is_process, is_specification, process_texts, specifications, specified}
use Rattle.accepted_law.proofs.Names.{defined_tops, is_top}
use Rattle.code_rules.specs.Machine.{Body, TypeCode}
use Rattle.code_rules.specs.Bodies.{function_code, process_code}
use Rattle.code_rules.specs.Program.{function_at, process_at, program_code, type_at, type_code}
use Rattle.code_lengths.specs.Lengths.{body_length, declared_length, program_length, tokens_in, type_length}
use Rattle.code_lengths.proofs.Bodies.{unit_short}
use Rattle.code_lengths.proofs.Sums.{sum_below, sum_both, sum_map, sum_none, sum_passed}

-- ---- one specification of a name

-- this definition is a specification of this name
abbrev specifies : List ℕ → Defined → Bool
specifies n d = is_role Specification d.role && bytes_eq n d.name.text

-- what a specification of this name counts
abbrev counted : List ℕ → ℕ → Defined → ℕ
counted n k d = cond (specifies n d) k 0

abbrev Apart : Defined → Defined → Type 0
Apart d e = d.name.text ≡ e.name.text → may_share d.role e.role ≡ true

not_both : (n : List ℕ) (d e : Defined) → specifies n d ≡ true → specifies n e ≡ true → Apart d e → ⊥
not_both n d e one other apart =
    let first = role_is Specification d.role (and_first (is_role Specification d.role) (bytes_eq n d.name.text) one) in
    let second = role_is Specification e.role (and_first (is_role Specification e.role) (bytes_eq n e.name.text) other) in
    let its = (bytes_eq-Decides n d.name.text).0 (and_second (is_role Specification d.role) (bytes_eq n d.name.text) one) in
    let also = (bytes_eq-Decides n e.name.text).0 (and_second (is_role Specification e.role) (bytes_eq n e.name.text) other) in
    true≢false (sym (apart (sym its ∙ also)) ∙ ap (λ (r : Role). may_share r e.role) first ∙ ap (λ (r : Role). may_share Specification r) second)

none_counted : (n : List ℕ) (k : ℕ) (ds : List Defined) → ((j : ℕ) (e : Defined) → j < length ds → specifies n (get_or ds j e) ≡ false) → sum_by (counted n k) ds ≤ 0
none_counted n k [] h = omega arith
none_counted n k (d ∷ ds) h =
    let here : counted n k d ≡ 0 = ap (λ (b : Bool). cond b k 0) (h 0 d (omega arith)) in
    let rest = none_counted n k ds (λ j e lt. h (suc j) e (omega (arith, lt))) in
    omega (arith, here, rest, sum_by-cons (counted n k) d ds)

once_counted : (n : List ℕ) (k : ℕ) (ds : List Defined) → AllPairs Apart ds → sum_by (counted n k) ds ≤ k
once_counted n k [] h = omega arith
once_counted n k (d ∷ ds) h = by_test (specifies n d) refl (once_counted n k ds (λ i j e less within. h (suc i) (suc j) e (omega (arith, less)) (omega (arith, within))))
  where
    by_test : (b : Bool) → specifies n d ≡ b → sum_by (counted n k) ds ≤ k → sum_by (counted n k) (d ∷ ds) ≤ k
    by_test true is rest =
        let here : counted n k d ≡ k = ap (λ (b : Bool). cond b k 0) is in
        let others = none_counted n k ds
        (λ j e lt. not_true (specifies n (get_or ds j e)) (λ also. not_both n d (get_or ds j e) is also (h 0 (suc j) e (omega arith) (omega (arith, lt))))) in
        omega (arith, here, others, sum_by-cons (counted n k) d ds)
    by_test false is rest =
        let here : counted n k d ≡ 0 = ap (λ (b : Bool). cond b k 0) is in
        omega (arith, here, rest, sum_by-cons (counted n k) d ds)

-- ---- object types

abbrev length_of : List Source → Option ObjectType → ℕ
length_of us o = option_map_or (λ t. type_length (type_code us t)) o 0

-- what an implementation gives
abbrev implemented_length : List Source → List ℕ → Decl → ℕ
implemented_length us m (syn.Implementation at n fields operations begins) =
    type_length (type_code us (record { home = m; fields = fields; operations = operations; begins = begins }))
implemented_length us m _ = 0

abbrev implemented : List Source → Declared → ℕ
implemented us x = implemented_length us x.by x.decl

-- what a name of an object type counts by one declaration, and by the first of these that implements it
abbrev own_length : List Source → List ℕ → Decl → TopName → ℕ
own_length us m d t = cond (is_specification t) (length_of us (implements t.defined.name.text m d)) 0

abbrev types_in : List Declared → TopName → List ObjectType
types_in xs t = filter_map (λ x. implements t.defined.name.text x.by x.decl) xs

abbrev first_length : List Source → List Declared → TopName → ℕ
first_length us xs t = cond (is_specification t) (length_of us (slice_get (types_in xs t) 0)) 0

nothing : (b : Bool) → cond b 0 0 ≤ 0
nothing true = omega arith
nothing false = omega arith

chosen : (us : List Source) (r : ObjectType) (b c : Bool) → cond b (length_of us (if c then Some r else None)) 0 ≤ cond (b && c) (type_length (type_code us r)) 0
chosen us r true true = omega arith
chosen us r true false = omega arith
chosen us r false true = omega arith
chosen us r false false = omega arith

-- one implementation is the code of one name at most
own_once : (us : List Source) (m : List ℕ) (d : Decl) (ts : List TopName) → AllPairs Apart (map (λ t. t.defined) ts) → sum_by (own_length us m d) ts ≤ implemented_length us m d
own_once us m (syn.Implementation at n fields operations begins) ts apart =
    let r : ObjectType = record { home = m; fields = fields; operations = operations; begins = begins } in
    let k = type_length (type_code us r) in
    let le = sum_below (own_length us m (syn.Implementation at n fields operations begins)) (λ (t : TopName). counted n.text k t.defined)
    (λ t. chosen us r (is_specification t) (bytes_eq n.text t.defined.name.text)) ts in
    let once = once_counted n.text k (map (λ (t : TopName). t.defined) ts) apart in
    let same = sum_map (counted n.text k) (λ (t : TopName). t.defined) ts in
    omega (arith, le, once, same)
own_once us m (syn.Constant at n value) ts apart = sum_none _ (λ t. nothing (is_specification t)) ts
own_once us m (syn.Declares at n of) ts apart = sum_none _ (λ t. nothing (is_specification t)) ts
own_once us m (syn.Specification at n heads) ts apart = sum_none _ (λ t. nothing (is_specification t)) ts
own_once us m (syn.Function at n ps r b) ts apart = sum_none _ (λ t. nothing (is_specification t)) ts
own_once us m (syn.Process at n ps b) ts apart = sum_none _ (λ t. nothing (is_specification t)) ts

-- the first one is this one, or the first of the others
first_below : (us : List Source) (b : Bool) (o : Option ObjectType) (rest : List ObjectType) →
    cond b (length_of us (slice_get (cons_option o rest) 0)) 0 ≤ cond b (length_of us o) 0 + cond b (length_of us (slice_get rest 0)) 0
first_below us true None rest = omega arith
first_below us true (Some t) rest = omega arith
first_below us false None rest = omega arith
first_below us false (Some t) rest = omega arith

firsts_short : (us : List Source) (xs : List Declared) (ts : List TopName) → AllPairs Apart (map (λ t. t.defined) ts) →
    sum_by (first_length us xs) ts ≤ sum_by (implemented us) xs
firsts_short us [] ts apart = sum_none (first_length us []) (λ t. nothing (is_specification t)) ts
firsts_short us (x ∷ xs) ts apart =
    let both = sum_both (own_length us x.by x.decl) (first_length us xs) ts in
    let le = sum_below (first_length us (x ∷ xs)) (λ (t : TopName). own_length us x.by x.decl t + first_length us xs t)
    (λ t. first_below us (is_specification t) (implements t.defined.name.text x.by x.decl) (types_in xs t)) ts in
    let own = own_once us x.by x.decl ts apart in
    let rest = firsts_short us xs ts apart in
    omega (arith, both, le, own, rest, sum_by-cons (implemented us) x xs)

-- an object type as the program has it
abbrev coded : Option TypeCode → ℕ
coded o = option_map_or type_length o 0

coded_below : (us : List Source) (b : Bool) (o : Option ObjectType) → cond b (coded (option_map (type_code us) o)) 0 ≤ cond b (length_of us o) 0
coded_below us true None = omega arith
coded_below us true (Some t) = omega arith
coded_below us false None = omega arith
coded_below us false (Some t) = omega arith

types_short : (us : List Source) → IsLinked us → sum_by coded (map (type_at us) (specifications us)) ≤ sum_by (implemented us) (declarations us)
types_short us linked =
    let tops = top_names us in
    let apart = subst (AllPairs Apart) (sym (defined_tops us)) (AllPairs-filter Apart is_top (definitions us) linked.distinct) in
    let mapped = sum_map coded (type_at us) (specifications us) in
    let passed = sum_passed (λ (t : TopName). coded (type_at us t)) is_specification tops in
    let le = sum_below (λ (t : TopName). cond (is_specification t) (coded (type_at us t)) 0) (first_length us (declarations us))
    (λ t. coded_below us (is_specification t) (specified us t)) tops in
    let firsts = firsts_short us (declarations us) tops apart in
    omega (arith, mapped, passed, le, firsts)

-- ---- functions and processes

abbrev function_length : List Source → TopName → ℕ
function_length us t = option_map_or body_length (function_at us t) 0

abbrev process_length : List Source → TopName → ℕ
process_length us t = body_length (process_at us t)

abbrev routine_length : List Source → TopName → ℕ
routine_length us t = function_length us t + process_length us t

-- values of enumerations have no code
values_none : (us : List Source) (m file of : List ℕ) (k : ℕ) (ns : List Name) → sum_by (routine_length us) (values_at m file of k ns) ≤ 0
values_none us m file of k [] = omega arith
values_none us m file of k (n ∷ ns) =
    let here : routine_length us (top_at m file Other n (top.Value of k)) ≡ 0 = refl in
    let rest = values_none us m file of (suc k) ns in
    omega (arith, here, rest, sum_by-cons (routine_length us) (top_at m file Other n (top.Value of k)) (values_at m file of (suc k) ns))

first_name : (us : List Source) (m file : List ℕ) (d : Decl) →
    sum_by (routine_length us) (names_in m file d) ≤ routine_length us (top_at m file (role_in d) (name_in d) (what_in d))
first_name us m file d =
    let t = top_at m file (role_in d) (name_in d) (what_in d) in
    let ts = values_at m file (name_in d).text zero (values_in d) in
    let none = values_none us m file (name_in d).text zero (values_in d) in
    omega (arith, none, sum_by-cons (routine_length us) t ts)

names_short : (us : List Source) (m file : List ℕ) (d : Decl) → sum_by (routine_length us) (names_in m file d) + implemented_length us m d ≤ declared_length us m d
names_short us m file (syn.Function at n ps r b) =
    let le : sum_by (routine_length us) (names_in m file (syn.Function at n ps r b)) ≤ body_length (function_code us m ps r b) + 0 = first_name us m file (syn.Function at n ps r b) in
    omega (arith, le)
names_short us m file (syn.Process at n ps b) =
    let le : sum_by (routine_length us) (names_in m file (syn.Process at n ps b)) ≤ 0 + body_length (process_code us m ps b) = first_name us m file (syn.Process at n ps b) in
    omega (arith, le)
names_short us m file (syn.Implementation at n fields operations begins) =
    let le : sum_by (routine_length us) (names_in m file (syn.Implementation at n fields operations begins)) ≤ 0 = first_name us m file (syn.Implementation at n fields operations begins) in
    omega (arith, le)
names_short us m file (syn.Constant at n value) =
    let le : sum_by (routine_length us) (names_in m file (syn.Constant at n value)) ≤ 0 = first_name us m file (syn.Constant at n value) in
    omega (arith, le)
names_short us m file (syn.Declares at n of) =
    let le : sum_by (routine_length us) (names_in m file (syn.Declares at n of)) ≤ 0 = first_name us m file (syn.Declares at n of) in
    omega (arith, le)
names_short us m file (syn.Specification at n heads) =
    let le : sum_by (routine_length us) (names_in m file (syn.Specification at n heads)) ≤ 0 = first_name us m file (syn.Specification at n heads) in
    omega (arith, le)

-- ---- units

decls_short : (us : List Source) (m file : List ℕ) (ds : List Decl) →
    sum_by (routine_length us) (flat_map (names_in m file) ds) + sum_by (implemented us) (map (λ d. record { by = m; file = file; decl = d }) ds) ≤ sum_by (declared_length us m) ds
decls_short us m file [] = omega arith
decls_short us m file (d ∷ ds) =
    let x : Declared = record { by = m; file = file; decl = d } in
    let here = names_short us m file d in
    let rest = decls_short us m file ds in
    let names = sum_by-append (routine_length us) (names_in m file d) (flat_map (names_in m file) ds) in
    let types = sum_by-cons (implemented us) x (map (λ (e : Decl). record { by = m; file = file; decl = e }) ds) in
    omega (arith, here, rest, names, types, sum_by-cons (declared_length us m) d ds)

units_short : (us vs : List Source) → sum_by (routine_length us) (top_names vs) + sum_by (implemented us) (declarations vs) ≤ sum_by tokens_in vs
units_short us [] = omega arith
units_short us (v ∷ vs) =
    let m = module_name v in
    let ds = v.syntax.declarations in
    let here = decls_short us m v.file ds in
    let short = unit_short us m v.syntax in
    let rest = units_short us vs in
    let names = sum_by-append (routine_length us) (unit_names v) (top_names vs) in
    let types = sum_by-append (implemented us) (declarations_of v) (declarations vs) in
    omega (arith, here, short, rest, names, types, sum_by-cons tokens_in v vs)

-- ---- a program

at_most : (b : Bool) (n : ℕ) → cond b n 0 ≤ n
at_most true n = omega arith
at_most false n = omega arith

processes_short : (us : List Source) → sum_by body_length (map (process_at us) (process_texts us)) ≤ sum_by (process_length us) (top_names us)
processes_short us =
    let mapped = sum_map body_length (process_at us) (process_texts us) in
    let passed = sum_passed (process_length us) (λ (t : TopName). is_process t.what) (top_names us) in
    let le = sum_below (λ (t : TopName). cond (is_process t.what) (process_length us t) 0) (process_length us) (λ t. at_most (is_process t.what) (process_length us t)) (top_names us) in
    omega (arith, mapped, passed, le)

-- at most an instruction for each token
pub program_short : (us : List Source) → Links us → program_length (program_code us) ≤ sum_by tokens_in us
program_short us links =
    let functions = sum_map (λ (o : Option Body). option_map_or body_length o 0) (function_at us) (top_names us) in
    let processes = processes_short us in
    let types = types_short us ((no_breach us).0 links) in
    let both = sum_both (function_length us) (process_length us) (top_names us) in
    let all = units_short us us in
    omega (arith, functions, processes, types, both, all)
