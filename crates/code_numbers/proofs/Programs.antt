-- The objects of a program's code.
use Rattle.std.proofs.Common.{◌≡◌, ℕ, zero, suc, ◌<◌, ◌^◌, List, length, Option, Some, None, refl, sym, subst}
use Rattle.std.specs.Prelude.{option_and_then, option_map, slice_get}
use Rattle.std.proofs.lemmas.Option.{slice_get-map}
use Rattle.orca_base.specs.declared.ids.KindNo.{KindNo}
use Rattle.orca_syntax.specs.Syntax.{Block, Operation, Parameter}
use Rattle.link_rules.specs.Units.{Source}
use Rattle.type_rules.specs.TopLevel as top
use Rattle.type_rules.specs.TopLevel.{What, TopName, top_names}
use Rattle.meaning_rules.specs.Programs.{ObjectType, process_scope, process_texts, specifications, specified}
use Rattle.accepted_law.specs.Numbers.{AreNumbers}
use Rattle.code_rules.specs.Instructions.{Make}
use Rattle.code_rules.specs.Machine.{Body, BodyNo, OfFunction, OfProcess, OfMaking, OfOperation, OperationCode, TypeCode, body_at, flat, instrs_in, operation_in, type_of}
use Rattle.code_rules.specs.Program.{function_at, function_in, process_at, process_in, program_code, type_at, type_code}
use Rattle.code_rules.specs.Bodies.{operation_code}
use Rattle.code_numbers.proofs.Below.{AreBelow, made_below}
use Rattle.code_numbers.proofs.Bodies.{function_below, making_below, operation_below, process_below}

-- ---- functions

in_function : (n : ℕ) (us : List Source) (t : TopName) (w : What) → AreBelow n (instrs_in (function_in us t w))
in_function n us t (top.Function ps r b) = function_below n us t.defined.by ps r b
in_function n us t (top.Constant value) = tt
in_function n us t (top.TypeName d) = tt
in_function n us t (top.Value of k) = tt
in_function n us t (top.Specified heads) = tt
in_function n us t (top.Implemented operations) = tt
in_function n us t (top.Process ps b) = tt

function_there : (n : ℕ) (us : List Source) (o : Option TopName) → AreBelow n (instrs_in (flat (option_map (function_at us) o)))
function_there n us None = tt
function_there n us (Some t) = in_function n us t t.what

-- ---- processes

in_process : (n : ℕ) (us : List Source) (t : TopName) (w : What) →
    ((ps : List Parameter) (b : Block) → w ≡ top.Process ps b → length (process_scope us t.defined.by ps b).locals < n) → AreBelow n (process_in us t w).code
in_process n us t (top.Process ps b) h = process_below n us t.defined.by ps b (h ps b refl)
in_process n us t (top.Constant value) h = tt
in_process n us t (top.TypeName d) h = tt
in_process n us t (top.Value of k) h = tt
in_process n us t (top.Specified heads) h = tt
in_process n us t (top.Implemented operations) h = tt
in_process n us t (top.Function ps r b) h = tt

process_there : (n : ℕ) (us : List Source) (o : Option TopName) →
    ((t : TopName) (ps : List Parameter) (b : Block) → o ≡ Some t → t.what ≡ top.Process ps b → length (process_scope us t.defined.by ps b).locals < n) →
    AreBelow n (instrs_in (option_map (process_at us) o))
process_there n us None h = tt
process_there n us (Some t) h = in_process n us t t.what (λ ps b is. h t ps b refl is)

-- ---- object types

abbrev making_in : Option TypeCode → Option Body
making_in o = option_map (λ (t : TypeCode). t.making) o

abbrev body_in : Option OperationCode → Option Body
body_in o = option_map (λ (o : OperationCode). o.body) o

making_there : (n : ℕ) (us : List Source) (o : Option ObjectType) → AreBelow n (instrs_in (making_in (option_map (type_code us) o)))
making_there n us None = tt
making_there n us (Some t) = making_below n us t

type_there : (n : ℕ) (us : List Source) (o : Option TopName) → AreBelow n (instrs_in (making_in (flat (option_map (type_at us) o))))
type_there n us None = tt
type_there n us (Some t) = making_there n us (specified us t)

operation_there : (n : ℕ) (us : List Source) (t : ObjectType) (o : Option Operation) → AreBelow n (instrs_in (body_in (option_map (operation_code us t) o)))
operation_there n us t None = tt
operation_there n us t (Some o) = operation_below n us t o

abbrev operation_of_type : ℕ → Option TypeCode → Option Body
operation_of_type op None = None
operation_of_type op (Some t) = body_in (operation_in op t)

operation_by_type : (n : ℕ) (us : List Source) (op : ℕ) (o : Option ObjectType) → AreBelow n (instrs_in (operation_of_type op (option_map (type_code us) o)))
operation_by_type n us op None = tt
operation_by_type n us op (Some t) =
    subst (λ (o : Option OperationCode). AreBelow n (instrs_in (body_in o))) (sym (slice_get-map (operation_code us t) t.operations op))
    (operation_there n us t (slice_get t.operations op))

operation_by_name : (n : ℕ) (us : List Source) (op : ℕ) (o : Option TopName) → AreBelow n (instrs_in (operation_of_type op (flat (option_map (type_at us) o))))
operation_by_name n us op None = tt
operation_by_name n us op (Some t) = operation_by_type n us op (specified us t)

operation_as : (op : ℕ) (o : Option TypeCode) → operation_of_type op o ≡ body_in (option_and_then (operation_in op) o)
operation_as op None = refl
operation_as op (Some t) = refl

-- ---- bodies

body_there : (us : List Source) → AreNumbers us → (b : BodyNo) → AreBelow (2 ^ 32) (body_at (program_code us) b)
body_there us numbers (OfFunction i) =
    subst (λ (o : Option (Option Body)). AreBelow (2 ^ 32) (instrs_in (flat o))) (sym (slice_get-map (function_at us) (top_names us) i))
    (function_there (2 ^ 32) us (slice_get (top_names us) i))
body_there us numbers (OfProcess i) =
    subst (λ (o : Option Body). AreBelow (2 ^ 32) (instrs_in o)) (sym (slice_get-map (process_at us) (process_texts us) i))
    (process_there (2 ^ 32) us (slice_get (process_texts us) i) (λ t ps b there is. numbers.variables i t ps b there is))
body_there us numbers (OfMaking zero) = tt
body_there us numbers (OfMaking (suc k)) =
    subst (λ (o : Option (Option TypeCode)). AreBelow (2 ^ 32) (instrs_in (making_in (flat o)))) (sym (slice_get-map (type_at us) (specifications us) k))
    (type_there (2 ^ 32) us (slice_get (specifications us) k))
body_there us numbers (OfOperation zero op) = tt
body_there us numbers (OfOperation (suc k) op) =
    subst (λ (o : Option Body). AreBelow (2 ^ 32) (instrs_in o)) (operation_as op (type_of (program_code us) (suc k)))
    (subst (λ (o : Option (Option TypeCode)). AreBelow (2 ^ 32) (instrs_in (operation_of_type op (flat o)))) (sym (slice_get-map (type_at us) (specifications us) k))
    (operation_by_name (2 ^ 32) us op (slice_get (specifications us) k)))

pub objects_small : (us : List Source) → AreNumbers us → (b : BodyNo) (pc : ℕ) (kind : KindNo) (count slot : ℕ) →
    slice_get (body_at (program_code us) b) pc ≡ Some (Make kind count slot) → count < 2 ^ 32
objects_small us numbers b pc kind count slot e = made_below (2 ^ 32) (body_at (program_code us) b) pc kind count slot (body_there us numbers b) e
