-- No body of a program within the limits has more instructions than there are numbers for them: all of them together have at most one for
-- each token.
use Rattle.std.proofs.Common.{◌+◌, ◌<◌, ◌≤◌, ◌^◌, ◌++◌, List, Option, Some, None, ◌⊎◌, inl, inr, arith}
use Rattle.std.specs.Prelude.{flat_map}
use Rattle.std.specs.List.{sum_by}
use Rattle.std.specs.Option.{option_map_or}
use Rattle.link_rules.specs.Units.{Source}
use Rattle.accepted_law.specs.Limits.{IsWithinLimits, declared_count, words_in}
use Rattle.code_rules.specs.Machine.{Body, Code, OperationCode, TypeCode}
use Rattle.code_rules.specs.Program.{program_code}
use Rattle.code_lengths.specs.Lengths.{body_length, program_length, tokens_in, type_length}
use Rattle.code_lengths.proofs.Sums.{sum_below}
use Rattle.stack_code.specs.Packed.{HasGreat, IsGreat}
use Rattle.stack_code.specs.Sound.{AnyOf}
use Rattle.stack_code.specs.Text.{bodies_of, body_bodies, function_bodies, object_bodies, operation_bodies, type_bodies}
use Rattle.code_programs.proofs.Any.{any_above, any_append, any_flat, any_weaker}

-- ---- code with a long body is long

body_long : (b : Body) → AnyOf IsGreat (body_bodies b) → 2 ^ 32 < body_length b
body_long b (inl h) = h
body_long b (inr h) = absurd h

function_long : (o : Option Body) → AnyOf IsGreat (function_bodies o) → 2 ^ 32 < option_map_or body_length o 0
function_long None h = absurd h
function_long (Some b) h = body_long b h

operations_long : (os : List OperationCode) → AnyOf IsGreat (flat_map operation_bodies os) → 2 ^ 32 < sum_by (λ o. body_length o.body) os
operations_long os h =
    any_above (λ (o : OperationCode). body_length o.body) (2 ^ 32) os
    (any_weaker (λ (o : OperationCode). AnyOf IsGreat (operation_bodies o)) (λ (o : OperationCode). 2 ^ 32 < body_length o.body) (λ o k. body_long o.body k) os
    (any_flat IsGreat operation_bodies os h))

object_long : (t : TypeCode) → AnyOf IsGreat (object_bodies t) → 2 ^ 32 < type_length t
object_long t (inl h) =
    let making : 2 ^ 32 < body_length t.making = h in
    let long : 2 ^ 32 < body_length t.making + sum_by (λ (o : OperationCode). body_length o.body) t.operations = omega (arith, making) in
    long
object_long t (inr h) =
    let above = operations_long t.operations h in
    let long : 2 ^ 32 < body_length t.making + sum_by (λ (o : OperationCode). body_length o.body) t.operations = omega (arith, above) in
    long

type_long : (o : Option TypeCode) → AnyOf IsGreat (type_bodies o) → 2 ^ 32 < option_map_or type_length o 0
type_long None h = absurd h
type_long (Some t) h = object_long t h

functions_long : (fs : List (Option Body)) → AnyOf IsGreat (flat_map function_bodies fs) → 2 ^ 32 < sum_by (λ f. option_map_or body_length f 0) fs
functions_long fs h =
    any_above (λ (f : Option Body). option_map_or body_length f 0) (2 ^ 32) fs
    (any_weaker (λ (f : Option Body). AnyOf IsGreat (function_bodies f)) (λ (f : Option Body). 2 ^ 32 < option_map_or body_length f 0) function_long fs
    (any_flat IsGreat function_bodies fs h))

texts_long : (bs : List Body) → AnyOf IsGreat (flat_map body_bodies bs) → 2 ^ 32 < sum_by body_length bs
texts_long bs h =
    any_above body_length (2 ^ 32) bs
    (any_weaker (λ (b : Body). AnyOf IsGreat (body_bodies b)) (λ (b : Body). 2 ^ 32 < body_length b) body_long bs (any_flat IsGreat body_bodies bs h))

types_long : (ts : List (Option TypeCode)) → AnyOf IsGreat (flat_map type_bodies ts) → 2 ^ 32 < sum_by (λ t. option_map_or type_length t 0) ts
types_long ts h =
    any_above (λ (t : Option TypeCode). option_map_or type_length t 0) (2 ^ 32) ts
    (any_weaker (λ (t : Option TypeCode). AnyOf IsGreat (type_bodies t)) (λ (t : Option TypeCode). 2 ^ 32 < option_map_or type_length t 0) type_long ts
    (any_flat IsGreat type_bodies ts h))

code_long : (code : Code) → HasGreat (bodies_of code) → 2 ^ 32 < program_length code
code_long code h =
    first (any_append IsGreat (flat_map function_bodies code.functions) (flat_map body_bodies code.texts ++ flat_map type_bodies code.types) h)
  where
    second : AnyOf IsGreat (flat_map body_bodies code.texts) ⊎ AnyOf IsGreat (flat_map type_bodies code.types) → 2 ^ 32 < program_length code
    second (inl k) = let long = texts_long code.texts k in omega (arith, long)
    second (inr k) = let long = types_long code.types k in omega (arith, long)

    first : AnyOf IsGreat (flat_map function_bodies code.functions) ⊎ AnyOf IsGreat (flat_map body_bodies code.texts ++ flat_map type_bodies code.types) → 2 ^ 32 < program_length code
    first (inl k) = let long = functions_long code.functions k in omega (arith, long)
    first (inr k) = second (any_append IsGreat (flat_map body_bodies code.texts) (flat_map type_bodies code.types) k)

-- ---- a program within the limits

tokens_few : (us : List Source) → sum_by tokens_in us ≤ sum_by words_in us
tokens_few us = sum_below tokens_in words_in (λ u. let le : tokens_in u ≤ tokens_in u + declared_count u.syntax = omega arith in le) us

pub never_great : (us : List Source) → program_length (program_code us) ≤ sum_by tokens_in us → IsWithinLimits us → HasGreat (bodies_of (program_code us)) → ⊥
never_great us short within h =
    let few = within.words in
    let tokens = tokens_few us in
    let many = code_long (program_code us) h in
    omega (arith, few, tokens, many, short)
