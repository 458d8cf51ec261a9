-- What is spelled as an action is read as that action.
use Rattle.std.proofs.Common.{◌≡◌, ℕ, ℤ, ◌^◌, true, false, List, ◌∷◌, ◌++◌, Option, Some, refl, sym, ap, ◌∙◌, append_assoc, arith}
use Rattle.std.specs.Prelude.{codes}
use Rattle.std.specs.Fmt.{decimal}
use Rattle.orca_base.specs.declared.ids.KindNo.{KindNo}
use Rattle.orca_base.specs.declared.ids.OpNo.{OpNo}
use Rattle.orca_base.specs.declared.ids.TextNo.{TextNo}
use Rattle.orca_base.specs.declared.ids.ObjectId.{ObjectId}
use Rattle.value_core.specs.Datum.{Data}
use Rattle.value_core.specs.Sound.{AreSoundArguments}
use Rattle.value_core.specs.declared.action.Action.{Action}
use Rattle.value_core.specs.declared.action.Action.TheVariants as action
use Rattle.value_texts.specs.Spelling.{BeginsWithNoDigit}
use Rattle.value_texts.specs.Reading.{Reads, word_at}
use Rattle.value_texts.proofs.Steps.{bound}
use Rattle.value_texts.proofs.Letters.{sign_again, word_again}
use Rattle.value_texts.proofs.Numerals.{below_again}
use Rattle.history_text.specs.Reading.{action_at, call_at, called_at, fork_at, guarded_at, make_at, name_len}
use Rattle.history_text.specs.Sound.{AreTables, ObjectFits, PlaceFits}
use Rattle.history_text.specs.Spelling.{action_text, arguments_text, name_of, object_text, operation_names, place_text}
use Rattle.history_text.specs.declared.names.Names.{Names}
use Rattle.history_text.proofs.Pieces.{Act, IsAct, IsCalled, IsGuarded, arguments_again, called_text, guarded_text, object_again, place_again}
use Rattle.history_text.proofs.Tables.{InTable, named_again}

make_again : (names : Names) → AreTables names → (kind : KindNo) (object : ObjectId) (rest : List ℕ) → InTable names.kinds.items kind.0 → ObjectFits object → BeginsWithNoDigit rest →
    make_at names (name_of names.kinds.items kind.0 ++ 32 ∷ (object_text object ++ rest)) ≡ Some ((action.Make kind object, 0), rest)
unfolding make_at
make_again names tables kind object rest known fits ends =
    rw (named_again names.kinds.items tables.kinds kind.0 (32 ∷ (object_text object ++ rest)) known refl, sign_again 32 (object_text object ++ rest), object_again object rest fits ends) refl

named_call : (names : Names) → AreTables names → (called : KindNo × OpNo) (rest : List ℕ) → IsCalled names called → name_len rest ≡ 0 → called_at names (called_text names called ++ rest) ≡ Some (called, rest)
unfolding called_at
named_call names tables called rest is ends =
    let name = name_of names.kinds.items called.0.0 in
    let ops = operation_names names called.0.0 in
    let op = name_of ops called.1.0 in
    ap (called_at names) (append_assoc name (36 ∷ op) rest)
    ∙ rw (named_again names.kinds.items tables.kinds called.0.0 (36 ∷ (op ++ rest)) is.0 refl, sign_again 36 (op ++ rest), named_again ops (tables.operations called.0.0) called.1.0 rest is.1 ends) refl

guarded_again : (given : Data × ℕ) (rest : List ℕ) → IsGuarded given → BeginsWithNoDigit rest → guarded_at (guarded_text given ++ rest) ≡ Some (given, rest)
unfolding guarded_at
guarded_again given rest is ends =
    let last = decimal given.1 ++ rest in
    ap guarded_at (append_assoc (arguments_text given.0) (codes " guard " ++ decimal given.1) rest)
    ∙ rw (arguments_again given.0 (codes " guard " ++ last) is.0, word_again (codes " guard ") last, below_again (2 ^ 16) given.1 rest is.1 (omega (arith, is.1)) ends) refl

call_again : (names : Names) → AreTables names → (called : KindNo × OpNo) (object : ObjectId) (given : Data × ℕ) (rest : List ℕ) → IsCalled names called → ObjectFits object → IsGuarded given → BeginsWithNoDigit rest →
    call_at names (called_text names called ++ 32 ∷ (object_text object ++ 32 ∷ (guarded_text given ++ rest))) ≡ Some ((action.Call called.0 called.1 object given.0, given.1), rest)
unfolding call_at
call_again names tables called object given rest known fits is ends =
    let more = guarded_text given ++ rest in
    let next = object_text object ++ 32 ∷ more in
    rw (named_call names tables called (32 ∷ next) known refl, sign_again 32 next, object_again object (32 ∷ more) fits refl, sign_again 32 more, guarded_again given rest is ends) refl

fork_again : (names : Names) → AreTables names → (process : TextNo) (args : Data) (place : Option ℤ) (rest : List ℕ) → InTable names.texts.items process.0 → AreSoundArguments args → PlaceFits place → BeginsWithNoDigit rest →
    fork_at names (name_of names.texts.items process.0 ++ 32 ∷ (arguments_text args ++ (codes " on " ++ (place_text place ++ rest)))) ≡ Some ((action.Fork process args place, 0), rest)
unfolding fork_at
fork_again names tables process args place rest known sound fits ends =
    let last = place_text place ++ rest in
    let more = codes " on " ++ last in
    let behind = arguments_text args ++ more in
    rw (named_again names.texts.items tables.texts process.0 (32 ∷ behind) known refl, sign_again 32 behind, arguments_again args more sound, word_again (codes " on ") last, place_again place rest fits ends) refl

-- ---- any action, behind its word

make_word : (names : Names) (tail : List ℕ) (x : Reads Act) → make_at names tail ≡ x → action_at names (codes "make " ++ tail) ≡ x
unfolding action_at
make_word names tail x e = bound (word_at (codes "make ") (codes "make " ++ tail)) (λ rest. make_at names rest) tail (word_again (codes "make ") tail) ∙ e

call_word : (names : Names) (tail : List ℕ) (x : Reads Act) → call_at names tail ≡ x → action_at names (codes "call " ++ tail) ≡ x
unfolding action_at
call_word names tail x e = bound (word_at (codes "call ") (codes "call " ++ tail)) (λ rest. call_at names rest) tail (word_again (codes "call ") tail) ∙ e

fork_word : (names : Names) (tail : List ℕ) (x : Reads Act) → fork_at names tail ≡ x → action_at names (codes "fork " ++ tail) ≡ x
unfolding action_at
fork_word names tail x e = bound (word_at (codes "fork ") (codes "fork " ++ tail)) (λ rest. fork_at names rest) tail (word_again (codes "fork ") tail) ∙ e

-- what ends an action begins with no digit
pub act_again : (names : Names) → AreTables names → (a : Action) (guard : ℕ) (rest : List ℕ) → IsAct names (a, guard) → BeginsWithNoDigit rest → action_at names (action_text names a guard ++ rest) ≡ Some ((a, guard), rest)
unfolding action_text
act_again names tables (action.Make kind object) guard rest is ends =
    let name = name_of names.kinds.items kind.0 in
    let grouped : (name ++ 32 ∷ object_text object) ++ rest ≡ name ++ 32 ∷ (object_text object ++ rest) = append_assoc name (32 ∷ object_text object) rest in
    make_word names ((name ++ 32 ∷ object_text object) ++ rest) (Some ((action.Make kind object, guard), rest))
    (ap (make_at names) grouped ∙ make_again names tables kind object rest is.named.0 is.named.1 ends ∙ ap (λ (g : ℕ). Some ((action.Make kind object, g), rest)) (sym is.is_guard))
act_again names tables (action.Call kind op object args) guard rest is ends =
    let name = called_text names (kind, op) in
    let given = guarded_text (args, guard) in
    let tail = name ++ 32 ∷ (object_text object ++ 32 ∷ given) in
    let grouped : tail ++ rest ≡ name ++ 32 ∷ (object_text object ++ 32 ∷ (given ++ rest)) =
    append_assoc name (32 ∷ (object_text object ++ 32 ∷ given)) rest
    ∙ ap (λ (t : List ℕ). name ++ 32 ∷ t) (append_assoc (object_text object) (32 ∷ given) rest) in
    call_word names (tail ++ rest) (Some ((action.Call kind op object args, guard), rest))
    (ap (call_at names) grouped ∙ call_again names tables (kind, op) object (args, guard) rest (is.named.0, is.named.1) is.named.2 (is.sound, is.guard) ends)
act_again names tables (action.Fork process args place) guard rest is ends =
    let name = name_of names.texts.items process.0 in
    let tail = name ++ 32 ∷ (arguments_text args ++ (codes " on " ++ place_text place)) in
    let grouped : tail ++ rest ≡ name ++ 32 ∷ (arguments_text args ++ (codes " on " ++ (place_text place ++ rest))) =
    append_assoc name (32 ∷ (arguments_text args ++ (codes " on " ++ place_text place))) rest
    ∙ ap (λ (t : List ℕ). name ++ 32 ∷ t) (append_assoc (arguments_text args) (codes " on " ++ place_text place) rest) in
    fork_word names (tail ++ rest) (Some ((action.Fork process args place, guard), rest))
    (ap (fork_at names) grouped ∙ fork_again names tables process args place rest is.named.0 is.sound is.named.1 ends ∙ ap (λ (g : ℕ). Some ((action.Fork process args place, g), rest)) (sym is.is_guard))
act_again names tables action.Ended guard rest is ends = let h : false ≡ true = is.performable in absurd cc
act_again names tables (action.Faulted fault) guard rest is ends = let h : false ≡ true = is.performable in absurd cc
