-- Texts of lines are ASCII.
use Rattle.std.proofs.Common.{◌≡◌, ℕ, ℤ, ◌^◌, ◌<◌, true, List, [], ◌∷◌, ◌++◌, length, Option, Some, None, refl, sym, subst, arith}
use Rattle.std.specs.Prelude.{codes}
use Rattle.std.specs.Fmt.{decimal}
use Rattle.std.specs.List.{AllByRecursion, list_all}
use Rattle.std.specs.Str.{IsAscii}
use Rattle.std.proofs.lemmas.Bool.Decides.{nat_tests}
use Rattle.std.proofs.lemmas.Fmt.{IsAscii-decimal}
use Rattle.std.proofs.lemmas.List.Concat.{flat_map-cons}
use Rattle.std.proofs.lemmas.List.Elements.{recursion_from_All}
use Rattle.std.proofs.lemmas.Option.{slice_get-get_or}
use Rattle.std.proofs.lemmas.Str.{IsAscii-append}
use Rattle.std.proofs.lemmas.Str.Ascii.{IsAscii-cons, IsAscii-nil}
use Rattle.orca_base.specs.declared.ids.ObjectId.{ObjectId}
use Rattle.value_core.specs.Datum.{Data}
use Rattle.value_core.specs.Datum as datum
use Rattle.value_core.specs.Sound.{AreSoundArguments, IsSoundAction, IsSoundReply}
use Rattle.value_core.specs.View.{datum_of}
use Rattle.value_core.specs.declared.action.Action.{Action}
use Rattle.value_core.specs.declared.action.Action.TheVariants as action
use Rattle.value_core.specs.declared.action.Line.{Line}
use Rattle.value_core.specs.declared.action.Reply.{Reply}
use Rattle.value_core.specs.declared.action.Reply.TheVariants as answer
use Rattle.value_texts.specs.Spelling.{parts_text}
use Rattle.value_texts.proofs.Ascii.{parts_ascii, signed_ascii, value_ascii, word_ascii}
use Rattle.value_texts.proofs.Steps.{both}
use Rattle.history_text.specs.Sound.{AreLines, AreTables, IsLine, IsNamed, IsTable, ObjectFits, PlaceFits, is_name_byte}
use Rattle.history_text.specs.Spelling.{action_text, arguments_text, called_name, fault_name, history_text, line_text, name_of, object_text, operation_names, place_text, reply_text}
use Rattle.history_text.specs.declared.names.Names.{Names}
use Rattle.history_text.proofs.Pieces.{fault_letters}

-- ---- words and names

letter_low : (c : ℕ) → is_name_byte c ≡ true → c < 128
letter_low c h = grind (arith, nat_tests)

letters_ascii : (name : List ℕ) → list_all is_name_byte name ≡ true → IsAscii name
letters_ascii [] all = IsAscii-nil
letters_ascii (c ∷ name) all =
    let h = both (is_name_byte c) (list_all is_name_byte name) all in
    IsAscii-cons c name (letter_low c h.0) (letters_ascii name h.1)

name_ascii : (names : List (List ℕ)) → IsTable names → (number : ℕ) → number < length names → IsAscii (name_of names number)
name_ascii names table number known = letters_ascii (name_of names number) (table.named number (name_of names number) (slice_get-get_or names number [] known))

-- a byte between two texts
joint : (front : List ℕ) (b : ℕ) (text : List ℕ) → b < 128 → IsAscii front → IsAscii text → IsAscii (front ++ b ∷ text)
joint front b text small f t = IsAscii-append front (b ∷ text) f (IsAscii-cons b text small t)

-- ---- the parts of a line

object_ascii : (object : ObjectId) → ObjectFits object → IsAscii (object_text object)
object_ascii object fits = value_ascii (datum.object object.process object.number) fits

arguments_ascii : (args : Data) → AreSoundArguments args → IsAscii (arguments_text args)
arguments_ascii args sound =
    IsAscii-cons 40 (parts_text args ++ 41 ∷ []) (omega arith) (joint (parts_text args) 41 [] (omega arith) (parts_ascii args sound.values.well_formed) IsAscii-nil)

place_ascii : (place : Option ℤ) → PlaceFits place → IsAscii (place_text place)
place_ascii None fits = word_ascii (codes "parent") refl
place_ascii (Some z) fits = signed_ascii z fits

reply_ascii : (reply : Reply) → IsSoundReply reply → IsAscii (reply_text reply)
unfolding reply_text
reply_ascii answer.Done sound = word_ascii (codes "none") refl
reply_ascii (answer.Gave value) sound = value_ascii (datum_of value) sound.well_formed
reply_ascii (answer.Broke fault) sound = IsAscii-append (codes "fault ") (fault_name fault) (word_ascii (codes "fault ") refl) (letters_ascii (fault_name fault) (fault_letters fault))

action_ascii : (names : Names) → AreTables names → (a : Action) (guard : ℕ) → IsNamed names a → IsSoundAction a → guard < 2 ^ 16 → IsAscii (action_text names a guard)
unfolding action_text
action_ascii names tables (action.Make kind object) guard named sound small =
    IsAscii-append (codes "make ") (name_of names.kinds.items kind.0 ++ 32 ∷ object_text object) (word_ascii (codes "make ") refl)
    (joint (name_of names.kinds.items kind.0) 32 (object_text object) (omega arith) (name_ascii names.kinds.items tables.kinds kind.0 named.0) (object_ascii object named.1))
action_ascii names tables (action.Call kind op object args) guard named sound small =
    let guarded = codes " guard " ++ decimal guard in
    let kinds = names.kinds.items in
    let ops = operation_names names kind.0 in
    let e : IsAscii guarded = IsAscii-append (codes " guard ") (decimal guard) (word_ascii (codes " guard ") refl) (IsAscii-decimal guard (omega (arith, small))) in
    let d : IsAscii (arguments_text args ++ guarded) = IsAscii-append (arguments_text args) guarded (arguments_ascii args sound) e in
    let tail = object_text object ++ 32 ∷ (arguments_text args ++ guarded) in
    let c : IsAscii tail = joint (object_text object) 32 (arguments_text args ++ guarded) (omega arith) (object_ascii object named.2) d in
    let b : IsAscii (called_name names kind op) =
    joint (name_of kinds kind.0) 36 (name_of ops op.0) (omega arith) (name_ascii kinds tables.kinds kind.0 named.0) (name_ascii ops (tables.operations kind.0) op.0 named.1) in
    IsAscii-append (codes "call ") (called_name names kind op ++ 32 ∷ tail) (word_ascii (codes "call ") refl) (joint (called_name names kind op) 32 tail (omega arith) b c)
action_ascii names tables (action.Fork process args place) guard named sound small =
    let placed = codes " on " ++ place_text place in
    let c : IsAscii placed = IsAscii-append (codes " on ") (place_text place) (word_ascii (codes " on ") refl) (place_ascii place named.1) in
    let b : IsAscii (arguments_text args ++ placed) = IsAscii-append (arguments_text args) placed (arguments_ascii args sound) c in
    IsAscii-append (codes "fork ") (name_of names.texts.items process.0 ++ 32 ∷ (arguments_text args ++ placed)) (word_ascii (codes "fork ") refl)
    (joint (name_of names.texts.items process.0) 32 (arguments_text args ++ placed) (omega arith) (name_ascii names.texts.items tables.texts process.0 named.0) b)
action_ascii names tables action.Ended guard named sound small = IsAscii-nil
action_ascii names tables (action.Faulted fault) guard named sound small = IsAscii-nil

-- ---- lines

pub line_ascii : (names : Names) → AreTables names → (line : Line) → IsLine names line → IsAscii (line_text names line)
unfolding line_text
line_ascii names tables line is =
    let act = action_text names line.action line.guard in
    let said = reply_text line.reply in
    let c : IsAscii (said ++ 10 ∷ []) = joint said 10 [] (omega arith) (reply_ascii line.reply is.sound.reply) IsAscii-nil in
    let b : IsAscii (act ++ 32 ∷ (said ++ 10 ∷ [])) = joint act 32 (said ++ 10 ∷ []) (omega arith) (action_ascii names tables line.action line.guard is.action is.sound.action is.guard) c in
    let a : IsAscii (decimal line.call.0 ++ 32 ∷ (act ++ 32 ∷ (said ++ 10 ∷ []))) = joint (decimal line.call.0) 32 (act ++ 32 ∷ (said ++ 10 ∷ [])) (omega arith) (IsAscii-decimal line.call.0 is.call) b in
    joint (decimal line.process.0) 32 (decimal line.call.0 ++ 32 ∷ (act ++ 32 ∷ (said ++ 10 ∷ []))) (omega arith) (IsAscii-decimal line.process.0 (omega (arith, is.process))) a

each_ascii : (names : Names) → AreTables names → (lines : List Line) → AllByRecursion (IsLine names) lines → IsAscii (history_text names lines)
each_ascii names tables [] are = IsAscii-nil
each_ascii names tables (line ∷ lines) are =
    subst IsAscii (sym (flat_map-cons (line_text names) line lines))
    (IsAscii-append (line_text names line) (history_text names lines) (line_ascii names tables line are.0) (each_ascii names tables lines are.1))

pub history_ascii : (names : Names) → AreTables names → (lines : List Line) → AreLines names lines → IsAscii (history_text names lines)
history_ascii names tables lines are = each_ascii names tables lines (recursion_from_All (IsLine names) lines are)
