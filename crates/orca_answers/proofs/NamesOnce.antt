-- What is said of a history's text is one, by whichever of a program's names it is read: these are the same, but for where they lie.
use Rattle.std.proofs.Common.{◌≡◌, ◌<◌, ℕ, List, [], ◌∷◌, ◌++◌, Option, Some, None, flat_map, length, map, option_map, slice_get, refl, sym, ap, ◌∙◌, subst}
use Rattle.std.specs.Fmt.{decimal}
use Rattle.std.specs.Prelude.{codes}
use Rattle.std.proofs.lemmas.List.Elements.{All-weaker}
use Rattle.std.proofs.lemmas.Option.{slice_get-map}
use Rattle.orca_base.specs.declared.ids.KindNo.{KindNo}
use Rattle.orca_base.specs.declared.ids.OpNo.{OpNo}
use Rattle.orca_io.specs.Files.{File}
use Rattle.orca_syntax.proofs.SoundParts.{parts_sound}
use Rattle.link_rules.specs.Rules.{Links}
use Rattle.link_rules.specs.Units.{Source}
use Rattle.type_rules.specs.Breaches.{IsWellTyped}
use Rattle.accepted_law.specs.Limits.{IsWithinLimits}
use Rattle.meaning_rules.specs.Accepted.{AreTexts}
use Rattle.meaning_rules.specs.Meanings.{computes_of, performs_of}
use Rattle.orca_front.specs.Sources as sources
use Rattle.orca_front.specs.Sources.{AreUnits, IsAccepted}
use Rattle.value_core.specs.Meaning.{Computes, Performs}
use Rattle.value_core.specs.declared.action.Action.{Action}
use Rattle.value_core.specs.declared.action.Action.TheVariants as action
use Rattle.value_core.specs.declared.action.Line.{Line}
use Rattle.history_text.specs.Sound.{AreFirst, AreTables, IsLine, IsNamed}
use Rattle.history_text.specs.Spelling.{action_text, arguments_text, called_name, history_text, line_text, name_of, object_text, operation_names, operations_in, place_text, reply_text}
use Rattle.history_text.specs.declared.names.Names.{Names}
use Rattle.history_text.specs.declared.names.Operations.{Operations}
use Rattle.history_commands.specs.Replays.{IsToldOf}
use Rattle.history_commands.specs.declared.answer.Answer.{Answer}
use Rattle.history_commands.specs.declared.answer.Answer.TheVariants as said
use Rattle.history_commands.proofs.Answering.{one_answer}
use Rattle.program_names.specs.Naming.{AreNamesOf}

-- ---- the same names

record SameNames (one two : Names) : Type 0 where
  kinds : one.kinds.items ≡ two.kinds.items
  operations : (kind : ℕ) → operation_names one kind ≡ operation_names two kind
  texts : one.texts.items ≡ two.texts.items

turned : (one two : Names) → SameNames one two → SameNames two one
turned one two same = record { kinds = sym same.kinds; operations = λ kind. sym (same.operations kind); texts = sym same.texts }

abbrev in_list : Operations → List (List ℕ)
in_list o = o.names.items

abbrev listed : Option (List (List ℕ)) → List (List ℕ)
listed None = []
listed (Some names) = names

listed_so : (o : Option Operations) → operations_in o ≡ listed (option_map in_list o)
listed_so None = refl
listed_so (Some o) = refl

names_at : (names : Names) (kind : ℕ) → operation_names names kind ≡ listed (slice_get (map in_list names.operations.items) kind)
names_at names kind = listed_so (slice_get names.operations.items kind) ∙ ap listed (sym (slice_get-map in_list names.operations.items kind))

same_names : (us : List Source) (one two : Names) → AreNamesOf us one → AreNamesOf us two → SameNames one two
same_names us one two are were =
    let all : map in_list one.operations.items ≡ map in_list two.operations.items = are.operations ∙ sym were.operations in
    record {
      kinds = are.kinds ∙ sym were.kinds;
      operations = λ kind. names_at one kind ∙ ap (λ (names : List (List (List ℕ))). listed (slice_get names kind)) all ∙ sym (names_at two kind);
      texts = are.texts ∙ sym were.texts;
    }

-- ---- by the same names lines have the same text

called_same : (one two : Names) → SameNames one two → (kind : KindNo) (op : OpNo) → called_name one kind op ≡ called_name two kind op
called_same one two same kind op =
    let kinds = same.kinds in
    let operations = same.operations kind.0 in
    λ i. name_of (kinds i) kind.0 ++ 36 ∷ name_of (operations i) op.0

action_same : (one two : Names) → SameNames one two → (act : Action) (guard : ℕ) → action_text one act guard ≡ action_text two act guard
unfolding action_text
action_same one two same (action.Make kind object) guard =
    ap (λ (names : List (List ℕ)). codes "make " ++ (name_of names kind.0 ++ 32 ∷ object_text object)) same.kinds
action_same one two same (action.Call kind op object args) guard =
    ap (λ (called : List ℕ). codes "call " ++ (called ++ 32 ∷ (object_text object ++ 32 ∷ (arguments_text args ++ (codes " guard " ++ decimal guard)))))
    (called_same one two same kind op)
action_same one two same (action.Fork process args place_on) guard =
    ap (λ (names : List (List ℕ)). codes "fork " ++ (name_of names process.0 ++ 32 ∷ (arguments_text args ++ (codes " on " ++ place_text place_on)))) same.texts
action_same one two same action.Ended guard = refl
action_same one two same (action.Faulted fault) guard = refl

line_same : (one two : Names) → SameNames one two → (line : Line) → line_text one line ≡ line_text two line
unfolding line_text
line_same one two same line =
    ap (λ (text : List ℕ). decimal line.process.0 ++ 32 ∷ (decimal line.call.0 ++ 32 ∷ (text ++ 32 ∷ (reply_text line.reply ++ 10 ∷ []))))
    (action_same one two same line.action line.guard)

history_same : (one two : Names) → SameNames one two → (lines : List Line) → history_text one lines ≡ history_text two lines
history_same one two same lines = λ i. flat_map (λ (line : Line). line_same one two same line i) lines

named_same : (one two : Names) → SameNames one two → (act : Action) → IsNamed one act → IsNamed two act
named_same one two same (action.Make kind object) h = (subst (λ (names : List (List ℕ)). kind.0 < length names) same.kinds h.0, h.1)
named_same one two same (action.Call kind op object args) h =
    (subst (λ (names : List (List ℕ)). kind.0 < length names) same.kinds h.0, subst (λ (names : List (List ℕ)). op.0 < length names) (same.operations kind.0) h.1, h.2)
named_same one two same (action.Fork process args place_on) h = (subst (λ (names : List (List ℕ)). process.0 < length names) same.texts h.0, h.1)
named_same one two same action.Ended h = h
named_same one two same (action.Faulted fault) h = h

is_line_same : (one two : Names) → SameNames one two → (line : Line) → IsLine one line → IsLine two line
is_line_same one two same line h = record { sound = h.sound; process = h.process; call = h.call; guard = h.guard; action = named_same one two same line.action h.action }

-- and so texts have the same lines
first_same : (one two : Names) → SameNames one two → (text : List ℕ) (lines : List Line) (bad : Option ℕ) → AreFirst one text lines bad → AreFirst two text lines bad
first_same one two same text lines bad h = record {
  are = All-weaker (IsLine one) (IsLine two) (is_line_same one two same) lines h.are;
  rest = h.rest;
  parts = h.parts ∙ ap (λ (t : List ℕ). t ++ h.rest) (history_same one two same lines);
  none_ = λ line more is begins. h.none_ line more (is_line_same two one (turned one two same) line is) (begins ∙ ap (λ (t : List ℕ). t ++ more) (sym (line_same one two same line)));
  told = h.told;
}

told_same : (p : Performs) (q : Computes) (one two : Names) → SameNames one two → (text : List ℕ) (answer : Answer) → IsToldOf p q one text answer → IsToldOf p q two text answer
told_same p q one two same text said.Legal (lines, first, legal) = (lines, first_same one two same text lines None first, legal)
told_same p q one two same text (said.Form number) (lines, first, legal) = (lines, first_same one two same text lines (Some number) first, legal)
told_same p q one two same text (said.Part number rule) (lines, bad, first, breach) = (lines, bad, first_same one two same text lines bad first, breach)

-- ---- one answer

-- the names of a program that is accepted are tables
abbrev pub GiveTables : Type 0
GiveTables = (us : List Source) (names : Names) → Links us → IsWellTyped us → AreTexts us → IsWithinLimits us → AreNamesOf us names → AreTables names

-- units are texts
texts_are : (files : List File) (us : List Source) → AreUnits files us → AreTexts us
texts_are _ _ sources.none = tt
texts_are _ _ (sources.one f fs u us is are) = (parts_sound f.1 u.syntax is.has, texts_are fs us are)

pub answer_once : GiveTables → (files : List File) (us : List Source) (one two : Names) (text : List ℕ) (answer other : Answer) → IsAccepted files us → IsWithinLimits us → AreNamesOf us one → AreNamesOf us two →
    IsToldOf (performs_of us) (computes_of us) one text answer → IsToldOf (performs_of us) (computes_of us) two text other → answer ≡ other
answer_once tables files us one two text answer other accepted within are were is was =
    one_answer (performs_of us) (computes_of us) one text answer other
    (tables us one accepted.links accepted.typed (texts_are files us accepted.are) within are) is
    (told_same (performs_of us) (computes_of us) two one (same_names us two one were are) text other was)
