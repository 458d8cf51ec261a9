-- What a run leaves is what the headline says of it: from the run that was driven, the law of runs, and what was printed.
use Rattle.std.proofs.Common.{◌≡◌, ◌∙◌, ◌≤◌, ◌⊎◌, inl, inr, ℕ, zero, List, [], ◌∷◌, get_or, length, map, set, Option, Some, None, IfNone, IfSome, Result, Ok, Err, OnErr, suc, ap, sym, subst, refl, arith}
use Rattle.std.specs.Prelude.{option_and_then, option_map, slice_get}
use Rattle.std.specs.List.{All}
use Rattle.std.proofs.lemmas.List.{length-map}
use Rattle.command_line.specs.declared.request.RunOptions.{RunOptions}
use Rattle.net_rules.specs.declared.asked.Asked.{Asked}
use Rattle.net_rules.specs.declared.line.ScriptLine.{ScriptLine}
use Rattle.orca_io.specs.Files.{File}
use Rattle.orca_io.specs.Reading.{FileRead}
use Rattle.link_rules.specs.Units.{Source}
use Rattle.value_core.specs.History.{Legal}
use Rattle.value_core.specs.Meaning.{Computes, Performs}
use Rattle.value_core.specs.declared.action.Action.{Action}
use Rattle.value_core.specs.declared.action.Line.{Line}
use Rattle.book_law.specs.Events.{In}
use Rattle.history_text.specs.Sound.{AreLines, HasNames, IsPrintable}
use Rattle.history_text.specs.declared.names.Names.{Names}
use Rattle.history_commands.specs.ReadBack.{ReadsBack}
use Rattle.history_commands.proofs.Answering.{printable, reads_back}
use Rattle.wires.specs.Wired.{HasObeyed, Rule, with_script}
use Rattle.world_book.specs.Sounding.{RunsSound}
use Rattle.world_facts.specs.Replicated.{AllReplicated}
use Rattle.world_enough.specs.Bound.{IsEnough}
use Rattle.world_rules.specs.declared.settings.Settings.{Settings}
use Rattle.world_rules.specs.declared.standing.Standing.{Standing}
use Rattle.world_rules.specs.declared.standing.Standing.TheVariants.{Going}
use Rattle.world_rules.specs.Frame.{AreSettings, Frame}
use Rattle.world_rules.specs.Standings as rules
use Rattle.replica_choice.specs.declared.policy.Asked as replica
use Rattle.run_ends.specs.declared.ends.RunEnd.{RunEnd}
use Rattle.run_loop.specs.Asked.{HaveToldOn, WereAskedIn, WereUsedSo, asked_since}
use Rattle.run_loop.specs.Left.{HasRun, run_of}
use Rattle.run_loop.proofs.Telling.{kept_at}
use Rattle.meaning_rules.specs.Meanings.{computes_of, performs_of}
use Rattle.orca_cli.specs.declared.kept.Kept.{Kept}
use Rattle.orca_cli.specs.declared.printing.Printing.{Printing}
use Rattle.command_output.specs.declared.statuses.TheConstants.{NO_MEMORY}
use Rattle.orca_cli.specs.Headline.{AreLoaded, AreUntouched, HaveObeyed, IsRun, IsProgramRun, IsRunOf, KeepRules, WasBegun, Wires, settings_for, told_for, wires_of}
use Rattle.command_files.specs.Sources.{Word}
use Rattle.command_files.specs.Sources.{AreRead}
use Rattle.accepted_law.specs.Limits.{IsWithinLimits}
use Rattle.orca_front.specs.Sources.{IsAccepted}
use Rattle.orca_answers.specs.Choosing.{Chooser, WasAskedFirst, WasAskedSome, asking}
use Rattle.orca_answers.specs.Job.{deed_in, runs}
use Rattle.orca_answers.specs.Scripts.{HasScriptSince}
use Rattle.run_choices.proofs.Resilience.{then_none}
use Rattle.orca_cli.specs.Kept.{IsEndOf}
use Rattle.orca_cli.specs.Made.{IsRunNamed, said}
use Rattle.orca_cli.specs.Rows.{KeptRow}
use Rattle.orca_cli.specs.Laws.{RunLaws}
use Rattle.command_output.specs.Printed.{Ends, EndsAs, Grew}
use Rattle.orca_cli.specs.Said.{ending_line, kept_of}
use Rattle.orca_cli.specs.Standings.{awaited_name, standing_status}
use Rattle.program_names.specs.Naming.{AreNamesOf, CallsNamed}
use Rattle.orca_cli.proofs.KeptLemmas.{history_kept}
use Rattle.orca_cli.proofs.LowestLemmas.{ending_is}
use Rattle.orca_cli.proofs.RowLemmas.{gone_well, row_kept, rows_shown}

-- ---- the run

-- what was printed, by how the run stands
pub record IsTold (name : Action → List ℕ) (says : Standing → ℕ → Kept → List ℕ → List ℕ) (turns : ℕ) (end : RunEnd) (standing : Standing) (status : ℕ) (old new : Option (List ℕ)) : Type 0 where
  pub ends : EndsAs (standing_status standing) status
  pub lacked : standing ≡ Going → status ≡ NO_MEMORY
  pub printed : Grew old new (Ends (standing_status standing) status (says standing end.longest (kept_of end) (ending_line name turns standing end.processes.items)))

pub is_run : (f : Frame) (name : Action → List ℕ) (says : Standing → ℕ → Kept → List ℕ → List ℕ) (end : RunEnd) (standing : Standing) (status : ℕ) (old new : Option (List ℕ)) (before after : List (List Asked))
    → RunLaws f.performs f.computes → AreSettings f.settings → HasRun f standing before after end → HaveToldOn before after → IsTold name says f.settings.turns end standing status old new
    → IsRun f name says (kept_of end) status old new before after
is_run f name says end standing status old new before after laws settings h told printed =
    let w = h.world in
    let left = h.left in
    let k : Kept = kept_of end in
    let is : IsEndOf f w k = record { replays = left.replays; book = left.book; places = left.places; nodes = left.nodes; processes = left.processes } in
    let is_said : IsTold name says f.settings.turns end (rules.standing f w) status old new = subst (λ (s : Standing). IsTold name says f.settings.turns end s status old new) left.stands printed in
    let stand = laws.ends f w in
    let processes = laws.stand f end.steps.items w left.replays in
    let some = settings.some in
    let enough = laws.enough_with_singles f refl refl settings end.steps.items w h.first in
    let replicated : AllReplicated f → IsEnough f w end.steps.items = λ all. laws.enough f refl refl settings all end.steps.items w h.first in
    let row : KeptRow f w k (rules.standing f w) =
    row_kept f w k laws.read is stand (laws.finished f end.steps.items w left.replays) processes left.kept left.stuck
    (laws.spent f refl refl settings end.steps.items w left.replays) settings.a_turn enough replicated (rules.standing f w) refl in
    record {
      world = w;
      end = is;
      history = history_kept f w (omega (arith, some)) left.kept stand left.mean (laws.placed f w) laws.homes k left.its is;
      reads = laws.read f w;
      row = row;
      only = rows_shown f w k laws.count laws.read is stand processes settings.a_turn;
      limited = λ what number passed. ap (rules.after_limit f w) passed;
      bounded = gone_well f w k laws.read is stand processes left.stuck enough replicated;
      counted = laws.ticks f end.steps.items w left.replays;
      idle = λ stretch idle few inside. laws.idle f refl refl settings end.steps.items stretch w idle few inside;
      ends = is_said.ends;
      lacked = is_said.lacked;
      line = ending_line name f.settings.turns (rules.standing f w) k.processes.items;
      line_is = ending_is f w k name (rules.standing f w) row;
      printed = subst (λ (n : ℕ). Grew old new (Ends (standing_status (rules.standing f w)) status (says (rules.standing f w) n k (ending_line name f.settings.turns (rules.standing f w) k.processes.items)))) left.longest is_said.printed;
      told = told;
      used = subst (λ (s : Standing). WereUsedSo s f end.steps.items w (asked_since before after)) left.stands h.used;
      unused = h.unused;
      in_time = h.in_time;
    }

-- by the turns of the words
pub is_run_by : (p : Performs) (q : Computes) (turns : ℕ) (settings : Settings) (name : Action → List ℕ) (says : Standing → ℕ → Kept → List ℕ → List ℕ) (end : RunEnd) (standing : Standing) (status : ℕ) (old new : Option (List ℕ)) (before after : List (List Asked))
    → RunLaws p q → settings.turns ≡ turns → AreSettings settings → HasRun (run_of p q settings) standing before after end → HaveToldOn before after → IsTold name says turns end standing status old new
    → IsRun (run_of p q settings) name says (kept_of end) status old new before after
is_run_by p q turns settings name says end standing status old new before after laws same ranges h told printed =
    is_run (run_of p q settings) name says end standing status old new before after laws ranges h told
    (subst (λ (n : ℕ). IsTold name says n end standing status old new) (sym same) printed)

-- ---- its history as a text

module _ (p : Performs) (q : Computes) (settings : Settings) (names : Names) (standing : Standing) (before after : List (List Asked)) (end : RunEnd) (h : HasRun (run_of p q settings) standing before after end) where
  book_legal : Legal p q end.book.items
  book_legal = subst (Legal p q) (sym h.left.book) h.left.kept.legal

  -- its lines may be printed, by names that each history of the program has
  pub book_printable : RunsSound p q → AreSettings settings → ((lines : List Line) → Legal p q lines → All (λ l. HasNames names l.action) lines) → All (IsPrintable names) end.book.items
  book_printable sounds ranges named =
      printable names end.book.items
      (λ line inside. (sounds (run_of p q settings) refl refl ranges end.steps.items h.world h.left.replays).lines line (subst (λ (ls : List Line). In line ls) h.left.book inside))
      (named end.book.items book_legal)

  -- and are read back
  pub book_back : AreLines names end.book.items → ReadsBack p q names end.book.items
  book_back are = reads_back p q names end.book.items are book_legal

-- by the program's names
pub program_run : (units : List Source) (says : Names → Standing → ℕ → Kept → List ℕ → List ℕ) (settings : Settings) (names : Names) (o : Option Kept) (status : ℕ) (old new : Option (List ℕ)) (before after : List (List Asked)) → AreNamesOf units names → CallsNamed units names
    → IfSome o (λ k. IsRun (run_of (performs_of units) (computes_of units) settings) (awaited_name names) (says names) k status old new before after)
    → IfSome o (λ k. ReadsBack (performs_of units) (computes_of units) names k.book.items) → IfSome o (λ k. IsProgramRun units says settings k status old new before after)
program_run units says settings names None status old new before after are calls run back = tt
program_run units says settings names (Some k) status old new before after are calls run back = record { names = names; are = are; calls = calls; run = run; back = back }

-- of what there is
pub some_is : {T : Type 0} (o : Option T) (x : T) (P : T → Type 0) → o ≡ Some x → IfSome o P → P x
some_is o x P is h = subst (λ (o : Option _). IfSome o P) is h

-- of a result
pub err_both : {T E A B C : Type 0} (r : Result T E) → (A → B → C) → OnErr r A → OnErr r B → OnErr r C
err_both (Ok x) so a b = tt
err_both (Err e) so a b = so a b

-- ---- the wires

-- they are told by the three
abbrev these_wires : List (List Asked) → List Rule → List ℕ → Wires
these_wires told rules loaded = record { told = told; rules = rules; loaded = loaded }

-- where the first wire stayed all did
pub wires_kept : {W : Type 0} (told : W → List Asked) (rule : W → Rule) (loaded : W → ℕ) (wires : List W) (first wire : W) → told wire ≡ told (get_or wires 0 first) → rule wire ≡ rule (get_or wires 0 first)
    → loaded wire ≡ loaded (get_or wires 0 first) → wires_of told rule loaded (set wires 0 wire) ≡ wires_of told rule loaded wires
wires_kept told rule loaded wires first wire one two three =
    ap (λ (l : List (List Asked)). these_wires l (map rule (set wires 0 wire)) (map loaded (set wires 0 wire))) (kept_at told wires 0 first wire one)
    ∙ ap (λ (l : List Rule). these_wires (map told wires) l (map loaded (set wires 0 wire))) (kept_at rule wires 0 first wire two)
    ∙ ap (λ (l : List ℕ). these_wires (map told wires) (map rule wires) l) (kept_at loaded wires 0 first wire three)

-- whatever the first wire took, the others stay with their scripts
others_keep : {W : Type 0} (told : W → List Asked) (rule : W → Rule) (loaded : W → ℕ) (wires : List W) (wire : W) → KeepRules (wires_of told rule loaded wires) (wires_of told rule loaded (set wires 0 wire))
others_keep told rule loaded [] wire = record { rules = λ n. refl; loaded = λ n. refl }
others_keep told rule loaded (w ∷ wires) wire = record { rules = λ n. refl; loaded = λ n. refl }

still_keep : {W : Type 0} (told : W → List Asked) (rule : W → Rule) (loaded : W → ℕ) (old mid new : List W) → KeepRules (wires_of told rule loaded old) (wires_of told rule loaded mid)
    → map rule new ≡ map rule mid → map loaded new ≡ map loaded mid → KeepRules (wires_of told rule loaded old) (wires_of told rule loaded new)
still_keep told rule loaded old mid new h rules counts = record {
  rules = λ n. subst (λ (l : List Rule). slice_get l (suc n) ≡ slice_get (map rule old) (suc n)) (sym rules) (h.rules n);
  loaded = λ n. subst (λ (l : List ℕ). slice_get l (suc n) ≡ slice_get (map loaded old) (suc n)) (sym counts) (h.loaded n);
}

-- the first wire took these lines
pub loaded_first : {W : Type 0} (told : W → List Asked) (rule : W → Rule) (loaded : W → ℕ) (wires : List W) (first wire : W) (lines : List ScriptLine) → 1 ≤ length wires → rule wire ≡ with_script lines (rule (get_or wires 0 first))
    → loaded wire ≡ length (told (get_or wires 0 first)) → AreLoaded lines (wires_of told rule loaded wires) (wires_of told rule loaded (set wires 0 wire))
loaded_first told rule loaded [] first wire lines some is since = absurd (omega (arith, some))
loaded_first told rule loaded (w ∷ wires) first wire lines some is since = record { rule = ap Some is; since = ap Some since; others = others_keep told rule loaded (w ∷ wires) wire }

-- what every wire of these answered, its rule says
each_obeyed : {W : Type 0} (told : W → List Asked) (rule : W → Rule) (loaded : W → ℕ) (wires : List W) → All (λ w. HasObeyed (rule w) (loaded w) (told w)) wires
    → (wire since : ℕ) (r : Rule) (asked : List Asked) → slice_get (map rule wires) wire ≡ Some r → slice_get (map loaded wires) wire ≡ Some since → slice_get (map told wires) wire ≡ Some asked → HasObeyed r since asked
each_obeyed told rule loaded [] all wire since r asked one two three = absurd cc
each_obeyed told rule loaded (w ∷ wires) all zero since r asked one two three =
    let rules : rule w ≡ r = cc in
    let counts : loaded w ≡ since = cc in
    let tells : told w ≡ asked = cc in
    subst (λ (x : Rule). HasObeyed x since asked) rules (subst (λ (n : ℕ). HasObeyed (rule w) n asked) counts (subst (λ (l : List Asked). HasObeyed (rule w) (loaded w) l) tells (all 0 w (omega arith))))
each_obeyed told rule loaded (w ∷ wires) all (suc wire) since r asked one two three =
    each_obeyed told rule loaded wires (λ k d low. all (suc k) d (omega (arith, low))) wire since r asked one two three

pub have_obeyed : {W : Type 0} (told : W → List Asked) (rule : W → Rule) (loaded : W → ℕ) (wires : List W) → All (λ w. HasObeyed (rule w) (loaded w) (told w)) wires → HaveObeyed (wires_of told rule loaded wires)
have_obeyed told rule loaded wires all = record { each = each_obeyed told rule loaded wires all }

-- and the run left all of that
pub still_loaded : {W : Type 0} (told : W → List Asked) (rule : W → Rule) (loaded : W → ℕ) (old mid new : List W) (lines : List ScriptLine) → AreLoaded lines (wires_of told rule loaded old) (wires_of told rule loaded mid)
    → map rule new ≡ map rule mid → map loaded new ≡ map loaded mid → AreLoaded lines (wires_of told rule loaded old) (wires_of told rule loaded new)
still_loaded told rule loaded old mid new lines h rules counts = record {
  rule = subst (λ (l : List Rule). slice_get l 0 ≡ option_map (with_script lines) (slice_get (map rule old) 0)) (sym rules) h.rule;
  since = subst (λ (l : List ℕ). slice_get l 0 ≡ option_map length (slice_get (map told old) 0)) (sym counts) h.since;
  others = still_keep told rule loaded old mid new h.others rules counts;
}

-- a run over these wires was begun
pub begun_so : {W : Type 0} (told : W → List Asked) (rule : W → Rule) (loaded : W → ℕ) (before after : List W) (units : List Source) (settings : Settings) (lines : List ScriptLine)
    → AreLoaded lines (wires_of told rule loaded before) (wires_of told rule loaded after) → HaveToldOn (map told before) (map told after)
    → WereAskedIn (run_of (performs_of units) (computes_of units) settings) (map told before) (map told after)
    → WasBegun units settings lines (wires_of told rule loaded before) (wires_of told rule loaded after)
begun_so told rule loaded before after units settings lines has more asked = record { loaded = has; told = more; asked = asked }

-- ---- the run that the words ask for

-- its settings over these wires
settings_over : {W : Type 0} (told : W → List Asked) (policy : Chooser) (units : List Source) (options : RunOptions) (wires : List W) (settings : Settings) → settings ≡ settings_for policy units options (length wires)
    → settings ≡ settings_for policy units options (length (map told wires))
settings_over told policy units options wires settings is = is ∙ ap (settings_for policy units options) (sym (length-map wires told))

-- where nothing of it is kept
pub untouched_run : {W K : Type 0} (A : Type 0) (told : W → List Asked) (rule : W → Rule) (loaded : W → ℕ) (before after : List W) (policy : Chooser) (words : List Word) (files : Option (List File)) (earlier later : List FileRead) (units : List Source) (options : RunOptions) (printing : Printing) (settings : Settings)
    (lines : List ScriptLine) (o : Option K) (status : ℕ) (asked : List replica.Asked) → IsRunNamed words files earlier later units lines options printing → settings ≡ settings_for policy units options (length before) → asked ≡ told_for policy units options → IfNone o ((status ≡ NO_MEMORY) × A)
    → IfNone o ((wires_of told rule loaded after ≡ wires_of told rule loaded before) ⊎ WasBegun units settings lines (wires_of told rule loaded before) (wires_of told rule loaded after))
    → IfNone o (AreUntouched policy words files earlier later status (wires_of told rule loaded before) (wires_of told rule loaded after) asked)
untouched_run A told rule loaded before after policy words files earlier later units options printing settings lines (Some k) status asked named is told_is lacked begun = tt
untouched_run A told rule loaded before after policy words files earlier later units options printing settings lines None status asked named is told_is lacked (inl kept) = inl kept
untouched_run A told rule loaded before after policy words files earlier later units options printing settings lines None status asked named is told_is lacked (inr begun) = inr (record {
  status = lacked.0;
  units = units;
  lines = lines;
  options = options;
  printing = printing;
  named = named;
  begun = subst (λ (s : Settings). WasBegun units s lines (wires_of told rule loaded before) (wires_of told rule loaded after)) (settings_over told policy units options before settings is) begun;
  told = told_is;
})

-- what the policy was asked for it
pub run_asked : (policy : Chooser) (words files : List Word) (options : RunOptions) (script : Option Word) (told : Option (List File)) (sources : List File) (units : List Source) (old new : List FileRead) (asked : List replica.Asked) → deed_in words ≡ Some (runs options script files)
    → AreRead told files sources → IsAccepted sources units → IsWithinLimits units → HasScriptSince told words old new sources
    → (asked ≡ policy.told) ⊎ ((options.group.resilience ≡ 0) × WasAskedFirst policy options.group.nodes units asked) → WasAskedSome policy words told old new asked
run_asked policy words files options script told sources units old new asked is read accepted within has (inl same) = inl same
run_asked policy words files options script told sources units old new asked is read accepted within has (inr some) = inr (inl (record {
  nodes = options.group.nodes;
  files = files;
  units = units;
  asked = ap (option_and_then asking) is ∙ then_none options.group.resilience _ _ some.0;
  program = record { loaded = (sources, read, accepted); within = within };
  read = has;
  first = some.1;
}))

pub if_some : {T : Type 0} (o : Option T) (P : T → Type 0) → ((x : T) → P x) → IfSome o P
if_some None P h = tt
if_some (Some x) P h = h x

pub none_as : {T A B : Type 0} (o : Option T) → (A → B) → IfNone o A → IfNone o B
none_as None so a = so a
none_as (Some x) so a = tt

pub run_of_words : {W : Type 0} (told : W → List Asked) (rule : W → Rule) (loaded : W → ℕ) (before after : List W) (policy : Chooser) (words : List Word) (files : Option (List File)) (earlier later : List FileRead) (units : List Source) (options : RunOptions) (printing : Printing) (settings : Settings)
    (lines : List ScriptLine) (o : Option Kept) (status : ℕ) (old new : Option (List ℕ)) (asked : List replica.Asked) → IsRunNamed words files earlier later units lines options printing → settings ≡ settings_for policy units options (length before) → asked ≡ told_for policy units options
    → IfSome o (λ k. IsProgramRun units (said printing options) settings k status old new (map told before) (map told after))
    → IfSome o (λ k. AreLoaded lines (wires_of told rule loaded before) (wires_of told rule loaded after))
    → IfSome o (λ k. IsRunOf policy words files earlier later k status old new (wires_of told rule loaded before) (wires_of told rule loaded after) asked)
run_of_words told rule loaded before after policy words files earlier later units options printing settings lines None status old new asked named is was run has = tt
run_of_words told rule loaded before after policy words files earlier later units options printing settings lines (Some k) status old new asked named is was run has = record {
  units = units;
  lines = lines;
  options = options;
  printing = printing;
  named = named;
  run = subst (λ (s : Settings). IsProgramRun units (said printing options) s k status old new (map told before) (map told after)) (settings_over told policy units options before settings is) run;
  loaded = has;
  told = was;
}
