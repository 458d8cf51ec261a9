-- One question more, by a script.
use Rattle.std.proofs.Common.{◌≡◌, ℕ, ◌+◌, false, cond, List, ◌∷◌, get_or, ap, sym, zero-add, ◌∙◌, arith}
use Rattle.std.specs.Prelude.{Option, Some, None, ◌%◌, is_none, nat_lt, option_and_then}
use Rattle.std.specs.List.{find, position_from, remove}
use Rattle.std.specs.Option.{option_map_or}
use Rattle.std.proofs.lemmas.Bool.Decides.{nat_tests}
use Rattle.group_packets.specs.declared.packet.PacketKind.{PacketKind}
use Rattle.rand_pcg.specs.Pcg.{pcg32}
use Rattle.net_rules.specs.declared.asked.Asked.{Asked}
use Rattle.net_rules.specs.declared.asked.Asked.TheVariants.{Packet, Act}
use Rattle.net_rules.specs.declared.asked.Question.{Question}
use Rattle.net_rules.specs.declared.fate.Fate.{Fate}
use Rattle.net_rules.specs.declared.fate.Fate.TheVariants.{Pass, Drop}
use Rattle.net_rules.specs.declared.fate.WireAct.{WireAct}
use Rattle.net_rules.specs.declared.line.Kinds.TheVariants.{Any, Only}
use Rattle.net_rules.specs.declared.line.ScriptLine.{ScriptLine}
use Rattle.net_rules.specs.Asked.{count}
use Rattle.net_rules.specs.Script.{act_of, decides, deciding, drawn, fate_by_chance, is_due, left, lost_or_passed, script_act, script_fate, seed_of, without_first}
use Rattle.net_rules.specs.Words.{generator, next_word}
use Rattle.wires.specs.declared.chance.Chance.{Chance}
use Rattle.wires.specs.declared.counts.Counts.{Counts}
use Rattle.wires.specs.Counts.{AreCounts}
use Rattle.wires.specs.declared.lines.Found.{Found}
use Rattle.wires.specs.Index.{first_from}
use Rattle.wires.specs.Progress.{IsChance}
use Rattle.wires.proofs.Firsts.{fate_found, none_found}
use Rattle.wires.proofs.Places.{nowhere, somewhere}
use Rattle.wires.proofs.Seeds.{behind_more}
use Rattle.wires.proofs.Told.{count_more}

-- a line says the fate: no word is drawn
pub said_some : (lines : List ScriptLine) (asked : List Asked) (question : Question) (fate : Fate) (kind : PacketKind) (found : Found) → question.kind ≡ kind →
    first_from (decides asked kind) 0 lines ≡ Some found → found.fate ≡ script_fate lines asked kind
said_some lines asked question fate kind found same e =
    let d = fate_by_chance (seed_of lines) (drawn lines asked) in
    sym (sym (fate_found (decides asked kind) 0 lines d) ∙ ap (λ o. option_map_or (λ (f : Found). f.fate) o d) e)

drawn_by : (lines : List ScriptLine) (asked : List Asked) (question : Question) (fate : Fate) (kind : PacketKind) (found : Option Found) → question.kind ≡ kind →
    first_from (decides asked kind) 0 lines ≡ found → drawn lines (Packet question fate ∷ asked) ≡ cond (is_none found) 1 0 + drawn lines asked
drawn_by lines asked question fate kind found same e =
    ap (λ k. cond (is_none (deciding lines asked k)) 1 0 + drawn lines asked) same
    ∙ ap (λ b. cond b 1 0 + drawn lines asked) (sym (none_found (decides asked kind) 0 lines) ∙ ap is_none e)

pub drawn_some : (lines : List ScriptLine) (asked : List Asked) (question : Question) (fate : Fate) (kind : PacketKind) (found : Found) → question.kind ≡ kind →
    first_from (decides asked kind) 0 lines ≡ Some found → drawn lines (Packet question fate ∷ asked) ≡ drawn lines asked
drawn_some lines asked question fate kind found same e = drawn_by lines asked question fate kind (Some found) same e ∙ omega arith

-- none does: one is
pub said_none : (lines : List ScriptLine) (asked : List Asked) (kind : PacketKind) → first_from (decides asked kind) 0 lines ≡ None →
    script_fate lines asked kind ≡ fate_by_chance (seed_of lines) (drawn lines asked)
said_none lines asked kind e =
    let d = fate_by_chance (seed_of lines) (drawn lines asked) in
    sym (fate_found (decides asked kind) 0 lines d) ∙ ap (λ o. option_map_or (λ (f : Found). f.fate) o d) e

pub drawn_none : (lines : List ScriptLine) (asked : List Asked) (question : Question) (fate : Fate) (kind : PacketKind) → question.kind ≡ kind →
    first_from (decides asked kind) 0 lines ≡ None → drawn lines (Packet question fate ∷ asked) ≡ drawn lines asked + 1
drawn_none lines asked question fate kind same e = drawn_by lines asked question fate kind None same e ∙ omega arith

-- no word is below 0
never_lost : (word : ℕ) → lost_or_passed 0 word ≡ Pass
never_lost word =
    let no : nat_lt (word % 100) 0 ≡ false = grind (arith, nat_tests) in
    ap (λ b. cond b Drop Pass) no

-- the next word
pub next_chance : (o : Option (ℕ × ℕ)) (n : ℕ) (old new : Chance) (fate : Fate) → IsChance o n old → fate ≡ lost_or_passed old.percent (next_word old.source) →
    new.source ≡ (pcg32 old.source).1 → new.percent ≡ old.percent → (fate ≡ fate_by_chance o n) × IsChance o (n + 1) new
next_chance None n old new fate was is source percent =
    (is ∙ ap (λ p. lost_or_passed p (next_word old.source)) was ∙ never_lost (next_word old.source), percent ∙ was)
next_chance (Some (seed, limit)) n old new fate was is source percent = (
  is ∙ ap (λ p. lost_or_passed p (next_word old.source)) was.0 ∙ ap (λ g. lost_or_passed limit (next_word g)) was.1,
  (percent ∙ was.0, source ∙ ap (λ g. (pcg32 g).1) was.1 ∙ sym (behind_more n (generator seed))),
)

-- an act isn't counted
pub counts_act : (asked : List Asked) (number : ℕ) (act : Option WireAct) (counts : Counts) → AreCounts asked counts → AreCounts (Act number act ∷ asked) counts
counts_act asked number act counts are = record {
  all = are.all ∙ sym (count_more Any (Act number act) asked ∙ zero-add (count Any asked));
  kinds = λ kind. are.kinds kind ∙ sym (count_more (Only kind) (Act number act) asked ∙ zero-add (count (Only kind) asked));
}

-- no act is due
pub no_act : (lines acts : List ScriptLine) (asked : List Asked) → acts ≡ left lines asked → position_from (is_due asked) 0 acts ≡ None →
    (script_act lines asked ≡ None) × (acts ≡ without_first (is_due asked) (left lines asked))
no_act lines acts asked is e =
    let w = nowhere (is_due asked) 0 acts e in (
      ap (λ ls. option_and_then act_of (find (is_due asked) ls)) (sym is) ∙ ap (option_and_then act_of) w.found,
      sym w.rest ∙ ap (without_first (is_due asked)) is,
    )

-- one is
pub one_act : (lines acts now : List ScriptLine) (asked : List Asked) (place : ℕ) (line : ScriptLine) → acts ≡ left lines asked → position_from (is_due asked) 0 acts ≡ Some place →
    line ≡ get_or acts place line → now ≡ remove acts place → (act_of line ≡ script_act lines asked) × (now ≡ without_first (is_due asked) (left lines asked))
one_act lines acts now asked place line is e there rest =
    let w = somewhere (is_due asked) 0 place acts e in
    let at : w.place ≡ place = let n = w.at in omega arith in (
      ap act_of there ∙ ap (λ k. act_of (get_or acts k line)) (sym at) ∙ sym (ap (option_and_then act_of) (w.found line)) ∙ ap (λ ls. option_and_then act_of (find (is_due asked) ls)) is,
      rest ∙ ap (remove acts) (sym at) ∙ w.rest ∙ ap (without_first (is_due asked)) is,
    )
