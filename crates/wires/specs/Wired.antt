-- What wires tell of themselves, and how each of the three answers.
use Rattle.std.specs.Prelude.{◌≡◌, ◌≤◌, ℕ, List, [], ◌∷◌, Option, None, length, reverse}
use Rattle.net_rules.specs.declared.asked.Asked.{Asked}
use Rattle.net_rules.specs.declared.asked.Asked.TheVariants.{Packet, Act}
use Rattle.net_rules.specs.declared.asked.Question.{Question}
use Rattle.net_rules.specs.declared.fate.Fate.{Fate}
use Rattle.net_rules.specs.declared.fate.WireAct.{WireAct}
use Rattle.net_rules.specs.declared.fate.Fate.TheVariants.{Pass}
use Rattle.net_rules.specs.declared.line.ScriptLine.{ScriptLine}
use Rattle.net_rules.specs.Answered.{Answers}
use Rattle.net_rules.specs.Script.{script_act, script_fate, seeded_fate}

-- how a wire answers: what happens to a packet, by all that is asked about it, and which act it gives before the event of a number, each by what
-- it was asked before, latest first
pub record Answering : Type 0 where
  pub fate : List Asked → Question → Fate
  pub act : List Asked → ℕ → Option WireAct

-- the answer is that
abbrev pub IsSo : Answering → List Asked → Asked → Type 0
IsSo answering before (Packet question fate) = fate ≡ answering.fate before question
IsSo answering before (Act event_number act) = act ≡ answering.act before event_number

-- each answer is that, but for the first so many
abbrev pub AreSoBehind : ℕ → Answering → List Asked → Type 0
AreSoBehind first answering [] = Unit {0}
AreSoBehind first answering (one ∷ before) = (first ≤ length before → IsSo answering before one) × AreSoBehind first answering before

-- how a wire answers by a script, and the script that it was loaded with last, the empty one before
pub record Rule : Type 0 where
  pub by : List ScriptLine → Answering
  pub script : List ScriptLine

-- the same with another script
abbrev pub with_script : List ScriptLine → Rule → Rule
with_script lines rule = record rule { script = lines }

-- what a wire was asked it answered by its rule, but for so much that it was asked before its script was loaded
abbrev pub HasObeyed : Rule → ℕ → List Asked → Type 0
HasObeyed rule loaded told = AreSoBehind loaded (rule.by rule.script) (reverse told)

-- by the kinds of packets alone
abbrev pub by_kind : Answers → Answering
by_kind answers = record { fate = λ before question. answers.fate before question.kind; act = λ before number. answers.act before }

-- what it was asked in order of time, its script, how much it was asked before that was loaded, and for how many questions it has room
pub record Wired : Type 0 where
  pub told : List Asked
  pub script : List ScriptLine
  pub loaded : ℕ
  pub spare : ℕ

-- the same, and by which seed and percentage it drops packets
pub record Seeded : Type 0 where
  pub kept : Wired
  pub seed : ℕ
  pub percent : ℕ

-- every packet passes, and no act comes
abbrev pub plain : Answers
plain = record { fate = λ asked kind. Pass; act = λ asked. None }

-- packets are dropped by random words alone, and no act comes
abbrev pub by_seed : ℕ → ℕ → Answers
by_seed seed percent = record { fate = λ asked kind. seeded_fate seed percent asked; act = λ asked. None }

-- by a script
abbrev pub by_script : List ScriptLine → Answers
by_script lines = record { fate = script_fate lines; act = script_act lines }

-- ---- the rules of the three

abbrev pub passing : List ScriptLine → Rule
passing lines = record { by = λ script. by_kind plain; script = lines }

abbrev pub scripted : List ScriptLine → Rule
scripted lines = record { by = λ script. by_kind (by_script script); script = lines }

abbrev pub drawing : ℕ → ℕ → List ScriptLine → Rule
drawing seed percent lines = record { by = λ script. by_kind (by_seed seed percent); script = lines }
