-- How far acts are.
use Rattle.std.proofs.Common.{◌≡◌, ℕ, ◌+◌, ◌-◌, ◌<◌, ◌≤◌, Bool, true, false, cond, List, [], ◌∷◌, ◌++◌, length, get_or, take, drop, ap, refl, sym, subst, ◌∙◌, arith}
use Rattle.std.specs.Prelude.{Option, Some, None, min, nat_le}
use Rattle.std.specs.List.{AllByRecursion, position_from}
use Rattle.std.proofs.lemmas.Bool.Decides.{nat_tests}
use Rattle.std.proofs.lemmas.List.{take_all, take_more, drop_all}
use Rattle.net_rules.specs.declared.asked.Asked.{Asked}
use Rattle.net_rules.specs.declared.asked.Asked.TheVariants.{Packet, Act as Did}
use Rattle.net_rules.specs.declared.asked.Question.{Question}
use Rattle.net_rules.specs.declared.fate.Fate.{Fate as PacketFate}
use Rattle.net_rules.specs.declared.fate.WireAct.{WireAct}
use Rattle.net_rules.specs.declared.line.Kinds.{Kinds}
use Rattle.net_rules.specs.declared.line.Kinds.TheVariants.{Any}
use Rattle.net_rules.specs.declared.line.ScriptLine.{ScriptLine}
use Rattle.net_rules.specs.declared.line.ScriptLine.TheVariants.{Fate, Act, Seed}
use Rattle.net_rules.specs.Asked.{count, is_of}
use Rattle.net_rules.specs.Script.{is_due, without_first}
use Rattle.wires.specs.Due.{IsFar}
use Rattle.wires.proofs.Places.{at_place}
use Rattle.wires.proofs.Told.{count_more}

abbrev Lines : Type 0
Lines = List ScriptLine

-- what holds of each
each_more : (P Q : ScriptLine → Type 0) (acts : Lines) → ((line : ScriptLine) → P line → Q line) → AllByRecursion P acts → AllByRecursion Q acts
each_more P Q [] f all = all
each_more P Q (line ∷ acts) f all = (f line all.0, each_more P Q acts f all.1)

each_push : (P : ScriptLine → Type 0) (acts : Lines) (line : ScriptLine) → AllByRecursion P acts → P line → AllByRecursion P (acts ++ line ∷ [])
each_push P [] line all holds = (holds, all)
each_push P (x ∷ acts) line all holds = (all.0, each_push P acts line all.1 holds)

without-sort : (P : ScriptLine → Type 0) (line : ScriptLine) (acts rest : Lines) (b : Bool) → P line → AllByRecursion P acts → AllByRecursion P rest →
    AllByRecursion P (cond b acts (line ∷ rest))
without-sort P line acts rest true one all more = all
without-sort P line acts rest false one all more = (one, more)

pub without : (P : ScriptLine → Type 0) (p : ScriptLine → Bool) (acts : Lines) → AllByRecursion P acts → AllByRecursion P (without_first p acts)
without P p [] all = all
without P p (line ∷ acts) all = without-sort P line acts (without_first p acts) (p line) all.0 all.1 (without P p acts all.1)

-- at the beginning nothing is known
pub far_none : (acts : Lines) → AllByRecursion (IsFar [] 0) acts
far_none [] = tt
far_none (Fate kinds which fate ∷ acts) = (tt, far_none acts)
far_none (Act kinds number act ∷ acts) = (omega arith, far_none acts)
far_none (Seed seed percent ∷ acts) = (tt, far_none acts)

-- a packet brings each act nearer by one at most
counted : (b : Bool) (n : ℕ) → cond b 1 0 + n ≤ 1 + n
counted true n = omega arith
counted false n = omega arith

nearer : (asked : List Asked) (question : Question) (fate : PacketFate) (packets : ℕ) (line : ScriptLine) → IsFar asked packets line → IsFar (Packet question fate ∷ asked) packets line
nearer asked question fate packets (Fate kinds which f) far = tt
nearer asked question fate packets (Act kinds number act) far =
    let one = count_more kinds (Packet question fate) asked in
    let all = count_more Any (Packet question fate) asked in
    let most = counted (is_of kinds question.kind) (count kinds asked) in
    omega arith
nearer asked question fate packets (Seed seed percent) far = tt

pub far_packet : (asked : List Asked) (question : Question) (fate : PacketFate) (packets : ℕ) (acts : Lines) → AllByRecursion (IsFar asked packets) acts →
    AllByRecursion (IsFar (Packet question fate ∷ asked) packets) acts
far_packet asked question fate packets acts all =
    each_more (IsFar asked packets) (IsFar (Packet question fate ∷ asked) packets) acts (λ line far. nearer asked question fate packets line far) all

-- a question for an act brings none
as_near : (asked : List Asked) (number : ℕ) (did : Option WireAct) (packets : ℕ) (line : ScriptLine) → IsFar asked packets line → IsFar (Did number did ∷ asked) packets line
as_near asked number did packets (Fate kinds which f) far = tt
as_near asked number did packets (Act kinds n act) far =
    let one = count_more kinds (Did number did) asked in
    let all = count_more Any (Did number did) asked in
    omega arith
as_near asked number did packets (Seed seed percent) far = tt

pub far_act : (asked : List Asked) (number : ℕ) (did : Option WireAct) (packets : ℕ) (acts : Lines) → AllByRecursion (IsFar asked packets) acts →
    AllByRecursion (IsFar (Did number did ∷ asked) packets) acts
far_act asked number did packets acts all = each_more (IsFar asked packets) (IsFar (Did number did ∷ asked) packets) acts (λ line far. as_near asked number did packets line far) all

-- what is far isn't due
far_line : (asked : List Asked) (packets : ℕ) (line : ScriptLine) → count Any asked < packets → IsFar asked packets line → is_due asked line ≡ false
far_line asked packets (Fate kinds which f) before far = refl
far_line asked packets (Act kinds number act) before far =
    let above : count kinds asked < number = omega arith in
    grind (arith, nat_tests)
far_line asked packets (Seed seed percent) before far = refl

pub none_due : (asked : List Asked) (packets place : ℕ) (acts : Lines) → count Any asked < packets → AllByRecursion (IsFar asked packets) acts → position_from (is_due asked) place acts ≡ None
none_due asked packets place [] before all = refl
none_due asked packets place (line ∷ acts) before all =
    ap (λ b. cond b (Some place) (position_from (is_due asked) (place + 1) acts)) (far_line asked packets line before all.0) ∙ none_due asked packets (place + 1) acts before all.1

-- how far a line is that isn't due
pub reach_is : (asked : List Asked) (kinds : Kinds) (number counted all left reach : ℕ) → counted ≡ count kinds asked → all ≡ count Any asked → nat_le number (count kinds asked) ≡ false →
    left ≡ number - counted → reach ≡ min (left + all) 18446744073709551615 → reach + count kinds asked ≤ number + count Any asked
reach_is asked kinds number so_far all left reach one any apart sub add =
    let above : count kinds asked < number = grind (arith, nat_tests) in
    omega arith

-- one act more
pub goes_on : (asked : List Asked) (place : ℕ) (acts : Lines) (d : ScriptLine) (packets reach after : ℕ) → place < length acts → is_due asked (get_or acts place d) ≡ false →
    IsFar asked reach (get_or acts place d) → after ≡ min packets reach →
    (position_from (is_due asked) place (drop place acts) ≡ position_from (is_due asked) 0 acts) × AllByRecursion (IsFar asked packets) (take place acts) →
    (position_from (is_due asked) (place + 1) (drop (place + 1) acts) ≡ position_from (is_due asked) 0 acts) × AllByRecursion (IsFar asked after) (take (place + 1) acts)
goes_on asked place acts d packets reach after below apart far least was =
    let P = IsFar asked after in
    let le : after ≤ packets = omega arith in
    let le' : after ≤ reach = omega arith in (
      sym (ap (λ b. cond b (Some place) (position_from (is_due asked) (place + 1) (drop (place + 1) acts))) apart) ∙ sym (at_place (is_due asked) place acts d below) ∙ was.0,
      subst (λ (xs : Lines). AllByRecursion P xs) (sym (take_more acts place d below))
          (each_push P (take place acts) (get_or acts place d) (each_more (IsFar asked packets) P (take place acts) (λ line f. less asked packets after line le f) was.1) (less asked reach after (get_or acts place d) le' far)),
    )
  where
    less : (asked : List Asked) (packets after : ℕ) (line : ScriptLine) → after ≤ packets → IsFar asked packets line → IsFar asked after line
    less asked packets after (Fate kinds which f) le far = tt
    less asked packets after (Act kinds number act) le far = omega arith
    less asked packets after (Seed seed percent) le far = tt

-- no act is left
pub ends : (asked : List Asked) (place : ℕ) (acts : Lines) (packets : ℕ) → length acts ≤ place →
    (position_from (is_due asked) place (drop place acts) ≡ position_from (is_due asked) 0 acts) × AllByRecursion (IsFar asked packets) (take place acts) →
    (position_from (is_due asked) 0 acts ≡ None) × AllByRecursion (IsFar asked packets) acts
ends asked place acts packets past was = (
  sym was.0 ∙ ap (λ (xs : Lines). position_from (is_due asked) place xs) (drop_all place acts past),
  subst (λ (xs : Lines). AllByRecursion (IsFar asked packets) xs) (take_all place acts past) was.1,
)
