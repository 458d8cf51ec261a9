-- Each letter that a member sends in its part is its own.
use Rattle.std.proofs.Common.{◌≡◌, ◌<◌, ◌*◌, ℕ, List, [], ◌∷◌, ◌++◌, All, map, refl, sym, subst}
use Rattle.std.proofs.lemmas.Bool.{and_parts, ltb-true}
use Rattle.std.proofs.lemmas.List.Elements.{All-nil, All-push}
use Rattle.value_core.specs.declared.message.Message.{Message}
use Rattle.group_law.specs.Promise.{Conditions, ConditionsLaw}
use Rattle.group_law.specs.Sends.{RowsSend, Sends, SendsLaw, Use}
use Rattle.group_rules.specs.Messages.{Group}
use Rattle.group_rules.specs.Work.{Act}
use Rattle.group_rules.specs.World.{PacketsLaw}
use Rattle.std.specs.Prelude.{nat_lt}
use Rattle.world_rules.specs.Frame.{Frame, group}
use Rattle.world_rules.specs.Mail.{Mail, posted}
use Rattle.world_rules.specs.Nodes.{Deed, mails_of}
use Rattle.world_rules.specs.Nodes.Deed.{Acts}
use Rattle.world_rules.specs.Worlds.{World, group_world}
use Rattle.world_law.specs.Grouped.{Grouped}
use Rattle.world_law.specs.Moments.{Lives}
use Rattle.node_rules.specs.Starts.{Start}
use Rattle.world_calls.proofs.Beginning.{MayStart}
use Rattle.run_law.specs.Sending.{SendsOwn}
use Rattle.run_law.proofs.Deeds.{Rows, StaysWith, has_part}

-- the group's laws that this stands on
pub record Laws : Type 0 where
  pub sends : SendsLaw Message
  pub calls : ConditionsLaw Message
  pub packets : PacketsLaw Message

pub rows_of : Laws → (f : Frame) → 2 * (group f).resilience < (group f).nodes → (w : World) (m : ℕ) → Grouped f w → Lives f w m → Rows f w m
rows_of laws f small w m grouped lives =
    let conditions : Conditions (group f) (group_world w) = subst (Conditions (group f)) (sym grouped.run) (laws.calls (group f) small grouped.events) in
    record {
      rows = subst (RowsSend (group f)) (sym grouped.run) (laws.sends (group f) small grouped.events);
      low = ltb-true m f.settings.nodes (and_parts (nat_lt m f.settings.nodes) (w.lives m) lives).0;
      sent = λ letter may. let comes = may.1 in laws.packets w.past.letters letter comes.sent;
      known = λ letter may. let comes = may.1 in conditions.sender letter.packet (laws.packets w.past.letters letter comes.sent);
    }

abbrev IsFrom : ℕ → ℕ → Mail → Type 0
IsFrom nodes m mail = (posted nodes mail).from ≡ m

acts_own : (g : Group Message) (m : ℕ) (uses : List Use) (acts : List (Act Message)) (deeds : List Deed) → Sends g m uses acts →
    All (IsFrom g.nodes m) (mails_of deeds) → All (IsFrom g.nodes m) (mails_of (map Acts acts ++ deeds))
acts_own g m uses [] deeds t h = h
acts_own g m uses (Act.Sends letter ∷ acts) deeds t h =
    let goes = t.0 in
    All-push (IsFrom g.nodes m) (mails_of (map Acts acts ++ deeds)) (Mail.Grouped letter) (acts_own g m uses acts deeds t.1 h) goes.from
acts_own g m uses (Act.Keeps packet ∷ acts) deeds t h = acts_own g m uses acts deeds t.1 h
acts_own g m uses (Act.Orders k x ∷ acts) deeds t h = acts_own g m uses acts deeds t h
acts_own g m uses (Act.Begins k log answers ∷ acts) deeds t h = acts_own g m uses acts deeds t h

stays_own : (g : Group Message) (m : ℕ) → StaysWith g m (λ n deeds. All (IsFrom g.nodes m) (mails_of deeds))
stays_own g m = record {
  submits = λ n x deeds h. h;
  acts = λ n uses acts deeds t h. acts_own g m uses acts deeds t h;
  mails = λ n incarnation to errand deeds h.
      All-push (IsFrom g.nodes m) (mails_of deeds) (Mail.Sends incarnation m to errand) h refl;
  performs = λ n line deeds h. h;
}

pub sends_own : (f : Frame) (w : World) (m : ℕ) (start : Start) → Rows f w m → MayStart f w m start → SendsOwn f w m start
sends_own f w m start rows may =
    has_part f w m (λ n deeds. All (IsFrom f.settings.nodes m) (mails_of deeds)) (stays_own (group f) m) rows (λ n lines deeds h. h) start may
    (All-nil (IsFrom f.settings.nodes m))
