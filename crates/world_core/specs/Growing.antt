-- What is drafted of an event's entries, and of what it performs, while its members do their parts.
use Rattle.std.specs.Prelude.{◌≡◌, ◌≤◌, ◌<◌, ◌++◌, ◌⊎◌, ℕ, suc, List, [], length, take, Some, slice_get}
use Rattle.std.specs.List.{AllByRecursion as Each}
use Rattle.value_core.specs.declared.message.Message.{Message}
use Rattle.book_law.specs.Book.{aside_at}
use Rattle.book_law.specs.declared.placing.Placed.{Placed}
use Rattle.run_law.specs.Growing.{lines_at}
use Rattle.world_rules.specs.Frame.{Frame}
use Rattle.world_rules.specs.Steps.{AtWork, has_stirred}
use Rattle.world_rules.specs.Worlds.{World, agreed}
use Rattle.node_parts.specs.Shown.{Left, Stood}
use Rattle.world_parts.specs.Recorded.{of_pieces}
use Rattle.world_parts.specs.declared.parts.Parts.{Parts}
use Rattle.world_core.specs.Drafting.{AreNodes, AreOutgoing, KeepTasks, out_in, taken}
use Rattle.world_core.specs.declared.draft.Draft.{Draft}
use Rattle.world_core.specs.declared.draft.Part.{Part}

-- of an event from w to u: these entries begin the list that it leaves, and have the old one; what was performed of the old ones is what
-- stands beside the list, of each new one its lines come first, and nothing stands behind them
pub record HasDrafted (f : Frame) (w u : World) (entries : List Message) (more beside : List Placed) : Type 0 where
  pub front : entries ≡ take (length entries) (agreed f u)
  pub least : length (agreed f w) ≤ length entries
  pub most : length entries ≤ length (agreed f u)
  pub old : (n : ℕ) → n ≤ length (agreed f w) → aside_at n more ≡ aside_at n beside
  pub new :
      (n : ℕ) (x : Message) → length (agreed f w) ≤ n → n < length entries → slice_get (agreed f u) n ≡ Some x →
      aside_at (suc n) more ≡ lines_at f u n x ++ aside_at (suc n) beside
  pub above : (n : ℕ) → length entries < n → aside_at n more ≡ []
  pub behind : (n : ℕ) → length entries < n → aside_at n beside ≡ []

-- of an event from w to `end`, whose members have done their parts up to u: the draft has what they did
pub record Progress {P S : Type 0} (stood : Stood S) (left : Left S) (f : Frame) (s : Parts P S) (w end : World) (draft : Draft P S) (u : AtWork) : Type 0 where
  pub nodes : AreNodes stood left f (taken draft.parts.items s.nodes.items) u.world
  pub letters : AreOutgoing f.settings.nodes draft.outgoing.items u.mails
  pub stirred : draft.has_stirred ≡ has_stirred f w u.world
  pub tasks : KeepTasks s.nodes.items (taken draft.parts.items s.nodes.items)
  pub outs : (m i : ℕ) → out_in (taken draft.parts.items s.nodes.items) m i ≡ out_in s.nodes.items m i
  pub members : Each (λ (part : Part P S). part.member < f.settings.nodes) draft.parts.items
  pub beside : List Placed
  pub grown : u.world.aside ≡ w.aside ++ beside
  pub drafted : HasDrafted f w end (s.ledger.entries ++ draft.entries.items) (of_pieces draft.pieces.items) beside
  pub later : (m : ℕ) → (w.nodes m).copies.applied ≤ (u.world.nodes m).copies.applied
  pub covered :
      (m : ℕ) → m < f.settings.nodes →
      ((end.nodes m).copies.applied ≤ length (s.ledger.entries ++ draft.entries.items)) ⊎ (u.world.nodes m ≡ w.nodes m)
