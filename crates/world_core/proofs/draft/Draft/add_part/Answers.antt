use Rattle.std.proofs.Common.{◌≡◌, ◌∙◌, ◌+◌, ◌++◌, ◌∷◌, [], ◌||◌, ◌&&◌, ◌==◌, not, ℕ, Bool, List, ap, subst, arith, length, append_assoc}
use Rattle.value_core.specs.declared.action.Reply.{Reply}
use Rattle.value_core.specs.declared.message.Message.{Message}
use Rattle.group_member.specs.declared.member.Member.{Member}
use Rattle.group_member.specs.declared.sends.Letter.{Letter}
use Rattle.object_manager.specs.declared.copies.Copies.{Copies}
use Rattle.book_law.specs.declared.placing.Placed.{Placed}
use Rattle.world_parts.specs.Recorded.{of_pieces}
use Rattle.world_core.specs.Drafting.{HasSpelled, behind, lines_behind}
use Rattle.world_core.proofs.Adding.{none_in}
use Rattle.world_core.proofs.draft.Draft.add_part.Goals as goal

pub returns : goal.returns
returns g c =
    let me = c.me-member.ensures ∙ ap (λ (m : Member Message Reply). m.me) c.member.ensures in
    let applied = c.applied-applied.ensures ∙ ap (λ (k : Copies). k.applied) c.copies.ensures in
    let many : c.len.result ≡ length c.args.self.now.entries.items = omega (arith, c.len.ensures, c.args.self.now.entries.ok.0) in
    record {
      parts = c.in_ok-push.ensures.items ∙ ap (λ (n : ℕ). c.args.self.now.parts.items ++ record { member = n; node = c.args.after } ∷ []) me;
      outgoing = subst (λ (n : ℕ). HasSpelled n c.args.moved.sends.items c.args.self.now.outgoing.items c.spell_all.new.outgoing.items) me
          (subst (λ (l : List (Letter Message Reply)). HasSpelled c.me-member.result l c.args.self.now.outgoing.items c.spell_all.new.outgoing.items) c.as_slice.ensures.value (c.in_ok-spell_all.ensures {u = tt}));
      entries = c.in_ok-keep_messages.ensures {u = tt}
          ∙ ap (λ (n : ℕ). c.args.self.now.entries.items ++ behind (c.args.listed + n) c.applied-applied.result c.args.moved.messages.items) many
          ∙ ap (λ (n : ℕ). c.args.self.now.entries.items ++ behind (c.args.listed + length c.args.self.now.entries.items) n c.args.moved.messages.items) applied;
      pieces = c.in_ok-keep_aside.ensures {u = tt}
          ∙ ap (λ (l : List Placed). l ++ c.args.moved.aside.items) (c.in_ok-keep_lines.ensures {u = tt}
          ∙ ap (λ (n : ℕ). of_pieces c.args.self.now.pieces.items ++ lines_behind (c.args.listed + n) c.applied-applied.result c.args.moved.entries.items) many
          ∙ ap (λ (n : ℕ). of_pieces c.args.self.now.pieces.items ++ lines_behind (c.args.listed + length c.args.self.now.entries.items) n c.args.moved.entries.items) applied)
          ∙ append_assoc (of_pieces c.args.self.now.pieces.items) (lines_behind (c.args.listed + length c.args.self.now.entries.items) c.args.before.now.copies.applied c.args.moved.entries.items) c.args.moved.aside.items;
      stirred = c.either-stirred.ensures ∙ ap (λ (b : Bool). c.args.self.now.has_stirred || b) (c.either-has_moved.ensures
          ∙ ap (λ (b : Bool). b || not c.is_empty.result) c.has_stirred.ensures
          ∙ ap (λ (b : Bool). not ((c.args.before.now.member.applied == c.args.after.member.applied) && (c.args.before.now.member.installed == c.args.after.member.installed)) || not b) (c.is_empty.ensures ∙ none_in c.args.moved.aside.items c.args.moved.aside.len c.args.moved.aside.ok.0));
    }
