use Rattle.std.proofs.Common.{◌<◌, ◌+◌, ◌∙◌, ℕ, ap, sym, subst, refl, arith, length}
use Rattle.std.proofs.lemmas.Option.{slice_get_read}
use Rattle.value_core.specs.declared.action.Reply.{Reply}
use Rattle.value_core.specs.declared.message.Message.{Message}
use Rattle.group_member.specs.StandsFor.{IsMember}
use Rattle.group_member.specs.declared.member.Member.{Member}
use Rattle.history_buffer.specs.Window.{last_number}
use Rattle.world_parts.proofs.Leading.{longer_next}
use Rattle.world_facts.specs.Logs.{longest_below}
use Rattle.world_parts.proofs.parts.Parts.longest_log.Goals as goal

pub members-init : goal.members-init
members-init g c w is = refl

pub length-length-requires : goal.length-length-requires
length-length-requires g c =
    let s = c.args.self.now in
    let lt : c.members.member < length s.nodes.items = omega (arith, c.members-test.true, c.len-member-end.ensures, s.nodes.ok.0) in
    let found = slice_get_read s.nodes.items (length s.nodes.items) c.members.member c.index.result.now refl lt c.index.ensures in
    subst IsMember (sym c.member.ensures) (c.requires.is.nodes c.members.member c.index.result.now found).member.member

pub members-preserved : goal.members-preserved
members-preserved g c w is =
    let s = c.args.self.now in
    let lt : c.members.member < length s.nodes.items = omega (arith, c.members-test.true, c.len-member-end.ensures, s.nodes.ok.0) in
    let found = slice_get_read s.nodes.items (length s.nodes.items) c.members.member c.index.result.now refl lt c.index.ensures in
    longer_next g.P.OneRun.stood g.P.OneRun.left g.P.OneRun.run.frame s w is c.members.member (c.members.member + 1) c.index.result.now c.length-length.result _ c.members.longest (omega arith) found (c.length-length.ensures ∙ ap (λ (m : Member Message Reply). last_number m.window) c.member.ensures) (c.members.invariant w is) c.max-longest.ensures

pub returns : goal.returns
returns g c w is =
    let s = c.args.self.now in
    c.members.invariant w is ∙ ap (λ (m : ℕ). longest_below m w) (omega (arith, c.members-test.false, c.members.auto.member-end, c.len-member-end.ensures, s.nodes.ok.0, is.members))
