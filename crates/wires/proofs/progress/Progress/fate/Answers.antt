use Rattle.std.proofs.Common.{ℕ, sym, subst, ◌∙◌}
use Rattle.net_rules.specs.Script.{seed_of}
use Rattle.wires.specs.Progress.{IsChance}
use Rattle.wires.proofs.Asking.{said_some, drawn_some, said_none, drawn_none, next_chance}
use Rattle.wires.proofs.Distances.{far_packet}
use Rattle.wires.proofs.progress.Progress.fate.Goals as goal

pub returns-in-Some : goal.returns-in-Some
returns-in-Some c lines asked question fate same few index is =
    let kind = c.args.kind in
    let first = sym (c.first-found.ensures lines asked few index is.counts) ∙ c.in-Some.is in
    let P : ℕ → Type 0 = λ n. IsChance (seed_of lines) n c.args.self.now.chance in (
      said_some lines asked question fate kind c.in-Some.found same first,
      record {
        counts = c.add.ensures asked question fate same few is.counts;
        chance = subst P (sym (drawn_some lines asked question fate kind c.in-Some.found same first)) is.chance;
        left = is.left;
        quiet = far_packet asked question fate c.args.self.now.quiet c.args.self.now.left.items is.quiet;
      },
    )

pub returns-in-None : goal.returns-in-None
returns-in-None c lines asked question fate same few index is =
    let kind = c.args.kind in
    let first = sym (c.first-found.ensures lines asked few index is.counts) ∙ c.in-None.is in
    let step = next_chance (seed_of lines) _ c.args.self.now.chance c.next.new.self c.next.result is.chance c.next.ensures.fate c.next.ensures.source c.next.ensures.percent in
    let P : ℕ → Type 0 = λ n. IsChance (seed_of lines) n c.next.new.self in (
      step.0 ∙ sym (said_none lines asked kind first),
      record {
        counts = c.add.ensures asked question fate same few is.counts;
        chance = subst P (sym (drawn_none lines asked question fate kind same first)) step.1;
        left = is.left;
        quiet = far_packet asked question fate c.args.self.now.quiet c.args.self.now.left.items is.quiet;
      },
    )
