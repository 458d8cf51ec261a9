use Rattle.std.proofs.Common.{rules, length}
use Rattle.std.proofs.lemmas.Slice.Zip.{zip_end}
use Rattle.replica_choice.proofs.Zipped.{text_ended}
use Rattle.replica_choice.proofs.text.choice_text.Goals as goal

pub returns : goal.returns
returns c =
    text_ended c.args.estimates.now c.args.choices.now c.sites.out.items _ (length c.sites.yielded)
    (zip_end c.args.estimates.now c.args.choices.now c.sites.yielded _ c.sites.estimate-iterator c.next.new.self c.next.result (search rules) (search rules)
    c.sites.yielded_by c.in-None.is c.next.ensures.steps)
    c.sites.invariant
