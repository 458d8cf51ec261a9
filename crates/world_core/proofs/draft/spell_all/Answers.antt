use Rattle.std.proofs.Common.{◌+◌, List, length, refl, subst, arith}
use Rattle.std.proofs.lemmas.List.{take_all}
use Rattle.std.proofs.lemmas.Option.{slice_get_read}
use Rattle.value_core.specs.declared.action.Reply.{Reply}
use Rattle.value_core.specs.declared.message.Message.{Message}
use Rattle.group_member.specs.declared.sends.Letter.{Letter}
use Rattle.world_core.specs.Drafting.{HasSpelled}
use Rattle.world_core.proofs.Spelled.{letter_sound, spelled_first, spelled_next}
use Rattle.world_core.proofs.draft.spell_all.Goals as goal

pub letters-init : goal.letters-init
letters-init c = spelled_first c.args.from c.args.outgoing.now.items

pub write_letter-requires : goal.write_letter-requires
write_letter-requires c =
    letter_sound c.args.letters.now c.letters.letter-index c.letter-item.result c.requires
    (slice_get_read c.args.letters.now (length c.args.letters.now) c.letters.letter-index c.letter-item.result refl c.letters-test.true c.letter-item.is)

pub letters-preserved : goal.letters-preserved
letters-preserved c =
    spelled_next c.args.from c.letters.letter-index (c.letters.letter-index + 1) c.args.letters.now c.letter-item.result c.in_ok-one.one c.args.outgoing.now.items c.letters.outgoing.items _ (omega arith)
    (slice_get_read c.args.letters.now (length c.args.letters.now) c.letters.letter-index c.letter-item.result refl c.letters-test.true c.letter-item.is) (c.in_ok-one.ensures {u = tt}) (c.in_ok-push.ensures {u = tt}).items c.letters.invariant

pub returns : goal.returns
returns c =
    subst (λ (l : List (Letter Message Reply)). HasSpelled c.args.from l c.args.outgoing.now.items c.letters.outgoing.items) (take_all c.letters.letter-index c.args.letters.now (omega arith)) c.letters.invariant
