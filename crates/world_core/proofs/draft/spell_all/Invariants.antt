use Rattle.std.proofs.Common.{take}
use Rattle.world_core.specs.Drafting.{HasSpelled}
use Rattle.world_core.proofs.draft.spell_all.Given as goal

abbrev pub invariant-letters : goal.invariant-letters
invariant-letters l = HasSpelled l.from (take l.letter-index l.letters) l.fn.outgoing.items l.outgoing.items
