use Rattle.std.proofs.Common.{refl}
use Rattle.value_core.specs.Datum.{list_of}
use Rattle.value_ops.specs.Elements.{elements, has}
use Rattle.value_ops.proofs.Counts as counts
use Rattle.value_ops.proofs.Members.{has-Contains}
use Rattle.value_ops.proofs.Soundness as sound
use Rattle.value_ops.proofs.Soundness.{gone_from, there_from}
use Rattle.value_ops.proofs.laws.elements_law.Goals as goal

pub returns-clause-has : goal.returns-clause-has
returns-clause-has c e xs = has-Contains e xs (has e xs) refl

pub returns-clause-bag_grows : goal.returns-clause-bag_grows
returns-clause-bag_grows c = sound.bag_grows

pub returns-clause-set_grows : goal.returns-clause-set_grows
returns-clause-set_grows c e w gone = sound.set_grows e w (gone_from e (list_of w) gone)

pub returns-clause-set_stays : goal.returns-clause-set_stays
returns-clause-set_stays c e w there = sound.set_kept e w (there_from e (list_of w) there)

pub returns-clause-shrinks : goal.returns-clause-shrinks
returns-clause-shrinks c e v there = sound.shrinks e v (there_from e (elements v) there)

pub returns-clause-stays : goal.returns-clause-stays
returns-clause-stays c e v gone = sound.stays e v (gone_from e (elements v) gone)

pub returns-clause-from_none : goal.returns-clause-from_none
returns-clause-from_none c = counts.from_none

pub returns-clause-from_faults : goal.returns-clause-from_faults
returns-clause-from_faults c = counts.from_faults

pub returns-clause-sorted : goal.returns-clause-sorted
returns-clause-sorted c = counts.in_order_sorted

pub returns-clause-few : goal.returns-clause-few
returns-clause-few c = counts.few

pub returns-clause-short : goal.returns-clause-short
returns-clause-short c = counts.short

pub returns-clause-least : goal.returns-clause-least
returns-clause-least c = sound.least

pub returns-clause-inserted_in_order : goal.returns-clause-inserted_in_order
returns-clause-inserted_in_order c = sound.inserted_in_order

pub returns-clause-deleted_in_order : goal.returns-clause-deleted_in_order
returns-clause-deleted_in_order c = sound.deleted_in_order

pub returns-clause-rest_in_order : goal.returns-clause-rest_in_order
returns-clause-rest_in_order c = sound.without_least_in_order

pub returns-clause-inserted_sound : goal.returns-clause-inserted_sound
returns-clause-inserted_sound c = sound.inserted_sound

pub returns-clause-deleted_sound : goal.returns-clause-deleted_sound
returns-clause-deleted_sound c = sound.deleted_sound

pub returns-clause-rest_sound : goal.returns-clause-rest_sound
returns-clause-rest_sound c = sound.without_least_sound

pub returns-clause-bag_size : goal.returns-clause-bag_size
returns-clause-bag_size c = sound.bag_size

pub returns-clause-set_size : goal.returns-clause-set_size
returns-clause-set_size c e w gone = sound.set_size e w (gone_from e (list_of w) gone)

pub returns-clause-deleted_size : goal.returns-clause-deleted_size
returns-clause-deleted_size c e v there = sound.deleted_size e v (there_from e (elements v) there)
