-- Worked bytes, computed.
use Rattle.std.proofs.Common.{◌≡◌, ◌++◌, [], ◌∷◌, refl, take}
use Rattle.std.specs.Prelude.{Err}
use Rattle.packet_bytes.specs.declared.fault.PacketError.TheVariants.{Short, BadTag, BadField, Trailing}
use Rattle.packet_bytes.specs.Reading as fields
use Rattle.packet_bytes.specs.Spelling as bytes
use Rattle.group_join.specs.Examples.{next, next_bytes, seek, seek_bytes, state, state_bytes}
use Rattle.group_join.specs.Reading as reading
use Rattle.group_join.specs.Reading.{join_at}
use Rattle.group_join.specs.Spelling as spelling
use Rattle.group_join.specs.Spelling.{join_spelling}

pub seek_is : join_spelling seek ≡ seek_bytes
unfolding bytes.eight
seek_is = refl

pub next_is : join_spelling next ≡ next_bytes
unfolding bytes.eight bytes.two bytes.four bytes.message_spelling bytes.object_spelling
next_is = refl

pub state_is : join_spelling state ≡ state_bytes
unfolding bytes.eight bytes.two bytes.four bytes.object_spelling bytes.messages_spelling spelling.state_spelling spelling.objects_spelling spelling.one_spelling spelling.values_spelling
state_is = refl

pub empty_is : join_at [] ≡ Err (Short 0)
unfolding reading.join_at
empty_is = refl

pub tag_is : join_at (4 ∷ []) ≡ Err (BadTag 0)
unfolding reading.join_at
tag_is = refl

pub short_is : join_at (take 8 seek_bytes) ≡ Err (Short 8)
unfolding reading.join_at reading.content_at reading.seek_at
short_is = refl

pub trailing_is : join_at (seek_bytes ++ 0 ∷ []) ≡ Err (Trailing 9)
unfolding reading.join_at reading.content_at reading.seek_at
trailing_is = refl

pub field_is : join_at (take 19 next_bytes ++ 4 ∷ []) ≡ Err (BadField 19)
unfolding reading.join_at reading.content_at reading.next_at fields.message_at fields.choice_at
field_is = refl
