use Rattle.packet_bytes.proofs.Found.{one_message, one_packet, packet_sound}
use Rattle.packet_bytes.proofs.Lengths.{message_long, packet_long, packet_told}
use Rattle.packet_bytes.proofs.laws.spelling_law.Goals as goal

pub returns-clause-prefix : goal.returns-clause-prefix
returns-clause-prefix c = λ p q behind more is other same. one_packet p q behind more is other same

pub returns-clause-message_prefix : goal.returns-clause-message_prefix
returns-clause-message_prefix c = λ m n behind more is other same. one_message m n behind more is other same

pub returns-clause-message_length : goal.returns-clause-message_length
returns-clause-message_length c = λ m. message_long m

pub returns-clause-length : goal.returns-clause-length
returns-clause-length c = λ p. packet_long p

pub returns-clause-told : goal.returns-clause-told
returns-clause-told c = λ p. packet_told p

pub returns-clause-sound : goal.returns-clause-sound
returns-clause-sound c = λ p is. packet_sound p is
