use Rattle.std.proofs.Common.{arith}
use Rattle.packet_bytes.proofs.Found.{packet_found, packet_found_sound, packet_only}
use Rattle.packet_bytes.proofs.reading.read_packet.Goals as goal

pub returns-clause-found : goal.returns-clause-found
returns-clause-found c = packet_found c.args.bytes.now c.packet_of.result (λ i. omega (arith, c.type_inv.bytes i)) c.packet_of.ensures

pub returns-clause-only : goal.returns-clause-only
returns-clause-only c = λ p is spelled. packet_only c.args.bytes.now c.packet_of.result c.packet_of.ensures p is spelled

pub returns-clause-sound : goal.returns-clause-sound
returns-clause-sound c = packet_found_sound c.args.bytes.now c.packet_of.result (λ i. omega (arith, c.type_inv.bytes i)) c.packet_of.ensures
