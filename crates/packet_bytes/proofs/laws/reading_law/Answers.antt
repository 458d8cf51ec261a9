use Rattle.std.proofs.Common.{refl}
use Rattle.packet_bytes.specs.Spelling.{packet_spelling}
use Rattle.packet_bytes.proofs.Found.{message_read, packet_takes, packet_again}
use Rattle.packet_bytes.proofs.MessageLaws.{message_again}
use Rattle.packet_bytes.proofs.laws.reading_law.Goals as goal

pub returns-clause-found : goal.returns-clause-found
returns-clause-found c = λ end bytes x fits e. message_read end bytes x fits e

pub returns-clause-again : goal.returns-clause-again
returns-clause-again c = λ end m behind is. message_again end m is behind

pub returns-clause-packet_found : goal.returns-clause-packet_found
returns-clause-packet_found c = λ bytes p fits e. packet_takes bytes p fits e

pub returns-clause-packet_again : goal.returns-clause-packet_again
returns-clause-packet_again c = λ p is. packet_again (packet_spelling p) p is refl
