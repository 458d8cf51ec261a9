use Rattle.std.proofs.Common.{◌∷◌, refl, sym, subst}
use Rattle.net_rules.specs.declared.asked.Asked.{Asked}
use Rattle.wires.specs.Progress.{IsProgress}
use Rattle.wires.proofs.progress.Progress.again.Goals as goal

pub returns-in-Packet : goal.returns-in-Packet
returns-in-Packet c lines asked few index is =
    let P : Asked → Type 0 = λ one. IsProgress lines (one ∷ asked) c.fate-fate.new.self in
    subst P (sym c.in-Packet.is) (c.fate-fate.ensures lines asked c.in-Packet.question c.in-Packet.fate refl few index is).1

pub returns-in-Act : goal.returns-in-Act
returns-in-Act c lines asked few index is =
    let P : Asked → Type 0 = λ one. IsProgress lines (one ∷ asked) c.act-act.new.self in
    subst P (sym c.in-Act.is) (c.act-act.ensures lines asked c.in-Act.event_number c.in-Act.act is).1
