use Rattle.std.proofs.Common.{◌≡◌, ◌++◌, take}
use Rattle.refusal_notes.specs.Notes.{filled}
use Rattle.refusal_notes.proofs.whole.put_text.Given as goal

abbrev pub invariant-bytes : goal.invariant-bytes
invariant-bytes l = l.out.items ≡ l.initial.out.items ++ filled l.spoken (take l.byte-index l.text)
