use Rattle.std.proofs.lemmas.List.{map-set}
use Rattle.emitted_code.specs.Views.{instr_of}
use Rattle.emitted_code.proofs.listing.Listing.fix.Goals as goal

pub returns-then-address-len-clause-code : goal.returns-then-address-len-clause-code
returns-then-address-len-clause-code c = map-set instr_of c.args.self.now.instrs.items c.args.address c.args.instr
