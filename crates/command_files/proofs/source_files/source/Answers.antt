use Rattle.std.proofs.Common.{arith, inl, refl}
use Rattle.command_files.proofs.ReadFiles.{read_is}
use Rattle.command_files.proofs.source_files.source.Goals as goal

pub returns-in-Ok : goal.returns-in-Ok
returns-in-Ok g c =
    let read = c.in-Ok.ensures {u = tt} in
    record {
      reads = (refl, read_is (g.F.Shelf.told c.args.shelf.now) _ c.args.name.now c.in-Ok.text.items read.reads (omega (arith, read.within)));
      same = c.read_file.ensures.same;
      later = c.read_file.ensures.later;
      quiet = inl (c.read_file.ensures.quiet (λ h. absurd (cc (c.in-Ok.is, h))));
      had = read.had;
      asked = c.read_file.ensures.asked;
      may = c.read_file.ensures.may;
    }
