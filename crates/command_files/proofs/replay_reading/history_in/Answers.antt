use Rattle.std.proofs.Common.{arith, inl}
use Rattle.command_files.proofs.ReadFiles.{read_is}
use Rattle.command_files.proofs.replay_reading.history_in.Goals as goal

pub returns-in-Ok : goal.returns-in-Ok
returns-in-Ok g c =
    let read = c.in-Ok.ensures {u = tt} in
    record {
      read = read_is (g.F.Shelf.told c.args.shelf.now) _ c.args.file.now c.in-Ok.text.items read.reads (omega (arith, read.within));
      refused = tt;
      quiet = inl (c.read_file.ensures.quiet (λ h. absurd (cc (c.in-Ok.is, h))));
      same = c.read_file.ensures.same;
      later = c.read_file.ensures.later;
      had = read.had;
      asked = c.read_file.ensures.asked;
      may = c.read_file.ensures.may;
    }
