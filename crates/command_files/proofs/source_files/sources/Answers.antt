use Rattle.std.proofs.Common.{◌∙◌, List, [], append-nil, get_or, map, refl, subst, sym}
use Rattle.std.specs.Borrow.{Bor}
use Rattle.orca_front.specs.declared.source.SourceFile.{SourceFile}
use Rattle.command_files.specs.Sources.{Word}
use Rattle.command_files.proofs.ReadFiles.{ReadSoFar, all_read, stopped_since, fault_next, none_read, only_left, reads_more, reads_since, since_none, stops_next}
use Rattle.orca_front.specs.Sources.{file_of}
use Rattle.orca_io.specs.Reading.{ReadSince, had}
use Rattle.command_files.specs.Stopped.{StoppedAt}
use Rattle.command_files.proofs.AskedFiles.{asked_all, asked_next, asked_none, since_more}
use Rattle.command_files.proofs.source_files.sources.Goals as goal

abbrev none : Bor Word
none = record { ref_ptr = (0, 0); now = [] }

pub files-init : goal.files-init
files-init g c = record {
  read = subst (λ (l : List SourceFile). ReadSoFar (g.F.Shelf.told c.args.shelf.now) c.args.files.now 0 l) (sym c.new-sources.ensures.items) (none_read (g.F.Shelf.told c.args.shelf.now) c.args.files.now);
  same = refl;
  quiet = refl;
  had = subst (λ (l : List SourceFile). ReadSince (g.F.Shelf.reads c.args.shelf.now) (g.F.Shelf.reads c.args.shelf.now) (map had (map file_of l))) (sym c.new-sources.ensures.items) (since_none _);
  may = refl;
}

pub files-preserved : goal.files-preserved
files-preserved g c =
    let so_far = c.files.invariant in
    let one = c.in-Ok.ensures {u = tt} in
    let read = rw so_far.same at one.reads in
    record {
      read = reads_more (g.F.Shelf.told c.args.shelf.now) c.args.files.now c.files.file-index (get_or c.args.files.now c.files.file-index none) none c.files.sources.items c.push.new.self.items c.in-Ok.source c.files-test.true refl (c.in_ok-push-in-Ok.ensures {u = tt}).items so_far.read read.0 read.1;
      same = one.same ∙ so_far.same;
      quiet = only_left one.quiet ∙ so_far.quiet;
      had = since_more (g.F.Shelf.reads c.args.shelf.now) (g.F.Shelf.reads c.files.shelf) (g.F.Shelf.reads c.source.new.shelf) c.files.sources.items c.push.new.self.items c.in-Ok.source (c.in_ok-push-in-Ok.ensures {u = tt}).items so_far.had one.had;
      may = one.may ∙ so_far.may;
    }

pub returns-in-Err-clause-refused : goal.returns-in-Err-clause-refused
returns-in-Err-clause-refused g c =
    let so_far = c.files.invariant in
    let before = g.F.Shelf.faults c.args.shelf.now in
    let mid = g.F.Shelf.faults c.files.shelf in
    let now = g.F.Shelf.faults c.source.new.shelf in
    let old = g.F.Shelf.reads c.args.shelf.now in
    let between = g.F.Shelf.reads c.files.shelf in
    let new = g.F.Shelf.reads c.source.new.shelf in
    fault_next _ (g.F.Shelf.told c.args.shelf.now) (StoppedAt before now old new) _ (get_or c.args.files.now c.files.file-index none).now c.in-Err.refusal
    (stops_next (g.F.Shelf.told c.args.shelf.now) c.args.files.now c.files.file-index (get_or c.args.files.now c.files.file-index none) none c.files.sources.items c.if-files.false c.files-test.true refl so_far.read)
    (reads_since (g.F.Shelf.told c.files.shelf) (g.F.Shelf.told c.args.shelf.now) (StoppedAt mid now between new) (StoppedAt before now old new) (get_or c.args.files.now c.files.file-index none).now _ _ so_far.same
    (stopped_since before mid now old between new (map had (map file_of c.files.sources.items)) (get_or c.args.files.now c.files.file-index none).now so_far.quiet so_far.had) c.in-Err.is c.source.ensures.reads)

pub returns-clause-read : goal.returns-clause-read
returns-clause-read g c = all_read (g.F.Shelf.told c.args.shelf.now) c.args.files.now c.files.file-index c.files.sources.items c.if-files.false c.files-test.false c.files.invariant.read

pub returns-then-files-clause-asked : goal.returns-then-files-clause-asked
returns-then-files-clause-asked g c = asked_none _ _ _

pub returns-in-Err-clause-asked : goal.returns-in-Err-clause-asked
returns-in-Err-clause-asked g c =
    let so_far = c.files.invariant in
    asked_next _ _ (g.F.Shelf.told c.args.shelf.now) c.args.files.now c.files.file-index (get_or c.args.files.now c.files.file-index none) none c.files.sources.items (g.F.Shelf.reads c.args.shelf.now) (g.F.Shelf.reads c.files.shelf) (g.F.Shelf.reads c.source.new.shelf)
    c.files-test.true refl so_far.read so_far.may so_far.had c.source.ensures.asked

pub returns-in_err-push-in-Ok-clause-asked : goal.returns-in_err-push-in-Ok-clause-asked
returns-in_err-push-in-Ok-clause-asked g c =
    let so_far = c.files.invariant in
    asked_next _ _ (g.F.Shelf.told c.args.shelf.now) c.args.files.now c.files.file-index (get_or c.args.files.now c.files.file-index none) none c.files.sources.items (g.F.Shelf.reads c.args.shelf.now) (g.F.Shelf.reads c.files.shelf) (g.F.Shelf.reads c.source.new.shelf)
    c.files-test.true refl so_far.read so_far.may so_far.had c.source.ensures.asked

pub returns-clause-had : goal.returns-clause-had
returns-clause-had g c = c.files.invariant.had

pub returns-clause-asked : goal.returns-clause-asked
returns-clause-asked g c =
    let so_far = c.files.invariant in
    let read = all_read (g.F.Shelf.told c.args.shelf.now) c.args.files.now c.files.file-index c.files.sources.items c.if-files.false c.files-test.false so_far.read in
    asked_all _ (map file_of c.files.sources.items) _ [] _ _ (read.names ∙ sym (append-nil _)) so_far.had
