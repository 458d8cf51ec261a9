-- The shelf and the sink in memory, whose calls with given numbers fail.
use Rattle.std.specs.Prelude.{ℕ, Bool, List, IsSome, Option, Some}
use Rattle.orca_io.specs.Files.{File, content_of, files_of}
use Rattle.orca_io.specs.Reading.{FileRead, has_some}
use Rattle.orca_io.specs.declared.shelf.MemoryShelf.{MemoryShelf}
use Rattle.orca_io.specs.declared.sink.MemorySink.{MemorySink}

-- the files, all of which are told
abbrev pub told_files : MemoryShelf → Option (List File)
told_files shelf = Some (files_of shelf.files.items)

-- there is a file of this name
abbrev pub HasFile : MemoryShelf → List ℕ → Type 0
HasFile shelf name = IsSome (content_of (files_of shelf.files.items) name)

-- how many reads have failed
abbrev pub failed_reads : MemoryShelf → ℕ
failed_reads shelf = shelf.faults

-- what it was asked to read so far
abbrev pub told_reads : MemoryShelf → List FileRead
told_reads shelf = shelf.log.reads

-- the numbers of the calls that fail, counted from 1
abbrev pub failing_reads : MemoryShelf → List ℕ
failing_reads shelf = shelf.failing.items

-- whether any fails
abbrev pub may_fail_reads : MemoryShelf → Bool
may_fail_reads shelf = has_some shelf.failing.items

-- how many calls there were
abbrev pub reads_so_far : MemoryShelf → ℕ
reads_so_far shelf = shelf.calls

-- the bytes so far, all of which are told
abbrev pub told_bytes : MemorySink → Option (List ℕ)
told_bytes sink = Some sink.bytes.items

-- how many writes have failed
abbrev pub failed_writes : MemorySink → ℕ
failed_writes sink = sink.faults

-- the numbers of the calls that fail, counted from 1
abbrev pub failing_writes : MemorySink → List ℕ
failing_writes sink = sink.failing.items

-- how many calls there were
abbrev pub writes_so_far : MemorySink → ℕ
writes_so_far sink = sink.calls
