-- The writer behind a sink, and the sink's count of faults.
use Rattle.std.specs.Prelude.{ℕ}
use Rattle.orca_io.specs.declared.sink.WriterSink.{WriterSink}

abbrev pub writer_of : {W : Type 0} → WriterSink W → W
writer_of sink = sink.writer

abbrev pub faults_of : {W : Type 0} → WriterSink W → ℕ
faults_of sink = sink.faults
