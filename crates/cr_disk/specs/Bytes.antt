-- What a file in memory holds.
use Rattle.std.specs.Prelude.{ℕ, List}
use Rattle.cr_disk.specs.declared.MemoryFile.{MemoryFile}

-- what a read gives: the member `seen` of `Disk`
abbrev pub bytes_of : MemoryFile → List ℕ
bytes_of m = m.bytes.items

-- how many of its calls have failed: the member `faults`
abbrev pub faults_of : MemoryFile → ℕ
faults_of m = m.faults
