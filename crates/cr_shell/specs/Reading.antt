-- What is read byte by byte.
use Rattle.std.specs.Prelude.{ℕ, List, [], ◌∷◌, Option, Some, None, Result, Ok, Err}
use Rattle.std.specs.Io.KnownBytes.{Consumes, IsAtEnd}
use Rattle.cr_shell.specs.declared.watched.Failed.{Failed}

-- the byte is the first of those that were left; at a fault none is read, nor at the end, where none is left
abbrev pub ReadsByte : Option (List ℕ) → Option (List ℕ) → Result (Option ℕ) Failed → Type 0
ReadsByte old new (Ok (Some byte)) = Consumes old new (byte ∷ [])
ReadsByte old new (Ok None) = Consumes old new [] × IsAtEnd new
ReadsByte old new (Err e) = Consumes old new []
