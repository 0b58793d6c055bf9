-- Whether an act keeps the file that it grows below 2^63 bytes, or the log below 2^62.
use Rattle.std.specs.Prelude.{ℕ, ◌+◌, ◌<◌, ◌^◌, length, Option, Some, None}
use Rattle.chk_site.specs.Files.{File, Files}
use Rattle.chk_site.specs.Logs.{Logs, log_size}
use Rattle.chk_site.specs.Acts.{Deed, Appends, GrowsLog}

-- the bytes of a file, none where there is none
abbrev pub file_size : Option File → ℕ
file_size None = 0
file_size (Some file) = length file.bytes

-- the file that the act grows stays below 2^63 bytes even with all of the piece, and a log below 2^62
abbrev pub HasRoom : Deed → Files → Logs → Type 0
HasRoom (Appends name piece) files logs = file_size (files name) + length piece < 2 ^ 63
HasRoom (GrowsLog path piece) files logs = log_size (logs path) + length piece < 2 ^ 62
HasRoom call files logs = Unit {0}
