-- When a folder was changed.
use Rattle.std.specs.Prelude.{ℤ}
use Rattle.std.specs.Int.{int_max}
use Rattle.chk_site_listings.specs.declared.stamps.Stamp.{Stamp}

-- the second of the folder's last change
abbrev pub last_second : Stamp → ℤ
last_second s = int_max s.modified.0 s.changed.0
