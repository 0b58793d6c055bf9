-- The report of an archive run.
use Rattle.std.specs.Prelude.{ℕ, List, Option}
use Rattle.chk_world.specs.Books.{End}

-- how many sinks under writing the listing showed, the first one's name, how many bytes were taken,
-- how many chunks are set aside, how many sinks were removed, and where each stream's archive ends
pub record Report : Type 0 where
  pub unclosed : ℕ
  pub first_unclosed : Option (List ℕ)
  pub taken : ℕ
  pub held : ℕ
  pub removed : ℕ
  pub ends : List End
