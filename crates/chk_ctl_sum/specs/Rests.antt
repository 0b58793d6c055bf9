-- Streams from an offset on, and a hasher that leaves the front out.
use Rattle.std.specs.Prelude.{◌≡◌, ℕ, ◌-◌, List, length, drop}
use Rattle.chk_world.specs.Books.{End}
use Rattle.chk_book.specs.Views.{end_view}
use Rattle.sha2.specs.Hashers.{Holds256}
use Rattle.chk_ctl_sum.specs.declared.rests.Rest.{Rest}
use Rattle.chk_ctl_sum.specs.declared.rests.Skipping.{Skipping}

-- the stream's end in the book
abbrev pub end_of : Rest → End
end_of r = end_view r.end.now

-- how many of its bytes are left out
abbrev pub skip_of : Rest → ℕ
skip_of r = r.begin - r.end.now.start

-- It was fed these bytes, left out the first, so many, and has hashed the others.
pub record HoldsRest (skip : ℕ) (h : Skipping) (taken : List ℕ) : Type 0 where
  pub left : h.left ≡ skip - length taken
  pub holds : Holds256 h.hasher (drop skip taken)
