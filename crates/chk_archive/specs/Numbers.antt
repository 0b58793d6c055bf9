-- The numbers of a book's segments.
use Rattle.std.specs.Prelude.{◌≡◌, ◌<◌, true, Contains}
use Rattle.chk_bytes.specs.Stems.{is_count}
use Rattle.chk_world.specs.Books.{Segment, Book, ends_rise}
use Rattle.chk_world.specs.Jobs.{all_segments}

-- they are below the next one, which can be one; the streams rise
pub record Numbered (b : Book) : Type 0 where
  pub count : is_count b.next ≡ true
  pub below : (g : Segment) → Contains (all_segments b) g → g.number < b.next
  pub rise : ends_rise b.ends ≡ true
