-- The heads of the chunks that a folder's book sets aside, as own reads show them.
use Rattle.std.specs.Prelude.{◌≡◌, ℕ, Bool, true, false, List, [], Option, Some, None, Result}
use Rattle.std.specs.Prelude.{Ok, Err}
use Rattle.chk_site.specs.History.{History}
use Rattle.chk_site.specs.Site.{Adds}
use Rattle.chk_chunk.specs.Keys.{chunk_limit}
use Rattle.chk_world.specs.Books.{Book, Segment, AllChunks}
use Rattle.chk_record_index.specs.Feeding.{IsBadAt}
use Rattle.chk_record_index.specs.Heads.{Head, heads_in}
use Rattle.chk_record_index.specs.Order.{in_head_order}
use Rattle.chk_record_index.specs.Shown.{Shown}
use Rattle.chk_record_index.specs.declared.fault.JobFault.{JobFault}
use Rattle.chk_record_index.specs.declared.fault.JobFault.TheVariants.{Damaged}
use Rattle.chk_book.specs.Books.{book_view}
use Rattle.chk_book.specs.Folders.{segment_name}
use Rattle.chk_book.specs.Loaded.{ShowsBook}
use Rattle.chk_ctl_held.specs.declared.finding.Waiting.{Waiting}

-- the bytes are of chunks, and these are the heads of all of them, in order
abbrev pub AreWaiting : List Head → List ℕ → Type 0
AreWaiting heads bytes =
    AllChunks chunk_limit bytes × (heads ≡ in_head_order (heads_in chunk_limit 0 bytes))

-- own reads of the segment show its heads, or the place from which on it isn't one of chunks
abbrev pub ShowsSegment : List ℕ → Result (List Head) JobFault → History → History → Type 0
ShowsSegment name (Ok heads) added history = Shown name (AreWaiting heads) added history
ShowsSegment name (Err (Damaged which at)) added history =
    (which ≡ name) × Shown name (λ bytes. IsBadAt chunk_limit bytes at) added history
ShowsSegment name (Err fault) added history = Unit {0}

-- the same of the segment that is set aside; where there is none, nothing waits
abbrev pub ShowsAside : List ℕ → Option Segment → Result (List Head) JobFault → History → History
    → Type 0
ShowsAside folder None result added history = (added ≡ []) × (result ≡ Ok [])
ShowsAside folder (Some g) result added history =
    ShowsSegment (segment_name folder g.number) result added history

-- what is given is this book and these heads; or the refusal
abbrev pub IsWaiting : Book → Result (List Head) JobFault → Result Waiting JobFault → Type 0
IsWaiting b (Ok heads) (Ok w) = (book_view w.book ≡ b) × (w.heads ≡ heads)
IsWaiting b (Ok heads) (Err fault) = ⊥
IsWaiting b (Err fault) result = result ≡ Err fault

-- what follows a read of the book
abbrev pub Found : List ℕ → Result Book JobFault → Result Waiting JobFault → Option History
    → Option History → Type 0
Found folder (Ok b) result before after =
    (heads : Result (List Head) JobFault) × Adds before after (ShowsAside folder b.aside heads)
    × IsWaiting b heads result
Found folder (Err fault) result before after = (after ≡ before) × (result ≡ Err fault)

-- own reads show the folder's book, and then its aside segment is read; or they show why not
pub record FoundWaiting (folder : List ℕ) (result : Result Waiting JobFault)
    (before after : Option History) : Type 0 where
  pub given : Result Book JobFault
  pub middle : Option History
  pub shown : Adds before middle (ShowsBook folder given)
  pub found : Found folder given result middle after

-- whether damage was found
abbrev pub HasDamage : Bool → Result Waiting JobFault → Type 0
HasDamage true (Err (Damaged name at)) = Unit {0}
HasDamage true result = ⊥
HasDamage false (Err (Damaged name at)) = ⊥
HasDamage false result = Unit {0}

-- one look; or a second one, where the first one found damage
pub data FoundAgain (folder : List ℕ) (result : Result Waiting JobFault) : Option History
    → Option History → Type 0 where
  once : {old new : Option History} → HasDamage false result → FoundWaiting folder result old new
      → FoundAgain folder result old new
  again : {given : Result Waiting JobFault} {old mid new : Option History} → HasDamage true given
      → FoundWaiting folder given old mid → FoundWaiting folder result mid new
      → FoundAgain folder result old new
