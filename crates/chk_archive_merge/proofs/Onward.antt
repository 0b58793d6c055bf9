-- What a cursor's calls lead to, one behind the other.
use Rattle.std.proofs.Common.{◌≡◌, ℕ, Bool, true, false, List, Option, Some, None, Ok, Err, Result, sym, ap}
use Rattle.std.specs.Prelude.{not}
use Rattle.std.specs.Option.{is_none, is_some}
use Rattle.chk_site.specs.Files.{Files}
use Rattle.chk_site.specs.History.{History}
use Rattle.chk_site.specs.Site.{Adds}
use Rattle.chk_site.specs.Runs.{Side, Leads}
use Rattle.chk_site.proofs.Leads.{leads_as, leads_then, leads_frame}
use Rattle.chk_seqfile.specs.Entries.{Placed}
use Rattle.chk_salvage.specs.declared.fed.Fed.TheVariants.{More}
use Rattle.chk_salvage.specs.Feeding.{fed_place, fed_limit, fed_marker, IsFed, Stands}
use Rattle.chk_record_index.specs.Feeding.{IsEnd}
use Rattle.chk_record_index.specs.Pieces.{bytes_in}
use Rattle.chk_record_index.specs.declared.fault.JobFault.{JobFault}
use Rattle.chk_record_reader.specs.Segments.{HasFiles}
use Rattle.chk_archive_merge.specs.declared.cursor.Cursor.{Cursor}
use Rattle.chk_archive_merge.specs.declared.cursor.Taken.TheVariants as taken
use Rattle.chk_archive_merge.specs.Cursors.{HasGone, FedMore, Took, Stepped, Advanced}
use Rattle.chk_archive_merge.proofs.Going.{more_left, ended}

-- one behind the other, where the first one showed something of no history
pub leads_with : {S : Side} {A B C R : History → Type 0} {P : Type 0} {old mid new : Option History}
    → ((h : History) → P → C h → R h) → Adds old mid (Leads S A (λ h. B h × P)) → Adds mid new (Leads S B C)
    → Adds old new (Leads S A R)
leads_with {S = S} {A = A} {B = B} {C = C} {R = R} {P = P} join first second =
    leads_as (λ h x. x) (λ h x. join h x.1 x.0) (leads_then first (leads_frame {B = C} (λ h. P) (λ h step e. e) second))

-- told by the other test
pub none_from_some : {T : Type 0} (o : Option T) (b : Bool) → is_some o ≡ not b → b ≡ is_none o
none_from_some o true is = sym (ap not is)
none_from_some o false is = sym (ap not is)

module _ (names : List (List ℕ)) (held : Files) (name : List ℕ) where
  -- the records that were gone over stay so
  abbrev pub Keeps : Cursor → Cursor → Type 0
  Keeps old new = (records : List Placed) → HasGone (bytes_in (held name)) old records → HasGone (bytes_in (held name)) new records

  -- another step, behind some that only read
  pub stepped : (first mid new : Cursor) (result : Result (Option Bool) JobFault) (h : History) → Keeps first mid
      → Stepped names held name mid new result h → Stepped names held name first new result h
  stepped first mid new (Ok (Some true)) h keeps x = (x.0, λ records gone. x.1 records (keeps records gone))
  stepped first mid new (Ok (Some false)) h keeps x = x
  stepped first mid new (Ok None) h keeps x = (x.0, λ records gone. x.1 records (keeps records gone))
  stepped first mid new (Err fault) h keeps x = tt

  -- all was fed
  pub all_read : (first old new : Cursor) (b : Bool) (o : Option ℕ) (h : History) → b ≡ is_none o → Took taken.More first old
      → FedMore names held name old new (Ok false) h
      → ((fed : List ℕ) → IsFed new.pieces fed
      → Stands (fed_limit new.pieces) fed (fed_marker new.pieces) (fed_place new.pieces) More → IsEnd fed (fed_place new.pieces) o)
      → Stepped names held name first new (Ok (Some b)) h
  all_read first old new b (Some at) h is took x end = rw is x.0
  all_read first old new b None h is took x end =
      rw is (x.0, λ records gone. ended (bytes_in (held name)) first old new records took x.1 x.2 end gone)

  -- more was fed
  pub more_read : (first old new : Cursor) (h : History) → Took taken.More first old → FedMore names held name old new (Ok true) h
      → Stepped names held name first new (Ok None) h
  more_read first old new h took x = (x.0, λ records gone. x.1 records (more_left (bytes_in (held name)) first old records took gone))

  -- whether or not it could go on, the files are still these
  pub still_there : (old new : Cursor) (b : Bool) (h : History) → Advanced names held name old new (Ok b) h → HasFiles names held h
  still_there old new true h x = x.0
  still_there old new false h x = x
