-- What is listed, by the two books that own reads show.
use Rattle.std.specs.Prelude.{ℕ, List, Option, Result, Ok, Err}
use Rattle.chk_site.specs.declared.acts.Who.{Who}
use Rattle.chk_site.specs.declared.acts.OutsideFault.{OutsideFault}
use Rattle.chk_site.specs.History.{History}
use Rattle.chk_world.specs.Books.{Book}
use Rattle.chk_record_index.specs.declared.fault.JobFault.{JobFault}
use Rattle.chk_cmd_output.specs.Printing.{PrintsInTurn}
use Rattle.chk_ctl_cat.specs.declared.fault.LookFault.{LookFault}
use Rattle.chk_ctl_cat.specs.Faults.{look_fault}
use Rattle.chk_ctl_cat.specs.Loading.{BookFound}
use Rattle.chk_ctl_cat.specs.Streams.{look_of}
use Rattle.chk_ctl_streams.specs.Lines.{stream_lines}

-- a refusal of the site as one of a look
abbrev pub look_result : Result (Unit {0}) OutsideFault → Result (Unit {0}) LookFault
look_result (Ok value) = Ok value
look_result (Err fault) = Err (look_fault fault)

-- The book of the records is read, and then a line for each stream of the archive is printed in
-- turn; or it can't be read, and nothing is printed.
pub data ListedBeside (who : Who) (archive : Book) (folder : List ℕ)
    : Result (Unit {0}) LookFault → Option History → Option History → Type 0 where
  unread : {old new : Option History} (fault : JobFault) → BookFound folder (Err fault) old new
      → ListedBeside who archive folder (Err (look_of fault)) old new
  listed : {old mid new : Option History} (records : Book)
      (result : Result (Unit {0}) OutsideFault)
      → BookFound folder (Ok records) old mid → PrintsInTurn who (stream_lines archive records)
      result mid new
      → ListedBeside who archive folder (look_result result) old new

-- the book of the archive is read before
pub data Listed (who : Who) (archive records : List ℕ)
    : Result (Unit {0}) LookFault → Option History → Option History → Type 0 where
  no_archive : {old new : Option History} (fault : JobFault)
      → BookFound archive (Err fault) old new
      → Listed who archive records (Err (look_of fault)) old new
  beside : {old mid new : Option History} {result : Result (Unit {0}) LookFault} (book : Book)
      → BookFound archive (Ok book) old mid → ListedBeside who book records result mid new
      → Listed who archive records result old new
