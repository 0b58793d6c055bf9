-- Why a join is refused, and which calls it makes.
use Rattle.std.specs.Prelude.{◌≡◌, ℕ, ◌≤◌, false, codes, ◌++◌, Result, Ok, Err}
use Rattle.chk_site.specs.Acts.{Deed, Starts, Lists, Removes}
use Rattle.chk_site.specs.History.{History, is_stopped}
use Rattle.chk_site.specs.Site.{Rose, EndsIn}
use Rattle.chk_world.specs.JobSteps.{ReadsFile, WritesTo}
use Rattle.chk_book.specs.Folders.{segment_name}
use Rattle.chk_archive_parts.specs.Publishing.{ReplacesBookOf}
use Rattle.chk_record_index.specs.declared.fault.JobFault.{JobFault}
use Rattle.chk_record_index.specs.declared.fault.JobFault.TheVariants.{Outside, Damaged, Spent}
use Rattle.chk_record_index.specs.declared.fault.JobFault.TheVariants.{NoMemory as no_memory}
use Rattle.chk_join.specs.declared.fault.JoinFault.{JoinFault}
use Rattle.chk_join.specs.declared.fault.JoinFault.TheVariants.{Job, NoMemory}

abbrev pub join_fault : JobFault → JoinFault
join_fault no_memory = NoMemory
join_fault (Outside call) = Job (Outside call)
join_fault (Damaged name at) = Job (Damaged name at)
join_fault (Spent n) = Job (Spent n)

-- it never holds want of memory
abbrev pub IsJoinFault : JoinFault → Type 0
IsJoinFault (Job no_memory) = ⊥
IsJoinFault fault = Unit {0}

-- only a call of the outside that failed raises the count
abbrev pub JoinCause : {T : Type 0} → ℕ → ℕ → Result T JoinFault → Type 0
JoinCause before now (Ok value) = now ≡ before
JoinCause before now (Err (Job (Outside call))) = Rose before now × (before ≤ now)
JoinCause before now (Err fault) = now ≡ before

-- the call that failed is the last one, where the site wasn't stopped
abbrev pub JoinFailsLast : {T : Type 0} → Result T JoinFault → History → History → Type 0
JoinFailsLast (Err (Job (Outside call))) added history = is_stopped (added ++ history) ≡ false → EndsIn call added
JoinFailsLast result added history = Unit {0}

-- the calls of a join: it starts, reads, lists its folder, removes segments there and writes one, and replaces the book
pub data JoinsBy : Deed → Type 0 where
  starts : JoinsBy Starts
  only_reads : (call : Deed) → ReadsFile call → JoinsBy call
  lists_folder : JoinsBy (Lists (codes "joined"))
  removes_segment : (k : ℕ) → JoinsBy (Removes (segment_name (codes "joined") k))
  writes_segment : (k : ℕ) (call : Deed) → WritesTo (segment_name (codes "joined") k) call → JoinsBy call
  replaces_book : (call : Deed) → ReplacesBookOf (codes "joined") call → JoinsBy call
