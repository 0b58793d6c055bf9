-- What an audit of a store finds.
use Rattle.std.specs.Prelude.{◌≡◌, ◌⊎◌, ℕ, Bool, true, false, List, [], ◌∷◌, length, map}
use Rattle.std.specs.Prelude.{Option, Result, Ok, Err}
use Rattle.chk_site.specs.declared.acts.Role.TheVariants.{Job}
use Rattle.chk_site.specs.declared.acts.Who.{Who}
use Rattle.chk_site.specs.Acts.{Deed, Says}
use Rattle.chk_site.specs.History.{History, Step, Every}
use Rattle.chk_site.specs.Site.{Adds}
use Rattle.chk_site.specs.Files.{Files}
use Rattle.chk_site.specs.Runs.{anyhow, Leads}
use Rattle.chk_replace.specs.Load.{IsLook}
use Rattle.chk_world.specs.Books.{Book}
use Rattle.chk_world.specs.JobSteps.{IsOf, ReadsFile}
use Rattle.chk_record_index.specs.declared.fault.JobFault.{JobFault}
use Rattle.chk_record_index.specs.declared.fault.JobFault.TheVariants.{Damaged}
use Rattle.chk_book.specs.declared.lists.End.{End}
use Rattle.chk_book.specs.Loaded.{ShowsBook}
use Rattle.chk_book.specs.Views.{end_view}
use Rattle.chk_record_reader.specs.Segments.{names_of, AreSettled, HasFiles, SparesFiles}
use Rattle.chk_record_reader.specs.Merging.{SoundHeads}
use Rattle.chk_join_sources.specs.declared.gathering.Side.{Side}
use Rattle.chk_ctl_passed.specs.Passing.{check_name}
use Rattle.chk_ctl_audit_log.specs.Placing.{ReadsLogOf}
use Rattle.chk_ctl_sum.specs.declared.rests.Rest.{Rest}
use Rattle.chk_ctl_sum.specs.Sums.{SummedRests}
use Rattle.chk_ctl_audit.specs.declared.audits.Compared.{Compared}
use Rattle.chk_ctl_audit.specs.declared.audits.Compared.TheVariants.{Nothing, Same, Differs}
use Rattle.chk_ctl_audit.specs.Finding.{FindsEach}
use Rattle.chk_ctl_audit.specs.Streams.{Audits}

-- the call reads a file or a log, or prints
pub data AuditsBy : Deed → Type 0 where
  reads_file : (call : Deed) → ReadsFile call → AuditsBy call
  reads_log : (path : List ℕ) (call : Deed) → ReadsLogOf path call → AuditsBy call
  says : (line : List ℕ) → AuditsBy (Says line)

-- the step is one of others, such a call, or a read of an agent's checkpoint
abbrev pub LooksAtAudit : History → Step → Type 0
LooksAtAudit before step =
    IsOf AuditsBy before step
    ⊎ ((agent : Who) × (agent.role ≡ Job) × IsLook agent (check_name agent) before step)

-- what all of these streams come to
abbrev pub compared_of : List Rest → Bool → Compared
compared_of [] same = Nothing
compared_of (r ∷ rests) true = Same
compared_of (r ∷ rests) false = Differs

abbrev pub compared_by : List Rest → Result Bool JobFault → Result Compared JobFault
compared_by rests (Ok same) = Ok (compared_of rests same)
compared_by rests (Err fault) = Err fault

-- each stream is compared with its log, beside its digest
abbrev pub ComparedBy : Side → List Rest → List (List ℕ) → Result Compared JobFault
    → Option History → Option History → Type 0
ComparedBy side rests digests result before after =
    (given : Result Bool JobFault) × Audits side given rests digests true before after
    × (result ≡ compared_by rests given) × (length digests ≡ length rests)

-- Own reads showed the heads of the segments that the book names, and others were made behind them.
pub record IsGathered (folder : List ℕ) (b : Book) (side : Side) (before after : Option History)
    : Type 0 where
  pub names_are : side.names.now ≡ names_of folder b
  pub middle : Option History
  pub sound : (held : Files) → AreSettled (names_of folder b) held
      → Adds before middle (Leads (anyhow (SparesFiles (names_of folder b)))
      (HasFiles (names_of folder b) held) (SoundHeads folder b held (Ok side.heads.now)))
  pub own : Adds middle after (Every (IsOf ReadsFile))

-- What follows the digests of the archive: the streams of the segments whose heads were gathered
-- since `start` are compared.
abbrev pub AuditedBy : List ℕ → Book → List Rest → Option History → Result (List (List ℕ)) JobFault
    → Result Compared JobFault → Option History → Option History → Type 0
AuditedBy folder b rests start (Ok digests) result before after =
    (side : Side) × IsGathered folder b side start before
    × ComparedBy side rests digests result before after
AuditedBy folder b rests start (Err fault) result before after =
    (after ≡ before) × (result ≡ Err fault)

-- the archive's bytes of these streams are summed from where their logs begin on, and then each is
-- compared with its log
pub record AuditedRests (folder : List ℕ) (b : Book) (rests : List Rest)
    (result : Result Compared JobFault) (before after : Option History) : Type 0 where
  pub given : Result (List (List ℕ)) JobFault
  pub middle : Option History
  pub summed : SummedRests folder b rests given before middle
  pub own : Adds before middle (Every (IsOf ReadsFile))
  pub compared : AuditedBy folder b rests before given result middle after

-- what follows the look at the agents
abbrev pub AuditedOf : List ℕ → Book → List Rest → Result (Unit {0}) JobFault
    → Result Compared JobFault → Option History → Option History → Type 0
AuditedOf folder b rests (Ok value) result before after =
    AuditedRests folder b rests result before after
AuditedOf folder b rests (Err fault) result before after =
    (after ≡ before) × (result ≡ Err fault)

-- the book's streams are looked for at the agents, and then those that were found are audited
pub record AuditedBook (folder : List ℕ) (b : Book) (result : Result Compared JobFault)
    (before after : Option History) : Type 0 where
  pub ends : List End
  pub are : map end_view ends ≡ b.ends
  pub rests : List Rest
  pub given : Result (Unit {0}) JobFault
  pub middle : Option History
  pub found : FindsEach given rests ends [] before middle
  pub audited : AuditedOf folder b rests given result middle after

-- what follows the read of the book
abbrev pub AuditedAs : List ℕ → Result Book JobFault → Result Compared JobFault → Option History
    → Option History → Type 0
AuditedAs folder (Ok b) result before after = AuditedBook folder b result before after
AuditedAs folder (Err fault) result before after = (after ≡ before) × (result ≡ Err fault)

-- own reads show the folder's book, and then its streams are audited; or they show why there is none
pub record Audited (folder : List ℕ) (result : Result Compared JobFault)
    (before after : Option History) : Type 0 where
  pub given : Result Book JobFault
  pub middle : Option History
  pub shown : Adds before middle (ShowsBook folder given)
  pub own : Adds before middle (Every (IsOf ReadsFile))
  pub audited : AuditedAs folder given result middle after

-- whether damage was found
abbrev pub HasDamage : Bool → Result Compared JobFault → Type 0
HasDamage true (Err (Damaged name at)) = Unit {0}
HasDamage true result = ⊥
HasDamage false (Err (Damaged name at)) = ⊥
HasDamage false result = Unit {0}

-- one look; or a second one, where the first one found damage
pub data AuditedAgain (folder : List ℕ) (result : Result Compared JobFault) : Option History
    → Option History → Type 0 where
  once : {old new : Option History} → HasDamage false result → Audited folder result old new
      → AuditedAgain folder result old new
  again : {given : Result Compared JobFault} {old mid new : Option History} → HasDamage true given
      → Audited folder given old mid → Audited folder result mid new
      → AuditedAgain folder result old new
