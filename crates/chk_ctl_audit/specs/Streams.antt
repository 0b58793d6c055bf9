-- What an audit finds of one stream, and what it prints.
use Rattle.std.specs.Prelude.{◌≡◌, ℕ, Bool, true, false, ◌&&◌, nat_le, List, [], ◌∷◌, bytes_eq}
use Rattle.std.specs.Prelude.{Option, Some, None, Result, Ok, Err}
use Rattle.chk_site.specs.declared.acts.OutsideFault.{OutsideFault}
use Rattle.chk_site.specs.History.{History, Every}
use Rattle.chk_site.specs.Site.{Adds}
use Rattle.chk_world.specs.Books.{End}
use Rattle.chk_world.specs.JobSteps.{IsOf}
use Rattle.chk_world.specs.Sight.{job}
use Rattle.chk_record_index.specs.declared.fault.JobFault.{JobFault}
use Rattle.chk_record_index.specs.declared.fault.JobFault.TheVariants.{Damaged}
use Rattle.chk_record_index.specs.Faults.{job_fault, job_result}
use Rattle.chk_cmd_output.specs.Printing.{PrintsInTurn}
use Rattle.chk_join_sources.specs.declared.gathering.Side.{Side}
use Rattle.chk_ctl_audit_log.specs.declared.comparing.Met.{Met}
use Rattle.chk_ctl_audit_log.specs.declared.comparing.Met.TheVariants as met
use Rattle.chk_ctl_audit_log.specs.Records.{ReadsBeside}
use Rattle.chk_ctl_audit_log.specs.Streams.{StreamMet}
use Rattle.chk_ctl_audit_log.specs.declared.summing.LogSum.{LogSum}
use Rattle.chk_ctl_audit_log.specs.declared.summing.LogSum.TheVariants.{Whole, Ends}
use Rattle.chk_ctl_audit_log.specs.Placing.{ReadsLogOf}
use Rattle.chk_ctl_audit_log.specs.Summing.{SummedLog}
use Rattle.chk_ctl_sum.specs.declared.rests.Rest.{Rest}
use Rattle.chk_ctl_sum.specs.Rests.{end_of}
use Rattle.chk_ctl_audit.specs.Lines.{audit_line, differs}

-- from where it begins on, the log has all that the archive has
abbrev pub has_all : List ℕ → LogSum → Bool
has_all digest (Whole log) = bytes_eq log digest
has_all digest (Ends at) = false

-- the log has all that the archive has, to the byte
abbrev pub is_same : End → ℕ → List ℕ → LogSum → Bool
is_same e begin digest (Whole log) = bytes_eq log digest && nat_le begin e.start
is_same e begin digest (Ends at) = false

-- the answer, once the line is printed
abbrev pub answered_by : Bool → Result (Unit {0}) OutsideFault → Result Bool OutsideFault
answered_by same (Ok value) = Ok same
answered_by same (Err fault) = Err fault

-- the line is printed, and this is answered
pub record SaysLine (line : List ℕ) (same : Bool) (result : Result Bool OutsideFault)
    (before after : Option History) : Type 0 where
  pub given : Result (Unit {0}) OutsideFault
  pub printed : PrintsInTurn job (line ∷ []) given before after
  pub is : result ≡ answered_by same given

-- the line of what was found is printed
abbrev pub ToldStream : Rest → List ℕ → LogSum → Option ℕ → Result Bool OutsideFault
    → Option History → Option History → Type 0
ToldStream r digest found parts result before after =
    SaysLine (audit_line (end_of r) r.begin digest found (differs parts))
    (is_same (end_of r) r.begin digest found) result before after

-- the offset at which they part
abbrev pub place_in : Met → Option ℕ
place_in met.All = None
place_in (met.Differs at) = Some at
place_in (met.Ends at) = Some at

-- the same, or none, where the archive isn't the same one any more
abbrev pub parts_of : Result Met JobFault → Result (Option ℕ) JobFault
parts_of (Ok found) = Ok (place_in found)
parts_of (Err (Damaged name at)) = Ok None
parts_of (Err fault) = Err fault

-- Archive and log were read once more, side by side. `StreamMet` says of the offset that it is that
-- of the first byte of the archive, as it was read, that the log, as it was read, doesn't have.
pub record MeetsLog (side : Side) (r : Rest) (result : Result (Option ℕ) JobFault)
    (before after : Option History) : Type 0 where
  pub given : Result Met JobFault
  pub met : StreamMet job side r given before after
  pub own : Adds before after (Every (IsOf (ReadsBeside r.end.now.name)))
  pub is : result ≡ parts_of given

-- nothing is read where the digests are the same
abbrev pub FindsParts : Bool → Side → Rest → Result (Option ℕ) JobFault → Option History
    → Option History → Type 0
FindsParts true side r result before after = (after ≡ before) × (result ≡ Ok None)
FindsParts false side r result before after = MeetsLog side r result before after

-- what is printed once it is known where they part
abbrev pub ToldParts : Rest → List ℕ → LogSum → Result (Option ℕ) JobFault
    → Result Bool JobFault → Option History → Option History → Type 0
ToldParts r digest found (Ok parts) result before after =
    (given : Result Bool OutsideFault) × ToldStream r digest found parts given before after
    × (result ≡ job_result given)
ToldParts r digest found (Err fault) result before after =
    (after ≡ before) × (result ≡ Err fault)

-- it is looked where they part, and then the line is printed
pub record PartedStream (side : Side) (r : Rest) (digest : List ℕ) (found : LogSum)
    (result : Result Bool JobFault) (before after : Option History) : Type 0 where
  pub given : Result (Option ℕ) JobFault
  pub middle : Option History
  pub finds : FindsParts (has_all digest found) side r given before middle
  pub told : ToldParts r digest found given result middle after

abbrev pub ToldOf : Side → Rest → List ℕ → Result LogSum OutsideFault → Result Bool JobFault
    → Option History → Option History → Type 0
ToldOf side r digest (Ok found) result before after =
    PartedStream side r digest found result before after
ToldOf side r digest (Err fault) result before after =
    (after ≡ before) × (result ≡ Err (job_fault fault))

-- the log is read from where it begins, or from the stream's start on, up to the archive's end; and
-- then they part or not, and the line is printed
pub record AuditedStream (side : Side) (r : Rest) (digest : List ℕ) (result : Result Bool JobFault)
    (before after : Option History) : Type 0 where
  pub given : Result LogSum OutsideFault
  pub middle : Option History
  pub summed : SummedLog job r.end.now.name r.begin r.end.now.start r.end.now.end given before
      middle
  pub own : Adds before middle (Every (IsOf (ReadsLogOf r.end.now.name)))
  pub told : ToldOf side r digest given result middle after

-- Each stream was audited in its turn, up to a refusal; `same` is what was found so far.
pub data Audits (side : Side) (result : Result Bool JobFault) : List Rest → List (List ℕ) → Bool
    → Option History → Option History → Type 0 where
  audited_all : {digests : List (List ℕ)} {same : Bool} {now : Option History} → result ≡ Ok same
      → Audits side result [] digests same now now
  no_digest : {rests : List Rest} {same : Bool} {now : Option History} → result ≡ Ok same
      → Audits side result rests [] same now now
  ended : {r : Rest} {rests : List Rest} {digest : List ℕ} {digests : List (List ℕ)}
      {same : Bool} {fault : JobFault} {old new : Option History} → result ≡ Err fault
      → AuditedStream side r digest (Err fault) old new
      → Audits side result (r ∷ rests) (digest ∷ digests) same old new
  audited : {r : Rest} {rests : List Rest} {digest : List ℕ} {digests : List (List ℕ)}
      {same one : Bool} {old mid new : Option History}
      → AuditedStream side r digest (Ok one) old mid
      → Audits side result rests digests (same && one) mid new
      → Audits side result (r ∷ rests) (digest ∷ digests) same old new
