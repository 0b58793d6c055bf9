-- A record that is fetched.
use Rattle.std.proofs.Common.{◌≡◌, ℕ, ◌+◌, ◌-◌, ◌≤◌, List, ◌++◌, length, take, drop, Option, Ok, Err, sym, ◌∙◌, ap, arith}
use Rattle.chk_site.specs.declared.acts.OutsideFault.{OutsideFault}
use Rattle.chk_site.specs.declared.acts.OutsideFault.TheVariants.{Outside as site_failed, NoMemory as no_memory}
use Rattle.chk_site.specs.Files.{File}
use Rattle.chk_site.specs.History.{History}
use Rattle.chk_site.specs.Site.{Adds, LastFailed, OutsideCause}
use Rattle.chk_site.specs.Runs.{anyhow, Leads}
use Rattle.chk_site.proofs.Runs.{adds_as}
use Rattle.chk_site.proofs.Leads.{leads_none, owned_anyhow}
use Rattle.chk_replace.specs.Load.{Has}
use Rattle.chk_world.specs.JobSteps.{SparesFile}
use Rattle.chk_record_index.specs.Heads.{Head}
use Rattle.chk_record_index.specs.Pieces.{bytes_in}
use Rattle.chk_record_index.specs.Faults.{job_fault, JobCause, FailsLast, IsDamage, IsOfRead}
use Rattle.chk_record_index.specs.declared.fault.JobFault.{JobFault}
use Rattle.chk_record_index.specs.declared.fault.JobFault.TheVariants.{Outside, Damaged, Spent, NoMemory}
use Rattle.chk_record_reader.specs.declared.reader.RecordReader.{RecordReader}
use Rattle.chk_record_reader.specs.Spans.{room_of}
use Rattle.chk_record_reader.specs.ReadBack.{IsWindowOf, CanRead, HasRead, IsHeld, NotHeld, HasWindow, IsDamageOf}
use Rattle.chk_record_reader.proofs.Records.{known_whole}
use Rattle.chk_record_reader.proofs.Windows.{is_window, value_shown, never_missing}

-- a record that a true window has is read
found : (name : List ℕ) (f : Option File) (h : Head) (old new : RecordReader) (history : History)
    → Has name f history → IsWindowOf h.file f old
    → IsHeld h old new → HasRead name f h new (Ok tt) history
found name f h old new history has window is =
    let true_one = window is.of in (
      has,
      is.file ∙ is.of,
      λ same. is.bytes ∙ (true_one ∙ (ap (λ n. take n (drop old.from (bytes_in f))) (ap length
          (sym is.bytes))
          ∙ ap (λ n. take (length new.bytes) (drop n (bytes_in f))) (sym is.from))),
      ap (λ b. take new.size (drop new.start b)) is.bytes
          ∙ value_shown (bytes_in f) old.bytes old.from h.at is.behind true_one
          (h.key.seq - h.begin) new.start new.size is.stands,
    )

-- what was loaded is a window
loaded_window : (name : List ℕ) (f : Option File) (h : Head) (from size : ℕ) (r : RecordReader)
    (history : History) → HasWindow name f h.file from size r (Ok tt) history
    → IsWindowOf h.file f r
loaded_window name f h from size r history w =
    λ same. is_window (bytes_in f) r.bytes r.from size (w.3 ∙ ap (λ n. take size (drop n
    (bytes_in f))) (sym w.2))

-- without a call
pub found_there : (most : ℕ) (name : List ℕ) (f : Option File) (h : Head) (old new : RecordReader)
    (now : Option History) → IsHeld h old new
    → Adds now now (Leads (anyhow (SparesFile name)) (CanRead most name f h old)
    (HasRead name f h new (Ok tt)))
found_there most name f h old new now is =
    leads_none now (λ history can. found name f h old new history can.has can.window is)

-- after a read
pub found_then : (most : ℕ) (name : List ℕ) (f : Option File) (h : Head) (from size : ℕ)
    (first mid new : RecordReader) {now next : Option History}
    → IsHeld h mid new → Adds now next (Leads (anyhow (SparesFile name)) (Has name f)
    (HasWindow name f h.file from size mid (Ok tt)))
    → Adds now next (Leads (anyhow (SparesFile name)) (CanRead most name f h first)
    (HasRead name f h new (Ok tt)))
found_then most name f h from size first mid new is told =
    adds_as (Leads (anyhow (SparesFile name)) (CanRead most name f h first) (HasRead name f h new
    (Ok tt))) told
    (λ added history x. record {
      leads = λ s can.
          let w = x.leads s can.has in
          found name f h mid new (added ++ history) w.0 (loaded_window name f h from size mid
          (added ++ history) w) is;
      own = x.own;
    })

-- it is always found
pub never_then : (most : ℕ) (name : List ℕ) (f : Option File) (h : Head) (from size : ℕ)
    (first mid new : RecordReader) (fault : JobFault) {now next : Option History}
    → most ≤ 1048576 → from ≤ h.at → h.at - from + room_of h ≤ size → NotHeld h mid new
    → Adds now next (Leads (anyhow (SparesFile name)) (Has name f) (HasWindow name f h.file from size
    mid (Ok tt)))
    → (after : RecordReader) → Adds now next (Leads (anyhow (SparesFile name))
    (CanRead most name f h first) (HasRead name f h after (Err fault)))
never_then most name f h from size first mid new fault few behind room is told after =
    adds_as (Leads (anyhow (SparesFile name)) (CanRead most name f h first) (HasRead name f h after
    (Err fault))) told
    (λ added history x. record {
      leads = λ s can.
          let w = x.leads s can.has in
          let at : mid.from ≡ from = w.2 in
          absurd
          (never_missing (bytes_in f) mid.bytes mid.from size h (omega (arith, at, behind))
          (w.3 ∙ ap (λ n. take size (drop n (bytes_in f))) (sym at)) (omega (arith, at, room))
          (known_whole most h.file (bytes_in f) h few can.known)
          (is.none w.1 (omega (arith, at, behind))));
      own = x.own;
    })

-- after a read that failed nothing is said
pub not_fetched : {P : History → History → Type 0} (most : ℕ) (name : List ℕ) (f : Option File)
    (h : Head) (first new : RecordReader) (fault : OutsideFault)
    {now next : Option History} → Adds now next P
    → Adds now next (Leads (anyhow (SparesFile name)) (CanRead most name f h first)
    (HasRead name f h new (Err (job_fault fault))))
not_fetched most name f h first new fault told =
    adds_as (Leads (anyhow (SparesFile name)) (CanRead most name f h first) (HasRead name f h new
    (Err (job_fault fault)))) told
    (λ added history x. record {
      leads = λ s can. said fault
          (added ++ history);
      own = owned_anyhow added history;
    })
  where
    said : (fault : OutsideFault) (history : History) → HasRead name f h new (Err
        (job_fault fault)) history
    said (site_failed call) history = tt
    said no_memory history = tt

-- ---- why a read failed

pub no_damage : (name : List ℕ) (h : Head) (fault : OutsideFault)
    → IsDamageOf name h (job_fault fault)
no_damage name h (site_failed call) = tt
no_damage name h no_memory = tt

pub failed_read : (fault : OutsideFault) → IsOfRead (job_fault fault)
failed_read (site_failed call) = tt
failed_read no_memory = tt

pub failed_last : (fault : OutsideFault) {old new : Option History}
    → Adds old new (LastFailed {T = Unit {0}} (Err fault))
    → Adds old new (FailsLast {T = Unit {0}} (Err (job_fault fault)))
failed_last (site_failed call) told =
    adds_as (FailsLast {T = Unit {0}} (Err (job_fault (site_failed call)))) told
    (λ added history x. x)
failed_last no_memory told =
    adds_as (FailsLast {T = Unit {0}} (Err (job_fault no_memory))) told (λ added history x. tt)

pub failed_cause : (fault : OutsideFault) (before now : ℕ)
    → OutsideCause {T = Unit {0}} before now (Err fault)
    → JobCause {T = Unit {0}} before now (Err (job_fault fault))
failed_cause (site_failed call) before now is = is
failed_cause no_memory before now is = is

-- ---- the fault of a record that isn't found

pub damage_of : (name : List ℕ) (h : Head) (at : ℕ) (fault : JobFault) → at ≡ h.at
    → IsDamage name at fault → IsDamageOf name h fault
damage_of name h at (Outside call) there is = tt
damage_of name h at (Damaged which place) there is = (is.0, is.1 ∙ there)
damage_of name h at (Spent n) there is = tt
damage_of name h at NoMemory there is = tt

pub damage_read : (name : List ℕ) (at : ℕ) (fault : JobFault) → IsDamage name at fault
    → IsOfRead fault
damage_read name at (Outside call) is = tt
damage_read name at (Damaged which place) is = tt
damage_read name at (Spent n) is = is
damage_read name at NoMemory is = tt

pub damage_cause : (name : List ℕ) (at : ℕ) (fault : JobFault) → IsDamage name at fault
    → (before now : ℕ) → now ≡ before → JobCause {T = Unit {0}} before now (Err fault)
damage_cause name at (Outside call) is before now same = absurd is
damage_cause name at (Damaged which place) is before now same = same
damage_cause name at (Spent n) is before now same = absurd is
damage_cause name at NoMemory is before now same = same
