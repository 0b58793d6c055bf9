-- What is seen of a file, by the result.
use Rattle.std.proofs.Common.{◌≡◌, ℕ, List, Option, Some, None}
use Rattle.std.proofs.Common.{Ok, Err, Result, sym, subst}
use Rattle.std.specs.Prelude.{IfOk}
use Rattle.chk_site.specs.declared.acts.OutsideFault.{OutsideFault}
use Rattle.chk_site.specs.Effect.{IsSmallFile}
use Rattle.chk_site.specs.Files.{File}
use Rattle.chk_site.specs.History.{History}
use Rattle.chk_site.specs.Runs.{anyhow, Leads}
use Rattle.chk_site.specs.Site.{Adds}
use Rattle.chk_site.proofs.Runs.{adds_as}
use Rattle.chk_replace.specs.Load.{Has}
use Rattle.chk_replace.specs.Replace.{LeavesFile}
use Rattle.chk_record_index.specs.Feeding.{IsBadAt}
use Rattle.chk_record_index.specs.Gathered.{ShowsGathered}
use Rattle.chk_record_index.specs.Heads.{Head}
use Rattle.chk_record_index.specs.Shown.{HasMissed, Shown, ShowsFile}
use Rattle.chk_record_index.specs.declared.fault.JobFault.{JobFault}
use Rattle.chk_record_index.specs.declared.fault.JobFault.TheVariants as job
use Rattle.chk_checkpoint.specs.declared.Checkpoint.{Checkpoint}
use Rattle.chk_checkpoint.specs.declared.fault.CheckFault.{CheckFault}
use Rattle.chk_checkpoint.specs.Loads.{LoadedLines}
use Rattle.chk_ctl_verify.specs.Files.{check_found, check_name, damage_of, held_in}
use Rattle.chk_ctl_verify.specs.Files.{CheckSeen, ChunksSeen, NumberRead, read, missed}
use Rattle.chk_ctl_verify.specs.declared.numbers.Held.{Held}
use Rattle.chk_ctl_verify.specs.declared.numbers.Held.TheVariants.{Nothing}
use Rattle.chk_ctl_verify.specs.Names.{by_front}

-- damage of a file of chunks
pub damage_seen : (most : ℕ) (name : List ℕ) (old new : List Head) (fault : JobFault)
    {before after : Option History}
    → Adds before after (ShowsGathered {T = ℕ} most name 0 old new (Err fault))
    → IfOk (damage_of fault) (λ found. ChunksSeen most name found before after)
damage_seen most name old new (job.Outside call) told = tt
damage_seen most name old new (job.Damaged which at) told =
    adds_as (Shown name (λ bytes. IsBadAt most bytes at)) told (λ added history x. x.1)
damage_seen most name old new (job.Spent number) told = tt
damage_seen most name old new job.NoMemory told = tt

-- what a load of a checkpoint shows
pub check_seen : (source : List ℕ) (given : Result Checkpoint CheckFault)
    (result : Result (Option ℕ) OutsideFault) {old new : Option History}
    → result ≡ check_found given
    → ((file : Option File) → IsSmallFile file → Adds old new
    (Leads (anyhow (LeavesFile (check_name source))) (Has (check_name source) file)
    (LoadedLines (check_name source) file given)))
    → IfOk result (λ found. CheckSeen source found old new)
check_seen source given (Ok found) is loaded =
    record { given = given; loaded = loaded; is = sym is }
check_seen source given (Err fault) is loaded = tt

-- the same result of more that holds
pub ok_as : {A : Type 0} {P Q : A → Type 0} (result : Result A OutsideFault)
    → ((v : A) → P v → Q v) → IfOk result P → IfOk result Q
ok_as (Ok v) each x = each v x
ok_as (Err fault) each x = tt

-- what a file of one number holds
pub number_read : (least : ℕ) (name bytes : List ℕ) (held : Held) {old new : Option History}
    → held ≡ held_in least bytes → Adds old new (ShowsFile name (Ok (Some bytes)))
    → NumberRead least name held old new
number_read least name bytes held {old = old} {new = new} is shown =
    subst (λ (h : Held). NumberRead least name h old new) (sym is)
    (read bytes (adds_as (Shown name (λ b. b ≡ bytes)) shown (λ added history x. x)))

pub number_missed : (least : ℕ) (name : List ℕ) {old new : Option History}
    → Adds old new (ShowsFile name (Ok None)) → NumberRead least name Nothing old new
number_missed least name shown =
    missed (adds_as (λ added history. HasMissed name added) shown (λ added history x. x))

-- a name that ends so, and one that doesn't
pub front_some : (P : List ℕ → Type 0) (Q : Type 0) (o : Option (List ℕ)) (front : List ℕ)
    → o ≡ Some front → P front → by_front o P Q
front_some P Q o front is x = subst (λ (k : Option (List ℕ)). by_front k P Q) (sym is) x

pub front_none : (P : List ℕ → Type 0) (Q : Type 0) (o : Option (List ℕ))
    → o ≡ None → Q → by_front o P Q
front_none P Q o is x = subst (λ (k : Option (List ℕ)). by_front k P Q) (sym is) x
