-- The reading of the file that names the subscribers.
use Rattle.std.proofs.Common.{◌≡◌, ℕ, List, [], ◌∷◌, ◌++◌, Option, Some, Result, Ok, Err, sym, subst}
use Rattle.chk_site.specs.declared.acts.OutsideFault.{OutsideFault}
use Rattle.chk_site.specs.declared.acts.Who.{Who}
use Rattle.chk_site.specs.History.{History, Every}
use Rattle.chk_site.specs.Site.{Adds}
use Rattle.chk_site.proofs.Runs.{adds_as}
use Rattle.chk_replace.specs.Load.{ReadInTurn, IsLook}
use Rattle.chk_agent_run.specs.Initial.{LooksAt}
use Rattle.chk_tee_sender.specs.declared.Subscriber.{Subscriber}
use Rattle.chk_cmd_line.specs.declared.endings.Ending.{Ending}
use Rattle.chk_cmd_line.specs.declared.endings.Ending.TheVariants.{Outside, NoMemory, Damaged, Length, Growing, Unclosed, Shrank, Spent, Refused, Differ}
use Rattle.chk_cmd_load.specs.Processes.{chukwa}
use Rattle.chukwa_run.specs.Teeing.{TeesRead, named, damaged, wanting, text_in, IsNamedIn, ReadFailsLast, ReadCause}

-- the file was read to its end, and its text names these
pub named_so : {file : List ℕ} (given : Option (List ℕ)) (result : Result (List Subscriber) Ending)
    {old new : Option History} → ReadInTurn chukwa file [] (Ok given) old new
    → IsNamedIn file (text_in given) result → TeesRead (Some file) result old new
named_so given (Ok a) reads is = named given reads is
named_so {file = file} given (Err (Damaged name at)) {old = old} {new = new} reads is =
    subst (λ (n : List ℕ). TeesRead (Some file) (Err (Damaged n at)) old new) (sym is.0)
    (damaged given reads is.1)
named_so given (Err NoMemory) reads is = wanting (Ok given) reads
named_so given (Err (Outside call)) reads is = absurd is
named_so given (Err (Length stem got want)) reads is = absurd is
named_so given (Err (Growing path count)) reads is = absurd is
named_so given (Err (Unclosed name)) reads is = absurd is
named_so given (Err (Shrank path had has)) reads is = absurd is
named_so given (Err (Spent n)) reads is = absurd is
named_so given (Err (Refused code)) reads is = absurd is
named_so given (Err (Differ source kind stream at)) reads is = absurd is

-- then no call failed
pub named_last : {P : History → History → Type 0} (file text : List ℕ)
    (result : Result (List Subscriber) Ending) {old new : Option History} → Adds old new P
    → IsNamedIn file text result → Adds old new (ReadFailsLast result)
named_last file text (Ok a) told is = adds_as (ReadFailsLast (Ok a)) told (λ added history x. tt)
named_last file text (Err (Damaged name at)) told is =
    adds_as (ReadFailsLast {T = List Subscriber} (Err (Damaged name at))) told (λ added history x. tt)
named_last file text (Err NoMemory) told is =
    adds_as (ReadFailsLast {T = List Subscriber} (Err NoMemory)) told (λ added history x. tt)
named_last file text (Err (Outside call)) told is = absurd is
named_last file text (Err (Length stem got want)) told is = absurd is
named_last file text (Err (Growing path count)) told is = absurd is
named_last file text (Err (Unclosed name)) told is = absurd is
named_last file text (Err (Shrank path had has)) told is = absurd is
named_last file text (Err (Spent n)) told is = absurd is
named_last file text (Err (Refused code)) told is = absurd is
named_last file text (Err (Differ source kind stream at)) told is = absurd is

pub named_cause : (file text : List ℕ) (before now : ℕ) (result : Result (List Subscriber) Ending)
    → now ≡ before → IsNamedIn file text result → ReadCause before now result
named_cause file text before now (Ok a) same is = same
named_cause file text before now (Err (Damaged name at)) same is = same
named_cause file text before now (Err NoMemory) same is = same
named_cause file text before now (Err (Outside call)) same is = absurd is
named_cause file text before now (Err (Length stem got want)) same is = absurd is
named_cause file text before now (Err (Growing path count)) same is = absurd is
named_cause file text before now (Err (Unclosed name)) same is = absurd is
named_cause file text before now (Err (Shrank path had has)) same is = absurd is
named_cause file text before now (Err (Spent n)) same is = absurd is
named_cause file text before now (Err (Refused code)) same is = absurd is
named_cause file text before now (Err (Differ source kind stream at)) same is = absurd is

-- each step is a read of the file by the writer, or one of others
every_look : (who : Who) (file : List ℕ) → who ≡ chukwa → (added history : History)
    → Every (IsLook who file) added history → Every (LooksAt chukwa) added history
every_look who file is [] history looks = tt
every_look who file is (step ∷ added) history looks = (
  every_look who file is added history looks.0,
  (file, subst (λ (x : Who). IsLook x file (added ++ history) step) is looks.1),
)

pub looks_at : (who : Who) (file : List ℕ) {old new : Option History} → who ≡ chukwa
    → Adds old new (Every (IsLook who file)) → Adds old new (Every (LooksAt chukwa))
looks_at who file is told =
    adds_as (Every (LooksAt chukwa)) told (λ added history looks. every_look who file is added history looks)

-- the same script by the writer
pub by_writer : (who : Who) (file : List ℕ) (given same : Result (Option (List ℕ)) OutsideFault)
    {old new : Option History} → who ≡ chukwa → given ≡ same → ReadInTurn who file [] given old new
    → ReadInTurn chukwa file [] same old new
by_writer who file given same {old = old} {new = new} is equal reads =
    subst (λ (x : Who). ReadInTurn x file [] same old new) is
    (subst (λ (x : Result (Option (List ℕ)) OutsideFault). ReadInTurn who file [] x old new) equal reads)
