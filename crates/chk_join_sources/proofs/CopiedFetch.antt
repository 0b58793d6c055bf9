-- A record of one side is read while all files stay.
use Rattle.std.proofs.Common.{◌≡◌, ℕ, ◌<◌, List, [], take, drop, length, get_or, Option, Ok, Err, Result, sym, ◌∙◌, ap, subst}
use Rattle.std.specs.Prelude.{Contains}
use Rattle.chk_site.specs.Files.{Files}
use Rattle.chk_site.specs.History.{History, Every}
use Rattle.chk_site.specs.Site.{Adds}
use Rattle.chk_site.specs.Runs.{anyhow, Leads}
use Rattle.chk_site.proofs.Leads.{leads_as, leads_none}
use Rattle.chk_replace.specs.Load.{Has}
use Rattle.chk_world.specs.JobSteps.{IsOf, ReadsFile, SparesFile}
use Rattle.chk_world.proofs.Each.{Each}
use Rattle.chk_record_index.specs.Heads.{Head, heads_in}
use Rattle.chk_record_index.specs.Order.{no_head}
use Rattle.chk_record_index.specs.Pieces.{bytes_in}
use Rattle.chk_record_index.specs.declared.fault.JobFault.{JobFault}
use Rattle.chk_record_index.specs.declared.fault.JobFault.TheVariants.{Outside, Damaged, Spent, NoMemory}
use Rattle.chk_record_reader.specs.declared.reader.RecordReader.{RecordReader}
use Rattle.chk_record_reader.specs.ReadBack.{value_at, IsWindowOf, CanRead, HasRead}
use Rattle.chk_record_reader.specs.Segments.{HasFiles, SparesFiles, AreSettled}
use Rattle.chk_record_reader.specs.Archives.{file_at, AreWindows, IsKnown}
use Rattle.chk_record_reader.proofs.AllRead.{each_get}
use Rattle.chk_record_reader.proofs.Frames.{among}
use Rattle.chk_join_sources.specs.Reading.{AreAmong, Fetched}

module _ (most : ℕ) (all names : List (List ℕ)) (held : Files) (settled : AreSettled all held) (within : AreAmong all names)
    (heads : List Head) (known : Each (IsKnown most names held) heads) (index : ℕ) (there : index < length heads) (w : List ℕ)
    (one : Contains names w) (is : w ≡ get_or names (get_or heads index no_head).file []) (old new : RecordReader)
    (windows : AreWindows names held old) where
  abbrev h : Head
  h = get_or heads index no_head

  same_file : file_at names held h.file ≡ held w
  same_file = ap held (sym is)

  ready : (history : History) → Has w (held w) history → CanRead most w (held w) h old history
  ready history has = record {
    has = has;
    known = subst (λ o. Contains (heads_in most h.file (bytes_in o)) h) same_file
        (each_get (IsKnown most names held) heads known index no_head there).known;
    window = subst (λ o. IsWindowOf h.file o old) same_file (windows h.file);
  }

  said : (result : Result (Unit {0}) JobFault) (history : History)
      → HasFiles all held history × HasRead w (held w) h new result history → Fetched all names held h new result history
  said (Ok value) history x = (
    x.0,
    λ n same. x.1.2 x.1.1 ∙ ap (λ o. take (length new.bytes) (drop new.from (bytes_in o)))
        (sym same_file ∙ ap (file_at names held) (sym x.1.1 ∙ same)),
    x.1.3 ∙ ap (λ o. value_at h.at (bytes_in o)) (sym same_file),
  )
  said (Err (Outside call)) history x = tt
  said (Err (Damaged name at)) history x = x.1
  said (Err (Spent n)) history x = tt
  said (Err NoMemory) history x = tt

  pub one_fetched : (result : Result (Unit {0}) JobFault) {before after : Option History}
      → Adds before after (Leads (anyhow (SparesFile w)) (CanRead most w (held w) h old) (HasRead w (held w) h new result))
      → Adds before after (Every (IsOf ReadsFile))
      → Adds before after (Leads (anyhow (SparesFiles all)) (HasFiles all held) (Fetched all names held h new result))
  one_fetched result raw own =
      leads_as (λ history x. x) (λ history x. said result history x)
      (among all held w settled (within w one) (leads_as (λ history has. ready history has) (λ history x. x) raw) own)
