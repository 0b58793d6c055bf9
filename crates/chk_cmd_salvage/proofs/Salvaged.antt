-- A file that was read whole, and the prints of what it holds.
use Rattle.std.proofs.Common.{◌≡◌, inl, inr, ℕ, false, List, [], ◌∷◌, ◌++◌, Some, None, Ok, Err, Option, Result, refl, sym, ◌∙◌, ap, subst}
use Rattle.std.specs.Prelude.{unwrap_or}
use Rattle.std.proofs.lemmas.List.{append_cancel_right}
use Rattle.chk_site.specs.declared.acts.Who.{Who}
use Rattle.chk_site.specs.declared.acts.OutsideFault.{OutsideFault}
use Rattle.chk_site.specs.declared.acts.OutsideFault.TheVariants.{Outside as OutsideCall, NoMemory as no_memory}
use Rattle.chk_site.specs.Files.{File}
use Rattle.chk_site.specs.Effect.{IsSmallFile}
use Rattle.chk_site.specs.History.{Step, History, Every, Others, files_after}
use Rattle.chk_site.specs.Site.{Adds, LastFailed, OutsideCause}
use Rattle.chk_site.specs.Runs.{anyhow, Leads}
use Rattle.chk_site.proofs.Runs.{adds_then, adds_as, every_join, every_early}
use Rattle.chk_replace.specs.Replace.{LeavesFile}
use Rattle.chk_replace.specs.Load.{Has, IsLook, Loaded, bytes_of}
use Rattle.chk_site.proofs.LastCalls.{last_of_both as last_then}
use Rattle.chk_seqfile.specs.declared.headers.HeaderRef.{HeaderRef}
use Rattle.chk_seqfile.specs.declared.headers.HeaderFault.{HeaderFault}
use Rattle.chk_seqfile.specs.Headers.{read_header}
use Rattle.chk_salvage.specs.Front.{Item, salvage_of}
use Rattle.chk_cmd_salvage.specs.declared.fault.SalvageFault.{SalvageFault}
use Rattle.chk_cmd_salvage.specs.declared.fault.SalvageFault.TheVariants.{Damaged}
use Rattle.chk_cmd_salvage.specs.Lines.{AreLines}
use Rattle.chk_cmd_salvage.specs.Printing.{bytes_or_none, Printed, PrintsFile, LooksOrPrints, FailsLast, CauseOf, salvage_fault}
use Rattle.chk_cmd_salvage.specs.Steps.{OnlyPrints, SaidItems, PrintsItems}
use Rattle.chk_cmd_salvage.proofs.Texts.{text_of, text_then, looks_silent}

-- a result of the outside as that of a salvage
abbrev pub as_salvaged : Result (Unit {0}) OutsideFault → Result (Unit {0}) SalvageFault
as_salvaged (Ok value) = Ok value
as_salvaged (Err fault) = Err (salvage_fault fault)

-- the file was read, and these are its bytes, whichever file it was
record IsRead (who : Who) (name : List ℕ) (given : Option (List ℕ)) (added history : History) : Type 0 where
  looks : Every (IsLook who name) added history
  given_is : (file : Option File) → IsSmallFile file → Others (LeavesFile name) added history → files_after history name ≡ file
      → given ≡ bytes_of file

read_whole : (who : Who) (name : List ℕ) (given : Option (List ℕ)) {old new : Option History}
    → ((file : Option File) → IsSmallFile file → Adds old new (Leads (anyhow (LeavesFile name)) (Has name file) (Loaded name file (Ok given))))
    → Adds old new (Every (IsLook who name)) → Adds old new (IsRead who name given)
read_whole who name given whole reads = record {
  told =
      λ history e.
      let x = reads.told history e in (
        x.0,
        x.1,
        record {
          looks = x.2;
          given_is =
              λ file small others has.
              let y = (whole file small).told history e in
              let both : Some (y.0 ++ history) ≡ Some (x.0 ++ history) = sym y.1 ∙ x.1 in
              let same : y.0 ≡ x.0 = append_cancel_right y.0 x.0 history (cc) in
              let leads = subst (λ (a : History). Leads (anyhow (LeavesFile name)) (Has name file) (Loaded name file (Ok given)) a history) same y.2 in
              (leads.leads others has).1;
        },
      );
  untold = reads.untold;
}

given_bytes : (given : Option (List ℕ)) (file : Option File) → given ≡ bytes_of file → unwrap_or given [] ≡ bytes_or_none file
given_bytes given None e = rw e refl
given_bytes given (Some file) e = rw e refl

-- what was read prints nothing, and so all was printed then
read_then : (who : Who) (name : List ℕ) (given : Option (List ℕ)) (result : Result (Unit {0}) SalvageFault) (P : History → History → Type 0)
    {old mid new : Option History}
    → Adds old mid (IsRead who name given) → Adds mid new P
    → ((added history : History) → P added history → Printed (unwrap_or given []) result (text_of added))
    → Adds old new (PrintsFile name result)
read_then who name given result P read told prints =
    let O : History → Step → Type 0 = λ before step. step.own ≡ false → LeavesFile name before step in
    adds_then (PrintsFile name result) read told
    (λ a b history p q. record {
      prints =
          λ file small others has.
          let bytes = given_bytes given file (p.given_is file small (every_early O b a history others) has) in
          let text : text_of b ≡ text_of (b ++ a) =
          ap (λ t. t ++ text_of b) (sym (looks_silent who name a history p.looks)) ∙ sym (text_then b a) in
          subst (λ (l : List ℕ). Printed l result (text_of (b ++ a))) bytes
          (subst (λ (t : List ℕ). Printed (unwrap_or given []) result t) text (prints b (a ++ history) q));
    })

printed_items : (bytes : List ℕ) (items : List Item) (result : Result (Unit {0}) OutsideFault) (head : HeaderRef) (text : List ℕ)
    → read_header bytes ≡ Ok head → items ≡ salvage_of bytes → SaidItems items result text → Printed bytes (as_salvaged result) text
printed_items bytes items (Ok value) head text header same p =
    record { head = head; header = header; lines = subst (λ (i : List Item). AreLines i text) same p }
printed_items bytes items (Err (OutsideCall call)) head text header same p =
    record { printed = p.printed; left = p.left; unsaid = p.unsaid; items = sym same ∙ p.split; lines = p.lines }
printed_items bytes items (Err no_memory) head text header same p =
    record { printed = p.printed; left = p.left; unsaid = p.unsaid; items = sym same ∙ p.split; lines = p.lines }

-- the file was read and its lines printed
pub prints_items : (who : Who) (name : List ℕ) (given : Option (List ℕ)) (bytes : List ℕ) (items : List Item)
    (result : Result (Unit {0}) OutsideFault) (head : HeaderRef) {old mid new : Option History}
    → ((file : Option File) → IsSmallFile file → Adds old mid (Leads (anyhow (LeavesFile name)) (Has name file) (Loaded name file (Ok given))))
    → Adds old mid (Every (IsLook who name)) → bytes ≡ unwrap_or given []
    → read_header bytes ≡ Ok head → items ≡ salvage_of bytes → Adds mid new (PrintsItems who items result)
    → Adds old new (PrintsFile name (as_salvaged result))
prints_items who name given bytes items result head whole reads is header same told =
    read_then who name given (as_salvaged result) (PrintsItems who items result) (read_whole who name given whole reads) told
    (λ added history p. subst (λ (l : List ℕ). Printed l (as_salvaged result) (text_of added)) is
    (printed_items bytes items result head (text_of added) header same p.text))

-- the file was read and its header refused
pub prints_none : (who : Who) (name : List ℕ) (given : Option (List ℕ)) (bytes : List ℕ) (why : HeaderFault) {old new : Option History}
    → ((file : Option File) → IsSmallFile file → Adds old new (Leads (anyhow (LeavesFile name)) (Has name file) (Loaded name file (Ok given))))
    → Adds old new (Every (IsLook who name)) → bytes ≡ unwrap_or given [] → read_header bytes ≡ Err why
    → Adds old new (PrintsFile name (Err Damaged))
prints_none who name given bytes why whole reads is header =
    adds_as (PrintsFile name (Err Damaged)) (read_whole who name given whole reads)
    (λ a history p. record {
      prints =
          λ file small others has.
          let same = given_bytes given file (p.given_is file small others has) in
          record { why = why; header = ap read_header (sym same ∙ sym is) ∙ header; none = looks_silent who name a history p.looks };
    })

nothing_printed : (bytes : List ℕ) (fault : OutsideFault) (text : List ℕ) → text ≡ [] → Printed bytes (Err (salvage_fault fault)) text
nothing_printed bytes (OutsideCall call) text none =
    record { printed = []; left = salvage_of bytes; unsaid = []; items = refl; lines = ap (λ t. t ++ []) none }
nothing_printed bytes no_memory text none =
    record { printed = []; left = salvage_of bytes; unsaid = []; items = refl; lines = ap (λ t. t ++ []) none }

-- the file wasn't read
pub prints_unread : (who : Who) (name : List ℕ) (fault : OutsideFault) {old new : Option History}
    → Adds old new (Every (IsLook who name)) → Adds old new (PrintsFile name (Err (salvage_fault fault)))
prints_unread who name fault reads =
    adds_as (PrintsFile name (Err (salvage_fault fault))) reads
    (λ a history looks. record {
      prints = λ file small others has. nothing_printed (bytes_or_none file) fault (text_of a) (looks_silent who name a history looks);
    })

every_as : (P Q : History → Step → Type 0) (added history : History) → ((before : History) (step : Step) → P before step → Q before step)
    → Every P added history → Every Q added history
every_as P Q [] history more each = tt
every_as P Q (step ∷ added) history more each =
    (every_as P Q added history more each.0, more (added ++ history) step each.1)

a_look : (who : Who) (name : List ℕ) (before : History) (step : Step) → IsLook who name before step → LooksOrPrints who name before step
a_look who name before step look = inl look

a_print : (who : Who) (name : List ℕ) (before : History) (step : Step) → OnlyPrints who before step → LooksOrPrints who name before step
a_print who name before step (inl theirs) = inl (inl theirs)
a_print who name before step (inr print) = inr print

-- each step is of others, or a read
pub looks_alone : (who : Who) (name : List ℕ) {old new : Option History}
    → Adds old new (Every (IsLook who name)) → Adds old new (Every (LooksOrPrints who name))
looks_alone who name reads =
    adds_as (Every (LooksOrPrints who name)) reads
    (λ a history looks. every_as (IsLook who name) (LooksOrPrints who name) a history (a_look who name) looks)

-- or a print
pub looks_and_prints : (who : Who) (name : List ℕ) (items : List Item) (result : Result (Unit {0}) OutsideFault) {old mid new : Option History}
    → Adds old mid (Every (IsLook who name)) → Adds mid new (PrintsItems who items result) → Adds old new (Every (LooksOrPrints who name))
looks_and_prints who name items result reads told =
    adds_then (Every (LooksOrPrints who name)) (looks_alone who name reads) told
    (λ a b history p q. every_join (LooksOrPrints who name) b a history p
    (every_as (OnlyPrints who) (LooksOrPrints who name) b (a ++ history) (a_print who name) q.acts))

fails_last : (T : Type 0) (fault : OutsideFault) (added history : History) → LastFailed {T = T} (Err fault) added history
    → FailsLast (Err (salvage_fault fault)) added history
fails_last T (OutsideCall call) added history last = last
fails_last T no_memory added history last = tt

-- the load failed last
pub load_last : (T : Type 0) (fault : OutsideFault) {old new : Option History} → Adds old new (LastFailed {T = T} (Err fault))
    → Adds old new (FailsLast (Err (salvage_fault fault)))
load_last T fault told = adds_as (FailsLast (Err (salvage_fault fault))) told (λ a history p. fails_last T fault a history p)

-- a print failed last
pub print_last : (who : Who) (name : List ℕ) (items : List Item) (fault : OutsideFault) {old mid new : Option History}
    → Adds old mid (Every (IsLook who name)) → Adds mid new (PrintsItems who items (Err fault))
    → Adds old new (FailsLast (Err (salvage_fault fault)))
print_last who name items fault reads told =
    adds_then (FailsLast (Err (salvage_fault fault))) reads told
    (λ a b history p q. fails_last (Unit {0}) fault (b ++ a) history (last_then {T = Unit {0}} (Err fault) b a history q.last))

-- nothing failed
pub none_last : {P : History → History → Type 0} {old new : Option History} → Adds old new P → Adds old new (FailsLast (Ok tt))
none_last told = adds_as (FailsLast (Ok tt)) told (λ a history p. tt)

-- a failure alone raised the count
pub fault_cause : (T : Type 0) (fault : OutsideFault) (before middle now : ℕ) → middle ≡ before
    → OutsideCause {T = T} middle now (Err fault) → CauseOf before now (Err (salvage_fault fault))
fault_cause T (OutsideCall call) before middle now same cause = rw (← same) cause
fault_cause T no_memory before middle now same cause = cause ∙ same
