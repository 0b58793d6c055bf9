use Rattle.std.proofs.Common.{◌≡◌, ◌∙◌, inl, inr, ℕ, List, ◌++◌, unwrap_or, Option, Some, None, Ok, Err, Result, sym, ap, subst}
use Rattle.std.specs.Prelude.{IfErr}
use Rattle.std.proofs.lemmas.Result.{err_from_is_err_and}
use Rattle.chk_site.specs.Files.{File}
use Rattle.chk_site.specs.History.{History}
use Rattle.chk_site.specs.Site.{Adds, LastFailed}
use Rattle.chk_site.specs.Runs.{anyhow, Leads}
use Rattle.chk_site.specs.declared.acts.OutsideFault.{OutsideFault}
use Rattle.chk_site.specs.declared.acts.OutsideFault.TheVariants.{Outside as site_failed, NoMemory as no_memory}
use Rattle.chk_site.proofs.Runs.{adds_as, adds_none}
use Rattle.chk_site.proofs.Leads.{leads_as, leads_none, owned_anyhow}
use Rattle.chk_replace.specs.Load.{Has, Loaded}
use Rattle.chk_world.specs.Books.{Book, empty_book}
use Rattle.chk_world.specs.JobSteps.{SparesFile}
use Rattle.chk_record_index.specs.Faults.{job_fault, JobCause, FailsLast, IsOfRead}
use Rattle.chk_record_index.specs.declared.fault.JobFault.{JobFault}
use Rattle.chk_record_index.specs.declared.fault.JobFault.TheVariants.{Outside, Damaged, Spent, NoMemory}
use Rattle.chk_record_index.specs.Shown.{ShowsFile}
use Rattle.chk_record_index.proofs.Stretches.{shown_as}
use Rattle.chk_book.specs.Folders.{book_name}
use Rattle.chk_book.specs.Books.{book_view}
use Rattle.chk_book.specs.Loaded.{LoadedBook, ReadBook, IsBookOf, IsNoBookAt, ShowsBook, book_result}
use Rattle.chk_book.specs.declared.book.Book.{Book as Struct}
use Rattle.chk_book.proofs.Segmented.{failed_cause}
use Rattle.chk_book.proofs.book.load_book.Goals as goal

-- after a failed read nothing is said of the file
unloaded : (folder : List ℕ) (file : Option File) (fault : OutsideFault) (h : History)
    → LoadedBook folder file (Err (job_fault fault)) h
unloaded folder file (site_failed call) h = tt
unloaded folder file no_memory h = tt

unread : (folder : List ℕ) (file : Option File) (fault : OutsideFault)
    {P : History → History → Type 0}
    {old new : Option History} → Adds old new P
    → Adds old new (Leads (anyhow (SparesFile (book_name folder))) (Has (book_name folder) file)
    (LoadedBook folder file (Err (job_fault fault))))
unread folder file fault told =
    adds_as (Leads (anyhow (SparesFile (book_name folder))) (Has (book_name folder) file)
    (LoadedBook folder file (Err (job_fault fault)))) told
    (λ added history x. record {
      leads = λ s h. unloaded folder file fault (added ++ history);
      own = owned_anyhow added history;
    })

failed_read : (fault : OutsideFault) → IsOfRead (job_fault fault)
failed_read (site_failed call) = tt
failed_read no_memory = tt

failed_last : (T V : Type 0) (fault : OutsideFault) {old new : Option History}
    → Adds old new (LastFailed {T = V} (Err fault)) → Adds old new
    (FailsLast {T = T} (Err (job_fault fault)))
failed_last T V (site_failed call) told =
    adds_as (FailsLast {T = T} (Err (job_fault (site_failed call)))) told (λ added history x. x)
failed_last T V no_memory told = adds_as (FailsLast {T = T} (Err (job_fault no_memory))) told
    (λ added history x. tt)

-- what the bytes are read as, of a file that is still there
loaded : (folder : List ℕ) (file : Option File) (given : Option (List ℕ)) (name : List ℕ)
    (result : Result Struct JobFault)
    → name ≡ book_name folder → ReadBook given name (book_result result) → (h : History)
    → Loaded (book_name folder) file (Ok given) h → LoadedBook folder file (book_result result) h
loaded folder None given name (Ok b) named is h there =
    let e = subst (λ (g : Option (List ℕ)). IsBookOf g (book_view b)) there.1 is in (there.0, e, e)
loaded folder (Some f) given name (Ok b) named is h there =
    let e = subst (λ (g : Option (List ℕ)). IsBookOf g (book_view b)) there.1 is in
    (there.0, sym (ap (λ (found : Option Book). unwrap_or found empty_book) e.0), e)
loaded folder None given name (Err (Damaged which at)) named is h there =
    absurd (subst (λ (g : Option (List ℕ)). IsNoBookAt g at) there.1 is.1)
loaded folder (Some f) given name (Err (Damaged which at)) named is h there =
    (is.0 ∙ named, subst (λ (g : Option (List ℕ)). IsNoBookAt g at) there.1 is.1)
loaded folder file given name (Err (Outside call)) named is h there = tt
loaded folder file given name (Err (Spent number)) named is h there = tt
loaded folder file given name (Err NoMemory) named is h there = tt

module _ (given : Option (List ℕ)) (name : List ℕ) where
  read_only : (result : Result Struct JobFault) → ReadBook given name (book_result result)
      → IfErr result IsOfRead
  read_only (Ok b) is = tt
  read_only (Err (Outside call)) is = tt
  read_only (Err (Damaged which at)) is = tt
  read_only (Err (Spent number)) is = is
  read_only (Err NoMemory) is = tt

  read_last : (result : Result Struct JobFault) → ReadBook given name (book_result result)
      → (added history : History) → FailsLast result added history
  read_last (Ok b) is added history = tt
  read_last (Err (Outside call)) is added history = absurd is
  read_last (Err (Damaged which at)) is added history = tt
  read_last (Err (Spent number)) is added history = tt
  read_last (Err NoMemory) is added history = tt

  read_cause : (result : Result Struct JobFault) → ReadBook given name (book_result result)
      → (before now : ℕ)
      → now ≡ before → JobCause before now result
  read_cause (Ok b) is before now same = same
  read_cause (Err (Outside call)) is before now same = absurd is
  read_cause (Err (Damaged which at)) is before now same = same
  read_cause (Err (Spent number)) is before now same = same
  read_cause (Err NoMemory) is before now same = same

-- after a failed read nothing is shown
unshown : (folder : List ℕ) (fault : OutsideFault) {P : History → History → Type 0} {old new : Option History} → Adds old new P
    → Adds old new (ShowsBook folder (Err (job_fault fault)))
unshown folder (site_failed call) told = adds_as (ShowsBook folder (Err (Outside call))) told (λ added history x. tt)
unshown folder no_memory told = adds_as (ShowsBook folder (Err NoMemory)) told (λ added history x. tt)

-- what the bytes are read as, which own reads show
shown : (folder : List ℕ) (given : Option (List ℕ)) (name : List ℕ) (result : Result Struct JobFault) → name ≡ book_name folder
    → ReadBook given name (book_result result) → (added history : History) → ShowsFile (book_name folder) (Ok given) added history
    → ShowsBook folder (book_result result) added history
shown folder None name (Ok b) named is added history missed = inl (missed, is)
shown folder (Some bytes) name (Ok b) named is added history all =
    inr (shown_as (λ w same. subst (λ x. IsBookOf (Some x) (book_view b)) (sym same) is) all)
shown folder None name (Err (Damaged which at)) named is added history missed = absurd is.1
shown folder (Some bytes) name (Err (Damaged which at)) named is added history all =
    (is.0 ∙ named, shown_as (λ w same. subst (λ x. IsNoBookAt (Some x) at) (sym same) is.1) all)
shown folder given name (Err (Outside call)) named is added history all = tt
shown folder given name (Err (Spent number)) named is added history all = tt
shown folder given name (Err NoMemory) named is added history all = tt

pub returns-in_err-name-clause-shown : goal.returns-in_err-name-clause-shown
returns-in_err-name-clause-shown g c =
    let p = err_from_is_err_and c.from_residual.result c.from_residual.ensures.1 in
    rw (p.1, p.2) (adds_none _ (ShowsBook c.args.folder.now (Err NoMemory)) (λ h. tt))

pub returns-in_err-given-clause-shown : goal.returns-in_err-given-clause-shown
returns-in_err-given-clause-shown g c =
    let r = c.from_residual-in_err-given in
    let p = err_from_is_err_and r.result r.ensures.1 in
    rw (p.1, p.2) (unshown c.args.folder.now c.in_err-given.field-0.0 c.in_err-given.ensures.pieces)

pub returns-clause-shown : goal.returns-clause-shown
returns-clause-shown g c =
    let named = c.in_ok-name.ensures.name in
    let given = c.in_ok-given.given in
    adds_as (ShowsBook c.args.folder.now (book_result c.book_of.result))
    (subst (λ (name : List ℕ). Adds (g.S.Site.told c.args.site.now) (g.S.Site.told c.read_file.new.site) (ShowsFile name (Ok given)))
    (c.as_str.ensures.text ∙ named) c.in_ok-given.ensures.shown)
    (λ added history x. shown c.args.folder.now given c.in_ok-name.name c.book_of.result named c.book_of.ensures added history x)

pub returns-in_err-name-clause-raw : goal.returns-in_err-name-clause-raw
returns-in_err-name-clause-raw g c =
    let p = err_from_is_err_and c.from_residual.result c.from_residual.ensures.1 in
    rw (p.1, p.2) (λ file small. leads_none _ (λ h x. tt))

pub returns-in_err-given-clause-raw : goal.returns-in_err-given-clause-raw
returns-in_err-given-clause-raw g c =
    let r = c.from_residual-in_err-given in
    let p = err_from_is_err_and r.result r.ensures.1 in
    rw (p.1, p.2) (λ file small. unread c.args.folder.now file c.in_err-given.field-0.0
    c.in_err-given.ensures.pieces)

pub returns-in_err-given-clause-only : goal.returns-in_err-given-clause-only
returns-in_err-given-clause-only g c =
    let r = c.from_residual-in_err-given in
    let p = err_from_is_err_and r.result r.ensures.1 in
    rw (p.1, p.2) (failed_read c.in_err-given.field-0.0)

pub returns-in_err-given-clause-last : goal.returns-in_err-given-clause-last
returns-in_err-given-clause-last g c =
    let r = c.from_residual-in_err-given in
    let p = err_from_is_err_and r.result r.ensures.1 in
    rw (p.1, p.2) (failed_last Struct (Option (List ℕ)) c.in_err-given.field-0.0
    c.in_err-given.ensures.last)

pub returns-in_err-given-clause-cause : goal.returns-in_err-given-clause-cause
returns-in_err-given-clause-cause g c =
    let r = c.from_residual-in_err-given in
    let p = err_from_is_err_and r.result r.ensures.1 in
    rw (p.1, p.2)
    (failed_cause Struct (Option (List ℕ)) c.in_err-given.field-0.0 (g.S.Site.fault_count
    c.args.site.now)
    (g.S.Site.fault_count c.read_file.new.site) c.in_err-given.ensures.cause)

pub returns-clause-raw : goal.returns-clause-raw
returns-clause-raw g c = λ file small.
    let named = c.in_ok-name.ensures.name in
    let given = c.in_ok-given.given in
    leads_as (λ h x. x)
    (λ h x. loaded c.args.folder.now file given c.in_ok-name.name c.book_of.result named
    c.book_of.ensures h x)
    (subst
    (λ (name : List ℕ). Adds (g.S.Site.told c.args.site.now) (g.S.Site.told c.read_file.new.site)
    (Leads (anyhow (SparesFile name)) (Has name file) (Loaded name file (Ok given))))
    (c.as_str.ensures.text ∙ named) (c.in_ok-given.ensures.raw file small))

pub returns-clause-own : goal.returns-clause-own
returns-clause-own g c = c.in_ok-given.ensures.own

pub returns-clause-pieces : goal.returns-clause-pieces
returns-clause-pieces g c = c.in_ok-given.ensures.pieces

pub returns-clause-only : goal.returns-clause-only
returns-clause-only g c = read_only c.in_ok-given.given c.in_ok-name.name c.book_of.result
    c.book_of.ensures

pub returns-clause-last : goal.returns-clause-last
returns-clause-last g c =
    adds_as (FailsLast c.book_of.result) c.in_ok-given.ensures.last
    (λ added history x. read_last c.in_ok-given.given c.in_ok-name.name c.book_of.result
    c.book_of.ensures added history)

pub returns-clause-cause : goal.returns-clause-cause
returns-clause-cause g c =
    read_cause c.in_ok-given.given c.in_ok-name.name c.book_of.result c.book_of.ensures
    (g.S.Site.fault_count c.args.site.now) (g.S.Site.fault_count c.read_file.new.site)
    c.in_ok-given.ensures.cause
