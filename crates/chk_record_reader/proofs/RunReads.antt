-- One run of a file's bytes, read by one call or by two.
use Rattle.std.proofs.Common.{◌≡◌, inl, inr, true≢false, ℕ, ◌+◌, ◌-◌, ◌≤◌, ◌<◌, ◌^◌, min, List, [], ◌∷◌, ◌++◌, length, take, drop, Option, Some, None, Ok, Err, Result, refl, sym, ◌∙◌, ap, subst, arith, length-take, ⊎_elim}
use Rattle.std.proofs.lemmas.Bool.{cases_lt}
use Rattle.std.proofs.lemmas.List.{drop_all, drop-drop, take_all}
use Rattle.std.proofs.Math.Seq.{take-nil, take-add}
use Rattle.chk_site.specs.declared.acts.Who.{Who}
use Rattle.chk_site.specs.declared.acts.OutsideFault.{OutsideFault}
use Rattle.chk_site.specs.declared.acts.OutsideFault.TheVariants.{NoMemory as no_memory}
use Rattle.chk_site.specs.declared.acts.CallFault.{CallFault}
use Rattle.chk_site.specs.declared.acts.Call.TheVariants.{Read}
use Rattle.chk_site.specs.declared.acts.CallFault.TheVariants.{Missing, Short}
use Rattle.chk_site.specs.declared.acts.ActAnswer.{ActAnswer}
use Rattle.chk_site.specs.declared.acts.ActAnswer.TheVariants.{Done, Refused}
use Rattle.chk_site.specs.Files.{File}
use Rattle.chk_site.specs.Effect.{IsSmallFile}
use Rattle.chk_site.specs.Acts.{Deed, Reads, tail_in}
use Rattle.chk_site.specs.History.{History, Step, Every}
use Rattle.chk_site.specs.Honest.{AtRead}
use Rattle.chk_site.specs.Site.{Adds, Asked, asked, own_step, bytes_given, Acted, Calls, LastFailed}
use Rattle.chk_site.specs.Runs.{anyhow, Leads}
use Rattle.chk_site.proofs.Runs.{adds_as, adds_then, every_join, ran}
use Rattle.chk_site.proofs.Leads.{Keeps, Shows, acted_leads, leads_then, owned_anyhow}
use Rattle.chk_site.proofs.Stays.{unnamed_stays}
use Rattle.chk_replace.specs.Load.{Has}
use Rattle.chk_replace.proofs.CallSteps.{call_each}
use Rattle.chk_site.proofs.LastCalls.{last_of_both as last_then}
use Rattle.chk_world.specs.Sight.{job}
use Rattle.chk_world.specs.JobSteps.{IsOf, ReadsFile, reads, SparesFile}
use Rattle.chk_record_index.specs.Pieces.{AsksInPieces, bytes_in}
use Rattle.chk_record_reader.specs.Spans.{HasRun}
use Rattle.chk_record_index.proofs.PieceReads.{keeps_file}

-- a read of the file at this place, of at most so many bytes
abbrev pub read_of : Who → List ℕ → ℕ → ℕ → Asked
read_of who name at max = asked who Read (name ∷ []) at max

-- a read that was answered leaves each file
read_leaves : (who : Who) (name : List ℕ) (at max : ℕ) (other : List ℕ) (file : Option File)
    (answer : ActAnswer)
    → tail_in answer other ≡ None → Shows (Has other file) (Has other file)
    (read_of who name at max) answer
read_leaves who name at max other file answer quiet before files logs running honest has =
    unnamed_stays before (own_step (read_of who name at max) answer files logs) other
    honest.modelled refl quiet ∙ has

-- and its answer agrees with the file
read_shows : (who : Who) (name : List ℕ) (at max : ℕ) (file : Option File) (answer : ActAnswer)
    (bytes : List ℕ)
    → tail_in answer name ≡ None → (AtRead answer at max file → bytes ≡ take max (drop at
    (bytes_in file)))
    → Shows (Has name file) (HasRun name at max file (Ok bytes)) (read_of who name at max) answer
read_shows who name at max file answer bytes quiet known before files logs running honest has = (
  read_leaves who name at max name file answer quiet before files logs running honest has,
  known (subst (AtRead answer at max) has honest.agrees),
)

given_so : (bytes : List ℕ) (at max : ℕ) (file : Option File) → AtRead (Done
    (bytes ∷ []) 0 0) at max file → bytes ≡ take max (drop at (bytes_in file))
given_so bytes at max None agrees = absurd agrees
given_so bytes at max (Some file) agrees = let e = agrees.1 in cc

missing_so : (at max : ℕ) (file : Option File) → AtRead (Refused Missing) at max file → []
    ≡ take max (drop at (bytes_in file))
missing_so at max file agrees =
    sym (ap (λ o. take max (drop at (bytes_in o))) agrees ∙ (ap (take max) (drop_all at []
    (omega arith)) ∙ take-nil max))

short_so : (size at max : ℕ) (file : Option File) → AtRead (Refused (Short size)) at max file → []
    ≡ take max (drop at (bytes_in file))
short_so size at max None agrees = absurd agrees
short_so size at max (Some file) agrees =
    let past : length file.bytes ≤ at = omega (arith, agrees.0) in
    sym (ap (take max) (drop_all at file.bytes past) ∙ take-nil max)

-- ---- one read

pub run_given : (who : Who) (name : List ℕ) (at max : ℕ) (bytes : List ℕ)
    {old new : Option History}
    → Adds old new (Calls (read_of who name at max) (Ok (bytes_given bytes)))
    → (file : Option File) → Adds old new (Leads (anyhow (SparesFile name)) (Has name file)
    (HasRun name at max file (Ok bytes)))
run_given who name at max bytes told file =
    let B = HasRun name at max file (Ok bytes) in
    adds_as (Leads (anyhow (SparesFile name)) (Has name file) B) told
    (λ added history calls. record {
      leads =
          acted_leads B (keeps_file name file)
          (read_shows who name at max file (bytes_given bytes) bytes refl
          (given_so bytes at max file))
          (ran (Ok (bytes_given bytes)) (λ e. cc) calls);
      own = owned_anyhow added history;
    })

pub run_missing : (who : Who) (name : List ℕ) (at max : ℕ) {old new : Option History}
    → Adds old new (Calls (read_of who name at max) (Err Missing))
    → (file : Option File) → Adds old new (Leads (anyhow (SparesFile name)) (Has name file)
    (HasRun name at max file (Ok [])))
run_missing who name at max told file =
    let B = HasRun name at max file (Ok []) in
    adds_as (Leads (anyhow (SparesFile name)) (Has name file) B) told
    (λ added history calls. record {
      leads =
          acted_leads B (keeps_file name file)
          (read_shows who name at max file (Refused Missing) [] refl (missing_so at max file))
          (ran (Err Missing) (λ e. cc) calls);
      own = owned_anyhow added history;
    })

pub run_short : (who : Who) (name : List ℕ) (at max size : ℕ) {old new : Option History}
    → Adds old new (Calls (read_of who name at max) (Err (Short size)))
    → (file : Option File) → Adds old new (Leads (anyhow (SparesFile name)) (Has name file)
    (HasRun name at max file (Ok [])))
run_short who name at max size told file =
    let B = HasRun name at max file (Ok []) in
    adds_as (Leads (anyhow (SparesFile name)) (Has name file) B) told
    (λ added history calls. record {
      leads =
          acted_leads B (keeps_file name file)
          (read_shows who name at max file (Refused (Short size)) [] refl
          (short_so size at max file))
          (ran (Err (Short size)) (λ e. cc) calls);
      own = owned_anyhow added history;
    })

-- nothing is said after a failure
pub not_run : {P : History → History → Type 0} (name : List ℕ) (at max : ℕ) (fault : OutsideFault)
    {old new : Option History} → Adds old new P
    → (file : Option File) → Adds old new (Leads (anyhow (SparesFile name)) (Has name file)
    (HasRun name at max file (Err fault)))
not_run name at max fault told file =
    adds_as (Leads (anyhow (SparesFile name)) (Has name file) (HasRun name at max file
    (Err fault))) told
    (λ added history p. record { leads = λ s h. tt; own = owned_anyhow added history })

-- a file that others leave stays, where the read was answered
pub read_stays : (who : Who) (name : List ℕ) (at max : ℕ) (given : Result ActAnswer CallFault)
    (answer : ActAnswer) (other : List ℕ)
    {old new : Option History} → tail_in answer other ≡ None
    → ((added history : History) → Calls (read_of who name at max) given added history → Acted
    (read_of who name at max) answer added history)
    → Adds old new (Calls (read_of who name at max) given)
    → (file : Option File) → Adds old new (Leads (anyhow (SparesFile other)) (Has other file)
    (Has other file))
read_stays who name at max given answer other quiet acted told file =
    adds_as (Leads (anyhow (SparesFile other)) (Has other file) (Has other file)) told
    (λ added history calls. record {
      leads = acted_leads (Has other file) (keeps_file other file)
          (read_leaves who name at max other file answer quiet) (acted added history calls);
      own = owned_anyhow added history;
    })

pub unsaid : {P : History → History → Type 0} (other : List ℕ) (file : Option File)
    {old new : Option History} → Adds old new P
    → Adds old new (Leads (anyhow (SparesFile other)) (Has other file) (λ h. Unit {0}))
unsaid other file told =
    adds_as (Leads (anyhow (SparesFile other)) (Has other file) (λ h. Unit {0})) told
    (λ added history p. record { leads = λ s h. tt; own = owned_anyhow added history })

pub run_own : (who : Who) (name : List ℕ) (at max : ℕ) (given : Result ActAnswer CallFault)
    {old new : Option History} → who ≡ job
    → Adds old new (Calls (read_of who name at max) given) → Adds old new (Every (IsOf ReadsFile))
run_own who name at max given is told =
    adds_as (Every (IsOf ReadsFile)) told
    (λ added history calls.
    call_each (IsOf ReadsFile) given (λ before step theirs. inl theirs)
    (λ before answer files logs running honest. inr (
      record
          { own = refl; running = running; honest = honest; by = is },
      reads name at max,
    ))
    calls)

abbrev most_asked : Deed → ℕ
most_asked (Reads name at max) = max
most_asked call = 0

pub run_asks : (who : Who) (name : List ℕ) (at max : ℕ) (given : Result ActAnswer CallFault)
    {old new : Option History} → max ≤ 1048576
    → Adds old new (Calls (read_of who name at max) given) → Adds old new (Every AsksInPieces)
run_asks who name at max given few told =
    adds_as (Every AsksInPieces) told
    (λ added history calls.
    call_each AsksInPieces given (λ before step theirs own. absurd (true≢false (sym own
    ∙ theirs.0)))
    (λ before answer files logs running honest own name' at' max' is.
    let e : max ≡ max' = ap most_asked is in omega arith)
    calls)

-- ---- two reads in turn

behind_so : (at behind : ℕ) (file : Option File) → IsSmallFile file → behind ≡ min (at + 1048576)
    (2 ^ 64 - 1)
    → drop behind (bytes_in file) ≡ drop 1048576 (drop at (bytes_in file))
behind_so at behind file small is =
    ⊎_elim
    (λ far. drop_all behind (bytes_in file) (let s = small_bytes file small in omega arith)
    ∙ sym (drop-drop 1048576 at (bytes_in file) ∙ drop_all (at + 1048576) (bytes_in file)
    (let s = small_bytes file small in omega arith)))
    (λ near. ap (λ n. drop n (bytes_in file)) (is ∙ near_is near) ∙ sym (drop-drop 1048576 at
    (bytes_in file)))
    (cases_lt (2 ^ 64 - 1) (at + 1048576))
  where
    small_bytes : (file : Option File) → IsSmallFile file → length (bytes_in file) < 2 ^ 63
    small_bytes None small = omega arith
    small_bytes (Some f) small = small

    near_is : at + 1048576 ≤ 2 ^ 64 - 1 → min (at + 1048576) (2 ^ 64 - 1) ≡ at + 1048576
    near_is near = omega arith

pub two_runs : (name : List ℕ) (at behind size : ℕ) (first rest : List ℕ) (file : Option File)
    {old mid new : Option History}
    → IsSmallFile file → behind ≡ min (at + 1048576) (2 ^ 64 - 1) → 1048576 ≤ size
    → Adds old mid (Leads (anyhow (SparesFile name)) (Has name file) (HasRun name at 1048576 file
    (Ok first)))
    → Adds mid new (Leads (anyhow (SparesFile name)) (Has name file) (HasRun name behind
    (size - 1048576) file (Ok rest)))
    → Adds old new (Leads (anyhow (SparesFile name)) (Has name file) (HasRun name at size file (Ok
    (first ++ rest))))
two_runs name at behind size first rest file small is more so_far told =
    let all = drop at (bytes_in file) in
    leads_then so_far
    (adds_as (Leads (anyhow (SparesFile name)) (HasRun name at 1048576 file (Ok first))
    (HasRun name at size file (Ok (first ++ rest)))) told
    (λ added history x. record {
      leads = λ s h.
          let y = x.leads s h.0 in (
            y.0,
            ap (λ t. t ++ rest) h.1
                ∙ (ap (λ t. take 1048576 all ++ t) (y.1 ∙ ap (take (size - 1048576))
                (behind_so at behind file small is))
                ∙ (sym (take-add 1048576 (size - 1048576) all) ∙ ap (λ n. take n all)
                (let e : 1048576 + (size - 1048576) ≡ size = omega arith in e))),
          );
      own = x.own;
    }))

-- less came than was asked for, since the file ended
short_bytes : (n size : ℕ) (bytes rest : List ℕ) → n ≤ size → length bytes < n → bytes ≡ take n rest → bytes ≡ take size rest
short_bytes n size bytes rest more short is =
    let few : length bytes ≡ min n (length rest) = ap length is ∙ length-take n rest in
    is ∙ (take_all n rest (omega arith) ∙ sym (take_all size rest (omega arith)))

pub short_run : (name : List ℕ) (at size : ℕ) (first : List ℕ) (file : Option File) {old new : Option History} → 1048576 ≤ size
    → length first < 1048576 → Adds old new (Leads (anyhow (SparesFile name)) (Has name file) (HasRun name at 1048576 file (Ok first)))
    → Adds old new (Leads (anyhow (SparesFile name)) (Has name file) (HasRun name at size file (Ok first)))
short_run name at size first file more short told =
    adds_as (Leads (anyhow (SparesFile name)) (Has name file) (HasRun name at size file (Ok first))) told
    (λ added history x. record {
      leads = λ s h. let y = x.leads s h in (y.0, short_bytes 1048576 size first (drop at (bytes_in file)) more short y.1);
      own = x.own;
    })

-- ---- steps in turn

pub last_behind : {T : Type 0} {P : History → History → Type 0} (result : Result T OutsideFault)
    {old mid new : Option History}
    → Adds old mid P → Adds mid new (LastFailed result) → Adds old new (LastFailed result)
last_behind result so_far last = adds_then (LastFailed result) so_far last
    (λ a b history x y. last_then result b a history y)

pub none_failed : (T : Type 0) {P : History → History → Type 0} {old new : Option History}
    → Adds old new P → Adds old new (LastFailed {T = T} (Err no_memory))
none_failed T told = adds_as (LastFailed {T = T} (Err no_memory)) told (λ added history p. tt)
