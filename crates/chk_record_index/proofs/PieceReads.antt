-- One read of a file that others leave as it is.
use Rattle.std.proofs.Common.{◌≡◌, inl, inr, true≢false, ℕ, ◌≤◌, List, [], ◌∷◌, length, take, drop, Option, Some, None, option_map, Ok, Err, Result, refl, sym, ◌∙◌, ap, subst, arith}
use Rattle.std.proofs.lemmas.List.{drop_all}
use Rattle.std.proofs.Math.Seq.{take-nil}
use Rattle.chk_site.specs.declared.acts.Who.{Who}
use Rattle.chk_site.specs.declared.acts.OutsideFault.{OutsideFault}
use Rattle.chk_site.specs.declared.acts.CallFault.{CallFault}
use Rattle.chk_site.specs.declared.acts.CallFault.TheVariants.{Missing, Short}
use Rattle.chk_site.specs.declared.acts.ActAnswer.{ActAnswer}
use Rattle.chk_site.specs.declared.acts.ActAnswer.TheVariants.{Done, Refused}
use Rattle.chk_site.specs.Files.{File}
use Rattle.chk_site.specs.Acts.{Deed, Reads, tail_in}
use Rattle.chk_site.specs.History.{History, Every}
use Rattle.chk_site.specs.Honest.{AtRead}
use Rattle.chk_site.specs.declared.acts.Call.TheVariants.{Read}
use Rattle.chk_site.specs.Site.{Adds, Asked, asked, own_step, bytes_given, Calls}
use Rattle.chk_site.specs.Runs.{anyhow, Leads}
use Rattle.chk_site.proofs.Runs.{adds_as, ran}
use Rattle.chk_site.proofs.Leads.{Keeps, Shows, acted_leads, owned_anyhow}
use Rattle.chk_site.proofs.Stays.{unnamed_stays}
use Rattle.chk_replace.specs.Load.{Has, bytes_of}
use Rattle.chk_replace.proofs.CallSteps.{call_each}
use Rattle.chk_world.specs.Sight.{job}
use Rattle.chk_world.specs.JobSteps.{IsOf, ReadsFile, reads, SparesFile}
use Rattle.chk_record_index.specs.Pieces.{AsksInPieces, bytes_in, asks_for, HasMost, HasBytes}

-- a read of the file at this place, of at most so many bytes
abbrev pub read_for : Who → List ℕ → ℕ → ℕ → Asked
read_for who name at most = asked who Read (name ∷ []) at (asks_for most at)

pub keeps_file : (name : List ℕ) (file : Option File) → Keeps (SparesFile name) (Has name file)
keeps_file name file before step theirs leaves has = leaves ∙ has

-- a read that was answered leaves the file, and its answer agrees with the file
read_shows : (who : Who) (name : List ℕ) (at most : ℕ) (file : Option File) (answer : ActAnswer) (result : Result (Option (List ℕ)) OutsideFault)
    → tail_in answer name ≡ None
    → ((h : History) → Has name file h → AtRead answer at (asks_for most at) file → HasMost name at most file result h)
    → Shows (Has name file) (HasMost name at most file result) (read_for who name at most) answer
read_shows who name at most file answer result quiet known before files logs running honest has =
    known (own_step (read_for who name at most) answer files logs ∷ before)
    (unnamed_stays before (own_step (read_for who name at most) answer files logs) name honest.modelled refl quiet ∙ has)
    (subst (AtRead answer at (asks_for most at)) has honest.agrees)

given_piece : (bytes : List ℕ) (at most : ℕ) (file : Option File) → AtRead (Done (bytes ∷ []) 0 0) at (asks_for most at) file
    → Some bytes ≡ option_map (λ bytes. take (asks_for most at) (drop at bytes)) (bytes_of file)
given_piece bytes at most None agrees = absurd agrees
given_piece bytes at most (Some file) agrees = let e = agrees.1 in cc

no_piece : (size at most : ℕ) (file : Option File) → AtRead (Refused (Short size)) at (asks_for most at) file
    → Some [] ≡ option_map (λ bytes. take (asks_for most at) (drop at bytes)) (bytes_of file)
no_piece size at most None agrees = absurd agrees
no_piece size at most (Some file) agrees =
    let past : length file.bytes ≤ at = omega (arith, agrees.0) in
    ap (λ bytes. Some bytes) (sym (ap (take (asks_for most at)) (drop_all at file.bytes past) ∙ take-nil (asks_for most at)))

pub piece_given : (who : Who) (name : List ℕ) (at most : ℕ) (bytes : List ℕ) {old new : Option History}
    → Adds old new (Calls (read_for who name at most) (Ok (bytes_given bytes)))
    → (file : Option File) → Adds old new (Leads (anyhow (SparesFile name)) (Has name file) (HasMost name at most file (Ok (Some bytes))))
piece_given who name at most bytes told file =
    let B = HasMost name at most file (Ok (Some bytes)) in
    adds_as (Leads (anyhow (SparesFile name)) (Has name file) B) told
    (λ added history calls. record {
      leads =
          acted_leads B (keeps_file name file)
          (read_shows who name at most file (bytes_given bytes) (Ok (Some bytes)) refl (λ h has agrees. (has, given_piece bytes at most file agrees)))
          (ran (Ok (bytes_given bytes)) (λ e. cc) calls);
      own = owned_anyhow added history;
    })

pub piece_missing : (who : Who) (name : List ℕ) (at most : ℕ) {old new : Option History} → Adds old new (Calls (read_for who name at most) (Err Missing))
    → (file : Option File) → Adds old new (Leads (anyhow (SparesFile name)) (Has name file) (HasMost name at most file (Ok None)))
piece_missing who name at most told file =
    let B = HasMost name at most file (Ok None) in
    adds_as (Leads (anyhow (SparesFile name)) (Has name file) B) told
    (λ added history calls. record {
      leads =
          acted_leads B (keeps_file name file)
          (read_shows who name at most file (Refused Missing) (Ok None) refl
          (λ h has agrees. (has, sym (ap (λ o. option_map (λ bytes. take (asks_for most at) (drop at bytes)) (bytes_of o)) agrees))))
          (ran (Err Missing) (λ e. cc) calls);
      own = owned_anyhow added history;
    })

pub piece_short : (who : Who) (name : List ℕ) (at most size : ℕ) {old new : Option History}
    → Adds old new (Calls (read_for who name at most) (Err (Short size)))
    → (file : Option File) → Adds old new (Leads (anyhow (SparesFile name)) (Has name file) (HasMost name at most file (Ok (Some []))))
piece_short who name at most size told file =
    let B = HasMost name at most file (Ok (Some [])) in
    adds_as (Leads (anyhow (SparesFile name)) (Has name file) B) told
    (λ added history calls. record {
      leads =
          acted_leads B (keeps_file name file)
          (read_shows who name at most file (Refused (Short size)) (Ok (Some [])) refl (λ h has agrees. (has, no_piece size at most file agrees)))
          (ran (Err (Short size)) (λ e. cc) calls);
      own = owned_anyhow added history;
    })

-- nothing is said of the file after a failure
pub not_read : {P : History → History → Type 0} (name : List ℕ) (at most : ℕ) (fault : OutsideFault) {old new : Option History} → Adds old new P
    → (file : Option File) → Adds old new (Leads (anyhow (SparesFile name)) (Has name file) (HasMost name at most file (Err fault)))
not_read name at most fault told file =
    adds_as (Leads (anyhow (SparesFile name)) (Has name file) (HasMost name at most file (Err fault))) told
    (λ added history p. record { leads = λ s h. tt; own = owned_anyhow added history })

-- each step of it is of others, or a read of the job's
pub piece_own : (who : Who) (name : List ℕ) (at most : ℕ) (given : Result ActAnswer CallFault) {old new : Option History} → who ≡ job
    → Adds old new (Calls (read_for who name at most) given) → Adds old new (Every (IsOf ReadsFile))
piece_own who name at most given is told =
    adds_as (Every (IsOf ReadsFile)) told
    (λ added history calls.
    call_each (IsOf ReadsFile) given (λ before step theirs. inl theirs)
    (λ before answer files logs running honest. inr (record { own = refl; running = running; honest = honest; by = is }, reads name at (asks_for most at)))
    calls)

-- how much a read asks for
abbrev most_asked : Deed → ℕ
most_asked (Reads name at max) = max
most_asked call = 0

pub piece_asks : (who : Who) (name : List ℕ) (at most : ℕ) (given : Result ActAnswer CallFault) {old new : Option History} → most ≤ 1048576
    → Adds old new (Calls (read_for who name at most) given) → Adds old new (Every AsksInPieces)
piece_asks who name at most given low told =
    adds_as (Every AsksInPieces) told
    (λ added history calls.
    call_each AsksInPieces given (λ before step theirs own. absurd (true≢false (sym own ∙ theirs.0)))
    (λ before answer files logs running honest own name' at' max is.
    let e : asks_for most at ≡ max = ap most_asked is in omega arith)
    calls)

-- the same, where a file that isn't there counts as empty
bytes_so : (at most : ℕ) (bytes : List ℕ) (file : Option File) → Some bytes ≡ option_map (λ bytes. take (asks_for most at) (drop at bytes)) (bytes_of file)
    → bytes ≡ take (asks_for most at) (drop at (bytes_in file))
bytes_so at most bytes None given = absurd (cc)
bytes_so at most bytes (Some file) given = cc

none_so : (at most : ℕ) (file : Option File) → None ≡ option_map (λ bytes. take (asks_for most at) (drop at bytes)) (bytes_of file)
    → [] ≡ take (asks_for most at) (drop at (bytes_in file))
none_so at most None given = sym (ap (take (asks_for most at)) (drop_all at [] (omega arith)) ∙ take-nil (asks_for most at))
none_so at most (Some file) given = absurd (cc)

pub bytes_given_so : (name : List ℕ) (at most : ℕ) (bytes : List ℕ) {old new : Option History}
    → ((file : Option File) → Adds old new (Leads (anyhow (SparesFile name)) (Has name file) (HasMost name at most file (Ok (Some bytes)))))
    → (file : Option File) → Adds old new (Leads (anyhow (SparesFile name)) (Has name file) (HasBytes name at most file (Ok bytes)))
bytes_given_so name at most bytes told file =
    adds_as (Leads (anyhow (SparesFile name)) (Has name file) (HasBytes name at most file (Ok bytes))) (told file)
    (λ added history x. record { leads = λ s h. let y = x.leads s h in (y.0, bytes_so at most bytes file y.1); own = x.own })

pub none_given_so : (name : List ℕ) (at most : ℕ) {old new : Option History}
    → ((file : Option File) → Adds old new (Leads (anyhow (SparesFile name)) (Has name file) (HasMost name at most file (Ok None))))
    → (file : Option File) → Adds old new (Leads (anyhow (SparesFile name)) (Has name file) (HasBytes name at most file (Ok [])))
none_given_so name at most told file =
    adds_as (Leads (anyhow (SparesFile name)) (Has name file) (HasBytes name at most file (Ok []))) (told file)
    (λ added history x. record { leads = λ s h. let y = x.leads s h in (y.0, none_so at most file y.1); own = x.own })
