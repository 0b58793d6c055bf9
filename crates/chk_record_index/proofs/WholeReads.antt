-- A file that is read whole, piece by piece.
use Rattle.std.proofs.Common.{◌≡◌, ℕ, ◌+◌, min, List, [], ◌++◌, length, take, drop, Option, Some, None, option_map, Ok, Err, Result, refl, sym, ◌∙◌, ap, append_assoc, append-nil, arith, length-append, length-take}
use Rattle.std.proofs.lemmas.List.{nil_from_length, take-append-drop}
use Rattle.std.proofs.Math.Seq.{drop-append_seam}
use Rattle.chk_site.specs.declared.acts.OutsideFault.{OutsideFault}
use Rattle.chk_site.specs.Files.{File}
use Rattle.chk_site.specs.Effect.{IsSmallFile}
use Rattle.chk_site.specs.History.{History}
use Rattle.chk_site.specs.Site.{Adds, LastFailed}
use Rattle.chk_site.specs.Runs.{anyhow, Leads}
use Rattle.chk_site.proofs.Runs.{adds_then, adds_as}
use Rattle.chk_site.proofs.Leads.{leads_then, leads_none, owned_anyhow}
use Rattle.chk_replace.specs.Load.{asks_at, Has, HasPiece, Loaded, bytes_of, IsFront, HasFront}
use Rattle.chk_site.proofs.LastCalls.{last_of_both as last_then}
use Rattle.chk_world.specs.JobSteps.{SparesFile}
use Rattle.chk_replace.proofs.Pieces.{front_none, front_more, front_whole, none_whole}

-- a load before its first piece
pub load_begins : (name : List ℕ) (file : Option File) (now : Option History) → Adds now now (Leads (anyhow (SparesFile name)) (Has name file) (HasFront name file []))
load_begins name file now = leads_none now (λ h has. (has, front_none file))

-- the rest of the file is known beside what a piece says
with_front : (name : List ℕ) (file : Option File) (bytes : List ℕ) (at : ℕ) (result : Result (Option (List ℕ)) OutsideFault)
    (B : History → Type 0) {old mid new : Option History}
    → ((h : History) → IsFront bytes file → HasPiece name at file result h → B h)
    → Adds old mid (Leads (anyhow (SparesFile name)) (Has name file) (HasFront name file bytes))
    → Adds mid new (Leads (anyhow (SparesFile name)) (Has name file) (HasPiece name at file result))
    → Adds old new (Leads (anyhow (SparesFile name)) (Has name file) B)
with_front name file bytes at result B join so_far piece =
    leads_then so_far
    (adds_as (Leads (anyhow (SparesFile name)) (HasFront name file bytes) B) piece
    (λ added history x. record { leads = λ s h. join (added ++ history) h.1 (x.leads s h.0); own = x.own }))

-- a load after one more piece
pub load_goes_on : (name : List ℕ) (bytes piece : List ℕ) (at : ℕ) (file : Option File) {old mid new : Option History} → at ≡ length bytes
    → Adds old mid (Leads (anyhow (SparesFile name)) (Has name file) (HasFront name file bytes))
    → Adds mid new (Leads (anyhow (SparesFile name)) (Has name file) (HasPiece name at file (Ok (Some piece))))
    → Adds old new (Leads (anyhow (SparesFile name)) (Has name file) (HasFront name file (bytes ++ piece)))
load_goes_on name bytes piece at file here so_far told =
    with_front name file bytes at (Ok (Some piece)) (HasFront name file (bytes ++ piece))
    (λ h front x. (x.0, front_more bytes piece at file here x.1 front)) so_far told

-- a load after an empty piece
pub load_ends : (name : List ℕ) (bytes piece : List ℕ) (at : ℕ) (file : Option File) {old mid new : Option History} → at ≡ length bytes
    → length piece ≡ 0 → IsSmallFile file
    → Adds old mid (Leads (anyhow (SparesFile name)) (Has name file) (HasFront name file bytes))
    → Adds mid new (Leads (anyhow (SparesFile name)) (Has name file) (HasPiece name at file (Ok (Some piece))))
    → Adds old new (Leads (anyhow (SparesFile name)) (Has name file) (Loaded name file (Ok (Some bytes))))
load_ends name bytes piece at file here empty small so_far told =
    with_front name file bytes at (Ok (Some piece)) (Loaded name file (Ok (Some bytes)))
    (λ h front x. (x.0, front_whole bytes piece at file here empty small x.1 front)) so_far told

-- a load that finds no file
pub load_misses : (name : List ℕ) (bytes : List ℕ) (at : ℕ) (file : Option File) {old mid new : Option History}
    → Adds old mid (Leads (anyhow (SparesFile name)) (Has name file) (HasFront name file bytes))
    → Adds mid new (Leads (anyhow (SparesFile name)) (Has name file) (HasPiece name at file (Ok None)))
    → Adds old new (Leads (anyhow (SparesFile name)) (Has name file) (Loaded name file (Ok None)))
load_misses name bytes at file so_far told =
    with_front name file bytes at (Ok None) (Loaded name file (Ok None))
    (λ h front x. (x.0, none_whole (asks_at at) at file x.1)) so_far told

-- nothing is said of the file after a failure, whatever was added
pub not_loaded : {P : History → History → Type 0} (name : List ℕ) (file : Option File) (fault : OutsideFault) {old new : Option History} → Adds old new P
    → Adds old new (Leads (anyhow (SparesFile name)) (Has name file) (Loaded name file (Err fault)))
not_loaded name file fault told =
    adds_as (Leads (anyhow (SparesFile name)) (Has name file) (Loaded name file (Err fault))) told (λ added history p. record { leads = λ s h. tt; own = owned_anyhow added history })

-- the last step of a load that ends with a piece
pub loads_last : (T : Type 0) {P : History → History → Type 0} (result : Result T OutsideFault) {old mid new : Option History}
    → Adds old mid P → Adds mid new (LastFailed result) → Adds old new (LastFailed result)
loads_last T result so_far last =
    adds_then (LastFailed result) so_far last (λ a b history x y. last_then result b a history y)
