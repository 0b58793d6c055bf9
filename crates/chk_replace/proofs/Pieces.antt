-- The reading of a file, piece by piece.
use Rattle.std.proofs.Common.{◌≡◌, inl, inr, true≢false, ℕ, ◌+◌, ◌≤◌, min, List, [], ◌∷◌, ◌++◌, length, take, drop, Option, Some, None, option_map, Ok, Err, Result, refl, sym, ◌∙◌, ap, subst, append_assoc, append-nil, arith, length-append, length-take}
use Rattle.std.proofs.lemmas.List.{nil_from_length, take-append-drop, drop_all}
use Rattle.std.proofs.Math.Seq.{take-nil, drop-append_seam}
use Rattle.chk_site.specs.declared.acts.Who.{Who}
use Rattle.chk_site.specs.declared.acts.Call.TheVariants.{Read}
use Rattle.chk_site.specs.declared.acts.OutsideFault.{OutsideFault}
use Rattle.chk_site.specs.declared.acts.CallFault.{CallFault}
use Rattle.chk_site.specs.declared.acts.CallFault.TheVariants.{Missing, Short}
use Rattle.chk_site.specs.declared.acts.ActAnswer.{ActAnswer}
use Rattle.chk_site.specs.declared.acts.ActAnswer.TheVariants.{Done, Refused}
use Rattle.chk_site.specs.Files.{File}
use Rattle.chk_site.specs.Acts.{tail_in}
use Rattle.chk_site.specs.Effect.{IsSmallFile}
use Rattle.chk_site.specs.History.{Step, History, Every, Others, files_after}
use Rattle.chk_site.specs.Honest.{AtRead}
use Rattle.chk_site.specs.Site.{Adds, Asked, asked, own_step, bytes_given, Acted, Calls, LastFailed}
use Rattle.chk_site.specs.Runs.{Side, anyhow, Owns, Leads}
use Rattle.chk_site.proofs.Runs.{adds_then, adds_as, every_join, ran}
use Rattle.chk_site.proofs.Leads.{Keeps, Shows, acted_leads, leads_then, leads_none, owned_anyhow}
use Rattle.chk_site.proofs.Stays.{unnamed_stays}
use Rattle.chk_replace.specs.Replace.{LeavesFile}
use Rattle.chk_replace.specs.Load.{asks_at, IsRead, IsLook, Has, HasPiece, IsGone, Loaded, bytes_of, IsFront, HasFront}
use Rattle.chk_replace.proofs.CallSteps.{call_each}
use Rattle.chk_site.proofs.LastCalls.{last_of_both as last_then}

-- a read of the file at this place
abbrev pub read_at : Who → List ℕ → ℕ → Asked
read_at who name at = asked who Read (name ∷ []) at (asks_at at)

keeps_file : (name : List ℕ) (file : Option File) → Keeps (LeavesFile name) (Has name file)
keeps_file name file before step theirs leaves has = unnamed_stays before step name theirs.1 leaves.untouched leaves.no_tail ∙ has

-- a read that was answered leaves the file, and its answer agrees with the file
read_shows : (who : Who) (name : List ℕ) (at : ℕ) (file : Option File) (answer : ActAnswer) (result : Result (Option (List ℕ)) OutsideFault)
    → tail_in answer name ≡ None
    → ((h : History) → Has name file h → AtRead answer at (asks_at at) file → HasPiece name at file result h)
    → Shows (Has name file) (HasPiece name at file result) (read_at who name at) answer
read_shows who name at file answer result quiet known before files logs running honest has =
    known (own_step (read_at who name at) answer files logs ∷ before)
    (unnamed_stays before (own_step (read_at who name at) answer files logs) name honest.modelled refl quiet ∙ has)
    (subst (AtRead answer at (asks_at at)) has honest.agrees)

given_piece : (bytes : List ℕ) (at : ℕ) (file : Option File) → AtRead (Done (bytes ∷ []) 0 0) at (asks_at at) file
    → Some bytes ≡ option_map (λ bytes. take (asks_at at) (drop at bytes)) (bytes_of file)
given_piece bytes at None agrees = absurd agrees
given_piece bytes at (Some file) agrees = let e = agrees.1 in cc

no_piece : (size at : ℕ) (file : Option File) → AtRead (Refused (Short size)) at (asks_at at) file
    → Some [] ≡ option_map (λ bytes. take (asks_at at) (drop at bytes)) (bytes_of file)
no_piece size at None agrees = absurd agrees
no_piece size at (Some file) agrees =
    let past : length file.bytes ≤ at = omega (arith, agrees.0) in
    ap (λ bytes. Some bytes) (sym (ap (take (asks_at at)) (drop_all at file.bytes past) ∙ take-nil (asks_at at)))

pub piece_given : (who : Who) (name : List ℕ) (at : ℕ) (bytes : List ℕ) {old new : Option History} → Adds old new (Calls (read_at who name at) (Ok (bytes_given bytes)))
    → (file : Option File) → Adds old new (Leads (anyhow (LeavesFile name)) (Has name file) (HasPiece name at file (Ok (Some bytes))))
piece_given who name at bytes told file =
    let B = HasPiece name at file (Ok (Some bytes)) in
    adds_as (Leads (anyhow (LeavesFile name)) (Has name file) B) told
    (λ added history calls. record {
      leads =
          acted_leads B (keeps_file name file)
          (read_shows who name at file (bytes_given bytes) (Ok (Some bytes)) refl (λ h has agrees. (has, given_piece bytes at file agrees)))
          (ran (Ok (bytes_given bytes)) (λ e. cc) calls);
      own = owned_anyhow added history;
    })

pub piece_missing : (who : Who) (name : List ℕ) (at : ℕ) {old new : Option History} → Adds old new (Calls (read_at who name at) (Err Missing))
    → (file : Option File) → Adds old new (Leads (anyhow (LeavesFile name)) (Has name file) (HasPiece name at file (Ok None)))
piece_missing who name at told file =
    let B = HasPiece name at file (Ok None) in
    adds_as (Leads (anyhow (LeavesFile name)) (Has name file) B) told
    (λ added history calls. record {
      leads =
          acted_leads B (keeps_file name file)
          (read_shows who name at file (Refused Missing) (Ok None) refl
          (λ h has agrees. (has, sym (ap (λ o. option_map (λ bytes. take (asks_at at) (drop at bytes)) (bytes_of o)) agrees))))
          (ran (Err Missing) (λ e. cc) calls);
      own = owned_anyhow added history;
    })

pub piece_short : (who : Who) (name : List ℕ) (at size : ℕ) {old new : Option History} → Adds old new (Calls (read_at who name at) (Err (Short size)))
    → (file : Option File) → Adds old new (Leads (anyhow (LeavesFile name)) (Has name file) (HasPiece name at file (Ok (Some []))))
piece_short who name at size told file =
    let B = HasPiece name at file (Ok (Some [])) in
    adds_as (Leads (anyhow (LeavesFile name)) (Has name file) B) told
    (λ added history calls. record {
      leads =
          acted_leads B (keeps_file name file)
          (read_shows who name at file (Refused (Short size)) (Ok (Some [])) refl (λ h has agrees. (has, no_piece size at file agrees)))
          (ran (Err (Short size)) (λ e. cc) calls);
      own = owned_anyhow added history;
    })

-- nothing is said of the file after a failure
pub not_read : {P : History → History → Type 0} (name : List ℕ) (at : ℕ) (fault : OutsideFault) {old new : Option History} → Adds old new P
    → (file : Option File) → Adds old new (Leads (anyhow (LeavesFile name)) (Has name file) (HasPiece name at file (Err fault)))
not_read name at fault told file =
    adds_as (Leads (anyhow (LeavesFile name)) (Has name file) (HasPiece name at file (Err fault))) told (λ added history p. record { leads = λ s h. tt; own = owned_anyhow added history })

-- each step of it is of others, or a read
pub piece_looks : (who : Who) (name : List ℕ) (at : ℕ) (given : Result ActAnswer CallFault) {old new : Option History}
    → Adds old new (Calls (read_at who name at) given) → Adds old new (Every (IsLook who name))
piece_looks who name at given told =
    adds_as (Every (IsLook who name)) told
    (λ added history calls.
    call_each (IsLook who name) given (λ before step theirs. inl theirs)
    (λ before answer files logs running honest. inr (record { own = refl; running = running; honest = honest; by = refl; at = at; asks = refl }))
    calls)

-- the file wasn't there, and still isn't
gone_acted : (who : Who) (name : List ℕ) (at : ℕ) {added history : History} → Acted (read_at who name at) (Refused Missing) added history
    → files_after (added ++ history) name ≡ None
gone_acted who name at {history = history} acted =
    subst (λ (a : History). files_after (a ++ history) name ≡ None) (sym acted.added_is)
    (unnamed_stays (acted.others ++ history) (own_step (read_at who name at) (Refused Missing) acted.files acted.logs) name acted.honest.modelled refl refl
    ∙ acted.honest.agrees)

pub piece_gone : (who : Who) (name : List ℕ) (at : ℕ) {old new : Option History} → Adds old new (Calls (read_at who name at) (Err Missing))
    → Adds old new (IsGone name (Ok None))
piece_gone who name at told =
    adds_as (IsGone name (Ok None)) told (λ added history calls. gone_acted who name at (ran (Err Missing) (λ e. cc) calls))

-- nothing was read yet
pub front_none : (file : Option File) → IsFront [] file
front_none None = refl
front_none (Some file) = (file.bytes, refl)

-- one piece more
pub front_more : (bytes piece : List ℕ) (at : ℕ) (file : Option File) → at ≡ length bytes
    → Some piece ≡ option_map (λ bytes. take (asks_at at) (drop at bytes)) (bytes_of file) → IsFront bytes file → IsFront (bytes ++ piece) file
front_more bytes piece at None here given front = cc
front_more bytes piece at (Some file) here given front =
    let rest = front.0 in
    let n = asks_at at in
    let left : drop at file.bytes ≡ rest =
    ap (λ k. drop k file.bytes) here ∙ ap (drop (length bytes)) front.1 ∙ drop-append_seam bytes rest in
    let is : piece ≡ take n rest = let e : piece ≡ take n (drop at file.bytes) = cc in e ∙ ap (take n) left in (
      drop n rest,
      front.1 ∙ ap (λ t. bytes ++ t) (sym (take-append-drop n rest)) ∙ sym (append_assoc bytes (take n rest) (drop n rest))
          ∙ ap (λ t. (bytes ++ t) ++ drop n rest) (sym is),
    )

-- an empty piece stands at the end
pub front_whole : (bytes piece : List ℕ) (at : ℕ) (file : Option File) → at ≡ length bytes → length piece ≡ 0 → IsSmallFile file
    → Some piece ≡ option_map (λ bytes. take (asks_at at) (drop at bytes)) (bytes_of file) → IsFront bytes file
    → Some bytes ≡ bytes_of file
front_whole bytes piece at None here empty small given front = cc
front_whole bytes piece at (Some file) here empty small given front =
    let rest = front.0 in
    let n = asks_at at in
    let left : drop at file.bytes ≡ rest =
    ap (λ k. drop k file.bytes) here ∙ ap (drop (length bytes)) front.1 ∙ drop-append_seam bytes rest in
    let is : piece ≡ take n rest = let e : piece ≡ take n (drop at file.bytes) = cc in e ∙ ap (take n) left in
    let few : length piece ≡ min n (length rest) = ap length is ∙ length-take n rest in
    let all : length file.bytes ≡ length bytes + length rest = ap length front.1 ∙ length-append bytes rest in
    let none : rest ≡ [] = nil_from_length rest (omega arith) in
    ap (λ bytes. Some bytes) (sym (front.1 ∙ ap (λ t. bytes ++ t) none ∙ append-nil bytes))

pub none_whole : (n at : ℕ) (file : Option File) → None ≡ option_map (λ bytes. take n (drop at bytes)) (bytes_of file) → None ≡ bytes_of file
none_whole n at None given = refl
none_whole n at (Some file) given = cc

-- a load before its first piece
pub load_begins : (name : List ℕ) (file : Option File) (now : Option History) → Adds now now (Leads (anyhow (LeavesFile name)) (Has name file) (HasFront name file []))
load_begins name file now = leads_none now (λ h has. (has, front_none file))

-- the rest of the file is known beside what a piece says
with_front : (name : List ℕ) (file : Option File) (bytes : List ℕ) (at : ℕ) (result : Result (Option (List ℕ)) OutsideFault)
    (B : History → Type 0) {old mid new : Option History}
    → ((h : History) → IsFront bytes file → HasPiece name at file result h → B h)
    → Adds old mid (Leads (anyhow (LeavesFile name)) (Has name file) (HasFront name file bytes))
    → Adds mid new (Leads (anyhow (LeavesFile name)) (Has name file) (HasPiece name at file result))
    → Adds old new (Leads (anyhow (LeavesFile name)) (Has name file) B)
with_front name file bytes at result B join so_far piece =
    leads_then so_far
    (adds_as (Leads (anyhow (LeavesFile name)) (HasFront name file bytes) B) piece
    (λ added history x. record { leads = λ s h. join (added ++ history) h.1 (x.leads s h.0); own = x.own }))

-- a load after one more piece
pub load_goes_on : (name : List ℕ) (bytes piece : List ℕ) (at : ℕ) (file : Option File) {old mid new : Option History} → at ≡ length bytes
    → Adds old mid (Leads (anyhow (LeavesFile name)) (Has name file) (HasFront name file bytes))
    → Adds mid new (Leads (anyhow (LeavesFile name)) (Has name file) (HasPiece name at file (Ok (Some piece))))
    → Adds old new (Leads (anyhow (LeavesFile name)) (Has name file) (HasFront name file (bytes ++ piece)))
load_goes_on name bytes piece at file here so_far told =
    with_front name file bytes at (Ok (Some piece)) (HasFront name file (bytes ++ piece))
    (λ h front x. (x.0, front_more bytes piece at file here x.1 front)) so_far told

-- a load after an empty piece
pub load_ends : (name : List ℕ) (bytes piece : List ℕ) (at : ℕ) (file : Option File) {old mid new : Option History} → at ≡ length bytes
    → length piece ≡ 0 → IsSmallFile file
    → Adds old mid (Leads (anyhow (LeavesFile name)) (Has name file) (HasFront name file bytes))
    → Adds mid new (Leads (anyhow (LeavesFile name)) (Has name file) (HasPiece name at file (Ok (Some piece))))
    → Adds old new (Leads (anyhow (LeavesFile name)) (Has name file) (Loaded name file (Ok (Some bytes))))
load_ends name bytes piece at file here empty small so_far told =
    with_front name file bytes at (Ok (Some piece)) (Loaded name file (Ok (Some bytes)))
    (λ h front x. (x.0, front_whole bytes piece at file here empty small x.1 front)) so_far told

-- a load that finds no file
pub load_misses : (name : List ℕ) (bytes : List ℕ) (at : ℕ) (file : Option File) {old mid new : Option History}
    → Adds old mid (Leads (anyhow (LeavesFile name)) (Has name file) (HasFront name file bytes))
    → Adds mid new (Leads (anyhow (LeavesFile name)) (Has name file) (HasPiece name at file (Ok None)))
    → Adds old new (Leads (anyhow (LeavesFile name)) (Has name file) (Loaded name file (Ok None)))
load_misses name bytes at file so_far told =
    with_front name file bytes at (Ok None) (Loaded name file (Ok None))
    (λ h front x. (x.0, none_whole (asks_at at) at file x.1)) so_far told

-- each step of a load so far
pub looks_then : (who : Who) (name : List ℕ) {old mid new : Option History}
    → Adds old mid (Every (IsLook who name)) → Adds mid new (Every (IsLook who name)) → Adds old new (Every (IsLook who name))
looks_then who name p q =
    adds_then (Every (IsLook who name)) p q (λ a b history x y. every_join (IsLook who name) b a history x y)

-- the last step of a load that ends with a piece
pub looks_last : (T : Type 0) (who : Who) (name : List ℕ) (result : Result T OutsideFault) {old mid new : Option History}
    → Adds old mid (Every (IsLook who name)) → Adds mid new (LastFailed result) → Adds old new (LastFailed result)
looks_last T who name result so_far last =
    adds_then (LastFailed result) so_far last (λ a b history x y. last_then result b a history y)

-- what steps of others and such reads keep, a load keeps
pub looks_lead : {S : Side} {A : History → Type 0} (who : Who) (name : List ℕ) {old new : Option History}
    → ((before : History) (step : Step) → IsRead who name before step → S.own before step)
    → Keeps S.others A → ((before : History) (step : Step) → IsRead who name before step → A before → A (step ∷ before))
    → Adds old new (Every (IsLook who name)) → Adds old new (Leads S A A)
looks_lead {S = S} {A = A} who name mine keeps reads told =
    let all : (added history : History) → Every (IsLook who name) added history → Others S.others added history → A history → A (added ++ history) =
    λ added. elim added as (λ added. (history : History) → Every (IsLook who name) added history → Others S.others added history → A history → A (added ++ history)) [
      | [] ↦ λ history looks s h. h
      | step ∷ (rest → more) ↦ λ history looks s h.
          let before = more history looks.0 s.0 h in
          elim looks.1 [
            | inl theirs ↦ keeps (rest ++ history) step theirs (s.1 theirs.0) before
            | inr read ↦ reads (rest ++ history) step read before
          ]
    ] in
    let own : (added history : History) → Every (IsLook who name) added history → Owns S.own added history =
    λ added. elim added as (λ added. (history : History) → Every (IsLook who name) added history → Owns S.own added history) [
      | [] ↦ λ history looks. tt
      | step ∷ (rest → more) ↦ λ history looks. (
        more history looks.0,
        λ mine_is. elim looks.1 [ inl theirs ↦ absurd (true≢false (sym mine_is ∙ theirs.0)) | inr read ↦ mine (rest ++ history) step read ],
      )
    ] in
    adds_as (Leads S A A) told (λ added history looks. record { leads = all added history looks; own = own added history looks })

-- nothing is said of the file after a failure, whatever was added
pub not_loaded : {P : History → History → Type 0} (name : List ℕ) (file : Option File) (fault : OutsideFault) {old new : Option History} → Adds old new P
    → Adds old new (Leads (anyhow (LeavesFile name)) (Has name file) (Loaded name file (Err fault)))
not_loaded name file fault told =
    adds_as (Leads (anyhow (LeavesFile name)) (Has name file) (Loaded name file (Err fault))) told (λ added history p. record { leads = λ s h. tt; own = owned_anyhow added history })

-- the file was gone at the last call
pub gone_then : {P : History → History → Type 0} (name : List ℕ) {old mid new : Option History} → Adds old mid P
    → Adds mid new (IsGone name (Ok None)) → Adds old new (IsGone name (Ok None))
gone_then name so_far gone =
    adds_then (IsGone name (Ok None)) so_far gone
    (λ a b history p q. subst (λ (h : History). files_after h name ≡ None) (sym (append_assoc b a history)) q)
