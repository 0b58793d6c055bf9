-- A file whose records are looked at, piece by piece.
use Rattle.std.proofs.Common.{◌≡◌, ℕ, ◌+◌, ◌<◌, ◌≤◌, ◌^◌, List, [], ◌++◌, length, take, Option, Some, None, Ok, Err, Result, Bool, true, false, true≢false, append-nil, refl, sym, ap, subst, arith}
use Rattle.std.specs.Prelude.{is_some, not}
use Rattle.std.proofs.lemmas.List.{nil_from_length}
use Rattle.chk_site.specs.declared.acts.OutsideFault.{OutsideFault}
use Rattle.chk_site.specs.declared.acts.OutsideFault.TheVariants.{Outside as site_failed, NoMemory as no_memory}
use Rattle.chk_site.specs.Files.{File}
use Rattle.chk_site.specs.Effect.{IsSmallFile}
use Rattle.chk_site.specs.History.{History}
use Rattle.chk_site.specs.Site.{Adds}
use Rattle.chk_site.specs.Runs.{anyhow, Leads}
use Rattle.chk_site.proofs.Runs.{adds_as}
use Rattle.chk_site.proofs.Leads.{owned_anyhow}
use Rattle.chk_replace.specs.Load.{Has}
use Rattle.chk_chunk.specs.Keys.{chunk_limit, record_limit}
use Rattle.chk_seqfile.specs.Entries.{records_of}
use Rattle.chk_salvage.specs.declared.pieces.Pieces.{Pieces}
use Rattle.chk_salvage.specs.declared.fed.Fed.TheVariants.{More}
use Rattle.chk_salvage.specs.Feeding.{fed_place, fed_rest, fed_limit, fed_marker, IsFed, Stands}
use Rattle.chk_world.specs.Books.{End}
use Rattle.chk_world.specs.JobSteps.{SparesFile}
use Rattle.chk_record_index.specs.declared.fault.JobFault.{JobFault}
use Rattle.chk_record_index.specs.declared.fault.JobFault.TheVariants.{Damaged}
use Rattle.chk_record_index.specs.Faults.{job_fault, IsOfWrite}
use Rattle.chk_record_index.specs.Heads.{Head}
use Rattle.chk_record_index.specs.Feeding.{AreChunks, WentOver, TookFed, FedFrom, IsEnd}
use Rattle.chk_record_index.specs.Pieces.{bytes_in, asks_for, HasBytes}
use Rattle.chk_record_index.specs.Shown.{ShowsBytes}
use Rattle.chk_record_index.proofs.Gathering.{IsGathered, goes_on, room, room_fed, is_ended, shows_ended, is_spoiled}
use Rattle.chk_record_index.proofs.NoDamage.{no_damage}
use Rattle.chk_record_index.proofs.Showing.{within_all}
use Rattle.chk_demux_scan.specs.Forward.{AreSpans, Looks, runs}
use Rattle.chk_demux_scan.specs.Looking.{LooksOn, LookedAt, ShowsLooked, TookAll}
use Rattle.chk_demux_scan.specs.declared.looking.Look.{Look}

-- what a piece is fed to goes on behind what it was fed
pub fed_on : (p q : Pieces) (piece : List ℕ) → fed_place q ≡ fed_place p
    → ((fed : List ℕ) → IsFed p fed → IsFed q (fed ++ piece)) → FedFrom p q None piece
fed_on p q piece place fed = record {
  place = place;
  state = λ front missing h all.
      let none : missing ≡ [] = nil_from_length missing (omega (arith, all)) in
      subst (λ m. IsFed q (front ++ (m ++ piece))) (sym none) (fed front h);
}

-- heads that were gone over stand behind others
took_behind : (file : ℕ) (p q : Pieces) (seen went : List Head) → TookAll file p q went None
    → (fed : List ℕ) → IsFed p fed → AreChunks chunk_limit (records_of (take (fed_place p) fed))
    → TookFed chunk_limit file p q fed seen (seen ++ went) None
took_behind file p q seen went took fed state chunks =
    let t = took fed state chunks in
    let w : WentOver chunk_limit file p q fed [] went = t.0 in (
      record {
        state = w.state;
        more = w.more;
        records = w.records;
        chunks = w.chunks;
        heads = ap (λ hs. seen ++ hs) w.heads;
      },
      t.1,
    )

-- ---- a piece more, and the end

module _ (old mid new : Option History) (name : List ℕ) (file : ℕ) (p : Pieces) (at : ℕ)
    (seen : List Head) (g : IsGathered old mid name chunk_limit file p at [] seen) (q : Pieces)
    (went : List Head) (limits : fed_limit q ≡ fed_limit p) (took : TookAll file p q went None)
    (piece : List ℕ)
    (given : (f : Option File) → Adds mid new (Leads (anyhow (SparesFile name)) (Has name f)
    (HasBytes name at record_limit f (Ok piece))))
    (showed : Adds mid new (ShowsBytes name at (asks_for record_limit at) (Ok piece))) where
  pub piece_on : (r : Pieces) (next : ℕ) → 0 < length piece → FedFrom q r None piece
      → next ≡ at + length piece → next < 2 ^ 63 → fed_limit r ≡ fed_limit q
      → IsGathered old new name chunk_limit file r next [] (seen ++ went)
  piece_on = goes_on old mid new name chunk_limit file p at [] seen g q (seen ++ went)
      (seen ++ went) limits (took_behind file p q seen went took) None refl record_limit piece
      given showed

  pub piece_room : length piece ≤ asks_for record_limit at → at + length piece < 2 ^ 63
  piece_room = room old mid new name chunk_limit file p at [] seen g q (seen ++ went)
      (seen ++ went) limits (took_behind file p q seen went took) None refl record_limit piece
      given showed

  pub piece_fits : length piece ≤ asks_for record_limit at
      → fed_place q + length (fed_rest q) + length piece < 2 ^ 63
  piece_fits = room_fed old mid new name chunk_limit file p at [] seen g q (seen ++ went)
      (seen ++ went) limits (took_behind file p q seen went took) None refl record_limit piece
      given showed

  module _ (es : List End) (places : List ℕ) (held now : List Head) (look : Look)
      (empty : length piece ≡ 0) where
    -- the heads of the file's records were looked at; or it ends within one
    pub file_ended : LooksOn es places (seen ++ went) held now look → (o : Option ℕ) (b : Bool)
        → is_some o ≡ not b
        → ((fed : List ℕ) → IsFed q fed
        → Stands (fed_limit q) fed (fed_marker q) (fed_place q) More → IsEnd fed (fed_place q) o)
        → (f : Option File) → IsSmallFile f
        → Adds old new (Leads (anyhow (SparesFile name)) (Has name f)
        (LookedAt es places name f file held now look (Ok b)))
    file_ended looks None false e ends f small = absurd (true≢false (sym e))
    file_ended looks (Some a) true e ends f small = absurd (true≢false e)
    file_ended looks None true e ends f small =
        adds_as (Leads (anyhow (SparesFile name)) (Has name f)
        (LookedAt es places name f file held now look (Ok true)))
        (is_ended old mid new name chunk_limit file p at [] seen g q (seen ++ went)
        (seen ++ went) limits (took_behind file p q seen went took) None refl record_limit piece
        given showed (Ok tt) empty (omega arith) ends f small)
        (λ added history x. record {
          leads = λ s h.
              let y = x.leads s h in
              (y.0, y.1, subst (λ hs. LooksOn es places hs held now look) y.2 looks);
          own = x.own;
        })
    file_ended looks (Some a) false e ends f small =
        adds_as (Leads (anyhow (SparesFile name)) (Has name f)
        (LookedAt es places name f file held now look (Ok false)))
        (is_ended old mid new name chunk_limit file p at [] seen g q (seen ++ went)
        (seen ++ went) limits (took_behind file p q seen went took) None refl record_limit piece
        given showed (Err (Damaged name a)) empty (omega arith)
        (λ fed state stands. (a, ends fed state stands, (refl, refl))) f small)
        (λ added history x. record {
          leads = λ s h all.
              let y = x.leads s h in no_damage chunk_limit (bytes_in f) all a y.1;
          own = x.own;
        })

    -- own reads show it
    pub file_shown : LooksOn es places (seen ++ went) held now look → (o : Option ℕ) (b : Bool)
        → is_some o ≡ not b
        → ((fed : List ℕ) → IsFed q fed
        → Stands (fed_limit q) fed (fed_marker q) (fed_place q) More → IsEnd fed (fed_place q) o)
        → Adds old new (ShowsLooked es places name file held now look (Ok b))
    file_shown looks None false e ends = absurd (true≢false (sym e))
    file_shown looks (Some a) true e ends = absurd (true≢false e)
    file_shown looks None true e ends =
        adds_as (ShowsLooked es places name file held now look (Ok true))
        (shows_ended old mid new name chunk_limit file p at [] seen g q (seen ++ went)
        (seen ++ went) limits (took_behind file p q seen went took) None refl record_limit piece
        given showed (Ok tt) empty (omega arith) ends)
        (λ added history x. (seen ++ went, looks, within_all _ added history x))
    file_shown looks (Some a) false e ends =
        adds_as (ShowsLooked es places name file held now look (Ok false))
        (shows_ended old mid new name chunk_limit file p at [] seen g q (seen ++ went)
        (seen ++ went) limits (took_behind file p q seen went took) None refl record_limit piece
        given showed (Err (Damaged name a)) empty (omega arith)
        (λ fed state stands. (a, ends fed state stands, (refl, refl))))
        (λ added history x. tt)

-- ---- it isn't one of chunks

pub not_chunks : (old now : Option History) (name : List ℕ) (file : ℕ) (p q : Pieces) (at : ℕ)
    (seen : List Head) → IsGathered old now name chunk_limit file p at [] seen → (place : ℕ)
    → TookAll file p q [] (Some place)
    → (es : List End) (places : List ℕ) (held heads : List Head) (look : Look)
    → (f : Option File) → IsSmallFile f
    → Adds old now (Leads (anyhow (SparesFile name)) (Has name f)
    (LookedAt es places name f file held heads look (Ok false)))
not_chunks old now name file p q at seen g place took es places held heads look f small =
    adds_as (Leads (anyhow (SparesFile name)) (Has name f)
    (LookedAt es places name f file held heads look (Ok false)))
    (is_spoiled old now name chunk_limit file p at [] seen g seen place (Damaged name place) took
    (refl, refl) f small)
    (λ added history x. record {
      leads = λ s h all.
          let y = x.leads s h in no_damage chunk_limit (bytes_in f) all place y.1;
      own = x.own;
    })

-- ---- after a refusal nothing is said

pub not_looked : {P : History → History → Type 0} (es : List End) (places : List ℕ)
    (name : List ℕ) (file : ℕ) (held heads : List Head) (look : Look) (fault : JobFault)
    (f : Option File) {old new : Option History} → Adds old new P
    → Adds old new (Leads (anyhow (SparesFile name)) (Has name f)
    (LookedAt es places name f file held heads look (Err fault)))
not_looked es places name file held heads look fault f told =
    adds_as (Leads (anyhow (SparesFile name)) (Has name f)
    (LookedAt es places name f file held heads look (Err fault))) told
    (λ added history p. record { leads = λ s h. tt; own = owned_anyhow added history })

pub not_shown : {P : History → History → Type 0} (es : List End) (places : List ℕ)
    (name : List ℕ) (file : ℕ) (held heads : List Head) (look : Look)
    (result : Result Bool JobFault) {old new : Option History} → Adds old new P
    → ((added history : History)
    → ShowsLooked es places name file held heads look result added history)
    → Adds old new (ShowsLooked es places name file held heads look result)
not_shown es places name file held heads look result told none =
    adds_as (ShowsLooked es places name file held heads look result) told
    (λ added history p. none added history)

pub of_write : (fault : OutsideFault) → IsOfWrite (job_fault fault)
of_write (site_failed call) = tt
of_write no_memory = tt

-- before the first record
pub looks_begin : (es : List End) (places : List ℕ) (held : List Head) (look : Look)
    → look.broken ≡ false → AreSpans es [] look.spans.items
    → LooksOn es places [] held held look
looks_begin es places held look fine none =
    subst (Looks es places [] held held look.spans.items) (sym fine)
    (runs none (sym (append-nil held)))
