-- A file that the job reads is the one that it knows.
use Rattle.std.proofs.Common.{◌≡◌, ℕ, inl, inr, Bool, true, false, List, [], ◌∷◌, ◌++◌, Option, None, ap, sym, subst, ◌∙◌, refl, true≢false, if◌then◌else◌}
use Rattle.chk_site.specs.Acts.{Deed}
use Rattle.chk_site.specs.History.{History, Every, Others, files_after, is_stopped}
use Rattle.chk_site.specs.Site.{Adds}
use Rattle.chk_site.specs.Runs.{Leads, anyhow}
use Rattle.chk_site.proofs.Runs.{adds_both, adds_as}
use Rattle.chk_site.proofs.Leads.{owned_anyhow}
use Rattle.chk_replace.specs.Load.{Has}
use Rattle.chk_world.specs.Names.{ArchiveFolder, Name, BookFile, SegmentFile, DoneFile, spell, read, file}
use Rattle.chk_world.specs.Places.{As, Foreign}
use Rattle.chk_world.specs.Rules.{Legal}
use Rattle.chk_world.specs.Sight.{job, shows_done, Sight, sight, AtJob}
use Rattle.chk_world.specs.JobSteps.{IsOf, ReadsFile, SparesFile}
use Rattle.chk_world.proofs.NameLemmas.{spell-read}
use Rattle.chk_world.proofs.SightStays.{WasDone, stem_shown, shown_was_done}
use Rattle.chk_world.proofs.Spares.{reads_own, reads_done}
use Rattle.chk_world.proofs.Lifts.{lift_reads}
use Rattle.chk_archive_parts.specs.Gathering.{held, held_at, CanBeRead, own_book_file, own_segment, shown_sink}

-- what is stopped stays so
pub stays_stopped : (K : Deed → Type 0) (added history : History) → Every (IsOf K) added history
    → is_stopped history ≡ true
    → is_stopped (added ++ history) ≡ true
stays_stopped K [] history every stopped = stopped
stays_stopped K (step ∷ added) history every stopped =
    let earlier = stays_stopped K added history every.0 stopped in
    elim every.1 [
      | inl theirs ↦ rw theirs.0 earlier
      | inr mine ↦ absurd (true≢false (sym earlier ∙ mine.0.running))
    ]

-- the job knows this
abbrev pub Knows : List (List ℕ) → Sight → History → Type 0
Knows stamped v history = AtJob stamped (λ u. u ≡ v) history

-- where the site runs
abbrev pub Running : Type 0 → History → Type 0
Running Z history = is_stopped history ≡ false → Z

-- the file that it reads
pub file_known : (v : Sight) (w : List ℕ) → CanBeRead v (read w) → (history : History)
    → sight history ≡ v
    → Has w (held v w) history
file_known v w can history is =
    ap (files_after history) (sym (spell-read w)) ∙ go (read w) can
  where
    go : (n : Name) → CanBeRead v n → file (files_after history) n ≡ held_at v n
    go n own_book_file = ap (λ (u : Sight). u.own (BookFile ArchiveFolder)) is
    go n (own_segment k count) =
        sym (ap (λ b. if b then file (files_after history)
        (SegmentFile ArchiveFolder k) else None) count)
        ∙ ap (λ (u : Sight). u.own (SegmentFile ArchiveFolder k)) is
    go n (shown_sink x shown) =
        sym (ap (λ b. if b then file (files_after history) (DoneFile x) else None)
        (ap (λ (u : Sight). shows_done u.listing x) is ∙ shown))
        ∙ ap (λ (u : Sight). u.sinks x) is

-- the same can be read where the listing is the same
pub can_still : (v u : Sight) (n : Name) → u.listing ≡ v.listing → CanBeRead v n → CanBeRead u n
can_still v u n same own_book_file = own_book_file
can_still v u n same (own_segment k count) = own_segment k count
can_still v u n same (shown_sink x shown) = shown_sink x (ap (λ l. shows_done l x) same ∙ shown)

-- where P holds of what the job knows, the listing and this file are as in v
module _ (stamped : List (List ℕ)) (P : Sight → Type 0) (v : Sight) (w : List ℕ)
    (can : CanBeRead v (read w)) (listing : (u : Sight) → P u → u.listing ≡ v.listing)
    (same : (u : Sight) → P u → held u w ≡ held v w) (B : History → Type 0) where
  abbrev Kept : (History → Type 0) → History → History → Type 0
  Kept Q = Leads (As stamped job) (λ h. AtJob stamped P h × Q h × Has w (held v w) h)
      (λ h. AtJob stamped P h × Q h × B h)

  abbrev Stays : History → History → Type 0
  Stays = Leads (As stamped job) (λ h. AtJob stamped P h × Unit {0} × Unit {0})
      (λ h. AtJob stamped P h × Unit {0} × Unit {0})

  stays : {old new : Option History} → Adds old new (Every (IsOf ReadsFile)) → Adds old new Stays
  stays own =
      lift_reads stamped P (λ h. Unit {0}) (λ before step. Unit {0}) (λ h. Unit {0})
      (λ h. Unit {0})
      (λ before step legal q. tt) (λ before step legal q f. tt)
      (adds_as (Leads (anyhow (λ before step. Unit {0})) (λ h. Unit {0}) (λ h. Unit {0})) own
      (λ added history made. record { leads = λ s h. tt; own = owned_anyhow added history })) own

  there : (h : History) → P (sight h) → Has w (held v w) h
  there h p =
      file_known (sight h) w (can_still v (sight h) (read w) (listing (sight h) p) can) h refl
      ∙ same (sight h) p

  -- by what every legal step keeps, at the start of the reading
  by_kept : (Q : History → Type 0) → ((history : History) → Legal stamped history
      → P (sight history) → Q history)
      → {old new : Option History} → Adds old new (Kept Q) → Adds old new (Every (IsOf ReadsFile))
      → Adds old new (Leads (As stamped job) (AtJob stamped P)
      (λ h. AtJob stamped P h × (is_stopped h ≡ false → B h)))
  by_kept Q first led own =
      adds_both (Leads (As stamped job) (AtJob stamped P)
      (λ h. AtJob stamped P h × (is_stopped h ≡ false → B h)))
      (adds_both (λ added history. Kept Q added history
      × Stays added history) led (stays own) (λ added history x y. (x, y))) own
      (λ added history xy made. record {
        leads = λ others h. go added history xy.0 xy.1 made others h (is_stopped history) refl;
        own = xy.0.own;
      })
    where
      go : (added history : History) → Kept Q added history
          → Stays added history → Every (IsOf ReadsFile) added history
          → Others (Foreign stamped job) added history → AtJob stamped P history → (b : Bool)
          → is_stopped history ≡ b
          → AtJob stamped P (added ++ history) ×
          (is_stopped (added ++ history) ≡ false → B (added ++ history))
      go added history x y made others h false e =
          let p = h.alive e in
          let z = x.leads others (h, first history h.legal p, there history p) in
          (z.0, λ r. z.2)
      go added history x y made others h true e = (
        (y.leads others (h, tt, tt)).0,
        λ r. absurd
            (true≢false (sym (stays_stopped ReadsFile added history made e) ∙ r)),
      )

  -- a call that reads the file promises what it does in every legal history
  pub reads_in : {old new : Option History} → Adds old new (Leads (anyhow (SparesFile w)) (Has w (held v w)) B) → Adds old new
      (Every (IsOf ReadsFile))
      → Adds old new (Leads (As stamped job) (AtJob stamped P)
      (λ h. AtJob stamped P h × (is_stopped h ≡ false → B h)))
  reads_in {old = old} {new = new} raw own = go (read w) refl can
    where
      named : (n : Name) → read w ≡ n → w ≡ spell n
      named n e = sym (spell-read w) ∙ ap spell e

      spelled : (n : Name) → read w ≡ n → Adds old new
          (Leads (anyhow (SparesFile (spell n))) (Has w (held v w)) B)
      spelled n e = subst (λ m. Adds old new (Leads (anyhow (SparesFile m)) (Has w (held v w)) B))
          (named n e) raw

      go : (n : Name) → read w ≡ n → CanBeRead v n
          → Adds old new (Leads (As stamped job) (AtJob stamped P)
          (λ h. AtJob stamped P h × (is_stopped h ≡ false → B h)))
      go n e own_book_file =
          by_kept (λ h. Unit {0}) (λ history legal p. tt)
          (reads_own stamped P (BookFile ArchiveFolder)
          (record { own = refl; known = refl })
          (Has w (held v w)) B (spelled (BookFile ArchiveFolder) e) own) own
      go n e (own_segment k count) =
          by_kept (λ h. Unit {0}) (λ history legal p. tt)
          (reads_own stamped P (SegmentFile ArchiveFolder k)
          (record { own = refl; known = count })
          (Has w (held v w)) B (spelled (SegmentFile ArchiveFolder k) e) own) own
      go n e (shown_sink x shown) =
          by_kept (λ h. WasDone h x)
          (λ history legal p. shown_was_done stamped history legal x
          (ap (λ l. shows_done l x) (listing (sight history) p) ∙ shown))
          (reads_done stamped P x (stem_shown v.listing x shown) (Has w (held v w)) B
          (spelled (DoneFile x) e) own) own

-- where it knows just v
pub one_file : (stamped : List (List ℕ)) (v : Sight) (w : List ℕ) → CanBeRead v (read w)
    → (B : History → Type 0) {old new : Option History}
    → Adds old new (Leads (anyhow (SparesFile w)) (Has w (held v w)) B)
    → Adds old new (Every (IsOf ReadsFile))
    → Adds old new (Leads (As stamped job) (Knows stamped v)
    (λ h. Knows stamped v h × (is_stopped h ≡ false → B h)))
one_file stamped v w can B raw own =
    reads_in stamped (λ u. u ≡ v) v w can (λ u is. ap (λ (t : Sight). t.listing) is)
    (λ u is. ap (λ (t : Sight). held t w) is) B raw own
