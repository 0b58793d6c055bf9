-- Going on over sync entries.
use Rattle.std.proofs.Common.{inl, [], ◌++◌, ap₂, ◌≡◌, ℕ, ◌+◌, ◌≤◌, List, length, drop, arith, refl, ap, sym, ◌∙◌}
use Rattle.std.proofs.lemmas.List.{append_assoc, append-nil, length-append, length-drop, drop-drop}
use Rattle.chk_bytes.specs.Laws.{AreBytes}
use Rattle.chk_seqfile.specs.Entries.{SyncEntry, sync_entry, entry_at, records_at}
use Rattle.chk_seqfile.proofs.RecordLemmas.{records_at-sync, records_at-entry}
use Rattle.chk_seqfile.proofs.FoundEntries.{sync_found}
use Rattle.chk_seqfile.proofs.FileLemmas.{Entries-append, Entries-sync, records_at-append}
use Rattle.chk_salvage.specs.Front.{salvaged_at}
use Rattle.chk_salvage.specs.Skipping.{IsOnward, StandBetween}
use Rattle.chk_salvage.proofs.SalvageLemmas.{salvaged_at-sync}
use Rattle.chk_salvage.proofs.FrontLemmas.{read_so_sync}

-- a sync entry has 20 bytes
pub sync_fits : (marker bytes : List ℕ) (at : ℕ) → length marker ≡ 16 → at ≤ length bytes → AreBytes (drop at bytes) → entry_at marker (drop at bytes) ≡ SyncEntry
    → at + 20 ≤ length bytes
sync_fits marker bytes at wide within are first =
    let whole = ap length (sync_found marker (drop at bytes) are first) in
    omega (arith, length-drop at bytes, length-append (sync_entry marker) (drop 20 (drop at bytes)))

-- one sync entry more
pub onward_more : (marker bytes : List ℕ) (at to : ℕ) → length marker ≡ 16 → AreBytes (drop to bytes) → IsOnward marker bytes at to
    → entry_at marker (drop to bytes) ≡ SyncEntry → IsOnward marker bytes at (to + 20)
onward_more marker bytes at to wide are way first =
    let onward = way.onward in
    record {
      onward = omega arith;
      within = sync_fits marker bytes to wide way.within are first;
      records = way.records ∙ records_at-sync marker to (drop to bytes) first ∙ ap (records_at marker (to + 20)) (drop-drop 20 to bytes);
      items = way.items ∙ salvaged_at-sync marker to (drop to bytes) first ∙ ap (salvaged_at marker (to + 20)) (drop-drop 20 to bytes);
      read = λ so. read_so_sync marker bytes to wide are first (way.read so);
      none = λ other. absurd (other (ap (λ n. entry_at marker (drop n bytes)) (sym (way.none other)) ∙ first));
    }

-- one sync entry more
pub between_more : (marker bytes : List ℕ) (at to : ℕ) → length marker ≡ 16 → AreBytes (drop to bytes) → StandBetween marker bytes at to
    → entry_at marker (drop to bytes) ≡ SyncEntry → StandBetween marker bytes at (to + 20)
between_more marker bytes at to wide are b first =
    let sync : List ℕ = sync_entry marker in
    let size = b.size in
    let alone : (place : ℕ) → records_at marker place sync ≡ [] = λ place.
    ap (records_at marker place) (sym (append-nil sync)) ∙ records_at-entry marker place sync [] (inl refl) wide in
    record {
      syncs = b.syncs ++ sync;
      form = Entries-append marker b.syncs sync b.form (Entries-sync marker);
      size = omega (arith, length-append b.syncs sync);
      split = b.split ∙ ap (λ x. b.syncs ++ x) (sync_found marker (drop to bytes) are first ∙ ap (λ x. sync ++ x) (drop-drop 20 to bytes))
          ∙ sym (append_assoc b.syncs sync (drop (to + 20) bytes));
      no_records = λ place. records_at-append marker place b.syncs sync wide b.form
          ∙ ap₂ (λ x y. x ++ y) (b.no_records place) (alone (place + length b.syncs));
    }
