-- What a reader's steps do to what is left.
use Rattle.std.proofs.Common.{Option, unwrap_or, ◌≡◌, ℕ, ◌+◌, ◌-◌, ◌<◌, ◌≤◌, List, [], ◌∷◌, length, drop, arith, refl, ap, ap₂, sym, subst, ◌∙◌}
use Rattle.std.proofs.lemmas.List.{drop-drop, drop_all, length-drop}
use Rattle.chk_seqfile.specs.declared.entries.Why.{Why}
use Rattle.chk_seqfile.specs.Entries.{NoEntry, RecordEntry, Damaged, placed, size_of_record, entry_at, records_at}
use Rattle.chk_seqfile.proofs.EntryLemmas.{entry_at-nil}
use Rattle.chk_seqfile.proofs.RecordLemmas.{records_at-record}
use Rattle.chk_salvage.specs.declared.reader.Reader.{Reader}
use Rattle.chk_salvage.specs.declared.reader.Next.{Next}
use Rattle.chk_salvage.specs.declared.reader.Next.TheVariants as next
use Rattle.chk_salvage.specs.Front.{next_sync, IsDamaged, IsFront, IsReadSo, DamageAt, Kept, Skipped, skip_end, salvaged_at}
use Rattle.chk_salvage.specs.Readers.{StandsAt, IsStop}
use Rattle.chk_salvage.specs.Skipping.{IsBehindSyncs}
use Rattle.chk_salvage.proofs.SalvageLemmas.{salvaged_at-record, salvaged_at-damaged, skip_end-past}
use Rattle.chk_salvage.proofs.FrontLemmas.{IsStopped, front_here}

-- where damage stands there are bytes
damage_some : (marker bytes : List ℕ) (why : Why) → entry_at marker bytes ≡ Damaged why → 0 < length bytes
damage_some marker [] why first = let none = entry_at-nil marker in cc
damage_some marker (b ∷ bytes) why first = omega arith

-- a record is the first one
pub records_step : (marker bytes : List ℕ) (at : ℕ) (key value : List ℕ) → entry_at marker (drop at bytes) ≡ RecordEntry key value
    → records_at marker at (drop at bytes)
    ≡ placed at key value ∷ records_at marker (at + size_of_record key value) (drop (at + size_of_record key value) bytes)
records_step marker bytes at key value first =
    records_at-record marker at (drop at bytes) key value first
    ∙ ap (λ x. placed at key value ∷ records_at marker (at + size_of_record key value) x) (drop-drop (size_of_record key value) at bytes)

pub items_step : (marker bytes : List ℕ) (at : ℕ) (key value : List ℕ) → entry_at marker (drop at bytes) ≡ RecordEntry key value
    → salvaged_at marker at (drop at bytes)
    ≡ Kept (placed at key value) ∷ salvaged_at marker (at + size_of_record key value) (drop (at + size_of_record key value) bytes)
items_step marker bytes at key value first =
    salvaged_at-record marker at (drop at bytes) key value first
    ∙ ap (λ x. Kept (placed at key value) ∷ salvaged_at marker (at + size_of_record key value) x) (drop-drop (size_of_record key value) at bytes)

-- where damage stands, the longest front ends
pub front_at_damage : (marker bytes : List ℕ) (at : ℕ) (why : Why) → IsReadSo marker bytes at → entry_at marker (drop at bytes) ≡ Damaged why → IsFront bytes at
front_at_damage marker bytes at why so first = front_here marker bytes at so (subst IsStopped (sym first) tt)

-- what stops there, seen from where the same file was opened
pub stop_of_damage : (marker bytes marker' bytes' : List ℕ) (at place : ℕ) (why : Why) → marker' ≡ marker → bytes' ≡ bytes → at ≡ place
    → DamageAt marker' bytes' at why → IsFront bytes' place → (at < length bytes) × IsFront bytes at × DamageAt marker bytes at why
stop_of_damage marker bytes marker' bytes' at place why markers files here damage front =
    let within = front.within in
    let damage_here : DamageAt marker bytes at why =
    subst (λ m. DamageAt m bytes at why) markers (subst (λ b. DamageAt marker' b at why) files damage) in
    let some = damage_some marker (drop at bytes) why damage_here in (
      let size = length-drop at bytes in omega arith,
      subst (λ n. IsFront bytes n) (sym here) (subst (λ b. IsFront b place) files front),
      damage_here,
    )

-- at the end nothing stands
pub nothing_at_end : (marker bytes : List ℕ) (at : ℕ) → at ≡ length bytes → entry_at marker (drop at bytes) ≡ NoEntry
nothing_at_end marker bytes at last = ap (entry_at marker) (drop_all at bytes (omega arith)) ∙ entry_at-nil marker

-- a reader that stands at damage stays there
pub stays_at_damage : (r : Reader) (at : ℕ) (why : Why) → IsBehindSyncs r.marker r.bytes.now r.place at → entry_at r.marker (drop at r.bytes.now) ≡ Damaged why
    → (stop : Next) → IsStop stop → StandsAt stop r → (next.Damaged at why ≡ stop) × (at ≡ r.place)
stays_at_damage r at why behind first (next.Entry e) is stands = absurd is
stays_at_damage r at why behind first next.End is stands =
    let nothing = nothing_at_end r.marker r.bytes.now r.place stands in
    let same : at ≡ r.place = behind.way.none (λ sync. cc) in
    let here : entry_at r.marker (drop at r.bytes.now) ≡ NoEntry = ap (λ n. entry_at r.marker (drop n r.bytes.now)) same ∙ nothing in
    cc
stays_at_damage r at why behind first (next.Damaged at' why') is (place, damage) =
    let there : entry_at r.marker (drop r.place r.bytes.now) ≡ Damaged why' = ap (λ n. entry_at r.marker (drop n r.bytes.now)) (sym place) ∙ damage in
    let same : at ≡ r.place = behind.way.none (λ sync. cc) in
    let here : entry_at r.marker (drop at r.bytes.now) ≡ Damaged why' = ap (λ n. entry_at r.marker (drop n r.bytes.now)) same ∙ there in
    let reason : why ≡ why' = cc in
    (ap₂ next.Damaged (same ∙ sym place) reason, same)

-- a reader that stands at the end stays there
pub stays_at_end : (r : Reader) (at : ℕ) → IsBehindSyncs r.marker r.bytes.now r.place at → entry_at r.marker (drop at r.bytes.now) ≡ NoEntry
    → (stop : Next) → IsStop stop → StandsAt stop r → (next.End ≡ stop) × (at ≡ r.place)
stays_at_end r at behind first (next.Entry e) is stands = absurd is
stays_at_end r at behind first next.End is stands =
    let nothing = nothing_at_end r.marker r.bytes.now r.place stands in
    (refl, behind.way.none (λ sync. cc))
stays_at_end r at behind first (next.Damaged at' why') is (place, damage) =
    let there : entry_at r.marker (drop r.place r.bytes.now) ≡ Damaged why' = ap (λ n. entry_at r.marker (drop n r.bytes.now)) (sym place) ∙ damage in
    let same : at ≡ r.place = behind.way.none (λ sync. cc) in
    let here : entry_at r.marker (drop at r.bytes.now) ≡ Damaged why' = ap (λ n. entry_at r.marker (drop n r.bytes.now)) same ∙ there in
    cc

-- ---- skipping damage

-- the place that is skipped to
pub skips_to : (marker bytes : List ℕ) (at : ℕ) (found : Option ℕ) (to : ℕ) → at ≤ length bytes
    → found ≡ next_sync marker (at + 1) (drop (at + 1) bytes) → to ≡ unwrap_or found (length bytes) → to ≡ skip_end marker at (drop at bytes)
skips_to marker bytes at found to within search chosen =
    let last : length bytes ≡ at + length (drop at bytes) = omega (arith, length-drop at bytes) in
    chosen ∙ ap₂ unwrap_or (search ∙ ap (next_sync marker (at + 1)) (sym (drop-drop 1 at bytes))) last

-- it lies behind the damage, in the bytes
pub skip_within : (marker bytes : List ℕ) (at : ℕ) → at ≤ length bytes → IsDamaged marker bytes at
    → (at < skip_end marker at (drop at bytes)) × (skip_end marker at (drop at bytes) ≤ length bytes)
skip_within marker bytes at within (why, damage) =
    let past = skip_end-past marker at (drop at bytes) (damage_some marker (drop at bytes) why damage) in
    let size = length-drop at bytes in
    (past.0, let high = past.1 in omega arith)

-- the range is the first that is skipped
pub items_skip : (marker bytes : List ℕ) (at to : ℕ) → at ≤ length bytes → IsDamaged marker bytes at → to ≡ skip_end marker at (drop at bytes)
    → salvaged_at marker at (drop at bytes) ≡ Skipped at to ∷ salvaged_at marker to (drop to bytes)
items_skip marker bytes at to within (why, damage) is =
    let past = skip_within marker bytes at within (why, damage) in
    let q : ℕ = skip_end marker at (drop at bytes) in
    let low = past.0 in
    let sum : at + (q - at) ≡ q = omega arith in
    salvaged_at-damaged marker at (drop at bytes) why damage
    ∙ ap (λ x. Skipped at q ∷ salvaged_at marker q x) (drop-drop (q - at) at bytes ∙ ap (λ n. drop n bytes) sum)
    ∙ ap (λ n. Skipped at n ∷ salvaged_at marker n (drop n bytes)) (sym is)
