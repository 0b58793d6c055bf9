-- What is gathered of one segment, in order.
use Rattle.std.proofs.Common.{◌≡◌, ◌∙◌, ℕ, List, [], ◌++◌, Err, ap, subst}
use Rattle.chk_site.specs.History.{History}
use Rattle.chk_chunk.specs.Keys.{chunk_limit}
use Rattle.chk_record_index.specs.Gathered.{HasHeads, ShowsGathered}
use Rattle.chk_record_index.specs.Heads.{Head, heads_in}
use Rattle.chk_record_index.specs.Order.{in_head_order}
use Rattle.chk_record_index.specs.Shown.{Shown}
use Rattle.chk_record_index.specs.declared.fault.JobFault.{JobFault}
use Rattle.chk_record_index.specs.declared.fault.JobFault.TheVariants.{Outside, Damaged, Spent, NoMemory}
use Rattle.chk_ctl_held.specs.Finding.{AreWaiting, ShowsSegment}

in_order : {name : List ℕ} {old new sorted : List Head} {added history : History} → old ≡ []
    → sorted ≡ in_head_order new → Shown name (HasHeads chunk_limit 0 old new) added history
    → Shown name (AreWaiting sorted) added history
in_order none is shown = record {
  some = shown.some;
  small = shown.small;
  agree = shown.agree;
  each = λ bytes few agree.
      let x = shown.each bytes few agree in (
        x.0,
        is ∙ ap in_head_order (x.1
            ∙ ap (λ (hs : List Head). hs ++ heads_in chunk_limit 0 bytes) none),
      );
}

pub sorted_so : {which name : List ℕ} {old new sorted : List Head} {added history : History}
    → which ≡ name → old ≡ [] → sorted ≡ in_head_order new
    → Shown which (HasHeads chunk_limit 0 old new) added history
    → Shown name (AreWaiting sorted) added history
sorted_so {sorted = sorted} {added = added} {history = history} same none is shown =
    subst (λ (n : List ℕ). Shown n (AreWaiting sorted) added history) same (in_order none is shown)

pub refused_so : (old new : List Head) (added history : History) {which name : List ℕ}
    (fault : JobFault) → which ≡ name
    → ShowsGathered {T = ℕ} chunk_limit which 0 old new (Err fault) added history
    → ShowsSegment name (Err fault) added history
refused_so old new added history (Outside call) same shown = tt
refused_so old new added history (Damaged file at) same shown =
    subst (λ (n : List ℕ). ShowsSegment n (Err (Damaged file at)) added history) same shown
refused_so old new added history (Spent number) same shown = tt
refused_so old new added history NoMemory same shown = tt
