-- That the numbers are spent is said only with a cause.
use Rattle.std.proofs.Common.{◌≡◌, ◌∙◌, ◌==◌, ◌+◌, ℕ, false, not, List, [], ◌∷◌, Ok, Err, Result, length, ap, refl, sym, subst, arith}
use Rattle.std.specs.Prelude.{◌&&◌, IfErr, OnOk, count_by}
use Rattle.chk_site.specs.declared.acts.OutsideFault.{OutsideFault}
use Rattle.chk_site.specs.declared.acts.OutsideFault.TheVariants.{Outside as site_failed, NoMemory as no_memory}
use Rattle.chk_world.specs.Books.{End, Book, is_nothing}
use Rattle.chk_record_index.specs.Heads.{Head}
use Rattle.chk_record_index.specs.Faults.{job_fault, IsOfRead}
use Rattle.chk_record_index.specs.declared.fault.JobFault.{JobFault}
use Rattle.chk_record_index.specs.declared.fault.JobFault.TheVariants.{Outside, Damaged, Spent, NoMemory}
use Rattle.chk_book.specs.Causes.{SpentBook}
use Rattle.chk_record_index.specs.Order.{in_head_order}
use Rattle.chk_archive_parts.specs.Cuts.{AreWithin}
use Rattle.chk_archive_parts.specs.Kept.{is_first, are_old_aside, KeepsFirsts}
use Rattle.chk_archive_parts.specs.declared.cuts.Cut.{Cut}
use Rattle.chk_archive.specs.Starts.{ToldOtherStart}
use Rattle.chk_archive.specs.Taking.{IsPlanned, stays_aside}
use Rattle.chk_archive.specs.declared.taking.Planned.{Planned}
use Rattle.chk_archive.specs.Shown.{IfSpent, IsAtLast, number_for, LacksFor, for_aside, LacksOver, LacksOne}

pub spent_as : (N M : Type 0) → (N → M) → (fault : JobFault) → IfSpent N fault → IfSpent M fault
spent_as N M so (Outside call) x = tt
spent_as N M so (Damaged name at) x = tt
spent_as N M so (Spent n) x = (x.0, so x.1)
spent_as N M so NoMemory x = tt

pub spent_outside : (N : Type 0) (fault : OutsideFault) → IfSpent N (job_fault fault)
spent_outside N (site_failed call) = tt
spent_outside N no_memory = tt

pub spent_reading : (N : Type 0) (fault : JobFault) → IsOfRead fault → IfSpent N fault
spent_reading N (Outside call) x = tt
spent_reading N (Damaged name at) x = tt
spent_reading N (Spent n) x = absurd x
spent_reading N NoMemory x = tt

pub spent_starting : (N : Type 0) (files : List (List ℕ)) (ends : List End) (heads : List Head)
    (fault : JobFault)
    → ToldOtherStart files ends heads fault → IfSpent N fault
spent_starting N files ends heads (Outside call) x = absurd x
spent_starting N files ends heads (Damaged name at) x = tt
spent_starting N files ends heads (Spent n) x = absurd x
spent_starting N files ends heads NoMemory x = tt

pub spent_book : (T : Type 0) (b : Book) (fault : JobFault) → SpentBook {T = T} b (Err fault)
    → IfSpent (IsAtLast b) fault
spent_book T b (Outside call) x = tt
spent_book T b (Damaged name at) x = tt
spent_book T b (Spent n) x = x
spent_book T b NoMemory x = tt

-- a result that is so only with a cause, with another one
pub spent_in : {T : Type 0} (N M : Type 0) → (N → M) → (result : Result T JobFault)
    → IfErr result (IfSpent N) → IfErr result (IfSpent M)
spent_in N M so (Ok value) x = tt
spent_in N M so (Err fault) x = spent_as N M so fault x

pub spent_by_book : {T : Type 0} (b : Book) (N : Type 0) → (IsAtLast b → N)
    → (result : Result T JobFault) → SpentBook b result
    → IfErr result (IfSpent N)
spent_by_book b N so (Ok value) x = tt
spent_by_book {T = T} b N so (Err fault) x = spent_as (IsAtLast b) N so fault
    (spent_book T b fault x)

pub some_there : {X : Type 0} (xs : List X) → false ≡ (length xs == 0) → xs ≡ [] → ⊥
some_there [] e = λ none. let z : ⊥ = grind (arith, e) in z
some_there (x ∷ xs) e = λ none. let z : ⊥ = grind (arith, none) in z

-- ---- the number of the aside segment

pub no_number : (n : ℕ) (cuts : List Cut) → cuts ≡ [] → n ≡ n + number_for cuts
no_number n cuts none =
    let same : n ≡ n + 0 = omega arith in
    subst (λ ks. n ≡ n + number_for ks) (sym none) same

pub parts_number : {T : Type 0} (result : Result T JobFault) (n m : ℕ) (cuts : List Cut)
    → (cuts ≡ [] → ⊥) → OnOk result (m ≡ n + 1) → OnOk result (m ≡ n + number_for cuts)
parts_number result n m [] some x = absurd (some refl)
parts_number result n m (k ∷ ks) some x = x

same_stays : (b mid : Book) (heads : List Head) (old : ℕ) (kept : List Cut)
    → mid.aside ≡ b.aside → stays_aside mid heads old kept ≡ stays_aside b heads old kept
same_stays b mid heads old [] same = ap is_nothing same
same_stays b mid heads old (k ∷ ks) same =
    ap (λ o. not (is_nothing o) && are_old_aside heads old (k ∷ ks)) same

-- the number that the aside segment lacks behind the segment of what is taken
pub lacks_aside : (b mid : Book) (heads : List Head) (old : ℕ) (cuts kept : List Cut)
    → mid.aside ≡ b.aside → mid.next ≡ b.next + number_for cuts
    → (kept ≡ [] → ⊥) → stays_aside mid heads old kept ≡ false → IsAtLast mid
    → LacksFor b heads old cuts kept
lacks_aside b mid heads old cuts kept same next some goes last =
    for_aside some (sym (same_stays b mid heads old kept same) ∙ goes) (sym next ∙ last)

pub planned_spent : {T : Type 0} (b : Book) (heads : List Head) (old : ℕ) (p : Planned)
    (kept : List Cut) (result : Result T JobFault)
    → IsPlanned b heads p → AreWithin (length heads) kept
    → KeepsFirsts heads p.spans.items kept
    → IfErr result (IfSpent (LacksFor b heads old p.cuts kept))
    → IfErr result (IfSpent (LacksOver b heads old p))
planned_spent b heads old p kept result planned within keeps x =
    spent_in (LacksFor b heads old p.cuts kept) (LacksOver b heads old p)
    (λ lacks. record {
      planned = planned;
      kept = kept;
      within = within;
      keeps = keeps;
      lacks = lacks;
    }) result x

pub found_spent : {T : Type 0} (b : Book) (found heads : List Head) (old : ℕ) (p : Planned)
    (result : Result T JobFault)
    → heads ≡ in_head_order found → old ≡ count_by is_first found
    → IfErr result (IfSpent (LacksOver b heads old p))
    → IfErr result (IfSpent (LacksOne b found))
found_spent b found heads old p result order count x =
    spent_in (LacksOver b heads old p) (LacksOne b found)
    (λ lacks. (
      p,
      subst (λ hs. LacksOver b hs (count_by is_first found) p) order
          (subst (λ n. LacksOver b heads n p) count lacks),
    ))
    result x
