-- Store after store is read.
use Rattle.std.proofs.Common.{◌≡◌, ℕ, zero, suc, ◌<◌, ◌≤◌, Bool, true, false, List, [], ◌∷◌, length, map, get_or, sym, subst, refl, arith, Ok, Err, Option, Result, length-append}
use Rattle.std.specs.Borrow.{Bor}
use Rattle.std.specs.List.{list_all}
use Rattle.std.specs.Prelude.{IsTrue, codes, nat_le}
use Rattle.std.proofs.lemmas.Bool.{and_from, and_parts, le-leb, leb-true}
use Rattle.chk_site.specs.declared.acts.OutsideFault.{OutsideFault}
use Rattle.chk_site.specs.declared.acts.OutsideFault.TheVariants as site
use Rattle.chk_site.specs.History.{Every, History}
use Rattle.chk_site.specs.Site.{Adds, OutsideCause}
use Rattle.chk_site.proofs.Runs.{adds_then, every_join}
use Rattle.chk_bytes.specs.Words.{is_word}
use Rattle.chk_bytes.proofs.WordLemmas.{plain_behind_word}
use Rattle.chk_world.specs.JobSteps.{IsOf}
use Rattle.chk_book.specs.Folders.{is_folder}
use Rattle.chk_ctl_streams.specs.Following.{LooksAgain}
use Rattle.chk_ctl_line.specs.Names.{are_stores, is_path}
use Rattle.chk_ctl_run.specs.declared.outcome.Outcome.{Outcome}
use Rattle.chk_ctl_run.specs.Outcomes.{OutcomeCause}
use Rattle.chk_ctl_run.specs.Several.{archive_of, book_of, waits_as, FindsStore, LoadsStore}
use Rattle.chk_ctl_run.specs.Several.{not_read, read}
use Rattle.chk_ctl_run.specs.Finding.{FindsFile}
use Rattle.chk_ctl_held.specs.declared.stores.Store.{Store}
use Rattle.chk_ctl_held.specs.Finding.{FoundAgain}

-- ---- names

pub store_word : (store : List ℕ) → IsTrue (is_path store) → IsTrue (is_word store)
store_word store h = (and_parts (is_word store) (nat_le (length store) 4064) h).0

pub archive_can : (store : List ℕ) → IsTrue (is_path store) → IsTrue (is_folder (archive_of store))
archive_can store h =
    let both = and_parts (is_word store) (nat_le (length store) 4064) h in
    let short : length store ≤ 4064 = leb-true (length store) 4064 both.1 in
    let size = length-append store (codes "/archive") in
    and_from (is_word (archive_of store)) (nat_le (length (archive_of store)) 4072)
    (plain_behind_word store (codes "/archive") both.0 refl (omega (arith, short)))
    (le-leb (length (archive_of store)) 4072 (omega (arith, size, short)))

pub archive_word : (store : List ℕ) → IsTrue (is_path store) → IsTrue (is_word (archive_of store))
archive_word store h =
    (and_parts (is_word (archive_of store)) (nat_le (length (archive_of store)) 4072)
    (archive_can store h)).0

pub book_word : (store : List ℕ) → IsTrue (is_path store) → IsTrue (is_word (book_of store))
book_word store h =
    let folder = archive_of store in
    let both = and_parts (is_word folder) (nat_le (length folder) 4072) (archive_can store h) in
    let short : length folder ≤ 4072 = leb-true (length folder) 4072 both.1 in
    plain_behind_word folder (codes "/book") both.0 refl (omega (arith, short))

-- ---- words

pub path_at : (xs : List (Bor (List ℕ))) (i : ℕ) (d : Bor (List ℕ)) → i < length xs
    → IsTrue (list_all is_path (map (λ a. a.now) xs)) → IsTrue (is_path (get_or xs i d).now)
path_at [] i d low all = absurd (let z : ⊥ = omega (arith, low) in z)
path_at (x ∷ xs) zero d low all = (and_parts _ _ all).0
path_at (x ∷ xs) (suc i) d low all = path_at xs i d (omega (arith, low)) (and_parts _ _ all).1

pub stores_path : (xs : List (Bor (List ℕ))) (i : ℕ) (d : Bor (List ℕ)) → i < length xs
    → IsTrue (are_stores (map (λ a. a.now) xs)) → IsTrue (is_path (get_or xs i d).now)
stores_path xs i d low h = path_at xs i d low (and_parts _ _ h).1

-- ---- calls and causes

pub looks_then : {old mid new : Option History} → Adds old mid (Every (IsOf LooksAgain))
    → Adds mid new (Every (IsOf LooksAgain)) → Adds old new (Every (IsOf LooksAgain))
looks_then first rest =
    adds_then (Every (IsOf LooksAgain)) first rest
    (λ a b history p q. every_join (IsOf LooksAgain) b a history p q)

pub waits_cause : (waits : Bool) (given : Result (Unit {0}) OutsideFault) (before now : ℕ)
    → OutsideCause before now given → OutcomeCause before now (waits_as waits given)
waits_cause true (Ok value) before now cause = cause
waits_cause false (Ok value) before now cause = cause
waits_cause waits (Err (site.Outside call)) before now cause = cause
waits_cause waits (Err site.NoMemory) before now cause = cause

-- ---- one store

pub finds_as : {name other : List ℕ} {given seen : Result Bool OutsideFault} {old new : Option History}
    → name ≡ other → given ≡ seen → FindsFile name given old new → FindsFile other seen old new
finds_as {other = other} {given = given} {old = old} {new = new} is same found =
    subst (λ (r : Result Bool OutsideFault). FindsFile other r old new) same
    (subst (λ (n : List ℕ). FindsFile n given old new) is found)

pub loads_then : (store folder : List ℕ) (result : Result Store Outcome) {old mid new : Option History}
    → folder ≡ archive_of store → FindsFile (book_of store) (Ok true) old mid
    → LoadsStore store folder result mid new → FindsStore store result old new
loads_then store folder (Ok s) {mid = mid} {new = new} is found loads =
    read s loads.0 found
    (subst (λ (f : List ℕ). FoundAgain f (Ok s.waiting) mid new) is loads.1)
loads_then store folder (Err outcome) {old = old} {mid = mid} {new = new} is found loads =
    subst (λ (o : Outcome). FindsStore store (Err o) old new) (sym loads.2)
    (not_read loads.0 found
    (subst (λ (f : List ℕ). FoundAgain f (Err loads.0) mid new) is loads.1))
