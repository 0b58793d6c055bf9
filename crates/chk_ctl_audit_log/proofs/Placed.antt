-- The words of a read behind a suffix.
use Rattle.std.proofs.Common.{◌≡◌, ℕ, List, [], ◌∷◌, Option, Some, None, Result, refl, subst, true}
use Rattle.std.proofs.Common.{Ok, Err, Bool, false, sym, ◌+◌, ◌^◌, arith}
use Rattle.std.specs.Borrow.{Bor}
use Rattle.std.specs.Option.{option_copied}
use Rattle.std.specs.Prelude.{nat_lt, if◌then◌else◌}
use Rattle.chk_site.specs.declared.acts.ActAnswer.{ActAnswer}
use Rattle.chk_site.specs.declared.acts.Call.TheVariants.{LogRead}
use Rattle.chk_site.specs.declared.acts.CallFault.{CallFault}
use Rattle.chk_site.specs.declared.acts.OutsideFault.{OutsideFault}
use Rattle.chk_site.specs.declared.acts.OutsideFault.TheVariants.{Outside, NoMemory as no_memory}
use Rattle.chk_site.specs.declared.acts.Who.{Who}
use Rattle.chk_site.specs.declared.limits.TheConstants.{PIECE_BYTES}
use Rattle.chk_site.specs.declared.suffixes.Part.TheVariants.{After}
use Rattle.chk_site.specs.History.{History}
use Rattle.chk_site.specs.Site.{Adds, asked, Calls, OutsideCause, part_text}
use Rattle.chk_tail.specs.Walks.{part}
use Rattle.chk_bytes.specs.Words.{text_lt}
use Rattle.chk_ctl_audit_log.specs.declared.placing.Next.TheVariants.{Rotated}
use Rattle.chk_ctl_audit_log.specs.declared.placing.Passing.{Passing}
use Rattle.chk_ctl_audit_log.specs.declared.placing.Passing.TheVariants.{Done, Further}
use Rattle.chk_ctl_audit_log.specs.Placing.{further, passes, Passes, PassesNext, reading_at}
use Rattle.chk_ctl_audit_log.specs.Placing.{SeesNext, stops}

pub part_lent : (after : Option (Bor (List ℕ))) → part_text (After after) ≡ part true (option_copied after)
part_lent None = refl
part_lent (Some suffix) = refl

pub read_at : (who : Who) (path : List ℕ) (after : Option (Bor (List ℕ))) (at : ℕ)
    (given : Result ActAnswer CallFault) {old new : Option History}
    → Adds old new
    (Calls (asked who LogRead (path ∷ part_text (After after) ∷ []) at PIECE_BYTES) given)
    → Adds old new (Calls (reading_at who path (option_copied after) at) given)
read_at who path after at given {old = old} {new = new} told =
    subst
    (λ (w : List ℕ). Adds old new (Calls (asked who LogRead (path ∷ w ∷ []) at PIECE_BYTES) given))
    (part_lent after) told

pub cause_then : {T : Type 0} (result : Result T OutsideFault) (a b c : ℕ) → b ≡ a
    → OutsideCause b c result → OutsideCause a c result
cause_then result a b c same x = subst (λ n. OutsideCause n c result) same x

pub cause_as : (T V : Type 0) (fault : OutsideFault) (before now : ℕ)
    → OutsideCause {T = T} before now (Err fault) → OutsideCause {T = V} before now (Err fault)
cause_as T V (Outside call) before now x = x
cause_as T V no_memory before now x = x

-- what a rotated generation shows of the next one
pub passed_by : (who : Who) (path last : List ℕ) (after : Option (List ℕ)) (bytes : ℕ)
    (suffix : List ℕ) (size : ℕ) (result : Result Passing OutsideFault)
    {old new : Option History} → SeesNext who path after (Ok (Rotated suffix size)) old new
    → result ≡ further last suffix size bytes
    → PassesNext who path last after bytes result old new
passed_by who path last after bytes suffix size result {old = old} {new = new} sees is =
    subst (λ (r : Result Passing OutsideFault). PassesNext who path last after bytes r old new)
    (sym is) (go (text_lt last suffix) (nat_lt (bytes + size) (2 ^ 64)) refl)
  where
    go : (b d : Bool) → text_lt last suffix ≡ b
        → PassesNext who path last after bytes (if b then Ok Done
        else (if d then Ok (Further suffix (bytes + size)) else Err no_memory)) old new
    go true d is = (Rotated suffix size, sees, is)
    go false true is = (size, sees, is, refl)
    go false false is = tt

-- one more is passed, behind those before
pub passes_on : (who : Who) (path last : List ℕ) (after : Option (List ℕ)) (bytes sum : ℕ)
    (suffix : List ℕ) {begun old mid new : Option History}
    → ((n : ℕ) → Passes who path last after n old new
    → Passes who path last None (bytes + n) begun new)
    → PassesNext who path last after bytes (Ok (Further suffix sum)) old mid
    → (n : ℕ) → Passes who path last (Some suffix) n mid new
    → Passes who path last None (sum + n) begun new
passes_on who path last after bytes sum suffix {begun = begun} {new = new} behind p n rest =
    let is = p.3 in
    subst (λ (k : ℕ). Passes who path last None k begun new)
    (let e : bytes + (p.0 + n) ≡ sum + n = omega (arith, is) in e)
    (behind (p.0 + n) (passes suffix p.0 p.1 p.2 rest))

-- none more is passed
pub passes_end : (who : Who) (path last : List ℕ) (after : Option (List ℕ)) (bytes : ℕ)
    {begun old new : Option History}
    → ((n : ℕ) → Passes who path last after n old new
    → Passes who path last None (bytes + n) begun new)
    → PassesNext who path last after bytes (Ok Done) old new
    → Passes who path last None bytes begun new
passes_end who path last after bytes {begun = begun} {new = new} behind p =
    subst (λ (k : ℕ). Passes who path last None k begun new)
    (let e : bytes + 0 ≡ bytes = omega arith in e)
    (behind 0 (stops p.0 p.1 p.2))
