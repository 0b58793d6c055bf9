-- Where a message is read no further, and how it is read on.
use Rattle.std.proofs.Common.{◌≡◌, ℕ, ◌<◌, ◌≤◌, Bool, true, false, cond, List, [], ◌∷◌, ◌++◌, length, Option, Some, None, Result, Ok, Err, refl, sym, subst, arith}
use Rattle.std.specs.Prelude.{nat_lt, OnOk, IfErr}
use Rattle.std.specs.Result.{is_err}
use Rattle.std.proofs.lemmas.Bool.{ltb-false, true≢false}
use Rattle.chk_site.specs.declared.acts.Call.TheVariants.{More}
use Rattle.chk_site.specs.declared.acts.OutsideFault.{OutsideFault}
use Rattle.chk_site.specs.declared.acts.Who.{Who}
use Rattle.chk_site.specs.History.{History}
use Rattle.chk_site.specs.Site.{Adds, asked, answered, bytes_given, Calls}
use Rattle.chk_tee.specs.Messages.{tee_limit}
use Rattle.chk_tee.specs.Faults.{tee_fault, first_wrong, wrong_if}
use Rattle.chk_tee.specs.declared.faults.TeeFault.{TeeFault}
use Rattle.chk_tee.specs.declared.faults.TeeFault.TheVariants.{Short, TooLong}
use Rattle.chk_cmd_subscribe.specs.Watching.{IsShort, IsReadOn, PrintsMessage, refused_more, refused, uncounted, came}
use Rattle.chk_cmd_subscribe.specs.declared.Watch.{Watch}
use Rattle.chk_site.specs.declared.acts.OutsideFault.TheVariants.{NoMemory as no_memory}

-- what is short isn't too long
pub short_fits : (bytes : List ℕ) (at : ℕ) → tee_fault bytes ≡ Some (Short at) → length bytes ≤ tee_limit
unfolding tee_fault first_wrong wrong_if
short_fits bytes at h = go (nat_lt tee_limit (length bytes)) refl _ h
  where
    go : (b : Bool) → nat_lt tee_limit (length bytes) ≡ b → (rest : List (Option TeeFault))
        → first_wrong (cond b (Some (TooLong tee_limit (length bytes))) None ∷ rest) ≡ Some (Short at) → length bytes ≤ tee_limit
    go true e rest h = absurd (cc)
    go false e rest h = ltb-false tee_limit (length bytes) e

-- so much was got: what comes of the rest of the message comes of all of it
abbrev pub ReadsOn : Who → ℕ → List ℕ → Option History → List ℕ → Option History → Type 0
ReadsOn who t begun old bytes now =
    (got : Result (List ℕ) OutsideFault) (end : Option History) → IsReadOn who t bytes got now end → IsReadOn who t begun got old end

pub reads_next : (who : Who) (t : ℕ) (begun bytes piece next : List ℕ) (old now new : Option History) → ReadsOn who t begun old bytes now
    → IsShort bytes → 0 < length piece → Adds now new (Calls (asked who More [] t 0) (answered bytes_given (Ok piece)))
    → next ≡ bytes ++ piece → ReadsOn who t begun old next new
reads_next who t begun bytes piece next old now new on short some call is got end more =
    on got end (came piece short some call (subst (λ (l : List ℕ). IsReadOn who t l got new end) is more))

pub no_bytes : (bytes : List ℕ) → length bytes ≡ 0 → bytes ≡ []
no_bytes [] none = refl
no_bytes (b ∷ bytes) none = absurd (omega (arith, none))

pub on_ok : {E X : Type 0} (r : Result (Unit {0}) E) → is_err r ≡ false → OnOk r X → X
on_ok (Ok done) e x = x
on_ok (Err fault) e x = absurd (true≢false e)

-- bytes that aren't a message count as refused
pub refuse_told : (who : Who) (bytes : List ℕ) (w v : Watch) (now : Option History) (fault : TeeFault) (r : Result (Unit {0}) OutsideFault)
    → tee_fault bytes ≡ Some fault → OnOk r (v ≡ refused_more w) → IfErr r (λ f. (f ≡ no_memory) × (v ≡ w))
    → PrintsMessage who bytes w r v now now
refuse_told who bytes w v now fault (Ok done) e ok err =
    subst (λ (u : Watch). PrintsMessage who bytes w (Ok tt) u now now) (sym ok) (refused fault e)
refuse_told who bytes w v now fault (Err f) e ok err =
    subst (λ (u : Watch). PrintsMessage who bytes w (Err f) u now now) (sym err.1)
    (subst (λ (x : OutsideFault). PrintsMessage who bytes w (Err x) w now now) (sym err.0) uncounted)
