-- A call that is done follows its plan.
use Rattle.std.proofs.Common.{◌≡◌, ℕ, ◌+◌, ◌≤◌, Bool, true, false, List, ◌∷◌, length, take, drop, Option, Some, None, Result, Ok, Err, refl, sym, ◌∙◌, ap, ap₂, subst, arith}
use Rattle.std.specs.Prelude.{IfOk, nat_le, option_to_list}
use Rattle.std.proofs.lemmas.List.{length-take}
use Rattle.chk_site.specs.declared.acts.Act.{Act}
use Rattle.chk_site.specs.declared.acts.CallFault.{CallFault}
use Rattle.chk_site.specs.declared.suffixes.Part.{Part}
use Rattle.chk_site.specs.declared.suffixes.Part.TheVariants.{Base, After}
use Rattle.chk_site.specs.Logs.{Shown, ended, given_of}
use Rattle.chk_site.specs.declared.acts.Who.{Who}
use Rattle.chk_site.specs.declared.acts.Call.{Call}
use Rattle.chk_site.specs.declared.acts.ActAnswer.{ActAnswer}
use Rattle.chk_site.specs.Acts.{deed_by, is_stop}
use Rattle.chk_site.specs.Honest.{Agrees}
use Rattle.chk_site.specs.Site.{Asked, EndsPast, asked}
use Rattle.chk_site_mem_store.specs.State.{State}
use Rattle.chk_site_mem_store.specs.Told.{told_of}
use Rattle.chk_site_mem_calls.specs.declared.plan.Planned.{Planned}
use Rattle.chk_site_mem_calls.specs.Plans.{LosesNothing, Plans, act_of, planned_as}

-- the call was done with an answer that says its value
pub plans_done : {T E : Type 0} (result : Result (Planned T) E) (who : Who) (call : Call) (words words' : List (List ℕ)) (number max : ℕ)
    (how : T → ActAnswer) (s : State) (answer : ActAnswer) (value : T)
    → IfOk result (λ p. p ≡ planned_as (act_of (asked who call words number max) answer) (Ok value))
    → words ≡ words' → answer ≡ how value → Agrees (told_of s.kept) who (deed_by call words' number max) (how value)
    → LosesNothing s.repeats.numbers (told_of s.kept) who (deed_by call words' number max) (how value) → is_stop (how value) ≡ false → IfOk result (Plans (asked who call words' number max) how s)
plans_done (Err e) who call words words' number max how s answer value is same says agrees loses runs = tt
plans_done (Ok p) who call words words' number max how s answer value is same says agrees loses runs =
    let q = asked who call words' number max in
    let act_is = ap (λ (w : List (List ℕ)). planned_as (act_of (asked who call w number max) answer) (Ok value)) same in
    subst (Plans q how s) (sym (is ∙ act_is)) (record {
      act_is = refl;
      agrees = subst (Agrees (told_of s.kept) who (deed_by call words' number max)) (sym says) agrees;
      loses = subst (LosesNothing s.repeats.numbers (told_of s.kept) who (deed_by call words' number max)) (sym says) loses;
      answers = says;
      runs = ap is_stop says ∙ runs;
    })

-- the same by a number that is known only now
pub plans_some : {T E : Type 0} (result : Result (Planned T) E) (n : ℕ) (q : ℕ → Asked) (how : ℕ → T → ActAnswer) (s : State)
    → IfOk result (Plans (q n) (how n) s) → IfOk result (λ planned. (n : ℕ) × Plans (q n) (how n) s planned)
plans_some (Err e) n q how s plans = tt
plans_some (Ok p) n q how s plans = (n, plans)

-- a call that gives what it may
pub gives_may : {T E : Type 0} (result : Result (Planned T) E) (act : Act) (gives : Result T CallFault) (may : Result T CallFault → Type 0)
    → IfOk result (λ p. p ≡ planned_as act gives) → may gives → IfOk result (λ p. may p.gives)
gives_may (Err e) act gives may is fits = tt
gives_may {T} (Ok p) act gives may is fits = subst (λ (p : Planned T). may p.gives) (sym is) fits

-- the first bytes are no more than asked for
pub most_given : (bytes : List ℕ) (max : ℕ) (all : List ℕ) → bytes ≡ take max all → length bytes ≤ max
most_given bytes max all is = omega (arith, ap length is, length-take max all)

-- a piece of a log is given as a reader sees it
pub log_given : (seen shown : Shown) (at max : ℕ) (bytes : List ℕ) (ends : List (List ℕ)) → shown ≡ seen → at ≤ length shown.bytes
    → bytes ≡ take max (drop at shown.bytes) → ends ≡ ended shown.suffix (nat_le (length shown.bytes) (at + max))
    → (at ≤ length seen.bytes) × (bytes ∷ ends ≡ given_of seen at max)
log_given seen shown at max bytes ends same within is reached =
    subst (λ (g : Shown). (at ≤ length g.bytes) × (bytes ∷ ends ≡ given_of g at max)) same
    (within, ap₂ (λ (b : List ℕ) (es : List (List ℕ)). b ∷ es) is reached)

-- the suffix that a piece ended is the one that was shown
pub ends_past : (part : Part) (shown found : Option (List ℕ)) (reached : Bool) → EndsPast part shown
    → option_to_list found ≡ ended shown reached → EndsPast part found
ends_past part None None reached past same = past
ends_past part None (Some suffix) reached past same = absurd (cc)
ends_past part (Some after) None reached past same = none part
  where
    none : (part : Part) → EndsPast part None
    none Base = refl
    none (After None) = tt
    none (After (Some suffix)) = tt
ends_past part (Some after) (Some suffix) true past same =
    let is : after ≡ suffix = cc in
    subst (λ (s : List ℕ). EndsPast part (Some s)) is past
ends_past part (Some after) (Some suffix) false past same = absurd (cc)
