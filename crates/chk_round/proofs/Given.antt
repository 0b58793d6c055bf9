-- How often the job was given the names of the sinks.
use Rattle.std.proofs.Common.{◌≡◌, ℕ, zero, suc, ◌+◌, Bool, true, false, ◌&&◌, List, [], ◌∷◌, ◌++◌, Option, ap, sym, ◌∙◌, refl, arith, if◌then◌else◌, cond}
use Rattle.std.specs.Prelude.{Contains, count_by}
use Rattle.std.proofs.lemmas.List.Sums.{sum_by-cons}
use Rattle.chk_site.specs.declared.acts.Role.TheVariants.{Agent, Collector, Job}
use Rattle.chk_site.specs.declared.acts.Who.{Who}
use Rattle.chk_site.specs.Acts.{deed, same_role}
use Rattle.chk_site.specs.History.{History, Step}
use Rattle.chk_site.specs.Runs.{Leads, Owns, own_acts}
use Rattle.chk_site.specs.Site.{Adds}
use Rattle.chk_site.proofs.Runs.{adds_then}
use Rattle.chk_world.specs.Places.{As, IsBy}
use Rattle.chk_world.specs.Together.{IsByOne}
use Rattle.chk_archive.specs.Archived.{GivenOnce, gives_sinks, is_job_listing}
use Rattle.chk_round.proofs.WholeRounds.{count_other}

abbrev pub given : History → ℕ
given added = count_by is_job_listing (own_acts added)

-- it wasn't given them in these steps
abbrev pub GivenNone : History → History → Type 0
GivenNone added history = given added ≡ 0

-- steps of the site's own that aren't by the job
pub none_given : (P : History → Step → Type 0)
    → ((before : History) (step : Step) → P before step → same_role step.act.who.role Job ≡ false)
    → (added history : History) → Owns P added history → GivenNone added history
none_given P apart [] history own = refl
none_given P apart (step ∷ added) history own =
    go step.own refl (none_given P apart added history own.0)
  where
    go : (b : Bool) → step.own ≡ b → given added ≡ 0
        → count_by is_job_listing (if b then step.act ∷ own_acts added else own_acts added) ≡ 0
    go true is none =
        count_other true step.act (own_acts added)
        (ap (λ b. b && gives_sinks (deed step.act) step.act.answer)
        (apart (added ++ history) step (own.1 is)))
        ∙ none
    go false is none = none

-- of a collector and of an agent
abbrev pub pair : List ℕ → List ℕ → List Who
pair c n = record { role = Collector; name = c } ∷ record { role = Agent; name = n } ∷ []

pub pair_apart : (c n : List ℕ) (who : Who) → Contains (pair c n) who → same_role who.role Job ≡ false
pair_apart c n who (zero, below, at) = ap (λ (w : Who). same_role w.role Job) (sym at)
pair_apart c n who (suc zero, below, at) = ap (λ (w : Who). same_role w.role Job) (sym at)
pair_apart c n who (suc (suc k), below, at) = absurd (let z : ⊥ = omega (arith, below) in z)

pub pair_given : (c n : List ℕ) (added history : History) → Owns (IsByOne (pair c n)) added history
    → GivenNone added history
pair_given c n =
    none_given (IsByOne (pair c n)) (λ before step by. pair_apart c n step.act.who by.one)

-- steps in turn
pub given_join : (b a : History) → given (b ++ a) ≡ given b + given a
given_join [] a = omega arith
given_join (step ∷ b) a = go step.own (given_join b a)
  where
    go : (t : Bool) → given (b ++ a) ≡ given b + given a
        → count_by is_job_listing (if t then step.act ∷ own_acts (b ++ a) else own_acts (b ++ a))
        ≡ count_by is_job_listing (if t then step.act ∷ own_acts b else own_acts b) + given a
    go true rest =
        let all = sum_by-cons (λ x. cond {A = ℕ} (is_job_listing x) 1 0) step.act (own_acts (b ++ a)) in
        let here = sum_by-cons (λ x. cond {A = ℕ} (is_job_listing x) 1 0) step.act (own_acts b) in
        omega (arith, all, here, rest)
    go false rest = rest

-- the calls of a collector before it was given them
pub given_behind : (c : List ℕ) {A B : History → Type 0} {stamped : List (List ℕ)} {old mid new : Option History}
    → Adds old mid (Leads (As stamped (record { role = Collector; name = c })) A B)
    → Adds mid new GivenOnce → Adds old new GivenOnce
given_behind c first last =
    adds_then GivenOnce first last
    (λ a b history x once.
    let all = given_join b a in
    let none =
    none_given (IsBy (record { role = Collector; name = c }))
    (λ before step by. ap (λ (w : Who). same_role w.role Job) by.by) a history x.own in
    omega (arith, all, none, once))
