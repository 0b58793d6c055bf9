-- The heads of all files that the job reads.
use Rattle.std.proofs.Common.{◌≡◌, ℕ, ◌+◌, inl, inr, false, List, [], ◌∷◌, ◌++◌, length, Option, Ok, Err, Result, ap, sym, subst, ◌∙◌, refl, arith, true≢false, append_assoc, append-nil}
use Rattle.std.proofs.lemmas.Bool.{cases_Bool}
use Rattle.chk_site.specs.History.{History, Every, is_stopped}
use Rattle.chk_site.specs.Site.{Adds}
use Rattle.chk_site.specs.Runs.{Leads, anyhow}
use Rattle.chk_site.proofs.Runs.{adds_both, adds_then}
use Rattle.chk_site.proofs.Leads.{leads_as, leads_none, leads_then}
use Rattle.chk_replace.specs.Load.{Has}
use Rattle.chk_chunk.specs.Keys.{chunk_limit}
use Rattle.chk_world.specs.Books.{AllChunks}
use Rattle.chk_world.specs.Places.{As}
use Rattle.chk_world.specs.Sight.{job, Sight}
use Rattle.chk_world.specs.JobSteps.{IsOf, ReadsFile, SparesFile}
use Rattle.chk_record_index.specs.Faults.{FailsLast}
use Rattle.chk_site.proofs.LastCalls.{last_of_both as last_then}
use Rattle.chk_site.specs.declared.acts.OutsideFault.TheVariants.{Outside as site_failed}
use Rattle.chk_record_index.specs.Heads.{Head, heads_in}
use Rattle.chk_record_index.specs.Pieces.{bytes_in}
use Rattle.chk_record_index.specs.Gathered.{Gathered}
use Rattle.chk_record_index.specs.declared.fault.JobFault.{JobFault}
use Rattle.chk_record_index.specs.declared.fault.JobFault.TheVariants.{Outside, Damaged, Spent, NoMemory}
use Rattle.chk_record_index.proofs.NoDamage.{no_damage}
use Rattle.chk_archive_parts.specs.Gathering.{held, IsSoundFile, heads_of, Found}
use Rattle.chk_archive_parts.proofs.OneFile.{Knows, stays_stopped, one_file}

-- the job knows what it knew, and where the site runs these are the heads
abbrev pub HasHeads : List (List ℕ) → Sight → List (List ℕ) → List Head → History → Type 0
HasHeads stamped v ws heads history =
    Knows stamped v history × (is_stopped history ≡ false → heads ≡ heads_of v 0 ws)

-- one file more
heads_more : (v : Sight) (n : ℕ) (ws : List (List ℕ)) (w : List ℕ)
    → heads_of v n (ws ++ w ∷ []) ≡ heads_of v n ws ++ heads_in chunk_limit (n + length ws)
    (bytes_in (held v w))
heads_more v n [] w =
    append-nil (heads_in chunk_limit n (bytes_in (held v w)))
    ∙ ap (λ m. heads_in chunk_limit m (bytes_in (held v w))) (let e : n ≡ n + 0 = omega arith in e)
heads_more v n (x ∷ ws) w =
    ap (λ l. heads_in chunk_limit n (bytes_in (held v x)) ++ l) (heads_more v (n + 1) ws w)
    ∙ (sym (append_assoc (heads_in chunk_limit n (bytes_in (held v x))) (heads_of v (n + 1) ws)
    (heads_in chunk_limit (n + 1 + length ws) (bytes_in (held v w))))
    ∙ ap (λ m. heads_of v n (x ∷ ws) ++ heads_in chunk_limit m (bytes_in (held v w)))
    (let e : n + 1 + length ws ≡ n + length (x ∷ ws) = omega arith in e))

-- what one gathering says where the site runs
abbrev Said : Sight → List ℕ → ℕ → List Head → List Head → Result ℕ JobFault → Type 0
Said v w number old new (Ok count) = new ≡ old ++ heads_in chunk_limit number (bytes_in (held v w))
Said v w number old new (Err (Damaged name at)) = ⊥
Said v w number old new (Err fault) = Unit {0}

said : (v : Sight) (w : List ℕ) (sound : IsSoundFile v w) (number : ℕ) (old new : List Head)
    (r : Result ℕ JobFault) (h : History)
    → Gathered chunk_limit w (held v w) number old new r h → Said v w number old new r
said v w sound number old new (Ok count) h g = g.2
said v w sound number old new (Err (Damaged name at)) h g =
    no_damage chunk_limit (bytes_in (held v w))
    (subst (λ o. AllChunks chunk_limit (bytes_in o)) (sym sound.there) sound.chunks) at g.2
said v w sound number old new (Err (Outside call)) h g = tt
said v w sound number old new (Err (Spent n)) h g = tt
said v w sound number old new (Err NoMemory) h g = tt

-- one gathering behind others
module _ (stamped : List (List ℕ)) (v : Sight) (ws : List (List ℕ)) (w : List ℕ)
    (sound : IsSoundFile v w)
    (heads more : List Head) (r : Result ℕ JobFault) {old mid new : Option History}
    (so_far : Adds old mid (Leads (As stamped job) (Knows stamped v) (HasHeads stamped v ws heads)))
    (raw : Adds mid new (Leads (anyhow (SparesFile w)) (Has w (held v w))
    (Gathered chunk_limit w (held v w) (length ws) heads more r)))
    (own : Adds mid new (Every (IsOf ReadsFile))) where
  one : Adds mid new (Leads (As stamped job) (Knows stamped v)
      (λ h. Knows stamped v h × (is_stopped h ≡ false → Gathered chunk_limit w (held v w)
      (length ws) heads more r h)))
  one = one_file stamped v w sound.can (Gathered chunk_limit w (held v w)
      (length ws) heads more r) raw own

  -- what was known where the site ran is known where it still does
  framed : Adds mid new (Leads (As stamped job) (HasHeads stamped v ws heads)
      (λ h. Knows stamped v h × (is_stopped h ≡ false → (heads ≡ heads_of v 0 ws) × Said v w
      (length ws) heads more r)))
  framed =
      adds_both
      (Leads (As stamped job) (HasHeads stamped v ws heads)
      (λ h. Knows stamped v h × (is_stopped h ≡ false → (heads ≡ heads_of v 0 ws) × Said v w
      (length ws) heads more r)))
      one own
      (λ added history x made. record {
        leads = λ others h.
            let z = x.leads others h.0 in (
              z.0,
              λ r1. (
                h.1 (ran added history made r1),
                said v w sound (length ws) heads more r
                    (added ++ history) (z.1 r1),
              ),
            );
        own = x.own;
      })
    where
      ran : (added history : History) → Every (IsOf ReadsFile) added history → is_stopped
          (added ++ history) ≡ false
          → is_stopped history ≡ false
      ran added history made r1 = elim (cases_Bool (is_stopped history)) [
        | inr runs ↦ runs
        | inl stopped ↦ absurd (true≢false
            (sym (stays_stopped ReadsFile added history made stopped) ∙ r1))
      ]

  after : Adds old new (Leads (As stamped job) (Knows stamped v)
      (λ h. Knows stamped v h × (is_stopped h ≡ false → (heads ≡ heads_of v 0 ws) × Said v w
      (length ws) heads more r)))
  after = leads_then so_far framed

  pub one_more_file : (count : ℕ) → r ≡ Ok count
      → Adds old new (Leads (As stamped job) (Knows stamped v)
      (HasHeads stamped v (ws ++ w ∷ []) more))
  one_more_file count is =
      leads_as (λ h k. k)
      (λ h k. (
        k.0,
        λ runs.
            let z = k.1 runs in
            subst (λ r. Said v w (length ws) heads more r) is z.1
            ∙ (ap (λ l. l ++ heads_in chunk_limit (length ws) (bytes_in (held v w))) z.0
            ∙ (ap (λ n. heads_of v 0 ws ++ heads_in chunk_limit n (bytes_in (held v w)))
            (let e : length ws ≡ 0 + length ws = omega arith in e)
            ∙ sym (heads_more v 0 ws w))),
      ))
      after

  pub not_gathered : (all : List (List ℕ)) (fault : JobFault) → r ≡ Err fault
      → Adds old new (Leads (As stamped job) (Knows stamped v) (Found stamped v all (Err fault)))
  not_gathered all fault is = leads_as (λ h k. k) (λ h k. go fault is h k) after
    where
      go : (fault : JobFault) → r ≡ Err fault → (h : History)
          → Knows stamped v h × (is_stopped h ≡ false → (heads ≡ heads_of v 0 ws) × Said v w
          (length ws) heads more r)
          → Found stamped v all (Err fault) h
      go (Damaged name at) is h k = record {
        legal = k.0.legal;
        may_act = k.0.may_act;
        alive = λ runs. subst (λ r. Said v w (length ws) heads more r) is (k.1 runs).1;
      }
      go (Outside call) is h k = k.0.legal
      go (Spent n) is h k = k.0.legal
      go NoMemory is h k = k.0.legal

pub none_yet : (stamped : List (List ℕ)) (v : Sight) (now : Option History)
    → Adds now now (Leads (As stamped job) (Knows stamped v) (HasHeads stamped v [] []))
none_yet stamped v now = leads_none now (λ h k. (k, λ runs. refl))

pub all_gathered : (stamped : List (List ℕ)) (v : Sight) (ws : List (List ℕ))
    (heads : List Head) {old new : Option History}
    → Adds old new (Leads (As stamped job) (Knows stamped v) (HasHeads stamped v ws heads))
    → Adds old new (Leads (As stamped job) (Knows stamped v) (Found stamped v ws (Ok heads)))
all_gathered stamped v ws heads told =
    leads_as (λ h k. k)
    (λ h k. record {
      legal = k.0.legal;
      may_act = k.0.may_act;
      alive = λ runs.
          (k.0.alive runs, k.1 runs);
    }) told

-- no number for a further file
pub no_number : (stamped : List (List ℕ)) (v : Sight) (ws all : List (List ℕ))
    (heads : List Head) {old new : Option History}
    → Adds old new (Leads (As stamped job) (Knows stamped v) (HasHeads stamped v ws heads))
    → Adds old new (Leads (As stamped job) (Knows stamped v) (Found stamped v all (Err NoMemory)))
no_number stamped v ws all heads told = leads_as (λ h k. k) (λ h k. k.0.legal) told

-- a refusal behind other calls
pub fails_later : (T U : Type 0) {P : History → History → Type 0}
    (fault : JobFault) {old mid new : Option History} → Adds old mid P
    → Adds mid new (FailsLast {T = T} (Err fault)) → Adds old new (FailsLast {T = U} (Err fault))
fails_later T U (Outside call) so_far told =
    adds_then (FailsLast {T = U} (Err (Outside call))) so_far told
    (λ a b history p q. last_then {T = Unit {0}} (Err (site_failed call)) b a history q)
fails_later T U (Damaged name at) so_far told = adds_then
    (FailsLast {T = U} (Err (Damaged name at))) so_far told (λ a b history p q. tt)
fails_later T U (Spent n) so_far told = adds_then (FailsLast {T = U} (Err (Spent n))) so_far told
    (λ a b history p q. tt)
fails_later T U NoMemory so_far told = adds_then (FailsLast {T = U} (Err NoMemory)) so_far told
    (λ a b history p q. tt)
