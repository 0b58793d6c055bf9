-- The records of a stream are compared, one after the other.
use Rattle.std.proofs.Common.{◌≡◌, ◌⊎◌, inl, inr, ℕ, ◌-◌, ◌≤◌, List, [], take, drop, Option, Some, None, Ok, Err, sym, ◌∙◌, ap, subst, arith}
use Rattle.std.specs.Prelude.{flat_map}
use Rattle.std.proofs.Math.Seq.{drop-nil}
use Rattle.chk_site.specs.Files.{Files}
use Rattle.chk_site.specs.History.{Step, History}
use Rattle.chk_site.specs.Site.{Adds}
use Rattle.chk_site.specs.Runs.{anyhow, Leads}
use Rattle.chk_site.proofs.Runs.{adds_as}
use Rattle.chk_site.proofs.Leads.{leads_as, leads_none, leads_then, owned_anyhow}
use Rattle.chk_record_index.specs.declared.fault.JobFault.{JobFault}
use Rattle.chk_record_index.specs.declared.fault.JobFault.TheVariants.{Outside, Damaged, Spent, NoMemory}
use Rattle.chk_record_reader.specs.Segments.{HasFiles, SparesFiles}
use Rattle.chk_join_sources.specs.declared.gathering.Side.{Side}
use Rattle.chk_record_reader.specs.Archives.{value_in}
use Rattle.chk_record_reader.proofs.AllRead.{adds_all}
use Rattle.chk_join_sources.specs.declared.comparing.Cursor.{Cursor}
use Rattle.chk_join_sources.specs.declared.comparing.Progress.{Progress}
use Rattle.chk_join_sources.specs.declared.comparing.Readers.{Readers}
use Rattle.chk_join_sources.specs.Differences.{first_difference, further}
use Rattle.chk_join_sources.specs.Comparing.{rest_of, difference_left, AreTrue, AreWithin, ComparedOne, ComparedAll}
use Rattle.chk_join_sources.proofs.Differences.{none_left, none_right}

-- what is left differs where all does
pub record ComparedSoFar (all : List (List ℕ)) (l r : Side) (held : Files) (rs : Readers) (found : Option ℕ) (p : Progress)
    (history : History) : Type 0 where
  pub files : HasFiles all held history
  pub true_ones : AreTrue l r held rs
  pub within : AreWithin l r held p
  pub same : difference_left l r held p ≡ found

-- what holds of no history may be told before the steps
pub under : {X : Type 0} {Supposed : History → Step → Type 0} {A B : History → Type 0} {K : History → History → Type 0}
    {old new : Option History} → Adds old new K → ((x : X) → Adds old new (Leads (anyhow Supposed) A B))
    → Adds old new (Leads (anyhow Supposed) (λ history. A history × X) B)
under {X = X} {Supposed = Supposed} {A = A} {B = B} k each =
    adds_all (Leads (anyhow Supposed) (λ history. A history × X) B) k each
    (λ added history p q. record {
      leads = λ others had. (q had.1).leads others had.0;
      own = owned_anyhow added history;
    })

-- behind the last head of one side nothing is left
pub none_left_of : (s : Side) (held : Files) (c : Cursor) → c.end ≤ c.index → rest_of s held c ≡ []
none_left_of s held c past =
    ap (λ (n : ℕ). drop c.passed (flat_map (value_in s.names.now held) (take n (drop c.index s.heads.now))))
    (let z : c.end - c.index ≡ 0 = omega (arith, past) in z)
    ∙ drop-nil c.passed

module _ (all : List (List ℕ)) (l r : Side) (held : Files) (a b : List ℕ) where
  abbrev pub SoFar : Readers → Progress → History → Type 0
  SoFar rs p history = ComparedSoFar all l r held rs (first_difference a b) p history

  abbrev pub Ready : Readers → Progress → History → Type 0
  Ready rs p history = HasFiles all held history × (AreTrue l r held rs × AreWithin l r held p)

  pub begun : (rs : Readers) (p : Progress) → AreTrue l r held rs → AreWithin l r held p → difference_left l r held p ≡ first_difference a b
      → (now : Option History) → Adds now now (Leads (anyhow (SparesFiles all)) (HasFiles all held) (SoFar rs p))
  begun rs p true_ones within same now =
      leads_none now (λ history files. record { files = files; true_ones = true_ones; within = within; same = same })

  ready : (rs : Readers) (p : Progress) {old mid : Option History}
      → Adds old mid (Leads (anyhow (SparesFiles all)) (HasFiles all held) (SoFar rs p))
      → Adds old mid (Leads (anyhow (SparesFiles all)) (HasFiles all held)
      (λ history. Ready rs p history × (difference_left l r held p ≡ first_difference a b)))
  ready rs p so_far = leads_as (λ history x. x) (λ history x. ((x.files, (x.true_ones, x.within)), x.same)) so_far

  pub one_more : (rs qs : Readers) (p q : Progress) (found : Option ℕ) → found ≡ None → {old mid new : Option History}
      → Adds old mid (Leads (anyhow (SparesFiles all)) (HasFiles all held) (SoFar rs p))
      → Adds mid new (Leads (anyhow (SparesFiles all)) (Ready rs p) (ComparedOne all l r held qs p q (Ok found)))
      → Adds old new (Leads (anyhow (SparesFiles all)) (HasFiles all held) (SoFar qs q))
  one_more rs qs p q found is {mid = mid} {new = new} so_far told =
      leads_then (ready rs p so_far)
      (adds_as (Leads (anyhow (SparesFiles all)) (λ history. Ready rs p history × (difference_left l r held p ≡ first_difference a b))
      (SoFar qs q))
      (subst (λ o. Adds mid new (Leads (anyhow (SparesFiles all)) (Ready rs p) (ComparedOne all l r held qs p q (Ok o)))) is told)
      (λ added history x. record {
        leads = λ others had.
            let y = x.leads others had.0 in
            record { files = y.0; true_ones = y.1; within = y.2; same = y.3 ∙ had.1 };
        own = x.own;
      }))

  pub one_found : (rs qs : Readers) (p q : Progress) (k : ℕ) (found : Option ℕ) → found ≡ Some k → {old mid new : Option History}
      → Adds old mid (Leads (anyhow (SparesFiles all)) (HasFiles all held) (SoFar rs p))
      → Adds mid new (Leads (anyhow (SparesFiles all)) (Ready rs p) (ComparedOne all l r held qs p q (Ok found)))
      → Adds old new (Leads (anyhow (SparesFiles all)) (HasFiles all held) (ComparedAll all l r held qs a b (Ok (Some k))))
  one_found rs qs p q k found is {mid = mid} {new = new} so_far told =
      leads_then (ready rs p so_far)
      (adds_as (Leads (anyhow (SparesFiles all)) (λ history. Ready rs p history × (difference_left l r held p ≡ first_difference a b))
      (ComparedAll all l r held qs a b (Ok (Some k))))
      (subst (λ o. Adds mid new (Leads (anyhow (SparesFiles all)) (Ready rs p) (ComparedOne all l r held qs p q (Ok o)))) is told)
      (λ added history x. record {
        leads = λ others had.
            let y = x.leads others had.0 in
            (y.0, y.1, sym y.2 ∙ had.1);
        own = x.own;
      }))

  pub one_refused : (rs qs : Readers) (p q : Progress) (fault : JobFault) {old mid new : Option History}
      → Adds old mid (Leads (anyhow (SparesFiles all)) (HasFiles all held) (SoFar rs p))
      → Adds mid new (Leads (anyhow (SparesFiles all)) (Ready rs p) (ComparedOne all l r held qs p q (Err fault)))
      → Adds old new (Leads (anyhow (SparesFiles all)) (HasFiles all held) (ComparedAll all l r held qs a b (Err fault)))
  one_refused rs qs p q fault so_far told =
      leads_as (λ history x. x) (λ history x. said fault history x)
      (leads_then (leads_as (λ history x. x) (λ history x. x.0) (ready rs p so_far)) told)
    where
      said : (fault : JobFault) (history : History) → ComparedOne all l r held qs p q (Err fault) history
          → ComparedAll all l r held qs a b (Err fault) history
      said (Outside call) history x = tt
      said (Damaged name at) history x = x
      said (Spent n) history x = tt
      said NoMemory history x = tt

  pub all_compared : (rs : Readers) (p : Progress) {old new : Option History} → (p.left.end ≤ p.left.index) ⊎ (p.right.end ≤ p.right.index)
      → Adds old new (Leads (anyhow (SparesFiles all)) (HasFiles all held) (SoFar rs p))
      → Adds old new (Leads (anyhow (SparesFiles all)) (HasFiles all held) (ComparedAll all l r held rs a b (Ok None)))
  all_compared rs p past so_far =
      leads_as (λ history x. x) (λ history x. (x.files, x.true_ones, sym (ap (further p.same) (none past)) ∙ x.same)) so_far
    where
      none : (p.left.end ≤ p.left.index) ⊎ (p.right.end ≤ p.right.index)
          → first_difference (rest_of l held p.left) (rest_of r held p.right) ≡ None
      none (inl k) = none_left (rest_of l held p.left) (rest_of r held p.right) (none_left_of l held p.left k)
      none (inr k) = none_right (rest_of l held p.left) (rest_of r held p.right) (none_left_of r held p.right k)
