-- Pair after pair is compared while all files stay.
use Rattle.std.proofs.Common.{◌≡◌, inl, inr, ℕ, List, [], ◌∷◌, Option, Some, None, Ok, Err, refl, sym, ◌∙◌, ap₂, subst, ◌+◌, ◌++◌}
use Rattle.std.specs.Prelude.{min, Result, IfOk, IfErr}
use Rattle.chk_site.specs.Files.{Files}
use Rattle.chk_site.specs.History.{Step, History}
use Rattle.chk_site.specs.Site.{Adds}
use Rattle.chk_site.specs.Runs.{anyhow, Leads}
use Rattle.chk_site.proofs.Runs.{adds_as}
use Rattle.chk_site.proofs.Leads.{leads_as, leads_none, leads_then, owned_anyhow}
use Rattle.chk_world.specs.Books.{End}
use Rattle.chk_world.proofs.Each.{Each}
use Rattle.chk_record_index.specs.declared.fault.JobFault.{JobFault}
use Rattle.chk_record_index.specs.declared.fault.JobFault.TheVariants.{Outside, Damaged, Spent, NoMemory}
use Rattle.chk_record_reader.specs.Segments.{HasFiles, SparesFiles}
use Rattle.chk_record_reader.proofs.AllRead.{adds_all}
use Rattle.chk_join_sources.specs.declared.gathering.Side.{Side}
use Rattle.chk_join_sources.specs.declared.comparing.Readers.{Readers}
use Rattle.chk_join_sources.specs.Differences.{first_difference}
use Rattle.chk_join_sources.specs.Comparing.{AreTrue, ComparedAll}
use Rattle.chk_join_sources.specs.declared.choosing.Chosen.TheVariants.{Agree, Differ}
use Rattle.chk_join_sources.specs.declared.difference.Difference.{Difference}
use Rattle.chk_join_sources.specs.declared.plan.Plan.{Plan}
use Rattle.chk_join_sources.specs.Pairs.{Pair, paired}
use Rattle.chk_join_sources.specs.Differing.{difference_at, difference_by, place_behind, bytes_of, DifferAt, FoundOf, PairAgrees, PairDiffers, FirstDiffers}
use Rattle.chk_join_sources.specs.Choosing.{ComparedPair, ComparedFirst, ComparedPairs}

-- ---- one stream that both have

module _ (all : List (List ℕ)) (l r : Side) (held : Files) (rs : Readers) (a b : End) (v w : List ℕ) where
  pub starts_differ : (at : ℕ) (now : Option History) → (a.start ≡ b.start → ⊥) → at ≡ min a.start b.start
      → Adds now now (Leads (anyhow (SparesFiles all)) (HasFiles all held) (FoundOf all l r held rs a b v w (Ok (Some at))))
  starts_differ at now differ is = leads_none now (λ history files. (files, inl (differ, is)))

  -- the starts are the same, and the bytes were compared
  pub found_place : (k at : ℕ) {old new : Option History} → a.start ≡ b.start → at ≡ a.start + k
      → Adds old new (Leads (anyhow (SparesFiles all)) (HasFiles all held) (ComparedAll all l r held rs v w (Ok (Some k))))
      → Adds old new (Leads (anyhow (SparesFiles all)) (HasFiles all held) (FoundOf all l r held rs a b v w (Ok (Some at))))
  found_place k at same is told = leads_as (λ history x. x) (λ history x. (x.0, inr (same, (k, sym x.2, is)))) told

  pub found_none : {old new : Option History} → a.start ≡ b.start
      → Adds old new (Leads (anyhow (SparesFiles all)) (HasFiles all held) (ComparedAll all l r held rs v w (Ok None)))
      → Adds old new (Leads (anyhow (SparesFiles all)) (HasFiles all held) (FoundOf all l r held rs a b v w (Ok None)))
  found_none same told = leads_as (λ history x. x) (λ history x. (x.0, (x.1, (same, sym x.2)))) told

  pub found_fault : (fault : JobFault) {old new : Option History}
      → Adds old new (Leads (anyhow (SparesFiles all)) (HasFiles all held) (ComparedAll all l r held rs v w (Err fault)))
      → Adds old new (Leads (anyhow (SparesFiles all)) (HasFiles all held) (FoundOf all l r held rs a b v w (Err fault)))
  found_fault fault told = leads_as (λ history x. x) (λ history x. said fault history x) told
    where
      said : (fault : JobFault) (history : History) → ComparedAll all l r held rs v w (Err fault) history
          → FoundOf all l r held rs a b v w (Err fault) history
      said (Outside call) history x = tt
      said (Damaged name at) history x = x
      said (Spent n) history x = tt
      said NoMemory history x = tt

  pub found_told : (same : Option ℕ) (result : Result (Option ℕ) JobFault) {old new : Option History} → a.start ≡ b.start
      → IfOk result (λ found. found ≡ place_behind a.start same) → IfErr result (λ fault. fault ≡ NoMemory)
      → Adds old new (Leads (anyhow (SparesFiles all)) (HasFiles all held) (ComparedAll all l r held rs v w (Ok same)))
      → Adds old new (Leads (anyhow (SparesFiles all)) (HasFiles all held) (FoundOf all l r held rs a b v w result))
  found_told None (Ok found) {old = old} {new = new} same is err told =
      subst (λ f. Adds old new (Leads (anyhow (SparesFiles all)) (HasFiles all held) (FoundOf all l r held rs a b v w (Ok f)))) (sym is)
      (found_none same told)
  found_told (Some k) (Ok found) {old = old} {new = new} same is err told =
      subst (λ f. Adds old new (Leads (anyhow (SparesFiles all)) (HasFiles all held) (FoundOf all l r held rs a b v w (Ok f)))) (sym is)
      (found_place k (a.start + k) same refl told)
  found_told found (Err fault) {old = old} {new = new} same is err told =
      subst (λ f. Adds old new (Leads (anyhow (SparesFiles all)) (HasFiles all held) (FoundOf all l r held rs a b v w (Err f)))) (sym err)
      (leads_as (λ history x. x) (λ history x. tt) told)

-- what was found of the blocks' bytes was found of the streams'
module _ (all : List (List ℕ)) (l r : Side) (held : Files) (rs : Readers) (a b : End) (v w : List ℕ)
    (first : v ≡ bytes_of l held a.stream) (second : w ≡ bytes_of r held b.stream) {old new : Option History} where
  pub pair_differs : (at : ℕ) (d : Difference) → d ≡ difference_at a.stream at
      → Adds old new (Leads (anyhow (SparesFiles all)) (HasFiles all held) (FoundOf all l r held rs a b v w (Ok (Some at))))
      → Adds old new (Leads (anyhow (SparesFiles all)) (HasFiles all held) (ComparedPair all l r held rs (paired a b) (Ok (Some d))))
  pair_differs at d is told =
      leads_as (λ history x. x)
      (λ history x. (
        x.0,
        subst (λ d. PairDiffers l r held (paired a b) d) (sym is) (
          refl,
          subst (λ v. DifferAt a.start b.start v (bytes_of r held b.stream) at) first
              (subst (λ w. DifferAt a.start b.start v w at) second x.1),
        ),
      )) told

  pub pair_agrees : Adds old new (Leads (anyhow (SparesFiles all)) (HasFiles all held) (FoundOf all l r held rs a b v w (Ok None)))
      → Adds old new (Leads (anyhow (SparesFiles all)) (HasFiles all held) (ComparedPair all l r held rs (paired a b) (Ok None)))
  pair_agrees told =
      leads_as (λ history x. x)
      (λ history x. (x.0, (x.1.0, (x.1.1.0, sym (ap₂ first_difference first second) ∙ x.1.1.1)))) told

  pub pair_fault : (fault : JobFault)
      → Adds old new (Leads (anyhow (SparesFiles all)) (HasFiles all held) (FoundOf all l r held rs a b v w (Err fault)))
      → Adds old new (Leads (anyhow (SparesFiles all)) (HasFiles all held) (ComparedPair all l r held rs (paired a b) (Err fault)))
  pair_fault fault told = leads_as (λ history x. x) (λ history x. said fault history x) told
    where
      said : (fault : JobFault) (history : History) → FoundOf all l r held rs a b v w (Err fault) history
          → ComparedPair all l r held rs (paired a b) (Err fault) history
      said (Outside call) history x = tt
      said (Damaged name at) history x = x
      said (Spent n) history x = tt
      said NoMemory history x = tt

  pub pair_told : (found : Option ℕ) (result : Result (Option Difference) JobFault)
      → IfOk result (λ d. d ≡ difference_by a.stream found) → IfErr result (λ fault. fault ≡ NoMemory)
      → Adds old new (Leads (anyhow (SparesFiles all)) (HasFiles all held) (FoundOf all l r held rs a b v w (Ok found)))
      → Adds old new (Leads (anyhow (SparesFiles all)) (HasFiles all held) (ComparedPair all l r held rs (paired a b) result))
  pair_told None (Ok d) is err told =
      subst (λ f. Adds old new (Leads (anyhow (SparesFiles all)) (HasFiles all held) (ComparedPair all l r held rs (paired a b) (Ok f)))) (sym is)
      (pair_agrees told)
  pair_told (Some at) (Ok d) is err told =
      subst (λ f. Adds old new (Leads (anyhow (SparesFiles all)) (HasFiles all held) (ComparedPair all l r held rs (paired a b) (Ok f)))) (sym is)
      (pair_differs at (difference_at a.stream at) refl told)
  pair_told found (Err fault) is err told =
      subst (λ f. Adds old new (Leads (anyhow (SparesFiles all)) (HasFiles all held) (ComparedPair all l r held rs (paired a b) (Err f))))
      (sym err) (leads_as (λ history x. x) (λ history x. tt) told)

-- the same of ends by other names
pub as_ends : (all : List (List ℕ)) (l r : Side) (held : Files) (rs : Readers) (a b c d : End) (result : _) {old new : Option History} → a ≡ c
    → b ≡ d → Adds old new (Leads (anyhow (SparesFiles all)) (HasFiles all held) (ComparedPair all l r held rs (paired a b) result))
    → Adds old new (Leads (anyhow (SparesFiles all)) (HasFiles all held) (ComparedPair all l r held rs (paired c d) result))
as_ends all l r held rs a b c d result {old = old} {new = new} e f told =
    subst (λ p. Adds old new (Leads (anyhow (SparesFiles all)) (HasFiles all held) (ComparedPair all l r held rs p result)))
    (ap₂ paired e f) told

-- without memory nothing is said of the pair
pub no_memory : (all : List (List ℕ)) (l r : Side) (held : Files) (rs : Readers) (p : Pair) {old new : Option History} {B : History → Type 0}
    → Adds old new (Leads (anyhow (SparesFiles all)) (HasFiles all held) B)
    → Adds old new (Leads (anyhow (SparesFiles all)) (HasFiles all held) (ComparedPair all l r held rs p (Err NoMemory)))
no_memory all l r held rs p told = leads_as (λ history x. x) (λ history x. tt) told

-- ---- the first pair of those that are left

pub first_compared : (all : List (List ℕ)) (l r : Side) (held : Files) (rs : Readers) (p : Pair) (ps rest : List Pair) (result : _)
    {old new : Option History} → ps ≡ p ∷ rest
    → Adds old new (Leads (anyhow (SparesFiles all)) (HasFiles all held) (ComparedPair all l r held rs p result))
    → Adds old new (Leads (anyhow (SparesFiles all)) (HasFiles all held) (ComparedFirst all l r held rs ps result))
first_compared all l r held rs p ps rest result are told =
    leads_as (λ history x. x) (λ history x. subst (λ l2. ComparedFirst all l r held rs l2 result history) (sym are) x) told

-- a stream of one side alone differs from none
pub alone_compared : (all : List (List ℕ)) (l r : Side) (held : Files) (rs : Readers) (p : Pair) (ps rest : List Pair)
    (result : Result (Option Difference) JobFault) → ps ≡ p ∷ rest → AreTrue l r held rs → PairAgrees l r held p
    → IfOk result (λ d. d ≡ None) → IfErr result (λ fault. fault ≡ NoMemory) → (now : Option History)
    → Adds now now (Leads (anyhow (SparesFiles all)) (HasFiles all held) (ComparedFirst all l r held rs ps result))
alone_compared all l r held rs p ps rest (Ok d) are true_ones agrees none err now =
    first_compared all l r held rs p ps rest (Ok d) are
    (subst (λ f. Adds now now (Leads (anyhow (SparesFiles all)) (HasFiles all held) (ComparedPair all l r held rs p (Ok f)))) (sym none)
    (leads_none now (λ history files. (files, (true_ones, agrees)))))
alone_compared all l r held rs p ps rest (Err fault) are true_ones agrees none err now =
    first_compared all l r held rs p ps rest (Err fault) are
    (subst (λ f. Adds now now (Leads (anyhow (SparesFiles all)) (HasFiles all held) (ComparedPair all l r held rs p (Err f)))) (sym err)
    (leads_none now (λ history files. tt)))

-- ---- all pairs

-- those that are left differ where all do, and all are alike where they are
pub record ComparedUpTo (all : List (List ℕ)) (l r : Side) (held : Files) (ps : List Pair) (rs : Readers) (rest : List Pair)
    (history : History) : Type 0 where
  pub files : HasFiles all held history
  pub true_ones : AreTrue l r held rs
  pub agree : Each (PairAgrees l r held) rest → Each (PairAgrees l r held) ps
  pub differ : (d : Difference) → FirstDiffers l r held rest d → FirstDiffers l r held ps d

-- what the pairs so far say beside what the next one is compared on
pub record Said (l r : Side) (held : Files) (ps rest : List Pair) : Type 0 where
  pub agree : Each (PairAgrees l r held) rest → Each (PairAgrees l r held) ps
  pub differ : (d : Difference) → FirstDiffers l r held rest d → FirstDiffers l r held ps d

module _ (all : List (List ℕ)) (l r : Side) (held : Files) (ps : List Pair) where
  abbrev SoFar : Readers → List Pair → History → Type 0
  SoFar rs rest history = ComparedUpTo all l r held ps rs rest history

  pub begun : (rs : Readers) → AreTrue l r held rs → (now : Option History)
      → Adds now now (Leads (anyhow (SparesFiles all)) (HasFiles all held) (ComparedUpTo all l r held ps rs ps))
  begun rs true_ones now =
      leads_none now (λ history files. record { files = files; true_ones = true_ones; agree = λ x. x; differ = λ d x. x })

  ready : (rs : Readers) (rest : List Pair) {old mid : Option History}
      → Adds old mid (Leads (anyhow (SparesFiles all)) (HasFiles all held) (SoFar rs rest))
      → Adds old mid (Leads (anyhow (SparesFiles all)) (HasFiles all held)
      (λ history. (HasFiles all held history × AreTrue l r held rs) × Said l r held ps rest))
  ready rs rest so_far = leads_as (λ history x. x) (λ history x. ((x.files, x.true_ones), record { agree = x.agree; differ = x.differ })) so_far

  pub one_more : (rs qs : Readers) (p : Pair) (left rest : List Pair) (found : Option Difference) → left ≡ p ∷ rest → found ≡ None
      → {old mid new : Option History} → Adds old mid (Leads (anyhow (SparesFiles all)) (HasFiles all held) (SoFar rs left))
      → Adds mid new (Leads (anyhow (SparesFiles all)) (λ history. HasFiles all held history × AreTrue l r held rs)
      (ComparedFirst all l r held qs left (Ok found)))
      → Adds old new (Leads (anyhow (SparesFiles all)) (HasFiles all held) (SoFar qs rest))
  one_more rs qs p left rest found are none {mid = mid} {new = new} so_far told =
      leads_then (ready rs left so_far)
      (adds_as (Leads (anyhow (SparesFiles all)) (λ history. (HasFiles all held history × AreTrue l r held rs) × Said l r held ps left) (SoFar qs rest))
      (subst (λ o. Adds mid new (Leads (anyhow (SparesFiles all)) (λ history. HasFiles all held history × AreTrue l r held rs)
      (ComparedFirst all l r held qs left (Ok o)))) none told)
      (λ added history x. record {
        leads = λ others had.
            let y = subst (λ ls. ComparedFirst all l r held qs ls (Ok None) (added ++ history)) are (x.leads others had.0) in
            record {
              files = y.0;
              true_ones = y.1.0;
              agree = λ each. had.1.agree (subst (Each (PairAgrees l r held)) (sym are) (y.1.1, each));
              differ = λ d one. had.1.differ d (subst (λ ls. FirstDiffers l r held ls d) (sym are) (inr (y.1.1, one)));
            };
        own = x.own;
      }))

  first_differs : (qs : Readers) (left : List Pair) (d : Difference) (history : History)
      → ComparedFirst all l r held qs left (Ok (Some d)) history → HasFiles all held history × FirstDiffers l r held left d
  first_differs qs [] d history x = absurd x
  first_differs qs (p ∷ rest) d history x = (x.0, inl x.1)

  pub one_differs : (rs qs : Readers) (left : List Pair) (found : Option Difference) (d : Difference) → found ≡ Some d
      → {old mid new : Option History} → Adds old mid (Leads (anyhow (SparesFiles all)) (HasFiles all held) (SoFar rs left))
      → Adds mid new (Leads (anyhow (SparesFiles all)) (λ history. HasFiles all held history × AreTrue l r held rs)
      (ComparedFirst all l r held qs left (Ok found)))
      → Adds old new (Leads (anyhow (SparesFiles all)) (HasFiles all held) (ComparedPairs all l r held ps (Ok (Differ d))))
  one_differs rs qs left found d some {mid = mid} {new = new} so_far told =
      leads_then (ready rs left so_far)
      (adds_as (Leads (anyhow (SparesFiles all)) (λ history. (HasFiles all held history × AreTrue l r held rs) × Said l r held ps left)
      (ComparedPairs all l r held ps (Ok (Differ d))))
      (subst (λ o. Adds mid new (Leads (anyhow (SparesFiles all)) (λ history. HasFiles all held history × AreTrue l r held rs)
      (ComparedFirst all l r held qs left (Ok o)))) some told)
      (λ added history x. record {
        leads = λ others had.
            let y = first_differs qs left d (added ++ history) (x.leads others had.0) in
            (y.0, had.1.differ d y.1);
        own = x.own;
      }))

  pub one_refused : (rs qs : Readers) (left : List Pair) (fault : JobFault) {old mid new : Option History}
      → Adds old mid (Leads (anyhow (SparesFiles all)) (HasFiles all held) (SoFar rs left))
      → Adds mid new (Leads (anyhow (SparesFiles all)) (λ history. HasFiles all held history × AreTrue l r held rs)
      (ComparedFirst all l r held qs left (Err fault)))
      → Adds old new (Leads (anyhow (SparesFiles all)) (HasFiles all held) (ComparedPairs all l r held ps (Err fault)))
  one_refused rs qs left fault so_far told =
      leads_as (λ history x. x) (λ history x. said left fault history x)
      (leads_then (leads_as (λ history x. x) (λ history x. x.0) (ready rs left so_far)) told)
    where
      said : (left : List Pair) (fault : JobFault) (history : History) → ComparedFirst all l r held qs left (Err fault) history
          → ComparedPairs all l r held ps (Err fault) history
      said [] fault history x = absurd x
      said (p ∷ rest) (Outside call) history x = tt
      said (p ∷ rest) (Damaged name at) history x = x
      said (p ∷ rest) (Spent n) history x = tt
      said (p ∷ rest) NoMemory history x = tt

  pub all_agree : (rs : Readers) (plan : Plan) {old new : Option History}
      → Adds old new (Leads (anyhow (SparesFiles all)) (HasFiles all held) (SoFar rs []))
      → Adds old new (Leads (anyhow (SparesFiles all)) (HasFiles all held) (ComparedPairs all l r held ps (Ok (Agree plan))))
  all_agree rs plan so_far = leads_as (λ history x. x) (λ history x. (x.files, x.agree tt)) so_far
