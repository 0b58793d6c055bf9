-- What the reading of one file gives.
use Rattle.std.proofs.Common.{◌≡◌, ℕ, Bool, true, false, true≢false, List, ◌++◌, Option, Ok, Err, refl, sym, subst}
use Rattle.chk_site.specs.Files.{File}
use Rattle.chk_site.specs.History.{History}
use Rattle.chk_site.specs.Site.{Adds}
use Rattle.chk_site.specs.Runs.{anyhow, Leads}
use Rattle.chk_site.proofs.Runs.{adds_as}
use Rattle.chk_site.proofs.Leads.{leads_as, owned_anyhow}
use Rattle.chk_replace.specs.Load.{Has}
use Rattle.chk_chunk.specs.Keys.{chunk_limit}
use Rattle.chk_world.specs.Books.{End}
use Rattle.chk_world.specs.JobSteps.{SparesFile}
use Rattle.chk_record_index.specs.Faults.{FailsLast}
use Rattle.chk_record_index.specs.Heads.{Head, heads_in}
use Rattle.chk_record_index.specs.Pieces.{bytes_in}
use Rattle.chk_record_index.specs.ShownHeads.{ShowsHeads}
use Rattle.chk_record_index.specs.declared.fault.JobFault.{JobFault}
use Rattle.chk_demux_scan.specs.Backward.{AllRunBack, AreBegins}
use Rattle.chk_demux_scan.specs.Forward.{past_of, AreSpans, IsBroken, Looks, runs, breaks}
use Rattle.chk_demux_scan.specs.Looking.{LookedAt, ShowsLooked}
use Rattle.chk_demux_scan.specs.Newest.{ShowsTook, TookNext}
use Rattle.chk_demux_scan.specs.declared.forward.Span.{Span}
use Rattle.chk_demux_scan.specs.declared.looking.Look.{Look}

module _ (es : List End) (places : List ℕ) (seen old new : List Head) (spans : List Span) where
  looks_run : (b : Bool) → b ≡ false → Looks es places seen old new spans b
      → AreSpans es seen spans × (new ≡ old ++ past_of es places seen)
  looks_run false is (runs are at) = (are, at)
  looks_run true wrong looks = absurd (true≢false wrong)

  looks_broken : (b : Bool) → b ≡ true → Looks es places seen old new spans b → IsBroken es seen
  looks_broken true is (breaks broken) = broken
  looks_broken false wrong looks = absurd (true≢false (sym wrong))

module _ (es : List End) (places : List ℕ) (name : List ℕ) (number : ℕ) (old new : List Head)
    (look : Look) (n : ℕ) (at : n ≡ number) where
  -- the spans stand in front of the later ones
  abbrev pub Joins : List Span → List ℕ → List ℕ → Type 0
  Joins spans before after = (seen later : List Head) → AreSpans es seen spans
      → AreBegins es later before → AreBegins es (seen ++ later) after

  -- they don't
  abbrev pub Misses : List Span → List ℕ → Type 0
  Misses spans before = (front seen later : List Head) → AreSpans es seen spans
      → AreBegins es later before → AllRunBack es (front ++ (seen ++ later)) → ⊥

  abbrev pub Looked : Option File → Option History → Option History → Bool → Type 0
  Looked f first last all = Adds first last (Leads (anyhow (SparesFile name)) (Has name f)
      (LookedAt es places name f n old new look (Ok all)))

  abbrev pub Took : Option File → List ℕ → List ℕ → Option History → Option History → Bool
      → Type 0
  Took f before after first last b = Adds first last (Leads (anyhow (SparesFile name)) (Has name f)
      (TookNext es places name f number old new before after (Ok b)))

  module _ (f : Option File) (before after : List ℕ) {first last : Option History} where
    pub next_none : (all : Bool) → all ≡ false → Looked f first last all
        → Took f before after first last false
    next_none true wrong told = absurd (true≢false wrong)
    next_none false is told = leads_as (λ h x. x) (λ h x front later are chunks all. x chunks) told

    pub next_broken : (all : Bool) → all ≡ true → look.broken ≡ true → Looked f first last all
        → Took f before after first last false
    next_broken false wrong off told = absurd (true≢false (sym wrong))
    next_broken true is off told =
        leads_as (λ h x. x)
        (λ h x front later are chunks all.
        looks_broken es places (heads_in chunk_limit n (bytes_in f)) old new look.spans.items
        look.broken off x.2 front later
        (subst (λ m. AllRunBack es (front ++ (heads_in chunk_limit m (bytes_in f) ++ later)))
        (sym at) all)) told

    pub next_all : (all : Bool) → all ≡ true → look.broken ≡ false → (b : Bool)
        → (spans : List Span) → spans ≡ look.spans.items
        → (b ≡ true → Joins spans before after) → (b ≡ false → Misses spans before)
        → Looked f first last all
        → Took f before after first last b
    next_all false wrong on b spans same joined missed told = absurd (true≢false (sym wrong))
    next_all true is on true spans same joined missed told =
        leads_as (λ h x. x)
        (λ h x.
        let l = looks_run es places (heads_in chunk_limit n (bytes_in f)) old new look.spans.items
        look.broken on x.2 in (
          x.0,
          x.1,
          subst (λ m. new ≡ old ++ past_of es places (heads_in chunk_limit m (bytes_in f))) at l.1,
          λ later are.
              subst (λ m. AreBegins es (heads_in chunk_limit m (bytes_in f) ++ later) after) at
              (joined refl (heads_in chunk_limit n (bytes_in f)) later
              (subst (AreSpans es (heads_in chunk_limit n (bytes_in f))) (sym same) l.0) are),
        )) told
    next_all true is on false spans same joined missed told =
        leads_as (λ h x. x)
        (λ h x front later are chunks all.
        let l = looks_run es places (heads_in chunk_limit n (bytes_in f)) old new look.spans.items
        look.broken on x.2 in
        missed refl front (heads_in chunk_limit n (bytes_in f)) later
        (subst (AreSpans es (heads_in chunk_limit n (bytes_in f))) (sym same) l.0) are
        (subst (λ m. AllRunBack es (front ++ (heads_in chunk_limit m (bytes_in f) ++ later)))
        (sym at) all)) told

  -- ---- what own reads show of it

  module _ (before after : List ℕ) {first last : Option History} where
    pub shows_all : (all : Bool) → all ≡ true → look.broken ≡ false → (b : Bool)
        → (spans : List Span) → spans ≡ look.spans.items → (b ≡ true → Joins spans before after)
        → Adds first last (ShowsLooked es places name n old new look (Ok all))
        → Adds first last (ShowsTook es places name number old new before after (Ok b))
    shows_all false wrong on b spans same joined told = absurd (true≢false (sym wrong))
    shows_all true is on true spans same joined told =
        adds_as (ShowsTook es places name number old new before after (Ok true)) told
        (λ added history (own, looks, shows).
        let l = looks_run es places own old new look.spans.items look.broken on looks in (
          own,
          l.1,
          λ later are. joined refl own later (subst (AreSpans es own) (sym same) l.0) are,
          subst (λ m. ShowsHeads chunk_limit m name own added history) at shows,
        ))
    shows_all true is on false spans same joined told =
        adds_as (ShowsTook es places name number old new before after (Ok false)) told
        (λ added history x. tt)

-- ---- where nothing is said

module _ (es : List End) (places : List ℕ) (name : List ℕ) (number : ℕ) (old new : List Head)
    (before after : List ℕ) {P : History → History → Type 0} {first last : Option History} where
  pub next_failed : (f : Option File) (fault : JobFault) → Adds first last P
      → Adds first last (Leads (anyhow (SparesFile name)) (Has name f)
      (TookNext es places name f number old new before after (Err fault)))
  next_failed f fault told =
      adds_as (Leads (anyhow (SparesFile name)) (Has name f)
      (TookNext es places name f number old new before after (Err fault))) told
      (λ added history p. record { leads = λ s h. tt; own = owned_anyhow added history })

  pub shows_nothing : Adds first last P
      → Adds first last (ShowsTook es places name number old new before after (Ok false))
  shows_nothing told =
      adds_as (ShowsTook es places name number old new before after (Ok false)) told
      (λ added history x. tt)

  pub shows_failed : (fault : JobFault) → Adds first last P
      → Adds first last (ShowsTook es places name number old new before after (Err fault))
  shows_failed fault told =
      adds_as (ShowsTook es places name number old new before after (Err fault)) told
      (λ added history x. tt)

-- no call failed
pub none_failed : {T : Type 0} {P : History → History → Type 0} (value : T)
    {first last : Option History} → Adds first last P
    → Adds first last (FailsLast {T = T} (Ok value))
none_failed {T = T} value told = adds_as (FailsLast {T = T} (Ok value)) told
    (λ added history x. tt)
