-- The chosen records are written, where there are any.
use Rattle.std.proofs.Common.{◌≡◌, inl, inr, ℕ, ◌+◌, List, [], ◌∷◌, ◌++◌, length, Option, Ok, Err}
use Rattle.std.proofs.Common.{Result, refl, ap, sym, subst, ◌∙◌}
use Rattle.std.specs.Prelude.{flat_map}
use Rattle.std.proofs.lemmas.Option.{same_Some}
use Rattle.chk_site.specs.Files.{File, Files}
use Rattle.chk_site.specs.History.{History, Others, files_after}
use Rattle.chk_site.specs.Site.{Adds}
use Rattle.chk_site.specs.Runs.{anyhow, Leads}
use Rattle.chk_site.proofs.Runs.{adds_both}
use Rattle.chk_site.proofs.Leads.{leads_as, owned_anyhow}
use Rattle.chk_chunk.specs.Keys.{Chunk, chunk_limit}
use Rattle.chk_world.specs.Books.{End, Book, chunks_within}
use Rattle.chk_world.specs.JobSteps.{SparesFile}
use Rattle.chk_record_index.specs.declared.fault.JobFault.{JobFault}
use Rattle.chk_record_index.specs.declared.fault.JobFault.TheVariants.{Outside, Damaged, Spent, NoMemory}
use Rattle.chk_book.specs.Folders.{segment_name}
use Rattle.chk_book.specs.Segmenting.{Writing, all_bytes}
use Rattle.chk_record_reader.specs.Segments.{HasFiles}
use Rattle.chk_record_reader.specs.Merging.{SparesBoth}
use Rattle.chk_archive_parts.proofs.OneSegment.{has_some}
use Rattle.chk_join_sources.specs.declared.gathering.Side.{Side}
use Rattle.chk_join_sources.specs.declared.plan.Choice.{Choice}
use Rattle.chk_join_sources.specs.Copying.{joined_segment, IsChosenSegment, WroteChosen}
use Rattle.chk_join_sources.specs.Standing.{chosen_heads, WroteCopies}
use Rattle.chk_book.specs.Causes.{SpentBook}
use Rattle.chk_record_reader.specs.Merging.{bare_book}
use Rattle.chk_join.specs.Runs.{AreRuns, ChosenRun, IsWritten, IsAlone}
use Rattle.chk_join.specs.Preparing.{SpentPlan, WrotePlan, StoodPlan}
use Rattle.chk_join.proofs.RunFacts.{runs_of_copies}

-- ---- whether there is a stream

pub none_chosen : (l r : Side) (es : List End) (cs : List Choice) → ChosenRun l r es cs → cs ≡ [] → es ≡ []
none_chosen l r [] cs run none = refl
none_chosen l r (e ∷ es) cs run none = absurd (subst (ChosenRun l r (e ∷ es)) none run)

pub some_chosen : (l r : Side) (es : List End) (cs : List Choice) → ChosenRun l r es cs → (cs ≡ [] → ⊥) → es ≡ [] → ⊥
some_chosen l r es [] run some none = some refl
some_chosen l r es (c ∷ cs) run some none = subst (λ (x : List End). ChosenRun l r x (c ∷ cs)) none run

-- ---- a segment that is written

module _ (next : ℕ) (b : Book) (h : History) where
  pub is_written : (chunks : List Chunk) (w : Writing) → IsChosenSegment next chunks b w h → IsWritten next chunks w h
  is_written chunks w is = record {
    folder_is = is.folder_is;
    number_is = is.number_is;
    chunks_are = is.chunks_are;
    form = is.form;
    finished = is.finished;
  }

  pub is_alone : (es : List End) (chunks : List Chunk) (w : Writing) → (es ≡ [] → ⊥) → IsChosenSegment next chunks b w h
      → IsAlone next es b chunks h
  is_alone es chunks w some is = (
    ap (λ (x : Book). x.aside) is.book_is,
    inr (
      some,
      (
        w,
        (
          ap (λ (x : Book). x.segments) is.book_is,
          (ap (λ (x : Book). x.next) is.book_is ∙ ap (λ n. n + 1) is.number_is, is_written chunks w is),
        ),
      ),
    ),
  )

  -- by the file both segments have the same chunks
  pub same_chunks : (xs ys : List Chunk) (v w : Writing) → IsChosenSegment next xs b v h → IsChosenSegment next ys b w h
      → ys ≡ xs
  same_chunks xs ys v w x y =
      let name : segment_name w.folder w.number ≡ segment_name v.folder v.number =
      ap (λ f. segment_name f w.number) (y.folder_is ∙ sym x.folder_is)
      ∙ ap (segment_name v.folder) (y.number_is ∙ sym x.number_is) in
      let f = has_some (files_after h (segment_name v.folder v.number))
      (λ f. (f.bytes ≡ all_bytes v) × (f.synced ≡ length (all_bytes v))) x.finished in
      let g = has_some (files_after h (segment_name w.folder w.number))
      (λ f. (f.bytes ≡ all_bytes w) × (f.synced ≡ length (all_bytes w))) y.finished in
      let same : f.0 ≡ g.0 = same_Some f.0 g.0 (sym f.1 ∙ (sym (ap (files_after h) name) ∙ g.1)) in
      let bytes : all_bytes v ≡ all_bytes w = sym f.2.0 ∙ (ap (λ (k : File). k.bytes) same ∙ g.2.0) in
      sym y.chunks_are
      ∙ (sym y.form.are ∙ (ap (chunks_within chunk_limit) (sym bytes) ∙ (x.form.are ∙ x.chunks_are)))

-- ---- by the answer

module _ (all : List (List ℕ)) (held : Files) (next : ℕ) (l r : Side) (es : List End) (cs : List Choice)
    (chunks : List Chunk) (run : ChosenRun l r es cs) (some : cs ≡ [] → ⊥) where
  wrote : (result : Result Book JobFault) (h : History) → WroteChosen all held next chunks result h
      → WroteCopies next (flat_map (chosen_heads l r) cs) result h → WrotePlan next chunks es result h
  wrote (Ok b) h x y = (
    is_alone next b h es chunks x.1.0 (some_chosen l r es cs run some) x.1.1,
    subst (AreRuns es) (same_chunks next b h chunks y.0 x.1.0 y.2.0 x.1.1 y.2.1) (runs_of_copies l r es cs y.0 run y.1),
  )
  wrote (Err (Damaged name at)) h x y = x
  wrote (Err (Outside call)) h x y = tt
  wrote (Err (Spent n)) h x y = tt
  wrote (Err NoMemory) h x y = tt

  stood : (result : Result Book JobFault) (h : History) → WroteCopies next (flat_map (chosen_heads l r) cs) result h
      → StoodPlan next es result h
  stood (Ok b) h y =
      (y.0, (runs_of_copies l r es cs y.0 run y.1, is_alone next b h es y.0 y.2.0 (some_chosen l r es cs run some) y.2.1))
  stood (Err fault) h y = tt

  of_segment : (added history : History) → Others (SparesBoth all (joined_segment next)) added history
      → Others (SparesFile (joined_segment next)) added history
  of_segment [] history s = tt
  of_segment (step ∷ added) history s = (of_segment added history s.0, λ theirs. (s.1 theirs).1)

  pub wrote_plan : (result : Result Book JobFault) {old new : Option History}
      → Adds old new (Leads (anyhow (SparesBoth all (joined_segment next))) (HasFiles all held)
      (WroteChosen all held next chunks result))
      → Adds old new (Leads (anyhow (SparesFile (joined_segment next))) (λ h. Unit {0})
      (WroteCopies next (flat_map (chosen_heads l r) cs) result))
      → Adds old new (Leads (anyhow (SparesBoth all (joined_segment next))) (HasFiles all held) (WrotePlan next chunks es result))
  wrote_plan result raw stands =
      adds_both (Leads (anyhow (SparesBoth all (joined_segment next))) (HasFiles all held) (WrotePlan next chunks es result))
      raw stands
      (λ added history x y. record {
        leads = λ others had.
            wrote result (added ++ history) (x.leads others had) (y.leads (of_segment added history others) tt);
        own = owned_anyhow added history;
      })

  pub stood_plan : (result : Result Book JobFault) {old new : Option History}
      → Adds old new (Leads (anyhow (SparesFile (joined_segment next))) (λ h. Unit {0})
      (WroteCopies next (flat_map (chosen_heads l r) cs) result))
      → Adds old new (Leads (anyhow (SparesFile (joined_segment next))) (λ h. Unit {0}) (StoodPlan next es result))
  stood_plan result stands = leads_as (λ h x. x) (λ h x. stood result h x) stands

-- nothing is written where there is no stream
pub none_alone : (next : ℕ) (es : List End) (b : Book) (chunks : List Chunk) (h : History) → es ≡ [] → b ≡ bare_book next
    → chunks ≡ [] → IsAlone next es b chunks h
none_alone next es b chunks h none bare empty = (
  ap (λ (x : Book). x.aside) bare,
  inl (none, (ap (λ (x : Book). x.segments) bare, (empty, ap (λ (x : Book). x.next) bare))),
)

-- the number
pub spent_plan : {T : Type 0} (next : ℕ) (es : List End) (result : Result T JobFault) → (es ≡ [] → ⊥)
    → SpentBook (bare_book next) result → SpentPlan next es result
spent_plan next es (Ok value) some spent = λ last. absurd (spent last)
spent_plan next es (Err (Outside call)) some spent = λ last. absurd (spent last)
spent_plan next es (Err (Damaged name at)) some spent = λ last. absurd (spent last)
spent_plan next es (Err (Spent n)) some spent = (spent.0, (spent.1, some))
spent_plan next es (Err NoMemory) some spent = tt
