-- A whole segment that is written in turn, and the merge that it is.
use Rattle.std.proofs.Common.{◌≡◌, ℕ, Bool, true, false, List, [], ◌++◌, length, Option, Some, None, Ok, Err, Result, refl, sym, subst}
use Rattle.std.specs.Prelude.{IfErr}
use Rattle.std.proofs.lemmas.List.{append_cancel_right}
use Rattle.std.proofs.lemmas.Option.{same_Some}
use Rattle.chk_site.specs.Files.{Files}
use Rattle.chk_site.specs.History.{History, Every}
use Rattle.chk_site.specs.Site.{Adds}
use Rattle.chk_site.specs.Runs.{Side, anyhow, Leads}
use Rattle.chk_site.proofs.Runs.{adds_as}
use Rattle.chk_site.proofs.Leads.{leads_none, owned_anyhow}
use Rattle.chk_world.specs.Books.{Book, End}
use Rattle.chk_world.specs.JobSteps.{IsOf, WritesTo, SparesFile}
use Rattle.chk_record_index.specs.Heads.{Head}
use Rattle.chk_record_index.specs.Faults.{IsOfBegin}
use Rattle.chk_record_index.specs.Order.{in_head_order}
use Rattle.chk_record_index.specs.declared.fault.JobFault.{JobFault}
use Rattle.chk_record_index.specs.declared.fault.JobFault.TheVariants.{Outside, Damaged, Spent, NoMemory}
use Rattle.chk_book.specs.declared.book.Book.{Book as Struct}
use Rattle.chk_book.specs.declared.segmenter.Segmenter.{Segmenter}
use Rattle.chk_book.specs.Books.{book_view}
use Rattle.chk_book.specs.Folders.{segment_name, most_in}
use Rattle.chk_book.specs.Segmenting.{Writing, HoldsSegment, IsSegmentOf, all_bytes}
use Rattle.chk_book.specs.Causes.{SpentBook}
use Rattle.chk_book.specs.Written.{IsAt, HasEnded}
use Rattle.chk_book.proofs.Added.{leads_named, writes_named}
use Rattle.chk_record_reader.specs.Segments.{names_of, HasFiles, SparesFiles, AreSettled, heads_from}
use Rattle.chk_record_reader.specs.Merging.{SparesBoth, AreApart, bare_book, HasMerged}
use Rattle.chk_record_reader.proofs.AllRead.{adds_all}
use Rattle.chk_record_reader.proofs.MergedInto.{merged}
use Rattle.chk_record_reader.proofs.OnePass.{AreRising}
use Rattle.chk_record_reader.proofs.Writing.{others_as}
use Rattle.chk_archive_merge.specs.declared.cursor.Cursor.{Cursor}
use Rattle.chk_archive_merge.specs.Merges.{HasOpened, WroteAll, WroteInTurn, HasTried, tried}
use Rattle.chk_archive_merge.proofs.Beside.{write_beside}
use Rattle.chk_archive_merge.proofs.InTurn.{all_written}

-- the segment is spared too
pub spared_more : (names : List (List ℕ)) (segment : List ℕ) {A B : History → Type 0} {old new : Option History}
    → Adds old new (Leads (anyhow (SparesFiles names)) A B) → Adds old new (Leads (anyhow (SparesBoth names segment)) A B)
spared_more names segment {A = A} {B = B} told =
    adds_as (Leads (anyhow (SparesBoth names segment)) A B) told
    (λ added history x. record {
      leads = λ s h. x.leads (others_as {S = SparesBoth names segment} (λ before step b. b.0) added history s) h;
      own = owned_anyhow added history;
    })

-- the rest is written, and the book has the segment
pub finished : (names : List (List ℕ)) (held : Files) (es : List End) (folder : List ℕ) (next : ℕ) (s : Segmenter) (b : Book)
    {P : History → History → Type 0} {mid new : Option History} → AreRising es (length es) → AreSettled names held
    → AreApart names (segment_name folder next) → Adds mid new P
    → ((w : Writing) → IsAt s w
    → Adds mid new (Leads (anyhow (SparesFile (segment_name w.folder w.number))) (HoldsSegment w) (HasEnded w (bare_book next) b (Ok tt))))
    → ((w : Writing) → IsAt s w → Adds mid new (Every (IsOf (WritesTo (segment_name w.folder w.number)))))
    → Adds mid new
    (Leads (anyhow (SparesBoth names (segment_name folder next))) (WroteAll (most_in folder) names held es folder next s (Ok true))
    (WroteInTurn folder next names held es (Ok (Some b))))
finished names held es folder next s b rising settled apart some raw own =
    adds_all {X = (w : Writing) × IsAt s w × (w.folder ≡ folder) × (w.number ≡ next)}
    (Leads (anyhow (SparesBoth names (segment_name folder next))) (WroteAll (most_in folder) names held es folder next s (Ok true))
    (WroteInTurn folder next names held es (Ok (Some b)))) some
    (λ x.
    write_beside names held (segment_name folder next) settled apart
    (leads_named x.0 folder next x.2 x.3 (raw x.0 x.1)) (writes_named x.0 folder next x.2 x.3 (own x.0 x.1)))
    (λ added history p xs. record {
      leads = λ both a.
          let w = a.2 in
          let y = (xs (w, a.3, a.4, a.5)).leads both a.6.can in
          let all = all_written (most_in folder) names held es a.0 a.1 w history rising a.6 a.7 in (
            y.0,
            all.1,
            all.2,
            (
              y.0,
              (
                w,
                record {
                  folder_is = a.4;
                  number_is = a.5;
                  chunks_are = all.0;
                  form = subst (λ (x : List ℕ). IsSegmentOf (most_in x) (all_bytes w) w.chunks) a.4 a.3.sound;
                  finished = y.1.0;
                  book_is = y.1.1;
                },
              ),
            ),
          );
      own = owned_anyhow added history;
    })

-- ---- what was tried is a merge

-- a call that added nothing
here : {S : Side} {A B : History → Type 0} (h : History) → B h → Adds (Some h) (Some h) (Leads S A B)
here {S = S} {A = A} {B = B} h b = record {
  told = λ history e. ([], e, record { leads = λ s x. subst B (same_Some h history e) b; own = tt });
  untold = λ e. e;
}

not_here : {S : Side} {A B : History → Type 0} (h : History) → Adds (Some h) (Some h) (Leads S A B) → A h → B h
not_here {S = S} {A = A} {B = B} h told a =
    let x = told.told h refl in
    let none : x.0 ≡ [] = append_cancel_right x.0 [] h (sym (same_Some h (x.0 ++ h) x.1)) in
    let y : Leads S A B [] h = subst (λ l. Leads S A B l h) none x.2 in
    y.leads tt a

module _ (folder : List ℕ) (old : Book) (held : Files) where
  pub merged_tried : (new m : Book) → new.next ≡ m.next → new.segments ≡ m.segments → new.ends ≡ old.ends → new.aside ≡ old.aside
      → (h : History) → HasTried folder old held (Ok (Some m)) h → HasMerged folder old new held (Ok tt) h
  merged_tried new m next segments ends aside h (heads, sound, wrote) =
      not_here {S = anyhow (SparesBoth (names_of folder old) (segment_name folder old.next))} {A = HasFiles (names_of folder old) held} h
      (merged folder old held heads new m next segments ends aside
      (leads_none (Some h) (λ g files. (files, sound.1, sound.2, sound.3))) (here h wrote)) sound.0

  -- nothing was written that counts
  pub not_tried : (new : Book) (fault : JobFault) {P : History → History → Type 0} {A : History → Type 0} {before after : Option History}
      → new ≡ old → IsOfBegin fault → Adds before after P
      → Adds before after
      (Leads (anyhow (SparesBoth (names_of folder old) (segment_name folder old.next))) A (HasMerged folder old new held (Err fault)))
  not_tried new fault {A = A} same only told =
      adds_as (Leads (anyhow (SparesBoth (names_of folder old) (segment_name folder old.next))) A (HasMerged folder old new held (Err fault))) told
      (λ added history p. record { leads = λ s a. said fault only (added ++ history); own = owned_anyhow added history })
    where
      said : (fault : JobFault) → IsOfBegin fault → (h : History) → HasMerged folder old new held (Err fault) h
      said (Outside call) of h = same
      said (Damaged name at) of h = absurd of
      said (Spent n) of h = same
      said NoMemory of h = same

  -- what was written in turn is what was tried
  pub tried_as : (names : List (List ℕ)) (es : List End) → names ≡ names_of folder old → es ≡ old.ends → (r : Result (Option Struct) JobFault) (h : History)
      → WroteInTurn folder old.next names held es (tried r) h → HasTried folder old held (tried r) h
  tried_as names es are same (Ok (Some m)) h x =
      let heads : List Head = in_head_order (heads_from (most_in folder) held 0 (names_of folder old)) in
      let y = subst (λ l. WroteInTurn folder old.next l held old.ends (Ok (Some (book_view m))) h) are
      (subst (λ l. WroteInTurn folder old.next names held l (Ok (Some (book_view m))) h) same x) in
      (heads, (y.0, y.1, y.2, refl), y.3)
  tried_as names es are same (Ok None) h x = subst (λ l. HasFiles l held h) are x
  tried_as names es are same (Err fault) h x = tt

-- whether or not all could be begun, the files are still these
pub opened_has : (most : ℕ) (names : List (List ℕ)) (held : Files) (cs : List Cursor) (b : Bool) (h : History)
    → HasOpened most names held cs (Ok b) h → HasFiles names held h
opened_has most names held cs true h x = x.0
opened_has most names held cs false h x = x

-- of a number alone
pub spent_bare : {T : Type 0} (b : Book) (r : Result T JobFault) → IfErr r (λ fault. SpentBook {T = Unit {0}} (bare_book b.next) (Err fault))
    → IfErr r (λ fault. SpentBook {T = Unit {0}} b (Err fault))
spent_bare b (Ok value) spent = tt
spent_bare b (Err (Outside call)) spent = spent
spent_bare b (Err (Damaged name at)) spent = spent
spent_bare b (Err (Spent n)) spent = spent
spent_bare b (Err NoMemory) spent = tt
