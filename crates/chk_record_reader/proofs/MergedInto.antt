-- What the merged segment has of each stream, and what the book is then.
use Rattle.std.proofs.Common.{◌≡◌, ℕ, ◌+◌, ◌-◌, ◌^◌, Bool, true, false, List, [], ◌∷◌, ◌++◌, map, length, Option, None, Some, Ok, Err, refl, sym, ◌∙◌, ap, subst, if◌then◌else◌}
use Rattle.std.specs.Prelude.{filter}
use Rattle.std.proofs.lemmas.Option.{none-some}
use Rattle.chk_site.specs.Files.{File, Files}
use Rattle.chk_site.specs.History.{History, files_after}
use Rattle.chk_site.specs.Site.{Adds}
use Rattle.chk_site.specs.Runs.{anyhow, Leads}
use Rattle.chk_site.proofs.Runs.{adds_as}
use Rattle.chk_site.proofs.Leads.{leads_as, leads_then, owned_anyhow}
use Rattle.chk_chunk.specs.Keys.{Stream}
use Rattle.chk_world.specs.Books.{Book, End, AllChunks, Segment, chunks_within, chunks_of_stream}
use Rattle.chk_world.specs.Committed.{HasFile}
use Rattle.chk_world.proofs.Each.{Each}
use Rattle.chk_record_index.specs.Faults.{IsOfRead}
use Rattle.chk_record_index.specs.Heads.{Head, heads_in}
use Rattle.chk_record_index.specs.Order.{head_before, in_head_order}
use Rattle.chk_record_index.specs.Pieces.{bytes_in}
use Rattle.chk_record_index.specs.declared.fault.JobFault.{JobFault}
use Rattle.chk_record_index.specs.declared.fault.JobFault.TheVariants.{Outside, Damaged, Spent, NoMemory}
use Rattle.chk_book.specs.Causes.{SpentBook}
use Rattle.chk_book.specs.Folders.{segment_name, most_in}
use Rattle.chk_book.specs.Segmenting.{Writing, all_bytes}
use Rattle.chk_record_reader.specs.Segments.{names_of, HasFiles, SparesFiles, heads_from, chunks_in_files, IsSound}
use Rattle.chk_record_reader.specs.Courses.{is_head_of, end_of, first_head, break_by}
use Rattle.chk_record_reader.specs.Checking.{GoesWell, AllGoWell}
use Rattle.chk_record_reader.specs.Archives.{IsKnown, chunk_in}
use Rattle.chk_record_reader.specs.Merging.{SoundHeads, MergedInto, SparesBoth, CanBegin, IsMergedSegment, WroteMerged, HasMerged}
use Rattle.chk_record_reader.proofs.Records.{heads_have_bytes}
use Rattle.chk_record_reader.proofs.AllRead.{known_from}
use Rattle.chk_world.proofs.BooksTrue.{each_append}
use Rattle.chk_record_reader.proofs.Joining.{chunks_from}
use Rattle.chk_record_reader.proofs.SortedStream.{Rises, each_sort, sorted_keeps}
use Rattle.chk_record_reader.proofs.SortedRuns.{HasBytes, order_keeps}
use Rattle.chk_record_reader.proofs.Writing.{others_as}

pub bytes_from : (most : ℕ) (held : Files) (number : ℕ) (ws : List (List ℕ)) → Each HasBytes (heads_from most held number ws)
bytes_from most held number [] = tt
bytes_from most held number (w ∷ ws) =
    each_append HasBytes (heads_in most number (bytes_in (held w))) (heads_from most held (number + 1) ws) (heads_have_bytes most number (bytes_in (held w)))
    (bytes_from most held (number + 1) ws)

-- where there is no head of the stream
pub none_rises : (s : Stream) (hs : List Head) → first_head s hs ≡ None → Rises head_before (is_head_of s) hs
none_rises s [] none = tt
none_rises s (h ∷ hs) none = go (is_head_of s h) refl (λ f. none_rises s hs f) none
  where
    go : (b : Bool) → is_head_of s h ≡ b → (first_head s hs ≡ None → Rises head_before (is_head_of s) hs)
        → (if b then Some h else first_head s hs) ≡ None → Rises head_before (is_head_of s) (h ∷ hs)
    go true is rest f = absurd (none-some h (sym f))
    go false is rest f = ((λ mine. absurd (let e : true ≡ false = sym mine ∙ is in let z : ⊥ = cc in z)), rest f)

order_same : (s : Stream) (es : List End) (hs : List Head) → Each HasBytes hs → GoesWell es hs s
    → filter (is_head_of s) (in_head_order hs) ≡ filter (is_head_of s) hs
order_same s es hs some well = go (end_of s es) well.0
  where
    go : (o : Option End) → break_by s o hs ≡ None → filter (is_head_of s) (in_head_order hs) ≡ filter (is_head_of s) hs
    go None fine = sorted_keeps head_before (is_head_of s) hs (none_rises s hs fine)
    go (Some e) fine = order_keeps s e e.start hs some fine

chunks_of : (s : Stream) (names : List (List ℕ)) (held : Files) (hs : List Head)
    → chunks_of_stream s (map (chunk_in names held) hs) ≡ map (chunk_in names held) (filter (is_head_of s) hs)
chunks_of s names held [] = refl
chunks_of s names held (h ∷ hs) = go (is_head_of s h) (chunks_of s names held hs)
  where
    go : (b : Bool) → chunks_of_stream s (map (chunk_in names held) hs) ≡ map (chunk_in names held) (filter (is_head_of s) hs)
        → (if b then chunk_in names held h ∷ chunks_of_stream s (map (chunk_in names held) hs) else chunks_of_stream s (map (chunk_in names held) hs))
        ≡ map (chunk_in names held) (if b then h ∷ filter (is_head_of s) hs else filter (is_head_of s) hs)
    go true rest = ap (λ l. chunk_in names held h ∷ l) rest
    go false rest = rest

module _ (folder : List ℕ) (old : Book) (held : Files) where
  stream_same : (s : Stream) → AllGoWell old.ends (heads_from (most_in folder) held 0 (names_of folder old))
      → chunks_of_stream s (map (chunk_in (names_of folder old) held) (in_head_order (heads_from (most_in folder) held 0 (names_of folder old))))
      ≡ chunks_of_stream s (chunks_in_files (most_in folder) held (names_of folder old))
  stream_same s well =
      let names = names_of folder old in
      let all = heads_from (most_in folder) held 0 (names_of folder old) in
      chunks_of s names held (in_head_order all)
      ∙ (ap (map (chunk_in names held)) (order_same s old.ends all (bytes_from (most_in folder) held 0 names) (well s))
      ∙ (sym (chunks_of s names held all) ∙ ap (chunks_of_stream s) (chunks_from (most_in folder) names held 0 [] names refl refl)))

  -- the heads may be read
  can_begin : (heads : List Head) (history : History) → SoundHeads folder old held (Ok heads) history
      → CanBegin (most_in folder) (names_of folder old) held heads history
  can_begin heads history sound = (
    sound.0,
    subst (Each (IsKnown (most_in folder) (names_of folder old) held)) (sym sound.3)
        (each_sort (IsKnown (most_in folder) (names_of folder old) held) head_before (heads_from (most_in folder) held 0 (names_of folder old))
        (known_from (most_in folder) (names_of folder old) held 0 [] (names_of folder old) refl refl)),
  )

  into : (heads : List Head) (new m : Book) (w : Writing) (history : History) → Each (IsSound (most_in folder) held) (names_of folder old)
      → AllGoWell old.ends (heads_from (most_in folder) held 0 (names_of folder old))
      → heads ≡ in_head_order (heads_from (most_in folder) held 0 (names_of folder old))
      → new.next ≡ m.next → new.segments ≡ m.segments → new.ends ≡ old.ends → new.aside ≡ old.aside
      → IsMergedSegment folder old.next (names_of folder old) held heads m w history → MergedInto folder old new held history
  into heads new m w history whole well are next segments ends aside is =
      go (files_after history (segment_name w.folder w.number)) refl is.finished
    where
      name : segment_name w.folder w.number ≡ segment_name folder old.next
      name = ap (λ x. segment_name x w.number) is.folder_is ∙ ap (segment_name folder) is.number_is

      chunks : (f : File) → f.bytes ≡ all_bytes w → chunks_within (most_in folder) f.bytes
          ≡ map (chunk_in (names_of folder old) held) (in_head_order (heads_from (most_in folder) held 0 (names_of folder old)))
      chunks f same =
          ap (chunks_within (most_in folder)) same ∙ (is.form.are ∙ (is.chunks_are ∙ ap (map (chunk_in (names_of folder old) held)) are))

      go : (o : Option File) → files_after history (segment_name w.folder w.number) ≡ o
          → HasFile o (λ f. (f.bytes ≡ all_bytes w) × (f.synced ≡ length (all_bytes w))) → MergedInto folder old new held history
      go None e has = absurd has
      go (Some f) e has = record {
        f = f;
        there = ap (files_after history) (sym name) ∙ e;
        synced = has.1 ∙ ap length (sym has.0);
        sound = subst (AllChunks (most_in folder)) (sym has.0) is.form.form;
        same = λ s. ap (chunks_of_stream s) (chunks f has.0) ∙ stream_same s well;
        in_turn = chunks f has.0;
        whole = whole;
        well = well;
        next = next ∙ (ap (λ (b : Book). b.next) is.book_is ∙ ap (λ n. n + 1) is.number_is);
        alone = segments ∙ (ap (λ (b : Book). b.segments) is.book_is
            ∙ (ap (λ n. (let g : Segment = record { number = n; length = length (all_bytes w) } in g) ∷ []) is.number_is
            ∙ ap (λ n. (let g : Segment = record { number = old.next; length = n } in g) ∷ []) (ap length (sym has.0))));
        ends = ends;
        aside = aside;
      }

  weaker : {A B : History → Type 0} {before after : Option History} → Adds before after (Leads (anyhow (SparesFiles (names_of folder old))) A B)
      → Adds before after (Leads (anyhow (SparesBoth (names_of folder old) (segment_name folder old.next))) A B)
  weaker {A = A} {B = B} told =
      adds_as (Leads (anyhow (SparesBoth (names_of folder old) (segment_name folder old.next))) A B) told
      (λ added history x. record {
        leads = λ s h. x.leads (others_as {S = SparesBoth (names_of folder old) (segment_name folder old.next)} (λ before step b. b.0) added history s) h;
        own = owned_anyhow added history;
      })

  pub merged : (heads : List Head) (new m : Book) {before mid after : Option History} → new.next ≡ m.next → new.segments ≡ m.segments → new.ends ≡ old.ends
      → new.aside ≡ old.aside
      → Adds before mid (Leads (anyhow (SparesFiles (names_of folder old))) (HasFiles (names_of folder old) held) (SoundHeads folder old held (Ok heads)))
      → Adds mid after
      (Leads (anyhow (SparesBoth (names_of folder old) (segment_name folder old.next))) (CanBegin (most_in folder) (names_of folder old) held heads)
      (WroteMerged folder old.next (names_of folder old) held heads (Ok m)))
      → Adds before after
      (Leads (anyhow (SparesBoth (names_of folder old) (segment_name folder old.next))) (HasFiles (names_of folder old) held)
      (HasMerged folder old new held (Ok tt)))
  merged heads new m next segments ends aside so_far told =
      leads_then (weaker so_far)
      (adds_as
      (Leads (anyhow (SparesBoth (names_of folder old) (segment_name folder old.next))) (SoundHeads folder old held (Ok heads))
      (HasMerged folder old new held (Ok tt))) told
      (λ added history x. record {
        leads = λ s h.
            let y = x.leads s (can_begin heads history h) in
            (y.0, into heads new m y.1.0 (added ++ history) h.1 h.2 h.3 next segments ends aside y.1.1);
        own = x.own;
      }))

  pub not_sound_merged : (new : Book) (fault : JobFault) {before after : Option History} → new ≡ old
      → Adds before after (Leads (anyhow (SparesFiles (names_of folder old))) (HasFiles (names_of folder old) held) (SoundHeads folder old held (Err fault)))
      → Adds before after
      (Leads (anyhow (SparesBoth (names_of folder old) (segment_name folder old.next))) (HasFiles (names_of folder old) held)
      (HasMerged folder old new held (Err fault)))
  not_sound_merged new fault same told = leads_as (λ h x. x) (λ h x. said fault h x) (weaker told)
    where
      said : (fault : JobFault) (history : History) → SoundHeads folder old held (Err fault) history → HasMerged folder old new held (Err fault) history
      said (Outside call) history x = same
      said (Damaged name at) history x = (same, x)
      said (Spent n) history x = same
      said NoMemory history x = same

  pub not_written_merged : (heads : List Head) (new : Book) (fault : JobFault) {before mid after : Option History} → new ≡ old
      → Adds before mid (Leads (anyhow (SparesFiles (names_of folder old))) (HasFiles (names_of folder old) held) (SoundHeads folder old held (Ok heads)))
      → Adds mid after
      (Leads (anyhow (SparesBoth (names_of folder old) (segment_name folder old.next))) (CanBegin (most_in folder) (names_of folder old) held heads)
      (WroteMerged folder old.next (names_of folder old) held heads (Err fault)))
      → Adds before after
      (Leads (anyhow (SparesBoth (names_of folder old) (segment_name folder old.next))) (HasFiles (names_of folder old) held)
      (HasMerged folder old new held (Err fault)))
  not_written_merged heads new fault same so_far told =
      leads_as (λ h x. x) (λ h x. said fault h x)
      (leads_then (weaker so_far)
      (leads_as (λ h x. can_begin heads h x) (λ h x. x) told))
    where
      said : (fault : JobFault) (history : History) → WroteMerged folder old.next (names_of folder old) held heads (Err fault) history
          → HasMerged folder old new held (Err fault) history
      said (Outside call) history x = same
      said (Damaged name at) history x = absurd x
      said (Spent n) history x = same
      said NoMemory history x = same

pub spent_read : (T : Type 0) (b : Book) (fault : JobFault) → IsOfRead fault → (b.next ≡ 2 ^ 63 - 1 → ⊥) → SpentBook {T = T} b (Err fault)
spent_read T b (Outside call) of other = other
spent_read T b (Damaged name at) of other = other
spent_read T b (Spent n) of other = absurd of
spent_read T b NoMemory of other = tt

pub spent_same : (T U : Type 0) (b d : Book) (fault : JobFault) → b.next ≡ d.next → SpentBook {T = T} b (Err fault) → SpentBook {T = U} d (Err fault)
spent_same T U b d (Outside call) same spent = λ e. spent (same ∙ e)
spent_same T U b d (Damaged name at) same spent = λ e. spent (same ∙ e)
spent_same T U b d (Spent n) same spent = (spent.0, sym same ∙ spent.1)
spent_same T U b d NoMemory same spent = tt
