-- A book's segments, followed one after the other.
use Rattle.std.proofs.Common.{◌≡◌, ℕ, ◌+◌, ◌<◌, ◌^◌, List, [], ◌∷◌, ◌++◌, length, map, take, drop, Option, Some, None, Ok, Err, refl, sym, ap, ap₂, subst, ◌∙◌, append_assoc, append-nil}
use Rattle.chk_site.specs.Files.{File, Files}
use Rattle.chk_site.specs.History.{History, files_after}
use Rattle.chk_site.specs.Site.{Adds}
use Rattle.chk_site.proofs.Runs.{adds_none}
use Rattle.chk_salvage.proofs.FeedLemmas.{records_of-nil}
use Rattle.std.specs.Prelude.{filter_map, slice_index_or}
use Rattle.std.proofs.lemmas.List.{take-append-drop, take_more, drop_more, get_or_default}
use Rattle.chk_world.specs.Books.{AllChunks, chunk_of, chunks_within}
use Rattle.chk_world.proofs.Each.{Each}
use Rattle.chk_record_index.specs.Feeding.{AreChunks}
use Rattle.chk_record_index.specs.Pieces.{bytes_in}
use Rattle.chk_book.specs.Folders.{segment_name}
use Rattle.chk_book.specs.Views.{segment_view}
use Rattle.chk_book.specs.declared.lists.Segment.{Segment as SegmentStruct}
use Rattle.chk_ctl_cat.specs.declared.course.Course.{Course}
use Rattle.chk_ctl_cat.specs.declared.fault.LookFault.{LookFault}
use Rattle.chk_ctl_cat.specs.declared.fault.LookFault.TheVariants.{Outside, Damaged, Gone, NoMemory}
use Rattle.chk_ctl_cat.specs.Courses.{KeepsCourse, GoesOver, wanted_by}
use Rattle.chk_ctl_cat.specs.Looking.{AreOrWent, Sees}
use Rattle.chk_ctl_cat.specs.Segments.{IsFrontText, IsWholeText, IsWrongAt, Printed}
use Rattle.chk_ctl_cat.specs.Archives.{names_of, chunks_held, AreHeld, IsWholeArchive, IsFrontArchive, PrintedAll}
use Rattle.chk_ctl_cat.proofs.CourseLemmas.{over_then, wanted_then}
use Rattle.chk_ctl_cat.proofs.Texts.{sees_then, sees_as}

abbrev pub CameOver : ℕ → List (List ℕ) → Course → Course → List (List ℕ) → Files → List ℕ → History → Type 0
CameOver most names c d front held text history =
    AreOrWent held history × (AreHeld names held → IsWholeArchive most c d.reached front held text)

each_here : (P : List ℕ → Type 0) (xs : List (List ℕ)) (y : List ℕ) (ys : List (List ℕ)) → Each P (xs ++ y ∷ ys) → P y
each_here P [] y ys h = h.0
each_here P (x ∷ xs) y ys h = each_here P xs y ys h.1

each_more : (P : List ℕ → Type 0) (xs : List (List ℕ)) (y : List ℕ) → Each P xs → P y → Each P (xs ++ y ∷ [])
each_more P [] y h one = (one, tt)
each_more P (x ∷ xs) y h one = (h.0, each_more P xs y h.1 one)

held_more : (most : ℕ) (held : Files) (front : List (List ℕ)) (w : List ℕ)
    → chunks_held most held (front ++ w ∷ []) ≡ chunks_held most held front ++ chunks_within most (bytes_in (held w))
held_more most held [] w = append-nil (chunks_within most (bytes_in (held w)))
held_more most held (x ∷ front) w =
    ap (λ ks. chunks_within most (bytes_in (held x)) ++ ks) (held_more most held front w)
    ∙ sym (append_assoc (chunks_within most (bytes_in (held x))) (chunks_held most held front) (chunks_within most (bytes_in (held w))))

pub none_over : (now : Option History) (most : ℕ) (names : List (List ℕ)) (c : Course) → Adds now now (Sees (CameOver most names c c []))
none_over now most names c =
    adds_none now (Sees (CameOver most names c c []))
    (λ history. record { sees = λ held s h. (h, λ all. record { sound = tt; over = refl; printed = refl }); own = tt })

-- no text is that of no bytes
pub no_text : (most : ℕ) (c : Course) (bytes : List ℕ) → IsFrontText most c c.reached bytes []
no_text most c bytes = record {
  front = [];
  begins = (bytes, refl);
  chunks = subst (AreChunks most) (sym records_of-nil) refl;
  over = subst (λ b. GoesOver c b c.reached) (sym none) refl;
  printed = ap (wanted_by c) (sym none);
}
  where
    none : chunks_within most [] ≡ []
    none = ap (filter_map (chunk_of most)) records_of-nil

pub unnamed : (now : Option History) (most : ℕ) (name : List ℕ) (c : Course) → Adds now now (Sees (Printed most name c c (Err NoMemory)))
unnamed now most name c =
    adds_none now (Sees (Printed most name c c (Err NoMemory)))
    (λ history. record { sees = λ held s h f is. (c.reached, no_text most c f.bytes); own = tt })

module _ (most : ℕ) (names : List (List ℕ)) (c d : Course) (front : List (List ℕ)) (w : List ℕ) (back : List (List ℕ))
    (split : names ≡ front ++ w ∷ back) (keeps : KeepsCourse c d) where
  one_held : (held : Files) → AreHeld names held → (f : File) × (held w ≡ Some f) × (length f.bytes < 2 ^ 63)
  one_held held all =
      let P : List ℕ → Type 0 = λ v. (f : File) × (held v ≡ Some f) × (length f.bytes < 2 ^ 63) in
      each_here P front w back (subst (Each P) split all)

  bytes_held : (held : Files) (f : File) → held w ≡ Some f → bytes_in (held w) ≡ f.bytes
  bytes_held held f is = ap bytes_in is

  -- one segment more
  pub over_more : (e : Course) {old mid new : Option History} → Adds old mid (Sees (CameOver most names c d front))
      → Adds mid new (Sees (Printed most w d e (Ok tt))) → Adds old new (Sees (CameOver most names c e (front ++ w ∷ [])))
  over_more e so_far told =
      sees_then (CameOver most names c e (front ++ w ∷ [])) (λ held t h a. a.0)
      (λ held t u m h a b. (
        b.0,
        λ all.
            let one = one_held held all in
            whole held t u (a.1 all)
            (subst (λ bytes. IsWholeText most d e.reached bytes u) (sym (bytes_held held one.0 one.1)) (b.1 one.0 one.1 one.2)),
      ))
      so_far told
    where
      whole : (held : Files) (t u : List ℕ) → IsWholeArchive most c d.reached front held t
          → IsWholeText most d e.reached (bytes_in (held w)) u → IsWholeArchive most c e.reached (front ++ w ∷ []) held (t ++ u)
      whole held t u a b = record {
        sound = each_more (λ v. AllChunks most (bytes_in (held v))) front w a.sound b.chunks;
        over = subst (λ ks. GoesOver c ks e.reached) (sym (held_more most held front w))
            (over_then c d keeps e.reached (chunks_held most held front) (chunks_within most (bytes_in (held w))) a.over b.over);
        printed = ap₂ (λ x y. x ++ y) a.printed b.printed
            ∙ sym (ap (wanted_by c) (held_more most held front w)
            ∙ wanted_then c d keeps (chunks_held most held front) (chunks_within most (bytes_in (held w))));
      }

  front_more : (to : ℕ) (held : Files) (t u : List ℕ) → IsWholeArchive most c d.reached front held t
      → IsFrontText most d to (bytes_in (held w)) u → IsFrontArchive most c to names held (t ++ u)
  front_more to held t u a b = record {
    front = front;
    back = w ∷ back;
    split = split;
    bytes = b.front;
    begin = b.begins;
    sound = a.sound;
    chunks = b.chunks;
    over = over_then c d keeps to (chunks_held most held front) (chunks_within most b.front) a.over b.over;
    printed = ap₂ (λ x y. x ++ y) a.printed b.printed
        ∙ sym (wanted_then c d keeps (chunks_held most held front) (chunks_within most b.front));
  }

  -- a segment that ends the work
  pub over_failed : (e : Course) (fault : LookFault) {old mid new : Option History} → Adds old mid (Sees (CameOver most names c d front))
      → Adds mid new (Sees (Printed most w d e (Err fault))) → Adds old new (Sees (PrintedAll most names c e (Err fault)))
  over_failed e fault so_far told =
      sees_then (PrintedAll most names c e (Err fault)) (λ held t h a. a.0)
      (λ held t u m h a b. by fault held t u h a.1 b)
      so_far told
    where
      by : (fault : LookFault) (held : Files) (t u : List ℕ) (history : History)
          → (AreHeld names held → IsWholeArchive most c d.reached front held t)
          → Printed most w d e (Err fault) held u history → PrintedAll most names c e (Err fault) held (t ++ u) history
      by (Outside call) held t u history a b = λ all.
          let one = one_held held all in
          let p = b one.0 one.1 in
          (p.0, front_more p.0 held t u (a all) (subst (λ bytes. IsFrontText most d p.0 bytes u) (sym (bytes_held held one.0 one.1)) p.1))
      by NoMemory held t u history a b = λ all.
          let one = one_held held all in
          let p = b one.0 one.1 in
          (p.0, front_more p.0 held t u (a all) (subst (λ bytes. IsFrontText most d p.0 bytes u) (sym (bytes_held held one.0 one.1)) p.1))
      by (Gone which) held t u history a b = (
        b.0,
        record {
          front = front;
          back = back;
          split = split ∙ ap (λ v. front ++ v ∷ back) (sym b.1);
          lost = subst (λ v. files_after history v ≡ None) (sym b.1) b.2;
        },
        λ all.
            let one = one_held held all in
            front_more e.reached held t u (a all)
            (subst (λ bytes. IsFrontText most d e.reached bytes u) (sym (bytes_held held one.0 one.1)) (b.3 one.0 one.1)),
      )
      by (Damaged which at) held t u history a b = λ all.
          let one = one_held held all in
          let p = b.1 one.0 one.1 one.2 in
          let same : held w ≡ held which = ap held (sym b.0) in (
            record {
              front = front;
              back = back;
              split = split ∙ ap (λ v. front ++ v ∷ back) (sym b.0);
              there = d;
              keeps = keeps;
              sound = (a all).sound;
              over = (a all).over;
              wrong = subst (λ o. IsWrongAt most d (bytes_in o) at) same
                  (subst (λ bytes. IsWrongAt most d bytes at) (sym (bytes_held held one.0 one.1)) p.0);
            },
            front_more e.reached held t u (a all)
                (subst (λ bytes. IsFrontText most d e.reached bytes u) (sym (bytes_held held one.0 one.1)) p.1),
          )

-- all of them
pub all_over : (most : ℕ) (names : List (List ℕ)) (c d : Course) (front : List (List ℕ)) {old new : Option History} → front ≡ names
    → Adds old new (Sees (CameOver most names c d front)) → Adds old new (Sees (PrintedAll most names c d (Ok tt)))
all_over most names c d front all told =
    sees_as (PrintedAll most names c d (Ok tt))
    (λ held t h x. (x.0, λ k. subst (λ l. IsWholeArchive most c d.reached l held t) all (x.1 k))) told

-- ---- the names

abbrev pub names_in : List ℕ → List SegmentStruct → List (List ℕ)
names_in folder gs = names_of folder (map segment_view gs)

names_then : (folder : List ℕ) (gs hs : List SegmentStruct) → names_in folder (gs ++ hs) ≡ names_in folder gs ++ names_in folder hs
names_then folder [] hs = refl
names_then folder (g ∷ gs) hs = ap (λ ws. segment_name folder g.number ∷ ws) (names_then folder gs hs)

module _ (folder : List ℕ) (gs : List SegmentStruct) (i : ℕ) (g : SegmentStruct) (within : i < length gs) (is : slice_index_or gs i g ≡ g) where
  pub names_split : names_in folder gs ≡ names_in folder (take i gs) ++ segment_name folder g.number ∷ names_in folder (drop (i + 1) gs)
  names_split =
      ap (names_in folder)
      (sym (take-append-drop i gs)
      ∙ ap (λ hs. take i gs ++ hs) (drop_more gs i g within ∙ ap (λ h. h ∷ drop (i + 1) gs) is))
      ∙ names_then folder (take i gs) (g ∷ drop (i + 1) gs)

  pub names_more : names_in folder (take (i + 1) gs) ≡ names_in folder (take i gs) ++ segment_name folder g.number ∷ []
  names_more =
      ap (names_in folder) (take_more gs i g within ∙ ap (λ h. take i gs ++ h ∷ []) is)
      ∙ names_then folder (take i gs) (g ∷ [])

-- ---- the loop over a book's segments

module _ (most : ℕ) (folder : List ℕ) (gs : List SegmentStruct) (c d : Course) (i : ℕ) (within : i < length gs) (keeps : KeepsCourse c d)
    (none : SegmentStruct) where
  abbrev here : SegmentStruct
  here = slice_index_or gs i none

  is_here : slice_index_or gs i here ≡ here
  is_here = get_or_default gs i here none within

  pub next_over : (e : Course) {old mid new : Option History}
      → Adds old mid (Sees (CameOver most (names_in folder gs) c d (names_in folder (take i gs))))
      → Adds mid new (Sees (Printed most (segment_name folder (slice_index_or gs i none).number) d e (Ok tt)))
      → Adds old new (Sees (CameOver most (names_in folder gs) c e (names_in folder (take (i + 1) gs))))
  next_over e {old = old} {new = new} so_far told =
      subst (λ (ws : List (List ℕ)). Adds old new (Sees (CameOver most (names_in folder gs) c e ws))) (sym (names_more folder gs i here within is_here))
      (over_more most (names_in folder gs) c d (names_in folder (take i gs)) (segment_name folder here.number) (names_in folder (drop (i + 1) gs))
      (names_split folder gs i here within is_here) keeps e so_far told)

  pub next_failed : (e : Course) (fault : LookFault) {old mid new : Option History}
      → Adds old mid (Sees (CameOver most (names_in folder gs) c d (names_in folder (take i gs))))
      → Adds mid new (Sees (Printed most (segment_name folder (slice_index_or gs i none).number) d e (Err fault)))
      → Adds old new (Sees (PrintedAll most (names_in folder gs) c e (Err fault)))
  next_failed e fault so_far told =
      over_failed most (names_in folder gs) c d (names_in folder (take i gs)) (segment_name folder here.number) (names_in folder (drop (i + 1) gs))
      (names_split folder gs i here within is_here) keeps e fault so_far told
