-- What the calls on a segment under writing lead to, and why they are refused.
use Rattle.std.proofs.Common.{◌≡◌, ℕ, ◌+◌, ◌-◌, ◌≤◌, ◌^◌, Bool, true, false, if◌then◌else◌, List, [], ◌∷◌, ◌++◌, length, map, append-nil, append_assoc, length-append, Option, Ok, Err, Result, refl, sym, ◌∙◌, ap, subst, arith}
use Rattle.std.specs.Prelude.{IsTrue, OnOk, OnErr}
use Rattle.chk_site.specs.declared.acts.Who.{Who}
use Rattle.chk_site.specs.declared.acts.OutsideFault.{OutsideFault}
use Rattle.chk_site.specs.declared.acts.OutsideFault.TheVariants.{Outside, NoMemory as no_memory}
use Rattle.chk_site.specs.History.{History, Step, Every}
use Rattle.chk_site.specs.Site.{Adds, LastFailed, OutsideCause}
use Rattle.chk_site.specs.Runs.{anyhow, Leads, MadeInTurn}
use Rattle.chk_site.proofs.Runs.{adds_as}
use Rattle.chk_site.proofs.Leads.{owned_anyhow}
use Rattle.chk_chunk.specs.Keys.{Chunk, is_key, has_value, written_key}
use Rattle.chk_seqfile.specs.Headers.{header, marker_of}
use Rattle.chk_seqfile.specs.Entries.{piece_at}
use Rattle.chk_seqfile.proofs.HeaderLemmas.{length-header, length-marker_of}
use Rattle.chk_seqfile.specs.declared.writer.SeqWriter.{SeqWriter}
use Rattle.chk_world.specs.Sight.{job}
use Rattle.chk_world.specs.Books.{Book, End, Segment}
use Rattle.chk_world.specs.JobSteps.{IsOf, WritesTo, SparesFile}
use Rattle.chk_record_index.specs.declared.fault.JobFault.{JobFault}
use Rattle.chk_record_index.specs.Faults.{job_fault, FailsLast, JobCause, IsOfBegin}
use Rattle.chk_book.specs.declared.segmenter.Segmenter.{Segmenter}
use Rattle.chk_book.specs.Causes.{SpentBook}
use Rattle.chk_book.specs.Folders.{segment_name, segment_stem, most_in}
use Rattle.chk_book.specs.Views.{end_view}
use Rattle.chk_book.specs.Storing.{appending, ending}
use Rattle.chk_book.specs.Segmenting.{Writing, all_bytes, appended, grown, begun, HoldsSegment, IsFinished, entered, with_segment, segment_of, raised, raised_end, raised_by, raised_all, end_of}
use Rattle.chk_book.specs.Written.{IsAt, next_piece, is_full, taken}
use Rattle.chk_book.proofs.SegmentForms.{Marked, at_bytes, most_bound, header_form, piece_form}
use Rattle.chk_book.proofs.Storing.{goes_on, goes_on_own, ends, ends_own}

-- where no more is said than that a call was made
pub unsaid : {S : History → Step → Type 0} {A B : History → Type 0} {P : History → History → Type 0} {old new : Option History}
    → ((h : History) → B h) → Adds old new P → Adds old new (Leads (anyhow S) A B)
unsaid {S = S} {A = A} {B = B} so told =
    adds_as (Leads (anyhow S) A B) told (λ added history x. record { leads = λ s h. so (added ++ history); own = owned_anyhow added history })

-- the call that failed is the last one
pub failed_last : (T : Type 0) (fault : OutsideFault) {old new : Option History} → Adds old new (LastFailed {T = Unit {0}} (Err fault))
    → Adds old new (FailsLast {T = T} (Err (job_fault fault)))
failed_last T (Outside call) told = adds_as (FailsLast {T = T} (Err (job_fault (Outside call)))) told (λ added history x. x)
failed_last T no_memory told = adds_as (FailsLast {T = T} (Err (job_fault no_memory))) told (λ added history x. tt)

pub failed_cause : (T V : Type 0) (fault : OutsideFault) (before now : ℕ)
    → OutsideCause {T = V} before now (Err fault) → JobCause {T = T} before now (Err (job_fault fault))
failed_cause T V (Outside call) before now is = is
failed_cause T V no_memory before now is = is

pub failed_begin : (fault : OutsideFault) → IsOfBegin (job_fault fault)
failed_begin (Outside call) = tt
failed_begin no_memory = tt

pub failed_spent : (T : Type 0) (b : Book) (fault : OutsideFault) → (b.next ≡ 2 ^ 63 - 1 → ⊥)
    → SpentBook {T = T} b (Err (job_fault fault))
failed_spent T b (Outside call) other = other
failed_spent T b no_memory other = tt

-- the aside segment stays
pub aside_stays : (old new : Book) (result : Result (Unit {0}) JobFault) → OnErr result (new ≡ old)
    → OnOk result (new.aside ≡ old.aside) → new.aside ≡ old.aside
aside_stays old new (Ok value) same kept = kept
aside_stays old new (Err fault) same kept = ap (λ (b : Book). b.aside) same

-- the name of the segment's file
named : (s : Segmenter) (w : Writing) → IsAt s w → segment_name s.folder s.number ≡ segment_name w.folder w.number
named s w at = ap (λ folder. segment_name folder s.number) at.folder ∙ ap (segment_name w.folder) at.number

pub buffer_held : (s : Segmenter) (w : Writing) → IsAt s w → {old new : Option History}
    → MadeInTurn (appending s.who (segment_name s.folder s.number) s.buffer) (Ok tt) old new
    → Adds old new (Leads (anyhow (SparesFile (segment_name w.folder w.number))) (HoldsSegment w) (HoldsSegment (appended w)))
buffer_held s w at {old = old} {new = new} script =
    goes_on s.who (segment_name w.folder w.number) w.held w.left
    (subst (λ (bytes : List ℕ). MadeInTurn (appending s.who (segment_name w.folder w.number) bytes) (Ok tt) old new) at.buffer
    (subst (λ (name : List ℕ). MadeInTurn (appending s.who name s.buffer) (Ok tt) old new) (named s w at) script))

pub buffer_own : (s : Segmenter) (w : Writing) → IsAt s w → {who : Who} → s.who ≡ who → who ≡ job → {result : Result (Unit {0}) OutsideFault} {old new : Option History}
    → MadeInTurn (appending s.who (segment_name s.folder s.number) s.buffer) result old new
    → Adds old new (Every (IsOf (WritesTo (segment_name w.folder w.number))))
buffer_own s w at same is {result = result} {old = old} {new = new} script =
    goes_on_own s.who (segment_name w.folder w.number) s.buffer (same ∙ is)
    (subst (λ (name : List ℕ). MadeInTurn (appending s.who name s.buffer) result old new) (named s w at) script)

pub rest_held : (s : Segmenter) (w : Writing) → IsAt s w → {old new : Option History}
    → MadeInTurn (ending s.who (segment_name s.folder s.number) s.buffer) (Ok tt) old new
    → Adds old new (Leads (anyhow (SparesFile (segment_name w.folder w.number))) (HoldsSegment w) (IsFinished w))
rest_held s w at {old = old} {new = new} script =
    ends s.who (segment_name w.folder w.number) w.held w.left
    (subst (λ (bytes : List ℕ). MadeInTurn (ending s.who (segment_name w.folder w.number) bytes) (Ok tt) old new) at.buffer
    (subst (λ (name : List ℕ). MadeInTurn (ending s.who name s.buffer) (Ok tt) old new) (named s w at) script))

pub rest_own : (s : Segmenter) (w : Writing) → IsAt s w → s.who ≡ job → {result : Result (Unit {0}) OutsideFault} {old new : Option History}
    → MadeInTurn (ending s.who (segment_name s.folder s.number) s.buffer) result old new
    → Adds old new (Every (IsOf (WritesTo (segment_name w.folder w.number))))
rest_own s w at is {result = result} {old = old} {new = new} script =
    ends_own s.who (segment_name w.folder w.number) s.buffer is
    (subst (λ (name : List ℕ). MadeInTurn (ending s.who name s.buffer) result old new) (named s w at) script)

-- the ends with one chunk more
raised_all-behind : (cs : List Chunk) (c : Chunk) (es : List End) → raised_all (cs ++ c ∷ []) es ≡ raised c (raised_all cs es)
raised_all-behind [] c es = refl
raised_all-behind (d ∷ cs) c es = raised_all-behind cs c (raised d es)

-- the segment is at this, by the parts of the struct
pub is_at : (s : Segmenter) (w : Writing) → s.folder ≡ w.folder → s.number ≡ w.number → s.buffer ≡ w.left
    → Marked (most_in w.folder) (marker_of (segment_stem w.number)) (all_bytes w) w.chunks
    → s.writer.place ≡ length (all_bytes w) → s.writer.marker ≡ marker_of (segment_stem w.number)
    → ((es : List End) → raised_by (map end_view s.ends) es ≡ raised_all w.chunks es) → IsAt s w
is_at s w folder number buffer form place marker ends = record {
  folder = folder;
  number = number;
  buffer = buffer;
  sound = form.0;
  place = place;
  marker = marker;
  file_marker = form.1 ∙ sym marker;
  ends = ends;
}

-- the form of what is at this
form_of : (s : Segmenter) (w : Writing) → IsAt s w → Marked (most_in w.folder) (marker_of (segment_stem w.number)) (all_bytes w) w.chunks
form_of s w at = (at.sound, at.file_marker ∙ at.marker)

pub begun_size : (folder : List ℕ) (number : ℕ) → 96 ≡ length (all_bytes (begun folder number))
begun_size folder number =
    let m = marker_of (segment_stem number) in
    sym (ap length (append-nil (header m)) ∙ length-header m (length-marker_of (segment_stem number)))

pub begun_form : (folder : List ℕ) (number : ℕ)
    → Marked (most_in folder) (marker_of (segment_stem number)) (all_bytes (begun folder number)) []
begun_form folder number =
    at_bytes (most_in folder) (marker_of (segment_stem number)) [] (sym (append-nil (header (marker_of (segment_stem number)))))
    (header_form (most_in folder) (segment_stem number))

-- all that was in the buffer is appended
pub flushed : (s t : Segmenter) (w : Writing) → IsAt s w → t.folder ≡ s.folder → t.number ≡ s.number → t.buffer ≡ []
    → t.writer ≡ s.writer → t.ends ≡ s.ends → IsAt t (appended w)
flushed s t w at folder number buffer writer ends =
    let all = sym (append-nil (all_bytes w)) in
    is_at t (appended w) (folder ∙ at.folder) (number ∙ at.number) buffer
    (at_bytes (most_in w.folder) (marker_of (segment_stem w.number)) w.chunks all (form_of s w at))
    (ap (λ (x : SeqWriter). x.place) writer ∙ (at.place ∙ ap length all))
    (ap (λ (x : SeqWriter). x.marker) writer ∙ at.marker)
    (λ es. ap (λ x. raised_by (map end_view x) es) ends ∙ at.ends es)

-- the segment with the chunk, by what was done with the buffer
pub taken_short : (s : Segmenter) (w : Writing) (c : Chunk) → is_full (w.left ++ next_piece s c) ≡ false → grown w c (next_piece s c) ≡ taken s w c
taken_short s w c short =
    let left = w.left ++ next_piece s c in
    sym (ap (λ (b : Bool). record {
      folder = w.folder;
      number = w.number;
      chunks = w.chunks ++ c ∷ [];
      held = if b then w.held ++ left else w.held;
      left = if b then [] else left;
    }) short)

pub taken_full : (s : Segmenter) (w : Writing) (c : Chunk) → is_full (w.left ++ next_piece s c) ≡ true → appended (grown w c (next_piece s c)) ≡ taken s w c
taken_full s w c full =
    let left = w.left ++ next_piece s c in
    sym (ap (λ (b : Bool). record {
      folder = w.folder;
      number = w.number;
      chunks = w.chunks ++ c ∷ [];
      held = if b then w.held ++ left else w.held;
      left = if b then [] else left;
    }) full)

-- one chunk more stands in the buffer
pub pushed : (s t : Segmenter) (w : Writing) (c : Chunk) → IsAt s w → s.writer.place ≤ 2 ^ 62
    → IsTrue (is_key c.key) → IsTrue (has_value (most_in s.folder) c.key c.value)
    → t.folder ≡ s.folder → t.number ≡ s.number
    → t.buffer ≡ s.buffer ++ piece_at s.writer.marker s.writer.place s.writer.last_sync (written_key c.key) c.value
    → t.writer.place ≡ s.writer.place + length (piece_at s.writer.marker s.writer.place s.writer.last_sync (written_key c.key) c.value)
    → t.writer.marker ≡ s.writer.marker
    → ((es : List End) → raised_by (map end_view t.ends) es ≡ raised_end (end_of c) (raised_by (map end_view s.ends) es))
    → IsAt t (grown w c (next_piece s c))
pushed s t w c at room known valid folder number buffer place marker ends =
    is_at t (grown w c piece) (folder ∙ at.folder) (number ∙ at.number) (buffer ∙ ap (λ b. b ++ piece) at.buffer)
    (at_bytes (most_in w.folder) (marker_of (segment_stem w.number)) (w.chunks ++ c ∷ []) joined form)
    (place ∙ (ap (λ n. n + length piece) at.place ∙ (sym (length-append (all_bytes w) piece) ∙ ap length joined)))
    (marker ∙ at.marker)
    (λ es. ends es ∙ (ap (raised_end (end_of c)) (at.ends es) ∙ sym (raised_all-behind w.chunks c es)))
  where
    piece : List ℕ
    piece = piece_at s.writer.marker s.writer.place s.writer.last_sync (written_key c.key) c.value

    joined : all_bytes w ++ piece ≡ w.held ++ (w.left ++ piece)
    joined = append_assoc w.held w.left piece

    form : Marked (most_in w.folder) (marker_of (segment_stem w.number)) (all_bytes w ++ piece) (w.chunks ++ c ∷ [])
    form =
        subst (λ (n : ℕ). Marked (most_in w.folder) (marker_of (segment_stem w.number))
        (all_bytes w ++ piece_at s.writer.marker n s.writer.last_sync (written_key c.key) c.value) (w.chunks ++ c ∷ [])) (sym at.place)
        (subst (λ (m : List ℕ). Marked (most_in w.folder) (marker_of (segment_stem w.number))
        (all_bytes w ++ piece_at m (length (all_bytes w)) s.writer.last_sync (written_key c.key) c.value) (w.chunks ++ c ∷ [])) (sym at.marker)
        (piece_form (most_in w.folder) (marker_of (segment_stem w.number)) (all_bytes w) w.chunks (form_of s w at) c s.writer.last_sync
        (most_bound w.folder) (let e = at.place in omega (arith, e, room)) known
        (subst (λ (f : List ℕ). IsTrue (has_value (most_in f) c.key c.value)) at.folder valid)))

pub same_segment : (s : Segmenter) (w : Writing) (g : Segment) → IsAt s w → g.number ≡ s.number → g.length ≡ s.writer.place → g ≡ segment_of w
same_segment s w g at number size =
    let n = number ∙ at.number in
    let l = size ∙ at.place in
    λ i. record { number = n i; length = l i }

-- the book with the segment, by the parts that it is made of
pub entered_is : (s : Segmenter) (w : Writing) (b next : Book) (g : Segment) → IsAt s w → g.number ≡ s.number → g.length ≡ s.writer.place
    → next ≡ entered b g (map end_view s.ends) → next ≡ with_segment b (segment_of w) w.chunks
entered_is s w b next g at number size is =
    is ∙ (ap (λ (x : Segment). entered b x (map end_view s.ends)) (same_segment s w g at number size)
    ∙ ap (λ es. record { next = w.number + 1; segments = b.segments ++ segment_of w ∷ []; ends = es; aside = b.aside }) (at.ends b.ends))

-- from what a call that was done ensures twice
pub on_ok_two : {T E : Type 0} {P Q R : Type 0} (r : Result T E) → (P → Q → R) → OnOk r P → OnOk r Q → OnOk r R
on_ok_two (Ok value) join p q = join p q
on_ok_two (Err fault) join p q = tt
