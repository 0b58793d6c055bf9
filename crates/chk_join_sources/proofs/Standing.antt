-- Copies stand behind each other in the segment, whatever becomes of the files that are read.
use Rattle.std.proofs.Common.{◌≡◌, ℕ, ◌+◌, ◌-◌, ◌<◌, ◌≤◌, Bool, true, false, List, [], ◌∷◌, ◌++◌, take, drop, length, Option, Ok, Err, Result, refl, sym, ◌∙◌, ap, subst, arith, append_assoc, get_or}
use Rattle.std.specs.Prelude.{OnOk, flat_map, codes, if◌then◌else◌}
use Rattle.std.proofs.lemmas.Grind.{flat_map-append}
use Rattle.std.proofs.lemmas.List.{append-nil, take_more, length-drop, get_or-drop}
use Rattle.chk_site.specs.Files.{File}
use Rattle.chk_site.specs.History.{History, Every, Others, files_after}
use Rattle.chk_site.specs.Site.{Adds}
use Rattle.chk_site.specs.Runs.{anyhow, Leads}
use Rattle.chk_site.proofs.Runs.{adds_as}
use Rattle.chk_site.proofs.Leads.{leads_as, leads_then, owned_anyhow}
use Rattle.chk_replace.specs.Load.{Has}
use Rattle.chk_chunk.specs.Keys.{Chunk, chunk_begin}
use Rattle.chk_world.specs.Committed.{HasFile}
use Rattle.chk_world.specs.Books.{Book}
use Rattle.chk_world.specs.JobSteps.{SparesFile}
use Rattle.chk_record_index.specs.Heads.{Head}
use Rattle.chk_record_index.specs.Order.{no_head}
use Rattle.chk_record_index.specs.declared.fault.JobFault.{JobFault}
use Rattle.chk_book.specs.declared.segmenter.Segmenter.{Segmenter}
use Rattle.chk_book.specs.Folders.{segment_name, most_in}
use Rattle.chk_book.specs.Segmenting.{Writing, HoldsSegment, all_bytes, IsSegmentOf, begun, segment_of, with_segment}
use Rattle.chk_book.specs.Written.{IsAt, taken, HasTaken, HasEnded}
use Rattle.chk_record_reader.specs.Spans.{StaysAtOk}
use Rattle.chk_record_reader.specs.Merging.{bare_book, merged_result}
use Rattle.chk_record_reader.proofs.AllRead.{adds_all}
use Rattle.chk_join_sources.specs.declared.gathering.Side.{Side}
use Rattle.chk_join_sources.specs.Blocks.{head_in}
use Rattle.chk_join_sources.specs.declared.plan.Choice.{Choice}
use Rattle.chk_join_sources.specs.Copying.{joined_segment, IsChosenSegment}
use Rattle.chk_join_sources.specs.Standing.{IsCopyOf, AreCopies, StandsSo, HasStood, heads_between, chosen_heads, WroteCopies}
use Rattle.chk_join_sources.proofs.CopySteps.{segment_is}

-- ---- copies

pub copies_join : (front more : List Head) (xs ys : List Chunk) → AreCopies front xs → AreCopies more ys
    → AreCopies (front ++ more) (xs ++ ys)
copies_join [] more [] ys a b = b
copies_join [] more (x ∷ xs) ys a b = absurd a
copies_join (h ∷ front) more [] ys a b = absurd a
copies_join (h ∷ front) more (x ∷ xs) ys a b = (a.0, copies_join front more xs ys a.1 b)

-- ---- the segment stands

-- nothing is said of a refusal
pub stood_fails : (segment : List ℕ) (chunks : List Chunk) (heads : List Head) (s : Segmenter) (fault : JobFault)
    {A : History → Type 0} {P : History → History → Type 0} {old new : Option History} → Adds old new P
    → Adds old new (Leads (anyhow (SparesFile segment)) A (HasStood chunks heads s (Err fault)))
stood_fails segment chunks heads s fault {A = A} told =
    adds_as (Leads (anyhow (SparesFile segment)) A (HasStood chunks heads s (Err fault))) told
    (λ added history p. record { leads = λ others had. tt; own = owned_anyhow added history })

-- calls that leave the segment's file
pub stood_still : (s : Segmenter) (chunks : List Chunk) {P : History → History → Type 0} {old new : Option History}
    → Adds old new P
    → ((other : List ℕ) (file : Option File) → Adds old new (Leads (anyhow (SparesFile other)) (Has other file)
    (StaysAtOk {T = Unit {0}} {E = JobFault} other file (Ok tt))))
    → Adds old new (Leads (anyhow (SparesFile (joined_segment s.number))) (StandsSo chunks s) (StandsSo chunks s))
stood_still s chunks told stays =
    adds_all (Leads (anyhow (SparesFile (joined_segment s.number))) (StandsSo chunks s) (StandsSo chunks s)) told
    (λ (x : List ℕ × Option File). stays x.0 x.1)
    (λ added history p ys. record {
      leads = λ others had.
          let w = segment_name had.w.folder had.w.number in
          let is : w ≡ joined_segment s.number = segment_is s had.w had.at had.folder in
          let same : files_after (added ++ history) w ≡ files_after history w =
          (ys (w, files_after history w)).leads
          (subst (λ v. Others (SparesFile v) added history) (sym is) others) refl in
          record {
            w = had.w;
            at = had.at;
            folder = had.folder;
            chunks_are = had.chunks_are;
            holds = subst (λ o. HasFile o (λ f. f.bytes ≡ had.w.held)) (sym same) had.holds;
          };
      own = owned_anyhow added history;
    })

-- a chunk is put behind the others
module _ (s t : Segmenter) (chunks : List Chunk) (h : Head) (c : Chunk) where
  put : (result : Result (Unit {0}) JobFault) → OnOk result (IsCopyOf h c)
      → ((w : Writing) → IsAt s w → OnOk result (IsAt t (taken s w c))) → (g : History)
      → (had : StandsSo chunks s g) → (now : History) → HasTaken s had.w c result now
      → HasStood chunks (h ∷ []) t result now
  put (Ok value) copy at g had now held = (
    c ∷ [],
    (copy, tt),
    record {
      w = taken s had.w c;
      at = at had.w had.at;
      folder = had.folder;
      chunks_are = ap (λ l. l ++ c ∷ []) had.chunks_are;
      holds = held;
    },
  )
  put (Err fault) copy at g had now held = tt

  pub put_stands : (result : Result (Unit {0}) JobFault) {P : History → History → Type 0} {old new : Option History}
      → OnOk result (IsCopyOf h c) → ((w : Writing) → IsAt s w → OnOk result (IsAt t (taken s w c)))
      → Adds old new P
      → ((w : Writing) → IsAt s w → Adds old new (Leads (anyhow (SparesFile (segment_name w.folder w.number)))
      (HoldsSegment w) (HasTaken s w c result)))
      → Adds old new (Leads (anyhow (SparesFile (joined_segment s.number))) (StandsSo chunks s)
      (HasStood chunks (h ∷ []) t result))
  put_stands result copy at told raw =
      adds_all (Leads (anyhow (SparesFile (joined_segment s.number))) (StandsSo chunks s)
      (HasStood chunks (h ∷ []) t result)) told
      (λ (x : (w : Writing) × IsAt s w). raw x.0 x.1)
      (λ added history p ys. record {
        leads = λ others had.
            put result copy at history had (added ++ history)
            ((ys (had.w, had.at)).leads
            (subst (λ v. Others (SparesFile v) added history) (sym (segment_is s had.w had.at had.folder)) others)
            had.holds);
        own = owned_anyhow added history;
      })

-- some copies more
pub stood_more : (segment : List ℕ) (s t : Segmenter) (chunks : List Chunk) (front more : List Head)
    (result : Result (Unit {0}) JobFault) {A : History → Type 0} {P : History → History → Type 0}
    {old mid new : Option History}
    → Adds old mid (Leads (anyhow (SparesFile segment)) A (HasStood chunks front s (Ok tt))) → Adds mid new P
    → ((cs : List Chunk) → Adds mid new (Leads (anyhow (SparesFile segment)) (StandsSo cs s) (HasStood cs more t result)))
    → Adds old new (Leads (anyhow (SparesFile segment)) A (HasStood chunks (front ++ more) t result))
stood_more segment s t chunks front more result so_far told each =
    leads_then so_far
    (adds_all (Leads (anyhow (SparesFile segment)) (HasStood chunks front s (Ok tt))
    (HasStood chunks (front ++ more) t result)) told each
    (λ added history p q. record {
      leads = λ others had.
          join had.0 had.1 result (added ++ history) ((q (chunks ++ had.0)).leads others had.2);
      own = owned_anyhow added history;
    }))
  where
    join : (n : List Chunk) → AreCopies front n → (result : Result (Unit {0}) JobFault) (g : History)
        → HasStood (chunks ++ n) more t result g → HasStood chunks (front ++ more) t result g
    join n copies (Ok value) g x = (
      n ++ x.0,
      copies_join front more n x.0 copies x.1,
      subst (λ cs. StandsSo cs t g) (append_assoc chunks n x.0) x.2,
    )
    join n copies (Err fault) g x = tt

-- nothing is copied yet
pub none_stood : (chunks : List Chunk) (heads : List Head) (s : Segmenter) (g : History) → heads ≡ []
    → StandsSo chunks s g → HasStood chunks heads s (Ok tt) g
none_stood chunks heads s g none had =
    ([], subst (λ hs. AreCopies hs []) (sym none) tt, subst (λ cs. StandsSo cs s g) (sym (append-nil chunks)) had)

-- by the number of the segment
pub stands_number : (m n : ℕ) → m ≡ n → {A B : History → Type 0} {old new : Option History}
    → Adds old new (Leads (anyhow (SparesFile (joined_segment m))) A B)
    → Adds old new (Leads (anyhow (SparesFile (joined_segment n))) A B)
stands_number m n is {A = A} {B = B} {old = old} {new = new} told =
    subst (λ k. Adds old new (Leads (anyhow (SparesFile (joined_segment k))) A B)) is told

-- ---- the heads that are gone through

pub no_heads : (side : Side) (first : ℕ) → heads_between side first first ≡ []
no_heads side first =
    ap (λ (n : ℕ). take n (drop first side.heads.now)) (let z : first - first ≡ 0 = omega arith in z)

pub heads_more : (side : Side) (first index : ℕ) → first ≤ index → index < length side.heads.now
    → heads_between side first index ++ head_in side.heads.now index ∷ [] ≡ heads_between side first (index + 1)
heads_more side first index low high =
    let hs = side.heads.now in
    let n : ℕ = index - first in
    let size = length-drop first hs in
    let less : n < length (drop first hs) = omega (arith, size, low, high) in
    sym (ap (λ (m : ℕ). take m (drop first hs)) (let z : index + 1 - first ≡ n + 1 = omega (arith, low) in z)
    ∙ (take_more (drop first hs) n no_head less
    ∙ ap (λ (h : Head). take n (drop first hs) ++ h ∷ [])
    (get_or-drop first hs n no_head
    ∙ ap (λ (i : ℕ). get_or hs i no_head) (let z : first + n ≡ index = omega (arith, low) in z))))

pub chosen_more : (f : Choice → List Head) (xs : List Choice) (i : ℕ) (d : Choice) → i < length xs
    → flat_map f (take i xs) ++ f (get_or xs i d) ≡ flat_map f (take (i + 1) xs)
chosen_more f xs i d low =
    ap (λ l. flat_map f (take i xs) ++ l) (sym (append-nil (f (get_or xs i d))))
    ∙ (sym (flat_map-append f (take i xs) (get_or xs i d ∷ [])) ∙ ap (flat_map f) (sym (take_more xs i d low)))

pub heads_right : (l r : Side) (c : Choice) → c.from_right ≡ true
    → heads_between r c.block.first c.block.end ≡ chosen_heads l r c
heads_right l r c is =
    ap (λ (t : Bool). if t then heads_between r c.block.first c.block.end
    else heads_between l c.block.first c.block.end) (sym is)

pub heads_left : (l r : Side) (c : Choice) → c.from_right ≡ false
    → heads_between l c.block.first c.block.end ≡ chosen_heads l r c
heads_left l r c is =
    ap (λ (t : Bool). if t then heads_between r c.block.first c.block.end
    else heads_between l c.block.first c.block.end) (sym is)

-- ---- from the header to the end

pub stands_begun : (next : ℕ) (s : Segmenter) → IsAt s (begun (codes "joined") next) → {old new : Option History}
    → Adds old new (Leads (anyhow (SparesFile (joined_segment next))) (λ h. Unit {0})
    (HoldsSegment (begun (codes "joined") next)))
    → Adds old new (Leads (anyhow (SparesFile (joined_segment next))) (λ h. Unit {0}) (HasStood [] [] s (Ok tt)))
stands_begun next s at told =
    leads_as (λ h x. x)
    (λ h x. (
      [],
      tt,
      record {
        w = begun (codes "joined") next;
        at = at;
        folder = refl;
        chunks_are = refl;
        holds = x;
      },
    )) told

pub copies_fail : (next : ℕ) (heads : List Head) (fault : JobFault) {A : History → Type 0}
    {P : History → History → Type 0} {old new : Option History} → Adds old new P
    → Adds old new (Leads (anyhow (SparesFile (joined_segment next))) A (WroteCopies next heads (Err fault)))
copies_fail next heads fault {A = A} told =
    adds_as (Leads (anyhow (SparesFile (joined_segment next))) A (WroteCopies next heads (Err fault))) told
    (λ added history p. record { leads = λ others had. tt; own = owned_anyhow added history })

module _ (next : ℕ) (s : Segmenter) (heads : List Head) (old_book b : Book) (number : s.number ≡ next)
    (bare : old_book ≡ bare_book next) where
  ended : (result : Result (Unit {0}) JobFault) (n : List Chunk) → AreCopies heads n → (g : History)
      → (had : StandsSo ([] ++ n) s g) → (now : History) → HasEnded had.w old_book b result now
      → WroteCopies next heads (merged_result b result) now
  ended (Ok value) n copies g had now x =
      let w = had.w in (
        n,
        copies,
        (
          w,
          record {
            folder_is = had.folder;
            number_is = sym had.at.number ∙ number;
            chunks_are = had.chunks_are;
            form = subst (λ (v : List ℕ). IsSegmentOf (most_in v) (all_bytes w) w.chunks) had.folder had.at.sound;
            finished = x.0;
            book_is = x.1 ∙ ap (λ (o : Book). with_segment o (segment_of w) w.chunks) bare;
          },
        ),
      )
  ended (Err fault) n copies g had now x = tt

  pub stands_ended : (result : Result (Unit {0}) JobFault) {A : History → Type 0} {P : History → History → Type 0}
      {old mid new : Option History}
      → Adds old mid (Leads (anyhow (SparesFile (joined_segment next))) A (HasStood [] heads s (Ok tt)))
      → Adds mid new P
      → ((w : Writing) → IsAt s w → Adds mid new (Leads (anyhow (SparesFile (segment_name w.folder w.number)))
      (HoldsSegment w) (HasEnded w old_book b result)))
      → Adds old new (Leads (anyhow (SparesFile (joined_segment next))) A (WroteCopies next heads (merged_result b result)))
  stands_ended result so_far told raw =
      leads_then so_far
      (adds_all (Leads (anyhow (SparesFile (joined_segment next))) (HasStood [] heads s (Ok tt))
      (WroteCopies next heads (merged_result b result))) told
      (λ (x : (w : Writing) × IsAt s w). raw x.0 x.1)
      (λ added history p ys. record {
        leads = λ others had.
            ended result had.0 had.1 history had.2 (added ++ history)
            ((ys (had.2.w, had.2.at)).leads
            (subst (λ v. Others (SparesFile v) added history)
            (sym (segment_is s had.2.w had.2.at had.2.folder ∙ ap joined_segment number)) others) had.2.holds);
        own = owned_anyhow added history;
      }))

-- ---- what is copied is a copy

pub on_ok : {T E X : Type 0} (result : Result T E) → X → OnOk result X
on_ok (Ok value) x = x
on_ok (Err fault) x = tt

pub is_copy : (h : Head) (c : Chunk) (n : ℕ) (result : Result (Unit {0}) JobFault) → c.key ≡ h.key → n ≡ h.begin
    → OnOk result (chunk_begin c ≡ n) → OnOk result (IsCopyOf h c)
is_copy h c n (Ok value) key begin copy = record { key = key; begin = copy ∙ begin }
is_copy h c n (Err fault) key begin copy = tt
